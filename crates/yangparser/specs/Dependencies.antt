-- Dependencies: the imports and includes of a text. 10: a 257th import or include, at the cursor after its keyword. 4 to 10 come in reading order.
-- 2026-07: beside this mode there is a whole-text mode. In it the first string of a token or value that never closes, and the first skipped statement that the
-- text's end ends, is refused by 11.
-- Assumes nothing.
use Rattle.std.specs.Prelude.{ℕ, suc, ◌+◌, Bool, cond, List, [], ◌∷◌, ◌++◌, leb, ltb, length, Ok, Err, Some, None, Result, Option}
use Rattle.text.specs.Scan.{gap_end}
use Rattle.text.specs.Turns.{Turn, stop, on, turns}
use Rattle.text.specs.Words.{import_keyword, include_keyword}
use Rattle.text.specs.declared.Refusal.{Refusal}
use Rattle.text_skip.specs.Skip.{past_token}
use Rattle.text_lent.specs.Lent.{lent_at}
use Rattle.scan_rows.specs.Rows.{most_rows, import_table, include_table}
use Rattle.scan_rows.specs.declared.YangImport.{YangImport}
use Rattle.scan_rows.specs.declared.YangInclude.{YangInclude}
use Rattle.scan_imports.specs.Statement.{import_at, include_at}
use Rattle.scan_head.specs.Head.{head_at}
use Rattle.yangparser.specs.declared.Rows.{Rows}
use Rattle.yangparser.specs.declared.Sofar.{Sofar}
use Rattle.scan_head.specs.declared.Head.{Head}
use Rattle.scan_head.specs.declared.Head.TheVariants.{Import, Include, Last, Other}
use Rattle.text.specs.declared.Cursor.{Cursor}

-- the number of this layer
abbrev pub too_many : ℕ
too_many = 10

-- by so much the page is longer than the text
abbrev pub page_more : ℕ
page_more = 6944

-- ---- what a scan reads: imports and includes in order, and the bytes stored

pub record Dependencies : Type 0 where
  pub imports : List YangImport
  pub includes : List YangInclude
  pub bytes : List ℕ

abbrev pub none : Dependencies
none = record { imports = []; includes = []; bytes = [] }

-- the tables: its rows laid out in words
unfoldable pub import_words_of : Dependencies → List ℕ
import_words_of d = import_table d.imports

unfoldable pub include_words_of : Dependencies → List ℕ
include_words_of d = include_table d.includes

unfoldable pub joined : Dependencies → Dependencies → Dependencies
joined d e = record { imports = d.imports ++ e.imports; includes = d.includes ++ e.includes; bytes = d.bytes ++ e.bytes }

-- ---- one statement read or one token skipped; whole: the whole-text mode, far: the place, the bytes and rows before it

-- the answer, and what it adds: at most one row, and the bytes of a refused statement too
pub record Step : Type 0 where
  pub answer : Result (Option Sofar) Refusal
  pub adds : Dependencies

abbrev pub adding : Result (Option Sofar) Refusal → Dependencies → Step
adding r d = record { answer = r; adds = d }

unfoldable pub import_step : Sofar → List ℕ → Result (Cursor × ℕ × YangImport) Refusal → Step
import_step far bs (Ok (c, n, i)) =
    adding (Ok (Some (record { at = c.at; used = n; imports = far.imports + 1; includes = far.includes })))
    (record { imports = i ∷ []; includes = []; bytes = bs })
import_step far bs (Err r) = adding (Err r) (record { imports = []; includes = []; bytes = bs })

unfoldable pub include_step : Sofar → List ℕ → Result (Cursor × ℕ × YangInclude) Refusal → Step
include_step far bs (Ok (c, n, i)) =
    adding (Ok (Some (record { at = c.at; used = n; imports = far.imports; includes = far.includes + 1 })))
    (record { imports = []; includes = i ∷ []; bytes = bs })
include_step far bs (Err r) = adding (Err r) (record { imports = []; includes = []; bytes = bs })

-- the answer to a row too many, behind its keyword k
abbrev pub full : ℕ → ℕ → Result (Option Sofar) Refusal
full k at = Err (record { number = too_many; keyword = k; at = at })

-- 10 where the rows are full; else what stands there
unfoldable pub unless_full : ℕ → ℕ → ℕ → Step → Step
unless_full rows k at step = cond (leb most_rows rows) (adding (full k at) none) step

unfoldable pub import_here : Bool → List ℕ → Sofar → ℕ → Step
import_here whole s far at =
    unless_full far.imports import_keyword at (import_step far (import_at whole s at far.used).bytes (import_at whole s at far.used).answer)

unfoldable pub include_here : Bool → List ℕ → Sofar → ℕ → Step
include_here whole s far at =
    unless_full far.includes include_keyword at (include_step far (include_at whole s at far.used).bytes (include_at whole s at far.used).answer)

unfoldable pub moved_to : Sofar → ℕ → Sofar
moved_to far at = record { at = at; used = far.used; imports = far.imports; includes = far.includes }

-- past a token
unfoldable pub after_token : Sofar → Result Cursor Refusal → Result (Option Sofar) Refusal
after_token far (Ok c) = Ok (Some (moved_to far c.at))
after_token far (Err r) = Err r

unfoldable pub head_step : Bool → List ℕ → Sofar → ℕ → Head → Step
head_step whole s far at (Import c) = import_here whole s far c.at
head_step whole s far at (Include c) = include_here whole s far c.at
head_step whole s far at (Last c) = adding (Ok None) none
head_step whole s far at Other = adding (after_token far (past_token whole s at)) none

-- at the place after the gap
unfoldable pub step_here : Bool → List ℕ → Sofar → ℕ → Step
step_here whole s far at = cond (leb (length s) at) (adding (Ok None) none) (head_step whole s far at (head_at s at))

unfoldable pub step_at : Bool → List ℕ → Sofar → Step
step_at whole s far = step_here whole s far (gap_end s far.at)

-- ---- all of them

-- where the scan stands, and what it read so far
pub record Scanning : Type 0 where
  pub far : Sofar
  pub read : Dependencies

-- all that was read; or the refusal, and what was stored and written before it
pub data Scan : Type 0 where
  good : Dependencies → Scan
  bad : Refusal → Dependencies → Scan

unfoldable pub after_step : Dependencies → Result (Option Sofar) Refusal → Turn Scanning Scan
after_step d (Ok (Some far)) = on (record { far = far; read = d })
after_step d (Ok None) = stop (good d)
after_step d (Err r) = stop (bad r d)

unfoldable pub scan_turn : Bool → List ℕ → Scanning → Turn Scanning Scan
scan_turn whole s g = after_step (joined g.read (step_at whole s g.far).adds) (step_at whole s g.far).answer

unfoldable pub scan_from : Bool → List ℕ → Scanning → Scan
scan_from whole s g = turns (scan_turn whole s) (good none) (suc (length s)) g

abbrev pub start : Sofar
start = record { at = 0; used = 0; imports = 0; includes = 0 }

unfoldable pub scanned : Bool → List ℕ → Scan
scanned whole s = scan_from whole s (record { far = start; read = none })

-- ---- with the checks that come first

-- text: the text's length; page: that of the page of the printed form
unfoldable pub page_short : ℕ → ℕ → Bool
page_short text page = ltb page (text + page_more)

unfoldable pub if_fit : Result (Unit {0}) Refusal → Scan → Scan
if_fit (Ok tt) x = x
if_fit (Err r) x = bad r none

-- short: whether something lent is too short
unfoldable pub dependencies : Bool → List ℕ → Bool → Scan
dependencies whole s short = if_fit (lent_at s short) (scanned whole s)

-- ---- what is answered, written and kept

unfoldable pub parsed_of : Scan → Result Rows Refusal
parsed_of (good d) = Ok (record { imports = (length d.imports); includes = (length d.includes); used = (length d.bytes) })
parsed_of (bad r d) = Err r

-- what the inner scan leaves, on a refusal too
unfoldable pub read_of : Scan → Dependencies
read_of (good d) = d
read_of (bad r d) = d

-- what the entry leaves: every refusal leaves counts, store and tables zero
unfoldable pub kept_of : Scan → Dependencies
kept_of (good d) = d
kept_of (bad r d) = none

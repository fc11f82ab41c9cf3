-- Starts refer to the lent value store. What this means of one value: its keyword stands in the text at a place where the scan stands, and the bytes of the
-- store from its start on, as many as its length, are the value that is read behind the keyword.
-- Assumes nothing.
use Rattle.std.specs.Prelude.{ℕ, ◌<◌, ◌≡◌, true, false, ◌⊎◌, List, [], length, get_or, Some, None, Ok}
use Rattle.text.specs.Bytes.{open_brace, semicolon}
use Rattle.text.specs.Due.{due_at}
use Rattle.text.specs.Keyword.{match_at}
use Rattle.text.specs.Scan.{gap_end}
use Rattle.text.specs.Turns.{Turn, on}
use Rattle.text.specs.Words.{import_word, include_word, prefix_word, revision_date_word, import_keyword, include_keyword, module_word, submodule_word}
use Rattle.text.specs.Words.{namespace_word, revision_word, belongs_to_word}
use Rattle.text.specs.declared.Cursor.{Cursor}
use Rattle.text_value.specs.Value.{value, value_at}
use Rattle.scan_rows.specs.Span.{missing, value_in, Within}
use Rattle.scan_rows.specs.declared.Span.{Span}
use Rattle.scan_rows.specs.declared.YangImport.{YangImport}
use Rattle.scan_rows.specs.declared.YangInclude.{YangInclude}
use Rattle.scan_block.specs.Block.{Stored, block_turn, begun}
use Rattle.yangparser.specs.Dependencies.{Scanning, scan_turn, start, none}
use Rattle.scan_metadata.specs.Metadata.{Reading, metadata_turn, nothing}
use Rattle.scan_metadata.specs.Values.{name_value, namespace_value, prefix_value, first_value, parent_value, newest_value}

-- x is present and lies in the store, and its bytes are the value behind the keyword `word` at the place p of the text s
pub record Behind (s word : List ℕ) (p : ℕ) (store : List ℕ) (x : Span) : Type 0 where
  pub after : Cursor
  pub matched : match_at s p word ≡ Some after
  pub end : ℕ
  pub read : value_at s after.at ≡ value (value_in store x) end
  pub present : x.present ≡ true
  pub within : Within (length store) x

-- a value that may be missing, with 0, 0: then No holds, and else Yes
abbrev pub Either : (No : Type 0) (Yes : Span → Type 0) → Span → Type 0
Either No Yes x = ((x ≡ missing) × No) ⊎ Yes x

-- ---- where a scan stands. Of the two modes (2026-07) the old one is named: a good scan of the whole-text mode is the old mode's

-- the states that a loop comes to from a
pub data Reaches {A R : Type 0} (step : A → Turn A R) (a : A) : A → Type 0 where
  first : Reaches step a a
  next : {b c : A} → Reaches step a b → step b ≡ on c → Reaches step a c

-- a scan is known by its step and by the place of each of its states, which stands before a gap; all that follows is said from the state g on
module _ {A R : Type 0} (step : A → Turn A R) (at : A → ℕ) (s word : List ℕ) where
  -- it stands at the keyword nowhere; nowhere before the place p; nowhere behind it
  abbrev pub Unmet : A → Type 0
  Unmet g = (b : A) → Reaches step g b → match_at s (gap_end s (at b)) word ≡ None

  abbrev pub UnmetBefore : A → ℕ → Type 0
  UnmetBefore g p = (b : A) → Reaches step g b → at b < p → match_at s (gap_end s (at b)) word ≡ None

  abbrev pub UnmetBehind : A → ℕ → Type 0
  UnmetBehind g p = (b : A) → Reaches step g b → p < at b → match_at s (gap_end s (at b)) word ≡ None

  -- it stands at the keyword, and x is the value behind it
  pub record Met (store : List ℕ) (g : A) (x : Span) : Type 0 where
    pub state : A
    pub reached : Reaches step g state
    pub value : Behind s word (gap_end s (at state)) store x

  -- first wins; last wins
  abbrev pub MetFirst : List ℕ → A → Span → Type 0
  MetFirst store g x = (m : Met store g x) × UnmetBefore g (at m.state)

  abbrev pub MetLast : List ℕ → A → Span → Type 0
  MetLast store g x = (m : Met store g x) × UnmetBehind g (at m.state)

-- ---- the block of an import or include; k: the keyword's number

-- P holds of its first state, behind its `{`, which follows at the place `end`
pub record Opened (s : List ℕ) (k end : ℕ) (P : Stored → Type 0) : Type 0 where
  pub opens : Cursor
  pub brace : due_at s end open_brace k ≡ Ok opens
  pub used : ℕ
  pub holds : P (record { body = begun opens.at used; bytes = [] })

-- or `;` follows, and there is no block
abbrev pub Ended : List ℕ → ℕ → ℕ → Type 0
Ended s k end = (c : Cursor) × (due_at s end semicolon k ≡ Ok c)

-- `prefix` value `;`, `revision-date` value `;`, any other statement skipped. Last one read wins.
abbrev pub InBlock : List ℕ → ℕ → ℕ → List ℕ → List ℕ → Span → Type 0
InBlock s k end word store x = Opened s k end (λ g. MetLast (block_turn false s k) (λ b. b.body.at) s word store g x)

abbrev pub NotInBlock : List ℕ → ℕ → ℕ → List ℕ → Type 0
NotInBlock s k end word = Opened s k end (Unmet (block_turn false s k) (λ b. b.body.at) s word)

-- ---- dependencies

-- Import: value, `{`, then its block. Prefix is required. The row k: its keyword stands where the scan has read k imports.
pub record ImportRead (s store : List ℕ) (k : ℕ) (i : YangImport) : Type 0 where
  pub state : Scanning
  pub reached : Reaches (scan_turn false s) (record { far = start; read = none }) state
  pub before : state.far.imports ≡ k
  pub name : Behind s import_word (gap_end s state.far.at) store i.module_name
  pub prefix : InBlock s import_keyword name.end prefix_word store i.prefix
  pub revision : Either (NotInBlock s import_keyword name.end revision_date_word)
      (InBlock s import_keyword name.end revision_date_word store) i.revision_date

-- Include: value, then `;`, or `{` with its block. The row k: its keyword stands where the scan has read k includes.
pub record IncludeRead (s store : List ℕ) (k : ℕ) (i : YangInclude) : Type 0 where
  pub state : Scanning
  pub reached : Reaches (scan_turn false s) (record { far = start; read = none }) state
  pub before : state.far.includes ≡ k
  pub name : Behind s include_word (gap_end s state.far.at) store i.submodule_name
  pub revision : Either (Ended s include_keyword name.end ⊎ NotInBlock s include_keyword name.end revision_date_word)
      (InBlock s include_keyword name.end revision_date_word store) i.revision_date

-- ---- metadata

abbrev pub begin : Reading
begin = record { at = 0; read = nothing }

module _ (s : List ℕ) where
  abbrev pub NoHeader : List ℕ → Type 0
  NoHeader word = Unmet (metadata_turn false s) (λ b. b.at) s word begin

  abbrev pub HeaderFirst : List ℕ → List ℕ → Span → Type 0
  HeaderFirst word store x = MetFirst (metadata_turn false s) (λ b. b.at) s word store begin x

  abbrev pub HeaderLast : List ℕ → List ℕ → Span → Type 0
  HeaderLast word store x = MetLast (metadata_turn false s) (λ b. b.at) s word store begin x

-- `module` or `submodule` value (last wins); from the state g on
pub record NameRead (s store : List ℕ) (g : Reading) (x : Span) : Type 0 where
  pub word : List ℕ
  pub either : (word ≡ module_word) ⊎ (word ≡ submodule_word)
  pub met : Met (metadata_turn false s) (λ b. b.at) s word store g x
  pub no_module : UnmetBehind (metadata_turn false s) (λ b. b.at) s module_word g met.state.at
  pub no_submodule : UnmetBehind (metadata_turn false s) (λ b. b.at) s submodule_word g met.state.at

-- `belongs-to` value (last wins); `namespace` value (last wins); `prefix` value (first wins); `revision` value (first wins). The newest is one of the
-- revisions; which one is said in demands (Newest).
pub record RecordRead (s store : List ℕ) (values : List Span) : Type 0 where
  pub name : NameRead s store begin (get_or values name_value missing)
  pub namespace : Either (NoHeader s namespace_word) (HeaderLast s namespace_word store) (get_or values namespace_value missing)
  pub prefix : Either (NoHeader s prefix_word) (HeaderFirst s prefix_word store) (get_or values prefix_value missing)
  pub first_revision : Either (NoHeader s revision_word) (HeaderFirst s revision_word store) (get_or values first_value missing)
  pub parent : Either (NoHeader s belongs_to_word) (HeaderLast s belongs_to_word store) (get_or values parent_value missing)
  pub newest : Either (NoHeader s revision_word) (Met (metadata_turn false s) (λ b. b.at) s revision_word store begin) (get_or values newest_value missing)

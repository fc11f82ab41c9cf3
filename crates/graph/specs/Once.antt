-- Request 2026-10: the walk over numbers with a memory. Each node has a mark, and a text that was walked is not walked again. Remembered is how many includes
-- lie below it, the longest chain of them, so that "too deep" comes as in the plain walk. A text that is met while it is being walked lies on a circle of
-- includes, and is too deep at once: the plain walk goes round until there is no depth left. The edge of an include comes before both.
-- Assumes nothing.
use Rattle.std.specs.Prelude.{ℕ, zero, suc, max, ◌+◌, ◌≡◌, Bool, true, false, cond, eqb, leb}
use mathlib.Core.List.{List, [], ◌∷◌, ◌++◌, Nodup}
use Rattle.text.specs.Refusal.{no_refusal}
use Rattle.graph.specs.Graph.{ScanAnswer, no_entry_text, no_included_text, scan_refused, unknown_submodule, no_node, too_deep, deepest, Out, built, refused}
use Rattle.graph.specs.Graph.{on_out}
use Rattle.graph.specs.Numbers.{Row, row, mem_r, add_row, Codes, no_text, refused_scan, codes, each_o, import_code, given_code, walk_codes, Drawing, drawn}
use Rattle.graph.specs.Numbers.{faulty, EntryCode, draw_from}

-- ---- the marks: what is remembered of each node's text; they are not the marks of graph_marks, which say what a node may be

-- a text was not read yet, is being walked, or was walked with so many includes below it
pub data Mark : Type 0 where
  unread : Mark
  reading : Mark
  below : ℕ → Mark

abbrev pub Marks : Type 0
Marks = ℕ → Mark

abbrev pub nothing_read : Marks
nothing_read u = unread

abbrev pub mark : Marks → ℕ → Mark → Marks
mark m v x u = cond (eqb u v) x (m u)

-- ---- the walk

-- rows and marks now, and the includes below; or a refusal
pub data Went : Type 0 where
  walked : List Row → Marks → (below : ℕ) → Went
  halted : (number : ℕ) → ScanAnswer → Went

abbrev pub then_rows : Out Row → (List Row → Went) → Went
then_rows (built rs) f = f rs
then_rows (refused n a) f = halted n a

abbrev pub then_w : Went → (List Row → Marks → ℕ → Went) → Went
then_w (walked rs m h) f = f rs m h
then_w (halted n a) f = halted n a

-- what becomes of an included text
abbrev pub Below : Type 0
Below = ℕ → List Row → Marks → Went

abbrev pub include_once : (limit : ℕ) → Below → (v : ℕ) → ℕ → List Row → Marks → Went
include_once limit f v zero rs m = halted unknown_submodule no_refusal
include_once limit f v (suc zero) rs m = halted no_node no_refusal
include_once limit f v (suc (suc u)) rs m = then_rows (add_row limit rs (row u v)) (λ rs₁. f u rs₁ m)

-- the longest chain of includes: h was the longest, and one include more has k below it
abbrev pub raised : (h k : ℕ) → ℕ
raised h k = max h (suc k)

-- h: the longest chain below those that came before
unfoldable pub includes_once : (limit : ℕ) → Below → (v : ℕ) → List ℕ → List Row → Marks → (h : ℕ) → Went
includes_once limit f v [] rs m h = walked rs m h
includes_once limit f v (c ∷ cs) rs m h = then_w (include_once limit f v c rs m) (λ rs₁ m₁ h₁. includes_once limit f v cs rs₁ m₁ (raised h h₁))

abbrev pub ended : (v : ℕ) → List Row → Marks → ℕ → Went
ended v rs m h = walked rs (mark m v (below h)) h

-- a text that is not read yet
abbrev pub visit_once : (limit : ℕ) → Below → (absent v : ℕ) → Codes → List Row → Marks → Went
visit_once limit f absent v no_text rs m = halted absent no_refusal
visit_once limit f absent v (refused_scan a) rs m = halted scan_refused a
visit_once limit f absent v (codes imports includes) rs m =
    then_rows (each_o (import_code limit v) imports rs) (λ rs₁. then_w (includes_once limit f v includes rs₁ (mark m v reading) 0) (ended v))

-- a text that is met, by its mark; `read`: what it comes to if it is not read yet
abbrev pub met : Mark → (left : ℕ) → List Row → Marks → (read : Went) → Went
met unread left rs m read = read
met reading left rs m read = halted too_deep no_refusal
met (below h) left rs m read = cond (leb h left) (walked rs m h) (halted too_deep no_refusal)

unfoldable pub walk_once : (at : ℕ → Codes) → (limit left absent v : ℕ) → List Row → Marks → Went
walk_once at limit zero absent v rs m = met (m v) zero rs m (visit_once limit (λ u rs₁ m₁. halted too_deep no_refusal) absent v (at v) rs m)
walk_once at limit (suc left) absent v rs m = met (m v) (suc left) rs m (visit_once limit (walk_once at limit left no_included_text) absent v (at v) rs m)

-- what an included text comes to where its own text has so much depth left: no text is read below 0
unfoldable pub below_once : (at : ℕ → Codes) → (limit left : ℕ) → Below
below_once at limit zero u rs m = halted too_deep no_refusal
below_once at limit (suc left) u rs m = walk_once at limit left no_included_text u rs m

-- ---- all entries, numbered from 1; beside `draw_from`

abbrev pub on_walked : {A : Type 0} → Went → (List Row → Marks → A) → (ℕ → ScanAnswer → A) → A
on_walked (walked rs m h) f g = f rs m
on_walked (halted n a) f g = g n a

unfoldable pub draw_once : (at : ℕ → Codes) → (limit number : ℕ) → List Row → Marks → List EntryCode → Drawing
draw_once at limit k rs m [] = drawn rs
draw_once at limit k rs m (e ∷ es) =
    on_walked (walk_once at limit deepest no_entry_text e.number rs m)
    (λ rs₁ m₁. on_out (each_o (given_code limit e.number) e.lists rs₁) (λ rs₂. draw_once at limit (k + 1) rs₂ m₁ es) (λ n a. faulty n k a))
    (λ n a. faulty n k a)

-- ---- which nodes' texts are read, in order

abbrev pub is_unread : Mark → Bool
is_unread unread = true
is_unread reading = false
is_unread (below h) = false

-- what is read below an included text
abbrev pub ReadsBelow : Type 0
ReadsBelow = ℕ → List Row → Marks → List ℕ

unfoldable pub includes_read : (limit : ℕ) → Below → ReadsBelow → (v : ℕ) → List ℕ → List Row → Marks → List ℕ
includes_read limit f t v [] rs m = []
includes_read limit f t v (zero ∷ cs) rs m = []
includes_read limit f t v (suc zero ∷ cs) rs m = []
includes_read limit f t v (suc (suc u) ∷ cs) rs m =
    on_out (add_row limit rs (row u v)) (λ rs₁. t u rs₁ m ++ on_walked (f u rs₁ m) (λ rs₂ m₂. includes_read limit f t v cs rs₂ m₂) (λ n a. []))
    (λ n a. [])

abbrev pub visit_read : (limit : ℕ) → Below → ReadsBelow → (v : ℕ) → Codes → List Row → Marks → List ℕ
visit_read limit f t v no_text rs m = []
visit_read limit f t v (refused_scan a) rs m = v ∷ []
visit_read limit f t v (codes imports includes) rs m =
    v ∷ on_out (each_o (import_code limit v) imports rs) (λ rs₁. includes_read limit f t v includes rs₁ (mark m v reading)) (λ n a. [])

unfoldable pub walk_read : (at : ℕ → Codes) → (limit left v : ℕ) → List Row → Marks → List ℕ
walk_read at limit zero v rs m =
    cond (is_unread (m v)) (visit_read limit (λ u rs₁ m₁. halted too_deep no_refusal) (λ u rs₁ m₁. []) v (at v) rs m) []
walk_read at limit (suc left) v rs m =
    cond (is_unread (m v)) (visit_read limit (walk_once at limit left no_included_text) (walk_read at limit left) v (at v) rs m) []

unfoldable pub entries_read : (at : ℕ → Codes) → (limit : ℕ) → List Row → Marks → List EntryCode → List ℕ
entries_read at limit rs m [] = []
entries_read at limit rs m (e ∷ es) =
    walk_read at limit deepest e.number rs m ++ on_walked (walk_once at limit deepest no_entry_text e.number rs m)
    (λ rs₁ m₁. on_out (each_o (given_code limit e.number) e.lists rs₁) (λ rs₂. entries_read at limit rs₂ m₁ es) (λ n a. []))
    (λ n a. [])

-- ---- what is remembered is true

-- all rows of the one are in the other
abbrev pub Grows : List Row → List Row → Type 0
Grows rs rs₁ = (r : Row) → mem_r r rs ≡ true → mem_r r rs₁ ≡ true

-- rows as they are, or too deep: `h` includes lie below, and there is so much depth left
abbrev pub unless_deep : (h left : ℕ) → List Row → Out Row
unless_deep h left rs = cond (leb h left) (built rs) (refused too_deep no_refusal)

-- u was walked, with h includes below it: from now on the plain walk of it adds nothing, and is too deep exactly if h is more than the depth left
pub record Done (at : ℕ → Codes) (limit h u : ℕ) (rs : List Row) : Type 0 where
  pub again : (left absent : ℕ) (rs₁ : List Row) → Grows rs rs₁ → walk_codes at limit left absent u rs₁ ≡ unless_deep h left rs₁

-- what holds between two entries
pub record Between (at : ℕ → Codes) (limit : ℕ) (m : Marks) (rs : List Row) : Type 0 where
  pub done : (u h : ℕ) → m u ≡ below h → Done at limit h u rs
  pub closed : (u : ℕ) → ¬ (m u ≡ reading)

-- ---- the request, as one list of statements

-- of a walk, what the plain walk answers too
abbrev pub plainly : Went → Out Row
plainly (walked rs m h) = built rs
plainly (halted n a) = refused n a

pub record OnceDemand (at : ℕ → Codes) (limit : ℕ) (es : List EntryCode) : Type 0 where
  -- from any rows and marks that there may be between two entries, the walk with a memory gives the rows or the refusal of the plain walk
  pub walk : (left absent v : ℕ) (rs : List Row) (m : Marks) → Between at limit m rs
      → plainly (walk_once at limit left absent v rs m) ≡ walk_codes at limit left absent v rs
  -- and leaves such rows and marks: none is being walked
  pub next : (left absent v : ℕ) (rs : List Row) (m : Marks) → Between at limit m rs → (rs₁ : List Row) (m₁ : Marks) (h : ℕ)
      → walk_once at limit left absent v rs m ≡ walked rs₁ m₁ h → Between at limit m₁ rs₁
  -- the memory changes no row, no order of rows, no refusal and no entry's number
  pub same : draw_once at limit 1 [] nothing_read es ≡ draw_from at limit 1 [] es
  -- no text is read twice
  pub once : Nodup (entries_read at limit [] nothing_read es)

-- What holds of the nodes that are handed to a look-up, as facts and as tests: each follows from the other.
-- Assumes nothing.
use mathlib.Core.Path.{◌≡◌, refl, sym, ap}
use mathlib.Core.Bool.{true, true≢false}
use mathlib.Core.List.{List}
use Prim.Native.Nat.{ℕ}
use Rattle.library_form.specs.Form.{Ans, good, bad}
use Rattle.library_image.specs.Image.{image_at}
use Rattle.library_items.specs.Table.{Reads}
use Rattle.graph_marks.specs.Marks.{is_good, Desk, LooksUp}

pub good_reads : {A : Type 0} (r : Ans A) → is_good r ≡ true → Reads r
good_reads (good a n) e = record { value = a; end = n; read = refl }
good_reads (bad p) e = absurd (true≢false (sym e))

module _ {s tab : List ℕ} {n : ℕ} {marks : List ℕ} where
  pub desk_of : LooksUp s tab n marks → Desk s tab n marks
  desk_of k = record {
    reads = good_reads (image_at s) k.read;
    holding = record { indexed = k.indexed; names = refl; few = k.few; space = k.space };
    entries = k.entries;
    marked = k.marked;
  }

  pub looks_up : Desk s tab n marks → LooksUp s tab n marks
  looks_up d = record {
    read = ap is_good d.reads.read;
    indexed = d.holding.indexed;
    few = d.holding.few;
    space = d.holding.space;
    entries = d.entries;
    marked = d.marked;
  }

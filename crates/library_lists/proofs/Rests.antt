-- What stands behind the name of an entry: lists of names one after another, or a counted list of lists of names. One law for each way out.
-- Assumes nothing.
use Rattle.std.specs.Prelude.{Result}
use mathlib.Core.Path.{◌≡◌, sym, ◌∙◌}
use mathlib.Core.List.{List}
use mathlib.Core.Bool.{Bool, true, false}
use Prim.Native.Nat.{ℕ, ◌+◌, ◌≤◌, ◌<◌}
use Rattle.library_form.specs.Form.{good, bad}
use Rattle.library_image.specs.Image.{least_revisions, most_revisions, count_at, revision_at}
use Rattle.library_lists.specs.Lists.{done, read_seen, list_at, rest_at}
use Rattle.library_lists.proofs.Counting.{done_bad, bind_bad, bind_behind, Going, further_behind, no_count, list_stopped, list_read}

-- ---- the ways out of `read_lists`

module _ (s : List ℕ) (at : ℕ) where
  pub no_submodules : {p : ℕ} → bad p ≡ done (list_at false s at) → bad p ≡ rest_at false s at
  unfolding rest_at
  no_submodules e = sym (bind_bad (list_at false s at) _ e)

  module _ {n : ℕ} (e : good tt n ≡ done (list_at false s at)) where
    pub no_augmenting : {p : ℕ} → bad p ≡ done (list_at false s n) → bad p ≡ rest_at false s at
    unfolding rest_at
    no_augmenting f = sym (bind_behind (list_at false s at) _ e ∙ bind_bad (list_at false s n) _ f)

    pub last_list : {m : ℕ} → good tt m ≡ done (list_at false s n) → (u : Result ℕ ℕ) → read_seen u ≡ done (list_at false s m)
        → read_seen u ≡ rest_at false s at
    unfolding rest_at
    last_list {m} f u k = k ∙ sym (bind_behind (list_at false s at) _ e ∙ bind_behind (list_at false s n) _ f)

-- ---- the ways out of `read_revisions`

module _ (s : List ℕ) where
  pub no_revisions : (at : ℕ) {p : ℕ} → bad p ≡ count_at least_revisions most_revisions s at → bad p ≡ rest_at true s at
  unfolding rest_at
  no_revisions at e = no_count least_revisions most_revisions s at revision_at e

  pub revisions_further : {count from i here : ℕ} (g : Going (revision_at s) count from i here) {n : ℕ} → good tt n ≡ done (list_at true s here)
      → i < count → Going (revision_at s) count from (i + 1) n
  unfolding list_at
  revisions_further g e h = further_behind (revision_at s) g e h

  module _ (at : ℕ) {count n : ℕ} (k : good count n ≡ count_at least_revisions most_revisions s at) {i here : ℕ}
      (g : Going (revision_at s) count n i here) where
    pub revisions_stopped : {p : ℕ} → bad p ≡ done (list_at true s here) → i < count → bad p ≡ rest_at true s at
    unfolding rest_at list_at
    revisions_stopped e h = list_stopped least_revisions most_revisions s at revision_at k g (done_bad _ e) h

    pub revisions_read_lem : count ≤ i → good tt here ≡ rest_at true s at
    unfolding rest_at
    revisions_read_lem h = list_read least_revisions most_revisions s at revision_at k g h

-- ---- both ways out of `read_rest`

pub which_rest : (s : List ℕ) (at : ℕ) (r : Result ℕ ℕ) (import_only : Bool) {b : Bool} → import_only ≡ b → read_seen r ≡ rest_at b s at
    → read_seen r ≡ rest_at import_only s at
which_rest s at r import_only e f = rw e f

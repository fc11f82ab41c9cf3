-- One law for each way out of the functions that pass one part of the image.
-- Assumes nothing.
use Rattle.std.specs.Prelude.{None, Some, Result}
use Rattle.std.proofs.Common.{Continue, Break}
use mathlib.Core.Path.{◌≡◌, refl, sym, ◌∙◌}
use mathlib.Core.List.{List}
use mathlib.Core.Bool.{Bool, true, false}
use Prim.Native.Nat.{ℕ, ◌+◌, ◌-◌}
use lib.Dec.{eqb}
use lib.ListN.{take, drop}
use lib.Pointwise.{pointwise}
use Rattle.library_form.specs.Form.{good, bad, word_at, number_at, number_seen, name_at}
use Rattle.library_form.specs.declared.ImageCursor.{ImageCursor}
use Rattle.library_form.proofs.Bounds.{compared}
use Rattle.library_image.specs.Image.{most_names, count_at}
use Rattle.library_lists.specs.Lists.{done, read_seen, list_at, rest_at}
use Rattle.library_lists.proofs.Counting.{bind_bad, bind_behind}
use Rattle.library_search.specs.Search.{Tried, past, submodule_count, lists_behind, hit_at, entry_tried, word_tried}

-- ---- `hit_at`

module _ (s : List ℕ) (import_only : Bool) (place end : ℕ) where
  pub module_hit : import_only ≡ false → Break (Some (place, 0)) ≡ hit_at s import_only place end
  unfolding hit_at
  module_hit e = rw e

  pub no_revisions : {p : ℕ} → bad p ≡ number_at s end → import_only ≡ true → Break None ≡ hit_at s import_only place end
  unfolding hit_at
  no_revisions e d = rw (d, ← e) refl

  pub import_only_hit : {revisions n : ℕ} → good revisions n ≡ number_at s end → import_only ≡ true
      → Break (Some (place, revisions)) ≡ hit_at s import_only place end
  unfolding hit_at
  import_only_hit e d = rw (d, ← e) refl

-- ---- `try_entry` and `try_word`

module _ (s t : List ℕ) (at : ℕ) where
  pub no_entry : (import_only wanted : Bool) {p : ℕ} → bad p ≡ name_at s at → Break None ≡ entry_tried s t import_only wanted at
  unfolding entry_tried
  no_entry import_only wanted e = rw (← e) refl

  pub no_word : {p : ℕ} → bad p ≡ name_at s at → Break None ≡ word_tried s t at
  unfolding word_tried
  no_word e = rw (← e) refl

  module _ (first len : ℕ) (e : good (word_at s first len) (first + len) ≡ name_at s at) where
    -- an entry of a list that is passed
    pub unwanted : (import_only wanted : Bool) {x : Tried} → x ≡ past (rest_at import_only s (first + len)) → wanted ≡ false
        → x ≡ entry_tried s t import_only wanted at
    unfolding entry_tried
    unwanted import_only wanted g u = g ∙ rw (← e) (rw u)

    module _ {b : Bool} (k : b ≡ pointwise eqb (take (first + len - first) (drop first s)) t) where
      pub entry_hit : (import_only wanted : Bool) {x : Tried} → x ≡ hit_at s import_only first (first + len) → wanted ≡ true → b ≡ true
          → x ≡ entry_tried s t import_only wanted at
      unfolding entry_tried
      entry_hit import_only wanted g u y = g ∙ rw (← e) (rw (u, compared s t first len k true y))

      pub entry_other : (import_only wanted : Bool) {x : Tried} → x ≡ past (rest_at import_only s (first + len)) → wanted ≡ true → b ≡ false
          → x ≡ entry_tried s t import_only wanted at
      unfolding entry_tried
      entry_other import_only wanted g u y = g ∙ rw (← e) (rw (u, compared s t first len k false y))

      pub word_hit : b ≡ true → Break (Some (first, 0)) ≡ word_tried s t at
      unfolding word_tried
      word_hit y = rw (← e) (rw (compared s t first len k true y))

      pub word_other : b ≡ false → Continue (first + len) ≡ word_tried s t at
      unfolding word_tried
      word_other y = rw (← e) (rw (compared s t first len k false y))

-- ---- `enter_module` and `leave_module`

module _ (s : List ℕ) (at : ℕ) where
  pub no_module : {p : ℕ} → bad p ≡ name_at s at → bad p ≡ submodule_count s at
  unfolding submodule_count
  no_module e = rw (← e) refl

  pub entered : (first len : ℕ) (q : Result (ℕ × ImageCursor) ℕ) → good (word_at s first len) (first + len) ≡ name_at s at
      → number_seen q ≡ count_at 0 most_names s (first + len) → number_seen q ≡ submodule_count s at
  unfolding submodule_count
  entered first len q e g = g ∙ rw (← e) refl

  pub not_left : {p : ℕ} → bad p ≡ done (list_at false s at) → bad p ≡ lists_behind s at
  unfolding lists_behind
  not_left e = sym (bind_bad (list_at false s at) _ e)

  pub left_behind : {n : ℕ} (q : Result ℕ ℕ) → good tt n ≡ done (list_at false s at) → read_seen q ≡ done (list_at false s n)
      → read_seen q ≡ lists_behind s at
  unfolding lists_behind
  left_behind q e g = g ∙ sym (bind_behind (list_at false s at) (λ m. done (list_at false s m)) e)

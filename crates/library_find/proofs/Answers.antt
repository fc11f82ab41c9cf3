-- One law for each way out of the three finds: a broken image is told with its place; in any other the search over the bytes is the search in the
-- library that the image was read into.
-- Assumes nothing.
use Rattle.std.specs.Prelude.{Err, Result, Option}
use mathlib.Core.Path.{◌≡◌, refl, sym, ap, ◌∙◌}
use mathlib.Core.List.{List}
use mathlib.Core.Bool.{true, false}
use Prim.Native.Nat.{ℕ}
use native.Mathlib.Omega.{arith}
use Rattle.library_form.specs.Form.{Ans, good, bad}
use Rattle.library_image.specs.Library.{Library}
use Rattle.library_image.specs.Image.{image_at}
use Rattle.library_lists.specs.Lists.{done}
use Rattle.library_lists.proofs.Counting.{done_bad}
use Rattle.library_find.specs.Find.{find_in, find_module, find_submodule, find_import_module}
use Rattle.library_search.specs.Search.{Tried, found_by, sets_tried, all_submodules_tried}
use Rattle.library_find.proofs.Lists.{on_read}
use Rattle.library_find.proofs.Abstract.{module_found, import_found, submodule_found}

-- any find, by what the image is
in_broken : (f : Library → Result (Option (ℕ × ℕ)) ℕ) (s : List ℕ) {p : ℕ} → bad p ≡ done (image_at s) → Err p ≡ find_in f s
in_broken f s e = rw (done_bad (image_at s) e)

in_good : (f : Library → Result (Option (ℕ × ℕ)) ℕ) (s : List ℕ) {n : ℕ} (x : Result (Option (ℕ × ℕ)) ℕ) → good tt n ≡ done (image_at s)
    → ((l : Library) (m : ℕ) → image_at s ≡ good l m → x ≡ f l)
    → x ≡ find_in f s
in_good f s {n} x e g = go (image_at s) refl e
  where
    go : (a : Ans Library) → image_at s ≡ a → good tt n ≡ done a → x ≡ find_in f s
    go (good l m) h e = g l m h ∙ sym (on_read _ _ h)
    go (bad q) h e = let z : ◌≡◌ {A = ℕ} 0 1 = cc in absurd (omega arith)

module _ (s t : List ℕ) where
  module _ {p : ℕ} (e : bad p ≡ done (image_at s)) where
    pub module_broken : Err p ≡ find_module s t
    unfolding find_module
    module_broken = in_broken _ s e

    pub submodule_broken : Err p ≡ find_submodule s t
    unfolding find_submodule
    submodule_broken = in_broken _ s e

    pub import_broken : Err p ≡ find_import_module s t
    unfolding find_import_module
    import_broken = in_broken _ s e

  module _ {n : ℕ} (e : good tt n ≡ done (image_at s)) (x : Result (Option (ℕ × ℕ)) ℕ) where
    pub module_told : (q : Tried) → q ≡ sets_tried s t true false → x ≡ found_by q → x ≡ find_module s t
    unfolding find_module
    module_told q g h = in_good _ s x e (λ l m k. h ∙ ap found_by g ∙ module_found s t k)

    pub submodule_told : x ≡ found_by (all_submodules_tried s t) → x ≡ find_submodule s t
    unfolding find_submodule
    submodule_told h = in_good _ s x e (λ l m k. h ∙ submodule_found s t k)

    pub import_told : (q : Tried) → q ≡ sets_tried s t false true → x ≡ found_by q → x ≡ find_import_module s t
    unfolding find_import_module
    import_told q g h = in_good _ s x e (λ l m k. h ∙ ap found_by g ∙ import_found s t k)

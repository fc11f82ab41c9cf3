-- What a find tells stands within the image, and no image is read past 65,536 bytes: so each place is at most that, and revisions are at most 8.
-- Assumes nothing.
use Rattle.std.specs.Prelude.{Err, Ok, Some, Result, Option}
use mathlib.Core.Path.{◌≡◌, refl, sym, ◌∙◌, subst}
use mathlib.Core.List.{List}
use Prim.Native.Nat.{ℕ, ◌≤◌}
use native.Mathlib.Omega.{arith}
use lib.ListN.{length}
use lib.Dec.{ltb}
use borrow.Author.Tests.{ltb-true, ltb-false}
use Rattle.text.proofs.Here.{by_test}
use Rattle.library_form.specs.Form.{Ans, good, bad}
use Rattle.library_image.specs.Library.{Library}
use Rattle.library_image.specs.Image.{most_image, image_at}
use Rattle.library_image.proofs.ImageLaws.{image_long, accepted}
use Rattle.library_image.proofs.ImageBounds.{image_place}
use Rattle.library_find.specs.Find.{find_in, find_module, find_submodule, find_import_module}
use Rattle.library_find.proofs.Lists.{HitIn, Fine, on_read}
use Rattle.library_find.proofs.Abstract.{module_comes, import_comes, submodule_comes}

-- what a find of an image answers
pub record PlacesIn (s : List ℕ) (x : Result (Option (ℕ × ℕ)) ℕ) : Type 0 where
  pub broken : (p : ℕ) → x ≡ Err p → (p ≤ length s) × (p ≤ most_image)
  pub hit : (p r : ℕ) → x ≡ Ok (Some (p, r)) → HitIn s p r × (p ≤ most_image)

-- an image is wrong within its bytes or at their end; one that is too long at 0
wrong_low : (s : List ℕ) {p : ℕ} → image_at s ≡ bad p → p ≤ most_image
wrong_low s {p} e =
    by_test (ltb most_image (length s))
    (λ t. let z : ◌≡◌ {A = Ans Library} (bad p) (bad 0) = sym e ∙ image_long s (ltb-true most_image (length s) t) in let y : p ≡ 0 = cc in omega arith)
    (λ u. omega (arith, ltb-false most_image (length s) u, image_place s e))

places_in : (f : Library → Result (Option (ℕ × ℕ)) ℕ) (s : List ℕ) → ((l : Library) (n : ℕ) → image_at s ≡ good l n → Fine s (f l)) → PlacesIn s (find_in f s)
places_in f s g = go (image_at s) refl
  where
    go : (a : Ans Library) → image_at s ≡ a → PlacesIn s (find_in f s)
    go (good l n) h =
        let x : find_in f s ≡ f l = on_read _ _ h in
        let short = (accepted s h).short in
        record {
          broken = λ p e. absurd (subst (Fine s) (sym x ∙ e) (g l n h));
          hit = λ p r e. let q : HitIn s p r = subst (Fine s) (sym x ∙ e) (g l n h) in (q, omega (arith, q.inside, short));
        }
    go (bad q) h =
        let x : find_in f s ≡ Err q = rw h in
        record {
          broken = λ p e. let z : Err q ≡ Err p = sym x ∙ e in let y : q ≡ p = cc in (omega (arith, image_place s h), omega (arith, wrong_low s h));
          hit = λ p r e. let z : Err q ≡ Ok (Some (p, r)) = sym x ∙ e in let y : ◌≡◌ {A = ℕ} 0 1 = cc in absurd (omega arith);
        }

module _ (s t : List ℕ) where
  pub module_in : PlacesIn s (find_module s t)
  unfolding find_module
  module_in = places_in _ s (λ l n e. (module_comes s t e).fine)

  pub submodule_in : PlacesIn s (find_submodule s t)
  unfolding find_submodule
  submodule_in = places_in _ s (λ l n e. (submodule_comes s t e).fine)

  pub import_in : PlacesIn s (find_import_module s t)
  unfolding find_import_module
  import_in = places_in _ s (λ l n e. (import_comes s t e).fine)

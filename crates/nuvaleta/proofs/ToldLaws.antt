-- What is told of a name, in words: a find tells places of at most 65,536 and at most 8 revisions, a look-up in a bundle places of at most 16,777,216.
-- Assumes nothing.
use Rattle.std.specs.Prelude.{Err, Ok, None, Some, Result, Option}
use mathlib.Core.Path.{◌≡◌, refl, sym, ap, subst, ◌∙◌}
use mathlib.Core.List.{List}
use Prim.Native.Nat.{ℕ}
use native.Mathlib.Omega.{arith}
use lib.ListN.{get_or}
use Rattle.library_find.specs.Find.{find_module, find_submodule, find_import_module}
use Rattle.library_find.proofs.FindBounds.{PlacesIn, module_in, submodule_in, import_in}
use Rattle.library_bundle.specs.Bundle.{look_up}
use Rattle.library_bundle.proofs.LookBounds.{broken_in, stands_in}
use Rattle.host_words.specs.Words.{told_words, ToldFits}
use Rattle.nuvaleta.specs.Finds.{Told}

-- ---- what is told fits its words

places_fit : (s : List ℕ) (x : Result (Option (ℕ × ℕ)) ℕ) → PlacesIn s x → ToldFits x
unfolding ToldFits
places_fit s (Err p) h = omega (arith, (h.broken p refl).1)
places_fit s (Ok None) h = tt
places_fit s (Ok (Some (p, r))) h = let k = h.hit p r refl in (omega (arith, k.1), omega (arith, k.0.few))

look_fit : (s t : List ℕ) (x : Result (Option (ℕ × ℕ)) ℕ) → look_up s t ≡ x → ToldFits x
unfolding ToldFits
look_fit s t (Err p) h = omega (arith, broken_in s t p h)
look_fit s t (Ok None) h = tt
look_fit s t (Ok (Some (from, size))) h = let k = stands_in s t from size h in (omega (arith, k), omega (arith, k))

module _ (s t : List ℕ) {x : Result (Option (ℕ × ℕ)) ℕ} where
  pub module_fits : x ≡ find_module s t → ToldFits x
  module_fits e = subst ToldFits (sym e) (places_fit s (find_module s t) (module_in s t))

  pub submodule_fits : x ≡ find_submodule s t → ToldFits x
  submodule_fits e = subst ToldFits (sym e) (places_fit s (find_submodule s t) (submodule_in s t))

  pub import_fits : x ≡ find_import_module s t → ToldFits x
  import_fits e = subst ToldFits (sym e) (places_fit s (find_import_module s t) (import_in s t))

  pub text_fits : x ≡ look_up s t → ToldFits x
  text_fits e = look_fit s t x (sym e)

-- the words are answered, and the first is returned
pub told_as : (n : ℕ) {x y : Result (Option (ℕ × ℕ)) ℕ} {w : List ℕ} → x ≡ y → w ≡ told_words n x → Told (told_words n y) (get_or w 0 0) w
told_as n e h = let k = h ∙ ap (told_words n) e in record { number = ap (λ v. get_or v 0 0) k; answered = k }

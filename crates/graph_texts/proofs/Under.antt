-- One law for each way out of `read_text`: a text that is found is a part of the bundle, no longer than the longest, so what was lent is enough.
-- Assumes nothing.
use Rattle.std.specs.Prelude.{Some, None, Ok, Option, Result}
use mathlib.Core.Path.{◌≡◌, refl, sym, ap, subst, ◌∙◌}
use mathlib.Core.List.{List}
use Prim.Native.Nat.{ℕ}
use native.Mathlib.Omega.{arith}
use lib.ListN.{length, take, drop, length-take}
use Rattle.library_bundle.specs.Bundle.{looked, look_up}
use Rattle.library_bundle.specs.Reading.{Held, longest_text}
use Rattle.library_bundle.proofs.Looking.{is_missing, is_there}
use Rattle.library_bundle.proofs.Measuring.{found_low}
use Rattle.graph_texts.specs.Texts.{scan_text, look_text, text_of, SeenAs, ScanRoom}
use Rattle.text.specs.declared.Refusal.{Refusal}

module _ (b t : List ℕ) {p : Option (ℕ × ℕ)} (a : looked p ≡ look_up b t) where
  pub none_under : (d f g : List ℕ) → p ≡ None → SeenAs (text_of b t) d f g (Ok None) d f g
  unfolding text_of
  none_under d f g h = record { seen = ap (look_text b) (is_missing b t a h); few = tt; kept_store = refl; kept_imports = refl; kept_includes = refl }

  -- x: the bytes there
  module _ {from size : ℕ} (h : p ≡ Some (from, size)) {x : List ℕ} (q : x ≡ take size (drop from b)) where
    pub under_room : (tab : List ℕ) (n : ℕ) → Held b tab n → (d f g : List ℕ) → ScanRoom (longest_text b) d f g → ScanRoom (length x) d f g
    under_room tab n held d f g m = record {
      store_room = omega (arith, ap length q, length-take size (drop from b), found_low b tab t n held (sym (is_there b t a h)), m.store_room);
      import_room = m.import_room;
      include_room = m.include_room;
    }

    pub text_under : {d f g : List ℕ} {r : Result (Option (ℕ × ℕ)) Refusal} {e i j : List ℕ} → SeenAs (scan_text x) d f g r e i j
        → SeenAs (text_of b t) d f g r e i j
    unfolding text_of
    text_under {d} {f} {g} {r} {e} {i} {j} w = subst (λ y. SeenAs y d f g r e i j) (ap scan_text q ∙ ap (look_text b) (is_there b t a h)) w

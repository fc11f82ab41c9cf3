-- What holds of the bundle that is handed to a walk, as facts and as tests: each follows from the other.
-- Assumes nothing.
use mathlib.Core.Path.{◌≡◌, refl, sym, ap, ◌∙◌}
use mathlib.Core.Bool.{true≢false}
use mathlib.Core.List.{List, []}
use Prim.Native.Nat.{ℕ}
use lib.ListN.{length}
use Rattle.library_form.specs.Form.{Ans, good, bad}
use Rattle.library_bundle.specs.Bundle.{Text, words, bundle_at}
use Rattle.library_bundle.specs.Reading.{Held, texts_or}
use Rattle.library_bundle.proofs.Parts.{bundle_parted, texts_sized}
use Rattle.graph_marks.specs.Marks.{is_good}
use Rattle.graph_visit.specs.Visit.{end_of, HoldsTexts}

module _ {b tab : List ℕ} {n : ℕ} where
  pub held_of : HoldsTexts b tab n → Held b tab n
  held_of k = go (bundle_at b) refl
    where
      go : (r : Ans (List Text)) → bundle_at b ≡ r → Held b tab n
      go (good es m) e =
          let o = bundle_parted b e in
          let z : m ≡ length b = sym (ap end_of e) ∙ k.end in
          record {
            texts = es;
            read = e ∙ ap (good es) z;
            indexed = k.indexed;
            names = k.names ∙ ap (λ (r : Ans (List Text)). words (texts_or r)) e;
            sizes = texts_sized b o.count o.first [] tt o.texts;
          }
      go (bad p) e = absurd (true≢false (sym k.read ∙ ap is_good e))

  pub holds_texts : Held b tab n → HoldsTexts b tab n
  holds_texts h = record {
    read = ap is_good h.read;
    end = ap end_of h.read;
    indexed = h.indexed;
    names = h.names ∙ ap (λ (r : Ans (List Text)). words (texts_or r)) (sym h.read);
  }

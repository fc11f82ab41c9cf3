-- What the whole call promises, by what came of the readings and of what was lent: one law for each way out. The first test that fails decides, and where
-- none does the result is that of the graph.
-- Assumes nothing.
use Rattle.std.specs.Prelude.{Ok, Err, Result as Answer}
use mathlib.Core.Path.{◌≡◌, refl, sym, ap, ◌∙◌}
use mathlib.Core.Bool.{Bool, true, false, cond}
use mathlib.Core.List.{List}
use Prim.Native.Nat.{ℕ}
use native.Mathlib.Omega.{arith}
use Rattle.library_form.specs.Form.{Ans, good, bad}
use Rattle.library_image.specs.Library.{Library}
use Rattle.library_image.specs.Image.{image_broken, image_at}
use Rattle.library_bundle.specs.Bundle.{Text, bundle_broken, bundle_at}
use Rattle.library_bundle.specs.Reading.{counted, opened_seen, Held, OpenedAs, longest_text}
use Rattle.library_lists.specs.Lists.{done, read_seen}
use Rattle.library_lists.proofs.Counting.{done_bad}
use Rattle.library_items.specs.Table.{Reads}
use Rattle.graph.specs.Nodes.{Mode}
use Rattle.text.specs.Refusal.{no_refusal}
use Rattle.graph_build.specs.Result.{Result, refusal, draw_result}
use Rattle.yanglib.specs.ToGraph.{lent_too_short, on_read, graphed}
use Rattle.graph_tables.specs.Lengths.{Lengths, is_too_short}

-- ---- what was read

-- the image, by what its reading answered
pub image_reads : (s : List ℕ) (r : Answer ℕ ℕ) {n : ℕ} → r ≡ Ok n → read_seen r ≡ done (image_at s) → Reads (image_at s)
image_reads s r {n} e f = go (image_at s) refl (sym (ap read_seen e) ∙ f)
  where
    go : (a : Ans Library) → image_at s ≡ a → good tt n ≡ done a → Reads (image_at s)
    go (good l m) h k = record { value = l; end = m; read = h }
    go (bad q) h k = let z : ◌≡◌ {A = ℕ} 0 1 = cc in absurd (omega arith)

done_counted : (a : Ans (List Text)) → done (counted a) ≡ done a
done_counted (good es n) = refl
done_counted (bad p) = refl

bundle_bad : (b tab : List ℕ) (r : Answer ℕ ℕ) {p : ℕ} → r ≡ Err p → OpenedAs b r tab → bundle_at b ≡ bad p
bundle_bad b tab r {p} e o =
    done_bad (bundle_at b) (ap (λ (a : Ans ℕ). done a) (sym (ap (opened_seen b) e) ∙ o.answer) ∙ done_counted (bundle_at b))

-- ---- the ways out

module _ (mode : Mode) (s b : List ℕ) (k : Lengths) where
  abbrev behind : Ans Library → Ans (List Text) → Bool → Result
  behind x y short =
      on_read x (refusal image_broken 0 no_refusal)
      (on_read y (refusal bundle_broken 0 no_refusal)
      (cond short (refusal lent_too_short 0 no_refusal 0) (draw_result mode s b)))

  by_readings : {x : Ans Library} {y : Ans (List Text)} {short : Bool} → image_at s ≡ x → bundle_at b ≡ y → is_too_short (longest_text b) k ≡ short
      → graphed mode s b k ≡ behind x y short
  unfolding graphed
  by_readings {x} {y} {short} e f g =
      ap (λ a. behind a (bundle_at b) (is_too_short (longest_text b) k)) e
      ∙ (ap (λ a. behind x a (is_too_short (longest_text b) k)) f ∙ ap (λ t. behind x y t) g)

  pub image_wrong : (r : Answer ℕ ℕ) {p : ℕ} → r ≡ Err p → read_seen r ≡ done (image_at s) → graphed mode s b k ≡ refusal image_broken 0 no_refusal p
  image_wrong r e f = by_readings (done_bad (image_at s) (sym (ap read_seen e) ∙ f)) refl refl

  module _ (reads : Reads (image_at s)) where
    pub bundle_wrong : (r : Answer ℕ ℕ) (tab : List ℕ) {p : ℕ} → r ≡ Err p → OpenedAs b r tab → graphed mode s b k ≡ refusal bundle_broken 0 no_refusal p
    bundle_wrong r tab e o = by_readings reads.read (bundle_bad b tab r e o) refl

    module _ (tab : List ℕ) (texts : ℕ) (held : Held b tab texts) where
      pub too_little : {longest : ℕ} {short : Bool} → longest ≡ longest_text b → short ≡ is_too_short longest k → short ≡ true
          → graphed mode s b k ≡ refusal lent_too_short 0 no_refusal 0
      too_little e f h = by_readings reads.read held.read (sym (f ∙ ap (λ (n : ℕ). is_too_short n k) e) ∙ h)

      pub enough : {longest : ℕ} {short : Bool} → longest ≡ longest_text b → short ≡ is_too_short longest k → short ≡ false
          → graphed mode s b k ≡ draw_result mode s b
      enough e f h = by_readings reads.read held.read (sym (f ∙ ap (λ (n : ℕ). is_too_short n k) e) ∙ h)

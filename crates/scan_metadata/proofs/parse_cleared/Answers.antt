-- `scan_metadata::parse_cleared`. The answer's reason tells a refusal, as its number does, and what was cleared is zero.
-- Assumes nothing.
use Prim.Native.Nat.{ℕ}
use mathlib.Core.Path.{◌≡◌, refl, sym, ap, ◌∙◌}
use mathlib.Core.Bool.{Bool, true, false, not}
use lib.Dec.{eqb}
use borrow.Author.Tests.{eqb-true, eqb-false}
use Rattle.scan_header.proofs.RefusalLaws.{said_number}
use Rattle.scan_metadata.proofs.EntryLaws.{leaves_good, leaves_refused}
use Rattle.scan_metadata.proofs.ScanLaws.{scan_number}
use Rattle.scan_metadata.proofs.parse_cleared.Goals.{then-ne, else-ne}
use Rattle.scan_metadata.proofs.parse_cleared.Goals as goal

-- a reason that is another than none, and one that is none
is_refused : (n : ℕ) → not (eqb n 0) ≡ true → n ≡ 0 → ⊥
is_refused n h = eqb-false n 0 (not_true _ h)
  where
    not_true : (b : Bool) → not b ≡ true → b ≡ false
    not_true true e = sym e
    not_true false e = refl

not_refused : (n : ℕ) → not (eqb n 0) ≡ false → n ≡ 0
not_refused n h = eqb-true n 0 (not_false _ h)
  where
    not_false : (b : Bool) → not b ≡ false → b ≡ true
    not_false true e = refl
    not_false false e = sym e

pub returns : goal.returns
returns c =
    let a = c.args in
    let seen_is = ap (λ y. y.answer.number) c.parsed.view_is in
    elim c.if-ne.branch [
      | then-ne w ↦
          leaves_refused c.requires c.parse_metadata-parsed.ensures
          (λ z. is_refused _ (sym c.ne.ensures ∙ w.if-ne.true) (seen_is ∙ z))
          (w.store-is ∙ w.fill.ensures.after (λ y e. e))
      | else-ne w ↦
          rw w.store-is
          (leaves_good c.requires c.parse_metadata-parsed.ensures
          (scan_number a.whole a.s.now (said_number a.whole a.s.now)) (sym seen_is ∙ not_refused _ (sym c.ne.ensures ∙ w.if-ne.false)))
    ]

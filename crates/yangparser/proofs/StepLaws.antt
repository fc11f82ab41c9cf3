-- One statement or token: after the gap the keyword decides, and what an import adds has no includes and the other way round.
-- Assumes nothing.
use Rattle.std.specs.Prelude.{Ok, Err, None, Result}
use mathlib.Core.Path.{◌≡◌, refl, sym, ap, subst, ◌∙◌}
use mathlib.Core.Bool.{Bool}
use mathlib.Core.List.{List, []}
use Prim.Native.Nat.{ℕ, ◌<◌, ◌≤◌}
use lib.Dec.{leb}
use lib.ListN.{length}
use borrow.Author.Tests.{le-leb, lt-leb, leb-true, leb-false}
use Rattle.text.specs.Scan.{gap_end}
use Rattle.text.proofs.Here.{by_test}
use Rattle.scan_rows.specs.Rows.{most_rows}
use Rattle.scan_imports.specs.Statement.{import_at, include_at}
use Rattle.yangparser.specs.Dependencies.{Dependencies, none, Step, import_step, include_step, unless_full, import_here, include_here, head_step, step_here}
use Rattle.yangparser.specs.Dependencies.{step_at}
use Rattle.scan_head.specs.Head.{head_at}
use Rattle.yangparser.specs.declared.Sofar.{Sofar}
use Rattle.scan_head.specs.declared.Head.{Head}
use Rattle.yangparser.proofs.AddLaws.{full_is, room_is}
use Rattle.text.specs.declared.Cursor.{Cursor}
use Rattle.scan_rows.specs.declared.YangImport.{YangImport}
use Rattle.scan_rows.specs.declared.YangInclude.{YangInclude}
use Rattle.text.specs.declared.Refusal.{Refusal}

-- ---- rows of one kind only

-- what holds of nothing added and of a step holds of the step unless the rows are full
pub unless_full_lem : (P : Dependencies → Type 0) (rows k at : ℕ) (x : Step) → P none → P x.adds → P (unless_full rows k at x).adds
unless_full_lem P rows k at x p q =
    by_test (leb most_rows rows)
    (λ t. subst (λ z. P z.adds) (sym (full_is rows k at x (leb-true most_rows rows t))) p)
    (λ t. subst (λ z. P z.adds) (sym (room_is rows k at x (leb-false most_rows rows t))) q)

pub import_only : (whole : Bool) (s : List ℕ) (far : Sofar) (at : ℕ) → (import_here whole s far at).adds.includes ≡ []
unfolding import_here import_step
import_only whole s far at =
    unless_full_lem (λ d. d.includes ≡ []) far.imports 8 at (import_step far (import_at whole s at far.used).bytes
    (import_at whole s at far.used).answer) refl
    (only (import_at whole s at far.used).bytes (import_at whole s at far.used).answer)
  where
    only : (bs : List ℕ) (x : Result (Cursor × ℕ × YangImport) Refusal) → (import_step far bs x).adds.includes ≡ []
    only bs (Ok (c, n, i)) = refl
    only bs (Err r) = refl

pub include_only : (whole : Bool) (s : List ℕ) (far : Sofar) (at : ℕ) → (include_here whole s far at).adds.imports ≡ []
unfolding include_here include_step
include_only whole s far at =
    unless_full_lem (λ d. d.imports ≡ []) far.includes 9 at (include_step far (include_at whole s at far.used).bytes
    (include_at whole s at far.used).answer) refl
    (only (include_at whole s at far.used).bytes (include_at whole s at far.used).answer)
  where
    only : (bs : List ℕ) (x : Result (Cursor × ℕ × YangInclude) Refusal) → (include_step far bs x).adds.imports ≡ []
    only bs (Ok (c, n, i)) = refl
    only bs (Err r) = refl

-- ---- what a step is; g after the gap, w the keyword there

module _ (whole : Bool) (s : List ℕ) (far : Sofar) {g : ℕ} (ge : g ≡ gap_end s far.at) where
  pub step_past : length s ≤ g → step_at whole s far ≡ record { answer = (Ok None); adds = none }
  unfolding step_at step_here
  step_past h = rw (← ge) (rw (le-leb (length s) g h) refl)

  pub step_head : g < length s → {w y : Head} → w ≡ head_at s g → w ≡ y → step_at whole s far ≡ head_step whole s far g y
  unfolding step_at step_here
  step_head h we q = rw (← ge) (rw (lt-leb (length s) g h) (ap (head_step whole s far g) (sym we ∙ q)))

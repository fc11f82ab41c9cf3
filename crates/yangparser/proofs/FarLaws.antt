-- How far one step of the scan goes and what it adds: it stands within the text, takes more bytes than it stores, adds a row only where there is
-- room for one, and the row's values lie in the bytes added.
-- Assumes nothing.
use Rattle.std.specs.Prelude.{Ok, Err, Some, None, Result, Option}
use mathlib.Core.Path.{◌≡◌, refl, sym, subst}
use mathlib.Core.Bool.{Bool}
use mathlib.Core.List.{List, []}
use Prim.Native.Nat.{ℕ, ◌+◌, ◌-◌, ◌<◌, ◌≤◌}
use native.Mathlib.Omega.{arith}
use lib.Dec.{leb}
use lib.ListN.{length}
use borrow.Author.Tests.{leb-true, leb-false}
use Rattle.text.specs.Scan.{gap_end}
use Rattle.text.proofs.Here.{by_test}
use Rattle.text.proofs.Laws.{gap_from}
use Rattle.text_skip.specs.Skip.{past_token}
use Rattle.text_past.proofs.PastLaws.{refused_within}
use Rattle.text_skip.proofs.PastLaws.{past_token_far, past_token_not}
use Rattle.scan_rows.specs.Rows.{most_rows}
use Rattle.scan_imports.specs.Statement.{import_at, include_at}
use Rattle.scan_imports.proofs.ReachLaws.{ImportSaid, import_said, IncludeSaid, include_said}
use Rattle.yangparser.specs.Dependencies.{Dependencies, none, Step, import_step, include_step, full, unless_full, import_here, include_here, moved_to}
use Rattle.yangparser.specs.Dependencies.{after_token, head_step, step_at}
use Rattle.scan_head.specs.Head.{head_at}
use Rattle.yangparser.specs.declared.Sofar.{Sofar}
use Rattle.scan_head.specs.declared.Head.{Head}
use Rattle.scan_head.specs.declared.Head.TheVariants.{Import, Include, Last, Other}
use Rattle.yangparser.proofs.AddLaws.{full_is, room_is}
use Rattle.yangparser.proofs.Placed.{import_more, include_more, Placed, placed_bytes, placed_import, placed_include}
use Rattle.yangparser.proofs.StepLaws.{step_past, step_head}
use Rattle.scan_head.proofs.HeadLaws.{head_import_far, head_include_far}
use Rattle.text.specs.declared.Cursor.{Cursor}
use Rattle.scan_rows.specs.declared.YangImport.{YangImport}
use Rattle.scan_rows.specs.declared.YangInclude.{YangInclude}
use Rattle.text.specs.declared.Refusal.{Refusal}

-- from far, with a added
abbrev pub Went : List ℕ → Sofar → Dependencies → Result (Option Sofar) Refusal → Type 0
Went s far a (Ok (Some n)) =
    (far.at + length a.bytes < n.at) × (n.at ≤ length s) × (n.used ≡ far.used + length a.bytes)
    × (n.imports ≡ far.imports + length a.imports) × (n.includes ≡ far.includes + length a.includes)
Went s far a (Ok None) = a ≡ none
Went s far a (Err r) = far.at ≤ length s → r.at ≤ length s

pub record Said (s : List ℕ) (far : Sofar) (x : Step) : Type 0 where
  pub went : Went s far x.adds x.answer
  pub fits : length x.adds.bytes ≤ length s - far.at
  pub placed : Placed far.used (far.used + length x.adds.bytes) x.adds
  pub few_imports : far.imports ≤ most_rows → far.imports + length x.adds.imports ≤ most_rows
  pub few_includes : far.includes ≤ most_rows → far.includes + length x.adds.includes ≤ most_rows

-- nothing is added
said_none : (s : List ℕ) (far : Sofar) (r : Result (Option Sofar) Refusal) → Went s far none r → Said s far (record { answer = r; adds = none })
said_none s far r w = record {
  went = w;
  fits = omega arith;
  placed = placed_bytes far.used (far.used + 0) (omega arith) [];
  few_imports = λ h. omega arith;
  few_includes = λ h. omega arith;
}

-- bytes of a refused statement
said_bytes : (s : List ℕ) (far : Sofar) (r : Result (Option Sofar) Refusal) (bs : List ℕ) → Went s far (record { imports = []; includes = []; bytes = bs }) r
    → length bs ≤ length s - far.at
    → Said s far (record { answer = r; adds = record { imports = []; includes = []; bytes = bs } })
said_bytes s far r bs w h = record {
  went = w;
  fits = h;
  placed = placed_bytes far.used (far.used + length bs) (omega arith) bs;
  few_imports = λ h. omega arith;
  few_includes = λ h. omega arith;
}

-- at: behind the keyword
module _ (s : List ℕ) (far : Sofar) (at : ℕ) (behind : far.at < at) (in-text : at ≤ length s) where
  said_unless : (rows k : ℕ) (x : Step) → (rows < most_rows → Said s far x) → Said s far (unless_full rows k at x)
  said_unless rows k x said =
      by_test (leb most_rows rows)
      (λ t. subst (Said s far) (sym (full_is rows k at x (leb-true most_rows rows t)))
      (said_none s far (full k at) (λ h. in-text)))
      (λ t. let h = leb-false most_rows rows t in subst (Said s far) (sym (room_is rows k at x h)) (said h))

  import_went : (bs : List ℕ) (x : Result (Cursor × ℕ × YangImport) Refusal) → ImportSaid s at far.used bs x → far.imports < most_rows → Said s far (import_step far bs x)
  unfolding import_step
  import_went bs (Ok (c, n, i)) d h = record {
    went = (omega (arith, d.0), d.1, d.2, refl, omega arith);
    fits = omega (arith, d.0, d.1);
    placed =
        placed_import far.used (far.used + length bs) i bs
        (import_more (omega arith) (omega (arith, d.2)) i (d.3, d.4, d.5)) (omega (arith, d.2, d.6));
    few_imports = λ k. omega arith;
    few_includes = λ k. omega arith;
  }
  import_went bs (Err r) d h = said_bytes s far (Err r) bs (λ k. d.1 in-text) (omega (arith, d.0))

  include_went : (bs : List ℕ) (x : Result (Cursor × ℕ × YangInclude) Refusal) → IncludeSaid s at far.used bs x → far.includes < most_rows → Said s far (include_step far bs x)
  unfolding include_step
  include_went bs (Ok (c, n, i)) d h = record {
    went = (omega (arith, d.0), d.1, d.2, omega arith, refl);
    fits = omega (arith, d.0, d.1);
    placed =
        placed_include far.used (far.used + length bs) i bs
        (include_more (omega arith) (omega (arith, d.2)) i (d.3, d.4)) (omega (arith, d.2, d.5));
    few_imports = λ k. omega arith;
    few_includes = λ k. omega arith;
  }
  include_went bs (Err r) d h = said_bytes s far (Err r) bs (λ k. d.1 in-text) (omega (arith, d.0))

  import_here_lem : (whole : Bool) → Said s far (import_here whole s far at)
  unfolding import_here
  import_here_lem whole =
      let x = import_at whole s at far.used in
      said_unless far.imports 8 (import_step far x.bytes x.answer) (import_went x.bytes x.answer (import_said whole s at far.used))

  include_here_lem : (whole : Bool) → Said s far (include_here whole s far at)
  unfolding include_here
  include_here_lem whole =
      let x = include_at whole s at far.used in
      said_unless far.includes 9 (include_step far x.bytes x.answer) (include_went x.bytes x.answer (include_said whole s at far.used))

-- at the place g after the gap
token_went : (whole : Bool) (s : List ℕ) (far : Sofar) (g : ℕ) → far.at ≤ g → g < length s → (x : Result Cursor Refusal) → past_token whole s g ≡ x
    → Went s far none (after_token far x)
unfolding after_token moved_to
token_went whole s far g from in-text (Ok c) e =
    let f = past_token_far whole s g in-text c e in (omega (arith, f.0), f.1, omega arith, omega arith, omega arith)
token_went whole s far g from in-text (Err r) e = λ i. refused_within s r (past_token_not whole s g r e)

head_said : (whole : Bool) (s : List ℕ) (far : Sofar) (g : ℕ) → far.at ≤ g → g < length s → (w : Head) → head_at s g ≡ w
    → Said s far (head_step whole s far g w)
unfolding head_step
head_said whole s far g from in-text (Import c) h =
    let f = head_import_far s g c h in import_here_lem s far c.at (omega (arith, f.0)) f.1 whole
head_said whole s far g from in-text (Include c) h =
    let f = head_include_far s g c h in include_here_lem s far c.at (omega (arith, f.0)) f.1 whole
head_said whole s far g from in-text (Last c) h = said_none s far (Ok None) refl
head_said whole s far g from in-text Other h =
    said_none s far (after_token far (past_token whole s g)) (token_went whole s far g from in-text (past_token whole s g) refl)

pub step_said : (whole : Bool) (s : List ℕ) (far : Sofar) → Said s far (step_at whole s far)
step_said whole s far =
    let g = gap_end s far.at in
    by_test (leb (length s) g)
    (λ t. subst (Said s far) (sym (step_past whole s far refl (leb-true (length s) g t))) (said_none s far (Ok None) refl))
    (λ t. let h = leb-false (length s) g t in
    subst (Said s far) (sym (step_head whole s far refl h refl refl)) (head_said whole s far g (gap_from s far.at) h (head_at s g) refl))

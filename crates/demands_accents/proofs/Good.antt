-- A call that reads its text reads valid UTF-8: any other is refused by 12.
-- Assumes nothing.
use Rattle.std.specs.Prelude.{Ok, Err, Result}
use mathlib.Core.Path.{◌≡◌, sym, ◌∙◌}
use mathlib.Core.Bool.{Bool}
use mathlib.Core.List.{List}
use Prim.Native.Nat.{ℕ}
use native.Mathlib.Omega.{arith}
use Rattle.text_lent.specs.Lent.{lent_at}
use Rattle.yangparser.specs.Dependencies.{Dependencies, good, scanned, if_fit, dependencies, parsed_of}
use Rattle.yangparser.specs.declared.Rows.{Rows}
use Rattle.yangparser.proofs.KeptLaws.{parsed_good}
use Rattle.scan_metadata.specs.Metadata as Metadata
use Rattle.scan_metadata.specs.Metadata.{Metadata}
use Rattle.demands_scans.proofs.ScanNumbers.{LentIs, lent_is}
use Rattle.demands_accents.specs.Valid.{Valid}
use Rattle.text.specs.declared.Refusal.{Refusal}

module _ (mode : Bool) (s : List ℕ) (z : Bool) where
  pub good_text : (x : Dependencies) → dependencies mode s z ≡ good x → Valid s
  unfolding dependencies if_fit
  good_text x h = of (lent_at s z) (lent_is s z) h
    where
      of : (l : Result (Unit {0}) Refusal) → LentIs s z l → if_fit l (scanned mode s) ≡ good x → Valid s
      of (Ok tt) f h = f.utf8
      of (Err r) f h = let z : ◌≡◌ {A = ℕ} 0 1 = cc in absurd (omega arith)

  -- r: the answer
  pub good_valid : {r : Result Rows Refusal} → r ≡ parsed_of (dependencies mode s z) → (i j n : ℕ) → r ≡ Ok (record { imports = i; includes = j; used = n }) → Valid s
  good_valid e i j n h = let k = parsed_good (dependencies mode s z) i j n (sym e ∙ h) in good_text k.0 k.1

  pub metadata_valid : (m : Metadata) → Metadata.metadata mode s z ≡ Metadata.good m → Valid s
  unfolding Metadata.metadata Metadata.if_fit
  metadata_valid m h = of (lent_at s z) (lent_is s z) h
    where
      of : (l : Result (Unit {0}) Refusal) → LentIs s z l → Metadata.if_fit l (Metadata.scanned mode s) ≡ Metadata.good m → Valid s
      of (Ok tt) f h = f.utf8
      of (Err r) f h = let z : ◌≡◌ {A = ℕ} 0 1 = cc in absurd (omega arith)

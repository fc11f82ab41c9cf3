-- The newest revision of every good metadata scan is the right one: each revision is stored as it was read, and the laws of newest hold for any such list.
-- Assumes nothing.
use Rattle.std.specs.Prelude.{Ok, Err, Result}
use mathlib.Core.Path.{◌≡◌, refl, ap, ◌∙◌}
use mathlib.Core.Bool.{Bool}
use mathlib.Core.List.{List, [], ◌∷◌}
use Prim.Native.Nat.{ℕ}
use Rattle.scan_rows.specs.Rows.{Each}
use Rattle.scan_rows.specs.Span.{value_in}
use Rattle.scan_rows.proofs.Laws.{each_of}
use Rattle.scan_newest.specs.Newest.{Revision, Read, newest, First}
use Rattle.scan_newest.proofs.NewestLaws.{newest_none, newest_present, newest_greatest, newest_first, newest_valued}
use native.Mathlib.Omega.{arith}
use Rattle.text_lent.specs.Lent.{lent_at}
use Rattle.scan_metadata.specs.Metadata.{Metadata, Scan, good, scanned, if_fit, metadata}
use Rattle.scan_metadata.proofs.ScanLaws.{Kept, scan_placed}
use Rattle.demands_scans.specs.Newest.{NewestIsRight, NewestRight}
use Rattle.text.specs.declared.Refusal.{Refusal}

some_present : (rs : List Revision) → Each Read rs → (rs ≡ [] → ⊥) → Read (newest rs)
some_present [] h n = absurd (n refl)
some_present (r ∷ rs) h n = newest_present r rs h

some_first : (rs : List Revision) → Each Read rs → (rs ≡ [] → ⊥) → First rs (newest rs)
some_first [] h n = absurd (n refl)
some_first (r ∷ rs) h n = newest_first r rs h

of_scanned : (whole : Bool) (s : List ℕ) (m : Metadata) → scanned whole s ≡ good m → NewestIsRight m
of_scanned whole s m h =
    let rs = m.revisions in
    let kept = (scan_placed whole s m h).revisions in
    let read : Each Read rs = each_of (Kept m.bytes) Read (λ r k. k.0) rs kept in
    record {
      none = λ e. ap (λ z. (newest z).span) e ∙ ap (λ z. z.span) newest_none;
      some = some_present rs read;
      greatest = newest_greatest rs read;
      first = some_first rs read;
      stored = newest_valued m.bytes rs (each_of (Kept m.bytes) (λ r. value_in m.bytes r.span ≡ r.value) (λ r k. k.2) rs kept);
    }

-- a good scan is one that fits
fitted : (l : Result (Unit {0}) Refusal) (x : Scan) (m : Metadata) → if_fit l x ≡ good m → x ≡ good m
unfolding if_fit
fitted (Ok tt) x m h = h
fitted (Err r) x m h = let z : ◌≡◌ {A = ℕ} 0 1 = cc in absurd (omega arith)

pub newest_is_right : NewestRight
unfolding metadata
newest_is_right whole s short m h = of_scanned whole s m (fitted (lent_at s short) (scanned whole s) m h)

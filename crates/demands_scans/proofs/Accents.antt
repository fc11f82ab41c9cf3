-- What 3 and 12 tell: of the refusals by number and keyword only one has each of these numbers.
-- Assumes nothing.
use mathlib.Core.Path.{◌≡◌, refl, sym, ap, subst, ◌∙◌}
use mathlib.Core.Bool.{Bool, true, false}
use mathlib.Core.List.{List, [], ◌∷◌}
use Prim.Native.Nat.{ℕ, zero, suc, ◌<◌, ◌≤◌}
use native.Mathlib.Omega.{arith}
use lib.Dec.{leb}
use lib.ListN.{length, get_or}
use Rattle.text.specs.Refusal.{is_high, MetHigh}
use Rattle.text.specs.declared.Refusal.{Refusal}
use Rattle.text.proofs.Here.{by_test, inside}
use Rattle.text.proofs.HighLaws.{high_said, met_within}
use Rattle.text_utf8.specs.Largest.{larger, largest}
use Rattle.text_utf8.specs.Utf8.{wrong_from}
use Rattle.text_utf8.proofs.Utf8Laws.{low_end}
use Rattle.scan_rows.specs.Rows.{Each}
use Rattle.demands_scans.specs.Accents.{Three, Tells, Met, Neither, LowAsBefore}
use Rattle.demands_scans.specs.Refusals.{FirstRefusal, too_long, too_little, not_utf8, Fits, RefusedAs, first, read, MetRefusal, high, other}
use Rattle.demands_scans.specs.Refusals.{WholeRefusal, cut_short, as_before, ModeRefusal}
use Rattle.demands_scans.proofs.ScanNumbers.{FourToTen, dependencies_number}
use Rattle.demands_scans.proofs.MetadataNumbers.{metadata_number}
use Rattle.demands_scans.proofs.WholeNumbers.{dependencies_mode_refused, metadata_mode_refused}

-- ---- 3 and 12

three_of : (s : List ℕ) (r : Refusal) → MetHigh s r → Three s r
three_of s r m =
    let l = met_within s r m in record {
      keyword = ap (λ q. q.keyword) m.0;
      within = l;
      above = omega (arith, (high_said (get_or s r.at 256) m.1).0, inside s r.at 0 256 l);
    }

module _ {Read : Refusal → Type 0} (f : (q : Refusal) → Read q → FourToTen q.number) (s : List ℕ) (r : Refusal) where
  met_three : MetRefusal Read s r → r.number ≡ 3 → Three s r
  met_three (high m) z = three_of s r m
  met_three (other h) z = absurd (omega (arith, z, f r h))

  mode_three : (whole : Bool) → ModeRefusal whole Read s r → r.number ≡ 3 → Three s r
  mode_three true (cut_short e) z = absurd (omega (arith, z, ap (λ q. q.number) e))
  mode_three true (as_before h) z = met_three h z
  mode_three false h z = met_three h z

  met_under : MetRefusal Read s r → r.number ≤ 11
  met_under (high m) = omega (arith, ap (λ q. q.number) m.0)
  met_under (other h) = omega (arith, f r h)

  mode_under : (whole : Bool) → ModeRefusal whole Read s r → r.number ≤ 11
  mode_under true (cut_short e) = omega (arith, ap (λ q. q.number) e)
  mode_under true (as_before h) = met_under h
  mode_under false h = met_under h

  module _ (short : Bool) where
    first_three : FirstRefusal s short r → r.number ≡ 3 → Three s r
    first_three (too_long h e) z = absurd (omega (arith, z, ap (λ q. q.number) e))
    first_three (too_little h k e) z = absurd (omega (arith, z, ap (λ q. q.number) e))
    first_three (not_utf8 h k l e) z = absurd (omega (arith, z, ap (λ q. q.number) e))

    tells : (whole : Bool) → RefusedAs (ModeRefusal whole Read s) s short r → Tells s short r
    tells whole (first h) = record { three = first_three h; twelve = λ z. h }
    tells whole (read fit h) = record { three = mode_three whole h; twelve = λ z. absurd (omega (arith, z, mode_under whole h)) }

pub met : Met
met = record {
  dependencies = λ whole s short r d e. tells dependencies_number s r short whole (dependencies_mode_refused s short r d whole e);
  metadata = λ whole s short r bs e. tells metadata_number s r short whole (metadata_mode_refused s short r bs whole e);
}

-- ---- a text of bytes below 128

larger_low : (a b : ℕ) → a < 128 → b < 128 → larger a b < 128
unfolding larger
larger_low a b h k = by_test (leb b a) (λ t. rw t h) (λ t. rw t k)

largest_low : (most : ℕ) (xs : List ℕ) → most < 128 → Each (λ b. b < 128) xs → largest most xs < 128
unfolding largest Each
largest_low most [] h e = h
largest_low most (b ∷ xs) h e = largest_low (larger most b) xs (larger_low most b h e.0) e.1

low_utf8 : (s : List ℕ) → Each (λ b. b < 128) s → wrong_from s 0 ≡ length s
low_utf8 s e = low_end s refl (largest_low 0 s (omega arith) e)

low_at : (s : List ℕ) (i : ℕ) → Each (λ b. b < 128) s → get_or s i 0 < 128
unfolding Each
low_at [] i e = omega arith
low_at (b ∷ s) zero e = e.0
low_at (b ∷ s) (suc i) e = low_at s i e.1

neither : (s : List ℕ) (short : Bool) (r : Refusal) → Each (λ b. b < 128) s → Tells s short r → Neither r
neither s short r e t = (λ z. omega (arith, (t.three z).above, low_at s r.at e), λ z. wrong (t.twelve z) z)
  where
    wrong : FirstRefusal s short r → r.number ≡ 12 → ⊥
    wrong (too_long h q) z = omega (arith, z, ap (λ x. x.number) q)
    wrong (too_little h k q) z = omega (arith, z, ap (λ x. x.number) q)
    wrong (not_utf8 h k l q) z = omega (arith, l, low_utf8 s e)

pub low_as_before : LowAsBefore
low_as_before = record {
  end = low_utf8;
  dependencies = λ whole s short r d l e. neither s short r l (met.dependencies whole s short r d e);
  metadata = λ whole s short r bs l e. neither s short r l (met.metadata whole s short r bs e);
}

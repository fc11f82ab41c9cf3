-- A metadata record in words: each value lies within the bytes stored, which are no more than the text's, so its numbers fit their words.
-- Assumes nothing.
use Rattle.std.specs.Prelude.{Ok, Err, Result}
use mathlib.Core.Path.{◌≡◌, refl, sym, ap, subst, ◌∙◌}
use mathlib.Core.Bool.{Bool}
use mathlib.Core.List.{List, [], ◌∷◌}
use Prim.Native.Nat.{ℕ, ◌<◌, ◌≤◌}
use native.Mathlib.Omega.{arith}
use lib.Dec.{ltb}
use lib.ListN.{length}
use borrow.Author.Tests.{ltb-true, ltb-false}
use Rattle.text.specs.declared.Refusal.{Refusal}
use Rattle.text.proofs.Here.{by_test}
use Rattle.text_lent.specs.Lent.{lent_at}
use Rattle.text_lent.proofs.LentLaws.{lent_long, lent_within, fit_said}
use Rattle.scan_rows.specs.Rows.{Each}
use Rattle.scan_rows.specs.Span.{missing, Fits, Within}
use Rattle.scan_rows.specs.declared.Span.{Span}
use Rattle.scan_rows.proofs.Laws.{each_of}
use Rattle.scan_metadata.specs.Metadata.{values_of, Scan, good, bad, scanned, if_fit, metadata, refused_with, answer_of}
use Rattle.scan_metadata.specs.Promises.{Leaves}
use Rattle.scan_metadata.specs.declared.YangModuleMetadata.{YangModuleMetadata}
use Rattle.scan_metadata.proofs.ScanLaws.{scan_good, scan_bad}
use Rattle.scan_metadata.proofs.ValuesLaws.{values_six}
use Rattle.host_words.specs.Words.{record_words}
use Rattle.nuvaleta.specs.Record.{Described}

-- ---- what an answer tells

-- the record of a scan has six values that fit, its place and its count fit
pub record Small (m : YangModuleMetadata) : Type 0 where
  pub six_values : length m.values ≡ 6
  pub fit : Each Fits m.values
  pub place : m.answer.at < 4294967296
  pub count : m.used < 4294967296

within_fits : (n : ℕ) → n ≤ 1048576 → (x : Span) → Within n x → Fits x
within_fits n h x w = (omega (arith, w), omega (arith, w))

refused_small : (r : Refusal) → r.at ≤ 1048576 → Small (refused_with r)
unfolding refused_with Each
refused_small r h = record {
  six_values = refl;
  fit = (w, (w, (w, (w, (w, (w, tt))))));
  place = omega (arith, h);
  count = omega arith;
}
  where
    w : Fits missing
    w = (omega arith, omega arith)

scan_small : (whole : Bool) (s : List ℕ) → length s ≤ 1048576 → (x : Scan) → scanned whole s ≡ x → Small (answer_of x)
unfolding answer_of
scan_small whole s l (good m) h =
    let k = scan_good whole s m h in
    record {
      six_values = values_six m;
      fit = each_of (Within (length m.bytes)) Fits (within_fits (length m.bytes) (omega (arith, k.1))) (values_of m) k.0;
      place = omega arith;
      count = omega (arith, k.1);
    }
scan_small whole s l (bad r bs) h = refused_small r (omega (arith, (scan_bad whole s r bs h).0))

lent_small : (whole : Bool) (s : List ℕ) (short : Bool) (x : Result (Unit {0}) Refusal) → lent_at s short ≡ x → Small (answer_of (if_fit x (scanned whole s)))
unfolding if_fit answer_of
lent_small whole s short (Ok tt) h = scan_small whole s (fit_said s short h).0 (scanned whole s) refl
lent_small whole s short (Err r) h =
    by_test (ltb 1048576 (length s))
    (λ t. let e : Err (record { number = 1; keyword = 0; at = 0 }) ≡ Err r = lent_long s short (ltb-true 1048576 (length s) t) ∙ h in
    let k : 0 ≡ r.at = cc in refused_small r (omega (arith, k)))
    (λ t. refused_small r (omega (arith, ltb-false 1048576 (length s) t, lent_within s short r h)))

module _ (whole : Bool) (s : List ℕ) (short : Bool) (d : List ℕ) {m : YangModuleMetadata} {e : List ℕ} (w : Leaves (metadata whole s short) d m e) where
  pub small : Small m
  unfolding metadata
  small = subst Small (sym w.answer) (lent_small whole s short (lent_at s short) refl)

  pub described : {n : ℕ} {v a : List ℕ} → v ≡ record_words m.values → a ≡ m.answer.number ∷ m.answer.keyword ∷ m.answer.at ∷ m.used ∷ []
      → n ≡ m.answer.number
      → Described (metadata whole s short) d n e v a
  described ve ae ne = record {
    stored = w.stored;
    words = ve ∙ ap (λ x. record_words x.values) w.answer;
    number = ne ∙ ap (λ x. x.answer.number) w.answer;
    answer = ae ∙ ap (λ x. x.answer.number ∷ x.answer.keyword ∷ x.answer.at ∷ x.used ∷ []) w.answer;
  }

-- The entry: what a scan writes into zeros is what it read and zeros behind it, and a refusal, which its number tells, leaves zeros.
-- w: the whole-text mode.
-- Assumes nothing.
use Rattle.std.specs.Prelude.{Ok, Err, Result}
use mathlib.Core.Path.{◌≡◌, refl, sym, ap, subst, ◌∙◌}
use mathlib.Core.Bool.{Bool}
use mathlib.Core.List.{List, []}
use Prim.Native.Nat.{ℕ, ◌<◌, ◌≤◌}
use native.Mathlib.Omega.{arith}
use lib.Dec.{ltb}
use lib.ListN.{length, length-replicate}
use lib.Seq.{length-sets}
use borrow.Author.Tests.{ltb-false}
use Rattle.text.specs.declared.Refusal.{Refusal}
use Rattle.text_lent.specs.Lent.{lent_at}
use Rattle.text_lent.specs.Padded.{zeros, padded}
use Rattle.text_lent.proofs.Clears.{written_zero, padded_none}
use Rattle.text_lent.proofs.LentLaws.{fit_said}
use Rattle.scan_metadata.specs.Metadata.{Scan, good, bad, scanned, if_fit, metadata, refused_with, answer_of, stored_of, kept_of}
use Rattle.scan_metadata.specs.Promises.{Parses, Cleared, Leaves, Extracts}
use Rattle.scan_metadata.specs.declared.YangModuleMetadata.{YangModuleMetadata}
use Rattle.scan_metadata.proofs.ScanLaws.{scan_good, scan_bad}

-- ---- what is kept

kept_good : (x : Scan) → ((r : Refusal) (bs : List ℕ) → x ≡ bad r bs → 0 < r.number) → (answer_of x).answer.number ≡ 0 → kept_of x ≡ stored_of x
unfolding answer_of refused_with kept_of stored_of
kept_good (good m) n h = refl
kept_good (bad r bs) n h = absurd (omega (arith, n r bs refl))

kept_bad : (x : Scan) → ((answer_of x).answer.number ≡ 0 → ⊥) → kept_of x ≡ []
unfolding answer_of kept_of
kept_bad (good m) h = absurd (h refl)
kept_bad (bad r bs) h = refl

stored_short : (w : Bool) (s : List ℕ) (x : Scan) → scanned w s ≡ x → length (stored_of x) ≤ length s
unfolding stored_of
stored_short w s (good m) h = (scan_good w s m h).1
stored_short w s (bad r bs) h = (scan_bad w s r bs h).1

-- ---- the scan over zeros; e: after it

module _ {w : Bool} {s d : List ℕ} (c : Cleared s d) {r : YangModuleMetadata} {e : List ℕ} (p : Parses w s d r e) where
  -- numbered: by `scan_number`
  pub leaves_good : ((q : Refusal) (bs : List ℕ) → scanned w s ≡ bad q bs → 0 < q.number) → r.answer.number ≡ 0 → Leaves (scanned w s) d r e
  leaves_good numbered h =
      let x = scanned w s in
      let k : kept_of x ≡ stored_of x = kept_good x numbered (ap (λ y. y.answer.number) (sym p.answer) ∙ h) in
      record {
        answer = p.answer;
        stored = written_zero d (stored_of x) c.store p.stored (omega (arith, stored_short w s x refl, c.room)) ∙ ap (padded (length d)) (sym k);
      }

  pub leaves_refused : (r.answer.number ≡ 0 → ⊥) → {e' : List ℕ} → e' ≡ zeros (length e) → Leaves (scanned w s) d r e'
  leaves_refused h q =
      let x = scanned w s in
      let k : kept_of x ≡ [] = kept_bad x (λ z. h (ap (λ y. y.answer.number) p.answer ∙ z)) in
      let l : length e ≡ length d = ap length p.stored ∙ length-sets d 0 (stored_of x) in
      record { answer = p.answer; stored = q ∙ ap zeros l ∙ padded_none (length d) ∙ ap (padded (length d)) (sym k) }

-- ---- the entry; d: what was lent, e: the same cleared

module _ (w : Bool) (s d : List ℕ) {e : List ℕ} (ee : e ≡ zeros (length d)) {short : Bool} (se : short ≡ ltb (length e) (length s)) {lent : Result (Unit {0}) Refusal}
    (le : lent ≡ lent_at s short) where
  as_long : length e ≡ length d
  as_long = ap length ee ∙ length-replicate {A = ℕ} (length d) 0

  scan_is : {x : Result (Unit {0}) Refusal} → lent ≡ x → metadata w s (ltb (length d) (length s)) ≡ if_fit x (scanned w s)
  unfolding metadata
  scan_is h =
      ap (λ n. if_fit (lent_at s (ltb n (length s))) (scanned w s)) (sym as_long)
      ∙ ap (λ b. if_fit (lent_at s b) (scanned w s)) (sym se) ∙ ap (λ l. if_fit l (scanned w s)) (sym le ∙ h)

  pub entry_cleared : lent ≡ (Ok tt) → Cleared s e
  entry_cleared h =
      let k = fit_said s short (sym le ∙ h) in
      record { store = ee ∙ ap zeros (sym as_long); room = ltb-false (length e) (length s) (sym se ∙ k.1) }

  pub entry_scanned : lent ≡ (Ok tt) → {r : YangModuleMetadata} {e' : List ℕ} → Leaves (scanned w s) e r e' → Extracts w s d r e'
  unfolding if_fit
  entry_scanned h {r} {e'} l =
      subst (λ x. Leaves x d r e') (sym (scan_is h))
      (record { answer = l.answer; stored = l.stored ∙ ap (λ n. padded n (kept_of (scanned w s))) as_long })

  pub entry_refused : (q : Refusal) → lent ≡ Err q → {r : YangModuleMetadata} → r ≡ refused_with q → Extracts w s d r e
  unfolding if_fit answer_of kept_of
  entry_refused q h {r} a =
      subst (λ x. Leaves x d r e) (sym (scan_is h)) (record { answer = a; stored = ee ∙ padded_none (length d) })

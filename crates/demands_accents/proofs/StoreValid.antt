-- What a call leaves in the store is what its scan stored, and that is characters.
-- Assumes nothing.
use Rattle.std.specs.Prelude.{Ok, Err, Result}
use mathlib.Core.Path.{◌≡◌, refl, sym, ap, subst, ◌∙◌}
use mathlib.Core.Bool.{Bool, false}
use mathlib.Core.List.{List, [], ◌++◌, append-nil}
use Prim.Native.Nat.{ℕ}
use native.Mathlib.Omega.{arith}
use lib.Dec.{ltb}
use lib.ListN.{length, get_or, take}
use lib.Seq.{sets, sets-eq, take-append_seam}
use Rattle.text_lent.specs.Lent.{lent_at}
use Rattle.text_lent.specs.Padded.{padded}
use Rattle.scan_rows.specs.Short.{is_too_short}
use Rattle.scan_rows.proofs.ShortLaws.{long_enough}
use Rattle.yangparser.specs.Dependencies.{Dependencies, good, dependencies, parsed_of, read_of, kept_of, page_short}
use Rattle.yangparser.specs.Promises.{Leaves, Parses, lent_scan}
use Rattle.yangparser.specs.declared.Rows.{Rows}
use Rattle.yangparser.proofs.KeptLaws.{entry_good, parsed_good}
use Rattle.scan_page.proofs.PageLaws.{good_sound}
use Rattle.scan_metadata.specs.Metadata as Metadata
use Rattle.nuvaleta.specs.Words.{answer_words}
use Rattle.demands_accents.specs.Valid.{Valid}
use Rattle.demands_accents.specs.StoreValid.{StoreValid}
use Rattle.demands_accents.proofs.Chars.{Chars, none, chars, valid}
use Rattle.demands_scans.proofs.ScanNumbers.{LentIs, lent_is}
use Rattle.demands_accents.proofs.Good.{good_text}
use Rattle.demands_accents.proofs.Stored.{scan_chars, metadata_chars}
use Rattle.demands_accents.proofs.ValuesValid.{used_valid}
use Rattle.text.specs.declared.Refusal.{Refusal}

-- ---- dependencies

module _ (mode : Bool) (s : List ℕ) (z : Bool) where
  good_chars : (x : Dependencies) → dependencies mode s z ≡ good x → Chars x.bytes
  unfolding read_of
  good_chars x h = subst (λ y. Chars (read_of y).bytes) (entry_good mode s z x h).0 (scan_chars mode (chars s (good_text mode s z x h)))

  module _ (d t u : List ℕ) {e f g : List ℕ} where
    left_stored : {r : Result Rows Refusal} → Leaves (dependencies mode s z) d t u r e f g → (i j n : ℕ) → r ≡ Ok (record { imports = i; includes = j; used = n }) → Valid (take n e)
    unfolding kept_of
    left_stored l i j n h =
        let k = parsed_good (dependencies mode s z) i j n (sym l.answer ∙ h) in
        let x = k.0 in
        used_valid (length d) n x.bytes (l.stored ∙ ap (λ y. padded (length d) (kept_of y).bytes) k.1) k.4 (good_chars x k.1)

    -- the count is the sixth word of the answer, with more words behind
    told_stored : Leaves (dependencies mode s z) d t u (parsed_of (dependencies mode s z)) e f g → (more : List ℕ) {a : List ℕ}
        → a ≡ answer_words (parsed_of (dependencies mode s z)) ++ more → Valid (take (get_or a 5 0) e)
    unfolding answer_words
    told_stored l more h = subst (λ w. Valid (take (get_or w 5 0) e)) (sym h) (of (parsed_of (dependencies mode s z)) refl)
      where
        of : (p : Result Rows Refusal) → parsed_of (dependencies mode s z) ≡ p → Valid (take (get_or (answer_words p ++ more) 5 0) e)
        of (Ok x) q = left_stored l x.imports x.includes x.used q
        of (Err y) q = valid none

-- scan_over writes over what the buffers held
over_stored : (mode : Bool) (s : List ℕ) (short : Bool) (d t u : List ℕ) {r : Result Rows Refusal} {e f g : List ℕ}
    → Parses (lent_scan mode s short d t u) d t u r e f g → (i j n : ℕ) → r ≡ Ok (record { imports = i; includes = j; used = n }) → Valid (take n e)
unfolding read_of
over_stored mode s short d t u {e = e} l i j n h =
    let z = is_too_short short (length s) (length d) (length t) (length u) in
    let k = parsed_good (dependencies mode s z) i j n (sym l.answer ∙ h) in
    let x = k.0 in
    let room = long_enough short (length s) (length d) (length t) (length u) (entry_good mode s z x k.1).2 in
    let sound = good_sound mode s z x k.1 in
    let q : e ≡ x.bytes ++ _ = l.holds.stored ∙ ap (λ y. sets d 0 (read_of y).bytes) k.1
    ∙ sets-eq x.bytes d 0 (omega (arith, sound.short, room.0)) in
    valid (subst Chars (sym (ap (λ m. take m e) k.4 ∙ ap (take (length x.bytes)) q ∙ take-append_seam x.bytes _)) (good_chars mode s z x k.1))

-- ---- metadata

module _ (mode : Bool) (s : List ℕ) (z : Bool) where
  kept_chars : Chars (Metadata.kept_of (Metadata.metadata mode s z))
  unfolding Metadata.metadata Metadata.if_fit Metadata.kept_of Metadata.stored_of
  kept_chars = of (lent_at s z) (lent_is s z) (Metadata.scanned mode s) (λ v. metadata_chars mode (chars s v))
    where
      of : (l : Result (Unit {0}) Refusal) → LentIs s z l → (x : Metadata.Scan) → (Valid s → Chars (Metadata.stored_of x)) → Chars (Metadata.kept_of (Metadata.if_fit l x))
      of (Ok tt) f (Metadata.good m) k = k f.utf8
      of (Ok tt) f (Metadata.bad r bs) k = none
      of (Err r) f x k = none

  -- the answer counts them
  kept_used : (Metadata.answer_of (Metadata.metadata mode s z)).used ≡ length (Metadata.kept_of (Metadata.metadata mode s z))
  unfolding Metadata.answer_of Metadata.refused_with Metadata.kept_of
  kept_used = of (Metadata.metadata mode s z)
    where
      of : (x : Metadata.Scan) → (Metadata.answer_of x).used ≡ length (Metadata.kept_of x)
      of (Metadata.good m) = refl
      of (Metadata.bad r bs) = refl

-- ---- all calls

abbrev short : List ℕ → Bool → List ℕ → List ℕ → List ℕ → Bool
short s b d t u = is_too_short b (length s) (length d) (length t) (length u)

abbrev short_page : List ℕ → List ℕ → List ℕ → List ℕ → List ℕ → Bool
short_page s d t u p = short s (page_short (length s) (length p)) d t u

pub store_valid : StoreValid
store_valid = record {
  dependencies = λ mode s b d t u l i j n h. left_stored mode s (short s b d t u) d t u l i j n h;
  over = λ mode s b d t u l i j n h. over_stored mode s b d t u l i j n h;
  printed = λ mode s d t u p l i j n h. left_stored mode s (short_page s d t u p) d t u l.scan i j n h;
  metadata = λ mode s d {r} {e} l. let z = ltb (length d) (length s) in
      used_valid (length d) r.used _ l.stored (ap (λ y. y.used) l.answer ∙ kept_used mode s z) (kept_chars mode s z);
  host_dependencies = λ mode s d t u l. told_stored mode s (short s false d t u) d t u l.scan [] (l.answer ∙ sym (append-nil _));
  host_printed = λ mode s d t u p l. told_stored mode s (short_page s d t u p) d t u l.scan _ l.answer;
  host_metadata = λ mode s d {n} {e} {w} {a} l. let z = ltb (length d) (length s) in
      used_valid (length d) (get_or a 3 0) _ l.stored (ap (λ y. get_or y 3 0) l.answer ∙ kept_used mode s z) (kept_chars mode s z);
}

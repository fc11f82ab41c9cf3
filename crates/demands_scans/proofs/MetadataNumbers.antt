-- The refusals of the metadata scan, by number and keyword: a value that is missing has 4, a byte that is due 5 or 6, each with the statement's keyword;
-- yang-version needs no value, and after belongs-to no byte is due.
-- Assumes nothing.
use Rattle.std.specs.Prelude.{Some, None, Ok, Err, Option, Result}
use Prim.Native.Nat.{ℕ, suc}
use mathlib.Core.Path.{◌≡◌, refl, ap, subst}
use mathlib.Core.Bool.{Bool, true, false}
use mathlib.Core.List.{List, [], ◌∷◌, ◌++◌}
use native.Mathlib.Omega.{arith}
use lib.Dec.{eqb, leb}
use lib.ListN.{length}
use Rattle.text.specs.Bytes.{look}
use Rattle.text.specs.Due.{due_at}
use Rattle.text.specs.Scan.{gap_end}
use Rattle.text.specs.Turns.{stop}
use Rattle.text.specs.declared.Refusal.{Refusal}
use Rattle.text.specs.declared.Cursor.{Cursor}
use Rattle.text.proofs.Here.{by_test, never}
use Rattle.text_value.specs.Argument.{argument_at}
use Rattle.text_skip.specs.Skip.{token_at, past_token, skipped_at, past_value}
use Rattle.text_statement.specs.Statement.{statement_at, past_statement}
use Rattle.text_skip.proofs.PassLaws.{skipped_refused}
use Rattle.text_skip.proofs.SkipLaws.{token_refused}
use Rattle.text_statement.proofs.StatementLaws.{statement_refused}
use Rattle.text_lent.specs.Lent.{lent_at}
use Rattle.scan_header.specs.Header.{due_for, after_revision, after_value, passed, kept, with_rest, field_at, after_skipped, later_prefix}
use Rattle.scan_header.specs.Header.{statement_said, tag_said, said_here, said_at}
use Rattle.scan_tag.specs.Tag.{last_tag, or_tag, data_at, tag_at}
use Rattle.scan_header.specs.declared.Heard.{Heard}
use Rattle.scan_header.specs.declared.Heard.TheVariants.{Value, Passed, Done}
use Rattle.scan_tag.specs.declared.Tag.{Tag}
use Rattle.scan_tag.specs.declared.Tag.TheVariants.{Statement}
use Rattle.scan_metadata.specs.Metadata.{Metadata, nothing, Scan, good, bad, ended, after_heard, metadata_turn, scan_from, scanned, if_fit, metadata}
use Rattle.demands_scans.specs.Refusals.{FirstRefusal, Fits, RefusedAs, first, read, HeaderRefusal, no_value, no_byte, MetadataRefusal, header, no_name}
use Rattle.demands_scans.specs.Refusals.{MetRefusal, high, other}
use Rattle.demands_scans.proofs.Loops.{turns_all}
use Rattle.demands_scans.proofs.ScanNumbers.{is_one, are_read, FourToTen, read_number_lem, refusal, of, DueIs, ArgumentIs, due_is, value_is, past_is}
use Rattle.demands_scans.proofs.ScanNumbers.{LentIs, lent_is, first_unfit}

pub header_number : (q : Refusal) → HeaderRefusal q → FourToTen q.number
unfolding are_read
header_number q (no_value o) = read_number_lem (4 ∷ []) o.number refl
header_number q (no_byte o) = read_number_lem (5 ∷ 6 ∷ []) o.number refl

pub metadata_number : (q : Refusal) → MetadataRefusal q → FourToTen q.number
unfolding are_read
metadata_number q (header h) = header_number q h
metadata_number q (no_name o) = read_number_lem (9 ∷ []) o.number refl

-- ---- what follows a value

module _ (s : List ℕ) where
  abbrev pub M : Refusal → Type 0
  M r = MetRefusal HeaderRefusal s r

  byte_is : (k : ℕ) → is_one k (1 ∷ 2 ∷ 4 ∷ 5 ∷ 6 ∷ 7 ∷ []) ≡ true → (at b : ℕ) → DueIs M (due_at s at b k)
  unfolding is_one
  byte_is k h =
      let of_number : (n : ℕ) → is_one n (5 ∷ 6 ∷ []) ≡ true → (at : ℕ) → HeaderRefusal (refusal n k at)
      = λ n i at. no_byte (of (5 ∷ 6 ∷ []) (1 ∷ 2 ∷ 4 ∷ 5 ∷ 6 ∷ 7 ∷ []) n k at i h) in
      due_is s HeaderRefusal k (of_number 5 refl) (of_number 6 refl)

  past_statement_is : (at : ℕ) → DueIs M (past_statement false s at)
  unfolding past_statement
  past_statement_is at = past_is s HeaderRefusal (length s) (statement_at s at) (statement_refused s at)

  revision_is : (at : ℕ) → DueIs M (after_revision false s at)
  unfolding after_revision is_one
  revision_is at = by_test (eqb (look s at) 123) (λ t. rw t (past_statement_is at)) (λ t. rw t (byte_is 7 refl at 59))

  rest_is : (at k : ℕ) → (eqb k 3 ≡ false → is_one k (1 ∷ 2 ∷ 4 ∷ 5 ∷ 6 ∷ 7 ∷ []) ≡ true) → DueIs M (after_value false s at k)
  unfolding after_value
  rest_is at k h =
      by_test (eqb k 3) (λ t. rw t (past_statement_is at))
      (λ t. rw t (by_test (eqb k 7) (λ v. rw v (revision_is (gap_end s at))) (λ v. rw v (byte_is k (h t) at (due_for k)))))

-- ---- a statement

abbrev pub HeardIs : (Refusal → Type 0) → Result Heard Refusal → Type 0
HeardIs P (Ok (Value k x c n)) = Unit {0}
HeardIs P (Ok (Passed c)) = Unit {0}
HeardIs P (Ok (Done c)) = Unit {0}
HeardIs P (Err r) = P r

passed_is : (P : Refusal → Type 0) (d : Result Cursor Refusal) → DueIs P d → HeardIs P (passed d)
unfolding passed
passed_is P (Ok c) h = tt
passed_is P (Err r) h = h

kept_is : (P : Refusal → Type 0) (k u n : ℕ) (d : Result Cursor Refusal) → DueIs P d → HeardIs P (kept k u n d)
unfolding kept
kept_is P k u n (Ok c) h = tt
kept_is P k u n (Err r) h = h

module _ (s : List ℕ) (k : ℕ) (after : eqb k 3 ≡ false → is_one k (1 ∷ 2 ∷ 4 ∷ 5 ∷ 6 ∷ 7 ∷ []) ≡ true) where
  with_is : (u : ℕ) (a : Result (Cursor × ℕ) Refusal) → ArgumentIs (M s) a → HeardIs (M s) (with_rest false s k u a)
  unfolding with_rest
  with_is u (Ok (c, n)) h = kept_is (M s) k u n (after_value false s c.at k) (rest_is s c.at k after)
  with_is u (Err r) h = h

  skipped_is : (d : Result Cursor Refusal) → DueIs (M s) d → HeardIs (M s) (after_skipped false s k d)
  unfolding after_skipped
  skipped_is (Ok c) h = passed_is (M s) (after_value false s c.at k) (rest_is s c.at k after)
  skipped_is (Err r) h = h

  statement_is : (eqb k 6 ≡ false → is_one k (1 ∷ 2 ∷ 3 ∷ 4 ∷ 5 ∷ 7 ∷ []) ≡ true) → (at u : ℕ) (p : Bool)
      → HeardIs (M s) (statement_said false s at k u p).answer
  unfolding statement_said field_at is_one past_value
  statement_is own at u p =
      by_test (eqb k 6)
      (λ t. rw t (skipped_is (past_value false s at)
      (past_is s HeaderRefusal (length s) (skipped_at s at) (λ r e. absurd (skipped_refused s at r e)))))
      (λ t. rw t (by_test (later_prefix k p) (λ v. rw v (passed_is (M s) (past_statement false s at) (past_statement_is s at)))
      (λ v. let four : (e : ℕ) → HeaderRefusal (refusal 4 k e) = λ e. no_value (of (4 ∷ []) (1 ∷ 2 ∷ 3 ∷ 4 ∷ 5 ∷ 7 ∷ []) 4 k e refl (own t)) in
      rw v (with_is u (argument_at false s at u k) (value_is s HeaderRefusal k four at u)))))

-- ---- which statement it is

module _ (s : List ℕ) (at u : ℕ) (p : Bool) where
  abbrev TagIs : Tag → Type 0
  TagIs t = HeardIs (M s) (tag_said false s at u p t).answer

  or_is : (k : ℕ) → ((c : Cursor) → TagIs (Statement k c)) → (m : Option Cursor) (t : Tag) → TagIs t → TagIs (or_tag k m t)
  unfolding or_tag
  or_is k f (Some c) t h = f c
  or_is k f None t h = h

  last_is : (m : Option Cursor) → TagIs (last_tag m)
  unfolding last_tag tag_said past_token
  last_is (Some c) = tt
  last_is None = passed_is (M s) (past_token false s at) (past_is s HeaderRefusal (length s) (token_at s at) (token_refused s at))

  tag_is : TagIs (tag_at s at)
  unfolding tag_at tag_said is_one
  tag_is =
      or_is 1 (λ c. statement_is s 1 (λ h. refl) (λ h. refl) c.at u p) _ _
      (or_is 2 (λ c. statement_is s 2 (λ h. refl) (λ h. refl) c.at u p) _ _
      (or_is 3 (λ c. statement_is s 3 (λ h. absurd (never h refl)) (λ h. refl) c.at u p) _ _
      (or_is 4 (λ c. statement_is s 4 (λ h. refl) (λ h. refl) c.at u p) _ _
      (or_is 5 (λ c. statement_is s 5 (λ h. refl) (λ h. refl) c.at u p) _ _
      (or_is 6 (λ c. statement_is s 6 (λ h. refl) (λ h. absurd (never h refl)) c.at u p) _ _
      (or_is 7 (λ c. statement_is s 7 (λ h. refl) (λ h. refl) c.at u p) _ _ (last_is (data_at s at))))))))

pub said_is : (s : List ℕ) (at u : ℕ) (p : Bool) → HeardIs (M s) (said_at false s at u p).answer
unfolding said_at said_here
said_is s at u p = let g = gap_end s at in by_test (leb (length s) g) (λ t. rw t tt) (λ t. rw t (tag_is s g u p))

-- ---- all of them

module _ (s : List ℕ) where
  abbrev pub ScanIs : Scan → Type 0
  ScanIs (good m) = Unit {0}
  ScanIs (bad r bs) = MetRefusal MetadataRefusal s r

  ended_is : (m : Metadata) (at : ℕ) → ScanIs (ended m at)
  unfolding ended is_one
  ended_is m at = by_test m.name.present (λ t. rw t tt) (λ t. rw t (other (no_name (of (9 ∷ []) (0 ∷ []) 9 0 at refl refl))))

  of_header : (r : Refusal) → M s r → MetRefusal MetadataRefusal s r
  of_header r (high m) = high m
  of_header r (other h) = other (header h)

  turn_is : (m : Metadata) (bs : List ℕ) (x : Result Heard Refusal) (r : Scan) → HeardIs (M s) x → after_heard m bs x ≡ stop r → ScanIs r
  unfolding after_heard
  turn_is m bs (Ok (Value k y c n)) r h e = let z : ◌≡◌ {A = ℕ} 0 1 = cc in absurd (omega arith)
  turn_is m bs (Ok (Passed c)) r h e = let z : ◌≡◌ {A = ℕ} 0 1 = cc in absurd (omega arith)
  turn_is m bs (Ok (Done c)) r h e = let q : ended m c.at ≡ r = cc in subst ScanIs q (ended_is m c.at)
  turn_is m bs (Err x) r h e = let q : bad x (m.bytes ++ bs) ≡ r = cc in subst ScanIs q (of_header x h)

  pub scanned_is : ScanIs (scanned false s)
  unfolding scanned scan_from metadata_turn
  scanned_is =
      turns_all (metadata_turn false s) (good nothing) ScanIs
      (λ a r e. let x = length a.read.bytes in
      let p = a.read.prefix.present in
      turn_is a.read _ (said_at false s a.at x p).answer r (said_is s a.at x p) e)
      tt (suc (length s)) _

module _ (s : List ℕ) (short : Bool) where
  EntryIs : Scan → Type 0
  EntryIs (good m) = Unit {0}
  EntryIs (bad r bs) = RefusedAs (MetRefusal MetadataRefusal s) s short r

  pub metadata_refused : (r : Refusal) (bs : List ℕ) → metadata false s short ≡ bad r bs → RefusedAs (MetRefusal MetadataRefusal s) s short r
  unfolding metadata if_fit EntryIs
  metadata_refused r bs e = subst EntryIs e (go (lent_at s short) (lent_is s short))
    where
      scan : (x : Scan) → Fits s short → ScanIs s x → EntryIs x
      scan (good m) f h = tt
      scan (bad q bs) f h = read f h

      go : (x : Result (Unit {0}) Refusal) → LentIs s short x → EntryIs (if_fit x (scanned false s))
      go (Ok tt) h = scan (scanned false s) h (scanned_is s)
      go (Err q) h = first h

  pub metadata_first : (whole : Bool) (r : Refusal) → FirstRefusal s short r → metadata whole s short ≡ bad r []
  unfolding metadata if_fit
  metadata_first whole r f = ap (λ x. if_fit x (scanned whole s)) (first_unfit s short r f)

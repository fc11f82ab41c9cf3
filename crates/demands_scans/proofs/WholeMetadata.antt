-- The metadata scan in the whole-text mode and in the old one, side by side: where they part, the one is 11 and the other stands at the text's end, so that it
-- is refused there by 4 or 6, or ends, good or with 9.
-- Assumes nothing.
use Rattle.std.specs.Prelude.{Ok, Err, Result}
use Prim.Native.Nat.{ℕ, ◌-◌, ◌<◌, ◌≤◌}
use mathlib.Core.Path.{◌≡◌, refl, sym, ap, subst, ◌∙◌}
use mathlib.Core.Bool.{Bool, true, false, cond, ◌||◌}
use mathlib.Core.Logic.{◌⊎◌, inl, inr, ⊎_elim}
use mathlib.Core.List.{List, [], ◌∷◌, ◌++◌, Memᴰ}
use native.Mathlib.Omega.{arith}
use lib.Dec.{eqb, leb}
use lib.ListN.{length, get_or}
use borrow.Author.Tests.{leb-true, leb-false}
use Rattle.text.specs.Refusal.{cut_at}
use Rattle.text.specs.Scan.{gap_end}
use Rattle.text.specs.declared.Cursor.{Cursor}
use Rattle.text.specs.declared.Refusal.{Refusal}
use Rattle.text.proofs.Here.{by_test, past}
use Rattle.text.proofs.HighLaws.{met_within}
use Rattle.text.proofs.Laws.{gap_from, gap_within}
use Rattle.text_value.specs.Argument.{argument_at}
use Rattle.text_value.specs.Value.{value_at, value_bytes}
use Rattle.text_value.proofs.ArgumentLaws.{FourOrSix, argument_far, argument_modes, argument_open, due_past}
use Rattle.text_past.specs.Past.{past_of}
use Rattle.text_skip.specs.Skip.{past_token, past_value}
use Rattle.text_past.proofs.PastLaws.{SameOrCut}
use Rattle.text_skip.proofs.PastLaws.{past_value_far, token_modes, value_modes}
use Rattle.text_statement.specs.Statement.{statement_at, past_statement}
use Rattle.text_statement.proofs.PastLaws.{statement_modes}
use Rattle.text_statement.proofs.StatementLaws.{statement_far, statement_refused, statement_refused_from}
use Rattle.text_lent.specs.Lent.{lent_at}
use Rattle.scan_rows.specs.declared.Span.{Span}
use Rattle.scan_header.specs.Header.{due_for, after_revision, after_value, Said, said, passed, kept, with_rest, field_at, after_skipped, later_prefix, statement_said}
use Rattle.scan_header.specs.Header.{tag_said, said_here, said_at}
use Rattle.scan_header.specs.declared.Heard.{Heard}
use Rattle.scan_header.specs.declared.Heard.TheVariants.{Value, Passed, Done}
use Rattle.scan_tag.specs.Tag.{tag_at}
use Rattle.scan_tag.specs.declared.Tag.{Tag}
use Rattle.scan_tag.specs.declared.Tag.TheVariants.{Statement, Last, Other}
use Rattle.scan_tag.proofs.TagLaws.{tag_far}
use Rattle.scan_metadata.specs.Metadata as Meta
use Rattle.scan_metadata.specs.Metadata.{Metadata, told, Reading, ended, scan_from}
use Rattle.scan_metadata.proofs.ScanLaws.{heard, told_nearer, passed_nearer, scan_value, scan_passed, scan_done, scan_refused_lem}
use Rattle.demands_scans.specs.Whole.{told_metadata, WholeOrOld, same, cut, MetadataWhole, old_metadata}
use Rattle.demands_scans.proofs.Loops.{by_falling}
use Rattle.text_past.specs.declared.How.{How}

-- ---- what follows a value

revision_modes : (s : List ℕ) (g : ℕ) → g ≤ length s → SameOrCut (length s) (after_revision true s g) (after_revision false s g)
unfolding after_revision
revision_modes s g l = by_test (eqb (get_or s g 256) 123) (λ t. rw t (statement_modes s g l)) (λ t. inl (rw t refl))

after_modes : (s : List ℕ) (at k : ℕ) → at ≤ length s → SameOrCut (length s) (after_value true s at k) (after_value false s at k)
unfolding after_value
after_modes s at k l =
    by_test (eqb k 3) (λ t. rw t (statement_modes s at l))
    (λ t. rw t (by_test (eqb k 7) (λ v. rw v (revision_modes s (gap_end s at) (gap_within s at l))) (λ v. inl (rw v refl))))

-- in the old mode, behind a value that ends at the text's end: a skipped statement of no bytes, or 6
abbrev OldDue : List ℕ → Result Cursor Refusal → Type 0
OldDue s (Ok c) = c.at ≡ length s
OldDue s (Err r) = r.number ≡ 6

statement_past : (s : List ℕ) (at : ℕ) → at ≡ length s → OldDue s (past_statement false s at)
unfolding past_statement past_of
statement_past s at e = of (statement_at s at) refl
  where
    of : (k : Result (Cursor × How) Refusal) → statement_at s at ≡ k → OldDue s (past_of false (length s) k)
    of (Ok (c, h)) q = omega (arith, e, statement_far s at (omega arith) c h q)
    of (Err r) q = absurd (omega (arith, e, statement_refused_from s at r q, met_within s r (statement_refused s at r q)))

due_small : (k : ℕ) → due_for k < 256
unfolding due_for
due_small k = by_test (eqb k 1 || eqb k 2) (λ t. rw t (omega arith)) (λ t. rw t (omega arith))

revision_past : (s : List ℕ) (g : ℕ) → g ≡ length s → OldDue s (after_revision false s g)
unfolding after_revision
revision_past s g e =
    let p : get_or s g 256 ≡ 256 = past s g (omega arith) in
    let t : eqb (get_or s g 256) 123 ≡ false = rw p refl in
    rw t (subst (OldDue s) (sym (due_past s g 59 7 (omega arith) e)) refl)

after_past : (s : List ℕ) (at k : ℕ) → at ≡ length s → OldDue s (after_value false s at k)
unfolding after_value
after_past s at k e =
    by_test (eqb k 3) (λ t. rw t (statement_past s at e))
    (λ t. rw t (by_test (eqb k 7)
    (λ v. rw v (revision_past s (gap_end s at) (omega (arith, gap_from s at, gap_within s at (omega arith)))))
    (λ v. rw v (subst (OldDue s) (sym (due_past s at (due_for k) k (due_small k) e)) refl))))

-- ---- a statement or token

-- what the old mode answers where the other is 11: it goes on at the text's end, or it is refused there
abbrev pub OldHeard : List ℕ → Result Heard Refusal → Type 0
OldHeard s (Ok (Value k x c n)) = c.at ≡ length s
OldHeard s (Ok (Passed c)) = c.at ≡ length s
OldHeard s (Ok (Done c)) = ⊥
OldHeard s (Err r) = FourOrSix r

abbrev pub SaidModes : List ℕ → Said → Said → Type 0
SaidModes s x y = (x ≡ y) ⊎ ((x.answer ≡ Err (cut_at (length s))) × OldHeard s y.answer)

passed_modes : (s : List ℕ) (x y : Result Cursor Refusal) → SameOrCut (length s) x y → SaidModes s (said (passed x)) (said (passed y))
unfolding passed
passed_modes s x y (inl e) = inl (ap (λ d. said (passed d)) e)
passed_modes s x y (inr e) = inr (ap passed e.0, subst (λ d. OldHeard s (passed d)) (sym e.2) e.3)

passed_past : (s : List ℕ) (d : Result Cursor Refusal) → OldDue s d → OldHeard s (passed d)
unfolding passed
passed_past s (Ok c) o = o
passed_past s (Err r) o = inr o

kept_modes : (s : List ℕ) (k u n : ℕ) (bs : List ℕ) (x y : Result Cursor Refusal) → SameOrCut (length s) x y
    → SaidModes s (record { answer = kept k u n x; bytes = bs }) (record { answer = kept k u n y; bytes = bs })
unfolding kept
kept_modes s k u n bs x y (inl e) = inl (ap (λ d. record { answer = kept k u n d; bytes = bs }) e)
kept_modes s k u n bs x y (inr e) = inr (ap (kept k u n) e.0, subst (λ d. OldHeard s (kept k u n d)) (sym e.2) e.3)

kept_past : (s : List ℕ) (k u n : ℕ) (d : Result Cursor Refusal) → OldDue s d → OldHeard s (kept k u n d)
unfolding kept
kept_past s k u n (Ok c) o = o
kept_past s k u n (Err r) o = inr o

field_modes : (s : List ℕ) (at k u : ℕ) → SaidModes s (field_at true s at k u) (field_at false s at k u)
unfolding field_at with_rest
field_modes s at k u =
    let bs = value_bytes (value_at s at) in
    ⊎_elim
    (λ e. subst (λ a. SaidModes s (record { answer = with_rest true s k u a; bytes = bs }) (field_at false s at k u)) (sym e)
    (by_value (argument_at false s at u k) refl))
    (λ e. inr (ap (with_rest true s k u) e.0, old (argument_open s at u k e.1))) (argument_modes s at u k)
  where
    by_value : (a : Result (Cursor × ℕ) Refusal) → argument_at false s at u k ≡ a
        → SaidModes s (record { answer = with_rest true s k u a; bytes = value_bytes (value_at s at) })
        (record { answer = with_rest false s k u a; bytes = value_bytes (value_at s at) })
    by_value (Ok (c, n)) e =
        kept_modes s k u n (value_bytes (value_at s at)) (after_value true s c.at k) (after_value false s c.at k)
        (after_modes s c.at k (argument_far false s at u k c n e).2)
    by_value (Err r) e = inl refl

    old : (argument_at false s at u k ≡ Err (record { number = 4; keyword = k; at = length s }))
        ⊎ ((c : Cursor) × (n : ℕ) × (argument_at false s at u k ≡ Ok (c, n)) × (c.at ≡ length s))
        → OldHeard s (with_rest false s k u (argument_at false s at u k))
    old (inl e) = subst (λ a. OldHeard s (with_rest false s k u a)) (sym e) (inl refl)
    old (inr e) =
        subst (λ a. OldHeard s (with_rest false s k u a)) (sym e.2)
        (kept_past s k u e.1 (after_value false s e.0.at k) (after_past s e.0.at k e.3))

skip_modes : (s : List ℕ) (at k : ℕ) → at ≤ length s
    → SaidModes s (said (after_skipped true s k (past_value true s at))) (said (after_skipped false s k (past_value false s at)))
unfolding after_skipped
skip_modes s at k l =
    ⊎_elim
    (λ e. subst (λ d. SaidModes s (said (after_skipped true s k d)) (said (after_skipped false s k (past_value false s at)))) (sym e)
    (by_value (past_value false s at) refl))
    (λ e. inr (
      ap (after_skipped true s k) e.0,
      subst (λ d. OldHeard s (after_skipped false s k d)) (sym e.2)
          (passed_past s (after_value false s e.1.at k) (after_past s e.1.at k e.3)),
    ))
    (value_modes s at)
  where
    by_value : (d : Result Cursor Refusal) → past_value false s at ≡ d → SaidModes s (said (after_skipped true s k d)) (said (after_skipped false s k d))
    by_value (Ok c) e =
        passed_modes s (after_value true s c.at k) (after_value false s c.at k) (after_modes s c.at k (past_value_far false s at l c e).1)
    by_value (Err r) e = inl refl

said_modes_of : (s : List ℕ) (at k u : ℕ) (p : Bool) → at ≤ length s → SaidModes s (statement_said true s at k u p) (statement_said false s at k u p)
unfolding statement_said
said_modes_of s at k u p l =
    by_test (eqb k 6) (λ t. rw t (skip_modes s at k l))
    (λ t. rw t (by_test (later_prefix k p)
    (λ v. rw v (passed_modes s (past_statement true s at) (past_statement false s at) (statement_modes s at l)))
    (λ v. rw v (field_modes s at k u))))

tag_modes : (s : List ℕ) (g u : ℕ) (p : Bool) (t : Tag) → g < length s → tag_at s g ≡ t → SaidModes s (tag_said true s g u p t) (tag_said false s g u p t)
unfolding tag_said
tag_modes s g u p (Statement k c) i h = said_modes_of s c.at k u p (tag_far s g k c h).1
tag_modes s g u p (Last c) i h = inl refl
tag_modes s g u p Other i h = passed_modes s (past_token true s g) (past_token false s g) (token_modes s g i)

pub said_modes : (s : List ℕ) (at u : ℕ) (p : Bool) → SaidModes s (said_at true s at u p) (said_at false s at u p)
unfolding said_at said_here
said_modes s at u p =
    let g = gap_end s at in
    by_test (leb (length s) g) (λ t. inl (rw t refl)) (λ t. rw t (tag_modes s g u p (tag_at s g) (leb-false (length s) g t) refl))

-- at the text's end nothing is read
said_past : (s : List ℕ) (at u : ℕ) (p : Bool) → at ≡ length s → (said_at false s at u p).answer ≡ Ok (Done (record { at = gap_end s at }))
unfolding said_at said_here
said_past s at u p e =
    by_test (leb (length s) (gap_end s at)) (λ t. rw t refl) (λ t. let h = leb-false (length s) (gap_end s at) t in absurd (omega (arith, gap_from s at)))

-- ---- all of them

-- good, or 9
ended_number : (m : Metadata) (at : ℕ) → Memᴰ (told_metadata (ended m at)).number old_metadata
unfolding ended
ended_number m at =
    by_test m.name.present (λ t. rw t (Memᴰ.head refl))
    (λ t. rw t (Memᴰ.tail (Memᴰ.tail (Memᴰ.tail (Memᴰ.head refl)))))

module _ (s : List ℕ) where
  abbrev ScanModes : Meta.Scan → Meta.Scan → Type 0
  ScanModes x y = WholeOrOld told_metadata old_metadata s x y

  abbrev BothScans : Reading → Type 0
  BothScans g = ScanModes (scan_from true s g) (scan_from false s g)

  abbrev Among : Meta.Scan → Type 0
  Among x = Memᴰ (told_metadata x).number old_metadata

  scans_are : {x y v w : Meta.Scan} → x ≡ v → y ≡ w → ScanModes v w → ScanModes x y
  scans_are p q (same e) = same (p ∙ e ∙ sym q)
  scans_are p q (cut e m) = cut (ap told_metadata p ∙ e) (subst Among (sym q) m)

  -- at the text's end the scan is good, or 9
  scan_past : (g : Reading) → g.at ≡ length s → Among (scan_from false s g)
  scan_past g e =
      let c : Cursor = record { at = gap_end s g.at } in
      subst Among (sym (scan_done false s g c (said_past s g.at (length g.read.bytes) g.read.prefix.present e))) (ended_number g.read c.at)

  module _ (g : Reading) (later : (h : Reading) → length s - h.at < length s - g.at → BothScans h) where
    scan_same : (x : Said) → heard true s g ≡ x → heard false s g ≡ x → (r : Result Heard Refusal) → x.answer ≡ r → BothScans g
    scan_same x p q (Ok (Value k y c n)) h =
        let m = ap (λ z. z.answer) q ∙ h in
        scans_are
        (scan_value true s g k y c n (ap (λ z. z.answer) p ∙ h)
        ∙ ap (λ z. scan_from true s (record { at = c.at; read = told g.read k y z.bytes })) (p ∙ sym q))
        (scan_value false s g k y c n m) (later _ (told_nearer false s g k y c n m))
    scan_same x p q (Ok (Passed c)) h =
        let m = ap (λ z. z.answer) q ∙ h in
        scans_are (scan_passed true s g c (ap (λ z. z.answer) p ∙ h)) (scan_passed false s g c m) (later _ (passed_nearer false s g c m))
    scan_same x p q (Ok (Done c)) h = same (scan_done true s g c (ap (λ z. z.answer) p ∙ h) ∙ sym (scan_done false s g c (ap (λ z. z.answer) q ∙ h)))
    scan_same x p q (Err r) h =
        same (scan_refused_lem true s g r (ap (λ z. z.answer) p ∙ h)
        ∙ ap (λ z. Meta.bad r (g.read.bytes ++ z.bytes)) (p ∙ sym q)
        ∙ sym (scan_refused_lem false s g r (ap (λ z. z.answer) q ∙ h)))

    scan_cut : (heard true s g).answer ≡ Err (cut_at (length s)) → (r : Result Heard Refusal) → (heard false s g).answer ≡ r → OldHeard s r → BothScans g
    scan_cut c r h o = cut (ap told_metadata (scan_refused_lem true s g (cut_at (length s)) c)) (old r h o)
      where
        old : (r : Result Heard Refusal) → (heard false s g).answer ≡ r → OldHeard s r → Among (scan_from false s g)
        old (Ok (Value k y c n)) h o = subst Among (sym (scan_value false s g k y c n h)) (scan_past _ o)
        old (Ok (Passed c)) h o = subst Among (sym (scan_passed false s g c h)) (scan_past _ o)
        old (Ok (Done c)) h o = absurd o
        old (Err q) h o = subst Among (sym (scan_refused_lem false s g q h)) (number o)
          where
            number : FourOrSix q → Memᴰ q.number old_metadata
            number (inl e) = Memᴰ.tail (Memᴰ.head e)
            number (inr e) = Memᴰ.tail (Memᴰ.tail (Memᴰ.head e))

    scan_one : BothScans g
    scan_one =
        ⊎_elim (λ e. scan_same (heard false s g) e refl (heard false s g).answer refl)
        (λ e. scan_cut e.0 (heard false s g).answer refl e.1)
        (said_modes s g.at (length g.read.bytes) g.read.prefix.present)

  scan_modes : (g : Reading) → BothScans g
  scan_modes = by_falling (λ g. length s - g.at) BothScans scan_one

  pub scanned_whole : ScanModes (Meta.scanned true s) (Meta.scanned false s)
  unfolding Meta.scanned
  scanned_whole = scan_modes (record { at = 0; read = Meta.nothing })

pub metadata_whole : MetadataWhole
unfolding Meta.metadata Meta.if_fit
metadata_whole s short = go (lent_at s short)
  where
    go : (l : Result (Unit {0}) Refusal) → WholeOrOld told_metadata old_metadata s (Meta.if_fit l (Meta.scanned true s)) (Meta.if_fit l (Meta.scanned false s))
    go (Ok tt) = scanned_whole s
    go (Err r) = same refl

-- Our quoted value is the RFC's: string by string and gap by gap both read the same, so each `+` adds the same bytes and leads to the
-- same place, by induction over the RFC's strings.
-- Assumes nothing.
use mathlib.Core.Path.{◌≡◌, refl, sym, ap, ◌∙◌}
use mathlib.Core.Bool.{Bool, true, false, ◌||◌}
use mathlib.Core.List.{List, [], ◌∷◌, ◌++◌, append_assoc, append-nil}
use mathlib.Core.Option.{Option, none, some}
use Prim.Native.Nat.{ℕ, zero, suc, ◌+◌}
use lib.ListN.{length, get_or}
use lib.Dec.{eqb}
use borrow.Author.Tests.{not-true, eqb-true, eqb-false}
use Rattle.text.specs.Scan.{gap_end}
use Rattle.text.proofs.Here.{by_test, never, both}
use Rattle.text_string.specs.Str.{is_quote, whole, str_at}
use Rattle.text_value.specs.Value.{added, ends, added_by, more_at, joined_with, joined, Bytes, value, value_at}
use Rattle.text_value.proofs.ValueLaws.{more_plain, more_string}
use Rattle.text_value.proofs.JoinLaws.{join_on, join_stop, value_string}
use Rattle.demands_rfc.specs.Rfc.{Read, reads, nothing, first, Piece, double, single, gap, past_gap, string_at, gap_to, gap_at, gap_and_string, plus_and_string}
use Rattle.demands_rfc.specs.Rfc.{added_strings, more_strings, pieces_at, escape, joining, unescaped, meaning, meanings, ending_at, meant, rfc_value}
use Rattle.demands_rfc.specs.RfcDomain.{odd_white, legal, plain, legal_in, every, found, plain_at, legal_at}
use Rattle.demands_rfc.proofs.RfcTrim.{trimmed_same}
use Rattle.demands_rfc.proofs.RfcStrings.{nothing_read, read_is, with_reads, some_is, joining_some, at_escape, at_byte, string_same}
use Rattle.demands_rfc.proofs.RfcGaps.{past_same}

-- ---- a piece and the rest

record Parts (r : Read Piece) (rest : ℕ → Read (List Piece)) (ps : List Piece) (end : ℕ) : Type 0 where
  piece : Piece
  next : ℕ
  others : List Piece
  one : r ≡ reads piece next
  more : rest next ≡ reads others end
  all : piece ∷ others ≡ ps

first_parts : (r : Read Piece) (rest : ℕ → Read (List Piece)) (ps : List Piece) (end : ℕ) → first r rest ≡ reads ps end → Parts r rest ps end
unfolding first
first_parts (reads p next) rest ps end h =
    let w = with_reads (p ∷◌) (rest next) ps end h in
    record { piece = p; next = next; others = w.0; one = refl; more = w.1; all = w.2 }
first_parts nothing rest ps end h = absurd (nothing_read refl h)

module _ (p : Piece) (ps qs : List Piece) (e : p ∷ ps ≡ qs) where
  every_first : (t : Piece → Bool) → every t qs ≡ true → (t p ≡ true) × (every t ps ≡ true)
  unfolding every
  every_first t h = both (t p) (every t ps) (ap (every t) e ∙ h)

  meanings_first : (bs : List ℕ) → meanings qs ≡ some bs → (cs : List ℕ) × (ds : List ℕ) × (meaning p ≡ some cs) × (meanings ps ≡ some ds) × (bs ≡ cs ++ ds)
  unfolding meanings
  meanings_first bs h = joining_some (meaning p) (meanings ps) bs (ap meanings e ∙ h)

-- ---- a gap

-- ours ends at the same place, and it adds no bytes
gap_same : (s : List ℕ) (at : ℕ) (p : Piece) (end : ℕ) (bs : List ℕ) → gap_at s at ≡ reads p end → plain p ≡ true → meaning p ≡ some bs
    → (gap_end s at ≡ end) × (bs ≡ [])
unfolding gap_at gap_to plain meaning
gap_same s at p end bs h l k = by_gap (past_gap s at) refl h
  where
    by_gap : (o : Option ℕ) → past_gap s at ≡ o → gap_to s o ≡ reads p end → (gap_end s at ≡ end) × (bs ≡ [])
    by_gap none e h = absurd (nothing_read refl h)
    by_gap (some g) e h =
        let r = read_is (gap (get_or s g 256)) p g end refl h in
        let o = not-true (odd_white (get_or s g 256)) (ap plain r.0 ∙ l) in
        (past_same s at g e o ∙ r.1, some_is bs [] (ap meaning r.0 ∙ k) refl)

no_bytes : {bs cs ds : List ℕ} → bs ≡ cs ++ ds → cs ≡ [] → ds ≡ bs
no_bytes {bs} {cs} {ds} e f = sym (e ∙ ap (◌++ ds) f)

-- ---- a gap and a string

record Strung (s : List ℕ) (at : ℕ) (rest : ℕ → Read (List Piece)) (end : ℕ) (bs : List ℕ) : Type 0 where
  here : ℕ
  next : ℕ
  gapped : gap_end s at ≡ here
  quoted : is_quote (get_or s here 256) ≡ true
  own : List ℕ
  string : str_at s here ≡ whole own next
  others : List Piece
  more : rest next ≡ reads others end
  plainly : every plain others ≡ true
  adds : List ℕ
  mean : meanings others ≡ some adds
  all : bs ≡ own ++ adds

strung : (s : List ℕ) (at : ℕ) (rest : ℕ → Read (List Piece)) (ps : List Piece) (end : ℕ) (bs : List ℕ) → gap_and_string rest s at ≡ reads ps end
    → every plain ps ≡ true → meanings ps ≡ some bs → Strung s at rest end bs
unfolding gap_and_string
strung s at rest ps end bs h l k =
    let a = first_parts (gap_at s at) (λ here. first (string_at s here) rest) ps end h in
    let al = every_first a.piece a.others ps a.all plain l in
    let ak = meanings_first a.piece a.others ps a.all bs k in
    let g = gap_same s at a.piece a.next ak.0 a.one al.0 ak.2 in
    let m : meanings a.others ≡ some bs = ak.3 ∙ ap some (no_bytes ak.4 g.1) in
    let b = first_parts (string_at s a.next) rest a.others end a.more in
    let bl = every_first b.piece b.others a.others b.all plain al.1 in
    let bk = meanings_first b.piece b.others a.others b.all bs m in
    let q = string_same s a.next b.piece b.next bk.0 b.one bl.0 bk.2 in
    record {
      here = a.next;
      next = b.next;
      gapped = g.0;
      quoted = q.0;
      own = bk.0;
      string = q.1;
      others = b.others;
      more = b.more;
      plainly = bl.1;
      adds = bk.1;
      mean = bk.3;
      all = bk.4;
    }

-- ---- what is added

added_here : (s : List ℕ) (at g h e : ℕ) (bs : List ℕ) → gap_end s at ≡ g → eqb (get_or s g 256) 43 ≡ true → gap_end s (g + 1) ≡ h
    → is_quote (get_or s h 256) ≡ true → str_at s h ≡ whole bs e → more_at s at ≡ added bs e
unfolding added_by
added_here s at g h e bs ge p he q k = more_string s at (sym ge) refl (eqb-true _ _ p) (sym he) refl refl q ∙ ap (added_by s) k

ended_here : (s : List ℕ) (at g : ℕ) → gap_end s at ≡ g → eqb (get_or s g 256) 43 ≡ false → more_at s at ≡ ends g
ended_here s at g ge p = more_plain s at (sym ge) refl (eqb-false _ _ p)

added_same : (s : List ℕ) (n at : ℕ) (ps : List Piece) (end : ℕ) (bs cs : List ℕ) → added_strings n s at ≡ reads ps end → every plain ps ≡ true
    → meanings ps ≡ some cs → joined_with s bs at ≡ record { bytes = bs ++ cs; end = end }
unfolding added_strings plus_and_string meanings
added_same s zero at ps end bs cs h l k = absurd (nothing_read refl h)
added_same s (suc n) at ps end bs cs h l k =
    let a = first_parts (gap_at s at) (λ here. plus_and_string (λ e. added_strings n s e) s here) ps end h in
    let al = every_first a.piece a.others ps a.all plain l in
    let ak = meanings_first a.piece a.others ps a.all cs k in
    let g = gap_same s at a.piece a.next ak.0 a.one al.0 ak.2 in
    after_gap a.next a.others g.0 a.more al.1 (ak.3 ∙ ap some (no_bytes ak.4 g.1)) (added_same s n)
  where
    after_gap : (g : ℕ) (qs : List Piece) → gap_end s at ≡ g → plus_and_string (λ e. added_strings n s e) s g ≡ reads qs end → every plain qs ≡ true
        → meanings qs ≡ some cs → ((e : ℕ) (rs : List Piece) (f : ℕ) (ds es : List ℕ) → added_strings n s e ≡ reads rs f → every plain rs ≡ true
        → meanings rs ≡ some es → joined_with s ds e ≡ record { bytes = ds ++ es; end = f }) → joined_with s bs at ≡ record { bytes = bs ++ cs; end = end }
    after_gap g qs ge h l k go =
        by_test (eqb (get_or s g 256) 43)
        (λ p. let t = strung s (g + 1) (λ e. added_strings n s e) qs end cs (rw p at h) l k in
        let m = added_here s at g t.here t.next t.own ge p t.gapped t.quoted t.string in
        join_on s bs at t.own t.next m
        ∙ go t.next t.others end (bs ++ t.own) t.adds t.more t.plainly t.mean
        ∙ ap (λ ds. record { bytes = ds; end = end }) (append_assoc bs t.own t.adds ∙ ap (bs ++◌) (sym t.all)))
        (λ p. let r = read_is [] qs g end refl (rw p at h) in
        let c : [] ≡ cs = some_is [] cs refl (ap meanings r.0 ∙ k) in
        join_stop s bs at g (ended_here s at g ge p)
        ∙ ap (λ e. record { bytes = bs; end = e }) r.1
        ∙ ap (λ ds. record { bytes = ds; end = end }) (sym (append-nil bs) ∙ ap (bs ++◌) c))

-- ---- a value

meant_is : (r : Read (List Piece)) (bs : List ℕ) (end : ℕ) → meant r ≡ reads bs end → (ps : List Piece) × (r ≡ reads ps end) × (meanings ps ≡ some bs)
unfolding meant ending_at
meant_is (reads ps e) bs end h = by_meaning (meanings ps) refl h
  where
    by_meaning : (o : Option (List ℕ)) → meanings ps ≡ o → ending_at e o ≡ reads bs end
        → (qs : List Piece) × (reads ps e ≡ reads qs end) × (meanings qs ≡ some bs)
    by_meaning none k h = absurd (nothing_read refl h)
    by_meaning (some cs) k h = let r = read_is cs bs e end refl h in (ps, ap (reads ps) r.1, k ∙ ap some r.0)
meant_is nothing bs end h = absurd (nothing_read refl h)

pub value_same : (s : List ℕ) (at : ℕ) (bs : List ℕ) (end : ℕ) → rfc_value s at ≡ reads bs end → plain_at s at ≡ true → value_at s at ≡ value bs end
unfolding rfc_value plain_at found pieces_at more_strings joined
value_same s at bs end h l =
    let m = meant_is (pieces_at s at) bs end h in
    let t = strung s at (λ e. more_strings s e) m.0 end bs m.1 (ap (found plain) (sym m.1) ∙ l) m.2 in
    let j : joined s t.next ≡ record { bytes = t.adds; end = end }
    = added_same s (suc (length s)) t.next t.others end [] t.adds t.more t.plainly t.mean in
    value_string s at (sym t.gapped) refl refl t.quoted t.own t.next t.string
    ∙ ap (λ (b : Bytes). value (t.own ++ b.bytes) b.end) j
    ∙ ap (λ cs. value cs end) (sym t.all)

-- ---- where the RFC gives a value

escape_some : (b : ℕ) → (eqb b 110 || eqb b 116 || eqb b 34 || eqb b 92) ≡ true → (bs : List ℕ) × (escape b ≡ some bs)
unfolding escape
escape_some b h =
    by_test (eqb b 110) (λ n. (10 ∷ [], rw n))
    (λ n. by_test (eqb b 116) (λ t. (9 ∷ [], rw n (rw t)))
    (λ t. by_test (eqb b 34) (λ q. (34 ∷ [], rw n (rw t (rw q))))
    (λ q. (92 ∷ [], rw n (rw t (rw q (rw (rw q at (rw t at (rw n at h))))))))))

joining_both : {x y : Option (List ℕ)} (bs cs : List ℕ) → x ≡ some bs → y ≡ some cs → joining x y ≡ some (bs ++ cs)
unfolding joining
joining_both bs cs e f = rw (e, f)

legal_some : (e : Bool) (raw : List ℕ) → legal e raw ≡ true → (bs : List ℕ) × (unescaped e raw ≡ some bs)
unfolding legal unescaped
legal_some true [] h = absurd (never refl h)
legal_some false [] h = ([], refl)
legal_some true (b ∷ xs) h =
    let l = both (eqb b 110 || eqb b 116 || eqb b 34 || eqb b 92) (legal false xs) h in
    let e = escape_some b l.0 in
    let r = legal_some false xs l.1 in
    (e.0 ++ r.0, joining_both e.0 r.0 e.1 r.1)
legal_some false (b ∷ xs) h =
    let rest : legal (eqb b 92) xs ≡ true = h in
    by_test (eqb b 92)
    (λ s. let r = legal_some true xs (rw s at rest) in (r.0, at_escape b xs s ∙ r.1))
    (λ s. let r = legal_some false xs (rw s at rest) in (b ∷ r.0, at_byte b xs s ∙ joining_both (b ∷ []) r.0 refl r.1))

piece_some : (p : Piece) → plain p ≡ true → legal_in p ≡ true → (bs : List ℕ) × (meaning p ≡ some bs)
unfolding plain legal_in meaning
piece_some (double column raw) l h = let r = legal_some false raw h in (r.0, ap (unescaped false) (trimmed_same column raw l) ∙ r.1)
piece_some (single raw) l h = (raw, refl)
piece_some (gap next) l h = ([], refl)

pieces_some : (ps : List Piece) → every plain ps ≡ true → every legal_in ps ≡ true → (bs : List ℕ) × (meanings ps ≡ some bs)
unfolding meanings
pieces_some [] l h = ([], refl)
pieces_some (p ∷ ps) l h =
    let pl = every_first p ps (p ∷ ps) refl plain l in
    let ph = every_first p ps (p ∷ ps) refl legal_in h in
    let a = piece_some p pl.0 ph.0 in
    let r = pieces_some ps pl.1 ph.1 in
    (a.0 ++ r.0, joining_both a.0 r.0 a.1 r.1)

pub value_given : (s : List ℕ) (at : ℕ) → plain_at s at ≡ true → legal_at s at ≡ true → (bs : List ℕ) × (end : ℕ) × (rfc_value s at ≡ reads bs end)
unfolding plain_at legal_at rfc_value found meant ending_at
value_given s at l h = by_pieces (pieces_at s at) l h
  where
    by_pieces : (r : Read (List Piece)) → found plain r ≡ true → found legal_in r ≡ true → (bs : List ℕ) × (end : ℕ) × (meant r ≡ reads bs end)
    by_pieces (reads ps end) l h = let m = pieces_some ps l h in (m.0, end, ap (ending_at end) m.1)
    by_pieces nothing l h = absurd (never refl l)

-- Where the conditions hold of our reading the RFC finds its pieces and they pass: our gap ends where neither white space nor a comment
-- stands, so the RFC's ends there too, and a string that closes for us closes for the RFC.
-- Assumes nothing.
use Rattle.std.specs.Prelude.{Some, None, Option}
use mathlib.Core.Path.{◌≡◌, refl, sym, ap, ◌∙◌}
use mathlib.Core.Bool.{Bool, true, false, ◌&&◌, and-false}
use mathlib.Core.List.{List, [], ◌∷◌}
use mathlib.Core.Option.{some}
use Prim.Native.Nat.{ℕ, zero, suc, ◌+◌, ◌-◌, ◌<◌}
use native.Mathlib.Nat.{not-suc-le-zero}
use native.Mathlib.Omega.{arith}
use lib.ListN.{length, get_or, take, drop}
use lib.Seq.{get_or-drop}
use lib.Dec.{eqb}
use borrow.Author.Tests.{eqb-true, eqb-false}
use Rattle.text.specs.Class.{class_of}
use Rattle.text.specs.Keyword.{part}
use Rattle.text.specs.Scan.{in_run, span, run_end, pair_at, comment_end, gap_end}
use Rattle.text.specs.Turns.{stop, on, after}
use Rattle.text.specs.declared.Run.TheVariants.{White, Line}
use Rattle.text.proofs.Here.{by_test, never, both}
use Rattle.text.proofs.Laws.{run_from, block_from, comment_line, comment_block, gap_stop, gap_more, gap_on}
use Rattle.text_string.specs.Str.{is_quote, escapes, str_end, str_bytes, whole, closed_by, str_at}
use Rattle.text_string.proofs.StrLaws.{at_is, closed_end, str_size}
use Rattle.demands_rfc.specs.Rfc.{is_blank, are_at, to_line_end, comment_close, past_comment, separator, past_gap, Read, reads, with, first, Piece, double}
use Rattle.demands_rfc.specs.Rfc.{single, gap, single_body, double_body, column_of, string_at, gap_to, gap_at, gap_and_string, plus_and_string, more_strings}
use Rattle.demands_rfc.specs.Rfc.{pieces_at}
use Rattle.demands_rfc.specs.RfcDomain.{odd_white, plain, legal_in, every, found, plain_at, legal_at}
use Rattle.demands_rfc.specs.RfcQuoted.{plain_white, Filled, done, white, line, block, Closed, Added, last, more, Quoted}
use Rattle.demands_rfc.proofs.RfcCounts.{rfc_uncounted}
use Rattle.demands_rfc.proofs.RfcGaps.{slash}

-- ---- where our gap ends

span_end : (p : ℕ → Bool) (xs : List ℕ) → p 256 ≡ false → p (get_or xs (span p xs) 256) ≡ false
unfolding span
span_end p [] h = h
span_end p (b ∷ xs) h = by_test (p b) (λ t. rw t (span_end p xs h)) (λ t. rw t t)

run_end_lem : (s : List ℕ) (i : ℕ) → in_run White (get_or s (run_end White s i) 256) ≡ false
unfolding run_end in_run class_of
run_end_lem s i = ap (in_run White) (sym (get_or-drop i s (span (in_run White) (drop i s)) 256)) ∙ span_end (in_run White) (drop i s) refl

-- neither a white byte nor a comment stands there
Ends : List ℕ → ℕ → Type 0
Ends s g = (in_run White (get_or s g 256) ≡ false) × (comment_end s g ≡ g)

gap_ends : (s : List ℕ) (n i : ℕ) → length s - i < n → Ends s (gap_end s i)
unfolding Ends
gap_ends s zero i h = absurd (not-suc-le-zero h)
gap_ends s (suc n) i h =
    let w = run_end White s i in
    by_test (eqb (comment_end s w) w)
    (λ e. rw (gap_stop s i refl refl (eqb-true _ _ e)) (run_end_lem s i, eqb-true _ _ e))
    (λ e. rw (gap_more s i refl refl (eqb-false _ _ e)) (gap_ends s n (comment_end s w) (omega (arith, gap_on s i refl refl (eqb-false _ _ e)))))

not_run : (b c : ℕ) → in_run White b ≡ false → in_run White c ≡ true → eqb b c ≡ false
not_run b c h k = by_test (eqb b c) (λ e. absurd (never h (ap (in_run White) (eqb-true b c e) ∙ k))) (λ e. e)

module _ (b : ℕ) (h : in_run White b ≡ false) where
  no_blank : is_blank b ≡ false
  unfolding is_blank in_run class_of
  no_blank = rw (not_run b 32 h refl) (not_run b 9 h refl)

  no_newline : eqb b 10 ≡ false
  unfolding in_run class_of
  no_newline = not_run b 10 h refl

  no_odd : odd_white b ≡ false
  unfolding odd_white in_run class_of
  no_odd = rw (not_run b 11 h refl, not_run b 12 h refl) (not_run b 13 h refl)

  no_return : eqb b 13 ≡ false
  unfolding in_run class_of
  no_return = not_run b 13 h refl

module _ (s : List ℕ) (g : ℕ) (h : Ends s g) where
  no_line : are_at s g 47 47 ≡ false
  unfolding are_at pair_at Ends
  no_line = by_test (pair_at s g 47 47) (λ l. absurd (omega (arith, h.1, comment_line s g l, run_from Line s (g + 2)))) (λ l. l)

  no_block : are_at s g 47 42 ≡ false
  unfolding are_at pair_at Ends
  no_block =
      by_test (pair_at s g 47 42) (λ b. absurd (omega (arith, h.1, comment_block s g no_line b, block_from s (g + 2)))) (λ b. b)

  -- so the RFC's gap ends there
  ends_there : separator s g ≡ stop (some g)
  unfolding separator are_at Ends
  ends_there =
      rw (no_blank (get_or s g 256) h.0) (rw (no_newline (get_or s g 256) h.0) (rw (no_return (get_or s g 256) h.0) (rw no_line (rw no_block))))

-- ---- a gap

module _ (s : List ℕ) (i : ℕ) where
  past_stop : (g : ℕ) → separator s i ≡ stop (some g) → past_gap s i ≡ some g
  past_stop g h = rfc_uncounted.gaps s i ∙ ap (after (λ next. past_gap s next)) h

  past_on : (j : ℕ) → separator s i ≡ on j → past_gap s i ≡ past_gap s j
  past_on j h = rfc_uncounted.gaps s i ∙ ap (after (λ next. past_gap s next)) h

  on_byte : plain_white (get_or s i 256) ≡ true → separator s i ≡ on (i + 1)
  unfolding separator is_blank plain_white
  on_byte h =
      by_test (eqb (get_or s i 256) 32)
      (λ b. rw b)
      (λ b. by_test (eqb (get_or s i 256) 9)
      (λ t. rw b (rw t))
      (λ t. by_test (eqb (get_or s i 256) 10) (λ n. rw b (rw t (rw n))) (λ n. absurd (never b (rw n at (rw t at h))))))

  no_pair : (c d : ℕ) → eqb (get_or s i 256) c ≡ false → are_at s i c d ≡ false
  unfolding are_at
  no_pair c d h = rw h

  on_slashes : are_at s i 47 47 ≡ true → separator s i ≡ on (i + 2 + to_line_end (drop (i + 2) s))
  unfolding separator
  on_slashes h =
      let w = slash s i 47 h in
      rw (no_blank (get_or s i 256) w) (rw (no_newline (get_or s i 256) w) (rw (no_pair 13 10 (no_return (get_or s i 256) w)) (rw h)))

  not_slashes : are_at s i 47 42 ≡ true → are_at s i 47 47 ≡ false
  unfolding are_at
  not_slashes h =
      let e = eqb-true (get_or s (i + 1) 256) 42 (both (eqb (get_or s i 256) 47) (eqb (get_or s (i + 1) 256) 42) h).1 in
      ap (λ b. eqb (get_or s i 256) 47 && eqb b 47) e ∙ and-false (eqb (get_or s i 256) 47)

  on_slash_star : (e : ℕ) → are_at s i 47 42 ≡ true → comment_close (drop (i + 2) s) (i + 2) ≡ some e → separator s i ≡ on e
  unfolding separator past_comment
  on_slash_star e h k =
      let w = slash s i 42 h in
      rw (no_blank (get_or s i 256) w)
      (rw (no_newline (get_or s i 256) w) (rw (no_pair 13 10 (no_return (get_or s i 256) w)) (rw (not_slashes h) (rw h (ap past_comment k)))))

filled_past : (s : List ℕ) (g at : ℕ) → separator s g ≡ stop (some g) → Filled s g at → past_gap s at ≡ some g
filled_past s g at h (done e) = ap (past_gap s) e ∙ past_stop s g g h
filled_past s g at h (white b f) = past_on s at (at + 1) (on_byte s at b) ∙ filled_past s g (at + 1) h f
filled_past s g at h (line p f) = past_on s at (at + 2 + to_line_end (drop (at + 2) s)) (on_slashes s at p)
    ∙ filled_past s g (at + 2 + to_line_end (drop (at + 2) s)) h f
filled_past s g at h (block {next} p k f) = past_on s at next (on_slash_star s at next p k) ∙ filled_past s g next h f

-- ---- pieces that pass

record Passes (r : Read Piece) (end : ℕ) : Type 0 where
  piece : Piece
  read : r ≡ reads piece end
  plainly : plain piece ≡ true
  legally : legal_in piece ≡ true

gap_passes : (s : List ℕ) (at : ℕ) → Filled s (gap_end s at) at → Passes (gap_at s at) (gap_end s at)
unfolding gap_at gap_to plain legal_in Ends
gap_passes s at f =
    let g = gap_end s at in
    let e : Ends s g = gap_ends s (suc (length s)) at (omega arith) in
    record {
      piece = gap (get_or s g 256);
      read = ap (gap_to s) (filled_past s g at (ends_there s g e) f);
      plainly = cc (no_odd (get_or s g 256) e.0);
      legally = refl;
    }

-- ---- a string

whole_close : (s : List ℕ) (at q end : ℕ) (bs : List ℕ) → get_or s at 256 ≡ q → str_at s at ≡ whole bs end → str_end q false (drop (at + 1) s) (at + 1) ≡ Some end
unfolding str_at
whole_close s at q end bs e h =
    (closed_end (str_bytes q false (drop (at + 1) s)) (str_end q false (drop (at + 1) s) (at + 1)) bs end
    (ap (λ c. closed_by (str_bytes c false (drop (at + 1) s)) (str_end c false (drop (at + 1) s) (at + 1))) (sym e) ∙ h)
    ).0

open_not : {k : Option ℕ} {a : ℕ} → k ≡ None → k ≡ Some a → ⊥
open_not e f = let z : ◌≡◌ {A = ℕ} 0 1 = cc in omega arith

take_more : (b : ℕ) (xs : List ℕ) (n at : ℕ) → at < n → b ∷ take (n - (at + 1)) xs ≡ take (n - at) (b ∷ xs)
take_more b xs n at h = let e : n - at ≡ suc (n - (at + 1)) = omega arith in rw e

-- a byte and the rest of a string
put : {r : Read (List ℕ)} (b : ℕ) (xs : List ℕ) (end at : ℕ) → at + 1 < end → r ≡ reads (take (end - 1 - (at + 1)) xs) end
    → with (b ∷◌) r ≡ reads (take (end - 1 - at) (b ∷ xs)) end
unfolding with
put b xs end at l h = ap (with (b ∷◌)) h ∙ ap (λ (ys : List ℕ). reads ys end) (take_more b xs (end - 1) at (omega arith))

none_taken : (b : ℕ) (xs : List ℕ) (end at : ℕ) → at + 1 ≡ end → reads [] (at + 1) ≡ reads (take (end - 1 - at) (b ∷ xs)) end
none_taken b xs end at h = let e : end - 1 - at ≡ 0 = omega arith in rw e (ap (reads []) h)

double_raw : (e : Bool) (xs : List ℕ) (at end : ℕ) → str_end 34 e xs at ≡ Some end → double_body e xs at ≡ reads (take (end - 1 - at) xs) end
unfolding str_end double_body escapes
double_raw e [] at end h = absurd (open_not refl h)
double_raw true (b ∷ xs) at end h = put b xs end at (omega (arith, str_size 34 false xs (at + 1) end h)) (double_raw false xs (at + 1) end h)
double_raw false (b ∷ xs) at end h =
    by_test (eqb b 34)
    (λ q. rw q (none_taken b xs end at (at_is (at + 1) end refl (rw q at h))))
    (λ q. let k = rw q at h in rw q (put b xs end at (omega (arith, str_size 34 (eqb b 92) xs (at + 1) end k)) (double_raw (eqb b 92) xs (at + 1) end k)))

single_raw : (xs : List ℕ) (at end : ℕ) → str_end 39 false xs at ≡ Some end → single_body xs at ≡ reads (take (end - 1 - at) xs) end
unfolding str_end single_body escapes
single_raw [] at end h = absurd (open_not refl h)
single_raw (b ∷ xs) at end h =
    by_test (eqb b 39)
    (λ q. rw q (none_taken b xs end at (at_is (at + 1) end refl (rw q at h))))
    (λ q. let k = rw q at h in rw q (put b xs end at (omega (arith, str_size 39 false xs (at + 1) end k)) (single_raw xs (at + 1) end k)))

string_passes : (s : List ℕ) (at end : ℕ) → Closed s at end → Passes (string_at s at) end
unfolding string_at is_quote part plain legal_in with
string_passes s at end c =
    by_test (eqb (get_or s at 256) 34)
    (λ q. let k = whole_close s at 34 end c.bytes (eqb-true _ _ q) c.closes in
    record {
      piece = double (column_of s at) (part s (at + 1) (end - 1));
      read = rw q (ap (with (double (column_of s at))) (double_raw false (drop (at + 1) s) (at + 1) end k));
      plainly = c.unbroken q;
      legally = c.legally q;
    })
    (λ q. let a : eqb (get_or s at 256) 39 ≡ true = rw q at c.quoted in
    let k = whole_close s at 39 end c.bytes (eqb-true _ _ a) c.closes in
    record {
      piece = single (part s (at + 1) (end - 1));
      read = rw q (rw a (ap (with single) (single_raw (drop (at + 1) s) (at + 1) end k)));
      plainly = refl;
      legally = refl;
    })

-- ---- a value

record All (r : Read (List Piece)) : Type 0 where
  pieces : List Piece
  end : ℕ
  read : r ≡ reads pieces end
  plainly : every plain pieces ≡ true
  legally : every legal_in pieces ≡ true

first_all : {r : Read Piece} {m : ℕ} (rest : ℕ → Read (List Piece)) → Passes r m → All (rest m) → All (first r rest)
unfolding first with every
first_all rest p a =
    record {
      pieces = p.piece ∷ a.pieces;
      end = a.end;
      read = ap (λ r. first r rest) p.read ∙ ap (with (p.piece ∷◌)) a.read;
      plainly = rw p.plainly a.plainly;
      legally = rw p.legally a.legally;
    }

gap_and_string_lem : (s : List ℕ) (at end : ℕ) (rest : ℕ → Read (List Piece)) → Filled s (gap_end s at) at → Closed s (gap_end s at) end → All (rest end)
    → All (gap_and_string rest s at)
unfolding gap_and_string
gap_and_string_lem s at end rest f c a =
    first_all (λ here. first (string_at s here) rest) (gap_passes s at f) (first_all rest (string_passes s (gap_end s at) end c) a)

module _ (s : List ℕ) (at : ℕ) where
  plus_none : (rest : ℕ → Read (List Piece)) → eqb (get_or s at 256) 43 ≡ false → All (plus_and_string rest s at)
  unfolding plus_and_string every
  plus_none rest h = record { pieces = []; end = at; read = rw h; plainly = refl; legally = refl }

  plus_some : (rest : ℕ → Read (List Piece)) → eqb (get_or s at 256) 43 ≡ true → All (gap_and_string rest s (at + 1)) → All (plus_and_string rest s at)
  unfolding plus_and_string
  plus_some rest h a = record { pieces = a.pieces; end = a.end; read = rw h a.read; plainly = a.plainly; legally = a.legally }

  gap_and_plus : Filled s (gap_end s at) at → All (plus_and_string (λ end. more_strings s end) s (gap_end s at)) → All (more_strings s at)
  gap_and_plus f a =
      let b = first_all (λ here. plus_and_string (λ end. more_strings s end) s here) (gap_passes s at f) a in
      record { pieces = b.pieces; end = b.end; read = rfc_uncounted.strings s at ∙ b.read; plainly = b.plainly; legally = b.legally }

added_all : (s : List ℕ) (at : ℕ) → Added s at → All (more_strings s at)
added_all s at (last f p) = gap_and_plus s at f (plus_none s (gap_end s at) (λ end. more_strings s end) p)
added_all s at (more {end} f p g c a) =
    gap_and_plus s at f
    (plus_some s (gap_end s at) (λ end. more_strings s end) p
    (gap_and_string_lem s (gap_end s at + 1) end (λ end. more_strings s end) g c (added_all s end a)))

all_found : (p : Piece → Bool) {r : Read (List Piece)} (ps : List Piece) (end : ℕ) → r ≡ reads ps end → every p ps ≡ true → found p r ≡ true
unfolding found
all_found p ps end h k = rw h k

pub covered : (s : List ℕ) (at : ℕ) → Quoted s at → (plain_at s at ≡ true) × (legal_at s at ≡ true)
unfolding plain_at legal_at pieces_at
covered s at q =
    let a = gap_and_string_lem s at q.end (λ end. more_strings s end) q.gap q.string (added_all s q.end q.added) in
    (all_found plain a.pieces a.end a.read a.plainly, all_found legal_in a.pieces a.end a.read a.legally)

-- How far one step of the metadata scan goes and what it stores: a keyword takes a byte at least, and a value takes its own bytes behind it, so
-- the scan ends and the values fit the store.
-- w: the whole-text mode.
-- Assumes nothing.
use Rattle.std.specs.Prelude.{Ok, Err, Result}
use mathlib.Core.Path.{◌≡◌, refl, ap, subst}
use mathlib.Core.Bool.{Bool, true, false, cond, ◌||◌}
use mathlib.Core.List.{List, []}
use Prim.Native.Nat.{ℕ, ◌+◌, ◌-◌, ◌<◌, ◌≤◌}
use native.Mathlib.Omega.{arith}
use lib.Dec.{eqb, leb}
use lib.ListN.{length, get_or}
use borrow.Author.Tests.{leb-false}
use Rattle.text.specs.Due.{due_at}
use Rattle.text.specs.Scan.{gap_end}
use Rattle.text.specs.declared.Cursor.{Cursor}
use Rattle.text.specs.declared.Refusal.{Refusal}
use Rattle.text.proofs.DueLaws.{due_far, due_refused_within}
use Rattle.text.proofs.Laws.{gap_from, gap_within}
use Rattle.text_value.specs.Argument.{argument_at}
use Rattle.text_value.specs.Value.{value_at, value_bytes}
use Rattle.text_value.proofs.ArgumentLaws.{argument_far, argument_refused}
use Rattle.text_value.proofs.JoinLaws.{bytes_fit}
use Rattle.text_skip.specs.Skip.{past_token, past_value}
use Rattle.text_past.proofs.PastLaws.{refused_within}
use Rattle.text_skip.proofs.PastLaws.{past_token_far, past_token_not, past_value_far, past_value_not}
use Rattle.text_statement.specs.Statement.{past_statement}
use Rattle.text_statement.proofs.PastLaws.{past_statement_far, past_statement_not}
use Rattle.scan_rows.specs.Span.{held}
use Rattle.scan_rows.specs.declared.Span.{Span}
use Rattle.scan_header.specs.Header.{later_prefix, due_for, after_revision, after_value, Said, said, passed, kept, with_rest, field_at}
use Rattle.scan_header.specs.Header.{after_skipped, statement_said, tag_said, said_here, said_at}
use Rattle.scan_tag.specs.Tag.{tag_at}
use Rattle.scan_header.specs.declared.Heard.{Heard}
use Rattle.scan_header.specs.declared.Heard.TheVariants.{Value, Passed, Done}
use Rattle.scan_tag.specs.declared.Tag.{Tag}
use Rattle.scan_tag.specs.declared.Tag.TheVariants.{Statement, Last, Other}
use Rattle.scan_tag.proofs.TagLaws.{tag_far, tag_last_far}

-- what holds of both ways holds of the one taken
by_cond : {A : Type 0} (P : A → Type 0) (t : Bool) (x y : A) → (t ≡ true → P x) → (t ≡ false → P y) → P (cond t x y)
by_cond P true x y f g = f refl
by_cond P false x y f g = g refl

-- ---- what follows a value

abbrev Ends : List ℕ → ℕ → Result Cursor Refusal → Type 0
Ends s at (Ok c) = (at ≤ c.at) × (c.at ≤ length s)
Ends s at (Err r) = r.at ≤ length s

due_ends : (s : List ℕ) (at b k : ℕ) → at ≤ length s → b < 256 → Ends s at (due_at s at b k)
due_ends s at b k l small = of (due_at s at b k) refl
  where
    of : (d : Result Cursor Refusal) → due_at s at b k ≡ d → Ends s at d
    of (Ok c) h = omega (arith, due_far s at b k c small h)
    of (Err r) h = (due_refused_within s at b k r l h).1

past_ends : (w : Bool) (s : List ℕ) (at : ℕ) → at ≤ length s → Ends s at (past_statement w s at)
past_ends w s at l = of (past_statement w s at) refl
  where
    of : (d : Result Cursor Refusal) → past_statement w s at ≡ d → Ends s at d
    of (Ok c) e = past_statement_far w s at l c e
    of (Err r) e = refused_within s r (past_statement_not w s at r e)

due_small : (k : ℕ) → due_for k < 256
unfolding due_for
due_small k = by_cond (λ b. b < 256) (eqb k 1 || eqb k 2) 123 59 (λ t. omega arith) (λ t. omega arith)

ends_from : (s : List ℕ) (at g : ℕ) (d : Result Cursor Refusal) → at ≤ g → Ends s g d → Ends s at d
ends_from s at g (Ok c) l e = (omega (arith, e.0), e.1)
ends_from s at g (Err r) l e = e

revision_ends : (w : Bool) (s : List ℕ) (at : ℕ) → at ≤ length s → Ends s at (after_revision w s at)
unfolding after_revision
revision_ends w s at l =
    by_cond (Ends s at) (eqb (get_or s at 256) 123) (past_statement w s at) (due_at s at 59 7)
    (λ t. past_ends w s at l) (λ t. due_ends s at 59 7 l (omega arith))

value_ends : (w : Bool) (s : List ℕ) (at k : ℕ) → at ≤ length s → Ends s at (after_value w s at k)
unfolding after_value
value_ends w s at k l =
    let g = gap_end s at in
    by_cond (Ends s at) (eqb k 3) (past_statement w s at) (cond (eqb k 7) (after_revision w s g) (due_at s at (due_for k) k))
    (λ t. past_ends w s at l)
    (λ t. by_cond (Ends s at) (eqb k 7) (after_revision w s g) (due_at s at (due_for k) k)
    (λ v. ends_from s at g (after_revision w s g) (gap_from s at) (revision_ends w s g (gap_within s at l)))
    (λ v. due_ends s at (due_for k) k l (due_small k)))

-- ---- a step

-- from at, with the bytes bs stored from u on
abbrev Went : List ℕ → ℕ → ℕ → List ℕ → Result Heard Refusal → Type 0
Went s at u bs (Ok (Value k y c n)) = (at + length bs < c.at) × (c.at ≤ length s) × (y ≡ held u (length bs)) × (n ≡ u + length bs)
Went s at u bs (Ok (Passed c)) = (at < c.at) × (c.at ≤ length s) × (bs ≡ [])
Went s at u bs (Ok (Done c)) = (at ≤ c.at) × (at ≤ length s → c.at ≤ length s) × (bs ≡ [])
Went s at u bs (Err r) = (r.at ≤ length s) × (length bs ≤ length s - at)

abbrev Goes : List ℕ → ℕ → ℕ → Said → Type 0
Goes s at u x = Went s at u x.bytes x.answer

-- i: behind the keyword
module _ (w : Bool) (s : List ℕ) (at i u : ℕ) (behind : at < i) (in-text : i ≤ length s) where
  passed_went : (j : ℕ) (d : Result Cursor Refusal) → i ≤ j → Ends s j d → Went s at u [] (passed d)
  unfolding passed
  passed_went j (Ok c) l e = (omega (arith, e.0), e.1, refl)
  passed_went j (Err r) l e = (e, omega arith)

  -- j: behind the value
  kept_went : (k j n : ℕ) (bs : List ℕ) (d : Result Cursor Refusal) → i + length bs ≤ j → j ≤ length s → n ≡ u + length bs → Ends s j d → Went s at u bs (kept k u n d)
  unfolding kept
  kept_went k j n bs (Ok c) l t m e = (omega (arith, e.0), e.1, ap (held u) (omega arith), m)
  kept_went k j n bs (Err r) l t m e = (e, omega arith)

  rest_went : (k : ℕ) (a : Result (Cursor × ℕ) Refusal) → argument_at w s i u k ≡ a → Went s at u (value_bytes (value_at s i)) (with_rest w s k u a)
  unfolding with_rest
  rest_went k (Ok (c, n)) h =
      let f = argument_far w s i u k c n h in
      kept_went k c.at n (value_bytes (value_at s i)) (after_value w s c.at k) f.1 f.2 f.3 (value_ends w s c.at k f.2)
  rest_went k (Err r) h = ((argument_refused w s i u k r in-text h).1, omega (arith, bytes_fit s i))

  field_goes : (k : ℕ) → Goes s at u (field_at w s i k u)
  unfolding field_at
  field_goes k = rest_went k (argument_at w s i u k) refl

  skipped_went : (k : ℕ) (d : Result Cursor Refusal) → past_value w s i ≡ d → Went s at u [] (after_skipped w s k d)
  unfolding after_skipped
  skipped_went k (Ok c) e =
      let f = past_value_far w s i in-text c e in
      passed_went c.at (after_value w s c.at k) f.0 (value_ends w s c.at k f.1)
  skipped_went k (Err r) e = (refused_within s r (past_value_not w s i r e), omega arith)

  statement_goes : (k : ℕ) (p : Bool) → Goes s at u (statement_said w s i k u p)
  unfolding statement_said
  statement_goes k p =
      let version = said (after_skipped w s k (past_value w s i)) in
      let again = said (passed (past_statement w s i)) in
      by_cond (Goes s at u) (eqb k 6) version (cond (later_prefix k p) again (field_at w s i k u))
      (λ t. skipped_went k (past_value w s i) refl)
      (λ t. by_cond (Goes s at u) (later_prefix k p) again (field_at w s i k u)
      (λ v. passed_went i (past_statement w s i) (omega arith) (past_ends w s i in-text))
      (λ v. field_goes k))

-- at the place g after the gap
token_went : (w : Bool) (s : List ℕ) (at g u : ℕ) → at ≤ g → g < length s → (d : Result Cursor Refusal) → past_token w s g ≡ d → Went s at u [] (passed d)
unfolding passed
token_went w s at g u from in-text (Ok c) e = let f = past_token_far w s g in-text c e in (omega (arith, f.0), f.1, refl)
token_went w s at g u from in-text (Err r) e = (refused_within s r (past_token_not w s g r e), omega arith)

tag_goes : (w : Bool) (s : List ℕ) (at g u : ℕ) (p : Bool) → at ≤ g → g < length s → (t : Tag) → tag_at s g ≡ t → Goes s at u (tag_said w s g u p t)
unfolding tag_said
tag_goes w s at g u p from in-text (Statement k c) h =
    let f = tag_far s g k c h in statement_goes w s at c.at u (omega (arith, f.0)) f.1 k p
tag_goes w s at g u p from in-text (Last c) h =
    let f = tag_last_far s g c h in (omega (arith, f.0), λ l. f.1, refl)
tag_goes w s at g u p from in-text Other h = token_went w s at g u from in-text (past_token w s g) refl

said_goes : (w : Bool) (s : List ℕ) (at u : ℕ) (p : Bool) → Goes s at u (said_at w s at u p)
unfolding said_at said_here
said_goes w s at u p =
    let g = gap_end s at in
    by_cond (Goes s at u) (leb (length s) g) (said (Ok (Done (record { at = g })))) (tag_said w s g u p (tag_at s g))
    (λ t. (gap_from s at, gap_within s at, refl))
    (λ t. tag_goes w s at g u p (gap_from s at) (leb-false (length s) g t) (tag_at s g) refl)

went_room : (s : List ℕ) (at u : ℕ) (bs : List ℕ) (x : Result Heard Refusal) → Went s at u bs x → u + length bs ≤ u + (length s - at)
went_room s at u bs (Ok (Value k y c n)) w = omega (arith, w.0, w.1)
went_room s at u bs (Ok (Passed c)) w = omega (arith, ap length w.2)
went_room s at u bs (Ok (Done c)) w = omega (arith, ap length w.2)
went_room s at u bs (Err r) w = omega (arith, w.1)

module _ (w : Bool) (s : List ℕ) (at u : ℕ) (p : Bool) where
  went : (x : Result Heard Refusal) → (said_at w s at u p).answer ≡ x → Went s at u (said_at w s at u p).bytes x
  went x h = subst (Went s at u (said_at w s at u p).bytes) h (said_goes w s at u p)

  -- the bytes stored fit the rest of the text
  pub said_room : u + length (said_at w s at u p).bytes ≤ u + (length s - at)
  said_room = went_room s at u (said_at w s at u p).bytes (said_at w s at u p).answer (said_goes w s at u p)

  -- a value: its bytes are those stored, and room for the rest of the text stays
  pub said_value : (k : ℕ) (y : Span) (c : Cursor) (n : ℕ) → (said_at w s at u p).answer ≡ Ok (Value k y c n)
      → (at < c.at) × (c.at ≤ length s) × (y ≡ held u (length (said_at w s at u p).bytes)) × (n ≡ u + length (said_at w s at u p).bytes)
      × (n + (length s - c.at) ≤ u + (length s - at))
  said_value k y c n h =
      let f = went (Ok (Value k y c n)) h in
      (omega (arith, f.0), f.1, f.2, f.3, omega (arith, f.0, f.1, f.3))

  pub said_passed : (c : Cursor) → (said_at w s at u p).answer ≡ Ok (Passed c) → (at < c.at) × (c.at ≤ length s) × ((said_at w s at u p).bytes ≡ [])
  said_passed c h = went (Ok (Passed c)) h

  pub said_done : at ≤ length s → (c : Cursor) → (said_at w s at u p).answer ≡ Ok (Done c) → (at ≤ c.at) × (c.at ≤ length s) × ((said_at w s at u p).bytes ≡ [])
  said_done l c h = let f = went (Ok (Done c)) h in (f.0, f.1 l, f.2)

  pub said_refused : (r : Refusal) → (said_at w s at u p).answer ≡ Err r → (r.at ≤ length s) × (u + length (said_at w s at u p).bytes ≤ u + (length s - at))
  said_refused r h = ((went (Err r) h).0, said_room)

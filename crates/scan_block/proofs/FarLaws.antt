-- How far one statement of a block goes: it takes more bytes of the text than it stores, so the block ends and its values fit the store.
-- Assumes nothing.
use Rattle.std.proofs.lemmas.Option.{some_pair_parts}
use Rattle.std.specs.Prelude.{Some, None, Ok, Err, Option, Result}
use mathlib.Core.Path.{◌≡◌, refl, sym, ap, subst, ◌∙◌}
use mathlib.Core.Bool.{Bool}
use mathlib.Core.List.{List, []}
use Prim.Native.Nat.{ℕ, ◌+◌, ◌-◌, ◌<◌, ◌≤◌}
use native.Mathlib.Omega.{arith}
use lib.ListN.{length, get_or}
use lib.Dec.{eqb}
use borrow.Author.Tests.{eqb-true, eqb-false}
use Rattle.text.specs.Keyword.{match_at}
use Rattle.text.specs.Scan.{gap_end}
use Rattle.text.specs.Words.{prefix_word, revision_date_word}
use Rattle.text.specs.declared.Cursor.{Cursor}
use Rattle.text.proofs.Here.{by_test, here}
use Rattle.text.proofs.KeywordLaws.{match_far}
use Rattle.text.proofs.Laws.{gap_from, gap_within, gap_twice}
use Rattle.text_value.specs.Argument.{line_at}
use Rattle.text_value.specs.Value.{value_at, value_bytes}
use Rattle.text_value.proofs.ArgumentLaws.{line_far, line_refusal}
use Rattle.text_value.proofs.JoinLaws.{bytes_fit}
use Rattle.text_statement.specs.Statement.{past_statement}
use Rattle.text_past.proofs.PastLaws.{refused_within}
use Rattle.text_statement.proofs.PastLaws.{past_statement_far, past_statement_moves, past_statement_not}
use Rattle.scan_rows.specs.Span.{held}
use Rattle.scan_block.specs.Left.{Left}
use Rattle.scan_block.specs.Block.{or_line, revision_line, line_kind, with_value, with_skipped, after_kind, inside_at}
use Rattle.scan_block.specs.declared.Body.{Body}
use Rattle.scan_block.specs.declared.Inside.{Inside}
use Rattle.scan_block.specs.declared.Inside.TheVariants.{On, Closed}
use Rattle.scan_block.proofs.InsideLaws.{inside_end, inside_close, inside_kind}
use Rattle.scan_block.proofs.Spans.{Sound, sound_moved, sound_kept, kept_place}
use Rattle.text.specs.declared.Refusal.{Refusal}

-- ---- a keyword

-- m: what a word answered, l: what it is else
or_far : (s : List ℕ) (at : ℕ) (word : List ℕ) (k : ℕ) (m : Option Cursor) (l : Option (ℕ × Cursor)) (j : ℕ) (c : Cursor) → match_at s at word ≡ m
    → (l ≡ Some (j, c) → (at < c.at) × (c.at ≤ length s)) → or_line k m l ≡ Some (j, c) → (at < c.at) × (c.at ≤ length s)
unfolding or_line
or_far s at word k (Some d) l j c e else h =
    let q = ap (λ (x : Cursor). x.at) (some_pair_parts k j d c h).1 in
    omega (arith, match_far s at word d e, q)
or_far s at word k None l j c e else h = else h

other_not : {A : Type 0} {l : Option (ℕ × Cursor)} (j : ℕ) (c : Cursor) → l ≡ None → l ≡ Some (j, c) → A
other_not j c e h = let z : ◌≡◌ {A = ℕ} 0 1 = cc in absurd (omega arith)

-- the value begins behind the keyword
pub kind_value_far : (s : List ℕ) (at k j : ℕ) (c : Cursor) → line_kind s at k ≡ Some (j, c) → (at < c.at) × (c.at ≤ length s)
unfolding line_kind
kind_value_far s at k j c h =
    let revision = or_far s at revision_date_word 10 (match_at s at revision_date_word) None j c refl (other_not j c refl) in
    by_test (eqb k 8)
    (λ t. or_far s at prefix_word 5 (match_at s at prefix_word) (revision_line s at) j c refl revision (rw t at h))
    (λ t. revision (rw t at h))

-- ---- a statement

-- from b to y with the bytes bs stored
abbrev pub Forth : List ℕ → Body → List ℕ → Body → Type 0
Forth s b bs y =
    (b.at + length bs < y.at) × (y.at ≤ length s) × (y.used ≡ b.used + length bs) × ((u : ℕ) → Sound u b → Sound u y)

abbrev pub Went : List ℕ → Body → List ℕ → Result Inside Refusal → Type 0
Went s b bs (Ok (On y)) = Forth s b bs y
Went s b bs (Ok (Closed y)) = Forth s b bs y
Went s b bs (Err r) = (length bs ≤ length s - b.at) × (b.at ≤ length s → r.at ≤ length s)

module _ (w : Bool) (s : List ℕ) (b : Body) (at : ℕ) (l : b.at ≤ at) (in-text : at ≤ length s) where
  value_went : (j : ℕ) (a : Result (Cursor × ℕ) Refusal) → line_at w s at b.used j 59 ≡ a → Went s b (value_bytes (value_at s at)) (with_value b j a)
  unfolding with_value
  value_went j (Ok (c, n)) h =
      let f = line_far w s at b.used j 59 c n (omega arith) h in
      let x = held b.used (n - b.used) in
      let p = kept_place b j c.at n x in
      (omega (arith, f, p.0), omega (arith, f.1, p.0), p.1 ∙ f.2, λ u d. sound_kept u b c.at n (omega (arith, f)) d j)
  value_went j (Err r) h = (omega (arith, bytes_fit s at), λ i. (line_refusal w s at b.used j 59 r in-text h).1)

-- at the place g after the gap
module _ (w : Bool) (s : List ℕ) (b : Body) (g k : ℕ) (l : b.at ≤ g) (in-text : g < length s) (e : gap_end s g ≡ g) (n : get_or s g 256 ≡ 125 → ⊥) where
  other_went : (x : Result Cursor Refusal) → past_statement w s g ≡ x → Went s b [] (with_skipped b x)
  unfolding with_skipped
  other_went (Ok c) m =
      let moves = past_statement_moves w s g in-text (λ z. n (ap (λ i. get_or s i 256) (sym e) ∙ z)) c m in
      let far = past_statement_far w s g (omega arith) c m in
      (omega (arith, moves), far.1, omega arith, λ u d. sound_moved u b c.at d)
  other_went (Err r) m = (omega arith, λ i. refused_within s r (past_statement_not w s g r m))

  kind_went : (x : Option (ℕ × Cursor)) → line_kind s g k ≡ x → Went s b (after_kind w s g b x).bytes (after_kind w s g b x).answer
  unfolding after_kind
  kind_went (Some (j, c)) h =
      let f = kind_value_far s g k j c h in
      value_went w s b c.at (omega (arith, f)) f.1 j (line_at w s c.at b.used j 59) refl
  kind_went None h = other_went (past_statement w s g) refl

went_is : (s : List ℕ) (b : Body) {x y : Left (Result Inside Refusal)} → x ≡ y → Went s b y.bytes y.answer → Went s b x.bytes x.answer
went_is s b e w = subst (λ z. Went s b z.bytes z.answer) (sym e) w

-- a statement that was read or skipped, or a brace, is behind its start, within the text, and takes more than the bytes that are stored
pub inside_went : (w : Bool) (s : List ℕ) (k : ℕ) (b : Body) → Went s b (inside_at w s k b).bytes (inside_at w s k b).answer
inside_went w s k b =
    let g = gap_end s b.at in
    let from = gap_from s b.at in
    by_test (eqb (get_or s g 256) 256)
    (λ t. went_is s b (inside_end w s k b refl refl (eqb-true (get_or s g 256) 256 t)) (omega arith, λ i. gap_within s b.at i))
    (λ t. let p : (get_or s g 256 ≡ 256 → ⊥) = eqb-false _ _ t in
    let i = here s g p in
    by_test (eqb (get_or s g 256) 125)
    (λ v. went_is s b (inside_close w s k b refl refl p (eqb-true (get_or s g 256) 125 v))
    (omega arith, omega arith, omega arith, λ u d. sound_moved u b (g + 1) d))
    (λ v. let q : (get_or s g 256 ≡ 125 → ⊥) = eqb-false _ _ v in
    went_is s b (inside_kind w s k b refl refl p q refl) (kind_went w s b g k from i (gap_twice s b.at) q (line_kind s g k) refl)))

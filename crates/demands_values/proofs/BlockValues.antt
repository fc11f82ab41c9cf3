-- The values of a block: each is given by the last statement with its keyword, and stands in the store as it stands behind the keyword.
-- Assumes nothing.
use Rattle.std.specs.Prelude.{Some, None, Ok, Err, Option, Result}
use Prim.Native.Nat.{ℕ, zero, suc, ◌+◌, ◌-◌, ◌<◌}
use mathlib.Core.Path.{◌≡◌, refl, sym, ap, subst, ◌∙◌}
use mathlib.Core.Bool.{true, false}
use mathlib.Core.Logic.{◌⊎◌, inl, inr, ⊎_elim}
use mathlib.Core.List.{List, [], ◌++◌, append_assoc}
use native.Mathlib.Nat.{not-suc-le-zero}
use native.Mathlib.Omega.{arith}
use lib.Dec.{eqb}
use lib.ListN.{length, get_or, length-append}
use borrow.Author.Tests.{eqb-true, eqb-false}
use Rattle.text.specs.Bytes.{look}
use Rattle.text.specs.Class.{class_of}
use Rattle.text.specs.Keyword.{starts_ident, match_at}
use Rattle.text.specs.Scan.{gap_end}
use Rattle.text.specs.Turns.{stop, on}
use Rattle.text.specs.Words.{prefix_word, revision_date_word}
use Rattle.text.specs.declared.Cursor.{Cursor}
use Rattle.text.proofs.Here.{by_test}
use Rattle.text.proofs.KeywordLaws.{match_none}
use Rattle.text_value.specs.Argument.{line_at}
use Rattle.text_value.specs.Value.{value_at, value_bytes}
use Rattle.text_value.proofs.ArgumentLaws.{line_far}
use Rattle.text_statement.specs.Statement.{past_statement}
use Rattle.scan_rows.specs.Span.{held}
use Rattle.scan_rows.specs.declared.Span.{Span}
use Rattle.scan_block.specs.Left.{Left}
use Rattle.scan_block.specs.Block.{or_line, revision_line, line_kind, kept, with_value, with_skipped, after_kind, inside_here, inside_at, Stored, after_inside}
use Rattle.scan_block.specs.Block.{block_turn, block_from, begun, block_at}
use Rattle.scan_block.specs.declared.Body.{Body}
use Rattle.scan_block.specs.declared.Inside.{Inside}
use Rattle.scan_block.specs.declared.Inside.TheVariants.{On, Closed}
use Rattle.scan_block.proofs.BlockLaws.{turn_far, block_falls, block_on, block_close, block_broken}
use Rattle.demands_values.specs.Behind.{Behind}
use Rattle.demands_values.proofs.BehindLaws.{line_value, other_not, held_new, behind_new}
use Rattle.demands_values.proofs.Walks.{Gives, Won, won_stop, won_on}
use Rattle.text.specs.declared.Refusal.{Refusal}

-- ---- which keyword matched; an import's block has both, an include's the second

differ : prefix_word ≡ revision_date_word → ⊥
differ e = omega (arith, ap (λ l. get_or l 0 0) e)

abbrev KindIs : List ℕ → ℕ → ℕ → Option (ℕ × Cursor) → Type 0
KindIs s at k (Some (j, c)) =
    ((j ≡ 5) × (match_at s at prefix_word ≡ Some c) × (match_at s at revision_date_word ≡ None))
    ⊎ ((j ≡ 10) × (match_at s at prefix_word ≡ None) × (match_at s at revision_date_word ≡ Some c))
KindIs s at k None = (k ≡ 8 → match_at s at prefix_word ≡ None) × (match_at s at revision_date_word ≡ None)

module _ (s : List ℕ) (at k : ℕ) where
  revision_is : (m : Option Cursor) → match_at s at revision_date_word ≡ m → (k ≡ 8 → match_at s at prefix_word ≡ None) → KindIs s at k (or_line 10 m None)
  unfolding or_line
  revision_is (Some c) e n = inr (refl, other_not s at revision_date_word prefix_word e (λ q. differ (sym q)), e)
  revision_is None e n = (n, e)

  prefix_is : (m : Option Cursor) → match_at s at prefix_word ≡ m → KindIs s at k (or_line 5 m (revision_line s at))
  unfolding or_line
  prefix_is (Some c) e = inl (refl, e, other_not s at prefix_word revision_date_word e differ)
  prefix_is None e = revision_is (match_at s at revision_date_word) refl (λ h. e)

  kind_is : KindIs s at k (line_kind s at k)
  unfolding line_kind
  kind_is =
      by_test (eqb k 8) (λ t. rw t (prefix_is (match_at s at prefix_word) refl))
      (λ t. rw t (revision_is (match_at s at revision_date_word) refl (λ h. absurd (eqb-false k 8 t h))))

-- where no identifier begins
closed_not : (s : List ℕ) (at : ℕ) (word : List ℕ) → eqb (look s at) 125 ≡ true → match_at s at word ≡ None
unfolding starts_ident class_of
closed_not s at word t = match_none s at word refl refl (ap starts_ident (eqb-true (look s at) 125 t))

-- each statement goes forward
block_forward : (s : List ℕ) (k : ℕ) (g h : Stored) → block_turn false s k g ≡ on h → g.body.at < h.body.at
block_forward s k g h t = omega (arith, (turn_far false s k g h t).0.0)

-- ---- one statement from the state g; store: the bytes stored so far

module _ (s : List ℕ) (k : ℕ) (g : Stored) (store : List ℕ) (count : g.body.used ≡ length store) where
  abbrev place : ℕ
  place = gap_end s g.body.at

  abbrev LineGives : List ℕ → List ℕ → Span → Span → Type 0
  LineGives word bs x y = Gives (block_turn false s k) (λ b. b.body.at) s word g (store ++ bs) x y

  abbrev InsideHas : List ℕ → Result Inside Refusal → Type 0
  InsideHas bs (Ok (On y)) =
      (y.used ≡ length (store ++ bs)) × (k ≡ 8 → LineGives prefix_word bs g.body.prefix y.prefix)
      × LineGives revision_date_word bs g.body.revision y.revision
  InsideHas bs (Ok (Closed y)) =
      ((match_at s place prefix_word ≡ None) × (y.prefix ≡ g.body.prefix))
      × ((match_at s place revision_date_word ≡ None) × (y.revision ≡ g.body.revision))
  InsideHas bs (Err r) = Unit {0}

  -- a value of the keyword j, which ended at c
  value_has : (j : ℕ) (c : Cursor) → KindIs s place k (Some (j, c)) → (a : Result (Cursor × ℕ) Refusal) → line_at false s c.at g.body.used j 59 ≡ a
      → InsideHas (value_bytes (value_at s c.at)) (with_value g.body j a)
  unfolding with_value kept
  value_has j c kind (Ok (d, n)) h =
      let b = g.body in
      let bs = value_bytes (value_at s c.at) in
      let f = line_far false s c.at b.used j 59 d n (omega arith) h in
      let w = line_value s c.at b.used j 59 d n h in
      let x = held b.used (n - b.used) in
      let end : n ≡ length (store ++ bs) = omega (arith, count, f.2, length-append store bs) in
      let new : (word : List ℕ) → match_at s place word ≡ Some c → Behind s word place (store ++ bs) x
      = λ word m. behind_new store bs x m w.1 (held_new store bs count f.2) in
      ⊎_elim (λ q. rw q.0 (end, λ h. inl (new prefix_word q.1), inr (q.2, refl)))
      (λ q. rw q.0 (end, λ h. inr (q.1, refl), inl (new revision_date_word q.2))) kind
  value_has j c kind (Err r) h = tt

  skipped_has : KindIs s place k None → (x : Result Cursor Refusal) → InsideHas [] (with_skipped g.body x)
  unfolding with_skipped
  skipped_has kind (Ok c) = (omega (arith, count, length-append store []), λ e. inr (kind.0 e, refl), inr (kind.1, refl))
  skipped_has kind (Err r) = tt

  kind_has : (x : Option (ℕ × Cursor)) → KindIs s place k x → InsideHas (after_kind false s place g.body x).bytes (after_kind false s place g.body x).answer
  unfolding after_kind
  kind_has (Some (j, c)) h = value_has j c h (line_at false s c.at g.body.used j 59) refl
  kind_has None h = skipped_has h (past_statement false s place)

  inside_has : InsideHas (inside_at false s k g.body).bytes (inside_at false s k g.body).answer
  unfolding inside_at inside_here
  inside_has =
      by_test (eqb (look s place) 256) (λ t. rw t tt)
      (λ t. rw t (by_test (eqb (look s place) 125)
      (λ w. let no : (word : List ℕ) → match_at s place word ≡ None = λ word. closed_not s place word w in
      rw w ((no prefix_word, refl), (no revision_date_word, refl)))
      (λ w. rw w (kind_has (line_kind s place k) (kind_is s place k)))))

-- ---- the whole block; pre: the bytes stored before it

module _ (s : List ℕ) (k : ℕ) (pre : List ℕ) where
  abbrev pub LineWon : List ℕ → Stored → List ℕ → Span → Span → Type 0
  LineWon word g store x y = Won (block_turn false s k) (λ b. b.body.at) s word g store x y

  pub record Ends (g : Stored) (cs : List ℕ) (y : Body) : Type 0 where
    pub rest : List ℕ
    pub grown : pre ++ cs ≡ pre ++ g.bytes ++ rest
    pub prefix : k ≡ 8 → LineWon prefix_word g (pre ++ cs) g.body.prefix y.prefix
    pub revision : LineWon revision_date_word g (pre ++ cs) g.body.revision y.revision

  abbrev pub BlockHas : Stored → List ℕ → Result Body Refusal → Type 0
  BlockHas g cs (Ok y) = Ends g cs y
  BlockHas g cs (Err r) = Unit {0}

  -- m: more than the bytes that are left
  from_has : (m : ℕ) (g : Stored) → length s - g.body.at < m → g.body.used ≡ length (pre ++ g.bytes)
      → BlockHas g (block_from false s k g).bytes (block_from false s k g).answer
  unfolding block_turn after_inside
  from_has zero g l count = absurd (not-suc-le-zero l)
  from_has (suc m) g l count = of i.answer refl (inside_has s k g (pre ++ g.bytes) count) (from_has m)
    where
      i : Left (Result Inside Refusal)
      i = inside_at false s k g.body

      bs : List ℕ
      bs = g.bytes ++ i.bytes

      assoc : pre ++ g.bytes ++ i.bytes ≡ pre ++ bs
      assoc = append_assoc pre g.bytes i.bytes

      -- over the turn to h
      more : (h : Stored) → block_turn false s k g ≡ on h → h.bytes ≡ bs → InsideHas s k g (pre ++ g.bytes) count i.bytes (Ok (On h.body))
          → (cs : List ℕ) (b : Result Body Refusal) → BlockHas h cs b → BlockHas g cs b
      more h turn hb has cs (Err r) w = tt
      more h turn hb has cs (Ok y) w =
          let at : pre ++ g.bytes ++ i.bytes ≡ pre ++ h.bytes = assoc ∙ ap (λ z. pre ++ z) (sym hb) in
          let behind = w.grown ∙ ap (λ z. z ++ w.rest) (sym at) in
          record {
            rest = i.bytes ++ w.rest;
            grown = behind ∙ append_assoc (pre ++ g.bytes) i.bytes w.rest;
            prefix = λ e.
                won_on (block_turn false s k) (λ b. b.body.at) (block_forward s k) s prefix_word turn (pre ++ cs) (pre ++ g.bytes ++ i.bytes) w.rest behind
                g.body.prefix h.body.prefix y.prefix (has.1 e) (w.prefix e);
            revision =
                won_on (block_turn false s k) (λ b. b.body.at) (block_forward s k) s revision_date_word turn (pre ++ cs) (pre ++ g.bytes ++ i.bytes)
                w.rest behind
                g.body.revision h.body.revision y.revision has.2 w.revision;
          }

      of : (r : Result Inside Refusal) → i.answer ≡ r → InsideHas s k g (pre ++ g.bytes) count i.bytes r
          → ((h : Stored) → length s - h.body.at < m → h.body.used ≡ length (pre ++ h.bytes)
          → BlockHas h (block_from false s k h).bytes (block_from false s k h).answer)
          → BlockHas g (block_from false s k g).bytes (block_from false s k g).answer
      of (Ok (On y)) e has go =
          let h : Stored = record { body = y; bytes = bs } in
          let turn : block_turn false s k g ≡ on h = ap (after_inside bs) e in
          let w = go h (omega (arith, block_falls false s k g h turn)) (has.0 ∙ ap length assoc) in
          subst (λ (z : Left (Result Body Refusal)). BlockHas g z.bytes z.answer) (sym (block_on false s k g y e))
          (more h turn refl has (block_from false s k h).bytes (block_from false s k h).answer w)
      of (Ok (Closed y)) e has go =
          let turn : block_turn false s k g ≡ stop (record { answer = Ok y; bytes = bs }) = ap (after_inside bs) e in
          subst (λ (z : Left (Result Body Refusal)). BlockHas g z.bytes z.answer) (sym (block_close false s k g y e))
          (record {
            rest = i.bytes;
            grown = sym assoc;
            prefix = λ e. won_stop (block_turn false s k) (λ b. b.body.at) (block_forward s k) s prefix_word turn has.0.0 (pre ++ bs) has.0.1;
            revision = won_stop (block_turn false s k) (λ b. b.body.at) (block_forward s k) s revision_date_word turn has.1.0 (pre ++ bs) has.1.1;
          })
      of (Err r) e has go = subst (λ (z : Left (Result Body Refusal)). BlockHas g z.bytes z.answer) (sym (block_broken false s k g r e)) tt

  -- from its first state; u: the store's place there
  pub block_has : (from u : ℕ) → u ≡ length pre
      → BlockHas (record { body = begun from u; bytes = [] }) (block_at false s from u k).bytes (block_at false s from u k).answer
  unfolding block_at
  block_has from u e = from_has (suc (length s)) (record { body = begun from u; bytes = [] }) (omega arith) (omega (arith, e, length-append pre []))

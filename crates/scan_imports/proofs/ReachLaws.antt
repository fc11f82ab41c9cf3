-- How far an import or include goes, how much it stores, and where its values lie: what holds of each statement of a block and is kept by
-- the next holds of the whole.
-- Assumes nothing.
use Rattle.std.specs.Prelude.{Ok, Err, Result}
use mathlib.Core.Path.{◌≡◌, refl, ap, subst, ◌∙◌}
use mathlib.Core.Logic.{inl}
use mathlib.Core.Bool.{Bool}
use mathlib.Core.List.{List, [], ◌++◌}
use Prim.Native.Nat.{ℕ, suc, ◌+◌, ◌-◌, ◌<◌, ◌≤◌}
use native.Mathlib.Omega.{arith}
use lib.ListN.{length, get_or, length-append}
use lib.Dec.{eqb}
use borrow.Author.Tests.{eqb-true}
use Rattle.text.specs.Refusal.{no_refusal}
use Rattle.text.specs.Due.{due_here, due_at}
use Rattle.text.specs.Scan.{gap_end}
use Rattle.text.specs.Turns.{stop}
use Rattle.text.specs.declared.Cursor.{Cursor}
use Rattle.text.proofs.DueLaws.{due_far, due_refused_within}
use Rattle.text.proofs.Here.{by_test, here}
use Rattle.text.proofs.Laws.{gap_from}
use Rattle.text.proofs.Turns.{turns_rule}
use Rattle.text_value.specs.Argument.{argument_at, line_at}
use Rattle.text_value.specs.Value.{value_at, value_bytes}
use Rattle.text_value.proofs.ArgumentLaws.{argument_far, argument_refused, line_far, line_refusal}
use Rattle.text_value.proofs.JoinLaws.{bytes_fit}
use Rattle.scan_rows.specs.Span.{held}
use Rattle.scan_rows.specs.declared.YangImport.{YangImport}
use Rattle.scan_rows.specs.declared.YangInclude.{YangInclude}
use Rattle.scan_block.specs.Left.{Left, nothing}
use Rattle.scan_block.specs.Block.{inside_at, Stored, after_inside, block_turn, block_from, begun, block_at}
use Rattle.scan_imports.specs.Statement.{of_body, import_of, with_name, after_name, import_at, include_of, plain_of, block_of, open_or_plain, after_value, include_at}
use Rattle.scan_block.specs.declared.Body.{Body}
use Rattle.scan_block.specs.declared.Inside.{Inside}
use Rattle.scan_block.specs.declared.Inside.TheVariants.{On, Closed}
use Rattle.scan_block.proofs.BlockLaws.{turn_far, block_falls}
use Rattle.scan_block.proofs.FarLaws.{Forth, Went, inside_went}
use Rattle.scan_block.proofs.Spans.{Lies, MayLie, Sound, lies_held, lies_more, may_more, may_lies, sound_begun}
use Rattle.text.specs.declared.Refusal.{Refusal}

-- ---- a block

-- from g, with the bytes cs stored at its end
abbrev Ends : List ℕ → Stored → List ℕ → Result Body Refusal → Type 0
Ends s g cs (Ok y) =
    (g.body.at + length cs < y.at + length g.bytes) × (y.at ≤ length s) × (y.used + length g.bytes ≡ g.body.used + length cs)
    × ((u : ℕ) → Sound u g.body → Sound u y)
Ends s g cs (Err r) = (length cs ≤ length g.bytes + (length s - g.body.at)) × (g.body.at ≤ length s → r.at ≤ length s)

stop_ends : (s : List ℕ) (g : Stored) (bs : List ℕ) (i : Result Inside Refusal) (r : Left (Result Body Refusal)) → Went s g.body bs i → after_inside (g.bytes ++ bs) i ≡ stop r
    → Ends s g r.bytes r.answer
unfolding after_inside
stop_ends s g bs (Ok (On y)) r w e = let z : ◌≡◌ {A = ℕ} 0 1 = cc in absurd (omega arith)
stop_ends s g bs (Ok (Closed y)) r w e =
    let k : ◌≡◌ {A = Left (Result Body Refusal)} (record { answer = Ok y; bytes = g.bytes ++ bs }) r = cc in
    let l = length-append g.bytes bs in
    subst (λ z. Ends s g z.bytes z.answer) k (omega (arith, l, w.0), w.1, omega (arith, l, w.2), w.3)
stop_ends s g bs (Err q) r w e =
    let k : ◌≡◌ {A = Left (Result Body Refusal)} (record { answer = Err q; bytes = g.bytes ++ bs }) r = cc in
    let l = length-append g.bytes bs in
    subst (λ z. Ends s g z.bytes z.answer) k (omega (arith, l, w.0), w.1)

on_ends : (s : List ℕ) (g h : Stored) (bs cs : List ℕ) (b : Result Body Refusal) → Forth s g.body bs h.body → length h.bytes ≡ length g.bytes + length bs
    → Ends s h cs b → Ends s g cs b
on_ends s g h bs cs (Ok y) f l e =
    (omega (arith, f.0, f.1, e.0), e.1, omega (arith, f.2, e.2), λ u d. e.3 u (f.3 u d))
on_ends s g h bs cs (Err r) f l e = (omega (arith, f.0, f.1, e.0), λ i. e.1 f.1)

block_ends : (w : Bool) (s : List ℕ) (k : ℕ) (g : Stored) → Ends s g (block_from w s k g).bytes (block_from w s k g).answer
unfolding block_from block_turn
block_ends w s k g =
    turns_rule (block_turn w s k) (nothing (Err no_refusal)) (λ b. length s - b.body.at) (block_falls w s k)
    (λ a r. Ends s a r.bytes r.answer) (turn_stops w s k)
    (λ a b r h e. let f = turn_far w s k a b h in
    let bs = (inside_at w s k a.body).bytes in
    on_ends s a b bs r.bytes r.answer f.0 (ap length f.1 ∙ length-append a.bytes bs) e)
    (suc (length s)) g (omega arith)
  where
    turn_stops : (w : Bool) (s : List ℕ) (k : ℕ) (a : Stored) (r : Left (Result Body Refusal)) → block_turn w s k a ≡ stop r → Ends s a r.bytes r.answer
    turn_stops w s k a r h = stop_ends s a (inside_at w s k a.body).bytes (inside_at w s k a.body).answer r (inside_went w s k a.body) h

-- a block behind its brace, at the store's place u
abbrev BlockSaid : List ℕ → ℕ → ℕ → List ℕ → Result Body Refusal → Type 0
BlockSaid s at u bs (Ok y) = (at + length bs < y.at) × (y.at ≤ length s) × (y.used ≡ u + length bs) × Sound u y
BlockSaid s at u bs (Err r) = (length bs ≤ length s - at) × (at ≤ length s → r.at ≤ length s)

block_said : (w : Bool) (s : List ℕ) (at u k : ℕ) → BlockSaid s at u (block_at w s at u k).bytes (block_at w s at u k).answer
unfolding block_at
block_said w s at u k =
    let g : Stored = record { body = begun at u; bytes = [] } in
    said (block_from w s k g).bytes (block_from w s k g).answer (block_ends w s k g)
  where
    said : (cs : List ℕ) (b : Result Body Refusal) → Ends s (record { body = begun at u; bytes = [] }) cs b → BlockSaid s at u cs b
    said cs (Ok y) e = (omega (arith, e.0), e.1, omega (arith, e.2), e.3 u (sound_begun at u))
    said cs (Err r) e = (omega (arith, e.0), e.1)

-- ---- an import

-- read: behind its start, within the text, more bytes taken than stored; its values lie in what was stored, no two at one place.
-- refused: what was stored fits the rest of the text, and the refusal's place is within it
abbrev pub ImportSaid : List ℕ → ℕ → ℕ → List ℕ → Result (Cursor × ℕ × YangImport) Refusal → Type 0
ImportSaid s at u bs (Ok (c, n, i)) =
    (at + length bs < c.at) × (c.at ≤ length s) × (n ≡ u + length bs)
    × Lies u n i.module_name × Lies u n i.prefix × MayLie u n i.revision_date
    × (u + (i.module_name.size + (i.prefix.size + i.revision_date.size)) ≤ n)
ImportSaid s at u bs (Err r) = (length bs ≤ length s - at) × (at ≤ length s → r.at ≤ length s)

-- bs: the name's bytes, n: the store's place behind it; cs: those of the block
module _ (s : List ℕ) (at u : ℕ) (bs : List ℕ) (c : Cursor) (n : ℕ) (far : at + length bs < c.at) (in-text : c.at ≤ length s)
    (count : n ≡ u + length bs) where
  body_said : (cs : List ℕ) (y : Body) → BlockSaid s c.at n cs (Ok y) → ImportSaid s at u (bs ++ cs) (of_body (held u (n - u)) y)
  unfolding of_body
  body_said cs y d =
      let l = length-append bs cs in
      by_test y.prefix.present
      (λ t. let p = may_lies t d.3.1 in
      rw t (
        omega (arith, d.0),
        d.1,
        omega (arith, d.2),
        lies_more (held u (n - u)) (omega arith) (omega (arith, d.2)) (lies_held u u n (omega arith) (omega arith)),
        (refl, omega (arith, p.1), p.2),
        may_more (omega arith) (omega arith) d.3.2,
        omega (arith, d.3.3),
      ))
      (λ t. rw t (omega (arith, d.0, d.1), λ i. d.1))

  of_said : (cs : List ℕ) (b : Result Body Refusal) → BlockSaid s c.at n cs b → ImportSaid s at u (bs ++ cs) (import_of (held u (n - u)) b)
  unfolding import_of
  of_said cs (Ok y) d = body_said cs y d
  of_said cs (Err r) d = (omega (arith, d.0, length-append bs cs), λ i. d.1 in-text)

name_said : (w : Bool) (s : List ℕ) (at u : ℕ) (a : Result (Cursor × ℕ) Refusal) → line_at w s at u 8 123 ≡ a
    → ImportSaid s at u (after_name w s u (value_bytes (value_at s at)) a).bytes (after_name w s u (value_bytes (value_at s at)) a).answer
unfolding after_name with_name
name_said w s at u (Ok (c, n)) h =
    let f = line_far w s at u 8 123 c n (omega arith) h in
    let b = block_at w s c.at n 8 in
    of_said s at u (value_bytes (value_at s at)) c n f.0 f.1 f.2 b.bytes b.answer (block_said w s c.at n 8)
name_said w s at u (Err r) h = (bytes_fit s at, λ i. (line_refusal w s at u 8 123 r i h).1)

pub import_said : (w : Bool) (s : List ℕ) (at u : ℕ) → ImportSaid s at u (import_at w s at u).bytes (import_at w s at u).answer
unfolding import_at
import_said w s at u = name_said w s at u (line_at w s at u 8 123) refl

module _ (w : Bool) (s : List ℕ) (at u : ℕ) where
  told : {r : Result (Cursor × ℕ × YangImport) Refusal} → (import_at w s at u).answer ≡ r → ImportSaid s at u (import_at w s at u).bytes r
  told h = subst (ImportSaid s at u (import_at w s at u).bytes) h (import_said w s at u)

  module _ (c : Cursor) (n : ℕ) (i : YangImport) (h : (import_at w s at u).answer ≡ Ok (c, n, i)) where
    -- room in the store for the rest of the text stays
    pub import_room : (l : ℕ) → u + (length s - at) ≤ l → n + (length s - c.at) ≤ l
    import_room l r = let d = told h in omega (arith, d.0, d.1, d.2)

    -- where its values lie
    pub import_lies : Lies u n i.module_name × Lies u n i.prefix × MayLie u n i.revision_date
    import_lies = let d = told h in (d.3, d.4, d.5)

-- ---- an include

abbrev pub IncludeSaid : List ℕ → ℕ → ℕ → List ℕ → Result (Cursor × ℕ × YangInclude) Refusal → Type 0
IncludeSaid s at u bs (Ok (c, n, i)) =
    (at + length bs < c.at) × (c.at ≤ length s) × (n ≡ u + length bs) × Lies u n i.submodule_name × MayLie u n i.revision_date
    × (u + (i.submodule_name.size + i.revision_date.size) ≤ n)
IncludeSaid s at u bs (Err r) = (length bs ≤ length s - at) × (at ≤ length s → r.at ≤ length s)

-- bs: the name's bytes, n: the store's place behind it
module _ (s : List ℕ) (at u : ℕ) (bs : List ℕ) (c : Cursor) (n : ℕ) (far : at + length bs ≤ c.at) (in-text : c.at ≤ length s)
    (count : n ≡ u + length bs) where
  -- the block from a place behind c; cs: its bytes
  open_said : (from : ℕ) (cs : List ℕ) (b : Result Body Refusal) → c.at < from → from ≤ length s → BlockSaid s from n cs b
      → IncludeSaid s at u (bs ++ cs) (include_of (held u (n - u)) b)
  unfolding include_of
  open_said from cs (Ok y) behind inner d =
      let l = length-append bs cs in (
        omega (arith, d.0),
        d.1,
        omega (arith, d.2),
        lies_more (held u (n - u)) (omega arith) (omega (arith, d.2)) (lies_held u u n (omega arith) (omega arith)),
        may_more (omega arith) (omega arith) d.3.2,
        omega (arith, d.3.3),
      )
  open_said from cs (Err r) behind inner d = (omega (arith, d.0, length-append bs cs), λ i. d.1 inner)

  plain_said : (t : Result Cursor Refusal) → due_at s c.at 59 9 ≡ t → IncludeSaid s at u bs (plain_of (held u (n - u)) n t)
  unfolding plain_of
  plain_said (Ok e) h =
      let f = due_far s c.at 59 9 e (omega arith) h in
      (omega (arith, f.0), f.1, count, lies_held u u n (omega arith) (omega arith), inl refl, omega arith)
  plain_said (Err r) h = (omega arith, λ i. (due_refused_within s c.at 59 9 r in-text h).1)

  either_said : (w : Bool) → IncludeSaid s at u (open_or_plain w s (gap_end s c.at) n (held u (n - u)) bs).bytes
      (open_or_plain w s (gap_end s c.at) n (held u (n - u)) bs).answer
  unfolding open_or_plain block_of due_at
  either_said w =
      let g = gap_end s c.at in
      by_test (eqb (get_or s g 256) 123)
      (λ t. let i = here s g (λ z. omega (arith, eqb-true (get_or s g 256) 123 t)) in
      let b = block_at w s (g + 1) n 9 in
      rw t (open_said (g + 1) b.bytes b.answer (omega (arith, gap_from s c.at)) (omega arith) (block_said w s (g + 1) n 9)))
      (λ t. rw t (plain_said (due_here s g 59 9) refl))

value_said : (w : Bool) (s : List ℕ) (at u : ℕ) (a : Result (Cursor × ℕ) Refusal) → argument_at w s at u 9 ≡ a
    → IncludeSaid s at u (after_value w s u (value_bytes (value_at s at)) a).bytes (after_value w s u (value_bytes (value_at s at)) a).answer
unfolding after_value
value_said w s at u (Ok (c, n)) h =
    let f = argument_far w s at u 9 c n h in
    either_said s at u (value_bytes (value_at s at)) c n f.1 f.2 f.3 w
value_said w s at u (Err r) h = (bytes_fit s at, λ i. (argument_refused w s at u 9 r i h).1)

pub include_said : (w : Bool) (s : List ℕ) (at u : ℕ) → IncludeSaid s at u (include_at w s at u).bytes (include_at w s at u).answer
unfolding include_at
include_said w s at u = value_said w s at u (argument_at w s at u 9) refl

module _ (w : Bool) (s : List ℕ) (at u : ℕ) where
  given : {r : Result (Cursor × ℕ × YangInclude) Refusal} → (include_at w s at u).answer ≡ r → IncludeSaid s at u (include_at w s at u).bytes r
  given h = subst (IncludeSaid s at u (include_at w s at u).bytes) h (include_said w s at u)

  module _ (c : Cursor) (n : ℕ) (i : YangInclude) (h : (include_at w s at u).answer ≡ Ok (c, n, i)) where
    pub include_room : (l : ℕ) → u + (length s - at) ≤ l → n + (length s - c.at) ≤ l
    include_room l r = let d = given h in omega (arith, d.0, d.1, d.2)

    pub include_lies : Lies u n i.submodule_name × MayLie u n i.revision_date
    include_lies = let d = given h in (d.3, d.4)

-- What a proof uses of a whole block: each statement comes nearer the text's end, so how many turns there are does not matter, and the
-- loop's invariant is that the block from here is the block from its start.
-- Assumes nothing.
use Rattle.std.specs.Prelude.{Ok, Err, Result}
use mathlib.Core.Path.{◌≡◌, refl, sym, ap, subst, ◌∙◌}
use mathlib.Core.Bool.{Bool}
use mathlib.Core.List.{List, [], ◌++◌}
use Prim.Native.Nat.{ℕ, suc, ◌+◌, ◌-◌, ◌<◌, ◌≤◌}
use native.Mathlib.Omega.{arith}
use lib.ListN.{length, length-append}
use lib.Seq.{sets, length-sets}
use Rattle.text.specs.Refusal.{no_refusal}
use Rattle.text.specs.Turns.{on}
use Rattle.text.specs.declared.Refusal.{Refusal}
use Rattle.text.proofs.Turns.{turns_stop, turns_on}
use Rattle.text_value.proofs.JoinLaws.{sets_twice}
use Rattle.scan_block.specs.Left.{nothing}
use Rattle.scan_block.specs.Block.{inside_at, Stored, after_inside, block_turn, block_from, begun, block_at}
use Rattle.scan_block.specs.declared.Body.{Body}
use Rattle.scan_block.specs.declared.Inside.{Inside}
use Rattle.scan_block.specs.declared.Inside.TheVariants.{On, Closed}
use Rattle.scan_block.proofs.FarLaws.{Forth, Went, inside_went}
use Rattle.scan_block.proofs.InsideLaws.{Leaves}

-- ---- the turns

-- a turn's statement went as far as is said of it
on_far : (s : List ℕ) (b : Body) (ys bs : List ℕ) (i : Result Inside Refusal) (h : Stored) → Went s b bs i → after_inside ys i ≡ on h → Forth s b bs h.body × (h.bytes ≡ ys)
unfolding after_inside
on_far s b ys bs (Ok (On y)) h w e = let k : y ≡ h.body = cc in (subst (Forth s b bs) k w, cc)
on_far s b ys bs (Ok (Closed y)) h w e = let z : ◌≡◌ {A = ℕ} 0 1 = cc in absurd (omega arith)
on_far s b ys bs (Err r) h w e = let z : ◌≡◌ {A = ℕ} 0 1 = cc in absurd (omega arith)

pub turn_far : (w : Bool) (s : List ℕ) (k : ℕ) (g h : Stored) → block_turn w s k g ≡ on h
    → Forth s g.body (inside_at w s k g.body).bytes h.body × (h.bytes ≡ g.bytes ++ (inside_at w s k g.body).bytes)
unfolding block_turn
turn_far w s k g h e =
    let i = inside_at w s k g.body in
    on_far s g.body (g.bytes ++ i.bytes) i.bytes i.answer h (inside_went w s k g.body) e

pub block_falls : (w : Bool) (s : List ℕ) (k : ℕ) (g h : Stored) → block_turn w s k g ≡ on h → length s - h.body.at < length s - g.body.at
block_falls w s k g h e = let f = (turn_far w s k g h e).0 in omega (arith, f.0, f.1)

module _ (w : Bool) (s : List ℕ) (k : ℕ) (g : Stored) where
  -- a statement
  pub block_on : (y : Body) → (inside_at w s k g.body).answer ≡ Ok (On y)
      → block_from w s k g ≡ block_from w s k (record { body = y; bytes = g.bytes ++ (inside_at w s k g.body).bytes })
  unfolding block_from block_turn after_inside
  block_on y h =
      turns_on (block_turn w s k) (nothing (Err no_refusal)) (λ b. length s - b.body.at) (block_falls w s k)
      (suc (length s)) (suc (length s)) g _ (omega arith) (omega arith) (ap (after_inside (g.bytes ++ (inside_at w s k g.body).bytes)) h)

  -- its end
  pub block_close : (y : Body) → (inside_at w s k g.body).answer ≡ Ok (Closed y)
      → block_from w s k g ≡ record { answer = Ok y; bytes = g.bytes ++ (inside_at w s k g.body).bytes }
  unfolding block_from block_turn after_inside
  block_close y h =
      turns_stop (block_turn w s k) (nothing (Err no_refusal)) (λ b. length s - b.body.at) (block_falls w s k)
      (suc (length s)) g _ (omega arith) (ap (after_inside (g.bytes ++ (inside_at w s k g.body).bytes)) h)

  -- a refusal
  pub block_broken : (r : Refusal) → (inside_at w s k g.body).answer ≡ Err r
      → block_from w s k g ≡ record { answer = Err r; bytes = g.bytes ++ (inside_at w s k g.body).bytes }
  unfolding block_from block_turn after_inside
  block_broken r h =
      turns_stop (block_turn w s k) (nothing (Err no_refusal)) (λ b. length s - b.body.at) (block_falls w s k)
      (suc (length s)) g _ (omega arith) (ap (after_inside (g.bytes ++ (inside_at w s k g.body).bytes)) h)

-- ---- the loop

-- the store was d and is e; all that was read since b₀ stands in it from u on
pub record Reading (w : Bool) (s : List ℕ) (k u : ℕ) (d : List ℕ) (b₀ : Body) (e : List ℕ) (b : Body) : Type 0 where
  pub bytes : List ℕ
  pub same : block_from w s k (record { body = b; bytes = bytes }) ≡ block_from w s k (record { body = b₀; bytes = [] })
  pub kept : e ≡ sets d u bytes
  pub count : b.used ≡ u + length bytes
  pub room : b.used + (length s - b.at) ≤ length d

begun_fields : (at u : ℕ) {b : Body} → b ≡ begun at u → (b.at ≡ at) × (b.used ≡ u)
begun_fields at u e = (ap (λ y. y.at) e, ap (λ y. y.used) e)

module _ {w : Bool} {s : List ℕ} {k u : ℕ} {d : List ℕ} {b₀ : Body} where
  pub reading_begun : (at : ℕ) → b₀ ≡ begun at u → u + (length s - at) ≤ length d → Reading w s k u d b₀ d b₀
  reading_begun at e h =
      let f = begun_fields at u e in
      record { bytes = []; same = refl; kept = refl; count = omega (arith, f.1); room = omega (arith, f.0, f.1) }

  module _ {e : List ℕ} {b : Body} (j : Reading w s k u d b₀ e b) where
    pub reading_long : length e ≡ length d
    reading_long = ap length j.kept ∙ length-sets d u j.bytes

    module _ {i : Result Inside Refusal} {f : List ℕ} (l : Leaves (inside_at w s k b) e b.used i f) where
      stored : f ≡ sets d u (j.bytes ++ (inside_at w s k b).bytes)
      stored = sets_twice d e f u b.used j.bytes (inside_at w s k b).bytes j.kept j.count l.1

      far : (y : Body) → i ≡ Ok (On y) → Forth s b (inside_at w s k b).bytes y
      far y h = subst (Went s b (inside_at w s k b).bytes) (sym l.0 ∙ h) (inside_went w s k b)

      pub reading_on : (y : Body) → i ≡ Ok (On y) → length s - y.at < length s - b.at
      reading_on y h = let f = far y h in omega (arith, f.0, f.1)

      pub reading_more : (y : Body) → i ≡ Ok (On y) → Reading w s k u d b₀ f y
      reading_more y h =
          let f = far y h in
          record {
            bytes = j.bytes ++ (inside_at w s k b).bytes;
            same = sym (block_on w s k (record { body = b; bytes = j.bytes }) y (sym l.0 ∙ h)) ∙ j.same;
            kept = stored;
            count = omega (arith, f.2, j.count, length-append j.bytes (inside_at w s k b).bytes);
            room = omega (arith, f.0, f.1, f.2, j.room);
          }

      module _ (at : ℕ) (be : b₀ ≡ begun at u) where
        whole : block_from w s k (record { body = b; bytes = j.bytes }) ≡ block_at w s at u k
        unfolding block_at
        whole = j.same ∙ ap (λ y. block_from w s k (record { body = y; bytes = [] })) be

        pub reading_done : (y : Body) → i ≡ Ok (Closed y) → Leaves (block_at w s at u k) d u (Ok y) f
        reading_done y h =
            let q = sym whole ∙ block_close w s k (record { body = b; bytes = j.bytes }) y (sym l.0 ∙ h) in
            (sym (ap (λ z. z.answer) q), stored ∙ ap (λ z. sets d u z.bytes) (sym q))

        pub reading_refused : (r : Refusal) → i ≡ Err r → Leaves (block_at w s at u k) d u (Err r) f
        reading_refused r h =
            let q = sym whole ∙ block_broken w s k (record { body = b; bytes = j.bytes }) r (sym l.0 ∙ h) in
            (sym (ap (λ z. z.answer) q), stored ∙ ap (λ z. sets d u z.bytes) (sym q))

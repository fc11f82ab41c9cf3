-- What a proof uses of the definitions of `specs/Statement.antt`: each part takes a byte at least, so the turns end, and the depth stays
-- below the bytes that were read.
-- Assumes nothing.
use Rattle.std.specs.Prelude.{Ok, Err, Result}
use mathlib.Core.Path.{◌≡◌, refl, sym, ap, subst, ◌∙◌}
use mathlib.Core.Logic.{◌⊎◌, inl, inr, ⊎_elim}
use mathlib.Core.Bool.{Bool, true, false}
use mathlib.Core.List.{List, [], ◌∷◌}
use Prim.Native.Nat.{ℕ, suc, ◌+◌, ◌-◌, ◌<◌, ◌≤◌, max}
use native.Mathlib.Decide.{dec_le}
use native.Mathlib.Omega.{arith}
use lib.ListN.{length, get_or, drop, drop_of_length-le, length-drop}
use lib.Dec.{eqb, leb}
use borrow.Author.Tests.{ne_eqb, eqb-true, le-leb, lt-leb, leb-true, leb-false}
use Rattle.text.specs.Refusal.{is_high, high_at, MetHigh}
use Rattle.text.specs.Scan.{gap_end}
use Rattle.text.specs.Turns.{stop, on, after, turns}
use Rattle.text.specs.declared.Cursor.{Cursor}
use Rattle.text.specs.declared.Refusal.{Refusal}
use Rattle.text.proofs.Here.{by_test, inside, rest}
use Rattle.text.proofs.Laws.{gap_from, gap_within, gap_twice}
use Rattle.text.proofs.Turns.{turns_stop, turns_on, turns_rule}
use Rattle.text_string.specs.Str.{is_quote}
use Rattle.text_statement.specs.Statement.{closes, quoted_len, quoted_end, Part, On, Stop, at_semicolon, at_close, at_other, part_of, part_at, Inside, of_part}
use Rattle.text_statement.specs.Statement.{statement_turn, statement_from, statement_at}
use Rattle.text_past.specs.declared.How.{How}
use Rattle.text_past.specs.declared.How.TheVariants.{Whole, Semicolon, Block, Before, Text}
use Rattle.std.specs.declared.ops.ControlFlow.TheVariants.{Continue, Break}

-- ---- a string

-- from a place on, where p is the byte before it
abbrev pub quoted_from : ℕ → List ℕ → ℕ → ℕ → ℕ
quoted_from q s p i = i + quoted_len q p (drop i s)

module _ (q : ℕ) (s : List ℕ) (p i : ℕ) where
  pub quoted_past : length s ≤ i → quoted_from q s p i ≡ i
  unfolding quoted_len
  quoted_past h = rw (drop_of_length-le s h) (omega arith)

  module _ (h : i < length s) {t : Bool} (te : t ≡ closes q p (get_or s i 0)) where
    here : closes q p (get_or s i 256) ≡ t
    here = ap (closes q p) (inside s i 256 0 h) ∙ sym te

    pub quoted_close : t ≡ true → quoted_from q s p i ≡ i + 1
    unfolding quoted_len
    quoted_close y = rw (rest s i h) (rw (here ∙ y) refl)

    pub quoted_more : t ≡ false → quoted_from q s p i ≡ quoted_from q s (get_or s i 0) (i + 1)
    unfolding quoted_len
    quoted_more n = rw (rest s i h) (rw (here ∙ n) (rw (inside s i 256 0 h) (omega arith)))

pub quoted_is : (s : List ℕ) (at q : ℕ) → quoted_end s at q ≡ quoted_from q s q at
unfolding quoted_end
quoted_is s at q = refl

-- the loop went to the end, where p is the byte before
pub quoted_max : (q : ℕ) (s : List ℕ) (p at i : ℕ) → length s ≤ i → (at ≤ length s → i ≤ length s) → quoted_from q s p i ≡ quoted_end s at q
    → max at (length s) ≡ quoted_end s at q
quoted_max q s p at i l near e =
    elim (dec_le at (length s)) [
      | Prim.yes h ↦ omega (arith, quoted_past q s p i l, near h, e)
      | Prim.no h ↦ omega (arith, quoted_past q s q at (omega arith), quoted_is s at q)
    ]

pub quoted_from_lem : (s : List ℕ) (at q : ℕ) → at ≤ quoted_end s at q
unfolding quoted_end
quoted_from_lem s at q = omega arith

quoted_most : (q p : ℕ) (xs : List ℕ) → quoted_len q p xs ≤ length xs
unfolding quoted_len
quoted_most q p [] = omega arith
quoted_most q p (b ∷ xs) = by_test (closes q p b) (λ t. rw t (omega arith)) (λ t. rw t (omega (arith, quoted_most q b xs)))

-- a string stands within the text
pub quoted_within : (s : List ℕ) (at q : ℕ) → at ≤ length s → quoted_end s at q ≤ length s
unfolding quoted_end
quoted_within s at q h = omega (arith, quoted_most q q (drop at s), length-drop at s)

-- ---- a part

pub part_past : (s : List ℕ) (at d : ℕ) → length s ≤ at → part_at s at d ≡ Stop (record { at = at }) Text
unfolding part_at
part_past s at d h = rw (le-leb (length s) at h) refl

-- b: the byte here
module _ (s : List ℕ) (at d : ℕ) (h : at < length s) where
  part_here : {b : ℕ} → get_or s at 0 ≡ b → part_at s at d ≡ part_of s at d b
  unfolding part_at
  part_here e = rw (lt-leb (length s) at h) (ap (part_of s at d) (inside s at 256 0 h ∙ e))

  pub part_quote : (get_or s at 0 ≡ 34) ⊎ (get_or s at 0 ≡ 39) → {e : ℕ} → e ≡ quoted_end s (at + 1) (get_or s at 0) → part_at s at d ≡ On (record { at = e }) d
  unfolding part_of is_quote
  part_quote m ee =
      let by : (q : ℕ) → get_or s at 0 ≡ q → part_of s at d q ≡ On (record { at = quoted_end s (at + 1) q }) d → part_at s at d ≡ On (record { at = _ }) d
      = λ q k f. part_here k ∙ f ∙ ap (λ i. On (record { at = i }) d) (sym (ee ∙ ap (quoted_end s (at + 1)) k)) in
      ⊎_elim (λ k. by 34 k refl) (λ k. by 39 k refl) m

  pub part_semicolon : get_or s at 0 ≡ 59 → part_at s at d ≡ at_semicolon (at + 1) d
  unfolding part_of is_quote
  part_semicolon e = part_here e

  pub part_open : get_or s at 0 ≡ 123 → part_at s at d ≡ On (record { at = at + 1 }) (d + 1)
  unfolding part_of is_quote
  part_open e = part_here e

  pub part_close : get_or s at 0 ≡ 125 → part_at s at d ≡ at_close at (at + 1) d
  unfolding part_of is_quote
  part_close e = part_here e

  pub part_other : ((get_or s at 0 ≡ 34) ⊎ (get_or s at 0 ≡ 39) → ⊥) → (get_or s at 0 ≡ 59 → ⊥) → (get_or s at 0 ≡ 123 → ⊥) → (get_or s at 0 ≡ 125 → ⊥)
      → {b : ℕ} → b ≡ get_or s at 256 → part_at s at d ≡ at_other at (at + 1) d b
  unfolding part_of is_quote
  part_other q m o k be =
      let others : part_of s at d (get_or s at 0) ≡ at_other at (at + 1) d (get_or s at 0) =
      simp (
        ne_eqb (get_or s at 0) 34 (λ e. q (inl e)),
        ne_eqb (get_or s at 0) 39 (λ e. q (inr e)),
        ne_eqb (get_or s at 0) 59 m,
        ne_eqb (get_or s at 0) 123 o,
        ne_eqb (get_or s at 0) 125 k,
      ) in
      part_here refl ∙ others ∙ ap (at_other at (at + 1) d) (sym (be ∙ inside s at 256 0 h))

stop_not : {e c : Cursor} {w : How} {d : ℕ} {p : Part} → p ≡ Stop e w → p ≡ On c d → ⊥
stop_not e f = let z : ◌≡◌ {A = ℕ} 0 1 = cc in omega arith

high_not : {r : Refusal} {c : Cursor} {d : ℕ} {p : Part} → p ≡ Err r → p ≡ On c d → ⊥
high_not e f = let z : ◌≡◌ {A = ℕ} 0 1 = cc in omega arith

on_is : {b c : Cursor} {d e : ℕ} {p : Part} → p ≡ On b d → p ≡ On c e → (b.at ≡ c.at) × (d ≡ e)
on_is {b} {c} {d} {e} f g = let q : ◌≡◌ {A = Cursor × ℕ} (b, d) (c, e) = cc in (ap (λ x. x.0.at) q, ap (λ x. x.1) q)

-- a part that was passed takes a byte at least and stands within the text, and the depth grows by no more than one
abbrev pub Far : List ℕ → ℕ → ℕ → Cursor → ℕ → Type 0
Far s at d c e = (at < c.at) × (c.at ≤ length s) × (e ≤ d + 1)

semicolon_far : (s : List ℕ) (at d e : ℕ) (c : Cursor) → at < length s → at_semicolon (at + 1) d ≡ On c e → Far s at d c e
unfolding at_semicolon
semicolon_far s at d e c l h =
    by_test (eqb d 0)
    (λ t. absurd (stop_not refl (rw t at h)))
    (λ t. let k = on_is refl (rw t at h) in omega (arith, k.0, k.1))

close_far : (s : List ℕ) (at d e : ℕ) (c : Cursor) → at < length s → at_close at (at + 1) d ≡ On c e → Far s at d c e
unfolding at_close
close_far s at d e c l h =
    by_test (eqb d 0)
    (λ t. absurd (stop_not refl (rw t at h)))
    (λ t. by_test (eqb d 1)
    (λ u. absurd (stop_not refl (rw u at (rw t at h))))
    (λ u. let k = on_is refl (rw u at (rw t at h)) in omega (arith, k.0, k.1)))

other_far : (s : List ℕ) (at d b e : ℕ) (c : Cursor) → at < length s → at_other at (at + 1) d b ≡ On c e → Far s at d c e
unfolding at_other
other_far s at d b e c l h =
    by_test (is_high b)
    (λ t. absurd (high_not refl (rw t at h)))
    (λ t. let k = on_is refl (rw t at h) in omega (arith, k.0, k.1))

of_far : (s : List ℕ) (at d b e : ℕ) (c : Cursor) → at < length s → part_of s at d b ≡ On c e → Far s at d c e
unfolding part_of
of_far s at d b e c l h =
    by_test (is_quote b)
    (λ t. let k = on_is refl (rw t at h) in omega (arith, k.0, k.1, quoted_from_lem s (at + 1) b, quoted_within s (at + 1) b (omega arith)))
    (λ t. by_test (eqb b 59)
    (λ u. semicolon_far s at d e c l (rw u at (rw t at h)))
    (λ u. by_test (eqb b 123)
    (λ v. let k = on_is refl (rw v at (rw u at (rw t at h))) in omega (arith, k.0, k.1))
    (λ v. by_test (eqb b 125)
    (λ w. close_far s at d e c l (rw w at (rw v at (rw u at (rw t at h)))))
    (λ w. other_far s at d b e c l (rw w at (rw v at (rw u at (rw t at h))))))))

pub part_far : (s : List ℕ) (at d e : ℕ) (c : Cursor) → part_at s at d ≡ On c e → (at < length s) × Far s at d c e
unfolding part_at
part_far s at d e c h =
    by_test (leb (length s) at)
    (λ t. absurd (stop_not refl (rw t at h)))
    (λ t. let l : at < length s = leb-false (length s) at t in (l, of_far s at d (get_or s at 256) e c l (rw t at h)))

-- how a part that ends the statement ends it: past its byte, before its brace, or at the text's end; or a byte of 128 or more, which stands here, is refused
abbrev pub Stops : List ℕ → ℕ → Result (Cursor × How) Refusal → Type 0
Stops s at (Ok (c, Whole)) = ⊥
Stops s at (Ok (c, Semicolon)) = (at < length s) × (c.at ≡ at + 1)
Stops s at (Ok (c, Block)) = (at < length s) × (c.at ≡ at + 1)
Stops s at (Ok (c, Before)) = (at < length s) × (c.at ≡ at) × (get_or s at 256 ≡ 125)
Stops s at (Ok (c, Text)) = (length s ≤ at) × (c.at ≡ at)
Stops s at (Err r) = (r.at ≡ at) × MetHigh s r

on_not : {e c : Cursor} {w : How} {d : ℕ} {p : Part} → p ≡ On c d → p ≡ Stop e w → ⊥
on_not e f = stop_not f e

-- the answer is the one of which it is known
stops_is : (s : List ℕ) (at : ℕ) (b e : Cursor) (v w : How) → ◌≡◌ {A = Part} (Stop b v) (Stop e w) → Stops s at (Ok (b, v)) → Stops s at (Ok (e, w))
stops_is s at b e v w k t = let z : ◌≡◌ {A = Cursor × How} (b, v) (e, w) = cc in subst (λ x. Stops s at (Ok x)) z t

semicolon_stops : (s : List ℕ) (at d : ℕ) (e : Cursor) (w : How) → at < length s → at_semicolon (at + 1) d ≡ Stop e w → Stops s at (Ok (e, w))
unfolding at_semicolon
semicolon_stops s at d e w l h =
    by_test (eqb d 0)
    (λ t. stops_is s at (record { at = at + 1 }) e Semicolon w (rw t at h) (l, refl))
    (λ t. absurd (on_not refl (rw t at h)))

close_stops : (s : List ℕ) (at d : ℕ) (e : Cursor) (w : How) → at < length s → get_or s at 256 ≡ 125 → at_close at (at + 1) d ≡ Stop e w
    → Stops s at (Ok (e, w))
unfolding at_close
close_stops s at d e w l b h =
    by_test (eqb d 0)
    (λ t. stops_is s at (record { at = at }) e Before w (rw t at h) (l, refl, b))
    (λ t. by_test (eqb d 1)
    (λ u. stops_is s at (record { at = at + 1 }) e Block w (rw u at (rw t at h)) (l, refl))
    (λ u. absurd (on_not refl (rw u at (rw t at h)))))

high_stop : {e : Cursor} {r : Refusal} {w : How} {p : Part} → p ≡ Err r → p ≡ Stop e w → ⊥
high_stop e f = let z : ◌≡◌ {A = ℕ} 0 1 = cc in omega arith

-- any other byte does not end it
other_stops : (at d b : ℕ) (e : Cursor) (w : How) → at_other at (at + 1) d b ≡ Stop e w → ⊥
unfolding at_other
other_stops at d b e w h = by_test (is_high b) (λ t. high_stop refl (rw t at h)) (λ t. on_not refl (rw t at h))

of_stops : (s : List ℕ) (at d b : ℕ) (e : Cursor) (w : How) → at < length s → get_or s at 256 ≡ b → part_of s at d b ≡ Stop e w → Stops s at (Ok (e, w))
unfolding part_of
of_stops s at d b e w l k h =
    by_test (is_quote b)
    (λ t. absurd (on_not refl (rw t at h)))
    (λ t. by_test (eqb b 59)
    (λ u. semicolon_stops s at d e w l (rw u at (rw t at h)))
    (λ u. by_test (eqb b 123)
    (λ v. absurd (on_not refl (rw v at (rw u at (rw t at h)))))
    (λ v. by_test (eqb b 125)
    (λ x. close_stops s at d e w l (k ∙ eqb-true b 125 x) (rw x at (rw v at (rw u at (rw t at h)))))
    (λ x. absurd (other_stops at d b e w (rw x at (rw v at (rw u at (rw t at h)))))))))

pub part_stops : (s : List ℕ) (at d : ℕ) (e : Cursor) (w : How) → part_at s at d ≡ Stop e w → Stops s at (Ok (e, w))
unfolding part_at
part_stops s at d e w h =
    by_test (leb (length s) at)
    (λ t. stops_is s at (record { at = at }) e Text w (rw t at h) (leb-true (length s) at t, refl))
    (λ t. of_stops s at d (get_or s at 256) e w (leb-false (length s) at t) refl (rw t at h))

-- a part that is refused is such a byte
high_is : {q r : Refusal} {p : Part} → p ≡ Err q → p ≡ Err r → r ≡ q
high_is e f = cc

stop_high : {e : Cursor} {r : Refusal} {w : How} {p : Part} → p ≡ Stop e w → p ≡ Err r → ⊥
stop_high e f = high_stop f e

on_high : {c : Cursor} {r : Refusal} {d : ℕ} {p : Part} → p ≡ On c d → p ≡ Err r → ⊥
on_high e f = high_not f e

semicolon_high : (next d : ℕ) (r : Refusal) → at_semicolon next d ≡ Err r → ⊥
unfolding at_semicolon
semicolon_high next d e h = by_test (eqb d 0) (λ t. stop_high refl (rw t at h)) (λ t. on_high refl (rw t at h))

close_high : (at next d : ℕ) (r : Refusal) → at_close at next d ≡ Err r → ⊥
unfolding at_close
close_high at next d e h =
    by_test (eqb d 0)
    (λ t. stop_high refl (rw t at h))
    (λ t. by_test (eqb d 1) (λ u. stop_high refl (rw u at (rw t at h))) (λ u. on_high refl (rw u at (rw t at h))))

of_high : (s : List ℕ) (at d b : ℕ) (r : Refusal) → part_of s at d b ≡ Err r → (r ≡ high_at at) × (is_high b ≡ true)
unfolding part_of at_other
of_high s at d b e h =
    by_test (is_quote b)
    (λ t. absurd (on_high refl (rw t at h)))
    (λ t. by_test (eqb b 59)
    (λ u. absurd (semicolon_high (at + 1) d e (rw u at (rw t at h))))
    (λ u. by_test (eqb b 123)
    (λ v. absurd (on_high refl (rw v at (rw u at (rw t at h)))))
    (λ v. by_test (eqb b 125)
    (λ x. absurd (close_high at (at + 1) d e (rw x at (rw v at (rw u at (rw t at h))))))
    (λ x. by_test (is_high b)
    (λ y. (high_is refl (rw y at (rw x at (rw v at (rw u at (rw t at h))))), y))
    (λ y. absurd (on_high refl (rw y at (rw x at (rw v at (rw u at (rw t at h)))))))))))

pub part_high : (s : List ℕ) (at d : ℕ) (r : Refusal) → part_at s at d ≡ Err r → Stops s at (Err r)
unfolding part_at
part_high s at d e h =
    by_test (leb (length s) at)
    (λ t. absurd (stop_high refl (rw t at h)))
    (λ t. let k = of_high s at d (get_or s at 256) e (rw t at h) in subst (λ q. Stops s at (Err q)) (sym k.0) (refl, (refl, k.1)))

-- ---- a statement

of_on : (s : List ℕ) (g d : ℕ) (p : Part) (i : Inside) → part_at s g d ≡ p → of_part p ≡ on i → (g < length s) × (g < i.at) × (i.at ≤ length s)
unfolding of_part
of_on s g d (Ok (Continue (c, e))) i q h = let k : c.at ≡ i.at = cc in omega (arith, part_far s g d e c q)
of_on s g d (Ok (Break k)) i q h = let z : ◌≡◌ {A = ℕ} 0 1 = cc in omega arith
of_on s g d (Err r) i q h = let z : ◌≡◌ {A = ℕ} 0 1 = cc in omega arith

statement_falls : (s : List ℕ) (i j : Inside) → statement_turn s i ≡ on j → length s - j.at < length s - i.at
unfolding statement_turn
statement_falls s i j h =
    let g = gap_end s i.at in
    omega (arith, of_on s g i.depth (part_at s g i.depth) j refl h, gap_from s i.at)

pub statement_is : (s : List ℕ) (at : ℕ) → statement_at s at ≡ statement_from s at 0
unfolding statement_at
statement_is s at = refl

-- g after the gap, p the part there
module _ (s : List ℕ) (at d : ℕ) {g : ℕ} {p : Part} (ge : g ≡ gap_end s at) (pe : p ≡ part_at s g d) where
  turn_is : statement_turn s (record { at = at; depth = d }) ≡ of_part p
  unfolding statement_turn
  turn_is = ap (λ i. of_part (part_at s i d)) (sym ge) ∙ ap of_part (sym pe)

  ends_so : (e : Result (Cursor × How) Refusal) → of_part p ≡ stop e → statement_from s at d ≡ e
  unfolding statement_from
  ends_so e h =
      turns_stop (statement_turn s) (Ok ((record { at = 0 }), Text)) (λ i. length s - i.at) (statement_falls s)
      (suc (length s)) (record { at = at; depth = d }) e (omega arith) (turn_is ∙ h)

  pub statement_stop : (e : Cursor) (w : How) → p ≡ Stop e w → statement_from s at d ≡ Ok (e, w)
  unfolding of_part
  statement_stop e w h = ends_so (Ok (e, w)) (ap of_part h)

  pub statement_high : (r : Refusal) → p ≡ Err r → statement_from s at d ≡ Err r
  unfolding of_part
  statement_high r h = ends_so (Err r) (ap of_part h)

  module _ (c : Cursor) (e : ℕ) (h : p ≡ On c e) where
    far : (g < length s) × Far s g d c e
    far = part_far s g d e c (sym pe ∙ h)

    pub statement_more : statement_from s at d ≡ statement_from s c.at e
    unfolding statement_from of_part
    statement_more =
        turns_on (statement_turn s) (Ok ((record { at = 0 }), Text)) (λ i. length s - i.at) (statement_falls s)
        (suc (length s)) (suc (length s)) (record { at = at; depth = d }) (record { at = c.at; depth = e }) (omega arith) (omega arith) (turn_is ∙ ap of_part h)

    pub statement_on : length s - c.at < length s - at
    statement_on = omega (arith, far, gap_from s at)

    -- each brace that opened took a byte
    pub statement_room : d ≤ at → e ≤ c.at
    statement_room r = omega (arith, far, gap_from s at)

-- a gap before a statement is a part of it
pub statement_gap : (s : List ℕ) (at d : ℕ) {g : ℕ} → g ≡ gap_end s at → statement_from s g d ≡ statement_from s at d
unfolding statement_from turns statement_turn
statement_gap s at d e =
    ap (λ i. after (λ j. turns (statement_turn s) (Ok ((record { at = 0 }), Text)) (length s) j) (of_part (part_at s i d)))
    (ap (gap_end s) e ∙ gap_twice s at)

-- ---- how far a statement goes

-- what the end of a statement says of its place: behind its start by a byte of its own, before a closing brace, or at the text's end; what is refused is a
-- byte of 128 or more
abbrev pub Tells : List ℕ → ℕ → Result (Cursor × How) Refusal → Type 0
Tells s at (Ok (c, Whole)) = ⊥
Tells s at (Ok (c, Semicolon)) = (at < c.at) × (c.at ≤ length s)
Tells s at (Ok (c, Block)) = (at < c.at) × (c.at ≤ length s)
Tells s at (Ok (c, Before)) = (at ≤ c.at) × (c.at < length s) × (get_or s c.at 256 ≡ 125)
Tells s at (Ok (c, Text)) = (at ≤ c.at) × (length s ≤ c.at) × (at ≤ length s → c.at ≡ length s)
Tells s at (Err r) = (at ≤ r.at) × MetHigh s r

-- said of a place, it holds of one before
tells_on : (s : List ℕ) (at b : ℕ) (e : Result (Cursor × How) Refusal) → at ≤ b → (at ≤ length s → b ≤ length s) → Tells s b e → Tells s at e
tells_on s at b (Ok (c, Whole)) h l t = t
tells_on s at b (Ok (c, Semicolon)) h l t = (omega (arith, t.0), t.1)
tells_on s at b (Ok (c, Block)) h l t = (omega (arith, t.0), t.1)
tells_on s at b (Ok (c, Before)) h l t = (omega (arith, t.0), t.1, t.2)
tells_on s at b (Ok (c, Text)) h l t = (omega (arith, t.0), t.1, λ k. t.2 (l k))
tells_on s at b (Err r) h l t = (omega (arith, t.0), t.1)

stops_tell : (s : List ℕ) (at : ℕ) (e : Result (Cursor × How) Refusal) → Stops s at e → Tells s at e
stops_tell s at (Ok (c, Whole)) t = t
stops_tell s at (Ok (c, Semicolon)) t = (omega (arith, t.1), omega (arith, t.0, t.1))
stops_tell s at (Ok (c, Block)) t = (omega (arith, t.1), omega (arith, t.0, t.1))
stops_tell s at (Ok (c, Before)) t = (omega (arith, t.1), omega (arith, t.0, t.1), ap (λ i. get_or s i 256) t.1 ∙ t.2)
stops_tell s at (Ok (c, Text)) t = (omega (arith, t.1), omega (arith, t.0, t.1), λ k. omega (arith, t.0, t.1))
stops_tell s at (Err r) t = (omega (arith, t.0), t.1)

of_stop : (s : List ℕ) (g d : ℕ) (p : Part) (e : Result (Cursor × How) Refusal) → part_at s g d ≡ p → of_part p ≡ stop e → Tells s g e
unfolding of_part
of_stop s g d (Ok (Continue (c, f))) e q h = let z : ◌≡◌ {A = ℕ} 0 1 = cc in absurd (omega arith)
of_stop s g d (Ok (Break (f, w))) e q h = let k : Ok (f, w) ≡ e = cc in subst (Tells s g) k (stops_tell s g (Ok (f, w)) (part_stops s g d f w q))
of_stop s g d (Err r) e q h = let k : Err r ≡ e = cc in subst (Tells s g) k (stops_tell s g (Err r) (part_high s g d r q))

from_tells : (s : List ℕ) (at d : ℕ) → Tells s at (statement_from s at d)
unfolding statement_from statement_turn
from_tells s at d =
    turns_rule (statement_turn s) (Ok ((record { at = 0 }), Text)) (λ i. length s - i.at) (statement_falls s) (λ i e. Tells s i.at e)
    (λ i e h. let g = gap_end s i.at in
    tells_on s i.at g e (gap_from s i.at) (gap_within s i.at) (of_stop s g i.depth (part_at s g i.depth) e refl h))
    (λ i j e h t. let g = gap_end s i.at in
    let far = of_on s g i.depth (part_at s g i.depth) j refl h in
    tells_on s i.at j.at e (omega (arith, far, gap_from s i.at)) (λ l. far.2) t)
    (suc (length s)) (record { at = at; depth = d }) (omega arith)

pub statement_tells : (s : List ℕ) (at : ℕ) → Tells s at (statement_at s at)
unfolding statement_at
statement_tells s at = from_tells s at 0

-- behind its start, and within the text where the scan stands within it
tells_far : (s : List ℕ) (at : ℕ) (c : Cursor) (h : How) → Tells s at (Ok (c, h)) → (at ≤ c.at) × (at ≤ length s → c.at ≤ length s)
tells_far s at c Whole t = absurd t
tells_far s at c Semicolon t = (omega (arith, t.0), λ l. t.1)
tells_far s at c Block t = (omega (arith, t.0), λ l. t.1)
tells_far s at c Before t = (t.0, λ l. omega (arith, t.1))
tells_far s at c Text t = (t.0, λ l. omega (arith, t.2 l))

pub statement_far : (s : List ℕ) (at : ℕ) → at ≤ length s → (c : Cursor) (h : How) → statement_at s at ≡ Ok (c, h) → (at ≤ c.at) × (c.at ≤ length s)
statement_far s at l c h e = let f = tells_far s at c h (subst (Tells s at) e (statement_tells s at)) in (f.0, f.1 l)

pub statement_refused : (s : List ℕ) (at : ℕ) (r : Refusal) → statement_at s at ≡ Err r → MetHigh s r
statement_refused s at r e = (subst (Tells s at) e (statement_tells s at)).1

pub statement_refused_from : (s : List ℕ) (at : ℕ) (r : Refusal) → statement_at s at ≡ Err r → at ≤ r.at
statement_refused_from s at r e = (subst (Tells s at) e (statement_tells s at)).0

-- a statement before which no closing brace stands takes a byte at least
abbrev Moves : ℕ → Result (Cursor × How) Refusal → Type 0
Moves at (Ok (c, h)) = at < c.at
Moves at (Err r) = Unit {0}

tells_moves : (s : List ℕ) (at b : ℕ) (e : Result (Cursor × How) Refusal) → at < b → Tells s b e → Moves at e
tells_moves s at b (Ok (c, h)) l t = omega (arith, (tells_far s b c h t).0)
tells_moves s at b (Err r) l t = tt

from_moves : (s : List ℕ) (at : ℕ) (p : Part) → at < length s → (get_or s (gap_end s at) 256 ≡ 125 → ⊥) → part_at s (gap_end s at) 0 ≡ p
    → Moves at (statement_from s at 0)
from_moves s at (Ok (Continue (c, d))) l n h =
    rw (statement_more s at 0 refl refl c d h)
    (tells_moves s at c.at (statement_from s c.at d) (omega (arith, part_far s (gap_end s at) 0 d c h, gap_from s at)) (from_tells s c.at d))
from_moves s at (Err r) l n h = rw (statement_high s at 0 refl refl r h) tt
from_moves s at (Ok (Break (e, w))) l n h = rw (statement_stop s at 0 refl refl e w h) (stopped (Ok (e, w)) (part_stops s (gap_end s at) 0 e w h))
  where
    stopped : (e : Result (Cursor × How) Refusal) → Stops s (gap_end s at) e → Moves at e
    stopped (Ok (c, Whole)) t = absurd t
    stopped (Ok (c, Semicolon)) t = omega (arith, t.1, gap_from s at)
    stopped (Ok (c, Block)) t = omega (arith, t.1, gap_from s at)
    stopped (Ok (c, Before)) t = absurd (n t.2)
    stopped (Ok (c, Text)) t = omega (arith, t.0, t.1, l)
    stopped (Err r) t = tt

pub statement_moves : (s : List ℕ) (at : ℕ) → at < length s → (get_or s (gap_end s at) 256 ≡ 125 → ⊥) → (c : Cursor) (h : How) → statement_at s at ≡ Ok (c, h)
    → at < c.at
unfolding statement_at
statement_moves s at l n c h e = subst (Moves at) e (from_moves s at (part_at s (gap_end s at) 0) l n refl)

-- What a proof uses of the definitions of `specs/Argument.antt`: what each answer on the way says of the next, and how far a keyword's value
-- and its byte go.
-- Assumes nothing.
use Rattle.std.specs.Prelude.{Ok, Err, Result, Some, None}
use mathlib.Core.Path.{◌≡◌, refl, sym, ap, ap₂, ◌∙◌}
use mathlib.Core.Bool.{Bool, true, false, not}
use mathlib.Core.Logic.{◌⊎◌, inl, inr, ⊎_elim}
use mathlib.Core.List.{List}
use Prim.Native.Nat.{ℕ, ◌+◌, ◌-◌, ◌<◌, ◌≤◌}
use native.Mathlib.Omega.{arith}
use lib.ListN.{length, get_or}
use Rattle.text.specs.Due.{due_at}
use Rattle.text.specs.Refusal.{cut_at, is_high, refused_at}
use Rattle.text.specs.Scan.{gap_end}
use Rattle.text.specs.declared.Cursor.{Cursor}
use Rattle.text.specs.declared.Refusal.{Refusal}
use Rattle.text.proofs.DueLaws.{due_end, due_far, due_refused_within}
use Rattle.text.proofs.Here.{by_test, past, ok_pair_parts}
use Rattle.text.proofs.HighLaws.{high_end, refused_other, refused_place}
use Rattle.text.proofs.Laws.{gap_from}
use Rattle.text_value.specs.Value.{Val, value, none, value_at, closed_at, value_answer, value_bytes, place_of}
use Rattle.text_value.specs.Argument.{argument_of, breaks_off, argument_at, after_due, after_argument, line_at}
use Rattle.text_value.specs.declared.Value.{Value}
use Rattle.text_value.proofs.JoinLaws.{value_far, none_size, open_place}

-- ---- the value

missing_of : (u : ℕ) (y : Bool) (w : Val) → (value_answer u y w).used ≡ None → w ≡ none (value_answer u y w).end.at
unfolding value_answer
missing_of u y (value bs e) h = cc
missing_of u y (none at) h = refl

read_of : (u : ℕ) (y : Bool) (w : Val) (n : ℕ) → (value_answer u y w).used ≡ Some n
    → (w ≡ value (value_bytes w) (value_answer u y w).end.at) × (n ≡ u + length (value_bytes w))
unfolding value_answer value_bytes
read_of u y (value bs e) n h = (refl, cc)
read_of u y (none at) n h = (cc, cc)

closed_is : (u : ℕ) (y : Bool) (w : Val) → (value_answer u y w).closed ≡ y
unfolding value_answer
closed_is u y (value bs e) = refl
closed_is u y (none at) = refl

-- it does not break off in the old mode, nor where each string closes
pub off_old : {whole : Bool} (closed : Bool) → whole ≡ false → breaks_off whole closed ≡ false
unfolding breaks_off
off_old closed e = rw e refl

pub off_closed : (whole closed : Bool) → not closed ≡ false → breaks_off whole closed ≡ false
unfolding breaks_off
off_closed true closed e = rw e refl
off_closed false closed e = refl

-- v: what reading the value answered
module _ (whole : Bool) (s : List ℕ) (at u k : ℕ) {v : Value} (ve : v ≡ value_answer u (closed_at s at) (value_at s at)) where
  told : closed_at s at ≡ v.closed
  told = sym (ap (λ (x : Value). x.closed) ve ∙ closed_is u (closed_at s at) (value_at s at))

  used_told : (value_answer u (closed_at s at) (value_at s at)).used ≡ v.used
  used_told = sym (ap (λ (x : Value). x.used) ve)

  end_told : (value_answer u (closed_at s at) (value_at s at)).end ≡ v.end
  end_told = sym (ap (λ (x : Value). x.end) ve)

  pub argument_cut : whole ≡ true → not v.closed ≡ true → {r : Refusal} → r ≡ cut_at (length s) → argument_at whole s at u k ≡ Err r
  unfolding argument_at breaks_off
  argument_cut y n e = let q : not (closed_at s at) ≡ true = ap not told ∙ n in rw (y, q) (ap Err (sym e))

  module _ (n : breaks_off whole v.closed ≡ false) where
    argument_on : argument_at whole s at u k ≡ argument_of s u k (value_at s at)
    unfolding argument_at
    argument_on = let q : breaks_off whole (closed_at s at) ≡ false = ap (breaks_off whole) told ∙ n in rw q refl

    -- b: what stands where the value ends, r: what is refused there
    pub argument_missing : v.used ≡ None → {b : ℕ} → b ≡ get_or s v.end.at 256 → {r : Refusal} → r ≡ refused_at b 4 k v.end.at
        → argument_at whole s at u k ≡ Err r
    unfolding argument_of
    argument_missing m be re =
        argument_on ∙ ap (argument_of s u k) (missing_of u (closed_at s at) (value_at s at) (used_told ∙ m))
        ∙ ap (λ (c : Cursor). Err (refused_at (get_or s c.at 256) 4 k c.at)) end_told ∙ ap Err (sym (re ∙ ap (λ i. refused_at i 4 k v.end.at) be))

    pub argument_read : (i : ℕ) → v.used ≡ Some i → argument_at whole s at u k ≡ Ok (v.end, i)
    unfolding argument_of
    argument_read i m =
        let w = read_of u (closed_at s at) (value_at s at) i (used_told ∙ m) in
        argument_on ∙ ap (argument_of s u k) w.0 ∙ ap₂ (λ c n. Ok (c, n)) end_told (sym w.1)

-- ---- how far they go

-- bs: the bytes stored from u on; c: after the value, n: the store's next place
abbrev pub Far : List ℕ → ℕ → ℕ → List ℕ → Cursor → ℕ → Type 0
Far s at u bs c n = (at < c.at) × (at + length bs ≤ c.at) × (c.at ≤ length s) × (n ≡ u + length bs)

far_of : (s : List ℕ) (at u k : ℕ) (w : Val) (c : Cursor) (n : ℕ) → value_at s at ≡ w → argument_of s u k w ≡ Ok (c, n) → Far s at u (value_bytes w) c n
unfolding argument_of value_bytes
far_of s at u k (value bs e) c n h l =
    let p = ok_pair_parts (record { at = e }) c (u + length bs) n l in
    omega (arith, value_far s at bs e h, ap (λ (x : Cursor). x.at) p.0, p.1)
far_of s at u k (none e) c n h l = let z : ◌≡◌ {A = ℕ} 0 1 = cc in absurd (omega arith)

-- in the whole-text mode it is 11, or as before
argument_either : (w : Bool) (s : List ℕ) (at u k : ℕ)
    → (argument_at w s at u k ≡ Err (cut_at (length s))) ⊎ (argument_at w s at u k ≡ argument_of s u k (value_at s at))
unfolding argument_at
argument_either w s at u k = by_test (breaks_off w (closed_at s at)) (λ t. inl (rw t refl)) (λ t. inr (rw t refl))

read_not : {a : Result (Cursor × ℕ) Refusal} {c : Cursor} {n : ℕ} {r : Refusal} → a ≡ Ok (c, n) → a ≡ Err r → ⊥
read_not e h = let z : ◌≡◌ {A = ℕ} 0 1 = cc in omega arith

-- a value that was read is read so in either mode
pub argument_old : (w : Bool) (s : List ℕ) (at u k : ℕ) (c : Cursor) (n : ℕ) → argument_at w s at u k ≡ Ok (c, n) → argument_of s u k (value_at s at) ≡ Ok (c, n)
argument_old w s at u k c n h = ⊎_elim (λ e. absurd (read_not h e)) (λ e. sym e ∙ h) (argument_either w s at u k)

-- a value that was read is behind its start, within the text, and takes its bytes at least
pub argument_far : (w : Bool) (s : List ℕ) (at u k : ℕ) (c : Cursor) (n : ℕ) → argument_at w s at u k ≡ Ok (c, n) → Far s at u (value_bytes (value_at s at)) c n
argument_far w s at u k c n h = far_of s at u k (value_at s at) c n refl (argument_old w s at u k c n h)

-- room in the store for the rest of the text stays
pub argument_room : (w : Bool) (s : List ℕ) (at u k l : ℕ) (c : Cursor) (n : ℕ) → argument_at w s at u k ≡ Ok (c, n) → u + (length s - at) ≤ l
    → n + (length s - c.at) ≤ l
argument_room w s at u k l c n h r = let f = argument_far w s at u k c n h in omega arith

-- the place of a refused one is within the text, where the scan stands within it
refused_of : (s : List ℕ) (at u k : ℕ) (w : Val) (r : Refusal) → at ≤ length s → value_at s at ≡ w → argument_of s u k w ≡ Err r
    → (at ≤ r.at) × (r.at ≤ length s)
unfolding argument_of
refused_of s at u k (value bs e) r l h q = let z : ◌≡◌ {A = ℕ} 0 1 = cc in absurd (omega arith)
refused_of s at u k (none e) r l h q =
    let p : refused_at (get_or s e 256) 4 k e ≡ r = cc in
    let i : e ≡ r.at = sym (refused_place (get_or s e 256) 4 k e) ∙ ap (λ x. x.at) p in
    omega (arith, none_size s at e l h)

cut_place : (s : List ℕ) {a : Result (Cursor × ℕ) Refusal} {r : Refusal} → a ≡ Err r → a ≡ Err (cut_at (length s)) → r.at ≡ length s
cut_place s h e = cc

pub argument_refused : (w : Bool) (s : List ℕ) (at u k : ℕ) (r : Refusal) → at ≤ length s → argument_at w s at u k ≡ Err r
    → (at ≤ r.at) × (r.at ≤ length s)
argument_refused w s at u k r l h =
    ⊎_elim (λ e. omega (arith, cut_place s h e)) (λ e. refused_of s at u k (value_at s at) r l refl (sym e ∙ h)) (argument_either w s at u k)

due_read : (n : ℕ) (d : Result Cursor Refusal) (c : Cursor) (m : ℕ) → after_due n d ≡ Ok (c, m) → (d ≡ Ok c) × (m ≡ n)
unfolding after_due
due_read n (Ok e) c m h = let p = ok_pair_parts e c n m h in (ap Ok p.0, sym p.1)
due_read n (Err r) c m h = (cc, cc)

line_of : (w : Bool) (s : List ℕ) (at u k b : ℕ) (a : Result (Cursor × ℕ) Refusal) (c : Cursor) (n : ℕ) → b < 256 → argument_at w s at u k ≡ a → after_argument s k b a ≡ Ok (c, n)
    → (at + length (value_bytes (value_at s at)) < c.at) × (c.at ≤ length s) × (n ≡ u + length (value_bytes (value_at s at)))
unfolding after_argument
line_of w s at u k b (Ok (e, m)) c n small h l =
    let d = due_read m (due_at s e.at b k) c n l in
    let f = argument_far w s at u k e m h in
    let g = due_far s e.at b k c small d.0 in
    omega (arith, d.1)
line_of w s at u k b (Err r) c n small h l = let z : ◌≡◌ {A = ℕ} 0 1 = cc in absurd (omega arith)

-- a value and its byte stand within the text and take more than the bytes that are stored
pub line_far : (w : Bool) (s : List ℕ) (at u k b : ℕ) (c : Cursor) (n : ℕ) → b < 256 → line_at w s at u k b ≡ Ok (c, n)
    → (at + length (value_bytes (value_at s at)) < c.at) × (c.at ≤ length s) × (n ≡ u + length (value_bytes (value_at s at)))
unfolding line_at
line_far w s at u k b c n small h = line_of w s at u k b (argument_at w s at u k) c n small refl h

pub line_room : (w : Bool) (s : List ℕ) (at u k b l : ℕ) (c : Cursor) (n : ℕ) → b < 256 → line_at w s at u k b ≡ Ok (c, n) → u + (length s - at) ≤ l
    → n + (length s - c.at) ≤ l
line_room w s at u k b l c n small h r = let f = line_far w s at u k b c n small h in omega arith

due_not : (n : ℕ) (d : Result Cursor Refusal) (r : Refusal) → after_due n d ≡ Err r → d ≡ Err r
unfolding after_due
due_not n (Ok e) r h = cc
due_not n (Err q) r h = cc

refusal_of_lem : (w : Bool) (s : List ℕ) (at u k b : ℕ) (a : Result (Cursor × ℕ) Refusal) (r : Refusal) → at ≤ length s → argument_at w s at u k ≡ a
    → after_argument s k b a ≡ Err r → (at ≤ r.at) × (r.at ≤ length s)
unfolding after_argument
refusal_of_lem w s at u k b (Ok (e, m)) r l h q =
    let d = due_not m (due_at s e.at b k) r q in
    let f = argument_far w s at u k e m h in
    omega (arith, due_refused_within s e.at b k r (omega arith) d)
refusal_of_lem w s at u k b (Err p) r l h q = let i : p.at ≡ r.at = cc in omega (arith, argument_refused w s at u k p l h)

-- a refusal stands within the text, where the scan stands within it
pub line_refusal : (w : Bool) (s : List ℕ) (at u k b : ℕ) (r : Refusal) → at ≤ length s → line_at w s at u k b ≡ Err r
    → (at ≤ r.at) × (r.at ≤ length s)
unfolding line_at
line_refusal w s at u k b r l h = refusal_of_lem w s at u k b (argument_at w s at u k) r l refl h

-- ---- the whole-text mode beside the old one: the same, or 11 where a string never closes, and then the old one is at the text's end

pub argument_modes : (s : List ℕ) (at u k : ℕ)
    → (argument_at true s at u k ≡ argument_at false s at u k) ⊎ ((argument_at true s at u k ≡ Err (cut_at (length s))) × (closed_at s at ≡ false))
unfolding argument_at breaks_off
argument_modes s at u k = by_test (closed_at s at) (λ t. inl (rw t refl)) (λ t. inr (rw t refl, t))

pub argument_open : (s : List ℕ) (at u k : ℕ) → closed_at s at ≡ false
    → (argument_at false s at u k ≡ Err (record { number = 4; keyword = k; at = length s }))
    ⊎ ((c : Cursor) × (n : ℕ) × (argument_at false s at u k ≡ Ok (c, n)) × (c.at ≡ length s))
unfolding argument_at argument_of breaks_off place_of
argument_open s at u k h = by_val (value_at s at) refl
  where
    by_val : (v : Val) → value_at s at ≡ v
        → (argument_of s u k v ≡ Err (record { number = 4; keyword = k; at = length s }))
        ⊎ ((c : Cursor) × (n : ℕ) × (argument_of s u k v ≡ Ok (c, n)) × (c.at ≡ length s))
    by_val (value bs e) q = inr (record { at = e }, u + length bs, refl, sym (ap place_of q) ∙ open_place s at h)
    by_val (none e) q =
        let i : e ≡ length s = sym (ap place_of q) ∙ open_place s at h in
        let z : is_high (get_or s e 256) ≡ false = high_end (past s e (omega (arith, i))) in
        inl (ap Err (sym (refused_other (get_or s e 256) 4 k e refl z)) ∙ ap (λ i. Err (record { number = 4; keyword = k; at = i })) i)

-- at the text's end no byte stands
pub due_past : (s : List ℕ) (at b k : ℕ) → b < 256 → at ≡ length s → due_at s at b k ≡ Err (record { number = 6; keyword = k; at = gap_end s at })
due_past s at b k small e =
    let p : get_or s (gap_end s at) 256 ≡ 256 = past s (gap_end s at) (omega (arith, gap_from s at)) in
    due_end s at b k refl refl (λ z. omega (arith, p, z)) p

-- the refusal of the old mode has one of two numbers
abbrev pub FourOrSix : Refusal → Type 0
FourOrSix r = (r.number ≡ 4) ⊎ (r.number ≡ 6)

pub line_modes : (s : List ℕ) (at u k b : ℕ) → b < 256
    → (line_at true s at u k b ≡ line_at false s at u k b)
    ⊎ ((line_at true s at u k b ≡ Err (cut_at (length s))) × (r : Refusal) × (line_at false s at u k b ≡ Err r) × FourOrSix r)
unfolding line_at after_argument after_due
line_modes s at u k b small =
    ⊎_elim (λ e. inl (ap (after_argument s k b) e))
    (λ e. let q = cut (argument_open s at u k e.1) in inr (ap (after_argument s k b) e.0, q.0, q.1, q.2)) (argument_modes s at u k)
  where
    cut : (argument_at false s at u k ≡ Err (record { number = 4; keyword = k; at = length s }))
        ⊎ ((c : Cursor) × (n : ℕ) × (argument_at false s at u k ≡ Ok (c, n)) × (c.at ≡ length s))
        → (r : Refusal) × (after_argument s k b (argument_at false s at u k) ≡ Err r) × FourOrSix r
    cut (inl e) = (record { number = 4; keyword = k; at = length s }, ap (after_argument s k b) e, inl refl)
    cut (inr e) =
        let r : Refusal = record { number = 6; keyword = k; at = gap_end s e.0.at } in
        (r, ap (after_argument s k b) e.2 ∙ ap (after_due e.1) (due_past s e.0.at b k small e.3), inr refl)

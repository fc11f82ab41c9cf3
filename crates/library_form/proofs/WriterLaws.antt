-- A number or name that was written is read back, whatever stands before and behind it; and one that was read is what would be written.
-- Assumes nothing.
use mathlib.Core.Path.{◌≡◌, refl, sym, ap, ap₂, ◌∙◌}
use mathlib.Core.List.{List, [], ◌∷◌, ◌++◌, append_assoc}
use mathlib.Core.Bool.{Bool, true, false, cond}
use Prim.Native.Nat.{ℕ, zero, suc, ◌+◌, ◌-◌, ◌*◌, ◌/◌, ◌≤◌, ◌<◌}
use native.Mathlib.Omega.{arith}
use native.Mathlib.Numerals.{add-one}
use lib.ListN.{length, get_or, take, drop, length-append, length-drop, get_or-append}
use lib.Seq.{drop-cons, drop-drop, get_or-append_seam, get_or-append-add, get_or-take, get_or-drop, take-add, take-append_seam}
use lib.Seq.{drop-append_seam, length-take-le}
use lib.Dec.{ltb, eqb}
use borrow.Author.Tests.{lt-ltb, le-ltb, ltb-true, ltb-false, eqb-true, eqb-false}
use Rattle.text.proofs.Here.{by_test, never}
use Rattle.library_form.specs.Form.{Ans, good, bad, bind, least_byte, most_byte, most_number, number_at, printable_at, PlacedName, name_body, name_at}
use Rattle.library_form.specs.Writer.{lowest, write_number, write_name, NameBytes, AllBytes}
use Rattle.library_form.proofs.Bounds.{number_end, Opened, opened}
use Rattle.library_form.proofs.Numbers.{none, one, cut, padded, two, cut3, padded3, three, four}

-- ---- the three lengths of a number

module _ (n : ℕ) where
  write_one : n < 128 → write_number n ≡ n ∷ []
  unfolding write_number
  write_one h = rw (lt-ltb n 128 h) refl

  write_two : 128 ≤ n → n < 16384 → write_number n ≡ lowest n ∷ n / 128 ∷ []
  unfolding write_number
  write_two g h = rw (le-ltb n 128 g) (rw (lt-ltb n 16384 h) refl)

  write_three : 16384 ≤ n → write_number n ≡ lowest n ∷ lowest (n / 128) ∷ n / 16384 ∷ []
  unfolding write_number
  write_three h = rw (le-ltb n 128 (omega (arith, h))) (rw (le-ltb n 16384 h) refl)

-- ---- read back

module _ (pre rest : List ℕ) where
  back_one : (a : ℕ) → a < 128 → number_at (pre ++ a ∷ rest) (length pre) ≡ good a (length pre + 1)
  back_one a h =
      let e = get_or-append_seam pre a rest 0 in
      let l = length-append pre (a ∷ rest) in
      sym (one (pre ++ a ∷ rest) (length pre) (omega (arith, l)) (omega (arith, e, h))) ∙ ap (λ v. good v (length pre + 1)) e

  back_two : (a b : ℕ) → 128 ≤ a → 1 ≤ b → b < 128 → number_at (pre ++ a ∷ b ∷ rest) (length pre) ≡ good (a - 128 + 128 * b) (length pre + 2)
  back_two a b g z h =
      let s = pre ++ a ∷ b ∷ rest in
      let e = get_or-append_seam pre a (b ∷ rest) 0 in
      let f : get_or s (length pre + 1) 0 ≡ b = get_or-append-add pre (a ∷ b ∷ rest) 1 0 in
      let l = length-append pre (a ∷ b ∷ rest) in
      let p : length pre + 1 + 1 ≡ length pre + 2 = omega arith in
      sym (two s (length pre) (omega (arith, l)) (omega (arith, e, g)) (omega (arith, l)) (λ q. omega (arith, q, f, z)) (omega (arith, f, h)))
      ∙ rw (e, f, p) refl

  back_three : (a b c : ℕ) → 128 ≤ a → 128 ≤ b → 1 ≤ c → c < 128
      → number_at (pre ++ a ∷ b ∷ c ∷ rest) (length pre) ≡ good (a - 128 + 128 * (b - 128) + 16384 * c) (length pre + 3)
  back_three a b c g k z h =
      let s = pre ++ a ∷ b ∷ c ∷ rest in
      let p : length pre + 1 + 1 ≡ length pre + 2 = omega arith in
      let q : length pre + 2 + 1 ≡ length pre + 3 = omega arith in
      let e = get_or-append_seam pre a (b ∷ c ∷ rest) 0 in
      let f : get_or s (length pre + 1) 0 ≡ b = get_or-append-add pre (a ∷ b ∷ c ∷ rest) 1 0 in
      let i : get_or s (length pre + 1 + 1) 0 ≡ c = rw p (get_or-append-add pre (a ∷ b ∷ c ∷ rest) 2 0) in
      let l = length-append pre (a ∷ b ∷ c ∷ rest) in
      sym (three s (length pre) (omega (arith, l)) (omega (arith, e, g)) (omega (arith, l)) (omega (arith, f, k)) (omega (arith, l))
      (λ w. omega (arith, w, i, z)) (omega (arith, i, h)))
      ∙ rw (e, f, i, p, q) refl

  pub number_back : (n : ℕ) → n ≤ most_number → number_at (pre ++ (write_number n ++ rest)) (length pre) ≡ good n (length pre + length (write_number n))
  number_back n m =
      by_test (ltb n 128)
      (λ t. rw (write_one n (ltb-true n 128 t)) (back_one n (ltb-true n 128 t)))
      (λ u. let g = ltb-false n 128 u in
      by_test (ltb n 16384)
      (λ t. let h = ltb-true n 16384 t in
      let v : lowest n - 128 + 128 * (n / 128) ≡ n = omega arith in
      rw (write_two n g h) (back_two (lowest n) (n / 128) (omega arith) (omega (arith, g)) (omega (arith, h))
      ∙ ap (λ x. good x (length pre + 2)) v))
      (λ w. let h = ltb-false n 16384 w in
      let v : lowest n - 128 + 128 * (lowest (n / 128) - 128) + 16384 * (n / 16384) ≡ n = omega arith in
      rw (write_three n h) (back_three (lowest n) (lowest (n / 128)) (n / 16384) (omega arith) (omega arith) (omega (arith, h)) (omega (arith, m))
      ∙ ap (λ x. good x (length pre + 3)) v)))

-- ---- what was read is what is written

-- a byte with its top bit set is the lowest group of what it begins; the rest is what stands behind it
module _ (a m : ℕ) {n : ℕ} (g : 128 ≤ a) (x : a < 256) (v : a - 128 + 128 * m ≡ n) where
  begins_low : a ≡ lowest n
  begins_low = omega (arith, v, x, g)

  begins_rest : m ≡ n / 128
  begins_rest = omega (arith, v, x, g)

module _ (s : List ℕ) where
  front : (k : ℕ) → k < length s → drop k s ≡ get_or s k 0 ∷ drop (k + 1) s
  front k h = rw add-one (drop-cons s k 0 h)

  bytes_two : (at : ℕ) → at + 1 < length s → drop at s ≡ get_or s at 0 ∷ get_or s (at + 1) 0 ∷ drop (at + 1 + 1) s
  bytes_two at h = front at (omega (arith, h)) ∙ ap (λ l. get_or s at 0 ∷ l) (front (at + 1) h)

  bytes_three : (at : ℕ) → at + 1 + 1 < length s → drop at s ≡ get_or s at 0 ∷ get_or s (at + 1) 0 ∷ get_or s (at + 1 + 1) 0 ∷ drop (at + 1 + 1 + 1) s
  bytes_three at h = bytes_two at (omega (arith, h)) ∙ ap (λ l. get_or s at 0 ∷ get_or s (at + 1) 0 ∷ l) (front (at + 1 + 1) h)

  module _ (bytes : AllBytes s) (at : ℕ) {n e : ℕ} (h : number_at s at ≡ good n e) where
    -- no number is read where none stands
    wrong : {X : Type 0} → bad at ≡ number_at s at → X
    wrong w = let q : ◌≡◌ {A = Ans ℕ} (bad at) (good n e) = w ∙ h in let z : ◌≡◌ {A = ℕ} 0 1 = cc in absurd (omega arith)

    agreed : (v p : ℕ) → good v p ≡ number_at s at → (v ≡ n) × (p ≡ e)
    agreed v p w = let q : ◌≡◌ {A = Ans ℕ} (good v p) (good n e) = w ∙ h in (cc, cc)

    -- the bytes between are what is written, and three groups hold it
    abbrev Shortest : Type 0
    Shortest = (take (e - at) (drop at s) ≡ write_number n) × (n ≤ most_number)

    is_one_lem : at < length s → get_or s at 0 < 128 → Shortest
    is_one_lem i g =
        let q = agreed (get_or s at 0) (at + 1) (one s at i g) in
        let d : e - at ≡ 1 = omega (arith, q.1) in
        (rw d (ap (take 1) (front at i) ∙ sym (write_one (get_or s at 0) g) ∙ ap write_number q.0), omega (arith, q.0, g))

    is_two : 128 ≤ get_or s at 0 → at + 1 < length s → (get_or s (at + 1) 0 ≡ 0 → ⊥) → get_or s (at + 1) 0 < 128 → Shortest
    is_two g i z l =
        let a = get_or s at 0 in
        let b = get_or s (at + 1) 0 in
        let q = agreed (a - 128 + 128 * b) (at + 1 + 1) (two s at (omega (arith, i)) g i z l) in
        let d : e - at ≡ 2 = omega (arith, q.1) in
        let v = q.0 in
        let x = bytes at in
        let low : 128 ≤ n = by_test (eqb b 0) (λ t. absurd (z (eqb-true b 0 t))) (λ u. omega (arith, v, eqb-false b 0 u)) in (
          rw d (ap (take 2) (bytes_two at i) ∙ ap₂ (λ y w. y ∷ w ∷ []) (begins_low a b g x v) (begins_rest a b g x v)
              ∙ sym (write_two n low (omega (arith, v, x, g, l)))),
          omega (arith, v, x, g, l),
        )

    is_three : 128 ≤ get_or s at 0 → 128 ≤ get_or s (at + 1) 0 → at + 1 + 1 < length s → (get_or s (at + 1 + 1) 0 ≡ 0 → ⊥) → get_or s (at + 1 + 1) 0 < 128
        → Shortest
    is_three g k i z l =
        let a = get_or s at 0 in
        let b = get_or s (at + 1) 0 in
        let c = get_or s (at + 1 + 1) 0 in
        let q = agreed (a - 128 + 128 * (b - 128) + 16384 * c) (at + 1 + 1 + 1) (three s at (omega (arith, i)) g (omega (arith, i)) k i z l) in
        let d : e - at ≡ 3 = omega (arith, q.1) in
        let m = b - 128 + 128 * c in
        let v : a - 128 + 128 * m ≡ n = omega (arith, q.0) in
        let r = begins_rest a m g (bytes at) v in
        let c₃ : c ≡ n / 16384 = omega (arith, begins_rest b c k (bytes (at + 1)) r) in
        let low : 16384 ≤ n = by_test (eqb c 0) (λ t. absurd (z (eqb-true c 0 t))) (λ u. omega (arith, v, eqb-false c 0 u)) in (
          rw d (ap (take 3) (bytes_three at i) ∙ ap₂ (λ w l. w ∷ l) (begins_low a m g (bytes at) v)
              (ap₂ (λ w l. w ∷ l ∷ []) (begins_low b c k (bytes (at + 1)) r) c₃) ∙ sym (write_three n low)),
          omega (arith, c₃, l),
        )

    is_shortest : Shortest
    is_shortest =
        by_test (ltb at (length s))
        (λ t₁. let i = ltb-true at (length s) t₁ in
        by_test (ltb (get_or s at 0) 128)
        (λ t. is_one_lem i (ltb-true (get_or s at 0) 128 t))
        (λ u₁. let g = ltb-false (get_or s at 0) 128 u₁ in
        by_test (ltb (at + 1) (length s))
        (λ t₂. let j = ltb-true (at + 1) (length s) t₂ in
        by_test (eqb (get_or s (at + 1) 0) 0)
        (λ t. wrong (padded s at i g j (eqb-true (get_or s (at + 1) 0) 0 t)))
        (λ u. by_test (ltb (get_or s (at + 1) 0) 128)
        (λ t. is_two g j (eqb-false (get_or s (at + 1) 0) 0 u) (ltb-true (get_or s (at + 1) 0) 128 t))
        (λ u₂. let k = ltb-false (get_or s (at + 1) 0) 128 u₂ in
        by_test (ltb (at + 1 + 1) (length s))
        (λ t₃. let m = ltb-true (at + 1 + 1) (length s) t₃ in
        by_test (eqb (get_or s (at + 1 + 1) 0) 0)
        (λ t. wrong (padded3 s at i g j k m (eqb-true (get_or s (at + 1 + 1) 0) 0 t)))
        (λ u. by_test (ltb (get_or s (at + 1 + 1) 0) 128)
        (λ t. is_three g k m (eqb-false (get_or s (at + 1 + 1) 0) 0 u) (ltb-true (get_or s (at + 1 + 1) 0) 128 t))
        (λ u₃. wrong (four s at i g j k m (ltb-false (get_or s (at + 1 + 1) 0) 128 u₃)))))
        (λ u. wrong (cut3 s at i g j k (ltb-false (at + 1 + 1) (length s) u))))))
        (λ u. wrong (cut s at i g (ltb-false (at + 1) (length s) u)))))
        (λ u. wrong (none s at (ltb-false at (length s) u)))

    pub number_written : take (e - at) (drop at s) ≡ write_number n
    number_written = is_shortest.0

    pub number_most : n ≤ most_number
    number_most = is_shortest.1

-- ---- the bytes of a name

-- one that a name may have
abbrev Fine : ℕ → Type 0
Fine b = (least_byte ≤ b) × (b ≤ most_byte)

module _ (s : List ℕ) where
  all_fine : (n at : ℕ) → ((k : ℕ) → at ≤ k → k < at + n → Fine (get_or s k 0)) → printable_at n s at ≡ true
  unfolding printable_at
  all_fine zero at h = refl
  all_fine (suc n) at h =
      let q = h at (omega arith) (omega arith) in
      rw (le-ltb (get_or s at 0) 33 q.0)
      (rw (le-ltb 126 (get_or s at 0) q.1) (all_fine n (at + 1) (λ k i l. h k (omega (arith, i)) (omega (arith, l)))))

  first_fine : (n at : ℕ) → printable_at (suc n) s at ≡ true → Fine (get_or s at 0) × (printable_at n s (at + 1) ≡ true)
  unfolding printable_at
  first_fine n at e = go (ltb (get_or s at 0) 33) (ltb 126 (get_or s at 0)) refl refl e
    where
      go : (t₁ t₂ : Bool) → ltb (get_or s at 0) 33 ≡ t₁ → ltb 126 (get_or s at 0) ≡ t₂ → cond t₁ false (cond t₂ false (printable_at n s (at + 1))) ≡ true
          → Fine (get_or s at 0) × (printable_at n s (at + 1) ≡ true)
      go true t₂ p q e = absurd (never refl e)
      go false true p q e = absurd (never refl e)
      go false false p q e = ((ltb-false (get_or s at 0) 33 p, ltb-false 126 (get_or s at 0) q), e)

  each_fine : (n at : ℕ) → printable_at n s at ≡ true → (k : ℕ) → at ≤ k → k < at + n → Fine (get_or s k 0)
  each_fine zero at e k i l = absurd (omega (arith, i, l))
  each_fine (suc n) at e k i l =
      let q = first_fine n at e in
      by_test (ltb at k)
      (λ t. each_fine n (at + 1) q.1 k (omega (arith, ltb-true at k t)) (omega (arith, l)))
      (λ u. let p : k ≡ at = omega (arith, i, ltb-false at k u) in rw p q.0)

-- ---- a name read back

module _ (head bs rest : List ℕ) (h : NameBytes bs) where
  -- behind its length, wherever that stands
  body_back : (start : ℕ) → name_body (head ++ (bs ++ rest)) start (length bs) (length head)
      ≡ good (record { place = length head; size = length bs; text = bs }) (length head + length bs)
  unfolding name_body
  body_back start =
      let s = head ++ (bs ++ rest) in
      let l = length-append head (bs ++ rest) in
      let m = length-append bs rest in
      let fine : printable_at (length bs) s (length head) ≡ true = all_fine s (length bs) (length head) (λ k i j.
      let d : k ≡ length head + (k - length head) = omega (arith, i) in
      let r : k - length head < length bs = omega (arith, i, j) in
      let g : get_or s k 0 ≡ get_or bs (k - length head) 0 =
      ap (λ x. get_or s x 0) d ∙ get_or-append-add head (bs ++ rest) (k - length head) 0 ∙ get_or-append bs rest 0 (k - length head) r in
      rw g (h.printable (k - length head) r)) in
      let text : take (length bs) (drop (length head) s) ≡ bs = ap (take (length bs)) (drop-append_seam head (bs ++ rest)) ∙ take-append_seam bs rest in
      rw (le-ltb (length bs) 1 h.some)
      (rw (le-ltb 128 (length bs) h.few)
      (rw (le-ltb (length s - length head) (length bs) (omega (arith, l, m)))
      (rw fine (ap (λ t. good (record { place = length head; size = length bs; text = t }) (length head + length bs)) text))))

pub name_back : (pre bs rest : List ℕ) → NameBytes bs → let first = length pre + length (write_number (length bs)) in
    name_at (pre ++ (write_name bs ++ rest)) (length pre) ≡ good (record { place = first; size = length bs; text = bs }) (first + length bs)
unfolding name_at write_name
name_back pre bs rest h =
    let w = write_number (length bs) in
    let e₁ : write_name bs ++ rest ≡ w ++ (bs ++ rest) = append_assoc w bs rest in
    let e₂ : pre ++ w ++ (bs ++ rest) ≡ pre ++ (w ++ (bs ++ rest)) = append_assoc pre w (bs ++ rest) in
    let f = length-append pre w in
    let k = h.few in
    let n = number_back pre (bs ++ rest) (length bs) (omega (arith, k)) in
    let b = body_back (pre ++ w) bs rest h (length pre) in
    ap (λ l. bind (number_at (pre ++ l) (length pre)) (name_body (pre ++ l) (length pre))) e₁
    ∙ ap (λ a. bind a (name_body (pre ++ (w ++ (bs ++ rest))) (length pre))) n
    ∙ ap₂ (λ l p. name_body l (length pre) (length bs) p) (sym e₂) (sym f)
    ∙ b ∙ ap (λ p. good (record { place = p; size = length bs; text = bs }) (p + length bs)) f

-- ---- a name that was read

module _ (s : List ℕ) (at : ℕ) {w : PlacedName} {n : ℕ} (h : name_at s at ≡ good w n) where
  text_size : (o : Opened s at w n) → length (take o.len (drop o.first s)) ≡ o.len
  text_size o = let r = o.room in length-take-le o.len (drop o.first s) (rw length-drop r)

  pub name_bytes : NameBytes w.text
  name_bytes =
      let o = opened s at h in
      let l = text_size o in
      let t : take o.len (drop o.first s) ≡ w.text = ap (λ (w : PlacedName). w.text) o.word in
      let m : length w.text ≡ o.len = ap length (sym t) ∙ l in
      record {
        some = rw m o.some;
        few = rw m o.few;
        printable = λ k i.
            let j : k < o.len = rw (← m) i in
            let g : get_or w.text k 0 ≡ get_or s (o.first + k) 0 =
            ap (λ l. get_or l k 0) (sym t) ∙ get_or-take o.len (drop o.first s) k 0 j ∙ get_or-drop o.first s k 0 in
            rw g (each_fine s o.len o.first o.fine (o.first + k) (omega arith) (omega (arith, j)));
      }

  pub name_written : AllBytes s → take (n - at) (drop at s) ≡ write_name w.text
  unfolding write_name
  name_written bytes =
      let o = opened s at h in
      let l = text_size o in
      let e = number_end s at o.number in
      let t : take o.len (drop o.first s) ≡ w.text = ap (λ (w : PlacedName). w.text) o.word in
      let m : o.len ≡ length w.text = sym l ∙ ap length t in
      let b = o.behind in
      let d : n - at ≡ o.first - at + o.len = omega (arith, b, e) in
      let f : at + (o.first - at) ≡ o.first = omega (arith, e) in
      ap (λ x. take x (drop at s)) d
      ∙ take-add (o.first - at) o.len (drop at s)
      ∙ ap₂ ◌++◌ (number_written s bytes at o.number ∙ ap write_number m)
      (ap (take o.len) (drop-drop (o.first - at) at s ∙ ap (λ x. drop x s) f) ∙ t)

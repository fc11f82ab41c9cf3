-- Where the numbers' readings end and where they are wrong: from the definitions alone.
-- Assumes nothing.
use Rattle.std.specs.Prelude.{Ok, Err, Result}
use mathlib.Core.Path.{◌≡◌, refl, sym, ap, ◌∙◌}
use mathlib.Core.List.{List}
use mathlib.Core.Bool.{Bool, true, false, cond}
use Prim.Native.Nat.{ℕ, zero, suc, ◌+◌, ◌-◌, ◌*◌, ◌^◌, ◌≤◌, ◌<◌}
use native.Mathlib.Omega.{arith}
use lib.ListN.{length, get_or, take, drop, length-drop}
use lib.Seq.{length-take-le}
use lib.Dec.{ltb, eqb}
use lib.Pointwise.{pointwise, bytes_decides}
use mir.Syntax.{w64}
use mir.Val.{Fits}
use borrow.Author.Tests.{ltb-true, ltb-false}
use Rattle.text.specs.Keyword.{same}
use Rattle.text.proofs.Here.{never}
use Rattle.text.proofs.KeywordLaws.{same_yes, same_no}
use Rattle.library_form.specs.Form.{Ans, good, bad, bind, groups, number_at, printable_at, PlacedName, word_at, name_body, name_at, name_seen}

-- a wrong number is wrong where it starts
groups_place : (k : ℕ) (s : List ℕ) (b at u v : ℕ) {p : ℕ} → groups k s b at u v ≡ bad p → p ≡ b
unfolding groups
groups_place zero s b at u v e = cc
groups_place (suc k) s b at u v {p} e = go (ltb at (length s)) (ltb (get_or s at 0) 128) (eqb (get_or s at 0) 0) (eqb at b) (groups_place k s b (at + 1) _ _) e
  where
    go : (t₁ t₂ t₃ t₄ : Bool) → (groups k s b (at + 1) (u * 128) (v + u * (get_or s at 0 - 128)) ≡ bad p → p ≡ b)
        → cond t₁ (cond t₂ (cond t₃ (cond t₄ (good 0 (at + 1)) (bad b)) (good (v + u * get_or s at 0) (at + 1)))
        (groups k s b (at + 1) (u * 128) (v + u * (get_or s at 0 - 128)))) (bad b) ≡ bad p → p ≡ b
    go true true true true ih e = cc
    go true true true false ih e = cc
    go true true false t₄ ih e = cc
    go true false t₃ t₄ ih e = ih e
    go false t₂ t₃ t₄ ih e = cc

-- a number ends within the bytes
groups_end : (k : ℕ) (s : List ℕ) (b at u v : ℕ) {r n : ℕ} → groups k s b at u v ≡ good r n → (at < n) × (n ≤ length s)
unfolding groups
groups_end zero s b at u v e = let z : ◌≡◌ {A = ℕ} 0 1 = cc in omega arith
groups_end (suc k) s b at u v {r} {n} e =
    go (ltb at (length s)) (ltb (get_or s at 0) 128) (eqb (get_or s at 0) 0) (eqb at b) refl (groups_end k s b (at + 1) _ _) e
  where
    go : (t₁ t₂ t₃ t₄ : Bool) → ltb at (length s) ≡ t₁ → (groups k s b (at + 1) (u * 128) (v + u * (get_or s at 0 - 128)) ≡ good r n
        → (at + 1 < n) × (n ≤ length s)) → cond t₁ (cond t₂ (cond t₃ (cond t₄ (good 0 (at + 1)) (bad b)) (good (v + u * get_or s at 0) (at + 1)))
        (groups k s b (at + 1) (u * 128) (v + u * (get_or s at 0 - 128)))) (bad b) ≡ good r n → (at < n) × (n ≤ length s)
    go true true true true h ih e = let q : at + 1 ≡ n = cc in omega (arith, ltb-true at (length s) h)
    go true true true false h ih e = let z : ◌≡◌ {A = ℕ} 0 1 = cc in omega arith
    go true true false t₄ h ih e = let q : at + 1 ≡ n = cc in omega (arith, ltb-true at (length s) h)
    go true false t₃ t₄ h ih e = omega (arith, ih e)
    go false t₂ t₃ t₄ h ih e = let z : ◌≡◌ {A = ℕ} 0 1 = cc in omega arith

pub number_place : (s : List ℕ) (at : ℕ) {p : ℕ} → number_at s at ≡ bad p → p ≡ at
unfolding number_at
number_place s at e = groups_place 3 s at at 1 0 e

pub number_end : (s : List ℕ) (at : ℕ) {r n : ℕ} → number_at s at ≡ good r n → (at < n) × (n ≤ length s)
unfolding number_at
number_end s at e = groups_end 3 s at at 1 0 e

-- a name that was read, by its parts
pub record Opened (s : List ℕ) (at : ℕ) (w : PlacedName) (n : ℕ) : Type 0 where
  pub len : ℕ
  pub first : ℕ
  pub number : number_at s at ≡ good len first
  pub some : 1 ≤ len
  pub few : len ≤ 128
  pub room : len ≤ length s - first
  pub fine : printable_at len s first ≡ true
  pub word : word_at s first len ≡ w
  pub behind : first + len ≡ n

pub opened : (s : List ℕ) (at : ℕ) {w : PlacedName} {n : ℕ} → name_at s at ≡ good w n → Opened s at w n
unfolding name_at name_body
opened s at {w} {n} e = go (number_at s at) refl e
  where
    body : (len first : ℕ) (t₁ t₂ t₃ t₄ : Bool) → number_at s at ≡ good len first → ltb len 1 ≡ t₁ → ltb 128 len ≡ t₂ → ltb (length s - first) len ≡ t₃
        → printable_at len s first ≡ t₄
        → cond t₁ (bad at) (cond t₂ (bad at) (cond t₃ (bad at) (cond t₄ (good (word_at s first len) (first + len)) (bad at)))) ≡ good w n → Opened s at w n
    body len first true t₂ t₃ t₄ h p q k f e = let z : ◌≡◌ {A = ℕ} 0 1 = cc in absurd (omega arith)
    body len first false true t₃ t₄ h p q k f e = let z : ◌≡◌ {A = ℕ} 0 1 = cc in absurd (omega arith)
    body len first false false true t₄ h p q k f e = let z : ◌≡◌ {A = ℕ} 0 1 = cc in absurd (omega arith)
    body len first false false false false h p q k f e = let z : ◌≡◌ {A = ℕ} 0 1 = cc in absurd (omega arith)
    body len first false false false true h p q k f e =
        record {
          len = len;
          first = first;
          number = h;
          some = ltb-false len 1 p;
          few = ltb-false 128 len q;
          room = ltb-false
              (length s - first) len k;
          fine = f;
          word = cc;
          behind = cc;
        }

    go : (a : Ans ℕ) → number_at s at ≡ a → bind a (name_body s at) ≡ good w n → Opened s at w n
    go (good len first) h e = body len first (ltb len 1) (ltb 128 len) (ltb (length s - first) len) (printable_at len s first) h refl refl refl refl e
    go (bad p) h e = let z : ◌≡◌ {A = ℕ} 0 1 = cc in absurd (omega arith)

-- what holds of a name that was read: it is from 1 to 128 bytes long, lies within the bytes, and what follows starts right behind it
pub record Within (s : List ℕ) (at : ℕ) (w : PlacedName) (n : ℕ) : Type 0 where
  pub later : at < w.place
  pub some : 1 ≤ w.size
  pub few : w.size ≤ 128
  pub behind : n ≡ w.place + w.size
  pub inside : n ≤ length s
  pub sized : length w.text ≡ w.size

pub name_end : (s : List ℕ) (at : ℕ) {w : PlacedName} {n : ℕ} → name_at s at ≡ good w n → Within s at w n
name_end s at {w} {n} e =
    let o = opened s at e in
    let q = number_end s at o.number in
    let r = o.room in
    let e₁ : o.first ≡ w.place = ap (λ (w : PlacedName). w.place) o.word in
    let e₂ : o.len ≡ w.size = ap (λ (w : PlacedName). w.size) o.word in
    let l : length (take o.len (drop o.first s)) ≡ o.len = length-take-le o.len (drop o.first s) (rw length-drop r) in
    record {
      later = omega (arith, q, e₁);
      some = omega (arith, o.some, e₂);
      few = omega (arith, o.few, e₂);
      behind = omega (arith, o.behind, e₁, e₂);
      inside = omega (arith, o.behind, q, r, o.some);
      sized = sym (ap (λ (w : PlacedName). length w.text) o.word) ∙ l ∙ e₂;
    }

-- the same, in the terms of the code: what was answered, and where
pub record Spanned (s : List ℕ) (at first len : ℕ) : Type 0 where
  pub later : at < first
  pub some : 1 ≤ len
  pub few : len ≤ 128
  pub inside : first + len ≤ length s
  pub read : name_at s at ≡ good (word_at s first len) (first + len)

pub spanned : (s : List ℕ) (r : Result (ℕ × ℕ) ℕ) (at first len : ℕ) → r ≡ Ok (first, len) → name_seen s r ≡ name_at s at → Spanned s at first len
spanned s r at first len e f =
    let g : name_at s at ≡ good (word_at s first len) (first + len) = sym f ∙ ap (name_seen s) e in
    let w = name_end s at g in
    record { later = w.later; some = w.some; few = w.few; inside = w.inside; read = g }

-- a wrong name is wrong where it starts
body_place : (s : List ℕ) (at len first : ℕ) {p : ℕ} → name_body s at len first ≡ bad p → p ≡ at
unfolding name_body
body_place s at len first {p} e = go (ltb len 1) (ltb 128 len) (ltb (length s - first) len) (printable_at len s first) e
  where
    go : (t₁ t₂ t₃ t₄ : Bool) → cond t₁ (bad at) (cond t₂ (bad at) (cond t₃ (bad at) (cond t₄ (good (word_at s first len) (first + len)) (bad at)))) ≡ bad p
        → p ≡ at
    go true t₂ t₃ t₄ e = cc
    go false true t₃ t₄ e = cc
    go false false true t₄ e = cc
    go false false false false e = cc
    go false false false true e = cc

pub name_place : (s : List ℕ) (at : ℕ) {p : ℕ} → name_at s at ≡ bad p → p ≡ at
unfolding name_at
name_place s at {p} e = go (number_at s at) refl e
  where
    go : (a : Ans ℕ) → number_at s at ≡ a → bind a (name_body s at) ≡ bad p → p ≡ at
    go (good len first) h e = body_place s at len first e
    go (bad q) h e = let z : q ≡ p = cc in sym z ∙ number_place s at h

-- a refused name, in the terms of the code
pub missed : (s : List ℕ) (r : Result (ℕ × ℕ) ℕ) (at : ℕ) {p : ℕ} → r ≡ Err p → name_seen s r ≡ name_at s at → name_at s at ≡ bad at
missed s r at {p} e f = let g : name_at s at ≡ bad p = sym f ∙ ap (name_seen s) e in g ∙ ap bad (name_place s at g)

-- what the part `&s[first..first + len]` of a name that was read asks, and what it holds
module _ (s : List ℕ) (r : Result (ℕ × ℕ) ℕ) (at first len : ℕ) (e : r ≡ Ok (first, len)) (f : name_seen s r ≡ name_at s at) where
  pub end_fits : length s < 2 ^ 64 → Fits w64 (first + len)
  end_fits h = let w = spanned s r at first len e f in record { fits = omega arith }

  pub end_in : first + len ≤ length s
  end_in = (spanned s r at first len e f).inside

pub part_word : (s : List ℕ) (first len : ℕ) → take (first + len - first) (drop first s) ≡ (word_at s first len).text
part_word s first len = let e : first + len - first ≡ len = omega arith in rw e

-- what `==` answers at bytes
pub by_eq : {b : Bool} (xs ys : List ℕ) → b ≡ pointwise eqb xs ys → (b ≡ true → xs ≡ ys) × (xs ≡ ys → b ≡ true)
by_eq xs ys e = rw e (bytes_decides xs ys)

-- a name that was compared with t
pub compared : (s t : List ℕ) (first len : ℕ) {b : Bool} → b ≡ pointwise eqb (take (first + len - first) (drop first s)) t
    → (x : Bool) → b ≡ x → same (word_at s first len).text t ≡ x
compared s t first len k true y = same_yes _ _ (sym (part_word s first len) ∙ (by_eq _ _ k).0 y)
compared s t first len k false y = same_no _ _ (λ z. never y ((by_eq _ _ k).1 (part_word s first len ∙ z)))

-- One law for each way out of `take_name`: what was read is new where the index has no name with its bytes.
-- Assumes nothing.
use Rattle.std.specs.Prelude.{Ok, Err, Some, None, Result, Option}
use mathlib.Core.Path.{◌≡◌, refl, sym, ap, ◌∙◌}
use mathlib.Core.Bool.{Bool, true, false, cond}
use mathlib.Core.List.{List, [], ◌∷◌, ◌++◌}
use Prim.Native.Nat.{ℕ}
use native.Mathlib.Omega.{arith}
use Rattle.library_form.specs.Form.{Ans, good, bad, bind, PlacedName, word_at, name_at, name_seen}
use Rattle.library_form.proofs.Bounds.{spanned, name_place}
use Rattle.library_index.specs.Names.{memb, new_name, names_in, Room, Added, Space, Taken}
use Rattle.library_index.proofs.First.{not_among, is_among}

-- a new name is a name, and none of the words
pub new_read : (s : List ℕ) (ws : List PlacedName) (at : ℕ) {w : PlacedName} {n : ℕ} → new_name s ws at ≡ good w n
    → (name_at s at ≡ good w n) × (memb w.text ws ≡ false)
unfolding new_name
new_read s ws at {w} {n} e = go (name_at s at) refl e
  where
    new : (v : PlacedName) (m : ℕ) → name_at s at ≡ good v m → (b : Bool) → memb v.text ws ≡ b → cond b (bad at) (good v m) ≡ good w n
        → (name_at s at ≡ good w n) × (memb w.text ws ≡ false)
    new v m h true k e = let z : ◌≡◌ {A = ℕ} 0 1 = cc in absurd (omega arith)
    new v m h false k e = let x : v ≡ w = cc in (h ∙ e, rw (← x) k)

    go : (a : Ans PlacedName) → name_at s at ≡ a → bind a (λ v m. cond (memb v.text ws) (bad at) (good v m)) ≡ good w n
        → (name_at s at ≡ good w n) × (memb w.text ws ≡ false)
    go (good v m) h e = new v m h (memb v.text ws) refl e
    go (bad p) h e = let z : ◌≡◌ {A = ℕ} 0 1 = cc in absurd (omega arith)

-- a new name is wrong where it starts
pub new_place : (s : List ℕ) (ws : List PlacedName) (at : ℕ) {p : ℕ} → new_name s ws at ≡ bad p → p ≡ at
unfolding new_name
new_place s ws at {p} e = go (name_at s at) refl e
  where
    new : (w : PlacedName) (n : ℕ) (b : Bool) → cond b (bad at) (good w n) ≡ bad p → p ≡ at
    new w n true k = cc
    new w n false k = cc

    go : (a : Ans PlacedName) → name_at s at ≡ a → bind a (λ w n. cond (memb w.text ws) (bad at) (good w n)) ≡ bad p → p ≡ at
    go (good w n) h k = new w n (memb w.text ws) k
    go (bad q) h k = let z : q ≡ p = cc in sym z ∙ name_place s at h

-- a name that is wrong was not read
not_bytes : (r : Result (ℕ × ℕ) ℕ) {p first len : ℕ} {X : Type 0} → r ≡ Err p → r ≡ Ok (first, len) → X
not_bytes r e f = let z : ◌≡◌ {A = ℕ} 0 1 = cc in absurd (omega arith)

-- a name that is not there is wrong where it would start
pub no_name : (s tab : List ℕ) (n at : ℕ) {p : ℕ} → bad p ≡ name_at s at → Taken s tab n at (Err p) tab
unfolding new_name
no_name s tab n at {p} e = record {
  answer = rw (← e) refl;
  kept = refl;
  indexed = λ first len g. not_bytes (Err p) refl g;
  names = λ first len g. not_bytes (Err p) refl g;
}

module _ (s tab : List ℕ) (n at : ℕ) (r : Result (ℕ × ℕ) ℕ) where
  module _ {first len : ℕ} (e : r ≡ Ok (first, len)) (f : name_seen s r ≡ name_at s at) where
    pub room : Space s tab n → Room s tab n first len
    room g = record { indexed = g.indexed; free = g.free; small = g.small; within = (spanned s r at first len e f).inside; short = g.short }

    module _ {x : Option ℕ} {after : List ℕ} (a : Added s tab n first len x after) where
      pub repeated : {i : ℕ} → x ≡ Some i → Taken s tab n at (Err at) after
      unfolding new_name
      repeated q = record {
        answer = rw ((spanned s r at first len e f).read, is_among 0 (word_at s first len).text (names_in s tab n) (sym a.answer ∙ q));
        kept = a.kept;
        indexed = λ first len g. not_bytes (Err at) refl g;
        names = λ first len g. not_bytes (Err at) refl g;
      }

      pub fresh : x ≡ None → Taken s tab n at (Ok (first, len)) after
      unfolding new_name
      fresh q = record {
        answer = rw ((spanned s r at first len e f).read, not_among 0 (word_at s first len).text (names_in s tab n) (sym a.answer ∙ q));
        kept = a.kept;
        indexed = λ k l g. a.indexed q;
        names = λ k l g. let p : (first, len) ≡ (k, l) = cc in a.names q ∙ ap (λ (p : ℕ × ℕ). names_in s tab n ++ (word_at s p.0 p.1 ∷ [])) p;
      }

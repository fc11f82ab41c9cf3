-- A value's bytes: what the code takes of the store, and that zeros behind the stored bytes change nothing.
-- Assumes nothing.
use mathlib.Core.Path.{◌≡◌, refl, sym, ap, ◌∙◌}
use mathlib.Core.List.{List, ◌++◌}
use Prim.Native.Nat.{ℕ, ◌+◌, ◌-◌, ◌≤◌, min}
use native.Mathlib.Omega.{arith}
use native.Mathlib.Decide.{dec_le}
use lib.ListN.{length, take, drop, length-drop, drop_of_length-le}
use lib.Seq.{sets, sets-eq, take_all, take-length, drop-length, take-append-le, drop-append-le}
use Rattle.scan_rows.specs.Span.{value_in, Within}
use Rattle.scan_rows.specs.declared.Span.{Span}

-- ---- a value's bytes, from the place f, z of what is there

drop_least : (s : List ℕ) (k : ℕ) → drop (min k (length s)) s ≡ drop k s
drop_least s k =
    elim (dec_le k (length s)) [
      | yes h ↦ let e : min k (length s) ≡ k = omega arith in rw e refl
      | no h ↦ let e : min k (length s) ≡ length s = omega arith in rw e (drop-length s ∙ sym (drop_of_length-le s {i = k} (omega arith)))
    ]

take_least : (s : List ℕ) (k : ℕ) → take (min k (length s)) s ≡ take k s
take_least s k =
    elim (dec_le k (length s)) [
      | yes h ↦ let e : min k (length s) ≡ k = omega arith in rw e refl
      | no h ↦ let e : min k (length s) ≡ length s = omega arith in rw e (take-length s ∙ sym (take_all k s (omega arith)))
    ]

pub value_is : (s : List ℕ) (x : Span) {f z : ℕ} → f ≡ min x.start (length s) → z ≡ min x.size (length (take (length s - f) (drop f s)))
    → take z (take (length s - f) (drop f s)) ≡ value_in s x
unfolding value_in
value_is s x {f} {z} fe ze =
    let all : take (length s - f) (drop f s) ≡ drop x.start s
    = take_all (length s - f) (drop f s) (omega (arith, length-drop f s)) ∙ ap (λ k. drop k s) fe ∙ drop_least s x.start in
    ap (λ k. take k (take (length s - f) (drop f s))) ze ∙ ap (λ l. take (min x.size (length l)) l) all ∙ take_least (drop x.start s) x.size

-- a value among the bytes is the same with more behind them
pub value_more : (bytes zs : List ℕ) (x : Span) → Within (length bytes) x → value_in (bytes ++ zs) x ≡ value_in bytes x
unfolding value_in
value_more bytes zs x h =
    let from : drop x.start (bytes ++ zs) ≡ drop x.start bytes ++ zs = drop-append-le x.start bytes zs (omega (arith, h)) in
    ap (take x.size) from ∙ take-append-le x.size (drop x.start bytes) zs (omega (arith, h, length-drop x.start bytes))

-- and in a store that begins with them
pub value_stored : (bytes d : List ℕ) {e : List ℕ} (x : Span) → Within (length bytes) x → e ≡ sets d 0 bytes → length bytes ≤ length d
    → value_in e x ≡ value_in bytes x
value_stored bytes d x lies h room = ap (λ l. value_in l x) (h ∙ sets-eq bytes d 0 (omega arith)) ∙ value_more bytes (drop (0 + length bytes) d) x lies

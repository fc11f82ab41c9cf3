-- What a text that was read says.
-- Assumes nothing.
use mathlib.Core.Path.{◌≡◌, refl}
use mathlib.Core.List.{List}
use mathlib.Core.Bool.{Bool, true, false, cond}
use Prim.Native.Nat.{ℕ, ◌+◌, ◌-◌, ◌≤◌}
use native.Mathlib.Omega.{arith}
use lib.ListN.{length}
use lib.Dec.{ltb}
use borrow.Author.Tests.{ltb-false}
use Rattle.library_form.specs.Form.{Ans, good, bad, bind, PlacedName, number_at, name_at}
use Rattle.library_form.proofs.Bounds.{number_end, name_end}
use Rattle.library_form.proofs.WriterLaws.{name_bytes}
use Rattle.library_index.proofs.Taking.{new_read}
use Rattle.library_index.specs.Names.{memb, new_name}
use Rattle.library_bundle.specs.Bundle.{Text, text_of, body_at, filed_at}
use Rattle.library_bundle.specs.Reading.{Sized}

-- a text that was read, by its parts
pub record Parted (s : List ℕ) (ws : List PlacedName) (at : ℕ) (t : Text) (n : ℕ) : Type 0 where
  pub behind : ℕ
  pub name : name_at s at ≡ good t.word behind
  pub new : memb t.word.text ws ≡ false
  pub size : number_at s behind ≡ good t.size t.from
  pub room : t.size ≤ length s - t.from
  pub end : t.from + t.size ≡ n

pub parted : (s : List ℕ) (ws : List PlacedName) (at : ℕ) {t : Text} {n : ℕ} → filed_at s ws at ≡ good t n → Parted s ws at t n
unfolding filed_at body_at
parted s ws at {t} {n} e = go (new_name s ws at) refl e
  where
    body : (w : PlacedName) (m size from : ℕ) → new_name s ws at ≡ good w m → number_at s m ≡ good size from → (b : Bool) → ltb (length s - from) size ≡ b
        → cond b (bad m) (good (text_of w from size) (from + size)) ≡ good t n → Parted s ws at t n
    body w m size from i l true h e = let z : ◌≡◌ {A = ℕ} 0 1 = cc in absurd (omega arith)
    body w m size from i l false h e =
        let q : text_of w from size ≡ t = cc in
        let p : from + size ≡ n = cc in
        let x = new_read s ws at i in
        rw (← q) (record { behind = m; name = x.0; new = x.1; size = l; room = ltb-false (length s - from) size h; end = p })

    size : (w : PlacedName) (m : ℕ) → new_name s ws at ≡ good w m → (a : Ans ℕ) → number_at s m ≡ a → bind a (body_at s w m) ≡ good t n → Parted s ws at t n
    size w m i (good z from) h e = body w m z from i h (ltb (length s - from) z) refl e
    size w m i (bad p) h e = let z : ◌≡◌ {A = ℕ} 0 1 = cc in absurd (omega arith)

    go : (a : Ans PlacedName) → new_name s ws at ≡ a → bind a (λ w m. bind (number_at s m) (body_at s w m)) ≡ good t n → Parted s ws at t n
    go (good w m) h e = size w m h (number_at s m) refl e
    go (bad p) h e = let z : ◌≡◌ {A = ℕ} 0 1 = cc in absurd (omega arith)

pub text_sized : (s : List ℕ) (ws : List PlacedName) (at : ℕ) {t : Text} {n : ℕ} → filed_at s ws at ≡ good t n → Sized s t × (n ≤ length s)
text_sized s ws at {t} {n} e =
    let o = parted s ws at e in
    let i = name_end s at o.name in
    let l = number_end s o.behind o.size in
    let k : t.from + t.size ≤ length s = omega (arith, o.room, l.1) in (
      record { named = name_bytes s at o.name; name_in = omega (arith, i.behind, i.inside); length_of = rw (← i.behind) o.size; within = k },
      omega (arith, k, o.end),
    )

-- What a proof uses of what is past a skip: what its answer says. Nothing is refused but what the skip refuses and, in the whole-text mode, what the text's
-- end ended.
-- Assumes nothing.
use Rattle.std.specs.Prelude.{Ok, Err, Result}
use mathlib.Core.Path.{◌≡◌, refl, ap, subst}
use mathlib.Core.Bool.{Bool, true, false, cond, ◌&&◌}
use mathlib.Core.Logic.{◌⊎◌, inl, inr}
use mathlib.Core.List.{List}
use Prim.Native.Nat.{ℕ, ◌<◌, ◌≤◌}
use native.Mathlib.Omega.{arith}
use lib.ListN.{length}
use Rattle.text.specs.Refusal.{cut_at, MetHigh}
use Rattle.text.specs.declared.Cursor.{Cursor}
use Rattle.text.specs.declared.Refusal.{Refusal}
use Rattle.text.proofs.Here.{by_test}
use Rattle.text.proofs.HighLaws.{met_within}
use Rattle.text_past.specs.Past.{broke_off, past_of}
use Rattle.text_past.specs.declared.How.{How}

-- ---- what the answer says

after_by : (b : Bool) (n : ℕ) (d c : Cursor) → cond b (Err (cut_at n)) (Ok d) ≡ Ok c → d ≡ c
after_by true n d c e = cc
after_by false n d c e = cc

not_by : (b : Bool) (n : ℕ) (d : Cursor) (r : Refusal) → cond b (Err (cut_at n)) (Ok d) ≡ Err r → r ≡ cut_at n
not_by true n d r e = cc
not_by false n d r e = cc

-- past it is where the skip ended
pub past_after : (w : Bool) (n : ℕ) (k : Result (Cursor × How) Refusal) (c : Cursor) → past_of w n k ≡ Ok c → (h : How) × (k ≡ Ok (c, h))
unfolding past_of
past_after w n (Ok (d, h)) c e = (h, ap (λ x. Ok (x, h)) (after_by (w && broke_off h) n d c e))
past_after w n (Err r) c e = let z : ◌≡◌ {A = ℕ} 0 1 = cc in absurd (omega arith)

-- what is refused is 11 at the text's end, or a byte of 128 or more
abbrev pub SkipRefused : List ℕ → Refusal → Type 0
SkipRefused s r = (r ≡ cut_at (length s)) ⊎ MetHigh s r

-- own: what the skip itself refuses
pub past_not : (w : Bool) (s : List ℕ) (k : Result (Cursor × How) Refusal) (r : Refusal) → ((q : Refusal) → k ≡ Err q → MetHigh s q) → past_of w (length s) k ≡ Err r
    → SkipRefused s r
unfolding past_of
past_not w s (Ok (d, h)) r own e = inl (not_by (w && broke_off h) (length s) d r e)
past_not w s (Err q) r own e = let z : q ≡ r = cc in inr (subst (MetHigh s) z (own q refl))

-- it stands within the text, and has a number
pub refused_within : (s : List ℕ) (r : Refusal) → SkipRefused s r → r.at ≤ length s
refused_within s r (inl e) = omega (arith, ap (λ q. q.at) e)
refused_within s r (inr m) = omega (arith, met_within s r m)

pub refused_number : (s : List ℕ) (r : Refusal) → SkipRefused s r → 0 < r.number
refused_number s r (inl e) = omega (arith, ap (λ q. q.number) e)
refused_number s r (inr m) = omega (arith, ap (λ q. q.number) m.0)

-- ---- the whole-text mode beside the old one

-- x and y, past one skip in both modes: the same, or 11 where the text's end, n, ended it
abbrev pub SameOrCut : ℕ → Result Cursor Refusal → Result Cursor Refusal → Type 0
SameOrCut n x y = (x ≡ y) ⊎ ((x ≡ Err (cut_at n)) × (c : Cursor) × (y ≡ Ok c) × (c.at ≡ n))

-- end: one that broke off is at the text's end
pub past_modes : (n : ℕ) (k : Result (Cursor × How) Refusal) → ((c : Cursor) (h : How) → k ≡ Ok (c, h) → broke_off h ≡ true → c.at ≡ n)
    → SameOrCut n (past_of true n k) (past_of false n k)
unfolding past_of
past_modes n (Ok (c, h)) end = by_test (broke_off h) (λ t. inr (rw t refl, c, refl, end c h refl t)) (λ t. inl (rw t refl))
past_modes n (Err r) end = inl refl

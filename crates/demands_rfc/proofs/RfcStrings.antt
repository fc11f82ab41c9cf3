-- One quoted string: where the RFC's has a meaning and no line break in double quotes, ours closes at the same place with the same bytes.
-- Both go over the same bytes with the same mark for an escape, and the four escapes give what ours give.
-- Assumes nothing.
use Rattle.std.specs.Prelude.{Some}
use mathlib.Core.Path.{◌≡◌, refl, sym, ap, ◌∙◌}
use mathlib.Core.Bool.{Bool, true, false}
use mathlib.Core.List.{List, [], ◌∷◌, ◌++◌}
use mathlib.Core.Option.{Option, none, some}
use Prim.Native.Nat.{ℕ, ◌+◌}
use native.Mathlib.Omega.{arith}
use lib.ListN.{get_or, drop}
use lib.Dec.{eqb}
use borrow.Author.Tests.{eqb-true}
use Rattle.text.proofs.Here.{by_test}
use Rattle.text_string.specs.Str.{is_quote, escaped, escapes, str_end, str_bytes, whole, closed_by, str_at}
use Rattle.demands_rfc.specs.Rfc.{Read, reads, nothing, with, Piece, double, single, single_body, double_body, column_of, string_at, escape, joining}
use Rattle.demands_rfc.specs.Rfc.{unescaped, meaning}
use Rattle.demands_rfc.specs.RfcDomain.{plain}
use Rattle.demands_rfc.proofs.RfcTrim.{trimmed_same}

-- ---- what an answer says

module _ {A : Type 0} where
  pub nothing_read : {r : Read A} {a : A} {e : ℕ} → r ≡ nothing → r ≡ reads a e → ⊥
  nothing_read f g = let z : ◌≡◌ {A = ℕ} 0 1 = cc in omega arith

  pub read_is : {r : Read A} (a b : A) (e f : ℕ) → r ≡ reads a e → r ≡ reads b f → (a ≡ b) × (e ≡ f)
  read_is a b e f h k = (cc, cc)

module _ {A B : Type 0} where
  pub with_reads : (f : A → B) (r : Read A) (b : B) (e : ℕ) → with f r ≡ reads b e → (a : A) × (r ≡ reads a e) × (f a ≡ b)
  unfolding with
  with_reads f (reads a m) b e h = (a, cc, cc)
  with_reads f nothing b e h = absurd (nothing_read refl h)

module _ {A : Type 0} where
  pub none_some : {o : Option A} {a : A} → o ≡ none → o ≡ some a → ⊥
  none_some f g = let z : ◌≡◌ {A = ℕ} 0 1 = cc in omega arith

  pub some_is : {o : Option A} (a b : A) → o ≡ some a → o ≡ some b → a ≡ b
  some_is a b h k = cc

pub joining_some : (x y : Option (List ℕ)) (bs : List ℕ) → joining x y ≡ some bs
    → (cs : List ℕ) × (ds : List ℕ) × (x ≡ some cs) × (y ≡ some ds) × (bs ≡ cs ++ ds)
unfolding joining
joining_some none y bs h = absurd (none_some refl h)
joining_some (some cs) none bs h = absurd (none_some refl h)
joining_some (some cs) (some ds) bs h = (cs, ds, refl, refl, some_is bs (cs ++ ds) h refl)

-- ---- escapes

-- a legal escape gives the byte that ours gives
escape_same : (b : ℕ) (cs : List ℕ) → escape b ≡ some cs → cs ≡ escaped b ∷ []
unfolding escape escaped
escape_same b cs h =
    by_test (eqb b 110)
    (λ n. let k = rw n at h in rw n (some_is cs (10 ∷ []) k refl))
    (λ n. let k = rw n at h in
    by_test (eqb b 116)
    (λ t. let l = rw t at k in rw n (rw t (some_is cs (9 ∷ []) l refl)))
    (λ t. let l = rw t at k in
    by_test (eqb b 34)
    (λ q. let m = rw q at l in rw n (rw t (some_is cs (34 ∷ []) m refl ∙ ap (◌∷ []) (sym (eqb-true b 34 q)))))
    (λ q. let m = rw q at l in
    by_test (eqb b 92)
    (λ s. let o = rw s at m in rw n (rw t (some_is cs (92 ∷ []) o refl ∙ ap (◌∷ []) (sym (eqb-true b 92 s)))))
    (λ s. absurd (none_some refl (rw s at m))))))

-- ---- double quotes

pub at_escape : (b : ℕ) (xs : List ℕ) → eqb b 92 ≡ true → unescaped false (b ∷ xs) ≡ unescaped true xs
unfolding unescaped
at_escape b xs h = rw h

pub at_byte : (b : ℕ) (xs : List ℕ) → eqb b 92 ≡ false → unescaped false (b ∷ xs) ≡ joining (some (b ∷ [])) (unescaped false xs)
unfolding unescaped
at_byte b xs h = rw h

put_byte : {c : ℕ} {bs cs ds ys : List ℕ} → cs ≡ c ∷ [] → bs ≡ cs ++ ds → ys ≡ ds → c ∷ ys ≡ bs
put_byte {c} {bs} {cs} {ds} e f g = ap (c ∷◌) g ∙ ap (◌++ ds) (sym e) ∙ sym f

-- our string whose bytes xs start at a place closes at a place with these bytes
abbrev Same : ℕ → Bool → List ℕ → ℕ → ℕ → List ℕ → Type 0
Same q e xs at end bs = (str_end q e xs at ≡ Some end) × (str_bytes q e xs ≡ bs)

double_same : (e : Bool) (xs : List ℕ) (at : ℕ) (raw : List ℕ) (end : ℕ) (bs : List ℕ)
    → double_body e xs at ≡ reads raw end → unescaped e raw ≡ some bs → Same 34 e xs at end bs
unfolding double_body unescaped str_end str_bytes escapes
double_same e [] at raw end bs h k = absurd (nothing_read refl h)
double_same true (b ∷ xs) at raw end bs h k =
    let w = with_reads (b ∷◌) (double_body false xs (at + 1)) raw end h in
    let j = joining_some (escape b) (unescaped false w.0) bs (ap (unescaped true) w.2 ∙ k) in
    let m = double_same false xs (at + 1) w.0 end j.1 w.1 j.3 in
    let c = escape_same b j.0 j.2 in
    (m.0, put_byte c j.4 m.1)
double_same false (b ∷ xs) at raw end bs h k =
    by_test (eqb b 34)
    (λ q. let r = read_is [] raw (at + 1) end refl (rw q at h) in
    rw q (ap Some r.1, some_is [] bs refl (ap (unescaped false) r.0 ∙ k)))
    (λ q. let n = rw q at h in
    by_test (eqb b 92)
    (λ s. let w = with_reads (b ∷◌) (double_body true xs (at + 1)) raw end (rw s at n) in
    let m = double_same true xs (at + 1) w.0 end bs w.1 (sym (at_escape b w.0 s) ∙ ap (unescaped false) w.2 ∙ k) in
    rw q (rw s m))
    (λ s. let w = with_reads (b ∷◌) (double_body false xs (at + 1)) raw end (rw s at n) in
    let j = joining_some (some (b ∷ [])) (unescaped false w.0) bs (sym (at_byte b w.0 s) ∙ ap (unescaped false) w.2 ∙ k) in
    let m = double_same false xs (at + 1) w.0 end j.1 w.1 j.3 in
    rw q (rw s (m.0, put_byte {cs = j.0} {ds = j.1} (some_is j.0 (b ∷ []) j.2 refl) j.4 m.1))))

-- ---- single quotes

single_same : (xs : List ℕ) (at : ℕ) (raw : List ℕ) (end : ℕ) → single_body xs at ≡ reads raw end → Same 39 false xs at end raw
unfolding single_body str_end str_bytes escapes
single_same [] at raw end h = absurd (nothing_read refl h)
single_same (b ∷ xs) at raw end h =
    by_test (eqb b 39)
    (λ q. let r = read_is [] raw (at + 1) end refl (rw q at h) in rw q (ap Some r.1, r.0))
    (λ q. let w = with_reads (b ∷◌) (single_body xs (at + 1)) raw end (rw q at h) in
    let m = single_same xs (at + 1) w.0 end w.1 in
    rw q (m.0, ap (b ∷◌) m.1 ∙ w.2))

-- ---- a string

closed_same : (s : List ℕ) (at q : ℕ) (end : ℕ) (bs : List ℕ) → get_or s at 256 ≡ q → Same q false (drop (at + 1) s) (at + 1) end bs → str_at s at ≡ whole bs end
unfolding str_at closed_by
closed_same s at q end bs e m = rw e (rw (m.0, m.1))

-- the string at a place: a quote stands there, and ours gives what the RFC's means
pub string_same : (s : List ℕ) (at : ℕ) (p : Piece) (end : ℕ) (bs : List ℕ) → string_at s at ≡ reads p end → plain p ≡ true → meaning p ≡ some bs
    → (is_quote (get_or s at 256) ≡ true) × (str_at s at ≡ whole bs end)
unfolding string_at meaning is_quote plain
string_same s at p end bs h l k =
    by_test (eqb (get_or s at 256) 34)
    (λ q. let w = with_reads (double (column_of s at)) (double_body false (drop (at + 1) s) (at + 1)) p end (rw q at h) in
    let o = ap plain w.2 ∙ l in
    let u = rw (trimmed_same (column_of s at) w.0 o) at (ap meaning w.2 ∙ k) in
    (rw q, closed_same s at 34 end bs (eqb-true _ _ q) (double_same false (drop (at + 1) s) (at + 1) w.0 end bs w.1 u)))
    (λ q. by_test (eqb (get_or s at 256) 39)
    (λ a. let w = with_reads single (single_body (drop (at + 1) s) (at + 1)) p end (rw a at (rw q at h)) in
    let u = some_is w.0 bs refl (ap meaning w.2 ∙ k) in
    (rw q (rw a), closed_same s at 39 end bs (eqb-true _ _ a) (rw u at (single_same (drop (at + 1) s) (at + 1) w.0 end w.1))))
    (λ a. absurd (nothing_read refl (rw a at (rw q at h)))))

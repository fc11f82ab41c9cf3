-- The chain of a bucket, followed from its head, meets every name that could be the one sought.
-- Assumes nothing.
use Rattle.std.specs.Prelude.{Some, None, Option}
use mathlib.Core.Path.{◌≡◌, refl, sym, ap, ap₂, ◌∙◌}
use mathlib.Core.List.{List, [], ◌∷◌, ◌++◌}
use mathlib.Core.Bool.{Bool, true, false, cond}
use Prim.Native.Nat.{ℕ, zero, suc, ◌+◌, ◌-◌, ◌*◌, ◌%◌, ◌^◌, ◌≤◌, ◌<◌}
use native.Mathlib.Omega.{arith}
use native.Mathlib.Nat.{mod-lt}
use native.Mathlib.Numerals.{sub-one, add-one}
use lib.ListN.{length, get_or, take, drop, length-append}
use lib.Seq.{drop-cons, drop-length}
use lib.Dec.{eqb}
use mir.Syntax.{w64}
use mir.Val.{Fits}
use borrow.Author.Tests.{eqb-true, eqb-false}
use Rattle.library_form.specs.Form.{PlacedName}
use Rattle.library_form.proofs.Bounds.{part_word}
use Rattle.text.specs.Keyword.{same}
use Rattle.text.proofs.KeywordLaws.{same_yes, same_no}
use Rattle.text.proofs.Here.{never}
use Rattle.library_index.specs.Names.{first_from, first_of, name_in_row, names_in, hash_from, hash_of, top_in, Sought}

-- ---- the bucket of a name

module _ (t : List ℕ) where
  pub record Hashing (h i : ℕ) : Type 0 where
    pub same : hash_from h (drop i t) ≡ hash_of t
    pub low : h < 2048
    pub within : i ≤ length t

  pub hash_begun : Hashing 0 0
  hash_begun = record { same = refl; low = omega arith; within = omega arith }

  pub hash_more : (h i b : ℕ) → Hashing h i → b ≡ get_or t i 0 → i < length t → Hashing ((h * 131 + b) % 2048) (i + 1)
  unfolding hash_from
  hash_more h i b g e l = record {
    same = rw (add-one, e) (sym (ap (hash_from h) (drop-cons t i 0 l)) ∙ g.same);
    low = mod-lt (h * 131 + b) (omega arith);
    within = omega arith;
  }

  pub hash_done : (h i : ℕ) → Hashing h i → length t ≤ i → h ≡ hash_of t
  unfolding hash_from
  hash_done h i g k = let e : i ≡ length t = omega (arith, g.within) in rw (e, drop-length t) at g.same

-- ---- the plain search, one word more

-- the first where it is a hit, or the second
abbrev or_else : Option ℕ → Option ℕ → Option ℕ
or_else (Some i) k = Some i
or_else None k = k

first_snoc : (i : ℕ) (t : List ℕ) (ws : List PlacedName) (w : PlacedName)
    → first_from i t (ws ++ (w ∷ [])) ≡ or_else (first_from i t ws) (cond (same w.text t) (Some (i + length ws)) None)
unfolding first_from
first_snoc i t [] w = let e : i + 0 ≡ i = omega arith in rw e
first_snoc i t (v ∷ ws) w = go (same v.text t) (first_snoc (suc i) t ws w)
  where
    go : (b : Bool)
        → first_from (suc i) t (ws ++ (w ∷ [])) ≡ or_else (first_from (suc i) t ws) (cond (same w.text t) (Some (suc i + length ws)) None)
        → cond b (Some i) (first_from (suc i) t (ws ++ (w ∷ [])))
        ≡ or_else (cond b (Some i) (first_from (suc i) t ws)) (cond (same w.text t) (Some (i + suc (length ws))) None)
    go true ih = refl
    go false ih = let e : suc i + length ws ≡ i + suc (length ws) = omega arith in ih ∙ rw e

module _ (s tab : List ℕ) where
  pub length_names : (n : ℕ) → length (names_in s tab n) ≡ n
  unfolding names_in
  length_names zero = refl
  length_names (suc n) = rw (length-append, length_names n) (omega arith)

  -- ---- the chains

  top_low : (h n : ℕ) → top_in s tab h n ≤ n
  unfolding top_in
  top_low h zero = omega arith
  top_low h (suc n) = go (eqb (hash_of (name_in_row s tab n).text) h) (top_low h n)
    where
      go : (b : Bool) → top_in s tab h n ≤ n → cond b (suc n) (top_in s tab h n) ≤ suc n
      go true l = omega arith
      go false l = omega arith

  -- a chain's first name is in the chain's bucket
  top_own : (h n : ℕ) → 0 < top_in s tab h n → hash_of (name_in_row s tab (top_in s tab h n - 1)).text ≡ h
  unfolding top_in
  top_own h zero l = absurd (omega arith)
  top_own h (suc n) l = go (eqb (hash_of (name_in_row s tab n).text) h) refl (top_own h n) l
    where
      go : (b : Bool) → eqb (hash_of (name_in_row s tab n).text) h ≡ b → (0 < top_in s tab h n → hash_of (name_in_row s tab (top_in s tab h n - 1)).text ≡ h)
          → 0 < cond b (suc n) (top_in s tab h n) → hash_of (name_in_row s tab (cond b (suc n) (top_in s tab h n) - 1)).text ≡ h
      go true e ih l = rw sub-one (eqb-true _ _ e)
      go false e ih l = ih l

  module _ (t : List ℕ) where
    -- the search among the first n names
    abbrev Among : ℕ → Option ℕ
    Among n = first_of t (names_in s tab n)

    one_more : (n : ℕ) → Among (suc n) ≡ or_else (Among n) (cond (same (name_in_row s tab n).text t) (Some n) None)
    unfolding names_in
    one_more n =
        let e : 0 + length (names_in s tab n) ≡ n = rw (length_names n) (omega arith) in
        first_snoc 0 t (names_in s tab n) (name_in_row s tab n) ∙ rw e

    or_nothing : (r : Option ℕ) → or_else r None ≡ r
    or_nothing (Some i) = refl
    or_nothing None = refl

    passed : (n : ℕ) → same (name_in_row s tab n).text t ≡ false → Among (suc n) ≡ Among n
    passed n e = one_more n ∙ rw e (or_nothing (Among n))

    -- a name in another bucket is another name
    other_bucket : (w : List ℕ) → (hash_of w ≡ hash_of t → ⊥) → same w t ≡ false
    other_bucket w d = same_no w t (λ e. d (ap hash_of e))

    -- so all names behind the chain's first can be left out
    skip : (n : ℕ) → Among n ≡ Among (top_in s tab (hash_of t) n)
    unfolding top_in
    skip zero = refl
    skip (suc n) = go (eqb (hash_of (name_in_row s tab n).text) (hash_of t)) refl (skip n)
      where
        go : (b : Bool) → eqb (hash_of (name_in_row s tab n).text) (hash_of t) ≡ b → Among n ≡ Among (top_in s tab (hash_of t) n)
            → Among (suc n) ≡ Among (cond b (suc n) (top_in s tab (hash_of t) n))
        go true e ih = refl
        go false e ih = passed n (other_bucket (name_in_row s tab n).text (eqb-false _ _ e)) ∙ ih

    -- what the walk of a chain keeps: j is one more than the number of the name that it is at, or 0 at the end
    pub record Chained (n j : ℕ) : Type 0 where
      pub same : Among n ≡ Among j
      pub low : j ≤ n
      pub own : 0 < j → hash_of (name_in_row s tab (j - 1)).text ≡ hash_of t

    module _ (n h : ℕ) (a : Sought s tab n h t) where
      pub chain_begun : (j : ℕ) → j ≡ get_or tab h 0 → Chained n j
      chain_begun j q =
          let e : j ≡ top_in s tab (hash_of t) n = q ∙ a.indexed.heads h a.low ∙ ap (λ (h : ℕ). top_in s tab h n) a.bucket in
          record { same = rw e (skip n); low = rw e (top_low (hash_of t) n); own = rw e (top_own (hash_of t) n) }

      module _ (j : ℕ) (g : Chained n j) where
        pub chain_done : j ≤ 0 → None ≡ Among n
        unfolding names_in first_from
        chain_done l = let e : j ≡ 0 = omega arith in sym (g.same ∙ rw e)

        -- place and len are what the table says of the name, next is its link
        module _ {place len : ℕ} (p : place ≡ get_or tab (2048 + (j - 1) * 3) 0) (z : len ≡ get_or tab (2048 + (j - 1) * 3 + 1) 0) (l : 0 < j) where
          pub name_in : place + len ≤ length s
          name_in = rw (p, z) (a.indexed.inside (j - 1) (omega (arith, g.low)))

          pub name_fits : length s < 2 ^ 64 → Fits w64 (place + len)
          name_fits f = record { fits = omega (arith, name_in) }

          here : j ≡ suc (j - 1)
          here = omega arith

          linked : {next : ℕ} → next ≡ get_or tab (2048 + (j - 1) * 3 + 2) 0 → next ≡ top_in s tab (hash_of t) (j - 1)
          linked q = q ∙ a.indexed.links (j - 1) (omega (arith, g.low)) ∙ ap (λ (h : ℕ). top_in s tab h (j - 1)) (g.own l)

          pub chain_falls : {next : ℕ} → next ≡ get_or tab (2048 + (j - 1) * 3 + 2) 0 → next < j
          chain_falls q = rw (linked q) (omega (arith, top_low (hash_of t) (j - 1)))

          -- what is compared
          abbrev Part : List ℕ
          Part = take (place + len - place) (drop place s)

          part : Part ≡ (name_in_row s tab (j - 1)).text
          part = part_word s place len ∙ ap₂ (λ (p z : ℕ). take z (drop p s)) p z

          -- b is what the comparison answers
          module _ {b : Bool} (k : (b ≡ true → Part ≡ t) × (Part ≡ t → b ≡ true)) where
            pub chain_hit : b ≡ true → Some (j - 1) ≡ Among n
            chain_hit y =
                let e : (name_in_row s tab (j - 1)).text ≡ t = sym part ∙ k.0 y in
                let d : Among (j - 1) ≡ None = rw (← e) (a.indexed.differ (j - 1) (omega (arith, g.low))) in
                sym (g.same ∙ ap Among here ∙ one_more (j - 1) ∙ rw (d, same_yes (name_in_row s tab (j - 1)).text t e))

            other : b ≡ false → same (name_in_row s tab (j - 1)).text t ≡ false
            other y = same_no (name_in_row s tab (j - 1)).text t (λ e. never y (k.1 (part ∙ e)))

            pub chain_on : {next : ℕ} → next ≡ get_or tab (2048 + (j - 1) * 3 + 2) 0 → b ≡ false → Chained n next
            chain_on q y = record {
              same = g.same ∙ ap Among here ∙ passed (j - 1) (other y) ∙ skip (j - 1) ∙ ap Among (sym (linked q));
              low = rw (linked q) (omega (arith, top_low (hash_of t) (j - 1), g.low));
              own = rw (linked q) (top_own (hash_of t) (j - 1));
            }

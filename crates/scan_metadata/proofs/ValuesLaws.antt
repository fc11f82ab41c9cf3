-- The six values of the code are those of what was read: a value's place in the array is its field's, the first revision is present exactly if one
-- was read, and a value that comes newer is the newest.
-- Assumes nothing.
use mathlib.Core.Path.{◌≡◌, refl, sym, ap, ◌∙◌}
use mathlib.Core.Bool.{Bool, true, false, cond}
use mathlib.Core.List.{List, [], ◌∷◌, ◌++◌}
use Prim.Native.Nat.{ℕ}
use lib.Dec.{eqb}
use lib.ListN.{length, get_or}
use Rattle.text.proofs.Here.{by_test}
use Rattle.scan_rows.specs.Rows.{Each}
use Rattle.scan_rows.specs.Span.{missing, value_in}
use Rattle.scan_rows.specs.declared.Span.{Span}
use Rattle.scan_newest.specs.Newest.{Revision, Read, newest, comes_newer}
use Rattle.scan_newest.proofs.ComesLaws.{newest_comes}
use Rattle.scan_newest.proofs.NewestLaws.{newest_snoc}
use Rattle.scan_metadata.specs.Metadata.{Metadata, told, first_of, values_of, ended, answer_of, stored_of}
use Rattle.scan_metadata.specs.Values.{value_of, first_kept, newest_kept, kept_in, ended_with}

-- ---- where a value stands

module _ (m : Metadata) where
  pub values_prefix : get_or (values_of m) 2 missing ≡ m.prefix
  unfolding values_of
  values_prefix = refl

  pub values_six : length (values_of m) ≡ 6
  unfolding values_of
  values_six = refl

-- ---- one more value

-- the first revision stays
first_kept_lem : (a b c p n x : Span) (bs : List ℕ) (rs : List Revision) → Each Read rs
    → first_kept (a ∷ b ∷ c ∷ first_of rs ∷ p ∷ n ∷ []) x ≡ a ∷ b ∷ c ∷ first_of (rs ++ record { span = x; value = bs } ∷ []) ∷ p ∷ n ∷ []
unfolding first_kept first_of Each
first_kept_lem a b c p n x bs [] h = refl
first_kept_lem a b c p n x bs (r ∷ rs) h = rw h.0 refl

-- a newer one takes the newest's place
newest_kept_lem : (store : List ℕ) (a b c f p n x : Span)
    → newest_kept store (a ∷ b ∷ c ∷ f ∷ p ∷ n ∷ []) x ≡ a ∷ b ∷ c ∷ f ∷ p ∷ cond (comes_newer store n x) x n ∷ []
unfolding newest_kept
newest_kept_lem store a b c f p n x = either (comes_newer store n x)
  where
    either : (t : Bool) → cond t (a ∷ b ∷ c ∷ f ∷ p ∷ x ∷ []) (a ∷ b ∷ c ∷ f ∷ p ∷ n ∷ []) ≡ a ∷ b ∷ c ∷ f ∷ p ∷ cond t x n ∷ []
    either true = refl
    either false = refl

revision_kept : (store : List ℕ) (a b c p x : Span) (bs : List ℕ) (rs : List Revision) → Each Read rs
    → value_in store x ≡ bs → value_in store (newest rs).span ≡ (newest rs).value
    → newest_kept store (first_kept (a ∷ b ∷ c ∷ first_of rs ∷ p ∷ (newest rs).span ∷ []) x) x
    ≡ a ∷ b ∷ c ∷ first_of (rs ++ record { span = x; value = bs } ∷ []) ∷ p ∷ (newest (rs ++ record { span = x; value = bs } ∷ [])).span ∷ []
revision_kept store a b c p x bs rs h xe ne =
    let f = first_of (rs ++ record { span = x; value = bs } ∷ []) in
    ap (λ vs. newest_kept store vs x) (first_kept_lem a b c p (newest rs).span x bs rs h)
    ∙ newest_kept_lem store a b c f p (newest rs).span x
    ∙ ap (λ n. a ∷ b ∷ c ∷ f ∷ p ∷ n ∷ []) (sym (ap (λ r. r.span) (newest_snoc rs (record { span = x; value = bs })) ∙ newest_comes store (newest rs) x ne xe))

module _ (store : List ℕ) (m : Metadata) (k : ℕ) (x : Span) (bs : List ℕ) where
  told_revision : eqb k 7 ≡ true → Each Read m.revisions → value_in store x ≡ bs → value_in store (newest m.revisions).span ≡ (newest m.revisions).value
      → kept_in store (values_of m) k x ≡ values_of (told m k x bs)
  unfolding kept_in values_of told
  told_revision t h xe ne = rw t (revision_kept store m.name m.namespace m.prefix m.parent x bs m.revisions h xe ne)

  told_other : eqb k 7 ≡ false → kept_in store (values_of m) k x ≡ values_of (told m k x bs)
  unfolding kept_in values_of told value_of
  told_other t =
      by_test (eqb k 3) (λ p. rw (t, p) refl)
      (λ p. by_test (eqb k 4) (λ q. rw (t, p, q) refl)
      (λ q. by_test (eqb k 5) (λ u. rw (t, p, q, u) refl) (λ u. rw (t, p, q, u) refl)))

  -- what the code keeps is what was told; the store has the bytes of the value and of the newest
  pub kept_told : Each Read m.revisions → value_in store x ≡ bs → value_in store (newest m.revisions).span ≡ (newest m.revisions).value
      → kept_in store (values_of m) k x ≡ values_of (told m k x bs)
  kept_told h xe ne = by_test (eqb k 7) (λ t. told_revision t h xe ne) told_other

-- the bytes told, one behind the other
pub told_bytes : (m : Metadata) (k : ℕ) (x : Span) (bs : List ℕ) → (told m k x bs).bytes ≡ m.bytes ++ bs
unfolding told
told_bytes m k x bs =
    by_test (eqb k 7) (λ t. rw t refl)
    (λ t. by_test (eqb k 3) (λ p. rw (t, p) refl)
    (λ p. by_test (eqb k 4) (λ q. rw (t, p, q) refl)
    (λ q. by_test (eqb k 5) (λ u. rw (t, p, q, u) refl) (λ u. rw (t, p, q, u) refl))))

-- ---- the end

module _ (m : Metadata) (at : ℕ) where
  pub ended_is : ended_with (values_of m) (length m.bytes) at ≡ answer_of (ended m at)
  unfolding ended_with answer_of ended values_of
  ended_is = by_test m.name.present (λ t. rw t refl) (λ f. rw f refl)

  pub stored_is : stored_of (ended m at) ≡ m.bytes
  unfolding stored_of ended
  stored_is = by_test m.name.present (λ t. rw t refl) (λ f. rw f refl)

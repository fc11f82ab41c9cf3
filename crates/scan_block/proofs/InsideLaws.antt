-- What a proof uses of one statement of a block: which one it is, and what reading or skipping it answers. Each law takes what the calls on
-- the way answered.
-- Assumes nothing.
use Rattle.std.specs.Prelude.{Some, None, Ok, Err, Option, Result}
use mathlib.Core.Path.{◌≡◌, refl, sym, ap, ◌∙◌}
use mathlib.Core.Bool.{Bool, false}
use mathlib.Core.List.{List}
use Prim.Native.Nat.{ℕ, ◌+◌, ◌-◌, ◌<◌, ◌≤◌}
use native.Mathlib.Omega.{arith}
use lib.ListN.{length, get_or}
use lib.Seq.{sets}
use lib.Dec.{eqb}
use borrow.Author.Tests.{eq-eqb, ne_eqb}
use Rattle.text.specs.Bytes.{look}
use Rattle.text.specs.Keyword.{starts_ident}
use Rattle.text.specs.Scan.{gap_end}
use Rattle.text.specs.Words.{prefix_word, revision_date_word}
use Rattle.text.specs.declared.Cursor.{Cursor}
use Rattle.text.specs.declared.Refusal.{Refusal}
use Rattle.text.proofs.Here.{by_test}
use Rattle.text.proofs.KeywordLaws.{match_none}
use Rattle.text_value.specs.Argument.{line_at}
use Rattle.text_value.specs.Value.{value_at, value_bytes}
use Rattle.text_value.proofs.ArgumentLaws.{line_far, line_room}
use Rattle.text_statement.specs.Statement.{past_statement}
use Rattle.scan_rows.specs.Span.{held}
use Rattle.scan_rows.specs.declared.Span.{Span}
use Rattle.scan_block.specs.Left.{Left, nothing}
use Rattle.scan_block.specs.Block.{or_line, line_kind, kept, with_value, with_skipped, moved, after_kind, inside_here, inside_at}
use Rattle.scan_block.specs.declared.Body.{Body}
use Rattle.scan_block.specs.declared.Inside.{Inside}
use Rattle.scan_block.specs.declared.Inside.TheVariants.{On, Closed}

-- ---- what is answered, and what is left in the store: it was d and is e, from the place u on

module _ {A : Type 0} where
  abbrev pub Leaves : Left A → List ℕ → ℕ → A → List ℕ → Type 0
  Leaves x d u r e = (r ≡ x.answer) × (e ≡ sets d u x.bytes)

  pub leaves : {x y : Left A} → x ≡ y → (d : List ℕ) (u : ℕ) {r : A} {e : List ℕ} → Leaves y d u r e → Leaves x d u r e
  leaves p d u l = (l.0 ∙ ap (λ z. z.answer) (sym p), l.1 ∙ ap (λ z. sets d u z.bytes) (sym p))

-- ---- which statement it is

-- where no identifier begins, no keyword matches
pub kind_none : (s : List ℕ) (at k : ℕ) {b : ℕ} {t : Bool} → b ≡ look s at → t ≡ starts_ident b → t ≡ false → None ≡ line_kind s at k
unfolding line_kind or_line
kind_none s at k be te f =
    rw (match_none s at prefix_word be te f, match_none s at revision_date_word be te f)
    (by_test (eqb k 8) (λ t. rw t refl) (λ t. rw t refl))

-- ---- a value read

pub line_grows : (w : Bool) (s : List ℕ) (at u k b : ℕ) (c : Cursor) (n : ℕ) → b < 256 → {l : Result (Cursor × ℕ) Refusal} → l ≡ line_at w s at u k b → l ≡ Ok (c, n) → u ≤ n
line_grows w s at u k b c n small e h = omega (arith, line_far w s at u k b c n small (sym e ∙ h))

-- room in the store for the rest of the text stays
pub room_left : (w : Bool) (s : List ℕ) (at u k b m : ℕ) (c : Cursor) (n : ℕ) → b < 256 → {l : Result (Cursor × ℕ) Refusal} → l ≡ line_at w s at u k b → l ≡ Ok (c, n)
    → u + (length s - at) ≤ m → n + (length s - c.at) ≤ m
room_left w s at u k b m c n small e h r = line_room w s at u k b m c n small (sym e ∙ h) r

-- l: the line of the keyword j
module _ (w : Bool) (s : List ℕ) (at : ℕ) (b : Body) (j : ℕ) {l : Result (Cursor × ℕ) Refusal} (e : l ≡ line_at w s at b.used j 59) where
  pub value_refused : (r : Refusal) → l ≡ Err r → Err r ≡ with_value b j (line_at w s at b.used j 59)
  unfolding with_value
  value_refused r h = sym (ap (with_value b j) (sym e ∙ h))

  pub value_read : (c : Cursor) (n : ℕ) → l ≡ Ok (c, n) → {x : Span} → x ≡ held b.used (n - b.used) → {y : Body} → y ≡ kept b j c.at n x
      → Ok (On y) ≡ with_value b j (line_at w s at b.used j 59)
  unfolding with_value
  value_read c n h p q = ap (λ y. Ok (On y)) (q ∙ ap (kept b j c.at n) p) ∙ sym (ap (with_value b j) (sym e ∙ h))

-- ---- a statement, or the end of the block

-- g after the gap, p what stands there
module _ (w : Bool) (s : List ℕ) (k : ℕ) (b : Body) {g p : ℕ} (ge : g ≡ gap_end s b.at) (pe : p ≡ get_or s g 256) where
  pub inside_end : p ≡ 256 → inside_at w s k b ≡ nothing (Err (record { number = 8; keyword = k; at = g }))
  unfolding inside_at inside_here
  inside_end h = rw (← ge) (rw (eq-eqb (get_or s g 256) 256 (sym pe ∙ h)) refl)

  module _ (n : p ≡ 256 → ⊥) where
    pub inside_close : p ≡ 125 → inside_at w s k b ≡ nothing (Ok (Closed (moved b (g + 1))))
    unfolding inside_at inside_here
    inside_close h = rw (← ge) (rw (ne_eqb (get_or s g 256) 256 (λ z. n (pe ∙ z))) (rw (eq-eqb (get_or s g 256) 125 (sym pe ∙ h)) refl))

    module _ (m : p ≡ 125 → ⊥) {l : Option (ℕ × Cursor)} (le : l ≡ line_kind s g k) where
      pub inside_kind : inside_at w s k b ≡ after_kind w s g b l
      unfolding inside_at inside_here
      inside_kind =
          rw (← ge) (rw (ne_eqb (get_or s g 256) 256 (λ z. n (pe ∙ z))) (rw (ne_eqb (get_or s g 256) 125 (λ z. m (pe ∙ z))) (rw (← le) refl)))

      pub inside_value : (j : ℕ) (c : Cursor) → l ≡ Some (j, c)
          → inside_at w s k b ≡ record { answer = with_value b j (line_at w s c.at b.used j 59); bytes = value_bytes (value_at s c.at) }
      unfolding after_kind
      inside_value j c h = inside_kind ∙ ap (after_kind w s g b) h

      pub inside_other : l ≡ None → {r : Result Inside Refusal} → r ≡ with_skipped b (past_statement w s g) → inside_at w s k b ≡ nothing r
      unfolding after_kind
      inside_other h q = inside_kind ∙ ap (after_kind w s g b) h ∙ sym (ap nothing q)

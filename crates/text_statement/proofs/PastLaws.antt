-- What a proof uses of what is past a statement: nothing is refused but a byte of 128 or more and, in the whole-text mode, what the text's end ended.
-- Assumes nothing.
use Rattle.std.specs.Prelude.{Ok, Err}
use mathlib.Core.Path.{◌≡◌, refl, ap, subst}
use mathlib.Core.Bool.{Bool, true, false}
use mathlib.Core.List.{List}
use Prim.Native.Nat.{ℕ, ◌<◌, ◌≤◌}
use lib.ListN.{length, get_or}
use Rattle.text.specs.Scan.{gap_end}
use Rattle.text.specs.declared.Cursor.{Cursor}
use Rattle.text.specs.declared.Refusal.{Refusal}
use Rattle.text.proofs.Here.{never}
use Rattle.text_past.specs.Past.{broke_off, past_of}
use Rattle.text_past.specs.declared.How.{How}
use Rattle.text_past.specs.declared.How.TheVariants.{Whole, Semicolon, Block, Before, Text}
use Rattle.text_past.proofs.PastLaws.{SkipRefused, SameOrCut, past_after, past_not, past_modes}
use Rattle.text_statement.specs.Statement.{statement_at, past_statement}
use Rattle.text_statement.proofs.StatementLaws.{Tells, statement_gap, statement_tells, statement_far, statement_moves, statement_refused}

module _ (w : Bool) (s : List ℕ) (at : ℕ) where
  pub past_gap : {g : ℕ} → g ≡ gap_end s at → past_statement w s g ≡ past_statement w s at
  unfolding past_statement statement_at
  past_gap e = ap (past_of w (length s)) (statement_gap s at 0 e)

  pub past_statement_far : at ≤ length s → (c : Cursor) → past_statement w s at ≡ Ok c → (at ≤ c.at) × (c.at ≤ length s)
  unfolding past_statement
  past_statement_far l c e = let k = past_after w (length s) (statement_at s at) c e in statement_far s at l c k.0 k.1

  pub past_statement_moves : at < length s → (get_or s (gap_end s at) 256 ≡ 125 → ⊥) → (c : Cursor) → past_statement w s at ≡ Ok c → at < c.at
  unfolding past_statement
  past_statement_moves l n c e = let k = past_after w (length s) (statement_at s at) c e in statement_moves s at l n c k.0 k.1

  pub past_statement_not : (r : Refusal) → past_statement w s at ≡ Err r → SkipRefused s r
  unfolding past_statement
  past_statement_not r e = past_not w s (statement_at s at) r (statement_refused s at) e

-- ---- the whole-text mode beside the old one

text_end : (s : List ℕ) (at : ℕ) → at ≤ length s → (c : Cursor) (h : How) → Tells s at (Ok (c, h)) → broke_off h ≡ true → c.at ≡ length s
unfolding broke_off
text_end s at l c Whole t b = absurd t
text_end s at l c Semicolon t b = absurd (never refl b)
text_end s at l c Block t b = absurd (never refl b)
text_end s at l c Before t b = absurd (never refl b)
text_end s at l c Text t b = t.2 l

pub statement_modes : (s : List ℕ) (at : ℕ) → at ≤ length s → SameOrCut (length s) (past_statement true s at) (past_statement false s at)
unfolding past_statement
statement_modes s at l =
    past_modes (length s) (statement_at s at) (λ c h e b. text_end s at l c h (subst (Tells s at) e (statement_tells s at)) b)

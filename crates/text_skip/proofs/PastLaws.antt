-- What a proof uses of what is past a token and past a value.
-- Assumes nothing.
use Rattle.std.specs.Prelude.{Ok, Err}
use mathlib.Core.Path.{◌≡◌, refl, sym, ap, ◌∙◌}
use mathlib.Core.Bool.{Bool, true, false}
use mathlib.Core.List.{List}
use Prim.Native.Nat.{ℕ, ◌<◌, ◌≤◌}
use lib.ListN.{length}
use Rattle.text.specs.declared.Cursor.{Cursor}
use Rattle.text.specs.declared.Refusal.{Refusal}
use Rattle.text.proofs.Here.{never, ok_pair_parts}
use Rattle.text_past.specs.Past.{broke_off}
use Rattle.text_past.specs.declared.How.{How}
use Rattle.text_past.proofs.PastLaws.{SkipRefused, SameOrCut, past_after, past_not, past_modes}
use Rattle.text_value.specs.Value.{value_at, place_of, closed_at}
use Rattle.text_value.proofs.JoinLaws.{open_place}
use Rattle.text_skip.specs.Skip.{token_at, past_token, how_closed, skipped_at, past_value}
use Rattle.text_skip.proofs.SkipLaws.{token_far, token_end, token_refused}
use Rattle.text_skip.proofs.PassLaws.{skipped_far, skipped_refused}

module _ (w : Bool) (s : List ℕ) (at : ℕ) where
  pub past_token_far : at < length s → (c : Cursor) → past_token w s at ≡ Ok c → (at < c.at) × (c.at ≤ length s)
  unfolding past_token
  past_token_far l c e = let k = past_after w (length s) (token_at s at) c e in token_far s at l c k.0 k.1

  pub past_token_not : (r : Refusal) → past_token w s at ≡ Err r → SkipRefused s r
  unfolding past_token
  past_token_not r e = past_not w s (token_at s at) r (token_refused s at) e

  pub past_value_far : at ≤ length s → (c : Cursor) → past_value w s at ≡ Ok c → (at ≤ c.at) × (c.at ≤ length s)
  unfolding past_value
  past_value_far l c e = let k = past_after w (length s) (skipped_at s at) c e in skipped_far s at l c k.0 k.1

  pub past_value_not : (r : Refusal) → past_value w s at ≡ Err r → SkipRefused s r
  unfolding past_value
  past_value_not r e = past_not w s (skipped_at s at) r (λ q h. absurd (skipped_refused s at q h)) e

-- ---- the whole-text mode beside the old one

pub token_modes : (s : List ℕ) (at : ℕ) → at < length s → SameOrCut (length s) (past_token true s at) (past_token false s at)
unfolding past_token
token_modes s at l = past_modes (length s) (token_at s at) (λ c h e b. token_end s at l c h e b)

how_open : (b : Bool) {h : How} → how_closed b ≡ h → broke_off h ≡ true → b ≡ false
unfolding broke_off
how_open true e t = absurd (never (sym (ap broke_off e)) t)
how_open false e t = refl

pub value_modes : (s : List ℕ) (at : ℕ) → SameOrCut (length s) (past_value true s at) (past_value false s at)
unfolding past_value skipped_at
value_modes s at =
    past_modes (length s) (skipped_at s at)
    (λ c h e b. let p = ok_pair_parts (record { at = place_of (value_at s at) }) c (how_closed (closed_at s at)) h e in
    sym (ap (λ (x : Cursor). x.at) p.0) ∙ open_place s at (how_open (closed_at s at) p.1 b))

-- What is checked before a scan. 1: text over 1,048,576 bytes. 2: store, table or page too short. 12: not UTF-8 (2026-01, keyword 0, at the start of the
-- first wrong sequence).
-- Assumes nothing.
use Rattle.std.specs.Prelude.{ℕ, Bool, cond, List, ltb, length, Ok, Err, Result}
use Rattle.text.specs.Refusal.{refusal_of, text_too_long, lent_too_short, not_utf8}
use Rattle.text.specs.declared.Refusal.{Refusal}
use Rattle.text_utf8.specs.Utf8.{wrong_from}

abbrev pub most_text : ℕ
most_text = 1048576

-- short: whether something lent is too short
unfoldable pub lent_at : List ℕ → Bool → Result (Unit {0}) Refusal
lent_at s short =
    cond (ltb most_text (length s)) (Err (record { number = text_too_long; keyword = 0; at = 0 }))
    (cond short (Err (record { number = lent_too_short; keyword = 0; at = 0 }))
    (cond (ltb (wrong_from s 0) (length s)) (Err (record { number = not_utf8; keyword = 0; at = wrong_from s 0 })) (Ok tt)))

-- its refusal, or none
unfoldable pub lent_refusal : Result (Unit {0}) Refusal → Refusal
lent_refusal x = refusal_of x

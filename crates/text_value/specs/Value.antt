-- A value, after a gap: a quoted string or a name. A name begins with letter, digit or `_` and goes on with those and `- . :`. After a
-- string: gap, and if `+` follows it is consumed, gap, then a quote adds that string and this repeats. A `+` with no quote after it ends
-- the value. An added part that never closes adds nothing. A first string that never closes is no value.
-- Assumes nothing.
use Rattle.std.specs.Prelude.{ℕ, suc, ◌+◌, Bool, true, false, cond, ◌||◌, List, [], ◌++◌, length, eqb, Some, None}
use Rattle.text.specs.Bytes.{plus, underscore, look}
use Rattle.text.specs.Class.{class_of, letter_class, digit_class}
use Rattle.text.specs.Keyword.{part}
use Rattle.text.specs.Scan.{run_end, gap_end}
use Rattle.text.specs.Turns.{Turn, stop, on, turns}
use Rattle.text.specs.declared.Run.TheVariants.{Name}
use Rattle.text_string.specs.Str.{is_quote, Str, whole, cut, str_at}
use Rattle.text_value.specs.declared.Value.{Value}

-- a letter, a digit or _
unfoldable pub starts_name : ℕ → Bool
starts_name b = eqb (class_of b) letter_class || eqb (class_of b) digit_class || eqb b underscore

-- ---- what follows a string

-- a string that is added and the place after it; or the place where the value ends; or a string that never closes, and the place there
pub data More : Type 0 where
  added : List ℕ → ℕ → More
  ends : ℕ → More
  broken : ℕ → More

-- a string that never closes adds nothing, and the text has ended
unfoldable pub added_by : List ℕ → Str → More
added_by s (whole bs end) = added bs end
added_by s cut = broken (length s)

-- at the place after `+` and its gap: a quote, or the value ends there
unfoldable pub after_plus : List ℕ → ℕ → More
after_plus s at = cond (is_quote (look s at)) (added_by s (str_at s at)) (ends at)

-- at the place after a string and its gap
unfoldable pub after_gap : List ℕ → ℕ → More
after_gap s at = cond (eqb (look s at) plus) (after_plus s (gap_end s (at + 1))) (ends at)

unfoldable pub more_at : List ℕ → ℕ → More
more_at s at = after_gap s (gap_end s at)

-- ---- all that is added

-- bytes, and a place
pub record Bytes : Type 0 where
  pub bytes : List ℕ
  pub end : ℕ

unfoldable pub add_to : List ℕ → More → Turn Bytes Bytes
add_to bs (added cs end) = on (record { bytes = bs ++ cs; end = end })
add_to bs (ends end) = stop (record { bytes = bs; end = end })
add_to bs (broken end) = stop (record { bytes = bs; end = end })

unfoldable pub join_turn : List ℕ → Bytes → Turn Bytes Bytes
join_turn s b = add_to b.bytes (more_at s b.end)

-- from a place on, with these bytes added so far
unfoldable pub joined_with : List ℕ → List ℕ → ℕ → Bytes
joined_with s bs at = turns (join_turn s) (record { bytes = []; end = 0 }) (suc (length s)) (record { bytes = bs; end = at })

unfoldable pub joined : List ℕ → ℕ → Bytes
joined s at = joined_with s [] at

-- ---- a value

-- its bytes and the place after it; or none, and the place where the scan stands
pub data Val : Type 0 where
  value : List ℕ → ℕ → Val
  none : ℕ → Val

unfoldable pub of_string : List ℕ → Str → Val
of_string s (whole bs end) = value (bs ++ (joined s end).bytes) (joined s end).end
of_string s cut = none (length s)

-- the name at a place
abbrev pub name_at : List ℕ → ℕ → Val
name_at s at = cond (starts_name (look s at)) (value (part s at (run_end Name s at)) (run_end Name s at)) (none at)

unfoldable pub value_here : List ℕ → ℕ → Val
value_here s at = cond (is_quote (look s at)) (of_string s (str_at s at)) (name_at s at)

unfoldable pub value_at : List ℕ → ℕ → Val
value_at s at = value_here s (gap_end s at)

-- ---- whether each string of a value closes

unfoldable pub closed_more : More → Turn ℕ Bool
closed_more (added bs end) = on end
closed_more (ends end) = stop true
closed_more (broken end) = stop false

unfoldable pub closed_turn : List ℕ → ℕ → Turn ℕ Bool
closed_turn s at = closed_more (more_at s at)

-- of all that is added from a place on
unfoldable pub closed_from : List ℕ → ℕ → Bool
closed_from s at = turns (closed_turn s) true (suc (length s)) at

unfoldable pub closed_string : List ℕ → Str → Bool
closed_string s (whole bs end) = closed_from s end
closed_string s cut = false

-- at the place after the gap
unfoldable pub closed_here : List ℕ → ℕ → Bool
closed_here s at = cond (is_quote (look s at)) (closed_string s (str_at s at)) true

unfoldable pub closed_at : List ℕ → ℕ → Bool
closed_at s at = closed_here s (gap_end s at)

-- ---- what the functions answer and store

unfoldable pub more_answer : ℕ → More → Value
more_answer used (added bs end) = record { end = record { at = end }; used = Some (used + length bs); closed = true }
more_answer used (ends end) = record { end = record { at = end }; used = None; closed = true }
more_answer used (broken end) = record { end = record { at = end }; used = None; closed = false }

unfoldable pub more_bytes : More → List ℕ
more_bytes (added bs end) = bs
more_bytes (ends end) = []
more_bytes (broken end) = []

-- closed: whether each string closes
unfoldable pub join_answer : ℕ → Bool → Bytes → Value
join_answer used closed b = record { end = record { at = b.end }; used = Some (used + length b.bytes); closed = closed }

unfoldable pub value_answer : ℕ → Bool → Val → Value
value_answer used closed (value bs end) = record { end = record { at = end }; used = Some (used + length bs); closed = closed }
value_answer used closed (none at) = record { end = record { at = at }; used = None; closed = closed }

unfoldable pub value_bytes : Val → List ℕ
value_bytes (value bs end) = bs
value_bytes (none at) = []

-- where the scan stands then
unfoldable pub place_of : Val → ℕ
place_of (value bs end) = end
place_of (none at) = at

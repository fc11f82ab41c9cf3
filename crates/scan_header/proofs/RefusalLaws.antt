-- A refusal of the scan's step has a number above 0: it is that of a value that is missing, of a byte that is due or is 128 or more, or of what broke off,
-- and each of these has one. w: the whole-text mode.
-- Assumes nothing.
use Rattle.std.specs.Prelude.{Ok, Err, Result}
use mathlib.Core.Path.{◌≡◌, refl, subst}
use mathlib.Core.Bool.{Bool}
use mathlib.Core.List.{List}
use Prim.Native.Nat.{ℕ, ◌<◌}
use native.Mathlib.Omega.{arith}
use lib.Dec.{eqb, leb}
use lib.ListN.{length, get_or}
use Rattle.text.specs.Due.{due_number, due_here, due_at}
use Rattle.text.specs.Scan.{gap_end}
use Rattle.text.specs.declared.Refusal.{Refusal}
use Rattle.text.proofs.Here.{by_test}
use Rattle.text.proofs.HighLaws.{refused_numbered}
use Rattle.text_past.proofs.PastLaws.{SkipRefused, refused_number}
use Rattle.text_value.specs.Argument.{argument_of, breaks_off, argument_at}
use Rattle.text_value.specs.Value.{Val, value, none, value_at, closed_at}
use Rattle.text_skip.specs.Skip.{past_token, past_value}
use Rattle.text_skip.proofs.PastLaws.{past_token_not, past_value_not}
use Rattle.text_statement.specs.Statement.{past_statement}
use Rattle.text_statement.proofs.PastLaws.{past_statement_not}
use Rattle.scan_header.specs.Header.{later_prefix, due_for, after_revision, after_value, passed, kept, with_rest, field_at, after_skipped}
use Rattle.scan_header.specs.Header.{statement_said, tag_said, said_here, said_at}
use Rattle.scan_tag.specs.Tag.{tag_at}
use Rattle.scan_header.specs.declared.Heard.{Heard}
use Rattle.scan_header.specs.declared.Heard.TheVariants.{Value, Passed, Done}
use Rattle.scan_tag.specs.declared.Tag.{Tag}
use Rattle.scan_tag.specs.declared.Tag.TheVariants.{Statement, Last, Other}
use Rattle.text.specs.declared.Cursor.{Cursor}

-- ---- a byte that is due, and what follows a value

abbrev DueNumbered : Result Cursor Refusal → Type 0
DueNumbered (Ok c) = Unit {0}
DueNumbered (Err r) = 0 < r.number

due_numbered : (s : List ℕ) (at b k : ℕ) → DueNumbered (due_at s at b k)
unfolding due_at due_here due_number
due_numbered s at b k =
    let c = get_or s (gap_end s at) 256 in
    by_test (eqb c b) (λ t. rw t tt)
    (λ t. rw t (by_test (eqb c 256)
    (λ u. rw u (refused_numbered c 6 k (gap_end s at) (omega arith)))
    (λ u. rw u (refused_numbered c 5 k (gap_end s at) (omega arith)))))

-- d: what is past a skip
past_numbered : (s : List ℕ) (d : Result Cursor Refusal) → ((r : Refusal) → d ≡ Err r → SkipRefused s r) → DueNumbered d
past_numbered s (Ok c) h = tt
past_numbered s (Err r) h = refused_number s r (h r refl)

ended_numbered : (w : Bool) (s : List ℕ) (at : ℕ) → DueNumbered (past_statement w s at)
ended_numbered w s at = past_numbered s (past_statement w s at) (past_statement_not w s at)

revision_numbered : (w : Bool) (s : List ℕ) (at : ℕ) → DueNumbered (after_revision w s at)
unfolding after_revision
revision_numbered w s at = by_test (eqb (get_or s at 256) 123) (λ t. rw t (ended_numbered w s at)) (λ t. rw t (due_numbered s at 59 7))

value_numbered : (w : Bool) (s : List ℕ) (at k : ℕ) → DueNumbered (after_value w s at k)
unfolding after_value
value_numbered w s at k =
    by_test (eqb k 3) (λ t. rw t (ended_numbered w s at))
    (λ t. rw t (by_test (eqb k 7) (λ u. rw u (revision_numbered w s (gap_end s at))) (λ u. rw u (due_numbered s at (due_for k) k))))

-- ---- a step

abbrev Numbered : Result Heard Refusal → Type 0
Numbered (Ok (Value k x c n)) = Unit {0}
Numbered (Ok (Passed c)) = Unit {0}
Numbered (Ok (Done c)) = Unit {0}
Numbered (Err r) = 0 < r.number

passed_numbered : (d : Result Cursor Refusal) → DueNumbered d → Numbered (passed d)
unfolding passed
passed_numbered (Ok c) h = tt
passed_numbered (Err r) h = h

kept_numbered : (k u n : ℕ) (d : Result Cursor Refusal) → DueNumbered d → Numbered (kept k u n d)
unfolding kept
kept_numbered k u n (Ok c) h = tt
kept_numbered k u n (Err r) h = h

rest_numbered : (w : Bool) (s : List ℕ) (k u : ℕ) (v : Val) → Numbered (with_rest w s k u (argument_of s u k v))
unfolding with_rest argument_of
rest_numbered w s k u (value bs end) = kept_numbered k u _ (after_value w s end k) (value_numbered w s end k)
rest_numbered w s k u (none at) = refused_numbered (get_or s at 256) 4 k at (omega arith)

field_numbered : (w : Bool) (s : List ℕ) (at k u : ℕ) → Numbered (field_at w s at k u).answer
unfolding field_at with_rest argument_at
field_numbered w s at k u =
    by_test (breaks_off w (closed_at s at)) (λ t. rw t (omega arith)) (λ t. rw t (rest_numbered w s k u (value_at s at)))

skipped_numbered : (w : Bool) (s : List ℕ) (k : ℕ) (d : Result Cursor Refusal) → DueNumbered d → Numbered (after_skipped w s k d)
unfolding after_skipped
skipped_numbered w s k (Ok c) h = passed_numbered (after_value w s c.at k) (value_numbered w s c.at k)
skipped_numbered w s k (Err r) h = h

statement_numbered : (w : Bool) (s : List ℕ) (at k u : ℕ) (p : Bool) → Numbered (statement_said w s at k u p).answer
unfolding statement_said
statement_numbered w s at k u p =
    by_test (eqb k 6)
    (λ t. rw t (skipped_numbered w s k (past_value w s at) (past_numbered s (past_value w s at) (past_value_not w s at))))
    (λ t. rw t (by_test (later_prefix k p)
    (λ v. rw v (passed_numbered (past_statement w s at) (ended_numbered w s at)))
    (λ v. rw v (field_numbered w s at k u))))

tag_numbered : (w : Bool) (s : List ℕ) (at u : ℕ) (p : Bool) (t : Tag) → Numbered (tag_said w s at u p t).answer
unfolding tag_said
tag_numbered w s at u p (Statement k c) = statement_numbered w s c.at k u p
tag_numbered w s at u p (Last c) = tt
tag_numbered w s at u p Other = passed_numbered (past_token w s at) (past_numbered s (past_token w s at) (past_token_not w s at))

said_numbered : (w : Bool) (s : List ℕ) (at u : ℕ) (p : Bool) → Numbered (said_at w s at u p).answer
unfolding said_at said_here
said_numbered w s at u p =
    let g = gap_end s at in
    by_test (leb (length s) g) (λ t. rw t tt) (λ t. rw t (tag_numbered w s g u p (tag_at s g)))

pub said_number : (w : Bool) (s : List ℕ) (at u : ℕ) (p : Bool) (r : Refusal) → (said_at w s at u p).answer ≡ Err r → 0 < r.number
said_number w s at u p r h = subst Numbered h (said_numbered w s at u p)

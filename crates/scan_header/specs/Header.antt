-- Metadata: `module` or `submodule` value `{`; `belongs-to` value, statement skipped; `namespace` value `;`; `prefix` value `;` (first wins, later
-- statements skipped); `yang-version`, value if there is one, `;`; `revision` value, then a block skipped or `;`. Other tokens are skipped.
-- 2026-07: in the whole-text mode what is skipped or read here and breaks off is 11.
-- Assumes nothing.
use Rattle.std.specs.Prelude.{ℕ, ◌-◌, Bool, cond, ◌&&◌, ◌||◌, List, [], eqb, leb, length, Ok, Err, Result}
use Rattle.text.specs.Bytes.{semicolon, open_brace, look}
use Rattle.text.specs.Due.{due_at}
use Rattle.text.specs.Refusal.{refusal_of}
use Rattle.text.specs.Scan.{gap_end}
use Rattle.text.specs.Words.{module_keyword, submodule_keyword, belongs_to_keyword, prefix_keyword, yang_version_keyword, revision_keyword}
use Rattle.text.specs.declared.Refusal.{Refusal}
use Rattle.text_value.specs.Argument.{argument_at}
use Rattle.text_value.specs.Value.{value_at, value_bytes}
use Rattle.text_skip.specs.Skip.{past_token, past_value}
use Rattle.text_statement.specs.Statement.{past_statement}
use Rattle.scan_rows.specs.Span.{held}
use Rattle.scan_tag.specs.Tag.{tag_at}
use Rattle.scan_header.specs.declared.Heard.{Heard}
use Rattle.scan_header.specs.declared.Heard.TheVariants.{Value, Passed, Done}
use Rattle.scan_tag.specs.declared.Tag.{Tag}
use Rattle.scan_tag.specs.declared.Tag.TheVariants.{Statement, Last, Other}
use Rattle.text.specs.declared.Cursor.{Cursor}

-- ---- what follows a value; whole: the whole-text mode, k: the keyword, at: the place after the value

-- { after a module's name, else ;
unfoldable pub due_for : ℕ → ℕ
due_for k = cond (eqb k module_keyword || eqb k submodule_keyword) open_brace semicolon

-- a revision's block, or ;
unfoldable pub after_revision : Bool → List ℕ → ℕ → Result Cursor Refusal
after_revision whole s at = cond (eqb (look s at) open_brace) (past_statement whole s at) (due_at s at semicolon revision_keyword)

unfoldable pub after_value : Bool → List ℕ → ℕ → ℕ → Result Cursor Refusal
after_value whole s at k =
    cond (eqb k belongs_to_keyword) (past_statement whole s at)
    (cond (eqb k revision_keyword) (after_revision whole s (gap_end s at)) (due_at s at (due_for k) k))

-- ---- one statement read, or one token skipped: the answer and the bytes stored; u: the store's next place

pub record Said : Type 0 where
  pub answer : Result Heard Refusal
  pub bytes : List ℕ

abbrev pub said : Result Heard Refusal → Said
said r = record { answer = r; bytes = [] }

-- nothing is kept
unfoldable pub passed : Result Cursor Refusal → Result Heard Refusal
passed (Ok c) = Ok (Passed c)
passed (Err r) = Err r

-- a value that ends before the store's place n
unfoldable pub kept : ℕ → ℕ → ℕ → Result Cursor Refusal → Result Heard Refusal
kept k u n (Ok c) = Ok (Value k (held u (n - u)) c n)
kept k u n (Err r) = Err r

unfoldable pub with_rest : Bool → List ℕ → ℕ → ℕ → Result (Cursor × ℕ) Refusal → Result Heard Refusal
with_rest whole s k u (Ok (c, n)) = kept k u n (after_value whole s c.at k)
with_rest whole s k u (Err r) = Err r

-- a keyword with its value
unfoldable pub field_at : Bool → List ℕ → ℕ → ℕ → ℕ → Said
field_at whole s at k u = record { answer = with_rest whole s k u (argument_at whole s at u k); bytes = value_bytes (value_at s at) }

-- a keyword with a value that is skipped
unfoldable pub after_skipped : Bool → List ℕ → ℕ → Result Cursor Refusal → Result Heard Refusal
after_skipped whole s k (Ok c) = passed (after_value whole s c.at k)
after_skipped whole s k (Err r) = Err r

-- hasPrefix: whether a prefix was read before
unfoldable pub later_prefix : ℕ → Bool → Bool
later_prefix k hasPrefix = eqb k prefix_keyword && hasPrefix

-- behind the keyword k
unfoldable pub statement_said : Bool → List ℕ → ℕ → ℕ → ℕ → Bool → Said
statement_said whole s at k u hasPrefix =
    cond (eqb k yang_version_keyword) (said (after_skipped whole s k (past_value whole s at)))
    (cond (later_prefix k hasPrefix) (said (passed (past_statement whole s at))) (field_at whole s at k u))

unfoldable pub tag_said : Bool → List ℕ → ℕ → ℕ → Bool → Tag → Said
tag_said whole s at u hasPrefix (Statement k c) = statement_said whole s c.at k u hasPrefix
tag_said whole s at u hasPrefix (Last c) = said (Ok (Done c))
tag_said whole s at u hasPrefix Other = said (passed (past_token whole s at))

-- at the place after the gap
unfoldable pub said_here : Bool → List ℕ → ℕ → ℕ → Bool → Said
said_here whole s at u hasPrefix = cond (leb (length s) at) (said (Ok (Done (record { at = at })))) (tag_said whole s at u hasPrefix (tag_at s at))

unfoldable pub said_at : Bool → List ℕ → ℕ → ℕ → Bool → Said
said_at whole s at u hasPrefix = said_here whole s (gap_end s at) u hasPrefix

-- its refusal, or none
unfoldable pub heard_refusal : Result Heard Refusal → Refusal
heard_refusal x = refusal_of x

-- Import: value, `{`, then until `}` its block. Prefix is required. Include: value, then `;`, or `{` with its block.
-- 7: import closed without prefix.
-- Assumes nothing.
use Rattle.std.specs.Prelude.{ℕ, ◌+◌, ◌-◌, Bool, cond, List, ◌++◌, eqb, Ok, Err, Result}
use Rattle.text.specs.Bytes.{open_brace, semicolon, look}
use Rattle.text.specs.Due.{due_here}
use Rattle.text.specs.Refusal.{refusal_of}
use Rattle.text.specs.Scan.{gap_end}
use Rattle.text.specs.Words.{import_keyword, include_keyword}
use Rattle.text.specs.declared.Refusal.{Refusal}
use Rattle.text_value.specs.Value.{value_at, value_bytes}
use Rattle.text_value.specs.Argument.{argument_at, line_at}
use Rattle.scan_block.specs.Block.{block_at}
use Rattle.scan_block.specs.Left.{Left}
use Rattle.scan_rows.specs.Span.{held, missing}
use Rattle.scan_block.specs.declared.Body.{Body}
use Rattle.scan_rows.specs.declared.Span.{Span}
use Rattle.text.specs.declared.Cursor.{Cursor}
use Rattle.scan_rows.specs.declared.YangImport.{YangImport}
use Rattle.scan_rows.specs.declared.YangInclude.{YangInclude}

abbrev pub no_prefix : ℕ
no_prefix = 7

-- ---- an import, behind its keyword, at the store's place u; whole: the whole-text mode

-- prefix is required
unfoldable pub of_body : Span → Body → Result (Cursor × ℕ × YangImport) Refusal
of_body name b =
    cond b.prefix.present
    (Ok ((record { at = b.at }), b.used, (record { module_name = name; prefix = b.prefix; revision_date = b.revision })))
    (Err (record { number = no_prefix; keyword = import_keyword; at = b.at }))

unfoldable pub import_of : Span → Result Body Refusal → Result (Cursor × ℕ × YangImport) Refusal
import_of name (Ok b) = of_body name b
import_of name (Err r) = Err r

unfoldable pub with_name : Span → List ℕ → Left (Result Body Refusal) → Left (Result (Cursor × ℕ × YangImport) Refusal)
with_name name bytes b = record { answer = import_of name b.answer; bytes = bytes ++ b.bytes }

unfoldable pub after_name : Bool → List ℕ → ℕ → List ℕ → Result (Cursor × ℕ) Refusal → Left (Result (Cursor × ℕ × YangImport) Refusal)
after_name whole s u bytes (Ok (c, n)) = with_name (held u (n - u)) bytes (block_at whole s c.at n import_keyword)
after_name whole s u bytes (Err r) = record { answer = Err r; bytes = bytes }

unfoldable pub import_at : Bool → List ℕ → ℕ → ℕ → Left (Result (Cursor × ℕ × YangImport) Refusal)
import_at whole s at u = after_name whole s u (value_bytes (value_at s at)) (line_at whole s at u import_keyword open_brace)

-- its refusal, or none
unfoldable pub import_refusal : Result (Cursor × ℕ × YangImport) Refusal → Refusal
import_refusal x = refusal_of x

-- ---- an include

unfoldable pub include_of : Span → Result Body Refusal → Result (Cursor × ℕ × YangInclude) Refusal
include_of name (Ok b) =
    Ok ((record { at = b.at }), b.used, (record { submodule_name = name; revision_date = b.revision }))
include_of name (Err r) = Err r

unfoldable pub plain_of : Span → ℕ → Result Cursor Refusal → Result (Cursor × ℕ × YangInclude) Refusal
plain_of name n (Ok c) = Ok (c, n, (record { submodule_name = name; revision_date = missing }))
plain_of name n (Err r) = Err r

unfoldable pub block_of : Span → List ℕ → Left (Result Body Refusal) → Left (Result (Cursor × ℕ × YangInclude) Refusal)
block_of name bytes b = record { answer = include_of name b.answer; bytes = bytes ++ b.bytes }

-- at the place after the value and its gap
unfoldable pub open_or_plain : Bool → List ℕ → ℕ → ℕ → Span → List ℕ → Left (Result (Cursor × ℕ × YangInclude) Refusal)
open_or_plain whole s at n name bytes =
    cond (eqb (look s at) open_brace) (block_of name bytes (block_at whole s (at + 1) n include_keyword))
    (record { answer = plain_of name n (due_here s at semicolon include_keyword); bytes = bytes })

unfoldable pub after_value : Bool → List ℕ → ℕ → List ℕ → Result (Cursor × ℕ) Refusal → Left (Result (Cursor × ℕ × YangInclude) Refusal)
after_value whole s u bytes (Ok (c, n)) = open_or_plain whole s (gap_end s c.at) n (held u (n - u)) bytes
after_value whole s u bytes (Err r) = record { answer = Err r; bytes = bytes }

unfoldable pub include_at : Bool → List ℕ → ℕ → ℕ → Left (Result (Cursor × ℕ × YangInclude) Refusal)
include_at whole s at u = after_value whole s u (value_bytes (value_at s at)) (argument_at whole s at u include_keyword)

-- its refusal, or none
unfoldable pub include_refusal : Result (Cursor × ℕ × YangInclude) Refusal → Refusal
include_refusal x = refusal_of x

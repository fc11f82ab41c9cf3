-- Worked examples of the printed form, one list and one claim: each definition computes what stands beside the values.
-- Assumes nothing.
use mathlib.Core.Bool.{Bool, true, ◌&&◌}
use mathlib.Core.List.{List, [], ◌∷◌, flatten}
use Prim.Native.Nat.{ℕ}
use lib.Dec.{T}
use Rattle.text.specs.Keyword.{same}
use Rattle.scan_rows.specs.Span.{held, missing, value_in}
use Rattle.scan_rows.specs.declared.Span.{Span}
use Rattle.scan_rows.specs.declared.YangImport.{YangImport}
use Rattle.scan_rows.specs.declared.YangInclude.{YangInclude}
use Rattle.scan_line.specs.Line.{last_digits, decimal}
use Rattle.scan_printed.specs.Printed.{heading, revision, import_line, include_line, import_lines, include_lines, printed}

-- the page of a store, its imports and its includes
data Example : Type 0 where
  page : List ℕ → List YangImport → List YangInclude → List ℕ → Example

import : Span → Span → Span → YangImport
import name prefix rev = record { module_name = name; prefix = prefix; revision_date = rev }

include : Span → Span → YangInclude
include name rev = record { submodule_name = name; revision_date = rev }

holds : Example → Bool
holds (page store is js p) = same (printed store is js) p

all : List Example → Bool
all [] = true
all (x ∷ xs) = holds x && all xs

-- `baseb2024-05-01m-types`: import base, prefix b, revision 2024-05-01; include m-types
-- nothing: `Imports (0):`, an empty line, `Includes (0):`
-- `ap`: imports a with an empty prefix, p with prefix a and an empty revision; include ap, revision p
examples : List Example
examples =
    page (98 ∷ 97 ∷ 115 ∷ 101 ∷ 98 ∷ 50 ∷ 48 ∷ 50 ∷ 52 ∷ 45 ∷ 48 ∷ 53 ∷ 45 ∷ 48 ∷ 49 ∷ 109 ∷ 45 ∷ 116 ∷ 121 ∷ 112 ∷ 101 ∷ 115 ∷ [])
    (import (held 0 4) (held 4 1) (held 5 10) ∷ []) (include (held 15 7) missing ∷ [])
    (73 ∷ 109 ∷ 112 ∷ 111 ∷ 114 ∷ 116 ∷ 115 ∷ 32 ∷ 40 ∷ 49 ∷ 41 ∷ 58 ∷ 10 ∷ 32 ∷ 32 ∷ 45 ∷ 32 ∷ 98 ∷ 97 ∷ 115 ∷ 101 ∷ 32 ∷ 40 ∷ 112 ∷ 114 ∷ 101 ∷ 102 ∷ 105
    ∷ 120 ∷ 58 ∷ 32 ∷ 98 ∷ 41 ∷ 32 ∷ 64 ∷ 32 ∷ 50 ∷ 48 ∷ 50 ∷ 52 ∷ 45 ∷ 48 ∷ 53 ∷ 45 ∷ 48 ∷ 49 ∷ 10 ∷ 10 ∷ 73 ∷ 110 ∷ 99 ∷ 108 ∷ 117 ∷ 100 ∷ 101 ∷ 115 ∷ 32
    ∷ 40 ∷ 49 ∷ 41 ∷ 58 ∷ 10 ∷ 32 ∷ 32 ∷ 45 ∷ 32 ∷ 109 ∷ 45 ∷ 116 ∷ 121 ∷ 112 ∷ 101 ∷ 115 ∷ 10 ∷ [])
    ∷ page [] [] [] (73 ∷ 109 ∷ 112 ∷ 111 ∷ 114 ∷ 116 ∷ 115 ∷ 32 ∷ 40 ∷ 48 ∷ 41 ∷ 58 ∷ 10 ∷ 10 ∷ 73 ∷ 110 ∷ 99 ∷ 108 ∷ 117 ∷ 100 ∷ 101 ∷ 115 ∷ 32 ∷ 40 ∷ 48
    ∷ 41 ∷ 58 ∷ 10 ∷ [])
    ∷ page (97 ∷ 112 ∷ [])
    (import (held 0 1) (held 1 0) missing ∷ import (held 1 1) (held 0 1) (held 2 0) ∷ []) (include (held 0 2) (held 1 1) ∷ [])
    (73 ∷ 109 ∷ 112 ∷ 111 ∷ 114 ∷ 116 ∷ 115 ∷ 32 ∷ 40 ∷ 50 ∷ 41 ∷ 58 ∷ 10 ∷ 32 ∷ 32 ∷ 45 ∷ 32 ∷ 97 ∷ 32 ∷ 40 ∷ 112 ∷ 114 ∷ 101 ∷ 102 ∷ 105 ∷ 120 ∷ 58 ∷ 32 ∷ 41
    ∷ 10 ∷ 32 ∷ 32 ∷ 45 ∷ 32 ∷ 112 ∷ 32 ∷ 40 ∷ 112 ∷ 114 ∷ 101 ∷ 102 ∷ 105 ∷ 120 ∷ 58 ∷ 32 ∷ 97 ∷ 41 ∷ 32 ∷ 64 ∷ 32 ∷ 10 ∷ 10 ∷ 73 ∷ 110 ∷ 99 ∷ 108 ∷ 117
    ∷ 100 ∷ 101 ∷ 115 ∷ 32 ∷ 40 ∷ 49 ∷ 41 ∷ 58 ∷ 10 ∷ 32 ∷ 32 ∷ 45 ∷ 32 ∷ 97 ∷ 112 ∷ 32 ∷ 64 ∷ 32 ∷ 112 ∷ 10 ∷ [])
    ∷ []

right : T (all examples)
unfolding all holds examples import include same last_digits decimal heading revision import_line include_line import_lines include_lines printed value_in flatten
right = tt

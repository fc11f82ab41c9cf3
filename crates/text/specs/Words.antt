-- The scans' keywords, and document 01's numbers for those that a refusal names.
-- Assumes nothing.
use Rattle.std.specs.Prelude.{ℕ, List, [], ◌∷◌}

-- import
abbrev pub import_word : List ℕ
import_word = 105 ∷ 109 ∷ 112 ∷ 111 ∷ 114 ∷ 116 ∷ []

-- include
abbrev pub include_word : List ℕ
include_word = 105 ∷ 110 ∷ 99 ∷ 108 ∷ 117 ∷ 100 ∷ 101 ∷ []

-- prefix
abbrev pub prefix_word : List ℕ
prefix_word = 112 ∷ 114 ∷ 101 ∷ 102 ∷ 105 ∷ 120 ∷ []

-- revision-date
abbrev pub revision_date_word : List ℕ
revision_date_word = 114 ∷ 101 ∷ 118 ∷ 105 ∷ 115 ∷ 105 ∷ 111 ∷ 110 ∷ 45 ∷ 100 ∷ 97 ∷ 116 ∷ 101 ∷ []

-- organization
abbrev pub organization_word : List ℕ
organization_word = 111 ∷ 114 ∷ 103 ∷ 97 ∷ 110 ∷ 105 ∷ 122 ∷ 97 ∷ 116 ∷ 105 ∷ 111 ∷ 110 ∷ []

-- contact
abbrev pub contact_word : List ℕ
contact_word = 99 ∷ 111 ∷ 110 ∷ 116 ∷ 97 ∷ 99 ∷ 116 ∷ []

-- description
abbrev pub description_word : List ℕ
description_word = 100 ∷ 101 ∷ 115 ∷ 99 ∷ 114 ∷ 105 ∷ 112 ∷ 116 ∷ 105 ∷ 111 ∷ 110 ∷ []

-- reference
abbrev pub reference_word : List ℕ
reference_word = 114 ∷ 101 ∷ 102 ∷ 101 ∷ 114 ∷ 101 ∷ 110 ∷ 99 ∷ 101 ∷ []

-- module
abbrev pub module_word : List ℕ
module_word = 109 ∷ 111 ∷ 100 ∷ 117 ∷ 108 ∷ 101 ∷ []

-- submodule
abbrev pub submodule_word : List ℕ
submodule_word = 115 ∷ 117 ∷ 98 ∷ 109 ∷ 111 ∷ 100 ∷ 117 ∷ 108 ∷ 101 ∷ []

-- belongs-to
abbrev pub belongs_to_word : List ℕ
belongs_to_word = 98 ∷ 101 ∷ 108 ∷ 111 ∷ 110 ∷ 103 ∷ 115 ∷ 45 ∷ 116 ∷ 111 ∷ []

-- namespace
abbrev pub namespace_word : List ℕ
namespace_word = 110 ∷ 97 ∷ 109 ∷ 101 ∷ 115 ∷ 112 ∷ 97 ∷ 99 ∷ 101 ∷ []

-- yang-version
abbrev pub yang_version_word : List ℕ
yang_version_word = 121 ∷ 97 ∷ 110 ∷ 103 ∷ 45 ∷ 118 ∷ 101 ∷ 114 ∷ 115 ∷ 105 ∷ 111 ∷ 110 ∷ []

-- revision
abbrev pub revision_word : List ℕ
revision_word = 114 ∷ 101 ∷ 118 ∷ 105 ∷ 115 ∷ 105 ∷ 111 ∷ 110 ∷ []

-- container
abbrev pub container_word : List ℕ
container_word = 99 ∷ 111 ∷ 110 ∷ 116 ∷ 97 ∷ 105 ∷ 110 ∷ 101 ∷ 114 ∷ []

-- list
abbrev pub list_word : List ℕ
list_word = 108 ∷ 105 ∷ 115 ∷ 116 ∷ []

-- leaf
abbrev pub leaf_word : List ℕ
leaf_word = 108 ∷ 101 ∷ 97 ∷ 102 ∷ []

-- grouping
abbrev pub grouping_word : List ℕ
grouping_word = 103 ∷ 114 ∷ 111 ∷ 117 ∷ 112 ∷ 105 ∷ 110 ∷ 103 ∷ []

-- typedef
abbrev pub typedef_word : List ℕ
typedef_word = 116 ∷ 121 ∷ 112 ∷ 101 ∷ 100 ∷ 101 ∷ 102 ∷ []

-- identity
abbrev pub identity_word : List ℕ
identity_word = 105 ∷ 100 ∷ 101 ∷ 110 ∷ 116 ∷ 105 ∷ 116 ∷ 121 ∷ []

-- augment
abbrev pub augment_word : List ℕ
augment_word = 97 ∷ 117 ∷ 103 ∷ 109 ∷ 101 ∷ 110 ∷ 116 ∷ []

-- rpc
abbrev pub rpc_word : List ℕ
rpc_word = 114 ∷ 112 ∷ 99 ∷ []

-- notification
abbrev pub notification_word : List ℕ
notification_word = 110 ∷ 111 ∷ 116 ∷ 105 ∷ 102 ∷ 105 ∷ 99 ∷ 97 ∷ 116 ∷ 105 ∷ 111 ∷ 110 ∷ []

abbrev pub module_keyword : ℕ
module_keyword = 1

abbrev pub submodule_keyword : ℕ
submodule_keyword = 2

abbrev pub belongs_to_keyword : ℕ
belongs_to_keyword = 3

abbrev pub namespace_keyword : ℕ
namespace_keyword = 4

abbrev pub prefix_keyword : ℕ
prefix_keyword = 5

abbrev pub yang_version_keyword : ℕ
yang_version_keyword = 6

abbrev pub revision_keyword : ℕ
revision_keyword = 7

abbrev pub import_keyword : ℕ
import_keyword = 8

abbrev pub include_keyword : ℕ
include_keyword = 9

abbrev pub revision_date_keyword : ℕ
revision_date_keyword = 10

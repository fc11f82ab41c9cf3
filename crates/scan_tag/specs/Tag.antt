-- Metadata, other tokens skipped: `module`, `submodule`, `belongs-to`, `namespace`, `prefix`, `yang-version`, `revision`. Matched `container`, `list`,
-- `leaf`, `grouping`, `typedef`, `identity`, `augment`, `rpc` or `notification` ends it.
-- Assumes nothing.
use Rattle.std.specs.Prelude.{ℕ, List, Some, None, Option}
use Rattle.text.specs.Keyword.{match_at, or_match}
use Rattle.text.specs.Words.{module_word, submodule_word, belongs_to_word, namespace_word, prefix_word, yang_version_word, revision_word, container_word, list_word}
use Rattle.text.specs.Words.{leaf_word, grouping_word, typedef_word, identity_word, augment_word, rpc_word, notification_word, module_keyword, submodule_keyword}
use Rattle.text.specs.Words.{belongs_to_keyword, namespace_keyword, prefix_keyword, yang_version_keyword, revision_keyword}
use Rattle.scan_tag.specs.declared.Tag.{Tag}
use Rattle.scan_tag.specs.declared.Tag.TheVariants.{Statement, Last, Other}
use Rattle.text.specs.declared.Cursor.{Cursor}

-- one of the last five of them
abbrev pub later_data_at : List ℕ → ℕ → Option Cursor
later_data_at s at =
    or_match (match_at s at typedef_word) (or_match (match_at s at identity_word) (or_match (match_at s at augment_word)
    (or_match (match_at s at rpc_word) (match_at s at notification_word))))

-- one of the nine that end the scan
unfoldable pub data_at : List ℕ → ℕ → Option Cursor
data_at s at =
    or_match (match_at s at container_word) (or_match (match_at s at list_word) (or_match (match_at s at leaf_word)
    (or_match (match_at s at grouping_word) (later_data_at s at))))

unfoldable pub last_tag : Option Cursor → Tag
last_tag (Some c) = Last c
last_tag None = Other

-- the keyword k, if it matched
unfoldable pub or_tag : ℕ → Option Cursor → Tag → Tag
or_tag k (Some c) t = Statement k c
or_tag k None t = t

-- the last three keywords, and the nine
abbrev pub later_tag_at : List ℕ → ℕ → Tag
later_tag_at s at =
    or_tag prefix_keyword (match_at s at prefix_word) (or_tag yang_version_keyword (match_at s at yang_version_word)
    (or_tag revision_keyword (match_at s at revision_word) (last_tag (data_at s at))))

unfoldable pub tag_at : List ℕ → ℕ → Tag
tag_at s at =
    or_tag module_keyword (match_at s at module_word) (or_tag submodule_keyword (match_at s at submodule_word)
    (or_tag belongs_to_keyword (match_at s at belongs_to_word) (or_tag namespace_keyword (match_at s at namespace_word) (later_tag_at s at))))

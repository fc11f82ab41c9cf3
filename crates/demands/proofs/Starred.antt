-- The starred examples are right: both sides are computed.
-- Assumes nothing.
use mathlib.Core.List.{flat_map}
use Rattle.text.specs.Refusal.{is_high, refused_at}
use Rattle.text.specs.Class.{class_of}
use Rattle.text.specs.Due.{due_number, due_here, due_at}
use Rattle.text.specs.Keyword.{starts_ident, ends_keyword, same, part, keyword_at, match_at, or_match}
use Rattle.text.specs.Scan.{in_ident, in_run, span, run_end, pair_at, closing, block_end, comment_end, after_white, gap_turn, gap_end}
use Rattle.text.specs.Turns.{turns}
use Rattle.text_value.specs.Argument.{argument_of, breaks_off, argument_at, after_due, after_argument, line_at}
use Rattle.text_string.specs.Str.{is_quote, escaped, escapes, str_end, str_bytes, closed_by, str_at}
use Rattle.text_value.specs.Value.{starts_name, added_by, after_plus, after_gap, more_at, add_to, join_turn, joined_with, joined as joinedValue, of_string}
use Rattle.text_value.specs.Value.{value_here, value_at, value_bytes}
use Rattle.text_past.specs.Past.{past_of}
use Rattle.text_skip.specs.Skip.{closed_token, token_here, token_at, past_token}
use Rattle.text_statement.specs.Statement.{closes, quoted_len, quoted_end, at_semicolon, at_close, part_of, part_at, of_part, statement_turn, statement_from, at_other}
use Rattle.text_statement.specs.Statement.{statement_at, past_statement}
use Rattle.text_utf8.specs.Utf8.{wrong_from, char_turn, seq_len, char_len, one, two, three, second3, four, second4, tail}
use Rattle.text_lent.specs.Lent.{lent_at}
use Rattle.scan_newest.specs.Newest.{newer, newest_from, newest, less}
use Rattle.scan_header.specs.Header.{due_for, after_revision, after_value as afterHeaderValue, passed, kept, with_rest, field_at, later_prefix}
use Rattle.scan_header.specs.Header.{statement_said, tag_said, said_here, said_at}
use Rattle.scan_tag.specs.Tag.{data_at, last_tag, or_tag, tag_at}
use Rattle.scan_metadata.specs.Metadata as Metadata
use Rattle.scan_metadata.specs.Metadata.{told, first_of, values_of, ended, after_heard, metadata_turn, metadata}
use Rattle.scan_block.specs.Block.{or_line, line_kind, kept as keptLine, with_value, with_skipped, after_kind, inside_here, inside_at, after_inside, block_turn}
use Rattle.scan_block.specs.Block.{block_from, block_at}
use Rattle.scan_imports.specs.Statement.{of_body, import_of, with_name, after_name, import_at, include_of, plain_of, block_of, open_or_plain, after_value, include_at}
use Rattle.yangparser.specs.Dependencies.{joined, import_step, include_step, unless_full, import_here, include_here, moved_to, after_token, head_step, step_here, step_at}
use Rattle.yangparser.specs.Dependencies.{after_step, scan_turn, scan_from, scanned, if_fit, dependencies}
use Rattle.scan_head.specs.Head.{last_at, or_head, head_at}
use Rattle.library_form.specs.Form.{groups, number_at, many, printable_at, name_body, name_at}
use Rattle.library_index.specs.Names.{among, add_all, new_name}
use Rattle.library_image.specs.Image.{count_at, counted, module_at, import_only_at, set_at, library_at, image_at}
use Rattle.library_image.specs.Library.{modules_of, import_only_of, submodules_of}
use Rattle.library_items.specs.Items.{library_of}
use Rattle.library_bundle.specs.Bundle.{body_at, filed_at, texts_at, bundle_at, look_up}
use Rattle.library_bundle.specs.Reading.{longest_of, longest_text}
use Rattle.scan_rows.specs.Span.{value_in}
use Rattle.graph_texts.specs.Texts.{import_names, include_names, scan_text, text_of}
use Rattle.graph.specs.Nodes.{add_groups, nodes_by}
use Rattle.graph.specs.Graph.{text_steps, mem_e, add_by, run, walk_from, graph_of}
use Rattle.graph.specs.Numbers.{number_of}
use Rattle.graph_nodes.specs.Adding.{words_at}
use Rattle.yanglib.specs.ToGraph.{graphed}
use Rattle.graph_tables.specs.Tables.{node_words, row_words}
use Rattle.graph_tables.specs.Lengths.{is_too_short}
use Rattle.host_words.specs.Words.{record_words}
use Rattle.nuvaleta.specs.Words.{graph_words}
use Rattle.demands.specs.Starred.{outcome, described, enough, drawn, holds, all, starred, StarredRight}

pub right : StarredRight
unfolding starred all holds enough drawn graphed is_too_short node_words row_words graph_words words_at number_of graph_of walk_from run add_by mem_e text_steps nodes_by
    add_groups add_all among text_of scan_text import_names include_names value_in longest_text longest_of look_up bundle_at texts_at filed_at body_at library_of image_at
    library_at set_at import_only_at module_at counted count_at new_name name_at name_body printable_at many number_at groups modules_of import_only_of submodules_of flat_map
    outcome described record_words metadata Metadata.if_fit Metadata.scanned Metadata.scan_from metadata_turn after_heard ended told first_of values_of newer
    newest_from newest less past_of past_token past_statement breaks_off due_for after_revision afterHeaderValue passed kept with_rest field_at later_prefix statement_said
    tag_said said_here said_at data_at last_tag or_tag tag_at joined import_step include_step unless_full import_here include_here moved_to after_token head_step step_here
    step_at after_step scan_turn scan_from scanned lent_at if_fit dependencies or_match last_at or_head head_at or_line line_kind with_value keptLine with_skipped after_kind
    inside_here inside_at after_inside block_turn block_from block_at of_body import_of with_name after_name import_at include_of plain_of block_of open_or_plain after_value
    include_at argument_of argument_at after_due after_argument line_at escaped escapes str_end str_bytes closed_by str_at is_quote starts_name added_by after_plus after_gap
    more_at add_to join_turn joined_with joinedValue of_string value_here value_at value_bytes closed_token token_here token_at closes quoted_len quoted_end at_semicolon
    at_close part_of part_at of_part statement_turn statement_from statement_at due_number due_here due_at starts_ident ends_keyword same part keyword_at match_at gap_end
    gap_turn after_white comment_end block_end closing pair_at run_end span in_run in_ident class_of turns refused_at is_high at_other
    wrong_from char_turn seq_len char_len one two three second3 four second4 tail
right = tt

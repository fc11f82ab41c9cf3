-- `yangparser::parse_next`. What ends the search decides what the step is.
-- Assumes nothing.
use Rattle.std.specs.Prelude.{Ok}
use Rattle.yangparser.proofs.SeekLaws.{steps_import, steps_include, steps_end, steps_refused, import_step_room, include_step_room}
use borrow.Author.Rules.{rules}
use mathlib.Core.Path.{ap, ◌∙◌}
use Rattle.yangparser.proofs.parse_next.Goals as goal

pub add_import-requires : goal.add_import-requires
add_import-requires c =
    let a = c.args in
    let room = import_step_room a.whole a.s.now a.far.at a.far.used c.seek.ensures c.in-Import.c c.requires.0 (c.in_ok-c.was ∙ ap Ok c.in-Import.is) in
    (room, search rules, search rules, search rules)

pub add_include-requires : goal.add_include-requires
add_include-requires c =
    let a = c.args in
    let room = include_step_room a.whole a.s.now a.far.at a.far.used c.seek.ensures c.in-Include.c c.requires.0 (c.in_ok-c.was ∙ ap Ok c.in-Include.is) in
    (room, search rules, search rules, search rules)

pub returns-in-Import : goal.returns-in-Import
returns-in-Import c =
    let a = c.args in
    steps_import a.whole a.s.now a.far c.seek.ensures c.in-Import.c (c.in_ok-c.was ∙ ap Ok c.in-Import.is) c.add_import.ensures

pub returns-in-Include : goal.returns-in-Include
returns-in-Include c =
    let a = c.args in
    steps_include a.whole a.s.now a.far c.seek.ensures c.in-Include.c (c.in_ok-c.was ∙ ap Ok c.in-Include.is) c.add_include.ensures

pub returns-in-End : goal.returns-in-End
returns-in-End c =
    let a = c.args in
    steps_end a.whole a.s.now a.far c.seek.ensures (c.in_ok-c.was ∙ ap Ok c.in-End.is)

pub returns-in_err-c : goal.returns-in_err-c
returns-in_err-c c =
    let a = c.args in
    steps_refused a.whole a.s.now a.far c.seek.ensures c.in_err-c.field-0.0 c.in_err-c.was (search rules)

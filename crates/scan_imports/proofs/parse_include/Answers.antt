-- `scan_imports::parse_include`. The name, then a block or a semicolon: each way out is a law.
-- Assumes nothing.
use Rattle.scan_imports.proofs.StatementLaws.{argument_grows, inner_room, include_refused, include_open, include_other, include_plain}
use Rattle.text.proofs.Here.{here}
use borrow.Author.Rules.{rules}
use lib.ListN.{length}
use native.Mathlib.Omega.{arith}
use Rattle.scan_imports.proofs.parse_include.Goals as goal

pub returns-in_err-next : goal.returns-in_err-next
returns-in_err-next c =
    let a = c.args in
    let v = c.read_value.ensures in
    let l = include_refused a.whole a.s.now a.here.at a.used a.store.now v.0 v.1 c.in_err-next.field-0.0 c.in_err-next.was in
    (search (rules, l.0), l.1)

pub overflow_sub-n : goal.overflow_sub-n
overflow_sub-n c =
    let a = c.args in
    let v = c.read_value.ensures in
    argument_grows a.whole a.s.now a.here.at a.used 9 c.in_ok-next.next c.in_ok-next.n v.0 c.in_ok-next.was

pub overflow_add-inner : goal.overflow_add-inner
overflow_add-inner c =
    let a = c.args in
    omega (arith, c.well_formed, here a.s.now c.skip_whitespace_and_comments-end.result.at (λ e. omega arith))

pub include_block-requires : goal.include_block-requires
include_block-requires c =
    let a = c.args in
    let v = c.read_value.ensures in
    let room = inner_room a.whole a.s.now a.here.at a.used 9 (length a.store.now) c.in_ok-next.next c.in_ok-next.n v.0 c.in_ok-next.was
    c.skip_whitespace_and_comments-end.ensures c.requires in
    omega (arith, room, c.read_value.auto.store)

pub returns-then-peek_char-eq-OPEN_BRACE : goal.returns-then-peek_char-eq-OPEN_BRACE
returns-then-peek_char-eq-OPEN_BRACE c =
    let a = c.args in
    let v = c.read_value.ensures in
    let b = c.include_block.ensures in
    include_open a.whole a.s.now a.here.at a.used a.store.now v.0 v.1 c.in_ok-next.next c.in_ok-next.n c.in_ok-next.was c.held-submodule_name.ensures
    c.skip_whitespace_and_comments-end.ensures c.peek_char.ensures c.if-peek_char-eq-OPEN_BRACE.true b.0 b.1

pub returns-in_err-after : goal.returns-in_err-after
returns-in_err-after c =
    let a = c.args in
    let v = c.read_value.ensures in
    let l = include_other a.whole a.s.now a.here.at a.used a.store.now v.0 v.1 c.in_ok-next.next c.in_ok-next.n c.in_ok-next.was c.held-submodule_name.ensures
    c.skip_whitespace_and_comments-end.ensures c.peek_char.ensures c.if-peek_char-eq-OPEN_BRACE.false
    c.expect_here.ensures c.in_err-after.field-0.0 c.in_err-after.was in
    (search (rules, l.0), l.1)

pub returns : goal.returns
returns c =
    let a = c.args in
    let v = c.read_value.ensures in
    include_plain a.whole a.s.now a.here.at a.used a.store.now v.0 v.1 c.in_ok-next.next c.in_ok-next.n c.in_ok-next.was c.held-submodule_name.ensures
    c.skip_whitespace_and_comments-end.ensures c.peek_char.ensures c.if-peek_char-eq-OPEN_BRACE.false
    c.expect_here.ensures c.in_ok-after.after c.in_ok-after.was c.missing.ensures

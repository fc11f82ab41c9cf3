-- `scan_imports::parse_import`. The name, then the block: each way out is a law.
-- Assumes nothing.
use Rattle.scan_block.proofs.InsideLaws.{line_grows, room_left}
use Rattle.scan_imports.proofs.StatementLaws.{import_refused, import_broken, import_whole}
use borrow.Author.Rules.{rules}
use lib.ListN.{length}
use native.Mathlib.Omega.{arith}
use Rattle.scan_imports.proofs.parse_import.Goals as goal

pub returns-in_err-next : goal.returns-in_err-next
returns-in_err-next c =
    let a = c.args in
    let v = c.read_argument.ensures in
    let l = import_refused a.whole a.s.now a.here.at a.used a.store.now v.0 v.1 c.in_err-next.field-0.0 c.in_err-next.was in
    (search (rules, l.0), l.1)

pub overflow_sub-n : goal.overflow_sub-n
overflow_sub-n c =
    let a = c.args in
    line_grows a.whole a.s.now a.here.at a.used 8 123 c.in_ok-next.next c.in_ok-next.n (omega arith) c.read_argument.ensures.0 c.in_ok-next.was

pub parse_block-requires : goal.parse_block-requires
parse_block-requires c =
    let a = c.args in
    let room = room_left a.whole a.s.now a.here.at a.used 8 123 (length a.store.now) c.in_ok-next.next c.in_ok-next.n (omega arith)
    c.read_argument.ensures.0 c.in_ok-next.was c.requires in
    omega (arith, room, c.read_argument.auto.store)

pub returns-in_err-body : goal.returns-in_err-body
returns-in_err-body c =
    let a = c.args in
    let v = c.read_argument.ensures in
    let l = import_broken a.whole a.s.now a.here.at a.used a.store.now v.0 v.1 c.in_ok-next.next c.in_ok-next.n c.in_ok-next.was c.parse_block.ensures
    c.in_err-body.field-0.0 c.in_err-body.was in
    (search (rules, l.0), l.1)

pub returns : goal.returns
returns c =
    let a = c.args in
    let v = c.read_argument.ensures in
    import_whole a.whole a.s.now a.here.at a.used a.store.now v.0 v.1 c.in_ok-next.next c.in_ok-next.n c.in_ok-next.was c.parse_block.ensures
    c.held-module_name.ensures c.in_ok-body.body c.in_ok-body.was c.import_of.ensures

-- `scan_block::parse_inside`. Each way out is a law of the statement that stands after the gap.
-- Assumes nothing.
use Rattle.std.specs.Prelude.{Ok}
use Rattle.scan_block.proofs.FarLaws.{kind_value_far}
use Rattle.scan_block.proofs.InsideLaws.{leaves, inside_end, inside_close, inside_value, inside_other}
use Rattle.scan_block.specs.declared.Inside.TheVariants.{Closed}
use Rattle.text.proofs.Here.{here}
use Rattle.text.proofs.Laws.{gap_from, gap_done}
use borrow.Author.Rules.{rules}
use mathlib.Core.Path.{refl, sym, ap, ◌∙◌}
use native.Mathlib.Omega.{arith}
use Rattle.scan_block.proofs.parse_inside.Goals as goal

pub skip_other-requires : goal.skip_other-requires
skip_other-requires c = search (gap_done, rules)

pub returns-then-b-eq-END : goal.returns-then-b-eq-END
returns-then-b-eq-END c =
    let a = c.args in
    leaves
    (inside_end a.whole a.s.now a.keyword a.body c.skip_whitespace_and_comments-here.ensures c.peek_char-b.ensures c.if-b-eq-END.true)
    a.store.now a.body.used (refl, refl)

pub overflow_add-here : goal.overflow_add-here
overflow_add-here c =
    let a = c.args in
    omega (arith, here a.s.now c.skip_whitespace_and_comments-here.result.at (λ e. omega arith))

pub returns-then-b-eq-CLOSE_BRACE : goal.returns-then-b-eq-CLOSE_BRACE
returns-then-b-eq-CLOSE_BRACE c =
    let a = c.args in
    leaves
    (inside_close a.whole a.s.now a.keyword a.body c.skip_whitespace_and_comments-here.ensures c.peek_char-b.ensures
    c.if-b-eq-END.false c.if-b-eq-CLOSE_BRACE.true)
    a.store.now a.body.used (ap (λ b. Ok (Closed b)) c.moved.ensures, refl)

pub read_inside-requires : goal.read_inside-requires
read_inside-requires c =
    let a = c.args in
    let g = c.skip_whitespace_and_comments-here.result.at in
    let far = kind_value_far a.s.now g a.keyword c.in-Some.own c.in-Some.after (sym c.line_kind.ensures ∙ c.in-Some.is) in
    omega (arith, far, gap_from a.s.now a.body.at)

pub returns-in-Some : goal.returns-in-Some
returns-in-Some c =
    let a = c.args in
    leaves
    (inside_value a.whole a.s.now a.keyword a.body c.skip_whitespace_and_comments-here.ensures c.peek_char-b.ensures
    c.if-b-eq-END.false c.if-b-eq-CLOSE_BRACE.false c.line_kind.ensures c.in-Some.own c.in-Some.after c.in-Some.is)
    a.store.now a.body.used c.read_inside.ensures

pub returns-in-None : goal.returns-in-None
returns-in-None c =
    let a = c.args in
    leaves
    (inside_other a.whole a.s.now a.keyword a.body c.skip_whitespace_and_comments-here.ensures c.peek_char-b.ensures
    c.if-b-eq-END.false c.if-b-eq-CLOSE_BRACE.false c.line_kind.ensures c.in-None.is
    c.skip_other.ensures)
    a.store.now a.body.used (refl, refl)

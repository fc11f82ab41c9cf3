-- `text_value::read_identifier`. A name that begins here stands within the text, so its run does, and its bytes fit the room that there is.
-- Assumes nothing.
use Rattle.std.specs.Prelude.{Some}
use Rattle.text.proofs.Laws.{run_from, run_within}
use Rattle.text.specs.declared.Run.TheVariants.{Name}
use Rattle.text_value.proofs.JoinLaws.{name_read, name_none, name_here}
use Rattle.text_value.specs.Value.{value_answer, value_bytes}
use lib.Seq.{sets}
use mathlib.Core.Bool.{true}
use mathlib.Core.Path.{sym, ap, ◌∙◌}
use native.Mathlib.Omega.{arith}
use Rattle.text_value.proofs.read_identifier.Goals as goal

pub returns-then-not-starts_name : goal.returns-then-not-starts_name
unfolding value_answer value_bytes
returns-then-not-starts_name c =
    let a = c.args in
    let e = name_none a.s.now a.here.at c.peek_char.ensures c.starts_name.ensures c.if-not-starts_name.true in
    (sym (ap (value_answer a.used true) e), sym (ap (λ v. sets a.store.now a.used (value_bytes v)) e))

pub copy_part-n-requires : goal.copy_part-n-requires
copy_part-n-requires c =
    let a = c.args in
    let i = name_here a.s.now a.here.at c.peek_char.ensures c.starts_name.ensures c.if-not-starts_name.false in
    omega (arith, run_from Name a.s.now a.here.at, run_within Name a.s.now a.here.at (omega arith))

pub returns : goal.returns
unfolding value_answer value_bytes
returns c =
    let a = c.args in
    let copied = c.copy_part-n.ensures in
    let e = name_read a.s.now a.here.at c.peek_char.ensures c.starts_name.ensures c.if-not-starts_name.false c.run_end-end.ensures in (
      ap (λ n. record { end = record { at = c.run_end-end.result }; used = Some n; closed = true }) copied.0 ∙ sym (ap (value_answer a.used true) e),
      copied.1 ∙ sym (ap (λ v. sets a.store.now a.used (value_bytes v)) e),
    )

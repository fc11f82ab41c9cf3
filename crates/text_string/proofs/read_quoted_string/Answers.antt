-- `text_string::read_quoted_string`. The first pass finds where the string closes and the second copies it, so one that never closes stores
-- nothing.
-- Assumes nothing.
use Rattle.text_string.proofs.StrLaws.{str_whole, str_cut, str_past}
use Rattle.text_string.specs.Str.{answer_of, bytes_of}
use Rattle.std.specs.Prelude.{Some}
use lib.Seq.{sets}
use mathlib.Core.Path.{sym, ap, ◌∙◌}
use Rattle.text_string.proofs.read_quoted_string.Goals as goal

pub returns-then-s-here : goal.returns-then-s-here
unfolding answer_of bytes_of
returns-then-s-here c =
    let a = c.args in
    let e = str_past a.s.now a.here.at c.if-s-here.true in
    (sym (ap (answer_of a.used) e), sym (ap (λ t. sets a.store.now a.used (bytes_of t)) e))

pub returns-in_err-end : goal.returns-in_err-end
unfolding answer_of bytes_of
returns-in_err-end c =
    let a = c.args in
    let e = str_cut a.s.now a.here.at c.if-s-here.false (sym c.close_of.ensures ∙ c.in_err-end.was) in
    (c.from_residual.ensures ∙ sym (ap (answer_of a.used) e), sym (ap (λ t. sets a.store.now a.used (bytes_of t)) e))

pub returns : goal.returns
unfolding answer_of bytes_of
returns c =
    let a = c.args in
    let end = c.in_ok-end.end in
    let copied = c.copy_string-n.ensures in
    let e = str_whole a.s.now a.here.at end c.if-s-here.false (sym c.close_of.ensures ∙ c.in_ok-end.was) in (
      ap (λ n. Some (record { at = end }, n)) copied.0 ∙ sym (ap (answer_of a.used) e),
      copied.1 ∙ sym (ap (λ t. sets a.store.now a.used (bytes_of t)) e),
    )

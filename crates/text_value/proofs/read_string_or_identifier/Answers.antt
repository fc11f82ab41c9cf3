-- `text_value::read_string_or_identifier`. A string's bytes fit between its quotes and what is added fits behind them, so there is room for
-- both; without a quote here the value is the name.
-- Assumes nothing.
use Rattle.text.proofs.Laws.{gap_from}
use Rattle.text_string.proofs.StrLaws.{whole_size, closed_answer, cut_answer}
use Rattle.text_string.specs.Str.{str_at, bytes_of}
use Rattle.text_value.proofs.JoinLaws.{closed_string_lem, closed_cut, closed_name}
use Rattle.text_value.proofs.JoinLaws.{value_string, value_cut, value_other, read_joined, sets_twice}
use Rattle.text_value.specs.Value.{joined, closed_from, value_answer, value_bytes}
use lib.Seq.{sets}
use mathlib.Core.Path.{sym, ap, ap₂, ◌∙◌}
use native.Mathlib.Omega.{arith}
use Rattle.text_value.proofs.read_string_or_identifier.Goals as goal

pub read_identifier-requires : goal.read_identifier-requires
read_identifier-requires c = omega (arith, gap_from c.args.s.now c.args.here.at)

pub returns-then-not-is_quote : goal.returns-then-not-is_quote
returns-then-not-is_quote c =
    let a = c.args in
    let name = c.read_identifier.ensures in
    let g = c.skip_whitespace_and_comments-first.ensures in
    let e = value_other a.s.now a.here.at g c.peek_char.ensures c.is_quote.ensures c.if-not-is_quote.true in
    let y = closed_name a.s.now a.here.at g c.peek_char.ensures c.is_quote.ensures c.if-not-is_quote.true in (
      name.0 ∙ sym (ap₂ (value_answer a.used) y e),
      name.1 ∙ sym (ap (λ v. sets a.store.now a.used (value_bytes v)) e),
    )

pub read_quoted_string-requires : goal.read_quoted_string-requires
read_quoted_string-requires c = omega (arith, gap_from c.args.s.now c.args.here.at)

pub returns-in_default : goal.returns-in_default
unfolding value_answer value_bytes
returns-in_default c =
    let a = c.args in
    let read = c.read_quoted_string in
    let g = c.skip_whitespace_and_comments-first in
    let m = cut_answer a.used (str_at a.s.now g.result.at) (sym read.ensures.0 ∙ c.in_default.is) in
    let e = value_cut a.s.now a.here.at g.ensures c.peek_char.ensures c.is_quote.ensures c.if-not-is_quote.false m.0 in
    let y = closed_cut a.s.now a.here.at g.ensures c.peek_char.ensures c.is_quote.ensures c.if-not-is_quote.false m.0 in (
      sym (ap₂ (value_answer a.used) y e),
      read.ensures.1 ∙ ap (sets a.store.now a.used) m.1 ∙ sym (ap (λ v. sets a.store.now a.used (value_bytes v)) e),
    )

pub read_parts-requires : goal.read_parts-requires
read_parts-requires c =
    let a = c.args in
    let read = c.read_quoted_string in
    let g = c.skip_whitespace_and_comments-first.result.at in
    let str = str_at a.s.now g in
    let m = closed_answer a.used str c.in-Some.next c.in-Some.n (sym read.ensures.0 ∙ c.in-Some.is) in
    omega (arith, whole_size a.s.now g (bytes_of str) c.in-Some.next.at m.0, m.1, gap_from a.s.now a.here.at, read.auto.store)

pub returns : goal.returns
unfolding value_bytes
returns c =
    let a = c.args in
    let read = c.read_quoted_string in
    let all = c.read_parts in
    let g = c.skip_whitespace_and_comments-first in
    let str = str_at a.s.now g.result.at in
    let m = closed_answer a.used str c.in-Some.next c.in-Some.n (sym read.ensures.0 ∙ c.in-Some.is) in
    let next = c.in-Some.next.at in
    let j = joined a.s.now next in
    let e = value_string a.s.now a.here.at g.ensures c.peek_char.ensures c.is_quote.ensures c.if-not-is_quote.false (bytes_of str) next m.0 in
    let y = closed_string_lem a.s.now a.here.at g.ensures c.peek_char.ensures c.is_quote.ensures c.if-not-is_quote.false (bytes_of str) next m.0 in (
      all.ensures.0 ∙ read_joined a.used c.in-Some.n (closed_from a.s.now next) (bytes_of str) j m.1 ∙ sym (ap₂ (value_answer a.used) y e),
      sets_twice a.store.now read.new.store all.new.store a.used c.in-Some.n (bytes_of str) j.bytes read.ensures.1 m.1 all.ensures.1
          ∙ sym (ap (λ v. sets a.store.now a.used (value_bytes v)) e),
    )

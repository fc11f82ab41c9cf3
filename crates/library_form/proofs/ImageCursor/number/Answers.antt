-- `library_form::ImageCursor::number`. Each way out is one law of Numbers.
-- Assumes nothing.
use mathlib.Core.Path.{◌∙◌}
use Rattle.library_form.proofs.Numbers.{none, got_one, got_cut, got_padded, got_two, got_cut3, got_wrong, got_three}
use Rattle.library_form.proofs.ImageCursor.number.Goals as goal

pub returns-in_default : goal.returns-in_default
returns-in_default c = none _ _ c.in_default.ensures.lookup.3

pub returns-then-a-lt-TOP_BIT : goal.returns-then-a-lt-TOP_BIT
returns-then-a-lt-TOP_BIT c =
    let a = c.in-Some.ensures.lookup.3 in
    got_one _ _ a.0 (c.from-a.ensures ∙ a.1 0) c.if-a-lt-TOP_BIT.true

pub returns-in_default-get : goal.returns-in_default-get
returns-in_default-get c =
    let a = c.in-Some.ensures.lookup.3 in
    got_cut _ _ a.0 (c.from-a.ensures ∙ a.1 0) c.if-a-lt-TOP_BIT.false c.in_default-get.ensures.lookup.3

pub returns-then-b-eq0 : goal.returns-then-b-eq0
returns-then-b-eq0 c =
    let a = c.in-Some.ensures.lookup.3 in
    let b = c.in-Some-get.ensures.lookup.3 in
    got_padded _ _ a.0 (c.from-a.ensures ∙ a.1 0) c.if-a-lt-TOP_BIT.false
    b.0 (c.from-b.ensures ∙ b.1 0) c.if-b-eq0.true

pub returns-then-b-lt-TOP_BIT : goal.returns-then-b-lt-TOP_BIT
returns-then-b-lt-TOP_BIT c =
    let a = c.in-Some.ensures.lookup.3 in
    let b = c.in-Some-get.ensures.lookup.3 in
    got_two _ _ a.0 (c.from-a.ensures ∙ a.1 0) c.if-a-lt-TOP_BIT.false
    b.0 (c.from-b.ensures ∙ b.1 0) c.if-b-eq0.false c.if-b-lt-TOP_BIT.true

pub returns-in_default-get-2 : goal.returns-in_default-get-2
returns-in_default-get-2 c =
    let a = c.in-Some.ensures.lookup.3 in
    let b = c.in-Some-get.ensures.lookup.3 in
    got_cut3 _ _ a.0 (c.from-a.ensures ∙ a.1 0) c.if-a-lt-TOP_BIT.false
    b.0 (c.from-b.ensures ∙ b.1 0) c.if-b-lt-TOP_BIT.false c.in_default-get-2.ensures.lookup.3

pub returns-then-c-eq0 : goal.returns-then-c-eq0
returns-then-c-eq0 c =
    let a = c.in-Some.ensures.lookup.3 in
    let b = c.in-Some-get.ensures.lookup.3 in
    let d = c.in-Some-get-2.ensures.lookup.3 in
    got_wrong _ _ a.0 (c.from-a.ensures ∙ a.1 0) c.if-a-lt-TOP_BIT.false
    b.0 (c.from-b.ensures ∙ b.1 0) c.if-b-lt-TOP_BIT.false
    d.0 (c.from-c.ensures ∙ d.1 0) c.then-c-eq0.either

pub returns : goal.returns
returns c =
    let a = c.in-Some.ensures.lookup.3 in
    let b = c.in-Some-get.ensures.lookup.3 in
    let d = c.in-Some-get-2.ensures.lookup.3 in
    got_three _ _ a.0 (c.from-a.ensures ∙ a.1 0) c.if-a-lt-TOP_BIT.false
    b.0 (c.from-b.ensures ∙ b.1 0) c.if-b-lt-TOP_BIT.false
    d.0 (c.from-c.ensures ∙ d.1 0) c.if-c-eq0.false
    c.if-c-ge-TOP_BIT.false

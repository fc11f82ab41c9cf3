use Rattle.library_form.proofs.Handed.{handed}
use Rattle.library_bundle.proofs.Opening.{begun, start_in, space_left, further, too_long, no_count, too_many, wrong_text, extra, opened}
use Rattle.library_bundle.proofs.open.Goals as goal

pub returns-then-s-gt-MOST_BYTES : goal.returns-then-s-gt-MOST_BYTES
returns-then-s-gt-MOST_BYTES c = search too_long

pub returns-in_err-count : goal.returns-in_err-count
returns-in_err-count c = rw (handed _ c.from_residual.ensures.1) (search (no_count, c.in_err-count.ensures))

pub returns-then-count-gt-MOST_TEXTS : goal.returns-then-count-gt-MOST_TEXTS
returns-then-count-gt-MOST_TEXTS c = search (too_many, c.in_ok-count.ensures)

pub loop-i-init : goal.loop-i-init
loop-i-init c = search (begun, start_in, c.in_ok-count.ensures)

pub file-requires : goal.file-requires
file-requires c =
    space_left _ _ _ _ _ _ _ c.loop-i.invariant c.loop-i-test.true c.if-count-gt-MOST_TEXTS.false c.if-s-gt-MOST_BYTES.false

pub returns-in_err-at : goal.returns-in_err-at
returns-in_err-at c = rw (handed _ c.from_residual-in_err-at.ensures.1) (search (wrong_text, c.in_ok-count.ensures, c.in_err-at.ensures))

pub loop-i-preserved : goal.loop-i-preserved
loop-i-preserved c = search (further, c.in_ok-at.ensures)

pub returns-then-at-s : goal.returns-then-at-s
returns-then-at-s c = search (extra, c.in_ok-count.ensures)

pub returns : goal.returns
returns c = search (opened, c.in_ok-count.ensures)

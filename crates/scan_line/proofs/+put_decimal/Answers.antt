use native.Mathlib.Omega.{arith}
use Rattle.scan_line.proofs.Decimal.{one_room, one_digit, first_room, last_room, last_digit}
use Rattle.scan_line.proofs.+put_decimal.Goals as goal

pub bounds-page-at : goal.bounds-page-at
bounds-page-at t c = one_room c.args.page.now c.args.at c.args.n c.if-n-lt10.true c.requires

pub returns-then-n-lt10 : goal.returns-then-n-lt10
returns-then-n-lt10 t c = one_digit c.args.page.now c.args.at c.args.n c.if-n-lt10.true c.digit_of.ensures

pub put_decimal-last-requires : goal.put_decimal-last-requires
put_decimal-last-requires t c =
    let less = c.if-n-lt10.false in
    (omega (arith, less, c.decreases), first_room c.args.page.now c.args.at c.args.n less c.ranges.n.fits c.requires)

pub bounds-page-last : goal.bounds-page-last
bounds-page-last t c =
    last_room c.args.page.now c.args.at c.args.n c.if-n-lt10.false c.ranges.n.fits c.put_decimal-last.ensures c.requires

pub overflow_add-result-2 : goal.overflow_add-result-2
overflow_add-result-2 t c = omega (arith, bounds-page-last t c, c.put_decimal-last.auto.page)

pub returns : goal.returns
returns t c =
    last_digit c.args.page.now c.args.at c.args.n c.if-n-lt10.false c.ranges.n.fits c.put_decimal-last.ensures c.digit_of-2.ensures

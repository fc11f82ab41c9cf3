-- `scan_line::put_decimal`, which calls itself with the number without its last digit.
-- Assumes nothing.
use Rattle.scan_line.proofs.+put_decimal.Given as goal

abbrev pub decreases-put_decimal : goal.decreases-put_decimal
decreases-put_decimal l = l.n

-- `text::put_decimal` meets its contract: one digit, or those of a tenth and then the last. Assumes nothing.
use Rattle.std.proofs.Common.{ap, arith, length, length-append}
use Rattle.text.proofs.Writing.{◌then◌}
use Rattle.text.proofs.Digits.{decimal_one, decimal_more}
use Rattle.text.proofs.+put_decimal.Goals as goal

pub put_one-requires : goal.put_one-requires
put_one-requires t c = omega (arith, ap length (decimal_one c.args.n (omega arith)))

pub put_decimal-at-requires : goal.put_decimal-at-requires
put_decimal-at-requires t c =
    let n = c.args.n in
    (omega arith, omega (arith, simp length-append at (ap length (decimal_more n (omega arith) (omega arith)))))

pub put_one-requires-else-n-lt10 : goal.put_one-requires-else-n-lt10
put_one-requires-else-n-lt10 t c =
    omega (arith, simp length-append at (ap length (decimal_more c.args.n (omega arith) (omega arith))))

pub returns-then-n-lt10 : goal.returns-then-n-lt10
returns-then-n-lt10 t c = rw (decimal_one c.args.n (omega arith)) c.put_one.ensures

pub returns-else-n-lt10 : goal.returns-else-n-lt10
returns-else-n-lt10 t c =
    rw (decimal_more c.args.n (omega arith) (omega arith))
    (c.put_decimal-at.ensures then c.put_one-else-n-lt10.ensures)

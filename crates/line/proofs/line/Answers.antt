-- `line::line` meets its contract: a line fits 96 bytes, so that only its length decides. Assumes nothing.
use native.Mathlib.Omega.{arith}
use lib.ListN.{length-take}
use Rattle.text.proofs.Writing.{front}
use Rattle.text.proofs.Settled.{fits, ends_within}
use Rattle.line_spelling.proofs.Fits.{line_fits}
use Rattle.line.proofs.line.Goals as goal

pub put_line-requires : goal.put_line-requires
put_line-requires c = omega (arith, line_fits c.args.addr c.args.word)

pub returns-then-out-ge-MOST-clause-value : goal.returns-then-out-ge-MOST-clause-value
returns-then-out-ge-MOST-clause-value c = (fits (omega (arith, line_fits c.args.addr c.args.word)) c.put_line.ensures).0

pub returns-then-out-ge-MOST-clause-out_after : goal.returns-then-out-ge-MOST-clause-out_after
returns-then-out-ge-MOST-clause-out_after c = (fits (omega (arith, line_fits c.args.addr c.args.word)) c.put_line.ensures).1

pub put_line-len-requires : goal.put_line-len-requires
put_line-len-requires c = omega (arith, line_fits c.args.addr c.args.word)

pub slice_bounds-whole-end : goal.slice_bounds-whole-end
slice_bounds-whole-end c =
    omega (arith, ends_within c.put_line-len.ensures c.put_line-len.auto.out (line_fits c.args.addr c.args.word))

pub slice_bounds-put_whole-end : goal.slice_bounds-put_whole-end
slice_bounds-put_whole-end c =
    simp length-take
    (omega (arith, ends_within c.put_line-len.ensures c.put_line-len.auto.out (line_fits c.args.addr c.args.word)))

pub returns-clause-value : goal.returns-clause-value
returns-clause-value c = rw (front c.put_line-len.ensures) at c.put_whole.ensures.value

pub returns-clause-out_after : goal.returns-clause-out_after
returns-clause-out_after c = rw (front c.put_line-len.ensures) at c.put_whole.ensures.out_after

-- `brassdozen::brassdozen_line` meets its contract. Assumes nothing.
use native.Mathlib.Omega.{arith}
use Rattle.line_spelling.specs.Line.{line_of}
use Rattle.line_spelling.proofs.Fits.{line_fits}
use Rattle.brassdozen.proofs.From.{no_longer}
use Rattle.brassdozen.proofs.brassdozen_line.Goals as goal

pub pack_len-requires : goal.pack_len-requires
pack_len-requires c =
    let short = no_longer (line_of c.args.addr c.args.word) c.args.out.now c.line.ensures.value in
    omega (arith, short, line_fits c.args.addr c.args.word)

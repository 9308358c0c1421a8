-- `line::put_refused` meets its contract. Assumes nothing.
use native.Mathlib.Omega.{arith}
use lib.ListN.{length-append}
use Rattle.text.proofs.Writing.{◌then◌}
use Rattle.line_spelling.specs.Line.{refused_text}
use Rattle.line.proofs.put_refused.Goals as goal

pub put-at-requires : goal.put-at-requires
put-at-requires c = unfold refused_text in omega (arith, simp length-append at c.requires)

pub put_decimal-requires : goal.put_decimal-requires
put_decimal-requires c = unfold refused_text in omega (arith, simp length-append at c.requires)

pub returns : goal.returns
returns c = unfold refused_text in
    c.put-at.ensures then c.put_decimal.ensures

-- `line::put_insn` meets its contract. Assumes nothing.
use native.Mathlib.Omega.{arith}
use lib.ListN.{length-append}
use Rattle.text.proofs.Writing.{◌then◌}
use Rattle.line_spelling.specs.Line.{insn_text}
use Rattle.line.proofs.put_insn.Goals as goal

pub put_name-at-requires : goal.put_name-at-requires
put_name-at-requires c = unfold insn_text in omega (arith, simp length-append at c.requires)

pub put_places-at-requires : goal.put_places-at-requires
put_places-at-requires c = unfold insn_text in omega (arith, simp length-append at c.requires)

pub put_one-at-requires : goal.put_one-at-requires
unfolding insn_text
put_one-at-requires c =
    omega (arith, simp length-append at c.requires)

pub put_flow-requires : goal.put_flow-requires
unfolding insn_text
put_flow-requires c =
    omega (
      arith,
      simp length-append at c.requires,
    )

pub returns : goal.returns
returns c = unfold insn_text in
    c.put_name-at.ensures then c.put_places-at.ensures then c.put_one-at.ensures then c.put_flow.ensures

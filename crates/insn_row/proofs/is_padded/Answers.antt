-- `row::is_padded` meets its contract: a row that is too short has the numbers of the one that is compared in its place. Assumes nothing.
use mathlib.Core.Path.{◌∙◌}
use native.Mathlib.Omega.{arith}
use Rattle.insn_row.specs.Row.{row_of}
use Rattle.insn_row.proofs.Holds.{alike}
use Rattle.insn_row.proofs.Sizes.{row_size}
use Rattle.insn_row.proofs.is_padded.Goals as goal

pub has_insn-requires : goal.has_insn-requires
has_insn-requires c = omega (arith, c.padded-whole.ensures.result_len, row_size c.args.i (omega arith))

pub returns : goal.returns
returns c =
    c.has_insn.ensures.is
    ∙ alike c.args.row.now c.padded-whole.result 0 (row_of c.args.i)
    (λ k below. c.padded-whole.ensures.by_index k (omega (arith, row_size c.args.i (omega arith))))

-- No second result fits a contract. Each line is about the contract itself, as the check reads it from the source.
-- Assumes nothing.
use mathlib.Core.Path.{◌∙◌, sym}
use Rattle.word.specs.Only.{Only}
use Rattle.insn_value.proofs.insn_from.Reads as insn_from
use Rattle.insn_value.proofs.number.Reads as number

pub insn_from_only : Only insn_from.Post
insn_from_only κs a r r' s s' p q = p ∙ sym q

pub number_only : Only number.Post
number_only κs a r r' s s' p q = p ∙ sym q

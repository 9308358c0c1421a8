-- No second result fits a contract. Each line is about the contract itself, as the check reads it from the source. Assumes nothing.
use Rattle.std.proofs.Common.{◌∙◌, sym}
use Rattle.word.specs.Only.{Only}
use Rattle.manual_flows.proofs.flow_of.Reads as flow_of

pub flow_of_only : Only flow_of.Post
flow_of_only κs a r r' s s' p q = p 0 ∙ sym (q 0)

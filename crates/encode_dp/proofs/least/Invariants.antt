-- `dp_words::least` meets its contract. The invariant: what is left to try gives what all gives. Assumes nothing.
use Rattle.std.proofs.Common.{◌≡◌, ◌-◌}
use Rattle.a32_imm.specs.Imm.{least_from}
use Rattle.encode_dp.proofs.least.Given as goal

abbrev pub invariant-loop-r : goal.invariant-loop-r
invariant-loop-r l = least_from (16 - l.r) l.r l.v ≡ least_from 16 0 l.v

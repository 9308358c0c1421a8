-- `a32_shared::registers` meets its contract. The loop's invariant: the registers so far are filled in. Assumes nothing.
use Rattle.std.proofs.Common.{◌≡◌, map, take}
use Rattle.insn.specs.Answer.{insn_of, places}
use Rattle.a32_shared.specs.Row.{cond_of, reg_of}
use Rattle.a32_shared.proofs.registers.Given as goal

abbrev pub invariant-loop-n : goal.invariant-loop-n
invariant-loop-n g l = l.i ≡ insn_of l.addr l.name (cond_of l.w) l.fn.flow (places (map (reg_of l.w) (take l.n l.lo-items)))

-- `brassdozen::brassdozen_replace` meets its contract: there are few enough calls for 32 bits. Assumes nothing.
use native.Mathlib.Omega.{arith}
use Rattle.callers.proofs.Answers.{replaced_small}
use Rattle.brassdozen.proofs.brassdozen_replace.Goals as goal

pub pack_len-requires : goal.pack_len-requires
pack_len-requires c = omega (arith, replaced_small c.replace.ensures)

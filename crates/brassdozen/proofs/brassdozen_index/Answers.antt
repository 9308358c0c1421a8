-- `brassdozen::brassdozen_index` meets its contract: there are few enough calls for 32 bits. Assumes nothing.
use native.Mathlib.Omega.{arith}
use Rattle.callers.proofs.Answers.{built_small}
use Rattle.brassdozen.proofs.brassdozen_index.Goals as goal

pub pack_len-requires : goal.pack_len-requires
pack_len-requires c = omega (arith, built_small c.build.ensures)

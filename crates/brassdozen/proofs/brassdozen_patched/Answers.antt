-- `brassdozen::brassdozen_patched` meets its contract. Assumes nothing.
use Rattle.patched.proofs.Short.{given_short}
use Rattle.brassdozen.proofs.brassdozen_patched.Goals as goal

pub pack_len-requires : goal.pack_len-requires
pack_len-requires c = rw c.patched.ensures.value (given_short c.args.section.now c.args.patch.now c.args.out.now)

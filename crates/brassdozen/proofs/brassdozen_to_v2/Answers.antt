-- `brassdozen::brassdozen_to_v2` meets its contract. Assumes nothing.
use Rattle.section_convert.specs.declared.Target.TheVariants.{Two}
use Rattle.section_convert.proofs.Short.{given_short}
use Rattle.brassdozen.proofs.brassdozen_to_v2.Goals as goal

pub pack_len-requires : goal.pack_len-requires
pack_len-requires c = rw c.convert.ensures.value (given_short Two c.args.section.now c.args.out.now)

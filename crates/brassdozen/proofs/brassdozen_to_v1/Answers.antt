-- `brassdozen::brassdozen_to_v1` meets its contract. Assumes nothing.
use Rattle.section_convert.specs.declared.Target.TheVariants.{One}
use Rattle.section_convert.proofs.Short.{given_short}
use Rattle.brassdozen.proofs.brassdozen_to_v1.Goals as goal

pub pack_len-requires : goal.pack_len-requires
pack_len-requires c = rw c.convert.ensures.value (given_short One c.args.section.now c.args.out.now)

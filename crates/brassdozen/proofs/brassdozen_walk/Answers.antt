-- `brassdozen::brassdozen_walk` meets its contract: there are few enough records and words for 16 bits each. Assumes nothing.
use mathlib.Core.Path.{subst}
use native.Mathlib.Omega.{arith}
use Rattle.walk.proofs.Small.{Small, small}
use Rattle.brassdozen.proofs.brassdozen_walk.Goals as goal

pub overflow_cast-walked : goal.overflow_cast-walked
overflow_cast-walked c = let few = subst Small c.in-Ok.is (small c.walk.ensures) in omega (arith, few.0, few.1)

pub overflow_mul-walked : goal.overflow_mul-walked
overflow_mul-walked c = let few = subst Small c.in-Ok.is (small c.walk.ensures) in record { fits = omega (arith, few.0, few.1) }

pub overflow_cast-walked-in-Ok : goal.overflow_cast-walked-in-Ok
overflow_cast-walked-in-Ok c = let few = subst Small c.in-Ok.is (small c.walk.ensures) in omega (arith, few.0, few.1)

pub overflow_add-walked : goal.overflow_add-walked
overflow_add-walked c = let few = subst Small c.in-Ok.is (small c.walk.ensures) in record { fits = omega (arith, few.0, few.1) }

-- `brassdozen::brassdozen_home_form` meets its contract: there are few enough changes for 16 bits. Assumes nothing.
use mathlib.Core.Path.{subst}
use native.Mathlib.Omega.{arith}
use Rattle.home_form.proofs.Answers.{Small, small}
use Rattle.brassdozen.proofs.brassdozen_home_form.Goals as goal

pub overflow_cast-changed : goal.overflow_cast-changed
overflow_cast-changed c = let few = subst Small c.in-Ok.is (small c.home_form.ensures) in omega (arith, few.0, few.1)

pub overflow_mul-changed : goal.overflow_mul-changed
overflow_mul-changed c = let few = subst Small c.in-Ok.is (small c.home_form.ensures) in record { fits = omega (arith, few.0, few.1) }

pub overflow_cast-changed-in-Ok : goal.overflow_cast-changed-in-Ok
overflow_cast-changed-in-Ok c = let few = subst Small c.in-Ok.is (small c.home_form.ensures) in omega (arith, few.0, few.1)

pub overflow_add-changed : goal.overflow_add-changed
overflow_add-changed c = let few = subst Small c.in-Ok.is (small c.home_form.ensures) in record { fits = omega (arith, few.0, few.1) }

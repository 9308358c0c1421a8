-- `rule_verdict::trace` meets its contract. The loop's invariant: the places from `i` on are written, and `y` is the node before them.
-- Assumes nothing.
use mathlib.Core.Path.{◌≡◌, ap}
use Prim.Native.Nat.{ℕ, suc, ◌+◌, ◌-◌}
use native.Mathlib.Omega.{arith}
use lib.ListN.{get_or}
use Rattle.rule_verdict.specs.Parts.{back}
use Rattle.rule_verdict.proofs.Looking.{write_on}
use Rattle.rule_verdict.proofs.trace.Goals as goal

pub loop-i-preserved : goal.loop-i-preserved
loop-i-preserved c =
    let now = c.loop-i in
    let a = c.args in
    let i = now.i - 1 in
    let F = a.from.now in
    let more = c.loop-i-test.true in
    let same : a.d + 1 - now.i ≡ a.d - i = omega (arith, more, now.auto.i) in
    let next : a.d + 1 - i ≡ suc (a.d - i) = omega (arith, more, now.auto.i) in
    let here : now.y ≡ back F a.x (a.d - i) = rw same at now.invariant.0 in
    let (written, rest) = write_on F a.x a.d a.way.now now.way i now.y (omega (arith, more, now.auto.i)) (omega (arith, more, now.auto.i, now.auto.way, c.requires.1))
    here (λ j l u. now.invariant.1 j (omega (arith, more)) u) now.invariant.2 in
    (rw next (ap (λ (z : ℕ). get_or F z 0) here), written, rest)

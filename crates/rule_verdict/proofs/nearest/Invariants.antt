-- `rule_verdict::nearest` meets its contract. The loop's invariant: the places before `p` are looked at. Assumes nothing.
use Rattle.rule_verdict.specs.Parts.{Nearest}
use Rattle.rule_verdict.proofs.nearest.Given as goal

abbrev pub invariant-loop-p : goal.invariant-loop-p
invariant-loop-p l = Nearest l.program.flags.now l.dist l.p l.best

-- No program has two verdicts. Assumes nothing.
use mathlib.Core.Path.{◌≡◌, refl}
use Rattle.rule_runs.specs.Runs.{Program, Verdict, Verdict.violated, Verdict.undecided, Verdict.holds, Judges}

pub one_verdict : (P : Program) (v w : Verdict) → Judges P v → Judges P w → v ≡ w
one_verdict P violated violated x y = refl
one_verdict P violated undecided x y = absurd (y.0 x)
one_verdict P violated holds x y = absurd (y.0 x)
one_verdict P undecided violated x y = absurd (x.0 y)
one_verdict P undecided undecided x y = refl
one_verdict P undecided holds x y = absurd (y.1 x.1)
one_verdict P holds violated x y = absurd (x.0 y)
one_verdict P holds undecided x y = absurd (x.1 y.1)
one_verdict P holds holds x y = refl

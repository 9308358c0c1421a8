-- Whether a column is a number, as a digit.
use Rattle.std.specs.Prelude.{ℕ, eqb}
use Rattle.word.specs.Choice.{pick}

abbrev pub is_of : ℕ → ℕ → ℕ
is_of x v = pick (eqb x v) 1 0

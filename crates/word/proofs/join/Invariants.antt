-- `word::join` meets its contract. The loop's invariant: the fields from `n` on are joined. Assumes nothing.
use Rattle.std.proofs.Common.{◌≡◌, ◌%◌, ◌^◌, drop}
use Rattle.word.specs.Layout.{join}
use Rattle.word.proofs.join.Given as goal

abbrev pub invariant-loop-n : goal.invariant-loop-n
invariant-loop-n l = l.w ≡ join (drop l.n l.widths) (drop l.n l.values) % 2 ^ 32

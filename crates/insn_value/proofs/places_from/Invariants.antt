-- `value::places_from` meets its contract. The loop's invariant: the places so far are the row's, and the others unused. Assumes nothing.
use mathlib.Core.Path.{◌≡◌}
use Prim.Native.Nat.{ℕ, ◌<◌, ◌≤◌}
use lib.ListN.{length, take}
use Rattle.insn.specs.Answer.{PLACES, unused, place_at}
use Rattle.insn_value.specs.Value.{places_from}
use Rattle.insn_value.proofs.places_from.Given as goal

abbrev pub invariant-loop-n : goal.invariant-loop-n
invariant-loop-n l = (length l.ops ≡ PLACES) × (take l.n l.ops ≡ places_from l.row l.n) × ((p : ℕ) → l.n ≤ p → p < PLACES → place_at l.ops p ≡ unused)

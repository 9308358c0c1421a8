-- `a32_digest::State::places` meets its contract. The loop's invariant: the numbers of the places passed are mixed in. Assumes nothing.
use Rattle.std.proofs.Common.{◌≡◌, take}
use Rattle.a32_digest.specs.Numbers.{places_numbers}
use Rattle.a32_digest.specs.Digest.{mixed}
use Rattle.a32_digest.proofs.State.places.Given as goal

abbrev pub invariant-loop-place : goal.invariant-loop-place
invariant-loop-place l = l.s.0 ≡ mixed l.initial.s.0 (places_numbers (take l.place-index l.place-items))

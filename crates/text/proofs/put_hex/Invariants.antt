-- `text::put_hex` meets its contract. The loop's invariant: the digits above the lowest `left` are written. Assumes nothing.
use mathlib.Core.Path.{◌≡◌}
use Prim.Native.Nat.{◌-◌, ◌*◌, ◌/◌, ◌^◌}
use lib.ListN.{length}
use Rattle.text.specs.Text.{hex_of}
use Rattle.text.specs.Put.{Put}
use Rattle.text.proofs.put_hex.Given as goal

abbrev pub invariant-loop-left : goal.invariant-loop-left
invariant-loop-left l = (length l.out ≡ length l.initial.out) × Put l.initial.out l.at-2 (hex_of (l.digits - l.left) (l.n / 2 ^ (4 * l.left))) l.at l.out

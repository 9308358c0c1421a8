-- `text::put_hex` meets its contract. The loop's invariant: the digits above the lowest `left` are written. Assumes nothing.
use mathlib.Core.Path.{refl, ◌∙◌}
use Prim.Native.Nat.{◌-◌, ◌*◌, ◌/◌, ◌^◌}
use native.Mathlib.Nat.{sub_self}
use native.Mathlib.Omega.{arith}
use Rattle.text.specs.Text.{hex_of}
use Rattle.text.proofs.Writing.{none, ◌then◌}
use Rattle.text.proofs.Digits.{hex_size, hex_more}
use Rattle.text.proofs.put_hex.Goals as goal

pub loop-left-init : goal.loop-left-init
loop-left-init c = unfold hex_of in (refl, rw (sub_self c.args.digits) (none _ _))

pub put_one-at-requires : goal.put_one-at-requires
put_one-at-requires c =
    let now = c.loop-left in
    let given = c.args in
    omega (arith, hex_size (given.digits - now.left) (given.n / 2 ^ (4 * now.left)), hex_size given.digits given.n)

pub loop-left-preserved : goal.loop-left-preserved
loop-left-preserved c =
    let now = c.loop-left in
    let given = c.args in (
      c.put_one-at.auto.out ∙ now.invariant.0,
      rw (hex_more given.digits given.n now.left (omega arith) (omega arith), ← c.hex_digit.ensures)
          (now.invariant.1 then c.put_one-at.ensures),
    )

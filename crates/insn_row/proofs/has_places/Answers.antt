-- `row::has_places` meets its contract. The loop's invariant: the row has the places passed. Assumes nothing.
use mathlib.Core.Path.{◌≡◌, refl, subst}
use mathlib.Core.Bool.{Bool, true, false}
use mathlib.Core.List.{List}
use Prim.Native.Nat.{ℕ, suc, ◌+◌, ◌*◌, ◌<◌}
use native.Mathlib.Omega.{arith}
use lib.ListN.{length, take, drop}
use Rattle.insn.specs.Answer.{place_at}
use Rattle.insn.specs.declared.Place.{Place}
use Rattle.insn.proofs.Places.{one_more, in_turn}
use Rattle.insn_row.specs.Row.{operand_row, places_row, Told}
use Rattle.insn_row.proofs.Holds.{on, off}
use Rattle.insn_row.proofs.Sizes.{places_size, size_before}
use Rattle.insn_row.proofs.has_places.Goals as goal

-- place n, where the row has those before it
module _ (row : List ℕ) (ops : List Place) (n : ℕ) {r : Bool} (there : n < length ops) (before : Told row 5 (places_row (take n ops)) true)
    (here : Told row (5 + 11 * n) (operand_row (place_at ops n).operand) r) where
  next : Told row (5 + length (places_row (take n ops))) (operand_row (place_at ops n).operand) r
  next = rw (size_before ops n (omega arith)) here

  equal : r ≡ true → Told row 5 (places_row (take (n + 1) ops)) true
  equal e = rw (one_more operand_row ops n there) (on before refl (subst (Told row _ _) e next))

  unequal : r ≡ false → Told row 5 (places_row ops) false
  unequal e = rw (in_turn operand_row ops n there) (on before refl (off (places_row (drop (suc n) ops)) next e))

pub has_operand-requires : goal.has_operand-requires
has_operand-requires c =
    omega (arith, c.requires, places_size c.args.i.ops)

pub returns-then-not-has_operand : goal.returns-then-not-has_operand
returns-then-not-has_operand c =
    let loop = c.loop-n in
    unequal _ c.args.i.ops loop.n (omega arith) loop.invariant c.has_operand.ensures
    (c.if-not-has_operand.true)

pub loop-n-preserved : goal.loop-n-preserved
loop-n-preserved c =
    let loop = c.loop-n in
    equal _ c.args.i.ops loop.n (omega arith) loop.invariant c.has_operand.ensures (c.if-not-has_operand.false)

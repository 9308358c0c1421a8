-- `ldst::extra_ldst::pair` meets its contract. Assumes nothing.
use Rattle.std.proofs.Common.{◌≡◌, ne_eqb, ◌+◌, ◌%◌, ◌<◌, mod-eq_of_lt, arith}
use Rattle.word.specs.Field.{small}
use Rattle.a32_ldst.proofs.extra_ldst.pair.Goals as goal

-- an even register is not the last of the sixteen
next : (c : goal.After-with-3) → (c.bits-rd.result + 1) % 16 ≡ c.bits-rd.result + 1
next c = mod-eq_of_lt (omega (arith, of_sixteen))
  where
    of_sixteen : c.bits-rd.result < 16
    of_sixteen = rw c.bits-rd.ensures (small _ 12 4)

pub returns : goal.returns
returns c =
    simp (
      next c,
      c.with-3.ensures,
      c.memory.ensures,
      c.with-2.ensures,
      c.reg.ensures,
      c.with.ensures,
      c.op_at.ensures,
      c.at.ensures,
      ne_eqb _ _ c.if-rd-eq1.false,
      ← c.bits-rd.ensures,
    )

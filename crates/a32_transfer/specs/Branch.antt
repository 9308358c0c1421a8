-- 01, "Branch": "27:25 = 101: target is the low 32 bits of address + 8 + 4 x signed 23:0, wrapping at 2^32".
use Rattle.std.specs.Prelude.{ℕ, ◌+◌, ◌*◌, ◌%◌, ◌^◌, [], ◌∷◌, ◌==◌}
use Rattle.word.specs.Field.{field}
use Rattle.word.specs.Choice.{pick}
use Rattle.word.specs.Signed.{sext_of}
use Rattle.insn.specs.Roots.{name}
use Rattle.insn.specs.Answer.{Decoded}
use Rattle.insn.specs.declared.Flow.{Flow}
use Rattle.insn.specs.declared.Flow.TheVariants.{Branch, CondBranch, Call}
use Rattle.insn.specs.declared.Operand.TheVariants.{Address}
use Rattle.a32_shared.specs.Row.{answer}

-- four times a signed number of 24 bits is a signed number of 26
unfoldable pub target_from : ℕ → ℕ → ℕ → ℕ
target_from w addr extra = (addr + 8 + sext_of (4 * field w 0 24) 26 + extra) % 2 ^ 32

abbrev pub going_to : ℕ → ℕ → ℕ → Flow → ℕ → Decoded
going_to w addr name flow to = answer w addr name flow (Address to ∷ [])

-- "Bit 24 set: bl, call. Clear: b; branch under condition 14, else conditional branch."
abbrev pub branch_of : ℕ → ℕ → Decoded
branch_of w addr =
    pick (field w 24 1 == 1) (going_to w addr (name "bl") (Call to) to)
    (pick (field w 28 4 == 14) (going_to w addr (name "b") (Branch to) to) (going_to w addr (name "b") (CondBranch to) to))
  where
    to : ℕ
    to = target_from w addr 0

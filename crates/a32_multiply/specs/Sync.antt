-- 01, "Exclusives": "27:24 = 0001, 7:4 = 1001, by 23:20: 8 strex, 9 ldrex, 12 strexb, 13 ldrexb, 14 strexh, 15 ldrexh; loads Rd, memory at Rn; stores
-- Rd, Rm, memory; size 4, with `b` 1, with `h` 2".
use Rattle.std.specs.Prelude.{[], ◌∷◌, ℕ, pos}
use Rattle.word.specs.Field.{field}
use Rattle.insn.specs.Memory.{base_disp}
use Rattle.insn.specs.Roots.{name}
use Rattle.insn.specs.Answer.{Decoded}
use Rattle.insn.specs.declared.Flow.TheVariants.{Next}
use Rattle.insn.specs.declared.Operand.{Operand}
use Rattle.insn.specs.declared.Operand.TheVariants.{Memory}
use Rattle.a32_shared.specs.Row.{among, ◌⇒◌, rd, rn, rm, reg_of, register_of, answer}

abbrev pub memory_of : ℕ → ℕ → Operand
memory_of w size = Memory (base_disp (register_of w rn) (pos 0) size)

abbrev pub load_of : ℕ → ℕ → ℕ → ℕ → Decoded
load_of w addr name size = answer w addr name Next (reg_of w rd ∷ memory_of w size ∷ [])

abbrev pub store_of : ℕ → ℕ → ℕ → ℕ → Decoded
store_of w addr name size = answer w addr name Next (reg_of w rd ∷ reg_of w rm ∷ memory_of w size ∷ [])

abbrev pub sync_of : ℕ → ℕ → Decoded
sync_of w addr =
    among (field w 20 4)
    (
    8 ⇒ store_of w addr (name "strex") 4 ∷
    9 ⇒ load_of w addr (name "ldrex") 4 ∷
    12 ⇒ store_of w addr (name "strexb") 1 ∷
    13 ⇒ load_of w addr (name "ldrexb") 1 ∷
    14 ⇒ store_of w addr (name "strexh") 2 ∷
    15 ⇒ load_of w addr (name "ldrexh") 2 ∷
    []
    )

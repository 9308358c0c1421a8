-- 01, "Rows, condition 15", and 02, P1.
use Rattle.std.specs.Prelude.{ℕ, ◌*◌, Bool, [], ◌∷◌, ◌==◌}
use Rattle.word.specs.Field.{field}
use Rattle.word.specs.Choice.{pick, both}
use Rattle.insn.specs.Memory.{base_disp}
use Rattle.insn.specs.Roots.{name}
use Rattle.insn.specs.Answer.{Decoded}
use Rattle.insn.specs.declared.Flow.TheVariants.{Next, Call}
use Rattle.insn.specs.declared.Operand.{Operand}
use Rattle.insn.specs.declared.Operand.TheVariants.{Memory, Option}
use Rattle.a32_shared.specs.Row.{among, ◌⇒◌, rd, rn, register_of, answer, no_row}
use Rattle.a32_ldst.specs.Mem.{disp_of}
use Rattle.a32_transfer.specs.Branch.{target_from, going_to}

-- "27:25 = 101: blx, call, target as above plus twice bit 24"
abbrev pub blx_of : ℕ → ℕ → Decoded
blx_of w addr = going_to w addr (name "blx") (Call to) to
  where
    to : ℕ
    to = target_from w addr (field w 24 1 * 2)

-- 02, P1: "27:8 is 0x57ff0"
unfoldable pub barrier_slot : ℕ → Bool
barrier_slot w = field w 8 20 == 0x57ff0

-- "one operand of a new kind, the option, which holds 3:0 itself"
abbrev pub optioned_of : ℕ → ℕ → ℕ → Decoded
optioned_of w addr name = answer w addr name Next (Option (field w 0 4) ∷ [])

-- "bits 7:4 give 1 clrex, 4 dsb, 5 dmb, 6 isb, the last three with one operand"; "3 for any other 7:4"
abbrev pub barrier_of : ℕ → ℕ → Decoded
barrier_of w addr =
    among (field w 4 4)
    (
    1 ⇒ answer w addr (name "clrex") Next [] ∷
    4 ⇒ optioned_of w addr (name "dsb") ∷
    5 ⇒ optioned_of w addr (name "dmb") ∷
    6 ⇒ optioned_of w addr (name "isb") ∷
    []
    )

-- 01: "27:26 = 01, 25 clear, 24 set, 15:12 = 15"; 02, P1: "21:20 must be 01", "and all twelve offset bits count"
unfoldable pub preload_slot : ℕ → Bool
preload_slot w = both (field w 24 4 == 5) (both (field w rd 4 == 15) (field w 20 2 == 1))

-- 02, P1: "bit 22 set is pld and clear is pldw"
abbrev pub preload_name : ℕ → ℕ
preload_name w = pick (field w 22 1 == 0) (name "pldw") (name "pld")

-- 01: "size 1, displacement 11:0 signed by U"
abbrev pub memory_of : ℕ → Operand
memory_of w = Memory (base_disp (register_of w rn) (disp_of w (field w 0 12)) 1)

abbrev pub preload_of : ℕ → ℕ → Decoded
preload_of w addr = answer w addr (preload_name w) Next (memory_of w ∷ [])

-- "All else refused"
abbrev pub unconditional_of : ℕ → ℕ → Decoded
unconditional_of w addr =
    pick (field w 25 3 == 5) (blx_of w addr)
    (pick (barrier_slot w) (barrier_of w addr)
    (pick (preload_slot w) (preload_of w addr) no_row))

-- 01, "Load/store": "27:25 = 010, or 011 with bit 4 clear".
use Rattle.std.specs.Prelude.{Bool, not, [], ◌∷◌, ℕ, eqb}
use Rattle.word.specs.Field.{field}
use Rattle.word.specs.Choice.{pick, both}
use Rattle.insn.specs.Roots.{name}
use Rattle.insn.specs.Answer.{Decoded}
use Rattle.insn.specs.declared.Flow.{Flow}
use Rattle.insn.specs.declared.Flow.TheVariants.{Next}
use Rattle.insn.specs.declared.Operand.{Operand}
use Rattle.a32_shared.specs.Row.{rd, reg_of, pc_flow, answer, no_row}
use Rattle.a32_ldst.specs.Mem.{U, L, is_clear, is_set, unprivileged_of, mode_of, is_offset, post_of, minus_zero_of, with_disp_of, with_index_of}

-- "010, or 011": the index form is the one with bit 25 set
abbrev pub reg_form : ℕ
reg_form = 25

-- "B 22"
abbrev pub B : ℕ
B = 22

-- "Index form needs U set and 6:5 = 00"
unfoldable pub refused_index_of : ℕ → Bool
refused_index_of w = both (is_set w reg_form) (not (both (is_set w U) (eqb (field w 5 2) 0)))

-- "size 1, else 4"
abbrev pub size_of : ℕ → ℕ
size_of w = pick (is_clear w B) 4 1

-- "U clear with 0 sets minus zero except in offset mode"
unfoldable pub marked_of : ℕ → ℕ → Bool
marked_of w off = both (not (is_offset (mode_of w))) (minus_zero_of w off)

-- "Immediate 11:0"; "Index form ..; shift 11:7. Post sets decimal"
abbrev pub memory_of : ℕ → Operand
memory_of w =
    pick (is_clear w reg_form)
    (with_disp_of w (field w 0 12) (size_of w) (post_of w) (marked_of w (field w 0 12)))
    (with_index_of w (field w 7 5) (size_of w) (post_of w))

abbrev pub by_lb : ℕ → ℕ → ℕ → ℕ → ℕ → ℕ
by_lb w store storeb load loadb =
    pick (is_clear w L)
    (pick (is_clear w B) store storeb)
    (pick (is_clear w B) load loadb)

-- "P clear with W: the `t` names"
abbrev pub name_of : ℕ → ℕ
name_of w =
    pick (unprivileged_of w) (by_lb w (name "strt") (name "strbt") (name "ldrt") (name "ldrbt"))
    (by_lb w (name "str") (name "strb") (name "ldr") (name "ldrb"))

-- "Load to 15: indirect branch"
abbrev pub flow_of : ℕ → Flow
flow_of w = pick (is_clear w L) Next (pc_flow w)

abbrev pub ldst_of : ℕ → ℕ → Decoded
ldst_of w addr =
    pick (refused_index_of w) no_row (answer w addr (name_of w) (flow_of w) (reg_of w rd ∷ memory_of w ∷ []))

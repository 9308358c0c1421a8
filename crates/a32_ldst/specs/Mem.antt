-- What 01's paragraphs "Extra load/store" and "Load/store" say alike: the bits, the mode, and the memory forms.
use Rattle.std.specs.Prelude.{Bool, true, false, not, ℕ, eqb, ℤ, pos, Some, None}
use Rattle.word.specs.Field.{field}
use Rattle.word.specs.Choice.{pick, both}
use Rattle.word.specs.Signed.{minus}
use Rattle.insn.specs.declared.AddrMode.{AddrMode}
use Rattle.insn.specs.declared.AddrMode.TheVariants.{Offset, PreIndex, PostIndex}
use Rattle.insn.specs.declared.Operand.{Operand}
use Rattle.insn.specs.Memory.{Index}
use Rattle.insn.specs.declared.Operand.TheVariants.{Memory}
use Rattle.a32_shared.specs.Row.{rn, rm, register_of}

-- "P 24, U 23, .., W 21, L 20"
abbrev pub P : ℕ
P = 24

abbrev pub U : ℕ
U = 23

abbrev pub W : ℕ
W = 21

abbrev pub L : ℕ
L = 20

abbrev pub is_clear : ℕ → ℕ → Bool
is_clear w n = eqb (field w n 1) 0

abbrev pub is_set : ℕ → ℕ → Bool
is_set w n = not (is_clear w n)

-- "P clear .. with W"
unfoldable pub unprivileged_of : ℕ → Bool
unprivileged_of w = both (is_clear w P) (is_set w W)

-- "P clear is post"; "P with W is pre"; else offset
abbrev pub mode_of : ℕ → AddrMode
mode_of w = pick (is_clear w P) PostIndex (pick (is_clear w W) Offset PreIndex)

abbrev pub is_offset : AddrMode → Bool
is_offset Offset = true
is_offset PreIndex = false
is_offset PostIndex = false

abbrev pub is_post : AddrMode → Bool
is_post Offset = false
is_post PreIndex = false
is_post PostIndex = true

unfoldable pub post_of : ℕ → Bool
post_of w = is_post (mode_of w)

-- a displacement signed by U
abbrev pub disp_of : ℕ → ℕ → ℤ
disp_of w off = pick (is_clear w U) (minus off) (pos off)

-- "U clear with displacement 0"
unfoldable pub minus_zero_of : ℕ → ℕ → Bool
minus_zero_of w off = both (is_clear w U) (eqb off 0)

-- 01, "What is built": "base, optional index with left shift, displacement, mode (offset, pre, post), size, and two marks: decimal, and minus zero"
abbrev pub form_of : ℕ → Index → ℤ → ℕ → Bool → Bool → Operand
form_of w index disp size decimal minus_zero =
    Memory (record { base = register_of w rn; index = index; disp = disp; mode = mode_of w; size = size; decimal = decimal; minus_zero = minus_zero })

abbrev pub with_disp_of : ℕ → ℕ → ℕ → Bool → Bool → Operand
with_disp_of w off size decimal minus_zero = form_of w None (disp_of w off) size decimal minus_zero

-- "index Rm"
abbrev pub with_index_of : ℕ → ℕ → ℕ → Bool → Operand
with_index_of w shift size decimal = form_of w (Some (register_of w rm, shift)) (pos 0) size decimal false

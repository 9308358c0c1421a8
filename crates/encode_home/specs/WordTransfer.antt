-- The word of a block transfer, a branch, an unconditional blx, a preload or a barrier, from its answer.
use Rattle.std.specs.Prelude.{List, [], ◌∷◌, ℕ, ◌+◌, ◌-◌, ◌/◌, ◌%◌, ◌^◌, eqb, ltb, get_or}
use Rattle.word.specs.Choice.{pick}
use Rattle.word.specs.Layout.{join}
use Rattle.insn.specs.Roots.{name}
use Rattle.insn.specs.declared.Insn.{Insn}
use Rattle.insn_parts.specs.Parts.{at, number, is_write_back, up}

-- list rn L W 0 PU 100 cond, from bit 0 up
abbrev pub block_layout : List ℕ
block_layout = 16 ∷ 4 ∷ 1 ∷ 1 ∷ 1 ∷ 2 ∷ 3 ∷ 4 ∷ []

abbrev pub laid_block : Insn → ℕ → ℕ → ℕ → ℕ → ℕ → ℕ
laid_block i list rn l wb kind = join block_layout (list ∷ rn ∷ l ∷ wb ∷ 0 ∷ kind ∷ 4 ∷ i.cond.0 ∷ [])

-- the base at place 0, the list at place 1
abbrev pub multiple : Insn → ℕ → ℕ → ℕ
multiple i l kind =
    laid_block i (number (at i 1)) (at i 0).reg l (pick (is_write_back (at i 0)) 1 0) kind

-- ldmda .. ldmib, stmda .. stmib, in that order
abbrev pub plain_block : Insn → ℕ → ℕ
plain_block i n = multiple i (pick (ltb n 4) 1 0) (n % 4)

-- pop and push name the list alone
abbrev pub block_word : Insn → ℕ
block_word i =
    pick (eqb i.name (name "pop")) (laid_block i (number (at i 0)) 13 1 1 1)
    (pick (eqb i.name (name "push")) (laid_block i (number (at i 0)) 13 0 1 2)
    (plain_block i (i.name - name "ldmda")))

-- how far a target lies from the address plus 8, in 32 bits
unfoldable pub offset_of : ℕ → ℕ → ℕ
offset_of addr to = (to + (2 ^ 32 - (addr + 8) % 2 ^ 32)) % 2 ^ 32

abbrev pub offset : Insn → ℕ
offset i = offset_of i.addr (number (at i 0))

-- offset L 101 cond, from bit 0 up
abbrev pub branch_layout : List ℕ
branch_layout = 24 ∷ 1 ∷ 3 ∷ 4 ∷ []

abbrev pub laid_branch : Insn → ℕ → ℕ
laid_branch i bit = join branch_layout (offset i / 4 % 2 ^ 24 ∷ bit ∷ 5 ∷ i.cond.0 ∷ [])

abbrev pub branch_word : Insn → ℕ
branch_word i = laid_branch i (pick (eqb i.name (name "bl")) 1 0)

-- bit 24 is the halfword
abbrev pub blx_word : Insn → ℕ
blx_word i = laid_branch i (offset i / 2 % 2)

-- displacement 1111 rn 01 R U 0101 cond, from bit 0 up
abbrev pub preload_layout : List ℕ
preload_layout = 12 ∷ 4 ∷ 4 ∷ 2 ∷ 1 ∷ 1 ∷ 4 ∷ 4 ∷ []

abbrev pub preload_word : Insn → ℕ
preload_word i =
    join preload_layout ((at i 0).value ∷ 15 ∷ (at i 0).reg ∷ 1 ∷ pick (eqb i.name (name "pld")) 1 0 ∷ up (at i 0).negative ∷ 5 ∷ i.cond.0 ∷ [])

-- option 7:4 0101 0111 1111 1111 0000 cond, from bit 0 up
abbrev pub barrier_layout : List ℕ
barrier_layout = 4 ∷ 4 ∷ 20 ∷ 4 ∷ []

-- 7:4 of the names clrex .. isb
abbrev pub barriers : List ℕ
barriers = 1 ∷ 4 ∷ 5 ∷ 6 ∷ []

abbrev pub barrier_word : Insn → ℕ
barrier_word i =
    join barrier_layout ((at i 0).amount ∷ get_or barriers (i.name - name "clrex") 0 ∷ 0x57ff0 ∷ i.cond.0 ∷ [])

-- 01, "Block": "27:25 = 100, bit 22 clear, list not empty".
use Rattle.std.specs.Prelude.{ℕ, Bool, [], ◌∷◌, ◌==◌, nat_le}
use Rattle.std.specs.Int.Count.{ones_in}
use Rattle.word.specs.Field.{field}
use Rattle.word.specs.Choice.{pick, both}
use Rattle.insn.specs.Roots.{name}
use Rattle.insn.specs.Answer.{Decoded}
use Rattle.insn.specs.declared.Flow.{Flow}
use Rattle.insn.specs.declared.Flow.TheVariants.{Next, IndirectBranch, Return}
use Rattle.insn.specs.declared.Operand.{Operand}
use Rattle.insn.specs.declared.Operand.TheVariants.{WriteBack, List}
use Rattle.a32_shared.specs.Row.{rn, register_of, reg_of, answer, no_row}

-- "P,U: da, plain, db, ib"
abbrev pub load_name : ℕ → ℕ
load_name kind = pick (kind == 0) (name "ldmda") (pick (kind == 1) (name "ldm") (pick (kind == 2) (name "ldmdb") (name "ldmib")))

abbrev pub store_name : ℕ → ℕ
store_name kind = pick (kind == 0) (name "stmda") (pick (kind == 1) (name "stm") (pick (kind == 2) (name "stmdb") (name "stmib")))

abbrev pub name_of : ℕ → ℕ
name_of w = pick (field w 20 1 == 0) (store_name (field w 23 2)) (load_name (field w 23 2))

abbrev pub list_of : ℕ → Operand
list_of w = List (field w 0 16)

-- "Rn (write-back if W)"
abbrev pub base_of : ℕ → Operand
base_of w = pick (field w 21 1 == 0) (reg_of w rn) (WriteBack (register_of w rn))

-- "Load of 15: return for base 13, else indirect branch"
abbrev pub flow_of : ℕ → Flow
flow_of w =
    pick (field w 20 1 == 0) Next
    (pick (field w 15 1 == 0) Next (pick (field w rn 4 == 13) Return IndirectBranch))

-- "Base 13, W, two or more registers"
unfoldable pub stack_of : ℕ → Bool
stack_of w = both (field w rn 4 == 13) (both (field w 21 1 == 1) (nat_le 2 (ones_in 16 (field w 0 16))))

-- "list only"
abbrev pub only_list_of : ℕ → ℕ → ℕ → Decoded
only_list_of w addr name = answer w addr name (flow_of w) (list_of w ∷ [])

-- "Else Rn (write-back if W), list"
abbrev pub multiple_of : ℕ → ℕ → Decoded
multiple_of w addr = answer w addr (name_of w) (flow_of w) (base_of w ∷ list_of w ∷ [])

-- "plain load is pop, db store is push"
abbrev pub stack_form_of : ℕ → ℕ → Decoded
stack_form_of w addr =
    pick (field w 20 1 == 0)
    (pick (field w 23 2 == 2) (only_list_of w addr (name "push")) (multiple_of w addr))
    (pick (field w 23 2 == 1) (only_list_of w addr (name "pop")) (multiple_of w addr))

abbrev pub listed_of : ℕ → ℕ → Decoded
listed_of w addr = pick (stack_of w) (stack_form_of w addr) (multiple_of w addr)

abbrev pub block_of : ℕ → ℕ → Decoded
block_of w addr =
    pick (field w 22 1 == 0) (pick (field w 0 16 == 0) no_row (listed_of w addr)) no_row

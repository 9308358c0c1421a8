-- Facts about every number below another, or every entry of a table, by one test; and where a text stands in a table. Assumes nothing.
use mathlib.Core.Path.{◌≡◌}
use mathlib.Core.Bool.{Bool, true, false}
use mathlib.Core.List.{List, [], ◌∷◌}
use Prim.Native.Nat.{ℕ, suc, ◌<◌, ◌≤◌}
use Prim.Native.String.{String}
use lib.Dec.{T, eqb, leb, leb→le, eqb→eq, lit<}
use lib.ListN.{length}
use Rattle.word.specs.Choice.{pick, both, passes}
use Rattle.word.specs.Every.{every, at_each}
use Rattle.text.specs.Text.{bytes}
use Rattle.insn.specs.Numbers.{shift_number, flow_number}
use Rattle.insn.specs.declared.Flow.{Flow}
use Rattle.insn.specs.declared.Flow.TheVariants.{Next, Branch, CondBranch, IndirectBranch, Call, IndirectCall, Return, Trap}
use Rattle.insn.specs.declared.Shift.{Shift}
use Rattle.insn.specs.declared.Shift.TheVariants.{Lsl, Lsr, Asr, Ror}
use Rattle.line_spelling.specs.Names.{entry}

pub every_passes : (f : ℕ → Bool) (count : ℕ) → T (every f 0 count) → (n : ℕ) → n < count → f n ≡ true
every_passes f count t n h = passes (f n) (at_each f count t n h)

pub agrees : (f g : ℕ → ℕ) (count : ℕ) → T (every (λ n. eqb (f n) (g n)) 0 count) → (n : ℕ) → n < count → f n ≡ g n
agrees f g count t n h = eqb→eq (f n) (g n) (at_each (λ n. eqb (f n) (g n)) count t n h)

abbrev same : List ℕ → List ℕ → Bool
same [] [] = true
same [] (y ∷ ys) = false
same (x ∷ xs) [] = false
same (x ∷ xs) (y ∷ ys) = both (eqb x y) (same xs ys)

-- where a text stands in a table; the table's length if it does not
abbrev pub find : List String → List ℕ → ℕ
find [] text = 0
find (s ∷ table) text = pick (same (bytes s) text) 0 (suc (find table text))

module _ (table : List String) where
  pub found : (count : ℕ) → T (every (λ n. eqb (find table (entry table n)) n) 0 count) → (n : ℕ) → n < count → find table (entry table n) ≡ n
  found = agrees (λ n. find table (entry table n)) (λ n. n)

  pub at_most : (most count : ℕ) → T (every (λ n. leb (length (entry table n)) most) 0 count) → (n : ℕ) → n < count → length (entry table n) ≤ most
  at_most most count t n h = leb→le (length (entry table n)) most (at_each (λ n. leb (length (entry table n)) most) count t n h)

-- a shift's kind and a flow stand in their tables
pub shift_few : (kind : Shift) → shift_number kind < 4
shift_few Lsl = lit< tt
shift_few Lsr = lit< tt
shift_few Asr = lit< tt
shift_few Ror = lit< tt

pub flow_few : (flow : Flow) → flow_number flow < 8
flow_few Next = lit< tt
flow_few (Branch a) = lit< tt
flow_few (CondBranch a) = lit< tt
flow_few IndirectBranch = lit< tt
flow_few (Call a) = lit< tt
flow_few IndirectCall = lit< tt
flow_few Return = lit< tt
flow_few Trap = lit< tt

-- `operands::put_memory` meets its contract. Assumes nothing.
use mathlib.Core.Path.{◌≡◌}
use mathlib.Core.List.{List, ◌++◌, append_assoc}
use Prim.Native.Nat.{ℕ}
use native.Mathlib.Omega.{arith}
use lib.ListN.{length-append}
use Rattle.insn.specs.declared.Mem.{Mem}
use Rattle.text.specs.Text.{bytes, decimal_of}
use Rattle.text.proofs.Writing.{◌then◌}
use Rattle.line_spelling.specs.Line.{register_text, index_text, displacement_text, mode_text, memory_text}
use Rattle.line_operands.proofs.put_memory.Goals as goal

-- a memory form's address, and what it has after it
abbrev address : Mem → List ℕ
address m = bytes "[" ++ register_text m.base ++ bytes ":" ++ index_text m.index ++ bytes ":" ++ displacement_text m

abbrev access : Mem → List ℕ
access m = bytes ":" ++ mode_text m.mode ++ bytes ":" ++ decimal_of m.size ++ bytes "]"

regroup : (a b c d e f : List ℕ) → a ++ b ++ c ++ d ++ e ++ f ≡ a ++ (b ++ c ++ d ++ e ++ f)
regroup a b c d e f = simp append_assoc

parted : (m : Mem) → memory_text m ≡ address m ++ access m
parted m = unfold memory_text in regroup (address m) (bytes ":") (mode_text m.mode) (bytes ":") (decimal_of m.size) (bytes "]")

pub put_one-at-requires : goal.put_one-at-requires
put_one-at-requires c = unfold memory_text in omega (arith, simp length-append at c.requires)

pub put_register-at-requires : goal.put_register-at-requires
put_register-at-requires c = unfold memory_text in omega (arith, simp length-append at c.requires)

pub put_one-at-requires-2 : goal.put_one-at-requires-2
unfolding memory_text
put_one-at-requires-2 c =
    omega (arith, simp length-append at c.requires)

pub put_index-at-requires : goal.put_index-at-requires
unfolding memory_text
put_index-at-requires c =
    omega (
      arith,
      simp length-append at c.requires,
    )

pub put_one-at-requires-3 : goal.put_one-at-requires-3
unfolding memory_text
put_one-at-requires-3 c =
    omega (
      arith,
      simp length-append at c.requires,
    )

pub put_displacement-at-requires : goal.put_displacement-at-requires
unfolding memory_text
put_displacement-at-requires c =
    omega (
      arith,
      simp length-append at c.requires,
    )

pub put_access-requires : goal.put_access-requires
unfolding memory_text
put_access-requires c =
    simp length-append
    (omega (
      arith,
      simp length-append at c.requires,
    ))

pub returns : goal.returns
returns c =
    rw (parted c.args.m)
    (c.put_one-at.ensures
    then c.put_register-at.ensures
    then c.put_one-at-2.ensures
    then c.put_index-at.ensures
    then c.put_one-at-3.ensures
    then c.put_displacement-at.ensures
    then c.put_access.ensures)

-- `operands::put_displacement` meets its contract. Assumes nothing.
use mathlib.Core.Path.{◌≡◌}
use mathlib.Core.Bool.{true, false}
use borrow.Author.Rules.{rules}
use mir.Syntax.{w64}
use mir.ValLaws.{to_z-of_z}
use Rattle.insn.specs.declared.Mem.{Mem}
use Rattle.text.specs.Text.{bytes, signed_of}
use Rattle.line_spelling.specs.Line.{displacement_text}
use Rattle.line_operands.proofs.put_displacement.Goals as goal

marked : (m : Mem) → m.minus_zero ≡ true → displacement_text m ≡ bytes "-0"
marked m e = unfold displacement_text in rw e

unmarked : (m : Mem) → m.minus_zero ≡ false → displacement_text m ≡ signed_of m.disp
unmarked m e = unfold displacement_text in rw e

pub put-requires : goal.put-requires
put-requires c = rw (marked c.args.m c.if-m.true) at c.requires

pub put_signed-requires : goal.put_signed-requires
put_signed-requires c =
    rw (to_z-of_z w64 c.args.m.disp (search rules))
    (rw (unmarked c.args.m c.if-m.false) at c.requires)

pub returns-then-m : goal.returns-then-m
returns-then-m c =
    rw (marked c.args.m c.if-m.true)
    c.put.ensures

pub returns-else-m : goal.returns-else-m
returns-else-m c =
    rw (unmarked c.args.m c.if-m.false)
    (rw (to_z-of_z w64 c.args.m.disp (search rules)) at c.put_signed.ensures)

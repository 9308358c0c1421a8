-- `line::put_answer` meets its contract. Assumes nothing.
use borrow.Author.Tests.{ne_eqb}
use mathlib.Core.Path.{◌≡◌, refl}
use Rattle.std.specs.Prelude.{Ok, Err}
use Rattle.word.specs.declared.refusal.Refusal.{Refusal}
use Rattle.word.specs.Refusal.{number, not_refused}
use Rattle.insn.specs.declared.Insn.{Insn}
use Rattle.line_spelling.specs.Line.{insn_text, refused_text, answer_text}
use Rattle.line.proofs.put_answer.Goals as goal

-- the answer's text
named : (i : Insn) → answer_text (Ok i) ≡ insn_text i
named i = unfold answer_text in refl

refused : (r : Refusal) → answer_text (Err r) ≡ refused_text (number r)
refused r = unfold answer_text in simp (ne_eqb (number r) 0 (not_refused r))

pub put_insn-requires : goal.put_insn-requires
put_insn-requires c = rw (c.in-Ok.is, named c.in-Ok.i) at c.requires

pub put_refused-requires : goal.put_refused-requires
put_refused-requires c = rw c.number.ensures (rw (c.in-Err.is, refused c.in-Err.refusal) at c.requires)

pub returns-in-Ok : goal.returns-in-Ok
returns-in-Ok c = rw (c.in-Ok.is, named c.in-Ok.i) c.put_insn.ensures

pub returns-in-Err : goal.returns-in-Err
returns-in-Err c = rw (c.in-Err.is, refused c.in-Err.refusal) (rw c.number.ensures at c.put_refused.ensures)

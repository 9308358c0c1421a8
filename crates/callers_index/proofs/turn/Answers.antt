-- `callers_index::turn` meets its contract. Assumes nothing.
use mathlib.Core.Path.{sym, ap, ◌∙◌}
use borrow.Author.Tests.{eq-eqb}
use Rattle.text.proofs.Writing.{none}
use Rattle.callers_index.specs.declared.Entry.{Entry}
use Rattle.callers_index.proofs.turn.Goals as goal

pub returns-then-f-caller-clause-put : goal.returns-then-f-caller-clause-put
returns-then-f-caller-clause-put c = let read = c.entry_at-f.ensures in
    let own = eq-eqb _ _ (ap (λ (e : Entry). e.caller) (sym read) ∙ c.if-f-caller.true) in
    simp own (none _ _)

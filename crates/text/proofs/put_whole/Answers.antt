-- `text::put_whole` meets its contract. Assumes nothing.
use Rattle.text.proofs.Settled.{fits, no_room}
use Rattle.text.proofs.put_whole.Goals as goal

pub returns-then-text-out-clause-value : goal.returns-then-text-out-clause-value
returns-then-text-out-clause-value g c = (fits c.if-text-out.true c.put.ensures).0

pub returns-then-text-out-clause-out_after : goal.returns-then-text-out-clause-out_after
returns-then-text-out-clause-out_after g c = (fits c.if-text-out.true c.put.ensures).1

pub returns-else-text-out-clause-value : goal.returns-else-text-out-clause-value
returns-else-text-out-clause-value g c = (no_room c.args.text.now c.if-text-out.false).0

pub returns-else-text-out-clause-out_after : goal.returns-else-text-out-clause-out_after
returns-else-text-out-clause-out_after g c = (no_room c.args.text.now c.if-text-out.false).1

-- `row::put_used` meets its contract. Assumes nothing.
use borrow.Author.Rules.{rules}
use Rattle.insn_row.proofs.Sign.{sign_below}
use Rattle.insn_row.proofs.put_used.Goals as goal

pub put_flat-requires-in_default : goal.put_flat-requires-in_default
put_flat-requires-in_default c = record { room = search rules; negative_le_value = rw c.flatten.ensures (sign_below c.args.o) }

-- `line::put_address` meets its contract: eight digits are those of the low 32 bits. Assumes nothing.
use Rattle.text.proofs.Digits.{hex_low}
use Rattle.line.proofs.put_address.Goals as goal

pub put_hex-requires-clause-room : goal.put_hex-requires-clause-room
put_hex-requires-clause-room c = rw (hex_low 8 c.args.addr) c.requires

pub returns : goal.returns
returns c = rw (hex_low 8 c.args.addr) at c.put_hex.ensures

-- `encode_words::fill::draw_exclusive` meets its contract. Assumes nothing.
use Rattle.encode_words.proofs.Filled.{drawn_load, drawn_store}
use Rattle.encode_words.proofs.fill.draw_exclusive.Goals as goal

pub returns-in-64 : goal.returns-in-64
returns-in-64 c = simp (c.ones.ensures, c.ones-w.ensures, drawn_load c.args.i c.requires.0 c.requires.1 c.in-64.is)

pub returns-in_default : goal.returns-in_default
returns-in_default c = simp (c.ones-w.ensures, drawn_store c.args.i c.requires.0 c.requires.1 c.in_default.in_default-own.rest.1)

-- `listing_stream::read_section` meets its contract: no more is read than there is room for. Assumes nothing.
use Rattle.std.proofs.Common.{sym, length-take-le, length-take, length-drop, arith}
use Rattle.listing_stream.proofs.read_section.Goals as goal

pub slice_bounds-read_full-end-2 : goal.slice_bounds-read_full-end-2
slice_bounds-read_full-end-2 g c = sym (length-take-le 16397 _ (omega (arith, c.requires)))

pub returns : goal.returns
returns g c = omega (arith, simp length-take at c.read_full-n.ensures.bound, simp (length-take, length-drop) at c.read_full.ensures.bound, c.requires)

-- `answers::print_answer` is safe: what is printed of the buffer lies within it. Assumes nothing.
use Rattle.std.proofs.Common.{sym, length-take-le}
use Rattle.text.proofs.Settled.{within_or}
use Rattle.answers.proofs.print_answer.Goals as goal

pub slice_bounds-text-end : goal.slice_bounds-text-end
slice_bounds-text-end g c = rw (c.unwrap_or-len.ensures, c.line.ensures.value, c.line.auto.out) (within_or _ _)

pub slice_bounds-write_all-end : goal.slice_bounds-write_all-end
slice_bounds-write_all-end g c = sym (length-take-le _ _ (rw (c.unwrap_or-len.ensures, c.line.ensures.value, c.line.auto.out) (within_or _ _)))

-- `listing_stream::list` is safe: what is written of the buffer lies within it. Assumes nothing.
use Rattle.std.proofs.Common.{sym, length-take-le}
use Rattle.text.proofs.Settled.{within_or}
use Rattle.listing_stream.proofs.list.Goals as goal

pub slice_bounds-out-end : goal.slice_bounds-out-end
slice_bounds-out-end g c = rw (c.unwrap_or-len.ensures, c.listing.ensures.value, c.listing.auto.out) (within_or _ _)

pub slice_bounds-write_all-end : goal.slice_bounds-write_all-end
slice_bounds-write_all-end g c =
    sym (length-take-le _ _ (rw (c.unwrap_or-len.ensures, c.listing.ensures.value, c.listing.auto.out) (within_or _ _)))

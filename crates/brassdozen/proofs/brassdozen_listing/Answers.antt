-- `brassdozen::brassdozen_listing` meets its contract. Assumes nothing.
use native.Mathlib.Omega.{arith}
use Rattle.listing_text.specs.Listing.{listing_of}
use Rattle.listing_text.proofs.Enough.{listing_fits}
use Rattle.brassdozen.proofs.From.{no_longer}
use Rattle.brassdozen.proofs.brassdozen_listing.Goals as goal

pub pack_len-requires : goal.pack_len-requires
pack_len-requires c =
    let short = no_longer (listing_of c.args.section.now) c.args.out.now c.listing.ensures.value in
    omega (arith, short, listing_fits c.args.section.now)

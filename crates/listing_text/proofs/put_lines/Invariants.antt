-- `listing_text::put_lines` meets its contract. The loop's invariant: the lines of the places before the reader's are written, and their words that
-- are named, and those that are data, are counted. Assumes nothing.
use mathlib.Core.Path.{◌≡◌}
use mathlib.Core.List.{[]}
use lib.ListN.{length}
use Rattle.text.specs.Put.{Put}
use Rattle.section.proofs.Fold.{upto}
use Rattle.listing_text.specs.Listing.{add_line, named_here, data_here, adding}
use Rattle.listing_text.proofs.put_lines.Given as goal

abbrev pub invariant-loop-here : goal.invariant-loop-here
invariant-loop-here l =
    (l.here-iterator.bytes.now ≡ l.section)
    × (length l.out ≡ length l.initial.out)
    × Put l.initial.out l.at (upto add_line [] l.section l.here-iterator.place) l.lines.at l.out
    × (l.lines.named ≡ upto (adding named_here) 0 l.section l.here-iterator.place)
    × (l.lines.pool ≡ upto (adding data_here) 0 l.section l.here-iterator.place)

-- `listing_text::has_room` meets its contract. Assumes nothing.
use mathlib.Core.Path.{ap, sym, ◌∙◌}
use native.Mathlib.Omega.{arith}
use borrow.Author.Tests.{le-leb}
use Rattle.section.specs.declared.Opened.{Opened}
use Rattle.listing_text.proofs.Enough.{listed_short}
use Rattle.listing_text.proofs.Laid.{is}
use Rattle.listing_text.proofs.has_room.Goals as goal

pub returns-then-opened-room : goal.returns-then-opened-room
returns-then-opened-room c =
    let s = c.args.section.now in
    le-leb _ c.args.room c.if-opened-room.true
    ∙ sym (le-leb _ c.args.room (omega (
      arith,
      c.if-opened-room.true,
      listed_short s,
      ap (λ (o : Opened). o.count) (is s c.opened.ensures),
    )))

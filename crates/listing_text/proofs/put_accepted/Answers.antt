-- `listing_text::put_accepted` meets its contract: whether the listing fits is known before a byte of it is written. Assumes nothing.
use mathlib.Core.Path.{sym, ◌∙◌}
use borrow.Author.Tests.{leb-true, leb-false}
use Rattle.text.proofs.Settled.{fits, no_room}
use Rattle.listing_text.proofs.put_accepted.Goals as goal

pub returns-then-has_room-clause-value : goal.returns-then-has_room-clause-value
returns-then-has_room-clause-value c =
    (fits (leb-true _ _ (sym c.has_room.ensures ∙ c.if-has_room.true)) c.put_listed.ensures).0

pub returns-then-has_room-clause-out_after : goal.returns-then-has_room-clause-out_after
returns-then-has_room-clause-out_after c =
    (fits (leb-true _ _ (sym c.has_room.ensures ∙ c.if-has_room.true)) c.put_listed.ensures).1

pub returns-else-has_room-clause-value : goal.returns-else-has_room-clause-value
returns-else-has_room-clause-value c = (no_room _ (leb-false _ _ (sym c.has_room.ensures ∙ c.if-has_room.false))).0

pub returns-else-has_room-clause-out_after : goal.returns-else-has_room-clause-out_after
returns-else-has_room-clause-out_after c = (no_room _ (leb-false _ _ (sym c.has_room.ensures ∙ c.if-has_room.false))).1

-- `section_convert::put_as` meets its contract. Assumes nothing.
use native.Mathlib.Omega.{arith}
use Rattle.text.proofs.Writing.{◌then◌}
use Rattle.text.proofs.Settled.{fits, no_room}
use Rattle.section_convert.proofs.Sizes.{parts_size}
use Rattle.section_convert.proofs.put_as.Goals as goal

pub returns-then-out-count-clause-value : goal.returns-then-out-count-clause-value
returns-then-out-count-clause-value c =
    (no_room _ (omega (arith, parts_size c.args.section.now c.args.version c.args.count.now c.args.words.now c.requires.0))).0

pub returns-then-out-count-clause-out_after : goal.returns-then-out-count-clause-out_after
returns-then-out-count-clause-out_after c =
    (no_room _ (omega (arith, parts_size c.args.section.now c.args.version c.args.count.now c.args.words.now c.requires.0))).1

pub returns-clause-value : goal.returns-clause-value
returns-clause-value c =
    (fits (omega (arith, parts_size c.args.section.now c.args.version c.args.count.now c.args.words.now c.requires.0))
    (c.put_header-at.ensures then c.put-at.ensures then c.put.ensures)).0

pub returns-clause-out_after : goal.returns-clause-out_after
returns-clause-out_after c =
    (fits (omega (arith, parts_size c.args.section.now c.args.version c.args.count.now c.args.words.now c.requires.0))
    (c.put_header-at.ensures then c.put-at.ensures then c.put.ensures)).1

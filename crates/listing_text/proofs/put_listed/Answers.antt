-- `listing_text::put_listed` meets its contract. Assumes nothing.
use native.Mathlib.Omega.{arith}
use Rattle.text.proofs.Writing.{◌then◌}
use Rattle.listing_text.proofs.Laid.{laid, counted, sizes}
use Rattle.listing_text.proofs.put_listed.Goals as goal

pub put_header-at-requires : goal.put_header-at-requires
put_header-at-requires c =
    omega (arith, c.requires, sizes c.args.section.now c.opened-opened.ensures)

pub put_lines-lines-requires : goal.put_lines-lines-requires
put_lines-lines-requires c =
    let header = c.put_header-at in
    omega (arith, c.requires, sizes c.args.section.now c.opened-opened.ensures, header.ensures.ends, header.auto.out)

pub put_closing-requires-clause-pool_bound : goal.put_closing-requires-clause-pool_bound
put_closing-requires-clause-pool_bound c =
    let lines = c.put_lines-lines.ensures in
    omega (arith, counted c.args.section.now c.opened-opened.ensures, lines.named_value, lines.pool_value)

pub put_closing-requires-clause-room : goal.put_closing-requires-clause-room
put_closing-requires-clause-room c =
    let header = c.put_header-at in
    let lines = c.put_lines-lines in
    let section = c.args.section.now in
    rw (lines.ensures.named_value, lines.ensures.pool_value) (omega (
      arith,
      c.requires,
      sizes section c.opened-opened.ensures,
      header.ensures.ends,
      header.auto.out,
      lines.ensures.put.ends,
      lines.auto.out,
    ))

pub returns : goal.returns
returns c =
    rw (laid c.args.section.now c.opened-opened.ensures, ← c.put_lines-lines.ensures.named_value, ← c.put_lines-lines.ensures.pool_value)
    (c.put_header-at.ensures then c.put_lines-lines.ensures.put then c.put_closing.ensures)

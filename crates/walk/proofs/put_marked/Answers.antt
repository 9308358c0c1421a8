-- `walk::put_marked` meets its contract. Assumes nothing.
use native.Mathlib.Omega.{arith}
use Rattle.section.proofs.Accepted.{is_opening, opened}
use Rattle.walk.proofs.put_marked.Goals as goal

pub put_records-requires : goal.put_records-requires
put_records-requires c =
    let s = c.args.section.now in
    let is = is_opening s c.opened.ensures in (
      rw (is, c.leads_at-leads.ensures) c.requires.room,
      omega (arith, c.requires.place_in_bounds, (opened s).few),
      rw is c.requires.place_in_bounds,
    )

pub returns : goal.returns
returns c = rw (← (is_opening c.args.section.now c.opened.ensures), ← c.leads_at-leads.ensures) c.put_records.ensures

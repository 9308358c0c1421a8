-- `listing_text::listed_len` meets its contract. Assumes nothing.
use native.Mathlib.Omega.{arith}
use Rattle.section.proofs.Accepted.{opened}
use Rattle.listing_text.proofs.Enough.{header_fits, listed_short}
use Rattle.listing_text.proofs.Laid.{is, closing_short, counted, sizes}
use Rattle.listing_text.proofs.listed_len.Goals as goal

pub put_header-header-requires : goal.put_header-header-requires
put_header-header-requires c =
    rw (is c.args.section.now c.opened-opened.ensures) (omega (arith, header_fits c.args.section.now))

pub put_closing-closing-requires-clause-pool_bound : goal.put_closing-closing-requires-clause-pool_bound
put_closing-closing-requires-clause-pool_bound c =
    let section = c.args.section.now in
    let lines = c.lines_len-lines.ensures in
    rw (lines.named_value, lines.pool_value) (counted section c.opened-opened.ensures)

pub put_closing-closing-requires-clause-room : goal.put_closing-closing-requires-clause-room
put_closing-closing-requires-clause-room c =
    let section = c.args.section.now in
    let lines = c.lines_len-lines.ensures in
    rw (lines.named_value, lines.pool_value) (omega (arith, closing_short section c.opened-opened.ensures, c.put_header-header.auto.out))

-- the three lengths are those of the listing's parts
pub overflow_add-result : goal.overflow_add-result
overflow_add-result c =
    let lines = c.lines_len-lines.ensures in
    record {
      fits = omega (
        arith,
        rw (← lines.named_value, ← lines.pool_value) at (sizes c.args.section.now c.opened-opened.ensures),
        c.put_header-header.ensures.ends,
        lines.at_value,
        c.put_closing-closing.ensures.ends,
        listed_short c.args.section.now,
        (opened c.args.section.now).few,
      );
    }

pub overflow_add-result-2 : goal.overflow_add-result-2
overflow_add-result-2 c =
    let lines = c.lines_len-lines.ensures in
    record {
      fits = omega (
        arith,
        rw (← lines.named_value, ← lines.pool_value) at (sizes c.args.section.now c.opened-opened.ensures),
        c.put_header-header.ensures.ends,
        lines.at_value,
        c.put_closing-closing.ensures.ends,
        listed_short c.args.section.now,
        (opened c.args.section.now).few,
      );
    }

pub returns : goal.returns
returns c =
    let lines = c.lines_len-lines.ensures in
    omega (
      arith,
      rw (← lines.named_value, ← lines.pool_value) at (sizes c.args.section.now c.opened-opened.ensures),
      c.put_header-header.ensures.ends,
      lines.at_value,
      c.put_closing-closing.ensures.ends,
    )

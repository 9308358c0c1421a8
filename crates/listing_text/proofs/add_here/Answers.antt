-- `listing_text::add_here` meets its contract. Assumes nothing.
use native.Mathlib.Omega.{arith}
use Rattle.section.specs.declared.Here.TheVariants.{Word}
use Rattle.listing_text.proofs.Grow.{data_length, line_short}
use Rattle.listing_text.proofs.add_here.Goals as goal

pub put_next-one-requires-clause-room : goal.put_next-one-requires-clause-room
put_next-one-requires-clause-room c = let there = c.in-Word in omega (arith, line_short (Word there.word there.addr))

pub overflow_add-result : goal.overflow_add-result
overflow_add-result c =
    let there = c.in-Word in
    record { fits = omega (arith, c.requires.2, c.put_next-one.ensures.put.ends, line_short (Word there.word there.addr)) }

pub returns-in-Data-clause-at_value : goal.returns-in-Data-clause-at_value
returns-in-Data-clause-at_value c = let there = c.in-Data in rw there.is (omega (arith, data_length there.field-1 there.field-0))

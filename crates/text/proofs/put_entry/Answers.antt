-- `text::put_entry` meets its contract. Assumes nothing.
use mathlib.Core.Path.{◌≡◌, sym, ap, ◌∙◌}
use mathlib.Core.List.{List, []}
use Prim.Native.Nat.{ℕ, ◌+◌, ◌-◌, ◌*◌, ◌≤◌}
use native.Mathlib.Nat.{add-sub_cancel_left}
use native.Mathlib.Omega.{arith}
use lib.ListN.{length, take, drop, length-drop, drop_of_length-le}
use lib.Seq.{take-nil, take_all}
use Rattle.text.specs.Entry.{word_of, entry_of}
use Rattle.text.proofs.Writing.{none}
use Rattle.text.proofs.put_entry.Goals as goal

-- the three places of an entry: beyond the table, within it, and cut short by its end
module _ (table : List ℕ) (width n : ℕ) where
  abbrev start : ℕ
  start = n * width

  beyond : length table ≤ start → entry_of table width n ≡ []
  beyond h = unfold entry_of in rw (drop_of_length-le table h, take-nil width)

  whole : entry_of table width n ≡ word_of (take (start + width - start) (drop start table))
  whole = unfold entry_of in rw (add-sub_cancel_left start width)

  short : length table - start ≤ width → entry_of table width n ≡ word_of (take (length table - start) (drop start table))
  short h = unfold entry_of in
      ap word_of
      (take_all width (drop start table) (rw length-drop h)
      ∙ sym (take_all (length table - start) (drop start table) (rw length-drop (omega arith))))

pub returns-then-table-start : goal.returns-then-table-start
returns-then-table-start c = rw (beyond _ _ _ c.if-table-start.true) (none _ _)

pub put_word-requires : goal.put_word-requires
put_word-requires c = rw (whole _ _ _) at c.requires.room

pub put_word-requires-else-width-table : goal.put_word-requires-else-width-table
put_word-requires-else-width-table c =
    rw (short c.args.table.now c.args.width c.args.n (omega arith)) at c.requires.room

pub returns-then-width-table : goal.returns-then-width-table
returns-then-width-table c = rw (whole _ _ _) c.put_word.ensures

pub returns-else-width-table : goal.returns-else-width-table
returns-else-width-table c =
    rw (short c.args.table.now c.args.width c.args.n (omega arith)) c.put_word-else-width-table.ensures

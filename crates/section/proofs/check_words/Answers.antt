-- `section::check_words` meets its contract. Assumes nothing.
use mathlib.Core.Path.{sym, ◌∙◌}
use Rattle.section.proofs.Checks.{no_fours, too_many, broken, unaligned, beyond, none}
use Rattle.section.proofs.check_words.Goals as goal
use Rattle.section.proofs.check_words.Goals.{then-base-ne0-via-then-base-ne0, then-base-ne0-via-else-base-ne0+then-base-count-gt-END}

pub returns-then-bytes-start-ne0 : goal.returns-then-bytes-start-ne0
returns-then-bytes-start-ne0 c =
    let pre = c.requires.in_bounds in
    sym (no_fours c.args.bytes.now pre.0 pre.1 pre.2 c.requires.bytes_in_bounds (rw c.start.ensures at c.if-bytes-start-ne0.true))

pub returns-then-count-gt-MOST_WORDS : goal.returns-then-count-gt-MOST_WORDS
returns-then-count-gt-MOST_WORDS c =
    let pre = c.requires.in_bounds in
    let fours = rw c.start.ensures at c.if-bytes-start-ne0.false in
    sym (too_many c.args.bytes.now pre.0 pre.1 pre.2 c.requires.bytes_in_bounds fours (rw c.count-count.ensures at c.if-count-gt-MOST_WORDS.true))

pub returns-then-not-do_rules_hold : goal.returns-then-not-do_rules_hold
returns-then-not-do_rules_hold c =
    let pre = c.requires.in_bounds in
    let fours = rw c.start.ensures at c.if-bytes-start-ne0.false in
    let few = rw c.count-count.ensures at c.if-count-gt-MOST_WORDS.false in
    sym (broken c.args.bytes.now pre.0 pre.1 pre.2 c.requires.bytes_in_bounds fours few
    (sym (rw (c.ranges-2.ensures, c.count-count.ensures) at c.do_rules_hold.ensures) ∙ c.if-not-do_rules_hold.true))

pub returns-then-base-ne0 : goal.returns-then-base-ne0
returns-then-base-ne0 c =
    let pre = c.requires.in_bounds in
    let fours = rw c.start.ensures at c.if-bytes-start-ne0.false in
    let few = rw c.count-count.ensures at c.if-count-gt-MOST_WORDS.false in
    let kept = sym (rw (c.ranges-2.ensures, c.count-count.ensures) at c.do_rules_hold.ensures) ∙ c.if-not-do_rules_hold.false in
    let base = c.base-base.ensures in
    elim c.then-base-ne0.branch [
      | then-base-ne0-via-then-base-ne0 w ↦
          sym (unaligned c.args.bytes.now pre.0 pre.1 pre.2 c.requires.bytes_in_bounds fours few kept (rw base at w.if-base-ne0.true))
      | then-base-ne0-via-else-base-ne0+then-base-count-gt-END w ↦
          sym (beyond c.args.bytes.now pre.0 pre.1 pre.2 c.requires.bytes_in_bounds fours few kept
          (rw base at w.if-base-ne0.false) (rw (base, c.count-count.ensures) at w.if-base-count-gt-END.true))
    ]

pub returns : goal.returns
returns c =
    let pre = c.requires.in_bounds in
    let fours = rw c.start.ensures at c.if-bytes-start-ne0.false in
    let few = rw c.count-count.ensures at c.if-count-gt-MOST_WORDS.false in
    let kept = sym (rw (c.ranges-2.ensures, c.count-count.ensures) at c.do_rules_hold.ensures) ∙ c.if-not-do_rules_hold.false in
    let base = c.base-base.ensures in
    sym (none c.args.bytes.now pre.0 pre.1 pre.2 c.requires.bytes_in_bounds fours few kept
    (rw base at c.if-base-ne0.false) (rw (base, c.count-count.ensures) at c.if-base-count-gt-END.false))

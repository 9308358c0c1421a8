-- `patch::check_words` meets its contract. Assumes nothing.
use mathlib.Core.Path.{sym}
use Rattle.patch.proofs.Words.{no_words, too_many, unaligned, beyond, none}
use Rattle.patch.proofs.check_words.Goals as goal
use Rattle.patch.proofs.check_words.Goals.{then-base-ne0-via-then-base-ne0, then-base-ne0-via-else-base-ne0+then-base-words-gt-END}

pub returns-then-words-ne0 : goal.returns-then-words-ne0
returns-then-words-ne0 c = sym (no_words _ c.if-words-ne0.true)

pub returns-then-words-gt-MOST_WORDS : goal.returns-then-words-gt-MOST_WORDS
returns-then-words-gt-MOST_WORDS c = sym (too_many _ c.if-words-ne0.false c.if-words-gt-MOST_WORDS.true)

pub returns-then-base-ne0 : goal.returns-then-base-ne0
returns-then-base-ne0 c =
    elim c.then-base-ne0.branch [
      | then-base-ne0-via-then-base-ne0 w ↦
          sym (unaligned _ c.if-words-ne0.false c.if-words-gt-MOST_WORDS.false w.if-base-ne0.true)
      | then-base-ne0-via-else-base-ne0+then-base-words-gt-END w ↦
          sym (beyond _ c.if-words-ne0.false c.if-words-gt-MOST_WORDS.false w.if-base-ne0.false w.if-base-words-gt-END.true)
    ]

pub returns : goal.returns
returns c = sym (none _ c.if-words-ne0.false c.if-words-gt-MOST_WORDS.false c.if-base-ne0.false c.if-base-words-gt-END.false)

-- `patch::held` meets its contract. Assumes nothing.
use mathlib.Core.Path.{sym, ◌∙◌}
use Rattle.patch.specs.Image.{◌from◌}
use Rattle.patch.proofs.Holders.{held_in_patch, held_across, held_in_section, held_nowhere}
use Rattle.patch.proofs.held.Goals as goal

pub returns-then-is_within : goal.returns-then-is_within
returns-then-is_within c =
    sym (held_in_patch _ (c.args.patch.now from c.args.over) _ _ c.requires.0 (sym c.is_within.ensures ∙ c.if-is_within.true))

pub returns-then-reaches : goal.returns-then-reaches
returns-then-reaches c =
    sym (held_across _ (c.args.patch.now from c.args.over) _ _ c.requires.0 (sym c.is_within.ensures ∙ c.if-is_within.false)
    (sym c.reaches.ensures ∙ c.if-reaches.true))

pub returns-then-is_within-2 : goal.returns-then-is_within-2
returns-then-is_within-2 c =
    sym (held_in_section (c.args.section.now from c.args.base) (c.args.patch.now from c.args.over) _ _ c.requires.0
    (sym c.is_within.ensures ∙ c.if-is_within.false) (sym c.reaches.ensures ∙ c.if-reaches.false)
    (sym c.is_within-2.ensures ∙ c.if-is_within-2.true))

pub returns-else-is_within-2 : goal.returns-else-is_within-2
returns-else-is_within-2 c =
    sym (held_nowhere (c.args.section.now from c.args.base) (c.args.patch.now from c.args.over) _ _ c.requires.0
    (sym c.is_within.ensures ∙ c.if-is_within.false) (sym c.is_within-2.ensures ∙ c.if-is_within-2.false))

-- `tally::add_to` meets its contract. Assumes nothing.
use Rattle.std.proofs.Common.{sym, ◌∙◌}
use Rattle.std.proofs.lemmas.Result.{err_from_is_err_and}
use Rattle.std.proofs.Common.{◌≡◌, ℕ, List, Err}
use Rattle.word.specs.Refusal.{number, not_refused}
use Rattle.word.specs.declared.refusal.Refusal.{Refusal}
use Rattle.section.specs.Section.{section_of}
use Rattle.section.proofs.Accepted.{section_refused}
use Rattle.tally.specs.Tally.{own_of, lent_refusal}
use Rattle.tally.proofs.Answers.{its_own, is_tally, stays}
use Rattle.tally.proofs.add_to.Goals as goal

module _ (s counts : List ℕ) {r : Refusal} (is : Err r ≡ section_of s) where
  bad : own_of s ≡ 0 → ⊥
  bad none = not_refused r (section_refused s is ∙ none)

  told : number r ≡ lent_refusal (own_of s) counts
  told = section_refused s is ∙ its_own (own_of s) counts bad

pub returns-in_err-section-clause-value : goal.returns-in_err-section-clause-value
returns-in_err-section-clause-value c =
    let p = err_from_is_err_and c.from_residual.result c.from_residual.ensures.1 in
    rw (p.1, p.2) (told c.args.section.now c.args.counts.now c.in_err-section.ensures)

pub returns-in_err-section-clause-counts_after : goal.returns-in_err-section-clause-counts_after
returns-in_err-section-clause-counts_after c =
    let is = c.in_err-section.ensures in
    stays _ c.args.section.now c.args.counts.now (bad _ c.args.counts.now is)

pub count_all-requires : goal.count_all-requires
count_all-requires c =
    is_tally 0 c.args.counts.now (sym c.in_ok-check.ensures)

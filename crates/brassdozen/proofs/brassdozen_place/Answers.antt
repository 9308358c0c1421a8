-- `brassdozen::brassdozen_place` meets its contract. Assumes nothing.
use mathlib.Core.Path.{◌≡◌, sym, ◌∙◌}
use mathlib.Core.List.{List}
use Prim.Native.Nat.{ℕ}
use Rattle.std.specs.Prelude.{Err}
use Rattle.word.specs.Refusal.{number, not_refused}
use Rattle.word.specs.declared.refusal.Refusal.{Refusal}
use Rattle.section.specs.Section.{refusal_of, section_of}
use Rattle.section.proofs.Accepted.{same_refusal, section_refused}
use Rattle.brassdozen.proofs.Placed.{given_none}
use Rattle.brassdozen.proofs.brassdozen_place.Goals as goal

-- the number of a section's own refusal
its_own : (s : List ℕ) {r : Refusal} → Err r ≡ section_of s → number r ≡ refusal_of s
its_own s is = section_refused s is ∙ same_refusal s

pub returns-in-Err-clause-value : goal.returns-in-Err-clause-value
returns-in-Err-clause-value c =
    let own = its_own c.args.section.now (sym c.in-Err.is ∙ c.open.ensures) in
    c.number.ensures ∙ own ∙ (given_none c.args.section.now c.args.place c.args.out.now (λ none. not_refused c.in-Err.refusal (own ∙ none))).0

pub returns-in-Err-clause-out_after : goal.returns-in-Err-clause-out_after
returns-in-Err-clause-out_after c =
    let own = its_own c.args.section.now (sym c.in-Err.is ∙ c.open.ensures) in
    (given_none c.args.section.now c.args.place c.args.out.now (λ none. not_refused c.in-Err.refusal (own ∙ none))).1

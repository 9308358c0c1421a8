-- `tally::count_word` meets its contract: an accepted word's root has a count, and so has the number that one is refused with. Assumes nothing.
use Rattle.std.proofs.Common.{◌≡◌, ℕ, ◌+◌, ◌<◌, ◌⊎◌, List, Ok, Err, refl, ap, ◌∙◌, ⊎_elim, arith}
use Rattle.word.specs.Refusal.{number, not_refused}
use Rattle.word.specs.declared.refusal.Refusal.{Refusal}
use Rattle.insn.specs.Answer.{Decoded}
use Rattle.insn.specs.Roots.{NAMES}
use Rattle.insn.specs.declared.Insn.{Insn}
use Rattle.a32.specs.Decode.{decode_of}
use Rattle.a32_every.proofs.Refusals.{two_or_three}
use Rattle.line_spelling.proofs.FormedAll.{all_good}
use Rattle.section.specs.declared.Here.TheVariants.{Word}
use Rattle.tally.specs.Kinds.{one, word_is}
use Rattle.tally.specs.Tally.{plus}
use Rattle.tally.specs.Steps.{at, flow_and_root, one_of}
use Rattle.tally.proofs.Steps.{in_turn, named_adds, refused_adds}
use Rattle.tally.proofs.count_word.Goals as goal

module _ (w addr : ℕ) where
  small : {i : Insn} → Ok i ≡ decode_of w addr → i.name < NAMES
  small is = rw (← is) at ((all_good w addr).formed (rw (← is) refl)).named

  known : {r : Refusal} → Err r ≡ decode_of w addr → (number r ≡ 2) ⊎ (number r ≡ 3)
  known {r} is = rw (← is) at (two_or_three w addr (rw (← is) (λ none. not_refused r none)))

  told : {d : Decoded} → d ≡ decode_of w addr → (counts : List ℕ) → plus (λ kind. one (word_is d kind)) counts ≡ plus (one_of (Word w addr)) counts
  told is counts = ap (λ (x : Decoded). plus (λ kind. one (word_is x kind)) counts) is

pub count_named-requires : goal.count_named-requires
count_named-requires c =
    (omega (arith, c.raise.auto.counts), small _ _ c.in-Ok.ensures)

pub raise-requires-in-Err : goal.raise-requires-in-Err
raise-requires-in-Err c = (
  omega (arith, c.raise.auto.counts),
  ⊎_elim (λ e. omega (arith, c.number.ensures)) (λ e. omega (arith, c.number.ensures)) (known _ _ c.in-Err.ensures),
)

pub returns-in-Ok : goal.returns-in-Ok
returns-in-Ok c =
    let i = c.in-Ok.insn in
    rw (c.count_named.ensures, c.raise.ensures)
    (in_turn (at 1) (flow_and_root i) (named_adds (Ok i) refl) _ ∙ told _ _ c.in-Ok.ensures _)

pub returns-in-Err : goal.returns-in-Err
returns-in-Err c =
    let r = c.in-Err.refusal in
    rw (c.raise-in-Err.ensures, c.raise.ensures, c.number.ensures)
    (in_turn (at 1) (at (1 + number r)) (refused_adds (Err r) (known _ _ c.in-Err.ensures)) _ ∙ told _ _ c.in-Err.ensures _)

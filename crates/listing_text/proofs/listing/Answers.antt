-- `listing_text::listing` meets its contract: whether the listing fits is known before a byte of it is written. Assumes nothing.
use mathlib.Core.Path.{◌≡◌, sym, ◌∙◌}
use mathlib.Core.List.{List}
use Prim.Native.Nat.{ℕ, ◌≤◌}
use native.Mathlib.Omega.{arith}
use lib.ListN.{length, length-take}
use Rattle.std.specs.Prelude.{Ok, Err}
use Rattle.word.specs.Refusal.{number, not_refused}
use Rattle.word.specs.declared.refusal.Refusal.{Refusal}
use Rattle.text.proofs.Writing.{front}
use Rattle.text.proofs.Settled.{ends_within}
use Rattle.section.specs.Section.{section_of}
use Rattle.section.proofs.Accepted.{same_refusal, same_section, section_passed, section_refused}
use Rattle.listing_text.specs.Listing.{listed_of, refusal_line, listing_of}
use Rattle.listing_text.proofs.Enough.{refusal_fits}
use Rattle.listing_text.proofs.Laid.{accepts, refuses}
use Rattle.listing_text.proofs.listing.Goals as goal

module _ (s : List ℕ) where
  accepted : {bytes : List ℕ} → Ok bytes ≡ section_of s → listed_of bytes ≡ listing_of s
  accepted is = rw (same_section s is) (sym (accepts s (same_refusal s ∙ section_passed s is)))

  module _ {r : Refusal} (is : Err r ≡ section_of s) where
    refused : refusal_line (number r) ≡ listing_of s
    refused = sym (refuses s (section_refused s is) (λ none. not_refused r none))

    short : length (refusal_line (number r)) ≤ 11
    short = rw (section_refused s is) (refusal_fits s)

pub put_refusal-len-requires : goal.put_refusal-len-requires
put_refusal-len-requires c = omega (arith, short c.args.section.now c.in-Err.ensures)

pub slice_bounds-line-end : goal.slice_bounds-line-end
slice_bounds-line-end c =
    ends_within c.put_refusal-len.ensures c.put_refusal-len.auto.out (omega (arith, short c.args.section.now c.in-Err.ensures))

pub slice_bounds-put_whole-end : goal.slice_bounds-put_whole-end
slice_bounds-put_whole-end c =
    simp length-take
    (omega (
      arith,
      ends_within c.put_refusal-len.ensures c.put_refusal-len.auto.out (omega (arith, short c.args.section.now c.in-Err.ensures)),
    ))

pub returns-in-Ok-clause-value : goal.returns-in-Ok-clause-value
returns-in-Ok-clause-value c = rw (accepted c.args.section.now c.in-Ok.ensures) at c.put_accepted.ensures.value

pub returns-in-Ok-clause-out_after : goal.returns-in-Ok-clause-out_after
returns-in-Ok-clause-out_after c = rw (accepted c.args.section.now c.in-Ok.ensures) at c.put_accepted.ensures.out_after

pub returns-in-Err-clause-value : goal.returns-in-Err-clause-value
returns-in-Err-clause-value c =
    rw (← (refused c.args.section.now c.in-Err.ensures)) (rw (front c.put_refusal-len.ensures) at c.put_whole.ensures.value)

pub returns-in-Err-clause-out_after : goal.returns-in-Err-clause-out_after
returns-in-Err-clause-out_after c =
    rw (← (refused c.args.section.now c.in-Err.ensures)) (rw (front c.put_refusal-len.ensures) at c.put_whole.ensures.out_after)

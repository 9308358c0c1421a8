-- What is given and left of a place of a section. Assumes nothing.
use mathlib.Core.Path.{◌≡◌, ap}
use mathlib.Core.List.{List, []}
use Prim.Native.Nat.{ℕ}
use native.Mathlib.Omega.{arith}
use borrow.Author.Tests.{eq-eqb, ne_eqb, le-leb}
use lib.ListN.{length}
use Rattle.text.specs.Fits.{last_of}
use Rattle.text.proofs.Writing.{nothing}
use Rattle.section.specs.Section.{refusal_of, here_of}
use Rattle.section.specs.declared.Here.{Here}
use Rattle.section.specs.declared.Opened.{Opened}
use Rattle.section.proofs.Accepted.{holds_none}
use Rattle.section.proofs.Places.{how_many_lem, at_end}
use Rattle.brassdozen.specs.Given.{here_row, here_refusal, place_refusal, place_last}

-- no numbers change nothing
pub none_written : (out : List ℕ) → out ≡ last_of [] out
none_written out = unfold last_of in simp (le-leb 0 (length out) (omega arith)) (nothing out 0)

module _ (s : List ℕ) (place : ℕ) (out : List ℕ) where
  -- of an accepted section what is read there
  pub given_there : {here : Here} {r : ℕ} {last : List ℕ} → refusal_of s ≡ 0 → here ≡ here_of s place
      → (r ≡ here_refusal here out) × (last ≡ last_of (here_row here) out)
      → (r ≡ place_refusal s place out) × (last ≡ place_last s place out)
  given_there ok is given = simp (eq-eqb (refusal_of s) 0 ok) (rw is at given)

  -- and of another its number, since it has no place
  pub given_none : (refusal_of s ≡ 0 → ⊥) → (refusal_of s ≡ place_refusal s place out) × (out ≡ place_last s place out)
  given_none bad =
      let none = at_end s {place = place} (omega (arith, how_many_lem s, ap (λ (o : Opened). o.count) (holds_none s bad))) in
      (simp (ne_eqb (refusal_of s) 0 bad), rw none (none_written out))

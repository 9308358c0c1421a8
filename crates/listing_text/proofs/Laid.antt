-- The listing in its parts, by what the section was opened to. Assumes nothing.
use mathlib.Core.Path.{◌≡◌}
use mathlib.Core.List.{List, ◌++◌}
use Prim.Native.Nat.{ℕ, ◌+◌, ◌≤◌}
use native.Mathlib.Omega.{arith}
use borrow.Author.Tests.{ne_eqb}
use lib.ListN.{length, length-append}
use Rattle.std.specs.Prelude.{Ok}
use Rattle.word.specs.Refusal.{refused_with}
use Rattle.section.specs.Section.{opened_of, opening_of, places_of}
use Rattle.section.specs.declared.Opened.{Opened}
use Rattle.section.proofs.Accepted.{is_opening}
use Rattle.listing_text.specs.Listing.{header_of, lines_of, named_here, data_here, total, closes, listed_of, refusal_line, listing_of}
use Rattle.listing_text.proofs.Grow.{adds_up, refused_rest}
use Rattle.listing_text.proofs.Enough.{closing, closing_fits}

module _ (s : List ℕ) {o : Opened} (opened : opened_of s ≡ Ok o) where
  pub is : o ≡ opening_of s
  is = is_opening s opened

  pub laid : listed_of s ≡ header_of o ++ lines_of (places_of s) ++ closes o (total named_here (places_of s)) (total data_here (places_of s))
  laid = unfold listed_of in rw (is, refused_rest s)

  closes_so : closes o (total named_here (places_of s)) (total data_here (places_of s)) ≡ closing s
  closes_so = rw (is, ← (refused_rest s))

  pub closing_short : length (closes o (total named_here (places_of s)) (total data_here (places_of s))) ≤ 45
  closing_short = rw closes_so (closing_fits s)

  pub counted : total named_here (places_of s) + total data_here (places_of s) ≤ o.count
  counted = rw is (omega (arith, adds_up s))

  pub sizes :
      length (listed_of s)
      ≡ length (header_of o) + length (lines_of (places_of s)) + length (closes o (total named_here (places_of s)) (total data_here (places_of s)))
  sizes = rw laid (simp length-append)

-- a section that is accepted, and one that is refused
pub accepts : (s : List ℕ) → refused_with (opened_of s) ≡ 0 → listing_of s ≡ listed_of s
accepts s ok = unfold listing_of in simp ok

pub refuses : (s : List ℕ) {n : ℕ} → n ≡ refused_with (opened_of s) → (n ≡ 0 → ⊥) → listing_of s ≡ refusal_line n
refuses s {n} is some = unfold listing_of in rw (← is) (simp (ne_eqb n 0 some))

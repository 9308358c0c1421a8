-- What the lines before a place take, and what is counted of them. Assumes nothing.
use mathlib.Core.Path.{◌≡◌, refl, ap}
use mathlib.Core.Bool.{Bool, true, false, true≢false}
use mathlib.Core.List.{List, [], ◌∷◌, foldl, foldl-append}
use Prim.Native.Nat.{ℕ, zero, suc, ◌+◌, ◌-◌, ◌*◌, ◌<◌, ◌≤◌}
use native.Mathlib.Omega.{arith}
use lib.Dec.{eqb}
use lib.ListN.{length, take, drop, length-append, length-take, take-append-drop}
use Rattle.word.specs.Choice.{pick}
use Rattle.word.specs.Refusal.{refused_with}
use Rattle.a32.specs.Decode.{decode_of}
use Rattle.line_spelling.proofs.Fits.{line_fits}
use Rattle.line_spelling.proofs.Digits.{hex_length}
use Rattle.section.specs.Section.{firsts, opening_of, here_at, places_of, step_of}
use Rattle.section.specs.declared.Step.{Step}
use Rattle.section.specs.declared.Here.{Here}
use Rattle.section.specs.declared.Here.TheVariants.{Word, Data, End}
use Rattle.section.proofs.Accepted.{opened}
use Rattle.section.proofs.Places.{Stands, something, how_many_lem}
use Rattle.section.proofs.Fold.{upto, before, goes_on}
use Rattle.listing_text.specs.Listing.{data_line, line_here, add_line, lines_of, named_here, refused_here, data_here, adding, total}

-- a line takes at most 96 bytes, and a data word's 23
pub data_length : (addr w : ℕ) → length (data_line addr w) ≡ 23
data_length addr w = unfold data_line in simp length-append (omega (arith, hex_length 8 addr, hex_length 8 w))

pub line_short : (here : Here) → length (line_here here) + data_here here ≤ 96
line_short (Word word address) = omega (arith, line_fits address word)
line_short (Data word address) = omega (arith, data_length address word)
line_short End = omega arith

-- a word is counted once: as named, as refused or as data
pub at_most_one : (b : Bool) → pick b 1 0 ≤ 1
at_most_one true = omega arith
at_most_one false = omega arith

pub one_named : (here : Here) → named_here here ≤ 1
one_named (Word word address) = at_most_one (eqb (refused_with (decode_of word address)) 0)
one_named (Data word address) = omega arith
one_named End = omega arith

pub one_data : (here : Here) → data_here here ≤ 1
one_data (Word word address) = omega arith
one_data (Data word address) = omega arith
one_data End = omega arith

once : (here : Here) → Stands here → named_here here + refused_here here + data_here here ≡ 1
once (Word word address) some = either (eqb (refused_with (decode_of word address)) 0)
  where
    either : (b : Bool) → pick b 1 0 + pick b 0 1 + 0 ≡ 1
    either true = refl
    either false = refl
once (Data word address) some = refl
once End some = absurd (true≢false some)

module _ (at : ℕ → Here) (some : (i : ℕ) → Stands (at i)) where
  one_more : (one : Here → ℕ) (n : ℕ) → total one (firsts at (suc n)) ≡ total one (firsts at n) + one (at n)
  one_more one n = foldl-append (adding one) 0 (firsts at n) (at n ∷ [])

  all_once : (n : ℕ) → total named_here (firsts at n) + total refused_here (firsts at n) + total data_here (firsts at n) ≡ n
  all_once zero = refl
  all_once (suc n) =
      omega (arith, one_more named_here n, one_more refused_here n, one_more data_here n, all_once n, once (at n) (some n))

-- so many places take no more
lines_short : (places : List Here) (text : List ℕ) (n : ℕ)
    → length (foldl add_line text places) + foldl (adding data_here) n places ≤ length text + n + 96 * length places
lines_short [] text n = omega arith
lines_short (here ∷ places) text n =
    omega (arith, lines_short places (add_line text here) (adding data_here n here), length-append text (line_here here), line_short here)

module _ (one : Here → ℕ) (few : (here : Here) → one here ≤ 1) where
  at_most : (places : List Here) (n : ℕ) → foldl (adding one) n places ≤ n + length places
  at_most [] n = omega arith
  at_most (here ∷ places) n = omega (arith, at_most places (adding one n here), few here)

-- and no less than the first of them
lines_grow : (places : List Here) (text : List ℕ) → length text ≤ length (foldl add_line text places)
lines_grow [] text = omega arith
lines_grow (here ∷ places) text = omega (arith, lines_grow places (add_line text here), length-append text (line_here here))

module _ (s : List ℕ) where
  -- "6 words 4 named 2 refused": the counts of the closing line add up
  pub adds_up : total named_here (places_of s) + total refused_here (places_of s) + total data_here (places_of s) ≡ (opening_of s).count
  adds_up = unfold places_of in all_once (here_at s (opening_of s)) (something s (opening_of s)) (opening_of s).count

  pub refused_rest : total refused_here (places_of s) ≡ (opening_of s).count - total named_here (places_of s) - total data_here (places_of s)
  refused_rest = omega (arith, adds_up)

  pub all_short : length (lines_of (places_of s)) + total data_here (places_of s) ≤ 96 * (opening_of s).count
  all_short = omega (arith, lines_short (places_of s) [] 0, how_many_lem s)

  first_short : (place : ℕ) → length (upto add_line [] s place) ≤ length (lines_of (places_of s))
  first_short place =
      omega (
        arith,
        ap length (foldl-append add_line [] (take place (places_of s)) (drop place (places_of s))),
        ap (λ (l : List Here). length (lines_of l)) (take-append-drop place (places_of s)),
        lines_grow (drop place (places_of s)) (upto add_line [] s place),
      )

  -- at a place where something stands, the next line has room, and the numbers before it are small
  module _ (place : ℕ) {found : Step} (is : found ≡ step_of s place) (some : Stands found.here) where
    pub next_fits : length (upto add_line [] s place) + length (line_here found.here) ≤ length (lines_of (places_of s))
    next_fits =
        omega (
          arith,
          first_short found.after,
          ap length (goes_on s place is refl some add_line []),
          length-append (upto add_line [] s place) (line_here found.here),
        )

    small : length (take place (places_of s)) < 4096
    small = simp length-take (omega (arith, before s place is refl some, how_many_lem s, (opened s).few))

    pub count_small : (one : Here → ℕ) → ((here : Here) → one here ≤ 1) → upto (adding one) 0 s place < 4096
    count_small one few = omega (arith, at_most one few (take place (places_of s)) 0, small)

    pub lines_small : length (upto add_line [] s place) < 96 * 4096
    lines_small = omega (arith, lines_short (take place (places_of s)) [] 0, small)

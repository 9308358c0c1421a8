-- A listing takes at most 96 bytes for each word, and 64 for the two lines around them: of 4,096 words 393,280. The closing line of version 2 can be
-- longer by a byte, but then it counts data, and a data word's line is shorter. Assumes nothing.
use mathlib.Core.Path.{◌≡◌}
use mathlib.Core.List.{List}
use Prim.Native.Nat.{ℕ, ◌+◌, ◌*◌, ◌^◌, ◌<◌, ◌≤◌}
use native.Mathlib.Omega.{arith}
use borrow.Author.Tests.{ltb-true, ltb-false}
use lib.Dec.{eqb, ltb}
use lib.ListN.{length, length-append}
use Rattle.word.specs.Choice.{by_test, tested}
use Rattle.word.specs.Refusal.{refused_with}
use Rattle.line_spelling.specs.Line.{refused_text}
use Rattle.line_spelling.proofs.Digits.{decimal_length, hex_length}
use Rattle.text.specs.Text.{decimal_of}
use Rattle.section.specs.Section.{opened_of, opening_of, places_of}
use Rattle.section.specs.declared.Opened.{Opened}
use Rattle.section.proofs.Accepted.{opened, same_refusal, small_refusal}
use Rattle.listing_text.specs.Listing.{header_of, named_here, refused_here, data_here, total, last_count, closing_of, listed_of, refusal_line, listing_of}
use Rattle.listing_text.proofs.Grow.{adds_up, all_short}

header_short : (o : Opened) → o.version < 10 → o.count < 10 ^ 4 → length (header_of o) ≤ 20
unfolding header_of
header_short o v h = simp length-append (omega (arith, decimal_length 0 o.version v, decimal_length 3 o.count h, hex_length 8 o.base))

-- of no words one digit, and else at most four
digits_short : (n : ℕ) → n < 10 ^ 4 → length (decimal_of n) ≤ 3 + n
digits_short n h =
    by_test (ltb n 1)
    (λ e. omega (arith, decimal_length 0 n (omega (arith, ltb-true n 1 e))))
    (λ e. omega (arith, decimal_length 3 n h, ltb-false n 1 e))

last_short : (version pool : ℕ) → length (last_count version pool) ≤ 6 + length (decimal_of pool)
last_short version pool =
    tested (λ (text : List ℕ). length text ≤ 6 + length (decimal_of pool)) (eqb version 2)
    (λ e. simp length-append (omega arith))
    (λ e. omega arith)

closing_short : (version count named refused pool : ℕ) → count < 10 ^ 4 → named + refused + pool ≡ count
    → length (closing_of version count named refused pool) ≤ 41 + length (decimal_of pool)
closing_short version count named refused pool h sum = unfold closing_of in
    simp length-append
    (omega (
      arith,
      decimal_length 3 count h,
      decimal_length 3 named (omega arith),
      decimal_length 3 refused (omega arith),
      last_short version pool,
    ))

module _ (s : List ℕ) where
  abbrev pub closing : List ℕ
  closing =
      closing_of (opening_of s).version (opening_of s).count (total named_here (places_of s)) (total refused_here (places_of s)) (total data_here (places_of s))

  pub header_fits : length (header_of (opening_of s)) ≤ 20
  header_fits = header_short (opening_of s) (omega (arith, (opened s).version)) (omega (arith, (opened s).few))

  pool_few : total data_here (places_of s) < 10 ^ 4
  pool_few = omega (arith, adds_up s, (opened s).few)

  closing_most : length closing ≤ 41 + length (decimal_of (total data_here (places_of s)))
  closing_most =
      closing_short (opening_of s).version (opening_of s).count (total named_here (places_of s)) (total refused_here (places_of s))
      (total data_here (places_of s)) (omega (arith, (opened s).few)) (adds_up s)

  pub closing_fits : length closing ≤ 45
  closing_fits = omega (arith, closing_most, decimal_length 3 (total data_here (places_of s)) pool_few)

  pub refusal_fits : length (refusal_line (refused_with (opened_of s))) ≤ 11
  unfolding refused_text
  refusal_fits =
      simp length-append (omega (arith, decimal_length 1 (refused_with (opened_of s)) (rw (same_refusal s) (omega (arith, small_refusal s)))))

  pub listed_short : length (listed_of s) ≤ 64 + 96 * (opening_of s).count
  listed_short = unfold listed_of in simp length-append (omega (arith, all_short s, header_fits, closing_most, digits_short (total data_here (places_of s)) pool_few))

  pub listing_short : length (listing_of s) ≤ 64 + 96 * (opening_of s).count
  listing_short = unfold listing_of in
      tested (λ (text : List ℕ). length text ≤ 64 + 96 * (opening_of s).count) (eqb (refused_with (opened_of s)) 0)
      (λ e. listed_short)
      (λ e. omega (arith, refusal_fits))

  pub listing_fits : length (listing_of s) ≤ 393280
  listing_fits = omega (arith, listing_short, (opened s).few)

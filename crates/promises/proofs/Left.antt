-- What is left of a lent buffer, as the contracts that write to one have it. Assumes nothing.
use mathlib.Core.Path.{◌≡◌, refl, sym, ap, ◌∙◌}
use mathlib.Core.Logic.{inl, inr, ⊎_elim}
use Rattle.std.specs.Prelude.{Result, Ok, Err}
use Rattle.word.specs.Refusal.{number, numbered, numbered_number, refused_with, refusing}
use Rattle.word.specs.declared.refusal.Refusal.{Refusal}
use mathlib.Core.Bool.{true, false}
use mathlib.Core.List.{List, ◌++◌}
use Prim.Native.Nat.{ℕ, ◌<◌, ◌≤◌}
use native.Mathlib.Nat.{zero-add}
use native.Mathlib.Omega.{arith}
use borrow.Author.Tests.{eq-eqb, ne_eqb, le-leb, lt-leb, eqb-true, eqb-false, leb-true, leb-false}
use lib.Dec.{eqb, leb}
use lib.ListN.{length, take, drop}
use lib.Seq.{take-append_seam}
use Rattle.word.specs.Choice.{pick, by_test, tested}
use Rattle.insn.specs.Answer.{Decoded, insn_in}
use Rattle.text.specs.Text.{written}
use Rattle.encode.specs.Encode.{Encoded, word_in}
use Rattle.word_packed.specs.Packed.{packed, packed_answer}
use Rattle.text.specs.Fits.{Written, answer_of, last_of, len_in}
use Rattle.section.specs.Section.{range_count, refusal_of, opening_of, is_end, places_of, here_of}
use Rattle.section.proofs.Accepted.{refusal_known}
use Rattle.section.proofs.Refused.{InTable}
use Rattle.section.proofs.Places.{before_end, at_end, something}
use Rattle.section_convert.specs.Convert.{converted_of, conversion_refusal, given_of, left_of}
use Rattle.section_convert.specs.declared.Target.{Target}
use Rattle.section_convert.specs.declared.Target.TheVariants.{One, Two}
use Rattle.patched.specs.Patched.{patched_of, patched_refusal, patched_given, patched_left}
use Rattle.insn_row.specs.Row.{row_of}
use Rattle.brassdozen.specs.Given.{row_refusal, row_last, here_row, place_refusal, place_last}
use Rattle.brassdozen.proofs.Placed.{none_written}

-- a text that fits is written, and one that does not leaves all as it was
pub puts : {A : Type 0} (gives : ℕ → ℕ → A) (of : Written → A) (same : (a : Written) → of a ≡ gives (refused_with a) (len_in a)) (text out : List ℕ)
    → (length text ≤ length out
    → (of (answer_of text out) ≡ gives 0 (length text)) × (last_of text out ≡ text ++ drop (length text) out))
    × (length out < length text → (of (answer_of text out) ≡ gives 10 0) × (last_of text out ≡ out))
puts gives of same text out = unfold answer_of last_of written in (
  λ room. (same _ ∙ simp (le-leb (length text) (length out) room), simp (le-leb (length text) (length out) room, zero-add)),
  λ short. (same _ ∙ simp (lt-leb (length text) (length out) short), simp (lt-leb (length text) (length out) short)),
)

-- the row of an accepted answer is such a text, and any other answer leaves all as it was
pub puts_row : (d : Decoded) (out : List ℕ)
    → (refused_with d ≡ 0
    → (length (row_of (insn_in d)) ≤ length out → (row_refusal d out ≡ 0) × (row_last d out ≡ row_of (insn_in d) ++ drop (length (row_of (insn_in d))) out))
    × (length out < length (row_of (insn_in d)) → (row_refusal d out ≡ 10) × (row_last d out ≡ out)))
    × ((refused_with d ≡ 0 → ⊥) → (row_refusal d out ≡ refused_with d) × (row_last d out ≡ out))
puts_row d out = (λ ok. simp ok (puts (λ n len. n) refused_with (λ a. refl) (row_of (insn_in d)) out), λ bad. simp (ne_eqb (refused_with d) 0 bad) (refl, refl))

-- so is a section that is written where the number n of its checks is 0; another number is given, and leaves all as it was
module _ (n : ℕ) (known : InTable n) (text out : List ℕ) where
  abbrev given_after : Written
  given_after = pick (eqb n 0) (answer_of text out) (refusing n)

  abbrev left_after : List ℕ
  left_after = pick (eqb n 0) (last_of text out) out

  -- and is the number that is read off the answer
  told : (n ≡ 0 → ⊥) → number (numbered n) ≡ n
  told bad = ⊎_elim (λ (none : n ≡ 0). absurd (bad none)) (λ (is : number (numbered n) ≡ n). is) known

  puts_after : {A : Type 0} (gives : ℕ → ℕ → A) (of : Written → A) (same : (a : Written) → of a ≡ gives (refused_with a) (len_in a))
      → (n ≡ 0
      → (length text ≤ length out
      → (of given_after ≡ gives 0 (length text)) × (left_after ≡ text ++ drop (length text) out))
      × (length out < length text → (of given_after ≡ gives 10 0) × (left_after ≡ out)))
      × ((n ≡ 0 → ⊥) → (of given_after ≡ gives n 0) × (left_after ≡ out))
  puts_after gives of same = (
    λ ok. simp (eq-eqb n 0 ok) (puts gives of same text out),
    λ bad. simp (ne_eqb n 0 bad) (same _ ∙ ap (λ k. gives k 0) (told bad), refl),
  )

  -- where no refusal is given, the text was written
  is_written : refused_with given_after ≡ 0 → (n ≡ 0) × (take (len_in given_after) left_after ≡ text)
  is_written ok =
      by_test (eqb n 0)
      (λ e. by_test (leb (length text) (length out)) (fits (eqb-true n 0 e)) (λ f. absurd (short (eqb-true n 0 e) f)))
      (λ e. absurd (eqb-false n 0 e (sym ((puts_after (λ k len. k) refused_with (λ a. refl)).1 (eqb-false n 0 e)).0 ∙ ok)))
    where
      fits : n ≡ 0 → leb (length text) (length out) ≡ true → (n ≡ 0) × (take (len_in given_after) left_after ≡ text)
      fits none f =
          let told = ((puts_after (λ k len. len) len_in (λ a. refl)).0 none).0 (leb-true (length text) (length out) f) in
          (none, rw (told.0, told.1) (take-append_seam text (drop (length text) out)))

      short : n ≡ 0 → leb (length text) (length out) ≡ false → ⊥
      short none f =
          let told = ((puts_after (λ k len. k) refused_with (λ a. refl)).0 none).1 (leb-false (length text) (length out) f) in
          omega (arith, told.0, ok)

-- the numbers that a section is refused with, converted or patched, are in the table of refusals
conversion_known : (target : Target) (s : List ℕ) → InTable (conversion_refusal target s)
conversion_known One s = unfold conversion_refusal in
    tested InTable (eqb (refusal_of s) 0)
    (λ e. tested InTable (eqb (range_count s) 0) {x = 0} {y = 12} (λ none. inl refl) (λ some. inr refl))
    (λ e. refusal_known s)
conversion_known Two s = unfold conversion_refusal in refusal_known s

patched_known : (s p : List ℕ) → InTable (patched_refusal s p)
patched_known s p = unfold patched_refusal in tested InTable (eqb (refusal_of s) 0) (λ e. refusal_known p) (λ e. refusal_known s)

-- a converted section
pub puts_section : {A : Type 0} (gives : ℕ → ℕ → A) (of : Written → A) (same : (a : Written) → of a ≡ gives (refused_with a) (len_in a)) (target : Target) (s out : List ℕ)
    → (conversion_refusal target s ≡ 0
    → (length (converted_of target s) ≤ length out
    → (of (given_of target s out) ≡ gives 0 (length (converted_of target s)))
    × (left_of target s out ≡ converted_of target s ++ drop (length (converted_of target s)) out))
    × (length out < length (converted_of target s)
    → (of (given_of target s out) ≡ gives 10 0) × (left_of target s out ≡ out)))
    × ((conversion_refusal target s ≡ 0 → ⊥)
    → (of (given_of target s out) ≡ gives (conversion_refusal target s) 0) × (left_of target s out ≡ out))
puts_section gives of same target s out = unfold given_of left_of in puts_after (conversion_refusal target s) (conversion_known target s) (converted_of target s) out gives of same

pub is_converted : (target : Target) (s out : List ℕ) → refused_with (given_of target s out) ≡ 0
    → (conversion_refusal target s ≡ 0) × (take (len_in (given_of target s out)) (left_of target s out) ≡ converted_of target s)
is_converted target s out = unfold given_of left_of in is_written (conversion_refusal target s) (conversion_known target s) (converted_of target s) out

-- a patched section
pub puts_patched : {A : Type 0} (gives : ℕ → ℕ → A) (of : Written → A) (same : (a : Written) → of a ≡ gives (refused_with a) (len_in a)) (s p out : List ℕ)
    → (patched_refusal s p ≡ 0
    → (length (patched_of s p) ≤ length out
    → (of (patched_given s p out) ≡ gives 0 (length (patched_of s p)))
    × (patched_left s p out ≡ patched_of s p ++ drop (length (patched_of s p)) out))
    × (length out < length (patched_of s p)
    → (of (patched_given s p out) ≡ gives 10 0) × (patched_left s p out ≡ out)))
    × ((patched_refusal s p ≡ 0 → ⊥)
    → (of (patched_given s p out) ≡ gives (patched_refusal s p) 0) × (patched_left s p out ≡ out))
puts_patched gives of same s p out = unfold patched_given patched_left in puts_after (patched_refusal s p) (patched_known s p) (patched_of s p) out gives of same

pub is_patched : (s p out : List ℕ) → refused_with (patched_given s p out) ≡ 0
    → (patched_refusal s p ≡ 0) × (take (len_in (patched_given s p out)) (patched_left s p out) ≡ patched_of s p)
is_patched s p out = unfold patched_given patched_left in is_written (patched_refusal s p) (patched_known s p) (patched_of s p) out

-- what stands at a place of an accepted section is such a text too, and there is none from the number of its places on
module _ (s : List ℕ) (place : ℕ) (out : List ℕ) (ok : refusal_of s ≡ 0) where
  pub puts_place : place < length (places_of s)
      → (length (here_row (here_of s place)) ≤ length out
      → (place_refusal s place out ≡ 0) × (place_last s place out ≡ here_row (here_of s place) ++ drop (length (here_row (here_of s place))) out))
      × (length out < length (here_row (here_of s place)) → (place_refusal s place out ≡ 10) × (place_last s place out ≡ out))
  puts_place inside =
      let stands : is_end (here_of s place) ≡ false = rw (before_end s inside) (something s (opening_of s) place) in
      simp (eq-eqb (refusal_of s) 0 ok, stands) (puts (λ n len. n) refused_with (λ a. refl) (here_row (here_of s place)) out)

  pub no_more : length (places_of s) ≤ place → (place_refusal s place out ≡ 13) × (place_last s place out ≡ out)
  no_more beyond = rw (at_end s beyond) (simp (eq-eqb (refusal_of s) 0 ok), sym (none_written out))

-- what is refused with the number of another answer, which is refused, too
pub refused_alike : {A : Type 0} (B : Type 0) (x : Result A Refusal) → (refused_with x ≡ 0 → ⊥)
    → refused_with (refusing {A = B} (refused_with x)) ≡ refused_with x
refused_alike B (Ok a) bad = absurd (bad refl)
refused_alike B (Err r) bad = ap number (numbered_number r)

-- a length for C, by its parts
pub packed_parts : (a : Written) → packed_answer a ≡ packed (refused_with a) (len_in a)
packed_parts (Ok n) = refl
packed_parts (Err r) = refl

pub packed_word : (e : Encoded) → packed_answer e ≡ packed (refused_with e) (word_in e)
packed_word (Ok n) = refl
packed_word (Err r) = refl

-- The pages' "SEE", by the numbers of titles. Assumes nothing.
use Rattle.std.proofs.Common.{◌≡◌, refl, ap, ◌∙◌, subst, Bool, true, false, ℕ, ◌<◌, zero-add, arith, ne_eqb, eq-eqb, eqb, get_or}
use Prim.Native.String.{String}
use lib.Text.{eqt}
use Rattle.word.specs.Choice.{pick, both}
use Rattle.word.specs.Field.{field}
use Rattle.manual.specs.A5.{table_row}
use Rattle.manual.specs.A8.{is_among, returning, one_word, fewer_than_two, row_of, page_of, other_page_of}
use Rattle.manual.specs.Reads.{is_set}
use Rattle.manual_tables.specs.Titles.{title_at, number_of, Numbered}
use Rattle.manual_rows.specs.Told.{title_is, numbered}
use Rattle.manual_rows.proofs.Leading.{lead}
use Rattle.manual_tables.proofs.Place.{listed, at, tests_alike}
use Rattle.manual_tables.proofs.Parts.{both_false}

-- the array of the pages that return
abbrev byte_at : ℕ → ℕ
byte_at n = pick (is_among (title_at n) returning) 115 46

told_115 : (b : Bool) → eqb (pick b 115 46) 115 ≡ b
told_115 true = refl
told_115 false = refl

pub returning_is : (n : ℕ) → n < 271 → eqb (get_or (listed byte_at 0 271) n 0) 115 ≡ is_among (title_at n) returning
returning_is n h = ap (λ (x : ℕ). eqb x 115) (at byte_at 271 0 n h ∙ ap byte_at (zero-add n)) ∙ told_115 (is_among (title_at n) returning)

-- a word from or to the stack
module _ (w p u wb : ℕ) where
  abbrev is13 : Type 0
  is13 = field w 16 4 ≡ 13

  pub one_word_lem : is13 → field w 24 1 ≡ p → field w 23 1 ≡ u → field w 21 1 ≡ wb → eqb (field w 0 12) 4 ≡ one_word w p u wb
  one_word_lem a b d e = unfold one_word in simp (a, eq-eqb _ _ b, eq-eqb _ _ d, eq-eqb _ _ e)

  pub not_wback : is13 → field w 24 1 ≡ p → field w 23 1 ≡ u → (field w 21 1 ≡ wb → ⊥) → false ≡ one_word w p u wb
  not_wback a b d e = unfold one_word in simp (a, eq-eqb _ _ b, eq-eqb _ _ d, ne_eqb _ _ e)

  pub not_add : is13 → field w 24 1 ≡ p → (field w 23 1 ≡ u → ⊥) → false ≡ one_word w p u wb
  not_add a b d = unfold one_word in simp (a, eq-eqb _ _ b, ne_eqb _ _ d)

  pub not_index : is13 → (field w 24 1 ≡ p → ⊥) → false ≡ one_word w p u wb
  not_index a b = unfold one_word in simp (a, ne_eqb _ _ b)

  pub not_stack : (is13 → ⊥) → false ≡ one_word w p u wb
  not_stack a = unfold one_word in simp (ne_eqb _ _ a)

-- the titles that a SEE leads from
module _ (n : ℕ) (h : n < 271) where
  adr_is : eqt (title_at n) "ADR" ≡ eqb n 45
  adr_is = unfold title_at in tests_alike (λ i. eqt (title_at i) "ADR") (λ i. eqb i 45) 271 tt n h

  str_is : eqt (title_at n) "STR (immediate, ARM)" ≡ eqb n 131
  str_is = unfold title_at in tests_alike (λ i. eqt (title_at i) "STR (immediate, ARM)") (λ i. eqb i 131) 271 tt n h

  ldr_is : eqt (title_at n) "LDR (immediate, ARM)" ≡ eqb n 133
  ldr_is = unfold title_at in tests_alike (λ i. eqt (title_at i) "LDR (immediate, ARM)") (λ i. eqb i 133) 271 tt n h

  pop_is : eqt (title_at n) "POP" ≡ eqb n 221
  pop_is = unfold title_at in tests_alike (λ i. eqt (title_at i) "POP") (λ i. eqb i 221) 271 tt n h

  push_is : eqt (title_at n) "PUSH" ≡ eqb n 223
  push_is = unfold title_at in tests_alike (λ i. eqt (title_at i) "PUSH") (λ i. eqb i 223) 271 tt n h

module _ (w : ℕ) where
  -- from ADR
  pub adr_add : field w 20 1 ≡ 1 → field w 23 1 ≡ 1 → Numbered (other_page_of "ADR" w) 47
  adr_add s u = unfold other_page_of number_of in record { number = simp (s, u); known = omega arith }

  pub adr_sub : field w 20 1 ≡ 1 → (field w 23 1 ≡ 1 → ⊥) → Numbered (other_page_of "ADR" w) 44
  adr_sub s u = unfold other_page_of number_of in record { number = simp (s, ne_eqb _ _ u); known = omega arith }

  pub adr_stays : (field w 20 1 ≡ 1 → ⊥) → Numbered (other_page_of "ADR" w) 45
  adr_stays s = unfold other_page_of number_of in record { number = simp (ne_eqb _ _ s); known = omega arith }

  -- from the others
  pub to_push_one : one_word w 1 0 1 ≡ true → Numbered (other_page_of (title_at 131) w) 269
  to_push_one h = unfold other_page_of number_of title_at in record { number = simp h; known = omega arith }

  pub str_stays : one_word w 1 0 1 ≡ false → Numbered (other_page_of (title_at 131) w) 131
  str_stays h = unfold other_page_of number_of title_at in record { number = simp h; known = omega arith }

  pub to_pop_one : one_word w 0 1 0 ≡ true → Numbered (other_page_of (title_at 133) w) 270
  to_pop_one h = unfold other_page_of number_of title_at in record { number = simp h; known = omega arith }

  pub ldr_stays : one_word w 0 1 0 ≡ false → Numbered (other_page_of (title_at 133) w) 133
  ldr_stays h = unfold other_page_of number_of title_at in record { number = simp h; known = omega arith }

  pub to_ldm : fewer_than_two w ≡ true → Numbered (other_page_of (title_at 221) w) 220
  to_ldm h = unfold other_page_of number_of title_at in record { number = simp h; known = omega arith }

  pub pop_stays : fewer_than_two w ≡ false → Numbered (other_page_of (title_at 221) w) 221
  pop_stays h = unfold other_page_of number_of title_at in record { number = simp h; known = omega arith }

  pub to_stmdb : fewer_than_two w ≡ true → Numbered (other_page_of (title_at 223) w) 222
  to_stmdb h = unfold other_page_of number_of title_at in record { number = simp h; known = omega arith }

  pub push_stays : fewer_than_two w ≡ false → Numbered (other_page_of (title_at 223) w) 223
  push_stays h = unfold other_page_of number_of title_at in record { number = simp h; known = omega arith }

  -- a page that leads nowhere
  pub others_stay : (n : ℕ) → n < 271 → (n ≡ 45 → ⊥) → (n ≡ 131 → ⊥) → (n ≡ 133 → ⊥) → (n ≡ 221 → ⊥) → (n ≡ 223 → ⊥)
      → Numbered (other_page_of (title_at n) w) n
  others_stay n h a b d e f = unfold other_page_of in
      lead
      (simp (
        adr_is n h,
        str_is n h,
        ldr_is n h,
        pop_is n h,
        push_is n h,
        ne_eqb n 45 a,
        ne_eqb n 131 b,
        ne_eqb n 133 d,
        ne_eqb n 221 e,
        ne_eqb n 223 f,
      ))
      (numbered n h)

-- the page of a row
module _ (w n : ℕ) (row : Numbered (table_row w) n) where
  pub returns : is_among (title_at n) returning ≡ true → both (eqb (field w 12 4) 15) (is_set w 20) ≡ true → Numbered (row_of w) 268
  returns a b = unfold row_of page_of number_of in record { number = simp (simp (title_is row) at a, b); known = omega arith }

  -- else the row leads on as any other
  pub not_returning : is_among (title_at n) returning ≡ false → {r : ℕ} → Numbered (other_page_of (title_at n) w) r → Numbered (row_of w) r
  unfolding row_of page_of other_page_of
  not_returning a {r} h = lead (simp (simp (title_is row) at a)) (subst (λ (s : String). Numbered (other_page_of s w) r) (title_is row) h)

  pub no_return : both (eqb (field w 12 4) 15) (is_set w 20) ≡ false → {r : ℕ} → Numbered (other_page_of (title_at n) w) r → Numbered (row_of w) r
  unfolding row_of page_of other_page_of
  no_return a {r} h = lead (simp (a, both_false)) (subst (λ (s : String). Numbered (other_page_of s w) r) (title_is row) h)

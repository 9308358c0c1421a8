-- What the manual says of the home words of ldc and stc. Assumes nothing.
use mathlib.Core.Path.{◌≡◌, refl, sym, ap, ◌∙◌, subst}
use mathlib.Core.Bool.{true, false}
use mathlib.Core.List.{List, [], ◌∷◌, ◌++◌}
use Prim.Native.Nat.{ℕ, ◌+◌, ◌*◌, ◌<◌}
use Prim.Native.String.{String}
use native.Mathlib.Omega.{arith}
use borrow.Author.Tests.{eqb-true, eqb-false, ne_eqb, leb-true, le-leb}
use lib.Dec.{T, eqb, leb}
use lib.Text.{eqt, eqt→eq}
use Rattle.word.specs.Choice.{pick, by_test}
use Rattle.word.specs.Field.{field, put, small, splits, put_above, put_below}
use Rattle.insn.specs.Answer.{Decoded}
use Rattle.encode_home.specs.declared.Filler.{Filler}
use Rattle.encode_home.specs.Home.{puts_of, put_all}
use Rattle.encode_home.specs.Table as H
use Rattle.encode_home.specs.Table.{Put}
use Rattle.encode_home.proofs.Leads as L
use Rattle.manual.specs.A5.{table_row}
use Rattle.manual.specs.A8.{reads, said_of, is_among, page_of, row_of, sees}
use Rattle.manual.specs.Departures.{standing_of, coprocessor_transfers, answered}
use Rattle.manual.proofs.Fields.{apart, by_field, both_false, no_true, ◌also◌}
use Rattle.manual.proofs.Forms.{mark_at}
use Rattle.manual_drawn.specs.HomeReads.{homely_as, SaidAs}
use Rattle.manual_drawn.proofs.Near.{puts_by}
use Rattle.manual_drawn.proofs.Pages.{answer_of}
use Rattle.manual_drawn.proofs.Rows.{kept_row, all_clear, transfer_rows}
use Rattle.manual_drawn.proofs.Told.{all_of, one_of, none_to, own}

-- what holds of each title of a list holds of one that is among them
abbrev pub Each : (String → Type 0) → List String → Type 0
Each P [] = Unit
Each P (s ∷ ss) = P s × Each P ss

pub each_of : (P : String → Type 0) (row : String) (ss : List String) → Each P ss → is_among row ss ≡ true → P row
each_of P row [] all is = absurd (no_true (sym is))
each_of P row (s ∷ ss) all is =
    by_test (eqt row s)
    (λ e. subst P (sym (eqt→eq row s (subst T (sym e) tt))) all.0)
    (λ e. each_of P row ss all.1 (simp e at is))

module _ (w : ℕ) where
  -- the offset is 0, or it is not
  zero_or : {C : Type 0} → (field w 0 8 ≡ 0 → C) → (eqb (field w 0 8) 0 ≡ false → C) → C
  zero_or none some = by_test (eqb (field w 0 8) 0) (λ z. none (eqb-true _ 0 z)) some

  times : eqb (field w 0 8) 0 ≡ false → eqb (field w 0 8 * 4) 0 ≡ false
  times z = ne_eqb (field w 0 8 * 4) 0 (λ e. eqb-false (field w 0 8) 0 z (omega (arith, e)))

  -- what is put: W where P is clear, U where the offset is 0
  abbrev pub puts : List Put
  puts = pick (eqb (field w 24 1) 0) (H.ones 21 21 ∷ []) [] ++ pick (eqb (field w 0 8) 0) (H.ones 23 23 ∷ []) []

  abbrev PutsThese : Type 0
  PutsThese = T (all_of (λ s. puts_by puts (answer_of w (standing_of s w) s)) coprocessor_transfers)

  by_two : {C : Type 0} (i j : ℕ) → (field w i 1 ≡ 0 → field w j 1 ≡ 0 → C) → (field w i 1 ≡ 0 → field w j 1 ≡ 1 → C)
      → (field w i 1 ≡ 1 → field w j 1 ≡ 0 → C) → (field w i 1 ≡ 1 → field w j 1 ≡ 1 → C) → C
  by_two i j a b c d =
      by_field w i 1 ((λ e. by_field w j 1 (a e also b e also tt)) also (λ e. by_field w j 1 (c e also d e also tt)) also tt)

  pub transfer_puts : PutsThese
  transfer_puts = unfold puts_of said_of standing_of in
      zero_or
      (λ z. by_two 24 21
      (λ p b. by_two 22 23 (λ d u. simp (p, b, d, u, z) tt) (λ d u. simp (p, b, d, u, z) tt) (λ d u. simp (p, b, d, u, z) tt)
      (λ d u. simp (p, b, d, u, z) tt))
      (λ p b. by_two 22 23 (λ d u. simp (p, b, d, u, z) tt) (λ d u. simp (p, b, d, u, z) tt) (λ d u. simp (p, b, d, u, z) tt)
      (λ d u. simp (p, b, d, u, z) tt))
      (λ p b. by_two 22 23 (λ d u. simp (p, b, d, u, z) tt) (λ d u. simp (p, b, d, u, z) tt) (λ d u. simp (p, b, d, u, z) tt)
      (λ d u. simp (p, b, d, u, z) tt))
      (λ p b. by_two 22 23 (λ d u. simp (p, b, d, u, z) tt) (λ d u. simp (p, b, d, u, z) tt) (λ d u. simp (p, b, d, u, z) tt)
      (λ d u. simp (p, b, d, u, z) tt)))
      (λ z. by_two 24 21
      (λ p b. by_two 22 23 (λ d u. simp (L.magnitude, times z, p, b, d, u, z) tt) (λ d u. simp (times z, p, b, d, u, z) tt)
      (λ d u. simp (L.magnitude, times z, p, b, d, u, z) tt) (λ d u. simp (times z, p, b, d, u, z) tt))
      (λ p b. by_two 22 23 (λ d u. simp (L.magnitude, times z, p, b, d, u, z) tt) (λ d u. simp (times z, p, b, d, u, z) tt)
      (λ d u. simp (L.magnitude, times z, p, b, d, u, z) tt) (λ d u. simp (times z, p, b, d, u, z) tt))
      (λ p b. by_two 22 23 (λ d u. simp (L.magnitude, times z, p, b, d, u, z) tt) (λ d u. simp (times z, p, b, d, u, z) tt)
      (λ d u. simp (L.magnitude, times z, p, b, d, u, z) tt) (λ d u. simp (times z, p, b, d, u, z) tt))
      (λ p b. by_two 22 23 (λ d u. simp (L.magnitude, times z, p, b, d, u, z) tt) (λ d u. simp (times z, p, b, d, u, z) tt)
      (λ d u. simp (L.magnitude, times z, p, b, d, u, z) tt) (λ d u. simp (times z, p, b, d, u, z) tt)))

-- a word that differs in bits 23 and 21 alone
module _ (w : ℕ) where
  abbrev Beside : ℕ → Type 0
  Beside v =
      ((lo k : ℕ) → leb 24 lo ≡ true → field v lo k ≡ field w lo k)
      × (field v 22 1 ≡ field w 22 1)
      × ((lo k : ℕ) → leb (lo + k) 21 ≡ true → field v lo k ≡ field w lo k)

  beside_w : (v : ℕ) → Beside v → Beside (put v 21 1 1)
  beside_w v (above, between, below) = (
    λ lo k g. put_above v 21 1 1 refl lo k (le-leb 22 lo (omega (arith, leb-true 24 lo g))) ∙ above lo k g,
    put_above v 21 1 1 refl 22 1 refl ∙ between,
    λ lo k g. put_below v 21 1 1 refl lo k g ∙ below lo k g,
  )

  beside_u : (v : ℕ) → Beside v → Beside (put v 23 1 1)
  beside_u v (above, between, below) = (
    λ lo k g. put_above v 23 1 1 refl lo k g ∙ above lo k g,
    put_below v 23 1 1 refl 22 1 refl ∙ between,
    λ lo k g. put_below v 23 1 1 refl lo k (le-leb (lo + k) 23 (omega (arith, leb-true (lo + k) 21 g))) ∙ below lo k g,
  )

  itself : Beside w
  itself = (λ lo k g. refl, refl, λ lo k g. refl)

six : (v : ℕ) → field v 20 6 ≡ ((((field v 25 1 * 2 + field v 24 1) * 2 + field v 23 1) * 2 + field v 22 1) * 2 + field v 21 1) * 2 + field v 20 1
six v = omega (arith, splits v 20 5 1, splits v 21 4 1, splits v 22 3 1, splits v 23 2 1, splits v 24 1 1)

-- is of the same row, if P, U or W is set
module _ (w v : ℕ) (beside : Beside w v) (some : 0 < field v 24 1 + field v 23 1 + field v 21 1)
    (page : String) (is : is_among page coprocessor_transfers ≡ true) (row : row_of w ≡ page) where
  table : table_row w ≡ page
  table = unfold row_of page_of in own (table_row w) page (sees w) (one_of (λ s. none_to s (sees w)) page coprocessor_transfers tt is) row

  four : eqb (field v 20 6) 4 ≡ false
  four = ne_eqb (field v 20 6) 4 (λ e. omega (arith, e, six v, some, small v 24 1, small v 23 1, small v 22 1, small v 21 1, small v 20 1))

  five : eqb (field v 20 6) 5 ≡ false
  five = ne_eqb (field v 20 6) 5 (λ e. omega (arith, e, six v, some, small v 24 1, small v 23 1, small v 22 1, small v 21 1, small v 20 1))

  one_set : all_clear (field w 24 1) (field v 23 1) (field w 22 1) (field v 21 1) ≡ false
  one_set =
      by_field w 24 1
      ((λ p. by_field v 21 1
      ((λ b. by_field v 23 1 ((λ u. absurd (omega (arith, some, b, u, beside.0 24 1 refl ∙ p))) also (λ u. simp (both_false, u)) also tt)) also
      (λ b. simp (both_false, b)) also tt)) also
      (λ p. simp p) also tt)

  kept : page ≡ table_row v
  kept =
      sym table
      ∙ kept_row coprocessor_transfers (table_row w) (table_row v)
      (transfer_rows w v beside.0 beside.1 beside.2 four five one_set) (rw table is)

  pages : Each (λ s. page_of s v ≡ s) coprocessor_transfers
  pages = unfold page_of in refl also refl also refl also tt

  row_kept : row_of v ≡ page
  row_kept = unfold row_of in ap (λ (s : String). page_of s v) (sym kept) ∙ each_of (λ s. page_of s v ≡ s) page coprocessor_transfers pages is

module _ (c : Filler) (w : ℕ) where
  abbrev pub home : ℕ
  home = put_all c (puts w) w

  pub home_row : (page : String) → is_among page coprocessor_transfers ≡ true → row_of w ≡ page → row_of home ≡ page
  home_row page is row =
      by_field w 24 1
      ((λ p. zero_or w
      (λ z. simp (p, z) (row_kept w _ (beside_u w _ (beside_w w _ (itself w))) (simp (L.apart, p) (omega arith)) page is row))
      (λ z. simp (p, z) (row_kept w _ (beside_w w _ (itself w)) (simp (L.apart, p) (omega arith)) page is row))) also
      (λ p. zero_or w
      (λ z. simp (p, z) (row_kept w _ (beside_u w _ (itself w)) (simp (L.apart, p) (omega arith)) page is row))
      (λ z. simp (p, z) row)) also tt)

  module _ (addr : ℕ) where
    abbrev Says : Type 0
    Says = Each (λ s. SaidAs (homely_as s w) (said_of w addr s) (said_of home addr s)) coprocessor_transfers

    -- readings that differ in the mark
    marks : (d e : Decoded) → eqb (mark_at 2 d) (mark_at 2 e) ≡ false → reads d ≡ reads e → ⊥
    marks d e differ is = apart (mark_at 2) d e differ (ap answered is)

    unindexed_says : field w 24 1 ≡ 0 → field w 21 1 ≡ 0 → Says
    unindexed_says p b = unfold homely_as said_of in
        zero_or w
        (λ z. simp (L.apart, p, b, z) ((tt, tt) also (tt, tt) also (tt, tt) also tt))
        (λ z. simp (L.apart, p, b, z) ((tt, tt) also (tt, tt) also (tt, tt) also tt))

    post_says : field w 24 1 ≡ 0 → field w 21 1 ≡ 1 → Says
    post_says p b = unfold homely_as said_of in
        zero_or w
        (λ z. by_field w 23 1
        ((λ u. simp (L.apart, p, b, z, u) ((refl, marks _ _ refl) also (refl, marks _ _ refl) also (refl, marks _ _ refl) also tt)) also
        (λ u. simp (L.apart, p, b, z, u) (refl also refl also refl also tt)) also tt))
        (λ z. simp (L.apart, times w z, both_false, p, b, z) (refl also refl also refl also tt))

    offset_says : field w 24 1 ≡ 1 → Says
    offset_says p = unfold homely_as said_of in
        zero_or w
        (λ z. by_field w 23 1
        ((λ u. simp (L.apart, p, z, u) ((refl, marks _ _ refl) also (refl, marks _ _ refl) also (refl, marks _ _ refl) also tt)) also
        (λ u. simp (L.apart, p, z, u) (refl also refl also refl also tt)) also tt))
        (λ z. simp (times w z, both_false, p, z) (refl also refl also refl also tt))

    pub transfers_say : Says
    transfers_say =
        by_field w 24 1
        ((λ p. by_field w 21 1 (unindexed_says p also post_says p also tt)) also offset_says also tt)

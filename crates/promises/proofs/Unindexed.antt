-- The unindexed form of ldc and stc, by its bits and by the manual's tables. Assumes nothing.
use mathlib.Core.Path.{◌≡◌, refl, sym, ◌∙◌, subst}
use Rattle.word.specs.Refusal.{refused_with}
use mathlib.Core.Bool.{Bool, true, false, not}
use mathlib.Core.Logic.{◌⊎◌, inl, inr}
use Prim.Native.Nat.{ℕ, ◌^◌, ◌<◌}
use Prim.Native.String.{String}
use native.Mathlib.Omega.{arith}
use borrow.Author.Tests.{eqb-true}
use lib.Dec.{eqb}
use Rattle.word.specs.Choice.{pick, both, by_test, parts}
use Rattle.word.specs.Field.{field, splits}
use Rattle.a32.specs.Decode.{decode_of}
use Rattle.encode_home.specs.declared.Filler.TheVariants.{Manual}
use Rattle.encode_home.specs.Home.{home_of}
use Rattle.home_form.specs.Changes.{is_unindexed}
use Rattle.manual.specs.A5 as A
use Rattle.manual.specs.A5.{table_row}
use Rattle.manual.specs.A8.{is_among, row_of, sees}
use Rattle.manual.specs.Departures.{coprocessor_transfers}
use Rattle.manual.specs.Reads.{is_set}
use Rattle.manual.proofs.Fields.{all_six, pick_same, by_field, no_true, ◌also◌}
use Rattle.manual_follows.proofs.Coprocessor.{six}
use Rattle.manual_drawn.specs.HomeReads.{said_at, Homely, alike, unmarking, loses_mark, homely_as, homely, unmarked, SaidAs}
use Rattle.manual_drawn.specs.HomeReads as Read
use Rattle.manual_drawn.proofs.Told.{one_of, none_to, own_row}
use Rattle.manual_drawn.proofs.Rows.{no_transfer}
use Rattle.manual_drawn.proofs.Homes.{home_reads}

unfoldable is_transfer : String → Bool
is_transfer row = is_among row coprocessor_transfers

either : (b : Bool) (x y : String) → is_transfer (pick b x y) ≡ pick b (is_transfer x) (is_transfer y)
either true x y = refl
either false x y = refl

none_other : (x : String) → is_among x coprocessor_transfers ≡ false → is_transfer x ≡ false
none_other x other = unfold is_transfer in other

ruleset none = (either, none_other, pick_same)

module _ (w : ℕ) where
  -- with 25 set there is no transfer, and with P, U and W clear there is none
  none_above : field w 25 1 ≡ 1 → is_transfer (A.coprocessor w) ≡ false
  none_above t = unfold A.coprocessor in simp (none, all_six, t)

  none_clear : field w 25 1 ≡ 0 → field w 24 1 ≡ 0 → field w 23 1 ≡ 0 → field w 21 1 ≡ 0 → is_transfer (A.coprocessor w) ≡ false
  none_clear t p u b = unfold A.coprocessor in
      by_field w 22 1
      ((λ d. by_field w 20 1
      ((λ l. let n : field w 20 6 ≡ 0 = omega (arith, six w, t, p, u, b, d, l) in simp (none, n)) also
      (λ l. let n : field w 20 6 ≡ 1 = omega (arith, six w, t, p, u, b, d, l) in simp (none, n)) also tt)) also
      (λ d. by_field w 20 1
      ((λ l. let n : field w 20 6 ≡ 4 = omega (arith, six w, t, p, u, b, d, l) in simp (none, n)) also
      (λ l. let n : field w 20 6 ≡ 5 = omega (arith, six w, t, p, u, b, d, l) in simp (none, n)) also tt)) also tt)

  module _ (is : is_among (row_of w) coprocessor_transfers ≡ true) where
    same_row : table_row w ≡ row_of w
    same_row = own_row w (one_of (λ s. none_to s (sees w)) (row_of w) coprocessor_transfers tt is)

    in_table : is_among (table_row w) coprocessor_transfers ≡ true
    in_table = subst (λ (s : String). is_among s coprocessor_transfers ≡ true) (sym same_row) is

    -- a transfer is a coprocessor word
    within : (eqb (field w 28 4) 15 ≡ false) × (field w 26 2 ≡ 3)
    within =
        by_test (both (not (eqb (field w 28 4) 15)) (eqb (field w 26 2) 3))
        (λ e.
        let each = parts (not (eqb (field w 28 4) 15)) (eqb (field w 26 2) 3) e in
        (by_test (eqb (field w 28 4) 15) (λ c. absurd (no_true (sym (simp c at each.0)))) (λ c. c), eqb-true (field w 26 2) 3 each.1))
        (λ e. absurd (no_transfer w e in_table))

    reaches : table_row w ≡ A.coprocessor w
    reaches = unfold table_row in
        by_field w 25 1
        ((λ t. let g : field w 25 3 ≡ 6 = omega (arith, splits w 25 2 1, t, within.1) in simp (within.0, g)) also
        (λ t. let g : field w 25 3 ≡ 7 = omega (arith, splits w 25 2 1, t, within.1) in simp (within.0, g)) also tt)

    row_is : is_transfer (A.coprocessor w) ≡ true
    row_is = unfold is_transfer in subst (λ (s : String). is_among s coprocessor_transfers ≡ true) reaches in_table

    -- P and W clear: it is of the form
    has_form : field w 24 1 ≡ 0 → field w 21 1 ≡ 0 → is_unindexed w ≡ true
    has_form p b =
        by_field w 25 1
        ((λ t.
        by_field w 23 1
        ((λ u. absurd (no_true (sym row_is ∙ none_clear t p u b))) also
        (λ u.
        let twelve : field w 24 4 ≡ 12 = omega (arith, splits w 24 3 1, splits w 25 2 1, t, p, within.1) in
        simp (twelve, u, b)) also tt)) also
        (λ t. absurd (no_true (sym row_is ∙ none_above t))) also tt)

-- What the manual says of a word that is not of the form and of its home word is the same, or it lacks the mark of minus zero.
pub said_alike : (w addr : ℕ) → w < 2 ^ 32 → refused_with (decode_of w addr) ≡ 0 → is_unindexed w ≡ false
    → (said_at w addr ≡ said_at (home_of Manual w) addr) ⊎ (unmarked (said_at w addr) ≡ said_at (home_of Manual w) addr)
said_alike w addr bound ok other =
    by_test (Read.is_unindexed (row_of w) w)
    (λ e. absurd (no_true (sym (form e) ∙ other)))
    (λ e.
    by_test (loses_mark (row_of w) w)
    (λ m. let is : homely w ≡ unmarking = unfold homely_as in simp (e, m) in inr (said is).0)
    (λ m. let is : homely w ≡ alike = unfold homely_as in simp (e, m) in inl (said is)))
  where
    said : {h : Homely} → homely w ≡ h → SaidAs h (said_at w addr) (said_at (home_of Manual w) addr)
    said is = subst (λ (h : Homely). SaidAs h (said_at w addr) (said_at (home_of Manual w) addr)) is (home_reads Manual w addr bound ok)

    cleared : (n : ℕ) → not (is_set w n) ≡ true → field w n 1 ≡ 0
    cleared n is = by_field w n 1 ((λ z. z) also (λ z. absurd (no_true (sym (simp z at is)))) also tt)

    form : Read.is_unindexed (row_of w) w ≡ true → is_unindexed w ≡ true
    form e =
        let row = parts (is_among (row_of w) coprocessor_transfers) (both (not (is_set w 24)) (not (is_set w 21))) e in
        let bits = parts (not (is_set w 24)) (not (is_set w 21)) row.1 in
        has_form w row.0 (cleared 24 bits.0) (cleared 21 bits.1)

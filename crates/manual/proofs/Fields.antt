-- The fields that the decoder and the manual's tables test, as parts of three: 27:25, 24:20 and 7:4; and proofs by a field's values.
-- Assumes nothing.
use mathlib.Core.Path.{◌≡◌, refl, sym, ap, ◌∙◌, subst}
use Rattle.word.specs.Refusal.{refused_with}
use mathlib.Core.Bool.{Bool, true, false, not}
use mathlib.Core.List.{List}
use Prim.Native.String.{String}
use Prim.Native.Nat.{ℕ, zero, suc, ◌+◌, ◌*◌, ◌/◌, ◌%◌, ◌^◌, ◌<◌}
use native.Mathlib.Nat.{add-zero, zero-add, add-suc, suc-add, le_of_suc-le-suc, not-suc-le-zero}
use borrow.Author.Tests.{eqb-false}
use lib.Dec.{T, leb, eqb}
use Rattle.word.specs.Choice.{pick, both}
use Rattle.word.specs.Every.{every, at_each}
use Rattle.word.specs.Field.{field, small, splits, within}
use Rattle.insn.specs.Answer.{accepted, refused, insn_of, insn_in}
use Rattle.insn.specs.Numbers.{flow_number}
use Rattle.insn.specs.declared.Cond.{Cond}
use Rattle.insn.specs.declared.Place.{Place}
use Rattle.insn.specs.declared.Flow.{Flow}
use Rattle.insn.specs.declared.Flow.TheVariants.{Next, IndirectBranch}
use Rattle.insn.specs.Answer.{Decoded}
use Rattle.insn.specs.declared.Insn.{Insn}
use Rattle.a32.specs.Decode.{decode_of}
use Rattle.manual.specs.A5.{table_row}
use Rattle.manual.specs.Stands.{Stands}

-- a field of a field
part : (w lo k lo' k' : ℕ) → leb (lo' + k') k ≡ true → field w (lo + lo') k' ≡ field w lo k / 2 ^ lo' % 2 ^ k'
part w lo k lo' k' h = unfold field in sym (within w lo k lo' k' h)

module _ (w : ℕ) where
  pub group_25 : field w 25 1 ≡ field w 25 3 / 1 % 2
  group_25 = part w 25 3 0 1 refl

  pub group_26_2 : field w 26 2 ≡ field w 25 3 / 2 % 4
  group_26_2 = part w 25 3 1 2 refl

  pub op_24 : field w 24 1 ≡ field w 20 5 / 16 % 2
  op_24 = part w 20 5 4 1 refl

  pub op_23 : field w 23 1 ≡ field w 20 5 / 8 % 2
  op_23 = part w 20 5 3 1 refl

  pub op_22 : field w 22 1 ≡ field w 20 5 / 4 % 2
  op_22 = part w 20 5 2 1 refl

  pub op_21 : field w 21 1 ≡ field w 20 5 / 2 % 2
  op_21 = part w 20 5 1 1 refl

  pub op_20 : field w 20 1 ≡ field w 20 5 / 1 % 2
  op_20 = part w 20 5 0 1 refl

  pub op_23_2 : field w 23 2 ≡ field w 20 5 / 8 % 4
  op_23_2 = part w 20 5 3 2 refl

  pub op_21_2 : field w 21 2 ≡ field w 20 5 / 2 % 4
  op_21_2 = part w 20 5 1 2 refl

  pub op_21_3 : field w 21 3 ≡ field w 20 5 / 2 % 8
  op_21_3 = part w 20 5 1 3 refl

  pub op_21_4 : field w 21 4 ≡ field w 20 5 / 2 % 16
  op_21_4 = part w 20 5 1 4 refl

  pub op_20_4 : field w 20 4 ≡ field w 20 5 / 1 % 16
  op_20_4 = part w 20 5 0 4 refl

  pub op_20_3 : field w 20 3 ≡ field w 20 5 / 1 % 8
  op_20_3 = part w 20 5 0 3 refl

  pub op_20_2 : field w 20 2 ≡ field w 20 5 / 1 % 4
  op_20_2 = part w 20 5 0 2 refl

  pub top_24 : field w 24 1 ≡ field w 21 4 / 8 % 2
  top_24 = part w 21 4 3 1 refl

  pub top_23 : field w 23 1 ≡ field w 21 4 / 4 % 2
  top_23 = part w 21 4 2 1 refl

  pub top_22 : field w 22 1 ≡ field w 21 4 / 2 % 2
  top_22 = part w 21 4 1 1 refl

  pub top_21 : field w 21 1 ≡ field w 21 4 / 1 % 2
  top_21 = part w 21 4 0 1 refl

  pub top_23_2 : field w 23 2 ≡ field w 21 4 / 4 % 4
  top_23_2 = part w 21 4 2 2 refl

  pub control_20_5 : field w 20 5 ≡ (field w 23 2 * 4 + field w 21 2) * 2 + field w 20 1
  control_20_5 = splits w 20 4 1 ∙ ap (λ (x : ℕ). x * 2 + field w 20 1) (splits w 21 2 2)

  pub control_22 : field w 22 1 ≡ field w 21 2 / 2 % 2
  control_22 = part w 21 2 1 1 refl

  pub control_21 : field w 21 1 ≡ field w 21 2 / 1 % 2
  control_21 = part w 21 2 0 1 refl

  pub rn_17 : field w 16 4 / 2 % 2 ≡ field w 16 2 / 2 % 2
  rn_17 = sym (part w 16 4 1 1 refl) ∙ part w 16 2 1 1 refl

  pub rn_16 : field w 16 4 / 1 % 2 ≡ field w 16 2 / 1 % 2
  rn_16 = sym (part w 16 4 0 1 refl) ∙ part w 16 2 0 1 refl

  pub high_5_2 : field w 5 2 ≡ field w 5 3 / 1 % 4
  high_5_2 = part w 5 3 0 2 refl

  pub high_6 : field w 6 1 ≡ field w 5 3 / 2 % 2
  high_6 = part w 5 3 1 1 refl

  pub high_4_2 : field w 4 2 ≡ field w 5 3 / 1 % 2 * 2 + field w 4 1
  high_4_2 = splits w 4 1 1 ∙ ap (λ (x : ℕ). x * 2 + field w 4 1) (part w 5 3 0 1 refl)

  pub high_6_bit : field w 5 3 / 2 % 2 ≡ field w 5 2 / 2 % 2
  high_6_bit = sym (part w 5 3 1 1 refl) ∙ part w 5 2 1 1 refl

  pub high_5_bit : field w 5 3 / 1 % 2 ≡ field w 5 2 / 1 % 2
  high_5_bit = sym (part w 5 3 0 1 refl) ∙ part w 5 2 0 1 refl

  pub six_25 : field w 20 6 / 32 % 2 ≡ field w 25 1
  six_25 = sym (part w 20 6 5 1 refl)

  pub six_24 : field w 20 6 / 16 % 2 ≡ field w 24 1
  six_24 = sym (part w 20 6 4 1 refl)

  pub six_23 : field w 20 6 / 8 % 2 ≡ field w 23 1
  six_23 = sym (part w 20 6 3 1 refl)

  pub six_22 : field w 20 6 / 4 % 2 ≡ field w 22 1
  six_22 = sym (part w 20 6 2 1 refl)

  pub six_21 : field w 20 6 / 2 % 2 ≡ field w 21 1
  six_21 = sym (part w 20 6 1 1 refl)

  pub six_20 : field w 20 6 / 1 % 2 ≡ field w 20 1
  six_20 = sym (part w 20 6 0 1 refl)

  pub eight_27 : field w 20 8 / 128 % 2 ≡ field w 25 3 / 4 % 2
  eight_27 = sym (part w 20 8 7 1 refl) ∙ part w 25 3 2 1 refl

  pub eight_26 : field w 20 8 / 64 % 2 ≡ field w 25 3 / 2 % 2
  eight_26 = sym (part w 20 8 6 1 refl) ∙ part w 25 3 1 1 refl

  pub eight_25 : field w 20 8 / 32 % 2 ≡ field w 25 3 / 1 % 2
  eight_25 = sym (part w 20 8 5 1 refl) ∙ part w 25 3 0 1 refl

  pub eight_24 : field w 20 8 / 16 % 2 ≡ field w 24 1
  eight_24 = sym (part w 20 8 4 1 refl)

  pub eight_23 : field w 20 8 / 8 % 2 ≡ field w 23 1
  eight_23 = sym (part w 20 8 3 1 refl)

  pub eight_22 : field w 20 8 / 4 % 2 ≡ field w 22 1
  eight_22 = sym (part w 20 8 2 1 refl)

  pub eight_21 : field w 20 8 / 2 % 2 ≡ field w 21 1
  eight_21 = sym (part w 20 8 1 1 refl)

  pub eight_20 : field w 20 8 / 1 % 2 ≡ field w 20 1
  eight_20 = sym (part w 20 8 0 1 refl)

  pub seven_26 : field w 20 7 / 64 % 2 ≡ field w 25 3 / 2 % 2
  seven_26 = sym (part w 20 7 6 1 refl) ∙ part w 25 3 1 1 refl

  pub seven_25 : field w 20 7 / 32 % 2 ≡ field w 25 3 / 1 % 2
  seven_25 = sym (part w 20 7 5 1 refl) ∙ part w 25 3 0 1 refl

  pub seven_24 : field w 20 7 / 16 % 2 ≡ field w 24 1
  seven_24 = sym (part w 20 7 4 1 refl)

  pub seven_23 : field w 20 7 / 8 % 2 ≡ field w 23 1
  seven_23 = sym (part w 20 7 3 1 refl)

  pub seven_22 : field w 20 7 / 4 % 2 ≡ field w 22 1
  seven_22 = sym (part w 20 7 2 1 refl)

  pub seven_21 : field w 20 7 / 2 % 2 ≡ field w 21 1
  seven_21 = sym (part w 20 7 1 1 refl)

  pub seven_20 : field w 20 7 / 1 % 2 ≡ field w 20 1
  seven_20 = sym (part w 20 7 0 1 refl)

  pub five_bits : field w 20 5 ≡ (((field w 24 1 * 2 + field w 23 1) * 2 + field w 22 1) * 2 + field w 21 1) * 2 + field w 20 1
  five_bits =
      splits w 20 4 1
      ∙ ap (λ (x : ℕ). x * 2 + field w 20 1)
      (splits w 21 3 1 ∙ ap (λ (x : ℕ). x * 2 + field w 21 1)
      (splits w 22 2 1 ∙ ap (λ (x : ℕ). x * 2 + field w 22 1) (splits w 23 1 1)))

  pub rn_bit : field w 16 4 / 1 % 2 ≡ field w 16 1
  rn_bit = sym (part w 16 4 0 1 refl)

  pub low_4 : field w 4 1 ≡ field w 4 4 / 1 % 2
  low_4 = part w 4 4 0 1 refl

  pub low_5 : field w 5 1 ≡ field w 4 4 / 2 % 2
  low_5 = part w 4 4 1 1 refl

  pub low_6 : field w 6 1 ≡ field w 4 4 / 4 % 2
  low_6 = part w 4 4 2 1 refl

  pub low_7 : field w 7 1 ≡ field w 4 4 / 8 % 2
  low_7 = part w 4 4 3 1 refl

  pub low_5_2 : field w 5 2 ≡ field w 4 4 / 2 % 4
  low_5_2 = part w 4 4 1 2 refl

  pub low_5_3 : field w 5 3 ≡ field w 4 4 / 2 % 8
  low_5_3 = part w 4 4 1 3 refl

  pub low_4_3 : field w 4 3 ≡ field w 4 4 / 1 % 8
  low_4_3 = part w 4 4 0 3 refl

  pub low_4_2 : field w 4 2 ≡ field w 4 4 / 1 % 4
  low_4_2 = part w 4 4 0 2 refl

  -- fields of both
  pub both_20_8 : field w 20 8 ≡ field w 25 3 * 32 + field w 20 5
  both_20_8 = splits w 20 3 5

  pub both_20_7 : field w 20 7 ≡ field w 25 3 / 1 % 4 * 32 + field w 20 5
  both_20_7 = splits w 20 2 5 ∙ ap (λ (x : ℕ). x * 32 + field w 20 5) (part w 25 3 0 2 refl)

  pub both_20_6 : field w 20 6 ≡ field w 25 3 / 1 % 2 * 32 + field w 20 5
  both_20_6 = splits w 20 1 5 ∙ ap (λ (x : ℕ). x * 32 + field w 20 5) (part w 25 3 0 1 refl)

  pub both_24_4 : field w 24 4 ≡ field w 25 3 * 2 + field w 20 5 / 16 % 2
  both_24_4 = splits w 24 3 1 ∙ ap (λ (x : ℕ). field w 25 3 * 2 + x) op_24

-- a test of 24:20 is one of 24:21 and one of bit 20
abbrev pub same : Bool → Bool → Bool
same true b = b
same false b = not b

pub same→eq : (a b : Bool) → T (same a b) → a ≡ b
same→eq true true t = refl
same→eq false false t = refl
same→eq true false t = absurd t
same→eq false true t = absurd t

abbrev in_two : ℕ → ℕ → Bool
in_two n v = both (eqb (v / 2 % 16) (n / 2)) (eqb (v / 1 % 2) (n % 2))

in_two_lem : (n : ℕ) → T (every (λ v. same (eqb v n) (in_two n v)) 0 32) → (w : ℕ) → eqb (field w 20 5) n ≡ in_two n (field w 20 5)
in_two_lem n t w = same→eq _ (in_two n (field w 20 5)) (at_each (λ v. same (eqb v n) (in_two n v)) 32 t (field w 20 5) (small w 20 5))

module _ (w : ℕ) where
  pub whole_16 : eqb (field w 20 5) 16 ≡ both (eqb (field w 21 4) 8) (eqb (field w 20 1) 0)
  whole_16 = in_two_lem 16 tt w ∙ simp (op_21_4 w, op_20 w)

  pub whole_17 : eqb (field w 20 5) 17 ≡ both (eqb (field w 21 4) 8) (eqb (field w 20 1) 1)
  whole_17 = in_two_lem 17 tt w ∙ simp (op_21_4 w, op_20 w)

  pub whole_18 : eqb (field w 20 5) 18 ≡ both (eqb (field w 21 4) 9) (eqb (field w 20 1) 0)
  whole_18 = in_two_lem 18 tt w ∙ simp (op_21_4 w, op_20 w)

  pub whole_19 : eqb (field w 20 5) 19 ≡ both (eqb (field w 21 4) 9) (eqb (field w 20 1) 1)
  whole_19 = in_two_lem 19 tt w ∙ simp (op_21_4 w, op_20 w)

  pub whole_20 : eqb (field w 20 5) 20 ≡ both (eqb (field w 21 4) 10) (eqb (field w 20 1) 0)
  whole_20 = in_two_lem 20 tt w ∙ simp (op_21_4 w, op_20 w)

  pub whole_21 : eqb (field w 20 5) 21 ≡ both (eqb (field w 21 4) 10) (eqb (field w 20 1) 1)
  whole_21 = in_two_lem 21 tt w ∙ simp (op_21_4 w, op_20 w)

  pub whole_22 : eqb (field w 20 5) 22 ≡ both (eqb (field w 21 4) 11) (eqb (field w 20 1) 0)
  whole_22 = in_two_lem 22 tt w ∙ simp (op_21_4 w, op_20 w)

  pub whole_23 : eqb (field w 20 5) 23 ≡ both (eqb (field w 21 4) 11) (eqb (field w 20 1) 1)
  whole_23 = in_two_lem 23 tt w ∙ simp (op_21_4 w, op_20 w)

-- a test of 26:20, or of 27:20, is one of the group's bits and one of 24:20
abbrev in_four : ℕ → ℕ → Bool
in_four n v = both (eqb (v / 32 % 4) (n / 32)) (eqb (v / 1 % 32) (n % 32))

abbrev in_parts : ℕ → ℕ → Bool
in_parts n v = both (eqb (v / 32 % 8) (n / 32)) (eqb (v / 1 % 32) (n % 32))

in_seven : (n : ℕ) → T (every (λ v. same (eqb v n) (in_four n v)) 0 128) → (w : ℕ)
    → eqb (field w 20 7) n ≡ both (eqb (field w 25 3 / 1 % 4) (n / 32)) (eqb (field w 20 5) (n % 32))
in_seven n t w =
    same→eq _ (in_four n (field w 20 7)) (at_each (λ v. same (eqb v n) (in_four n v)) 128 t (field w 20 7) (small w 20 7))
    ∙ simp (← part w 20 7 5 2 refl, ← part w 20 7 0 5 refl, part w 25 3 0 2 refl)

in_eight : (n : ℕ) → T (every (λ v. same (eqb v n) (in_parts n v)) 0 256) → (w : ℕ)
    → eqb (field w 20 8) n ≡ both (eqb (field w 25 3) (n / 32)) (eqb (field w 20 5) (n % 32))
in_eight n t w =
    same→eq _ (in_parts n (field w 20 8)) (at_each (λ v. same (eqb v n) (in_parts n v)) 256 t (field w 20 8) (small w 20 8))
    ∙ simp (← part w 20 8 5 3 refl, ← part w 20 8 0 5 refl)

module _ (w : ℕ) where
  pub seven_is_16 : eqb (field w 20 7) 16 ≡ both (eqb (field w 25 3 / 1 % 4) 0) (eqb (field w 20 5) 16)
  seven_is_16 = in_seven 16 tt w

  pub seven_is_83 : eqb (field w 20 7) 83 ≡ both (eqb (field w 25 3 / 1 % 4) 2) (eqb (field w 20 5) 19)
  seven_is_83 = in_seven 83 tt w

  pub seven_is_87 : eqb (field w 20 7) 87 ≡ both (eqb (field w 25 3 / 1 % 4) 2) (eqb (field w 20 5) 23)
  seven_is_87 = in_seven 87 tt w

  pub eight_is_196 : eqb (field w 20 8) 196 ≡ both (eqb (field w 25 3) 6) (eqb (field w 20 5) 4)
  eight_is_196 = in_eight 196 tt w

  pub eight_is_197 : eqb (field w 20 8) 197 ≡ both (eqb (field w 25 3) 6) (eqb (field w 20 5) 5)
  eight_is_197 = in_eight 197 tt w

  pub seven_is_127 : eqb (field w 20 7) 127 ≡ both (eqb (field w 25 3 / 1 % 4) 3) (eqb (field w 20 5) 31)
  seven_is_127 = in_seven 127 tt w

-- by 27:25 and 24:20, and by 7:4
pub ruleset ops = (op_24, op_23, op_22, op_21, op_20, op_23_2, op_21_2, op_21_3, op_21_4, op_20_4, op_20_3, op_20_2)

-- the same by 24:21, with bit 20 left open
pub ruleset tops = (
  ← op_24,
  ← op_23,
  ← op_22,
  ← op_21,
  ← op_20,
  top_24,
  top_23,
  top_22,
  top_21,
  top_23_2,
  whole_16,
  whole_17,
  whole_18,
  whole_19,
  whole_20,
  whole_21,
  whole_22,
  whole_23,
)

-- the same by 24:23, 22:21 and bit 20
pub ruleset controls = (control_20_5, control_22, control_21)

pub ruleset rn_bits = (rn_17, rn_16)

-- with 24:20 left open, a cell's bit is a bit of the word
pub ruleset op_bits = (← op_24, ← op_23, ← op_22, ← op_21, ← op_20)

-- with 7:4 left open, a cell's bit is a bit of the word
pub ruleset low_bits = (← low_4, ← low_5, ← low_6, ← low_7)

pub ruleset lows = (low_4, low_5, low_6, low_7, low_5_2, low_5_3, low_4_3, low_4_2)

-- by 7:5 and bit 4
pub ruleset highs = (high_5_2, high_6, high_4_2)

-- by 6:5, with bit 7 left open
pub ruleset high_bits_lem = (high_6_bit, high_5_bit)

-- by bits 25 and 24
pub ruleset six_bits = (six_25, six_24)

pub ruleset all_six = (six_25, six_24, six_23, six_22, six_21, six_20)

-- by 27:25 and single bits
pub ruleset eight_bits = (eight_is_196, eight_is_197, eight_27, eight_26, eight_25, eight_24, eight_23, eight_22, eight_21, eight_20)

pub ruleset seven_bits = (seven_is_16, seven_is_83, seven_is_87, seven_is_127, seven_26, seven_25, seven_24, seven_23, seven_22, seven_21, seven_20)

pub ruleset groups = (group_25, group_26_2, both_20_8, both_20_7, both_20_6, both_24_4)

-- a claim at each of the n numbers from i on
abbrev pub Each : (ℕ → Type 0) → ℕ → ℕ → Type 0
Each P i zero = Unit
Each P i (suc n) = P i × Each P (suc i) n

-- one claim and the others
infixr 20 ◌also◌
abbrev pub ◌also◌ : {A B : Type 0} → A → B → A × B
a also b = (a, b)

each : (P : ℕ → Type 0) (n i : ℕ) → Each P i n → (k : ℕ) → k < n → P (i + k)
each P zero i all k h = absurd (not-suc-le-zero h)
each P (suc n) i all zero h = subst P (sym (add-zero i)) all.0
each P (suc n) i all (suc k) h = subst P (suc-add i k ∙ sym (add-suc i k)) (each P n (suc i) all.1 k (le_of_suc-le-suc h))

-- by the values of a field
pub by_field : {C : Type 0} (w lo k : ℕ) → Each (λ (v : ℕ). field w lo k ≡ v → C) 0 (2 ^ k) → C
by_field {C = C} w lo k all = each (λ (v : ℕ). field w lo k ≡ v → C) (2 ^ k) 0 all (field w lo k) (small w lo k) (sym (zero-add _))

-- a bit that is one is not zero, and the other way round
pub bit_test : (w n : ℕ) → eqb (field w n 1) 1 ≡ not (eqb (field w n 1) 0)
bit_test w n = by_field w n 1 ((λ e. simp e) also (λ e. simp e) also tt)

pub pick_not {ℓ} : {A : Type ℓ} (b : Bool) (x y : A) → pick (not b) x y ≡ pick b y x
pick_not true x y = refl
pick_not false x y = refl

pub both_false : (b : Bool) → both b false ≡ false
both_false true = refl
both_false false = refl

pub both_true : (b : Bool) → both b true ≡ b
both_true true = refl
both_true false = refl

pub not_not : (b : Bool) → not (not b) ≡ b
not_not true = refl
not_not false = refl

pub pick_same {ℓ} : {A : Type ℓ} (b : Bool) (x : A) → pick b x x ≡ x
pick_same true x = refl
pick_same false x = refl

pub ruleset bits = (bit_test, pick_not, both_false, both_true, not_not)

-- what is claimed of a word, closed until its row and its answer are known
pub data Held (row : String) (w addr : ℕ) (d : Decoded) : Type 0 where
  holds : Stands row w addr d → Held row w addr d

abbrev pub HeldAt : ℕ → ℕ → Type 0
HeldAt w addr = Held (table_row w) w addr (decode_of w addr)

-- one of two rows, if both stand
pub held_pick : {w addr : ℕ} {d : Decoded} (b : Bool) (x y : String) → Held x w addr d → Held y w addr d → Held (pick b x y) w addr d
held_pick true x y p q = p
held_pick false x y p q = q

-- two answers are told apart by a number
pub apart : (f : Decoded → ℕ) (d e : Decoded) → eqb (f d) (f e) ≡ false → d ≡ e → ⊥
apart f d e h p = eqb-false (f d) (f e) h (ap f p)

-- what is accepted is not refused
pub accepts : {i : Insn} → accepted i ≡ refused 3 → ⊥
accepts {i = i} = apart (λ (d : Decoded). refused_with d) (accepted i) (refused 3) refl

pub refuses : {i : Insn} → refused 3 ≡ accepted i → ⊥
refuses {i = i} = apart (λ (d : Decoded). refused_with d) (refused 3) (accepted i) refl

-- what is called a branch does not go on
pub branches : {a n : ℕ} {c : Cond} {o : List Place} → accepted (insn_of a n c IndirectBranch o) ≡ accepted (insn_of a n c Next o) → ⊥
branches {a = a} {n = n} {c = c} {o = o} =
    apart (λ (d : Decoded). flow_number (insn_in d).flow) (accepted (insn_of a n c IndirectBranch o)) (accepted (insn_of a n c Next o)) refl

-- an answer under a condition is not one under another
pub conditions : {a n : ℕ} {c : ℕ} {f : Flow} {o : List Place} → eqb c 14 ≡ false → accepted (insn_of a n (record { 0 = c }) f o) ≡ accepted
    (insn_of a n (record { 0 = 14 }) f o) → ⊥
conditions {a = a} {n = n} {c = c} {f = f} {o = o} =
    apart (λ (d : Decoded). (insn_in d).cond.0) (accepted (insn_of a n (record { 0 = c }) f o)) (accepted (insn_of a n (record { 0 = 14 }) f o))

-- by the two outcomes of a test
pub split : {A : Type 0} (b : Bool) → (b ≡ true → A) → (b ≡ false → A) → A
split true passed failed = passed refl
split false passed failed = failed refl

-- a test does not both pass and fail
pub no_true : true ≡ false → ⊥
no_true e = subst (λ (b : Bool). T b) e tt

-- of two tests that pass, the second passes
pub passed : (a b : Bool) → both a b ≡ true → b ≡ true
passed true b e = e
passed false b e = absurd (no_true (sym e))

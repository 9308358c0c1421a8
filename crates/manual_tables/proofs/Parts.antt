-- Fields as parts of others, so that a table and its array speak of the same; and laws of choices. Assumes nothing.
use Rattle.std.proofs.Common.{◌≡◌, refl, sym, ◌∙◌, subst, Bool, true, false, ℕ, ◌+◌, ◌*◌, ◌/◌, ◌%◌, ◌^◌, eqb, leb}
use Prim.Native.String.{String}
use Rattle.word.specs.Choice.{pick, both}
use Rattle.word.specs.Field.{field, small, splits, within}
use Rattle.manual.specs.Pattern.{like}
use Rattle.manual_tables.specs.Titles.{Numbered}
use Rattle.manual_tables.proofs.Place.{tests_alike}

part : (w lo k lo' k' : ℕ) → leb (lo' + k') k ≡ true → field w lo k / 2 ^ lo' % 2 ^ k' ≡ field w (lo + lo') k'
part w lo k lo' k' h = unfold field in within w lo k lo' k' h

module _ (w : ℕ) where
  pub rt_0 : field w 12 4 / 1 % 2 ≡ field w 12 1
  rt_0 = part w 12 4 0 1 refl

  pub rn_0 : field w 16 4 / 1 % 2 ≡ field w 16 1
  rn_0 = part w 16 4 0 1 refl

  pub op2_4 : field w 4 4 / 1 % 2 ≡ field w 4 1
  op2_4 = part w 4 4 0 1 refl

  pub op1_17 : field w 16 4 / 2 % 2 ≡ field w 16 2 / 2 % 2
  op1_17 = part w 16 4 1 1 refl ∙ sym (part w 16 2 1 1 refl)

  pub op1_16 : field w 16 4 / 1 % 2 ≡ field w 16 2 / 1 % 2
  op1_16 = part w 16 4 0 1 refl ∙ sym (part w 16 2 0 1 refl)

  pub media_op1 : field w 20 5 ≡ field w 23 2 * 8 + field w 20 3
  media_op1 = splits w 20 2 3

  -- "101x" of coproc is a test of its upper three bits
  pub coproc_101x : like (field w 8 4) "101x" ≡ eqb (field w 9 3) 5
  coproc_101x =
      tests_alike (λ v. like v "101x") (λ v. eqb (v / 2 % 8) 5) 16 tt (field w 8 4) (small w 8 4) ∙ simp (part w 8 4 1 3 refl)

  pub unconditional_op1 : field w 20 8 ≡ field w 27 1 * 128 + field w 20 7
  unconditional_op1 = splits w 20 1 7

-- one of two tests
abbrev pub either : Bool → Bool → Bool
either true b = true
either false b = b

pub both_true : (a b : Bool) → both a b ≡ true → (a ≡ true) × (b ≡ true)
both_true true b e = (refl, e)
both_true false true e = (e, refl)
both_true false false e = (e, e)

pub neither : {a b : Bool} → a ≡ false → b ≡ false → either a b ≡ false
neither {a = a} {b = b} e f = rw (e, f)

-- a table with some of its rows left out, where the word has none of them
pub kept : (b : Bool) {s : String} {n : ℕ} → b ≡ false → Numbered (pick b "UNDEFINED" s) n → Numbered s n
kept true {s = s} {n = n} e h = subst (λ (b : Bool). Numbered (pick b "UNDEFINED" s) n) e h
kept false e h = h

pub both_false : (b : Bool) → both b false ≡ false
both_false true = refl
both_false false = refl

pub pick_same : {A : Type 0} (b : Bool) (x : A) → pick b x x ≡ x
pick_same true x = refl
pick_same false x = refl

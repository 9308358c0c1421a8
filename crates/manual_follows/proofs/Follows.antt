-- The decoder follows the manual, but for the departures. Assumes nothing.
use mathlib.Core.Path.{◌≡◌, refl, sym}
use mathlib.Core.Bool.{Bool, true, false, not}
use Prim.Native.Nat.{ℕ}
use Prim.Native.String.{String}
use borrow.Author.Tests.{eqb-true}
use lib.Dec.{eqb}
use Rattle.word.specs.Field.{field}
use Rattle.insn.specs.Answer.{Decoded}
use Rattle.a32_coproc.specs.Coproc.{floating_of}
use Rattle.manual.specs.Stands.{Stands, StandsAt, in_range}
use Rattle.manual.proofs.Fields.{Held, HeldAt, holds, group_26_2, low_4, low_7, by_field, split, ◌also◌}
use Rattle.manual.proofs.DpRegister.{by_count, by_register}
use Rattle.manual_follows.proofs.DpImmediate.{by_constant}
use Rattle.manual_follows.proofs.Coprocessor.{move_or_transfer, operation}
use Rattle.manual.proofs.Control as C
use Rattle.manual_follows.proofs.Extra.{extra_11, extra_13, extra_15}
use Rattle.manual_follows.proofs.LoadStore.{by_displacement, by_index}
use Rattle.manual_follows.proofs.Media.{media}
use Rattle.manual_follows.proofs.Transfers.{block, branch}
use Rattle.manual_follows.proofs.Unconditional.{unconditional}

module _ (w addr : ℕ) where
  module _ (cond : eqb (field w 28 4) 15 ≡ false) where
    -- 27:25 = 000, by 7:4
    register : field w 25 3 ≡ 0 → HeldAt w addr
    register group =
        by_field w 4 4
        ((λ l. by_count w addr cond group (λ op s. C.status w addr cond group op s l) (simp (low_4, l))) also
        (λ l. by_register w addr cond group (λ op s. C.exchange_and_zeros w addr cond group op s l) (simp (low_4, l)) (simp (low_7, l))) also
        (λ l. by_count w addr cond group (λ op s. C.jazelle w addr cond group op s l) (simp (low_4, l))) also
        (λ l. by_register w addr cond group (λ op s. C.exchange_link w addr cond group op s l) (simp (low_4, l)) (simp (low_7, l))) also
        (λ l. by_count w addr cond group (λ op s. C.none w addr cond group op s l) (simp (low_4, l))) also
        (λ l. by_register w addr cond group (λ op s. C.saturating w addr cond group op s l) (simp (low_4, l)) (simp (low_7, l))) also
        (λ l. by_count w addr cond group (λ op s. C.return w addr cond group op s l) (simp (low_4, l))) also
        (λ l. by_register w addr cond group (λ op s. C.breakpoint w addr cond group op s l) (simp (low_4, l)) (simp (low_7, l))) also
        (λ l. halfword (simp (low_7, l)) (simp (low_4, l))) also
        C.multiplies w addr cond group also
        (λ l. halfword (simp (low_7, l)) (simp (low_4, l))) also
        extra_11 w addr cond group also
        (λ l. halfword (simp (low_7, l)) (simp (low_4, l))) also
        extra_13 w addr cond group also
        (λ l. halfword (simp (low_7, l)) (simp (low_4, l))) also
        extra_15 w addr cond group also
        tt)
      where
        halfword : field w 7 1 ≡ 1 → field w 4 1 ≡ 0 → HeldAt w addr
        halfword seven four = by_count w addr cond group (λ op s. C.halfword w addr cond group op s seven four) four

    -- 27:25 = 011, by bit 4
    indexed : field w 25 3 ≡ 3 → HeldAt w addr
    indexed group = by_field w 4 1 (by_index w addr cond group also media w addr cond group also tt)

    conditional : (eqb (field w 26 2) 3 ≡ true → floating_of w ≡ false) → HeldAt w addr
    conditional range =
        by_field w 25 3
        (register also
        by_constant w addr cond also
        by_displacement w addr cond also
        indexed also
        block w addr cond also
        branch w addr cond also
        (λ g. move_or_transfer w addr cond (range (simp (group_26_2, g))) g) also
        (λ g. operation w addr cond (range (simp (group_26_2, g))) g) also
        tt)

  held : in_range w ≡ true → HeldAt w addr
  held range =
      split (eqb (field w 28 4) 15)
      (λ c. unconditional w addr (eqb-true (field w 28 4) 15 c))
      (λ c. conditional c (λ h. kept (floating_of w) (simp (c, h) at range)))
    where
      kept : (b : Bool) → not b ≡ true → b ≡ false
      kept true e = sym e
      kept false e = refl

  pub follows_the_manual : in_range w ≡ true → StandsAt w addr
  follows_the_manual range = opened (held range)
    where
      opened : {row : String} {d : Decoded} → Held row w addr d → Stands row w addr d
      opened (holds s) = s

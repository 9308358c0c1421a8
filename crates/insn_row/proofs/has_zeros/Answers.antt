-- `insn_row::has_zeros` meets its contract: of numbers that are zeros, and of those alone, the bits together are zero. Assumes nothing.
use mathlib.Core.Path.{◌≡◌, refl, ap, ◌∙◌}
use Prim.Native.Nat.{ℕ, zero, suc, ◌+◌, ◌≤◌}
use native.Mathlib.Nat.{add-sub_cancel_left}
use native.Mathlib.Omega.{arith}
use borrow.Author.Tests.{ne_eqb}
use lib.Bits.{bit_or, or_add_and, and_le_l, and_le_r}
use lib.Dec.{eqb}
use lib.ListN.{length, get_or, take, drop}
use lib.Seq.{drop-cons}
use Rattle.std.specs.Prelude.{List, fold, replicate}
use Rattle.word.specs.Choice.{both}
use Rattle.insn_same.proofs.Tests.{failed, last}
use Rattle.insn_row.specs.Row.{holds}
use Rattle.insn_row.proofs.Holds.{both_first}
use Rattle.insn_row.proofs.has_zeros.Goals as goal

no_bits : (a b : ℕ) → eqb (bit_or a b) 0 ≡ both (eqb a 0) (eqb b 0)
no_bits zero b = refl
no_bits (suc a) b =
    ne_eqb (bit_or (suc a) b) 0 (λ e. omega (arith, or_add_and (suc a) b, and_le_l (suc a) b, and_le_r (suc a) b))
    ∙ failed (eqb b 0) (ne_eqb (suc a) 0 (λ e. omega arith))

-- n numbers of a row from place p on, after those whose bits are a
zeros : (row : List ℕ) (n p a : ℕ) → p + n ≤ length row → eqb (fold bit_or a (take n (drop p row))) 0 ≡ both (eqb a 0) (holds row p (replicate n 0))
zeros row zero p a h = last (eqb a 0)
zeros row (suc n) p a h =
    rw (drop-cons row p 0 (omega arith))
    (zeros row n (suc p) (bit_or a (get_or row p 0)) (omega arith)
    ∙ ap (λ b. both b (holds row (suc p) (replicate n 0))) (no_bits a (get_or row p 0))
    ∙ both_first (eqb a 0) (eqb (get_or row p 0) 0) (holds row (suc p) (replicate n 0)))

pub returns : goal.returns
returns c = record { is = ap (λ (n : ℕ). eqb n 0) c.bits_of.ensures ∙ rw (add-sub_cancel_left c.args.at 9) (zeros c.args.row.now 9 c.args.at 0 c.requires) }

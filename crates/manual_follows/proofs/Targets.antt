-- The manual's branch targets are 01's. Assumes nothing.
use mathlib.Core.Path.{◌≡◌, ap, sym, ◌∙◌}
use Prim.Native.Nat.{ℕ, ◌+◌, ◌*◌, ◌%◌, ◌^◌, ◌<◌}
use native.Mathlib.Nat.{add-zero, add_assoc}
use native.Mathlib.Omega.{arith}
use borrow.Author.Tests.{ltb-true, ltb-false}
use lib.Dec.{ltb}
use Rattle.word.specs.Field.{field, small}
use Rattle.word.specs.Signed.{sext_of}
use Rattle.a32_transfer.specs.Branch.{target_from}
use Rattle.manual.specs.A8.{from_pc, imm24, imm24_h}
use Rattle.manual.specs.Reads.{SignExtend}
use Rattle.manual.proofs.Fields.{split}

-- the two ways of extending a sign, with a bit below
extends : (x h : ℕ) → x < 2 ^ 24 → h < 2 → SignExtend (x * 4 + h * 2) 26 ≡ sext_of (4 * x) 26 + h * 2
extends x h lx lh = unfold sext_of in
    split (ltb (4 * x) (2 ^ 25))
    (λ e. simp e (omega (arith, lx, lh, ltb-true (4 * x) (2 ^ 25) e)))
    (λ e. simp e (omega (arith, lx, lh, ltb-false (4 * x) (2 ^ 25) e)))

pub blx_is : (w addr : ℕ) → from_pc w addr (imm24_h w addr) ≡ target_from w addr (field w 24 1 * 2)
blx_is w addr = unfold target_from in
    ap (λ (x : ℕ). (addr + 8 + x) % 2 ^ 32) (extends (field w 0 24) (field w 24 1) (small w 0 24) (small w 24 1))
    ∙ ap (λ (x : ℕ). x % 2 ^ 32) (sym (add_assoc (addr + 8) _ _))

pub branch_is : (w addr : ℕ) → from_pc w addr (imm24 w addr) ≡ target_from w addr 0
branch_is w addr = unfold target_from in
    ap (λ (x : ℕ). (addr + 8 + SignExtend x 26) % 2 ^ 32) (sym (add-zero (field w 0 24 * 4)))
    ∙ ap (λ (x : ℕ). (addr + 8 + x) % 2 ^ 32) (extends (field w 0 24) 0 (small w 0 24) (omega arith))
    ∙ ap (λ (x : ℕ). x % 2 ^ 32) (sym (add_assoc (addr + 8) _ _))

-- A word or a part of one in 32 bits, by what was chosen for it. Assumes nothing.
use Rattle.std.proofs.Common.{◌≡◌, ap, sym, ◌∙◌, false, ℕ, ◌%◌, ◌^◌, eqb}
use Rattle.insn_parts.specs.declared.Flat.{Flat}
use Rattle.encode_home.specs.WordDp.{imm12, by_amount, by_register, source12}

-- what stands for n stands for what n was chosen for
pub by : {r n m : ℕ} → r ≡ n % 2 ^ 32 → m ≡ n → r ≡ m % 2 ^ 32
by e is = e ∙ ap (λ (x : ℕ). x % 2 ^ 32) (sym is)

-- the ways of a source
module _ (source by : Flat) where
  pub by_count : source.kind ≡ 6 → source12 source by ≡ imm12 source by
  by_count is = unfold source12 in simp is

  pub by_shift : eqb source.kind 6 ≡ false → by.kind ≡ 3 → source12 source by ≡ by_register source.reg by.how by.reg
  by_shift other is = unfold source12 in simp (other, is)

  pub shifted : eqb source.kind 6 ≡ false → eqb by.kind 3 ≡ false → source12 source by ≡ by_amount source.reg source.how
      (source.amount % 32)
  shifted other plain = unfold source12 in simp (other, plain)

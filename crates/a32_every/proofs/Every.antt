-- What every answer is, by all groups of the decoder. Assumes nothing.
use mathlib.Core.Path.{◌≡◌, refl}
use Rattle.word.specs.Refusal.{refused_with}
use mathlib.Core.Bool.{Bool, true, false, not}
use Prim.Native.Nat.{ℕ}
use lib.Dec.{eqb}
use Rattle.word.specs.Choice.{pick, both, by_test}
use Rattle.insn.specs.Answer.{accepted, refused, insn_in}
use Rattle.insn.specs.Answer.{Decoded}
use Rattle.insn.specs.declared.Flow.{Flow}
use Rattle.insn.specs.declared.Insn.{Insn}
use Rattle.a32_coproc.specs.Coproc.{floating_of}
use Rattle.a32.specs.Decode.{decode_of}
use Rattle.a32.proofs.Groups.{Group, unconditional, coprocessor, misc, halfword, dp_reg, multiply, sync, extra_ldst, dp_imm, ldst, ldst_index, media}
use Rattle.a32.proofs.Groups.{block, branch, by_group}
use Rattle.manual.specs.Stands.{in_range}
use Rattle.a32_every.specs.Branch.{is_branch, is_only_b}

-- accepted, and then a b if it branches; or refused with 3, or with 2, which only a word out of demand 2's range is
unfoldable pub settled : Bool → Decoded → Bool
settled range d = pick (eqb (refused_with d) 0) (is_only_b (insn_in d)) (pick (eqb (refused_with d) 3) true (both (not range) (eqb (refused_with d) 2)))

module _ (range : Bool) where
  through : (b : Bool) (x y : Decoded) → settled range (pick b x y) ≡ pick b (settled range x) (settled range y)
  through true x y = refl
  through false x y = refl

  accepted_so : (i : Insn) → settled range (accepted i) ≡ is_only_b i
  accepted_so i = unfold settled in refl

  no_row_so : settled range (refused 3) ≡ true
  no_row_so = unfold settled in refl

  floating_so : settled range (refused 2) ≡ both (not range) true
  floating_so = unfold settled in refl

flows_through : (b : Bool) (f g : Flow) → is_branch (pick b f g) ≡ pick b (is_branch f) (is_branch g)
flows_through true f g = refl
flows_through false f g = refl

either_true : (b : Bool) → pick b true true ≡ true
either_true true = refl
either_true false = refl

either_false : (b : Bool) → pick b false false ≡ false
either_false true = refl
either_false false = refl

ruleset laws = (through, accepted_so, no_row_so, floating_so, flows_through, either_true, either_false)

pub every : (w addr : ℕ) → settled (in_range w) (decode_of w addr) ≡ true
every w addr = by_group w (λ row. settled (in_range w) (row addr) ≡ true) (λ row. so)
  where
    so : {row : ℕ → ℕ → Decoded} → Group w row → settled (in_range w) (row w addr) ≡ true
    so (unconditional c) = simp laws
    so (misc c g is seven) = simp laws
    so (halfword c g is seven four) = simp laws
    so (dp_reg c g is seven) = simp laws
    so (multiply c g seven four kind exclusive) = simp laws
    so (sync c g seven four kind exclusive) = simp laws
    so (extra_ldst c g seven four kind) = simp laws
    so (dp_imm c g) = simp laws
    so (ldst c g) = simp laws
    so (ldst_index c g four) = simp laws
    so (media c g four) = simp laws
    so (block c g) = simp laws
    so (branch c g) = simp laws
    so (coprocessor c p) = by_test (floating_of w) (λ f. simp (laws, c, p, f)) (λ f. simp (laws, f))

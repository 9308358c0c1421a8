-- A direct target that stays in A32 is a multiple of 4, as its address is. Assumes nothing.
use mathlib.Core.Path.{◌≡◌, refl, sym, ◌∙◌}
use mathlib.Core.Bool.{Bool, true, false}
use Prim.Native.Nat.{ℕ, ◌*◌, ◌%◌, ◌^◌}
use native.Mathlib.Omega.{arith}
use borrow.Author.Tests.{eqb-true, eqb-false}
use lib.Dec.{eqb, ltb}
use Rattle.word.specs.Choice.{pick, by_test}
use Rattle.word.specs.Field.{field}
use Rattle.word.specs.Signed.{sext_of}
use Rattle.insn.specs.Answer.{accepted, refused, insn_in}
use Rattle.insn.specs.Numbers.{flow_target}
use Rattle.insn.specs.Answer.{Decoded}
use Rattle.insn.specs.declared.Flow.{Flow}
use Rattle.insn.specs.declared.Insn.{Insn}
use Rattle.a32_transfer.specs.Branch.{target_from, branch_of}
use Rattle.a32.specs.Decode.{decode_of}
use Rattle.a32.proofs.Groups.{Group, unconditional, coprocessor, misc, halfword, dp_reg, multiply, sync, extra_ldst, dp_imm, ldst, ldst_index}
use Rattle.walk_marks.proofs.Marking.{true_false}
use Rattle.walk_steps.specs.Leads.{flow_leads, enters_thumb}
use Rattle.a32.proofs.Groups.{media, block, branch, reaches, by_group}

-- the target of an answer
unfoldable pub target_of : Decoded → ℕ
target_of d = flow_target (insn_in d).flow

-- passes through a choice, and is 0 of a refusal
through : (t : Bool) (x y : Decoded) → target_of (pick t x y) ≡ pick t (target_of x) (target_of y)
through true x y = refl
through false x y = refl

flow_through : (t : Bool) (x y : Flow) → flow_target (pick t x y) ≡ pick t (flow_target x) (flow_target y)
flow_through true x y = refl
flow_through false x y = refl

of_refused : (n : ℕ) → target_of (refused n) ≡ 0
of_refused n = unfold target_of in refl

of_accepted : (i : Insn) → target_of (accepted i) ≡ flow_target i.flow
of_accepted i = unfold target_of in refl

both_zero : (t : Bool) → pick {A = ℕ} t 0 0 ≡ 0
both_zero true = refl
both_zero false = refl

ruleset laws = (through, flow_through, of_refused, of_accepted, both_zero)

module _ (w a : ℕ) where
  -- words other than branches have none
  pub no_target : eqb (field w 25 3) 5 ≡ false → target_of (decode_of w a) ≡ 0
  no_target other = by_group w (λ row. target_of (row a) ≡ 0) (λ row. none)
    where
      none : {row : ℕ → ℕ → Decoded} → Group w row → target_of (row w a) ≡ 0
      none (unconditional c) = simp (laws, other)
      none (misc c g is seven) = simp laws
      none (halfword c g is seven four) = simp laws
      none (dp_reg c g is seven) = simp laws
      none (multiply c g seven four kind exclusive) = simp laws
      none (sync c g seven four kind exclusive) = simp laws
      none (extra_ldst c g seven four kind) = simp laws
      none (dp_imm c g) = simp laws
      none (ldst c g) = simp laws
      none (ldst_index c g four) = simp laws
      none (media c g four) = simp laws
      none (block c g) = simp laws
      none (branch c g) = absurd (eqb-false (field w 25 3) 5 other g)
      none (coprocessor c p) = simp laws

-- a branch's target is as far from a multiple of 4 as its address
from_aligned : (w a : ℕ) → a % 4 ≡ 0 → target_from w a 0 % 4 ≡ 0
unfolding target_from sext_of
from_aligned w a h =
    by_test (ltb (4 * field w 0 24) (2 ^ 25))
    (λ e. simp e (omega (arith, h)))
    (λ e. simp e (omega (arith, h)))

branch_target : (w a : ℕ) → target_of (branch_of w a) ≡ target_from w a 0
branch_target w a =
    by_test (eqb (field w 24 1) 1)
    (λ link. simp (laws, link))
    (λ link. by_test (eqb (field w 28 4) 14) (λ always. simp (laws, link, always)) (λ always. simp (laws, link, always)))

-- so is that of any word whose target does not enter Thumb
pub aligned : (w a : ℕ) → a % 4 ≡ 0
    → enters_thumb (flow_leads w (insn_in (decode_of w a)).name (insn_in (decode_of w a)).cond (insn_in (decode_of w a)).flow).to ≡ false
    → flow_target (insn_in (decode_of w a)).flow % 4 ≡ 0
aligned w a h other =
    by_test (eqb (field w 25 3) 5)
    (λ e.
    let g = eqb-true (field w 25 3) 5 e in
    by_test (eqb (field w 28 4) 15)
    (λ c. true_false (sym (thumb c g) ∙ other))
    (λ c. plain (rw (reaches w (branch c g) a, branch_target w a) (from_aligned w a h))))
    (λ e. plain (rw (no_target w a e) refl))
  where
    plain : target_of (decode_of w a) % 4 ≡ 0 → flow_target (insn_in (decode_of w a)).flow % 4 ≡ 0
    plain x = unfold target_of in x

    thumb : eqb (field w 28 4) 15 ≡ true → field w 25 3 ≡ 5
        → enters_thumb (flow_leads w (insn_in (decode_of w a)).name (insn_in (decode_of w a)).cond (insn_in (decode_of w a)).flow).to ≡ true
    thumb c g = rw (reaches w (unconditional (eqb-true (field w 28 4) 15 c)) a) (simp g)

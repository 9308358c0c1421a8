-- What an answer under another condition is made of. Assumes nothing.
use mathlib.Core.Path.{◌≡◌, refl, sym}
use Rattle.word.specs.Refusal.{refused_with}
use mathlib.Core.Bool.{Bool, true, false}
use Prim.Native.Nat.{ℕ}
use borrow.Author.Tests.{eqb-true}
use lib.Dec.{eqb}
use Rattle.word.specs.Choice.{pick, by_test}
use Rattle.insn.specs.Answer.{insn_of, accepted, refused, insn_in}
use Rattle.insn.specs.Answer.{Decoded}
use Rattle.insn.specs.declared.Flow.{Flow}
use Rattle.insn.specs.declared.Flow.TheVariants.{Next, Branch, CondBranch, IndirectBranch, Call, IndirectCall, Return, Trap}
use Rattle.insn.specs.declared.Insn.{Insn}
use Rattle.encode_home.specs.declared.Filler.{Filler}
use Rattle.encode_home.specs.Home.{puts_of, home_by}
use Rattle.encode_home.specs.WordDp.{is_indirect}
use Rattle.promises_predicated.specs.Predicated.{flow_at, under}

module _ (c : ℕ) where
  -- it passes through a choice, and so does a flow
  pub through : (b : Bool) (x y : Decoded) → under c (pick b x y) ≡ pick b (under c x) (under c y)
  through true x y = refl
  through false x y = refl

  pub flows_through : (b : Bool) (f g : Flow) → flow_at c (pick b f g) ≡ pick b (flow_at c f) (flow_at c g)
  flows_through true f g = refl
  flows_through false f g = refl

  -- a refusal stays as it is, and an instruction is given the condition
  pub no_row_under : under c (refused 3) ≡ refused 3
  no_row_under = unfold under in refl

  pub coprocessor_under : under c (refused 2) ≡ refused 2
  coprocessor_under = unfold under in refl

  pub accepted_under : (i : Insn) → under c (accepted i) ≡ accepted (insn_of i.addr i.name (record { 0 = c }) (flow_at c i.flow) i.ops)
  accepted_under i = unfold under in refl

-- its parts
module _ (c : ℕ) (d : Decoded) where
  pub refusal_under : refused_with (under c d) ≡ refused_with d
  refusal_under = unfold under in by_test (eqb (refused_with d) 0) (λ e. simp e (sym (eqb-true (refused_with d) 0 e))) (λ e. simp e)

  pub name_under : (insn_in (under c d)).name ≡ (insn_in d).name
  name_under = unfold under in by_test (eqb (refused_with d) 0) (λ e. simp e) (λ e. simp e)

  pub operands_under : (insn_in (under c d)).ops ≡ (insn_in d).ops
  operands_under = unfold under in by_test (eqb (refused_with d) 0) (λ e. simp e) (λ e. simp e)

  pub flow_under : refused_with d ≡ 0 → (insn_in (under c d)).flow ≡ flow_at c (insn_in d).flow
  flow_under ok = unfold under in simp ok

-- no row of the home table asks for the condition, nor for what it changes of a flow
branches_under : (c : ℕ) (f : Flow) → is_indirect (flow_at c f) ≡ is_indirect f
branches_under c Next = refl
branches_under c (Branch a) = by_test (eqb c 14) (λ e. simp e) (λ e. simp e)
branches_under c (CondBranch a) = by_test (eqb c 14) (λ e. simp e) (λ e. simp e)
branches_under c IndirectBranch = refl
branches_under c (Call a) = refl
branches_under c IndirectCall = refl
branches_under c Return = refl
branches_under c Trap = refl

pub home_under : (f : Filler) (c : ℕ) (d : Decoded) (w : ℕ) → home_by f (under c d) w ≡ home_by f d w
home_under f c d w = unfold under puts_of in by_test (eqb (refused_with d) 0) (λ e. simp (e, branches_under)) (λ e. simp e)

pub ruleset laws = (through, flows_through, no_row_under, coprocessor_under, accepted_under)

-- What an address does to an answer: it is in it, and the target of a branch goes with it. Nothing else depends on it. Assumes nothing.
use mathlib.Core.Path.{◌≡◌, refl, sym, ap, ◌∙◌}
use Rattle.word.specs.Refusal.{refused_with}
use mathlib.Core.Bool.{Bool, true, false}
use Prim.Native.Nat.{ℕ}
use native.Mathlib.Omega.{arith}
use borrow.Author.Tests.{eqb-true, eqb-false}
use lib.Dec.{eqb}
use Rattle.word.specs.Choice.{pick, by_test}
use Rattle.word.specs.Field.{field}
use Rattle.insn.specs.Answer.{insn_of, accepted, refused, insn_in}
use Rattle.insn.specs.Answer.{Decoded}
use Rattle.insn.specs.declared.Insn.{Insn}
use Rattle.a32_transfer.specs.Branch.{target_from}
use Rattle.a32.specs.Decode.{decode_of}
use Rattle.a32_elsewhere.specs.Elsewhere.{at, onward, moved}
use Rattle.a32.proofs.Groups.{Group, unconditional, coprocessor, misc, halfword, dp_reg, multiply, sync, extra_ldst, dp_imm, ldst, ldst_index}
use Rattle.a32.proofs.Groups.{media, block, branch, reaches, by_group}

-- an address passes through a choice, a refusal stays as it is, and an instruction is given it
through : (b : ℕ) (t : Bool) (x y : Decoded) → at b (pick t x y) ≡ pick t (at b x) (at b y)
through b true x y = refl
through b false x y = refl

no_row_at : (b : ℕ) → at b (refused 3) ≡ refused 3
no_row_at b = unfold at in refl

coprocessor_at : (b : ℕ) → at b (refused 2) ≡ refused 2
coprocessor_at b = unfold at in refl

accepted_at : (b : ℕ) (i : Insn) → at b (accepted i) ≡ accepted (insn_of b i.name i.cond i.flow i.ops)
accepted_at b i = unfold at in refl

ruleset laws = (through, no_row_at, coprocessor_at, accepted_at)

-- its parts
refusal_at : (b : ℕ) (d : Decoded) → refused_with (at b d) ≡ refused_with d
refusal_at b d = unfold at in by_test (eqb (refused_with d) 0) (λ e. simp e (sym (eqb-true (refused_with d) 0 e))) (λ e. simp e)

address_at : (b : ℕ) (d : Decoded) → refused_with d ≡ 0 → (insn_in (at b d)).addr ≡ b
address_at b d ok = unfold at in simp ok

-- a target goes with the address that it is reckoned from
goes_along : (w a b extra : ℕ) → onward a b (target_from w a extra) ≡ target_from w b extra
goes_along w a b extra = unfold target_from in omega arith

module _ (w a b : ℕ) where
  -- but for branches, the answer at another address is the same answer with that address
  pub same_elsewhere : eqb (field w 25 3) 5 ≡ false → decode_of w b ≡ at b (decode_of w a)
  same_elsewhere other = by_group w (λ row. row b ≡ at b (row a)) (λ row. same)
    where
      same : {row : ℕ → ℕ → Decoded} → Group w row → row w b ≡ at b (row w a)
      same (unconditional c) = simp (laws, other)
      same (misc c g is seven) = simp laws
      same (halfword c g is seven four) = simp laws
      same (dp_reg c g is seven) = simp laws
      same (multiply c g seven four kind exclusive) = simp laws
      same (sync c g seven four kind exclusive) = simp laws
      same (extra_ldst c g seven four kind) = simp laws
      same (dp_imm c g) = simp laws
      same (ldst c g) = simp laws
      same (ldst_index c g four) = simp laws
      same (media c g four) = simp laws
      same (block c g) = simp laws
      same (branch c g) = absurd (eqb-false (field w 25 3) 5 other g)
      same (coprocessor c p) = simp laws

  -- a branch goes as far from there
  pub target_elsewhere : field w 25 3 ≡ 5 → decode_of w b ≡ moved a b (decode_of w a)
  unfolding moved
  target_elsewhere g =
      by_test (eqb (field w 28 4) 15)
      (λ c. of (unconditional (eqb-true (field w 28 4) 15 c)) (simp (g, goes_along)))
      (λ c.
      of (branch c g)
      (by_test (eqb (field w 24 1) 1)
      (λ link. simp (link, goes_along))
      (λ link.
      by_test (eqb (field w 28 4) 14)
      (λ always. simp (link, always, goes_along))
      (λ always. simp (link, always, goes_along)))))
    where
      of : {row : ℕ → ℕ → Decoded} → Group w row → row w b ≡ moved a b (row w a) → decode_of w b ≡ moved a b (decode_of w a)
      of group goes = reaches w group b ∙ goes ∙ ap (moved a b) (sym (reaches w group a))

branch_accepted : (w addr : ℕ) → field w 25 3 ≡ 5 → refused_with (decode_of w addr) ≡ 0
branch_accepted w addr g = unfold moved in ap (λ (d : Decoded). refused_with d) (target_elsewhere w addr addr g)

-- a word is refused at every address or at none, with one number
pub refused_anywhere : (w a b : ℕ) → refused_with (decode_of w a) ≡ refused_with (decode_of w b)
refused_anywhere w a b =
    by_test (eqb (field w 25 3) 5)
    (λ g. branch_accepted w a (eqb-true _ 5 g) ∙ sym (branch_accepted w b (eqb-true _ 5 g)))
    (λ other. sym (ap (λ (d : Decoded). refused_with d) (same_elsewhere w a b other) ∙ refusal_at b (decode_of w a)))

-- an accepted answer holds the address that it was asked at
pub keeps_address : (w addr : ℕ) → refused_with (decode_of w addr) ≡ 0 → (insn_in (decode_of w addr)).addr ≡ addr
keeps_address w addr ok = unfold moved in
    by_test (eqb (field w 25 3) 5)
    (λ g. ap (λ (d : Decoded). (insn_in d).addr) (target_elsewhere w addr addr (eqb-true _ 5 g)))
    (λ other. ap (λ (d : Decoded). (insn_in d).addr) (same_elsewhere w addr addr other) ∙ address_at addr (decode_of w addr) ok)

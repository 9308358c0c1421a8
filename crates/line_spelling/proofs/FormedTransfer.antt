-- Block transfers, branches and the words of condition 15 are formed. Assumes nothing.
use mathlib.Core.Path.{◌≡◌, refl, subst}
use mathlib.Core.Bool.{Bool, false, true, not}
use mathlib.Core.List.{List, [], ◌∷◌}
use Prim.Native.Nat.{ℕ, ◌*◌, ◌^◌, ◌<◌}
use native.Mathlib.Nat.{mod-lt}
use lib.Dec.{T, eqb, lit<}
use lib.Pow.{pow_pos}
use Rattle.word.specs.Choice.{pick}
use Rattle.word.specs.Field.{field, small}
use Rattle.insn.specs.Roots.{name}
use Rattle.insn.specs.declared.AddrMode.TheVariants.{Offset}
use Rattle.insn.specs.declared.Flow.TheVariants.{Next}
use Rattle.insn.specs.declared.Operand.{Operand}
use Rattle.insn.specs.declared.Operand.TheVariants.{WriteBack}
use Rattle.a32_shared.specs.Row.{register_of, reg_of, answer}
use Rattle.a32_transfer.specs.Block.{name_of, flow_of, list_of, stack_of, multiple_of, block_of}
use Rattle.a32_transfer.specs.Branch.{target_from, branch_of}
use Rattle.a32_transfer.specs.Unconditional.{barrier_slot, barrier_of, preload_slot, memory_of, unconditional_of}
use Rattle.line_spelling.proofs.Formed.{reg, Good, Sound, Aimed, decimal_for, ordinary, by_name, either, choice, at, no_row_lem, row0, row1, row2}
use Rattle.line_spelling.proofs.FormedLdst.{disp_small}

target_small : (w addr extra : ℕ) → target_from w addr extra < 2 ^ 32
target_small w addr extra = unfold target_from in mod-lt _ (pow_pos 32)

module _ (w addr : ℕ) where
  module _ (c : eqb (field w 28 4) 15 ≡ false) where
    -- ldm and stm with their modes
    eight : T (ordinary (name_of w))
    eight =
        either Ordinary (eqb (field w 20 1) 0) (four (name "stmda") (name "stm") (name "stmdb") (name "stmib") tt tt tt tt)
        (four (name "ldmda") (name "ldm") (name "ldmdb") (name "ldmib") tt tt tt tt)
      where
        Ordinary : ℕ → Type 0
        Ordinary n = T (ordinary n)

        kind : ℕ
        kind = field w 23 2

        four : (a b c d : ℕ) → Ordinary a → Ordinary b → Ordinary c → Ordinary d → Ordinary (pick (eqb kind 0) a
            (pick (eqb kind 1) b (pick (eqb kind 2) c d)))
        four a b c d p q s t = either Ordinary (eqb kind 0) p (either Ordinary (eqb kind 1) q (either Ordinary (eqb kind 2) s t))

    goes : (ops : List Operand) → Aimed ops (flow_of w)
    goes ops =
        either (Aimed ops) (eqb (field w 20 1) 0) tt
        (either (Aimed ops) (eqb (field w 15 1) 0) tt (either (Aimed ops) (eqb (field w 16 4) 13) tt tt))

    multiple : Good addr (multiple_of w addr)
    multiple =
        row2 w (by_name w (name_of w) c eight (flow_of w))
        (either (Sound false (name_of w)) (eqb (field w 21 1) 0) (reg w 16) (reg w 16))
        (small w 0 16)
        (goes (pick (eqb (field w 21 1) 0) (reg_of w 16) (WriteBack (register_of w 16)) ∷ list_of w ∷ []))

    pub block_good : Good addr (block_of w addr)
    block_good =
        at (field w 22 1) 0
        (at (field w 0 16) 0 no_row_lem
        (choice (stack_of w)
        (at (field w 20 1) 0
        (at (field w 23 2) 2 (row1 w (tt, c) (small w 0 16) (goes (list_of w ∷ []))) multiple)
        (at (field w 23 2) 1 (row1 w (tt, c) (small w 0 16) (goes (list_of w ∷ []))) multiple))
        multiple))
        no_row_lem

    pub branch_good : Good addr (branch_of w addr)
    branch_good =
        at (field w 24 1) 1 (row1 w (tt, c) to refl)
        (at (field w 28 4) 14 (row1 w (tt, c) to refl) (row1 w (tt, c) to refl))
      where
        to : target_from w addr 0 < 2 ^ 32
        to = target_small w addr 0

  pub unconditional_good : eqb (field w 28 4) 15 ≡ true → Good addr (unconditional_of w addr)
  unconditional_good c =
      at (field w 25 3) 5 (row1 w (tt, c) (target_small w addr (field w 24 1 * 2)) refl)
      (choice (barrier_slot w) barrier
      (choice (preload_slot w)
      (either (λ n. Good addr (answer w addr n Next (memory_of w ∷ []))) (eqb (field w 22 1) 0)
      (row1 w (tt, c) (preload (name "pldw") refl) tt)
      (row1 w (tt, c) (preload (name "pld") refl) tt))
      no_row_lem))
    where
      barrier : Good addr (barrier_of w addr)
      barrier =
          at (field w 4 4) 1 (row0 w (tt, c) tt)
          (at (field w 4 4) 4 (row1 w (tt, c) (refl, small w 0 4) tt)
          (at (field w 4 4) 5 (row1 w (tt, c) (refl, small w 0 4) tt)
          (at (field w 4 4) 6 (row1 w (tt, c) (refl, small w 0 4) tt)
          no_row_lem)))

      preload : (name : ℕ) → false ≡ decimal_for name Offset → Sound true name (memory_of w)
      preload name plain = (
        refl,
        record {
          base = reg w 16;
          index = tt;
          disp = disp_small w (field w 0 12)
              (small w 0 12);
          size = lit< tt;
          decimal = plain;
          minus_zero = λ e. absurd (subst (λ (x : Bool). T (not x)) e tt);
        },
      )

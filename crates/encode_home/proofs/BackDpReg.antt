-- Register data processing: an answer leads back to its home word, which has it too. Assumes nothing.
use mathlib.Core.Path.{◌≡◌, refl, sym, subst, ◌∙◌}
use mathlib.Core.Bool.{Bool, true, false, not}
use mathlib.Core.List.{[], ◌∷◌}
use Prim.Native.Nat.{ℕ, ◌%◌, ◌^◌, ◌<◌}
use native.Mathlib.Nat.{mod-eq_of_lt}
use borrow.Author.Tests.{eqb-true}
use lib.Dec.{T, eqb}
use lib.IntN.{pos}
use Rattle.word.specs.Choice.{by_test, tested, parts}
use Rattle.word.specs.Field.{field, put, small}
use Rattle.word.specs.Layout.{rejoin}
use Rattle.insn.specs.Answer.{insn_of, places, accepted}
use Rattle.insn.specs.Roots.{name}
use Rattle.insn.specs.Numbers.{shift_number}
use Rattle.insn.specs.declared.Flow.{Flow}
use Rattle.insn.specs.declared.Flow.TheVariants.{Next, IndirectBranch}
use Rattle.insn.specs.declared.Insn.{Insn}
use Rattle.insn.specs.declared.Operand.{Operand}
use Rattle.insn.specs.declared.Operand.TheVariants.{Empty, Count}
use Rattle.a32_shared.specs.Row.{reg_of, by_s, cond_of, pc_flow}
use Rattle.a32_shared.specs.Shifts.{shift_of, amount_of, plain_of, rrx_of}
use Rattle.a32_dp.specs.Names.{dp_name, shift_name}
use Rattle.a32_dp.specs.DpReg.{dp_reg_of, source_of, mov_of, mov_flow}
use Rattle.a32.specs.Decode.{control_of}
use Rattle.insn_parts.specs.Operands.{operand_flat}
use Rattle.encode_home.specs.Table.{zeros}
use Rattle.encode_home.specs.Home.{puts_of}
use Rattle.encode_home.specs.Word.{word_of}
use Rattle.encode_home.specs.WordDp.{amount_layout, by_amount, register_layout, by_register, source12, shift12, shift_word}
use Rattle.encode_home.proofs.BackDp.{Gives, all_read, no_rd, no_rn, mov_puts, mvn_puts, compare_back, move_back, plain_back}
use Rattle.encode_home.proofs.Leads.{apart, Back, Settles, settles, reads, by_value, set_bit, bit_cases, two_cases}
use Rattle.encode_home.proofs.Puts.{low}

module _ (w : ℕ) where
  -- the shift of a word, from its operand
  kinds : shift_number (shift_of (field w 5 2)) ≡ field w 5 2
  kinds = two_cases w 5 (λ e. simp e) (λ e. simp e) (λ e. simp e) (λ e. simp e)

  amounts : amount_of (field w 5 2) (field w 7 5) % 32 ≡ field w 7 5
  amounts =
      by_test (eqb (field w 7 5) 0)
      (λ e. let z : field w 7 5 ≡ 0 = eqb-true _ 0 e in two_cases w 5 (λ k. simp (k, z)) (λ k. simp (k, z)) (λ k. simp (k, z)) (λ k. simp (k, z)))
      (λ e. simp e (mod-eq_of_lt (small w 7 5)))

  -- 11:0, put together from a register and its shift
  by_amount_lem : field w 4 1 ≡ 0 → by_amount (field w 0 4) (field w 5 2) (field w 7 5) ≡ field w 0 12
  by_amount_lem four = simp four at (rejoin amount_layout 0 w)

  by_register_lem : field w 4 1 ≡ 1 → field w 7 1 ≡ 0 → by_register (field w 0 4) (field w 5 2) (field w 8 4) ≡ field w 0 12
  by_register_lem four seven = simp (four, seven) at (rejoin register_layout 0 w)

  -- Rm, shifted by nothing
  unshifted : field w 4 1 ≡ 0 → plain_of w ≡ true → by_amount (field w 0 4) 0 0 ≡ field w 0 12
  unshifted four e = unfold plain_of in
      let both = parts (eqb (field w 5 2) 0) (eqb (field w 7 5) 0) e in
      simp (eqb-true (field w 5 2) 0 both.0, eqb-true (field w 7 5) 0 both.1) at (by_amount_lem four)

  plain_gives : field w 4 1 ≡ 0 → plain_of w ≡ true → Gives w 0 (reg_of w 0 ∷ [])
  plain_gives four e = unfold source12 in (unshifted four e, refl)

  source_gives : (field w 4 1 ≡ 1 → field w 7 1 ≡ 0) → Gives w 0 (source_of w)
  source_gives seven = unfold source12 in
      tested (Gives w 0) (eqb (field w 4 1) 0)
      (λ e.
      tested (λ (o : Operand). Gives w 0 (o ∷ [])) (plain_of w)
      (plain_gives (eqb-true _ 0 e))
      (λ shifts. (simp (kinds, amounts) (by_amount_lem (eqb-true _ 0 e)), refl)))
      (λ e. let four : field w 4 1 ≡ 1 = set_bit w 4 e in (simp kinds (by_register_lem four (seven four)), refl))

module _ (w : ℕ) (bound : w < 2 ^ 32) (group : field w 25 3 ≡ 0) where
  -- a shift's name tells its kind and S, and ignores Rn
  abbrev shift_insn : ℕ → ℕ → Flow → Operand → Insn
  shift_insn name addr flow by = insn_of addr name (cond_of w) flow (places (reg_of w 12 ∷ reg_of w 0 ∷ by ∷ []))

  abbrev Named : ℕ → ℕ → Type 0
  Named name ty =
      (addr : ℕ) (flow : Flow) (by : Operand)
      → (puts_of (shift_insn name addr flow by) ≡ zeros 19 16 ∷ []) × (word_of (shift_insn name addr flow by) ≡ shift_word (shift_insn name addr flow by) ty
      (field w 20 1))

  rrx_named : Named (by_s w (name "rrx") (name "rrxs")) 3
  rrx_named addr flow by = unfold puts_of word_of in bit_cases w 20 (λ s. (simp s, simp s)) (λ s. (simp s, simp s))

  shift_named : Named (shift_name w) (field w 5 2)
  shift_named addr flow by = unfold puts_of word_of shift_name in
      bit_cases w 20
      (λ s. two_cases w 5 (λ k. (simp (s, k), simp (s, k))) (λ k. (simp (s, k), simp (s, k))) (λ k. (simp (s, k), simp (s, k)))
      (λ k. (simp (s, k), simp (s, k))))
      (λ s. two_cases w 5 (λ k. (simp (s, k), simp (s, k))) (λ k. (simp (s, k), simp (s, k))) (λ k. (simp (s, k), simp (s, k)))
      (λ k. (simp (s, k), simp (s, k))))

  shift_back : (name ty : ℕ) (flow : Flow) (by : Operand) → Named name ty → field w 21 4 ≡ 13
      → shift12 (field w 0 4) ty (operand_flat by) ≡ field w 0 12
      → (addr : ℕ) → Back (zeros 19 16 ∷ []) w (accepted (shift_insn name addr flow by))
  shift_back name ty flow by named op gives addr =
      (refl, (named addr flow by).0, (named addr flow by).1 ∙ simp gives (simp op at (no_rn w 0 bound group)))

  mov_back : (field w 4 1 ≡ 1 → field w 7 1 ≡ 0) → field w 21 4 ≡ 13 → (addr : ℕ) → Back (zeros 19 16 ∷ []) w (mov_of w addr)
  unfolding shift12 dp_name rrx_of
  mov_back seven op addr =
      bit_cases w 4
      (λ bit.
      by_test (plain_of w)
      (λ e. simp (bit, e, ← named) (move_back w 0 bound group (mov_flow w) 13 refl (λ x y. refl) op (λ a c f o. mov_puts w a c f o op) (reg_of w 0 ∷ [])
      (plain_gives w bit e) addr))
      λ shifts.
      by_test (rrx_of w)
      (λ e. simp (bit, shifts, e) (shift_back (by_s w (name "rrx") (name "rrxs")) 3 (pc_flow w) Empty rrx_named op (through bit e) addr))
      (λ e. simp (bit, shifts, e) (shift_back (shift_name w) (field w 5 2) (pc_flow w) (Count (pos
      (amount_of (field w 5 2) (field w 7 5)))) shift_named op (simp (amounts w) (by_amount_lem w bit)) addr)))
      (λ bit. simp bit (shift_back (shift_name w) (field w 5 2) (pc_flow w) (reg_of w 8) shift_named op (by_register_lem w bit (seven bit)) addr))
    where
      named : dp_name w ≡ by_s w (name "mov") (name "movs")
      named = simp op

      through : field w 4 1 ≡ 0 → rrx_of w ≡ true → by_amount (field w 0 4) 3 0 ≡ field w 0 12
      through bit e =
          let both = parts (eqb (field w 5 2) 3) (eqb (field w 7 5) 0) e in
          simp (eqb-true (field w 5 2) 3 both.0, eqb-true (field w 7 5) 0 both.1) at (by_amount_lem w bit)

-- what the puts change no answer by
module _ (w addr : ℕ) where
  rd_keeps : field w 23 2 ≡ 2 → eqb (field w 12 4) 15 ≡ false → dp_reg_of (put w 12 4 0) addr ≡ dp_reg_of w addr
  rd_keeps compare next = unfold dp_name plain_of in simp (apart, compare, next)

  mov_keeps : eqb (field w 23 2) 2 ≡ false → field w 21 4 ≡ 13 → dp_reg_of (put w 16 4 0) addr ≡ dp_reg_of w addr
  mov_keeps other mov = unfold shift_name plain_of rrx_of in simp (apart, other, mov)

  mvn_keeps : eqb (field w 23 2) 2 ≡ false → field w 21 4 ≡ 15 → dp_reg_of (put w 16 4 0) addr ≡ dp_reg_of w addr
  mvn_keeps other mvn = unfold dp_name plain_of in simp (apart, other, mvn)

-- the group: not control, and not bits 7 and 4 both set
module _ (w : ℕ) (bound : w < 2 ^ 32) (group : field w 25 3 ≡ 0) (control : control_of w ≡ false) (seven : field w 4 1 ≡ 1 → field w 7 1 ≡ 0) where
  -- a compare that is no control word sets the flags
  sets : field w 23 2 ≡ 2 → field w 20 1 ≡ 1
  sets is = unfold control_of in bit_cases w 20 (λ s. absurd (subst (λ (b : Bool). T (not b)) (sym (simp (is, s) at control)) tt)) (λ s. s)

  compares : field w 23 2 ≡ 2 → Settles low dp_reg_of w
  compares is =
      by_value w 12 4 15
      (λ pc. reads (simp (is, pc) (compare_back w 0 bound group IndirectBranch is (sets is) [] refl (simp pc at (all_read w 0 bound group))
      (source_of w) (source_gives w seven))))
      (λ next.
      settles (zeros 15 12 ∷ []) tt
      (λ addr. (
        λ c. rd_keeps w addr is next,
        simp (is, next) (compare_back w 0 bound group Next is (sets is) (zeros 15 12 ∷ []) refl (no_rd w 0 bound group) (source_of w)
            (source_gives w seven) addr),
      )))

  pub dp_reg_settles : Settles low dp_reg_of w
  dp_reg_settles =
      by_value w 23 2 2 compares λ other.
      by_value w 21 4 13 (λ op. settles (zeros 19 16 ∷ []) tt (λ addr. (
        λ c. mov_keeps w addr other op,
        simp (other, op) (mov_back w bound group seven op addr),
      ))) λ n13.
      by_value w 21 4 15
      (λ op.
      settles (zeros 19 16 ∷ []) tt
      (λ addr. (
        λ c. mvn_keeps w addr other op,
        simp (other, op) (move_back w 0 bound group (pc_flow w) 15 refl (λ x y. refl) op (λ a c f o. mvn_puts w a c f o op) (source_of w)
            (source_gives w seven) addr),
      )))
      λ n15.
      reads (simp (other, n13, n15) (plain_back w 0 bound group (pc_flow w) other n13 n15 (source_of w) (source_gives w seven)))

-- Media: an answer leads back to its home word, which has it too. Assumes nothing.
use mathlib.Core.Path.{◌≡◌, refl, ◌∙◌}
use mathlib.Core.Bool.{false}
use mathlib.Core.List.{List, [], ◌∷◌}
use Prim.Native.Nat.{ℕ, ◌+◌, ◌-◌, ◌*◌, ◌/◌, ◌%◌, ◌^◌, ◌<◌}
use native.Mathlib.Nat.{add-sub_cancel}
use native.Mathlib.Omega.{arith}
use borrow.Author.Tests.{eqb-true, ltb-false}
use lib.Dec.{eqb, ltb}
use Rattle.word.specs.Choice.{by_test}
use Rattle.word.specs.Field.{field, put, small, splits}
use Rattle.word.specs.Layout.{join, whole, upper, lower}
use Rattle.insn.specs.Answer.{insn_of, places, accepted}
use Rattle.insn.specs.Roots.{name}
use Rattle.insn.specs.declared.Cond.{Cond}
use Rattle.insn.specs.Answer.{Decoded}
use Rattle.insn.specs.declared.Flow.TheVariants.{Next}
use Rattle.insn.specs.declared.Insn.{Insn}
use Rattle.insn.specs.declared.Operand.{Operand}
use Rattle.insn.specs.declared.Operand.TheVariants.{Register}
use Rattle.insn.specs.declared.Reg.{Reg}
use Rattle.a32_media.specs.Media.{media_of, udf_of, bfx_of, bf_of, div_of, ssat_of, usat_of, sat_or, sat_shift_of, rev_of, rotate_of, extend_of, rev_or_extend_of}
use Rattle.insn_parts.specs.Operands.{operand_flat}
use Rattle.encode_home.specs.declared.Filler.TheVariants.{Zeros}
use Rattle.encode_home.specs.Table.{Put, filled}
use Rattle.encode_home.specs.Home.{puts_of, put_all}
use Rattle.encode_home.specs.Word.{word_of}
use Rattle.encode_home.specs.WordMedia.{udf_layout, bits_layout, layout, sat_layout, bfx_word, div_word, rev_word, extend_word, add_extend_word, laid_as}
use Rattle.encode_home.proofs.Leads.{apart, Back, Settles, refuses, settles, reads, leads_to, by_value, bit_cases, two_cases, refusal}
use Rattle.encode_home.proofs.Puts.{low, laid, keeps_upper, keeps_middle}

-- 24:20 is 24:21 and bit 20
op_upper : (w n : ℕ) → field w 20 5 ≡ n → field w 21 4 ≡ n / 2
op_upper w n e = omega (arith, splits w 20 4 1, small w 20 1)

-- what a shift, a rotate and a number were read from
shift_kind : (w : ℕ) → (operand_flat (sat_shift_of w)).how / 2 ≡ field w 6 1
shift_kind w =
    bit_cases w 6
    (λ b. by_test (eqb (field w 7 5) 0) (λ e. simp (b, e)) (λ e. simp (b, e)))
    (λ b. simp b)

shift_amount : (w : ℕ) → (operand_flat (sat_shift_of w)).amount % 32 ≡ field w 7 5
shift_amount w =
    by_test (eqb (field w 7 5) 0)
    (λ e. let z : field w 7 5 ≡ 0 = eqb-true _ 0 e in bit_cases w 6 (λ b. simp (b, z)) (λ b. simp (b, z)))
    (λ e. bit_cases w 6 (λ b. simp (b, e) kept) (λ b. simp (b, e) kept))
  where
    kept : field w 7 5 % 32 ≡ field w 7 5
    kept = omega (arith, small w 7 5)

rotate_amount : (w : ℕ) → (operand_flat (rotate_of w)).amount / 8 ≡ field w 10 2
rotate_amount w = two_cases w 10 (λ e. simp e) (λ e. simp e) (λ e. simp e) (λ e. simp e)

last_bit : (m l : ℕ) → ltb m l ≡ false → l + (m - l + 1) - 1 ≡ m
last_bit m l e = omega (arith, ltb-false m l e)

-- a name's puts, and how its words are laid
abbrev Laid : ℕ → List Put → (Insn → ℕ) → Type 0
Laid name ps word =
    (addr : ℕ) (c : Cond) (rd : Reg) (x y z : Operand) → (puts_of (of addr c rd x y z) ≡ ps)
    × (word_of (of addr c rd x y z) ≡ word (of addr c rd x y z))
  where
    of : ℕ → Cond → Reg → Operand → Operand → Operand → Insn
    of addr c rd x y z = insn_of addr name c Next (places (Register rd ∷ x ∷ y ∷ z ∷ []))

module _ (w : ℕ) (bound : w < 2 ^ 32) (group : field w 25 3 ≡ 3) (bit4 : field w 4 1 ≡ 1) where
  back : (name : ℕ) (ps : List Put) (word : Insn → ℕ) → Laid name ps word → (addr : ℕ) (c : Cond) (rd : Reg) (x y z : Operand)
      → word (insn_of addr name c Next (places (Register rd ∷ x ∷ y ∷ z ∷ []))) ≡ put_all Zeros ps w
      → Back ps w (accepted (insn_of addr name c Next (places (Register rd ∷ x ∷ y ∷ z ∷ []))))
  back name ps word named addr c rd x y z is = (refl, (named addr c rd x y z).0, (named addr c rd x y z).1 ∙ is)

  -- "31, 111"
  udf : field w 20 5 ≡ 31 → field w 5 3 ≡ 7 → (addr : ℕ) → Back [] w (udf_of w addr)
  unfolding puts_of word_of laid_as
  udf op seven addr = (refl, refl, simp (upper w 8 12 0 4, lower w 8 12 0 4) (simp (group, bit4, op, seven) at (whole udf_layout w bound)))

  -- the bit field rows read every field
  bits_word : {kind op : ℕ} → field w 5 2 ≡ kind → field w 21 4 ≡ op
      → join bits_layout (field w 0 4 ∷ 1 ∷ kind ∷ field w 7 5 ∷ field w 12 4 ∷ field w 16 5 ∷ op ∷ 3 ∷ field w 28 4 ∷ []) ≡ w
  bits_word is-kind is-op = simp (group, bit4, is-kind, is-op) at (whole bits_layout w bound)

  -- "26, 27 sbfx and 30, 31 ubfx"
  bfx : (name op : ℕ) → Laid name [] (bfx_word op) → field w 21 4 ≡ op → Settles low (λ v addr. bfx_of v addr name) w
  bfx name op named is-op =
      by_value w 5 2 2
      (λ is. reads (simp is (λ addr. back name [] (bfx_word op) named _ _ _ _ _ _ (simp add-sub_cancel (bits_word is is-op)))))
      (λ is. refuses (λ addr ok. refusal (simp is at ok)))

  -- "28, 29"
  bf : field w 21 4 ≡ 14 → Settles low bf_of w
  bf op = unfold puts_of word_of laid_as in
      by_value w 5 2 0
      (λ is.
      by_test (ltb (field w 16 5) (field w 7 5)) (λ less. refuses (λ addr ok. refusal (simp (is, less) at ok))) λ more.
      by_value w 0 4 15
      (λ pc. reads (simp (is, more, pc, last_bit (field w 16 5) (field w 7 5) more) (λ addr. (refl, refl, simp pc at (bits_word is op)))))
      (λ rm. reads (simp (is, more, rm, last_bit (field w 16 5) (field w 7 5) more) (λ addr. (refl, refl, bits_word is op)))))
      (λ is. refuses (λ addr ok. refusal (simp is at ok)))

  -- "17 sdiv, 19 udiv"
  div : (name op : ℕ) → Laid name (filled 15 12 ∷ []) (div_word op) → field w 20 5 ≡ op → Settles low (λ v addr. div_of v addr name) w
  div name op named is-op =
      by_value w 5 3 0
      (λ is. settles (filled 15 12 ∷ []) tt (simp (apart, is) (λ addr. ((λ c. refl), back name (filled 15 12 ∷ []) (div_word op) named _ _ _ _ _ _ (word is)))))
      (λ is. refuses (λ addr ok. refusal (simp is at ok)))
    where
      word : field w 5 3 ≡ 0 → join layout (field w 0 4 ∷ 1 ∷ 0 ∷ field w 8 4 ∷ 0 ∷ field w 16 4 ∷ op ∷ 3 ∷ field w 28 4 ∷ []) ≡ put w 12 4 0
      word zero = simp (apart, group, bit4, zero, is-op) at (laid Zeros layout (filled 15 12 ∷ []) tt w bound refl)

  -- a saturate "with 5:4 = 01", or another row
  sat_word : {op : ℕ} → field w 21 4 ≡ op → field w 4 2 ≡ 1
      → join sat_layout (field w 0 4 ∷ 1 ∷ field w 6 1 ∷ field w 7 5 ∷ field w 12 4 ∷ field w 16 5 ∷ op ∷ 3 ∷ field w 28 4 ∷ []) ≡ w
  sat_word is-op one = simp (group, one, is-op) at (whole sat_layout w bound)

  unsaturated : (sat : ℕ → ℕ → Decoded) {other : ℕ → ℕ → Decoded} → Settles low other w → eqb (field w 4 2) 1 ≡ false
      → Settles low (λ v addr. sat_or v (sat v addr) (other v addr)) w
  unsaturated sat rows not-01 = leads_to rows (λ c ps t addr. simp (keeps_middle c 4 2 refl refl ps t w, not-01))

  ssat_or : {other : ℕ → ℕ → Decoded} → field w 21 4 ≡ 5 → Settles low other w → Settles low (λ v addr. sat_or v (ssat_of v addr) (other v addr)) w
  ssat_or op rows = unfold puts_of word_of laid_as in
      by_value w 4 2 1 (λ is. reads (simp (is, add-sub_cancel, shift_kind w, shift_amount w) (λ addr. (refl, refl, sat_word op is))))
      (unsaturated ssat_of rows)

  usat_or : {other : ℕ → ℕ → Decoded} → field w 21 4 ≡ 7 → Settles low other w → Settles low (λ v addr. sat_or v (usat_of v addr) (other v addr)) w
  usat_or op rows = unfold puts_of word_of laid_as in
      by_value w 4 2 1 (λ is. reads (simp (is, shift_kind w, shift_amount w) (λ addr. (refl, refl, sat_word op is)))) (unsaturated usat_of rows)

  -- "With Rn and 11:8 both 15"
  rev : (name op kind : ℕ) → Laid name [] (rev_word op kind) → field w 20 5 ≡ op → field w 5 3 ≡ kind → Settles low (λ v addr. rev_of v addr name) w
  rev name op kind named is-op is-kind =
      by_value w 16 4 15
      (λ n.
      by_value w 8 4 15
      (λ m. reads (simp (n, m) (λ addr. back name [] (rev_word op kind) named _ _ _ _ _ _ (simp (
        group,
        bit4,
        n,
        m,
        is-op,
        is-kind,
      ) at (whole layout w bound)))))
      (λ m. refuses (λ addr ok. refusal (simp (n, m) at ok))))
      (λ n. refuses (λ addr ok. refusal (simp n at ok)))

  -- "7:5 = 011 and 9:8 = 00"
  extend : (plain adding op : ℕ) → Laid plain [] (extend_word op) → Laid adding [] (add_extend_word op) → field w 20 5 ≡ op
      → Settles low (λ v addr. extend_of v addr plain adding) w
  extend plain adding op named named-adding is-op =
      by_value w 5 3 3
      (λ l.
      by_value w 8 2 0
      (λ z.
      by_value w 16 4 15
      (λ n. reads (simp (l, z, n) (λ addr. back plain [] (extend_word op) named _ _ _ _ _ _ (simp (rotate_amount w) (simp n at (word l z))))))
      (λ n. reads (simp (l, z, n) (λ addr. back adding [] (add_extend_word op) named-adding _ _ _ _ _ _ (simp (rotate_amount w) (word l z))))))
      (λ z. refuses (λ addr ok. refusal (simp (l, z) at ok))))
      (λ l. refuses (λ addr ok. refusal (simp l at ok)))
    where
      word : field w 5 3 ≡ 3 → field w 8 2 ≡ 0
          → join layout (field w 0 4 ∷ 1 ∷ 3 ∷ field w 10 2 * 4 ∷ field w 12 4 ∷ field w 16 4 ∷ op ∷ 3 ∷ field w 28 4 ∷ []) ≡ w
      word l z =
          let eleven : field w 8 4 ≡ field w 10 2 * 4 = omega (arith, splits w 8 2 2) in simp (
            group,
            bit4,
            l,
            eleven,
            is-op,
          ) at (whole layout w bound)

  -- "/001" and "/101", or an extend
  rev_or_extend : (rev1 rev5 plain adding op : ℕ) → Laid rev1 [] (rev_word op 1) → Laid rev5 [] (rev_word op 5)
      → Laid plain [] (extend_word op) → Laid adding [] (add_extend_word op) → field w 20 5 ≡ op
      → Settles low (λ v addr. rev_or_extend_of v addr rev1 rev5 plain adding) w
  rev_or_extend rev1 rev5 plain adding op named1 named5 named named-adding is-op =
      by_value w 5 3 1
      (λ e. leads_to (rev rev1 op 1 named1 is-op e) (λ c ps t addr. simp (keeps_middle c 5 3 refl refl ps t w, e)))
      λ n1.
      by_value w 5 3 5
      (λ e. leads_to (rev rev5 op 5 named5 is-op e) (λ c ps t addr. simp (keeps_middle c 5 3 refl refl ps t w, e)))
      λ n5.
      leads_to (extend plain adding op named named-adding is-op) (λ c ps t addr. simp (keeps_middle c 5 3 refl refl ps t w, n1, n5))

  -- "31, 111", or ubfx
  udf_or_bfx : field w 20 5 ≡ 31 → Laid (name "ubfx") [] (bfx_word 15) → Settles low media_of w
  udf_or_bfx op named =
      by_value w 5 3 7
      (λ e. reads (simp (op, e) (udf op e)))
      (λ e. leads_to (bfx (name "ubfx") 15 named (op_upper w 31 op))
      (λ c ps t addr. simp (keeps_upper c 20 5 refl ps t w, keeps_middle c 5 3 refl refl ps t w, op, e)))

  pub media_settles : Settles low media_of w
  media_settles = unfold puts_of word_of laid_as in
      by_value w 20 5 31 (λ op. udf_or_bfx op (λ a c r x y z. (refl, refl))) λ n31.
      by_value w 20 5 26 (λ op. leads_to (bfx (name "sbfx") 13 (λ a c r x y z. (refl, refl)) (op_upper w 26 op))
      (λ c ps t addr. simp (keeps_upper c 20 5 refl ps t w, op))) λ n26.
      by_value w 20 5 27 (λ op. leads_to (bfx (name "sbfx") 13 (λ a c r x y z. (refl, refl)) (op_upper w 27 op))
      (λ c ps t addr. simp (keeps_upper c 20 5 refl ps t w, op))) λ n27.
      by_value w 20 5 30 (λ op. leads_to (bfx (name "ubfx") 15 (λ a c r x y z. (refl, refl)) (op_upper w 30 op))
      (λ c ps t addr. simp (keeps_upper c 20 5 refl ps t w, op))) λ n30.
      by_value w 20 5 28 (λ op. leads_to (bf (op_upper w 28 op)) (λ c ps t addr. simp (keeps_upper c 20 5 refl ps t w, op))) λ n28.
      by_value w 20 5 29 (λ op. leads_to (bf (op_upper w 29 op)) (λ c ps t addr. simp (keeps_upper c 20 5 refl ps t w, op))) λ n29.
      by_value w 20 5 17 (λ op. leads_to (div (name "sdiv") 17 (λ a c r x y z. (refl, refl)) op)
      (λ c ps t addr. simp (keeps_upper c 20 5 refl ps t w, op))) λ n17.
      by_value w 20 5 19 (λ op. leads_to (div (name "udiv") 19 (λ a c r x y z. (refl, refl)) op)
      (λ c ps t addr. simp (keeps_upper c 20 5 refl ps t w, op))) λ n19.
      by_value w 20 5 10 (λ op. leads_to (ssat_or (op_upper w 10 op) (extend (name "sxtb") (name "sxtab") 10 (λ a c r x y z. (refl, refl))
      (λ a c r x y z. (refl, refl)) op)) (λ c ps t addr. simp (keeps_upper c 20 5 refl ps t w, op))) λ n10.
      by_value w 20 5 11 (λ op. leads_to (ssat_or (op_upper w 11 op) (rev_or_extend (name "rev") (name "rev16") (name "sxth") (name "sxtah") 11
      (λ a c r x y z. (refl, refl)) (λ a c r x y z. (refl, refl)) (λ a c r x y z. (refl, refl)) (λ a c r x y z. (refl, refl)) op))
      (λ c ps t addr. simp (keeps_upper c 20 5 refl ps t w, op))) λ n11.
      by_value w 20 5 14 (λ op. leads_to (usat_or (op_upper w 14 op) (extend (name "uxtb") (name "uxtab") 14 (λ a c r x y z. (refl, refl))
      (λ a c r x y z. (refl, refl)) op)) (λ c ps t addr. simp (keeps_upper c 20 5 refl ps t w, op))) λ n14.
      by_value w 20 5 15 (λ op. leads_to (usat_or (op_upper w 15 op) (rev_or_extend (name "rbit") (name "revsh") (name "uxth") (name "uxtah") 15
      (λ a c r x y z. (refl, refl)) (λ a c r x y z. (refl, refl)) (λ a c r x y z. (refl, refl)) (λ a c r x y z. (refl, refl)) op))
      (λ c ps t addr. simp (keeps_upper c 20 5 refl ps t w, op))) λ n15.
      by_value w 20 5 8 (λ op. leads_to (extend (name "sxtb16") (name "sxtab16") 8 (λ a c r x y z. (refl, refl)) (λ a c r x y z. (refl, refl)) op)
      (λ c ps t addr. simp (keeps_upper c 20 5 refl ps t w, op))) λ n8.
      by_value w 20 5 12 (λ op. leads_to (extend (name "uxtb16") (name "uxtab16") 12 (λ a c r x y z. (refl, refl)) (λ a c r x y z. (refl, refl)) op)
      (λ c ps t addr. simp (keeps_upper c 20 5 refl ps t w, op))) λ n12.
      refuses (λ addr ok. refusal (simp (n31, n26, n27, n30, n28, n29, n17, n19, n10, n11, n14, n15, n8, n12) at ok))

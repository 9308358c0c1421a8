-- Data processing: an operation's name tells its 24:21 and S and what is put, and with a source that gives 11:0 it leads back to its home word.
-- Assumes nothing.
use mathlib.Core.Path.{◌≡◌, refl, ◌∙◌, subst}
use mathlib.Core.Bool.{Bool, true, false}
use mathlib.Core.List.{List, [], ◌∷◌}
use Prim.Native.Nat.{ℕ, ◌+◌, ◌*◌, ◌/◌, ◌%◌, ◌^◌, ◌<◌, ◌≤◌}
use native.Mathlib.Omega.{arith}
use borrow.Author.Tests.{eqb-false, ltb-true, leb-true, le-leb, lt-leb}
use lib.Dec.{T, eqb, leb, ltb, eqb→eq}
use lib.ListN.{get_or}
use Rattle.word.specs.Choice.{pick, both, inside, by_test, parts, passes}
use Rattle.word.specs.Every.{every, at_each}
use Rattle.word.specs.Field.{field, put, small, splits}
use Rattle.word.specs.Layout.{join, whole}
use Rattle.insn.specs.Answer.{insn_of}
use Rattle.insn.specs.declared.Cond.{Cond}
use Rattle.insn.specs.declared.Flow.{Flow}
use Rattle.insn.specs.declared.Operand.{Operand}
use Rattle.insn.specs.declared.Operand.TheVariants.{Empty}
use Rattle.insn.specs.declared.Place.{Place}
use Rattle.a32_shared.specs.Row.{reg_of, answer}
use Rattle.a32_dp.specs.Names as Names
use Rattle.a32_dp.specs.Names.{dp_name}
use Rattle.insn_parts.specs.Operands.{operand_flat}
use Rattle.encode_home.specs.declared.Filler.TheVariants.{Zeros}
use Rattle.encode_home.specs.Table.{Put, zeros}
use Rattle.encode_home.specs.Home.{puts_of, put_all}
use Rattle.encode_home.specs.Word.{word_of}
use Rattle.encode_home.specs.WordDp.{operation, setting, source12, immediate, is_indirect, layout}
use Rattle.encode_home.proofs.Leads.{apart, Back, bit_cases, starts, ends, under}
use Rattle.encode_home.proofs.Puts.{laid}

-- an operation's name, by 24:21 and S
abbrev named : ℕ → ℕ → ℕ
named op s = pick (eqb s 0) (get_or Names.plain op 0) (get_or Names.setting op 0)

abbrev pub compares : ℕ → Bool
compares op = both (leb 8 op) (leb op 11)

module _ (w : ℕ) where
  -- what a test over all 32 tells of a word's own
  by_all : (test : ℕ → ℕ → Bool) → T (every (λ n. test (n / 2) (n % 2)) 0 32) → T (test (field w 21 4) (field w 20 1))
  by_all test t =
      subst (λ (n : ℕ). T (test n (field w 20 1))) half
      (subst (λ (n : ℕ). T (test ((field w 21 4 * 2 + field w 20 1) / 2) n)) rest
      (at_each (λ n. test (n / 2) (n % 2)) 32 t (field w 21 4 * 2 + field w 20 1) (omega (arith, small w 21 4, small w 20 1))))
    where
      half : (field w 21 4 * 2 + field w 20 1) / 2 ≡ field w 21 4
      half = omega (arith, small w 20 1)

      rest : (field w 21 4 * 2 + field w 20 1) % 2 ≡ field w 20 1
      rest = omega (arith, small w 20 1)

  pub op_of : operation (dp_name w) ≡ field w 21 4
  op_of = unfold dp_name in eqb→eq _ _ (by_all (λ op s. eqb (operation (named op s)) op) tt)

  pub s_of : setting (dp_name w) ≡ pick (compares (field w 21 4)) 1 (field w 20 1)
  s_of = unfold dp_name in eqb→eq _ _ (by_all (λ op s. eqb (setting (named op s)) (pick (compares op) 1 s)) tt)

  pub below_28 : ltb (dp_name w) 28 ≡ true
  below_28 = unfold dp_name in passes _ (by_all (λ op s. ltb (named op s) 28) tt)

  below_37 : leb (dp_name w) 37 ≡ true
  below_37 = le-leb (dp_name w) 37 (omega (arith, ltb-true (dp_name w) 28 below_28))

  -- 24:21 of a compare is 8 to 11, and of no other operation
  pub compare_ops : field w 23 2 ≡ 2 → compares (field w 21 4) ≡ true
  compare_ops e =
      simp (le-leb 8 (field w 21 4) (omega (arith, splits w 21 2 2)), le-leb (field w 21 4) 11 (omega (arith, splits w 21 2 2, small w 21 2)))

  pub other_ops : eqb (field w 23 2) 2 ≡ false → compares (field w 21 4) ≡ false
  other_ops e =
      by_test (leb 8 (field w 21 4))
      (λ low. simp (low, lt-leb (field w 21 4) 11 (above (leb-true 8 _ low))))
      (λ high. simp high)
    where
      above : 8 ≤ field w 21 4 → 11 < field w 21 4
      above low = let differs : field w 23 2 ≡ 2 → ⊥ = eqb-false (field w 23 2) 2 e in omega (arith, splits w 21 2 2, small w 21 2, small w 23 2)

  compare_range : compares (field w 21 4) ≡ true → (leb 8 (dp_name w) ≡ true) × (leb (dp_name w) 11 ≡ true)
  compare_range is = unfold dp_name in parts _ _ (passes _ (simp is at (by_all (λ op s. pick (compares op) (inside 8 11 (named op s)) true) tt)))

-- what is put into an operation's word
module _ (w addr : ℕ) (c : Cond) (flow : Flow) (ops : List Place) where
  abbrev Puts : List Put → Type 0
  Puts ps = puts_of (insn_of addr (dp_name w) c flow ops) ≡ ps

  -- a compare: Rd, unless it branches
  compare_puts : compares (field w 21 4) ≡ true → Puts (pick (is_indirect flow) [] (zeros 15 12 ∷ []))
  unfolding puts_of
  compare_puts is =
      by_test (is_indirect flow)
      (λ b. simp (b, starts 8 11 (dp_name w) l h, ends 8 11 (dp_name w) l h, under 8 11 (dp_name w) l h))
      (λ b. simp (b, starts 8 11 (dp_name w) l h, ends 8 11 (dp_name w) l h, under 8 11 (dp_name w) l h))
    where
      l : leb 8 (dp_name w) ≡ true
      l = (compare_range w is).0

      h : leb (dp_name w) 11 ≡ true
      h = (compare_range w is).1

  pub mov_puts : field w 21 4 ≡ 13 → Puts (zeros 19 16 ∷ [])
  mov_puts is = unfold puts_of dp_name in bit_cases w 20 (λ s. simp (is, s)) (λ s. simp (is, s))

  pub mvn_puts : field w 21 4 ≡ 15 → Puts (zeros 19 16 ∷ [])
  mvn_puts is = unfold puts_of dp_name in bit_cases w 20 (λ s. simp (is, s)) (λ s. simp (is, s))

  -- the others: nothing
  plain_puts : compares (field w 21 4) ≡ false → eqb (field w 21 4) 13 ≡ false → eqb (field w 21 4) 15 ≡ false → Puts []
  unfolding puts_of dp_name
  plain_puts other n13 n15 = none _ (simp (other, n13, n15) at (by_all w test tt))
    where
      null : List Put → Bool
      null [] = true
      null (p ∷ ps) = false

      none : (ps : List Put) → T (null ps) → ps ≡ []
      none [] t = refl
      none (p ∷ ps) t = absurd t

      test : ℕ → ℕ → Bool
      test op s = pick (compares op) true (pick (eqb op 13) true (pick (eqb op 15) true (null (puts_of (insn_of addr (named op s) c flow ops)))))

-- operands that give 11:0 of a word, and its 27:25
abbrev pub Gives : ℕ → ℕ → List Operand → Type 0
Gives w g [] = ⊥
Gives w g (a ∷ []) = (source12 (operand_flat a) (operand_flat Empty) ≡ field w 0 12) × (immediate (operand_flat a) ≡ g)
Gives w g (a ∷ b ∷ []) = (source12 (operand_flat a) (operand_flat b) ≡ field w 0 12) × (immediate (operand_flat a) ≡ g)
Gives w g (a ∷ b ∷ c ∷ os) = ⊥

module _ (w g : ℕ) (bound : w < 2 ^ 32) (group : field w 25 3 ≡ g) where
  -- a word of the group is its fields, joined; so is one with Rd, or with Rn, at zero
  abbrev Joined : ℕ → ℕ → ℕ → Type 0
  Joined rd rn h = join layout (field w 0 12 ∷ rd ∷ rn ∷ field w 20 1 ∷ field w 21 4 ∷ g ∷ field w 28 4 ∷ []) ≡ h

  pub all_read : Joined (field w 12 4) (field w 16 4) w
  all_read = simp group at (whole layout w bound)

  pub no_rd : Joined 0 (field w 16 4) (put w 12 4 0)
  no_rd = simp (apart, group) at (laid Zeros layout (zeros 15 12 ∷ []) tt w bound refl)

  pub no_rn : Joined (field w 12 4) 0 (put w 16 4 0)
  no_rn = simp (apart, group) at (laid Zeros layout (zeros 19 16 ∷ []) tt w bound refl)

  module _ (flow : Flow) where
    -- a compare: Rd is 15 where it branches
    pub compare_back : field w 23 2 ≡ 2 → field w 20 1 ≡ 1 → (ps : List Put) → pick (is_indirect flow) [] (zeros 15 12 ∷ []) ≡ ps
        → Joined (pick (is_indirect flow) 15 0) (field w 16 4) (put_all Zeros ps w)
        → (source : List Operand) → Gives w g source → (addr : ℕ) → Back ps w (answer w addr (dp_name w) flow (reg_of w 16 ∷ source))
    unfolding word_of
    compare_back is s ps at home [] given addr = absurd given
    compare_back is s ps at home (a ∷ []) given addr = (
      refl,
      compare_puts w addr _ flow _ (compare_ops w is) ∙ at,
      simp (below_37, below_28, op_of, s_of, compare_ops w is, given.0, given.1) (simp s at home),
    )
    compare_back is s ps at home (a ∷ b ∷ []) given addr = (
      refl,
      compare_puts w addr _ flow _ (compare_ops w is) ∙ at,
      simp (below_37, below_28, op_of, s_of, compare_ops w is, given.0, given.1) (simp s at home),
    )
    compare_back is s ps at home (a ∷ b ∷ c ∷ os) given addr = absurd given

    -- mov and mvn, which have no Rn
    pub move_back : (op : ℕ) → compares op ≡ false → ((x y : ℕ) → pick (eqb op 13) x (pick (eqb op 15) x y) ≡ x) → field w 21 4 ≡ op
        → ((addr : ℕ) (c : Cond) (f : Flow) (ops : List Place) → Puts w addr c f ops (zeros 19 16 ∷ []))
        → (source : List Operand) → Gives w g source → (addr : ℕ) → Back (zeros 19 16 ∷ []) w (answer w addr (dp_name w) flow (reg_of w 12 ∷ source))
    unfolding word_of
    move_back op none moves is puts [] given addr = absurd given
    move_back op none moves is puts (a ∷ []) given addr =
        (refl, puts addr _ flow _, simp (below_37, below_28, op_of, s_of, is, none, moves, given.0, given.1) (simp is at no_rn))
    move_back op none moves is puts (a ∷ b ∷ []) given addr =
        (refl, puts addr _ flow _, simp (below_37, below_28, op_of, s_of, is, none, moves, given.0, given.1) (simp is at no_rn))
    move_back op none moves is puts (a ∷ b ∷ c ∷ os) given addr = absurd given

    -- the others, which read every field
    pub plain_back : eqb (field w 23 2) 2 ≡ false → eqb (field w 21 4) 13 ≡ false → eqb (field w 21 4) 15 ≡ false
        → (source : List Operand) → Gives w g source → (addr : ℕ) → Back [] w (answer w addr (dp_name w) flow (reg_of w 12 ∷ reg_of w 16 ∷ source))
    unfolding word_of
    plain_back other n13 n15 [] given addr = absurd given
    plain_back other n13 n15 (a ∷ []) given addr = (
      refl,
      plain_puts w addr _ flow _ (other_ops w other) n13 n15,
      simp (below_37, below_28, op_of, s_of, other_ops w other, n13, n15, given.0, given.1) all_read,
    )
    plain_back other n13 n15 (a ∷ b ∷ []) given addr = (
      refl,
      plain_puts w addr _ flow _ (other_ops w other) n13 n15,
      simp (below_37, below_28, op_of, s_of, other_ops w other, n13, n15, given.0, given.1) all_read,
    )
    plain_back other n13 n15 (a ∷ b ∷ c ∷ os) given addr = absurd given

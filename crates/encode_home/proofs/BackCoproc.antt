-- Coprocessor words: an answer leads back to its home word, which has it too. Assumes nothing.
use mathlib.Core.Path.{◌≡◌, refl}
use mathlib.Core.Bool.{true, false}
use mathlib.Core.List.{List, [], ◌∷◌}
use Prim.Native.Nat.{ℕ, ◌+◌, ◌*◌, ◌/◌, ◌^◌, ◌<◌}
use native.Mathlib.Omega.{arith}
use borrow.Author.Tests.{eqb-false, ne_eqb}
use lib.Dec.{eqb, leb, ltb}
use lib.IntN.{pos, nat_abs}
use Rattle.word.specs.Choice.{by_test, fails}
use Rattle.word.specs.Field.{field, put, small, splits}
use Rattle.word.specs.Layout.{join, whole}
use Rattle.insn.specs.Numbers.{mode_number}
use Rattle.a32_ldst.specs.Mem.{mode_of, disp_of}
use Rattle.insn_parts.specs.Operands.{sign_number}
use Rattle.insn_parts.specs.Parts.{up}
use Rattle.a32_coproc.specs.Coproc.{floating_of, unindexed_of, transfer_name, register_move_of, operation_of, pair_move_of, transfer_of, coproc_of}
use Rattle.encode_home.specs.declared.Filler.{Filler}
use Rattle.encode_home.specs.declared.Filler.TheVariants.{Zeros}
use Rattle.encode_home.specs.Table.{Put, ones}
use Rattle.encode_home.specs.Home.{puts_of, put_all}
use Rattle.encode_home.specs.Word.{word_of}
use Rattle.encode_home.specs.WordCoproc.{move_layout, operation_layout, pair_layout, load_bit, long_bit, write_bit, transfer_layout}
use Rattle.encode_home.proofs.Leads.{apart, Back, Settles, refuses, reads, leads_by, by_value, bit_cases, signed_back, refusal, starts, ends}
use Rattle.encode_home.proofs.Leads.{over}
use Rattle.encode_home.proofs.Puts.{high, laid}

-- mcr, mrc, cdp, mcrr and mrrc ignore nothing
module _ (w : ℕ) (bound : w < 2 ^ 32) where
  move : field w 24 4 ≡ 14 → field w 4 1 ≡ 1 → (addr : ℕ) → Back [] w (register_move_of w addr)
  unfolding puts_of word_of
  move group four addr = bit_cases w 20 (λ l. simp l (refl, refl, word l)) (λ l. simp l (refl, refl, word l))
    where
      word : {l : ℕ} → field w 20 1 ≡ l
          → join move_layout
          (field w 0 4 ∷ 1 ∷ field w 5 3 ∷ field w 8 4 ∷ field w 12 4 ∷ field w 16 4 ∷ l ∷ field w 21 3 ∷ 14 ∷ field w 28 4 ∷ []) ≡ w
      word l = simp (four, l, group) at (whole move_layout w bound)

  operation : field w 24 4 ≡ 14 → field w 4 1 ≡ 0 → (addr : ℕ) → Back [] w (operation_of w addr)
  unfolding puts_of word_of
  operation group four addr = (refl, refl, simp (four, group) at (whole operation_layout w bound))

  pair : field w 24 4 ≡ 12 → field w 21 3 ≡ 2 → (addr : ℕ) → Back [] w (pair_move_of w addr)
  unfolding puts_of word_of
  pair group form addr = bit_cases w 20 (λ l. simp l (refl, refl, word l)) (λ l. simp l (refl, refl, word l))
    where
      seven : field w 21 7 ≡ 98
      seven = omega (arith, splits w 21 4 3)

      word : {l : ℕ} → field w 20 1 ≡ l
          → join pair_layout (field w 0 4 ∷ field w 4 4 ∷ field w 8 4 ∷ field w 12 4 ∷ field w 16 4 ∷ l ∷ 98 ∷ field w 28 4 ∷ []) ≡ w
      word l = simp (l, seven) at (whole pair_layout w bound)

-- ldc, stc and the `l` forms
module _ (w : ℕ) where
  -- what a name tells
  name_tells : (load_bit (transfer_name w) ≡ field w 20 1) × (long_bit (transfer_name w) ≡ field w 22 1) × (leb 154 (transfer_name w) ≡ true)
      × (leb (transfer_name w) 157 ≡ true)
  name_tells =
      bit_cases w 20
      (λ l. bit_cases w 22 (λ d. simp (l, d) (refl, refl, refl, refl)) (λ d. simp (l, d) (refl, refl, refl, refl)))
      (λ l. bit_cases w 22 (λ d. simp (l, d) (refl, refl, refl, refl)) (λ d. simp (l, d) (refl, refl, refl, refl)))

  has_l : load_bit (transfer_name w) ≡ field w 20 1
  has_l = name_tells.0

  has_d : long_bit (transfer_name w) ≡ field w 22 1
  has_d = name_tells.1

  -- it is from 154 to 157
  from_154 : (k : ℕ) → leb k 154 ≡ true → leb k (transfer_name w) ≡ true
  from_154 = starts 154 157 (transfer_name w) name_tells.2 name_tells.3

  to_157 : (k : ℕ) → leb 157 k ≡ true → leb (transfer_name w) k ≡ true
  to_157 = ends 154 157 (transfer_name w) name_tells.2 name_tells.3

  over_153 : (k : ℕ) → ltb k 154 ≡ true → leb (transfer_name w) k ≡ false
  over_153 = over 154 157 (transfer_name w) name_tells.2 name_tells.3

  ruleset named = (has_l, has_d, from_154, to_157, over_153)

  -- four times 8 bits
  quarter : 4 * field w 0 8 / 4 ≡ field w 0 8
  quarter = omega arith

  module _ (some : eqb (field w 0 8) 0 ≡ false) where
    some_four : eqb (4 * field w 0 8) 0 ≡ false
    some_four = ne_eqb (4 * field w 0 8) 0 (λ is. eqb-false (field w 0 8) 0 some (omega arith))

    far : nat_abs (disp_of w (4 * field w 0 8)) ≡ 4 * field w 0 8
    far = (signed_back w (4 * field w 0 8) some_four).0

    has_u : up (sign_number (disp_of w (4 * field w 0 8))) ≡ field w 23 1
    has_u = (signed_back w (4 * field w 0 8) some_four).1

  -- 0 is added, whatever U
  nowhere : field w 0 8 ≡ 0 → disp_of w (4 * field w 0 8) ≡ pos 0
  nowhere none = bit_cases w 23 (λ u. simp (none, u)) (λ u. simp (none, u))

  module _ (bound : w < 2 ^ 32) (group : field w 25 3 ≡ 6) where
    abbrev Moves : List Put → Type 0
    Moves ps = (addr : ℕ) → ((c : Filler) → transfer_of (put_all c ps w) addr ≡ transfer_of w addr) × Back ps w (transfer_of w addr)

    -- offset and pre
    module _ (p : field w 24 1 ≡ 1) where
      no_post : eqb (mode_number (mode_of w)) 2 ≡ false
      no_post = bit_cases w 21 (λ b. simp (p, b)) (λ b. simp (p, b))

      has_w : write_bit (mode_number (mode_of w)) ≡ field w 21 1
      has_w = bit_cases w 21 (λ b. simp (p, b)) (λ b. simp (p, b))

      pre_some : eqb (field w 0 8) 0 ≡ false → Moves []
      unfolding puts_of word_of
      pre_some some addr = (
        λ c. refl,
        (
          refl,
          simp (no_post, named, far some, some_four some),
          simp (no_post, has_w, named, far some, has_u some, quarter) (simp (group, p) at (whole transfer_layout w bound)),
        ),
      )

      pre_none : field w 0 8 ≡ 0 → Moves (ones 23 23 ∷ [])
      unfolding puts_of word_of
      pre_none none addr = (
        λ c. bit_cases w 23 (λ u. simp (apart, none, u)) (λ u. simp (apart, none, u)),
        (
          refl,
          simp (no_post, named, nowhere none),
          simp (no_post, has_w, named, nowhere none)
              (simp (apart, group, p, none) at (laid Zeros transfer_layout (ones 23 23 ∷ []) tt w bound refl)),
        ),
      )

    -- post
    module _ (p : field w 24 1 ≡ 0) where
      post_some : eqb (field w 0 8) 0 ≡ false → Moves (ones 21 21 ∷ [])
      unfolding puts_of word_of
      post_some some addr = (
        λ c. simp (apart, p),
        (
          refl,
          simp (p, named, far some, some_four some),
          simp (p, named, far some, has_u some, quarter) (simp (apart, group, p) at (laid Zeros transfer_layout (ones 21 21 ∷ []) tt w bound refl)),
        ),
      )

      post_none : field w 0 8 ≡ 0 → Moves (ones 21 21 ∷ ones 23 23 ∷ [])
      unfolding puts_of word_of
      post_none none addr = (
        λ c. bit_cases w 23 (λ u. simp (apart, p, none, u)) (λ u. simp (apart, p, none, u)),
        (
          refl,
          simp (p, named, nowhere none),
          simp (p, named, nowhere none)
              (simp (apart, group, p, none) at (laid Zeros transfer_layout (ones 21 21 ∷ ones 23 23 ∷ []) tt w bound refl)),
        ),
      )

-- the way there with P; without it, where a pair and the unindexed form are apart; and then with W
pre_leads : (w addr : ℕ) → floating_of w ≡ false → field w 24 4 ≡ 13 → coproc_of w addr ≡ transfer_of w addr
pre_leads w addr general group = simp (general, group)

post_leads : (w addr : ℕ) → floating_of w ≡ false → field w 24 4 ≡ 12 → eqb (field w 21 3) 2 ≡ false → unindexed_of w ≡ false
    → coproc_of w addr ≡ transfer_of w addr
post_leads w addr general group no-pair indexed = simp (general, group, no-pair, indexed)

written_leads : (w addr : ℕ) → floating_of w ≡ false → field w 24 4 ≡ 12 → field w 21 1 ≡ 1 → coproc_of w addr ≡ transfer_of w addr
written_leads w addr general group b =
    post_leads w addr general group (ne_eqb (field w 21 3) 2 (λ is. omega (arith, splits w 21 2 1))) (simp (b, fails))

module _ (w : ℕ) (bound : w < 2 ^ 32) (general : floating_of w ≡ false) where
  -- 27:24 is 110 and P
  top : (b : ℕ) → b < 2 → field w 24 4 ≡ 12 + b → (field w 25 3 ≡ 6) × (field w 24 1 ≡ b)
  top b h group = (omega (arith, splits w 24 3 1, small w 24 1), omega (arith, splits w 24 3 1, small w 24 1))

  -- the coprocessor is the same with U, with W and with both
  still : (floating_of (put w 23 1 1) ≡ false) × (floating_of (put w 21 1 1) ≡ false) × (floating_of (put (put w 21 1 1) 23 1 1) ≡ false)
  still = unfold floating_of in (simp apart general, simp apart general, simp apart general)

  pre : field w 24 4 ≡ 13 → Settles high coproc_of w
  pre group =
      by_value w 0 8 0
      (λ none. leads_by transfer_of (ones 23 23 ∷ []) tt (λ c addr. pre_leads _ addr still.0 (simp apart group)) here
      (pre_none w bound fixed.0 fixed.1 none))
      (λ some. leads_by transfer_of [] tt (λ c. here) here (pre_some w bound fixed.0 fixed.1 some))
    where
      fixed : (field w 25 3 ≡ 6) × (field w 24 1 ≡ 1)
      fixed = top 1 (omega arith) group

      here : (addr : ℕ) → coproc_of w addr ≡ transfer_of w addr
      here addr = pre_leads w addr general group

  post : field w 24 4 ≡ 12 → eqb (field w 21 3) 2 ≡ false → unindexed_of w ≡ false → Settles high coproc_of w
  post group no-pair indexed =
      by_value w 0 8 0
      (λ none. leads_by transfer_of (ones 21 21 ∷ ones 23 23 ∷ []) tt (λ c addr. written_leads _ addr still.2 (simp apart group) (simp apart)) here
      (post_none w bound fixed.0 fixed.1 none))
      (λ some. leads_by transfer_of (ones 21 21 ∷ []) tt (λ c addr. written_leads _ addr still.1 (simp apart group) (simp apart)) here
      (post_some w bound fixed.0 fixed.1 some))
    where
      fixed : (field w 25 3 ≡ 6) × (field w 24 1 ≡ 0)
      fixed = top 0 (omega arith) group

      here : (addr : ℕ) → coproc_of w addr ≡ transfer_of w addr
      here addr = post_leads w addr general group no-pair indexed

pub coproc_settles : (w : ℕ) → w < 2 ^ 32 → Settles high coproc_of w
coproc_settles w bound =
    by_test (floating_of w) (λ floating. refuses (λ addr ok. refusal (simp floating at ok))) λ general.
    by_value w 24 4 12
    (λ group.
    by_value w 21 3 2 (λ form. reads (simp (general, group, form) (pair w bound group form))) λ no-pair.
    by_test (unindexed_of w)
    (λ unindexed. refuses (λ addr ok. refusal (simp (general, group, no-pair, unindexed) at ok)))
    (post w bound general group no-pair)) λ n12.
    by_value w 24 4 13 (pre w bound general) λ n13.
    by_value w 24 4 14
    (λ group.
    bit_cases w 4
    (λ four. reads (simp (general, group, four) (operation w bound group four)))
    (λ four. reads (simp (general, group, four) (move w bound group four)))) λ n14.
    refuses (λ addr ok. refusal (simp (general, n12, n13, n14) at ok))

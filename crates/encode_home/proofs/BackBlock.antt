-- The block transfers: an answer leads back to its word, of which every bit is read. Assumes nothing.
use mathlib.Core.Path.{◌≡◌, refl, sym, subst}
use mathlib.Core.Bool.{false}
use mathlib.Core.List.{[], ◌∷◌}
use Prim.Native.Nat.{ℕ, ◌^◌, ◌<◌}
use lib.Dec.{T, eqb, eqb→eq}
use Rattle.word.specs.Choice.{pick, by_test}
use Rattle.word.specs.Every.{left, right}
use Rattle.word.specs.Field.{field}
use Rattle.word.specs.Layout.{join, whole}
use Rattle.a32_transfer.specs.Block.{base_of, multiple_of, stack_form_of, stack_of, block_of}
use Rattle.insn_parts.specs.Operands.{operand_flat}
use Rattle.insn_parts.specs.Parts.{is_write_back, is_address}
use Rattle.encode_home.specs.Home.{puts_of}
use Rattle.encode_home.specs.Word.{word_of}
use Rattle.encode_home.specs.WordTransfer.{block_layout}
use Rattle.encode_home.proofs.Leads.{Back, Settles, refuses, reads, by_value, bit_cases, two_cases, refusal}
use Rattle.encode_home.proofs.Puts.{low}

-- "Rn (write-back if W)" holds the register and W, and is no address
based : (w : ℕ) → ((operand_flat (base_of w)).reg ≡ field w 16 4) × (pick (is_write_back (operand_flat (base_of w))) 1 0 ≡ field w 21 1)
    × (is_address (operand_flat (base_of w)) ≡ false)
based w =
    bit_cases w 21
    (λ wb. (simp wb, simp wb, simp wb))
    (λ wb. (simp wb, simp wb, simp wb))

module _ (w : ℕ) (bound : w < 2 ^ 32) (group : field w 25 3 ≡ 4) (user : field w 22 1 ≡ 0) where
  -- a word is its fields, joined
  whole_word : {load kind : ℕ} → field w 20 1 ≡ load → field w 23 2 ≡ kind
      → join block_layout (field w 0 16 ∷ field w 16 4 ∷ load ∷ field w 21 1 ∷ 0 ∷ kind ∷ 4 ∷ field w 28 4 ∷ []) ≡ w
  whole_word l k = simp (group, user, l, k) at (whole block_layout w bound)

  multiple : (addr : ℕ) → Back [] w (multiple_of w addr)
  multiple addr = unfold puts_of word_of in
      bit_cases w 20
      (λ l.
      two_cases w 23
      (λ k. (refl, simp (l, k), simp (l, k, (based w).0, (based w).1, (based w).2) (whole_word l k)))
      (λ k. (refl, simp (l, k), simp (l, k, (based w).0, (based w).1, (based w).2) (whole_word l k)))
      (λ k. (refl, simp (l, k), simp (l, k, (based w).0, (based w).1, (based w).2) (whole_word l k)))
      (λ k. (refl, simp (l, k), simp (l, k, (based w).0, (based w).1, (based w).2) (whole_word l k))))
      (λ l.
      two_cases w 23
      (λ k. (refl, simp (l, k), simp (l, k, (based w).0, (based w).1, (based w).2) (whole_word l k)))
      (λ k. (refl, simp (l, k), simp (l, k, (based w).0, (based w).1, (based w).2) (whole_word l k)))
      (λ k. (refl, simp (l, k), simp (l, k, (based w).0, (based w).1, (based w).2) (whole_word l k)))
      (λ k. (refl, simp (l, k), simp (l, k, (based w).0, (based w).1, (based w).2) (whole_word l k))))

  -- "Base 13, W": pop and push name the list alone
  module _ (sp : field w 16 4 ≡ 13) (wb : field w 21 1 ≡ 1) where
    listed : {load kind : ℕ} → field w 20 1 ≡ load → field w 23 2 ≡ kind
        → join block_layout (field w 0 16 ∷ 13 ∷ load ∷ 1 ∷ 0 ∷ kind ∷ 4 ∷ field w 28 4 ∷ []) ≡ w
    listed l k = simp (sp, wb) at (whole_word l k)

    push : field w 20 1 ≡ 0 → field w 23 2 ≡ 2 → (addr : ℕ) → Back [] w (stack_form_of w addr)
    push l k addr = unfold puts_of word_of in simp (l, k) (refl, refl, listed l k)

    pop : field w 20 1 ≡ 1 → field w 23 2 ≡ 1 → (addr : ℕ) → Back [] w (stack_form_of w addr)
    pop l k addr = unfold puts_of word_of in simp (l, k) (refl, refl, listed l k)

    stack : (addr : ℕ) → Back [] w (stack_form_of w addr)
    stack addr =
        bit_cases w 20
        (λ l. by_value w 23 2 2 (λ k. push l k addr) (λ k. simp (l, k) (simp (l, k) at (multiple addr))))
        (λ l. by_value w 23 2 1 (λ k. pop l k addr) (λ k. simp (l, k) (simp (l, k) at (multiple addr))))

-- "Base 13, W, two or more registers", passed
stacked : (w : ℕ) → T (stack_of w) → (field w 16 4 ≡ 13) × (field w 21 1 ≡ 1)
unfolding stack_of
stacked w t = (eqb→eq _ 13 (left (eqb (field w 16 4) 13) _ t), eqb→eq _ 1 (left (eqb (field w 21 1) 1) _ (right (eqb (field w 16 4) 13) _ t)))

pub block_settles : (w : ℕ) → w < 2 ^ 32 → field w 25 3 ≡ 4 → Settles low block_of w
block_settles w bound group =
    bit_cases w 22
    (λ user.
    by_test (eqb (field w 0 16) 0) (λ none. refuses (λ addr ok. refusal (simp (user, none) at ok))) λ some.
    by_test (stack_of w)
    (λ form. let fixed : (field w 16 4 ≡ 13) × (field w 21 1 ≡ 1) = stacked w (subst T (sym form) tt) in
    reads (simp (user, some, form) (stack w bound group user fixed.0 fixed.1)))
    (λ form. reads (simp (user, some, form) (multiple w bound group user))))
    (λ user. refuses (λ addr ok. refusal (simp user at ok)))

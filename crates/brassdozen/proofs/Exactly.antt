-- A row encodes to the home word of every word that has it for its answer's row, and is refused exactly if no word has. Assumes nothing.
use mathlib.Core.Path.{◌≡◌, sym, ap, ◌∙◌, subst}
use Rattle.insn.specs.Answer.{insn_in}
use Rattle.word.specs.Refusal.{refused_with}
use mathlib.Core.Bool.{true}
use mathlib.Core.List.{List, [], append-nil}
use mathlib.Core.Logic.{◌↔◌}
use Prim.Native.Nat.{ℕ, ◌^◌, ◌<◌}
use native.Mathlib.Omega.{arith}
use borrow.Author.Tests.{eqb-true}
use lib.Dec.{eqb}
use lib.ListN.{get_or}
use Rattle.word.specs.Choice.{both, parts, by_test}
use Rattle.a32.specs.Decode.{decode_of}
use Rattle.encode_home.specs.declared.Filler.{Filler}
use Rattle.encode_home.specs.Home.{home_of}
use Rattle.encode_home.proofs.Same.{home_decodes, home_small}
use Rattle.encode_words.specs.Candidate.{candidate}
use Rattle.encode.proofs.Candidate.{candidate_small, candidate_home}
use Rattle.insn_value.specs.Value.{insn_from}
use Rattle.word_packed.specs.Packed.{packed}
use Rattle.insn_row.specs.Row.{row_of, numbers_of, holds}
use Rattle.insn_row.proofs.Back.{row_back}
use Rattle.insn_row.proofs.Holds.{holds_exactly}
use Rattle.insn_row.proofs.Sizes.{row_size}
use Rattle.brassdozen.specs.Given.{whole, Answers, encoded_of}
use Rattle.brassdozen.proofs.Fit.{fits}

-- the comparison passes exactly if the row is that of the answer
compares : (w : ℕ) (row : List ℕ) → refused_with (decode_of w (get_or row 0 0)) ≡ 0
    → (holds row 0 (row_of (insn_in (decode_of w (get_or row 0 0)))) ≡ true) ↔ (row_of (insn_in (decode_of w (get_or row 0 0))) ≡ whole row)
compares w row ok =
    let i = (insn_in (decode_of w (get_or row 0 0))) in
    subst (λ (n : ℕ). (holds row 0 (row_of i) ≡ true) ↔ (row_of i ≡ numbers_of row 0 n))
    (row_size i (fits w (get_or row 0 0) ok).places)
    (holds_exactly row 0 (row_of i))

-- no word's answer has the row
abbrev pub None : List ℕ → Type 0
None row = (w : ℕ) → w < 2 ^ 32 → Answers w row → ⊥

module _ (c : Filler) where
  -- a word whose answer has the row is found, at home
  pub finds : (w : ℕ) (row : List ℕ) → w < 2 ^ 32 → Answers w row → encoded_of c row ≡ packed 0 (home_of c w)
  finds w row bound has =
      simp (at_home, home_decodes c w (get_or row 0 0) bound, has.accepted, (compares w row has.accepted).1 has.equal)
    where
      value : insn_from row ≡ insn_in (decode_of w (get_or row 0 0))
      value =
          let i = (insn_in (decode_of w (get_or row 0 0))) in
          ap insn_from (sym has.equal ∙ sym (append-nil (row_of i))) ∙ row_back i [] (fits w (get_or row 0 0) has.accepted)

      at_home : candidate c (insn_from row) ≡ home_of c w
      at_home = ap (candidate c) value ∙ candidate_home c w (get_or row 0 0) bound has.accepted

  -- "The home word of all words whose answer's row, at the row's address, the row is; or 4, exactly if there is none."
  pub encodes_exactly : (row : List ℕ)
      → ((encoded_of c row ≡ packed 4 0) ↔ None row) × ((w : ℕ) → w < 2 ^ 32 → Answers w row → encoded_of c row ≡ packed 0 (home_of c w))
  encodes_exactly row = ((none, refuses), λ w bound has. finds w row bound has)
    where
      w : ℕ
      w = candidate c (insn_from row)

      none : encoded_of c row ≡ packed 4 0 → None row
      none is v bound has = absurd (omega (arith, home_small c v bound, sym (finds v row bound has) ∙ is))

      refuses : None row → encoded_of c row ≡ packed 4 0
      refuses never =
          by_test (both (eqb (refused_with (decode_of w (get_or row 0 0))) 0) (holds row 0 (row_of (insn_in (decode_of w (get_or row 0 0))))))
          (λ e. absurd (never w (candidate_small c (insn_from row)) (answers (parts _ _ e))))
          (λ e. simp e)
        where
          answers : (eqb (refused_with (decode_of w (get_or row 0 0))) 0 ≡ true) × (holds row 0 (row_of (insn_in (decode_of w (get_or row 0 0)))) ≡ true) → Answers w row
          answers passed =
              let ok = eqb-true (refused_with (decode_of w (get_or row 0 0))) 0 passed.0 in
              record { accepted = ok; equal = (compares w row ok).0 passed.1 }

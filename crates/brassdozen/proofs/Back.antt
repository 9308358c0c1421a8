-- The row that decoding writes reads back as the answer, and encodes to the word's home word; so rows differ where home words do. Assumes nothing.
use mathlib.Core.Path.{◌≡◌, refl, sym, ap, ◌∙◌, subst}
use Rattle.word.specs.Refusal.{refused_with, refusing}
use mathlib.Core.Bool.{Bool, true, false}
use mathlib.Core.List.{List, ◌++◌}
use mathlib.Core.Logic.{◌↔◌}
use Prim.Native.Nat.{ℕ, ◌+◌, ◌^◌, ◌<◌}
use native.Mathlib.Nat.{zero-add}
use native.Mathlib.Omega.{arith}
use borrow.Author.Tests.{eqb-true, eq-eqb}
use lib.Dec.{eqb, leb}
use lib.ListN.{length, take, drop}
use Rattle.word.specs.Choice.{pick}
use Rattle.insn.specs.Answer.{PLACES, insn_in}
use Rattle.insn.specs.Answer.{Decoded}
use Rattle.insn.specs.declared.Insn.{Insn}
use Rattle.a32.specs.Decode.{decode_of}
use Rattle.encode_home.specs.declared.Filler.{Filler}
use Rattle.encode_home.specs.Home.{filled_word, home_of}
use Rattle.a32_elsewhere.proofs.Elsewhere.{keeps_address}
use Rattle.encode_home.proofs.Same.{leads_home, same_answer}
use Rattle.insn_value.specs.Value.{insn_from}
use Rattle.word_packed.specs.Packed.{packed}
use Rattle.text.specs.Text.{written}
use Rattle.std.specs.Prelude.{Ok}
use Rattle.text.specs.Fits.{Written, answer_of, last_of}
use Rattle.insn_row.specs.Row.{row_of, numbers_of}
use Rattle.insn_row.proofs.Back.{row_back}
use Rattle.insn_row.proofs.Holds.{front}
use Rattle.insn_row.proofs.Sizes.{row_size}
use Rattle.brassdozen.specs.Given.{row_refusal, row_last, whole, Answers, encoded_of}
use Rattle.brassdozen.proofs.Fit.{fits}
use Rattle.brassdozen.proofs.Exactly.{finds}

-- where decoding gives 0, the word is accepted, and the row of its answer stands at the start of what was lent

accepts : (d : Decoded) (out : List ℕ) → row_refusal d out ≡ 0 → refused_with d ≡ 0
accepts d out e = of (eqb (refused_with d) 0) refl e
  where
    of : (b : Bool) → eqb (refused_with d) 0 ≡ b → pick b (refused_with (answer_of (row_of (insn_in d)) out)) (refused_with d) ≡ 0 → refused_with d ≡ 0
    of true known given = eqb-true (refused_with d) 0 known
    of false known given = given

starts : (text out : List ℕ) → refused_with (answer_of text out) ≡ 0 → last_of text out ≡ text ++ drop (length text) out
unfolding answer_of last_of written
starts text out e = of (leb (length text) (length out)) e
  where
    of : (b : Bool) → refused_with (pick {A = Written} b (Ok (length text)) (refusing 10)) ≡ 0
        → pick b (take 0 out ++ text ++ drop (0 + length text) out) out ≡ text ++ drop (length text) out
    of true given = rw zero-add refl
    of false given = absurd (omega (arith, given))

lays : (d : Decoded) (out : List ℕ) → row_refusal d out ≡ 0 → row_last d out ≡ row_of (insn_in d) ++ drop (length (row_of (insn_in d))) out
lays d out e = simp taken (starts (row_of (insn_in d)) out (simp taken at e))
  where
    taken : eqb (refused_with d) 0 ≡ true
    taken = eq-eqb (refused_with d) 0 (accepts d out e)

-- what is written reads back as the answer
pub reads_back : (w addr : ℕ) (out : List ℕ) → row_refusal (decode_of w addr) out ≡ 0
    → insn_from (row_last (decode_of w addr) out) ≡ insn_in (decode_of w addr)
reads_back w addr out e =
    let d = decode_of w addr in
    ap insn_from (lays d out e) ∙ row_back (insn_in d) (drop (length (row_of (insn_in d))) out) (fits w addr (accepts d out e))

-- a value's row is the whole of it, whatever stands after it
prefix : (i : Insn) (rest : List ℕ) → length i.ops ≡ PLACES → row_of i ≡ whole (row_of i ++ rest)
prefix i rest e = subst (λ (n : ℕ). row_of i ≡ numbers_of (row_of i ++ rest) 0 n) (row_size i e) (front (row_of i) rest)

module _ (c : Filler) where
  -- and encodes to the home word
  pub goes_home : (w addr : ℕ) (out : List ℕ) → w < 2 ^ 32 → row_refusal (decode_of w addr) out ≡ 0
      → encoded_of c (row_last (decode_of w addr) out) ≡ packed 0 (home_of c w)
  goes_home w addr out bound e = ap (encoded_of c) (lays d out e) ∙ finds c w (row_of (insn_in d) ++ rest) bound answers
    where
      d : Decoded
      d = decode_of w addr

      rest : List ℕ
      rest = drop (length (row_of (insn_in d))) out

      ok : refused_with d ≡ 0
      ok = accepts d out e

      there : decode_of w (insn_in d).addr ≡ d
      there = ap (decode_of w) (keeps_address w addr ok)

      answers : Answers w (row_of (insn_in d) ++ rest)
      answers = record {
        accepted = ap (λ (x : Decoded). refused_with x) there ∙ ok;
        equal = ap (λ (x : Decoded). row_of (insn_in x)) there ∙ prefix (insn_in d) rest (fits w addr ok).places;
      }

  -- different work, different rows
  pub rows_alike : (w v addr : ℕ) (out : List ℕ) → w < 2 ^ 32 → v < 2 ^ 32 → row_refusal (decode_of w addr) out ≡ 0 → row_refusal (decode_of v addr) out ≡ 0
      → (row_last (decode_of w addr) out ≡ row_last (decode_of v addr) out) ↔ (home_of c w ≡ home_of c v)
  rows_alike w v addr out bound bound' e e' = (one_home, one_row)
    where
      one_home : row_last (decode_of w addr) out ≡ row_last (decode_of v addr) out → home_of c w ≡ home_of c v
      one_home same =
          sym (leads_home c w addr bound (accepts (decode_of w addr) out e))
          ∙ ap (filled_word c) (sym (reads_back w addr out e) ∙ ap insn_from same ∙ reads_back v addr out e')
          ∙ leads_home c v addr bound' (accepts (decode_of v addr) out e')

      one_row : home_of c w ≡ home_of c v → row_last (decode_of w addr) out ≡ row_last (decode_of v addr) out
      one_row same =
          ap (λ (d : Decoded). row_last d out)
          ((same_answer c w v addr bound bound' (accepts (decode_of w addr) out e) (accepts (decode_of v addr) out e')).1 same)

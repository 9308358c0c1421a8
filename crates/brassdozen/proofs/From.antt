-- What the functions give, from what the functions that they call give. Assumes nothing.
use mathlib.Core.Path.{◌≡◌, sym, ap, ◌∙◌, subst}
use mathlib.Core.Bool.{Bool, true, false}
use mathlib.Core.List.{List}
use Prim.Native.Nat.{ℕ, ◌≤◌}
use native.Mathlib.Nat.{le_refl}
use native.Mathlib.Omega.{arith}
use lib.Dec.{leb}
use lib.ListN.{length}
use Rattle.word.specs.Choice.{pick}
use Rattle.insn.specs.Answer.{Decoded}
use Rattle.insn.specs.declared.Insn.{Insn}
use Rattle.a32.specs.Decode.{decode_of}
use Rattle.encode_home.specs.declared.Filler.{Filler}
use Rattle.encode_words.specs.Candidate.{candidate}
use Rattle.insn_value.specs.Value.{insn_from}
use Rattle.std.specs.Prelude.{Ok}
use Rattle.word.specs.Refusal.{refusing}
use Rattle.text.specs.Fits.{Written, answer_of, len_in}
use Rattle.brassdozen.specs.Given.{row_refusal, row_last, checked, encoded_of}

-- what decoding gives and leaves, from the answer as the specification names it
pub from : {d d' : Decoded} {r : ℕ} (out : List ℕ) {last : List ℕ} → d ≡ d' → (r ≡ row_refusal d out) × (last ≡ row_last d out)
    → (r ≡ row_refusal d' out) × (last ≡ row_last d' out)
from out e given = (given.0 ∙ ap (λ (d : Decoded). row_refusal d out) e, given.1 ∙ ap (λ (d : Decoded). row_last d out) e)

-- what encoding gives, from the value that is read, the word that it leads to and that word's answer
pub encoded : (c : Filler) (row : List ℕ) {i : Insn} {w : ℕ} {d : Decoded} {r : ℕ} → i ≡ insn_from row → w ≡ candidate c i → d ≡ decode_of w i.addr
    → r ≡ checked row w d → r ≡ encoded_of c row
encoded c row {i} {w} at_i at-w at-d is =
    is
    ∙ ap (checked row w) at-d
    ∙ ap (λ (n : ℕ). checked row n (decode_of n i.addr)) at-w
    ∙ ap (λ (j : Insn). checked row (candidate c j) (decode_of (candidate c j) j.addr)) at_i

-- no more bytes are written than the text has
pub no_longer : (text out : List ℕ) {w : Written} → w ≡ answer_of text out → len_in w ≤ length text
unfolding answer_of
no_longer text out {w} e = subst (λ (x : Written). len_in x ≤ length text) (sym e) (of (leb (length text) (length out)))
  where
    of : (b : Bool) → len_in (pick {A = Written} b (Ok (length text)) (refusing 10)) ≤ length text
    of true = le_refl (length text)
    of false = omega arith

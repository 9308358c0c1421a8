-- Two words read alike at one address exactly if they have one answer: an answer's text is read back to it. Assumes nothing.
use mathlib.Core.Path.{◌≡◌, sym, ap, ◌∙◌}
use Rattle.word.specs.Refusal.{refused_with}
use mathlib.Core.List.{List, []}
use mathlib.Core.Logic.{◌↔◌}
use Prim.Native.Nat.{ℕ, ◌<◌}
use Prim.Native.Char.{code}
use native.Mathlib.Omega.{arith}
use borrow.Author.Tests.{eqb-true, eqb-false, lt-ltb}
use lib.Dec.{eqb, ltb}
use lib.ListN.{get_or}
use Rattle.word.specs.Choice.{pick, by_test}
use Rattle.insn.specs.Roots.{NAMES}
use Rattle.insn.specs.Answer.{accepted, refused, insn_in, accepted_of}
use Rattle.insn.specs.Answer.{Decoded}
use Rattle.insn.specs.declared.Insn.{Insn}
use Rattle.a32.specs.Decode.{decode_of}
use Rattle.line_spelling.specs.Line.{insn_text, refused_text, answer_text}
use Rattle.line_spelling.proofs.Back.{insn_from, reads_back, refused_words, nameless}
use Rattle.line_spelling.proofs.Cut.{pieces}
use Rattle.line_spelling.proofs.Digits.{number_from, decimal_back}
use Rattle.line_spelling.proofs.Formed.{Formed, Good}
use Rattle.line_spelling.proofs.FormedAll.{all_good}

-- "refused" is no name
pub answer_from : ℕ → List ℕ → Decoded
answer_from addr text =
    pick (ltb (insn_from addr text).name NAMES) (accepted (insn_from addr text)) (refused (number_from 10 (get_or (pieces (code " ") text) 1 [])))

accepted_back : (addr : ℕ) (i : Insn) → Formed addr i → answer_from addr (insn_text i) ≡ accepted i
accepted_back addr i f = unfold answer_from in rw (reads_back addr i f, lt-ltb i.name NAMES f.named)

refused_back : (addr n : ℕ) → n < 10 → answer_from addr (refused_text n) ≡ refused n
refused_back addr n few = unfold answer_from in rw (nameless n addr, refused_words n, decimal_back n (omega arith))

answer_back : (addr : ℕ) (d : Decoded) → Good addr d → answer_from addr (answer_text d) ≡ d
unfolding answer_text
answer_back addr d good =
    by_test (eqb (refused_with d) 0)
    (λ e. rw e (taken (eqb-true (refused_with d) 0 e)))
    (λ e. rw e (refused_back addr (refused_with d) good.refusal ∙ sym (good.empty (eqb-false (refused_with d) 0 e))))
  where
    taken : refused_with d ≡ 0 → answer_from addr (insn_text (insn_in d)) ≡ d
    taken ok = accepted_back addr (insn_in d) (good.formed ok) ∙ sym (accepted_of d ok)

-- the text of a word's answer gives the answer back
pub text_back : (w addr : ℕ) → answer_from addr (answer_text (decode_of w addr)) ≡ decode_of w addr
text_back w addr = answer_back addr (decode_of w addr) (all_good w addr)

pub same_text : (w v addr : ℕ) → (answer_text (decode_of w addr) ≡ answer_text (decode_of v addr)) ↔ (decode_of w addr ≡ decode_of v addr)
same_text w v addr = (λ same. sym (text_back w addr) ∙ ap (answer_from addr) same ∙ text_back v addr, ap answer_text)

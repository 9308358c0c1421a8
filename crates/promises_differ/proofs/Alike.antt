-- Accepted words read alike at one address exactly if they have one home word, which the text leads back to. Assumes nothing.
use mathlib.Core.Path.{◌≡◌, ap, ◌∙◌}
use Rattle.word.specs.Refusal.{refused_with}
use mathlib.Core.Logic.{◌↔◌}
use Prim.Native.Nat.{ℕ, ◌^◌, ◌<◌}
use Rattle.insn.specs.Answer.{Decoded, insn_in}
use Rattle.a32.specs.Decode.{decode_of}
use Rattle.encode_home.specs.declared.Filler.{Filler}
use Rattle.encode_home.specs.Home.{filled_word, home_of}
use Rattle.encode_home.proofs.Same.{same_answer, leads_home}
use Rattle.line_spelling.specs.Line.{answer_text}
use Rattle.line_spelling.proofs.Differ.{answer_from, text_back, same_text}

module _ (c : Filler) where
  pub reads_alike : (w v addr : ℕ) → w < 2 ^ 32 → v < 2 ^ 32 → refused_with (decode_of w addr) ≡ 0 → refused_with (decode_of v addr) ≡ 0
      → (answer_text (decode_of w addr) ≡ answer_text (decode_of v addr)) ↔ (home_of c w ≡ home_of c v)
  reads_alike w v addr bound bound' ok ok' = (
    λ alike. (same_answer c w v addr bound bound' ok ok').0 ((same_text w v addr).0 alike),
    λ home.
        (same_text w v addr).1 ((same_answer c w v addr bound bound' ok ok').1 home),
  )

  -- an accepted word's text, read back, is laid out as its home word
  pub text_leads_home : (w addr : ℕ) → w < 2 ^ 32 → refused_with (decode_of w addr) ≡ 0
      → filled_word c (insn_in (answer_from addr (answer_text (decode_of w addr)))) ≡ home_of c w
  text_leads_home w addr bound ok = ap (λ (d : Decoded). filled_word c (insn_in d)) (text_back w addr) ∙ leads_home c w addr bound ok

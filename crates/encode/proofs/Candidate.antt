-- The word that a value leads to is a word, and that of an accepted answer is its home word. Assumes nothing.
use mathlib.Core.Path.{◌≡◌, sym, ap, ◌∙◌, subst}
use Rattle.insn.specs.Answer.{insn_in}
use Rattle.word.specs.Refusal.{refused_with}
use Prim.Native.Nat.{ℕ, ◌^◌, ◌<◌}
use native.Mathlib.Nat.{mod-eq_of_lt, mod-lt}
use lib.Pow.{pow_pos}
use Rattle.insn.specs.declared.Insn.{Insn}
use Rattle.a32.specs.Decode.{decode_of}
use Rattle.encode_home.specs.declared.Filler.{Filler}
use Rattle.encode_home.specs.declared.Filler.TheVariants.{Manual, Zeros}
use Rattle.encode_home.specs.Home.{puts_of, drawn_of, fill_of, home_of}
use Rattle.encode_home.specs.Word.{word_of}
use Rattle.encode_home.proofs.Puts.{good, all_good, drawn_all, put_all_small}
use Rattle.encode_home.proofs.Same.{leads_home, home_small}
use Rattle.encode_words.specs.Candidate.{candidate}

pub candidate_small : (c : Filler) (i : Insn) → candidate c i < 2 ^ 32
candidate_small Manual i = put_all_small Manual (drawn_of (puts_of i)) (drawn_all good (puts_of i) (all_good i)) (mod-lt (word_of i) (pow_pos 32))
candidate_small Zeros i = mod-lt (word_of i) (pow_pos 32)

pub candidate_home : (c : Filler) (w addr : ℕ) → w < 2 ^ 32 → refused_with (decode_of w addr) ≡ 0 → candidate c (insn_in (decode_of w addr)) ≡ home_of c w
candidate_home c w addr bound ok = ap (fill_of c (insn_in (decode_of w addr))) (mod-eq_of_lt small) ∙ leads_home c w addr bound ok
  where
    small : word_of (insn_in (decode_of w addr)) < 2 ^ 32
    small = subst (λ (n : ℕ). n < 2 ^ 32) (sym (leads_home Zeros w addr bound ok)) (home_small Zeros w bound)

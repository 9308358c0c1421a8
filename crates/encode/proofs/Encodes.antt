-- The word that an answer leads to is the home word, encoding an answer gives it, and a value is refused exactly if no word has it for its answer.
-- Assumes nothing.
use mathlib.Core.Path.{◌≡◌, refl, sym, ap, ◌∙◌, subst}
use Rattle.std.specs.Prelude.{Ok}
use Rattle.word.specs.Refusal.{refused_with}
use mathlib.Core.Bool.{false, true≢false}
use mathlib.Core.Logic.{◌↔◌}
use Prim.Native.Nat.{ℕ, ◌^◌, ◌<◌}
use borrow.Author.Tests.{eqb-true}
use lib.Dec.{eqb}
use lib.Pow.{pow_pos}
use Rattle.word.specs.Choice.{by_test}
use Rattle.insn.specs.Answer.{accepted, insn_in, accepted_of}
use Rattle.insn.specs.Answer.{Decoded}
use Rattle.insn.specs.declared.Insn.{Insn}
use Rattle.a32.specs.Decode.{decode_of}
use Rattle.a32_elsewhere.proofs.Elsewhere.{keeps_address}
use Rattle.encode_home.specs.declared.Filler.{Filler}
use Rattle.encode_home.specs.Home.{home_of}
use Rattle.encode_home.proofs.Leads.{refusal}
use Rattle.encode_home.proofs.Same.{home_decodes}
use Rattle.insn_same.specs.Same.{same_of}
use Rattle.insn_same.proofs.Exact.{same_is}
use Rattle.encode_words.specs.Candidate.{candidate}
use Rattle.encode.specs.Encode.{Encoded, word_in, checked, encode_of, home_answer}
use Rattle.encode.proofs.Candidate.{candidate_small, candidate_home}

-- no word has the value for its answer at its address
abbrev pub None : Insn → Type 0
None i = (w : ℕ) → w < 2 ^ 32 → decode_of w i.addr ≡ accepted i → ⊥

module _ (c : Filler) where
  -- what the code gives of a word's answer and the word that it leads to
  pub homed : (w : ℕ) {i : Insn} {v : ℕ} → w < 2 ^ 32 → decode_of w 0 ≡ Ok i → v ≡ candidate c i → Ok v ≡ home_answer c w
  homed w bound is at-v =
      let accepts : refused_with (decode_of w 0) ≡ 0 = ap (λ (d : Decoded). refused_with d) is in
      simp accepts (ap (λ (n : ℕ). Ok n)
      (at-v ∙ ap (λ (d : Decoded). candidate c (insn_in d)) (sym is) ∙ candidate_home c w 0 bound accepts))

  -- a word that the encoder gives has the value for its answer
  pub gives : (i : Insn) → refused_with (encode_of c i) ≡ 0 → decode_of (word_in (encode_of c i)) i.addr ≡ accepted i
  gives i =
      by_test (eqb (refused_with (decode_of (candidate c i) i.addr)) 0)
      (λ e.
      by_test (same_of (insn_in (decode_of (candidate c i) i.addr)) i)
      (λ s ok. simp (e, s) (accepted_of _ (eqb-true _ 0 e) ∙ ap accepted ((same_is _ i).0 s)))
      (λ s ok. refusal (simp (e, s) at ok)))
      (λ e ok. refusal (simp e at ok))

  -- a word that has the value for its answer is found, at home
  finds : (i : Insn) (w : ℕ) → w < 2 ^ 32 → decode_of w i.addr ≡ accepted i → encode_of c i ≡ Ok (home_of c w)
  finds i w bound is = simp (at_home, ap (λ (d : Decoded). refused_with d) decodes, ap (λ (d : Decoded). insn_in d) decodes, (same_is i i).1 refl)
    where
      at_home : candidate c i ≡ home_of c w
      at_home =
          ap (λ (d : Decoded). candidate c (insn_in d)) (sym is)
          ∙ candidate_home c w i.addr bound (ap (λ (d : Decoded). refused_with d) is)

      decodes : decode_of (home_of c w) i.addr ≡ accepted i
      decodes = home_decodes c w i.addr bound ∙ is

  -- encoding the answer of an accepted word gives its home word
  pub encodes_home : (w addr : ℕ) → w < 2 ^ 32 → refused_with (decode_of w addr) ≡ 0
      → encode_of c (insn_in (decode_of w addr)) ≡ Ok (home_of c w)
  encodes_home w addr bound ok =
      finds (insn_in (decode_of w addr)) w bound
      (ap (decode_of w) (keeps_address w addr ok) ∙ accepted_of (decode_of w addr) ok)

  -- what is refused is refused by 4, and a word has 32 bits
  four : (i : Insn) → eqb (refused_with (encode_of c i)) 0 ≡ false → refused_with (encode_of c i) ≡ 4
  four i =
      by_test (eqb (refused_with (decode_of (candidate c i) i.addr)) 0)
      (λ e.
      by_test (same_of (insn_in (decode_of (candidate c i) i.addr)) i)
      (λ s no. absurd (true≢false (simp (e, s) at no)))
      (λ s no. simp (e, s)))
      (λ e no. simp e)

  small : (i : Insn) → (word_in (encode_of c i)) < 2 ^ 32
  small i =
      by_test (eqb (refused_with (decode_of (candidate c i) i.addr)) 0)
      (λ e.
      by_test (same_of (insn_in (decode_of (candidate c i) i.addr)) i)
      (λ s. simp (e, s) (candidate_small c i))
      (λ s. simp (e, s) (pow_pos 32)))
      (λ e. simp e (pow_pos 32))

  pub refuses_exactly : (i : Insn) → (refused_with (encode_of c i) ≡ 4) ↔ None i
  refuses_exactly i = (none, refuses)
    where
      none : refused_with (encode_of c i) ≡ 4 → None i
      none is w bound has = refusal {n = 3} (sym is ∙ ap (λ (e : Encoded). refused_with e) (finds i w bound has))

      refuses : None i → refused_with (encode_of c i) ≡ 4
      refuses f =
          by_test (eqb (refused_with (encode_of c i)) 0)
          (λ e. absurd (f (word_in (encode_of c i)) (small i) (gives i (eqb-true _ 0 e))))
          (λ e. four i e)

-- What the decoder refuses it refuses with 2 out of demand 2's range, and with 3 within it. Assumes nothing.
use mathlib.Core.Path.{◌≡◌, sym, ap, ◌∙◌}
use Rattle.word.specs.Refusal.{refused_with}
use mathlib.Core.Bool.{true, false, true≢false}
use mathlib.Core.Logic.{◌⊎◌, inl, inr}
use Prim.Native.Nat.{ℕ}
use borrow.Author.Tests.{eqb-true, ne_eqb}
use lib.Dec.{eqb}
use Rattle.word.specs.Choice.{by_test}
use Rattle.word.specs.Field.{field}
use Rattle.insn.specs.Answer.{refused}
use Rattle.insn.specs.Answer.{Decoded}
use Rattle.a32_coproc.specs.Coproc.{floating_of}
use Rattle.a32.specs.Decode.{decode_of}
use Rattle.a32.proofs.Groups.{coprocessor}
use Rattle.a32.proofs.Groups.{reaches}
use Rattle.line_spelling.proofs.FormedAll.{all_good}
use Rattle.manual.specs.Stands.{in_range}
use Rattle.a32_every.proofs.Every.{settled, every}

module _ (w addr : ℕ) where
  pub refused_out : in_range w ≡ false → decode_of w addr ≡ refused 2
  refused_out out =
      by_test (eqb (field w 28 4) 15)
      (λ e. absurd (true≢false (simp e at out)))
      (λ c.
      by_test (eqb (field w 26 2) 3)
      (λ p.
      by_test (floating_of w)
      (λ f. reaches w (coprocessor c (eqb-true (field w 26 2) 3 p)) addr ∙ simp f)
      (λ f. absurd (true≢false (simp (c, p, f) at out))))
      (λ p. absurd (true≢false (simp (c, p) at out))))

  pub refused_within : in_range w ≡ true → (refused_with (decode_of w addr) ≡ 0 → ⊥) → decode_of w addr ≡ refused 3
  refused_within range bad = unfold settled in
      let n = (refused_with (decode_of w addr)) in
      (all_good w addr).empty bad
      ∙ ap refused (by_test (eqb n 3)
      (λ e. eqb-true n 3 e)
      (λ e. absurd (true≢false (sym (simp (ne_eqb n 0 bad, e, range) at (every w addr))))))

  pub two_or_three : (refused_with (decode_of w addr) ≡ 0 → ⊥) → (refused_with (decode_of w addr) ≡ 2) ⊎ (refused_with (decode_of w addr) ≡ 3)
  two_or_three bad =
      by_test (in_range w)
      (λ range. inr (ap (λ (d : Decoded). refused_with d) (refused_within range bad)))
      (λ out. inl (ap (λ (d : Decoded). refused_with d) (refused_out out)))

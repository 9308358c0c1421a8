-- `text::put_word` meets its contract. The loop's invariant: the bytes passed are written, and the word is these and what is left of it.
-- Assumes nothing.
use borrow.Author.Tests.{eq-eqb, ne_eqb}
use mathlib.Core.Path.{◌≡◌, refl, sym, ap, ◌∙◌}
use mathlib.Core.List.{List, ◌++◌, append-nil}
use Prim.Native.Nat.{ℕ, suc, ◌+◌, ◌≤◌, ◌<◌}
use native.Mathlib.Numerals.{add-one}
use native.Mathlib.Omega.{arith}
use lib.ListN.{length, get_or, take, drop, length-append, length-set, drop_of_length-le}
use lib.Seq.{take-suc, drop-cons, append_snoc, length-take-le}
use Rattle.text.specs.Entry.{word_of}
use Rattle.text.proofs.Writing.{nothing, more}
use Rattle.text.proofs.put_word.Goals as goal

-- i bytes of the text's word have been passed
abbrev Passed : List ℕ → ℕ → Type 0
Passed text i = word_of text ≡ take i text ++ word_of (drop i text)

module _ (text : List ℕ) (i : ℕ) (passed : Passed text i) where
  -- they are within the word
  within : i ≤ length text → i ≤ length (word_of text)
  within h = omega (arith, ap length passed, length-append (take i text) (word_of (drop i text)), length-take-le i text h)

  at_end : length text ≤ i → take i text ≡ word_of text
  at_end h = sym (passed ∙ rw (drop_of_length-le text h, append-nil))

  at_space : i < length text → get_or text i 0 ≡ 32 → take i text ≡ word_of text
  at_space h e = sym (passed ∙ rw (drop-cons text i 0 h) (simp (eq-eqb (get_or text i 0) 32 e, append-nil)))

  ahead : i < length text → (get_or text i 0 ≡ 32 → ⊥) → Passed text (i + 1)
  ahead h e =
      passed
      ∙ rw (add-one i, take-suc text i 0 h, drop-cons text i 0 h)
      (simp (ne_eqb (get_or text i 0) 32 e) (sym (append_snoc (take i text) (get_or text i 0) (word_of (drop (suc i) text)))))

-- the place of the byte that a turn writes
place : (c : goal.Else-b-eq32) → c.args.at + c.loop-i.i < length
    c.loop-i.out
place c =
    let now = c.loop-i in
    let next = ahead _ now.i now.invariant.1 (omega arith) c.if-b-eq32.false in
    omega (arith, within _ (now.i + 1) next (omega arith))

pub loop-i-init : goal.loop-i-init
loop-i-init c = (refl, refl, record { ends = refl; holds = nothing _ _ })

pub loop-i-preserved : goal.loop-i-preserved
loop-i-preserved c =
    let now = c.loop-i in (
      simp length-set now.invariant.0,
      ahead _ now.i now.invariant.1 (omega arith) c.if-b-eq32.false,
      more _ _ now.i now.invariant.2 (omega arith) (place c),
    )

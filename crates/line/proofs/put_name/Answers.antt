-- `line::put_name` meets its contract: where the stem is not the root itself, the tail is written. Assumes nothing.
use borrow.Author.Tests.{eq-eqb, ne_eqb}
use mathlib.Core.Path.{◌≡◌, sym, ap, ◌∙◌}
use mathlib.Core.List.{[]}
use Prim.Native.Nat.{ℕ}
use native.Mathlib.Omega.{arith}
use lib.ListN.{length, length-append}
use Rattle.text.specs.Text.{bytes}
use Rattle.text.proofs.Writing.{none, ◌then◌}
use Rattle.insn.specs.Roots.{roots}
use Rattle.line_spelling.specs.Names.{entry}
use Rattle.line_spelling.specs.Line.{stem_of, tail_of, name_text}
use Rattle.line.proofs.put_name.Goals as goal

no_tail : (n : ℕ) → stem_of n ≡ n → tail_of n ≡ []
no_tail n e = rw (eq-eqb (stem_of n) n e)

tail : (n : ℕ) → (stem_of n ≡ n → ⊥) → tail_of n ≡ bytes "l"
tail n e = rw (ne_eqb (stem_of n) n e)

pub put_root-at-requires : goal.put_root-at-requires
put_root-at-requires c = unfold name_text in
    rw c.stem-root.ensures (omega (arith, simp length-append at c.requires))

pub put_suffix-at-requires : goal.put_suffix-at-requires
put_suffix-at-requires c = unfold name_text in
    omega (arith, ap (λ (n : ℕ). length (entry roots n)) c.stem-root.ensures, simp length-append at c.requires)

pub put_one-requires : goal.put_one-requires
put_one-requires c = unfold name_text in
    let known = c.stem-root.ensures in
    omega (
      arith,
      ap (λ (n : ℕ). length (entry roots n)) known,
      simp (tail _ (λ e. c.if-root-name.false (known ∙ e)), length-append) at c.requires,
    )

pub returns-then-root-name : goal.returns-then-root-name
returns-then-root-name c = unfold name_text in
    let known = c.stem-root.ensures in
    rw (no_tail _ (sym known ∙ c.if-root-name.true))
    (rw known at c.put_root-at.ensures then c.put_suffix-at.ensures then none _ _)

pub returns-else-root-name : goal.returns-else-root-name
returns-else-root-name c = unfold name_text in
    let known = c.stem-root.ensures in
    rw (tail _ (λ e. c.if-root-name.false (known ∙ e)))
    (rw known at c.put_root-at.ensures then c.put_suffix-at.ensures then c.put_one.ensures)

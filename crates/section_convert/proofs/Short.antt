-- What a conversion gives is a length that has 32 bits. Assumes nothing.
use mathlib.Core.List.{List}
use Prim.Native.Nat.{ℕ, ◌^◌, ◌<◌, ◌≤◌}
use native.Mathlib.Omega.{arith}
use borrow.Author.Tests.{eqb-true}
use lib.Dec.{eqb, leb}
use lib.ListN.{length}
use Rattle.word.specs.Choice.{tested}
use Rattle.text.specs.Fits.{Written, len_in, answer_of}
use Rattle.section.proofs.Accepted.{section_short}
use Rattle.section_convert.specs.Convert.{converted_of, conversion_refusal, given_of}
use Rattle.section_convert.specs.declared.Target.{Target}
use Rattle.section_convert.proofs.Converts.{convertible, converted_short}

answer_short : (text out : List ℕ) → len_in (answer_of text out) ≤ length text
answer_short text out = unfold answer_of in
    tested (λ (w : Written). len_in w ≤ length text) (leb (length text) (length out)) (λ e. omega arith) (λ e. omega arith)

pub given_short : (target : Target) (s out : List ℕ) → len_in (given_of target s out) < 2 ^ 32
given_short target s out = unfold given_of in
    tested (λ (w : Written). len_in w < 2 ^ 32) (eqb (conversion_refusal target s) 0)
    (λ e.
    let ok = eqb-true (conversion_refusal target s) 0 e in
    omega (
      arith,
      answer_short (converted_of target s) out,
      converted_short target s ok,
      section_short s (convertible target s ok),
    ))
    (λ e. omega arith)

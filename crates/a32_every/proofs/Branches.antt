-- Only an unlinked b has the flow of a branch or a conditional branch. Assumes nothing.
use mathlib.Core.Path.{◌≡◌}
use Rattle.word.specs.Refusal.{refused_with}
use mathlib.Core.Bool.{true}
use Prim.Native.Nat.{ℕ}
use lib.Dec.{eqb}
use Rattle.word.specs.Choice.{by_test}
use Rattle.a32.specs.Decode.{decode_of}
use Rattle.a32_every.specs.Branch.{only_b}
use Rattle.a32_every.proofs.Every.{settled, every}

pub branches_are_b : (w addr : ℕ) → only_b (decode_of w addr) ≡ true
branches_are_b w addr = unfold only_b settled in
    by_test (eqb (refused_with (decode_of w addr)) 0) (λ e. simp e (simp e at (every w addr))) (λ e. simp e)

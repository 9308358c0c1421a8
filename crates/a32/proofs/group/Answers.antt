-- `a32::group` meets its contract. Assumes nothing.
use Rattle.std.proofs.Common.{◌≡◌, ℕ, ◌<◌, [], ◌∷◌, eqb, ne_eqb, arith}
use Rattle.std.proofs.lemmas.Bool.{eqb-false}
use Rattle.word.specs.Choice.{by_test}
use Rattle.word.specs.Field.{small}
use Rattle.insn.specs.Answer.{Decoded}
use Rattle.a32_shared.specs.Row.{among, ◌⇒◌}
use Rattle.a32.specs.Decode.{group_of}
use Rattle.a32.proofs.group.Goals as goal

-- the rows of 6 and 7 are one
six_seven : {a : Decoded} (op : ℕ) → 5 < op → op < 8 → a ≡ among op (6 ⇒ a ∷ 7 ⇒ a ∷ [])
six_seven op above below =
    by_test (eqb op 6) (λ e. simp e) (λ e. let is : op ≡ 7 = omega (arith, eqb-false op 6 e) in simp is)

pub returns-in_default : goal.returns-in_default
returns-in_default c = unfold group_of in
    let op = c.bits-op.result in
    simp (
      c.coproc.ensures,
      ne_eqb op 0 (omega arith),
      ne_eqb op 1 (omega arith),
      ne_eqb op 2 (omega arith),
      ne_eqb op 3 (omega arith),
      ne_eqb op 4 (omega arith),
      ne_eqb op 5 (omega arith),
      ← c.bit-by.ensures,
      ← c.bits-op.ensures,
    )
    (six_seven op (omega arith) (rw c.bits-op.ensures (small _ 25 3)))

-- `value::places_from` meets its contract. The loop's invariant: the places so far are the row's, and the others unused. Assumes nothing.
use mathlib.Core.Path.{◌≡◌, sym, subst, ◌∙◌}
use mathlib.Core.List.{List}
use Prim.Native.Nat.{ℕ, ◌+◌, ◌*◌, ◌<◌, ◌≤◌}
use native.Mathlib.Numerals.{add-one}
use native.Mathlib.Omega.{arith}
use lib.ListN.{length, take, get_or, set, length-set}
use lib.Seq.{take-suc, take-suc-set, get_or-set_other}
use Rattle.insn.specs.Answer.{PLACES, used, unused, place_at}
use Rattle.insn.specs.declared.Operand.{Operand}
use Rattle.insn.specs.declared.Place.{Place}
use Rattle.insn_value.specs.Value.{operand_from, places_from}
use Rattle.insn_value.proofs.places_from.Goals as goal
use Rattle.insn_value.proofs.places_from.Goals.{then-number-ne0, else-number-ne0}

-- the invariant, at the places and the number that a turn leaves
abbrev invariant_loop : List ℕ → List Place → ℕ → List Place → ℕ → Type 0
invariant_loop row ops₀ n₀ ops n =
    (length ops ≡ PLACES) × (take n ops ≡ places_from row n) × ((p : ℕ) → n ≤ p → p < PLACES → place_at ops p ≡ unused)

-- after place n
module _ (row : List ℕ) (ops : List Place) (n : ℕ) (inv : invariant_loop row ops n ops n) (below : n < PLACES) where
  abbrev Goes : List Place → Type 0
  Goes l = invariant_loop row l n l (n + 1)

  there : n < length ops
  there = rw inv.0 below

  filled : {o : Operand} → o ≡ operand_from row (5 + 11 * n) → Goes (set ops n (used o))
  filled {o} is = (
    length-set ops n (used o) ∙ inv.0,
    rw (add-one n, take-suc-set ops n (used o) there, inv.1, is),
    λ p after last. get_or-set_other ops n p (used o) unused (λ e. omega arith) ∙ inv.2 p (omega arith) last,
  )

  left : get_or row (5 + 11 * n) 0 ≡ 0 → Goes ops
  left none = (
    inv.0,
    rw (add-one n, take-suc ops n unused there, inv.1, inv.2 n (omega arith) below, none),
    λ p after. inv.2 p (omega arith),
  )

pub loop-n-preserved : goal.loop-n-preserved
loop-n-preserved c =
    let loop = c.loop-n in
    let goes = Goes c.args.row.now loop.ops loop.n loop.invariant (omega arith) in
    elim c.if-number-ne0.branch [
      | then-number-ne0 t ↦ subst goes (sym t.ops-is) (filled c.args.row.now loop.ops loop.n loop.invariant (omega arith) t.operand_from.ensures)
      | else-number-ne0 t ↦ subst goes (sym t.ops-is) (left c.args.row.now loop.ops loop.n loop.invariant (omega arith) (sym c.number.ensures ∙ t.if-number-ne0.false))
    ]

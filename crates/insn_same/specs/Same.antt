-- When two instruction values are the same: each number of the one is that number of the other. That this is so exactly if the
-- two are equal is `same-is` of proofs/Exact.
use Rattle.std.specs.Prelude.{Bool, true, false, List, [], ◌∷◌, eqb}
use Rattle.word.specs.Choice.{both}
use Rattle.insn.specs.Numbers.{flow_number, flow_target}
use Rattle.insn.specs.declared.Operand.{Operand}
use Rattle.insn.specs.declared.Place.{Place}
use Rattle.insn.specs.declared.Flow.{Flow}
use Rattle.insn.specs.declared.Insn.{Insn}
use Rattle.insn_parts.specs.declared.Flat.{Flat}
use Rattle.insn_parts.specs.Operands.{operand_flat}

abbrev pub same_ends : Flat → Flat → Bool
same_ends x y =
    both (eqb x.index y.index)
    (both (eqb x.mode y.mode)
    (both (eqb x.size y.size) (both (eqb x.decimal y.decimal) (eqb x.minus y.minus))))

abbrev pub same_starts : Flat → Flat → Bool
same_starts x y =
    both (eqb x.kind y.kind)
    (both (eqb x.reg y.reg)
    (both (eqb x.how y.how)
    (both (eqb x.amount y.amount) (both (eqb x.negative y.negative) (eqb x.value y.value)))))

abbrev pub same_flat : Flat → Flat → Bool
same_flat x y = both (same_starts x y) (same_ends x y)

abbrev pub same_operand : Operand → Operand → Bool
same_operand x y = same_flat (operand_flat x) (operand_flat y)

abbrev pub same_places : List Place → List Place → Bool
same_places [] [] = true
same_places [] (q ∷ qs) = false
same_places (p ∷ ps) [] = false
same_places (p ∷ ps) (q ∷ qs) = both (same_operand p.operand q.operand) (same_places ps qs)

abbrev pub same_flow : Flow → Flow → Bool
same_flow x y = both (eqb (flow_number x) (flow_number y)) (eqb (flow_target x) (flow_target y))

abbrev pub same_of : Insn → Insn → Bool
same_of a b =
    both (eqb a.addr b.addr)
    (both (eqb a.name b.name)
    (both (eqb a.cond.0 b.cond.0) (both (same_flow a.flow b.flow) (same_places a.ops b.ops))))

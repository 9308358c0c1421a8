-- `rows::leads::registers` meets its contract. Assumes nothing.
use Rattle.std.proofs.Common.{arith}
use Rattle.manual_rows.proofs.Leading.{lead, to_miscellaneous, to_halfword_multiply, to_register, to_shifted, to_multiply, to_synchronization}
use Rattle.manual_rows.proofs.leads.registers.Goals as goal

pub returns-then-op2-lt8 : goal.returns-then-op2-lt8
returns-then-op2-lt8 c = lead (to_miscellaneous _ c.requires (cc) (omega arith)) c.miscellaneous.ensures

pub returns-then-control : goal.returns-then-control
returns-then-control c =
    lead (to_halfword_multiply _ c.requires (cc) (omega arith) (omega arith))
    c.halfword_multiply.ensures

pub returns-then-op2-eq0 : goal.returns-then-op2-eq0
returns-then-op2-eq0 c = lead (to_register _ c.requires (cc) (omega arith)) c.register.ensures

pub returns-then-control-2 : goal.returns-then-control-2
returns-then-control-2 c = lead (to_miscellaneous _ c.requires (cc) (omega arith)) c.miscellaneous-then-control-2.ensures

pub returns-then-op2-lt8-2 : goal.returns-then-op2-lt8-2
returns-then-op2-lt8-2 c =
    lead (to_shifted _ c.requires (cc) (omega arith) (omega arith)) c.shifted.ensures

pub returns-then-op1-lt16 : goal.returns-then-op1-lt16
returns-then-op1-lt16 c =
    lead (to_multiply _ c.requires (omega arith) (omega arith)) c.multiply.ensures

pub returns-then-op2-eq9 : goal.returns-then-op2-eq9
returns-then-op2-eq9 c =
    lead (to_synchronization _ c.requires (omega arith) (omega arith))
    c.synchronization.ensures

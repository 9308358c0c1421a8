-- 01, "Port order and forms to change": "Register 13 to 15 and condition 14 are constants of their type."
use Rattle.insn.specs.declared.Cond.{Cond}
use Rattle.insn.specs.declared.Reg.{Reg}

-- "Registers r0 to r12 sp lr pc"
abbrev pub SP : Reg
SP = record { 0 = 13 }

abbrev pub LR : Reg
LR = record { 0 = 14 }

abbrev pub PC : Reg
PC = record { 0 = 15 }

-- the condition whose name has no suffix: "eq ne hs lo mi pl vs vc hi ls ge lt gt le, then nothing for 14"
abbrev pub AL : Cond
AL = record { 0 = 14 }

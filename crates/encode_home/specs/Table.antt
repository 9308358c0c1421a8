-- 01, "Home words", and 02, P1, P3 to P5 and P9, as a table: an entry says which answers it is about, and what their home words have in which fields.
use Rattle.std.specs.Prelude.{Bool, true, false, not, List, [], ◌∷◌, ℕ, ◌+◌, ◌-◌, ◌^◌, eqb}
use Prim.Native.String.{String}
use Rattle.word.specs.Choice.{both, inside}
use Rattle.insn.specs.Roots.{name}
use Rattle.insn.specs.declared.Insn.{Insn}
use Rattle.insn_parts.specs.declared.Flat.{Flat}
use Rattle.insn_parts.specs.Parts.{at, is_register, is_count}
use Rattle.encode_home.specs.declared.Filler.{Filler}
use Rattle.encode_home.specs.declared.Filler.TheVariants.{Manual, Zeros}
use Rattle.encode_home.specs.WordDp.{is_indirect}

-- what a field has in a home word: zeros, ones, or what the manual draws, which is ones, by the choice
pub data Fill : Type 0 where
  clear : Fill
  set : Fill
  drawn : Fill

-- 02, P5: "From now on the encoder's default fills as the manual: ones in .."; "Tools that stored zero-filled words ask for the old filler by a choice"
abbrev pub number : Filler → Fill → ℕ → ℕ
number c clear width = 0
number c set width = 2 ^ width - 1
number Manual drawn width = 2 ^ width - 1
number Zeros drawn width = 0

-- a field by its lowest bit and its width, and what is put there
pub record Put : Type 0 where
  pub lo : ℕ
  pub width : ℕ
  pub fill : Fill

abbrev pub value : Filler → Put → ℕ
value c p = number c p.fill p.width

-- bits "19:16" clear is zeros 19 16; bit 23 set is ones 23 23; "ones in 19:16" as the manual draws them is filled 19 16
abbrev pub zeros : ℕ → ℕ → Put
zeros hi lo = record { lo = lo; width = hi - lo + 1; fill = clear }

abbrev pub ones : ℕ → ℕ → Put
ones hi lo = record { lo = lo; width = hi - lo + 1; fill = set }

abbrev pub filled : ℕ → ℕ → Put
filled hi lo = record { lo = lo; width = hi - lo + 1; fill = drawn }

-- answers by their name, or by names whose numbers follow each other
abbrev pub names : String → String → Insn → Bool
names first last i = inside (name first) (name last) i.name

abbrev pub named : String → Insn → Bool
named root = names root root

-- by an operand
abbrev pub operand : ℕ → (Flat → Bool) → Insn → Bool
operand n is i = is (at i n)

-- by the flow
abbrev pub branches : Insn → Bool
branches i = is_indirect i.flow

-- mask 0, with bit 22 clear
abbrev pub maskless : Flat → Bool
maskless f = eqb f.amount 0

-- a memory form with an index; and one in offset mode without, that adds 0 or subtracts it
abbrev pub indexed : Flat → Bool
indexed f = eqb f.how 1

abbrev pub nothing : Flat → Bool
nothing f = both (eqb f.how 0) (both (eqb f.mode 0) (eqb f.value 0))

-- one in post mode; and one whose displacement is 0
abbrev pub post : Flat → Bool
post f = eqb f.mode 2

abbrev pub still : Flat → Bool
still f = eqb f.value 0

abbrev either : Bool → Bool → Bool
either true b = true
either false b = b

infixr 60 ◌and◌
abbrev pub ◌and◌ : (Insn → Bool) → (Insn → Bool) → Insn → Bool
◌and◌ p q i = both (p i) (q i)

infixr 50 ◌or◌
abbrev pub ◌or◌ : (Insn → Bool) → (Insn → Bool) → Insn → Bool
◌or◌ p q i = either (p i) (q i)

abbrev pub no : (Insn → Bool) → Insn → Bool
no p i = not (p i)

pub record Entry : Type 0 where
  pub about : Insn → Bool
  pub puts : List Put

infix 40 ◌⇒◌
abbrev pub ◌⇒◌ : (Insn → Bool) → List Put → Entry
◌⇒◌ about puts = record { about = about; puts = puts }

abbrev pub table : List Entry
table =
    -- "mov, mvn and shift names: 19:16."
    (named "mov" or named "movs" or named "mvn" or named "mvns" or names "lsl" "rrx" ⇒ zeros 19 16 ∷ []) ∷
    -- "Immediate compares: 15:12. Register compares: 15:12 unless it is 15.", in which case they branch
    (names "tst" "cmn" and no branches ⇒ zeros 15 12 ∷ []) ∷
    -- "mrs: 19:16, 11:10, 8, 3:0."
    (named "mrs" ⇒ filled 19 16 ∷ zeros 11 10 ∷ zeros 8 8 ∷ zeros 3 0 ∷ []) ∷
    -- "msr register: 15:12, 11:10, 8."
    (named "msr" and operand 1 is_register ⇒ filled 15 12 ∷ zeros 11 10 ∷ zeros 8 8 ∷ []) ∷
    -- "msr immediate: 15:12."; 02, P5: "Immediate msr with mask 0 and bit 22 clear keeps zero in 15:12, since ones there are a hint"
    (named "msr" and operand 1 is_count and operand 0 maskless ⇒ zeros 15 12 ∷ []) ∷
    (named "msr" and operand 1 is_count and no (operand 0 maskless) ⇒ filled 15 12 ∷ []) ∷
    -- "bx, bxj, blx register: 19:8."
    (named "bx" or named "bxj" or named "blx" and operand 0 is_register ⇒ filled 19 8 ∷ []) ∷
    -- "clz: 19:16, 11:8."
    (named "clz" ⇒ filled 19 16 ∷ filled 11 8 ∷ []) ∷
    -- "Saturating adds, exclusives, extra index form, hints: 11:8"; beside a pair the memory form stands at place 2
    (names "qadd" "qdsub" ⇒ zeros 11 8 ∷ []) ∷
    (names "strex" "ldrexh" ⇒ filled 11 8 ∷ []) ∷
    (names "strh" "ldrsh" and (operand 1 indexed or operand 2 indexed) ⇒ zeros 11 8 ∷ []) ∷
    (names "nop" "sev" ⇒ zeros 11 8 ∷ []) ∷
    -- "exclusive loads also 3:0."
    (named "ldrex" or named "ldrexb" or named "ldrexh" ⇒ filled 3 0 ∷ []) ∷
    -- "mul, sdiv, udiv: 15:12."; 02, P3: "smul and smulw ignore 15:12, which is zero at home"
    (names "muls" "mul" ⇒ zeros 15 12 ∷ []) ∷
    (named "sdiv" or named "udiv" ⇒ filled 15 12 ∷ []) ∷
    (names "smulwb" "smulwt" or names "smulbb" "smultt" ⇒ zeros 15 12 ∷ []) ∷
    -- 02, P4, of 01's "ssat, usat: 20.": "Bit 20 is no longer ignored"
    -- 02, P1: "The home table drops preloads' 21:20 and gains clrex, 3:0."
    (named "clrex" ⇒ filled 3 0 ∷ []) ∷
    -- "In addition bit 23 is set in load/store (not extra) immediate offset mode and preloads when 11:0 is 0."
    (names "ldr" "strbt" and operand 1 nothing ⇒ ones 23 23 ∷ []) ∷
    (names "pld" "pldw" and operand 0 nothing ⇒ ones 23 23 ∷ []) ∷
    -- 02, P9: "at home, W is set when P is clear, and U is set when the offset is 0"
    (names "ldc" "stcl" and operand 2 post ⇒ ones 21 21 ∷ []) ∷
    (names "ldc" "stcl" and operand 2 still ⇒ ones 23 23 ∷ []) ∷
    -- "All other rows ignore nothing."
    []

-- What holds of every accepted answer, as far as its text depends on it, and the laws by which the groups' rows are gone through. Assumes nothing.
use mathlib.Core.Path.{◌≡◌, refl, sym, ap, ◌∙◌}
use Rattle.insn.specs.Memory.{Index}
use Rattle.std.specs.Prelude.{Some, None, Err}
use Rattle.word.specs.Refusal.{number, refused_with, numbered_number}
use Rattle.word.specs.declared.refusal.Refusal.{Refusal}
use Rattle.word.specs.declared.refusal.Refusal.TheVariants.{NoRow}
use mathlib.Core.Bool.{Bool, true, false, not}
use mathlib.Core.List.{List, [], ◌∷◌}
use Prim.Native.Nat.{ℕ, suc, ◌+◌, ◌*◌, ◌^◌, ◌<◌, ◌≤◌}
use native.Mathlib.Omega.{arith}
use borrow.Author.Tests.{ltb-true, not-true, lt-leb, ne_eqb}
use lib.Dec.{T, eqb, leb, ltb, ltb→lt, lt→ltb, lit<, lit≤}
use lib.IntN.{pos, nat_abs}
use lib.ListN.{length}
use Rattle.word.specs.Choice.{pick, both, inside, tested, parts, passes, fails}
use Rattle.word.specs.Field.{field, small}
use Rattle.insn.specs.Answer.{PLACES, places, refused, insn_in}
use Rattle.insn.specs.Roots.{NAMES, name}
use Rattle.insn.specs.Numbers.{shift_number, operand_number, flow_number}
use Rattle.insn.specs.declared.AddrMode.{AddrMode}
use Rattle.insn.specs.Answer.{Decoded}
use Rattle.insn.specs.declared.Flow.{Flow}
use Rattle.insn.specs.declared.Flow.TheVariants.{Next, Branch, CondBranch, IndirectBranch, Call, IndirectCall, Return, Trap}
use Rattle.insn.specs.declared.Insn.{Insn}
use Rattle.insn.specs.declared.Mem.{Mem}
use Rattle.insn.specs.declared.Operand.{Operand}
use Rattle.insn.specs.declared.Operand.TheVariants.{Empty, Register, Shifted, ShiftBy, SaturateShift, Rotate, Count, Number, StatusMask}
use Rattle.insn.specs.declared.Operand.TheVariants.{StatusSource, WriteBack, List as RegisterList, Address, Memory, Option}
use Rattle.insn.specs.declared.Operand.TheVariants.{Coprocessor, CoprocessorRegister}
use Rattle.a32_shared.specs.Row.{answer, no_row}
use Rattle.a32_ldst.specs.Mem.{is_post}

-- what follows a `#` under a name: a count, 0; a bit pattern, which reads as a count does, 1; or an option that has no other name, 2
abbrev pub hashed : ℕ → ℕ
hashed n =
    pick (eqb n (name "bkpt")) 1 (pick (inside (name "movt") (name "movw") n) 1 (pick (inside (name "udf") (name "ubfx") n) 1
    (pick (inside (name "dsb") (name "isb") n) 2 0)))

-- the mark that the text leaves out: load/store "Post sets decimal", extra load/store "Decimal always set"
abbrev pub decimal_for : ℕ → AddrMode → Bool
decimal_for n mode = pick (inside (name "ldr") (name "strbt") n) (is_post mode) (inside (name "strh") (name "ldrsh") n)

-- the names of condition 15, by the flow's number: a blx that calls, the preloads and the barriers
abbrev pub unconditional : ℕ → ℕ → Bool
unconditional n flow = pick (eqb n (name "blx")) (eqb flow 4) (inside (name "pld") (name "isb") n)

abbrev pub Indexed : Index → Type 0
Indexed None = Unit
Indexed (Some (r, n)) = (r.0 < 16) × (n < 32)

pub record Held (name : ℕ) (m : Mem) : Type 0 where
  pub base : m.base.0 < 16
  pub index : Indexed m.index
  pub disp : nat_abs m.disp < 4096
  pub size : m.size < 10
  pub decimal : m.decimal ≡ decimal_for name m.mode
  pub minus_zero : m.minus_zero ≡ true → m.disp ≡ pos 0

-- an operand that stands under a name; a memory form stands only last
abbrev pub Sound : Bool → ℕ → Operand → Type 0
Sound last name Empty = ⊥
Sound last name (Register r) = r.0 < 16
Sound last name (Shifted r kind n) = (r.0 < 16) × (n < 33)
Sound last name (ShiftBy kind r) = r.0 < 16
Sound last name (SaturateShift kind n) = (eqb (shift_number kind) 3 ≡ false) × (n < 33)
Sound last name (Rotate n) = n < 33
Sound last name (Count z) = (hashed name ≡ 0) × (nat_abs z < 2 ^ 32)
Sound last name (Number n) = (hashed name ≡ 1) × (n < 2 ^ 32)
Sound last name (StatusMask n) = n < 32
Sound last name (StatusSource s) = Unit
Sound last name (WriteBack r) = r.0 < 16
Sound last name (RegisterList n) = n < 2 ^ 16
Sound last name (Address n) = n < 2 ^ 32
Sound last name (Memory m) = (last ≡ true) × Held name m
Sound last name (Option n) = (hashed name ≡ 2) × (n < 16)
Sound last name (Coprocessor n) = n < 16
Sound last name (CoprocessorRegister n) = n < 16

abbrev pub Laid : ℕ → List Operand → Type 0
Laid name [] = Unit
Laid name (o ∷ []) = Sound true name o
Laid name (o ∷ p ∷ os) = Sound false name o × Laid name (p ∷ os)

-- the most bytes that an operand takes, a memory form aside: a register, a coprocessor and a register of one are short
abbrev pub width_of : Operand → ℕ
width_of o = pick (eqb (operand_number o) 1) 3 (pick (inside 15 16 (operand_number o)) 3 12)

-- and operands, with a space before each
abbrev pub room_for : List Operand → ℕ
room_for [] = 0
room_for (o ∷ os) = suc (width_of o + room_for os)

-- the address at place 0, if one is there
abbrev pub address_in : Operand → ℕ
address_in Empty = 0
address_in (Register r) = 0
address_in (Shifted r kind n) = 0
address_in (ShiftBy kind r) = 0
address_in (SaturateShift kind n) = 0
address_in (Rotate n) = 0
address_in (Count z) = 0
address_in (Number n) = 0
address_in (StatusMask n) = 0
address_in (StatusSource s) = 0
address_in (WriteBack r) = 0
address_in (RegisterList n) = 0
address_in (Address n) = n
address_in (Memory m) = 0
address_in (Option n) = 0
address_in (Coprocessor n) = 0
address_in (CoprocessorRegister n) = 0

abbrev pub target_in : List Operand → ℕ
target_in [] = 0
target_in (o ∷ os) = address_in o

-- a direct flow goes to the address at place 0
abbrev pub Aimed : List Operand → Flow → Type 0
Aimed ops Next = Unit
Aimed ops (Branch a) = target_in ops ≡ a
Aimed ops (CondBranch a) = target_in ops ≡ a
Aimed ops IndirectBranch = Unit
Aimed ops (Call a) = target_in ops ≡ a
Aimed ops IndirectCall = Unit
Aimed ops Return = Unit
Aimed ops Trap = Unit

-- an accepted answer, as rows make it: none of them has more than four operands, but where most of them are short
pub record Formed (addr : ℕ) (i : Insn) : Type 0 where
  pub asked : i.addr ≡ addr
  pub operands : List Operand
  pub laid : i.ops ≡ places operands
  pub few : length operands ≤ PLACES
  pub brief : room_for operands ≤ 4 * 13
  pub sound : Laid i.name operands
  pub named : i.name < NAMES
  pub under : i.cond.0 < 16
  pub always : eqb i.cond.0 15 ≡ unconditional i.name (flow_number i.flow)
  pub aimed : Aimed operands i.flow

-- an answer at an address: a refusal of one digit, or a formed instruction
pub record Good (addr : ℕ) (d : Decoded) : Type 0 where
  pub refusal : refused_with d < 10
  pub empty : (refused_with d ≡ 0 → ⊥) → d ≡ refused (refused_with d)
  pub formed : refused_with d ≡ 0 → Formed addr (insn_in d)

-- what holds of both values holds of the one that a test picks, whatever the test
pub either {ℓ} : {A : Type ℓ} (P : A → Type 0) (b : Bool) {x y : A} → P x → P y → P (pick b x y)
either P b p q = tested P b (λ e. p) (λ e. q)

pub choice : (b : Bool) {addr : ℕ} {x y : Decoded} → Good addr x → Good addr y → Good addr (pick b x y)
choice b {addr} = either (Good addr) b

-- a row of a table at a number, and the rows after it
pub at : (n k : ℕ) {addr : ℕ} {x y : Decoded} → Good addr x → Good addr y → Good addr (pick (eqb n k) x y)
at n k = choice (eqb n k)

pub good_refusal : {addr : ℕ} (r : Refusal) → T (ltb 0 (number r)) → T (ltb (number r) 10) → Good addr (Err r)
good_refusal r some few =
    record {
      refusal = lit< few;
      empty = λ some. ap Err (sym (numbered_number r));
      formed = λ ok. absurd (omega (arith, ltb→lt 0 (number r) some));
    }

pub no_row_lem : {addr : ℕ} → Good addr no_row
no_row_lem = good_refusal NoRow tt tt

-- the register that four bits name
pub reg : (w lo : ℕ) → field w lo 4 < 16
reg w lo = small w lo 4

-- a name and its flow, under the condition of a word
abbrev pub Under : ℕ → ℕ → Flow → Type 0
Under w name flow = T (ltb name NAMES) × (eqb (field w 28 4) 15 ≡ unconditional name (flow_number flow))

-- a name of conditions below 15, whatever its flow
abbrev pub ordinary : ℕ → Bool
ordinary n = both (ltb n (name "pld")) (not (eqb n (name "blx")))

pub by_name : (w n : ℕ) → eqb (field w 28 4) 15 ≡ false → T (ordinary n) → (flow : Flow) → Under w n flow
by_name w n c t flow =
    (lt→ltb n NAMES (omega (arith, below)), c ∙ sym (simp (not-true (eqb n (name "blx")) tests.1, lt-leb (name "pld") n below)))
  where
    tests : (ltb n (name "pld") ≡ true) × (not (eqb n (name "blx")) ≡ true)
    tests = parts (ltb n (name "pld")) (not (eqb n (name "blx"))) (passes (ordinary n) t)

    below : n < name "pld"
    below = ltb-true n (name "pld") tests.0

-- the same of the names after the barriers, the halfword multiplies and the coprocessor words
pub by_half : (w n : ℕ) → eqb (field w 28 4) 15 ≡ false → name "isb" < n → n < NAMES → (flow : Flow) → Under w n flow
by_half w n c past few flow = (lt→ltb n NAMES few, c ∙ sym (simp (ne_eqb n (name "blx") (λ e. omega arith), lt-leb n (name "isb") past, fails)))

-- four operands or less, of any kind
wide : (operands : List Operand) → room_for operands ≤ 13 * length operands
wide [] = omega arith
wide (o ∷ os) =
    either Fits (eqb (operand_number o) 1) (omega (arith, wide os)) (either Fits (inside 15 16 (operand_number o)) (omega (arith, wide os))
    (omega (arith, wide os)))
  where
    Fits : ℕ → Type 0
    Fits n = suc (n + room_for os) ≤ 13 * suc (length os)

-- a row's answer, by the number of its operands
module _ (w : ℕ) {addr name : ℕ} {flow : Flow} (under : Under w name flow) where
  row : (operands : List Operand) → length operands ≤ PLACES → room_for operands ≤ 4 * 13 → Laid name operands → Aimed operands flow
      → Good addr (answer w addr name flow operands)
  row operands few brief sound aimed =
      record {
        refusal = lit< tt;
        empty = λ some. absurd (some refl);
        formed =
            λ ok. record {
              asked = refl;
              operands = operands;
              laid = refl;
              few = few;
              brief = brief;
              sound = sound;
              named = lit<
                  under.0;
              under = small w 28 4;
              always = under.1;
              aimed = aimed;
            };
      }

  up_to_four : (operands : List Operand) → T (leb (length operands) 4) → Laid name operands → Aimed operands flow
      → Good addr (answer w addr name flow operands)
  up_to_four operands t = row operands (omega (arith, few)) (omega (arith, few, wide operands))
    where
      few : length operands ≤ 4
      few = lit≤ t

  short : (operands : List Operand) → T (leb (length operands) PLACES) → T (leb (room_for operands) (4 * 13)) → Laid name operands → Aimed operands flow
      → Good addr (answer w addr name flow operands)
  short operands few brief = row operands (lit≤ few) (lit≤ brief)

  pub row0 : Aimed [] flow → Good addr (answer w addr name flow [])
  row0 aimed = up_to_four [] tt tt aimed

  pub row1 : {a : Operand} → Sound true name a → Aimed (a ∷ []) flow → Good addr (answer w addr name flow (a ∷ []))
  row1 s aimed = up_to_four (_ ∷ []) tt s aimed

  pub row2 : {a b : Operand} → Sound false name a → Sound true name b → Aimed (a ∷ b ∷ []) flow → Good addr (answer w addr name flow (a ∷ b ∷ []))
  row2 s t aimed = up_to_four (_ ∷ _ ∷ []) tt (s, t) aimed

  pub row3 : {a b c : Operand} → Sound false name a → Sound false name b → Sound true name c → Aimed (a ∷ b ∷ c ∷ []) flow
      → Good addr (answer w addr name flow (a ∷ b ∷ c ∷ []))
  row3 s t u aimed = up_to_four (_ ∷ _ ∷ _ ∷ []) tt (s, (t, u)) aimed

  pub row4 : {a b c d : Operand} → Sound false name a → Sound false name b → Sound false name c → Sound true name d → Aimed (a ∷ b ∷ c ∷ d ∷ []) flow
      → Good addr (answer w addr name flow (a ∷ b ∷ c ∷ d ∷ []))
  row4 s t u v aimed = up_to_four (_ ∷ _ ∷ _ ∷ _ ∷ []) tt (s, (t, (u, v))) aimed

  pub row5 : {a b c d e : Operand} → T (leb (room_for (a ∷ b ∷ c ∷ d ∷ e ∷ [])) (4 * 13)) → Sound false name a → Sound false name b → Sound false name c
      → Sound false name d → Sound true name e → Aimed (a ∷ b ∷ c ∷ d ∷ e ∷ []) flow → Good addr (answer w addr name flow (a ∷ b ∷ c ∷ d ∷ e ∷ []))
  row5 brief s t u v x aimed = short (_ ∷ _ ∷ _ ∷ _ ∷ _ ∷ []) tt brief (s, (t, (u, (v, x)))) aimed

  pub row6 : {a b c d e f : Operand} → T (leb (room_for (a ∷ b ∷ c ∷ d ∷ e ∷ f ∷ [])) (4 * 13)) → Sound false name a → Sound false name b
      → Sound false name c → Sound false name d → Sound false name e → Sound true name f → Aimed (a ∷ b ∷ c ∷ d ∷ e ∷ f ∷ []) flow
      → Good addr (answer w addr name flow (a ∷ b ∷ c ∷ d ∷ e ∷ f ∷ []))
  row6 brief s t u v x y aimed = short (_ ∷ _ ∷ _ ∷ _ ∷ _ ∷ _ ∷ []) tt brief (s, (t, (u, (v, (x, y))))) aimed

-- What the pages of one kind have alike. Assumes nothing.
use mathlib.Core.Path.{◌≡◌, refl}
use mathlib.Core.List.{List}
use Prim.Native.Nat.{ℕ}
use Prim.Native.String.{String}
use lib.Dec.{eqb}
use Rattle.word.specs.Choice.{pick, both}
use Rattle.word.specs.Field.{field}
use Rattle.insn.specs.Answer.{refused}
use Rattle.insn.specs.declared.Flow.{Flow}
use Rattle.insn.specs.declared.Flow.TheVariants.{Next}
use Rattle.insn.specs.declared.Operand.{Operand}
use Rattle.a32_shared.specs.Row.{answer, by_s, pc_flow}
use Rattle.manual.specs.A8.{names, said_of, page_of, other_page_of, reading_as}
use Rattle.manual.specs.Departures.{Departure, standing_of, follows, departs, subs_pc_lr, port_of, branching, answered}
use Rattle.manual.specs.Reads.{is_set, setflags}
use Rattle.manual.specs.Stands.{Stands}
use Rattle.manual.proofs.Fields.{Held, holds, bits, split, accepts, branches}

abbrev pub returns : String
returns = "SUBS PC, LR and related instructions"

returns_said : (w addr : ℕ) → said_of w addr returns ≡ names returns
returns_said w addr = unfold said_of in refl

returns_stands : (w : ℕ) → standing_of returns w ≡ departs subs_pc_lr
returns_stands w = unfold standing_of in refl

-- "setflags" chooses as bit 20 does
pub by_flags : (w plain s : ℕ) → setflags w plain s ≡ by_s w plain s
by_flags w plain s = simp bits

-- a page that reads name, flow and operands, where the decoder has them in other words
module _ (w addr : ℕ) (row : String) (name : ℕ) (flow : Flow) (ops : List Operand) where
  -- a result to Rd: 15 with bit 20 set is SUBS PC, LR and its like
  abbrev pub Alu : Type 0
  Alu =
      (said_of w addr row ≡ reading_as w addr name flow ops)
      × (page_of row w ≡ pick (both (eqb (field w 12 4) 15) (is_set w 20)) returns row)
      × (other_page_of row w ≡ row)
      × (standing_of row w ≡ follows)

  pub alu_page : (name' : ℕ) (ops' : List Operand) → name ≡ name' → ops ≡ ops' → Alu → Stands row w addr (answer w addr name' flow ops')
  alu_page name' ops' n o (said, page, other, stands) =
      split (both (eqb (field w 12 4) 15) (is_set w 20))
      (λ t. simp (page, t, returns_said, returns_stands, other, said, n, o) (refl, accepts))
      (λ t. simp (page, t, stands, said, n, o))

-- no result, or one of a shift by a register: with 15 in 15:12 it is called a branch
module _ (w addr : ℕ) (row : String) (name : ℕ) (ops : List Operand) (it : Departure) where
  abbrev pub Goes : Type 0
  Goes =
      (said_of w addr row ≡ reading_as w addr name Next ops)
      × (page_of row w ≡ row)
      × (standing_of row w ≡ pick (eqb (field w 12 4) 15) (departs it) follows)
      × (port_of w addr it row row ≡ branching (answered (said_of w addr row)))

  pub next_page : (name' : ℕ) (ops' : List Operand) → name ≡ name' → ops ≡ ops' → Goes → Stands row w addr (answer w addr name' (pc_flow w) ops')
  next_page name' ops' n o (said, page, stands, branch) =
      split (eqb (field w 12 4) 15)
      (λ r. simp (page, stands, r, said, branch, n, o) (refl, branches))
      (λ r. simp (page, stands, r, said, n, o))

-- a page without a departure
module _ (w addr : ℕ) (row : String) (name : ℕ) (flow : Flow) (ops : List Operand) where
  abbrev pub Read : Type 0
  Read = (said_of w addr row ≡ reading_as w addr name flow ops) × (page_of row w ≡ row) × (standing_of row w ≡ follows)

  pub read_page : (name' : ℕ) (ops' : List Operand) → name ≡ name' → ops ≡ ops' → Read → Stands row w addr (answer w addr name' flow ops')
  read_page name' ops' n o (said, page, stands) = simp (page, stands, said, n, o)

-- a row that is named and not read
pub named : (w addr : ℕ) (row : String) → said_of w addr row ≡ names row → page_of row w ≡ row → standing_of row w ≡ follows
    → Held row w addr (refused 3)
named w addr row said page stands = holds (simp (page, stands, said))

-- what is undefined is refused
pub undefined_held : (w addr : ℕ) → Held "UNDEFINED" w addr (refused 3)
undefined_held w addr = unfold said_of page_of standing_of in holds refl

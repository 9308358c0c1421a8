-- What rows of one kind have alike: those that are named and not read, and those that a departure refuses. Assumes nothing.
use mathlib.Core.Path.{◌≡◌, refl}
use mathlib.Core.Bool.{Bool, true, false, not}
use Prim.Native.Nat.{ℕ}
use Prim.Native.String.{String}
use Rattle.word.specs.Choice.{pick}
use Rattle.insn.specs.Answer.{accepted, refused}
use Rattle.insn.specs.Answer.{Decoded}
use Rattle.insn.specs.declared.Insn.{Insn}
use Rattle.manual.specs.A8.{said_of, page_of, reads}
use Rattle.manual.specs.Departures.{Departure, standing_of, port_of, follows, departs}
use Rattle.manual.proofs.Fields.{Held, holds, held_pick, pick_not, split, no_true, refuses}
use Rattle.manual.proofs.Pages.{named, undefined_held}

-- rows that are all named and not read stand by the table's shape
pub ruleset rows = (held_pick, named, undefined_held)

-- and after one whose test fails
pub held_skip : {w addr : ℕ} {d : Decoded} (b : Bool) (x y : String) → b ≡ false → Held y w addr d → Held (pick b x y) w addr d
held_skip true x y e h = absurd (no_true e)
held_skip false x y e h = h

pub ruleset later_rows = (held_skip, rows)

-- a page that is read, but where a test passes: there a departure refuses the word
module _ (w addr : ℕ) (row : String) (it : Departure) (test : Bool) (i : Insn) where
  abbrev pub Unless : Type 0
  Unless =
      (said_of w addr row ≡ reads (accepted i))
      × (page_of row w ≡ row)
      × (standing_of row w ≡ pick test (departs it) follows)
      × (port_of w addr it row row ≡ refused 3)

  pub read_unless : Unless → Held row w addr (pick test (refused 3) (accepted i))
  read_unless (said, page, stands, port) =
      split test
      (λ t. holds (simp (page, stands, t, said, port) (refl, refuses)))
      (λ t. holds (simp (page, stands, t, said)))

-- the same of a test that has to pass
module _ (w addr : ℕ) (row : String) (it : Departure) (test : Bool) (i : Insn) where
  abbrev pub Where : Type 0
  Where = Unless w addr row it (not test) i

  pub read_where : Where → Held row w addr (pick test (accepted i) (refused 3))
  read_where p = rw (pick_not test) at (read_unless w addr row it (not test) i p)

-- An update as it moves entries, each once: what becomes of those ahead, and what is written for the next of them.
use Rattle.std.specs.Prelude.{Option, Some, None, List, [], ◌∷◌, ℕ, eqb}
use Rattle.word.specs.Choice.{pick}
use Rattle.callers_index.specs.Entries.{is_before, insert_of}
use Rattle.callers_index.specs.declared.Entry.{Entry}
use Rattle.callers_index.specs.declared.Ahead.{Ahead}
use Rattle.callers_index.specs.declared.Ahead.TheVariants.{Kept, Call, Moved}

-- entries stay as they are, or a call goes in among them, or an entry that gave its place to the call or to the entry before it comes first
abbrev pub ahead_of : Ahead → List Entry → List Entry
ahead_of Kept l = l
ahead_of (Call e) l = insert_of e l
ahead_of (Moved e) l = e ∷ l

abbrev pub begin_of : ℕ → Option ℕ → Ahead
begin_of caller None = Kept
begin_of caller (Some target) = Call (record { target = target; caller = caller })

-- what is written where entry f is next, and how it goes on
abbrev pub first_of : Ahead → Entry → Entry
first_of Kept f = f
first_of (Call e) f = pick (is_before e f) e f
first_of (Moved e) f = e

abbrev pub rest_of : Ahead → Entry → Ahead
rest_of Kept f = Kept
rest_of (Call e) f = pick (is_before e f) (Moved f) (Call e)
rest_of (Moved e) f = Moved f

-- the same where an entry of the caller's goes
abbrev pub writes_of : ℕ → Ahead → Entry → List Entry
writes_of caller ahead f = pick (eqb f.caller caller) [] (first_of ahead f ∷ [])

abbrev pub goes_on : ℕ → Ahead → Entry → Ahead
goes_on caller ahead f = pick (eqb f.caller caller) ahead (rest_of ahead f)

-- An index of calls: "target and caller address, ordered by target and then caller" (02, P12).
use Rattle.std.specs.Prelude.{Option, Some, None, Bool, List, [], ◌∷◌, ℕ, ◌+◌, ◌*◌, eqb, ltb, length, get_or}
use Rattle.word.specs.Choice.{pick}
use Rattle.word.specs.Refusal.{NO_ROOM, TOO_MANY_CALLS, refusing}
use Rattle.text.specs.Fits.{Written, answer_of, last_of}
use Rattle.section.specs.Section.{firsts}
use Rattle.callers_index.specs.declared.Entry.{Entry}

-- an array of numbers holds an entry's target and caller one after the other; the first n entries of an array, and the numbers of entries
abbrev pub entry_at : List ℕ → ℕ → Entry
entry_at index i = record { target = get_or index (2 * i) 0; caller = get_or index (2 * i + 1) 0 }

abbrev pub entries_of : List ℕ → ℕ → List Entry
entries_of index n = firsts (entry_at index) n

abbrev pub numbers_of : List Entry → List ℕ
numbers_of [] = []
numbers_of (e ∷ l) = e.target ∷ e.caller ∷ numbers_of l

-- "ordered by target and then caller": one entry comes before another
abbrev pub is_before : Entry → Entry → Bool
is_before e f = pick (eqb e.target f.target) (ltb e.caller f.caller) (ltb e.target f.target)

-- "a call goes in before the first greater entry, else last"
abbrev pub insert_of : Entry → List Entry → List Entry
insert_of e [] = e ∷ []
insert_of e (f ∷ l) = pick (is_before e f) (e ∷ f ∷ l) (f ∷ insert_of e l)

abbrev pub enter_of : ℕ → Option ℕ → List Entry → List Entry
enter_of caller None l = l
enter_of caller (Some target) l = insert_of (record { target = target; caller = caller }) l

-- how many entries a call is
abbrev pub one_of : Option ℕ → ℕ
one_of None = 0
one_of (Some target) = 1

-- "that caller's entries go"
abbrev pub remove_of : ℕ → List Entry → List Entry
remove_of caller [] = []
remove_of caller (e ∷ l) = pick (eqb e.caller caller) (remove_of caller l) (e ∷ remove_of caller l)

-- "Any list gets the same steps: that caller's entries go, and a call goes in"
unfoldable pub update_of : ℕ → Option ℕ → List Entry → List Entry
update_of caller callee l = enter_of caller callee (remove_of caller l)

-- the callers of a target, in the list's order
abbrev pub callers_of : ℕ → List Entry → List ℕ
callers_of target [] = []
callers_of target (e ∷ l) = pick (eqb e.target target) (e.caller ∷ callers_of target l) (callers_of target l)

-- an index is lent as 2,048 numbers, "at most 1,024" entries, of which so many are in use
abbrev pub lent_refusal : List ℕ → ℕ → ℕ
lent_refusal index count = pick (ltb (length index) 2048) NO_ROOM (pick (ltb 1024 count) TOO_MANY_CALLS 0)

-- the callers of a target in a lent buffer, if there is room; a refusal changes nothing
unfoldable pub found_of : List ℕ → ℕ → ℕ → List ℕ → Written
found_of index count target out =
    pick (eqb (lent_refusal index count) 0) (answer_of (callers_of target (entries_of index count)) out)
    (refusing (lent_refusal index count))

unfoldable pub left_of : List ℕ → ℕ → ℕ → List ℕ → List ℕ
left_of index count target out =
    pick (eqb (lent_refusal index count) 0) (last_of (callers_of target (entries_of index count)) out) out

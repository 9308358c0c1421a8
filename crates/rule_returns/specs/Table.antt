-- A table of summaries, four marks for each place, and work on it.
use Rattle.std.specs.Prelude.{◌≡◌, Bool, true, false, ◌&&◌, ◌||◌, List, ℕ, ◌+◌, ◌*◌, ◌≤◌, get_or}
use Rattle.std.specs.Int.{from_bool}
use Rattle.walk_marks.specs.Marks.{Marked, how_many}
use Rattle.rule_runs.specs.Runs.{Program}
use Rattle.rule_runs.specs.Summaries.{Summary, Ever, Within, OncePast}

-- the mark of a place, the state that it is entered in, and a state that is returned in; a dirty state is 1
abbrev pub slot : ℕ → Bool → Bool → ℕ
slot p s u = 4 * p + 2 * from_bool s + from_bool u

abbrev pub Table : List Bool → Summary
Table marks p s u = Marked marks (slot p s u)

abbrev pub table_at : List Bool → ℕ → Bool → Bool → Bool
table_at marks p s u = get_or marks (slot p s u) false

-- whether t, called in state v, comes back to p in a state in which p returns in u
abbrev pub comes_back : List Bool → ℕ → Bool → ℕ → Bool → Bool
comes_back marks t v p u = (table_at marks t v false && table_at marks p false u) || (table_at marks t v true && table_at marks p true u)

-- whether the target q of p, called or gone to in state v, leads to a return in u
abbrev pub leads_to : List Bool → Bool → ℕ → Bool → ℕ → Bool → Bool
leads_to marks true q v p u = comes_back marks q v (p + 1) u
leads_to marks false q v p u = table_at marks q v u

-- work on a table: what it says holds, if it did; r says whether a mark is new; if none is, the table is as it was, and the marks of the kind A have
-- all that follows by one place
pub record Better (P : Program) (A : ℕ → Type 0) (m m' : List Bool) (r : Bool) : Type 0 where
  pub sound : Within (Table m) (Ever P) → Within (Table m') (Ever P)
  pub more : how_many m + from_bool r ≤ how_many m'
  pub still : r ≡ false → m' ≡ m
  pub closed : r ≡ false → (p : ℕ) (s u : Bool) → A (slot p s u) → OncePast P (Table m') p s u → Table m' p s u

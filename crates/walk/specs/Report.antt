-- The report of a walk: records of three numbers, a place, a kind and a value, "in order of place", then of kind (02, P7).
use Rattle.std.specs.Prelude.{Bool, true, false, List, [], ◌∷◌, ◌++◌, ℕ, zero, suc, get_or, is_some}
use Rattle.word.specs.Choice.{pick}
use Rattle.section.specs.Section.{opening_of}
use Rattle.section.specs.declared.Opened.{Opened}
use Rattle.walk_steps.specs.Leads.{target_addr, enters_thumb, stop_number, leads_at}
use Rattle.walk_steps.specs.Steps.{runs_off, leaves}
use Rattle.walk_steps.specs.declared.Leads.{Leads}

-- a record, if it is there, and how many numbers that are
abbrev pub three_of : Bool → ℕ → ℕ → ℕ → List ℕ
three_of there place kind value = pick there (place ∷ kind ∷ value ∷ []) []

abbrev pub three : Bool → ℕ
three there = pick there 3 0

-- 0, "every word reached", with the word; 1, "a direct target outside the section"; 2, a target that "enters Thumb"
unfoldable pub ways_in : Opened → ℕ → Leads → List ℕ
ways_in o p l = three_of true p 0 l.word ++ three_of (leaves o l) p 1 (target_addr l.to) ++ three_of (enters_thumb l.to) p 2 (target_addr l.to)

-- 3, "Indirect branches and calls are listed as unknown"; 4, "running off its end"; 5, "Refused and data words stop", with the refusal's number
unfoldable pub ways_out : Opened → ℕ → Leads → List ℕ
ways_out o p l = three_of l.unknown p 3 0 ++ three_of (runs_off o p l) p 4 0 ++ three_of (is_some l.stop) p 5 (stop_number l.stop)

-- the records of a place that is reached
unfoldable pub records_from : Opened → ℕ → Leads → List ℕ
records_from o p l = ways_in o p l ++ ways_out o p l

-- of a place of a section, if it is marked
unfoldable pub records_here : List ℕ → List Bool → ℕ → List ℕ
records_here s m p = pick (get_or m p false) (records_from (opening_of s) p (leads_at s p)) []

-- of the places before n
abbrev pub records_before : List ℕ → List Bool → ℕ → List ℕ
records_before s m zero = []
records_before s m (suc p) = records_before s m p ++ records_here s m p

-- of all places
unfoldable pub report_of : List ℕ → List Bool → List ℕ
report_of s m = records_before s m (opening_of s).count

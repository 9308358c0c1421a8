-- The places that a place leads to, and the ways out of the section (02, P7).
use Rattle.std.specs.Prelude.{Bool, not, List, [], ◌∷◌, ◌++◌, ℕ, ◌+◌, ◌-◌, ◌/◌, leb, ltb, Option, Some, None, is_some}
use Rattle.word.specs.Choice.{pick, both}
use Rattle.section.specs.Section.{opening_of}
use Rattle.section.specs.declared.Opened.{Opened}
use Rattle.walk_steps.specs.Leads.{target_addr, enters_thumb, leads_at}
use Rattle.walk_steps.specs.declared.Leads.{Leads}

-- the place of an address, and whether the section has it: its places are `base`, and so on by 4, as many as there are words
abbrev pub place_of : Opened → ℕ → ℕ
place_of o addr = (addr - o.base) / 4

abbrev pub is_inside : Opened → ℕ → Bool
is_inside o addr = both (leb o.base addr) (ltb (place_of o addr) o.count)

-- going on leads to the next place, or runs off the section's end; a section that ends at 2^32 does not go on at 0
abbrev pub steps_on : Opened → ℕ → Leads → Bool
steps_on o p l = both l.on (ltb (p + 1) o.count)

abbrev pub runs_off : Opened → ℕ → Leads → Bool
runs_off o p l = both l.on (not (ltb (p + 1) o.count))

-- a target is followed if it is in the section and does not enter Thumb, and is a way out if it is outside
abbrev pub steps_to : Opened → Leads → Bool
steps_to o l = both (is_some l.to) (both (not (enters_thumb l.to)) (is_inside o (target_addr l.to)))

abbrev pub leaves : Opened → Leads → Bool
leaves o l = both (is_some l.to) (not (is_inside o (target_addr l.to)))

-- the places that these lead to
abbrev pub next_place : Opened → ℕ → Leads → Option ℕ
next_place o p l = pick (steps_on o p l) (Some (p + 1)) None

abbrev pub target_place : Opened → Leads → Option ℕ
target_place o l = pick (steps_to o l) (Some (place_of o (target_addr l.to))) None

-- a place, or none
abbrev pub listed : Option ℕ → List ℕ
listed (Some q) = q ∷ []
listed None = []

abbrev pub steps_from : Opened → ℕ → Leads → List ℕ
steps_from o p l = listed (next_place o p l) ++ listed (target_place o l)

-- the places that place p of a section leads to
unfoldable pub steps_of : List ℕ → ℕ → List ℕ
steps_of s p = steps_from (opening_of s) p (leads_at s p)

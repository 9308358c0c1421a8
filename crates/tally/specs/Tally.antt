-- A tally: counts over the sections of a release (02, P10).
use Rattle.std.specs.Prelude.{ℕ, ◌+◌, ◌%◌, ◌^◌, Bool, List, [], ◌∷◌, ◌++◌, map, length, take, drop, ◌==◌, nat_lt, slice_index, Result, Ok, Err}
use mathlib.Core.List.{foldl}
use Rattle.word.specs.Choice.{pick, both}
use Rattle.word.specs.Refusal.{NO_ROOM, TOO_MANY_SECTIONS, refused_with, refusing}
use Rattle.insn.specs.Roots.{NAMES}
use Rattle.section.specs.Section.{opened_of, places_of}
use Rattle.section.specs.declared.Here.{Here}
use Rattle.section.specs.declared.Here.TheVariants.{End}
use Rattle.tally.specs.Kinds.{Kind, layout, COUNTS, is_of, one}
use Rattle.tally.specs.declared.Tally.{Tally}
use Rattle.word.specs.declared.refusal.Refusal.{Refusal}

-- how many of what stands at places pass a test
abbrev pub how_many : (Here → Bool) → List Here → ℕ
how_many test [] = 0
how_many test (here ∷ places) = one (test here) + how_many test places

-- what stands at the places of sections, one section after the other, each with its end
abbrev pub all_of : List (List ℕ) → List Here
all_of [] = []
all_of (s ∷ ss) = places_of s ++ End ∷ all_of ss

-- "Each count equals the number of such words in the sections added so far"
abbrev pub count_of : List (List ℕ) → Kind → ℕ
count_of ss kind = how_many (is_of kind) (all_of ss)

unfoldable pub counts_of : List (List ℕ) → List ℕ
counts_of ss = map (count_of ss) layout

-- counts taken together, and those of the flows and of the roots, where the layout has them
abbrev pub sum : List ℕ → ℕ
sum [] = 0
sum (count ∷ counts) = count + sum counts

abbrev pub flows_of : List ℕ → List ℕ
flows_of counts = take 8 (drop 5 counts)

abbrev pub roots_of : List ℕ → List ℕ
roots_of counts = take NAMES (drop 13 counts)

-- before any section is added: zeros
abbrev pub none_of : Tally
none_of = record { counts = map (λ kind. 0) layout }

-- a section's own refusal, or 0 if it is accepted
abbrev pub own_of : List ℕ → ℕ
own_of s = refused_with (opened_of s)

-- "16 on adding section 65,537, tested after the section's own", with so many sections before; 0 if there is none
abbrev pub MOST : ℕ
MOST = 65536

abbrev pub refusal_of : ℕ → ℕ → ℕ
refusal_of own before = pick (own == 0) (pick (nat_lt before MOST) 0 TOO_MANY_SECTIONS) own

-- to each count its kind's number is added, modulo 2^64; what stands behind the counts stays
abbrev pub plus_on : List Kind → (Kind → ℕ) → List ℕ → List ℕ
plus_on [] number counts = counts
plus_on (kind ∷ kinds) number [] = []
plus_on (kind ∷ kinds) number (count ∷ counts) = (count + number kind) % 2 ^ 64 ∷ plus_on kinds number counts

unfoldable pub plus : (Kind → ℕ) → List ℕ → List ℕ
plus number counts = plus_on layout number counts

-- a section is added to all counts; "A refused section leaves the tally unchanged"
abbrev pub last_of : ℕ → List ℕ → List ℕ → List ℕ
last_of n s counts = pick (n == 0) (plus (count_of (s ∷ [])) counts) counts

unfoldable pub add_of : Tally → List ℕ → Result Tally Refusal
add_of t s =
    pick (refusal_of (own_of s) (slice_index t.counts 0) == 0)
    (Ok (record { counts = plus (count_of (s ∷ [])) t.counts }))
    (refusing (refusal_of (own_of s) (slice_index t.counts 0)))

-- the same over lent numbers: after the section's own refusals, and before anything is read of them, 10 if they are too few for a tally
unfoldable pub lent_refusal : ℕ → List ℕ → ℕ
lent_refusal own counts = pick (both (own == 0) (nat_lt (length counts) COUNTS)) NO_ROOM (refusal_of own (slice_index counts 0))

abbrev pub lent_last : List ℕ → List ℕ → List ℕ
lent_last s counts = last_of (lent_refusal (own_of s) counts) s counts

-- sections added one by one: a refusal leaves the tally that was there
abbrev pub left_by : Tally → Result Tally Refusal → Tally
left_by t (Ok t') = t'
left_by t (Err r) = t

abbrev pub next : Tally → List ℕ → Tally
next t s = left_by t (add_of t s)

abbrev pub add_all : Tally → List (List ℕ) → Tally
add_all t ss = foldl next t ss

-- those of them that are added: the accepted ones, 65,536 at most
abbrev pub accepted_of : List (List ℕ) → List (List ℕ)
accepted_of [] = []
accepted_of (s ∷ ss) = pick (own_of s == 0) (s ∷ accepted_of ss) (accepted_of ss)

abbrev pub added_of : List (List ℕ) → List (List ℕ)
added_of ss = take MOST (accepted_of ss)

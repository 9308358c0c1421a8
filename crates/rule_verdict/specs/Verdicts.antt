-- What `judge` says of a program in numbers, and what it leaves in what it is lent.
use Rattle.std.specs.Prelude.{◌≡◌, Bool, true, List, ℕ, suc, ◌+◌, ◌*◌, ◌/◌, ◌≤◌, ◌<◌, length, get_or, drop, Result, Ok, Err}
use Rattle.word.specs.Refusal.{TOO_MANY_WORDS, NO_PLACE, NO_ROOM, refusing}
use Rattle.word.specs.declared.refusal.Refusal.{Refusal}
use Rattle.rule_runs.specs.Runs.{Program, Run, Broken, Opened}
use Rattle.rule_runs.specs.Summaries.{Summary, Flow, Ever}
use Rattle.rule_places.specs.Coded.{Inside, program_of}
use Rattle.rule_verdict.specs.declared.Verdict.{Verdict}
use Rattle.rule_verdict.specs.declared.Verdict.TheVariants as V

-- f 0 to f k are the places of a way from an entry, "each a step of the final walk, a call that came back being one step", and it arrives in a state
pub data Along (P : Program) (S : Summary) (f : ℕ → ℕ) : ℕ → Bool → Type 0 where
  starts : P.entry (f 0) → Along P S f 0 true
  goes : {k : ℕ} {s u : Bool} → Along P S f k s → Flow P S (f k) s (f (suc k)) u → Along P S f (suc k) u

-- such a way to a commit, dirty
abbrev pub Breaks : Program → (ℕ → ℕ) → ℕ → Type 0
Breaks P f k = Along P (Ever P) f k true × (P.commits (f k) ≡ true)

-- "violated: a way from an entry to the commit, written to a lent list, proved to be one, and shortest": so many places stand at the start of the
-- list, and behind them nothing is changed
pub record Violated (P : Program) (way last : List ℕ) (places : ℕ) : Type 0 where
  pub steps : ℕ
  pub many : places ≡ steps + 1
  pub fits : places ≤ length last
  pub breaks : Breaks P (λ i. get_or last i 0) steps
  pub shortest : (f : ℕ → ℕ) (j : ℕ) → Breaks P f j → steps ≤ j
  pub rest : (i : ℕ) → places ≤ i → get_or last i 0 ≡ get_or way i 0

-- "undecided: the first open place reached"
pub record Undecided (P : Program) (q : ℕ) : Type 0 where
  pub unbroken : Broken P → ⊥
  pub opens : P.opens q ≡ true
  pub reached : (s : Bool) × (st : List ℕ) × Run P q s st
  pub first : (x : ℕ) → x < q → P.opens x ≡ true → (s : Bool) (st : List ℕ) → Run P x s st → ⊥

pub record Holds (P : Program) : Type 0 where
  pub unbroken : Broken P → ⊥
  pub closed : Opened P → ⊥

-- the numbers of the verdicts
abbrev pub HOLDS : ℕ
HOLDS = 0

abbrev pub VIOLATED : ℕ
VIOLATED = 1

abbrev pub UNDECIDED : ℕ
UNDECIDED = 2

abbrev pub number : Verdict → ℕ
number V.Holds = HOLDS
number (V.Violated n) = VIOLATED
number (V.Undecided q) = UNDECIDED

-- what is given with one: the number of the places of the way, or the first open place
abbrev pub value : Verdict → ℕ
value V.Holds = 0
value (V.Violated n) = n
value (V.Undecided q) = q

-- the same of an answer, where a refusal has neither
abbrev pub verdict_of : Result Verdict Refusal → ℕ
verdict_of (Ok v) = number v
verdict_of (Err e) = 0

abbrev pub value_of : Result Verdict Refusal → ℕ
value_of (Ok v) = value v
value_of (Err e) = 0

-- what a verdict says: a way is written, or nothing is
pub data Answers (P : Program) (way last : List ℕ) : Verdict → Type 0 where
  by_way : {places : ℕ} → Violated P way last places → Answers P way last (V.Violated places)
  by_place : {q : ℕ} → Undecided P q → last ≡ way → Answers P way last (V.Undecided q)
  by_none : Holds P → last ≡ way → Answers P way last V.Holds

-- what always suffices: four marks in the table for each place, so a number for eight of them, and two numbers for each place and two
pub record Room (flags known dist from way : List ℕ) : Type 0 where
  pub known_room : (length flags + 7) / 8 ≤ length known
  pub dist_room : 2 * length flags + 2 ≤ length dist
  pub from_room : 2 * length flags + 2 ≤ length from
  pub way_room : 2 * length flags + 2 ≤ length way

-- a refusal is its number alone, and changes nothing
abbrev pub Refuses : ℕ → List ℕ → List ℕ → List ℕ → List ℕ → List ℕ → List ℕ → List ℕ → List ℕ → Result Verdict Refusal → Type 0
Refuses n known dist from way known' dist' from' way' r =
    (r ≡ refusing n) × (known' ≡ known) × (dist' ≡ dist) × (from' ≡ from) × (way' ≡ way)

-- nothing is changed behind the room that suffices; in it anything may stand
pub record Behind (flags known dist from known' dist' from' : List ℕ) : Type 0 where
  pub known_rest : drop ((length flags + 7) / 8) known' ≡ drop ((length flags + 7) / 8) known
  pub dist_rest : drop (2 * length flags + 2) dist' ≡ drop (2 * length flags + 2) dist
  pub from_rest : drop (2 * length flags + 2) from' ≡ drop (2 * length flags + 2) from

-- THE CONTRACT: "13 for a place outside, then 10 where a lent slice is too short, with nothing changed"; before both, 8 for more than 4,096 places.
-- Else the rule is judged, and a way fits into what always suffices
pub record Rules (flags targets further entries known dist from way known' dist' from' way' : List ℕ) (r : Result Verdict Refusal) : Type 0 where
  pub many : 4096 < length flags → Refuses TOO_MANY_WORDS known dist from way known' dist' from' way' r
  pub outside : length flags ≤ 4096 → (Inside flags targets further entries → ⊥) → Refuses NO_PLACE known dist from way known' dist' from' way' r
  pub short : length flags ≤ 4096 → Inside flags targets further entries → (Room flags known dist from way → ⊥)
      → Refuses NO_ROOM known dist from way known' dist' from' way' r
  pub judged : length flags ≤ 4096 → Inside flags targets further entries → Room flags known dist from way
      → (v : Verdict) × (r ≡ Ok v) × (value v ≤ 2 * length flags + 2) × Answers (program_of flags targets further entries) way way' v
      × Behind flags known dist from known' dist' from'

-- A program in numbers: flags for each place, a target for each place, further targets as pairs of places, and entries.
use Rattle.std.specs.Prelude.{◌≡◌, Bool, true, false, List, ◌⊎◌, ℕ, ◌+◌, ◌*◌, ◌/◌, ◌%◌, ◌<◌, eqb, length, get_or}
use Rattle.rule_runs.specs.Runs.{Program}
use Rattle.rule_places.specs.declared.Coded.{Coded}

-- a flag is a bit of the number, given by its weight
abbrev pub has : ℕ → ℕ → Bool
has w b = eqb (w / b % 2) 1

-- it may leave clean or dirty what it finds clean (1, 2), and what it finds dirty (4, 8)
abbrev pub effect : Bool → Bool → ℕ
effect false false = 1
effect false true = 2
effect true false = 4
effect true true = 8

-- it goes on to the next place; its target counts; its further targets count; they are called, and not gone to; it returns; it commits; it is open
abbrev pub NEXT : ℕ
NEXT = 16

abbrev pub TARGET : ℕ
TARGET = 32

abbrev pub FURTHER : ℕ
FURTHER = 64

abbrev pub CALLS : ℕ
CALLS = 128

abbrev pub RETURNS : ℕ
RETURNS = 256

abbrev pub COMMITS : ℕ
COMMITS = 512

abbrev pub OPENS : ℕ
OPENS = 1024

-- the flags of a place; behind the last one nothing is done
abbrev pub flags_at : List ℕ → ℕ → ℕ
flags_at flags p = get_or flags p 0

-- the target of a place; where none is given it is outside
abbrev pub target_at : List ℕ → List ℕ → ℕ → ℕ
target_at flags targets p = get_or targets p (length flags)

-- p and q are a pair
abbrev pub Pair : List ℕ → ℕ → ℕ → Type 0
Pair further p q = (i : ℕ) × (i < length further / 2) × (get_or further (2 * i) 0 ≡ p) × (get_or further (2 * i + 1) 0 ≡ q)

-- q is a target of p
abbrev pub Target : List ℕ → List ℕ → List ℕ → ℕ → ℕ → Type 0
Target flags targets further p q =
    ((has (flags_at flags p) TARGET ≡ true) × (q ≡ target_at flags targets p)) ⊎ ((has (flags_at flags p) FURTHER ≡ true) × Pair further p q)

abbrev pub Goes : List ℕ → List ℕ → List ℕ → ℕ → ℕ → Type 0
Goes flags targets further p q =
    ((has (flags_at flags p) NEXT ≡ true) × (q ≡ p + 1)) ⊎ ((has (flags_at flags p) CALLS ≡ false) × Target flags targets further p q)

abbrev pub Calls : List ℕ → List ℕ → List ℕ → ℕ → ℕ → Type 0
Calls flags targets further p q = (has (flags_at flags p) CALLS ≡ true) × Target flags targets further p q

abbrev pub Entry : List ℕ → ℕ → Type 0
Entry entries e = (i : ℕ) × (i < length entries) × (get_or entries i 0 ≡ e)

abbrev pub program_of : List ℕ → List ℕ → List ℕ → List ℕ → Program
program_of flags targets further entries = record {
  leaves = λ p s u. has (flags_at flags p) (effect s u);
  goes = Goes flags targets further;
  calls = Calls flags targets further;
  behind = λ p. p + 1;
  returns = λ p. has (flags_at flags p) RETURNS;
  commits = λ p. has (flags_at flags p) COMMITS;
  opens = λ p. has (flags_at flags p) OPENS;
  entry = Entry entries;
}

-- the program in such numbers, with these entries
abbrev pub coded : Coded → List ℕ → Program
coded c entries = program_of c.flags.now c.targets.now c.further.now entries

-- all numbers of a list are places
abbrev pub Below : List ℕ → ℕ → Type 0
Below l n = (i : ℕ) → i < length l → get_or l i 0 < n

-- no entry, no target that counts, and no place of a pair is outside
pub record Inside (flags targets further entries : List ℕ) : Type 0 where
  pub aimed : (p : ℕ) → has (flags_at flags p) TARGET ≡ true → target_at flags targets p < length flags
  pub paired : Below further (length flags)
  pub entered : Below entries (length flags)

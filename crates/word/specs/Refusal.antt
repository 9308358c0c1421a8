-- 01, "Refusal numbers", and 02: what each is given for; 0 is none.
use Rattle.std.proofs.Math.Path.{subst}
use Rattle.std.specs.Prelude.{◌≡◌, refl, T, ltb, List, [], ◌∷◌, ℕ, ◌-◌, get_or, Result, Ok, Err}
use Rattle.word.specs.declared.refusal.Refusal.{Refusal}
use Rattle.word.specs.declared.refusal.Refusal.TheVariants.{Short, Coprocessor, NoRow, NoWord, BadMark, BadVersion, BadLength, TooManyWords, BadBase, NoRoom, BadRanges, HasRanges, NoPlace, NoRun, TooManyCalls, TooManySections}

-- "decoding bytes, fewer than 4"
abbrev pub SHORT : ℕ
SHORT = 1

-- 02, P9: "condition below 15, 27:26 = 11 and 11:8 of 10 or 11"
abbrev pub COPROCESSOR : ℕ
COPROCESSOR = 2

-- "any other word no row below accepts"
abbrev pub NO_ROW : ℕ
NO_ROW = 3

-- "encoding, no word in demand 2's range has this answer"
abbrev pub NO_WORD : ℕ
NO_WORD = 4

-- "section mark not `RSX`"
abbrev pub BAD_MARK : ℕ
BAD_MARK = 5

-- "6 now means neither 1 nor 2"
abbrev pub BAD_VERSION : ℕ
BAD_VERSION = 6

-- "section shorter than 9 bytes, or its words not a multiple of 4 bytes"; "also when the count or a range is cut short"
abbrev pub BAD_LENGTH : ℕ
BAD_LENGTH = 7

-- "more than 4,096 words"
abbrev pub TOO_MANY_WORDS : ℕ
TOO_MANY_WORDS = 8

-- "base not a multiple of 4, or base + 4 x words above 2^32"
abbrev pub BAD_BASE : ℕ
BAD_BASE = 9

-- "line longer than the lent buffer"; "when the converted section doesn't fit the lent buffer"; "when the report doesn't fit its lent buffer"
abbrev pub NO_ROOM : ℕ
NO_ROOM = 10

-- "when the range list breaks a rule above"
abbrev pub BAD_RANGES : ℕ
BAD_RANGES = 11

-- "converting back with ranges"
abbrev pub HAS_RANGES : ℕ
HAS_RANGES = 12

-- "entry not a place in the section"
abbrev pub NO_PLACE : ℕ
NO_PLACE = 13

-- "when the run is empty, or no single one of patch and unhidden section holds all of it"
abbrev pub NO_RUN : ℕ
NO_RUN = 14

-- "when an index built or updated would hold more than 1,024"
abbrev pub TOO_MANY_CALLS : ℕ
TOO_MANY_CALLS = 15

-- "on adding section 65,537"
abbrev pub TOO_MANY_SECTIONS : ℕ
TOO_MANY_SECTIONS = 16

-- the number of a refusal
abbrev pub number : Refusal → ℕ
number Short = SHORT
number Coprocessor = COPROCESSOR
number NoRow = NO_ROW
number NoWord = NO_WORD
number BadMark = BAD_MARK
number BadVersion = BAD_VERSION
number BadLength = BAD_LENGTH
number TooManyWords = TOO_MANY_WORDS
number BadBase = BAD_BASE
number NoRoom = NO_ROOM
number BadRanges = BAD_RANGES
number HasRanges = HAS_RANGES
number NoPlace = NO_PLACE
number NoRun = NO_RUN
number TooManyCalls = TOO_MANY_CALLS
number TooManySections = TOO_MANY_SECTIONS

-- the refusals by their numbers, from 1 on
abbrev pub refusals : List Refusal
refusals =
    Short ∷ Coprocessor ∷ NoRow ∷ NoWord ∷ BadMark ∷ BadVersion ∷ BadLength ∷ TooManyWords ∷ BadBase ∷ NoRoom ∷ BadRanges ∷ HasRanges ∷ NoPlace ∷
    NoRun ∷ TooManyCalls ∷ TooManySections ∷ []

abbrev pub numbered : ℕ → Refusal
numbered n = get_or refusals (n - 1) TooManySections

-- the number of a refusal, or 0 where there is an answer
abbrev pub refused_with : {A : Type 0} → Result A Refusal → ℕ
refused_with (Ok x) = 0
refused_with (Err r) = number r

-- refused, with a number of the table
abbrev pub refusing : {A : Type 0} → ℕ → Result A Refusal
refusing n = Err (numbered n)

-- a refusal is that of its number
pub numbered_number : (r : Refusal) → numbered (number r) ≡ r
numbered_number Short = refl
numbered_number Coprocessor = refl
numbered_number NoRow = refl
numbered_number NoWord = refl
numbered_number BadMark = refl
numbered_number BadVersion = refl
numbered_number BadLength = refl
numbered_number TooManyWords = refl
numbered_number BadBase = refl
numbered_number NoRoom = refl
numbered_number BadRanges = refl
numbered_number HasRanges = refl
numbered_number NoPlace = refl
numbered_number NoRun = refl
numbered_number TooManyCalls = refl
numbered_number TooManySections = refl

-- no refusal has the number 0
some_number : (r : Refusal) → T (ltb 0 (number r))
some_number Short = tt
some_number Coprocessor = tt
some_number NoRow = tt
some_number NoWord = tt
some_number BadMark = tt
some_number BadVersion = tt
some_number BadLength = tt
some_number TooManyWords = tt
some_number BadBase = tt
some_number NoRoom = tt
some_number BadRanges = tt
some_number HasRanges = tt
some_number NoPlace = tt
some_number NoRun = tt
some_number TooManyCalls = tt
some_number TooManySections = tt

pub not_refused : {A : Type 0} (r : Refusal) → number r ≡ 0 → A
not_refused r none = absurd (subst (λ n. T (ltb 0 n)) none (some_number r))

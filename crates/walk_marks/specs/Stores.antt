-- "Each set and each question answers as the byte marks did, step by step" (02, P13): the store that P7 had, a byte for each place, the store by the
-- bit, and the one relation between the two.
use Rattle.std.specs.Prelude.{◌≡◌, Bool, true, false, not, List, [], ◌∷◌, ◌++◌, ℕ, ◌-◌, ◌<◌, eqb, length, get_or, set, replicate}
use Rattle.walk_marks.specs.Marks.{marks_of}

-- a place is marked, its mark is taken away, or it is asked for
pub data Act : Type 0 where
  mark unmark ask : ℕ → Act

-- the places of some acts are below n
abbrev pub Within : ℕ → List Act → Type 0
Within n [] = Unit {0}
Within n (mark p ∷ l) = (p < n) × Within n l
Within n (unmark p ∷ l) = (p < n) × Within n l
Within n (ask p ∷ l) = (p < n) × Within n l

-- by the byte, 0 is no mark: what is answered to the questions among some acts, and the bytes that they leave
abbrev pub byte_answers : List ℕ → List Act → List Bool
byte_answers b [] = []
byte_answers b (mark p ∷ l) = byte_answers (set b p 1) l
byte_answers b (unmark p ∷ l) = byte_answers (set b p 0) l
byte_answers b (ask p ∷ l) = not (eqb (get_or b p 0) 0) ∷ byte_answers b l

abbrev pub bytes_after : List ℕ → List Act → List ℕ
bytes_after b [] = b
bytes_after b (mark p ∷ l) = bytes_after (set b p 1) l
bytes_after b (unmark p ∷ l) = bytes_after (set b p 0) l
bytes_after b (ask p ∷ l) = bytes_after b l

-- by the bit: numbers go through some acts, with these answers, as the contracts of `set`, `unset` and `get` have it
pub data Ran : List ℕ → List Act → List Bool → List ℕ → Type 0 where
  ended : {ws : List ℕ} → Ran ws [] [] ws
  marked : {ws ws' last : List ℕ} {p : ℕ} {l : List Act} {answers : List Bool}
      → marks_of ws' ≡ set (marks_of ws) p true → Ran ws' l answers last → Ran ws (mark p ∷ l) answers last
  unmarked : {ws ws' last : List ℕ} {p : ℕ} {l : List Act} {answers : List Bool}
      → marks_of ws' ≡ set (marks_of ws) p false → Ran ws' l answers last → Ran ws (unmark p ∷ l) answers last
  asked : {ws last : List ℕ} {p : ℕ} {r : Bool} {l : List Act} {answers : List Bool}
      → r ≡ get_or (marks_of ws) p false → Ran ws l answers last → Ran ws (ask p ∷ l) (r ∷ answers) last

-- the marks that a list of bytes keeps
abbrev pub byte_marks : List ℕ → List Bool
byte_marks [] = []
byte_marks (x ∷ b) = not (eqb x 0) ∷ byte_marks b

-- the relation: the numbers keep the marks of the bytes, one for each of their places, and no bit behind those is set
pub record Alike (b ws : List ℕ) : Type 0 where
  pub marks : marks_of ws ≡ byte_marks b ++ replicate (length (marks_of ws) - length b) false

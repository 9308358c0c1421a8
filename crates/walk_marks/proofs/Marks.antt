-- The marks of a list of numbers, read and set through the number that keeps them. Assumes nothing.
use mathlib.Core.Path.{◌≡◌, refl, sym, ap, ◌∙◌}
use mathlib.Core.Bool.{Bool, false}
use mathlib.Core.List.{List, [], ◌∷◌, ◌++◌}
use Prim.Native.Nat.{ℕ, zero, suc, ◌+◌, ◌*◌, ◌/◌, ◌%◌, ◌≤◌, ◌<◌}
use native.Mathlib.Omega.{arith}
use lib.ListN.{length, get_or, set, replicate, length-append, get_or-append, replicate-append-replicate}
use lib.Seq.{get_or-append-add, set-append_left}
use Rattle.walk_marks.specs.Marks.{bits_of, marks_of}
use Rattle.walk_marks.proofs.Bits.{length_bits}
use Rattle.walk_marks.proofs.Marking.{unmarked}

-- there are 32 to a number
pub length_marks : (ws : List ℕ) → length (marks_of ws) ≡ 32 * length ws
unfolding marks_of
length_marks [] = refl
length_marks (w ∷ ws) = length-append (bits_of 32 w) (marks_of ws) ∙ omega (arith, length_bits 32 w, length_marks ws)

set_append_right : (xs ys : List Bool) (i : ℕ) (b : Bool) → set (xs ++ ys) (length xs + i) b ≡ xs ++ set ys i b
set_append_right [] ys i b = let none : 0 + i ≡ i = omega arith in rw none
set_append_right (x ∷ xs) ys i b =
    let one : suc (length xs) + i ≡ suc (length xs + i) = omega arith in
    rw one (ap (λ (l : List Bool). x ∷ l) (set_append_right xs ys i b))

-- the place of mark j of number a + 1 is that of number a, behind the first number's 32
behind : (w a j : ℕ) → 32 * suc a + j ≡ length (bits_of 32 w) + (32 * a + j)
behind w a j = omega (arith, length_bits 32 w)

first : (j : ℕ) → 32 * 0 + j ≡ j
first j = omega arith

mark_at : (ws : List ℕ) (a j : ℕ) → a < length ws → j < 32 → get_or (marks_of ws) (32 * a + j) false ≡ get_or (bits_of 32 (get_or ws a 0)) j false
unfolding marks_of
mark_at [] a j h k = absurd (let z : ⊥ = omega arith in z)
mark_at (w ∷ ws) zero j h k = rw (first j) (get_or-append (bits_of 32 w) (marks_of ws) false j (omega (arith, length_bits 32 w)))
mark_at (w ∷ ws) (suc a) j h k =
    rw (behind w a j) (get_or-append-add (bits_of 32 w) (marks_of ws) (32 * a + j) false ∙ mark_at ws a j (omega arith) k)

-- number a with its bit j changed changes mark j of number a, and no other
mark_set : (ws : List ℕ) (a j v : ℕ) (b : Bool) → a < length ws → j < 32 → bits_of 32 v ≡ set (bits_of 32 (get_or ws a 0)) j b
    → marks_of (set ws a v) ≡ set (marks_of ws) (32 * a + j) b
unfolding marks_of
mark_set [] a j v b h k e = absurd (let z : ⊥ = omega arith in z)
mark_set (w ∷ ws) zero j v b h k e =
    rw (first j, e) (sym (set-append_left (bits_of 32 w) (marks_of ws) j b (omega (arith, length_bits 32 w))))
mark_set (w ∷ ws) (suc a) j v b h k e =
    rw (behind w a j, set_append_right (bits_of 32 w) (marks_of ws) (32 * a + j) b, mark_set ws a j v b (omega arith) k e)

-- the same by the place alone
split : (p : ℕ) → 32 * (p / 32) + p % 32 ≡ p
split p = omega arith

pub marked : (ws : List ℕ) (p : ℕ) → p < 32 * length ws
    → get_or (bits_of 32 (get_or ws (p / 32) 0)) (p % 32) false ≡ get_or (marks_of ws) p false
marked ws p h = rw (split p) at (sym (mark_at ws (p / 32) (p % 32) (omega arith) (omega arith)))

pub marking : (ws : List ℕ) (p v : ℕ) (b : Bool) → p < 32 * length ws → bits_of 32 v ≡ set (bits_of 32 (get_or ws (p / 32) 0)) (p % 32) b
    → marks_of (set ws (p / 32) v) ≡ set (marks_of ws) p b
marking ws p v b h e = rw (split p) at (mark_set ws (p / 32) (p % 32) v b (omega arith) (omega arith) e)

-- zeros keep no mark
zero_bits : (k : ℕ) → bits_of k 0 ≡ replicate k false
unfolding bits_of
zero_bits zero = refl
zero_bits (suc k) = ap (λ (l : List Bool). false ∷ l) (zero_bits k)

pub no_marks : (k : ℕ) → marks_of (replicate k 0) ≡ replicate (32 * k) false
unfolding marks_of
no_marks zero = refl
no_marks (suc k) =
    let more : 32 * suc k ≡ 32 + 32 * k = omega arith in
    rw (more, no_marks k, zero_bits 32) (replicate-append-replicate 32 (32 * k) false)

-- nor does a number that is zero, of all the places that it has
pub none_of : (ws : List ℕ) (p q : ℕ) → p < 32 * length ws → get_or ws (p / 32) 0 ≡ 0 → p ≤ q → q < (p / 32 + 1) * 32
    → get_or (marks_of ws) q false ≡ false
none_of ws p q h e l m =
    let here : p / 32 ≡ q / 32 = omega arith in
    sym (marked ws q (omega arith)) ∙ ap (λ (w : ℕ). get_or (bits_of 32 w) (q % 32) false) (rw here at e)
    ∙ ap (λ (m : List Bool). get_or m (q % 32) false) (zero_bits 32) ∙ unmarked 32 (q % 32)

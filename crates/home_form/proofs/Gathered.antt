-- The laws of what is gathered place by place, and of the numbers that hold changes. Assumes nothing.
use mathlib.Core.Path.{◌≡◌, refl, ap, ◌∙◌}
use mathlib.Core.List.{List, [], ◌∷◌, ◌++◌}
use Prim.Native.Nat.{ℕ, zero, suc, ◌+◌, ◌*◌, ◌<◌, ◌≤◌}
use native.Mathlib.Omega.{arith}
use lib.Dec.{eqb}
use lib.ListN.{length, length-append}
use Rattle.word.specs.Choice.{tested}
use Rattle.section.specs.Section.{here_of}
use Rattle.section.specs.declared.Here.{Here}
use Rattle.home_form.specs.Home.{gathered, bytes_at}
use Rattle.home_form.specs.Changes.{change_at, listed, changes_at, numbers_of, is_unindexed, unindexed_among}
use Rattle.home_form.specs.declared.Change.{Change}

-- more places give no less
pub no_less : {A : Type 0} (at : ℕ → List A) (n k : ℕ) → length (gathered at n) ≤ length (gathered at (n + k))
no_less at n zero = let same : n + 0 ≡ n = omega arith in rw same (omega arith)
no_less at n (suc k) =
    let on : n + suc k ≡ suc (n + k) = omega arith in
    rw on (omega (arith, no_less at n k, length-append (gathered at (n + k)) (at (n + k))))

pub same_gathered : {A : Type 0} (f g : ℕ → List A) (n : ℕ) → ((i : ℕ) → i < n → f i ≡ g i) → gathered f n ≡ gathered g n
same_gathered f g zero same = refl
same_gathered f g (suc n) same =
    let before = same_gathered f g n (λ i h. same i (omega arith)) in
    let last = same n (omega arith) in
    cc

-- a word is four bytes, and a change three numbers
pub four_each : (s : List ℕ) (n : ℕ) → length (gathered (bytes_at s) n) ≡ 4 * n
four_each s zero = refl
four_each s (suc n) = omega (arith, length-append (gathered (bytes_at s) n) (bytes_at s n), four_each s n)

pub numbers_append : (l m : List Change) → numbers_of (l ++ m) ≡ numbers_of l ++ numbers_of m
numbers_append [] m = refl
numbers_append (c ∷ l) m = ap (λ (xs : List ℕ). c.place ∷ c.old ∷ c.new ∷ xs) (numbers_append l m)

pub three_each : (l : List Change) → length (numbers_of l) ≡ 3 * length l
three_each [] = refl
three_each (c ∷ l) = omega (arith, three_each l)

-- the unindexed among the changes of two lists, and of one place: no more than there are
pub unindexed_append : (l m : List Change) → unindexed_among (l ++ m) ≡ unindexed_among l + unindexed_among m
unindexed_append [] m = omega arith
unindexed_append (c ∷ l) m = omega (arith, unindexed_append l m)

pub at_most_one : (c : Change) → length (listed c) ≤ 1
at_most_one c = tested (λ (l : List Change). length l ≤ 1) (eqb c.old c.new) (λ e. omega arith) (λ e. omega arith)

pub few_unindexed : (l : List Change) → unindexed_among l ≤ length l
few_unindexed [] = omega arith
few_unindexed (c ∷ l) =
    let one : _ ≤ 1 = tested (λ (n : ℕ). n ≤ 1) (is_unindexed c.old) {x = 1} {y = 0} (λ e. omega arith) (λ e. omega arith) in
    omega (arith, few_unindexed l, one)

-- as many changes as places at most
pub few_changes : (s : List ℕ) (n : ℕ) → length (gathered (changes_at s) n) ≤ n
few_changes s zero = omega arith
few_changes s (suc n) =
    omega (arith, few_changes s n, length-append (gathered (changes_at s) n) (changes_at s n), at_most_one (change_at n (here_of s n)))

-- what was read at a place is listed there
pub read_there : (s : List ℕ) (n : ℕ) {here : Here} {change : Change} → here ≡ here_of s n → change ≡ change_at n here
    → listed change ≡ changes_at s n
read_there s n read made = ap listed (made ∙ ap (change_at n) read)

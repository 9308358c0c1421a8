-- A choice by a test, and what tests tell.
use Rattle.std.specs.Prelude.{◌≡◌, ℕ, Bool, true, false, not, T, nat_le, refl}
use Rattle.std.proofs.Common.{subst}

-- one of two values
abbrev pub pick {ℓ} : {A : Type ℓ} → Bool → A → A → A
pick true a b = a
pick false a b = b

-- two tests, the first one first
abbrev pub both : Bool → Bool → Bool
both true b = b
both false b = false

-- a number from lo to hi
abbrev pub inside : ℕ → ℕ → ℕ → Bool
inside lo hi n = both (nat_le lo n) (nat_le n hi)

-- by the two outcomes of a test
pub by_test {ℓ} : {A : Type ℓ} (b : Bool) → (b ≡ true → A) → (b ≡ false → A) → A
by_test true passed failed = passed refl
by_test false passed failed = failed refl

-- what holds of both values holds of the one that a test picks
pub tested {ℓ} : {A : Type ℓ} (P : A → Type 0) (b : Bool) {x y : A} → (b ≡ true → P x) → (b ≡ false → P y) → P (pick b x y)
tested P true p q = p refl
tested P false p q = q refl

-- tests: two that pass, a second that fails, and one that passes as an equation
pub parts : (a b : Bool) → both a b ≡ true → (a ≡ true) × (b ≡ true)
parts true b e = (refl, e)
parts false b e = absurd (subst (λ (x : Bool). T (not x)) e tt)

pub fails : (b : Bool) → both b false ≡ false
fails true = refl
fails false = refl

pub passes : (b : Bool) → T b → b ≡ true
passes true t = refl
passes false t = absurd t

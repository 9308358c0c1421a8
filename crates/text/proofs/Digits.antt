-- The laws of digits that the writers of numbers go by. Assumes nothing.
use mathlib.Core.Path.{◌≡◌, refl, ap, ◌∙◌}
use mathlib.Core.List.{List, [], ◌∷◌, ◌++◌}
use Prim.Native.Nat.{ℕ, zero, suc, ◌+◌, ◌-◌, ◌*◌, ◌/◌, ◌%◌, ◌^◌, ◌<◌, ◌≤◌}
use native.Mathlib.Nat.{pow-suc}
use native.Mathlib.Numerals.{add-one}
use native.Mathlib.Omega.{arith}
use borrow.Author.Tests.{lt-ltb, le-ltb}
use lib.Dec.{ltb}
use lib.ListN.{length, length-append}
use lib.Pow as P
use Rattle.word.specs.Choice.{by_test}
use Rattle.text.specs.Text.{digits_of, decimal_of, hex_digit, hex_of}

-- a digit more to spend changes nothing once there are enough
enough : (k n : ℕ) → n < 10 ^ suc k → digits_of (suc (suc k)) n ≡ digits_of (suc k) n
enough zero n h = simp (lt-ltb n 10 h)
enough (suc k) n h =
    by_test (ltb n 10)
    (λ e. simp e)
    (λ e. simp e (ap (λ (l : List ℕ). l ++ (48 + n % 10) ∷ []) (enough k (n / 10) (omega (arith, pow-suc 10 (suc k))))))

last_digit : (k n : ℕ) → 10 ≤ n → n / 10 < 10 ^ suc k → digits_of (suc (suc k)) n ≡ digits_of (suc (suc k)) (n / 10) ++ (48 + n % 10) ∷ []
last_digit k n h most = rw (enough k (n / 10) most) (simp (le-ltb n 10 h))

pub decimal_one : (n : ℕ) → n < 10 → decimal_of n ≡ (48 + n) ∷ []
decimal_one n h = unfold decimal_of in simp (lt-ltb n 10 h)

pub decimal_more : (n : ℕ) → 10 ≤ n → n < 2 ^ 64 → decimal_of n ≡ decimal_of (n / 10) ++ (48 + n % 10) ∷ []
decimal_more n h most = unfold decimal_of in last_digit 18 n h (omega arith)

pub hex_size : (k n : ℕ) → length (hex_of k n) ≡ k
unfolding hex_of
hex_size zero n = refl
hex_size (suc k) n = length-append (hex_of k (n / 16)) _ ∙ ap (λ (m : ℕ). m + 1) (hex_size k (n / 16)) ∙ add-one k

-- what is written with `left` digits still to come, and one digit later
module _ (digits n left : ℕ) (some : 0 < left) (most : left ≤ digits) where
  abbrev rest : ℕ
  rest = n / 2 ^ (4 * (left - 1))

  pub hex_more : hex_of (digits - (left - 1)) rest ≡ hex_of (digits - left) (n / 2 ^ (4 * left)) ++ hex_digit (rest % 16) ∷ []
  hex_more = unfold hex_of in
      ap (λ (k : ℕ). hex_of k rest) {x = digits - (left - 1)} {y = suc (digits - left)} (omega arith)
      ∙ ap (λ (x : ℕ). hex_of (digits - left) x ++ hex_digit (rest % 16) ∷ [])
      (P.shr-shr n (4 * (left - 1)) 4 ∙ ap (λ (x : ℕ). n / 2 ^ x) {x = 4 * (left - 1) + 4} {y = 4 * left} (omega arith))

-- k digits are those of the lowest 4 * k bits
pub hex_low : (k n : ℕ) → hex_of k (n % 2 ^ (4 * k)) ≡ hex_of k n
unfolding hex_of
hex_low zero n = refl
hex_low (suc k) n =
    ap (λ (x : ℕ). hex_of (suc k) (n % 2 ^ x)) {x = 4 * suc k} {y = 4 * k + 4} (omega arith)
    ∙ ap (λ (x : ℕ). hex_of k x ++ hex_digit (n % 2 ^ (4 * k + 4) % 16) ∷ []) (P.field n (4 * k) 4)
    ∙ ap (λ (x : ℕ). hex_of k (n / 16 % 2 ^ (4 * k)) ++ hex_digit x ∷ []) (P.mod-mod-pow n (4 * k) 4)
    ∙ ap (λ (l : List ℕ). l ++ hex_digit (n % 16) ∷ []) (hex_low k (n / 16))

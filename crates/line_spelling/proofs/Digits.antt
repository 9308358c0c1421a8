-- Numbers as digits: how many there are, what they are, and that they are read back. Assumes nothing.
use mathlib.Core.Path.{◌≡◌, refl, sym, ap, ◌∙◌}
use mathlib.Core.Bool.{Bool, true, false, not}
use mathlib.Core.List.{List, [], ◌∷◌, ◌++◌}
use Prim.Native.Nat.{ℕ, zero, suc, ◌+◌, ◌-◌, ◌*◌, ◌/◌, ◌%◌, ◌^◌, ◌<◌, ◌≤◌}
use Prim.Native.Char.{code}
use native.Mathlib.Nat.{pow-suc, div-lt_iff_lt-mul, div-add-mod', mod-lt}
use native.Mathlib.Omega.{arith}
use borrow.Author.Tests.{ltb-true, ltb-false, not-true}
use lib.Dec.{T, eqb, ltb, eqb-suc-zero, lit<}
use lib.IntN.{ℤ, pos, negsuc, nat_abs}
use lib.ListN.{length, get_or, drop, length-append}
use Rattle.word.specs.Choice.{pick, both, inside, tested, parts, passes}
use Rattle.word.specs.Every.{every}
use Rattle.word.specs.Signed.{minus}
use Rattle.text.specs.Text.{digits_of, decimal_of, signed_of, hex_of, hex_digit}
use Rattle.line_spelling.proofs.Cut.{all, all_cat, isnt, lacks}
use Rattle.line_spelling.proofs.Formed.{either}
use Rattle.line_spelling.proofs.Tables.{every_passes, agrees}

-- a number below base ^ suc k has its upper digits below base ^ k
pub upper : (base k n : ℕ) → 0 < base → n < base ^ suc k → n / base < base ^ k
upper base k n some h = (div-lt_iff_lt-mul some).1 (rw pow-suc at h)

digits_length : (m k n : ℕ) → n < 10 ^ suc k → length (digits_of m n) ≤ suc k
digits_length zero k n h = omega arith
digits_length (suc m) zero n h = tested (λ ds. length ds ≤ 1) (ltb n 10) (λ e. omega arith) (λ e. absurd (omega (arith, ltb-false n 10 e)))
digits_length (suc m) (suc k) n h =
    either (λ ds. length ds ≤ suc (suc k)) (ltb n 10)
    (omega arith)
    (simp length-append (omega (arith, digits_length m k (n / 10) (upper 10 (suc k) n (lit< tt) h))))

pub decimal_length : (k n : ℕ) → n < 10 ^ suc k → length (decimal_of n) ≤ suc k
decimal_length k n h = unfold decimal_of in digits_length 20 k n h

pub signed_length : (k : ℕ) (z : ℤ) → nat_abs z < 10 ^ suc k → length (signed_of z) ≤ suc (suc k)
unfolding signed_of
signed_length k (pos n) h = omega (arith, decimal_length k n h)
signed_length k (negsuc n) h = omega (arith, decimal_length k (suc n) h)

pub hex_length : (k n : ℕ) → length (hex_of k n) ≡ k
unfolding hex_of
hex_length zero n = refl
hex_length (suc k) n = simp length-append (omega (arith, hex_length k (n / 16)))

-- the value of a digit, and of digits after a value, in a base
abbrev digit_from : ℕ → ℕ
digit_from d = pick (ltb d 58) (d - 48) (d - 87)

abbrev after : ℕ → ℕ → List ℕ → ℕ
after base v [] = v
after base v (d ∷ ds) = after base (v * base + digit_from d) ds

unfoldable pub number_from : ℕ → List ℕ → ℕ
number_from base ds = after base 0 ds

one_more : (base v : ℕ) (ds : List ℕ) (d : ℕ) → after base v (ds ++ d ∷ []) ≡ after base v ds * base + digit_from d
one_more base v [] d = refl
one_more base v (x ∷ ds) d = one_more base (v * base + digit_from x) ds d

decimal_digit : (n : ℕ) → n < 10 → digit_from (48 + n) ≡ n
decimal_digit = agrees (λ n. digit_from (48 + n)) (λ n. n) 10 tt

hex_digit_lem : (n : ℕ) → n < 16 → digit_from (hex_digit n) ≡ n
hex_digit_lem = agrees (λ n. digit_from (hex_digit n)) (λ n. n) 16 tt

digits_back : (k n : ℕ) → n < 10 ^ k → after 10 0 (digits_of k n) ≡ n
digits_back zero n h = omega arith
digits_back (suc k) n h =
    tested (λ ds. after 10 0 ds ≡ n) (ltb n 10)
    (λ e. omega (arith, decimal_digit n (ltb-true n 10 e)))
    (λ e. one_more 10 0 (digits_of k (n / 10)) (48 + n % 10) ∙ rw (
      digits_back k (n / 10) (upper 10 k n (lit< tt) h),
      decimal_digit (n % 10) (mod-lt n (lit< tt)),
    ) (div-add-mod' n 10))

pub decimal_back : (n : ℕ) → n < 2 ^ 64 → number_from 10 (decimal_of n) ≡ n
decimal_back n h = unfold number_from decimal_of in digits_back 20 n (omega arith)

pub hex_back : (k n : ℕ) → n < 16 ^ k → number_from 16 (hex_of k n) ≡ n
unfolding number_from hex_of
hex_back zero n h = omega arith
hex_back (suc k) n h =
    one_more 16 0 (hex_of k (n / 16)) (hex_digit (n % 16)) ∙ rw (
      hex_back k (n / 16) (upper 16 k n (lit< tt) h),
      hex_digit_lem (n % 16) (mod-lt n (lit< tt)),
    ) (div-add-mod' n 16)

-- what passes at each digit passes at each byte of a number
module _ (f : ℕ → Bool) where
  module _ (t : T (every (λ d. f (48 + d)) 0 10)) where
    digit : (d : ℕ) → d < 10 → f (48 + d) ≡ true
    digit = every_passes (λ d. f (48 + d)) 10 t

    digits_all : (k n : ℕ) → all f (digits_of k n) ≡ true
    digits_all zero n = refl
    digits_all (suc k) n =
        tested (λ ds. all f ds ≡ true) (ltb n 10)
        (λ e. rw (digit n (ltb-true n 10 e)))
        (λ e. simp (all_cat, digits_all k (n / 10), digit (n % 10) (mod-lt n (lit< tt))))

    pub decimal_all : (n : ℕ) → all f (decimal_of n) ≡ true
    decimal_all n = unfold decimal_of in digits_all 20 n

    pub signed_all : (z : ℤ) → T (f (code "-")) → all f (signed_of z) ≡ true
    unfolding signed_of
    signed_all (pos n) minus = decimal_all n
    signed_all (negsuc n) minus = rw (passes (f (code "-")) minus) (decimal_all (suc n))

  pub hex_all : T (every (λ d. f (hex_digit d)) 0 16) → (k n : ℕ) → all f (hex_of k n) ≡ true
  unfolding hex_of
  hex_all t zero n = refl
  hex_all t (suc k) n = simp (all_cat, hex_all t k (n / 16), every_passes (λ d. f (hex_digit d)) 16 t (n % 16) (mod-lt n (lit< tt)))

pub decimal_digits : (n : ℕ) → all (inside 48 57) (decimal_of n) ≡ true
decimal_digits = decimal_all (inside 48 57) tt

-- a sign is the first byte, or there is none
abbrev pub first : List ℕ → ℕ
first text = get_or text 0 0

unfoldable pub signed_from : List ℕ → ℤ
signed_from text = pick (eqb (first text) (code "-")) (minus (number_from 10 (drop 1 text))) (pos (number_from 10 text))

unfoldable pub minus_zero_from : List ℕ → Bool
minus_zero_from text = both (eqb (first text) (code "-")) (eqb (number_from 10 (drop 1 text)) 0)

unsigned : (n : ℕ) → eqb (first (decimal_of n)) (code "-") ≡ false
unsigned n = read (decimal_of n) (decimal_all (isnt (code "-")) tt n)
  where
    read : (ds : List ℕ) → lacks (code "-") ds ≡ true → eqb (first ds) (code "-") ≡ false
    read [] h = refl
    read (d ∷ ds) h = not-true (eqb d (code "-")) (parts (not (eqb d (code "-"))) (lacks (code "-") ds) h).0

pub signed_back : (z : ℤ) → nat_abs z < 2 ^ 64 → signed_from (signed_of z) ≡ z
unfolding signed_from signed_of
signed_back (pos n) h = rw unsigned (ap pos (decimal_back n h))
signed_back (negsuc n) h = rw (decimal_back (suc n) h)

pub not_minus_zero : (z : ℤ) → nat_abs z < 2 ^ 64 → minus_zero_from (signed_of z) ≡ false
unfolding minus_zero_from signed_of
not_minus_zero (pos n) h = rw unsigned
not_minus_zero (negsuc n) h = rw (decimal_back (suc n) h) (eqb-suc-zero n)

-- different numbers read differently, and none as "-0"
pub decimal_differs : (n m : ℕ) → n < 2 ^ 64 → m < 2 ^ 64 → decimal_of n ≡ decimal_of m → n ≡ m
decimal_differs n m h k e = sym (decimal_back n h) ∙ ap (number_from 10) e ∙ decimal_back m k

pub signed_differs : (y z : ℤ) → nat_abs y < 2 ^ 64 → nat_abs z < 2 ^ 64 → signed_of y ≡ signed_of z → y ≡ z
signed_differs y z h k e = sym (signed_back y h) ∙ ap signed_from e ∙ signed_back z k

pub hex_differs : (k n m : ℕ) → n < 16 ^ k → m < 16 ^ k → hex_of k n ≡ hex_of k m → n ≡ m
hex_differs k n m h h' e = sym (hex_back k n h) ∙ ap (number_from 16) e ∙ hex_back k m h'

-- An array that holds a table: its entry at the place that a word's columns make is the number of the table's row. One law for every
-- table, from one test over all places. Assumes nothing.
use Rattle.std.proofs.Common.{◌≡◌, refl, sym, ap, ◌∙◌, subst, Bool, true, false, List, [], ◌∷◌, ℕ, zero, suc, ◌+◌, ◌-◌, ◌*◌, ◌/◌, ◌%◌, ◌^◌, ◌<◌, arith, T, eqb, ltb, ltb→lt, eqb→eq, get_or, pow-add, add-zero, zero-add, add-suc, suc-add, le_of_suc-le-suc, not-suc-le-zero}
use Rattle.std.proofs.Math.Arith.{digits_lt}
use Prim.Native.String.{String}
use Rattle.std.proofs.Math.Pow as P
use Rattle.word.specs.Choice.{pick, both}
use Rattle.word.specs.Every.{every, at_each, left, right}
use Rattle.word.specs.Field.{field, small}
use Rattle.manual_tables.specs.Titles.{number_of, Numbered, entry_of}
use Rattle.manual_tables.specs.Columns.{is_of}

-- a column of a table: the k bits from lo on, or whether they are v
pub data Column : Type 0 where
  bits : ℕ → ℕ → Column
  is : ℕ → ℕ → ℕ → Column

abbrev pub width : Column → ℕ
width (bits lo k) = k
width (is lo k v) = 1

abbrev pub digit : ℕ → Column → ℕ
digit w (bits lo k) = field w lo k
digit w (is lo k v) = is_of (field w lo k) v

-- the columns' digits, one after another, the first one the highest
abbrev pub after : ℕ → ℕ → List Column → ℕ
after w n [] = n
after w n (c ∷ cs) = after w (n * 2 ^ width c + digit w c) cs

abbrev pub place_of : ℕ → List Column → ℕ
place_of w [] = 0
place_of w (c ∷ cs) = after w (digit w c) cs

-- how many bits that takes
abbrev pub widths : List Column → ℕ
widths [] = 0
widths (c ∷ cs) = width c + widths cs

-- two words that have the same there
abbrev pub Alike : Column → ℕ → ℕ → Type 0
Alike (bits lo k) w w' = field w lo k ≡ field w' lo k
Alike (is lo k v) w w' = eqb (field w lo k) v ≡ eqb (field w' lo k) v

abbrev pub Same : List Column → ℕ → ℕ → Type 0
Same [] w w' = Unit
Same (c ∷ cs) w w' = Alike c w w' × Same cs w w'

one_or_none : (b : Bool) → pick b 1 0 < 2
one_or_none true = omega arith
one_or_none false = omega arith

digit_small : (w : ℕ) (c : Column) → digit w c < 2 ^ width c
digit_small w (bits lo k) = small w lo k
digit_small w (is lo k v) = one_or_none (eqb (field w lo k) v)

-- a test's outcome, as a number
abbrev pub is_one : Bool → ℕ
is_one b = pick b 1 0

told : (a b : Bool) → is_one a ≡ is_one b → a ≡ b
told true true e = refl
told false false e = refl
told true false e = absurd (subst (λ (n : ℕ). T (eqb n 1)) e tt)
told false true e = absurd (subst (λ (n : ℕ). T (eqb n 0)) e tt)

-- two tests that answer alike on all numbers below n
pub tests_alike : (f g : ℕ → Bool) (n : ℕ) → T (every (λ i. eqb (is_one (f i)) (is_one (g i))) 0 n) → (k : ℕ) → k < n → f k ≡ g k
tests_alike f g n all k h = told (f k) (g k) (eqb→eq (is_one (f k)) (is_one (g k)) (at_each (λ i. eqb (is_one (f i)) (is_one (g i))) n all k h))

alike : (c : Column) (w w' : ℕ) → digit w c ≡ digit w' c → Alike c w w'
alike (bits lo k) w w' e = e
alike (is lo k v) w w' e = told (eqb (field w lo k) v) (eqb (field w' lo k) v) e

-- two numbers that end in a digit each
module _ (n n' k : ℕ) {d d' : ℕ} (small-d : d < 2 ^ k) (small-d' : d' < 2 ^ k) (e : n * 2 ^ k + d ≡ n' * 2 ^ k + d') where
  above : n ≡ n'
  above = sym (P.high n k small-d) ∙ ap (λ (x : ℕ). x / 2 ^ k) e ∙ P.high n' k small-d'

  last : d ≡ d'
  last = sym (P.low n k small-d) ∙ ap (λ (x : ℕ). x % 2 ^ k) e ∙ P.low n' k small-d'

-- a place, and a digit after it
pub then : (k : ℕ) {n n' d d' : ℕ} → n ≡ n' → d ≡ d' → n * k + d ≡ n' * k + d'
then k e f = rw (e, f)

-- the same place, the same digits
module _ (w w' : ℕ) where
  digits_same : (c : Column) (cs : List Column) (n n' : ℕ) → (n * 2 ^ width c + digit w c ≡ n' * 2 ^ width c + digit w' c) × Same cs w w'
      → (n ≡ n') × (Alike c w w' × Same cs w w')
  digits_same c cs n n' (e, rest) =
      (above n n' (width c) (digit_small w c) (digit_small w' c) e, (alike c w w' (last n n' (width c) (digit_small w c) (digit_small w' c) e), rest))

  same_after : (cs : List Column) (n n' : ℕ) → after w n cs ≡ after w' n' cs → (n ≡ n') × Same cs w w'
  same_after [] n n' e = (e, tt)
  same_after (c ∷ cs) n n' e = digits_same c cs n n' (same_after cs (n * 2 ^ width c + digit w c) (n' * 2 ^ width c + digit w' c) e)

  same_place : (cs : List Column) → place_of w cs ≡ place_of w' cs → Same cs w w'
  same_place [] e = tt
  same_place (c ∷ cs) e =
      let s : (digit w c ≡ digit w' c) × Same cs w w' = same_after cs (digit w c) (digit w' c) e in
      (alike c w w' s.0, s.1)

after_small : (w : ℕ) (cs : List Column) (n k : ℕ) → n < 2 ^ k → after w n cs < 2 ^ (k + widths cs)
after_small w [] n k h = rw add-zero h
after_small w (c ∷ cs) n k h =
    subst (λ (m : ℕ). after w (n * 2 ^ width c + digit w c) cs < 2 ^ m) more
    (after_small w cs (n * 2 ^ width c + digit w c) (k + width c)
    (subst (λ (m : ℕ). n * 2 ^ width c + digit w c < m) (sym (pow-add 2 k (width c))) (digits_lt h (digit_small w c))))
  where
    more : k + width c + widths cs ≡ k + (width c + widths cs)
    more = omega arith

place_small : (w : ℕ) (cs : List Column) → place_of w cs < 2 ^ widths cs
place_small w [] = omega arith
place_small w (c ∷ cs) = after_small w cs (digit w c) (width c) (digit_small w c)

-- a word for a place: a column that is not v is 0, or 1 if v is 0
abbrev put : Column → ℕ → ℕ
put (bits lo k) d = d * 2 ^ lo
put (is lo k v) d = pick (eqb d 1) v (pick (eqb v 0) 1 0) * 2 ^ lo

abbrev pub word_at : List Column → ℕ → ℕ
word_at [] i = 0
word_at (c ∷ cs) i = put c (i / 2 ^ widths cs % 2 ^ width c) + word_at cs i

-- the array of a table: the number of each place's row. Its words have what `base` has besides
abbrev pub listed : (ℕ → ℕ) → ℕ → ℕ → List ℕ
listed f i zero = []
listed f i (suc n) = f i ∷ listed f (suc i) n

pub at : (f : ℕ → ℕ) (n i k : ℕ) → k < n → get_or (listed f i n) k 0 ≡ f (i + k)
at f zero i k h = absurd (not-suc-le-zero h)
at f (suc n) i zero h = ap f (sym (add-zero i))
at f (suc n) i (suc k) h = at f n (suc i) k (le_of_suc-le-suc h) ∙ ap f (suc-add i k ∙ sym (add-suc i k))

abbrev word_from : ℕ → List Column → ℕ → ℕ
word_from base cs i = base + word_at cs i

abbrev number_at : (ℕ → String) → ℕ → List Column → ℕ → ℕ
number_at F base cs i = number_of (F (word_from base cs i))

-- a number as an entry's byte
abbrev byte_of : ℕ → ℕ → ℕ
byte_of first n = pick (eqb n 0) 46 (pick (eqb n 1) 63 (n - first + 97))

abbrev byte_at : (ℕ → String) → ℕ → List Column → ℕ → ℕ → ℕ
byte_at F base cs first i = byte_of first (number_at F base cs i)

abbrev pub tabled : (ℕ → String) → ℕ → List Column → ℕ → List ℕ
tabled F base cs first = listed (byte_at F base cs first) 0 (2 ^ widths cs)

-- a place is right if its word is one that is asked for and has the place, and its entry is its row's number, which is known
abbrev homes : ℕ → List Column → ℕ → Bool
homes base cs i = eqb (place_of (word_from base cs i) cs) i

abbrev reads : (ℕ → String) → ℕ → List Column → ℕ → ℕ → Bool
reads F base cs first i = eqb (entry_of first (byte_at F base cs first i)) (number_at F base cs i)

abbrev knows : (ℕ → String) → ℕ → List Column → ℕ → Bool
knows F base cs i = ltb (number_at F base cs i) 271

abbrev pub is_right : (ℕ → String) → (ℕ → Bool) → ℕ → List Column → ℕ → ℕ → Bool
is_right F asked base cs first i = both (homes base cs i) (both (asked (word_from base cs i)) (both (reads F base cs first i) (knows F base cs i)))

true_is : (b : Bool) → T b → b ≡ true
true_is true t = refl
true_is false t = absurd t

-- a table whose row, of the words that are asked for, hangs on its columns alone
module _ (F : ℕ → String) (asked : ℕ → Bool) (base : ℕ) (cs : List Column) (first : ℕ) (depends : (w w' : ℕ) → asked w ≡ true → asked w' ≡ true
    → Same cs w w' → F w ≡ F w') (all : T (every (is_right F asked base cs first) 0 (2 ^ widths cs))) (w : ℕ) (is-asked : asked w ≡ true) where
  abbrev i : ℕ
  i = place_of w cs

  abbrev w' : ℕ
  w' = word_from base cs i

  here : T (is_right F asked base cs first i)
  here = at_each (is_right F asked base cs first) (2 ^ widths cs) all i (place_small w cs)

  at_home : place_of w' cs ≡ i
  at_home = eqb→eq _ _ (left (homes base cs i) (both (asked w') (both (reads F base cs first i) (knows F base cs i))) here)

  more : T (both (asked w') (both (reads F base cs first i) (knows F base cs i)))
  more = right (homes base cs i) (both (asked w') (both (reads F base cs first i) (knows F base cs i))) here

  read : T (both (reads F base cs first i) (knows F base cs i))
  read = right (asked w') (both (reads F base cs first i) (knows F base cs i)) more

  row_there : number_at F base cs i ≡ number_of (F w)
  row_there =
      ap number_of
      (sym
      (depends w w' is-asked
      (true_is (asked w') (left (asked w') (both (reads F base cs first i) (knows F base cs i)) more))
      (same_place w w' cs (sym at_home))))

  entry : entry_of first (get_or (tabled F base cs first) i 0) ≡ number_at F base cs i
  entry =
      ap (entry_of first) (at (byte_at F base cs first) (2 ^ widths cs) 0 i (place_small w cs) ∙ ap (byte_at F base cs first) (zero-add i))
      ∙ eqb→eq _ _ (left (reads F base cs first i) (knows F base cs i) read)

  there : Numbered (F w) (entry_of first (get_or (tabled F base cs first) i 0))
  there =
      record {
        number = entry ∙ row_there;
        known = subst (λ (x : ℕ). x < 271) (sym entry) (ltb→lt _ _ (right (reads F base cs first i) (knows F base cs i) read));
      }

  pub looked_where : {n r : ℕ} → n ≡ i → r ≡ entry_of first (get_or (tabled F base cs first) n 0) → Numbered (F w) r
  looked_where e g = subst (Numbered (F w)) (sym (g ∙ ap (λ (k : ℕ). entry_of first (get_or (tabled F base cs first) k 0)) e)) there

-- the same of all words
abbrev pub each_word : ℕ → Bool
each_word w = true

module _ (F : ℕ → String) (cs : List Column) (first : ℕ) (depends : (w w' : ℕ) → Same cs w w' → F w ≡ F w')
    (all : T (every (is_right F each_word 0 cs first) 0 (2 ^ widths cs))) (w : ℕ) where
  pub looked : {n r : ℕ} → n ≡ place_of w cs → r ≡ entry_of first (get_or (tabled F 0 cs first) n 0) → Numbered (F w) r
  looked = looked_where F each_word 0 cs first (λ w w' a a' s. depends w w' s) all w refl

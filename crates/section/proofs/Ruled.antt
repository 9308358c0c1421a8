-- What the rules of ranges say, and which places are data. Assumes nothing.
use mathlib.Core.Path.{◌≡◌, refl}
use mathlib.Core.Bool.{true, false}
use mathlib.Core.List.{List, [], ◌∷◌}
use mathlib.Core.Logic.{◌↔◌}
use Prim.Native.Nat.{ℕ, zero, suc, ◌+◌, ◌<◌, ◌≤◌}
use native.Mathlib.Omega.{arith}
use borrow.Author.Tests.{ltb-true, leb-true, leb-false, lt-ltb, le-ltb, le-leb, lt-leb}
use lib.Dec.{ltb, leb}
use lib.ListN.{length, drop}
use Rattle.word.specs.Choice.{both, by_test, parts}
use Rattle.section.specs.Ranges.{end_of, follows, in_order, rules_hold, has, is_data}
use Rattle.section.specs.Section.{range_at, ranges_of}
use Rattle.section.specs.Accepted.{nth, Has, Ruled}
use Rattle.section.specs.declared.Range.{Range}
use Rattle.section.proofs.Firsts.{so_many, each, next_of, none_left}

module _ (count : ℕ) where
  -- what is tested of one range
  abbrev Follows : ℕ → Range → Type 0
  Follows from r = (0 < r.words) × (end_of r ≤ count) × (from ≤ r.first)

  tells : (from : ℕ) (r : Range) → follows count from r ≡ true → Follows from r
  tells from r e =
      let some = parts (ltb 0 r.words) (both (leb (end_of r) count) (leb from r.first)) e in
      let rest = parts (leb (end_of r) count) (leb from r.first) some.1 in
      (ltb-true 0 r.words some.0, leb-true (end_of r) count rest.0, leb-true from r.first rest.1)

  told : (from : ℕ) (r : Range) → Follows from r → follows count from r ≡ true
  told from r f = simp (lt-ltb 0 r.words f.0, le-leb (end_of r) count f.1, le-leb from r.first f.2)

  -- and of a list, of its first range and of the others
  heads : (r : Range) (rs : List Range) (from : ℕ) → in_order count from (r ∷ rs) ≡ true → Follows from r × (in_order count (end_of r) rs ≡ true)
  heads r rs from e =
      let two = parts (follows count from r) (in_order count (end_of r) rs) e in
      (tells from r two.0, two.1)

  each_follows : (rs : List Range) (from i : ℕ) → in_order count from rs ≡ true → i < length rs → Follows from (nth rs i)
  each_follows [] from i e h = absurd (let z : ⊥ = omega arith in z)
  each_follows (r ∷ rs) from zero e h = (heads r rs from e).0
  each_follows (r ∷ rs) from (suc i) e h =
      let two = heads r rs from e in
      let later = each_follows rs (end_of r) i two.1 (omega arith) in
      (later.0, later.1, omega (arith, two.0, later))

  each_after : (rs : List Range) (from i j : ℕ) → in_order count from rs ≡ true → i < j → j < length rs → end_of (nth rs i) ≤ (nth rs j).first
  each_after [] from i j e h k = absurd (let z : ⊥ = omega arith in z)
  each_after (r ∷ rs) from i zero e h k = absurd (let z : ⊥ = omega arith in z)
  each_after (r ∷ rs) from zero (suc j) e h k = (each_follows rs (end_of r) j (heads r rs from e).1 (omega arith)).2
  each_after (r ∷ rs) from (suc i) (suc j) e h k = each_after rs (end_of r) i j (heads r rs from e).1 (omega arith) (omega arith)

  in_order_lem : (rs : List Range) (from : ℕ) → ((i : ℕ) → i < length rs → Follows from (nth rs i))
      → ((i j : ℕ) → i < j → j < length rs → end_of (nth rs i) ≤ (nth rs j).first) → in_order count from rs ≡ true
  in_order_lem [] from all after = refl
  in_order_lem (r ∷ rs) from all after =
      rw (told from r (all 0 (omega arith)))
      (in_order_lem rs (end_of r)
      (λ i h. let it = all (suc i) (omega arith) in (it.0, it.1, after 0 (suc i) (omega arith) (omega arith)))
      (λ i j h k. after (suc i) (suc j) (omega arith) (omega arith)))

  -- the test passes exactly if every rule holds
  pub rules_exactly : (rs : List Range) → (rules_hold count rs ≡ true) ↔ Ruled count rs
  rules_exactly rs = (say, said)
    where
      say : rules_hold count rs ≡ true → Ruled count rs
      say e =
          let two = parts (leb (length rs) 64) (in_order count 0 rs) e in
          record {
            few = leb-true (length rs) 64 two.0;
            some = λ i h. (each_follows rs 0 i two.1 h).0;
            inside = λ i h. (each_follows rs 0 i two.1 h).1;
            ascend = λ i j h k. omega (arith, each_follows rs 0 i two.1 (omega arith), each_after rs 0 i j two.1 h k);
            apart = λ i j place h k a b. omega (arith, each_after rs 0 i j two.1 h k);
          }

      said : Ruled count rs → rules_hold count rs ≡ true
      said ruled =
          simp (le-leb (length rs) 64 ruled.few)
          (in_order_lem rs 0 (λ i h. (ruled.some i h, ruled.inside i h, omega arith)) after)
        where
          after : (i j : ℕ) → i < j → j < length rs → end_of (nth rs i) ≤ (nth rs j).first
          after i j h k =
              by_test (leb (end_of (nth rs i)) (nth rs j).first)
              (λ e. leb-true (end_of (nth rs i)) (nth rs j).first e)
              (λ e.
              absurd (ruled.apart i j (nth rs j).first h k
              (omega (arith, ruled.ascend i j h k), leb-false (end_of (nth rs i)) (nth rs j).first e)
              (omega arith, omega (arith, ruled.some j k))))

  -- where a range starts beyond a place, no range from it on has the place
  none_has : (rs : List Range) (from place : ℕ) → in_order count from rs ≡ true → place < from → is_data rs place ≡ false
  none_has [] from place e h = refl
  none_has (r ∷ rs) from place e h =
      let two = heads r rs from e in
      simp (lt-leb r.first place (omega (arith, two.0))) (none_has rs (end_of r) place two.1 (omega (arith, two.0)))

  pub beyond : (rs : List Range) (from i place : ℕ) → in_order count from rs ≡ true → i < length rs → place < (nth rs i).first
      → is_data (drop i rs) place ≡ false
  beyond [] from i place e h k = absurd (let z : ⊥ = omega arith in z)
  beyond (r ∷ rs) from zero place e h k =
      let two = heads r rs from e in
      simp (lt-leb r.first place k) (none_has rs (end_of r) place two.1 (omega (arith, two.0)))
  beyond (r ∷ rs) from (suc i) place e h k = beyond rs (end_of r) i place (heads r rs from e).1 (omega arith) k

-- a place is data exactly if a range has it
pub data_exactly : (rs : List Range) (place : ℕ) → (is_data rs place ≡ true) ↔ ((i : ℕ) × (i < length rs) × Has (nth rs i) place)
data_exactly rs place = (say rs, λ found. said rs found.0 found.1 found.2)
  where
    tells_has : (r : Range) → has r place ≡ true → Has r place
    tells_has r e =
        let two = parts (leb r.first place) (ltb place (end_of r)) e in
        (leb-true r.first place two.0, ltb-true place (end_of r) two.1)

    say : (rs : List Range) → is_data rs place ≡ true → (i : ℕ) × (i < length rs) × Has (nth rs i) place
    say [] e = absurd (let z : ◌≡◌ {A = ℕ} 0 1 = cc in omega arith)
    say (r ∷ rs) e =
        by_test (has r place)
        (λ it. (0, omega arith, tells_has r it))
        (λ it. let later = say rs (simp it at e) in (suc later.0, omega (arith, later.1), later.2))

    said : (rs : List Range) (i : ℕ) → i < length rs → Has (nth rs i) place → is_data rs place ≡ true
    said [] i h it = absurd (let z : ⊥ = omega arith in z)
    said (r ∷ rs) zero h it = simp (le-leb r.first place it.0, lt-ltb place (end_of r) it.1)
    said (r ∷ rs) (suc i) h it =
        by_test (has r place)
        (λ e. simp e)
        (λ e. simp e (said rs i (omega arith) it))

-- the ranges of a section, from number i on
module _ (s : List ℕ) (n i : ℕ) where
  module _ (count from : ℕ) where
    pub keeps : i < n → follows count from (range_at s i) ≡ true
        → in_order count from (drop i (ranges_of s n)) ≡ in_order count (end_of (range_at s i)) (drop (i + 1) (ranges_of s n))
    keeps h e = rw (next_of (range_at s) n i h) (simp e)

    pub breaks : i < n → follows count from (range_at s i) ≡ false → in_order count from (drop i (ranges_of s n)) ≡ false
    breaks h e = rw (next_of (range_at s) n i h) (simp e)

    pub all_kept : n ≤ i → in_order count from (drop i (ranges_of s n)) ≡ true
    all_kept h = rw (none_left (range_at s) n i h)

  module _ (place : ℕ) where
    pub starts_beyond : (count : ℕ) → in_order count 0 (ranges_of s n) ≡ true → i < n → place < (range_at s i).first
        → is_data (drop i (ranges_of s n)) place ≡ false
    starts_beyond count e h k =
        beyond count (ranges_of s n) 0 i place e (omega (arith, so_many (range_at s) n)) (rw (each (range_at s) (record { first = 0; words = 0 }) n i h) k)

    pub finds : i < n → (range_at s i).first ≤ place → place < end_of (range_at s i) → is_data (drop i (ranges_of s n)) place ≡ true
    finds h a b = rw (next_of (range_at s) n i h) (simp (le-leb (range_at s i).first place a, lt-ltb place (end_of (range_at s i)) b))

    pub goes_on : i < n → (range_at s i).first ≤ place → end_of (range_at s i) ≤ place
        → is_data (drop i (ranges_of s n)) place ≡ is_data (drop (i + 1) (ranges_of s n)) place
    goes_on h a b = rw (next_of (range_at s) n i h) (simp (le-leb (range_at s i).first place a, le-ltb place (end_of (range_at s i)) b))

    pub none_left_has : n ≤ i → is_data (drop i (ranges_of s n)) place ≡ false
    none_left_has h = rw (none_left (range_at s) n i h)

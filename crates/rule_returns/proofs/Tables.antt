-- What the tests on a table show. Assumes nothing.
use mathlib.Core.Path.{◌≡◌, refl, sym}
use mathlib.Core.Bool.{Bool, true, false, ◌&&◌, ◌||◌}
use mathlib.Core.List.{List}
use mathlib.Core.Logic.{◌⊎◌, inl, inr, ⊎_elim, ◌↔◌}
use Prim.Native.Nat.{ℕ, ◌+◌, ◌/◌, ◌%◌, ◌≤◌}
use native.Mathlib.Omega.{arith}
use borrow.Author.Tests.{eqb-true, eqb-false}
use lib.Dec.{eqb}
use lib.ListN.{length}
use Rattle.std.specs.Int.{from_bool}
use Rattle.walk_marks.specs.Marks.{marks_of}
use Rattle.walk_marks.proofs.Looking.{beyond}
use Rattle.walk_marks.proofs.Marks.{length_marks}
use Rattle.rule_runs.specs.Runs.{Program}
use Rattle.rule_runs.specs.Summaries.{Once, Once.ends, Once.onward, Once.over}
use Rattle.rule_runs.proofs.Tests.{true_false, not_both}
use Rattle.rule_places.specs.Coded.{has, flags_at, target_at, NEXT, TARGET, FURTHER, CALLS, RETURNS, Pair, Target, program_of}
use Rattle.rule_returns.specs.Table.{slot, Table, table_at, comes_back, leads_to}

-- two tests
pub or_cases : (a b : Bool) → (a || b) ≡ true → (a ≡ true) ⊎ (b ≡ true)
or_cases true b e = inl refl
or_cases false b e = inr e

pub or_first : (a b : Bool) → a ≡ true → (a || b) ≡ true
or_first a b e = rw e refl

pub or_second : (a b : Bool) → b ≡ true → (a || b) ≡ true
or_second true b e = refl
or_second false b e = e

pub or_false : (a b : Bool) → (a || b) ≡ false → (a ≡ false) × (b ≡ false)
or_false true b e = true_false e
or_false false b e = (refl, e)

pub or_num : (a b : Bool) → from_bool (a || b) ≤ from_bool a + from_bool b
or_num true b = omega arith
or_num false b = omega arith

pub and_cases : (a b : Bool) → (a && b) ≡ true → (a ≡ true) × (b ≡ true)
and_cases true b e = (refl, e)
and_cases false b e = true_false (sym e)

pub and_hold : (a b : Bool) → a ≡ true → b ≡ true → (a && b) ≡ true
and_hold a b e f = rw e f

pub num_small : (b : Bool) → from_bool b ≤ 1
num_small true = omega arith
num_small false = omega arith

num_same : (s u : Bool) → from_bool s ≡ from_bool u → s ≡ u
num_same true true e = refl
num_same true false e = absurd (let z : ⊥ = omega arith in z)
num_same false true e = absurd (let z : ⊥ = omega arith in z)
num_same false false e = refl

-- a mark is of one place and two states
pub slot_same : (p q : ℕ) (s t u v : Bool) → slot p s u ≡ slot q t v → (p ≡ q) × (s ≡ t) × (u ≡ v)
slot_same p q s t u v e =
    let a = num_small s in
    let b = num_small t in
    let c = num_small u in
    let d = num_small v in
    (omega arith, num_same s t (omega arith), num_same u v (omega arith))

odd_num : (x : ℕ) → from_bool (eqb (x % 2) 1) ≡ x % 2
odd_num x = by (eqb (x % 2) 1) refl
  where
    by : (b : Bool) → eqb (x % 2) 1 ≡ b → from_bool b ≡ x % 2
    by true e = sym (eqb-true (x % 2) 1 e)
    by false e = omega (arith, eqb-false (x % 2) 1 e)

pub slot_at : (i : ℕ) → slot (i / 4) (eqb (i / 2 % 2) 1) (eqb (i % 2) 1) ≡ i
slot_at i = omega (arith, odd_num (i / 2), odd_num i)

-- a call that comes back
module _ (m : List Bool) (t : ℕ) (v : Bool) (p : ℕ) (u : Bool) where
  back_by : comes_back m t v p u ≡ true → (w : Bool) × Table m t v w × Table m p w u
  back_by e =
      ⊎_elim
      (λ (x : (table_at m t v false && table_at m p false u) ≡ true). let (a, b) = and_cases (table_at m t v false) (table_at m p false u) x in (false, a, b))
      (λ (x : (table_at m t v true && table_at m p true u) ≡ true). let (a, b) = and_cases (table_at m t v true) (table_at m p true u) x in (true, a, b))
      (or_cases (table_at m t v false && table_at m p false u) (table_at m t v true && table_at m p true u) e)

  by_back : (w : Bool) → Table m t v w → Table m p w u → comes_back m t v p u ≡ true
  by_back false a b = or_first _ _ (and_hold _ _ a b)
  by_back true a b = or_second (table_at m t v false && table_at m p false u) _ (and_hold _ _ a b)

-- one place: it returns, the next place leads on, its target does, or a further target
module _ (flags targets further entries : List ℕ) (m : List Bool) (p : ℕ) (v u : Bool) where
  abbrev P : Program
  P = program_of flags targets further entries

  abbrev calls : Bool
  calls = has (flags_at flags p) CALLS

  abbrev Ends : Type 0
  Ends = (has (flags_at flags p) RETURNS ≡ true) × (v ≡ u)

  abbrev Next : Type 0
  Next = (has (flags_at flags p) NEXT ≡ true) × Table m (p + 1) v u

  abbrev Aims : Type 0
  Aims = (has (flags_at flags p) TARGET ≡ true) × (leads_to m calls (target_at flags targets p) v p u ≡ true)

  abbrev More : Type 0
  More = (has (flags_at flags p) FURTHER ≡ true) × ((q : ℕ) × Pair further p q × (leads_to m calls q v p u ≡ true))

  by_target : (b : Bool) → calls ≡ b → (q : ℕ) → Target flags targets further p q → leads_to m b q v p u ≡ true → Once P (Table m) p u v
  by_target true c q t e = let (w, x, y) = back_by m q v (p + 1) u e in over q w (c, t) x y
  by_target false c q t e = onward q (inr (c, t)) e

  pub once_in : Ends ⊎ (Next ⊎ (Aims ⊎ More)) → Once P (Table m) p u v
  once_in (inl (r, e)) = ends r e
  once_in (inr (inl (n, t))) = onward (p + 1) (inl (n, refl)) t
  once_in (inr (inr (inl (a, l)))) = by_target calls refl (target_at flags targets p) (inl (a, refl)) l
  once_in (inr (inr (inr (f, (q, t, l))))) = by_target calls refl q (inr (f, t)) l

  target_out : (q : ℕ) → Target flags targets further p q → leads_to m calls q v p u ≡ true → Ends ⊎ (Next ⊎ (Aims ⊎ More))
  target_out q (inl x) l = inr (inr (inl (x.0, rw (← x.1) l)))
  target_out q (inr x) l = inr (inr (inr (x.0, (q, x.1, l))))

  pub once_out : Once P (Table m) p u v → Ends ⊎ (Next ⊎ (Aims ⊎ More))
  once_out (ends r e) = inl (r, e)
  once_out (onward q (inl x) l) = inr (inl (x.0, rw (← x.1) l))
  once_out (onward q (inr x) l) = target_out q x.1 (rw x.0 l)
  once_out (over t w x a b) = target_out t x.1 (rw x.0 (by_back m t v (p + 1) u w a b))

-- where three of four do not hold, the last is what is asked
pub last_of : {A B C D : Type 0} {a b c d : Bool} → (a ≡ true) ↔ A → (b ≡ true) ↔ B → (c ≡ true) ↔ C → (d ≡ true) ↔ D
    → a ≡ false → b ≡ false → c ≡ false → A ⊎ (B ⊎ (C ⊎ D)) → d ≡ true
last_of f g h k x y z (inl w) = not_both _ (f.1 w) x
last_of f g h k x y z (inr (inl w)) = not_both _ (g.1 w) y
last_of f g h k x y z (inr (inr (inl w))) = not_both _ (h.1 w) z
last_of f g h k x y z (inr (inr (inr w))) = k.1 w

-- the two states that a place may leave
pub other_left : (A : Bool → Type 0) {a b : Bool} → (a ≡ true) ↔ A false → (b ≡ true) ↔ A true → a ≡ false → (v : Bool) → A v → b ≡ true
other_left A f g x false w = not_both _ (f.1 w) x
other_left A f g x true w = g.1 w

-- behind the table's end no mark is set
pub table_behind : (ws : List ℕ) (p : ℕ) (s u : Bool) → length ws ≤ slot p s u / 32 → false ≡ table_at (marks_of ws) p s u
table_behind ws p s u h = sym (beyond (marks_of ws) (slot p s u) (omega (arith, length_marks ws)))

-- A table that is worked on. Assumes nothing.
use mathlib.Core.Path.{◌≡◌, refl, sym, ◌∙◌}
use mathlib.Core.Bool.{Bool, true, false, ◌||◌}
use mathlib.Core.List.{List}
use mathlib.Core.Logic.{◌⊎◌, inl, inr, ⊎_elim, ◌↔◌}
use Prim.Native.Nat.{ℕ, ◌+◌, ◌*◌, ◌/◌, ◌%◌, ◌-◌, ◌≤◌, ◌<◌}
use native.Mathlib.Omega.{arith}
use lib.Dec.{eqb}
use lib.ListN.{length, get_or, set}
use Rattle.std.specs.Int.{from_bool}
use Rattle.walk_marks.specs.Marks.{marks_of, Marked, how_many}
use Rattle.walk_marks.proofs.Marks.{length_marks, none_of}
use Rattle.walk_marks.proofs.Marking.{set_only, one_more, count_below}
use Rattle.walk_marks.proofs.Looking.{beyond}
use Rattle.rule_runs.specs.Runs.{Program}
use Rattle.rule_runs.specs.Summaries.{Ever, OncePast, Within}
use Rattle.rule_runs.proofs.Exact.{once_ever}
use Rattle.rule_runs.proofs.Tests.{true_false, not_both, either_way}
use Rattle.rule_places.specs.Coded.{effect, program_of}
use Rattle.rule_places.proofs.Flags.{flag_inside}
use Rattle.rule_returns.specs.Table.{slot, Table, Better}
use Rattle.rule_returns.proofs.Tables.{or_false, or_num, num_small, slot_same, slot_at}

-- mark i follows from others
abbrev pub Follows : Program → List Bool → ℕ → Type 0
Follows P m i = OncePast P (Table m) (i / 4) (eqb (i / 2 % 2) 1) (eqb (i % 2) 1)

-- one mark: it is set already, it does not follow, or it is new
module _ {P : Program} (m : List Bool) (i : ℕ) where
  pub known_one : get_or m i false ≡ true → Better P (λ j. j ≡ i) m m false
  known_one e = record { sound = λ x. x; more = omega arith; still = λ f. refl; closed = λ f p s u same o. rw same e }

  pub other_one : (b : Bool) → (b ≡ true) ↔ Follows P m i → b ≡ false → Better P (λ j. j ≡ i) m m false
  other_one b law e = record {
    sound = λ x. x;
    more = omega arith;
    still = λ f. refl;
    closed = λ f p s u same o.
        let (x, y, z) = slot_same p (i / 4) s (eqb (i / 2 % 2) 1) u (eqb (i % 2) 1) (same ∙ sym (slot_at i)) in
        not_both b (law.1 (rw (← x, ← y, ← z) o)) e;
  }

  pub new_one : {m' : List Bool} (b : Bool) → i < length m → (b ≡ true) ↔ Follows P m i → b ≡ true → get_or m i false ≡ false → m' ≡ set m i true
      → Better P (λ j. j ≡ i) m m' true
  new_one {m'} b h law e free put = record {
    sound = sound';
    more = rw put (omega (arith, one_more m i h free));
    still = λ f. true_false f;
    closed = λ f. true_false f;
  }
    where
      sound' : Within (Table m) (Ever P) → Within (Table m') (Ever P)
      sound' x p s u has =
          ⊎_elim
          (λ (same : slot p s u ≡ i).
          let (a, b, c) = slot_same p (i / 4) s (eqb (i / 2 % 2) 1) u (eqb (i % 2) 1) (same ∙ sym (slot_at i)) in
          once_ever x p s u (rw (a, b, c) (law.0 e)))
          (λ (old : Marked m (slot p s u)). x p s u old)
          (set_only m (slot p s u) i (rw put at has))

-- work after work
pub better_then : {P : Program} {A B : ℕ → Type 0} {m m' m'' : List Bool} {a b : Bool} → Better P A m m' a → Better P B m' m'' b
    → Better P (λ j. A j ⊎ B j) m m'' (a || b)
better_then {P} {A} {B} {a = a} {b = b} f g = record {
  sound = λ x. g.sound (f.sound x);
  more = omega (arith, f.more, g.more, or_num a b);
  still = λ e. let (x, y) = or_false a b e in g.still y ∙ f.still x;
  closed = λ e p s u i o.
      let (x, y) = or_false a b e in
      ⊎_elim
      (λ (j : A (slot p s u)). rw (g.still y) (f.closed x p s u j (rw (g.still y) at o)))
      (λ (j : B (slot p s u)). g.closed y p s u j o)
      i;
}

pub better_for : {P : Program} {A B : ℕ → Type 0} {m m' : List Bool} {r : Bool} → ((j : ℕ) → B j → A j) → Better P A m m' r → Better P B m m' r
better_for h f = record { sound = f.sound; more = f.more; still = f.still; closed = λ e p s u i o. f.closed e p s u (h _ i) o }

-- one mark more, from the last on
pub one_further : {P : Program} {m m' m'' : List Bool} (n i i' : ℕ) {a b : Bool} → i' + 1 ≡ i
    → Better P (λ j. (i ≤ j) × (j < n)) m m' a → Better P (λ j. j ≡ i') m' m'' b → Better P (λ j. (i' ≤ j) × (j < n)) m m'' (a || b)
one_further n i i' s f g =
    better_for (λ j (l, h). ⊎_elim (λ (x : i ≤ j). inl (x, h)) (λ (x : j < i). inr (omega arith)) (either_way i j)) (better_then f g)

-- at first nothing is marked
pub none_said : (P : Program) (ws : List ℕ) → ((j : ℕ) → get_or ws j 0 ≡ 0) → Within (Table (marks_of ws)) (Ever P)
none_said P ws h p s u has =
    ⊎_elim
    (λ (l : 32 * length ws ≤ slot p s u). not_both _ has (beyond (marks_of ws) (slot p s u) (omega (arith, length_marks ws))))
    (λ (l : slot p s u < 32 * length ws). not_both _ has (none_of ws (slot p s u) (slot p s u) l (h (slot p s u / 32)) (omega arith) (omega arith)))
    (either_way (32 * length ws) (slot p s u))

-- a round over the places is one over all
pub all_closed : (flags targets further entries : List ℕ) {m m' : List Bool} {r : Bool} →
    Better (program_of flags targets further entries) (λ j. j < 4 * length flags) m m' r → r ≡ false
    → Within (OncePast (program_of flags targets further entries) (Table m')) (Table m')
all_closed flags targets further entries b e p s u o =
    b.closed e p s u (omega (arith, flag_inside flags p (effect s o.0) o.1, num_small s, num_small u)) o

-- each round that is not the last makes this less: a mark is new
abbrev pub unlearnt : List ℕ → ℕ
unlearnt ws = 32 * length ws - how_many (marks_of ws)

pub fewer : (ws ws' : List ℕ) {P : Program} {A : ℕ → Type 0} {r : Bool} → length ws' ≡ length ws → r ≡ true
    → Better P A (marks_of ws) (marks_of ws') r → unlearnt ws' < unlearnt ws
fewer ws ws' {r = r} long e f =
    let one : from_bool r ≡ 1 = rw e refl in
    omega (arith, f.more, one, count_below (marks_of ws'), length_marks ws')

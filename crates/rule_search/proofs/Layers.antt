-- The search, layer by layer, for any steps. Assumes nothing.
use mathlib.Core.Path.{◌≡◌, refl, sym, ap, ◌∙◌}
use mathlib.Core.Bool.{Bool, true, false, ◌||◌}
use mathlib.Core.List.{List}
use mathlib.Core.Logic.{◌⊎◌, inl, inr, ⊎_elim}
use Prim.Native.Nat.{ℕ, ◌+◌, ◌*◌, ◌-◌, ◌≤◌, ◌<◌}
use native.Mathlib.Omega.{arith}
use lib.ListN.{length, get_or}
use Rattle.std.specs.Int.{from_bool}
use Rattle.rule_runs.proofs.Tests.{either_way}
use Rattle.rule_returns.proofs.Tables.{or_false, or_num, num_small}
use Rattle.rule_search.specs.Search.{far, dst, reached_in, Spreads, TakesUp, Passes, Layer, Level, Measured}
use Rattle.rule_search.proofs.Spreading.{reached_inside, count_below}

-- whether one is new
pub none_taken : {d x : ℕ} {Y : ℕ → Type 0} {D F D' F' : List ℕ} {a b : Bool} → (a ≡ false → (y : ℕ) → dst D y < far → dst D y ≤ d)
    → TakesUp Y x d D F D' F' b → (a || b) ≡ false → (y : ℕ) → dst D' y < far → dst D' y ≤ d
none_taken {a = a} {b = b} all (inl (here, s)) e y r =
    let (f, g) = or_false a b e in let o = s.none g y r in omega (arith, (s.kept y o).0, all f y o)
none_taken {a = a} {b = b} all (inr (other, e', f', n)) e y r = let (f, g) = or_false a b e in rw e' (all f y (rw e' at r))

pub more_taken : {d x : ℕ} {Y : ℕ → Type 0} {D F D' F' : List ℕ} {b : Bool} (k : ℕ) (a : Bool) → k + from_bool a ≤ reached_in D
    → TakesUp Y x d D F D' F' b → k + from_bool (a || b) ≤ reached_in D'
more_taken {b = b} k a h (inl (here, s)) = omega (arith, s.more, or_num a b)
more_taken {b = b} k a h (inr (other, e, f, n)) = rw e (omega (arith, or_num a b, ap from_bool n))

-- each layer makes this less: it has a node, or is the last
pub fewer : {Start : ℕ → Type 0} {Step : ℕ → ℕ → Type 0} {d : ℕ} {D F D' F' : List ℕ} {r more : Bool} → length D' ≡ length D → more ≡ true
    → Passes Start Step d D F D' F' r → 2 * (length D' - reached_in D') + from_bool r < 2 * (length D - reached_in D) + from_bool more
fewer {D' = D'} {r = r} long e f = rw e (omega (arith, f.more, count_below D', num_small r))

module _ {Start : ℕ → Type 0} {Step : ℕ → ℕ → Type 0} where
  -- a node that is not of the layer
  pub level_past : {d x : ℕ} {D F : List ℕ} → (dst D x ≡ d → ⊥) → Level Start Step d x D F → Level Start Step d (x + 1) D F
  level_past {d} {x} {D} other l = record {
    entered = l.entered;
    low = l.low;
    sound = l.sound;
    closed = λ y c. ⊎_elim
        (λ (h : dst D y < d). l.closed y (inl h))
        (λ h. ⊎_elim
        (λ (k : x ≤ y). let same : y ≡ x = omega (arith, h.1) in absurd (other (rw same at h.0)))
        (λ (k : y < x). l.closed y (inr (h.0, k)))
        (either_way x y))
        c;
  }

  -- a node that is: its steps are taken
  pub level_on : {d x : ℕ} {D F D' F' : List ℕ} {r : Bool} → dst D x ≡ d → d + 1 < far → Spreads (Step x) x (d + 1) D F D' F' r
      → Level Start Step d x D F → Level Start Step d (x + 1) D' F'
  level_on {d} {x} {D} {F} {D'} {F'} here small s l = record {
    entered = λ y i. let e = l.entered y i in (s.kept y (omega arith)).0 ∙ e;
    low = low';
    sound = λ y r. ⊎_elim
        (λ (o : dst D y < far).
        let (e, f) = s.kept y o in
        ⊎_elim
        (λ (i : Start y × (dst D y ≡ 0)). inl (i.0, e ∙ i.1))
        (λ (i : Step (get_or F y 0) y × (dst D (get_or F y 0) + 1 ≡ dst D y)).
        let g : dst D' (get_or F y 0) ≡ dst D (get_or F y 0) = (s.kept (get_or F y 0) (omega (arith, i.1))).0 in
        inr (rw f i.0, rw (f, e, g) i.1))
        (l.sound y o))
        (λ w. let g : dst D' x ≡ d = (s.kept x (omega arith)).0 ∙ here in inr (rw w.2 w.0, rw (w.1, w.2, g) refl))
        (s.only y r);
    closed = λ y c z i. ⊎_elim
        (λ (h : dst D' y < d). old y (omega arith) (λ e. inl (rw e at h)) z i)
        (λ h. ⊎_elim
        (λ (k : x ≤ y).
        let same : y ≡ x = omega (arith, h.1) in
        let t = s.done z (rw same at i) in
        (t, omega (arith, low' z t, h.0)))
        (λ (k : y < x). old y (omega (arith, h.0)) (λ e. inr (sym e ∙ h.0, k)) z i)
        (either_way x y))
        c;
  }
    where
      low' : (y : ℕ) → dst D' y < far → dst D' y ≤ d + 1
      low' y r = ⊎_elim (λ (o : dst D y < far). omega (arith, (s.kept y o).0, l.low y o)) (λ w. omega (arith, w.1)) (s.only y r)

      old : (y : ℕ) → dst D' y ≤ d → (dst D' y ≡ dst D y → (dst D y < d) ⊎ ((dst D y ≡ d) × (y < x))) → (z : ℕ) → Step y z
          → (dst D' z < far) × (dst D' z ≤ dst D' y + 1)
      old y h c z i =
          ⊎_elim
          (λ (o : dst D y < far).
          let e = (s.kept y o).0 in
          let (t, b) = l.closed y (c e) z i in
          let f = (s.kept z t).0 in
          (omega arith, omega arith))
          (λ w. absurd (let z : ⊥ = omega (arith, w.1) in z))
          (s.only y (omega arith))

  -- one node, as the code has it
  pub one_taken : {d x : ℕ} {D F D' F' : List ℕ} {r : Bool} → d + 1 < far → TakesUp (Step x) x d D F D' F' r → Level Start Step d x D F
      → Level Start Step d (x + 1) D' F'
  one_taken small (inl (here, s)) l = level_on here small s l
  one_taken small (inr (other, e, f, n)) l = rw (e, f) (level_past other l)

  -- the next layer
  pub level_end : {d : ℕ} {D F : List ℕ} (k : ℕ) {new : Bool} → d < far → d < k → k + from_bool new ≤ reached_in D
      → (new ≡ false → (y : ℕ) → dst D y < far → dst D y ≤ d) → Level Start Step d (length D) D F → Layer Start Step (d + 1) D F
  level_end {d} {D} {F} k {new} small few more none l = record {
    entered = l.entered;
    low = l.low;
    sound = l.sound;
    closed = λ y h. ⊎_elim
        (λ (u : d ≤ dst D y). l.closed y (inr (omega arith, reached_inside D y (omega arith))))
        (λ (u : dst D y < d). l.closed y (inl u))
        (either_way d (dst D y));
    short = λ y r. by new refl y r;
  }
    where
      by : (b : Bool) → new ≡ b → (y : ℕ) → dst D y < far → dst D y < reached_in D
      by true e y r = let n : from_bool new ≡ 1 = rw e refl in omega (arith, l.low y r)
      by false e y r = omega (arith, none e y r)

  -- the last one
  pub measured : {d : ℕ} {D F : List ℕ} → ((y : ℕ) → dst D y < far → dst D y < d) → Layer Start Step d D F → Measured Start Step D F
  measured {d} {D} all l = record {
    entered = l.entered;
    sound = l.sound;
    closed = λ y r. l.closed y (all y r);
    short = λ y r. omega (arith, l.short y r, count_below D);
  }

  -- the first one: the entries
  pub layer_first : {x : ℕ} {D₀ F₀ D F : List ℕ} {r : Bool} → ((y : ℕ) → dst D₀ y < far → ⊥) → Spreads Start x 0 D₀ F₀ D F r → Layer Start Step 0 D F
  layer_first {D₀ = D₀} {D = D} {r = r} none s = record {
    entered = λ y i. (at_zero y (s.done y i)).1;
    low = λ y h. omega (arith, (at_zero y h).1);
    sound = λ y h. inl (at_zero y h);
    closed = λ y h. absurd (let z : ⊥ = omega arith in z);
    short = λ y h. by r refl y h;
  }
    where
      at_zero : (y : ℕ) → dst D y < far → Start y × (dst D y ≡ 0)
      at_zero y h = ⊎_elim (λ (o : dst D₀ y < far). absurd (none y o)) (λ w. (w.0, w.1)) (s.only y h)

      by : (b : Bool) → r ≡ b → (y : ℕ) → dst D y < far → dst D y < reached_in D
      by true e y h = let n : from_bool r ≡ 1 = rw e refl in omega (arith, s.more, (at_zero y h).1)
      by false e y h = absurd (none y (s.none e y h))

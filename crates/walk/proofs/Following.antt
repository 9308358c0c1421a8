-- Steps followed one after the other, and what waits after them. Assumes nothing.
use mathlib.Core.Path.{◌≡◌, refl, sym, ap, ◌∙◌}
use mathlib.Core.Bool.{Bool, true, false, not}
use mathlib.Core.List.{List, [], ◌∷◌, ◌++◌}
use mathlib.Core.Logic.{⊎_elim}
use Prim.Native.Nat.{ℕ, ◌<◌}
use native.Mathlib.Omega.{arith}
use lib.ListN.{length, get_or, set}
use lib.Seq.{get_or-set_other}
use Rattle.walk_marks.specs.Looking.{First}
use Rattle.walk_marks.specs.Marks.{Marked, mark_all}
use Rattle.walk_marks.proofs.Looking.{first_is, first_none}
use Rattle.walk_marks.proofs.Marking.{by_test, true_false, same_or_not, set_new, set_keeps, set_only, stays, all_append, one_more}
use Rattle.walk.specs.Search.{Among, Followed, Next}

-- a test that was turned round
pub unset : (b : Bool) → not b ≡ true → b ≡ false
unset true e = sym e
unset false e = refl

pub isset : (b : Bool) → not b ≡ false → b ≡ true
isset true e = refl
isset false e = sym e

unchanged : {m w : List Bool} {qs : List ℕ} → m ≡ mark_all m qs → Followed m w qs m w
unchanged e = record {
  marks = e;
  keeps = λ p is. is;
  new = λ p no' is. true_false (sym is ∙ no');
  same = λ p s. refl;
  number = λ h. refl;
}

module _ (m w : List Bool) where
  -- no step
  pub no_step : Followed m w [] m w
  no_step = unchanged refl

module _ (m w : List Bool) (q : ℕ) where
  -- a place that is marked already
  pub known : Marked m q → Followed m w (q ∷ []) m w
  known e = unchanged (stays m q true e)

  -- a new mark
  pub marked : {m' w' : List Bool} → q < length m → q < length w → get_or m q false ≡ false → m' ≡ set m q true → w' ≡ set w q true
      → Followed m w (q ∷ []) m' w'
  marked in-m in-w fresh e e' = record {
    marks = e;
    keeps = λ p is. rw e (set_keeps m p q in-m is);
    new = λ p no' is.
        rw e'
        (⊎_elim (λ (s : p ≡ q). rw s (set_new w q in-w)) (λ (old : Marked m p). true_false (sym old ∙ no')) (set_only m p q (rw e at is)));
    same = λ p s.
        rw e'
        (⊎_elim
        (λ (here : p ≡ q). true_false (sym (set_new m q in-m) ∙ (rw (e, here) at s) ∙ fresh))
        (λ (other : p ≡ q → ⊥). get_or-set_other w q p true false other)
        (same_or_not p q));
    number = λ among.
        let idle : get_or w q false ≡ false = by_test (get_or w q false) (λ is. true_false (sym (among q is) ∙ fresh)) (λ no'. no') in
        rw (e, e') (omega (arith, one_more m q in-m fresh, one_more w q in-w idle));
  }

-- what waits stays among what is reached
pub among_still : {m w m' w' : List Bool} {qs : List ℕ} → Followed m w qs m' w' → Among w m → Among w' m'
among_still {m} {m' = m'} f among p e =
    by_test (get_or m' p false) (λ is. is)
    (λ no'.
    by_test (get_or m p false) (λ was. f.keeps p was)
    (λ never. true_false (sym (among p (sym (f.same p (no' ∙ sym never)) ∙ e)) ∙ never)))

-- first some, then others
pub both_followed : {m w m' w' m'' w'' : List Bool} {xs ys : List ℕ} → Followed m w xs m' w' → Followed m' w' ys m'' w''
    → Followed m w (xs ++ ys) m'' w''
both_followed {m} {m' = m'} {xs = xs} {ys = ys} f g = record {
  marks = g.marks ∙ ap (λ (x : List Bool). mark_all x ys) f.marks ∙ sym (all_append m xs ys);
  keeps = λ p is. g.keeps p (f.keeps p is);
  new = λ p no' is.
      by_test (get_or m' p false) (λ between. g.same p (is ∙ sym between) ∙ f.new p no' between) (λ yet. g.new p yet is);
  same = λ p s.
      by_test (get_or m p false)
      (λ was. let still = f.keeps p was in g.same p (g.keeps p still ∙ sym still) ∙ f.same p (still ∙ sym was))
      (λ never.
      by_test (get_or m' p false)
      (λ between. true_false (sym (g.keeps p between) ∙ s ∙ never))
      (λ yet. g.same p (s ∙ never ∙ sym yet) ∙ f.same p (yet ∙ sym never)));
  number = λ among. omega (arith, f.number among, g.number (among_still f among));
}

-- a first place that waits is the next one; if there is none from the start on, none waits
pub next_here : {w : List Bool} {p r : ℕ} → First w p r → r < length w → Next w r
next_here f h = record {
  waits = λ l. first_is f l;
  none = λ l. absurd (let z : ⊥ = omega arith in z);
}

pub next_from_start : {w : List Bool} {r : ℕ} → First w 0 r → Next w r
next_from_start f = record {
  waits = λ l. first_is f l;
  none = λ l. first_none f l;
}

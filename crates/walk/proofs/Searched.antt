-- The search's invariant, for any steps that stay below n. Assumes nothing.
use mathlib.Core.Path.{◌≡◌, sym, ◌∙◌}
use mathlib.Core.Bool.{Bool, true, false}
use mathlib.Core.List.{List, []}
use mathlib.Core.Logic.{⊎_elim}
use Prim.Native.Nat.{ℕ, ◌+◌, ◌≤◌, ◌<◌}
use native.Mathlib.Nat.{zero-add}
use native.Mathlib.Omega.{arith}
use lib.ListN.{length, get_or, set, replicate, length-set, length-replicate}
use lib.Seq.{get_or-set_other}
use Rattle.walk_marks.specs.Marks.{In, Marked, how_many}
use Rattle.walk_marks.proofs.Marking.{Below, by_test, true_false, same_or_not, unmarked, set_new, set_only, all_new, all_only}
use Rattle.walk_marks.proofs.Marking.{count_below, none_counted, one_less}
use Rattle.walk.specs.Reached.{Reached, Exact}
use Rattle.walk.specs.Search.{Among, Followed, Next}
use Rattle.walk.proofs.Chains.{reached_on, holds_where_reached}
use Rattle.walk.proofs.Following.{among_still}

-- the entry is marked; what is marked is reached; what waits is marked; of what is marked and does not wait each step is marked; and so much is taken
-- up that with what waits it is as much as is marked
pub record Searched (steps : ℕ → List ℕ) (entry : ℕ) (m w : List Bool) (words : ℕ) : Type 0 where
  pub started : Marked m entry
  pub sound : (p : ℕ) → Marked m p → Reached steps entry p
  pub among : Among w m
  pub closed : (p q : ℕ) → Marked m p → get_or w p false ≡ false → In q (steps p) → Marked m q
  pub counted : words + how_many w ≡ how_many m

-- at first the entry is the place that waits
pub entry_waits : {w : List Bool} (entry k : ℕ) → entry < k → w ≡ set (replicate k false) entry true → Next w entry
entry_waits entry k h e =
    let long : length (set (replicate k false) entry true) ≡ k = length-set (replicate k false) entry true ∙ length-replicate k false in
    record {
      waits = λ l. rw e (set_new (replicate k false) entry (rw (length-replicate k false) h));
      none = λ l. absurd (let z : ⊥ = omega (arith, rw (e, long) at l) in z);
    }

module _ (steps : ℕ → List ℕ) (n : ℕ) (below : (p : ℕ) → Below n (steps p)) (entry : ℕ) where
  -- the entry is reached, and waits
  pub begun : {m w : List Bool} (k : ℕ) → entry < k → m ≡ set (replicate k false) entry true → w ≡ m → Searched steps entry m w 0
  begun {m} k h e e' = record {
    started = rw e (set_new (replicate k false) entry (rw (length-replicate k false) h));
    sound = λ p is. ([], sym (alone p is));
    among = λ p is. rw e' at is;
    closed = λ p q is idle i. true_false (sym is ∙ (rw e' at idle));
    counted = rw e' (zero-add (how_many m));
  }
    where
      alone : (p : ℕ) → Marked m p → p ≡ entry
      alone p is =
          ⊎_elim (λ (s : p ≡ entry). s) (λ old. true_false (sym old ∙ unmarked k p)) (set_only (replicate k false) p entry (rw e at is))

  -- a place that waits is taken up
  pub took : {m w m' w' : List Bool} {words at : ℕ} → Searched steps entry m w words → Marked w at → n ≤ length m
      → Followed m (set w at false) (steps at) m' w' → Searched steps entry m' w' (words + 1)
  took {m} {w} {m'} {w'} {words} {at} f waits room fl = record {
    started = fl.keeps entry f.started;
    sound = λ p is.
        ⊎_elim
        (λ (i : In p (steps at)). reached_on steps entry at p (f.sound at here) i)
        (λ (old : Marked m p). f.sound p old)
        (all_only m (steps at) p (rw fl.marks at is));
    among = among_still fl fewer;
    closed = λ p q is idle i.
        by_test (get_or m p false)
        (λ was.
        let waited = sym (fl.same p (is ∙ sym was)) ∙ idle in
        ⊎_elim
        (λ (s : p ≡ at). new q (rw s at i))
        (λ (other : p ≡ at → ⊥). fl.keeps q (f.closed p q was (sym (get_or-set_other w at p false false other) ∙ waited) i))
        (same_or_not p at))
        (λ never. true_false (sym (fl.new p never is) ∙ idle));
    counted = omega (arith, f.counted, one_less w at waits, fl.number fewer);
  }
    where
      here : Marked m at
      here = f.among at waits

      fewer : Among (set w at false) m
      fewer p is =
          ⊎_elim
          (λ (s : p ≡ at). rw s here)
          (λ (other : p ≡ at → ⊥). f.among p (sym (get_or-set_other w at p false false other) ∙ is))
          (same_or_not p at)

      new : (q : ℕ) → In q (steps at) → Marked m' q
      new q i = rw fl.marks (all_new m (steps at) q (λ x j. omega (arith, below at x j)) i)

  -- no chain leaves the places
  pub stays_inside : (p : ℕ) → Reached steps entry p → entry < n → p < n
  stays_inside p r starts = holds_where_reached steps (λ q. q < n) (λ p q l i. below p q i) entry p r starts

  module _ {m w : List Bool} {words : ℕ} (f : Searched steps entry m w words) where
    -- what waits is a place, and fewer are taken up than there are marks
    pub waits_inside : {at : ℕ} → Marked w at → entry < n → at < n
    waits_inside {at} waits starts = stays_inside at (f.sound at (f.among at waits)) starts

    pub some_left : (at : ℕ) → Marked w at → words < length m
    some_left at waits = omega (arith, f.counted, one_less w at waits, count_below m)

    -- where none waits, all is found
    pub finished : ((p : ℕ) → get_or w p false ≡ false) → Exact steps entry m × (words ≡ how_many m)
    finished none = (
      λ p. (f.sound p, λ r. holds_where_reached steps (Marked m) (λ p q is i. f.closed p q is (none p) i) entry p r f.started),
      omega (arith, f.counted, none_counted w none),
    )

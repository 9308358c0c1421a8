-- Runs with a stack and summaries agree. Assumes nothing.
use mathlib.Core.Path.{◌≡◌, refl}
use mathlib.Core.Bool.{Bool, true}
use mathlib.Core.List.{List, [], ◌∷◌}
use mathlib.Core.Logic.{inl, inr, ⊎_elim, ◌↔◌}
use Prim.Native.Nat.{ℕ, zero, suc, ◌+◌, ◌≤◌, ◌<◌}
use native.Mathlib.Omega.{arith}
use Rattle.rule_runs.specs.Runs.{Program, Run, Run.starts, Run.step, Run.call, Run.return, Reaches}
use Rattle.rule_runs.specs.Summaries.{Steps, Way, Way.here, Way.on, Summary, Same, Flow, Back, Ret, Ever, Walks, Finds, Within, Met, Once.ends, Once.onward, Once.over, OncePast, Settled}
use Rattle.rule_runs.proofs.Tests.{either_way}

-- chains
along : {R T : Steps} → ((p : ℕ) (s : Bool) (q : ℕ) (u : Bool) → R p s q u → T p s q u)
    → {p : ℕ} {s : Bool} {q : ℕ} {u : Bool} → Way R p s q u → Way T p s q u
along f here = here
along f (on w x) = on (along f w) (f _ _ _ _ x)

append : {R : Steps} {p q : ℕ} {s u : Bool} {r : ℕ} {v : Bool} → Way R p s q u → Way R q u r v → Way R p s r v
append w here = w
append w (on x y) = on (append w x) y

module _ {P : Program} where
  -- more summaries, more steps
  same_more : {S T : Summary} → Within S T → {p q : ℕ} {s u : Bool} → Same P S p s q u → Same P T p s q u
  same_more f (inl x) = inl x
  same_more f (inr o) =
      inr (record { routine = o.routine; state = o.state; called = o.called; left = o.left; summary = f _ _ _ o.summary; back = o.back })

  back_more : {S T : Summary} → Within S T → {t : ℕ} {s u : Bool} → Back P S t s u → Back P T t s u
  back_more f b =
      record { place = b.place; state = b.state; way = along (λ p s q u. same_more f) b.way; left = b.left; returns = b.returns }

  pub flow_more : {S T : Summary} → Within S T → {p q : ℕ} {s u : Bool} → Flow P S p s q u → Flow P T p s q u
  flow_more f (inl x) = inl (same_more f x)
  flow_more f (inr x) = inr x

  walks_more : {S T : Summary} → Within S T → {p : ℕ} {s : Bool} → Walks P S p s → Walks P T p s
  walks_more f (e, i, w) = (e, i, along (λ p s q u. flow_more f) w)

  pub ret_more : (k : ℕ) → Within (Ret P k) (Ret P (suc k))
  ret_more zero t s u r = absurd r
  ret_more (suc k) t s u b = back_more (ret_more k) b

-- Nothing that a run does is missed: each frame on its stack was entered by a call from the one below, with a chain of steps inside each.
data Framed (P : Program) (k : ℕ) : ℕ → Bool → List ℕ → Type 0 where
  base : {e p : ℕ} {s : Bool} → P.entry e → Way (Same P (Ret P k)) e true p s → Framed P k p s []
  frame : {c t p : ℕ} {r u s : Bool} {st : List ℕ} → Framed P k c r st → P.leaves c r u ≡ true → P.calls c t → Way (Same P (Ret P k)) t u p s
      → Framed P k p s (P.behind c ∷ st)

module _ {P : Program} where
  framed_on : {k p q : ℕ} {s u : Bool} {st : List ℕ} → Framed P k p s st → Same P (Ret P k) p s q u → Framed P k q u st
  framed_on (base i w) x = base i (on w x)
  framed_on (frame f a i w) x = frame f a i (on w x)

  deeper : {k p : ℕ} {s : Bool} {st : List ℕ} → Framed P k p s st → Framed P (suc k) p s st
  deeper {k} (base i w) = base i (along (λ p s q u. same_more (ret_more k)) w)
  deeper {k} (frame f a i w) = frame (deeper f) a i (along (λ p s q u. same_more (ret_more k)) w)

  returned : {k p q : ℕ} {s u : Bool} {st : List ℕ} → Framed P k p s (q ∷ st) → P.leaves p s u ≡ true → P.returns p ≡ true
      → Framed P (suc k) q u st
  returned (frame f a i w) b r =
      framed_on (deeper f)
      (inr (record {
        routine = _;
        state = _;
        called = i;
        left = a;
        summary = record { place = _; state = _; way = w; left = b; returns = r };
        back = refl;
      }))

  framed : {p : ℕ} {s : Bool} {st : List ℕ} → Run P p s st → (k : ℕ) × Framed P k p s st
  framed (starts i) = (zero, base i here)
  framed (step r a i) = let (k, f) = framed r in (k, framed_on f (inl (i, a)))
  framed (call r a i) = let (k, f) = framed r in (k, frame f a i here)
  framed (return r a e) = let (k, f) = framed r in (suc k, returned f a e)

  walks : {k p : ℕ} {s : Bool} {st : List ℕ} → Framed P k p s st → Walks P (Ret P k) p s
  walks (base i w) = (_, i, along (λ p s q u. inl) w)
  walks (frame f a i w) = let (e, j, v) = walks f in (e, j, append (on v (inr (i, a))) (along (λ p s q u. inl) w))

  -- No alarm without a run.
  same_run : {S : Summary} → Met P S → {p q : ℕ} {s u : Bool} {st : List ℕ} → Same P S p s q u → Run P p s st → Run P q u st
  same_run m (inl x) r = step r x.1 x.0
  same_run m {st = st} (inr o) r = rw o.back (m o.routine o.state _ o.summary _ st (call r o.left o.called))

  way_run : {S : Summary} → Met P S → {p : ℕ} {s : Bool} {q : ℕ} {u : Bool} {st : List ℕ} → Way (Same P S) p s q u → Run P p s st → Run P q u st
  way_run m here r = r
  way_run m (on w x) r = same_run m x (way_run m w r)

  ret_met : (k : ℕ) → Met P (Ret P k)
  ret_met zero t s u a q st r = absurd a
  ret_met (suc k) t s u b q st r = return (way_run (ret_met k) b.way r) b.left b.returns

  flow_run : {S : Summary} → Met P S → {e p : ℕ} {s : Bool} → P.entry e → Way (Flow P S) e true p s → (st : List ℕ) × Run P p s st
  flow_run m i here = ([], starts i)
  flow_run m i (on w (inl x)) = let (st, r) = flow_run m i w in (st, same_run m x r)
  flow_run m i (on w (inr x)) = let (st, r) = flow_run m i w in (_, call r x.1 x.0)

-- THE THEOREM: "some run reaches a place in a state exactly if some G_k does"
pub exact : (P : Program) (p : ℕ) (s : Bool) → ((st : List ℕ) × Run P p s st) ↔ ((k : ℕ) × Walks P (Ret P k) p s)
exact P p s = (λ (st, r). ((framed r).0, walks (framed r).1), λ (k, f). flow_run (ret_met k) f.1 f.2)

-- so runs reach what is of a kind exactly if some G_k does
pub reached : (P : Program) (A : ℕ → Bool → Type 0) → Reaches P A ↔ ((k : ℕ) × Finds P (Ret P k) A)
reached P A = (
  λ (p, s, st, r, a). let (k, w) = (exact P p s).0 (st, r) in (k, (p, s, w, a)),
  λ (k, (p, s, w, a)). let (st, r) = (exact P p s).1 (k, w) in (p, s, st, r, a),
)

-- "once a round adds nothing, no later one does, and G_k decides"
module _ {P : Program} where
  finds_more : {S T : Summary} → Within S T → {A : ℕ → Bool → Type 0} → Finds P S A → Finds P T A
  finds_more f (p, s, w, a) = (p, s, walks_more f w, a)

  all_within : {S : Summary} → Within (Back P S) S → (k : ℕ) → Within (Ret P k) S
  all_within c zero t s u r = absurd r
  all_within c (suc k) t s u b = c t s u (back_more (all_within c k) b)

ret_later : (P : Program) (k j : ℕ) → k ≤ j → Within (Ret P k) (Ret P j)
ret_later P k zero h t s u r = let none : k ≡ 0 = omega arith in rw none at r
ret_later P k (suc j) h t s u r =
    ⊎_elim
    (λ (l : k ≤ j). ret_more {P = P} j t s u (ret_later P k j l t s u r))
    (λ (l : j < k). let last : k ≡ suc j = omega arith in rw last at r)
    (either_way k j)

module _ (P : Program) (k : ℕ) (still : Within (Ret P (suc k)) (Ret P k)) where
  pub no_later : (j : ℕ) → k ≤ j → Within (Ret P j) (Ret P k) × Within (Ret P k) (Ret P j)
  no_later j h = (all_within still j, ret_later P k j h)

  pub decides : (A : ℕ → Bool → Type 0) → Reaches P A ↔ Finds P (Ret P k) A
  decides A = (λ b. let (j, a) = (reached P A).0 b in finds_more (all_within still j) a, λ a. (reached P A).1 (k, a))

-- The same for a table of summaries that is filled place by place.
module _ {P : Program} where
  -- what follows by one place from what holds holds
  before : {S : Summary} {p q : ℕ} {s v u : Bool} → Same P S p s q v → Back P S q v u → Back P S p s u
  before x b = record { place = b.place; state = b.state; way = append (on here x) b.way; left = b.left; returns = b.returns }

  pub once_ever : {S : Summary} → Within S (Ever P) → Within (OncePast P S) (Ever P)
  once_ever f p s u (v, l, ends e same) = (1, record { place = p; state = s; way = here; left = rw same at l; returns = e })
  once_ever f p s u (v, l, onward q i x) = by (f q v u x)
    where
      by : Ever P q v u → Ever P p s u
      by (zero, r) = absurd r
      by (suc k, b) = (suc k, before (inl (i, l)) b)
  once_ever f p s u (v, l, over t w i x y) = by (f t v w x) (f (P.behind p) w u y)
    where
      by : Ever P t v w → Ever P (P.behind p) w u → Ever P p s u
      by (k, r) (zero, a) = absurd a
      by (k, r) (suc j, b) =
          let within : Within (Ret P j) (Ret P (k + j)) = ret_later P j (k + j) (omega arith) in
          let called : Ret P (k + j) t v w = ret_later P k (k + j) (omega arith) t v w r in
          (suc (k + j), before (inr (record { routine = t; state = v; called = i; left = l; summary = called; back = refl })) (back_more within b))

  -- and where that adds nothing, no way to a return does
  same_within : {S : Summary} → Within (OncePast P S) S → {p q : ℕ} {s u v : Bool} → Same P S p s q u → S q u v → S p s v
  same_within c {u = u} (inl x) y = c _ _ _ (u, x.1, onward _ x.0 y)
  same_within c {v = v} (inr o) y = c _ _ _ (o.state, o.left, over o.routine _ o.called o.summary (rw o.back at y))

  way_within : {S : Summary} → Within (OncePast P S) S → {p : ℕ} {s : Bool} {q : ℕ} {u v : Bool} → Way (Same P S) p s q u → S q u v → S p s v
  way_within c here y = y
  way_within c (on w x) y = way_within c w (same_within c x y)

  back_within : {S : Summary} → Within (OncePast P S) S → Within (Back P S) S
  back_within c t s u b = way_within c b.way (c _ _ _ (u, b.left, ends b.returns refl))

-- so a table that is settled says what holds, and nothing else
pub settled : {P : Program} {S : Summary} → Settled P S → Within S (Ever P) × Within (Ever P) S
settled d = (d.sound, λ t s u (k, r). all_within (back_within d.closed) k t s u r)

-- and that decides
module _ {P : Program} where
  ever_met : Met P (Ever P)
  ever_met t s u (k, r) q st run = ret_met k t s u r q st run

pub ever_decides : (P : Program) (A : ℕ → Bool → Type 0) → Reaches P A ↔ Finds P (Ever P) A
ever_decides P A = (
  λ b. let (k, a) = (reached P A).0 b in finds_more (λ t s u r. (k, r)) a,
  λ (p, s, (e, i, w), a). let (st, r) = flow_run (ever_met {P = P}) i w in (p, s, st, r, a),
)

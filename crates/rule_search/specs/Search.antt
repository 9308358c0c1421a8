-- The final walk over nodes, a node for each place and state, by layers.
use Rattle.std.specs.Int.{from_bool}
use Rattle.std.specs.Prelude.{◌≡◌, Bool, true, false, List, [], ◌∷◌, ◌⊎◌, ℕ, ◌+◌, ◌*◌, ◌/◌, ◌%◌, ◌≤◌, ◌<◌, eqb, ltb, length, get_or}
use Rattle.rule_runs.specs.Runs.{Program}
use Rattle.rule_runs.specs.Summaries.{Summary, Flow}
use Rattle.rule_places.specs.Coded.{has, flags_at, NEXT, TARGET, CALLS, target_at, Target, Below}
use Rattle.rule_returns.specs.Table.{Table}
use Rattle.rule_places.specs.declared.Coded.{Coded}
use Rattle.rule_search.specs.declared.Reached.{Reached}
use Rattle.rule_search.specs.declared.Step.{Step}

abbrev pub node : ℕ → Bool → ℕ
node p s = 2 * p + from_bool s

abbrev pub dirty_at : ℕ → Bool
dirty_at x = eqb (x % 2) 1

-- a step from a node to a node, and a node of an entry
abbrev pub StepTo : Program → Summary → ℕ → ℕ → Type 0
StepTo P S x y = (q : ℕ) × (u : Bool) × (y ≡ node q u) × Flow P S (x / 2) (dirty_at x) q u

abbrev pub StartAt : Program → ℕ → Type 0
StartAt P y = (e : ℕ) × P.entry e × (y ≡ node e true)

-- what stands for "not reached", how many steps away a node is, and how many nodes are reached
abbrev pub far : ℕ
far = 65535

abbrev pub dst : List ℕ → ℕ → ℕ
dst D y = get_or D y far

abbrev pub reached_in : List ℕ → ℕ
reached_in [] = 0
reached_in (x ∷ l) = from_bool (ltb x far) + reached_in l

-- D has the length of a shortest chain of steps to each node that is reached, and F the node before it on one; far stands at every other
pub record Measured (Start : ℕ → Type 0) (Step : ℕ → ℕ → Type 0) (D F : List ℕ) : Type 0 where
  pub entered : (y : ℕ) → Start y → dst D y ≡ 0
  pub sound : (y : ℕ) → dst D y < far → (Start y × (dst D y ≡ 0)) ⊎ (Step (get_or F y 0) y × (dst D (get_or F y 0) + 1 ≡ dst D y))
  pub closed : (y : ℕ) → dst D y < far → (z : ℕ) → Step y z → (dst D z < far) × (dst D z ≤ dst D y + 1)
  pub short : (y : ℕ) → dst D y < far → dst D y < length D

-- the parts: the nodes of the kind Y that were not reached are reached from x, in d steps; r says whether one was
pub record Spreads (Y : ℕ → Type 0) (x d : ℕ) (D F D' F' : List ℕ) (r : Bool) : Type 0 where
  pub kept : (y : ℕ) → dst D y < far → (dst D' y ≡ dst D y) × (get_or F' y 0 ≡ get_or F y 0)
  pub only : (y : ℕ) → dst D' y < far → (dst D y < far) ⊎ (Y y × (dst D' y ≡ d) × (get_or F' y 0 ≡ x))
  pub done : (y : ℕ) → Y y → dst D' y < far
  pub more : reached_in D + from_bool r ≤ reached_in D'
  pub none : r ≡ false → (y : ℕ) → dst D' y < far → dst D y < far

-- the target q of p is entered in state v, and what is called comes back to the next place as the table says
abbrev pub Enters : List Bool → Bool → ℕ → Bool → ℕ → ℕ → Type 0
Enters marks calls q v p y = (y ≡ node q v) ⊎ ((w : Bool) × (calls ≡ true) × Table marks q v w × (y ≡ node (p + 1) w))

-- where the place p leads that leaves state v
abbrev pub LeadsOn : List ℕ → List ℕ → List ℕ → List Bool → ℕ → Bool → ℕ → Type 0
LeadsOn flags targets further marks p v y =
    ((has (flags_at flags p) NEXT ≡ true) × (y ≡ node (p + 1) v))
    ⊎ ((q : ℕ) × Target flags targets further p q × Enters marks (has (flags_at flags p) CALLS) q v p y)

-- a layer, before it is taken up, and with the nodes below x taken up
pub record Layer (Start : ℕ → Type 0) (Step : ℕ → ℕ → Type 0) (d : ℕ) (D F : List ℕ) : Type 0 where
  pub entered : (y : ℕ) → Start y → dst D y ≡ 0
  pub low : (y : ℕ) → dst D y < far → dst D y ≤ d
  pub sound : (y : ℕ) → dst D y < far → (Start y × (dst D y ≡ 0)) ⊎ (Step (get_or F y 0) y × (dst D (get_or F y 0) + 1 ≡ dst D y))
  pub closed : (y : ℕ) → dst D y < d → (z : ℕ) → Step y z → (dst D z < far) × (dst D z ≤ dst D y + 1)
  pub short : (y : ℕ) → dst D y < far → dst D y < reached_in D

pub record Level (Start : ℕ → Type 0) (Step : ℕ → ℕ → Type 0) (d x : ℕ) (D F : List ℕ) : Type 0 where
  pub entered : (y : ℕ) → Start y → dst D y ≡ 0
  pub low : (y : ℕ) → dst D y < far → dst D y ≤ d + 1
  pub sound : (y : ℕ) → dst D y < far → (Start y × (dst D y ≡ 0)) ⊎ (Step (get_or F y 0) y × (dst D (get_or F y 0) + 1 ≡ dst D y))
  pub closed : (y : ℕ) → (dst D y < d) ⊎ ((dst D y ≡ d) × (y < x)) → (z : ℕ) → Step y z → (dst D z < far) × (dst D z ≤ dst D y + 1)

-- the same two lists are noted in, and are as long as they were
abbrev pub SameLists : Reached → Reached → Type 0
SameLists r r' = (r'.dist.ghost_name ≡ r.dist.ghost_name) × (r'.from.ghost_name ≡ r.from.ghost_name)
    × (length r'.dist.now ≡ length r.dist.now) × (length r'.from.now ≡ length r.from.now)

-- what a walk is lent: two numbers for each node
pub record Lent (flags dist from : List ℕ) : Type 0 where
  pub few : length flags ≤ 4096
  pub dist_room : length dist ≡ 2 * length flags + 2
  pub from_room : length from ≡ length dist

-- and that targets are inside
pub record Aims (flags targets further : List ℕ) : Type 0 where
  pub aimed : (p : ℕ) → has (flags_at flags p) TARGET ≡ true → target_at flags targets p < length flags
  pub paired : Below further (length flags)

-- what is noted in, and room in it for what a step leads to
abbrev pub Ready : Coded → Reached → Type 0
Ready c r = Lent c.flags.now r.dist.now r.from.now × Aims c.flags.now c.targets.now c.further.now

abbrev pub Fits : Step → Reached → Type 0
Fits step r = (2 * step.p + 3 < length r.dist.now) × (length r.dist.now ≤ 8194) × (length r.from.now ≡ length r.dist.now) × (step.x < 65536) × (step.d < 65535)

abbrev pub Notes : (ℕ → Type 0) → ℕ → ℕ → Reached → Reached → Bool → Type 0
Notes Y x d r r' new = Spreads Y x d r.dist.now r.from.now r'.dist.now r'.from.now new

-- a node that is d steps away is taken up, and any other is passed over
abbrev pub TakesUp : (ℕ → Type 0) → ℕ → ℕ → List ℕ → List ℕ → List ℕ → List ℕ → Bool → Type 0
TakesUp Y x d D F D' F' r =
    ((dst D x ≡ d) × Spreads Y x (d + 1) D F D' F' r) ⊎ ((dst D x ≡ d → ⊥) × (D' ≡ D) × (F' ≡ F) × (r ≡ false))

-- a layer is taken up: the next one stands there, and r says whether it has a node
pub record Passes (Start : ℕ → Type 0) (Step : ℕ → ℕ → Type 0) (d : ℕ) (D F D' F' : List ℕ) (r : Bool) : Type 0 where
  pub next : Layer Start Step d D F → Layer Start Step (d + 1) D' F'
  pub more : reached_in D + from_bool r ≤ reached_in D'
  pub none : r ≡ false → Layer Start Step d D F → (y : ℕ) → dst D' y < far → dst D' y ≤ d

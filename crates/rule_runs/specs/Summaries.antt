-- Summaries of routines: what runs do, without a stack.
use Rattle.std.specs.Prelude.{◌≡◌, Bool, true, List, ◌∷◌, ◌⊎◌, ℕ, zero, suc}
use Rattle.rule_runs.specs.Runs.{Program, Run}

-- steps from a place in a state to a place in a state, and a chain of them
abbrev pub Steps : Type 1
Steps = ℕ → Bool → ℕ → Bool → Type 0

pub data Way (R : Steps) (p : ℕ) (s : Bool) : ℕ → Bool → Type 0 where
  here : Way R p s p s
  on : {q r : ℕ} {u v : Bool} → Way R p s q u → R q u r v → Way R p s r v

-- a summary says in which states a routine may return that is entered at a place in a state
abbrev pub Summary : Type 1
Summary = ℕ → Bool → Bool → Type 0

-- a call that comes back, by a summary
pub record Over (P : Program) (S : Summary) (p : ℕ) (s : Bool) (q : ℕ) (u : Bool) : Type 0 where
  pub routine : ℕ
  pub state : Bool
  pub called : P.calls p routine
  pub left : P.leaves p s state ≡ true
  pub summary : S routine state u
  pub back : q ≡ P.behind p

-- a step in the routine, and a step of the final walk: also into what is called
abbrev pub Same : Program → Summary → Steps
Same P S p s q u = (P.goes p q × (P.leaves p s u ≡ true)) ⊎ Over P S p s q u

abbrev pub Flow : Program → Summary → Steps
Flow P S p s q u = Same P S p s q u ⊎ (P.calls p q × (P.leaves p s u ≡ true))

-- "from place t in state s, by steps in the routine, and over calls by S, a return is reached that leaves u"
pub record Back (P : Program) (S : Summary) (t : ℕ) (s u : Bool) : Type 0 where
  pub place : ℕ
  pub state : Bool
  pub way : Way (Same P S) t s place state
  pub left : P.leaves place state u ≡ true
  pub returns : P.returns place ≡ true

-- "Ret_0 is empty. Ret_(k+1): by Ret_k"
abbrev pub Ret : Program → ℕ → Summary
Ret P zero t s u = ⊥
Ret P (suc k) t s u = Back P (Ret P k) t s u

-- by some Ret_k: all that is said of returns
abbrev pub Ever : Program → Summary
Ever P t s u = (k : ℕ) × Ret P k t s u

-- "from the entries, by such steps and into callees": G_k is this by Ret_k
abbrev pub Walks : Program → Summary → ℕ → Bool → Type 0
Walks P S p s = (e : ℕ) × P.entry e × Way (Flow P S) e true p s

abbrev pub Finds : Program → Summary → (ℕ → Bool → Type 0) → Type 0
Finds P S A = (p : ℕ) × (s : Bool) × Walks P S p s × A p s

-- all that S says, T says
abbrev pub Within : Summary → Summary → Type 0
Within S T = (t : ℕ) (s u : Bool) → S t s u → T t s u

-- runs meet S: whatever the stack, the routine can be run to such a return
abbrev pub Met : Program → Summary → Type 0
Met P S = (t : ℕ) (s u : Bool) → S t s u → (q : ℕ) (st : List ℕ) → Run P t s (q ∷ st) → Run P q u st

-- what S says follows from S by one place: it leaves v, and then it returns, or goes on to where S says more, or calls what comes back by S
pub data Once (P : Program) (S : Summary) (p : ℕ) (u v : Bool) : Type 0 where
  ends : P.returns p ≡ true → v ≡ u → Once P S p u v
  onward : (q : ℕ) → P.goes p q → S q v u → Once P S p u v
  over : (t : ℕ) (w : Bool) → P.calls p t → S t v w → S (P.behind p) w u → Once P S p u v

abbrev pub OncePast : Program → Summary → Summary
OncePast P S p s u = (v : Bool) × (P.leaves p s v ≡ true) × Once P S p u v

-- S says nothing but what holds, and all that follows from S by one place is in S
pub record Settled (P : Program) (S : Summary) : Type 0 where
  pub sound : Within S (Ever P)
  pub closed : Within (OncePast P S) S

-- What stands at a place of a section adds to its kinds, one at the place of each. Assumes nothing.
use Rattle.std.proofs.Common.{◌≡◌, ℕ, ◌+◌, ◌<◌, ◌≤◌, Bool, true, eqb, ltb, leb, ◌⊎◌, List, sym, refl, ap, ◌∙◌, ⊎_elim, arith, ltb-true, eq-eqb, ne_eqb, eqb-true, leb-true}
use Rattle.word.specs.Refusal.{refused_with}
use borrow.Author.Tests.{eqb-false}
use Rattle.word.specs.Choice.{inside, parts, by_test}
use Rattle.insn.specs.Numbers.{flow_number}
use Rattle.insn.specs.Roots.{NAMES}
use Rattle.insn.specs.Answer.{Decoded, insn_in}
use Rattle.insn.specs.declared.Flow.{Flow}
use Rattle.insn.specs.declared.Flow.TheVariants.{Next, Branch, CondBranch, IndirectBranch, Call, IndirectCall, Return, Trap}
use Rattle.tally.specs.Kinds.{Kind, sections, words, pool, refusal, flow, root, one, word_is, data_is, end_is}
use Rattle.tally.specs.Tally.{plus}
use Rattle.tally.specs.Steps.{at, flow_and_root}
use Rattle.tally.proofs.Adding.{plus_plus, plus_same}
use Rattle.tally.proofs.Places.{off}

-- the kinds that the layout has
abbrev pub is_laid : Kind → Bool
is_laid sections = true
is_laid words = true
is_laid pool = true
is_laid (refusal n) = inside 2 3 n
is_laid (flow n) = ltb n 8
is_laid (root n) = ltb n NAMES

abbrev pub Same : (Kind → ℕ) → (Kind → ℕ) → Type 0
Same m n = (kind : Kind) → is_laid kind ≡ true → m kind ≡ n kind

-- so numbers that are equal on these add the same, at once or one after the other
pub at_once : {m n : Kind → ℕ} → Same m n → (counts : List ℕ) → plus m counts ≡ plus n counts
at_once {m} {n} same counts = plus_same is_laid refl m n same counts

pub in_turn : (m n : Kind → ℕ) {both : Kind → ℕ} → Same (λ kind. m kind + n kind) both → (counts : List ℕ)
    → plus n (plus m counts) ≡ plus both counts
in_turn m n same counts = plus_plus m n counts ∙ at_once same counts

shift : (k a b : ℕ) → one (eqb (k + a) (k + b)) ≡ one (eqb b a)
shift k a b =
    by_test (eqb b a)
    (λ e. ap one (eq-eqb (k + a) (k + b) (omega (arith, eqb-true b a e)) ∙ sym e))
    (λ e. ap one (ne_eqb (k + a) (k + b) (λ same. eqb-false b a e (omega arith)) ∙ sym e))

pub flow_small : (f : Flow) → flow_number f < 8
flow_small Next = omega arith
flow_small (Branch a) = omega arith
flow_small (CondBranch a) = omega arith
flow_small IndirectBranch = omega arith
flow_small (Call a) = omega arith
flow_small IndirectCall = omega arith
flow_small Return = omega arith
flow_small Trap = omega arith

-- a kind of refusals
refusal_laid : (n : ℕ) → is_laid (refusal n) ≡ true → (2 ≤ n) × (n ≤ 3)
refusal_laid n l = let p = parts (leb 2 n) (leb n 3) l in (leb-true 2 n p.0, leb-true n 3 p.1)

module _ (d : Decoded) (ok : refused_with d ≡ 0) where
  f : ℕ
  f = flow_number (insn_in d).flow

  n : ℕ
  n = (insn_in d).name

  pub named_adds : Same (λ kind. at 1 kind + flow_and_root (insn_in d) kind) (λ kind. one (word_is d kind))
  unfolding f n
  named_adds sections l = omega (arith, off 0 (5 + f) (λ e. omega arith), off 0 (13 + n) (λ e. omega arith))
  named_adds words l = omega (arith, off 1 (5 + f) (λ e. omega arith), off 1 (13 + n) (λ e. omega arith))
  named_adds pool l = omega (arith, off 2 (5 + f) (λ e. omega arith), off 2 (13 + n) (λ e. omega arith))
  named_adds (refusal m) l =
      let h = refusal_laid m l in
      omega (
        arith,
        off (1 + m) 1 (λ e. omega arith),
        off (1 + m) (5 + f) (λ e. omega arith),
        off (1 + m) (13 + n) (λ e. omega arith),
        off (refused_with d) m (λ e. omega arith),
      )
  named_adds (flow m) l =
      let h = ltb-true m 8 l in
      simp (eq-eqb (refused_with d) 0 ok)
      (omega (arith, off (5 + m) 1 (λ e. omega arith), off (5 + m) (13 + n) (λ e. omega arith), shift 5 m f))
  named_adds (root m) l =
      simp (eq-eqb (refused_with d) 0 ok)
      (omega (
        arith,
        off (13 + m) 1 (λ e. omega arith),
        off (13 + m) (5 + f) (λ e. omega (arith, flow_small (insn_in d).flow)),
        shift 13 m n,
      ))

module _ (d : Decoded) (bad : (refused_with d ≡ 2) ⊎ (refused_with d ≡ 3)) where
  few : (2 ≤ (refused_with d)) × (refused_with d ≤ 3)
  few = ⊎_elim (λ e. omega arith) (λ e. omega arith) bad

  pub refused_adds : Same (λ kind. at 1 kind + at (1 + (refused_with d)) kind) (λ kind. one (word_is d kind))
  refused_adds sections l = let h = few in omega (arith, off 0 (1 + (refused_with d)) (λ e. omega arith))
  refused_adds words l = let h = few in omega (arith, off 1 (1 + (refused_with d)) (λ e. omega arith))
  refused_adds pool l = let h = few in omega (arith, off 2 (1 + (refused_with d)) (λ e. omega arith))
  refused_adds (refusal m) l = let h = refusal_laid m l in omega (arith, off (1 + m) 1 (λ e. omega arith), shift 1 m (refused_with d))
  refused_adds (flow m) l =
      let h = few in
      simp (ne_eqb (refused_with d) 0 (λ e. omega arith))
      (omega (arith, off (5 + m) 1 (λ e. omega arith), off (5 + m) (1 + (refused_with d)) (λ e. omega arith)))
  refused_adds (root m) l =
      let h = few in
      simp (ne_eqb (refused_with d) 0 (λ e. omega arith))
      (omega (arith, off (13 + m) 1 (λ e. omega arith), off (13 + m) (1 + (refused_with d)) (λ e. omega arith)))

pub data_adds : Same (λ kind. at 1 kind + at 2 kind) (λ kind. one (data_is kind))
data_adds sections l = refl
data_adds words l = refl
data_adds pool l = refl
data_adds (refusal m) l =
    let h = refusal_laid m l in omega (arith, off (1 + m) 1 (λ e. omega arith), off (1 + m) 2 (λ e. omega arith))
data_adds (flow m) l = omega (arith, off (5 + m) 1 (λ e. omega arith), off (5 + m) 2 (λ e. omega arith))
data_adds (root m) l = omega (arith, off (13 + m) 1 (λ e. omega arith), off (13 + m) 2 (λ e. omega arith))

pub end_adds : Same (at 0) (λ kind. one (end_is kind))
end_adds sections l = refl
end_adds words l = refl
end_adds pool l = refl
end_adds (refusal m) l = off (1 + m) 0 (λ e. omega arith)
end_adds (flow m) l = off (5 + m) 0 (λ e. omega arith)
end_adds (root m) l = off (13 + m) 0 (λ e. omega arith)

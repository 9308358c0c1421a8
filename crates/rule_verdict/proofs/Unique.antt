-- No second answer fits the contract of `judge`, as the check reads it from the source, whatever stands in the room that is lent; of the shortest
-- ways the contract takes any. And the answer is a verdict by the definition. Assumes nothing.
use mathlib.Core.Path.{◌≡◌, refl, sym, ap, ◌∙◌}
use mathlib.Core.Bool.{true}
use mathlib.Core.List.{List}
use mathlib.Core.Logic.{◌⊎◌, inl, inr, ⊎_elim}
use Prim.Native.Nat.{ℕ, ◌≤◌, ◌<◌}
use native.Mathlib.Omega.{arith}
use borrow.Author.Tests.{eqb-true, eqb-false}
use lib.Dec.{eqb}
use lib.ListN.{length}
use Rattle.std.specs.Prelude.{Result, Ok, Err}
use Rattle.word.specs.Refusal.{refused_with, numbered, numbered_number, number as refusal}
use Rattle.word.specs.declared.refusal.Refusal.{Refusal}
use Rattle.word.specs.declared.refusal.Refusal.TheVariants as R
use Rattle.rule_runs.specs.Runs.{Program, AtCommit, Broken, Verdict.violated, Verdict.undecided, Verdict.holds, Judges}
use Rattle.rule_runs.proofs.Exact.{ever_decides}
use Rattle.rule_runs.proofs.Tests.{by_test, either_way}
use Rattle.rule_places.specs.Coded.{Inside}
use Rattle.rule_verdict.specs.Verdicts.{Breaks, Undecided, number, value, verdict_of, value_of, Answers, Answers.by_way, Answers.by_place, Answers.by_none, HOLDS, VIOLATED, UNDECIDED, Room, Rules}
use Rattle.rule_verdict.specs.declared.Verdict.{Verdict}
use Rattle.rule_verdict.specs.declared.Verdict.TheVariants as V
use Rattle.rule_verdict.proofs.Ways.{along_walks}
use Rattle.rule_verdict.proofs.Verdict.number.Reads as verdict_number
use Rattle.rule_verdict.proofs.Verdict.value.Reads as verdict_value
use Rattle.rule_verdict.proofs.judge.Reads as judge

-- a verdict is its number and what is given with it
same_verdict : (v v' : Verdict) → number v ≡ number v' → value v ≡ value v' → v ≡ v'
same_verdict V.Holds V.Holds e f = refl
same_verdict V.Holds (V.Violated n) e f = absurd (let z : ⊥ = omega arith in z)
same_verdict V.Holds (V.Undecided n) e f = absurd (let z : ⊥ = omega arith in z)
same_verdict (V.Violated n) V.Holds e f = absurd (let z : ⊥ = omega arith in z)
same_verdict (V.Violated n) (V.Violated n') e f = ap V.Violated f
same_verdict (V.Violated n) (V.Undecided n') e f = absurd (let z : ⊥ = omega arith in z)
same_verdict (V.Undecided n) V.Holds e f = absurd (let z : ⊥ = omega arith in z)
same_verdict (V.Undecided n) (V.Violated n') e f = absurd (let z : ⊥ = omega arith in z)
same_verdict (V.Undecided n) (V.Undecided n') e f = ap V.Undecided f

-- a refusal has a number
numbered_one : (e : Refusal) → 1 ≤ refusal e
numbered_one R.Short = omega arith
numbered_one R.Coprocessor = omega arith
numbered_one R.NoRow = omega arith
numbered_one R.NoWord = omega arith
numbered_one R.BadMark = omega arith
numbered_one R.BadVersion = omega arith
numbered_one R.BadLength = omega arith
numbered_one R.TooManyWords = omega arith
numbered_one R.BadBase = omega arith
numbered_one R.NoRoom = omega arith
numbered_one R.BadRanges = omega arith
numbered_one R.HasRanges = omega arith
numbered_one R.NoPlace = omega arith
numbered_one R.NoRun = omega arith
numbered_one R.TooManyCalls = omega arith
numbered_one R.TooManySections = omega arith

-- an answer is its three numbers
same_answer : (r r' : Result Verdict Refusal) → refused_with r ≡ refused_with r' → verdict_of r ≡ verdict_of r' → value_of r ≡ value_of r' → r ≡ r'
same_answer (Ok v) (Ok v') a b c = ap Ok (same_verdict v v' b c)
same_answer (Ok v) (Err e) a b c = absurd (let z : ⊥ = omega (arith, numbered_one e) in z)
same_answer (Err e) (Ok v) a b c = absurd (let z : ⊥ = omega (arith, numbered_one e) in z)
same_answer (Err e) (Err e') a b c = ap Err (sym (numbered_number e) ∙ ap numbered a ∙ numbered_number e')

-- a way to a commit is a run
pub breaks_broken : {P : Program} {f : ℕ → ℕ} {k : ℕ} → Breaks P f k → Broken P
breaks_broken {P} {f} {k} (a, c) = (ever_decides P (AtCommit P)).1 (f k, true, along_walks a, (c, refl))

-- the answer's verdict is the program's
pub judges : {P : Program} {way last : List ℕ} (v : Verdict) → Answers P way last v
    → ((number v ≡ VIOLATED) × Judges P violated) ⊎ (((number v ≡ UNDECIDED) × Judges P undecided) ⊎ ((number v ≡ HOLDS) × Judges P holds))
judges _ (by_way x) = inl (refl, breaks_broken x.breaks)
judges _ (by_place u e) = let (s, st, run) = u.reached in inr (inl (refl, (u.unbroken, (_, s, st, run, u.opens))))
judges _ (by_none h e) = inr (inr (refl, (h.unbroken, h.closed)))

same_place : {P : Program} {q q' : ℕ} → Undecided P q → Undecided P q' → q ≡ q'
same_place {q} {q'} x y =
    ⊎_elim
    (λ (l : q ≤ q').
    ⊎_elim
    (λ (k : q' ≤ q). omega arith)
    (λ (k : q < q'). let (s, st, run) = x.reached in absurd (y.first q k x.opens s st run))
    (either_way q' q))
    (λ (k : q' < q). let (s, st, run) = y.reached in absurd (x.first q' k y.opens s st run))
    (either_way q q')

module _ {P : Program} {way last last' : List ℕ} where
  pub answers_only : {v v' : Verdict} → Answers P way last v → Answers P way last' v' → v ≡ v'
  answers_only (by_way x) (by_way y) =
      ap V.Violated (omega (arith, x.many, y.many, x.shortest _ y.steps y.breaks, y.shortest _ x.steps x.breaks))
  answers_only (by_way x) (by_place y e) = absurd (y.unbroken (breaks_broken x.breaks))
  answers_only (by_way x) (by_none y e) = absurd (y.unbroken (breaks_broken x.breaks))
  answers_only (by_place x e) (by_way y) = absurd (x.unbroken (breaks_broken y.breaks))
  answers_only (by_place x e) (by_place y e') = ap V.Undecided (same_place x y)
  answers_only (by_place x e) (by_none y e') = let (s, st, run) = x.reached in absurd (y.closed (_, s, st, run, x.opens))
  answers_only (by_none x e) (by_way y) = absurd (x.unbroken (breaks_broken y.breaks))
  answers_only (by_none x e) (by_place y e') = let (s, st, run) = y.reached in absurd (x.closed (_, s, st, run, y.opens))
  answers_only (by_none x e) (by_none y e') = refl

-- numbers that cannot differ are the same
stable : (a b : ℕ) → ((a ≡ b → ⊥) → ⊥) → a ≡ b
stable a b h = by_test (eqb a b) (λ e. eqb-true a b e) (λ e. absurd (h (eqb-false a b e)))

module _ {flags targets further entries known dist from way k d f w k' d' f' w' : List ℕ} {r r' : Result Verdict Refusal} where
  pub rules_only : Rules flags targets further entries known dist from way k d f w r
      → Rules flags targets further entries known dist from way k' d' f' w' r'
      → r ≡ r'
  rules_only p q =
      ⊎_elim
      (λ (h : length flags ≤ 4096).
      let differ : (r ≡ r' → ⊥) → ⊥ = λ no.
      let room : Inside flags targets further entries → Room flags known dist from way → ⊥ = λ i t.
      let (v, e, m, a, y) = p.judged h i t in let (v', e', m', b, z) = q.judged h i t in no (e ∙ ap Ok (answers_only a b) ∙ sym e') in
      let out : Inside flags targets further entries → ⊥ = λ i. no ((p.short h i (room i)).0 ∙ sym (q.short h i (room i)).0) in
      no ((p.outside h out).0 ∙ sym (q.outside h out).0) in
      let refused = stable (refused_with r) (refused_with r') (λ n. differ (λ e. n (ap refused_with e))) in
      let verdict = stable (verdict_of r) (verdict_of r') (λ n. differ (λ e. n (ap verdict_of e))) in
      let given = stable (value_of r) (value_of r') (λ n. differ (λ e. n (ap value_of e))) in
      same_answer r r' refused verdict given)
      (λ (h : 4096 < length flags). (p.many h).0 ∙ sym (q.many h).0)
      (either_way (length flags) 4096)

pub judge_only : (κs : _) (a : _) (r r' : _) (s s' : _) → judge.Post κs a r s → judge.Post κs a r' s' → r ≡ r'
judge_only κs a r r' s s' p q = rules_only p q

pub number_only : (κs : _) (a : _) (r r' : _) (s s' : _) → verdict_number.Post κs a r s → verdict_number.Post κs a r' s' → r ≡ r'
number_only κs a r r' s s' p q = p ∙ sym q

pub value_only : (κs : _) (a : _) (r r' : _) (s s' : _) → verdict_value.Post κs a r s → verdict_value.Post κs a r' s' → r ≡ r'
value_only κs a r r' s s' p q = p ∙ sym q

-- No second result, and no second last state of the lent buffer, fits the contract of `walk`, as the check reads it from the source. Assumes nothing.
use mathlib.Core.Path.{◌≡◌, sym, ap, ◌∙◌}
use mathlib.Core.Bool.{Bool}
use mathlib.Core.List.{List}
use Prim.Native.Nat.{ℕ}
use native.Mathlib.Omega.{arith}
use borrow.Author.Tests.{eqb-true, eqb-false}
use lib.Dec.{eqb}
use Rattle.word.specs.Choice.{by_test}
use Rattle.text.specs.Fits.{last_of}
use Rattle.walk_marks.specs.Marks.{how_many}
use Rattle.walk_marks.proofs.Marking.{same_marks}
use Rattle.walk.specs.Report.{report_of}
use Rattle.walk.specs.Walk.{Answer, refusal_of, answer_of, Reported, Walks}
use Rattle.walk.proofs.walk.Reads as walk

module _ {s : List ℕ} {entry : ℕ} {out : List ℕ} {r r' : Answer} {last last' : List ℕ} where
  -- what is reached has one set of marks, and these have one report
  reported_only : Reported s entry out r last → Reported s entry out r' last' → (r ≡ r') × (last ≡ last')
  reported_only p q =
      let same = same_marks p.marks q.marks (p.long ∙ sym q.long)
      (λ x e. (q.exact x).1 ((p.exact x).0 e)) (λ x e. (p.exact x).1 ((q.exact x).0 e)) in (
        p.answer ∙ ap (λ (m : List Bool). answer_of (report_of s m) (how_many m) out) same ∙ sym q.answer,
        p.left ∙ ap (λ (m : List Bool). last_of (report_of s m) out) same ∙ sym q.left,
      )

  pub walks_only : Walks s entry out r last → Walks s entry out r' last' → (r ≡ r') × (last ≡ last')
  walks_only p q =
      by_test (eqb (refusal_of s entry) 0)
      (λ e. let none = eqb-true (refusal_of s entry) 0 e in reported_only (p.reported none) (q.reported none))
      (λ e.
      let a = p.refused (omega (arith, eqb-false (refusal_of s entry) 0 e)) in
      let b = q.refused (omega (arith, eqb-false (refusal_of s entry) 0 e)) in
      (a.0 ∙ sym b.0, a.1 ∙ sym b.1))

pub walk_only : (κs : _) (a : _) (r r' : _) (s s' : _) → walk.Post κs a r s → walk.Post κs a r' s'
    → (r ≡ r') × (s.1.1.0.now ≡ s'.1.1.0.now)
walk_only κs a r r' s s' p q = walks_only p q

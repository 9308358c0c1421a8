-- How large the numbers of a walk can be. Assumes nothing.
use mathlib.Core.Path.{sym, subst}
use mathlib.Core.List.{List}
use Prim.Native.Nat.{ℕ, ◌≤◌}
use native.Mathlib.Omega.{arith}
use borrow.Author.Tests.{eqb-true, eqb-false}
use lib.Dec.{eqb, leb}
use lib.ListN.{length}
use Rattle.word.specs.Choice.{by_test}
use Rattle.walk_marks.specs.Marks.{how_many}
use Rattle.walk_marks.proofs.Marking.{count_below}
use Rattle.walk.specs.Report.{report_of}
use Rattle.walk.specs.Walk.{Answer, walked_in, refused_by, refusal_of, answer_of, Reported, Walks}
use Rattle.walk.proofs.Records.{enough}

-- four records for each of 4,096 places, and as many words
abbrev pub Small : Answer → Type 0
Small r = ((walked_in r).records ≤ 16384) × ((walked_in r).words ≤ 4096)

none : (n : ℕ) → Small (refused_by n)
none n = (omega arith, omega arith)

answered : (report out : List ℕ) (words : ℕ) → length report ≤ 49152 → words ≤ 4096 → Small (answer_of report words out)
answered report out words few most = unfold answer_of in
    by_test (leb (length report) (length out)) (λ e. simp e (omega arith, most)) (λ e. simp e (none 10))

pub small : {s : List ℕ} {entry : ℕ} {out : List ℕ} {r : Answer} {last : List ℕ} → Walks s entry out r last → Small r
small {s} {entry} {out} {r} walks =
    by_test (eqb (refusal_of s entry) 0)
    (λ e. reported (walks.reported (eqb-true (refusal_of s entry) 0 e)))
    (λ e. subst Small (sym (walks.refused (omega (arith, eqb-false (refusal_of s entry) 0 e))).0) (none (refusal_of s entry)))
  where
    reported : {last : List ℕ} → Reported s entry out r last → Small r
    reported it =
        subst Small (sym it.answer)
        (answered (report_of s it.marks) out (how_many it.marks) (enough s it.marks) (omega (arith, count_below it.marks, it.long)))

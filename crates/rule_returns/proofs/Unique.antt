-- No second result, and no second table, fits the contract of a public function, as the check reads it from the source. Assumes nothing.
use mathlib.Core.Path.{◌≡◌, sym, ◌∙◌}
use mathlib.Core.Bool.{Bool}
use mathlib.Core.List.{List, []}
use Prim.Native.Nat.{ℕ, ◌/◌, ◌%◌}
use native.Mathlib.Omega.{arith}
use lib.Dec.{eqb}
use lib.ListN.{length}
use Rattle.walk_marks.specs.Marks.{marks_of, Marked}
use Rattle.walk_marks.proofs.Marking.{same_marks}
use Rattle.walk_marks.proofs.Marks.{length_marks}
use Rattle.rule_runs.specs.Runs.{Program}
use Rattle.rule_runs.specs.Summaries.{Settled}
use Rattle.rule_runs.proofs.Exact.{settled}
use Rattle.rule_returns.specs.Table.{Table}
use Rattle.rule_returns.proofs.Tables.{slot_at}
use Rattle.rule_returns.proofs.settle.Reads as settle
use Rattle.rule_returns.proofs.table_at.Reads as table_at

pub table_at_only : (κs : _) (a : _) (r r' : _) (s s' : _) → table_at.Post κs a r s → table_at.Post κs a r' s' → r ≡ r'
table_at_only κs a r r' s s' p q = p ∙ sym q

-- a settled table has the marks of what holds
module _ {P : Program} where
  marks_in : (m m' : List Bool) → Settled P (Table m) → Settled P (Table m') → (i : ℕ) → Marked m i → Marked m' i
  marks_in m m' p q i e =
      let t = i / 4 in
      let s = eqb (i / 2 % 2) 1 in
      let u = eqb (i % 2) 1 in
      let here : Table m t s u = rw (slot_at i) e in
      rw (slot_at i) at ((settled q).1 t s u ((settled p).0 t s u here))

  settled_only : (m m' : List Bool) → length m ≡ length m' → Settled P (Table m) → Settled P (Table m') → m ≡ m'
  settled_only m m' long p q = same_marks m m' long (marks_in m m' p q) (marks_in m' m q p)

pub settle_only : (κs : _) (a : _) (r r' : _) (s s' : _) → settle.Post κs a r s → settle.Post κs a r' s'
    → length s.1.0.now ≡ length s'.1.0.now → marks_of s.1.0.now ≡ marks_of s'.1.0.now
settle_only κs a r r' s s' p q long =
    settled_only _ _ (omega (arith, length_marks s.1.0.now, length_marks s'.1.0.now)) (p []) (q [])

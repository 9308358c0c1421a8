-- `section::do_rules_hold` meets its contract. The loop's invariant: the ranges from `i` on decide, after place `from`. Assumes nothing.
use mathlib.Core.Path.{◌≡◌, sym, ◌∙◌}
use mathlib.Core.Bool.{false}
use mathlib.Core.List.{List}
use Prim.Native.Nat.{ℕ, ◌<◌, ◌≤◌}
use native.Mathlib.Omega.{arith}
use borrow.Author.Tests.{le-leb, lt-leb}
use lib.ListN.{length}
use Rattle.section.specs.Ranges.{in_order, rules_hold}
use Rattle.section.specs.Section.{range_at, ranges_of}
use Rattle.section.proofs.Firsts.{so_many}
use Rattle.section.proofs.Ruled.{keeps, breaks, all_kept}
use Rattle.section.proofs.do_rules_hold.Goals as goal

-- so many ranges
module _ (s : List ℕ) (n count : ℕ) where
  too_many : 64 < n → rules_hold count (ranges_of s n) ≡ false
  too_many h = simp (lt-leb (length (ranges_of s n)) 64 (omega (arith, so_many (range_at s) n)))

  not_more : n ≤ 64 → rules_hold count (ranges_of s n) ≡ in_order count 0 (ranges_of s n)
  not_more h = simp (le-leb (length (ranges_of s n)) 64 (omega (arith, so_many (range_at s) n)))

pub returns-then-ranges-gt-MOST_RANGES : goal.returns-then-ranges-gt-MOST_RANGES
returns-then-ranges-gt-MOST_RANGES c =
    let args = c.args in
    sym (too_many args.bytes.now args.ranges args.count c.if-ranges-gt-MOST_RANGES.true)

pub returns-then-not-follows : goal.returns-then-not-follows
returns-then-not-follows c =
    let now = c.loop-i in
    let args = c.args in
    let bad =
    rw c.range_at-range.ensures at (sym c.follows.ensures ∙ c.if-not-follows.true) in
    sym (not_more args.bytes.now args.ranges args.count c.if-ranges-gt-MOST_RANGES.false
    ∙ now.invariant
    ∙ breaks args.bytes.now args.ranges now.i args.count now.from (omega arith) bad)

pub loop-i-preserved : goal.loop-i-preserved
loop-i-preserved c =
    let now = c.loop-i in
    let args = c.args in
    let found = c.range_at-range.ensures in
    let good = rw found at (sym c.follows.ensures ∙ c.if-not-follows.false) in
    now.invariant
    ∙ rw (c.end-from.ensures, found)
    (keeps args.bytes.now args.ranges now.i args.count now.from (omega arith) good)

pub returns : goal.returns
returns c =
    let now = c.loop-i in
    let args = c.args in
    sym (not_more args.bytes.now args.ranges args.count c.if-ranges-gt-MOST_RANGES.false
    ∙ now.invariant
    ∙ all_kept args.bytes.now args.ranges now.i args.count now.from (omega arith))

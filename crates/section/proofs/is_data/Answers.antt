-- `section::is_data` meets its contract. The loop's invariant: no range before `i` has the place. Assumes nothing.
use mathlib.Core.Path.{◌≡◌, sym, ◌∙◌}
use mathlib.Core.Bool.{true}
use mathlib.Core.List.{List}
use Prim.Native.Nat.{ℕ, ◌-◌, ◌*◌, ◌≤◌}
use native.Mathlib.Omega.{arith}
use lib.ListN.{length}
use Rattle.section.specs.Ranges.{in_order}
use Rattle.section.specs.Section.{ranges_of, opening_of}
use Rattle.section.specs.declared.Opened.{Opened}
use Rattle.section.proofs.Accepted.{opened}
use Rattle.section.proofs.Ruled.{starts_beyond, finds, goes_on, none_left_has}
use Rattle.section.proofs.is_data.Goals as goal

module _ (s : List ℕ) (o : Opened) (is : o ≡ opening_of s) where
  there : 8 * o.ranges ≤ length s - 11
  there = rw is (opened s).there

  ordered : in_order o.count 0 (ranges_of s o.ranges) ≡ true
  ordered = rw is (opened s).ordered

pub range_at-range-requires : goal.range_at-range-requires
range_at-range-requires c =
    omega (arith, there c.args.bytes.now c.args.opened c.requires)

pub returns-then-place-range : goal.returns-then-place-range
returns-then-place-range c =
    let now = c.loop-i in
    let s = c.args.bytes.now in
    let o = c.args.opened in
    let beyond = rw c.range_at-range.ensures at c.if-place-range.true in
    sym (now.invariant
    ∙ starts_beyond s o.ranges now.i c.args.place o.count (ordered s o c.requires) (omega arith) beyond)

pub returns-then-place-end : goal.returns-then-place-end
returns-then-place-end c =
    let now = c.loop-i in
    let args = c.args in
    let after = rw c.range_at-range.ensures at c.if-place-range.false in
    let inside = rw (c.end.ensures, c.range_at-range.ensures) at c.if-place-end.true in
    sym (now.invariant ∙ finds args.bytes.now args.opened.ranges now.i args.place (omega arith) after inside)

pub loop-i-preserved : goal.loop-i-preserved
loop-i-preserved c =
    let now = c.loop-i in
    let args = c.args in
    let after = rw c.range_at-range.ensures at c.if-place-range.false in
    let beyond = rw (c.end.ensures, c.range_at-range.ensures) at c.if-place-end.false in
    now.invariant ∙ goes_on args.bytes.now args.opened.ranges now.i args.place (omega arith) after beyond

pub returns : goal.returns
returns c =
    let now = c.loop-i in
    let args = c.args in
    sym (now.invariant ∙ none_left_has args.bytes.now args.opened.ranges now.i args.place (omega arith))

-- `callers::calls_len` meets its contract.
-- The loop's invariant: the calls before the reader's place are counted. Assumes nothing.
use mathlib.Core.Path.{◌≡◌, refl, ap, ◌∙◌}
use mathlib.Core.List.{List, []}
use Prim.Native.Nat.{ℕ}
use native.Mathlib.Omega.{arith}
use lib.ListN.{length}
use Rattle.std.specs.Prelude.{Option, Some, None}
use Rattle.std.specs.Option.{is_some}
use mir.Val.{bool_byte}
use Rattle.section.proofs.Accepted.{opened}
use Rattle.section.proofs.Places.{how_many_lem}
use Rattle.section.proofs.Fold.{upto, moves, goes_on, ends}
use Rattle.section.proofs.Yielded.{inside, stands}
use Rattle.callers_index.specs.Entries.{one_of}
use Rattle.callers_index.specs.declared.Entry.{Entry}
use Rattle.callers_index.proofs.Updating.{one_at_most, entered_length}
use Rattle.callers.specs.Calls.{callee_here, address_here, add_here, index_of}
use Rattle.callers.proofs.calls_len.Goals as goal

is_one : (callee : Option ℕ) → bool_byte (is_some callee) ≡ one_of callee
is_one None = refl
is_one (Some to) = refl

pub loop-here-init : goal.loop-here-init
loop-here-init c =
    let start = c.places-here-items.ensures in
    rw c.into_iter-here-iterator.ensures.into_iter_gives (start.0, rw start.1 refl, omega arith)

pub overflow_add-n : goal.overflow_add-n
overflow_add-n c =
    let now = c.loop-here in
    let there = inside now.here-iterator.bytes.now now.here-iterator.place c.in-Some.ensures.steps.0 in
    record {
      fits = omega (
        arith,
        now.invariant.2,
        there,
        how_many_lem now.here-iterator.bytes.now,
        (opened now.here-iterator.bytes.now).few,
        rw (c.is_some.ensures, is_one c.callee_here.result) at c.from-n.ensures,
        one_at_most c.callee_here.result,
      );
    }

pub loop-here-preserved : goal.loop-here-preserved
loop-here-preserved c =
    let now = c.loop-here in
    let section = c.args.section.now in
    let place = now.here-iterator.place in
    let here = c.in-Some.here in
    let found = rw now.invariant.0 at c.in-Some.ensures.steps.1 in
    let some = stands section place (rw now.invariant.0 at c.in-Some.ensures.steps.0) found in
    let n = rw (c.is_some.ensures, is_one c.callee_here.result, c.callee_here.ensures) at c.from-n.ensures in
    let one = entered_length (address_here here) (callee_here here) (upto add_here [] section place) in (
      rw c.in-Some.ensures.steps.2 now.invariant.0,
      rw (goes_on section place found refl some add_here []) (omega (arith, now.invariant.1, n, one)),
      omega (arith, moves section place found refl some, now.invariant.2, n, one_at_most (callee_here here)),
    )

pub returns : goal.returns
unfolding index_of
returns c =
    let now = c.loop-here in
    now.invariant.1
    ∙ ap (λ (l : List Entry). length l)
    (ends c.args.section.now now.here-iterator.place (rw now.invariant.0 at c.in-None.ensures.steps.1) refl add_here [])

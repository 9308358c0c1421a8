-- `callers_index::put_callers` meets its contract.
-- The loop's invariant: the callers among the entries passed are written. Assumes nothing.
use mathlib.Core.Path.{refl, ap, sym, ◌∙◌}
use mathlib.Core.List.{List, [], ◌∷◌, ◌++◌, append_assoc, append-nil}
use Prim.Native.Nat.{ℕ, ◌+◌}
use native.Mathlib.Omega.{arith}
use lib.ListN.{length, drop, length-append}
use Rattle.text.proofs.Writing.{none, ◌then◌}
use Rattle.callers_index.specs.Entries.{entries_of, callers_of}
use Rattle.callers_index.proofs.Left.{nothing_left, callers_left}
use Rattle.callers_index.proofs.put_callers.Goals as goal

pub loop-i-init : goal.loop-i-init
loop-i-init c = (refl, ([], none _ 0, refl))

pub put_caller-at-requires : goal.put_caller-at-requires
put_caller-at-requires c =
    let now = c.loop-i in
    let args = c.args in
    let one = callers_of args.target (c.entry_at.result ∷ []) in
    let rest = callers_of args.target (drop (now.i + 1) (entries_of args.index.now args.count)) in
    let left = callers_left args.index.now args.count now.i c.loop-i-test.true c.entry_at.ensures args.target in
    let done = now.invariant.1.0 in
    omega (
      arith,
      c.requires.room,
      now.invariant.0,
      now.invariant.1.1.ends,
      length-append done (one ++ rest),
      length-append one rest,
      ap (λ (l : List ℕ). length l) (ap (λ (l : List ℕ). done ++ l) (sym left) ∙ now.invariant.1.2),
    )

pub loop-i-preserved : goal.loop-i-preserved
loop-i-preserved c =
    let now = c.loop-i in
    let args = c.args in
    let read = c.entry_at in
    let done = now.invariant.1.0 in
    let one = callers_of args.target (read.result ∷ []) in
    let rest = callers_of args.target (drop (now.i + 1) (entries_of args.index.now args.count)) in
    let below = c.loop-i-test.true in
    let left = callers_left args.index.now args.count now.i below read.ensures args.target in (
      c.put_caller-at.auto.out ∙ now.invariant.0,
      (
        done ++ one,
        now.invariant.1.1 then c.put_caller-at.ensures,
        append_assoc done one rest ∙ ap (λ (l : List ℕ). done ++ l) (sym left) ∙ now.invariant.1.2,
      ),
    )

pub returns : goal.returns
returns c =
    let now = c.loop-i in
    let args = c.args in
    let done = now.invariant.1.0 in
    let none = ap (callers_of args.target) (nothing_left args.index.now args.count now.i (omega arith)) in
    rw (sym (append-nil done) ∙ ap (λ (l : List ℕ). done ++ l) (sym none) ∙ now.invariant.1.2) at now.invariant.1.1

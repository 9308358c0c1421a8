-- `section::open` meets its contract. Assumes nothing.
use mathlib.Core.Path.{◌≡◌, sym}
use mathlib.Core.List.{List}
use Prim.Native.Nat.{ℕ, ◌≤◌}
use native.Mathlib.Omega.{arith}
use lib.ListN.{length}
use Rattle.std.proofs.lemmas.Result.{err_from_is_err_and}
use Rattle.section.specs.Section.{start_of, refusal_of, opened_of}
use Rattle.section.proofs.Refused.{refused_by}
use Rattle.section.proofs.Accepted.{accepted, start_least, opens}
use Rattle.section.proofs.open.Goals as goal

-- it is accepted
module _ (s : List ℕ) (ok : 0 ≡ refusal_of s) where
  there : start_of s ≤ length s
  there = omega (arith, (accepted s (sym ok)).long)

  nine : 9 ≤ length s
  nine = omega (arith, there, start_least s)

pub returns-in_err-check : goal.returns-in_err-check
unfolding opened_of
returns-in_err-check c =
    let p = err_from_is_err_and c.from_residual.result c.from_residual.ensures.1 in
    rw (p.1, p.2) (refused_by _ (refusal_of c.args.bytes.now) c.in_err-check.field-0.0 c.in_err-check.ensures)

pub version-requires : goal.version-requires
version-requires c = nine c.args.bytes.now c.in_ok-check.ensures

pub base-requires : goal.base-requires
base-requires c = nine c.args.bytes.now c.in_ok-check.ensures

pub count-requires : goal.count-requires
count-requires c = there c.args.bytes.now c.in_ok-check.ensures

pub overflow_cast-result : goal.overflow_cast-result
overflow_cast-result c =
    omega (arith, c.count.ensures, (accepted c.args.bytes.now (sym c.in_ok-check.ensures)).few)

pub ranges-requires : goal.ranges-requires
ranges-requires c = there c.args.bytes.now c.in_ok-check.ensures

pub start-requires : goal.start-requires
start-requires c = there c.args.bytes.now c.in_ok-check.ensures

pub returns : goal.returns
returns c =
    rw (opens c.args.bytes.now (sym c.in_ok-check.ensures))
    (simp (
      c.start.ensures,
      c.ranges-2.ensures,
      c.count.ensures,
      c.base.ensures,
      c.version.ensures,
    ))

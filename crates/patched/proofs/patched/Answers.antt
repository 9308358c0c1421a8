-- `patched::patched` meets its contract. Assumes nothing.
use mathlib.Core.Path.{ap}
use native.Mathlib.Omega.{arith}
use lib.ListN.{length}
use Rattle.std.proofs.lemmas.Result.{err_from_is_err_and}
use Rattle.section.proofs.Accepted.{same_section, section_passed}
use Rattle.text.proofs.Settled.{fits, no_room}
use Rattle.patched.specs.Patched.{patched_of}
use Rattle.patched.proofs.Accepts.{patched_size}
use Rattle.patched.proofs.Gives.{section_refused, patch_refused, writes}
use Rattle.patched.proofs.patched.Goals as goal

pub returns-in_err-section-clause-value : goal.returns-in_err-section-clause-value
returns-in_err-section-clause-value c =
    let p = err_from_is_err_and c.from_residual.result c.from_residual.ensures.1 in
    rw (p.1, p.2) (section_refused _ _ _ c.in_err-section.ensures).0

pub returns-in_err-section-clause-out_after : goal.returns-in_err-section-clause-out_after
returns-in_err-section-clause-out_after c = (section_refused _ c.args.patch.now c.args.out.now c.in_err-section.ensures).1

pub returns-in_err-patch-clause-value : goal.returns-in_err-patch-clause-value
returns-in_err-patch-clause-value c =
    let q = c.from_residual-in_err-patch in
    let p = err_from_is_err_and q.result q.ensures.1 in
    rw (p.1, p.2) (patch_refused _ _ _ (section_passed _ c.in_ok-section.ensures) c.in_err-patch.ensures).0

pub returns-in_err-patch-clause-out_after : goal.returns-in_err-patch-clause-out_after
returns-in_err-patch-clause-out_after c =
    (patch_refused _ _ c.args.out.now (section_passed c.args.section.now c.in_ok-section.ensures) c.in_err-patch.ensures).1

pub returns-then-out-bytes-clause-value : goal.returns-then-out-bytes-clause-value
returns-then-out-bytes-clause-value c =
    let s = c.args.section.now in
    let p = c.args.patch.now in
    let ok = section_passed s c.in_ok-section.ensures in
    let long = ap length (same_section s c.in_ok-section.ensures) in
    (writes s p c.args.out.now ok (section_passed p c.in_ok-patch.ensures)
    (no_room (patched_of s p) {out = c.args.out.now} (omega (arith, patched_size s ok p, long, ap length c.bytes.ensures, c.if-out-bytes.true)))).0

pub returns-then-out-bytes-clause-out_after : goal.returns-then-out-bytes-clause-out_after
returns-then-out-bytes-clause-out_after c =
    let s = c.args.section.now in
    let p = c.args.patch.now in
    let ok = section_passed s c.in_ok-section.ensures in
    let long = ap length (same_section s c.in_ok-section.ensures) in
    (writes s p c.args.out.now ok (section_passed p c.in_ok-patch.ensures)
    (no_room (patched_of s p) {out = c.args.out.now} (omega (arith, patched_size s ok p, long, ap length c.bytes.ensures, c.if-out-bytes.true)))).1

pub put_patched-requires : goal.put_patched-requires
put_patched-requires c =
    let s = c.args.section.now in
    let same = same_section s c.in_ok-section.ensures in
    rw (same, same_section c.args.patch.now c.in_ok-patch.ensures)
    (omega (arith, patched_size s (section_passed s c.in_ok-section.ensures) c.args.patch.now, ap length same, ap length c.bytes.ensures, c.if-out-bytes.false))

pub returns-clause-value : goal.returns-clause-value
returns-clause-value c =
    let s = c.args.section.now in
    let p = c.args.patch.now in
    let ok = section_passed s c.in_ok-section.ensures in
    let same = same_section s c.in_ok-section.ensures in
    (writes s p _ ok (section_passed p c.in_ok-patch.ensures)
    (fits (omega (arith, patched_size s ok p, ap length same, ap length c.bytes.ensures, c.if-out-bytes.false))
    (rw (same, same_section p c.in_ok-patch.ensures) at c.put_patched.ensures))).0

pub returns-clause-out_after : goal.returns-clause-out_after
returns-clause-out_after c =
    let s = c.args.section.now in
    let p = c.args.patch.now in
    let ok = section_passed s c.in_ok-section.ensures in
    let same = same_section s c.in_ok-section.ensures in
    (writes s p _ ok (section_passed p c.in_ok-patch.ensures)
    (fits (omega (arith, patched_size s ok p, ap length same, ap length c.bytes.ensures, c.if-out-bytes.false))
    (rw (same, same_section p c.in_ok-patch.ensures) at c.put_patched.ensures))).1

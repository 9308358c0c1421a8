-- `section_convert::convert` meets its contract. Assumes nothing.
use mathlib.Core.Path.{◌≡◌, refl, sym, ◌∙◌}
use mathlib.Core.Bool.{Bool, true, false}
use mathlib.Core.Logic.{◌⊎◌, ⊎_elim}
use denote.Enum.Bare.{sameb, same_true, same_false}
use mathlib.Core.List.{List, append-nil}
use Prim.Native.Nat.{ℕ, ◌-◌}
use native.Mathlib.Omega.{arith}
use lib.ListN.{length, take, drop, length-drop}
use lib.Seq.{take_all}
use Rattle.std.proofs.lemmas.Result.{err_from_is_err_and}
use Rattle.section_convert.specs.contracts.Target.{the_type}
use Rattle.section_convert.specs.declared.Target.{Target}
use Rattle.section_convert.specs.declared.Target.TheVariants.{One}
use Rattle.section_convert.proofs.Gives.{refused, nine, eleven, copied, as_one_lem, as_two_lem, too_many}
use Rattle.section_convert.proofs.convert.Goals as goal

-- what is left from a place on, as the slice is
left : (from : ℕ) (s : List ℕ) → take (length s - from) (drop from s) ≡ drop from s
left from s = take_all (length s - from) (drop from s) (simp length-drop (omega arith))

pub returns-in_err-opened-clause-value : goal.returns-in_err-opened-clause-value
returns-in_err-opened-clause-value c =
    let p = err_from_is_err_and c.from_residual.result c.from_residual.ensures.1 in
    rw (p.1, p.2) (refused c.args.target c.args.section.now c.args.out.now (sym c.in_err-opened.ensures)).0

pub returns-in_err-opened-clause-out_after : goal.returns-in_err-opened-clause-out_after
returns-in_err-opened-clause-out_after c =
    (refused c.args.target c.args.section.now c.args.out.now (sym c.in_err-opened.ensures)).1

pub slice_bounds-put_as-count : goal.slice_bounds-put_as-count
slice_bounds-put_as-count c =
    eleven c.args.section.now (sym c.in_ok-opened.ensures) (λ one. c.if-opened-version.false (one ∙ sym (rw c.in-One.is at c.version.ensures)))

pub slice_bounds-put_as-start : goal.slice_bounds-put_as-start
slice_bounds-put_as-start c =
    omega (
      arith,
      eleven c.args.section.now (sym c.in_ok-opened.ensures) (λ one. c.if-opened-version.false (one ∙ sym (rw c.in-One.is at c.version.ensures))),
    )

pub put_as-requires : goal.put_as-requires
put_as-requires c = (nine c.args.section.now (sym c.in_ok-opened.ensures), omega arith)

pub slice_bounds-put_as-count-in-Two : goal.slice_bounds-put_as-count-in-Two
slice_bounds-put_as-count-in-Two c = nine c.args.section.now (sym c.in_ok-opened.ensures)

pub slice_bounds-put_as-start-in-Two : goal.slice_bounds-put_as-start-in-Two
slice_bounds-put_as-start-in-Two c = omega (arith, nine c.args.section.now (sym c.in_ok-opened.ensures))

pub put_as-requires-in-Two : goal.put_as-requires-in-Two
put_as-requires-in-Two c = (nine c.args.section.now (sym c.in_ok-opened.ensures), omega arith)

-- a section with ranges is not converted back
module _ (target : Target) {r : Bool} (is : r ≡ sameb the_type target One) where
  back : r ≡ true → target ≡ One
  back e = same_true the_type tt target One (sym is ∙ e)

  none : {n : ℕ} → ((r ≡ true) × (n ≡ 0)) ⊎ (r ≡ false) → target ≡ One → n ≡ 0
  none either e = ⊎_elim (λ p. p.1) (λ f. absurd (same_false the_type target One (sym is ∙ f) e)) either

pub returns-then-opened-ne0-clause-value : goal.returns-then-opened-ne0-clause-value
returns-then-opened-ne0-clause-value c =
    rw (back c.args.target c.eq.ensures c.if-eq.true)
    (too_many c.args.section.now (sym c.in_ok-opened.ensures) c.args.out.now (omega arith) refl).0

pub returns-then-opened-ne0-clause-out_after : goal.returns-then-opened-ne0-clause-out_after
returns-then-opened-ne0-clause-out_after c =
    rw (back c.args.target c.eq.ensures c.if-eq.true)
    (too_many c.args.section.now (sym c.in_ok-opened.ensures) c.args.out.now (omega arith) refl).1

pub returns-then-opened-version-clause-value : goal.returns-then-opened-version-clause-value
returns-then-opened-version-clause-value c =
    (copied c.args.section.now (sym c.in_ok-opened.ensures) c.args.out.now c.args.target
    (none c.args.target c.eq.ensures c.else-eq.either) (c.if-opened-version.true ∙ c.version.ensures)
    (c.put_whole.ensures.value, c.put_whole.ensures.out_after)).0

pub returns-then-opened-version-clause-out_after : goal.returns-then-opened-version-clause-out_after
returns-then-opened-version-clause-out_after c =
    (copied c.args.section.now (sym c.in_ok-opened.ensures) c.args.out.now c.args.target
    (none c.args.target c.eq.ensures c.else-eq.either) (c.if-opened-version.true ∙ c.version.ensures)
    (c.put_whole.ensures.value, c.put_whole.ensures.out_after)).1

pub returns-in-One-clause-value : goal.returns-in-One-clause-value
returns-in-One-clause-value c =
    let s = c.args.section.now in
    rw c.in-One.is (as_one_lem s (sym c.in_ok-opened.ensures) c.args.out.now (none c.args.target c.eq.ensures c.else-eq.either c.in-One.is)
    (λ one. c.if-opened-version.false (one ∙ sym (rw c.in-One.is at c.version.ensures)))
    (rw (left 11 s, append-nil) at c.put_as.ensures.value, rw (left 11 s, append-nil) at c.put_as.ensures.out_after)).0

pub returns-in-One-clause-out_after : goal.returns-in-One-clause-out_after
returns-in-One-clause-out_after c =
    let s = c.args.section.now in
    rw c.in-One.is (as_one_lem s (sym c.in_ok-opened.ensures) c.args.out.now (none c.args.target c.eq.ensures c.else-eq.either c.in-One.is)
    (λ one. c.if-opened-version.false (one ∙ sym (rw c.in-One.is at c.version.ensures)))
    (rw (left 11 s, append-nil) at c.put_as.ensures.value, rw (left 11 s, append-nil) at c.put_as.ensures.out_after)).1

pub returns-in-Two-clause-value : goal.returns-in-Two-clause-value
returns-in-Two-clause-value c =
    let s = c.args.section.now in
    rw c.in-Two.is (as_two_lem s (sym c.in_ok-opened.ensures) c.args.out.now
    (λ two. c.if-opened-version.false (two ∙ sym (rw c.in-Two.is at c.version.ensures)))
    (rw (left 9 s) at c.put_as-in-Two.ensures.value, rw (left 9 s) at c.put_as-in-Two.ensures.out_after)).0

pub returns-in-Two-clause-out_after : goal.returns-in-Two-clause-out_after
returns-in-Two-clause-out_after c =
    let s = c.args.section.now in
    rw c.in-Two.is (as_two_lem s (sym c.in_ok-opened.ensures) c.args.out.now
    (λ two. c.if-opened-version.false (two ∙ sym (rw c.in-Two.is at c.version.ensures)))
    (rw (left 9 s) at c.put_as-in-Two.ensures.value, rw (left 9 s) at c.put_as-in-Two.ensures.out_after)).1

-- `patched::put_words` meets its contract. The loop's invariant: the image's bytes before number i are written, and i is a word's. Assumes nothing.
use mathlib.Core.Path.{refl, ap, ◌∙◌}
use native.Mathlib.Omega.{arith}
use lib.ListN.{length}
use Rattle.text.proofs.Writing.{nothing}
use Rattle.patch.specs.Image.{◌from◌}
use Rattle.patched.proofs.Image.{image_size, word_ends, word_long, more, whole}
use Rattle.patched.proofs.put_words.Goals as goal

pub loop-i-init : goal.loop-i-init
loop-i-init c = (omega arith, refl, refl, record { ends = refl; holds = nothing _ _ })

pub put-requires : goal.put-requires
put-requires c =
    let s = c.args.words.now from c.args.base in
    let p = c.args.patch.now from c.args.over in
    let pre = c.requires.base_value in
    let now = c.loop-i in
    let ends = word_ends s p pre.0 pre.1 now.i now.invariant.1 (omega arith) in
    let size = ap length c.run-word.ensures.result_value ∙ word_long s p pre.0 pre.1 now.i now.invariant.1 (omega arith) in
    omega (arith, c.requires.room, image_size s p, ends, size, now.invariant.2)

pub loop-i-preserved : goal.loop-i-preserved
loop-i-preserved c =
    let s = c.args.words.now from c.args.base in
    let p = c.args.patch.now from c.args.over in
    let now = c.loop-i in
    let pre = c.requires.base_value in (
      word_ends s p pre.0 pre.1 now.i now.invariant.1 (omega arith),
      omega (arith, now.invariant.1),
      c.put.auto.out ∙ now.invariant.2,
      more s p pre.0 pre.1 now.i now.invariant.1 (omega arith) now.invariant.3 (rw c.run-word.ensures.result_value at c.put.ensures),
    )

pub returns : goal.returns
returns c = whole _ _ {i = c.loop-i.i} (omega arith) c.loop-i.invariant.3

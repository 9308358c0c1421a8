-- `patched::put_words` meets its contract. The loop's invariant: the image's bytes before number i are written, and i is a word's. Assumes nothing.
use mathlib.Core.Path.{◌≡◌}
use Prim.Native.Nat.{◌+◌, ◌-◌, ◌%◌, ◌≤◌}
use lib.ListN.{length}
use Rattle.text.specs.Put.{Put}
use Rattle.section.specs.Section.{firsts}
use Rattle.patch.specs.Image.{◌from◌}
use Rattle.patched.specs.Patched.{image_byte}
use Rattle.patched.proofs.put_words.Given as goal

abbrev pub invariant-loop-i : goal.invariant-loop-i
invariant-loop-i l = (l.i ≤ length l.words)
    × (l.i % 4 ≡ 0)
    × (length l.out ≡ length l.initial.out)
    × Put l.initial.out l.at (firsts (image_byte (l.words from l.base) (l.patch from l.over)) l.i) (l.at + l.i) l.out

abbrev pub decreases-loop-i : goal.decreases-loop-i
decreases-loop-i l = length l.words - l.i

-- `text::put_word` meets its contract. The loop's invariant: the bytes passed are written, and the word is these and what is left of it.
-- Assumes nothing.
use mathlib.Core.Path.{◌≡◌}
use mathlib.Core.List.{List, ◌++◌}
use Prim.Native.Nat.{ℕ, ◌+◌}
use lib.ListN.{length, take, drop}
use Rattle.text.specs.Put.{Put}
use Rattle.text.specs.Entry.{word_of}
use Rattle.text.proofs.put_word.Given as goal

-- i bytes of the text's word have been passed
abbrev Passed : List ℕ → ℕ → Type 0
Passed text i = word_of text ≡ take i text ++ word_of (drop i text)

abbrev pub invariant-loop-i : goal.invariant-loop-i
invariant-loop-i l = (length l.out ≡ length l.initial.out) × Passed l.text l.i × Put l.initial.out l.at (take l.i l.text) (l.at + l.i) l.out

-- How long the parts of a converted section are. Assumes nothing.
use mathlib.Core.Path.{◌≡◌}
use mathlib.Core.List.{List, ◌++◌}
use Prim.Native.Nat.{ℕ, ◌+◌, ◌≤◌}
use native.Mathlib.Omega.{arith}
use lib.ListN.{length, length-append, length-take, length-drop}
use Rattle.section_convert.specs.Convert.{header_as}

module _ (s : List ℕ) where
  pub parts_size : (version : ℕ) (count words : List ℕ) → 9 ≤ length s → length (header_as version s ++ count ++ words) ≡ 9 + length count + length words
  parts_size version count words h = simp (length-append, length-take, length-drop) (omega arith)

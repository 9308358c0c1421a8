-- How long a row is. Assumes nothing.
use mathlib.Core.Path.{◌≡◌, refl}
use mathlib.Core.List.{List}
use Prim.Native.Nat.{ℕ, ◌*◌, ◌≤◌}
use native.Mathlib.Omega.{arith}
use lib.ListN.{length, take}
use lib.Seq.{length-take-le}
use Rattle.insn.specs.Answer.{PLACES}
use Rattle.insn.specs.declared.Insn.{Insn}
use Rattle.insn.specs.declared.Place.{Place}
use Rattle.insn.proofs.Places.{spread_length}
use Rattle.insn_row.specs.Row.{ROW, operand_row, places_row, row_of}

pub places_size : (ps : List Place) → length (places_row ps) ≡ 11 * length ps
places_size = spread_length operand_row (λ o. refl)

pub size_before : (ps : List Place) (n : ℕ) → n ≤ length ps → length (places_row (take n ps)) ≡ 11 * n
size_before ps n within = rw (places_size (take n ps), length-take-le n ps within)

pub row_size : (i : Insn) → length i.ops ≡ PLACES → length (row_of i) ≡ ROW
row_size i e = omega (arith, places_size i.ops)

-- Control words are formed. Assumes nothing.
use mathlib.Core.Path.{◌≡◌, refl}
use mathlib.Core.Bool.{false, true}
use mathlib.Core.List.{[], ◌∷◌}
use Prim.Native.Nat.{ℕ}
use native.Mathlib.Omega.{arith}
use lib.Dec.{eqb}
use Rattle.word.specs.Field.{field}
use Rattle.word.specs.Layout.{joined_small}
use Rattle.insn.specs.Roots.{name}
use Rattle.insn.specs.declared.Flow.TheVariants.{Next}
use Rattle.a32_shared.specs.Row.{reg_of, answer}
use Rattle.a32_misc.specs.Misc.{misc_of}
use Rattle.line_spelling.proofs.Formed.{reg, Good, Sound, Aimed, Under, either, at, no_row_lem, row1, row2, row3}

module _ (w addr : ℕ) (c : eqb (field w 28 4) 15 ≡ false) where
  abbrev kind : ℕ
  kind = field w 4 3

  abbrev op : ℕ
  op = field w 21 2

  -- Rd, Rm, Rn
  saturating : {n : ℕ} → Under w n Next → Good addr (answer w addr n Next (reg_of w 12 ∷ reg_of w 0 ∷ reg_of w 16 ∷ []))
  saturating under = row3 w under (reg w 12) (reg w 0) (reg w 16) tt

  pub misc_good : Good addr (misc_of w addr)
  misc_good =
      at kind 0
      (at (field w 9 1) 0
      (at (field w 21 1) 0
      (row2 w (tt, c) (reg w 12) (either (Sound true (name "mrs")) (eqb (field w 22 1) 0) tt tt) tt)
      (row2 w (tt, c) (joined_small w 22 1 16 4) (reg w 0) tt))
      no_row_lem)
      (at kind 1
      (at op 1 (row1 w (tt, c) (reg w 0) (either (Aimed (reg_of w 0 ∷ [])) (eqb (field w 0 4) 14) tt tt)) (at op 3 (row2 w (tt, c) (reg w 12) (reg w 0) tt) no_row_lem))
      (at kind 2 (at op 1 (row1 w (tt, c) (reg w 0) tt) no_row_lem)
      (at kind 3 (at op 1 (row1 w (tt, c) (reg w 0) tt) no_row_lem)
      (at kind 5 (at op 0 (saturating (tt, c)) (at op 1 (saturating (tt, c)) (at op 2 (saturating (tt, c)) (at op 3 (saturating (tt, c)) no_row_lem))))
      (at kind 7 (at op 1 (row1 w (tt, c) (refl, omega (arith, joined_small w 8 12 0 4)) tt) no_row_lem)
      no_row_lem)))))

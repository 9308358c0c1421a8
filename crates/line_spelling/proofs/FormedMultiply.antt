-- Multiplies, halfword multiplies and exclusives are formed. Assumes nothing.
use mathlib.Core.Path.{◌≡◌, refl}
use mathlib.Core.Bool.{Bool, false, true}
use Prim.Native.Nat.{ℕ, ◌+◌, ◌*◌, ◌<◌}
use native.Mathlib.Omega.{arith}
use lib.Dec.{T, eqb, ltb, lit<}
use Rattle.word.specs.Field.{field, small}
use Rattle.insn.specs.Roots.{NAMES, name}
use Rattle.insn.specs.declared.AddrMode.TheVariants.{Offset}
use Rattle.insn.specs.declared.Flow.TheVariants.{Next}
use Rattle.a32_multiply.specs.Halfword.{half_of, halves_of, halfword_of}
use Rattle.a32_multiply.specs.Multiply.{product_of, long_of, adding_of, multiply_of}
use Rattle.a32_multiply.specs.Sync.{memory_of, sync_of}
use Rattle.line_spelling.proofs.Formed.{reg, Good, Sound, decimal_for, Under, by_half, either, choice, at, no_row_lem, row2, row3, row4}

module _ (w addr : ℕ) (c : eqb (field w 28 4) 15 ≡ false) where
  abbrev clear : Bool
  clear = eqb (field w 20 1) 0

  abbrev op : ℕ
  op = field w 21 3

  long : {n : ℕ} → Under w n Next → Good addr (long_of w addr n)
  long under = row4 w under (reg w 12) (reg w 16) (reg w 0) (reg w 8) tt

  product : {n : ℕ} → Under w n Next → Good addr (product_of w addr n)
  product under = row3 w under (reg w 16) (reg w 0) (reg w 8) tt

  adding : {n : ℕ} → Under w n Next → Good addr (adding_of w addr n)
  adding under = row4 w under (reg w 16) (reg w 0) (reg w 8) (reg w 12) tt

  pub multiply_good : Good addr (multiply_of w addr)
  multiply_good =
      at op 0
      (either (λ n. Good addr (product_of w addr n)) clear (product (tt, c)) (product (tt, c)))
      (at op 1 (either (λ n. Good addr (adding_of w addr n)) clear (adding (tt, c)) (adding (tt, c)))
      (at op 2 (choice clear (long (tt, c)) no_row_lem)
      (at op 3 (choice clear (adding (tt, c)) no_row_lem)
      (at op 4 (either (λ n. Good addr (long_of w addr n)) clear (long (tt, c)) (long (tt, c)))
      (at op 5 (either (λ n. Good addr (long_of w addr n)) clear (long (tt, c)) (long (tt, c)))
      (at op 6 (either (λ n. Good addr (long_of w addr n)) clear (long (tt, c)) (long (tt, c)))
      (at op 7 (either (λ n. Good addr (long_of w addr n)) clear (long (tt, c)) (long (tt, c)))
      no_row_lem)))))))

  -- a name of the halfword multiplies with its half, or halves
  half : (n : ℕ) → name "isb" < n → n + 1 < NAMES → Under w (half_of w n) Next
  half n past few = by_half w (half_of w n) c (omega arith) (omega (arith, small w 6 1)) Next

  halves : (n : ℕ) → name "isb" < n → n + 3 < NAMES → Under w (halves_of w n) Next
  halves n past few = half (n + field w 5 1 * 2) (omega arith) (omega (arith, small w 5 1))

  pub halfword_good : Good addr (halfword_of w addr)
  halfword_good =
      at (field w 21 2) 0 (adding (halves (name "smlabb") (omega arith) (omega arith)))
      (at (field w 21 2) 1
      (at (field w 5 1) 0 (adding (half (name "smlawb") (omega arith) (omega arith))) (product (half (name "smulwb") (omega arith) (omega arith))))
      (at (field w 21 2) 2 (long (halves (name "smlalbb") (omega arith) (omega arith)))
      (at (field w 21 2) 3 (product (halves (name "smulbb") (omega arith) (omega arith)))
      no_row_lem)))

  -- a memory form with no displacement
  memory : {name size : ℕ} → T (ltb size 10) → false ≡ decimal_for name Offset → Sound true name (memory_of w size)
  memory few plain = (refl, record { base = reg w 16; index = tt; disp = lit< tt; size = lit< few; decimal = plain; minus_zero = λ e. refl })

  abbrev kind : ℕ
  kind = field w 20 4

  pub sync_good : Good addr (sync_of w addr)
  sync_good =
      at kind 8 (row3 w (tt, c) (reg w 12) (reg w 0) (memory tt refl) tt)
      (at kind 9 (row2 w (tt, c) (reg w 12) (memory tt refl) tt)
      (at kind 12 (row3 w (tt, c) (reg w 12) (reg w 0) (memory tt refl) tt)
      (at kind 13 (row2 w (tt, c) (reg w 12) (memory tt refl) tt)
      (at kind 14 (row3 w (tt, c) (reg w 12) (reg w 0) (memory tt refl) tt)
      (at kind 15 (row2 w (tt, c) (reg w 12) (memory tt refl) tt)
      no_row_lem)))))

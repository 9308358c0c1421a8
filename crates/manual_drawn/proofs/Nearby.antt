-- The manual says the same of two words that differ in a field alone, where one is under a departure and the field is one that home words are
-- filled in. Assumes nothing.
use mathlib.Core.Path.{◌≡◌, refl, sym, ap, ◌∙◌}
use mathlib.Core.Bool.{true}
use mathlib.Core.List.{List}
use Prim.Native.Nat.{ℕ, ◌+◌}
use Prim.Native.String.{String}
use native.Mathlib.Omega.{arith}
use borrow.Author.Tests.{eqb-true, leb-true, le-leb}
use lib.Dec.{T, leb}
use Rattle.word.specs.Choice.{parts, passes}
use Rattle.word.specs.Field.{field, splits, within}
use Rattle.manual.specs.A5 as A
use Rattle.manual.specs.A5.{table_row}
use Rattle.manual.specs.A8.{said_of, is_among, page_of, row_of, sees}
use Rattle.manual.specs.Departures.{hints, literal_pldw}
use Rattle.manual.proofs.Fields.{by_field, ◌also◌}
use Rattle.manual.proofs.Pages.{returns}
use Rattle.manual_drawn.specs.HomeReads.{said_at}
use Rattle.manual_drawn.proofs.Near.{Near}
use Rattle.manual_drawn.proofs.Rows.{kept_row, shifts, drawn_moves, move_rows, hint_rows}
use Rattle.manual_drawn.proofs.Told.{all_of, one_of, none_to, own, moves}
use Rattle.manual_drawn.proofs.Transfers.{Each, each_of}

module _ (w v addr : ℕ) where
  -- a page that no other leads to, and that leads to no other
  by_page : (titles : List String) → is_among (row_of w) titles ≡ true → T (all_of (λ s. none_to s (sees w)) titles)
      → (table_row w ≡ row_of w → row_of w ≡ table_row v) → Each (λ s. page_of s v ≡ s) titles
      → Each (λ s. said_of w addr s ≡ said_of v addr s) titles → said_at w addr ≡ said_at v addr
  by_page titles is none kept pages says = rw row (each_of (λ s. said_of w addr s ≡ said_of v addr s) (row_of w) titles says is)
    where
      table : table_row w ≡ row_of w
      table = own (table_row w) (row_of w) (sees w) (one_of (λ s. none_to s (sees w)) (row_of w) titles none is) (unfold row_of page_of in refl)

      row : row_of v ≡ row_of w
      row = unfold row_of in ap (λ (s : String). page_of s v) (sym (kept table)) ∙ each_of (λ s. page_of s v ≡ s) (row_of w) titles pages is

  -- shifts by a register
  pub shifts_alike : Near 16 20 w v → is_among (row_of w) shifts ≡ true → said_at w addr ≡ said_at v addr
  shifts_alike (above, below) is =
      by_page shifts is tt
      (λ table. sym table ∙ kept_row drawn_moves _ _ (move_rows w v above below) (rw table
      (passes _ (one_of (λ s. is_among s drawn_moves) (row_of w) shifts tt is))))
      (unfold page_of in refl also refl also refl also refl also refl also tt)
      (unfold said_of in simp (above, below) (refl also refl also refl also refl also refl also tt))

  -- hints
  pub hints_alike : Near 12 16 w v → is_among (row_of w) hints ≡ true → said_at w addr ≡ said_at v addr
  hints_alike (above, below) is =
      by_page hints is tt
      (λ table. sym table ∙ kept_row hints _ _ (hint_rows w v above lower) (rw table is))
      (unfold page_of in refl also refl also refl also refl also refl also refl also refl also tt)
      (unfold said_of in simp above (refl also refl also refl also refl also refl also refl also refl also tt))
    where
      lower : (at k : ℕ) → leb (at + k) 8 ≡ true → field v at k ≡ field w at k
      lower at k g = below at k (le-leb (at + k) 12 (omega (arith, leb-true (at + k) 8 g)))

  -- SUBS PC, LR from a move or a shift
  pub returns_alike : Near 16 20 w v → row_of w ≡ returns → is_among (table_row w) moves ≡ true → said_at w addr ≡ said_at v addr
  returns_alike (above, below) row is = rw (row, there) (unfold said_of in refl)
    where
      kept : table_row w ≡ table_row v
      kept = kept_row drawn_moves _ _ (move_rows w v above below) (passes _ (one_of (λ s. is_among s drawn_moves) (table_row w) moves tt is))

      pages : Each (λ s. page_of s v ≡ page_of s w) moves
      pages = unfold page_of in
          simp (above, below) (refl also refl also refl also refl also refl also refl also refl also refl also refl also tt)

      there : row_of v ≡ returns
      there = unfold row_of in
          ap (λ (s : String). page_of s v) (sym kept) ∙ each_of (λ s. page_of s v ≡ page_of s w) (table_row w) moves pages is ∙ row

-- PLDW from R[15]
module _ (w : ℕ) (is : literal_pldw w ≡ true) where
  pldw_fields : (field w 28 4 ≡ 15) × (field w 24 4 ≡ 5) × (field w 20 3 ≡ 1) × (field w 16 4 ≡ 15)
  unfolding literal_pldw
  pldw_fields =
      let (cond, rest) = parts _ _ is in
      let (top, rest) = parts _ _ rest in
      let (low, rest) = parts _ _ rest in
      (eqb-true _ 15 cond, eqb-true _ 5 top, eqb-true _ 1 low, eqb-true _ 15 (parts _ _ rest).0)

  pldw_row : row_of w ≡ "UNPREDICTABLE"
  pldw_row =
      let (cond, top, low, rn) = pldw_fields in
      let three : field w 24 3 ≡ 5 = sym (within w 24 4 0 3 refl) ∙ ap (λ (x : ℕ). field x 0 3) top ∙ (unfold field in refl) in
      by_field w 23 1
      ((λ u.
      let four : field w 20 4 ≡ 1 = omega (arith, low, u, splits w 20 1 3) in
      clear (omega (arith, top, four, splits w 20 4 4)) (omega (arith, three, four, splits w 20 3 4))) also
      (λ u.
      let four : field w 20 4 ≡ 9 = omega (arith, low, u, splits w 20 1 3) in
      set (omega (arith, top, four, splits w 20 4 4)) (omega (arith, three, four, splits w 20 3 4))) also tt)
    where
      clear : field w 20 8 ≡ 0x51 → field w 20 7 ≡ 0x51 → row_of w ≡ "UNPREDICTABLE"
      clear eight seven = unfold row_of page_of table_row A.unconditional A.hints_and_simd in
          simp (pldw_fields.0, pldw_fields.3, eight, seven)

      set : field w 20 8 ≡ 0x59 → field w 20 7 ≡ 0x59 → row_of w ≡ "UNPREDICTABLE"
      set eight seven = unfold row_of page_of table_row A.unconditional A.hints_and_simd in
          simp (pldw_fields.0, pldw_fields.3, eight, seven)

module _ (w v addr : ℕ) where
  -- both are UNPREDICTABLE
  pub pldw_alike : Near 23 24 w v → literal_pldw w ≡ true → said_at w addr ≡ said_at v addr
  pldw_alike (above, below) is = rw (pldw_row w is, pldw_row v (kept ∙ is)) (unfold said_of in refl)
    where
      kept : literal_pldw v ≡ literal_pldw w
      kept = unfold literal_pldw in simp (above, below)

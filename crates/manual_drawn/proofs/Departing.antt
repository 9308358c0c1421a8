-- Page by page: where the puts of an accepted word lie that is under a departure. Assumes nothing.
use mathlib.Core.Path.{◌≡◌, sym, ◌∙◌}
use Rattle.word.specs.Refusal.{refused_with}
use mathlib.Core.Bool.{Bool, true, false, not}
use mathlib.Core.List.{List, [], ◌∷◌, ◌++◌}
use Prim.Native.Nat.{ℕ, ◌%◌}
use Prim.Native.String.{String}
use borrow.Author.Tests.{eqb-true}
use lib.Dec.{T, eqb, ltb}
use Rattle.word.specs.Choice.{pick, both, by_test, parts, passes}
use Rattle.word.specs.Field.{field}
use Rattle.insn.specs.Answer.{Decoded, insn_in}
use Rattle.a32_imm.specs.Imm.{least_of}
use Rattle.encode_home.specs.declared.Filler.{Filler}
use Rattle.encode_home.specs.Home.{puts_of}
use Rattle.encode_home.proofs.Puts.{all}
use Rattle.manual.specs.A5.{table_row}
use Rattle.manual.specs.A8.{See, see_of, sees, one_word, said_of, is_among, page_of, other_page_of, row_of}
use Rattle.manual.specs.Departures.{standing_of, answered, compares, extra_indexes, indexes, multiples, extends, barriers}
use Rattle.manual.specs.Departures.{hints, displaced, preloads, coprocessor_transfers, left_index, literal_pldw, coverings}
use Rattle.manual.specs.Reads.{is_set, is_minus_zero}
use Rattle.manual.proofs.Fields.{by_field, pick_same, no_true, ◌also◌}
use Rattle.manual.proofs.Pages.{returns}
use Rattle.manual_drawn.specs.Exceptions.{is_departure}
use Rattle.manual_drawn.proofs.Drawn.{not_covered}
use Rattle.manual_drawn.proofs.Near.{within, gathers}
use Rattle.manual_drawn.proofs.Pages.{answer_of, reversals, mask_is, in_some}
use Rattle.manual_drawn.proofs.Rows.{shifts}
use Rattle.manual_drawn.proofs.Told.{all_of, one_of, moves, others, unprivileged_loads, no_field, unprivileged_told}

-- register shifts that have Rn, the pairs, and the extra loads from R[15]
abbrev plain_shifts : List String
plain_shifts =
    "AND (register-shifted register)" ∷ "EOR (register-shifted register)" ∷ "SUB (register-shifted register)" ∷
    "RSB (register-shifted register)" ∷ "ADD (register-shifted register)" ∷ "ADC (register-shifted register)" ∷
    "SBC (register-shifted register)" ∷ "RSC (register-shifted register)" ∷ "ORR (register-shifted register)" ∷
    "BIC (register-shifted register)" ∷ []

abbrev extra_pairs : List String
extra_pairs = "LDRD (immediate)" ∷ "STRD (immediate)" ∷ []

abbrev extra_literals : List String
extra_literals = "LDRH (literal)" ∷ "LDRD (literal)" ∷ "LDRSB (literal)" ∷ "LDRSH (literal)" ∷ []

ruleset gathering = (gathers, pick_same)

module _ (c : Filler) where
  -- an answer that is accepted puts between lo and hi
  abbrev pub puts_in : ℕ → ℕ → Decoded → Bool
  puts_in lo hi d = pick (eqb (refused_with d) 0) (all (within c lo hi) (puts_of (insn_in d))) true

  unfoldable pub fills : ℕ → ℕ → ℕ → String → Bool
  fills lo hi w s = pick (is_departure (standing_of s w)) (puts_in lo hi (answer_of w (standing_of s w) s)) true

  -- nothing lies between 0 and 0
  module _ (w : ℕ) where
    abbrev Nothing : List String → Type 0
    Nothing titles = T (all_of (fills 0 0 w) titles)

    adr_puts : Nothing ("ADR" ∷ [])
    adr_puts = unfold fills said_of standing_of puts_of in
        by_test (is_set w 23)
        (λ u. by_field w 20 1 ((λ s. simp (u, s) tt) also (λ s. simp (u, s) tt) also tt))
        (λ u. by_field w 20 1 ((λ s. simp (u, s) tt) also (λ s. simp (u, s) tt) also tt))

    compares_put : Nothing compares
    compares_put = unfold fills said_of standing_of puts_of in
        by_test (eqb (field w 12 4) 15) (λ pc. simp pc tt) (λ pc. simp pc tt)

    shifts_put : Nothing plain_shifts
    shifts_put = unfold fills said_of standing_of puts_of in
        by_test (eqb (field w 12 4) 15)
        (λ pc. by_field w 20 1 ((λ s. simp (pc, s) tt) also (λ s. simp (pc, s) tt) also tt))
        (λ pc. simp pc tt)

    -- these are refused
    multiples_put : Nothing multiples
    multiples_put = unfold fills said_of standing_of puts_of in by_test (eqb (field w 0 16) 0) (λ e. simp e tt) (λ e. simp e tt)

    widths_put : Nothing ("BFC" ∷ "BFI" ∷ [])
    widths_put = unfold fills said_of standing_of puts_of in by_test (ltb (field w 16 5) (field w 7 5)) (λ e. simp e tt) (λ e. simp e tt)

    reversals_put : Nothing reversals
    reversals_put = unfold fills said_of standing_of puts_of in
        by_test (both (eqb (field w 16 4) 15) (eqb (field w 8 4) 15)) (λ e. simp e tt) (λ e. simp e tt)

    extends_put : Nothing extends
    extends_put = unfold fills said_of standing_of puts_of in by_test (eqb (field w 8 2) 0) (λ e. simp e tt) (λ e. simp e tt)

    barriers_put : Nothing barriers
    barriers_put = unfold fills said_of standing_of puts_of in by_test (eqb (field w 8 12) 0xff0) (λ e. simp e tt) (λ e. simp e tt)

    traps_put : Nothing ("BKPT" ∷ "UDF" ∷ "MRC" ∷ [])
    traps_put = unfold fills said_of standing_of puts_of in
        by_test (eqb (field w 28 4) 14)
        (λ e. by_test (eqb (field w 12 4) 15) (λ pc. simp (e, pc) tt) (λ pc. simp (e, pc) tt))
        (λ e. by_test (eqb (field w 12 4) 15) (λ pc. simp (e, pc) tt) (λ pc. simp (e, pc) tt))

    -- loads and stores with an index, and of pairs
    extra_put : Nothing (extra_pairs ++ extra_indexes)
    extra_put = unfold fills said_of standing_of puts_of in
        by_test (is_set w 23)
        (λ u. by_test (both (not (is_set w 24)) (is_set w 21)) (λ t. simp (u, t) tt)
        (λ t. by_test (eqb (field w 12 4 % 2) 1) (λ odd. simp (u, t, odd) tt) (λ odd. simp (u, t, odd) tt)))
        (λ u. by_test (both (not (is_set w 24)) (is_set w 21)) (λ t. simp (u, t) tt)
        (λ t. by_test (eqb (field w 12 4 % 2) 1) (λ odd. simp (u, t, odd) tt) (λ odd. simp (u, t, odd) tt)))

    indexes_put : Nothing indexes
    indexes_put = unfold fills said_of standing_of puts_of in
        by_test (left_index w)
        (λ i. by_test (eqb (field w 12 4) 15) (λ pc. simp (i, pc) tt) (λ pc. simp (i, pc) tt))
        (λ i. simp i tt)

    -- the mode of LDRT and its like is post
    unprivileged_puts : Nothing ("STRT" ∷ "STRBT" ∷ [])
    unprivileged_puts = unfold fills said_of standing_of puts_of in
        by_test (both (is_set w 25) (not (left_index w))) (λ i. simp i tt) (λ i. simp i tt)

    post_puts : is_set w 24 ≡ false → Nothing unprivileged_loads
    post_puts p = unfold fills said_of standing_of puts_of in
        by_test (is_set w 25)
        (λ t. by_test (left_index w)
        (λ i. by_test (eqb (field w 12 4) 15) (λ pc. simp (p, t, i, pc) tt) (λ pc. simp (t, i, pc) tt))
        (λ i. simp (t, i) tt))
        (λ t. by_test (eqb (field w 12 4) 15) (λ pc. simp (p, t, pc) tt) (λ pc. simp (t, pc) tt))

    -- the extra ones from R[15]
    literals_put : Nothing extra_literals
    literals_put = unfold fills said_of standing_of puts_of in
        by_test (eqb (field w 12 4 % 2) 1)
        (λ o. by_field w 24 1
        ((λ p. by_field w 21 1 ((λ b. simp (o, p, b) tt) also (λ b. simp (o, p, b) tt) also tt)) also
        (λ p. by_field w 21 1 ((λ b. simp (o, p, b) tt) also (λ b. simp (o, p, b) tt) also tt)) also tt))
        (λ o. by_field w 24 1
        ((λ p. by_field w 21 1 ((λ b. simp (o, p, b) tt) also (λ b. simp (o, p, b) tt) also tt)) also
        (λ p. by_field w 21 1 ((λ b. simp (o, p, b) tt) also (λ b. simp (o, p, b) tt) also tt)) also tt))

    -- SUBS PC, LR: by the row
    abbrev pub return_puts : ℕ → ℕ → String → Bool
    return_puts lo hi row = puts_in lo hi (answered (said_of w 0 (other_page_of row w)))

    pub others_put : T (all_of (return_puts 0 0) others)
    others_put = unfold said_of other_page_of puts_of in
        by_field w 20 1
        ((λ s. simp s tt) also (λ s. by_test (is_set w 23) (λ u. simp (s, u) tt) (λ u. simp (s, u) tt)) also tt)

    pub moves_put : T (all_of (return_puts 16 20) moves)
    moves_put = unfold said_of other_page_of puts_of in by_field w 20 1 ((λ s. simp s tt) also (λ s. simp s tt) also tt)

    -- the other pages
    abbrev In : ℕ → ℕ → List String → Type 0
    In lo hi titles = T (all_of (fills lo hi w) titles)

    pub shifts_in : In 16 20 shifts
    shifts_in = unfold fills said_of standing_of puts_of in
        by_test (eqb (field w 12 4) 15)
        (λ pc. by_field w 20 1 ((λ s. simp (pc, s) tt) also (λ s. simp (pc, s) tt) also tt))
        (λ pc. simp pc tt)

    pub hints_in : no_field w ≡ true → In 12 16 hints
    hints_in none = unfold fills said_of standing_of puts_of in
        by_test (eqb (field w 12 4) 15)
        (λ pc. simp pc tt)
        (λ pc. by_test (least_of (field w 0 12)) (λ l. simp (pc, l, mask_is w ∙ none) tt) (λ l. simp (pc, l, mask_is w ∙ none) tt))

    pub displaced_in : In 23 24 displaced
    displaced_in = unfold fills said_of standing_of puts_of in
        by_test (eqb (field w 12 4) 15)
        (λ pc. by_field w 24 1
        ((λ p. by_field w 21 1 ((λ b. simp (pc, p, b) tt) also (λ b. simp (pc, p, b) tt) also tt)) also
        (λ p. by_field w 21 1
        ((λ b. by_test (is_minus_zero w (field w 0 12)) (λ z. simp (gathering, pc, p, b, z) tt) (λ z. simp (gathering, pc, p, b, z) tt)) also
        (λ b. simp (pc, p, b) tt) also tt)) also tt))
        (λ pc. by_field w 24 1
        ((λ p. by_field w 21 1 ((λ b. simp (pc, p, b) tt) also (λ b. simp (pc, p, b) tt) also tt)) also
        (λ p. by_field w 21 1
        ((λ b. by_test (is_minus_zero w (field w 0 12)) (λ z. simp (gathering, pc, p, b, z) tt) (λ z. simp (pc, p, b, z) tt)) also
        (λ b. simp (pc, p, b) tt) also tt)) also tt))

    pub preloads_in : In 23 24 preloads
    preloads_in = unfold fills said_of standing_of puts_of in
        by_test (eqb (field w 12 4) 15)
        (λ pc. by_test (is_minus_zero w (field w 0 12)) (λ z. simp (gathering, pc, z) tt) (λ z. simp (pc, z) tt))
        (λ pc. simp pc tt)

    pub pldw_in : In 23 24 ("UNPREDICTABLE" ∷ [])
    pldw_in = unfold fills said_of standing_of puts_of in
        by_test (literal_pldw w) (λ l. simp (gathering, l) tt) (λ l. simp l tt)

-- a page by the "SEE" that leads to it, or by none
abbrev pub Leads : (String → Type 0) → String → List See → Type 0
Leads P row [] = Unit
Leads P row (x ∷ xs) = (both (is_among row x.rows) x.holds ≡ true → P x.to) × Leads P row xs

pub by_see : (P : String → Type 0) (row : String) (xs : List See) → P row → Leads P row xs → P (see_of row xs)
by_see P row [] here there = here
by_see P row (x ∷ xs) here there =
    by_test (both (is_among row x.rows) x.holds) (λ e. rw e (there.0 e)) (λ e. rw e (by_see P row xs here there.1))

-- PUSH and POP of one register: by the row
abbrev pub one_pages : List String
one_pages = "PUSH, one register" ∷ "POP, one register" ∷ []

module _ (c : Filler) (w : ℕ) where
  abbrev row_puts : String → Bool
  row_puts row = puts_in c 0 0 (answered (said_of w 0 row))

  named_puts : T (all_of row_puts one_pages)
  named_puts = unfold said_of in tt

  word_bits : (p u b : ℕ) → one_word w p u b ≡ true → (field w 24 1 ≡ p) × (field w 21 1 ≡ b)
  unfolding one_word
  word_bits p u b is =
      let (rn, rest) = parts (eqb (field w 16 4) 13) _ is in
      let (pre, rest) = parts (eqb (field w 24 1) p) _ rest in
      let (up, rest) = parts (eqb (field w 23 1) u) _ rest in
      (eqb-true _ p pre, eqb-true _ b (parts (eqb (field w 21 1) b) (eqb (field w 0 12) 4) rest).0)

  push_puts : one_word w 1 0 1 ≡ true → T (all_of row_puts ("STR (immediate, ARM)" ∷ []))
  push_puts is = let (p, b) = word_bits 1 0 1 is in unfold said_of puts_of in simp (p, b) tt

  pop_puts : one_word w 0 1 0 ≡ true → T (all_of row_puts ("LDR (immediate, ARM)" ∷ []))
  pop_puts is = let (p, b) = word_bits 0 1 0 is in unfold said_of puts_of in simp p tt

  one_puts : is_among (row_of w) one_pages ≡ true → T (all_of (fills c 0 0 w) one_pages)
  one_puts is = unfold fills standing_of in simp (passes (row_puts (table_row w)) puts) tt
    where
      other : false ≡ true → T (row_puts (table_row w))
      other e = absurd (no_true (sym e))

      seen : (titles : List String) (b : Bool) → (b ≡ true → T (all_of row_puts titles)) → both (is_among (table_row w) titles) b ≡ true
          → T (row_puts (table_row w))
      seen titles b so e = let (row, word) = parts (is_among (table_row w) titles) b e in one_of row_puts (table_row w) titles (so word) row

      puts : T (row_puts (table_row w))
      puts = unfold row_of page_of in
          by_see (λ s. is_among s one_pages ≡ true → T (row_puts (table_row w))) (table_row w) (sees w)
          (one_of row_puts (table_row w) one_pages named_puts)
          ((λ e. other) also (λ e. other) also (λ e. other) also
          (λ e so. seen ("STR (immediate, ARM)" ∷ []) (one_word w 1 0 1) push_puts e) also
          (λ e so. seen ("LDR (immediate, ARM)" ∷ []) (one_word w 0 1 0) pop_puts e) also
          (λ e. other) also (λ e. other) also tt)
          is

-- every page that is under a departure, but for those that put something, puts nothing
abbrev groups : List (List String)
groups =
    shifts ∷ hints ∷ ("UNPREDICTABLE" ∷ []) ∷ (returns ∷ []) ∷ displaced ∷ preloads ∷ coprocessor_transfers ∷ ("ADR" ∷ []) ∷ compares ∷
    plain_shifts ∷ multiples ∷ ("BFC" ∷ "BFI" ∷ []) ∷ reversals ∷ extends ∷ barriers ∷ ("BKPT" ∷ "UDF" ∷ "MRC" ∷ []) ∷
    (extra_pairs ++ extra_indexes) ∷ indexes ∷ ("STRT" ∷ "STRBT" ∷ []) ∷ unprivileged_loads ∷ extra_literals ∷ one_pages ∷ []

module _ (c : Filler) (w : ℕ) (page : String) (row : row_of w ≡ page) where
  if_among : (g : List String) → (is_among page g ≡ true → T (all_of (fills c 0 0 w) g)) → (is_among page g ≡ false → T (fills c 0 0 w page))
      → T (fills c 0 0 w page)
  if_among g puts = by_test (is_among page g) (λ is. one_of (fills c 0 0 w) page g (puts is) is)

  pub puts_nothing : is_among page shifts ≡ false → is_among page hints ≡ false → is_among page ("UNPREDICTABLE" ∷ []) ≡ false
      → is_among page (returns ∷ []) ≡ false → is_among page displaced ≡ false → is_among page preloads ≡ false
      → is_among page coprocessor_transfers ≡ false → T (fills c 0 0 w page)
  puts_nothing s h u r d p t =
      if_among ("ADR" ∷ []) (λ is. adr_puts c w) λ n0.
      if_among compares (λ is. compares_put c w) λ n1.
      if_among plain_shifts (λ is. shifts_put c w) λ n2.
      if_among multiples (λ is. multiples_put c w) λ n3.
      if_among ("BFC" ∷ "BFI" ∷ []) (λ is. widths_put c w) λ n4.
      if_among reversals (λ is. reversals_put c w) λ n5.
      if_among extends (λ is. extends_put c w) λ n6.
      if_among barriers (λ is. barriers_put c w) λ n7.
      if_among ("BKPT" ∷ "UDF" ∷ "MRC" ∷ []) (λ is. traps_put c w) λ n8.
      if_among (extra_pairs ++ extra_indexes) (λ is. extra_put c w) λ n9.
      if_among indexes (λ is. indexes_put c w) λ n10.
      if_among ("STRT" ∷ "STRBT" ∷ []) (λ is. unprivileged_puts c w) λ n11.
      if_among unprivileged_loads (λ is. post_puts c w (unprivileged_told w page is row)) λ n12.
      if_among extra_literals (λ is. literals_put c w) λ n13.
      if_among one_pages (λ is. one_puts c w (rw row is)) λ n14.
      unknown (simp (s, h, u, r, d, p, t, n0, n1, n2, n3, n4, n5, n6, n7, n8, n9, n10, n11, n12, n13, n14))
    where
      unknown : in_some page groups ≡ false → T (fills c 0 0 w page)
      unknown e = unfold fills standing_of in rw (not_covered (λ x. in_some x groups) page e (coverings w) tt) tt

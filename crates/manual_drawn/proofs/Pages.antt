-- Page by page: the home word of an accepted word is as the page draws it, exactly if the word is under no exception. Assumes nothing.
use mathlib.Core.Path.{◌≡◌, refl, sym, ◌∙◌, subst}
use Rattle.word.specs.Refusal.{refused_with}
use mathlib.Core.Bool.{Bool, true, false, not}
use mathlib.Core.List.{List, [], ◌∷◌, ◌++◌}
use Prim.Native.Nat.{ℕ, ◌+◌, ◌*◌, ◌%◌, ◌^◌}
use Prim.Native.String.{String}
use native.Mathlib.Nat.{zero-add}
use native.Mathlib.Omega.{arith}
use borrow.Author.Tests.{eqb-true, ne_eqb}
use lib.Dec.{T, eqb, leb}
use lib.Text.{eqt, eqt→eq}
use Rattle.word.specs.Choice.{pick, both, by_test, passes}
use Rattle.word.specs.Field.{field, small, splits}
use Rattle.insn.specs.Roots.{name}
use Rattle.insn.specs.Answer.{Decoded, insn_in}
use Rattle.insn.specs.declared.Insn.{Insn}
use Rattle.a32_imm.specs.Imm.{least_of}
use Rattle.encode_home.specs.declared.Filler.TheVariants.{Manual}
use Rattle.encode_home.specs.Home.{puts_of, put_all}
use Rattle.encode_home.specs.Table as H
use Rattle.encode_home.proofs.Leads as L
use Rattle.encode_home.proofs.Puts.{untouched}
use Rattle.manual.specs.A5.{table_row}
use Rattle.manual.specs.A8.{said_of, is_among, refused_rows, other_page_of, row_of}
use Rattle.manual.specs.Departures.{Standing, follows, departs, standing_of, port_of, answered}
use Rattle.manual.specs.Departures.{compares, extra_indexes, literals, hints, extends, barriers}
use Rattle.manual.specs.Reads.{is_set, is_minus_zero}
use Rattle.manual.specs.ShouldBe.{should_be, as_drawn}
use Rattle.manual.proofs.Fields.{by_field, both_false, pick_same, no_true, same, same→eq, ◌also◌}
use Rattle.manual.proofs.Pages.{returns}
use Rattle.manual_drawn.specs.Exceptions.{excepted_as}
use Rattle.manual_drawn.proofs.Told.{all_of, one_of, moves, others, no_field, msr_told, pld_told, hint_told, returns_tell}

-- what the decoder answers at address 0, by the page and how the word stands there
abbrev pub answer_of : ℕ → Standing → String → Decoded
answer_of w follows page = answered (said_of w 0 page)
answer_of w (departs it) page = port_of w 0 it (table_row w) page

-- where it is accepted, the home word is as drawn, exactly if the word is under no exception
unfoldable pub drawn_but : ℕ → String → Bool
drawn_but w s = pick (eqb (refused_with d) 0) (same (as_drawn s (put_all Manual (puts_of (insn_in d)) w)) (not (excepted_as s w))) true
  where
    d : Decoded
    d = answer_of w (standing_of s w) s

pub drawn_so : (w : ℕ) (s : String) → T (drawn_but w s) → refused_with (answer_of w (standing_of s w) s) ≡ 0
    → as_drawn s (put_all Manual (puts_of (insn_in (answer_of w (standing_of s w) s))) w) ≡ not (excepted_as s w)
drawn_so w s t ok = unfold drawn_but in same→eq _ _ (simp ok at t)

-- titles that are shown alike: a name by bit 20; by bits 5 and 6; one name
abbrev flagged : List String
flagged =
    "LSL (register)" ∷ "LSR (register)" ∷ "ASR (register)" ∷ "ROR (register)" ∷ "MVN (register-shifted register)" ∷ "MUL" ∷ moves

abbrev products : List String
products = "SMULWB, SMULWT" ∷ "SMULBB, SMULBT, SMULTB, SMULTT" ∷ []

abbrev singles : List String
singles =
    "TST (immediate)" ∷ "TEQ (immediate)" ∷ "CMP (immediate)" ∷ "CMN (immediate)" ∷ "QADD" ∷ "QSUB" ∷ "QDADD" ∷ "QDSUB" ∷ "STREX" ∷ "STREXB" ∷
    "STREXH" ∷ "LDREX" ∷ "LDREXB" ∷ "LDREXH" ∷ "MRS" ∷ "MSR (register)" ∷ "BX" ∷ "BXJ" ∷ "BLX (register)" ∷ "CLZ" ∷ "SDIV" ∷ "UDIV" ∷ []

abbrev pub reversals : List String
reversals = "REV" ∷ "REV16" ∷ "RBIT" ∷ "REVSH" ∷ []

abbrev based_preloads : List String
based_preloads = "PLDW (immediate)" ∷ "PLD (immediate)" ∷ []

abbrev Drawn : ℕ → List String → Type 0
Drawn w titles = T (all_of (drawn_but w) titles)

module _ (w : ℕ) where
  flagged_drawn : Drawn w flagged
  flagged_drawn = unfold drawn_but as_drawn should_be excepted_as said_of standing_of puts_of in
      by_test (eqb (field w 12 4) 15)
      (λ pc. by_field w 20 1 ((λ s. simp (L.apart, pc, s) tt) also (λ s. simp (L.apart, pc, s) tt) also tt))
      (λ pc. by_field w 20 1 ((λ s. simp (L.apart, pc, s) tt) also (λ s. simp (L.apart, pc, s) tt) also tt))

  products_drawn : Drawn w products
  products_drawn = unfold drawn_but as_drawn should_be excepted_as said_of standing_of puts_of in
      by_field w 5 1
      ((λ n. by_field w 6 1 ((λ m. simp (L.apart, n, m) tt) also (λ m. simp (L.apart, n, m) tt) also tt)) also
      (λ n. by_field w 6 1 ((λ m. simp (L.apart, n, m) tt) also (λ m. simp (L.apart, n, m) tt) also tt)) also tt)

  compares_drawn : Drawn w compares
  compares_drawn = unfold drawn_but as_drawn should_be excepted_as said_of standing_of puts_of in
      by_test (eqb (field w 12 4) 15) (λ e. let pc : field w 12 4 ≡ 15 = eqb-true _ 15 e in simp pc tt) (λ e. simp (L.apart, e) tt)

  singles_drawn : Drawn w singles
  singles_drawn = unfold drawn_but as_drawn should_be excepted_as said_of standing_of puts_of in simp L.apart tt

  indexes_drawn : Drawn w extra_indexes
  indexes_drawn = unfold drawn_but as_drawn should_be excepted_as said_of standing_of puts_of in
      by_test (is_set w 23)
      (λ u. by_test (both (not (is_set w 24)) (is_set w 21)) (λ t. simp (L.apart, u, t) tt)
      (λ t. by_test (eqb (field w 12 4 % 2) 1) (λ odd. simp (L.apart, u, t, odd) tt) (λ odd. simp (L.apart, u, t, odd) tt)))
      (λ u. by_test (both (not (is_set w 24)) (is_set w 21)) (λ t. simp (u, t) tt)
      (λ t. by_test (eqb (field w 12 4 % 2) 1) (λ odd. simp (u, t, odd) tt) (λ odd. simp (u, t, odd) tt)))

  -- no entry puts anything into 24, and none but those about ldc and stc into 21
  kept_24 : (i : Insn) → field (put_all Manual (puts_of i) w) 24 1 ≡ field w 24 1
  kept_24 i = simp (untouched Manual 24)

  kept_21 : (i : Insn) → leb (name "ldc") i.name ≡ false → field (put_all Manual (puts_of i) w) 21 1 ≡ field w 21 1
  kept_21 i other = simp (untouched Manual 21, other)

  ruleset kept = (kept_24, kept_21)

  literals_drawn : Drawn w literals
  literals_drawn = unfold drawn_but as_drawn should_be excepted_as said_of standing_of in
      by_test (eqb (field w 12 4) 15)
      (λ t. let pc : field w 12 4 ≡ 15 = eqb-true _ 15 t in by_field w 24 1
      ((λ p. by_field w 21 1 ((λ b. simp (kept, pc, p, b) tt) also (λ b. simp (kept, pc, p, b) tt) also tt)) also
      (λ p. by_field w 21 1
      ((λ b. by_test (is_minus_zero w (field w 0 12)) (λ z. simp (kept, pc, p, b, z) tt) (λ z. simp (kept, pc, p, b, z) tt)) also
      (λ b. simp (kept, pc, p, b) tt) also tt)) also tt))
      (λ t. by_test (eqb (field w 12 4 % 2) 1)
      (λ o. by_field w 24 1
      ((λ p. by_field w 21 1 ((λ b. simp (kept, t, o, p, b) tt) also (λ b. simp (kept, t, o, p, b) tt) also tt)) also
      (λ p. by_field w 21 1
      ((λ b. by_test (is_minus_zero w (field w 0 12)) (λ z. simp (kept, t, o, p, b, z) tt) (λ z. simp (kept, t, o, p, b, z) tt)) also
      (λ b. simp (kept, t, o, p, b) tt) also tt)) also tt))
      (λ o. by_field w 24 1
      ((λ p. by_field w 21 1 ((λ b. simp (kept, t, o, p, b) tt) also (λ b. simp (kept, t, o, p, b) tt) also tt)) also
      (λ p. by_field w 21 1
      ((λ b. by_test (is_minus_zero w (field w 0 12)) (λ z. simp (kept, t, o, p, b, z) tt) (λ z. simp (kept, t, o, p, b, z) tt)) also
      (λ b. simp (kept, t, o, p, b) tt) also tt)) also tt)))

  reversals_drawn : Drawn w reversals
  reversals_drawn = unfold drawn_but as_drawn should_be excepted_as said_of standing_of puts_of in
      by_test (eqb (field w 16 4) 15)
      (λ n. by_test (eqb (field w 8 4) 15) (λ m. simp (n, m) tt) (λ m. simp (n, m) tt))
      (λ n. simp n tt)

  extends_drawn : Drawn w extends
  extends_drawn = unfold drawn_but as_drawn should_be excepted_as said_of standing_of puts_of in by_test (eqb (field w 8 2) 0) (λ z. simp z tt) (λ z. simp z tt)

  barriers_drawn : Drawn w barriers
  barriers_drawn = unfold drawn_but as_drawn should_be excepted_as said_of standing_of puts_of in
      by_test (eqb (field w 8 12) 0xff0)
      (λ e.
      let whole : field w 8 12 ≡ 0xff0 = eqb-true _ 0xff0 e in
      let upper : field w 12 8 ≡ 255 = omega (arith, splits w 8 8 4, small w 8 4) in
      let lower : field w 8 4 ≡ 0 = omega (arith, splits w 8 8 4, small w 8 4) in
      simp (L.apart, e, upper, lower) tt)
      (λ e. simp e tt)

  -- a preload of nothing added has bit 23 set
  raised : (b : Bool) (lo k : ℕ) → leb (lo + k) 23 ≡ true → field (put_all Manual (pick b (H.ones 23 23 ∷ []) [] ++ []) w) lo k ≡ field w lo k
  raised true lo k below = simp L.apart
  raised false lo k below = refl

  preloads_drawn : Drawn w based_preloads
  preloads_drawn = unfold drawn_but as_drawn should_be excepted_as said_of standing_of puts_of in
      by_test (eqb (field w 12 4) 15)
      (λ pc. by_test (is_minus_zero w (field w 0 12)) (λ z. simp (raised, pc, z) tt) (λ z. simp (raised, pc, z) tt))
      (λ pc. simp pc tt)

  literal_drawn : is_set w 22 ≡ true → Drawn w ("PLD (literal)" ∷ [])
  literal_drawn r = unfold drawn_but as_drawn should_be excepted_as said_of standing_of puts_of in
      by_test (eqb (field w 12 4) 15)
      (λ pc. by_test (is_minus_zero w (field w 0 12)) (λ z. simp (raised, r, pc, z) tt) (λ z. simp (raised, r, pc, z) tt))
      (λ pc. simp pc tt)

  -- MSR of no field has zeros
  pub mask_is : eqb (field w 22 1 * 2 ^ 4 + field w 16 4) 0 ≡ no_field w
  mask_is =
      by_field w 22 1
      ((λ r. simp (r, zero-add)) also (λ r. simp r (ne_eqb (2 ^ 4 + field w 16 4) 0 (λ e. omega (arith, e)))) also tt)

  msr_drawn : no_field w ≡ false → Drawn w ("MSR (immediate)" ∷ [])
  msr_drawn some = unfold drawn_but as_drawn should_be excepted_as said_of standing_of puts_of in
      by_test (least_of (field w 0 12)) (λ l. simp (L.apart, l, mask_is ∙ some) tt) (λ l. simp (L.apart, l, mask_is ∙ some) tt)

  hints_drawn : no_field w ≡ true → Drawn w hints
  hints_drawn none = unfold drawn_but as_drawn should_be excepted_as said_of standing_of puts_of in
      by_test (eqb (field w 12 4) 15)
      (λ pc. simp (L.apart, pc) tt)
      (λ pc. by_test (least_of (field w 0 12)) (λ l. simp (L.apart, pc, l, mask_is ∙ none) tt) (λ l. simp (L.apart, pc, l, mask_is ∙ none) tt))

  -- B9.3.20: what the page would put, were there no SUBS PC, LR
  abbrev move_drawn : String → Bool
  move_drawn row = as_drawn returns (put_all Manual (puts_of (insn_in (answered (said_of w 0 (other_page_of row w))))) w)

  abbrev is_move : ℕ → Bool
  is_move v = both (is_set v 24) (both (is_set v 23) (is_set v 21))

  all_moves : T (all_of move_drawn moves)
  all_moves = unfold as_drawn should_be said_of other_page_of puts_of in
      by_test (is_move w)
      (λ m. by_field w 20 1 ((λ s. simp (L.apart, m, s) tt) also (λ s. simp (L.apart, m, s) tt) also tt))
      (λ m. by_field w 20 1 ((λ s. simp (L.apart, m, s) tt) also (λ s. simp (L.apart, m, s) tt) also tt))

  no_moves : not (both (is_set w 24) (is_set w 21)) ≡ true → T (all_of move_drawn others)
  no_moves e = unfold as_drawn should_be said_of other_page_of puts_of in
      by_test (is_set w 24)
      (λ p. by_test (is_set w 21)
      (λ b. absurd (no_true (sym (simp (p, b) at e))))
      (λ b. by_field w 20 1
      ((λ s. simp (both_false, p, b, s) tt) also
      (λ s. by_test (is_set w 23) (λ u. simp (p, b, s, u) tt) (λ u. simp (p, b, s, u) tt)) also tt)))
      (λ p. by_field w 20 1
      ((λ s. simp (p, s) tt) also (λ s. by_test (is_set w 23) (λ u. simp (p, s, u) tt) (λ u. simp (p, s, u) tt)) also tt))

  returns_drawn : row_of w ≡ returns → Drawn w (returns ∷ [])
  returns_drawn row = unfold drawn_but excepted_as standing_of in
      simp (passes (move_drawn (table_row w)) drawn, pick_same) tt
    where
      drawn : T (move_drawn (table_row w))
      drawn =
          by_test (is_among (table_row w) moves) (one_of move_drawn (table_row w) moves all_moves)
          (λ other. let told = returns_tell w row other in one_of move_drawn (table_row w) others (no_moves told.1) told.0)

  -- the other rows on the list are refused
  refused_drawn : T (all_of (λ s. pick (is_among s hints) true (drawn_but w s)) refused_rows)
  refused_drawn = unfold drawn_but said_of standing_of in tt

-- every title that is drawn
abbrev groups : List (List String)
groups =
    flagged ∷ products ∷ compares ∷ singles ∷ extra_indexes ∷ literals ∷ reversals ∷ extends ∷ barriers ∷ based_preloads ∷ ("PLD (literal)" ∷ []) ∷
    ("MSR (immediate)" ∷ []) ∷ hints ∷ (returns ∷ []) ∷ refused_rows ∷ []

abbrev pub in_some : String → List (List String) → Bool
in_some s [] = false
in_some s (g ∷ gs) = pick (is_among s g) true (in_some s gs)

abbrev pub is_known : String → Bool
is_known s = in_some s groups

module _ (w : ℕ) (page : String) (row : row_of w ≡ page) where
  if_among : (g : List String) → (is_among page g ≡ true → Drawn w g) → (is_among page g ≡ false → T (drawn_but w page)) → T (drawn_but w page)
  if_among g drawn = by_test (is_among page g) (λ is. one_of (drawn_but w) page g (drawn is) is)

  if_is : (s : String) → (row_of w ≡ s → Drawn w (s ∷ [])) → (is_among page (s ∷ []) ≡ false → T (drawn_but w page)) → T (drawn_but w page)
  if_is s drawn = if_among (s ∷ []) (λ is. drawn (row ∙ same_text (eqt page s) refl is))
    where
      same_text : (b : Bool) → eqt page s ≡ b → pick b true false ≡ true → page ≡ s
      same_text true e is = eqt→eq page s (subst T (sym e) tt)
      same_text false e is = absurd (no_true (sym is))

  pub page_drawn : (is_known page ≡ false → T (drawn_but w page)) → T (drawn_but w page)
  page_drawn unknown =
      if_among flagged (λ is. flagged_drawn w) λ n0.
      if_among products (λ is. products_drawn w) λ n1.
      if_among compares (λ is. compares_drawn w) λ n2.
      if_among singles (λ is. singles_drawn w) λ n3.
      if_among extra_indexes (λ is. indexes_drawn w) λ n4.
      if_among literals (λ is. literals_drawn w) λ n5.
      if_among reversals (λ is. reversals_drawn w) λ n6.
      if_among extends (λ is. extends_drawn w) λ n7.
      if_among barriers (λ is. barriers_drawn w) λ n8.
      if_among based_preloads (λ is. preloads_drawn w) λ n9.
      if_is "PLD (literal)" (λ is. literal_drawn w (pld_told w is)) λ n10.
      if_is "MSR (immediate)" (λ is. msr_drawn w (msr_told w is)) λ n11.
      if_among hints (λ is. hints_drawn w (hint_told w page is row)) λ n12.
      if_is returns (returns_drawn w) λ n13.
      by_test (is_among page refused_rows)
      (λ is. simp n12 at (one_of (λ s. pick (is_among s hints) true (drawn_but w s)) page refused_rows (refused_drawn w) is))
      (λ n14. unknown (simp (n0, n1, n2, n3, n4, n5, n6, n7, n8, n9, n10, n11, n12, n13, n14)))

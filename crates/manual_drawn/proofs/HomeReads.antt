-- What the manual says of the home words of loads and stores that add a constant, preloads and coprocessor words. Assumes nothing.
use mathlib.Core.Path.{◌≡◌, refl, sym, ap, ◌∙◌, subst}
use Rattle.word.specs.Refusal.{refused_with}
use mathlib.Core.Bool.{Bool, true, false}
use mathlib.Core.List.{List, [], ◌∷◌, ◌++◌}
use Prim.Native.Nat.{ℕ}
use Prim.Native.String.{String}
use native.Mathlib.Omega.{arith}
use borrow.Author.Tests.{eqb-true}
use lib.Dec.{T, eqb}
use Rattle.word.specs.Choice.{pick, both, by_test, passes}
use Rattle.word.specs.Every.{left, right}
use Rattle.word.specs.Field.{field, put, splits, put_above, put_below}
use Rattle.insn.specs.Answer.{Decoded, insn_in}
use Rattle.a32.specs.Decode.{decode_of}
use Rattle.encode_home.specs.declared.Filler.{Filler}
use Rattle.encode_home.specs.Home.{puts_of, put_all, home_of}
use Rattle.encode_home.specs.Table as H
use Rattle.encode_home.specs.Table.{Put}
use Rattle.encode_home.proofs.Leads as L
use Rattle.manual.specs.A5 as A
use Rattle.manual.specs.A5.{table_row}
use Rattle.manual.specs.A8.{reads, said_of, is_among, one_word, page_of, row_of, sees}
use Rattle.manual.specs.Departures.{standing_of, displaced, preloads, is_offset, coprocessor_transfers, answered}
use Rattle.manual.specs.Reads.{addressing, is_minus_zero}
use Rattle.manual.proofs.Fields.{apart, by_field, both_false, pick_same, ◌also◌}
use Rattle.manual.proofs.Forms.{mark_at}
use Rattle.manual_drawn.specs.HomeReads.{homely_as, homely, SaidAs, said_at}
use Rattle.manual_drawn.proofs.Drawn.{answer_is}
use Rattle.manual_drawn.proofs.Near.{puts_by, puts_by_lem}
use Rattle.manual_drawn.proofs.Pages.{answer_of}
use Rattle.manual_drawn.proofs.Rows.{kept_row, based, based_rows}
use Rattle.manual_drawn.proofs.Told.{all_of, one_of, none_to, own_row}
use Rattle.manual_drawn.proofs.Transfers.{Each, each_of, transfer_puts, puts, home_row, transfers_say}

-- readings that differ in the mark of an operand
marks : (n : ℕ) (d e : Decoded) → eqb (mark_at n d) (mark_at n e) ≡ false → reads d ≡ reads e → ⊥
marks n d e differ is = apart (mark_at n) d e differ (ap answered is)

-- the other rows of A5.6
abbrev coprocessor_rows : List String
coprocessor_rows = "UNDEFINED" ∷ "SVC" ∷ "Advanced SIMD, Floating-point" ∷ "MCRR" ∷ "MRRC" ∷ "CDP" ∷ "MCR" ∷ "MRC" ∷ []

abbrev every_row : List String
every_row = coprocessor_transfers ++ coprocessor_rows

unfoldable of_table : String → Bool
of_table s = is_among s every_row

of_either : (b : Bool) (x y : String) → of_table (pick b x y) ≡ pick b (of_table x) (of_table y)
of_either true x y = refl
of_either false x y = refl

of_row : (x : String) → is_among x every_row ≡ true → of_table x ≡ true
of_row x is = unfold of_table in is

table_rows : (w : ℕ) → of_table (A.coprocessor w) ≡ true
table_rows w = unfold A.coprocessor in simp (of_either, of_row, pick_same)

module _ (c : Filler) (w addr : ℕ) (ok : refused_with (decode_of w 0) ≡ 0) where
  abbrev pub Claim : Type 0
  Claim = SaidAs (homely w) (said_at w addr) (said_at (home_of c w) addr)

  pub home_is : home_of c w ≡ put_all c (puts_of (insn_in (decode_of w 0))) w
  home_is = unfold home_of in simp ok

  -- pages whose words have these puts, stay, and are said the same of
  abbrev PutsThese : List Put → List String → Type 0
  PutsThese ps titles = T (all_of (λ s. puts_by ps (answer_of w (standing_of s w) s)) titles)

  abbrev Says : ℕ → List String → Type 0
  Says home titles = Each (λ s. SaidAs (homely_as s w) (said_of w addr s) (said_of home addr s)) titles

  by_pages : (titles : List String) (ps : List Put) → is_among (row_of w) titles ≡ true → PutsThese ps titles
      → row_of (put_all c ps w) ≡ row_of w → Says (put_all c ps w) titles → Claim
  by_pages titles ps is puts_so row says =
      rw (home_is, puts_are, row) (each_of (λ s. SaidAs (homely_as s w) (said_of w addr s) (said_of (put_all c ps w) addr s)) (row_of w) titles says is)
    where
      puts_are : puts_of (insn_in (decode_of w 0)) ≡ ps
      puts_are =
          ap (λ (d : Decoded). puts_of (insn_in d)) (answer_is w ok)
          ∙ puts_by_lem ps _ (one_of (λ s. puts_by ps (answer_of w (standing_of s w) s)) (row_of w) titles puts_so is)
          (subst (λ (d : Decoded). refused_with d ≡ 0) (answer_is w ok) ok)

  -- ldc and stc
  pub transfers_claim : is_among (row_of w) coprocessor_transfers ≡ true → Claim
  transfers_claim is =
      by_pages coprocessor_transfers (puts w) is (transfer_puts w) (home_row c w (row_of w) is refl) (transfers_say c w addr)

  -- loads and stores that add a constant: bit 23, where they add nothing in offset mode
  by_pc : {A : Type 0} → (eqb (field w 12 4) 15 ≡ true → A) → (eqb (field w 12 4) 15 ≡ false → A) → A
  by_pc = by_test (eqb (field w 12 4) 15)

  post_puts : field w 24 1 ≡ 0 → PutsThese [] displaced
  post_puts p = unfold puts_of said_of standing_of in by_pc (λ t. simp (t, p) tt) (λ t. simp (t, p) tt)

  pre_puts : field w 24 1 ≡ 1 → field w 21 1 ≡ 1 → PutsThese [] displaced
  pre_puts p b = unfold puts_of said_of standing_of in by_pc (λ t. simp (t, p, b) tt) (λ t. simp (t, p, b) tt)

  some_puts : field w 24 1 ≡ 1 → field w 21 1 ≡ 0 → eqb (field w 0 12) 0 ≡ false → PutsThese [] displaced
  some_puts p b z = unfold puts_of said_of standing_of in
      by_field w 23 1
      ((λ u. by_pc (λ t. simp (L.magnitude, t, p, b, u, z) tt) (λ t. simp (L.magnitude, t, p, b, u, z) tt)) also
      (λ u. by_pc (λ t. simp (t, p, b, u, z) tt) (λ t. simp (t, p, b, u, z) tt)) also tt)

  none_puts : field w 24 1 ≡ 1 → field w 21 1 ≡ 0 → field w 0 12 ≡ 0 → PutsThese (H.ones 23 23 ∷ []) displaced
  none_puts p b z = unfold puts_of said_of standing_of in
      by_field w 23 1
      ((λ u. by_pc (λ t. simp (t, p, b, u, z) tt) (λ t. simp (t, p, b, u, z) tt)) also
      (λ u. by_pc (λ t. simp (t, p, b, u, z) tt) (λ t. simp (t, p, b, u, z) tt)) also tt)

  -- with bit 23 set, a page of these is the same
  raised : (titles : List String) → all_of (λ s. both (is_among s based) (none_to s (sees w))) titles ≡ true → is_among (row_of w) titles ≡ true
      → Each (λ s. page_of s (put w 23 1 1) ≡ s) titles → row_of (put w 23 1 1) ≡ row_of w
  raised titles good is pages = unfold row_of in
      ap (λ (s : String). page_of s (put w 23 1 1)) (sym kept) ∙ each_of (λ s. page_of s (put w 23 1 1) ≡ s) (row_of w) titles pages is
    where
      of_page : T (both (is_among (row_of w) based) (none_to (row_of w) (sees w)))
      of_page = one_of (λ s. both (is_among s based) (none_to s (sees w))) (row_of w) titles (subst T (sym good) tt) is

      table : table_row w ≡ row_of w
      table = own_row w (right (is_among (row_of w) based) _ of_page)

      kept : row_of w ≡ table_row (put w 23 1 1)
      kept =
          sym table
          ∙ kept_row based (table_row w) (table_row (put w 23 1 1))
          (based_rows w (put w 23 1 1) (λ lo k g. put_above w 23 1 1 refl lo k g) (λ lo k g. put_below w 23 1 1 refl lo k g))
          (rw table (passes _ (left (is_among (row_of w) based) _ of_page)))

  module _ (is : is_among (row_of w) displaced ≡ true) where
    unadded : PutsThese [] displaced → both (is_offset (addressing w)) (is_minus_zero w (field w 0 12)) ≡ false → Claim
    unadded puts_so other =
        by_pages displaced [] is puts_so refl
        (unfold homely_as in simp other (refl also refl also refl also refl also refl also refl also tt))

    added : field w 24 1 ≡ 1 → field w 21 1 ≡ 0 → field w 0 12 ≡ 0 → Claim
    added p b z = by_pages displaced (H.ones 23 23 ∷ []) is (none_puts p b z) row says
      where
        row : row_of (put w 23 1 1) ≡ row_of w
        row =
            raised displaced refl is
            (unfold page_of one_word in simp (L.apart, both_false, p, b) (refl also refl also refl also refl also refl also refl also tt))

        says : Says (put w 23 1 1) displaced
        says = unfold homely_as said_of in
            by_field w 23 1
            ((λ u. simp (L.apart, p, b, z, u)
            ((refl, marks 1 _ _ refl) also (refl, marks 1 _ _ refl) also (refl, marks 1 _ _ refl) also (refl, marks 1 _ _ refl) also
            (refl, marks 1 _ _ refl) also (refl, marks 1 _ _ refl) also tt)) also
            (λ u. simp (L.apart, p, b, z, u) (refl also refl also refl also refl also refl also refl also tt)) also tt)

    pub displaced_claim : Claim
    displaced_claim =
        by_field w 24 1
        ((λ p. unadded (post_puts p) (simp p)) also
        (λ p. by_field w 21 1
        ((λ b. by_test (eqb (field w 0 12) 0)
        (λ z. added p b (eqb-true _ 0 z))
        (λ z. unadded (some_puts p b z) (simp (both_false, p, b, z)))) also
        (λ b. unadded (pre_puts p b) (simp (p, b))) also tt)) also tt)

  -- preloads: bit 23, where they add nothing
  still_puts : field w 0 12 ≡ 0 → PutsThese (H.ones 23 23 ∷ []) preloads
  still_puts z = unfold puts_of said_of standing_of in
      by_pc (λ t. by_field w 23 1 ((λ u. simp (t, u, z) tt) also (λ u. simp (t, u, z) tt) also tt)) (λ t. simp t tt)

  moving_puts : eqb (field w 0 12) 0 ≡ false → PutsThese [] preloads
  moving_puts z = unfold puts_of said_of standing_of in
      by_pc (λ t. by_field w 23 1 ((λ u. simp (L.magnitude, t, u, z) tt) also (λ u. simp (t, u, z) tt) also tt)) (λ t. simp t tt)

  pub preloads_claim : is_among (row_of w) preloads ≡ true → Claim
  preloads_claim is =
      by_test (eqb (field w 0 12) 0)
      (λ e. let z : field w 0 12 ≡ 0 = eqb-true _ 0 e in
      by_pages preloads (H.ones 23 23 ∷ []) is (still_puts z) (raised preloads refl is (unfold page_of in refl also refl also refl also tt)) (says z))
      (λ z. by_pages preloads [] is (moving_puts z) refl (unfold homely_as in simp (both_false, z) (refl also refl also refl also tt)))
    where
      says : field w 0 12 ≡ 0 → Says (put w 23 1 1) preloads
      says z = unfold homely_as said_of in
          by_field w 23 1
          ((λ u. simp (L.apart, z, u) ((refl, marks 0 _ _ refl) also (refl, marks 0 _ _ refl) also (refl, marks 0 _ _ refl) also tt)) also
          (λ u. simp (L.apart, z, u) (refl also refl also refl also tt)) also tt)

  -- the other coprocessor words are their own home words, or refused
  module _ (cond : eqb (field w 28 4) 15 ≡ false) (group : field w 26 2 ≡ 3) where
    to_table : table_row w ≡ A.coprocessor w
    to_table = unfold table_row in
        by_field w 25 1
        ((λ t. let g : field w 25 3 ≡ 6 = omega (arith, splits w 25 2 1, group, t) in simp (cond, g)) also
        (λ t. let g : field w 25 3 ≡ 7 = omega (arith, splits w 25 2 1, group, t) in simp (cond, g)) also tt)

    in_table : is_among (table_row w) every_row ≡ true
    in_table = unfold of_table in ap (λ (s : String). is_among s every_row) to_table ∙ table_rows w

    page_is : row_of w ≡ table_row w
    page_is = unfold row_of in each_of (λ s. page_of s w ≡ s) (table_row w) every_row pages in_table
      where
        pages : Each (λ s. page_of s w ≡ s) every_row
        pages = unfold page_of in refl also refl also refl also refl also refl also refl also refl also refl also refl also refl also refl also tt

    pub coprocessor_claim : Claim
    coprocessor_claim =
        by_test (is_among (row_of w) coprocessor_transfers) transfers_claim
        (λ other. by_pages coprocessor_rows [] (passes _ (left_out other)) puts_so refl says)
      where
        left_out : is_among (row_of w) coprocessor_transfers ≡ false → T (is_among (row_of w) coprocessor_rows)
        left_out other =
            simp other at
            (one_of (λ s. pick (is_among s coprocessor_transfers) true (is_among s coprocessor_rows)) (row_of w) every_row tt (rw page_is in_table))

        puts_so : PutsThese [] coprocessor_rows
        puts_so = unfold puts_of said_of standing_of in by_test (eqb (field w 12 4) 15) (λ pc. simp pc tt) (λ pc. simp pc tt)

        says : Says w coprocessor_rows
        says = unfold homely_as in refl also refl also refl also refl also refl also refl also refl also refl also tt

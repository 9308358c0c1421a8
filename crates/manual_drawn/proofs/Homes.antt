-- What the manual says of an accepted word and of its home word agrees, but for the mark of minus zero and the unindexed form. Assumes nothing.
use mathlib.Core.Path.{◌≡◌, refl, sym, ap, ◌∙◌, subst}
use Rattle.word.specs.Refusal.{refused_with}
use mathlib.Core.Bool.{Bool, true, false, not}
use mathlib.Core.List.{List, [], ◌∷◌}
use Prim.Native.Nat.{ℕ, ◌+◌, ◌^◌, ◌<◌}
use Prim.Native.String.{String}
use borrow.Author.Tests.{eqb-true}
use lib.Dec.{T, eqb}
use Rattle.word.specs.Choice.{pick, both, by_test, passes, parts}
use Rattle.word.specs.Every.{left, right}
use Rattle.word.specs.Field.{field, splits}
use Rattle.word.specs.Layout.{whole}
use Rattle.insn.specs.Answer.{Decoded, insn_in}
use Rattle.a32.specs.Decode.{decode_of}
use Rattle.a32_elsewhere.proofs.Elsewhere.{refused_anywhere}
use Rattle.encode_home.specs.declared.Filler.{Filler}
use Rattle.encode_home.specs.Home.{puts_of, put_all, home_of}
use Rattle.encode_home.proofs.Puts.{all, untouched}
use Rattle.encode_home.proofs.Same.{home_decodes, home_small, home_condition}
use Rattle.manual.specs.A5.{table_row}
use Rattle.manual.specs.A8.{is_among, one_word, page_of, row_of, sees}
use Rattle.manual.specs.Departures.{Standing, follows, departs, standing_of, hints, displaced, preloads, coprocessor_transfers, literal_pldw}
use Rattle.manual.proofs.Fields.{no_true, not_not}
use Rattle.manual.proofs.Pages.{returns}
use Rattle.manual_drawn.specs.Exceptions.{is_departure}
use Rattle.manual_drawn.specs.HomeReads.{homely_as, homely, SaidAs, said_at}
use Rattle.manual_drawn.proofs.Departing.{puts_in, fills, return_puts, others_put, moves_put, shifts_in, hints_in, displaced_in, preloads_in}
use Rattle.manual_drawn.proofs.Departing.{pldw_in, one_pages, puts_nothing}
use Rattle.manual_drawn.proofs.Drawn.{answer_is}
use Rattle.manual_drawn.proofs.Followed.{both_followed}
use Rattle.manual_drawn.proofs.HomeReads.{home_is, transfers_claim, displaced_claim, preloads_claim, coprocessor_claim}
use Rattle.manual_drawn.proofs.Near.{Near, near_back, near_put, within}
use Rattle.manual_drawn.proofs.Nearby.{shifts_alike, hints_alike, returns_alike, pldw_alike}
use Rattle.manual_drawn.proofs.Pages.{answer_of}
use Rattle.manual_drawn.proofs.Rows.{kept_row, shifts, based, based_rows, no_transfer}
use Rattle.manual_drawn.proofs.Told.{all_of, one_of, none_to, own_row, moves, others, hint_told, returns_tell}
use Rattle.manual_drawn.proofs.Transfers.{each_of}

the_one : (row s : String) → is_among row (s ∷ []) ≡ true → row ≡ s
the_one row s is = each_of (λ x. x ≡ s) row (s ∷ []) (refl, tt) is

no_departure : (st : Standing) → is_departure st ≡ false → st ≡ follows
no_departure follows e = refl
no_departure (departs it) e = absurd (no_true e)

-- words that have all fields alike are the same
alike_words : (w v : ℕ) → w < 2 ^ 32 → v < 2 ^ 32 → Near 0 0 w v → w ≡ v
alike_words w v small small' (above, below) =
    sym (whole (32 ∷ []) w small) ∙ ap (λ (x : ℕ). 0 + x) (sym (above 0 32 refl)) ∙ whole (32 ∷ []) v small'

-- the pages that load, store and preload
abbrev based_page : String → Bool
based_page s = pick (is_among s displaced) true (pick (is_among s preloads) true (is_among s one_pages))

based_pages : (w : ℕ) → T (all_of (λ s. based_page (page_of s w)) based)
based_pages w = unfold page_of in
    by_test (one_word w 1 0 1)
    (λ a. by_test (one_word w 0 1 0) (λ b. simp (a, b) tt) (λ b. simp (a, b) tt))
    (λ a. by_test (one_word w 0 1 0) (λ b. simp (a, b) tt) (λ b. simp (a, b) tt))

-- a word under a departure, and another that differs from it where something is put
module _ (c : Filler) (w v addr : ℕ) (ok : refused_with (decode_of w 0) ≡ 0) (dep : is_departure (standing_of (row_of w) w) ≡ true)
    (near : (lo hi : ℕ) → T (all (within c lo hi) (puts_of (insn_in (decode_of w 0)))) → Near lo hi w v) (same : Near 0 0 w v → w ≡ v) where
  filled : (lo hi : ℕ) → T (fills c lo hi w (row_of w)) → Near lo hi w v
  filled lo hi t = near lo hi (simp ok at (subst (λ (d : Decoded). T (puts_in c lo hi d)) (sym (answer_is w ok)) answer))
    where
      answer : T (puts_in c lo hi (answer_of w (standing_of (row_of w) w) (row_of w)))
      answer = unfold fills in simp dep at t

  of_list : (lo hi : ℕ) (titles : List String) → T (all_of (fills c lo hi w) titles) → is_among (row_of w) titles ≡ true → Near lo hi w v
  of_list lo hi titles t is = filled lo hi (one_of (fills c lo hi w) (row_of w) titles t is)

  unput : T (fills c 0 0 w (row_of w)) → said_at w addr ≡ said_at v addr
  unput t = ap (λ (x : ℕ). said_at x addr) (same (filled 0 0 t))

  literal : row_of w ≡ "UNPREDICTABLE" → literal_pldw w ≡ true
  literal row = by_test (literal_pldw w) (λ l. l) (λ l. absurd (no_true (sym (unfold standing_of in simp l at there))))
    where
      there : is_departure (standing_of "UNPREDICTABLE" w) ≡ true
      there = subst (λ (s : String). is_departure (standing_of s w) ≡ true) row dep

  returned : row_of w ≡ returns → said_at w addr ≡ said_at v addr
  returned row =
      by_test (is_among (table_row w) moves)
      (λ is. returns_alike w v addr (filled 16 20 (by_row 16 20 (one_of (return_puts c w 16 20) (table_row w) moves (moves_put c w) is))) row is)
      (λ other. unput (by_row 0 0 (one_of (return_puts c w 0 0) (table_row w) others (others_put c w) (returns_tell w row other).0)))
    where
      by_row : (lo hi : ℕ) → T (return_puts c w lo hi (table_row w)) → T (fills c lo hi w (row_of w))
      by_row lo hi t = rw row (unfold fills standing_of in t)

  said_alike : is_among (row_of w) displaced ≡ false → is_among (row_of w) preloads ≡ false → is_among (row_of w) coprocessor_transfers ≡ false
      → said_at w addr ≡ said_at v addr
  said_alike d p t =
      by_test (is_among (row_of w) shifts) (λ is. shifts_alike w v addr (of_list 16 20 shifts (shifts_in c w) is) is) λ s.
      by_test (is_among (row_of w) hints)
      (λ is. hints_alike w v addr (of_list 12 16 hints (hints_in c w (hint_told w (row_of w) is refl)) is) is) λ h.
      by_test (is_among (row_of w) ("UNPREDICTABLE" ∷ []))
      (λ is. pldw_alike w v addr (of_list 23 24 ("UNPREDICTABLE" ∷ []) (pldw_in c w) is) (literal (the_one _ _ is))) λ u.
      by_test (is_among (row_of w) (returns ∷ [])) (λ is. returned (the_one _ _ is)) λ r.
      unput (puts_nothing c w (row_of w) refl s h u r d p t)

  -- with something put into a load, store or preload, it stays one
  based_page_lem : (titles : List String) → T (all_of (fills c 23 24 w) titles) → T (all_of (λ s. both (is_among s based) (none_to s (sees w))) titles)
      → is_among (row_of w) titles ≡ true → T (based_page (row_of v))
  based_page_lem titles t good is = unfold row_of in
      subst (λ (s : String). T (based_page (page_of s v))) (sym table ∙ kept)
      (one_of (λ s. based_page (page_of s v)) (page_of (table_row w) w) based (based_pages v) (passes _ (unfold row_of in among)))
    where
      of_page : T (both (is_among (row_of w) based) (none_to (row_of w) (sees w)))
      of_page = one_of (λ s. both (is_among s based) (none_to s (sees w))) (row_of w) titles good is

      among : T (is_among (row_of w) based)
      among = left (is_among (row_of w) based) _ of_page

      table : table_row w ≡ row_of w
      table = own_row w (right (is_among (row_of w) based) _ of_page)

      kept : table_row w ≡ table_row v
      kept = let (above, below) = of_list 23 24 titles t is in kept_row based _ _ (based_rows w v above below) (rw table (passes _ among))

module _ (c : Filler) (w addr : ℕ) (bound : w < 2 ^ 32) (ok : refused_with (decode_of w 0) ≡ 0) where
  abbrev home : ℕ
  home = home_of c w

  same_answer : decode_of home 0 ≡ decode_of w 0
  same_answer = home_decodes c w 0 bound

  near_home : (lo hi : ℕ) → T (all (within c lo hi) (puts_of (insn_in (decode_of w 0)))) → Near lo hi w home
  near_home lo hi t = subst (λ (x : ℕ). Near lo hi w x) (sym (home_is c w 0 ok)) (near_put c lo hi (puts_of (insn_in (decode_of w 0))) t w)

  back_home : (lo hi : ℕ) → T (all (within c lo hi) (puts_of (insn_in (decode_of home 0)))) → Near lo hi home w
  back_home lo hi t =
      near_back lo hi w home (near_home lo hi (subst (λ (d : Decoded). T (all (within c lo hi) (puts_of (insn_in d)))) same_answer t))

  -- a coprocessor word's home word is one
  abbrev coprocessor : ℕ → Bool
  coprocessor v = both (not (eqb (field v 28 4) 15)) (eqb (field v 26 2) 3)

  group : field home 26 2 ≡ field w 26 2
  group = rw (home_is c w 0 ok, splits (put_all c (puts_of (insn_in (decode_of w 0))) w) 26 1 1, splits w 26 1 1) (simp (untouched c 27, untouched c 26))

  module _ (outside : coprocessor w ≡ false) (d : is_among (row_of w) displaced ≡ false) (p : is_among (row_of w) preloads ≡ false)
      (t : is_among (row_of w) coprocessor_transfers ≡ false) (dep : is_departure (standing_of (row_of w) w) ≡ false) where
    departing : is_departure (standing_of (row_of home) home) ≡ true → said_at w addr ≡ said_at home addr
    departing there =
        by_test (is_among (row_of home) displaced)
        (λ is. absurd (left_out (based_page' displaced (displaced_in c home) tt is))) λ d'.
        by_test (is_among (row_of home) preloads)
        (λ is. absurd (left_out (based_page' preloads (preloads_in c home) tt is))) λ p'.
        by_test (is_among (row_of home) coprocessor_transfers)
        (λ is. absurd (no_transfer home (rw (home_condition c w, group) outside) (of_table is))) λ t'.
        sym (said_alike c home w addr ok' there back_home same d' p' t')
      where
        ok' : refused_with (decode_of home 0) ≡ 0
        ok' = ap (λ (d : Decoded). refused_with d) same_answer ∙ ok

        same : Near 0 0 home w → home ≡ w
        same = alike_words home w (home_small c w bound) bound

        based_page' : (titles : List String) → T (all_of (fills c 23 24 home) titles)
            → T (all_of (λ s. both (is_among s based) (none_to s (sees home))) titles) → is_among (row_of home) titles ≡ true → T (based_page (row_of w))
        based_page' = based_page_lem c home w addr ok' there back_home same

        left_out : T (based_page (row_of w)) → ⊥
        left_out is =
            subst T dep
            (one_of (λ s. is_departure (standing_of s w)) (row_of w) one_pages (unfold standing_of in tt) (passes _ (simp (d, p) at is)))

        of_table : is_among (row_of home) coprocessor_transfers ≡ true → is_among (table_row home) coprocessor_transfers ≡ true
        of_table is = rw (own_row home (one_of (λ s. none_to s (sees home)) (row_of home) coprocessor_transfers tt is)) is

  others_claim : coprocessor w ≡ false → is_among (row_of w) displaced ≡ false → is_among (row_of w) preloads ≡ false
      → is_among (row_of w) coprocessor_transfers ≡ false → said_at w addr ≡ said_at home addr
  others_claim outside d p t =
      by_test (is_departure (standing_of (row_of w) w))
      (λ dep. said_alike c w home addr ok dep near_home (alike_words w home bound (home_small c w bound)) d p t) λ dep.
      by_test (is_departure (standing_of (row_of home) home)) (departing outside d p t dep) λ dep'.
      both_followed c w addr bound (refused_anywhere w addr 0 ∙ ok) (no_departure _ dep) (no_departure _ dep')

  claim : SaidAs (homely w) (said_at w addr) (said_at home addr)
  claim =
      by_test (coprocessor w)
      (λ is. let (cond, group) = parts (not (eqb (field w 28 4) 15)) (eqb (field w 26 2) 3) is in
      coprocessor_claim c w addr ok (sym (not_not _) ∙ ap not cond) (eqb-true _ 3 group)) λ outside.
      by_test (is_among (row_of w) displaced) (displaced_claim c w addr ok) λ d.
      by_test (is_among (row_of w) preloads) (preloads_claim c w addr ok) λ p.
      by_test (is_among (row_of w) coprocessor_transfers) (transfers_claim c w addr ok) λ t.
      unfold homely_as in simp (d, p, t) (others_claim outside d p t)

-- of every accepted word, and of its home word, the manual says the same, but for the mark of minus zero and the unindexed form
pub home_reads : (c : Filler) (w addr : ℕ) → w < 2 ^ 32 → refused_with (decode_of w addr) ≡ 0
    → SaidAs (homely w) (said_at w addr) (said_at (home_of c w) addr)
home_reads c w addr bound ok = claim c w addr bound (refused_anywhere w 0 addr ∙ ok)

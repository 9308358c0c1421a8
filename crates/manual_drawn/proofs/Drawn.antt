-- Home words are as the manual draws them, but for the exceptions, which are not. Assumes nothing.
use mathlib.Core.Path.{◌≡◌, refl, ◌∙◌, subst}
use Rattle.word.specs.Refusal.{refused_with}
use mathlib.Core.Bool.{Bool, true, false, not}
use mathlib.Core.List.{List, [], ◌∷◌}
use Prim.Native.Nat.{ℕ}
use Prim.Native.String.{String}
use lib.Dec.{T, eqb}
use Rattle.word.specs.Choice.{pick, both, by_test}
use Rattle.word.specs.Every.{left, right}
use Rattle.word.specs.Field.{field}
use Rattle.insn.specs.Answer.{Decoded, insn_in}
use Rattle.a32_coproc.specs.Coproc.{floating_of}
use Rattle.a32.specs.Decode.{decode_of, group_of}
use Rattle.a32_elsewhere.proofs.Elsewhere.{refused_anywhere}
use Rattle.encode_home.specs.declared.Filler.TheVariants.{Manual}
use Rattle.encode_home.specs.Home.{puts_of, put_all, home_of}
use Rattle.encode_home.proofs.Leads.{refusal}
use Rattle.manual.specs.A5.{table_row}
use Rattle.manual.specs.A8.{Said, reads, beyond, names, unlisted, undefined, unpredictable, is_among, refused_rows, Page, pages, said_of, page_of, row_of}
use Rattle.manual.specs.Departures.{Standing, follows, departs, Covering, standing_among, standing_of, answered}
use Rattle.manual.specs.ShouldBe.{Drawing, drawings, bits_among, should_be, as_drawn}
use Rattle.manual.specs.Stands.{Agrees, StandsAs, in_range}
use Rattle.manual.proofs.Fields.{group_26_2, by_field, both_false, pick_same, ◌also◌}
use Rattle.manual_follows.proofs.Follows.{follows_the_manual}
use Rattle.manual_drawn.specs.Exceptions.{exceptions, excepted_as, excepted}
use Rattle.manual_drawn.proofs.Pages.{answer_of, drawn_but, drawn_so, is_known, page_drawn}
use Rattle.manual_drawn.proofs.Told.{all_of, one_of}

-- a test of every title that is drawn, and of every one that has an exception
abbrev all_drawn : (String → Bool) → List Drawing → Bool
all_drawn f [] = true
all_drawn f (d ∷ ds) = both (all_of f d.titles) (all_drawn f ds)

abbrev pub all_covered : (String → Bool) → List Covering → Bool
all_covered f [] = true
all_covered f (c ∷ cs) = both (all_of f c.rows) (all_covered f cs)

-- a title that does not pass it is none of them
module _ (f : String → Bool) (page : String) (not_f : f page ≡ false) where
  not_among : (ss : List String) → T (all_of f ss) → is_among page ss ≡ false
  not_among ss t = by_test (is_among page ss) (λ is. absurd (subst T not_f (one_of f page ss t is))) (λ other. other)

  not_drawn : (ds : List Drawing) → T (all_drawn f ds) → bits_among page ds ≡ []
  not_drawn [] t = refl
  not_drawn (d ∷ ds) t =
      rw (not_among d.titles (left (all_of f d.titles) (all_drawn f ds) t)) (not_drawn ds (right (all_of f d.titles) (all_drawn f ds) t))

  pub not_covered : (cs : List Covering) → T (all_covered f cs) → standing_among page cs ≡ follows
  not_covered [] t = refl
  not_covered (c ∷ cs) t =
      rw (not_among c.rows (left (all_of f c.rows) (all_covered f cs) t)) (not_covered cs (right (all_of f c.rows) (all_covered f cs) t))

-- every page, and no row is left out
every_page : (w : ℕ) → T (drawn_but w (row_of w))
every_page w = page_drawn w (row_of w) refl (λ unknown. unfold drawn_but in simp (undrawn unknown, unexcepted unknown, pick_same) tt)
  where
    undrawn : is_known (row_of w) ≡ false → (v : ℕ) → as_drawn (row_of w) v ≡ true
    undrawn unknown v = unfold as_drawn should_be in rw (not_drawn is_known (row_of w) unknown (drawings v) tt)

    unexcepted : is_known (row_of w) ≡ false → excepted_as (row_of w) w ≡ false
    unexcepted unknown = unfold excepted_as in rw (not_covered is_known (row_of w) unknown (exceptions w) tt)

-- the decoder's answer, by how the word stands
answers : (w : ℕ) {d : Decoded} (page : String) (st : Standing) → StandsAs st (table_row w) page w 0 d → d ≡ answer_of w st page
answers w {d} page follows s = agrees (said_of w 0 page) s
  where
    agrees : (said : Said) → Agrees said d → d ≡ answered said
    agrees (reads a) h = h
    agrees (beyond t) h = absurd h
    agrees (names t) h = h
    agrees unlisted h = absurd h
    agrees undefined h = h
    agrees unpredictable h = h
answers w page (departs it) s = s.0

module _ (w : ℕ) (ok : refused_with (decode_of w 0) ≡ 0) where
  pub ranged : in_range w ≡ true
  ranged = unfold decode_of group_of in
      by_test (eqb (field w 28 4) 15)
      (λ c. simp c)
      (λ c. by_test (floating_of w)
      (λ f. by_field w 25 3
      ((λ g. simp (c, group_26_2, g)) also (λ g. simp (c, group_26_2, g)) also (λ g. simp (c, group_26_2, g)) also (λ g. simp (c, group_26_2, g)) also
      (λ g. simp (c, group_26_2, g)) also (λ g. simp (c, group_26_2, g)) also
      (λ g. refusal (simp (c, g, f) at ok)) also (λ g. refusal (simp (c, g, f) at ok)) also tt))
      (λ f. simp (c, f, both_false)))

  pub answer_is : decode_of w 0 ≡ answer_of w (standing_of (row_of w) w) (row_of w)
  answer_is = unfold row_of in answers w (page_of (table_row w) w) (standing_of (page_of (table_row w) w) w) (follows_the_manual w 0 ranged)

  home_is : home_of Manual w ≡ put_all Manual (puts_of (insn_in (decode_of w 0))) w
  home_is = unfold home_of in simp ok

  at_zero : as_drawn (row_of w) (home_of Manual w) ≡ not (excepted w)
  at_zero = unfold excepted in
      rw (home_is, answer_is) (drawn_so w (row_of w) (every_page w) (subst (λ (d : Decoded). refused_with d ≡ 0) answer_is ok))

-- the home word of an accepted word is as its page draws it, exactly if the word is under no exception
pub home_as_drawn : (w addr : ℕ) → refused_with (decode_of w addr) ≡ 0 → as_drawn (row_of w) (home_of Manual w) ≡ not (excepted w)
home_as_drawn w addr ok = at_zero w (refused_anywhere w 0 addr ∙ ok)

-- every title that is drawn is one of A8's pages, or on its list of refused rows
abbrev titles_of : List Page → List String
titles_of [] = []
titles_of (p ∷ ps) = p.title ∷ titles_of ps

pub titles_known : (w addr : ℕ) → T (all_drawn (λ s. pick (is_among s refused_rows) true (is_among s (titles_of (pages w addr)))) (drawings w))
titles_known w addr = tt

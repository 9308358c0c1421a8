-- A home form is opened to the same, each place of it reads as before, its own home form is itself, and the list of changes has the places whose
-- words differ. Assumes nothing.
use mathlib.Core.Path.{◌≡◌, refl, sym, ap, subst, ◌∙◌}
use Rattle.word.specs.Refusal.{refused_with}
use Rattle.word.specs.declared.refusal.Refusal.{Refusal}
use Rattle.std.specs.Prelude.{Result}
use mathlib.Core.List.{List, [], ◌∷◌, ◌++◌}
use mathlib.Core.Logic.{◌↔◌, ◌⊎◌, inl, inr, ⊎_elim}
use Prim.Native.Nat.{ℕ, zero, suc, ◌+◌, ◌*◌, ◌^◌, ◌<◌}
use native.Mathlib.Omega.{arith}
use borrow.Author.Tests.{eq-eqb, eqb-true, eqb-false, ltb-true, ltb-false}
use lib.Dec.{eqb, ltb}
use lib.ListN.{length, take}
use lib.Seq.{length-take-le, take_at}
use Rattle.word.specs.Bytes.{word_at, bytes_of}
use Rattle.word.specs.Choice.{by_test, tested}
use Rattle.a32.specs.Decode.{decode_of}
use Rattle.encode_home.specs.declared.Filler.TheVariants.{Manual}
use Rattle.encode_home.specs.Home.{home_of}
use Rattle.encode_home.proofs.Same.{home_decodes, home_small, home_home}
use Rattle.section.specs.Ranges.{is_data}
use Rattle.section.specs.Section.{ranges_of, refusal_of, opened_of, places_of, here_of, opening_of, opened_in}
use Rattle.section.specs.Replaced.{with_word}
use Rattle.section.specs.declared.Here.{Here}
use Rattle.section.specs.declared.Here.TheVariants.{Word, Data, End}
use Rattle.section.specs.declared.Opened.{Opened}
use Rattle.section.proofs.Accepted.{opened}
use Rattle.section.proofs.Places.{how_many_lem, before_end, at_end}
use Rattle.home_form.specs.Home.{word_here, home_here, gathered, bytes_at, home_form_of}
use Rattle.home_form.specs.Changes.{change_at, changes_at, changes_of}
use Rattle.home_form.specs.Kept.{Bytes, Stays, In, Differs, Ascending}
use Rattle.home_form.specs.declared.Change.{Change}
use Rattle.home_form.proofs.Gathered.{same_gathered}
use Rattle.home_form.proofs.Rewriting.{all_done, opened_same, passed}

-- a word at home is at home, and so is one that is refused
home_again : (w : ℕ) → w < 2 ^ 32 → home_of Manual (home_of Manual w) ≡ home_of Manual w
home_again w bound =
    by_test (eqb (refused_with (decode_of w 0)) 0)
    (λ e. home_home Manual Manual w 0 bound (eqb-true _ 0 e))
    (λ e. let own : home_of Manual w ≡ w = unfold home_of in simp e in ap (home_of Manual) own)

-- what stands at a place has a word
small_here : (here : Here) → word_here here < 2 ^ 32 → home_here here < 2 ^ 32
small_here (Word w addr) h = home_small Manual w h
small_here (Data w addr) h = h
small_here End h = h

word_with : (w : ℕ) (here : Here) → (here ≡ End → w ≡ 0) → word_here (with_word w here) ≡ w
word_with w (Word v addr) h = refl
word_with w (Data v addr) h = refl
word_with w End h = sym (h refl)

end_home : (here : Here) → here ≡ End → home_here here ≡ 0
end_home here e = ap home_here e

home_with : (here : Here) → word_here here < 2 ^ 32 → home_here (with_word (home_here here) here) ≡ home_here here
home_with (Word w addr) h = home_again w h
home_with (Data w addr) h = refl
home_with End h = refl

stays_with : (here : Here) → word_here here < 2 ^ 32 → Stays here (with_word (home_here here) here)
stays_with (Word w addr) h = (refl, home_decodes Manual w addr h)
stays_with (Data w addr) h = refl
stays_with End h = refl

module _ (s : List ℕ) (ok : refusal_of s ≡ 0) where
  -- "the section is still accepted, with the same base, count and ranges"
  pub opens_same : opened_of (home_form_of s) ≡ opened_of s
  opens_same = ap opened_of (sym (all_done s ok)) ∙ opened_same s (opening_of s).count (omega arith)

  pub same_header : take (opening_of s).start (home_form_of s) ≡ take (opening_of s).start s
  same_header = unfold home_form_of in
      take_at (take (opening_of s).start s) (gathered (bytes_at s) (opening_of s).count) (opening_of s).start
      (length-take-le (opening_of s).start s (omega (arith, (opened s).long)))

  module _ (bytes : Bytes s) where
    small_word : (p : ℕ) → word_here (here_of s p) < 2 ^ 32
    small_word p =
        by_test (ltb p (length (places_of s)))
        (λ e. rw (before_end s (ltb-true p (length (places_of s)) e)) (tested (λ (here : Here). word_here here < 2 ^ 32) (is_data (ranges_of s (opening_of s).ranges) p)
        (λ d. there) (λ d. there)))
        (λ e. rw (at_end s (ltb-false p (length (places_of s)) e)) (omega arith))
      where
        there : word_at s ((opening_of s).start + 4 * p) < 2 ^ 32
        there =
            omega (
              arith,
              bytes ((opening_of s).start + 4 * p),
              bytes ((opening_of s).start + 4 * p + 1),
              bytes ((opening_of s).start + 4 * p + 2),
              bytes ((opening_of s).start + 4 * p + 3),
            )

    -- each place holds its word at home
    pub at_home : (p : ℕ) → here_of (home_form_of s) p ≡ with_word (home_here (here_of s p)) (here_of s p)
    at_home p =
        by_test (ltb p (opening_of s).count)
        (λ e.
        ap (λ (t : List ℕ). here_of t p) (sym (all_done s ok))
        ∙ passed s (λ q. small_here (here_of s q) (small_word q)) (opening_of s).count p (omega arith) (ltb-true p (opening_of s).count e))
        (λ e.
        let past = ltb-false p (opening_of s).count e in
        let none = at_end s {place = p} (omega (arith, how_many_lem s)) in
        at_end (home_form_of s) (omega (arith, how_many_lem (home_form_of s), ap (λ (o : Result Opened Refusal). (opened_in o).count) opens_same))
        ∙ sym (ap (λ (here : Here). with_word (home_here here) here) none))

    pub stays : (p : ℕ) → Stays (here_of s p) (here_of (home_form_of s) p)
    stays p = rw (at_home p) (stays_with (here_of s p) (small_word p))

    -- "a second run changes nothing"
    homes_again : (p : ℕ) → home_here (here_of (home_form_of s) p) ≡ home_here (here_of s p)
    homes_again p = ap home_here (at_home p) ∙ home_with (here_of s p) (small_word p)

    pub again : home_form_of (home_form_of s) ≡ home_form_of s
    again =
        by_parts (home_form_of s) ∙ ap (λ (o : Result Opened Refusal). take (opened_in o).start (home_form_of s) ++ gathered (bytes_at (home_form_of s)) (opened_in o).count) opens_same
        ∙ ap (λ (l : List ℕ). l ++ gathered (bytes_at (home_form_of s)) (opening_of s).count) same_header
        ∙ ap (λ (l : List ℕ). take (opening_of s).start s ++ l)
        (same_gathered (bytes_at (home_form_of s)) (bytes_at s) (opening_of s).count (λ p h. ap bytes_of (homes_again p)))
        ∙ sym (by_parts s)
      where
        by_parts : (t : List ℕ) → home_form_of t ≡ take (opening_of t).start t ++ gathered (bytes_at t) (opening_of t).count
        by_parts t = unfold home_form_of in refl

    -- the word at a place of the home form
    pub new_word : (p : ℕ) → word_here (here_of (home_form_of s) p) ≡ home_here (here_of s p)
    new_word p = ap word_here (at_home p) ∙ word_with (home_here (here_of s p)) (here_of s p) (end_home (here_of s p))

    -- "and lists nothing"
    pub none_again : changes_of (home_form_of s) ≡ []
    none_again = unfold changes_of in nothing (opening_of (home_form_of s)).count
      where
        nothing : (n : ℕ) → gathered (changes_at (home_form_of s)) n ≡ []
        nothing zero = refl
        nothing (suc n) =
            let same : word_here (here_of (home_form_of s) n) ≡ home_here (here_of (home_form_of s) n) = new_word n ∙ sym (homes_again n) in
            rw (nothing n) (simp (eq-eqb _ _ same))

-- what is in a list, and in two
in_append : (c : Change) (l m : List Change) → In c (l ++ m) ↔ (In c l ⊎ In c m)
in_append c l m = (apart l, ⊎_elim (first l) (second l))
  where
    apart : (l : List Change) → In c (l ++ m) → In c l ⊎ In c m
    apart [] i = inr i
    apart (d ∷ l) i = ⊎_elim (λ e. inl (inl e)) (λ j. ⊎_elim (λ k. inl (inr k)) (λ k. inr k) (apart l j)) i

    first : (l : List Change) → In c l → In c (l ++ m)
    first [] i = absurd i
    first (d ∷ l) i = ⊎_elim (λ e. inl e) (λ j. inr (first l j)) i

    second : (l : List Change) → In c m → In c (l ++ m)
    second [] i = i
    second (d ∷ l) i = inr (second l i)

module _ (s : List ℕ) where
  -- a change is listed at its own place, if its words differ
  pub record Listed (n : ℕ) (c : Change) : Type 0 where
    pub below : c.place < n
    pub is : c ≡ change_at c.place (here_of s c.place)
    pub other : c.old ≡ c.new → ⊥

  one_listed : (n : ℕ) (c : Change) → In c (changes_at s n) → (c ≡ change_at n (here_of s n)) × (c.old ≡ c.new → ⊥)
  one_listed n c i =
      by_test (eqb (word_here (here_of s n)) (home_here (here_of s n)))
      (λ e. absurd (let none : ⊥ = simp e at i in none))
      (λ e.
      let is : (c ≡ change_at n (here_of s n)) ⊎ ⊥ = simp e at i in
      ⊎_elim (λ (same : c ≡ change_at n (here_of s n)). (same, λ alike. eqb-false _ _ e (subst (λ (d : Change). d.old ≡ d.new) same alike)))
      (λ none. absurd none) is)

  lists_one : (n : ℕ) (c : Change) → c ≡ change_at n (here_of s n) → (c.old ≡ c.new → ⊥) → In c (changes_at s n)
  lists_one n c is other =
      by_test (eqb (word_here (here_of s n)) (home_here (here_of s n)))
      (λ e. absurd (other (subst (λ (d : Change). d.old ≡ d.new) (sym is) (eqb-true _ _ e))))
      (λ e. simp e (inl is))

  lists : (n : ℕ) (c : Change) → In c (gathered (changes_at s) n) ↔ Listed n c
  lists zero c = (λ i. absurd i, λ l. absurd (let z : ⊥ = omega (arith, l.below) in z))
  lists (suc n) c = (there (lists n c).0, back (lists n c).1)
    where
      there : (In c (gathered (changes_at s) n) → Listed n c) → In c (gathered (changes_at s) n ++ changes_at s n) → Listed (suc n) c
      there before i =
          ⊎_elim
          (λ (j : In c (gathered (changes_at s) n)).
          let l = before j in
          record { below = omega (arith, l.below); is = l.is; other = l.other })
          (λ (j : In c (changes_at s n)).
          let l = one_listed n c j in
          let at : c.place ≡ n = ap (λ (d : Change). d.place) l.0 in
          record { below = omega arith; is = l.0 ∙ ap (λ (k : ℕ). change_at k (here_of s k)) (sym at); other = l.1 })
          ((in_append c (gathered (changes_at s) n) (changes_at s n)).0 i)

      back : (Listed n c → In c (gathered (changes_at s) n)) → Listed (suc n) c → In c (gathered (changes_at s) n ++ changes_at s n)
      back before l =
          (in_append c (gathered (changes_at s) n) (changes_at s n)).1
          (by_test (eqb c.place n)
          (λ e. inr (lists_one n c (l.is ∙ ap (λ (k : ℕ). change_at k (here_of s k)) (eqb-true c.place n e)) l.other))
          (λ e. inl (before (record { below = omega (arith, l.below, eqb-false c.place n e); is = l.is; other = l.other }))))

  -- places ascend
  in_order : (n : ℕ) → Ascending (gathered (changes_at s) n)
  in_order zero = tt
  in_order (suc n) =
      joined (gathered (changes_at s) n) (in_order n) (λ c i. ((lists n c).0 i).below)
    where
      last : Ascending (changes_at s n)
      last =
          tested (λ (l : List Change). Ascending l) (eqb (word_here (here_of s n)) (home_here (here_of s n))) (λ e. tt) (λ e. (λ d none. absurd none, tt))

      joined : (l : List Change) → Ascending l → ((c : Change) → In c l → c.place < n) → Ascending (l ++ changes_at s n)
      joined [] up below = last
      joined (c ∷ l) up below = (
        λ d i.
            ⊎_elim (λ (j : In d l). up.0 d j)
            (λ (j : In d (changes_at s n)).
            let at : d.place ≡ n = ap (λ (x : Change). x.place) (one_listed n d j).0 in
            omega (arith, below c (inl refl)))
            ((in_append d l (changes_at s n)).0 i),
        joined l up.1 (λ d j. below d (inr j)),
      )

  pub ascending : Ascending (changes_of s)
  ascending = unfold changes_of in in_order (opening_of s).count

-- the list has exactly the places where old and new differ
pub lists_exactly : (s : List ℕ) → refusal_of s ≡ 0 → Bytes s → (c : Change) → In c (changes_of s) ↔ Differs s (home_form_of s) c
lists_exactly s ok bytes c = unfold changes_of in (there, back)
  where
    there : In c (gathered (changes_at s) (opening_of s).count) → Differs s (home_form_of s) c
    there i =
        let l = (lists s (opening_of s).count c).0 i in
        record {
          inside = l.below;
          old = ap (λ (d : Change). d.old) l.is;
          new = ap (λ (d : Change). d.new) l.is ∙ sym (new_word s ok bytes c.place);
          other = l.other;
        }

    with_words : ℕ → ℕ → Change
    with_words old new = record { place = c.place; old = old; new = new }

    back : Differs s (home_form_of s) c → In c (gathered (changes_at s) (opening_of s).count)
    back d =
        (lists s (opening_of s).count c).1
        (record {
          below = d.inside;
          is = ap (λ (old : ℕ). with_words old c.new) d.old
              ∙ ap (with_words (word_here (here_of s c.place))) (d.new ∙ new_word s ok bytes c.place);
          other = d.other;
        })

-- A section of which the words before a place are at home: it is opened to the same, and the other places hold what they held. Assumes nothing.
use mathlib.Core.Path.{◌≡◌, sym, ap, subst, ◌∙◌}
use Rattle.word.specs.declared.refusal.Refusal.{Refusal}
use Rattle.std.specs.Prelude.{Result}
use mathlib.Core.List.{List, ◌++◌, append_assoc, append-nil}
use Prim.Native.Nat.{ℕ, zero, suc, ◌+◌, ◌-◌, ◌*◌, ◌^◌, ◌<◌, ◌≤◌}
use native.Mathlib.Nat.{add-zero}
use native.Mathlib.Numerals.{add-one}
use native.Mathlib.Omega.{arith}
use borrow.Author.Tests.{eqb-true, eqb-false}
use lib.Dec.{eqb}
use lib.ListN.{length, take, drop, length-append, take-append-drop, drop_of_length-le}
use lib.Seq.{length-take-le, take_at, drop_at, drop-drop}
use Rattle.word.specs.Bytes.{bytes_of}
use Rattle.word.specs.Choice.{by_test}
use Rattle.section.specs.Section.{start_of, refusal_of, opened_of, here_of, opening_of, opened_in}
use Rattle.section.specs.Replaced.{replaced_of, with_word}
use Rattle.section.specs.declared.Opened.{Opened}
use Rattle.section.proofs.Accepted.{accepted, opens, opened}
use Rattle.section.proofs.Replaced.{start_is, opened_alike, stays_elsewhere, new_there}
use Rattle.section.specs.declared.Here.{Here}
use Rattle.text.specs.Put.{Room, Put}
use Rattle.text.proofs.Writing.{◌then◌}
use Rattle.home_form.specs.Home.{home_here, gathered, bytes_at, home_form_of}
use Rattle.home_form.specs.Changes.{change_at, listed, changes_at, changes_of, numbers_of}
use Rattle.home_form.specs.declared.Change.{Change}
use Rattle.home_form.proofs.Gathered.{no_less, four_each, numbers_append, three_each}

-- four bytes in the place of four, behind what was put together
spliced : (a b v s : List ℕ) (k : ℕ) → length (a ++ b) ≡ k
    → take k (a ++ b ++ drop k s) ++ v ++ drop (k + 4) (a ++ b ++ drop k s) ≡ a ++ (b ++ v) ++ drop (k + 4) s
spliced a b v s k long =
    rw (
      take_at (a ++ b) (drop k s) k long,
      ← drop-drop 4 k ((a ++ b) ++ drop k s),
      drop_at (a ++ b) (drop k s) k long,
      drop-drop 4 k s,
    )
    (rw (append_assoc a b v))

module _ (s : List ℕ) where
  -- the words before place n are at home
  abbrev pub rewritten : ℕ → List ℕ
  rewritten n = take (opening_of s).start s ++ gathered (bytes_at s) n ++ drop ((opening_of s).start + 4 * n) s

  pub none_yet : s ≡ rewritten 0
  none_yet = rw (add-zero, append-nil) (sym (take-append-drop (opening_of s).start s))

  pub all_done : refusal_of s ≡ 0 → rewritten (opening_of s).count ≡ home_form_of s
  all_done ok = unfold home_form_of in
      let long : length s ≤ (opening_of s).start + 4 * (opening_of s).count =
      omega (arith, (accepted s ok).long, ap (λ (o : Result Opened Refusal). (opened_in o).start) (opens s ok), ap (λ (o : Result Opened Refusal). (opened_in o).count) (opens s ok))
      in
      rw (drop_of_length-le s long, append-nil)

  front : (n : ℕ) → length (take (opening_of s).start s ++ gathered (bytes_at s) n) ≡ (opening_of s).start + 4 * n
  front n =
      omega (
        arith,
        length-append (take (opening_of s).start s) (gathered (bytes_at s) n),
        length-take-le (opening_of s).start s (omega (arith, (opened s).long)),
        four_each s n,
      )

  -- one word more
  module _ (n : ℕ) (inside : n < (opening_of s).count) (same : opened_of (rewritten n) ≡ opened_of s) where
    there : n < (opening_of (rewritten n)).count
    there = omega (arith, ap (λ (o : Result Opened Refusal). (opened_in o).count) same)

    pub one_more : replaced_of (rewritten n) n (home_here (here_of s n)) ≡ rewritten (suc n)
    one_more = unfold replaced_of in
        let w = home_here (here_of s n) in
        let start : start_of (rewritten n) ≡ (opening_of s).start =
        sym (start_is (rewritten n) n w there) ∙ ap (λ (o : Result Opened Refusal). (opened_in o).start) same
        in
        let on : (opening_of s).start + 4 * n + 4 ≡ (opening_of s).start + 4 * suc n = omega arith in
        ap (λ (k : ℕ). take (k + 4 * n) (rewritten n) ++ bytes_of w ++ drop (k + 4 * n + 4) (rewritten n)) start
        ∙ spliced (take (opening_of s).start s) (gathered (bytes_at s) n) (bytes_of w) s ((opening_of s).start + 4 * n) (front n)
        ∙ ap (λ (k : ℕ). take (opening_of s).start s ++ (gathered (bytes_at s) n ++ bytes_of w) ++ drop k s) on

    more_opened : opened_of (rewritten (suc n)) ≡ opened_of s
    more_opened = ap opened_of (sym one_more) ∙ sym (opened_alike (rewritten n) n (home_here (here_of s n)) there) ∙ same

    more_elsewhere : (p : ℕ) → (p ≡ n → ⊥) → here_of (rewritten (suc n)) p ≡ here_of (rewritten n) p
    more_elsewhere p other =
        ap (λ (t : List ℕ). here_of t p) (sym one_more) ∙ stays_elsewhere (rewritten n) n (home_here (here_of s n)) there p other

    more_there : home_here (here_of s n) < 2 ^ 32 → here_of (rewritten (suc n)) n ≡ with_word (home_here (here_of s n)) (here_of (rewritten n) n)
    more_there small =
        ap (λ (t : List ℕ). here_of t n) (sym one_more) ∙ new_there (rewritten n) n (home_here (here_of s n)) there small

  pub opened_same : (n : ℕ) → n ≤ (opening_of s).count → opened_of (rewritten n) ≡ opened_of s
  opened_same zero h = ap opened_of (sym none_yet)
  opened_same (suc n) h = more_opened n (omega arith) (opened_same n (omega arith))

  -- places that are not reached hold what they held
  pub ahead : (n p : ℕ) → n ≤ (opening_of s).count → n ≤ p → here_of (rewritten n) p ≡ here_of s p
  ahead zero p h b = ap (λ (t : List ℕ). here_of t p) (sym none_yet)
  ahead (suc n) p h b =
      more_elsewhere n (omega arith) (opened_same n (omega arith)) p (λ e. let z : ⊥ = omega arith in z) ∙ ahead n p (omega arith) (omega arith)

  -- those that are, the word at home
  pub passed : ((p : ℕ) → home_here (here_of s p) < 2 ^ 32) → (n p : ℕ) → n ≤ (opening_of s).count → p < n
      → here_of (rewritten n) p ≡ with_word (home_here (here_of s p)) (here_of s p)
  passed small zero p h b = absurd (let z : ⊥ = omega arith in z)
  passed small (suc n) p h b =
      let same = opened_same n (omega arith) in
      by_test (eqb p n)
      (λ e.
      let is : n ≡ p = sym (eqb-true p n e) in
      rw (← is) (more_there n (omega arith) same (small n) ∙ ap (with_word (home_here (here_of s n))) (ahead n n (omega arith) (omega arith))))
      (λ e. more_elsewhere n (omega arith) same p (eqb-false p n e) ∙ passed small n p (omega arith) (omega (arith, eqb-false p n e)))

-- a turn of the loop: what it reads, rewrites and lists at place n
module _ (s : List ℕ) (n : ℕ) (inside : n < (opening_of s).count) {t : List ℕ} (is : t ≡ rewritten s n) {here : Here} (read : here ≡ here_of t n)
    {change : Change} (made : change ≡ change_at n here) where
  change_is : change ≡ change_at n (here_of s n)
  change_is =
      made ∙ ap (change_at n) read ∙ ap (λ (u : List ℕ). change_at n (here_of u n)) is
      ∙ ap (change_at n) (ahead s n n (omega arith) (omega arith))

  pub rewrites : {t' : List ℕ} → t' ≡ replaced_of t n change.new → t' ≡ rewritten s (n + 1)
  rewrites given =
      given ∙ ap (λ (u : List ℕ). replaced_of u n change.new) is ∙ ap (λ (c : Change). replaced_of (rewritten s n) n c.new) change_is
      ∙ one_more s n inside (opened_same s n (omega arith)) ∙ ap (rewritten s) (sym (add-one n))

  module _ {list₀ list : List ℕ} {at : ℕ} (before : Put list₀ 0 (numbers_of (gathered (changes_at s) n)) at list) where
    pub lists : {list' : List ℕ} {at' : ℕ} → Put list at (numbers_of (listed change)) at' list'
        → Put list₀ 0 (numbers_of (gathered (changes_at s) (n + 1))) at' list'
    lists {list'} {at'} put =
        rw (add-one n, numbers_append (gathered (changes_at s) n) (changes_at s n))
        (before then subst (λ (c : Change). Put list at (numbers_of (listed c)) at' list') change_is put)

    pub fits : length list ≡ length list₀ → 3 * length (changes_of s) ≤ length list₀ → Room list at (numbers_of (listed change))
    fits long room = unfold changes_of in
        let on : suc n + ((opening_of s).count - suc n) ≡ (opening_of s).count = omega arith in
        let grown : length (gathered (changes_at s) (suc n)) ≤ length (gathered (changes_at s) (opening_of s).count) =
        rw on at (no_less (changes_at s) (suc n) ((opening_of s).count - suc n))
        in
        omega (
          arith,
          before.ends,
          three_each (gathered (changes_at s) n),
          three_each (listed change),
          length-append (gathered (changes_at s) n) (changes_at s n),
          ap (λ (c : Change). length (listed c)) change_is,
          grown,
        )

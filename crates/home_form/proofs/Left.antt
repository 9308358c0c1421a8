-- What is known of a section and a list after the section was put in its home form, once and again. Assumes nothing.
use mathlib.Core.Path.{◌≡◌, sym, ap, ◌∙◌}
use Rattle.word.specs.declared.refusal.Refusal.{Refusal}
use Rattle.std.specs.Prelude.{Result, Ok}
use Rattle.word.specs.Refusal.{numbered, refused_with, refusing, not_refused}
use mathlib.Core.Bool.{false}
use mathlib.Core.List.{List, []}
use mathlib.Core.Logic.{◌↔◌}
use Prim.Native.Nat.{ℕ, ◌/◌, ◌≤◌}
use native.Mathlib.Omega.{arith}
use borrow.Author.Tests.{eqb-true, eqb-false}
use lib.Dec.{eqb}
use lib.ListN.{length, take}
use Rattle.word.specs.Choice.{by_test}
use Rattle.text.specs.Text.{written}
use Rattle.text.proofs.Writing.{nothing}
use Rattle.section.specs.Section.{refusal_of, opened_of, here_of, opening_of}
use Rattle.section.specs.declared.Opened.{Opened}
use Rattle.section.proofs.Accepted.{same_refusal}
use Rattle.home_form.specs.Home.{home_form_of}
use Rattle.home_form.specs.Changes.{changes_of, numbers_of}
use Rattle.home_form.specs.HomeForm.{refused_by, counted, PutsHome}
use Rattle.home_form.specs.Kept.{Bytes, Stays, In, Differs}
use Rattle.home_form.specs.declared.Change.{Change}
use Rattle.home_form.specs.declared.Changed.{Changed}
use Rattle.home_form.proofs.Answers.{room}
use Rattle.home_form.proofs.Kept.{opens_same, same_header, stays, again, none_again, lists_exactly}

-- without a refusal
module _ {s list s' list' : List ℕ} {r : Result Changed Refusal} (put : PutsHome s list r s' list') (ok : refused_with r ≡ 0) where
  fits : refused_by s list ≡ 0
  fits =
      by_test (eqb (refused_by s list) 0)
      (λ e. eqb-true (refused_by s list) 0 e)
      (λ e. not_refused (numbered (refused_by s list)) (let given : r ≡ refusing (refused_by s list) = put.answer ∙ simp e in sym (ap (λ x. refused_with x) given) ∙ ok))

  pub accepts : refusal_of s ≡ 0
  accepts =
      by_test (eqb (refused_with (opened_of s)) 0)
      (λ e. sym (same_refusal s) ∙ eqb-true (refused_with (opened_of s)) 0 e)
      (λ e. absurd (eqb-false (refused_with (opened_of s)) 0 e (sym (own e) ∙ fits)))
    where
      own : eqb (refused_with (opened_of s)) 0 ≡ false → refused_by s list ≡ refused_with (opened_of s)
      own e = unfold refused_by in simp e

  pub bytes_are : s' ≡ home_form_of s
  bytes_are = put.bytes ∙ simp fits

  pub list_is : list' ≡ written list 0 (numbers_of (changes_of s))
  list_is = put.left ∙ simp fits

  pub answer_is : r ≡ Ok (counted (changes_of s))
  answer_is = put.answer ∙ simp fits

  pub still_opens : opened_of s' ≡ opened_of s
  still_opens = ap opened_of bytes_are ∙ opens_same s accepts

  pub still_headed : take (opening_of s).start s' ≡ take (opening_of s).start s
  still_headed = ap (take (opening_of s).start) bytes_are ∙ same_header s accepts

  module _ (bytes : Bytes s) where
    pub still_reads : (p : ℕ) → Stays (here_of s p) (here_of s' p)
    still_reads p = rw bytes_are (stays s accepts bytes p)

    pub differ : (c : Change) → In c (changes_of s) ↔ Differs s s' c
    differ c = rw bytes_are (lists_exactly s accepts bytes c)

    -- a second run
    pub stays_so : {list₂ s₂ list₂' : List ℕ} {r₂ : Result Changed Refusal} → PutsHome s' list₂ r₂ s₂ list₂'
        → (r₂ ≡ Ok (counted [])) × (s₂ ≡ s') × (list₂' ≡ list₂)
    stays_so {list₂} put₂ =
        let none : changes_of s' ≡ [] = ap changes_of bytes_are ∙ none_again s accepts bytes in
        let opened : refused_with (opened_of s') ≡ 0 = ap (λ (o : Result Opened Refusal). refused_with o) still_opens ∙ same_refusal s ∙ accepts in
        let few : length (changes_of s') ≤ length list₂ / 3 = rw none (omega arith) in
        let fine = room s' list₂ opened few in (
          put₂.answer ∙ simp fine (ap (λ (l : List Change). Ok (counted l)) none),
          put₂.bytes ∙ simp fine (ap home_form_of bytes_are ∙ again s accepts bytes ∙ sym bytes_are),
          put₂.left ∙ simp fine (ap (λ (l : List Change). written list₂ 0 (numbers_of l)) none ∙ sym (nothing list₂ 0)),
        )

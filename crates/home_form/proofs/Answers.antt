-- What is answered and left, check by check. Assumes nothing.
use mathlib.Core.Path.{◌≡◌, sym, ap, ◌∙◌, subst}
use Rattle.std.specs.Prelude.{Result, Ok, Err}
use Rattle.word.specs.declared.refusal.Refusal.{Refusal}
use Rattle.word.specs.Refusal.{number, refused_with, refusing, numbered_number, not_refused}
use mathlib.Core.List.{List}
use Prim.Native.Nat.{ℕ, ◌/◌, ◌<◌, ◌≤◌}
use native.Mathlib.Omega.{arith}
use borrow.Author.Tests.{eq-eqb, ne_eqb, le-leb, lt-leb}
use lib.Dec.{eqb}
use lib.ListN.{length}
use Rattle.word.specs.Choice.{tested}
use Rattle.text.specs.Text.{written}
use Rattle.section.specs.Section.{opened_of, opening_of}
use Rattle.section.proofs.Accepted.{opened}
use Rattle.home_form.specs.Home.{home_form_of}
use Rattle.home_form.specs.Changes.{changes_of, numbers_of}
use Rattle.home_form.specs.HomeForm.{refused_by, counted, PutsHome}
use Rattle.home_form.specs.declared.Changed.{Changed}
use Rattle.home_form.proofs.Gathered.{few_unindexed, few_changes}

module _ (s list : List ℕ) where
  pub own_refusal : (refused_with (opened_of s) ≡ 0 → ⊥) → refused_by s list ≡ refused_with (opened_of s)
  own_refusal bad = unfold refused_by in simp (ne_eqb (refused_with (opened_of s)) 0 bad)

  pub no_room : refused_with (opened_of s) ≡ 0 → length list / 3 < length (changes_of s) → refused_by s list ≡ 10
  no_room ok h = unfold refused_by in simp (eq-eqb (refused_with (opened_of s)) 0 ok, lt-leb (length (changes_of s)) (length list / 3) h)

  pub room : refused_with (opened_of s) ≡ 0 → length (changes_of s) ≤ length list / 3 → refused_by s list ≡ 0
  room ok h = unfold refused_by in simp (eq-eqb (refused_with (opened_of s)) 0 ok, le-leb (length (changes_of s)) (length list / 3) h)

-- an answer that counts few changes
abbrev pub Small : Result Changed Refusal → Type 0
Small (Ok c) = (c.changes ≤ 4096) × (c.unindexed ≤ 4096)
Small (Err r) = Unit {0}

module _ {s list : List ℕ} where
  pub refuses : {n : ℕ} → refused_by s list ≡ n → (n ≡ 0 → ⊥) → PutsHome s list (refusing n) s list
  refuses is some =
      let no = ne_eqb (refused_by s list) 0 (λ z. some (sym is ∙ z)) in
      record { answer = simp no (ap (λ n. refusing n) (sym is)); bytes = simp no; left = simp no }

  pub own : {r : Refusal} → Err r ≡ opened_of s → PutsHome s list (Err r) s list
  own {r} is =
      let given : number r ≡ refused_with (opened_of s) = ap refused_with is in
      subst (λ x. PutsHome s list (Err x) s list) (numbered_number r)
      (refuses (own_refusal s list (λ z. not_refused r (given ∙ z)) ∙ sym given) (not_refused r))

  pub puts : {s' list' : List ℕ} → refused_by s list ≡ 0 → s' ≡ home_form_of s
      → list' ≡ written list 0 (numbers_of (changes_of s)) → PutsHome s list (Ok (counted (changes_of s))) s' list'
  puts is bytes left =
      let yes = eq-eqb (refused_by s list) 0 is in
      record { answer = simp yes; bytes = simp yes bytes; left = simp yes left }

  -- there are no more changes than words
  pub small : {r : Result Changed Refusal} {s' list' : List ℕ} → PutsHome s list r s' list' → Small r
  small put =
      rw put.answer
      (tested Small (eqb (refused_by s list) 0)
      (λ e. (few, omega (arith, few, few_unindexed (changes_of s)))) (λ e. tt))
    where
      few : length (changes_of s) ≤ 4096
      few = unfold changes_of in omega (arith, few_changes s (opening_of s).count, (opened s).few)

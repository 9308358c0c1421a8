-- What building and updating answer and leave, check by check. Assumes nothing.
use mathlib.Core.Path.{◌≡◌, refl, sym, ap, subst, ◌∙◌}
use mathlib.Core.List.{List}
use Prim.Native.Nat.{ℕ, ◌<◌, ◌≤◌}
use native.Mathlib.Omega.{arith}
use borrow.Author.Tests.{eqb-true, eqb-false, eq-eqb, ne_eqb, ltb-false, lt-ltb, le-ltb}
use mathlib.Core.Logic.{inl, inr}
use lib.Dec.{eqb, ltb}
use lib.ListN.{length}
use Rattle.std.specs.Prelude.{Ok, Err}
use Rattle.word.specs.Choice.{by_test}
use Rattle.word.specs.Refusal.{number, numbered_number, not_refused, refused_with, refusing}
use Rattle.word.specs.declared.refusal.Refusal.{Refusal}
use Rattle.text.specs.Text.{written}
use Rattle.text.specs.Fits.{len_in}
use Rattle.section.specs.Section.{opened_of, opening_of}
use Rattle.section.proofs.Accepted.{is_opening}
use Rattle.section.proofs.Refused.{InTable, in_table, answers_with}
use Rattle.section.specs.Replaced.{replaced_of}
use Rattle.section.specs.declared.Opened.{Opened}
use Rattle.callers_index.specs.Entries.{entries_of, numbers_of, lent_refusal}
use Rattle.callers_index.specs.declared.Entry.{Entry}
use Rattle.callers.specs.Calls.{index_of}
use Rattle.callers.specs.Index.{◌else◌, no_place, too_many, updated_of, build_refusal, replace_refusal, Indexed, indexed_of}
use Rattle.callers.specs.Index.{Builds, Updates, Replaces}

-- the first of two refusals that is one
it_is : (first second : ℕ) → (first ≡ 0 → ⊥) → (first else second) ≡ first
it_is first second some = simp (ne_eqb first 0 some)

else_is : {first second n : ℕ} → first ≡ 0 → second ≡ n → (first else second) ≡ n
else_is none is = simp (eq-eqb _ 0 none) is

-- a refusal is that of its number
refusing_it : {n : ℕ} {r : Refusal} → n ≡ number r → ◌≡◌ {A = Indexed} (Err r) (refusing n)
refusing_it {r = r} is = ap Err (sym (numbered_number r)) ∙ ap (λ (k : ℕ). refusing k) (sym is)

-- how many entries are too many
pub many : (l : List Entry) → 1024 < length l → too_many l ≡ 15
many l h = simp (lt-ltb 1024 (length l) h)

pub few : (l : List Entry) → length l ≤ 1024 → too_many l ≡ 0
few l h = simp (le-ltb 1024 (length l) h)

-- the refusals of building, by what the section was opened to
module _ (s index : List ℕ) where
  pub build_own : (r : Refusal) → number r ≡ refused_with (opened_of s) → build_refusal s index ≡ number r
  build_own r is = unfold build_refusal in it_is _ _ (λ none. not_refused r (is ∙ none)) ∙ sym is

  module _ (ok : refused_with (opened_of s) ≡ 0) where
    pub build_lent : (r : Refusal) → number r ≡ lent_refusal index 0 → build_refusal s index ≡ number r
    build_lent r is = unfold build_refusal in else_is ok (it_is _ _ (λ none. not_refused r (is ∙ none)) ∙ sym is)

    pub build_many : {n : ℕ} → lent_refusal index 0 ≡ 0 → too_many (index_of s) ≡ n → build_refusal s index ≡ n
    build_many lent is = unfold build_refusal in else_is ok (else_is lent is)

  -- and of replacing a word
  module _ (place w count : ℕ) where
    pub replace_own : (r : Refusal) → number r ≡ refused_with (opened_of s) → replace_refusal s place w index count ≡ number r
    replace_own r is = unfold replace_refusal in it_is _ _ (λ none. not_refused r (is ∙ none)) ∙ sym is

    module _ {o : Opened} (opened : opened_of s ≡ Ok o) where
      pub replace_outside : o.count ≤ place → replace_refusal s place w index count ≡ 13
      replace_outside h = unfold replace_refusal in
          let outside : no_place s place ≡ 13 = simp (le-ltb place (opening_of s).count (rw (is_opening s opened) at h)) in
          else_is (ap refused_with opened) (it_is _ _ (λ none. let z : ⊥ = omega (arith, outside, none) in z) ∙ outside)

      module _ (h : place < o.count) where
        inside : no_place s place ≡ 0
        inside = simp (lt-ltb place (opening_of s).count (rw (is_opening s opened) at h))

        pub replace_lent : (r : Refusal) → number r ≡ lent_refusal index count → replace_refusal s place w index count ≡ number r
        replace_lent r is = unfold replace_refusal in
            else_is (ap refused_with opened) (else_is inside (it_is _ _ (λ none. not_refused r (is ∙ none)) ∙ sym is))

        pub replace_many : lent_refusal index count ≡ 0
            → replace_refusal s place w index count ≡ too_many (updated_of s place w (entries_of index count))
        replace_many lent = unfold replace_refusal in else_is (ap refused_with opened) (else_is inside (else_is lent refl))

-- a refusal is answered alone, and leaves all as it was; without one the entries are counted and written
module _ {s index : List ℕ} {x : Indexed} {r : Refusal} where
  pub builds_none : build_refusal s index ≡ number r → x ≡ Err r → Builds s index x index
  builds_none is same =
      let some = ne_eqb (build_refusal s index) 0 (λ none. not_refused r (sym is ∙ none)) in
      record { answer = same ∙ refusing_it is ∙ simp some; left = simp some }

  module _ {place w count : ℕ} {refusal : ℕ} where
    pub updates_none : refusal ≡ number r → x ≡ Err r → Updates refusal s place w index count x s index
    updates_none is same =
        let some = ne_eqb refusal 0 (λ none. not_refused r (sym is ∙ none)) in
        record { answer = same ∙ refusing_it is ∙ simp some; words = simp some; left = simp some }

module _ {s index index' : List ℕ} {n : ℕ} where
  pub builds : build_refusal s index ≡ 0 → n ≡ length (index_of s) → index' ≡ written index 0 (numbers_of (index_of s))
      → Builds s index (Ok n) index'
  builds ok count last =
      let none = eq-eqb (build_refusal s index) 0 ok in
      record { answer = rw count (simp none); left = last ∙ simp none }

  module _ {s' : List ℕ} (place w count : ℕ) where
    pub updates : {refusal : ℕ} → refusal ≡ 0 → n ≡ length (updated_of s place w (entries_of index count)) → s' ≡ replaced_of s place w
        → index' ≡ written index 0 (numbers_of (updated_of s place w (entries_of index count)))
        → Updates refusal s place w index count (Ok n) s' index'
    updates {refusal} ok long words last =
        let none = eq-eqb refusal 0 ok in
        record { answer = rw long (simp none); words = words ∙ simp none; left = last ∙ simp none }

-- an answer, by an equal number
pub updates_by : {refusal refusal' : ℕ} {s : List ℕ} {place w : ℕ} {index : List ℕ} {count : ℕ} {r : Indexed} {s' index' : List ℕ}
    → refusal ≡ refusal' → Updates refusal s place w index count r s' index' → Updates refusal' s place w index count r s' index'
updates_by {s = s} {place} {w} {index} {count} {r} {s'} {index'} same is =
    subst (λ (n : ℕ). Updates n s place w index count r s' index') same is

-- where neither of two is one
pub none_first : (first second : ℕ) → (first else second) ≡ 0 → first ≡ 0
none_first first second e =
    by_test (eqb first 0)
    (λ none. eqb-true first 0 none)
    (λ some. simp some at e)

pub none_later : (first second : ℕ) → (first else second) ≡ 0 → second ≡ 0
none_later first second e =
    by_test (eqb first 0)
    (λ none. simp none at e)
    (λ some. absurd (eqb-false first 0 some (simp some at e)))

-- what is answered is 1,024 at most
not_many : (l : List Entry) → too_many l ≡ 0 → length l ≤ 1024
not_many l e =
    by_test (ltb 1024 (length l))
    (λ more. absurd (let z : ⊥ = omega (arith, simp more at e) in z))
    (λ less. ltb-false 1024 (length l) less)

small : (refusal : ℕ) (l : List Entry) → (refusal ≡ 0 → length l ≤ 1024) → len_in (indexed_of refusal l) ≤ 1024
small refusal l few =
    by_test (eqb refusal 0)
    (λ none. simp none (few (eqb-true refusal 0 none)))
    (λ some. simp some (omega arith))

few_built : (s index : List ℕ) → build_refusal s index ≡ 0 → length (index_of s) ≤ 1024
unfolding build_refusal
few_built s index none = not_many (index_of s) (none_later (lent_refusal index 0) _ (none_later (refused_with (opened_of s)) _ none))

few_left : (s : List ℕ) (place w : ℕ) (index : List ℕ) (count : ℕ) → replace_refusal s place w index count ≡ 0
    → length (updated_of s place w (entries_of index count)) ≤ 1024
unfolding replace_refusal
few_left s place w index count none =
    not_many (updated_of s place w (entries_of index count))
    (none_later (lent_refusal index count) _ (none_later (no_place s place) _ (none_later (refused_with (opened_of s)) _ none)))

pub built_small : {s index : List ℕ} {r : Indexed} {index' : List ℕ} → Builds s index r index' → len_in r ≤ 1024
built_small {s} {index} is = rw is.answer (small (build_refusal s index) (index_of s) (few_built s index))

pub replaced_small : {s : List ℕ} {place w : ℕ} {index : List ℕ} {count : ℕ} {r : Indexed} {s' index' : List ℕ}
    → Replaces s place w index count r s' index' → len_in r ≤ 1024
replaced_small {s} {place} {w} {index} {count} is =
    rw is.answer
    (small (replace_refusal s place w index count) (updated_of s place w (entries_of index count)) (few_left s place w index count))

-- a refusal's number is one of the table, so that what is answered is refused with it
else_in : (first second : ℕ) → InTable first → InTable second → InTable (first else second)
else_in first second is other =
    by_test (eqb first 0)
    (λ none. simp none other)
    (λ some. simp some is)

lent_in : (index : List ℕ) (count : ℕ) → InTable (lent_refusal index count)
lent_in index count =
    by_test (ltb (length index) 2048)
    (λ short. simp short (inr refl))
    (λ long. by_test (ltb 1024 count) (λ more. simp (long, more) (inr refl)) (λ less. simp (long, less) (inl refl)))

many_in : (l : List Entry) → InTable (too_many l)
many_in l = by_test (ltb 1024 (length l)) (λ more. simp more (inr refl)) (λ less. simp less (inl refl))

place_in : (s : List ℕ) (place : ℕ) → InTable (no_place s place)
place_in s place =
    by_test (ltb place (opening_of s).count) (λ inside. simp inside (inl refl)) (λ outside. simp outside (inr refl))

pub build_answers : {s index : List ℕ} {r : Indexed} {index' : List ℕ} → Builds s index r index' → refused_with r ≡ build_refusal s index
unfolding build_refusal
build_answers {s} {index} is =
    ap refused_with is.answer
    ∙ answers_with (length (index_of s)) _
    (else_in _ _ (in_table (opened_of s)) (else_in _ _ (lent_in index 0) (many_in (index_of s))))

pub replace_answers : {s : List ℕ} {place w : ℕ} {index : List ℕ} {count : ℕ} {r : Indexed} {s' index' : List ℕ}
    → Replaces s place w index count r s' index' → refused_with r ≡ replace_refusal s place w index count
unfolding replace_refusal
replace_answers {s} {place} {w} {index} {count} is =
    ap refused_with is.answer
    ∙ answers_with (length (updated_of s place w (entries_of index count))) _
    (else_in _ _ (in_table (opened_of s))
    (else_in _ _ (place_in s place) (else_in _ _ (lent_in index count) (many_in (updated_of s place w (entries_of index count))))))

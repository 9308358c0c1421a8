-- An index as it is lent, and the callers of a target in a lent buffer. Assumes nothing.
use mathlib.Core.Path.{◌≡◌, refl, sym, ap, ◌∙◌}
use mathlib.Core.List.{List, [], ◌∷◌}
use Prim.Native.Nat.{ℕ, ◌≤◌}
use native.Mathlib.Omega.{arith}
use borrow.Author.Tests.{ltb-false, eqb-true, eq-eqb, ne_eqb}
use lib.Dec.{eqb, ltb, leb}
use lib.ListN.{length}
use Rattle.word.specs.Choice.{by_test}
use Rattle.std.specs.Prelude.{Result, Ok, Err}
use Rattle.word.specs.declared.refusal.Refusal.{Refusal}
use Rattle.word.specs.Refusal.{number, numbered, refused_with, numbered_number, not_refused}
use Rattle.text.specs.Fits.{Written, len_in, answer_of}
use Rattle.text.proofs.Settled.{Settles}
use Rattle.section.proofs.Firsts.{so_many}
use Rattle.callers_index.specs.Entries.{entry_at, entries_of, callers_of, lent_refusal, found_of, left_of}
use Rattle.callers_index.specs.declared.Entry.{Entry}

-- the number determines the refusal
pub one_refusal : (r s : Result (Unit {0}) Refusal) → refused_with r ≡ refused_with s → r ≡ s
one_refusal (Ok x) (Ok y) e = refl
one_refusal (Ok x) (Err s) e = not_refused s (sym e)
one_refusal (Err r) (Ok y) e = not_refused r e
one_refusal (Err r) (Err s) e = ap Err (sym (numbered_number r) ∙ ap numbered e ∙ numbered_number s)

module _ (index : List ℕ) (count : ℕ) where
  -- what passes is long enough, and holds few enough
  pub lent_well : lent_refusal index count ≡ 0 → (2048 ≤ length index) × (count ≤ 1024)
  lent_well ok =
      by_test (ltb (length index) 2048)
      (λ short. absurd (let z : ⊥ = omega (arith, simp short at ok) in z))
      (λ long. by_test (ltb 1024 count)
      (λ many. absurd (let z : ⊥ = omega (arith, simp (long, many) at ok) in z))
      (λ few. (ltb-false (length index) 2048 long, ltb-false 1024 count few)))

  module _ (target : ℕ) (out : List ℕ) where
    -- what looking up answers and leaves, as its contract has them
    abbrev pub Finds : Written → List ℕ → Type 0
    Finds r last = (r ≡ found_of index count target out) × (last ≡ left_of index count target out)

    pub finds : {r : Written} {last : List ℕ} → lent_refusal index count ≡ 0 → Settles (callers_of target (entries_of index count)) out r last
        → Finds r last
    finds ok settles = unfold found_of left_of in
        let none = eq-eqb (lent_refusal index count) 0 ok in
        (settles.0 ∙ simp none, settles.1 ∙ simp none)

    pub refuses : (r : Refusal) → number r ≡ lent_refusal index count → Finds (Err r) out
    refuses r is = unfold found_of left_of in
        let one = ne_eqb (lent_refusal index count) 0 (λ none. not_refused r (is ∙ none)) in
        (simp one (rw (← is, numbered_number r)), simp one)

-- a target has no more callers than there are entries
callers_few : (target : ℕ) (l : List Entry) → length (callers_of target l) ≤ length l
callers_few target [] = omega arith
callers_few target (e ∷ l) =
    by_test (eqb e.target target) (λ b. simp b (omega (arith, callers_few target l))) (λ b. simp b (omega (arith, callers_few target l)))

pub found_small : (index : List ℕ) (count target : ℕ) (out : List ℕ) → len_in (found_of index count target out) ≤ 1024
found_small index count target out = unfold found_of answer_of in
    by_test (eqb (lent_refusal index count) 0)
    (λ ok.
    let well = lent_well index count (eqb-true (lent_refusal index count) 0 ok) in
    by_test (leb (length (callers_of target (entries_of index count))) (length out))
    (λ fits. simp (ok, fits) (omega (arith, well.1, callers_few target (entries_of index count), so_many (entry_at index) count)))
    (λ short. simp (ok, short) (omega arith)))
    (λ bad. simp bad (omega arith))

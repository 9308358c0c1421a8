-- A comparison of numbers with those of a row: part by part, and what it tells. Assumes nothing.
use mathlib.Core.Path.{◌≡◌, refl, sym, ap, ap₂, subst, ◌∙◌}
use mathlib.Core.Bool.{Bool, true, false}
use mathlib.Core.List.{List, [], ◌∷◌, ◌++◌}
use mathlib.Core.Logic.{◌↔◌}
use Prim.Native.Nat.{ℕ, zero, suc, ◌+◌, ◌<◌}
use native.Mathlib.Nat.{add-zero, add-suc, suc-add}
use native.Mathlib.Numerals.{add-one}
use native.Mathlib.Omega.{arith}
use borrow.Author.Tests.{eqb-true, eq-eqb, ne_eqb}
use lib.Dec.{eqb}
use lib.ListN.{length, get_or, take, drop, take-append-drop}
use lib.Seq.{take-suc, length-take-le, drop-cons}
use Rattle.word.specs.Choice.{both, parts}
use Rattle.insn_same.proofs.Tests.{passed, failed, last}
use Rattle.insn_row.specs.Row.{numbers_of, holds, Told}

pub both_first : (a b c : Bool) → both (both a b) c ≡ both a (both b c)
both_first true b c = refl
both_first false b c = refl

pub in_parts : (row : List ℕ) (p : ℕ) (xs ys : List ℕ) → both (holds row p xs) (holds row (p + length xs) ys) ≡ holds row p (xs ++ ys)
in_parts row p [] ys = ap (λ (n : ℕ). holds row n ys) (add-zero p)
in_parts row p (x ∷ xs) ys =
    both_first (eqb (get_or row p 0) x) (holds row (suc p) xs) (holds row (p + suc (length xs)) ys)
    ∙ ap (both (eqb (get_or row p 0) x))
    (ap (λ (n : ℕ). both (holds row (suc p) xs) (holds row n ys)) (add-suc p (length xs) ∙ sym (suc-add p (length xs))) ∙ in_parts row (suc p) xs ys)

-- a part that is equal, and what is told of the rest; a part that is not
pub on : {row : List ℕ} {p : ℕ} {xs ys : List ℕ} {r s : Bool} → Told row p xs r → r ≡ true → Told row (p + length xs) ys s → Told row p (xs ++ ys) s
on {row} {p} {xs} {ys} first holding rest = record { is = passed (sym first.is ∙ holding) rest.is ∙ in_parts row p xs ys }

pub off : {row : List ℕ} {p : ℕ} {xs : List ℕ} (ys : List ℕ) {r : Bool} → Told row p xs r → r ≡ false → Told row p (xs ++ ys) false
off {row} {p} {xs} ys first failing = record { is = failed _ (sym first.is ∙ failing) ∙ in_parts row p xs ys }

-- one number, after those that a row has
module _ {row : List ℕ} {p : ℕ} (xs : List ℕ) (n : ℕ) (there : n < length xs) (before : Told row p (take n xs) true) where
  here : {r : Bool} → r ≡ eqb (get_or row (p + n) 0) (get_or xs n 0) → Told row (p + length (take n xs)) (get_or xs n 0 ∷ []) r
  here is = rw (length-take-le n xs (omega arith)) (record { is = is ∙ last _ })

  pub equal_here : get_or row (p + n) 0 ≡ get_or xs n 0 → Told row p (take (n + 1) xs) true
  equal_here e = rw (add-one n, take-suc xs n 0 there) (on before refl (here (sym (eq-eqb _ _ e))))

  pub unequal_here : (get_or row (p + n) 0 ≡ get_or xs n 0 → ⊥) → Told row p xs false
  unequal_here e =
      subst (λ (l : List ℕ). Told row p l false)
      (ap (λ (l : List ℕ). take n xs ++ l) (sym (drop-cons xs n 0 there)) ∙ take-append-drop n xs)
      (on before refl (off (drop (suc n) xs) (here (sym (ne_eqb _ _ e))) refl))

-- a comparison passes exactly if the numbers are those of the row
pub holds_exactly : (row : List ℕ) (p : ℕ) (xs : List ℕ) → (holds row p xs ≡ true) ↔ (xs ≡ numbers_of row p (length xs))
holds_exactly row p xs = (equal row p xs, λ e. rw e (itself row p (length xs)))
  where
    equal : (row : List ℕ) (p : ℕ) (xs : List ℕ) → holds row p xs ≡ true → xs ≡ numbers_of row p (length xs)
    equal row p [] h = refl
    equal row p (x ∷ xs) h =
        let both_hold = parts (eqb (get_or row p 0) x) (holds row (suc p) xs) h in
        ap₂ ◌∷◌ (sym (eqb-true (get_or row p 0) x both_hold.0)) (equal row (suc p) xs both_hold.1)

    itself : (row : List ℕ) (p n : ℕ) → holds row p (numbers_of row p n) ≡ true
    itself row p zero = refl
    itself row p (suc n) = simp (eq-eqb (get_or row p 0) (get_or row p 0) refl) (itself row (suc p) n)

-- the numbers that a row starts with
later : (x : ℕ) (row : List ℕ) (p n : ℕ) → numbers_of (x ∷ row) (suc p) n ≡ numbers_of row p n
later x row p zero = refl
later x row p (suc n) = ap (◌∷◌ (get_or row p 0)) (later x row (suc p) n)

pub front : (xs rest : List ℕ) → xs ≡ numbers_of (xs ++ rest) 0 (length xs)
front [] rest = refl
front (x ∷ xs) rest = ap (◌∷◌ x) (front xs rest ∙ sym (later x (xs ++ rest) 0 (length xs)))

-- rows with equal numbers, as far as they are compared, are told alike
pub alike : (row row' : List ℕ) (p : ℕ) (xs : List ℕ) → ((k : ℕ) → k < p + length xs → get_or row' k 0 ≡ get_or row k 0)
    → holds row' p xs ≡ holds row p xs
alike row row' p [] h = refl
alike row row' p (x ∷ xs) h = ap₂ both (ap (λ (n : ℕ). eqb n x) (h p (omega arith))) (alike row row' (suc p) xs (λ k below. h k (omega arith)))

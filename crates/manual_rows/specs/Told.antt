-- A number tells its title: no title stands twice in the list. Assumes nothing.
use Rattle.std.specs.Prelude.{◌≡◌, refl, Bool, true, false, List, [], ◌∷◌, ℕ, suc, ◌<◌, T, eqb, length}
use Rattle.std.proofs.Common.{sym, ap, ◌∙◌, subst, le_of_suc-le-suc, not-suc-le-zero, eqb→eq}
use Prim.Native.String.{String}
use lib.Text.{eqt, eqt→eq}
use Rattle.word.specs.Choice.{pick}
use Rattle.word.specs.Every.{at_each}
use Rattle.insn.specs.Roots.{place_in}
use Rattle.manual_tables.specs.Titles.{titles, number_of, title_in, title_at, Numbered}

module _ (s t : String) (ts : List String) where
  next : (b : Bool) → eqt s t ≡ b → (place_in s ts < length ts → title_in ts (place_in s ts) ≡ s) → pick b 0 (suc (place_in s ts)) < suc (length ts)
      → title_in (t ∷ ts) (pick b 0 (suc (place_in s ts))) ≡ s
  next true e rest h = sym (eqt→eq s t (subst T (sym e) tt))
  next false e rest h = rest (le_of_suc-le-suc h)

found : (s : String) (ts : List String) → place_in s ts < length ts → title_in ts (place_in s ts) ≡ s
found s [] h = absurd (not-suc-le-zero h)
found s (t ∷ ts) h = next s t ts (eqt s t) refl (found s ts) h

-- a row is the title at its number
pub title_is : {s : String} {n : ℕ} → Numbered s n → title_at n ≡ s
unfolding number_of title_at
title_is {s = s} {n = n} h = ap (title_in titles) h.number ∙ found s titles (subst (λ (k : ℕ). k < 271) h.number h.known)

-- so rows with one number are one row
pub told_apart : {s t : String} {n : ℕ} → Numbered s n → Numbered t n → s ≡ t
told_apart h k = sym (title_is h) ∙ title_is k

-- a title's number is its place
pub numbered : (n : ℕ) → n < 271 → Numbered (title_at n) n
unfolding number_of title_at
numbered n h = record { number = eqb→eq n _ (at_each (λ i. eqb i (number_of (title_at i))) 271 tt n h); known = h }

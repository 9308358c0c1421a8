-- A table of padded entries has the texts that it was made of: one law for every table and width. Assumes nothing.
use mathlib.Core.Path.{◌≡◌, refl, sym, ap, ◌∙◌}
use mathlib.Core.Bool.{Bool, true, false, not}
use mathlib.Core.List.{List, [], ◌∷◌, ◌++◌}
use Prim.Native.Nat.{ℕ, zero, suc, ◌+◌, ◌*◌}
use Prim.Native.String.{String}
use native.Mathlib.Nat.{zero-mul, suc-mul, add_comm}
use lib.Dec.{T, eqb}
use lib.ListN.{length, take, drop}
use lib.Seq.{take-nil, drop-nil, take_at, drop-append-add}
use Rattle.word.specs.Choice.{both, by_test}
use Rattle.word.specs.Every.{left, right}
use Rattle.text.specs.Text.{bytes}
use Rattle.text.specs.Entry.{word_of, entry_of}
use Rattle.line_spelling.specs.Names.{entry}

-- a text with spaces after it, up to the width
abbrev filled : ℕ → List ℕ → List ℕ
filled zero bs = []
filled (suc k) [] = 32 ∷ filled k []
filled (suc k) (b ∷ bs) = b ∷ filled k bs

abbrev pub padded : ℕ → List String → List ℕ
padded width [] = []
padded width (s ∷ ss) = filled width (bytes s) ++ padded width ss

-- a text has no space, and is no longer than the width
abbrev plain : ℕ → List ℕ → Bool
plain k [] = true
plain zero (b ∷ bs) = false
plain (suc k) (b ∷ bs) = both (not (eqb b 32)) (plain k bs)

abbrev pub all_plain : ℕ → List String → Bool
all_plain width [] = true
all_plain width (s ∷ ss) = both (plain width (bytes s)) (all_plain width ss)

size : (k : ℕ) (bs : List ℕ) → length (filled k bs) ≡ k
size zero bs = refl
size (suc k) [] = ap suc (size k [])
size (suc k) (b ∷ bs) = ap suc (size k bs)

word : (k : ℕ) (bs : List ℕ) → T (plain k bs) → word_of (filled k bs) ≡ bs
word zero [] t = refl
word zero (b ∷ bs) t = absurd t
word (suc k) [] t = refl
word (suc k) (b ∷ bs) t =
    by_test (eqb b 32)
    (λ e. absurd (rw e at (left (not (eqb b 32)) (plain k bs) t)))
    (λ e. rw e (ap (λ (l : List ℕ). b ∷ l) (word k bs (right (not (eqb b 32)) (plain k bs) t))))

pub spelt : (width : ℕ) (ss : List String) → T (all_plain width ss) → (n : ℕ) → entry_of (padded width ss) width n ≡ entry ss n
unfolding entry_of
spelt width [] t n = rw (drop-nil, take-nil)
spelt width (s ∷ ss) t zero =
    rw (zero-mul width)
    (ap word_of (take_at (filled width (bytes s)) (padded width ss) width (size width (bytes s)))
    ∙ word width (bytes s) (left (plain width (bytes s)) (all_plain width ss) t))
spelt width (s ∷ ss) t (suc n) =
    ap (λ (l : List ℕ). word_of (take width l))
    (ap (λ (k : ℕ). drop k (padded width (s ∷ ss))) (suc-mul n width ∙ add_comm (n * width) width
    ∙ ap (λ (k : ℕ). k + n * width) (sym (size width (bytes s))))
    ∙ drop-append-add (filled width (bytes s)) (padded width ss) (n * width))
    ∙ spelt width ss (right (plain width (bytes s)) (all_plain width ss) t) n

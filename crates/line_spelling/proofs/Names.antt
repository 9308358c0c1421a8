-- "No two names under conditions below 15 spell alike": a name is read back. Assumes nothing.
use mathlib.Core.Path.{◌≡◌, refl, sym, ap, ap₂, ◌∙◌}
use mathlib.Core.Bool.{Bool}
use mathlib.Core.List.{List, [], ◌∷◌, ◌++◌, append-nil, append_assoc}
use Prim.Native.Nat.{ℕ, ◌+◌, ◌-◌, ◌<◌, ◌≤◌}
use Prim.Native.String.{String}
use native.Mathlib.Omega.{arith}
use borrow.Author.Tests.{eqb-true, eqb-false, eq-eqb, ltb-true, ltb-false, lt-ltb, ne_eqb}
use lib.Dec.{eqb, ltb, eqb→eq}
use lib.ListN.{length, take, drop, length-append}
use lib.Seq.{take_at, drop_at}
use Rattle.word.specs.Choice.{pick, by_test}
use Rattle.word.specs.Every.{every, at_each}
use Rattle.insn.specs.Roots.{NAMES, name, roots}
use Rattle.insn.specs.declared.Cond.{Cond}
use Rattle.line_spelling.specs.Names.{suffixes, entry}
use Rattle.line_spelling.specs.Line.{stem_of, tail_of, name_text}
use Rattle.line_spelling.proofs.Tables.{agrees, find, found}

-- a root is its stem and its tail
pub whole : (n : ℕ) → entry roots (stem_of n) ++ tail_of n ≡ entry roots n
whole n =
    by_test (eqb n (name "ldcl")) (λ e. rw (eqb-true n (name "ldcl") e)) λ e.
    by_test (eqb n (name "stcl")) (λ f. rw (eqb-true n (name "stcl") f)) λ f.
    simp (e, f, eq-eqb n n refl) (append-nil (entry roots n))

-- a text without its suffix, of two bytes, and that suffix, where a tail of k bytes is after it
abbrev root_at : ℕ → List ℕ → List ℕ
root_at k text = take (length text - 2 - k) text ++ drop (length text - k) text

abbrev suffix_at : ℕ → List ℕ → List ℕ
suffix_at k text = take 2 (drop (length text - 2 - k) text)

-- the roots that have a tail, and how long it is behind a suffix
abbrev tailed : List String
tailed = "ldcl" ∷ "stcl" ∷ []

abbrev tail_in : List ℕ → ℕ
tail_in text = pick (ltb (find tailed (root_at 1 text)) 2) 1 0

abbrev front : List ℕ → List ℕ
front text = root_at (tail_in text) text

abbrev back : List ℕ → List ℕ
back text = suffix_at (tail_in text) text

-- the suffixes that are written
abbrev written : List String
written = take 14 suffixes

-- the condition and the root of a name: a root with a suffix, or a root alone
unfoldable pub condition_from : List ℕ → ℕ
condition_from text = pick (ltb (find roots (front text)) NAMES) (find written (back text)) 14

unfoldable pub name_from : List ℕ → ℕ
name_from text = pick (eqb (condition_from text) 14) (find roots text) (find roots (front text))

roots_found : (n : ℕ) → n < NAMES → find roots (entry roots n) ≡ n
roots_found = found roots NAMES tt

-- no root is a root with a suffix
alone : (n : ℕ) → n < NAMES → condition_from (entry roots n) ≡ 14
alone = unfold condition_from in agrees (λ n. condition_from (entry roots n)) (λ n. 14) NAMES tt

root_alone : (n : ℕ) → n < NAMES → name_from (entry roots n) ≡ n
root_alone n h = unfold name_from in rw (alone n h) (roots_found n h)

abbrev joined : ℕ → ℕ → List ℕ
joined n c = entry roots (stem_of n) ++ (entry suffixes c ++ tail_of n)

-- a root with one of the suffixes that are written
module _ (n c : ℕ) (h : n < NAMES) (k : c < 14) where
  abbrev stem : List ℕ
  stem = entry roots (stem_of n)

  abbrev suffix : List ℕ
  suffix = entry suffixes c

  two : length suffix ≡ 2
  two = agrees (λ n. length (entry suffixes n)) (λ n. 2) 14 tt c k

  suffixed : find written suffix ≡ c
  suffixed = agrees (λ n. find written (entry suffixes n)) (λ n. n) 14 tt c k

  tail_found : tail_in (joined n c) ≡ length (tail_of n)
  tail_found = eqb→eq _ _ (at_each (same n) 14 (at_each (λ n. every (same n) 0 14) NAMES tt n h) c k)
    where
      same : ℕ → ℕ → Bool
      same n c = eqb (tail_in (joined n c)) (length (tail_of n))

  size : length (joined n c) ≡ length stem + 2 + length (tail_of n)
  size = simp length-append (omega (arith, two))

  seam : length stem ≡ length (joined n c) - 2 - length (tail_of n)
  seam = omega (arith, size)

  end : length (stem ++ suffix) ≡ length (joined n c) - length (tail_of n)
  end = simp length-append (omega (arith, size, two))

  rest : drop (length (joined n c) - 2 - length (tail_of n)) (joined n c) ≡ suffix ++ tail_of n
  rest = drop_at stem (suffix ++ tail_of n) _ seam

  last : drop (length (joined n c) - length (tail_of n)) (joined n c) ≡ tail_of n
  last =
      ap (drop (length (joined n c) - length (tail_of n))) (sym (append_assoc stem suffix (tail_of n)))
      ∙ drop_at (stem ++ suffix) (tail_of n) _ end

  before : front (joined n c) ≡ entry roots n
  before = rw tail_found (ap₂ ◌++◌ (take_at stem (suffix ++ tail_of n) _ seam) last ∙ whole n)

  after : back (joined n c) ≡ suffix
  after = rw (tail_found, rest) (take_at suffix (tail_of n) 2 two)

  condition_written : condition_from (joined n c) ≡ c
  condition_written = unfold condition_from in rw (before, after, roots_found n h, lt-ltb n NAMES h) suffixed

  name_written : name_from (joined n c) ≡ n
  name_written = unfold name_from in rw (condition_written, ne_eqb c 14 (λ e. omega arith), before) (roots_found n h)

-- a condition as far as it is written: "nothing for 14 and 15"
abbrev pub spelled : ℕ → ℕ
spelled c = pick (ltb c 14) c 14

unwritten : (c : ℕ) → c < 16 → 14 ≤ c → entry suffixes c ≡ []
unwritten c h most = by_test (eqb c 14) (λ e. rw (eqb-true c 14 e)) (λ e. rw (always (eqb-false c 14 e)))
  where
    always : (c ≡ 14 → ⊥) → c ≡ 15
    always e = omega arith

module _ (n : ℕ) (c : Cond) (h : n < NAMES) (k : c.0 < 16) where
  bare : 14 ≤ c.0 → joined n c.0 ≡ entry roots n
  bare most = ap (λ (xs : List ℕ). entry roots (stem_of n) ++ (xs ++ tail_of n)) (unwritten c.0 k most) ∙ whole n

  text : name_text n c ≡ joined n c.0
  text = unfold name_text in append_assoc (entry roots (stem_of n)) (entry suffixes c.0) (tail_of n)

  pub condition_back : condition_from (name_text n c) ≡ spelled c.0
  condition_back =
      rw text
      (by_test (ltb c.0 14)
      (λ e. rw e (condition_written n c.0 h (ltb-true c.0 14 e)))
      (λ e. rw e (ap condition_from (bare (ltb-false c.0 14 e)) ∙ alone n h)))

  pub name_back : name_from (name_text n c) ≡ n
  name_back =
      rw text
      (by_test (ltb c.0 14)
      (λ e. name_written n c.0 h (ltb-true c.0 14 e))
      (λ e. ap name_from (bare (ltb-false c.0 14 e)) ∙ root_alone n h))

pub names_differ : (n m : ℕ) (c d : Cond) → n < NAMES → m < NAMES → c.0 < 15 → d.0 < 15 → name_text n c ≡ name_text m d → (n ≡ m) × (c ≡ d)
names_differ n m c d h h' k k' e =
    (sym (name_back n c h (omega arith)) ∙ ap name_from e ∙ name_back m d h' (omega arith), ap (λ (x : ℕ). record { 0 = x }) conditions)
  where
    written_so : (x : ℕ) → x < 15 → spelled x ≡ x
    written_so x few = by_test (ltb x 14) (λ e. rw e) (λ e. rw e (omega (arith, ltb-false x 14 e)))

    conditions : c.0 ≡ d.0
    conditions =
        sym (written_so c.0 k)
        ∙ sym (condition_back n c h (omega arith))
        ∙ ap condition_from e
        ∙ condition_back m d h' (omega arith)
        ∙ written_so d.0 k'

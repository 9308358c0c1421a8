-- The image at a section's addresses, word by word: each is found, and its bytes are the image's. Assumes nothing.
use mathlib.Core.Path.{◌≡◌, refl, ap, sym, subst, ◌∙◌}
use mathlib.Core.Bool.{true, false, true≢false}
use mathlib.Core.List.{List, ◌++◌}
use mathlib.Core.Logic.{⊎_elim}
use mathlib.Core.Option.{some}
use Prim.Native.Nat.{ℕ, ◌+◌, ◌-◌, ◌%◌, ◌<◌, ◌≤◌}
use native.Mathlib.Omega.{arith}
use borrow.Author.Tests.{ltb-true, ltb-false}
use lib.Dec.{ltb}
use lib.ListN.{length, get_or, length-append, get_or-append}
use lib.Seq.{ext_get_or, get_or-append-add}
use Rattle.word.specs.Choice.{by_test}
use Rattle.word.specs.Every.{every}
use Rattle.text.specs.Put.{Put}
use Rattle.text.specs.Text.{written}
use Rattle.text.proofs.Writing.{◌then◌}
use Rattle.section.specs.Section.{firsts}
use Rattle.section.proofs.Firsts.{so_many, each}
use Rattle.patch.specs.Image.{Laid, has, in_patch, in_section, byte_at, words_refusal}
use Rattle.patch.specs.Part.{Fit}
use Rattle.patch.specs.Run.{run_of, run_refusal}
use Rattle.word.specs.Refusal.{refused_with}
use Rattle.patch.proofs.Each.{all}
use Rattle.patch.proofs.Finds.{by_found}
use Rattle.patch.proofs.Holders.{has_it, has_not, bounds}
use Rattle.patch.proofs.Runs.{is_run}
use Rattle.patch.proofs.Words.{fit}
use Rattle.patched.specs.Patched.{there, image_byte, image_of}

-- a list after what a function gives for the first numbers, if it is what the function gives for the next ones
pub and_more : (f : ℕ → ℕ) (i : ℕ) (l : List ℕ) → ((k : ℕ) → k < length l → get_or l k 0 ≡ f (i + k)) → firsts f i ++ l ≡ firsts f (i + length l)
and_more f i l next =
    ext_get_or 0 (firsts f i ++ l) (firsts f (i + length l)) same_length (λ k h.
    by_test (ltb k i)
    (λ e.
    let low = ltb-true k i e in
    get_or-append (firsts f i) l 0 k (omega (arith, so_many f i)) ∙ each f 0 i k low ∙ sym (each f 0 (i + length l) k (omega arith)))
    (λ e.
    let high = ltb-false k i e in
    ap (λ (n : ℕ). get_or (firsts f i ++ l) n 0) {x = k} {y = length (firsts f i) + (k - i)} (omega (arith, so_many f i))
    ∙ get_or-append-add (firsts f i) l (k - i) 0
    ∙ next (k - i) (omega (arith, h, same_length, so_many f (i + length l)))
    ∙ ap f {x = i + (k - i)} {y = k} (omega arith)
    ∙ sym (each f 0 (i + length l) k (omega (arith, h, same_length, so_many f (i + length l))))))
  where
    same_length : length (firsts f i ++ l) ≡ length (firsts f (i + length l))
    same_length = omega (arith, length-append (firsts f i) l, so_many f i, so_many f (i + length l))

pub image_size : (s p : Laid) → length (image_of s p) ≡ length s.words
image_size s p = unfold image_of in so_many (image_byte s p) (length s.words)

pub whole : (s p : Laid) {i : ℕ} {out last : List ℕ} {at next : ℕ} → i ≡ length s.words → Put out at (firsts (image_byte s p) i) next last
    → Put out at (image_of s p) next last
whole s p {out = out} {last = last} {at = at} {next = next} e put = unfold image_of in
    subst (λ (n : ℕ). Put out at (firsts (image_byte s p) n) next last) e put

-- the image has a byte at each of the section's addresses
pub is_there : (s p : Laid) (i : ℕ) → i < length s.words → byte_at s p (s.base + i) ≡ some (image_byte s p i)
is_there s p i h =
    by_test (has p (s.base + i))
    (λ e. simp e)
    (λ e. simp (e, has_it s (s.base + i) (omega arith) (omega arith)))

module _ (s p : Laid) (ok : words_refusal s ≡ 0) (fine : words_refusal p ≡ 0) where
  own : Fit s
  own = fit s ok

  over : Fit p
  over = fit p fine

  -- a word of the section
  module _ (i : ℕ) (fours : i % 4 ≡ 0) (inside : i < length s.words) where
    in_section_lem : (k : ℕ) → k < 4 → has s (s.base + i + k) ≡ true
    in_section_lem k h = has_it s (s.base + i + k) (omega arith) (omega (arith, own.fours))

    -- the patch has all of it, if it has its first byte, and else none
    hidden : has p (s.base + i) ≡ true → (k : ℕ) → k < 4 → has p (s.base + i + k) ≡ true
    hidden e k h =
        let first = bounds p (s.base + i) e in
        has_it p (s.base + i + k) (omega arith) (omega (arith, own.aligned, over.aligned, over.fours))

    shown : has p (s.base + i) ≡ false → (k : ℕ) → k < 4 → has p (s.base + i + k) ≡ false
    shown e k h =
        has_not p (s.base + i + k) (λ low high.
        true≢false (sym (has_it p (s.base + i) (omega (arith, own.aligned, over.aligned)) (omega arith)) ∙ e))

    -- then its bytes are the section's
    pub own_bytes : has p (s.base + i) ≡ false → (k : ℕ) → k < 4 → image_byte s p (i + k) ≡ get_or s.words (i + k) 0
    own_bytes e k h =
        let same : s.base + (i + k) ≡ s.base + i + k = omega arith in
        rw (same, shown e k h, in_section_lem k h)
        (ap (λ (n : ℕ). get_or s.words n 0) {x = s.base + i + k - s.base} {y = i + k} (omega arith))

    pub word_found : run_refusal s p (s.base + i) 4 ≡ 0
    word_found =
        by_found s p (s.base + i) 4 (λ found. refused_with found ≡ 0) (λ bad. absurd (bad ok)) (λ good bad. absurd (bad fine))
        (λ good too not-held. absurd (⊎_elim (λ none. omega arith) neither not-held))
        (λ good too more held. refl) (λ good too more held. refl)
      where
        neither : (every (in_patch s p) (s.base + i) 4 ≡ false) × (every (in_section s p) (s.base + i) 4 ≡ false) → ⊥
        neither none =
            by_test (has p (s.base + i))
            (λ e. true≢false (sym (all (in_patch s p) 4 (s.base + i) (hidden e)) ∙ none.0))
            (λ e. true≢false (sym (all (in_section s p) 4 (s.base + i) (λ k h. rw (shown e k h) (in_section_lem k h))) ∙ none.1))

    pub word_long : length (run_of s p (s.base + i) 4) ≡ 4
    word_long = (is_run s p (s.base + i) 4 word_found).long

    pub word_bytes : (k : ℕ) → k < 4 → get_or (run_of s p (s.base + i) 4) k 0 ≡ image_byte s p (i + k)
    word_bytes k h =
        sym (ap (λ (a : ℕ). there (byte_at s p a)) {x = s.base + (i + k)} {y = s.base + i + k} (omega arith)
        ∙ ap there ((is_run s p (s.base + i) 4 word_found).image k h))

    pub word_ends : i + 4 ≤ length s.words
    word_ends = omega (arith, own.fours)

    -- one word more of the image
    pub more : {out last last' : List ℕ} {at next : ℕ} → Put out at (firsts (image_byte s p) i) (at + i) last
        → Put last (at + i) (run_of s p (s.base + i) 4) next last' → Put out at (firsts (image_byte s p) (i + 4)) (at + (i + 4)) last'
    more {out} {at = at} before word =
        let both = before then word in
        let is = and_more (image_byte s p) i (run_of s p (s.base + i) 4) (λ k h. word_bytes k (omega (arith, word_long))) in record {
          ends = simp (so_many (image_byte s p) (i + 4));
          holds = both.holds ∙ ap (written out at) (is ∙ ap (λ (n : ℕ). firsts (image_byte s p) (i + n)) word_long);
        }

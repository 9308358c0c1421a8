-- A section with another word at a place is opened to the same, and what stands at the other places stays. Assumes nothing.
use mathlib.Core.Path.{◌≡◌, refl, sym, ap, ◌∙◌}
use mathlib.Core.List.{List, [], ◌∷◌}
use mathlib.Core.Logic.{◌⊎◌, inl, inr, ⊎_elim}
use Prim.Native.Nat.{ℕ, zero, suc, ◌+◌, ◌*◌, ◌/◌, ◌%◌, ◌^◌, ◌<◌, ◌≤◌}
use native.Mathlib.Nat.{add-zero, div-add-mod', div-div-eq-div-mul, mod-eq_of_lt}
use native.Mathlib.Omega.{arith}
use borrow.Author.Tests.{ltb-true, ltb-false}
use lib.Dec.{ltb}
use lib.ListN.{length, get_or, set, length-set}
use lib.Seq.{sets, sets-eq, length-sets, get_or-set_same, get_or-set_other}
use Rattle.word.specs.Bytes.{word_at, bytes_of}
use Rattle.word.specs.Choice.{by_test}
use Rattle.section.specs.Section.{start_of}
use Rattle.section.specs.Section.{refusal_of, opened_of, opening_of, here_of}
use Rattle.section.specs.Replaced.{replaced_of, with_word}
use Rattle.section.specs.declared.Opened.{Opened}
use Rattle.section.proofs.Accepted.{accepted, opening}
use Rattle.section.proofs.Front.{is_accepted, same_opened, carries, keeps}

-- four bytes make their word
joins : (w : ℕ) → w < 2 ^ 32 → w % 256 + 256 * (w / 256 % 256) + 65536 * (w / 65536 % 256) + 16777216 * (w / 16777216 % 256) ≡ w
joins w h =
    sums (w % 256) (w / 256) (w / 65536) (w / 16777216) (w / 256 % 256) (w / 65536 % 256) (w / 16777216 % 256)
    (div-add-mod' w 256) (by_two w 256 256) (by_two w 65536 256) (by_last w h)
  where
    by_two : (w m k : ℕ) → w / (m * k) * k + w / m % k ≡ w / m
    by_two w m k = rw (← (div-div-eq-div-mul w m k)) (div-add-mod' (w / m) k)

    by_last : (w : ℕ) → w < 2 ^ 32 → w / 16777216 % 256 ≡ w / 16777216
    by_last w h = mod-eq_of_lt (omega arith)

    sums : (a q r t b c d : ℕ) → q * 256 + a ≡ w → r * 256 + b ≡ q → t * 256 + c ≡ r → d ≡ t → a + 256 * b + 65536 * c + 16777216 * d ≡ w
    sums a q r t b c d e f g i = omega arith

-- bytes stored one after the other: all others stay, and they stand there
sets_other : (vs l : List ℕ) (i j : ℕ) → (j < i) ⊎ (i + length vs ≤ j) → get_or (sets l i vs) j 0 ≡ get_or l j 0
sets_other [] l i j h = refl
sets_other (v ∷ vs) l i j h =
    sets_other vs (set l i v) (suc i) j (⊎_elim (λ (b : j < i). inl (omega arith)) (λ (b : i + length (v ∷ vs) ≤ j). inr (omega arith)) h)
    ∙ get_or-set_other l i j v 0 (λ e. ⊎_elim (λ (b : j < i). omega arith) (λ (b : i + length (v ∷ vs) ≤ j). omega arith) h)

sets_same : (vs l : List ℕ) (i k : ℕ) → k < length vs → i + length vs ≤ length l → get_or (sets l i vs) (i + k) 0 ≡ get_or vs k 0
sets_same [] l i k h room = absurd (let z : ⊥ = omega arith in z)
sets_same (v ∷ vs) l i zero h room =
    rw add-zero (sets_other vs (set l i v) (suc i) i (inl (omega arith)) ∙ get_or-set_same l i v 0 (omega arith))
sets_same (v ∷ vs) l i (suc k) h room =
    let on : i + suc k ≡ suc i + k = omega arith in
    rw on (sets_same vs (set l i v) (suc i) k (omega arith) (rw (length-set l i v) (omega arith)))

-- another word at a place of a section
module _ (s : List ℕ) (place w : ℕ) (inside : place < (opening_of s).count) where
  pub ok : refusal_of s ≡ 0
  ok = is_accepted s place inside

  pub room : start_of s + 4 * place + 4 ≤ length s
  room = omega (arith, (accepted s ok).long, ap (λ (o : Opened). o.count) (opening s ok))

  stored : sets s (start_of s + 4 * place) (bytes_of w) ≡ replaced_of s place w
  stored = unfold replaced_of in sets-eq (bytes_of w) s (start_of s + 4 * place) room

  as_long : length s ≡ length (replaced_of s place w)
  as_long = rw (← stored) (sym (length-sets s (start_of s + 4 * place) (bytes_of w)))

  others : (j : ℕ) → (j < start_of s + 4 * place) ⊎ (start_of s + 4 * place + 4 ≤ j) → get_or s j 0 ≡ get_or (replaced_of s place w) j 0
  others j h = rw (← stored) (sym (sets_other (bytes_of w) s (start_of s + 4 * place) j h))

  its_own : (k : ℕ) → k < 4 → get_or (replaced_of s place w) (start_of s + 4 * place + k) 0 ≡ get_or (bytes_of w) k 0
  its_own k h = rw (← stored) (sets_same (bytes_of w) s (start_of s + 4 * place) k h room)

  header : (i : ℕ) → i < start_of s → get_or s i 0 ≡ get_or (replaced_of s place w) i 0
  header i h = others i (inl (omega arith))

  -- it is opened to the same
  pub opened_alike : opened_of s ≡ opened_of (replaced_of s place w)
  opened_alike = same_opened s (replaced_of s place w) as_long header

  -- the new word stands at its place
  word_there : w < 2 ^ 32 → word_at (replaced_of s place w) (start_of s + 4 * place) ≡ w
  word_there small =
      rw (its_own 1 (omega arith), its_own 2 (omega arith), its_own 3 (omega arith))
      (rw (its_first) (joins w small))
    where
      its_first : get_or (replaced_of s place w) (start_of s + 4 * place) 0 ≡ w % 256
      its_first = rw add-zero at (its_own 0 (omega arith))

  pub start_is : (opening_of s).start ≡ start_of s
  start_is = ap (λ (o : Opened). o.start) (opening s ok)

  -- the other places hold what they held
  pub stays_elsewhere : (p : ℕ) → (p ≡ place → ⊥) → here_of (replaced_of s place w) p ≡ here_of s p
  stays_elsewhere p apart =
      keeps s (replaced_of s place w) as_long header p (λ there k h.
      others (start_of s + 4 * p + k)
      (by_test (ltb p place)
      (λ e. inl (omega (arith, ltb-true p place e)))
      (λ e. inr (omega (arith, ltb-false p place e, apart)))))

  -- and this one the new word, or the new data
  pub new_there : w < 2 ^ 32 → here_of (replaced_of s place w) place ≡ with_word w (here_of s place)
  new_there small =
      carries s (replaced_of s place w) as_long header place ∙ ap (λ (n : ℕ). with_word n (here_of s place)) (word_there small)

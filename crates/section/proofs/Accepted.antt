-- What the checks say of a section: it is accepted exactly if it is what 01 and 02 describe. Assumes nothing.
use mathlib.Core.Path.{◌≡◌, refl, sym, ap, ◌∙◌}
use mathlib.Core.Bool.{Bool, true, false, not}
use mathlib.Core.List.{List}
use mathlib.Core.Logic.{◌↔◌, ◌⊎◌, inl, inr, ⊎_elim}
use Prim.Native.Nat.{ℕ, suc, ◌+◌, ◌-◌, ◌*◌, ◌%◌, ◌^◌, ◌<◌, ◌≤◌}
use native.Mathlib.Omega.{arith}
use borrow.Author.Tests.{ltb-false, eqb-true, eqb-false, eq-eqb, ne_eqb, not-false}
use lib.Dec.{T, eqb, ltb, leb, ltb→lt}
use lib.ListN.{length}
use Rattle.word.specs.Choice.{pick, tested, by_test, parts}
use Rattle.section.specs.Ranges.{in_order, rules_hold}
use Rattle.section.specs.Section.{marked_of, half_at, version_of, is_known, base_of, range_count, start_of, range_at, ranges_of, count_of}
use Rattle.section.specs.Section.{refusal_of, opened_of, opened_in, opening_of, section_of}
use Rattle.section.specs.declared.Opened.{Opened}
use Rattle.std.specs.Prelude.{Result, Ok, Err}
use Rattle.word.specs.Refusal.{number, numbered, refused_with, refusing}
use Rattle.word.specs.declared.refusal.Refusal.{Refusal}
use Rattle.section.specs.Accepted.{Accepted}
use Rattle.section.proofs.Firsts.{so_many}
use Rattle.section.proofs.Ruled.{rules_exactly}
use Rattle.section.proofs.Checks.{none}
use Rattle.section.proofs.Refused.{InTable, answers_with}

-- what stands before the words
module _ (s : List ℕ) where
  pub start_least : 9 ≤ start_of s
  start_least = tested (λ (n : ℕ). 9 ≤ n) (eqb (version_of s) 2) (λ e. omega arith) (λ e. omega arith)

  pub start_two : version_of s ≡ 2 → start_of s ≡ 11 + 8 * half_at s 9
  start_two e = simp (eq-eqb (version_of s) 2 e)

  pub start_other : (version_of s ≡ 2 → ⊥) → start_of s ≡ 9
  start_other e = simp (ne_eqb (version_of s) 2 e)

  -- the ranges are there
  pub ranges_there : start_of s ≤ length s → 8 * range_count s ≤ length s - 11
  ranges_there h =
      by_test (eqb (version_of s) 2)
      (λ e. let long : 11 + 8 * half_at s 9 ≤ length s = simp e at h in simp e (omega arith))
      (λ e. simp e (omega arith))

known_tells : (version : ℕ) → is_known version ≡ true → (version ≡ 1) ⊎ (version ≡ 2)
known_tells version e =
    by_test (eqb version 1)
    (λ one. inl (eqb-true version 1 one))
    (λ other. inr (eqb-true version 2 (simp other at e)))

pub known_told : (version : ℕ) → (version ≡ 1) ⊎ (version ≡ 2) → is_known version ≡ true
known_told version one-or-two = ⊎_elim (λ e. ap is_known e) (λ e. ap is_known e) one-or-two

-- a check whose number is not given did not fail
passed : (b : Bool) (n : ℕ) {rest : ℕ} → pick b (suc n) rest ≡ 0 → (b ≡ false) × (rest ≡ 0)
passed true n h = absurd (let z : ⊥ = omega arith in z)
passed false n h = (refl, h)

pub accepted : (s : List ℕ) → refusal_of s ≡ 0 → Accepted s
accepted s ok = unfold refusal_of in
    let header = passed (ltb (length s) 9) 6 ok in
    let mark = passed (not (marked_of s)) 4 header.1 in
    let version = passed (not (is_known (version_of s))) 5 mark.1 in
    let whole = passed (ltb (length s) (start_of s)) 6 version.1 in
    let multiple = passed (not (eqb ((length s - start_of s) % 4) 0)) 6 whole.1 in
    let count = passed (ltb 4096 (count_of s)) 7 multiple.1 in
    let ranges = passed (not (rules_hold (count_of s) (ranges_of s (range_count s)))) 10 count.1 in
    let base = passed (not (eqb (base_of s % 4) 0)) 8 ranges.1 in
    let end = passed (ltb (2 ^ 32) (base_of s + 4 * count_of s)) 8 base.1 in
    let there : start_of s ≤ length s = ltb-false _ _ whole.0 in
    let fours : (length s - start_of s) % 4 ≡ 0 = eqb-true _ _ (not-false _ multiple.0) in
    record {
      marked = not-false _ mark.0;
      version = known_tells (version_of s) (not-false _ version.0);
      long = omega arith;
      few = ltb-false _ _ count.0;
      ruled = (rules_exactly (count_of s) (ranges_of s (range_count s))).0 (not-false _ ranges.0);
      aligned = eqb-true _ _ (not-false _ base.0);
      below = ltb-false _ _ end.0;
    }

pub accepts : (s : List ℕ) → Accepted s → refusal_of s ≡ 0
accepts s is =
    none s (omega (arith, start_least s, is.long)) is.marked (known_told (version_of s) is.version) (omega (arith, is.long))
    (omega (arith, is.long)) is.few ((rules_exactly (count_of s) (ranges_of s (range_count s))).1 is.ruled) is.aligned is.below

pub accepted_exactly : (s : List ℕ) → (refusal_of s ≡ 0) ↔ Accepted s
accepted_exactly s = (accepted s, accepts s)

-- 11 bytes, 64 ranges and 4,096 words
pub section_short : (s : List ℕ) → refusal_of s ≡ 0 → length s ≤ 16907
section_short s ok =
    let is = accepted s ok in
    by_test (eqb (version_of s) 2)
    (λ e.
    let start : start_of s ≡ 11 + 8 * half_at s 9 = simp e in
    let ranges : range_count s ≡ half_at s 9 = simp e in
    omega (arith, is.long, is.few, is.ruled.few, so_many (range_at s) (range_count s)))
    (λ e. let start : start_of s ≡ 9 = simp e in omega (arith, is.long, is.few))

-- a refusal's number is 11 at most
pub small_refusal : (s : List ℕ) → refusal_of s < 12
unfolding refusal_of
small_refusal s =
    small (ltb (length s) 9) 7 tt
    (small (not (marked_of s)) 5 tt
    (small (not (is_known (version_of s))) 6 tt
    (small (ltb (length s) (start_of s)) 7 tt
    (small (not (eqb ((length s - start_of s) % 4) 0)) 7 tt
    (small (ltb 4096 (count_of s)) 8 tt
    (small (not (rules_hold (count_of s) (ranges_of s (range_count s)))) 11 tt
    (small (not (eqb (base_of s % 4) 0)) 9 tt
    (small (ltb (2 ^ 32) (base_of s + 4 * count_of s)) 9 tt (omega arith)))))))))
  where
    small : (b : Bool) (n : ℕ) {rest : ℕ} → T (ltb n 12) → rest < 12 → pick b n rest < 12
    small true n ok h = ltb→lt n 12 ok
    small false n ok h = h

pub opens : (s : List ℕ) → refusal_of s ≡ 0
    → opened_of s ≡ Ok (record { version = version_of s; base = base_of s; count = count_of s; ranges = range_count s; start = start_of s })
opens s ok = unfold opened_of in simp (eq-eqb (refusal_of s) 0 ok)

pub opening : (s : List ℕ) → refusal_of s ≡ 0
    → opening_of s ≡ record { version = version_of s; base = base_of s; count = count_of s; ranges = range_count s; start = start_of s }
opening s ok = ap opened_in (opens s ok)

pub refuses : (s : List ℕ) → (refusal_of s ≡ 0 → ⊥) → opened_of s ≡ refusing (refusal_of s)
refuses s bad = unfold opened_of in simp (ne_eqb (refusal_of s) 0 bad)

pub holds_none : (s : List ℕ) → (refusal_of s ≡ 0 → ⊥)
    → opening_of s ≡ record { version = 0; base = 0; count = 0; ranges = 0; start = 0 }
holds_none s bad = ap opened_in (refuses s bad)

-- a refusal's number is one of the table
pub refusal_known : (s : List ℕ) → InTable (refusal_of s)
unfolding refusal_of
refusal_known s =
    told (ltb (length s) 9) 7 refl
    (told (not (marked_of s)) 5 refl
    (told (not (is_known (version_of s))) 6 refl
    (told (ltb (length s) (start_of s)) 7 refl
    (told (not (eqb ((length s - start_of s) % 4) 0)) 7 refl
    (told (ltb 4096 (count_of s)) 8 refl
    (told (not (rules_hold (count_of s) (ranges_of s (range_count s)))) 11 refl
    (told (not (eqb (base_of s % 4) 0)) 9 refl
    (told (ltb (2 ^ 32) (base_of s + 4 * count_of s)) 9 refl (inl refl)))))))))
  where
    told : (b : Bool) (n : ℕ) {rest : ℕ} → number (numbered n) ≡ n → InTable rest → InTable (pick b n rest)
    told true n is other = inr is
    told false n is other = other

-- `open` accepts exactly if `refusal_of` is 0
pub same_refusal : (s : List ℕ) → refused_with (opened_of s) ≡ refusal_of s
same_refusal s = unfold opened_of in answers_with _ (refusal_of s) (refusal_known s)

pub is_section : (s : List ℕ) → refusal_of s ≡ 0 → section_of s ≡ Ok s
is_section s ok = simp (eq-eqb (refusal_of s) 0 ok)

-- what a section that passes its checks is, and one that does not
abbrev section_in : List ℕ → Result (List ℕ) Refusal → List ℕ
section_in s (Ok bytes) = bytes
section_in s (Err r) = s

module _ (s : List ℕ) where
  pub same_section : {bytes : List ℕ} → Ok bytes ≡ section_of s → bytes ≡ s
  same_section is =
      ap (section_in s) is
      ∙ by_test (eqb (refusal_of s) 0) (λ e. simp e) (λ e. simp e)

  pub section_passed : {bytes : List ℕ} → Ok bytes ≡ section_of s → refusal_of s ≡ 0
  section_passed is = sym (answers_with s (refusal_of s) (refusal_known s)) ∙ sym (ap refused_with is)

  pub section_refused : {r : Refusal} → Err r ≡ section_of s → number r ≡ refused_with (opened_of s)
  section_refused is = ap refused_with is ∙ answers_with s (refusal_of s) (refusal_known s) ∙ sym (same_refusal s)

-- what an accepted section is opened to
module _ (s : List ℕ) {o : Opened} (is : opened_of s ≡ Ok o) where
  pub none_refused : refusal_of s ≡ 0
  none_refused = sym (same_refusal s) ∙ ap refused_with is

  pub is_opening : o ≡ opening_of s
  is_opening = sym (ap opened_in is)

-- what an opened section holds, refused or not
pub record Opens (s : List ℕ) : Type 0 where
  pub version : (opening_of s).version ≤ 2
  pub long : (opening_of s).start + 4 * (opening_of s).count ≤ length s
  pub few : (opening_of s).count ≤ 4096
  pub below : (opening_of s).base + 4 * (opening_of s).count ≤ 2 ^ 32
  pub there : 8 * (opening_of s).ranges ≤ length s - 11
  pub ordered : in_order (opening_of s).count 0 (ranges_of s (opening_of s).ranges) ≡ true

pub opened : (s : List ℕ) → Opens s
opened s =
    by_test (eqb (refusal_of s) 0)
    (λ e.
    let ok = eqb-true (refusal_of s) 0 e in
    let all = accepted s ok in
    let is = opening s ok in
    let rules = (rules_exactly (count_of s) (ranges_of s (range_count s))).1 all.ruled in
    record {
      version = rw is (⊎_elim (λ one. omega (arith, one)) (λ two. omega (arith, two)) all.version);
      long = rw is (omega (arith, all.long));
      few = rw is all.few;
      below = rw is all.below;
      there = rw is (ranges_there s (omega (arith, all.long)));
      ordered = rw is (parts (leb (length (ranges_of s (range_count s))) 64) (in_order (count_of s) 0 (ranges_of s (range_count s))) rules).1;
    })
    (λ e.
    let is = holds_none s (eqb-false (refusal_of s) 0 e) in
    record {
      version = rw is (omega arith);
      long = rw is (omega arith);
      few = rw is (omega arith);
      below = rw is (omega arith);
      there = rw is (omega arith);
      ordered = rw is;
    })

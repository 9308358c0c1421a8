-- What an accepted section's opening tells of its words. Assumes nothing.
use mathlib.Core.Path.{◌≡◌, ap, ◌∙◌}
use mathlib.Core.List.{List}
use Prim.Native.Nat.{ℕ, ◌+◌, ◌-◌, ◌*◌, ◌≤◌}
use native.Mathlib.Omega.{arith}
use lib.ListN.{length, take, drop, length-append, length-drop}
use lib.Seq.{length-take-le, take_all}
use Rattle.section.specs.Section.{version_of, base_of, range_count, start_of, count_of, refusal_of, opened_of}
use Rattle.std.specs.Prelude.{Ok}
use Rattle.section.specs.declared.Opened.{Opened}
use Rattle.section.proofs.Accepted.{accepted, opening, none_refused, is_opening}
use Rattle.patch.specs.Image.{◌from◌, words_refusal}
use Rattle.patch.proofs.Words.{fit_exactly}
use Rattle.patched.specs.Patched.{laid_of, image_of, patched_of}
use Rattle.patched.proofs.Image.{image_size}

module _ (s : List ℕ) (ok : refusal_of s ≡ 0) where
  pub starts_within : start_of s ≤ length s
  starts_within = omega (arith, (accepted s ok).long)

  pub words_are : length (laid_of s).words ≡ 4 * count_of s
  words_are = length-drop (start_of s) s ∙ omega (arith, (accepted s ok).long)

  -- words of an accepted section are accepted
  pub laid_fits : words_refusal (laid_of s) ≡ 0
  laid_fits =
      let is = accepted s ok in
      let four = words_are in
      (fit_exactly (laid_of s)).1 (record {
        fours = omega arith;
        few = omega (arith, is.few);
        aligned = is.aligned;
        below = omega (arith, is.below);
      })

  pub front_size : length (take (start_of s) s) ≡ start_of s
  front_size = length-take-le (start_of s) s starts_within

  pub parts_size : (p : List ℕ) → length (patched_of s p) ≡ start_of s + length (image_of (laid_of s) (laid_of p))
  parts_size p = unfold patched_of in simp (length-append, front_size)

  pub patched_size : (p : List ℕ) → length (patched_of s p) ≡ length s
  patched_size p = omega (arith, parts_size p, image_size (laid_of s) (laid_of p), length-drop (start_of s) s, starts_within)

module _ (s : List ℕ) {o : Opened} (is : opened_of s ≡ Ok o) where
  pub is_accepted : refusal_of s ≡ 0
  is_accepted = none_refused s is

  holds : o ≡ record { version = version_of s; base = base_of s; count = count_of s; ranges = range_count s; start = start_of s }
  holds = is_opening s is ∙ opening s is_accepted

  pub start_is : o.start ≡ start_of s
  start_is = ap (λ (x : Opened). x.start) holds

  base_is : o.base ≡ base_of s
  base_is = ap (λ (x : Opened). x.base) holds

  pub laid_is : take (length s - o.start) (drop o.start s) from o.base ≡ laid_of s
  laid_is = rw (start_is, base_is) (ap (λ (words : List ℕ). words from base_of s)
      (take_all (length s - start_of s) (drop (start_of s) s) (simp length-drop (omega arith))))

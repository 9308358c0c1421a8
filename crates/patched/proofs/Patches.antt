-- The patched section is what 02 asks of it. Assumes nothing.
use mathlib.Core.Path.{◌≡◌, ap, sym, ◌∙◌}
use mathlib.Core.Bool.{false}
use mathlib.Core.List.{List, ◌++◌}
use mathlib.Core.Option.{some}
use Prim.Native.Nat.{ℕ, ◌+◌, ◌*◌, ◌<◌}
use native.Mathlib.Omega.{arith}
use lib.ListN.{length, get_or, take, get_or-append}
use lib.Seq.{take_at, get_or-take, get_or-drop, get_or-append-add}
use Rattle.section.specs.Section.{base_of, start_of, ranges_of, count_of, refusal_of, places_of, here_of}
use Rattle.section.specs.declared.Opened.{Opened}
use Rattle.section.proofs.Accepted.{opening}
use Rattle.section.proofs.Firsts.{each}
use Rattle.section.proofs.Front.{same_count, same_refusal, same_ranges, same_opened, carries, keeps}
use Rattle.section.proofs.Places.{how_many_lem}
use Rattle.patch.specs.Image.{has, byte_at}
use Rattle.patched.specs.Patched.{laid_of, image_byte, image_of, patched_of}
use Rattle.patched.specs.Promise.{Patches}
use Rattle.patched.proofs.Accepts.{words_are, laid_fits, front_size, patched_size}
use Rattle.patched.proofs.Image.{is_there, own_bytes}

module _ (s p : List ℕ) (ok : refusal_of s ≡ 0) (fine : refusal_of p ≡ 0) where
  abbrev t : List ℕ
  t = patched_of s p

  as_long : length s ≡ length t
  as_long = sym (patched_size s ok p)

  front_bytes : (i : ℕ) → i < start_of s → get_or s i 0 ≡ get_or t i 0
  front_bytes i h = unfold patched_of in
      sym (get_or-append (take (start_of s) s) (image_of (laid_of s) (laid_of p)) 0 i (omega (arith, front_size s ok)) ∙ get_or-take (start_of s) s i 0 h)

  same_front : take (start_of s) t ≡ take (start_of s) s
  same_front = unfold patched_of in take_at (take (start_of s) s) (image_of (laid_of s) (laid_of p)) (start_of s) (front_size s ok)

  word_bytes : (i : ℕ) → i < 4 * count_of s → get_or t (start_of s + i) 0 ≡ image_byte (laid_of s) (laid_of p) i
  word_bytes i h = unfold patched_of image_of in
      let front = take (start_of s) s in
      let image = image_of (laid_of s) (laid_of p) in
      ap (λ (n : ℕ). get_or (front ++ image) n 0) {x = start_of s + i} {y = length front + i} (omega (arith, front_size s ok))
      ∙ get_or-append-add front image i 0
      ∙ each (image_byte (laid_of s) (laid_of p)) 0 (length (laid_of s).words) i (omega (arith, words_are s ok))

  image_bytes : (i : ℕ) → i < 4 * count_of s → byte_at (laid_of s) (laid_of p) (base_of s + i) ≡ some (get_or t (start_of s + i) 0)
  image_bytes i h = is_there (laid_of s) (laid_of p) i (omega (arith, words_are s ok)) ∙ ap some (sym (word_bytes i h))

  unreached : (place : ℕ) → has (laid_of p) (base_of s + 4 * place) ≡ false → here_of t place ≡ here_of s place
  unreached place free =
      keeps s t as_long front_bytes place (λ inside k h.
      let count : length (places_of s) ≡ count_of s = how_many_lem s ∙ ap (λ (o : Opened). o.count) (opening s ok) in
      let there : start_of s + (4 * place + k) ≡ start_of s + 4 * place + k = omega arith in
      sym (rw there at (word_bytes (4 * place + k) (omega arith)
      ∙ own_bytes (laid_of s) (laid_of p) (laid_fits s ok) (laid_fits p fine) (4 * place) (omega arith) (omega (arith, words_are s ok)) free k h
      ∙ get_or-drop (start_of s) s (4 * place + k) 0)))

  pub patches : Patches s p (patched_of s p)
  patches = record {
    accepted = sym (same_refusal s t as_long front_bytes) ∙ ok;
    opened = sym (same_opened s t as_long front_bytes);
    front = same_front;
    long = patched_size s ok p;
    ranges = sym (same_ranges s t as_long front_bytes ∙ ap (ranges_of t) (same_count s t as_long front_bytes));
    image = image_bytes;
    places = carries s t as_long front_bytes;
    unreached = unreached;
  }

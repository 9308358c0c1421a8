-- What a patched section is, beside the section (02, P11).
use Rattle.std.specs.Prelude.{◌≡◌, false, List, ℕ, ◌+◌, ◌*◌, ◌<◌, length, get_or, take}
use Rattle.std.proofs.Math.Option.{some}
use Rattle.word.specs.Bytes.{word_at}
use Rattle.section.specs.Section.{base_of, range_count, start_of, ranges_of, count_of, refusal_of, opened_of, here_of}
use Rattle.section.specs.Replaced.{with_word}
use Rattle.patch.specs.Image.{has, byte_at}
use Rattle.patched.specs.Patched.{laid_of}

-- a section that is accepted, with the section's header and ranges: version, base, number of words and ranges are the same. Each byte of its words is
-- the image's; at each place stands what stood there, word or data, with the image's word; and as before where the patch does not reach
pub record Patches (s p t : List ℕ) : Type 0 where
  pub accepted : refusal_of t ≡ 0
  pub opened : opened_of t ≡ opened_of s
  pub front : take (start_of s) t ≡ take (start_of s) s
  pub long : length t ≡ length s
  pub ranges : ranges_of t (range_count t) ≡ ranges_of s (range_count s)
  pub image : (i : ℕ) → i < 4 * count_of s → byte_at (laid_of s) (laid_of p) (base_of s + i) ≡ some (get_or t (start_of s + i) 0)
  pub places : (place : ℕ) → here_of t place ≡ with_word (word_at t (start_of s + 4 * place)) (here_of s place)
  pub unreached : (place : ℕ) → has (laid_of p) (base_of s + 4 * place) ≡ false → here_of t place ≡ here_of s place

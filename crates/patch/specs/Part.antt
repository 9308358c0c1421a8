-- What words that are accepted are, and what a run is, each without the order of the checks (02, P11).
use Rattle.std.specs.Prelude.{◌≡◌, Bool, true, List, ◌⊎◌, ℕ, ◌+◌, ◌-◌, ◌*◌, ◌%◌, ◌^◌, ◌<◌, ◌≤◌, length, get_or, take, drop}
use Rattle.std.proofs.Math.Option.{some}
use Rattle.patch.specs.Image.{Laid, in_patch, in_section, byte_at}

-- words at a base that pass the checks: whole words, at most 4,096, at a multiple of 4, and not beyond the last address
pub record Fit (l : Laid) : Type 0 where
  pub fours : length l.words % 4 ≡ 0
  pub few : length l.words ≤ 4 * 4096
  pub aligned : l.base % 4 ≡ 0
  pub below : l.base + length l.words ≤ 2 ^ 32

-- at each of so many addresses from one on
abbrev pub Throughout : (ℕ → Bool) → ℕ → ℕ → Type 0
Throughout holds addr len = (i : ℕ) → i < len → holds (addr + i) ≡ true

-- the words' own bytes from that place on, so many
pub record OwnBytes (l : Laid) (addr len : ℕ) (part : List ℕ) : Type 0 where
  pub starts : l.base ≤ addr
  pub ends : addr + len ≤ l.base + length l.words
  pub own : part ≡ take len (drop (addr - l.base) l.words)

-- "a run of bytes at an address as a part of whichever of the two lent slices holds it": one of them holds each of its bytes, which are the image's
pub record IsRun (s p : Laid) (addr len : ℕ) (part : List ℕ) : Type 0 where
  pub more : 0 < len
  pub held : (Throughout (in_patch s p) addr len × OwnBytes p addr len part) ⊎ (Throughout (in_section s p) addr len × OwnBytes s addr len part)
  pub long : length part ≡ len
  pub image : (i : ℕ) → i < len → byte_at s p (addr + i) ≡ some (get_or part i 0)

-- "the run is empty, or no single one of patch and unhidden section holds all of it"
abbrev pub NoRun : Laid → Laid → ℕ → ℕ → Type 0
NoRun s p addr len = (len ≡ 0) ⊎ ((Throughout (in_patch s p) addr len → ⊥) × (Throughout (in_section s p) addr len → ⊥))

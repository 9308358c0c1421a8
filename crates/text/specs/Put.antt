-- What a writer asks, and what it ensures.
use Rattle.std.specs.Prelude.{◌≡◌, List, ℕ, ◌+◌, ◌≤◌, length}
use Rattle.text.specs.Text.{written}

-- the text fits the buffer `out` from place `at` on
abbrev pub Room : {A : Type 0} → List A → ℕ → List A → Type 0
Room out at text = at + length text ≤ length out

-- the buffer `out` has become `last`, with the text in it from place `at` on, and `next` is the place after the text
pub record Put {A : Type 0} (out : List A) (at : ℕ) (text : List A) (next : ℕ) (last : List A) : Type 0 where
  pub ends : next ≡ at + length text
  pub holds : last ≡ written out at text

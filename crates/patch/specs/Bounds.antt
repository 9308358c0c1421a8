-- Where a run lies beside `size` bytes from a base on, by their ends.
use Rattle.std.specs.Prelude.{Bool, ℕ, ◌+◌, leb, ltb}
use Rattle.word.specs.Choice.{both}

-- all of it is among them
abbrev pub within : ℕ → ℕ → ℕ → ℕ → Bool
within base size addr len = both (leb base addr) (leb (addr + len) (base + size))

-- some of it is, where it is not empty
abbrev pub reaches : ℕ → ℕ → ℕ → ℕ → Bool
reaches base size addr len = both (ltb 0 size) (both (ltb addr (base + size)) (ltb base (addr + len)))

-- Two words that differ in the condition, 31:28, alone.
use Rattle.std.specs.Prelude.{◌≡◌, true, ℕ, ◌+◌, leb}
use Rattle.std.proofs.Common.{sym, ap, ◌∙◌, zero-add}
use Rattle.word.specs.Field.{field, within}

abbrev pub Alike : ℕ → ℕ → Type 0
Alike w v = field w 0 28 ≡ field v 0 28

-- they have the same fields below the condition
pub fields_alike : (w v : ℕ) → Alike w v → (lo k : ℕ) → leb (lo + k) 28 ≡ true → field w lo k ≡ field v lo k
fields_alike w v alike lo k h =
    sym (ap (λ (p : ℕ). field w p k) (zero-add lo)) ∙ sym (within w 0 28 lo k h)
    ∙ ap (λ (x : ℕ). field x lo k) alike
    ∙ within v 0 28 lo k h ∙ ap (λ (p : ℕ). field v p k) (zero-add lo)

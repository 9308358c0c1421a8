-- Where a run lies beside some bytes, told without a sum of its ends, which could wrap. Assumes nothing.
use mathlib.Core.Path.{◌≡◌, sym, ◌∙◌}
use mathlib.Core.Bool.{false}
use Prim.Native.Nat.{ℕ, ◌+◌, ◌-◌, ◌<◌, ◌≤◌}
use native.Mathlib.Omega.{arith}
use borrow.Author.Tests.{leb-true, leb-false, ltb-true, ltb-false, le-leb, lt-leb, lt-ltb, le-ltb}
use lib.Dec.{leb, ltb}
use Rattle.word.specs.Choice.{by_test}
use Rattle.patch.specs.Bounds.{within, reaches}

module _ (base size addr len : ℕ) where
  pub starts_before : addr < base → within base size addr len ≡ false
  starts_before h = simp (lt-leb base addr h)

  pub starts_behind : base ≤ addr → size < addr - base → within base size addr len ≡ false
  starts_behind low h = simp (le-leb base addr low) (lt-leb (addr + len) (base + size) (omega arith))

  pub left_over : base ≤ addr → addr - base ≤ size → leb len (size - (addr - base)) ≡ within base size addr len
  left_over low h =
      simp (le-leb base addr low)
      (by_test (leb len (size - (addr - base)))
      (λ e. e ∙ sym (le-leb (addr + len) (base + size) (omega (arith, leb-true len (size - (addr - base)) e))))
      (λ e. e ∙ sym (lt-leb (addr + len) (base + size) (omega (arith, leb-false len (size - (addr - base)) e)))))

  pub none_to_reach : size ≡ 0 → reaches base size addr len ≡ false
  none_to_reach h = simp (le-ltb 0 size (omega arith))

  module _ (some : size ≡ 0 → ⊥) where
    pub too_late : base + size ≤ addr → reaches base size addr len ≡ false
    too_late h = simp (lt-ltb 0 size (omega arith), le-ltb addr (base + size) h)

    pub in_time : addr < base + size → ltb base (addr + len) ≡ reaches base size addr len
    in_time h = simp (lt-ltb 0 size (omega arith), lt-ltb addr (base + size) h)

pub gap : (base addr len : ℕ) → addr ≤ base → ltb (base - addr) len ≡ ltb base (addr + len)
gap base addr len h =
    by_test (ltb (base - addr) len)
    (λ e. e ∙ sym (lt-ltb base (addr + len) (omega (arith, ltb-true (base - addr) len e))))
    (λ e. e ∙ sym (le-ltb base (addr + len) (omega (arith, ltb-false (base - addr) len e))))

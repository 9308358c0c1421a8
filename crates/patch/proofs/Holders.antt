-- Who holds a run that is not empty, from where its ends lie. Assumes nothing.
use mathlib.Core.Path.{◌≡◌, refl, sym, ◌∙◌}
use mathlib.Core.Bool.{Bool, true, false, true≢false}
use Prim.Native.Nat.{ℕ, ◌+◌, ◌-◌, ◌<◌, ◌≤◌}
use native.Mathlib.Omega.{arith}
use borrow.Author.Tests.{leb-true, leb-false, ltb-true, le-leb, lt-ltb, ne_eqb}
use lib.Dec.{leb, ltb}
use lib.ListN.{length}
use Rattle.word.specs.Choice.{pick, both, by_test, parts}
use Rattle.word.specs.Every.{every}
use Rattle.patch.specs.Bounds.{within, reaches}
use Rattle.patch.specs.Image.{Laid, has, in_patch, in_section}
use Rattle.patch.specs.Run.{held_of}
use Rattle.std.specs.Prelude.{Ok}
use Rattle.word.specs.Refusal.{refusing}
use Rattle.patch.specs.declared.Found.TheVariants.{Patch, Section}
use Rattle.patch.proofs.Each.{all, not_all}

-- the ends of words, and a run's place among them
module _ (l : Laid) where
  abbrev end : ℕ
  end = l.base + length l.words

  pub has_it : (a : ℕ) → l.base ≤ a → a < end → has l a ≡ true
  has_it a low high = simp (le-leb l.base a low, lt-ltb a end high)

  pub bounds : (a : ℕ) → has l a ≡ true → (l.base ≤ a) × (a < end)
  bounds a e = let both_of = parts (leb l.base a) (ltb a end) e in (leb-true _ _ both_of.0, ltb-true _ _ both_of.1)

  pub has_not : (a : ℕ) → (l.base ≤ a → a < end → ⊥) → has l a ≡ false
  has_not a out = by_test (has l a) (λ e. absurd (out (bounds a e).0 (bounds a e).1)) (λ e. e)

  module _ (addr len : ℕ) where
    pub ends_within : within l.base (length l.words) addr len ≡ true → (l.base ≤ addr) × (addr + len ≤ end)
    ends_within e =
        let both_of = parts (leb l.base addr) (leb (addr + len) end) e in (leb-true _ _ both_of.0, leb-true _ _ both_of.1)

    -- the first byte is not among them, or the last
    pub one_missing : 0 < len → within l.base (length l.words) addr len ≡ false → (k : ℕ) × (k < len) × (has l (addr + k) ≡ false)
    one_missing some e =
        by_test (leb l.base addr)
        (λ low. by_test (leb (addr + len) end)
        (λ high. absurd (true≢false (simp (low, high) at e)))
        (λ high. (len - 1, omega arith, has_not (addr + (len - 1)) (λ x y. omega (arith, leb-false (addr + len) end high)))))
        (λ low. (0, some, has_not (addr + 0) (λ x y. omega (arith, leb-false l.base addr low))))

    -- the later of the two first bytes is among them
    pub one_there : 0 < len → reaches l.base (length l.words) addr len ≡ true
        → (l.base - addr < len) × (has l (addr + (l.base - addr)) ≡ true)
    one_there more e =
        let some = parts (ltb 0 (length l.words)) (both (ltb addr end) (ltb l.base (addr + len))) e in
        let rest = parts (ltb addr end) (ltb l.base (addr + len)) some.1 in
        let a : 0 < length l.words = ltb-true _ _ some.0 in
        let b : addr < end = ltb-true _ _ rest.0 in
        let c : l.base < addr + len = ltb-true _ _ rest.1 in
        (omega arith, has_it (addr + (l.base - addr)) (omega arith) (omega arith))

    pub none_there : reaches l.base (length l.words) addr len ≡ false → (k : ℕ) → k < len → has l (addr + k) ≡ false
    none_there e k h =
        has_not (addr + k) (λ low high.
        true≢false (sym (simp (
          lt-ltb 0 (length l.words) (omega arith),
          lt-ltb addr end (omega arith),
          lt-ltb l.base (addr + len) (omega arith),
        )) ∙ e))

module _ (s p : Laid) (addr len : ℕ) (some : 0 < len) where
  pub held_in_patch : within p.base (length p.words) addr len ≡ true → held_of s p addr len ≡ Ok (Patch (addr - p.base))
  held_in_patch e = unfold held_of in
      let ends = ends_within p addr len e in
      simp (
        ne_eqb len 0 (λ z. omega arith),
        all (in_patch s p) len addr (λ k h. has_it p (addr + k) (omega arith) (omega arith)),
      )

  module _ (left : within p.base (length p.words) addr len ≡ false) where
    not_in_patch : every (in_patch s p) addr len ≡ false
    not_in_patch = let missing = one_missing p addr len some left in not_all (in_patch s p) len addr missing.0 missing.1 missing.2

    not_in_section : {k : ℕ} → k < len → in_section s p (addr + k) ≡ false → held_of s p addr len ≡ refusing 14
    not_in_section {k} h e = unfold held_of in
        simp (ne_eqb len 0 (λ z. omega arith), not_in_patch, not_all (in_section s p) len addr k h e)

    pub held_across : reaches p.base (length p.words) addr len ≡ true → held_of s p addr len ≡ refusing 14
    held_across e = let there = one_there p addr len some e in not_in_section there.0 (simp there.1)

    pub held_nowhere : within s.base (length s.words) addr len ≡ false → held_of s p addr len ≡ refusing 14
    held_nowhere e =
        let missing = one_missing s addr len some e in
        not_in_section missing.1 (rw missing.2 (nowhere (has p (addr + missing.0))))
      where
        nowhere : (b : Bool) → pick b false false ≡ false
        nowhere true = refl
        nowhere false = refl

    pub held_in_section : reaches p.base (length p.words) addr len ≡ false → within s.base (length s.words) addr len ≡ true
        → held_of s p addr len ≡ Ok (Section (addr - s.base))
    held_in_section apart e = unfold held_of in
        let ends = ends_within s addr len e in
        simp (
          ne_eqb len 0 (λ z. omega arith),
          not_in_patch,
          all (in_section s p) len addr (λ k h. rw (none_there p addr len apart k h) (has_it s (addr + k) (omega arith) (omega arith))),
        )

-- A field of a word, the word with another number in a field, and the laws between the two, for every place and width.
use Rattle.std.specs.Prelude.{◌≡◌, ℕ, ◌+◌, ◌*◌, ◌/◌, ◌%◌, ◌^◌, ◌<◌, true, T, leb, nat_le, nat_lt}
use Rattle.std.proofs.Math.Path.{sym, ap}
use Rattle.std.proofs.Common.{◌∙◌, subst, mod-lt, mod-eq_of_lt, div-one, add_comm, add_assoc, add-mul, mul_assoc, mul_comm, leb→le, ltb-true, pow_pos, pow-add}
use Rattle.std.proofs.Math.Nat.{le_dest, mul-add-mod_self_right}
use native.Mathlib.Omega.{arith}
use Rattle.std.proofs.Math.Arith.{digits_lt}
use Rattle.std.proofs.Math.Pow as P

-- the k bits of w from place lo on
unfoldable pub field : ℕ → ℕ → ℕ → ℕ
field w lo k = w / 2 ^ lo % 2 ^ k

-- w with v in those bits
unfoldable pub put : ℕ → ℕ → ℕ → ℕ → ℕ
put w lo k v = w / 2 ^ (lo + k) * 2 ^ (lo + k) + (v * 2 ^ lo + w % 2 ^ lo)

-- a multiple of 2 ^ (lo + k), as one of 2 ^ lo
regroup : (a lo k : ℕ) → a * 2 ^ (lo + k) ≡ a * 2 ^ k * 2 ^ lo
regroup a lo k = rw (pow-add 2 lo k, mul_comm (2 ^ lo) (2 ^ k), mul_assoc a (2 ^ k) (2 ^ lo))

-- what lies below a multiple
low_of : (a r m s : ℕ) → (a * 2 ^ (m + s) + r) % 2 ^ s ≡ r % 2 ^ s
low_of a r m s = rw (add_comm m s, regroup a s m) (mul-add-mod_self_right (a * 2 ^ m) (2 ^ s) r)

-- what a field that is put leaves of the others, and of itself
module _ (w lo k v : ℕ) (fits : nat_lt v (2 ^ k) ≡ true) where
  -- the field with what stands below it
  inner : v * 2 ^ lo + w % 2 ^ lo < 2 ^ (lo + k)
  inner = rw (add_comm lo k, pow-add 2 k lo) (digits_lt (ltb-true v (2 ^ k) fits) (mod-lt w (pow_pos lo)))

  pub put_above : (lo' k' : ℕ) → nat_le (lo + k) lo' ≡ true → field (put w lo k v) lo' k' ≡ field w lo' k'
  unfolding field put
  put_above lo' k' h = above (le_dest (leb→le (lo + k) lo' (subst T (sym h) tt)))
    where
      above : (d : ℕ) × (lo + k + d ≡ lo') → (w / 2 ^ (lo + k) * 2 ^ (lo + k) + (v * 2 ^ lo + w % 2 ^ lo)) / 2 ^ lo' % 2 ^ k' ≡ w / 2 ^ lo' % 2 ^ k'
      above (d, e) =
          rw (
            ← e,
            ← (P.shr-shr w (lo + k) d),
            ← (P.shr-shr (w / 2 ^ (lo + k) * 2 ^ (lo + k) + (v * 2 ^ lo + w % 2 ^ lo)) (lo + k) d),
            P.high (w / 2 ^ (lo + k)) (lo + k) inner,
          )

  pub put_at : field (put w lo k v) lo k ≡ v
  unfolding field put
  put_at =
      ap (λ (x : ℕ). x / 2 ^ lo % 2 ^ k) together
      ∙ ap (λ (x : ℕ). x % 2 ^ k) (P.high (w / 2 ^ (lo + k) * 2 ^ k + v) lo (mod-lt w (pow_pos lo)))
      ∙ P.low (w / 2 ^ (lo + k)) k (ltb-true v (2 ^ k) fits)
    where
      together : w / 2 ^ (lo + k) * 2 ^ (lo + k) + (v * 2 ^ lo + w % 2 ^ lo) ≡ (w / 2 ^ (lo + k) * 2 ^ k + v) * 2 ^ lo + w % 2 ^ lo
      together = rw (regroup (w / 2 ^ (lo + k)) lo k, add-mul) (sym (add_assoc _ _ _))

  pub put_below : (lo' k' : ℕ) → nat_le (lo' + k') lo ≡ true → field (put w lo k v) lo' k' ≡ field w lo' k'
  unfolding field put
  put_below lo' k' h = below (le_dest (leb→le (lo' + k') lo (subst T (sym h) tt)))
    where
      below : (d : ℕ) × (lo' + k' + d ≡ lo) → (w / 2 ^ (lo + k) * 2 ^ (lo + k) + (v * 2 ^ lo + w % 2 ^ lo)) / 2 ^ lo' % 2 ^ k' ≡ w / 2 ^ lo' % 2 ^ k'
      below (d, e) =
          sym (P.field _ k' lo')
          ∙ ap (λ (x : ℕ). x / 2 ^ lo')
          (rw (wide, narrow)
          (low_of _ _ (d + k) (k' + lo') ∙ low_of v _ d (k' + lo') ∙ P.mod-mod-pow w d (k' + lo')))
          ∙ P.field w k' lo'
        where
          wide : lo + k ≡ d + k + (k' + lo')
          wide = omega arith

          narrow : lo ≡ d + (k' + lo')
          narrow = omega arith

-- a field of k bits is below 2 ^ k
pub small : (w lo k : ℕ) → field w lo k < 2 ^ k
unfolding field
small w lo k = mod-lt (w / 2 ^ lo) (pow_pos k)

-- a field of j + k bits is its upper j bits and its lower k
pub splits : (w lo j k : ℕ) → field w lo (j + k) ≡ field w (lo + k) j * 2 ^ k + field w lo k
unfolding field
splits w lo j k = P.mod-pow-add (w / 2 ^ lo) j k ∙ ap (λ (x : ℕ). x % 2 ^ j * 2 ^ k + w / 2 ^ lo % 2 ^ k) (P.shr-shr w lo k)

-- a field of a field is a field of the word
pub within : (w lo k lo' k' : ℕ) → nat_le (lo' + k') k ≡ true → field (field w lo k) lo' k' ≡ field w (lo + lo') k'
unfolding field
within w lo k lo' k' h = inside (le_dest (leb→le (lo' + k') k (subst T (sym h) tt)))
  where
    inside : (d : ℕ) × (lo' + k' + d ≡ k) → w / 2 ^ lo % 2 ^ k / 2 ^ lo' % 2 ^ k' ≡ w / 2 ^ (lo + lo') % 2 ^ k'
    inside (d, e) =
        rw (wide)
        (ap (λ (x : ℕ). x % 2 ^ k') (P.field (w / 2 ^ lo) (d + k') lo')
        ∙ P.mod-mod-pow (w / 2 ^ lo / 2 ^ lo') d k'
        ∙ ap (λ (x : ℕ). x % 2 ^ k') (P.shr-shr w lo lo'))
      where
        wide : k ≡ d + k' + lo'
        wide = omega arith

-- the lowest bits of a word
pub low_bits : (w n : ℕ) → field w 0 n ≡ w % 2 ^ n
unfolding field
low_bits w n = rw (div-one w)

-- what a field that is put leaves of the lowest bits around it, and that it stays within them
module _ (w lo k v n : ℕ) (fits : nat_lt v (2 ^ k) ≡ true) (h : leb (lo + k) n ≡ true) where
  pub put_within : field (put w lo k v) 0 n ≡ put (field w 0 n) lo k v
  unfolding put
  put_within = low_bits (put w lo k v) n ∙ from (le_dest (leb→le (lo + k) n (subst T (sym h) tt))) ∙ ap (λ (x : ℕ). put x lo k v) (sym (low_bits w n))
    where
      lower : (d : ℕ) → w % 2 ^ (d + (lo + k)) % 2 ^ lo ≡ w % 2 ^ lo
      lower d =
          ap (λ (e : ℕ). w % 2 ^ e % 2 ^ lo) {x = d + (lo + k)} {y = d + k + lo} (omega arith)
          ∙ P.mod-mod-pow w (d + k) lo

      from : (d : ℕ) × (lo + k + d ≡ n) → put w lo k v % 2 ^ n ≡ put (w % 2 ^ n) lo k v
      from (d, e) =
          rw (← e, add_comm (lo + k) d)
          (P.mod-pow-add _ d (lo + k)
          ∙ rw (
            P.high (w / 2 ^ (lo + k)) (lo + k) (inner w lo k v fits),
            P.low (w / 2 ^ (lo + k)) (lo + k) (inner w lo k v fits),
            P.field w d (lo + k),
            lower d,
          ))

  pub put_small : w < 2 ^ n → put w lo k v < 2 ^ n
  put_small bound =
      subst (λ (x : ℕ). x < 2 ^ n) (put_within ∙ ap (λ (x : ℕ). put x lo k v) (low_bits w n ∙ mod-eq_of_lt bound)) (small (put w lo k v) 0 n)

-- What `least_of` and `least_field` say: no smaller rotation field, with any byte, gives the value. Assumes nothing.
use Rattle.std.specs.Prelude.{◌≡◌, Bool, true, false, not, ◌↔◌, ℕ, zero, suc, ◌+◌, ◌-◌, ◌*◌, ◌/◌, ◌%◌, ◌^◌, ◌<◌, ◌≤◌, T, eqb, ltb}
use Rattle.std.proofs.Math.Path.{refl, subst}
use Rattle.std.proofs.Common.{sym, ◌∙◌, ap, add_comm, zero-add, not-suc-le-zero, add-one, shr_lt, below_more}
use native.Mathlib.Omega.{arith}
use Rattle.std.proofs.Math.Pow as P
use borrow.Author.Tests.{eq-eqb, ne_eqb, ltb-true, ltb-false, not-true}
use Rattle.word.specs.Field.{field, small}
use Rattle.word.specs.Choice.{both, by_test}
use Rattle.a32_imm.specs.Imm.{turned_right, turned_left, value_of, byte_of, rotation_of, so_imm_of, none_below, least_of, least_from, least_field}
use Rattle.a32_imm.specs.Closed.{value_fits}

-- turned right and back, at n places of 32
module _ (n m : ℕ) (all : m + n ≡ 32) where
  rest : 32 - n ≡ m
  rest = omega arith

  back : (v : ℕ) → v < 2 ^ 32 → turned_left (turned_right v n) n ≡ v
  back v h =
      rw (rest, P.high (v % 2 ^ n) m {lo = v / 2 ^ n} low, P.low (v % 2 ^ n) m {lo = v / 2 ^ n} low) (P.split v n)
    where
      low : v / 2 ^ n < 2 ^ m
      low = shr_lt m n (subst (λ (k : ℕ). v < 2 ^ k) (sym all) h)

  forth : (v : ℕ) → v < 2 ^ 32 → turned_right (turned_left v n) n ≡ v
  forth v h =
      rw (rest, P.high (v % 2 ^ m) n {lo = v / 2 ^ m} low, P.low (v % 2 ^ m) n {lo = v / 2 ^ m} low)
      (P.split v m)
    where
      low : v / 2 ^ m < 2 ^ n
      low = shr_lt n m (subst (λ (k : ℕ). v < 2 ^ k) (sym all ∙ add_comm m n) h)

-- some byte gives v at the rotation field r, just if v turned back is a byte
module _ (r v : ℕ) (four : r < 16) (fits : v < 2 ^ 32) where
  turned : 32 - 2 * r + 2 * r ≡ 32
  turned = omega arith

  gives : turned_left v (2 * r) < 256 → (b : ℕ) × (b < 256) × (value_of r b ≡ v)
  gives h = (turned_left v (2 * r), h, forth (2 * r) (32 - 2 * r) turned v fits)

  given : (b : ℕ) → b < 256 → value_of r b ≡ v → turned_left v (2 * r) < 256
  given b h e =
      subst (λ (x : ℕ). turned_left x (2 * r) < 256) e (subst (λ (x : ℕ). x < 256) (sym (back (2 * r) (32 - 2 * r) turned b (omega arith))) h)

-- no rotation field below n, with any byte, gives v
abbrev pub None : ℕ → ℕ → Type 0
None n v = (r : ℕ) → r < n → (b : ℕ) → b < 256 → value_of r b ≡ v → ⊥

parts : (a b : Bool) → both a b ≡ true → (a ≡ true) × (b ≡ true)
parts true b e = (refl, e)
parts false b e = absurd (subst (λ (x : Bool). T (not x)) e tt)

whole : (a b : Bool) → a ≡ true → b ≡ true → both a b ≡ true
whole a b e f = rw (e, f)

refuted : (b : Bool) → (b ≡ true → ⊥) → not b ≡ true
refuted true h = absurd (h refl)
refuted false h = refl

module _ (v : ℕ) (fits : v < 2 ^ 32) where
  none : (n : ℕ) → n ≤ 16 → none_below n v ≡ true → None n v
  none zero most e r h = absurd (not-suc-le-zero h)
  none (suc n) most e r h =
      below_more (λ r. (b : ℕ) → b < 256 → value_of r b ≡ v → ⊥) n (none n (omega arith) both_pass.1) last r (rw add-one h)
    where
      both_pass : (not (ltb (turned_left v (2 * n)) 256) ≡ true) × (none_below n v ≡ true)
      both_pass = parts (not (ltb (turned_left v (2 * n)) 256)) (none_below n v) e

      last : (b : ℕ) → b < 256 → value_of n b ≡ v → ⊥
      last b hb g = omega (arith, given n v (omega arith) fits b hb g, ltb-false (turned_left v (2 * n)) 256 (not-true _ both_pass.0))

  decides : (n : ℕ) → n ≤ 16 → None n v → none_below n v ≡ true
  decides zero most f = refl
  decides (suc n) most f =
      whole _ _
      (refuted (ltb (turned_left v (2 * n)) 256) (λ e. denied (gives n v (omega arith) fits (ltb-true _ _ e))))
      (decides n (omega arith) (λ r h. f r (omega arith)))
    where
      denied : (b : ℕ) × (b < 256) × (value_of n b ≡ v) → ⊥
      denied (b, h, e) = f n (omega arith) b h e

-- "one count exactly if no smaller rotation field, with any byte, gives that value"
pub least_exactly : (imm12 : ℕ) → imm12 < 4096 → (least_of imm12 ≡ true) ↔ None (rotation_of imm12) (so_imm_of imm12)
unfolding least_of
least_exactly imm12 h = (none _ fits _ few, decides _ fits _ few)
  where
    fits : so_imm_of imm12 < 2 ^ 32
    fits = value_fits imm12 h

    few : rotation_of imm12 ≤ 16
    few = omega (arith, small imm12 8 4)

-- a field that gives v, with a rotation than which no smaller one does, with any byte
pub record IsLeast (v e : ℕ) : Type 0 where
  pub few : e < 4096
  pub gives_it : so_imm_of e ≡ v
  pub none_smaller : None (rotation_of e) v

-- the two parts of a field
module _ (k b : ℕ) (four : k < 16) (eight : b < 256) where
  pair_few : 256 * k + b < 4096
  pair_few = omega arith

  pair_rotation : rotation_of (256 * k + b) ≡ k
  pair_rotation = unfold field in omega arith

  pair_byte : byte_of (256 * k + b) ≡ b
  pair_byte = unfold field in omega arith

paired : (e : ℕ) → e < 4096 → 256 * rotation_of e + byte_of e ≡ e
paired e h = unfold field in omega arith

-- the search stops at the first rotation that gives v with a byte
abbrev Stops : ℕ → ℕ → ℕ → Type 0
Stops n r v = (k : ℕ) × (k < n + r) × (turned_left v (2 * k) < 256) × (none_below k v ≡ true) × (least_from n r v ≡ 256 * k + turned_left v (2 * k))

differ : (b : Bool) → b ≡ true → b ≡ false → ⊥
differ true e f = subst T f tt
differ false e f = subst T (sym e) tt

module _ (v : ℕ) where
  stops : (n r : ℕ) → none_below r v ≡ true → none_below (n + r) v ≡ false → Stops n r v
  stops zero r clear some = absurd (differ (none_below r v) clear (subst (λ (m : ℕ). none_below m v ≡ false) (zero-add r) some))
  stops (suc n) r clear some =
      by_test (ltb (turned_left v (2 * r)) 256)
      (λ e. (r, omega arith, ltb-true (turned_left v (2 * r)) 256 e, clear, simp e))
      (λ e. widened e (stops n (suc r) (simp (e, clear)) (subst (λ (m : ℕ). none_below m v ≡ false) (sym more) some)))
    where
      more : n + suc r ≡ suc n + r
      more = omega arith

      widened : ltb (turned_left v (2 * r)) 256 ≡ false → Stops n (suc r) v → Stops (suc n) r v
      widened e (k, below, byte, first, is) = (k, omega (arith, below), byte, first, simp e is)

module _ (x : ℕ) (h : x < 4096) where
  abbrev v : ℕ
  v = so_imm_of x

  fits : v < 2 ^ 32
  fits = value_fits x h

  byte_small : byte_of x < 256
  byte_small = small x 0 8

  own : None 16 v → ⊥
  own f = f (rotation_of x) (small x 8 4) (byte_of x) byte_small (unfold so_imm_of in refl)

  some : none_below 16 v ≡ false
  some = by_test (none_below 16 v) (λ e. absurd (own (none v fits 16 (omega arith) e))) (λ e. e)

  -- "the field with the least rotation that gives its value"
  pub field_least : IsLeast v (least_field x)
  field_least = unfold least_field in found (stops v 16 0 refl some)
    where
      found : Stops 16 0 v → IsLeast v (least_from 16 0 v)
      found (k, four, byte, first, is) =
          let b = turned_left v (2 * k) in
          subst (IsLeast v) (sym is)
          (record {
            few = pair_few k b four byte;
            gives_it =
                unfold so_imm_of in rw (pair_rotation k b four byte, pair_byte k b four byte) (forth (2 * k) (32 - 2 * k) (turned k v four fits) v fits);
            none_smaller = rw (pair_rotation k b four byte) (none v fits k (omega (arith, four)) first);
          })

-- no two fields are the least for one value
module _ (v : ℕ) where
  not_below : (d d' : ℕ) → IsLeast v d → IsLeast v d' → rotation_of d' ≤ rotation_of d
  not_below d d' p q =
      by_test (ltb (rotation_of d) (rotation_of d'))
      (λ t. absurd (q.none_smaller (rotation_of d) (ltb-true _ _ t) (byte_of d) (small d 0 8) (unfold so_imm_of in p.gives_it)))
      (λ f. ltb-false (rotation_of d) (rotation_of d') f)

  byte_is : (d : ℕ) → IsLeast v d → turned_left v (2 * rotation_of d) ≡ byte_of d
  byte_is d p =
      subst (λ (x : ℕ). turned_left x (2 * rotation_of d) ≡ byte_of d) p.gives_it
      (unfold so_imm_of in back (2 * rotation_of d) (32 - 2 * rotation_of d) (turned (rotation_of d) 0 (small d 8 4) (omega arith)) (byte_of d) few_bits)
    where
      few_bits : byte_of d < 2 ^ 32
      few_bits = omega (arith, small d 0 8)

  pub only_least : (e e' : ℕ) → IsLeast v e → IsLeast v e' → e ≡ e'
  only_least e e' p q =
      sym (paired e p.few) ∙ ap (λ (r : ℕ). 256 * r + byte_of e) alike
      ∙ ap (λ (b : ℕ). 256 * rotation_of e' + b) (sym (byte_is e p) ∙ ap (λ (r : ℕ). turned_left v (2 * r)) alike ∙ byte_is e' q)
      ∙ paired e' q.few
    where
      alike : rotation_of e ≡ rotation_of e'
      alike = omega (arith, not_below e e' p q, not_below e' e q p)

-- an entry names itself just if its field has the least rotation
pub names_itself : (x : ℕ) → x < 4096 → eqb (least_field x) x ≡ least_of x
names_itself x h =
    by_test (least_of x)
    (λ least. eq-eqb _ _ (only_least (so_imm_of x) _ x (field_least x h) (itself least)) ∙ sym least)
    (λ other. ne_eqb _ _ (λ e. differ (least_of x) ((least_exactly x h).1 (subst (λ (y : ℕ). None (rotation_of y) (so_imm_of x)) e (field_least x h).none_smaller)) other) ∙ sym other)
  where
    itself : least_of x ≡ true → IsLeast (so_imm_of x) x
    itself least = record { few = h; gives_it = refl; none_smaller = (least_exactly x h).0 least }

-- What is shown of each group of rows, and how its proofs go by cases. Assumes nothing.
use mathlib.Core.Path.{◌≡◌, refl, ap, sym, ◌∙◌, subst}
use Rattle.word.specs.Refusal.{refused_with}
use mathlib.Core.Bool.{Bool, true, false}
use mathlib.Core.List.{List, []}
use Prim.Native.Nat.compare
use Prim.Native.Nat.{ℕ, zero, suc, ◌-◌, ◌^◌, Ordering}
use native.Mathlib.Omega.{arith}
use borrow.Author.Tests.{lt-ltb, eqb-true, eqb-false, ltb-true, leb-true, le-leb, lt-leb}
use lib.Dec.{T, eqb, leb, ltb, compare_is_eq}
use lib.IntN.{pos, nat_abs}
use lib.Pow.{pow_pos}
use Rattle.word.specs.Choice.{pick, both, by_test}
use Rattle.word.specs.Every.{left}
use Rattle.word.specs.Field.{field, small, put_above, put_below, put_at}
use Rattle.word.specs.Signed.{minus}
use Rattle.insn.specs.Answer.{Decoded, insn_in}
use Rattle.a32_ldst.specs.Mem.{disp_of}
use Rattle.insn_parts.specs.Operands.{sign_number}
use Rattle.insn_parts.specs.Parts.{up}
use Rattle.encode_home.specs.declared.Filler.{Filler}
use Rattle.encode_home.specs.declared.Filler.TheVariants.{Manual, Zeros}
use Rattle.encode_home.specs.Table.{Put, drawn, number}
use Rattle.encode_home.specs.Home.{puts_of, put_all}
use Rattle.encode_home.specs.Word.{word_of}
use Rattle.encode_home.proofs.Puts.{all, disjoint}

-- what fills a field fits it
pub drawn_fits : (k : ℕ) (c : Filler) → ltb (number c drawn k) (2 ^ k) ≡ true
drawn_fits k Manual = lt-ltb (2 ^ k - 1) (2 ^ k) (omega (arith, pow_pos k))
drawn_fits k Zeros = lt-ltb 0 (2 ^ k) (pow_pos k)

-- what a put leaves of the other fields, and of its own
pub ruleset apart = (put_above, put_below, put_at, drawn_fits)

-- an accepted answer of w: these are its puts, and it leads back to w with them put in
abbrev pub Back : List Put → ℕ → Decoded → Type 0
Back ps w d = (refused_with d ≡ 0) × (puts_of (insn_in d) ≡ ps) × (word_of (insn_in d) ≡ put_all Zeros ps w)

-- a word of a group is refused at every address; or it is accepted at every address, and with its puts, which are near, it has the same answer
pub data Settles (near : Put → Bool) (of : ℕ → ℕ → Decoded) (w : ℕ) : Type 0 where
  refuses : ((addr : ℕ) → refused_with (of w addr) ≡ 0 → ⊥) → Settles near of w
  settles : (ps : List Put) → T (both (all near ps) (disjoint ps))
      → ((addr : ℕ) → ((c : Filler) → of (put_all c ps w) addr ≡ of w addr) × Back ps w (of w addr))
      → Settles near of w

-- by a row that ignores nothing
pub reads : {near : Put → Bool} {of : ℕ → ℕ → Decoded} {w : ℕ} → ((addr : ℕ) → Back [] w (of w addr)) → Settles near of w
reads back = settles [] tt (λ addr. (λ c. refl, back addr))

-- by the rows that tests lead to, with these puts and without
pub leads_by : {near : Put → Bool} {of : ℕ → ℕ → Decoded} {w : ℕ} (of' : ℕ → ℕ → Decoded) (ps : List Put) → T (both (all near ps) (disjoint ps))
    → ((c : Filler) (addr : ℕ) → of (put_all c ps w) addr ≡ of' (put_all c ps w) addr) → ((addr : ℕ) → of w addr ≡ of' w addr)
    → ((addr : ℕ) → ((c : Filler) → of' (put_all c ps w) addr ≡ of' w addr) × Back ps w (of' w addr)) → Settles near of w
leads_by {w = w} of' ps t to from given =
    settles ps t
    (λ addr. (λ c. to c addr ∙ (given addr).0 c ∙ sym (from addr), subst (λ (d : Decoded). Back ps w d) (sym (from addr)) (given addr).1))

-- with whatever puts are near
pub leads_to : {near : Put → Bool} {of of' : ℕ → ℕ → Decoded} {w : ℕ} → Settles near of' w
    → ((c : Filler) (ps : List Put) → T (all near ps) → (addr : ℕ) → of (put_all c ps w) addr ≡ of' (put_all c ps w) addr) → Settles near of w
leads_to (refuses never-ok) to = refuses (λ addr ok. never-ok addr (subst (λ (d : Decoded). refused_with d ≡ 0) (to Zeros [] tt addr) ok))
leads_to {near = near} {of' = of'} (settles ps t given) to =
    leads_by of' ps t (λ c. to c ps (left (all near ps) (disjoint ps) t)) (to Zeros [] tt) given

-- by whether a field has a value
pub by_value {ℓ} : {A : Type ℓ} (w lo k n : ℕ) → (field w lo k ≡ n → A) → (eqb (field w lo k) n ≡ false → A) → A
by_value w lo k n is other = by_test (eqb (field w lo k) n) (λ e. is (eqb-true _ n e)) other

-- a bit is set or clear
pub set_bit : (w n : ℕ) → eqb (field w n 1) 0 ≡ false → field w n 1 ≡ 1
set_bit w n e = from (eqb-false (field w n 1) 0 e)
  where
    from : (field w n 1 ≡ 0 → ⊥) → field w n 1 ≡ 1
    from h = omega (arith, small w n 1)

pub bit_cases {ℓ} : {A : Type ℓ} (w n : ℕ) → (field w n 1 ≡ 0 → A) → (field w n 1 ≡ 1 → A) → A
bit_cases w n off on = by_value w n 1 0 off (λ e. on (set_bit w n e))

-- and not both
pub never {ℓ} : {A : Type ℓ} {n : ℕ} → n ≡ 0 → n ≡ 1 → A
never off on = absurd (eqb-false 0 1 refl (sym off ∙ on))

-- a displacement without its sign
pub magnitude : (n : ℕ) → nat_abs (minus n) ≡ n
magnitude zero = refl
magnitude (suc n) = refl

-- one that is not 0 holds its magnitude and its sign, which is U
signed_parts : (down : Bool) (off : ℕ) → eqb off 0 ≡ false
    → (nat_abs (pick down (minus off) (pos off)) ≡ off) × (up (sign_number (pick down (minus off) (pos off))) ≡ pick down 0 1)
signed_parts down zero h = absurd (eqb-false 0 0 h refl)
signed_parts true (suc n) h = (refl, refl)
signed_parts false (suc n) h = (refl, refl)

pub signed_back : (w off : ℕ) → eqb off 0 ≡ false → (nat_abs (disp_of w off) ≡ off) × (up (sign_number (disp_of w off)) ≡ field w 23 1)
signed_back w off some =
    let apart-signs = signed_parts (eqb (field w 23 1) 0) off some in
    (apart-signs.0, apart-signs.1 ∙ bit_cases w 23 (λ u. simp u) (λ u. simp u))

-- an answer that is refused is not accepted
pub refusal {ℓ} : {A : Type ℓ} {n : ℕ} → suc n ≡ 0 → A
refusal {n = n} h = absurd (eqb-false (suc n) 0 (ap (λ (o : Ordering). compare_is_eq o) (compare.suc-zero n)) h)

-- a field of two bits, value by value
pub two_cases {ℓ} : {A : Type ℓ} (w lo : ℕ) → (field w lo 2 ≡ 0 → A) → (field w lo 2 ≡ 1 → A) → (field w lo 2 ≡ 2 → A) → (field w lo 2 ≡ 3 → A) → A
two_cases w lo a b c d =
    by_value w lo 2 0 a λ n0. by_value w lo 2 1 b λ n1. by_value w lo 2 2 c λ n2.
    d (last (eqb-false _ 0 n0) (eqb-false _ 1 n1) (eqb-false _ 2 n2))
  where
    last : (field w lo 2 ≡ 0 → ⊥) → (field w lo 2 ≡ 1 → ⊥) → (field w lo 2 ≡ 2 → ⊥) → field w lo 2 ≡ 3
    last x y z = omega (arith, small w lo 2)

-- a number from lo to hi, against another
module _ (lo hi n : ℕ) (from : leb lo n ≡ true) (to : leb n hi ≡ true) where
  pub starts : (k : ℕ) → leb k lo ≡ true → leb k n ≡ true
  starts k h = le-leb k n (omega (arith, leb-true k lo h, leb-true lo n from))

  pub ends : (k : ℕ) → leb hi k ≡ true → leb n k ≡ true
  ends k h = le-leb n k (omega (arith, leb-true hi k h, leb-true n hi to))

  pub over : (k : ℕ) → ltb k lo ≡ true → leb n k ≡ false
  over k h = lt-leb n k (omega (arith, ltb-true k lo h, leb-true lo n from))

  pub under : (k : ℕ) → ltb hi k ≡ true → leb k n ≡ false
  under k h = lt-leb k n (omega (arith, ltb-true hi k h, leb-true n hi to))

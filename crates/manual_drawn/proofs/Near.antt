-- A word and its home word differ where something is put. Assumes nothing.
use mathlib.Core.Path.{◌≡◌, refl, sym, ap, ◌∙◌}
use Rattle.word.specs.Refusal.{refused_with}
use mathlib.Core.Bool.{Bool, true, false}
use mathlib.Core.List.{List, [], ◌∷◌, ◌++◌}
use Prim.Native.Nat.{ℕ, ◌+◌, ◌^◌, ◌≤◌}
use native.Mathlib.Omega.{arith}
use borrow.Author.Tests.{eqb-true, leb-true, le-leb}
use lib.Dec.{T, eqb, leb, ltb}
use Rattle.word.specs.Choice.{pick, both, by_test, passes, parts}
use Rattle.word.specs.Every.{left, right}
use Rattle.word.specs.Field.{field, put, put_above, put_below}
use Rattle.insn.specs.Answer.{Decoded, insn_in}
use Rattle.encode_home.specs.declared.Filler.{Filler}
use Rattle.encode_home.specs.Home.{puts_of, put_all}
use Rattle.encode_home.specs.Table.{Fill, clear, set, drawn, Put, value}
use Rattle.encode_home.proofs.Puts.{all}
use Rattle.manual.proofs.Fields.{no_true}

-- two words that have the same fields above hi, and below lo
abbrev pub Near : ℕ → ℕ → ℕ → ℕ → Type 0
Near lo hi w v =
    ((at k : ℕ) → leb hi at ≡ true → field v at k ≡ field w at k) × ((at k : ℕ) → leb (at + k) lo ≡ true → field v at k ≡ field w at k)

pub near_back : (lo hi w v : ℕ) → Near lo hi w v → Near lo hi v w
near_back lo hi w v (above, below) = (λ at k g. sym (above at k g), λ at k g. sym (below at k g))

-- a put between lo and hi
abbrev pub within : Filler → ℕ → ℕ → Put → Bool
within c lo hi p = both (ltb (value c p) (2 ^ p.width)) (both (leb lo p.lo) (leb (p.lo + p.width) hi))

module _ (c : Filler) (lo hi : ℕ) where
  one_put : (p : Put) → T (within c lo hi p) → (w : ℕ) → Near lo hi w (put w p.lo p.width (value c p))
  one_put p t w = (
    λ at k g. put_above w p.lo p.width (value c p) fits at k (le-leb (p.lo + p.width) at (omega (arith, ends, leb-true hi at g))),
    λ at k g. put_below w p.lo p.width (value c p) fits at k (le-leb (at + k) p.lo (omega (arith, starts, leb-true (at + k) lo g))),
  )
    where
      fits : ltb (value c p) (2 ^ p.width) ≡ true
      fits = passes _ (left (ltb (value c p) (2 ^ p.width)) _ t)

      starts : lo ≤ p.lo
      starts = leb-true lo p.lo (passes _ (left (leb lo p.lo) _ (right (ltb (value c p) (2 ^ p.width)) _ t)))

      ends : p.lo + p.width ≤ hi
      ends = leb-true (p.lo + p.width) hi (passes _ (right (leb lo p.lo) _ (right (ltb (value c p) (2 ^ p.width)) _ t)))

  pub near_put : (ps : List Put) → T (all (within c lo hi) ps) → (w : ℕ) → Near lo hi w (put_all c ps w)
  near_put [] t w = (λ at k g. refl, λ at k g. refl)
  near_put (p ∷ ps) t w =
      let first = one_put p (left (within c lo hi p) (all (within c lo hi) ps) t) w in
      let rest = near_put ps (right (within c lo hi p) (all (within c lo hi) ps) t) (put w p.lo p.width (value c p)) in
      (λ at k g. rest.0 at k g ∙ first.0 at k g, λ at k g. rest.1 at k g ∙ first.1 at k g)

-- puts that are made by a test
pub gathers : (f : Put → Bool) (b : Bool) (ps qs : List Put) → all f (pick b ps [] ++ qs) ≡ both (pick b (all f ps) true) (all f qs)
gathers f true [] qs = refl
gathers f true (p ∷ ps) qs = by_test (f p) (λ e. simp e (gathers f true ps qs)) (λ e. simp e)
gathers f false ps qs = refl

-- two lists of puts are the same, by a test
abbrev fill_number : Fill → ℕ
fill_number clear = 0
fill_number set = 1
fill_number drawn = 2

same_fill : (f g : Fill) → eqb (fill_number f) (fill_number g) ≡ true → f ≡ g
same_fill clear clear e = refl
same_fill set set e = refl
same_fill drawn drawn e = refl
same_fill clear set e = absurd (no_true (sym e))
same_fill clear drawn e = absurd (no_true (sym e))
same_fill set clear e = absurd (no_true (sym e))
same_fill set drawn e = absurd (no_true (sym e))
same_fill drawn clear e = absurd (no_true (sym e))
same_fill drawn set e = absurd (no_true (sym e))

abbrev same_put : Put → Put → Bool
same_put p q = both (eqb p.lo q.lo) (both (eqb p.width q.width) (eqb (fill_number p.fill) (fill_number q.fill)))

same_put_lem : (p q : Put) → same_put p q ≡ true → p ≡ q
same_put_lem p q e =
    let (lo, rest) = parts (eqb p.lo q.lo) _ e in
    let (width, fill) = parts (eqb p.width q.width) (eqb (fill_number p.fill) (fill_number q.fill)) rest in
    ap (λ (x : ℕ). put_of x p.width p.fill) (eqb-true p.lo q.lo lo)
    ∙ ap (λ (x : ℕ). put_of q.lo x p.fill) (eqb-true p.width q.width width)
    ∙ ap (λ (x : Fill). put_of q.lo q.width x) (same_fill p.fill q.fill fill)
  where
    put_of : ℕ → ℕ → Fill → Put
    put_of lo width fill = record { lo = lo; width = width; fill = fill }

abbrev same_puts : List Put → List Put → Bool
same_puts [] [] = true
same_puts [] (q ∷ qs) = false
same_puts (p ∷ ps) [] = false
same_puts (p ∷ ps) (q ∷ qs) = both (same_put p q) (same_puts ps qs)

same_puts_lem : (ps qs : List Put) → T (same_puts ps qs) → ps ≡ qs
same_puts_lem [] [] t = refl
same_puts_lem [] (q ∷ qs) t = absurd t
same_puts_lem (p ∷ ps) [] t = absurd t
same_puts_lem (p ∷ ps) (q ∷ qs) t =
    ap (λ (x : Put). x ∷ ps) (same_put_lem p q (passes _ (left (same_put p q) (same_puts ps qs) t)))
    ∙ ap (λ (xs : List Put). q ∷ xs) (same_puts_lem ps qs (right (same_put p q) (same_puts ps qs) t))

-- an answer that is accepted puts these
abbrev pub puts_by : List Put → Decoded → Bool
puts_by ps d = pick (eqb (refused_with d) 0) (same_puts (puts_of (insn_in d)) ps) true

pub puts_by_lem : (ps : List Put) (d : Decoded) → T (puts_by ps d) → refused_with d ≡ 0 → puts_of (insn_in d) ≡ ps
puts_by_lem ps d t ok = same_puts_lem (puts_of (insn_in d)) ps (simp ok at t)

-- What the puts of an entry leave of a word: each of the table's fits its field and lies below the condition, by one test over the table. Assumes
-- nothing.
use mathlib.Core.Path.{◌≡◌, refl, sym, ap, ◌∙◌, subst}
use mathlib.Core.Bool.{Bool, true, false, not}
use mathlib.Core.List.{List, [], ◌∷◌, ◌++◌}
use Prim.Native.Nat.{ℕ, ◌+◌, ◌-◌, ◌^◌, ◌<◌, ◌≤◌}
use native.Mathlib.Omega.{arith}
use borrow.Author.Tests.{leb-true, leb-false, le-leb}
use lib.Dec.{T, leb, ltb}
use lib.ListN.{replicate}
use Rattle.word.specs.Choice.{pick, both, by_test, tested, passes, parts}
use Rattle.word.specs.Every.{left, right}
use Rattle.word.specs.Field.{field, put, put_above, put_below, put_at, put_within, put_small, within}
use Rattle.word.specs.Layout.{fields, join, total, whole}
use Rattle.insn.specs.declared.Insn.{Insn}
use Rattle.encode_home.specs.Alike.{Alike}
use Rattle.encode_home.specs.declared.Filler.{Filler}
use Rattle.encode_home.specs.declared.Filler.TheVariants.{Manual, Zeros}
use Rattle.encode_home.specs.Table.{Fill, clear, set, drawn, number, Put, value, Entry, table}
use Rattle.encode_home.specs.Home.{gathered, puts_of, put_all, is_drawn, drawn_of}

abbrev pub all : (Put → Bool) → List Put → Bool
all f [] = true
all f (p ∷ ps) = both (f p) (all f ps)

abbrev pub good : Put → Bool
good p = both (both (ltb (value Manual p) (2 ^ p.width)) (ltb (value Zeros p) (2 ^ p.width))) (leb (p.lo + p.width) 28)

-- what holds of the puts of every entry, but for those that are not about an answer, holds of those that are gathered
abbrev pub everywhere : (Put → Bool) → Insn → List Entry → Bool
everywhere f i [] = true
everywhere f i (entry ∷ entries) = both (pick (all f entry.puts) true (not (entry.about i))) (everywhere f i entries)

and : (a b : Bool) → T a → T b → T (both a b)
and true b t u = u
and false b t u = t

joined : (f : Put → Bool) (ps qs : List Put) → T (all f ps) → T (all f qs) → T (all f (ps ++ qs))
joined f [] qs t u = u
joined f (p ∷ ps) qs t u = and (f p) (all f (ps ++ qs)) (left (f p) (all f ps) t) (joined f ps qs (right (f p) (all f ps) t) u)

of_gathered : (f : Put → Bool) (i : Insn) (entries : List Entry) → T (everywhere f i entries) → T (all f (gathered i entries))
of_gathered f i [] t = tt
of_gathered f i (entry ∷ entries) t =
    joined f (pick (entry.about i) entry.puts []) (gathered i entries)
    (tested (λ (ps : List Put). T (all f ps)) (entry.about i) here (λ other. tt))
    (of_gathered f i entries (right passed (everywhere f i entries) t))
  where
    passed : Bool
    passed = pick (all f entry.puts) true (not (entry.about i))

    here : entry.about i ≡ true → T (all f entry.puts)
    here about =
        by_test (all f entry.puts) (λ e. subst T (sym e) tt) (λ e. absurd (simp (e, about) at (left passed (everywhere f i entries) t)))

pub all_good : (i : Insn) → T (all good (puts_of i))
all_good i = unfold puts_of in of_gathered good i table tt

-- a put that is good
abbrev fit : Put → Bool
fit p = both (ltb (value Manual p) (2 ^ p.width)) (ltb (value Zeros p) (2 ^ p.width))

fits : (c : Filler) (p : Put) → T (good p) → ltb (value c p) (2 ^ p.width) ≡ true
fits Manual p t = passes _ (left (ltb (value Manual p) (2 ^ p.width)) _ (left (fit p) _ t))
fits Zeros p t = passes _ (right (ltb (value Manual p) (2 ^ p.width)) _ (left (fit p) _ t))

below : (p : Put) → T (good p) → leb (p.lo + p.width) 28 ≡ true
below p t = passes _ (right (fit p) (leb (p.lo + p.width) 28) t)

-- a put in 19:8 or in 3:0, which leaves 31:20 and 7:4 as they were
abbrev pub low : Put → Bool
low p = both (good p) (pick (leb (p.lo + p.width) 4) true (both (leb 8 p.lo) (leb (p.lo + p.width) 20)))

-- a put in 23:20, which leaves 31:24 and 19:0 as they were
abbrev pub high : Put → Bool
high p = both (good p) (both (leb 20 p.lo) (leb (p.lo + p.width) 24))

module _ (c : Filler) where
  abbrev put_in : ℕ → Put → ℕ
  put_in w p = put w p.lo p.width (value c p)

  pub put_all_small : (ps : List Put) → T (all good ps) → {w : ℕ} → w < 2 ^ 32 → put_all c ps w < 2 ^ 32
  put_all_small [] t bound = bound
  put_all_small (p ∷ ps) t {w} bound =
      let is : T (good p) = left (good p) (all good ps) t in
      put_all_small ps (right (good p) (all good ps) t)
      (put_small w p.lo p.width (value c p) 32 (fits c p is) (le-leb (p.lo + p.width) 32
      (omega (arith, leb-true (p.lo + p.width) 28 (below p is)))) bound)

  -- two words that differ in the condition alone still do with the same puts in both
  pub put_all_alike : (ps : List Put) → T (all good ps) → (w v : ℕ) → Alike w v → Alike (put_all c ps w) (put_all c ps v)
  put_all_alike [] t w v alike = alike
  put_all_alike (p ∷ ps) t w v alike =
      let is : T (good p) = left (good p) (all good ps) t in
      put_all_alike ps (right (good p) (all good ps) t) _ _
      (put_within w p.lo p.width (value c p) 28 (fits c p is) (below p is)
      ∙ ap (λ (x : ℕ). put x p.lo p.width (value c p)) alike
      ∙ sym (put_within v p.lo p.width (value c p) 28 (fits c p is) (below p is)))

  module _ (w : ℕ) (p : Put) (t : T (low p)) (lo k : ℕ) where
    is_good : T (good p)
    is_good = left (good p) _ t

    -- it ends below bit 4, or lies from bit 8 on and ends below bit 20
    sides {ℓ} : {A : Type ℓ} → (leb (p.lo + p.width) 4 ≡ true → A) → (leb 8 p.lo ≡ true → leb (p.lo + p.width) 20 ≡ true → A) → A
    sides below above =
        by_test (leb (p.lo + p.width) 4) below
        (λ e. above (passes _ (left (leb 8 p.lo) (leb (p.lo + p.width) 20) (rest e))) (passes _ (right (leb 8 p.lo) (leb (p.lo + p.width) 20)
        (rest e))))
      where
        rest : leb (p.lo + p.width) 4 ≡ false → T (both (leb 8 p.lo) (leb (p.lo + p.width) 20))
        rest e = subst (λ (b : Bool). T (pick b true (both (leb 8 p.lo) (leb (p.lo + p.width) 20)))) e (right (good p) _ t)

    over : leb (p.lo + p.width) lo ≡ true → field (put_in w p) lo k ≡ field w lo k
    over = put_above w p.lo p.width (value c p) (fits c p is_good) lo k

    one_upper : leb 20 lo ≡ true → field (put_in w p) lo k ≡ field w lo k
    one_upper upper =
        sides
        (λ h. over (le-leb _ lo (omega (arith, leb-true (p.lo + p.width) 4 h, leb-true 20 lo upper))))
        (λ g h. over (le-leb _ lo (omega (arith, leb-true (p.lo + p.width) 20 h, leb-true 20 lo upper))))

    one_middle : leb 4 lo ≡ true → leb (lo + k) 8 ≡ true → field (put_in w p) lo k ≡ field w lo k
    one_middle from to =
        sides
        (λ h. over (le-leb _ lo (omega (arith, leb-true (p.lo + p.width) 4 h, leb-true 4 lo from))))
        (λ g h. put_below w p.lo p.width (value c p) (fits c p is_good) lo k (le-leb _ p.lo
        (omega (arith, leb-true 8 p.lo g, leb-true (lo + k) 8 to))))

  -- what each put leaves as it was, all leave so
  kept : (f : Put → Bool) (lo k : ℕ) → ((w : ℕ) (p : Put) → T (f p) → field (put w p.lo p.width (value c p)) lo k ≡ field w lo k)
      → (ps : List Put) → T (all f ps) → (w : ℕ) → field (put_all c ps w) lo k ≡ field w lo k
  kept f lo k one [] t w = refl
  kept f lo k one (p ∷ ps) t w = kept f lo k one ps (right (f p) (all f ps) t) _ ∙ one w p (left (f p) (all f ps) t)

  pub keeps_condition : (ps : List Put) → T (all good ps) → (w : ℕ) → field (put_all c ps w) 28 4 ≡ field w 28 4
  keeps_condition = kept good 28 4 (λ w p t. put_above w p.lo p.width (value c p) (fits c p t) 28 4 (below p t))

  module _ (lo k : ℕ) where
    pub keeps_upper : leb 20 lo ≡ true → (ps : List Put) → T (all low ps) → (w : ℕ) → field (put_all c ps w) lo k ≡ field w lo k
    keeps_upper upper = kept low lo k (λ w p t. one_upper w p t lo k upper)

    pub keeps_middle : leb 4 lo ≡ true → leb (lo + k) 8 ≡ true → (ps : List Put) → T (all low ps) → (w : ℕ) → field (put_all c ps w) lo k ≡ field w lo k
    keeps_middle from to = kept low lo k (λ w p t. one_middle w p t lo k from to)

  module _ (lo k : ℕ) where
    pub keeps_top : leb 24 lo ≡ true → (ps : List Put) → T (all high ps) → (w : ℕ) → field (put_all c ps w) lo k ≡ field w lo k
    keeps_top top = kept high lo k one
      where
        one : (w : ℕ) (p : Put) → T (high p) → field (put w p.lo p.width (value c p)) lo k ≡ field w lo k
        one w p t =
            let ends : leb (p.lo + p.width) 24 ≡ true = passes _ (right (leb 20 p.lo) _ (right (good p) _ t)) in
            put_above w p.lo p.width (value c p) (fits c p (left (good p) _ t)) lo k
            (le-leb _ lo (omega (arith, leb-true (p.lo + p.width) 24 ends, leb-true 24 lo top)))

    pub keeps_bottom : leb (lo + k) 20 ≡ true → (ps : List Put) → T (all high ps) → (w : ℕ) → field (put_all c ps w) lo k ≡ field w lo k
    keeps_bottom bottom = kept high lo k one
      where
        one : (w : ℕ) (p : Put) → T (high p) → field (put w p.lo p.width (value c p)) lo k ≡ field w lo k
        one w p t =
            let starts : leb 20 p.lo ≡ true = passes _ (left (leb 20 p.lo) _ (right (good p) _ t)) in
            put_below w p.lo p.width (value c p) (fits c p (left (good p) _ t)) lo k
            (le-leb _ p.lo (omega (arith, leb-true 20 p.lo starts, leb-true (lo + k) 20 bottom)))

  -- a word with its puts is the join of its fields
  pub laid : (ks : List ℕ) (ps : List Put) → T (all good ps) → (w : ℕ) → w < 2 ^ 32 → total ks ≡ 32 → join ks (fields 0 ks (put_all c ps w)) ≡ put_all c ps w
  laid ks ps t w bound is = whole ks (put_all c ps w) (subst (λ (n : ℕ). put_all c ps w < 2 ^ n) (sym is) (put_all_small ps t bound))

-- puts over puts: what was put before is gone
abbrev bit : ℕ → ℕ → ℕ
bit w n = field w n 1

abbrev pub off : Put → ℕ → Bool
off p n = pick (leb (p.lo + p.width) n) true (leb (n + 1) p.lo)

abbrev outside : List Put → ℕ → Bool
outside ps n = all (λ (p : Put). off p n) ps

covers : (p : Put) (n : ℕ) → off p n ≡ false → (n < p.lo + p.width) × (p.lo < n + 1)
covers p n is =
    by_test (leb (p.lo + p.width) n)
    (λ above. absurd (no_true (sym is ∙ simp above)))
    (λ below. by_test (leb (n + 1) p.lo)
    (λ under. absurd (no_true (sym is ∙ simp (below, under))))
    (λ over. (leb-false (p.lo + p.width) n below, leb-false (n + 1) p.lo over)))
  where
    no_true : false ≡ true → ⊥
    no_true e = subst T (sym e) tt

module _ (c : Filler) (p : Put) (t : T (good p)) (n : ℕ) where
  -- a bit that a put leaves
  left_alone : off p n ≡ true → (w : ℕ) → bit (put_in c w p) n ≡ bit w n
  left_alone is w =
      by_test (leb (p.lo + p.width) n)
      (λ above. put_above w p.lo p.width (value c p) (fits c p t) n 1 above)
      (λ other. put_below w p.lo p.width (value c p) (fits c p t) n 1 (simp other at is))

  -- and one that it sets or clears, whatever was there
  put_there : off p n ≡ false → (w : ℕ) → bit (put_in c w p) n ≡ bit (value c p) (n - p.lo)
  put_there is w = inside (covers p n is)
    where
      inside : (n < p.lo + p.width) × (p.lo < n + 1) → bit (put_in c w p) n ≡ bit (value c p) (n - p.lo)
      inside (x, y) =
          ap (λ (m : ℕ). bit (put_in c w p) m) {x = n} {y = p.lo + (n - p.lo)} (omega arith)
          ∙ sym (within (put_in c w p) p.lo p.width (n - p.lo) 1 (le-leb (n - p.lo + 1) p.width (omega arith)))
          ∙ ap (λ (v : ℕ). bit v (n - p.lo)) (put_at w p.lo p.width (value c p) (fits c p t))

module _ (c : Filler) (n : ℕ) where
  -- bits that no put covers stay
  kept_bit : (ps : List Put) → T (all good ps) → outside ps n ≡ true → (w : ℕ) → bit (put_all c ps w) n ≡ bit w n
  kept_bit [] t is w = refl
  kept_bit (p ∷ ps) t is w =
      kept_bit ps (right (good p) (all good ps) t) (parts (off p n) (outside ps n) is).1 (put_in c w p)
      ∙ left_alone c p (left (good p) (all good ps) t) n (parts (off p n) (outside ps n) is).0 w

  -- and the others are those of the last put, whatever was there
  same_bit : (ps : List Put) → T (all good ps) → (x y : ℕ) → (outside ps n ≡ true → bit x n ≡ bit y n) → bit (put_all c ps x) n ≡ bit (put_all c ps y) n
  same_bit [] t x y agree = agree refl
  same_bit (p ∷ ps) t x y agree =
      same_bit ps (right (good p) (all good ps) t) (put_in c x p) (put_in c y p) (λ out. by_test (off p n)
      (λ alone. left_alone c p is n alone x ∙ agree (simp (alone, out)) ∙ sym (left_alone c p is n alone y))
      (λ there. put_there c p is n there x ∙ sym (put_there c p is n there y)))
    where
      is : T (good p)
      is = left (good p) (all good ps) t

-- a bit into which no entry about an answer puts anything is the same in its home word
pub untouched : (c : Filler) (n : ℕ) (i : Insn) (w : ℕ) → everywhere (λ (p : Put). off p n) i table ≡ true
    → field (put_all c (puts_of i) w) n 1 ≡ field w n 1
untouched c n i w is =
    kept_bit c n (puts_of i) (all_good i)
    (passes _ (unfold puts_of in of_gathered (λ (p : Put). off p n) i table (subst T (sym is) tt))) w

-- a word is its bits
by_bits : (x y : ℕ) → x < 2 ^ 32 → y < 2 ^ 32 → ((n : ℕ) → bit x n ≡ bit y n) → x ≡ y
by_bits x y small small' alike = sym (simp alike at (whole ones x small)) ∙ whole ones y small'
  where
    ones : List ℕ
    ones = replicate 32 1

-- puts of which no two cover the same bit
abbrev between : Put → Put → Bool
between p q = pick (leb (p.lo + p.width) q.lo) true (leb (q.lo + q.width) p.lo)

abbrev pub disjoint : List Put → Bool
disjoint [] = true
disjoint (p ∷ ps) = both (all (between p) ps) (disjoint ps)

-- a bit of one is outside of the others
clear_of : (p : Put) (n : ℕ) → off p n ≡ false → (ps : List Put) → T (all (between p) ps) → outside ps n ≡ true
clear_of p n here [] t = refl
clear_of p n here (q ∷ qs) t = rw (aside (left (between p q) (all (between p) qs) t), clear_of p n here qs (right (between p q) (all (between p) qs) t))
  where
    aside : T (between p q) → off q n ≡ true
    aside apart =
        by_test (leb (q.lo + q.width) n) (λ above. simp above) (λ other. simp other (le-leb (n + 1) q.lo (under other (covers p n here) apart)))
      where
        under : leb (q.lo + q.width) n ≡ false → (n < p.lo + p.width) × (p.lo < n + 1) → T (between p q) → n + 1 ≤ q.lo
        under other (x, y) is =
            by_test (leb (p.lo + p.width) q.lo)
            (λ first. omega (arith, leb-true (p.lo + p.width) q.lo first))
            (λ last. let above : q.lo + q.width ≤ p.lo = leb-true (q.lo + q.width) p.lo (passes _ (simp last at is)) in
            omega (arith, leb-false (q.lo + q.width) n other))

pub drawn_all : (f : Put → Bool) (ps : List Put) → T (all f ps) → T (all f (drawn_of ps))
drawn_all f [] t = tt
drawn_all f (p ∷ ps) t =
    tested (λ (qs : List Put). T (all f qs)) (is_drawn p.fill)
    (λ is. and (f p) (all f (drawn_of ps)) (left (f p) (all f ps) t) (drawn_all f ps (right (f p) (all f ps) t)))
    (λ other. drawn_all f ps (right (f p) (all f ps) t))

-- a put that is not drawn is the same under either filler
undrawn : (p : Put) → is_drawn p.fill ≡ false → value Zeros p ≡ value Manual p
undrawn p is = by_fill p.fill is
  where
    by_fill : (f : Fill) → is_drawn f ≡ false → number Zeros f p.width ≡ number Manual f p.width
    by_fill clear e = refl
    by_fill set e = refl
    by_fill drawn e = absurd (subst T e tt)

-- under the manual's filler: zeros first, and then what is drawn
module _ (n : ℕ) where
  refilled_bit : (ps : List Put) → T (all good ps) → T (disjoint ps) → (x y : ℕ) → (outside ps n ≡ true → bit x n ≡ bit y n)
      → bit (put_all Manual (drawn_of ps) (put_all Zeros ps x)) n ≡ bit (put_all Manual ps y) n
  refilled_bit [] t apart x y agree = agree refl
  refilled_bit (p ∷ ps) t apart x y agree =
      by_test (is_drawn p.fill)
      (λ is. simp is (by_test (off p n) (beside (refilled_bit ps rest rest_apart (put_in Zeros x p) (put_in Manual y p))) covered))
      (λ other. simp other (refilled_bit ps rest rest_apart (put_in Zeros x p) (put_in Manual y p) (λ out. by_test (off p n)
      (alike Zeros out)
      (λ here. put_there Zeros p is_good n here x ∙ ap (λ (v : ℕ). bit v (n - p.lo)) (undrawn p other) ∙ sym (put_there Manual p is_good n here y)))))
    where
      is_good : T (good p)
      is_good = left (good p) (all good ps) t

      rest : T (all good ps)
      rest = right (good p) (all good ps) t

      rest_apart : T (disjoint ps)
      rest_apart = right (all (between p) ps) (disjoint ps) apart

      zeroed : ℕ
      zeroed = put_all Zeros ps (put_in Zeros x p)

      alike : (c : Filler) → outside ps n ≡ true → off p n ≡ true → bit (put_in c x p) n ≡ bit (put_in Manual y p) n
      alike c out alone = left_alone c p is_good n alone x ∙ agree (simp (alone, out)) ∙ sym (left_alone Manual p is_good n alone y)

      beside : ((outside ps n ≡ true → bit (put_in Zeros x p) n ≡ bit (put_in Manual y p) n)
          → bit (put_all Manual (drawn_of ps) zeroed) n ≡ bit (put_all Manual ps (put_in Manual y p)) n)
          → off p n ≡ true → bit (put_all Manual (drawn_of ps) (put_in Manual zeroed p)) n ≡ bit (put_all Manual ps (put_in Manual y p)) n
      beside further alone =
          same_bit Manual n (drawn_of ps) (drawn_all good ps rest) (put_in Manual zeroed p) zeroed (λ out. left_alone Manual p is_good n alone zeroed)
          ∙ further (λ out. alike Zeros out alone)

      covered : off p n ≡ false → bit (put_all Manual (drawn_of ps) (put_in Manual zeroed p)) n ≡ bit (put_all Manual ps (put_in Manual y p)) n
      covered here =
          let others : T (all (between p) ps) = left (all (between p) ps) (disjoint ps) apart in
          kept_bit Manual n (drawn_of ps) (drawn_all good ps rest) (clear_of p n here (drawn_of ps) (drawn_all (between p) ps others)) (put_in Manual zeroed p)
          ∙ put_there Manual p is_good n here zeroed
          ∙ sym (put_there Manual p is_good n here y)
          ∙ sym (kept_bit Manual n ps rest (clear_of p n here ps others) (put_in Manual y p))

pub refilled : (ps : List Put) → T (all good ps) → T (disjoint ps) → (w : ℕ) → w < 2 ^ 32
    → put_all Manual (drawn_of ps) (put_all Zeros ps w) ≡ put_all Manual ps w
refilled ps t apart w bound =
    by_bits _ _ (put_all_small Manual (drawn_of ps) (drawn_all good ps t) (put_all_small Zeros ps t bound)) (put_all_small Manual ps t bound)
    (λ n. refilled_bit n ps t apart w w (λ out. refl))

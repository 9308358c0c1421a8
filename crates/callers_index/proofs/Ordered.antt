-- A list in order is determined by what it holds; inserting and removing keep the order. Assumes nothing.
use Rattle.std.specs.Prelude.{Option, Some, None}
use mathlib.Core.Path.{◌≡◌, refl, sym, ap, subst, ◌∙◌}
use mathlib.Core.Bool.{false}
use mathlib.Core.List.{List, [], ◌∷◌}
use mathlib.Core.Logic.{◌⊎◌, inl, inr, ⊎_elim}
use Prim.Native.Nat.{ℕ, ◌<◌}
use native.Mathlib.Omega.{arith}
use borrow.Author.Tests.{eqb-true, eqb-false, ltb-true, ltb-false, eq-eqb, ne_eqb, lt-ltb}
use lib.Dec.{eqb}
use Rattle.word.specs.Choice.{by_test}
use Rattle.callers_index.specs.Entries.{is_before, insert_of, enter_of, remove_of, update_of}
use Rattle.callers_index.specs.Ordered.{Before, In, Ordered}
use Rattle.callers_index.specs.declared.Entry.{Entry}

-- the order on numbers
abbrev Less : Entry → Entry → Type 0
Less e f = (e.target < f.target) ⊎ ((e.target ≡ f.target) × (e.caller < f.caller))

tells : (e f : Entry) → Before e f → Less e f
tells e f b =
    by_test (eqb e.target f.target)
    (λ same. inr (eqb-true e.target f.target same, ltb-true e.caller f.caller (simp same at b)))
    (λ apart. inl (ltb-true e.target f.target (simp apart at b)))

told : (e f : Entry) → Less e f → Before e f
told e f (inl h) = simp (ne_eqb e.target f.target (λ same. let z : ⊥ = omega arith in z), lt-ltb e.target f.target h)
told e f (inr h) = simp (eq-eqb e.target f.target h.0, lt-ltb e.caller f.caller h.1)

never : (e : Entry) → Before e e → ⊥
never e b = ⊎_elim (λ (h : e.target < e.target). omega arith) (λ (h : (e.target ≡ e.target) × (e.caller < e.caller)). omega arith) (tells e e b)

then_before : (e f g : Entry) → Before e f → Before f g → Before e g
then_before e f g b d = told e g (joined (tells e f b) (tells f g d))
  where
    joined : Less e f → Less f g → Less e g
    joined (inl h) (inl k) = inl (omega arith)
    joined (inl h) (inr k) = inl (omega arith)
    joined (inr h) (inl k) = inl (omega arith)
    joined (inr h) (inr k) = inr (h.0 ∙ k.0, omega arith)

pub same_entry : {e f : Entry} → e.target ≡ f.target → e.caller ≡ f.caller → e ≡ f
same_entry {e} {f} p q = ap (λ (n : ℕ). record { target = n; caller = e.caller }) p ∙ ap (λ (n : ℕ). record { target = f.target; caller = n }) q

-- one that does not come before another, and is another, comes after it
other_way : (e f : Entry) → is_before e f ≡ false → (e ≡ f) ⊎ Before f e
other_way e f b =
    by_test (eqb e.target f.target)
    (λ same.
    let p = eqb-true e.target f.target same in
    let h = ltb-false e.caller f.caller (simp same at b) in
    by_test (eqb e.caller f.caller)
    (λ equal. inl (same_entry p (eqb-true e.caller f.caller equal)))
    (λ apart. inr (told f e (inr (sym p, omega (arith, eqb-false e.caller f.caller apart))))))
    (λ apart.
    inr (told f e (inl (omega (arith, ltb-false e.target f.target (simp apart at b), eqb-false e.target f.target apart)))))

-- two lists in order that hold the same: their first entries are the same, and what stands after it in one stands so in the other
first : (x y : Entry) (l m : List Entry) → Ordered (x ∷ l) → Ordered (y ∷ m) → In x (y ∷ m) → In y (x ∷ l) → x ≡ y
first x y l m o p (inl e) j = e
first x y l m o p (inr i) (inl e) = sym e
first x y l m o p (inr i) (inr j) = absurd (never x (then_before x y x (o.0 y j) (p.0 x i)))

rest : (x y : Entry) (l m : List Entry) → x ≡ y → ((e : Entry) → In e l → Before x e) → ((e : Entry) → In e (x ∷ l) → In e (y ∷ m))
    → (e : Entry) → In e l → In e m
rest x y l m same after there e i =
    ⊎_elim (λ (is : e ≡ y). absurd (never x (subst (Before x) (is ∙ sym same) (after e i)))) (λ (j : In e m). j) (there e (inr i))

-- so they are the same
pub same_list : (l m : List Entry) → Ordered l → Ordered m → ((e : Entry) → In e l → In e m) → ((e : Entry) → In e m → In e l) → l ≡ m
same_list [] [] o p there back = refl
same_list [] (y ∷ m) o p there back = absurd (back y (inl refl))
same_list (x ∷ l) [] o p there back = absurd (there x (inl refl))
same_list (x ∷ l) (y ∷ m) o p there back =
    let same = first x y l m o p (there x (inl refl)) (back y (inl refl)) in
    let others = same_list l m o.1 p.1 (rest x y l m same o.0 there) (rest y x m l (sym same) p.0 back) in
    ap (λ (z : Entry). z ∷ l) same ∙ ap (λ (k : List Entry). y ∷ k) others

-- inserting
module _ (e : Entry) where
  pub insert_holds : (l : List Entry) (g : Entry) → (g ≡ e) ⊎ In g l → In g (insert_of e l)
  insert_holds [] g i = i
  insert_holds (f ∷ l) g i =
      by_test (is_before e f)
      (λ b. simp b i)
      (λ b. simp b (⊎_elim
      (λ (same : g ≡ e). inr (insert_holds l g (inl same)))
      (λ (j : (g ≡ f) ⊎ In g l). ⊎_elim (λ (same : g ≡ f). inl same) (λ (k : In g l). inr (insert_holds l g (inr k))) j)
      i))

  pub insert_only : (l : List Entry) (g : Entry) → In g (insert_of e l) → (g ≡ e) ⊎ In g l
  insert_only [] g i = i
  insert_only (f ∷ l) g i =
      by_test (is_before e f)
      (λ b. simp b at i)
      (λ b. ⊎_elim
      (λ (same : g ≡ f). inr (inl same))
      (λ (j : In g (insert_of e l)). ⊎_elim (λ (same : g ≡ e). inl same) (λ (k : In g l). inr (inr k)) (insert_only l g j))
      (simp b at i))

  pub insert_ordered : (l : List Entry) → Ordered l → (In e l → ⊥) → Ordered (insert_of e l)
  insert_ordered [] o new = (λ f i. absurd i, tt)
  insert_ordered (f ∷ l) o new =
      by_test (is_before e f)
      (λ b. simp b (λ g i. ⊎_elim (λ (is : g ≡ f). rw is b) (λ (j : In g l). then_before e f g b (o.0 g j)) i, o))
      (λ b.
      let after : Before f e = ⊎_elim (λ (same : e ≡ f). absurd (new (inl same))) (λ (d : Before f e). d) (other_way e f b) in
      simp b (
        λ g i. ⊎_elim (λ (is : g ≡ e). rw is after) (λ (j : In g l). o.0 g j) (insert_only l g i),
        insert_ordered l o.1 (λ i. new (inr i)),
      ))

-- removing
module _ (caller : ℕ) where
  abbrev pub Other : Entry → Type 0
  Other g = g.caller ≡ caller → ⊥

  pub remove_only : (l : List Entry) (g : Entry) → In g (remove_of caller l) → In g l × Other g
  remove_only [] g i = absurd i
  remove_only (f ∷ l) g i =
      by_test (eqb f.caller caller)
      (λ b. let found = remove_only l g (simp b at i) in (inr found.0, found.1))
      (λ b. ⊎_elim
      (λ (is : g ≡ f). (inl is, λ own. eqb-false f.caller caller b (sym (ap (λ (x : Entry). x.caller) is) ∙ own)))
      (λ (j : In g (remove_of caller l)). let found = remove_only l g j in (inr found.0, found.1))
      (simp b at i))

  pub remove_holds : (l : List Entry) (g : Entry) → In g l → Other g → In g (remove_of caller l)
  remove_holds [] g i other = i
  remove_holds (f ∷ l) g i other =
      by_test (eqb f.caller caller)
      (λ b. simp b (⊎_elim
      (λ (is : g ≡ f). absurd (other (ap (λ (x : Entry). x.caller) is ∙ eqb-true f.caller caller b)))
      (λ (j : In g l). remove_holds l g j other)
      i))
      (λ b. simp b (⊎_elim (λ (is : g ≡ f). inl is) (λ (j : In g l). inr (remove_holds l g j other)) i))

  pub remove_ordered : (l : List Entry) → Ordered l → Ordered (remove_of caller l)
  remove_ordered [] o = o
  remove_ordered (f ∷ l) o =
      by_test (eqb f.caller caller)
      (λ b. simp b (remove_ordered l o.1))
      (λ b. simp b (λ g i. o.0 g (remove_only l g i).0, remove_ordered l o.1))

  -- where no entry is the caller's, none goes
  pub none_removed : (l : List Entry) → ((g : Entry) → In g l → Other g) → remove_of caller l ≡ l
  none_removed [] all = refl
  none_removed (f ∷ l) all =
      simp (ne_eqb f.caller caller (all f (inl refl))) (ap (λ (k : List Entry). f ∷ k) (none_removed l (λ g i. all g (inr i))))

  -- a call that goes in
  abbrev pub Called : Option ℕ → Entry → Type 0
  Called callee g = (g.caller ≡ caller) × (callee ≡ Some g.target)

  pub enter_only : (callee : Option ℕ) (l : List Entry) (g : Entry) → In g (enter_of caller callee l) → In g l ⊎ Called callee g
  enter_only None l g i = inl i
  enter_only (Some target) l g i =
      ⊎_elim (λ (is : g ≡ record { target = target; caller = caller }).
      inr (ap (λ (x : Entry). x.caller) is, ap Some (sym (ap (λ (x : Entry). x.target) is))))
      (λ (j : In g l). inl j)
      (insert_only (record { target = target; caller = caller }) l g i)

  pub enter_holds : (callee : Option ℕ) (l : List Entry) (g : Entry) → In g l ⊎ Called callee g → In g (enter_of caller callee l)
  enter_holds None l g (inl i) = i
  enter_holds None l g (inr call) = absurd (let z : ◌≡◌ {A = ℕ} 0 1 = cc in omega arith)
  enter_holds (Some target) l g (inl i) = insert_holds (record { target = target; caller = caller }) l g (inr i)
  enter_holds (Some target) l g (inr call) =
      let to : target ≡ g.target = cc in
      insert_holds (record { target = target; caller = caller }) l g (inl (same_entry (sym to) call.0))

  pub enter_ordered : (callee : Option ℕ) (l : List Entry) → Ordered l → ((g : Entry) → In g l → Other g) → Ordered (enter_of caller callee l)
  enter_ordered None l o others = o
  enter_ordered (Some target) l o others = insert_ordered (record { target = target; caller = caller }) l o (λ i. others _ i refl)

  -- an update holds the entries of other callers, and the call
  pub update_only : (callee : Option ℕ) (l : List Entry) (g : Entry) → In g (update_of caller callee l) → (In g l × Other g) ⊎ Called callee g
  update_only callee l g i = unfold update_of in
      ⊎_elim (λ (j : In g (remove_of caller l)). inl (remove_only l g j)) (λ (call : Called callee g). inr call)
      (enter_only callee (remove_of caller l) g i)

  pub update_holds : (callee : Option ℕ) (l : List Entry) (g : Entry) → (In g l × Other g) ⊎ Called callee g → In g (update_of caller callee l)
  update_holds callee l g i = unfold update_of in
      enter_holds callee (remove_of caller l) g
      (⊎_elim (λ (j : In g l × Other g). inl (remove_holds l g j.0 j.1)) (λ (call : Called callee g). inr call) i)

  pub update_ordered : (callee : Option ℕ) (l : List Entry) → Ordered l → Ordered (update_of caller callee l)
  update_ordered callee l o = unfold update_of in
      enter_ordered callee (remove_of caller l) (remove_ordered l o) (λ g i. (remove_only l g i).1)

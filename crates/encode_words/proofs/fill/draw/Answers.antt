-- `encode_words::fill::draw` meets its contract: an arm for each name of which something is drawn. Assumes nothing.
use Rattle.std.proofs.Common.{◌≡◌, ◌⊎◌, inl, inr, ◌≤◌, arith, []}
use Rattle.insn.specs.declared.Insn.{Insn}
use Rattle.encode_home.specs.Home.{puts_of, drawn_of}
use Rattle.encode_words.proofs.Filled.{drawn_mrs, drawn_bx, drawn_clz, drawn_clrex, drawn_divide, undrawn}
use Rattle.encode_words.proofs.fill.draw.Goals as goal

-- where no arm has the name, and it is no divide and no exclusive, nothing is drawn
nothing : {A : Type 0} (i : Insn)
    → (((((A × (i.name ≡ 38 → ⊥)) × (i.name ≡ 39 → ⊥)) × ((i.name ≡ 40) ⊎ (i.name ≡ 42) → ⊥)) × (i.name ≡ 43 → ⊥)) × (i.name ≡ 41 → ⊥)) × (i.name ≡ 129 → ⊥)
    → (95 ≤ i.name → i.name ≤ 96 → ⊥) → (63 ≤ i.name → i.name ≤ 68 → ⊥) → drawn_of (puts_of i) ≡ []
nothing i rest divide exclusive = undrawn i control divide rest.1 exclusive
  where
    control : 38 ≤ i.name → i.name ≤ 43 → ⊥
    control from to =
        let left = rest.0 in
        let clz : i.name ≡ 41 → ⊥ = left.1 in
        let blx : i.name ≡ 43 → ⊥ = left.0.1 in
        let bx : i.name ≡ 40 → ⊥ = λ e. left.0.0.1 (inl e) in
        let bxj : i.name ≡ 42 → ⊥ = λ e. left.0.0.1 (inr e) in
        let msr : i.name ≡ 39 → ⊥ = left.0.0.0.1 in
        let mrs : i.name ≡ 38 → ⊥ = left.0.0.0.0.1 in
        omega arith

pub returns-in-38 : goal.returns-in-38
returns-in-38 c = simp (c.ones.ensures, drawn_mrs c.args.i c.in-38.is)

pub returns-in-40 : goal.returns-in-40
returns-in-40 c = simp (c.ones-in-40.ensures, drawn_bx c.args.i c.in-40.is)

pub returns-in-41 : goal.returns-in-41
returns-in-41 c = simp (c.ones-in-41-2.ensures, c.ones-in-41.ensures, drawn_clz c.args.i c.in-41.is)

pub returns-in-129 : goal.returns-in-129
returns-in-129 c = simp (c.ones-in-129.ensures, drawn_clrex c.args.i c.in-129.is)

pub returns-in-95 : goal.returns-in-95
returns-in-95 c = simp (c.ones-in-95.ensures, drawn_divide c.args.i c.in-95.if-n-lt95-own.false c.in-95.if-n-lt97-own.true)

pub returns-in_default : goal.returns-in_default
returns-in_default c = simp (nothing c.args.i c.in_default.in_default-own.rest (λ from to. omega arith) (λ from to. omega arith))

pub returns-in_default-2 : goal.returns-in_default-2
returns-in_default-2 c = simp (nothing c.args.i c.in_default.in_default-own.rest (λ from to. omega arith) (λ from to. omega arith))

pub returns-in_default-3 : goal.returns-in_default-3
returns-in_default-3 c = simp (nothing c.args.i c.in_default.in_default-own.rest (λ from to. omega arith) (λ from to. omega arith))

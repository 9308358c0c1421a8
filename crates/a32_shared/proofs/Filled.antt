-- Operands that are filled in one after another are the operands of an answer. Assumes nothing.
use Rattle.std.proofs.Common.{◌≡◌, ℕ, suc, ◌+◌, ◌-◌, ◌<◌, ◌≤◌, List, [], ◌∷◌, ◌++◌, map, length, get_or, set, take, replicate, refl, ap, ◌∙◌, sym, subst, add-one, arith}
use Rattle.std.proofs.lemmas.List.{length-append, length-map, length-take-le, map-append}
use Rattle.std.proofs.Math.Seq.{take-suc}
use Rattle.insn.specs.Answer.{PLACES, used, unused, places}
use Rattle.insn.specs.declared.Operand.{Operand}

beside : (os : List Operand) (o : Operand) (k : ℕ)
    → set (map used os ++ replicate (suc k) unused) (length os) (used o) ≡ map used (os ++ (o ∷ [])) ++ replicate k unused
beside [] o k = refl
beside (p ∷ os) o k = ap (λ ps. used p ∷ ps) (beside os o k)

-- one more operand, at the first place that is not used
next : (os : List Operand) (o : Operand) → length os < PLACES → set (places os) (length os) (used o) ≡ places (os ++ (o ∷ []))
next os o few =
    let k = PLACES - length (os ++ (o ∷ [])) in
    let more : PLACES - length os ≡ suc k = rw (length-append os (o ∷ [])) (omega arith) in
    rw more (beside os o k)

pub one_more : (f : ℕ → Operand) (ns : List ℕ) (n : ℕ) → n < length ns → length ns ≤ PLACES
    → set (places (map f (take n ns))) n (used (f (get_or ns n 0))) ≡ places (map f (take (n + 1) ns))
one_more f ns n there few =
    let os = map f (take n ns) in
    let o = f (get_or ns n 0) in
    let long : length os ≡ n = length-map (take n ns) f ∙ length-take-le n ns (omega arith) in
    let at : set (places os) n (used o) ≡ places (os ++ (o ∷ [])) =
    subst (λ (m : ℕ). set (places os) m (used o) ≡ places (os ++ (o ∷ []))) long (next os o (omega (arith, long))) in
    let more : map f (take (n + 1) ns) ≡ os ++ (o ∷ []) =
    rw (add-one n, take-suc ns n 0 there) (map-append f (take n ns) (get_or ns n 0 ∷ [])) in
    at ∙ ap places (sym more)

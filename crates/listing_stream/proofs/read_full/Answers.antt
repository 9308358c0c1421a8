-- What was read after the front makes the front longer. Assumes nothing.
use Rattle.std.proofs.Common.{ℕ, List, ◌++◌, None, Some, take, drop, sym, ap, subst, ◌∙◌, append_assoc}
use Rattle.std.proofs.Math.Seq.{take-add}
use Rattle.std.specs.declared.option.Option.{Option}
use Rattle.std.specs.Io.KnownBytes.{Consumes}
use Rattle.listing_stream.proofs.read_full.Goals as goal

both : (a b c : Option (List ℕ)) (xs ys : List ℕ) → Consumes a b xs → Consumes b c ys → Consumes a c (xs ++ ys)
both None b c xs ys p q = tt
both (Some u) None c xs ys p q = absurd p
both (Some u) (Some v) None xs ys p q = absurd q
both (Some u) (Some v) (Some w) xs ys p q = p ∙ ap (λ (l : List ℕ). xs ++ l) q ∙ sym (append_assoc xs ys w)

pub loop-done-preserved : goal.loop-done-preserved
loop-done-preserved g c =
    let read = c.read_at-n.ensures in
    let now = c.read_at-n.new.bytes in
    let front = ap (λ (l : List ℕ). l ++ take c.read_at-n.result (drop c.loop-done.done now)) (sym read.front) in
    (read.bound, subst (Consumes _ _) (front ∙ sym (take-add _ _ now)) (both _ _ _ _ _ c.loop-done.invariant.1 read.none_lost))

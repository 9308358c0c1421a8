-- `word::join` meets its contract. The loop's invariant: the fields from `n` on are joined. Assumes nothing.
use Rattle.std.proofs.Common.{◌≡◌, suc, ◌-◌, arith}
use Rattle.std.proofs.Math.Nat.{mod-add-mod, add-mod-mod}
use Rattle.std.proofs.Math.Pow.{mod-mod-pow}
use Rattle.word.proofs.Joins.{narrow_at, one_more}
use Rattle.word.proofs.join.Goals as goal

pub overflow_shl-above : goal.overflow_shl-above
overflow_shl-above c =
    omega (arith, narrow_at c.args.widths.now c.requires.1 (c.loop-n.n - 1))

pub loop-n-preserved : goal.loop-n-preserved
loop-n-preserved c =
    let now = c.loop-n in
    let next : suc (now.n - 1) ≡ now.n = omega arith in
    rw (mod-mod-pow _ 32 32, mod-add-mod, add-mod-mod)
    (one_more c.args.widths.now c.args.values.now (now.n - 1) now.w (omega arith) (omega arith) (rw next now.invariant))

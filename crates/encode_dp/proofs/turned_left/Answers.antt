-- `dp_words::turned_left` meets its contract. Assumes nothing.
use Rattle.std.proofs.Common.{◌-◌, arith}
use Rattle.encode_dp.proofs.Turned.{one_shifted, low_kept, low_fits, high_fits}
use Rattle.encode_dp.proofs.turned_left.Goals as goal

pub overflow_add-result : goal.overflow_add-result
overflow_add-result c =
    let n = c.args.n in
    let v = c.args.v in
    rw (one_shifted (32 - n) (omega arith), low_kept v n c.requires)
    (omega (arith, low_fits v n c.requires, high_fits v n c.requires (omega arith)))

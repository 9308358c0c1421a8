-- `brassdozen::brassdozen_callers` meets its contract: there are few enough callers for 32 bits. Assumes nothing.
use Prim.Native.Nat.{◌≤◌}
use native.Mathlib.Omega.{arith}
use Rattle.text.specs.Fits.{len_in}
use Rattle.callers_index.proofs.Lent.{found_small}
use Rattle.brassdozen.proofs.brassdozen_callers.Goals as goal

pub pack_len-requires : goal.pack_len-requires
pack_len-requires c =
    let args = c.args in
    let few : len_in c.callers.result ≤ 1024 =
    rw c.callers.ensures.value (found_small args.index.now args.count args.target args.out.now) in
    omega arith

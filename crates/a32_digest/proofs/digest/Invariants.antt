-- `a32_digest::digest` meets its contract. The loop's invariant: the digest has the answers to the words passed. Assumes nothing.
use Rattle.std.proofs.Common.{◌≡◌}
use Rattle.a32_digest.specs.Digest.{digest_of}
use Rattle.a32_digest.proofs.digest.Given as goal

abbrev pub invariant-loop-i : goal.invariant-loop-i
invariant-loop-i l = l.s.0 ≡ digest_of l.h l.first l.i l.addr

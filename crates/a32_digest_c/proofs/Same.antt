-- What is exported asks what the function of the library asks, and promises what that promises: each contract is that one's. So what is proved of the
-- library's contracts holds of these. Assumes nothing.
use mathlib.Core.Path.{◌≡◌, refl}
use Rattle.a32_digest.proofs.digest.Reads as digest
use Rattle.a32_digest_c.proofs.digest.Reads as exported_digest

pub digest_same : (exported_digest.Pre ≡ digest.Pre) × (exported_digest.Post ≡ digest.Post)
digest_same = (refl, refl)

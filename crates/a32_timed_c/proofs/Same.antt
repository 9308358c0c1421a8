-- What is exported asks what the function of the library asks, and promises what that promises: each contract is that one's. So what is proved of the
-- library's contracts holds of these. Assumes nothing.
use mathlib.Core.Path.{◌≡◌, refl}
use Rattle.a32_timed.proofs.decoded.Reads as decoded
use Rattle.a32_timed_c.proofs.decoded.Reads as exported_decoded

pub decoded_same : (exported_decoded.Pre ≡ decoded.Pre) × (exported_decoded.Post ≡ decoded.Post)
decoded_same = (refl, refl)

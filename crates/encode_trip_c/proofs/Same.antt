-- What is exported asks what the function of the library asks, and promises what that promises: each contract is that one's. So what is proved of the
-- library's contracts holds of these. Assumes nothing.
use mathlib.Core.Path.{◌≡◌, refl}
use Rattle.encode_trip.proofs.trip.Reads as trip
use Rattle.encode_trip_c.proofs.trip.Reads as exported_trip
use Rattle.encode_trip.proofs.trip_zeros.Reads as trip_zeros
use Rattle.encode_trip_c.proofs.trip_zeros.Reads as exported_trip_zeros

pub trip_same : (exported_trip.Pre ≡ trip.Pre) × (exported_trip.Post ≡ trip.Post)
trip_same = (refl, refl)

pub trip_zeros_same : (exported_trip_zeros.Pre ≡ trip_zeros.Pre) × (exported_trip_zeros.Post ≡ trip_zeros.Post)
trip_zeros_same = (refl, refl)

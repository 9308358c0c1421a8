-- No second result fits a contract, as the check reads it from the source. Assumes nothing.
use mathlib.Core.Path.{◌∙◌, sym}
use Rattle.word.specs.Only.{Only}
use Rattle.encode_trip.proofs.trip.Reads as trip
use Rattle.encode_trip.proofs.trip_zeros.Reads as trip_zeros

pub trip_only : Only trip.Post
trip_only κs a r r' s s' p q = p ∙ sym q

pub trip_zeros_only : Only trip_zeros.Post
trip_zeros_only κs a r r' s s' p q = p ∙ sym q

-- What is exported asks what the function of the library asks, and promises what that promises: each contract is that one's. So what is proved of the
-- library's contracts holds of these. Assumes nothing.
use mathlib.Core.Path.{◌≡◌, refl}
use Rattle.brassdozen.proofs.brassdozen_version.Reads as version
use Rattle.brassdozen_c.proofs.brassdozen_version.Reads as exported_version
use Rattle.brassdozen.proofs.brassdozen_decode.Reads as decode
use Rattle.brassdozen_c.proofs.brassdozen_decode.Reads as exported_decode
use Rattle.brassdozen.proofs.brassdozen_decode_bytes.Reads as decode_bytes
use Rattle.brassdozen_c.proofs.brassdozen_decode_bytes.Reads as exported_decode_bytes
use Rattle.brassdozen.proofs.brassdozen_encode.Reads as encode
use Rattle.brassdozen_c.proofs.brassdozen_encode.Reads as exported_encode
use Rattle.brassdozen.proofs.brassdozen_encode_zeros.Reads as encode_zeros
use Rattle.brassdozen_c.proofs.brassdozen_encode_zeros.Reads as exported_encode_zeros
use Rattle.brassdozen.proofs.brassdozen_home.Reads as home
use Rattle.brassdozen_c.proofs.brassdozen_home.Reads as exported_home
use Rattle.brassdozen.proofs.brassdozen_home_zeros.Reads as home_zeros
use Rattle.brassdozen_c.proofs.brassdozen_home_zeros.Reads as exported_home_zeros
use Rattle.brassdozen.proofs.brassdozen_line.Reads as line
use Rattle.brassdozen_c.proofs.brassdozen_line.Reads as exported_line
use Rattle.brassdozen.proofs.brassdozen_listing.Reads as listing
use Rattle.brassdozen_c.proofs.brassdozen_listing.Reads as exported_listing
use Rattle.brassdozen.proofs.brassdozen_place.Reads as place
use Rattle.brassdozen_c.proofs.brassdozen_place.Reads as exported_place
use Rattle.brassdozen.proofs.brassdozen_to_v1.Reads as to_v1
use Rattle.brassdozen_c.proofs.brassdozen_to_v1.Reads as exported_to_v1
use Rattle.brassdozen.proofs.brassdozen_to_v2.Reads as to_v2
use Rattle.brassdozen_c.proofs.brassdozen_to_v2.Reads as exported_to_v2
use Rattle.brassdozen.proofs.brassdozen_walk.Reads as walk
use Rattle.brassdozen_c.proofs.brassdozen_walk.Reads as exported_walk
use Rattle.brassdozen.proofs.brassdozen_tally.Reads as tally
use Rattle.brassdozen_c.proofs.brassdozen_tally.Reads as exported_tally
use Rattle.brassdozen.proofs.brassdozen_run.Reads as run
use Rattle.brassdozen_c.proofs.brassdozen_run.Reads as exported_run
use Rattle.brassdozen.proofs.brassdozen_patched.Reads as patched
use Rattle.brassdozen_c.proofs.brassdozen_patched.Reads as exported_patched
use Rattle.brassdozen.proofs.brassdozen_index.Reads as index
use Rattle.brassdozen_c.proofs.brassdozen_index.Reads as exported_index
use Rattle.brassdozen.proofs.brassdozen_replace.Reads as replace
use Rattle.brassdozen_c.proofs.brassdozen_replace.Reads as exported_replace
use Rattle.brassdozen.proofs.brassdozen_callers.Reads as callers
use Rattle.brassdozen_c.proofs.brassdozen_callers.Reads as exported_callers
use Rattle.brassdozen.proofs.brassdozen_home_form.Reads as home_form
use Rattle.brassdozen_c.proofs.brassdozen_home_form.Reads as exported_home_form
use Rattle.brassdozen.proofs.brassdozen_judge.Reads as judge
use Rattle.brassdozen_c.proofs.brassdozen_judge.Reads as exported_judge

pub version_same : (exported_version.Pre ≡ version.Pre) × (exported_version.Post ≡ version.Post)
version_same = (refl, refl)

pub decode_same : (exported_decode.Pre ≡ decode.Pre) × (exported_decode.Post ≡ decode.Post)
decode_same = (refl, refl)

pub decode_bytes_same : (exported_decode_bytes.Pre ≡ decode_bytes.Pre) × (exported_decode_bytes.Post ≡ decode_bytes.Post)
decode_bytes_same = (refl, refl)

pub encode_same : (exported_encode.Pre ≡ encode.Pre) × (exported_encode.Post ≡ encode.Post)
encode_same = (refl, refl)

pub encode_zeros_same : (exported_encode_zeros.Pre ≡ encode_zeros.Pre) × (exported_encode_zeros.Post ≡ encode_zeros.Post)
encode_zeros_same = (refl, refl)

pub home_same : (exported_home.Pre ≡ home.Pre) × (exported_home.Post ≡ home.Post)
home_same = (refl, refl)

pub home_zeros_same : (exported_home_zeros.Pre ≡ home_zeros.Pre) × (exported_home_zeros.Post ≡ home_zeros.Post)
home_zeros_same = (refl, refl)

pub line_same : (exported_line.Pre ≡ line.Pre) × (exported_line.Post ≡ line.Post)
line_same = (refl, refl)

pub listing_same : (exported_listing.Pre ≡ listing.Pre) × (exported_listing.Post ≡ listing.Post)
listing_same = (refl, refl)

pub place_same : (exported_place.Pre ≡ place.Pre) × (exported_place.Post ≡ place.Post)
place_same = (refl, refl)

pub to_v1_same : (exported_to_v1.Pre ≡ to_v1.Pre) × (exported_to_v1.Post ≡ to_v1.Post)
to_v1_same = (refl, refl)

pub to_v2_same : (exported_to_v2.Pre ≡ to_v2.Pre) × (exported_to_v2.Post ≡ to_v2.Post)
to_v2_same = (refl, refl)

pub walk_same : (exported_walk.Pre ≡ walk.Pre) × (exported_walk.Post ≡ walk.Post)
walk_same = (refl, refl)

pub tally_same : (exported_tally.Pre ≡ tally.Pre) × (exported_tally.Post ≡ tally.Post)
tally_same = (refl, refl)

pub run_same : (exported_run.Pre ≡ run.Pre) × (exported_run.Post ≡ run.Post)
run_same = (refl, refl)

pub patched_same : (exported_patched.Pre ≡ patched.Pre) × (exported_patched.Post ≡ patched.Post)
patched_same = (refl, refl)

pub index_same : (exported_index.Pre ≡ index.Pre) × (exported_index.Post ≡ index.Post)
index_same = (refl, refl)

pub replace_same : (exported_replace.Pre ≡ replace.Pre) × (exported_replace.Post ≡ replace.Post)
replace_same = (refl, refl)

pub callers_same : (exported_callers.Pre ≡ callers.Pre) × (exported_callers.Post ≡ callers.Post)
callers_same = (refl, refl)

pub home_form_same : (exported_home_form.Pre ≡ home_form.Pre) × (exported_home_form.Post ≡ home_form.Post)
home_form_same = (refl, refl)

pub judge_same : (exported_judge.Pre ≡ judge.Pre) × (exported_judge.Post ≡ judge.Post)
judge_same = (refl, refl)

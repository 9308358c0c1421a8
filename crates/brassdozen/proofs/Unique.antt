-- No second result, and no second last state of a lent buffer, fits a contract. Each line is about the contract itself, as the check
-- reads it from the source. Assumes nothing.
use mathlib.Core.Path.{◌≡◌, ◌∙◌, sym, ap}
use Prim.Native.Nat.{◌+◌, ◌*◌, ◌^◌}
use Rattle.word.specs.Only.{Only}
use Rattle.std.specs.Prelude.{Result}
use Rattle.word.specs.declared.refusal.Refusal.{Refusal}
use Rattle.word_packed.specs.Packed.{packed_as, packed_answer}
use Rattle.home_form.specs.declared.Changed.{Changed}
use Rattle.rule_verdict.specs.Verdicts as V
use Rattle.rule_verdict.specs.declared.Verdict.{Verdict}
use Rattle.rule_verdict.proofs.Unique.{rules_only}
use Rattle.walk.specs.declared.Walked.{Walked}
use Rattle.walk.proofs.Unique.{walks_only}
use Rattle.brassdozen.proofs.brassdozen_version.Reads as version
use Rattle.brassdozen.proofs.brassdozen_decode.Reads as decode
use Rattle.brassdozen.proofs.brassdozen_decode_bytes.Reads as decode_bytes
use Rattle.brassdozen.proofs.brassdozen_encode.Reads as encode
use Rattle.brassdozen.proofs.brassdozen_encode_zeros.Reads as encode_zeros
use Rattle.brassdozen.proofs.brassdozen_home.Reads as home
use Rattle.brassdozen.proofs.brassdozen_home_zeros.Reads as home_zeros
use Rattle.brassdozen.proofs.brassdozen_line.Reads as line
use Rattle.brassdozen.proofs.brassdozen_listing.Reads as listing
use Rattle.brassdozen.proofs.brassdozen_place.Reads as place
use Rattle.brassdozen.proofs.brassdozen_walk.Reads as walk
use Rattle.brassdozen.proofs.brassdozen_tally.Reads as tally
use Rattle.brassdozen.proofs.brassdozen_run.Reads as run
use Rattle.brassdozen.proofs.brassdozen_patched.Reads as patched
use Rattle.brassdozen.proofs.brassdozen_index.Reads as index
use Rattle.brassdozen.proofs.brassdozen_replace.Reads as replace
use Rattle.brassdozen.proofs.brassdozen_callers.Reads as callers
use Rattle.brassdozen.proofs.brassdozen_home_form.Reads as home_form
use Rattle.brassdozen.proofs.brassdozen_judge.Reads as judge
use Rattle.brassdozen.proofs.brassdozen_to_v1.Reads as to_v1
use Rattle.brassdozen.proofs.brassdozen_to_v2.Reads as to_v2

pub version_only : Only version.Post
version_only κs a r r' s s' p q = p ∙ sym q

pub decode_only : (κs : _) (a : _) (r r' : _) (s s' : _) → decode.Post κs a r s → decode.Post κs a r' s'
    → (r ≡ r') × (s.1.1.0.now ≡ s'.1.1.0.now)
decode_only κs a r r' s s' p q = (p.0 ∙ sym q.0, p.1 ∙ sym q.1)

pub decode_bytes_only : (κs : _) (a : _) (r r' : _) (s s' : _) → decode_bytes.Post κs a r s → decode_bytes.Post κs a r' s'
    → (r ≡ r') × (s.1.1.0.now ≡ s'.1.1.0.now)
decode_bytes_only κs a r r' s s' p q = (p.0 ∙ sym q.0, p.1 ∙ sym q.1)

pub encode_only : Only encode.Post
encode_only κs a r r' s s' p q = p ∙ sym q

pub home_only : Only home.Post
home_only κs a r r' s s' p q = p ∙ sym q

pub encode_zeros_only : Only encode_zeros.Post
encode_zeros_only κs a r r' s s' p q = p ∙ sym q

pub home_zeros_only : Only home_zeros.Post
home_zeros_only κs a r r' s s' p q = p ∙ sym q

pub line_only : (κs : _) (a : _) (r r' : _) (s s' : _) → line.Post κs a r s → line.Post κs a r' s' → (r ≡ r') × (s.1.1.0.now ≡ s'.1.1.0.now)
line_only κs a r r' s s' p q = (p.0 ∙ sym q.0, p.1 ∙ sym q.1)

pub listing_only : (κs : _) (a : _) (r r' : _) (s s' : _) → listing.Post κs a r s → listing.Post κs a r' s'
    → (r ≡ r') × (s.1.0.now ≡ s'.1.0.now)
listing_only κs a r r' s s' p q = (p.0 ∙ sym q.0, p.1 ∙ sym q.1)

pub place_only : (κs : _) (a : _) (r r' : _) (s s' : _) → place.Post κs a r s → place.Post κs a r' s'
    → (r ≡ r') × (s.1.1.0.now ≡ s'.1.1.0.now)
place_only κs a r r' s s' p q = (p.0 ∙ sym q.0, p.1 ∙ sym q.1)

pub to_v1_only : (κs : _) (a : _) (r r' : _) (s s' : _) → to_v1.Post κs a r s → to_v1.Post κs a r' s' → (r ≡ r') × (s.1.0.now ≡ s'.1.0.now)
to_v1_only κs a r r' s s' p q = (p.0 ∙ sym q.0, p.1 ∙ sym q.1)

pub to_v2_only : (κs : _) (a : _) (r r' : _) (s s' : _) → to_v2.Post κs a r s → to_v2.Post κs a r' s' → (r ≡ r') × (s.1.0.now ≡ s'.1.0.now)
to_v2_only κs a r r' s s' p q = (p.0 ∙ sym q.0, p.1 ∙ sym q.1)

pub walk_only : (κs : _) (a : _) (r r' : _) (s s' : _) → walk.Post κs a r s → walk.Post κs a r' s'
    → (r ≡ r') × (s.1.1.0.now ≡ s'.1.1.0.now)
walk_only κs a r r' s s' p q =
    let same = walks_only p.walks q.walks in
    (p.given ∙ ap (λ (r : Result Walked Refusal). packed_as (λ w. 2 ^ 16 * w.words + w.records) r) same.0 ∙ sym q.given, same.1)

pub tally_only : (κs : _) (a : _) (r r' : _) (s s' : _) → tally.Post κs a r s → tally.Post κs a r' s' → (r ≡ r') × (s.1.0.now ≡ s'.1.0.now)
tally_only κs a r r' s s' p q = (p.0 ∙ sym q.0, p.1 ∙ sym q.1)

pub run_only : Only run.Post
run_only κs a r r' s s' p q = p ∙ sym q

pub patched_only : (κs : _) (a : _) (r r' : _) (s s' : _) → patched.Post κs a r s → patched.Post κs a r' s'
    → (r ≡ r') × (s.1.1.0.now ≡ s'.1.1.0.now)
patched_only κs a r r' s s' p q = (p.0 ∙ sym q.0, p.1 ∙ sym q.1)

pub index_only : (κs : _) (a : _) (r r' : _) (s s' : _) → index.Post κs a r s → index.Post κs a r' s'
    → (r ≡ r') × (s.1.0.now ≡ s'.1.0.now)
index_only κs a r r' s s' p q =
    let same = p.builds.answer ∙ sym q.builds.answer in
    (p.given ∙ ap packed_answer same ∙ sym q.given, p.builds.left ∙ sym q.builds.left)

pub replace_only : (κs : _) (a : _) (r r' : _) (s s' : _) → replace.Post κs a r s → replace.Post κs a r' s'
    → (r ≡ r') × (s.0.now ≡ s'.0.now) × (s.1.1.1.0.now ≡ s'.1.1.1.0.now)
replace_only κs a r r' s s' p q =
    let same = p.replaces.answer ∙ sym q.replaces.answer in (
      p.given ∙ ap packed_answer same ∙ sym q.given,
      p.replaces.words ∙ sym q.replaces.words,
      p.replaces.left ∙ sym q.replaces.left,
    )

pub callers_only : (κs : _) (a : _) (r r' : _) (s s' : _) → callers.Post κs a r s → callers.Post κs a r' s'
    → (r ≡ r') × (s.1.1.1.0.now ≡ s'.1.1.1.0.now)
callers_only κs a r r' s s' p q = (p.given ∙ sym q.given, p.left ∙ sym q.left)

pub home_form_only : (κs : _) (a : _) (r r' : _) (s s' : _) → home_form.Post κs a r s → home_form.Post κs a r' s'
    → (r ≡ r') × (s.0.now ≡ s'.0.now) × (s.1.0.now ≡ s'.1.0.now)
home_form_only κs a r r' s s' p q =
    let same = p.puts.answer ∙ sym q.puts.answer in (
      p.given ∙ ap (λ (r : Result Changed Refusal). packed_as (λ c. 2 ^ 16 * c.unindexed + c.changes) r) same ∙ sym q.given,
      p.puts.bytes ∙ sym q.puts.bytes,
      p.puts.left ∙ sym q.puts.left,
    )

-- of the shortest ways, and of what is left in the room to work in, the contract takes any
pub judge_only : Only judge.Post
judge_only κs a r r' s s' p q =
    p.given ∙ ap (λ (r : Result Verdict Refusal). packed_as (λ v. 2 ^ 16 * V.number v + V.value v) r) (rules_only p.rules q.rules) ∙ sym q.given

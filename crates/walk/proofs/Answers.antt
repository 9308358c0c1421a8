-- What a walk answers and leaves, by its refusals and its report. Assumes nothing.
use mathlib.Core.Path.{◌≡◌, refl, sym, ap, ◌∙◌}
use mathlib.Core.List.{List}
use Prim.Native.Nat.{ℕ, ◌/◌, ◌<◌, ◌≤◌}
use native.Mathlib.Nat.{zero-add}
use native.Mathlib.Omega.{arith}
use borrow.Author.Tests.{eq-eqb, ne_eqb, le-leb, lt-leb, lt-ltb, le-ltb}
use lib.Dec.{eqb, ltb}
use lib.ListN.{length}
use mathlib.Core.Logic.{inl, inr, ⊎_elim}
use Rattle.word.specs.Choice.{tested}
use Rattle.section.proofs.Refused.{InTable, in_table}
use Rattle.text.specs.Fits.{last_of}
use Rattle.text.specs.Put.{Put}
use Rattle.std.specs.Prelude.{Ok, Err}
use Rattle.word.specs.Refusal.{number, numbered, not_refused, refused_with}
use Rattle.word.specs.declared.refusal.Refusal.{Refusal}
use Rattle.section.specs.Section.{opened_of, opening_of, section_of}
use Rattle.section.proofs.Accepted.{same_refusal, section_passed, section_refused}
use Rattle.walk.specs.Walk.{Answer, refused_by, refusal_of, answer_of, Reported, Walks}

-- a report that fits, and one that does not
pub with_room : {report out last : List ℕ} {next words : ℕ} → length report ≤ length out → Put out 0 report next last
    → (Ok (record { records = next / 3; words = words }) ≡ answer_of report words out) × (last ≡ last_of report out)
with_room h put = unfold answer_of last_of in (rw (put.ends, zero-add) (simp (le-leb _ _ h)), put.holds ∙ simp (le-leb _ _ h))

pub without : (report : List ℕ) (words : ℕ) {out : List ℕ} {r : Answer} → length out < length report → r ≡ refused_by 10
    → (r ≡ answer_of report words out) × (out ≡ last_of report out)
without report words h e = unfold answer_of last_of in (e ∙ simp (lt-leb _ _ h), simp (lt-leb _ _ h))

-- the refusals before a walk: the section's own, the entry's, or none
module _ (s : List ℕ) (entry : ℕ) where
  pub its_own : {r : Refusal} → Err r ≡ section_of s → refusal_of s entry ≡ number r
  its_own {r} is =
      let own = section_refused s is in
      simp (ne_eqb (refused_with (opened_of s)) 0 (λ none. not_refused r (own ∙ none))) (sym own)

  tabled : InTable (refusal_of s entry)
  tabled =
      tested InTable (eqb (refused_with (opened_of s)) 0)
      (λ ok. tested InTable (ltb entry (opening_of s).count) {x = 0} {y = 13} (λ there. inl refl) (λ none. inr refl))
      (λ bad. in_table (opened_of s))

  -- a refused walk's number
  pub told_refusal : 0 < refusal_of s entry → number (numbered (refusal_of s entry)) ≡ refusal_of s entry
  told_refusal some =
      ⊎_elim
      (λ (none : refusal_of s entry ≡ 0). absurd (let z : ⊥ = omega (arith, none, some) in z))
      (λ (is : number (numbered (refusal_of s entry)) ≡ refusal_of s entry). is)
      tabled

  module _ {bytes : List ℕ} (is : Ok bytes ≡ section_of s) where
    ok : refused_with (opened_of s) ≡ 0
    ok = same_refusal s ∙ section_passed s is

    pub no_place : (opening_of s).count ≤ entry → refusal_of s entry ≡ 13
    no_place h = simp (eq-eqb (refused_with (opened_of s)) 0 ok, le-ltb entry (opening_of s).count h)

    pub no_refusal : entry < (opening_of s).count → refusal_of s entry ≡ 0
    no_refusal h = simp (eq-eqb (refused_with (opened_of s)) 0 ok, lt-ltb entry (opening_of s).count h)

module _ {s : List ℕ} {entry : ℕ} {out : List ℕ} {r : Answer} where
  pub refused_walk : {n : ℕ} → refusal_of s entry ≡ n → 0 < n → r ≡ refused_by n → Walks s entry out r out
  refused_walk e h same = record {
    refused = λ some. (same ∙ ap refused_by (sym e), refl);
    reported = λ none. absurd (let z : ⊥ = omega (arith, e, none, h) in z);
  }

  pub reported_walk : {last : List ℕ} → refusal_of s entry ≡ 0 → Reported s entry out r last → Walks s entry out r last
  reported_walk e found = record {
    refused = λ some. absurd (let z : ⊥ = omega (arith, e, some) in z);
    reported = λ none. found;
  }

-- If no record says a way out, all that is reached stays in the section. Assumes nothing.
use mathlib.Core.Path.{◌≡◌, refl, sym, ap, ◌∙◌}
use mathlib.Core.Bool.{Bool, true, false}
use mathlib.Core.List.{List, [], ◌∷◌, ◌++◌}
use Prim.Native.Nat.{ℕ, zero, suc, ◌+◌, ◌*◌, ◌/◌, ◌%◌, ◌<◌}
use native.Mathlib.Omega.{arith}
use borrow.Author.Tests.{eqb-true, eqb-false, eq-eqb, lt-ltb, ltb-true, leb-true}
use lib.Dec.{eqb, leb, ltb}
use lib.ListN.{length, get_or, take}
use Rattle.word.specs.Choice.{by_test, tested, parts}
use Rattle.insn.specs.Numbers.{flow_target}
use Rattle.word.specs.Refusal.{numbered, not_refused, refused_with}
use Rattle.insn.specs.Answer.{Decoded, insn_in}
use Rattle.std.specs.Prelude.{Ok, Err, is_some}
use Rattle.insn.specs.Roots.{name}
use Rattle.insn.specs.declared.Cond.{Cond}
use Rattle.insn.specs.declared.Flow.{Flow}
use Rattle.insn.specs.declared.Flow.TheVariants.{Next, Branch, CondBranch, IndirectBranch, Call, IndirectCall, Return, Trap}
use Rattle.a32.specs.Decode.{decode_of}
use Rattle.text.specs.Fits.{last_of}
use Rattle.text.specs.Put.{Put}
use Rattle.text.proofs.Writing.{front}
use Rattle.section.specs.Ranges.{is_data}
use Rattle.section.specs.Section as section
use Rattle.section.specs.Section.{ranges_of, opened_of, opening_of, here_of, is_end}
use Rattle.section.specs.declared.Here.{Here}
use Rattle.section.specs.declared.Here.TheVariants.{Word, Data, End}
use Rattle.section.specs.declared.Opened.{Opened}
use Rattle.section.proofs.Accepted.{accepted, opening, holds_none}
use Rattle.section.proofs.Places.{something, how_many_lem, before_end}
use Rattle.walk_marks.specs.Marks.{Marked}
use Rattle.walk_marks.proofs.Marking.{true_false}
use Rattle.walk_steps.specs.Leads.{target_addr, enters_thumb, stop_number, goes_to, flow_leads, answer_leads, here_leads, leads_at}
use Rattle.walk_steps.specs.Steps.{place_of, is_inside, runs_off, leaves, steps_of}
use Rattle.walk_steps.specs.declared.Leads.{Leads}
use Rattle.walk.specs.Report.{three_of, ways_in, ways_out, records_from, records_here, records_before, report_of}
use Rattle.walk.specs.Reached.{Reached}
use Rattle.walk.specs.Walk.{Answer, walked_in, refusal_of, answer_of, Reported, Walks}
use Rattle.walk.specs.Kept.{NoWayOut, IsPlace, GoesOn, KeptFlow, Kept}
use Rattle.walk.proofs.Aligned.{aligned}
use Rattle.walk.proofs.Following.{isset}
use Rattle.walk.proofs.Inside.{steps_inside}
use Rattle.walk.proofs.Searched.{stays_inside}
use Rattle.walk.proofs.Records.{here_is, here_not}

-- a list of records
data Threes : List ℕ → Type 0 where
  none : Threes []
  more : {p k v : ℕ} {l : List ℕ} → Threes l → Threes (p ∷ k ∷ v ∷ l)

join : {a b : List ℕ} → Threes a → Threes b → Threes (a ++ b)
join none u = u
join (more t) u = more (join t u)

-- what is said of all records is said of those of each part
first : {a : List ℕ} (b : List ℕ) → Threes a → NoWayOut (a ++ b) → NoWayOut a
first b none h = tt
first b (more t) h = (h.0, first b t h.1)

second : {a : List ℕ} (b : List ℕ) → Threes a → NoWayOut (a ++ b) → NoWayOut b
second b none h = h
second b (more t) h = second b t h.1

three : (b : Bool) (p k v : ℕ) → Threes (three_of b p k v)
three true p k v = more none
three false p k v = none

-- a record of another kind is not there
absent : (b : Bool) (p k v : ℕ) → NoWayOut (three_of b p (suc k) v) → b ≡ false
absent true p k v h = absurd (let z : ⊥ = omega (arith, h.0) in z)
absent false p k v h = refl

-- no way out of a place
record Quiet (o : Opened) (p : ℕ) (l : Leads) : Type 0 where
  inside : leaves o l ≡ false
  a32 : (enters_thumb l.to) ≡ false
  direct : l.unknown ≡ false
  on : runs_off o p l ≡ false
  goes : (is_some l.stop) ≡ false

module _ (o : Opened) (p : ℕ) (l : Leads) where
  in_threes : Threes (ways_in o p l)
  in_threes = unfold ways_in in join (join (three true p 0 l.word) (three (leaves o l) p 1 (target_addr l.to))) (three (enters_thumb l.to) p 2 (target_addr l.to))

  out_threes : Threes (ways_out o p l)
  out_threes = unfold ways_out in join (join (three l.unknown p 3 0) (three (runs_off o p l) p 4 0)) (three (is_some l.stop) p 5 (stop_number l.stop))

  from_threes : Threes (records_from o p l)
  from_threes = unfold records_from in join in_threes out_threes

  quiet : NoWayOut (records_from o p l) → Quiet o p l
  unfolding records_from ways_in ways_out
  quiet h =
      let a = three_of true p 0 l.word in
      let b = three_of (leaves o l) p 1 (target_addr l.to) in
      let c = three_of (enters_thumb l.to) p 2 (target_addr l.to) in
      let d = three_of l.unknown p 3 0 in
      let e = three_of (runs_off o p l) p 4 0 in
      let f = three_of (is_some l.stop) p 5 (stop_number l.stop) in
      let ab = join (three true p 0 l.word) (three (leaves o l) p 1 (target_addr l.to)) in
      let de = join (three l.unknown p 3 0) (three (runs_off o p l) p 4 0) in
      let abc = first (d ++ e ++ f) (join ab (three (enters_thumb l.to) p 2 (target_addr l.to))) h in
      let def = second (d ++ e ++ f) (join ab (three (enters_thumb l.to) p 2 (target_addr l.to))) h in
      record {
        inside = absent (leaves o l) p 0 (target_addr l.to) (second b (three true p 0 l.word) (first c ab abc));
        a32 = absent (enters_thumb l.to) p 1 (target_addr l.to) (second c ab abc);
        direct = absent l.unknown p 2 0 (first e (three l.unknown p 3 0) (first f de def));
        on = absent (runs_off o p l) p 3 0 (second e (three l.unknown p 3 0) (first f de def));
        goes = absent (is_some l.stop) p 4 (stop_number l.stop) (second f de def);
      }

-- a word's address is a multiple of 4
abbrev AlignedAt : Here → Type 0
AlignedAt (Word w a) = a % 4 ≡ 0
AlignedAt (Data w a) = Unit {0}
AlignedAt End = Unit {0}

module _ (o : Opened) (base : o.base % 4 ≡ 0) (p : ℕ) where
  is_place : (w target : ℕ) (on thumb : Bool) → target % 4 ≡ 0 → Quiet o p (goes_to w on thumb target) → IsPlace o target
  is_place w target on thumb four q =
      let inside = isset (is_inside o target) q.inside in
      let low = leb-true o.base target (parts (leb o.base target) (ltb (place_of o target) o.count) inside).0 in
      let high = ltb-true (place_of o target) o.count (parts (leb o.base target) (ltb (place_of o target) o.count) inside).1 in
      (place_of o target, high, omega (arith, low, base, four))

  goes_on_lem : (l : Leads) → l.on ≡ true → Quiet o p l → GoesOn o p
  goes_on_lem l e q = ltb-true (p + 1) o.count (isset (ltb (p + 1) o.count) (rw e at q.on))

  kept_flow : (w root : ℕ) (cond : Cond) (flow : Flow) → (enters_thumb (flow_leads w root cond flow).to ≡ false → flow_target flow % 4 ≡ 0)
      → Quiet o p (flow_leads w root cond flow) → KeptFlow o p root cond flow
  kept_flow w root cond Next four q = goes_on_lem (flow_leads w root cond Next) refl q
  kept_flow w root cond (Branch to) four q = is_place w to false false (four q.a32) q
  kept_flow w root cond (CondBranch to) four q =
      (goes_on_lem (flow_leads w root cond (CondBranch to)) refl q, is_place w to true false (four q.a32) q)
  kept_flow w root cond IndirectBranch four q = true_false q.direct
  kept_flow w root cond (Call to) four q = (
    λ e. true_false (sym (eq-eqb root (name "blx") e) ∙ q.a32),
    goes_on_lem (flow_leads w root cond (Call to)) refl q,
    is_place w to true (eqb root (name "blx")) (four q.a32) q,
  )
  kept_flow w root cond IndirectCall four q = true_false q.direct
  kept_flow w root cond Return four q = λ h. goes_on_lem (flow_leads w root cond Return) (lt-ltb cond.0 14 h) q
  kept_flow w root cond Trap four q = λ h. goes_on_lem (flow_leads w root cond Trap) (lt-ltb cond.0 14 h) q

  kept_word : (d : Decoded) (w : ℕ)
      → (enters_thumb (flow_leads w (insn_in d).name (insn_in d).cond (insn_in d).flow).to ≡ false → flow_target (insn_in d).flow % 4 ≡ 0)
      → Quiet o p (answer_leads w d) → (refused_with d ≡ 0) × KeptFlow o p (insn_in d).name (insn_in d).cond (insn_in d).flow
  kept_word (Ok i) w four q = (refl, kept_flow w i.name i.cond i.flow four q)
  kept_word (Err r) w four q = true_false q.goes

  kept : (here : Here) → is_end here ≡ false → AlignedAt here → Quiet o p (here_leads here) → Kept o p here
  kept (Word w a) some four q = kept_word (decode_of w a) w (aligned w a four) q
  kept (Data w a) some four q = true_false q.goes
  kept End some four q = true_false some

-- a section that has a place is accepted, so its base is a multiple of 4, and each address is one
base_four : (s : List ℕ) (p : ℕ) → p < (opening_of s).count → (opening_of s).base % 4 ≡ 0
base_four s p h =
    by_test (eqb (section.refusal_of s) 0)
    (λ e. let ok = eqb-true (section.refusal_of s) 0 e in rw (opening s ok) (accepted s ok).aligned)
    (λ e.
    let empty = ap (λ (o : Opened). o.count) (holds_none s (eqb-false (section.refusal_of s) 0 e)) in
    absurd (let z : ⊥ = omega (arith, empty, h) in z))

here_four : (s : List ℕ) (p : ℕ) → p < (opening_of s).count → AlignedAt (here_of s p)
here_four s p h =
    rw (before_end s {place = p} (omega (arith, how_many_lem s)))
    (tested AlignedAt (is_data (ranges_of s (opening_of s).ranges) p) (λ e. tt) (λ e. omega (arith, base_four s p h)))

module _ (s : List ℕ) (m : List Bool) where
  here_threes : (p : ℕ) (b : Bool) → get_or m p false ≡ b → Threes (records_here s m p)
  here_threes p true e = rw (here_is s m p refl refl e) (from_threes (opening_of s) p (leads_at s p))
  here_threes p false e = rw (here_not s m p e) none

  before_threes : (p : ℕ) → Threes (records_before s m p)
  before_threes zero = none
  before_threes (suc p) = join (before_threes p) (here_threes p (get_or m p false) refl)

  -- each place before n has its records among theirs
  at_place : (n p : ℕ) → p < n → NoWayOut (records_before s m n) → NoWayOut (records_here s m p)
  at_place zero p h q = absurd (let z : ⊥ = omega arith in z)
  at_place (suc n) p h q =
      by_test (eqb p n)
      (λ e. rw (eqb-true p n e) (second (records_here s m n) (before_threes n) q))
      (λ e. at_place n p (omega (arith, eqb-false p n e)) (first (records_here s m n) (before_threes n) q))

  kept_place : (p : ℕ) → p < (opening_of s).count → Marked m p → NoWayOut (report_of s m) → Kept (opening_of s) p (here_of s p)
  unfolding report_of leads_at
  kept_place p h marked q =
      let here = at_place (opening_of s).count p h q in
      let stands : is_end (here_of s p) ≡ false = rw (before_end s {place = p} (omega (arith, how_many_lem s))) (something s (opening_of s) p) in
      kept (opening_of s) (base_four s p h) p (here_of s p) stands (here_four s p h)
      (quiet (opening_of s) p (leads_at s p) (rw (here_is s m p refl refl marked) at here))

  -- a report's numbers are three for each record
  count : {l : List ℕ} → Threes l → (k : ℕ) × (length l ≡ 3 * k)
  count none = (0, refl)
  count (more t) = let (k, e) = count t in (suc k, omega (arith, e))

  all_threes : 3 * (length (report_of s m) / 3) ≡ length (report_of s m)
  all_threes =
      let t : Threes (report_of s m) = unfold report_of in before_threes (opening_of s).count in
      let (k, e) = count t in omega (arith, e)

-- an entry that is not refused is a place
entry_inside : (s : List ℕ) (entry : ℕ) → refusal_of s entry ≡ 0 → entry < (opening_of s).count
entry_inside s entry ok =
    by_test (eqb (refused_with (opened_of s)) 0)
    (λ e. by_test (ltb entry (opening_of s).count)
    (λ f. ltb-true entry (opening_of s).count f)
    (λ f. absurd (let z : ◌≡◌ {A = ℕ} 13 0 = simp (e, f) at ok in let no' : ⊥ = omega (arith, z) in no')))
    (λ e. absurd (eqb-false (refused_with (opened_of s)) 0 e (simp e at ok)))

module _ {s : List ℕ} {entry : ℕ} {out : List ℕ} {r : Answer} {last : List ℕ} where
  -- what a walk that is not refused leaves at the buffer's start is the report
  left_report : (found : Reported s entry out r last) → refused_with r ≡ 0 → take (3 * (walked_in r).records) last ≡ report_of s found.marks
  unfolding answer_of last_of
  left_report found ok =
      let report = report_of s found.marks in
      by_test (leb (length report) (length out))
      (λ e.
      let same : (walked_in r).records ≡ length report / 3 = ap (λ (x : Answer). (walked_in x).records) (simp e at found.answer) in
      let put : Put out 0 report (length report) last = record { ends = omega arith; holds = simp e at found.left } in
      rw (same, all_threes s found.marks) (front put))
      (λ e.
      let ten : refused_with r ≡ 10 = ap refused_with (simp e at found.answer) in
      absurd (let z : ⊥ = omega (arith, ten, ok) in z))

  -- "Is there a way out?": if a walk is not refused, and each of its records is of kind 0, then wherever a chain leads from the entry stands a word
  -- that is accepted, and each way that it goes stays in the section
  pub no_way_out : Walks s entry out r last → refused_with r ≡ 0 → NoWayOut (take (3 * (walked_in r).records) last)
      → (p : ℕ) → Reached (steps_of s) entry p → Kept (opening_of s) p (here_of s p)
  no_way_out walks ok quiet p reached =
      by_test (eqb (refusal_of s entry) 0)
      (λ e.
      let ok' = eqb-true (refusal_of s entry) 0 e in
      let found = walks.reported ok' in
      let below = stays_inside (steps_of s) (opening_of s).count (steps_inside s) entry p reached (entry_inside s entry ok') in
      kept_place s found.marks p below ((found.exact p).1 reached) (rw (left_report found ok) at quiet))
      (λ e.
      let some = eqb-false (refusal_of s entry) 0 e in
      let same = ap refused_with (walks.refused (omega (arith, some))).0 in
      not_refused (numbered (refusal_of s entry)) (sym same ∙ ok))

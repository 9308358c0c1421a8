-- The records of a walk, written and counted. Assumes nothing.
use mathlib.Core.Path.{◌≡◌, refl, ap}
use mathlib.Core.Bool.{Bool, true, false}
use mathlib.Core.List.{List, []}
use Prim.Native.Nat.{ℕ, zero, suc, ◌+◌, ◌*◌, ◌-◌, ◌≤◌, ◌<◌}
use native.Mathlib.Numerals.{add-one}
use native.Mathlib.Omega.{arith}
use lib.ListN.{length, get_or, length-append}
use lib.Dec.{eqb}
use Rattle.insn.specs.Roots.{name}
use Rattle.insn.specs.declared.Cond.{Cond}
use Rattle.insn.specs.declared.Flow.{Flow}
use Rattle.insn.specs.declared.Flow.TheVariants.{Next, Branch, CondBranch, IndirectBranch, Call, IndirectCall, Return, Trap}
use Rattle.a32.specs.Decode.{decode_of}
use Rattle.section.specs.Section.{opening_of, here_of}
use Rattle.section.specs.declared.Here.{Here}
use Rattle.section.specs.declared.Here.TheVariants.{Word, Data as DataHere, End}
use Rattle.section.specs.declared.Opened.{Opened}
use Rattle.section.proofs.Accepted.{opened}
use Rattle.walk_steps.specs.Leads.{goes_on, goes_to, stops, perhaps, flow_leads, answer_leads, here_leads, leads_at, enters_thumb}
use Rattle.walk_steps.specs.declared.Stop.{Stop}
use Rattle.walk_steps.specs.declared.Stop.TheVariants.{Data, Refused}
use Rattle.insn.specs.Answer.{Decoded}
use Rattle.std.specs.Prelude.{Ok, Err, is_some}
use Rattle.walk_steps.specs.Steps.{runs_off, leaves}
use Rattle.walk_steps.specs.declared.Leads.{Leads}
use Rattle.walk.specs.Report.{three_of, three, ways_in, ways_out, records_from, records_here, records_before, report_of}

-- how many numbers records have
length_three : (b : Bool) (p k v : ℕ) → length (three_of b p k v) ≡ three b
length_three true p k v = refl
length_three false p k v = refl

pub at_most_three : (b : Bool) → three b ≤ 3
at_most_three true = omega arith
at_most_three false = omega arith

module _ (o : Opened) (p : ℕ) (l : Leads) where
  pub length_records : length (records_from o p l)
      ≡ 3 + three (leaves o l) + three (enters_thumb l.to) + three l.unknown + three (runs_off o p l) + three (is_some l.stop)
  length_records = unfold records_from ways_in ways_out in
      simp (
        length-append,
        length_three (leaves o l),
        length_three (enters_thumb l.to),
        length_three l.unknown,
        length_three (runs_off o p l),
        length_three (is_some l.stop),
      )
      (omega arith)

-- at most four records of a place: a target outside that enters Thumb is two, and the section's end is one
module _ (o : Opened) (p : ℕ) where
  abbrev Few : Leads → Type 0
  Few l = length (records_from o p l) ≤ 12

  few_on : (w : ℕ) (on unknown : Bool) → Few (goes_on w on unknown)
  few_on w on unknown =
      let l = goes_on w on unknown in
      omega (arith, length_records o p l, at_most_three unknown, at_most_three (runs_off o p l))

  few_to : (w : ℕ) (on thumb : Bool) (target : ℕ) → Few (goes_to w on thumb target)
  few_to w on thumb target =
      let l = goes_to w on thumb target in
      omega (arith, length_records o p l, at_most_three (leaves o l), at_most_three thumb, at_most_three (runs_off o p l))

  few_stops : (w : ℕ) (stop : Stop) → Few (stops w stop)
  few_stops w stop = omega (arith, length_records o p (stops w stop))

  few_flow : (w root : ℕ) (cond : Cond) (flow : Flow) → Few (flow_leads w root cond flow)
  few_flow w root cond Next = few_on w true false
  few_flow w root cond (Branch to) = few_to w false false to
  few_flow w root cond (CondBranch to) = few_to w true false to
  few_flow w root cond IndirectBranch = few_on w (perhaps cond) true
  few_flow w root cond (Call to) = few_to w true (eqb root (name "blx")) to
  few_flow w root cond IndirectCall = few_on w true true
  few_flow w root cond Return = few_on w (perhaps cond) false
  few_flow w root cond Trap = few_on w (perhaps cond) false

  few_answer : (w : ℕ) (d : Decoded) → Few (answer_leads w d)
  few_answer w (Ok i) = few_flow w i.name i.cond i.flow
  few_answer w (Err r) = few_stops w (Refused r)

  few_leads : (here : Here) → Few (here_leads here)
  few_leads (Word w a) = few_answer w (decode_of w a)
  few_leads (DataHere w a) = few_stops w Data
  few_leads End = few_on 0 false false

  pub few_records : (s : List ℕ) → Few (leads_at s p)
  few_records s = unfold leads_at in few_leads (here_of s p)

module _ (s : List ℕ) (m : List Bool) where
  -- the records of a place that is marked, and of one that is not
  module _ (p : ℕ) where
    pub here_is : {o : Opened} {l : Leads} → o ≡ opening_of s → l ≡ leads_at s p → get_or m p false ≡ true → records_here s m p ≡ records_from o p l
    here_is e f marked = unfold records_here in rw (marked, e, f)

    pub here_not : get_or m p false ≡ false → records_here s m p ≡ []
    here_not left = unfold records_here in rw left

    few_here : (b : Bool) → get_or m p false ≡ b → length (records_here s m p) ≤ 12
    few_here true e = omega (arith, ap length (here_is refl refl e), few_records (opening_of s) p s)
    few_here false e = omega (arith, ap length (here_not e))

  -- those of one place more
  pub before_more : (p : ℕ) → length (records_before s m (p + 1)) ≡ length (records_before s m p) + length (records_here s m p)
  before_more p = rw (add-one p) (length-append (records_before s m p) (records_here s m p))

  pub few_before : (p : ℕ) → length (records_before s m p) ≤ 12 * p
  few_before zero = omega arith
  few_before (suc p) =
      omega (arith, length-append (records_before s m p) (records_here s m p), few_before p, few_here p (get_or m p false) refl)

  grows : (p k : ℕ) → length (records_before s m p) ≤ length (records_before s m (p + k))
  grows p zero = let e : p + 0 ≡ p = omega arith in rw e (omega arith)
  grows p (suc k) =
      let e : p + suc k ≡ suc (p + k) = omega arith in
      rw e (omega (arith, grows p k, length-append (records_before s m (p + k)) (records_here s m (p + k))))

  -- those of all places
  pub report_at : {o : Opened} {p : ℕ} → o ≡ opening_of s → p ≡ o.count → records_before s m p ≡ report_of s m
  report_at e f = unfold report_of in rw (f, e)

  pub fits_here : {o : Opened} {p : ℕ} → o ≡ opening_of s → p < o.count
      → length (records_before s m p) + length (records_here s m p) ≤ length (report_of s m)
  fits_here {o} {p} e h =
      let k = o.count - (p + 1) in
      let all : p + 1 + k ≡ o.count = omega arith in
      omega (arith, before_more p, grows (p + 1) k, ap length (report_at e all))

  -- a section has at most 4,096 places: so many numbers take every report
  pub enough : length (report_of s m) ≤ 49152
  enough = omega (arith, ap length (report_at refl refl), few_before (opening_of s).count, (opened s).few)

-- From what is measured to a verdict. Assumes nothing.
use mathlib.Core.Path.{◌≡◌, ap, ◌∙◌}
use mathlib.Core.Bool.{true}
use mathlib.Core.List.{List}
use Prim.Native.Nat.{ℕ, ◌+◌, ◌-◌, ◌≤◌, ◌<◌}
use native.Mathlib.Omega.{arith}
use lib.ListN.{length, get_or}
use Rattle.std.specs.Prelude.{Option, Some, None}
use Rattle.rule_runs.specs.Runs.{Program, Broken}
use Rattle.rule_runs.specs.Summaries.{Summary, Ever, Settled}
use Rattle.rule_places.specs.Coded.{COMMITS, OPENS, coded}
use Rattle.rule_places.specs.declared.Coded.{Coded}
use Rattle.rule_places.proofs.Flags.{flag_inside}
use Rattle.rule_search.specs.Search.{node, dirty_at, StepTo, StartAt, far, dst, Measured}
use Rattle.rule_search.proofs.Nodes.{half_node, dirty_node}
use Rattle.rule_verdict.specs.Parts.{steps_to, Nearest, FirstOpen, back, Traced}
use Rattle.rule_verdict.specs.Verdicts.{Along, Violated, Undecided, Holds}
use Rattle.rule_verdict.specs.declared.Near.{Near}
use Rattle.rule_verdict.proofs.Ways.{no_shorter, run_reached, back_inside, way_along, reached_run}

module _ (program : Coded) {S : Summary} (settles : Settled (coded program program.entries.now) S) {D F : List ℕ}
    (m : Measured (StartAt (coded program program.entries.now)) (StepTo (coded program program.entries.now) S) D F) where
  abbrev P : Program
  P = coded program program.entries.now

  abbrev flags : List ℕ
  flags = program.flags.now

  module _ {r : Option Near} (n : Nearest flags D (length flags) r) where
    -- the nearest commit, if one is reached
    module _ {near : Near} (is : r ≡ Some near) where
      pub near_inside : near.place < length flags
      near_inside = flag_inside flags near.place COMMITS (n.found near is).0

      at : dst D (node near.place true) ≡ near.steps
      at = (n.found near is).1

      reached : dst D (node near.place true) < far
      reached = omega (arith, at, (n.found near is).2)

      steps : steps_to r ≡ near.steps
      steps = ap steps_to is

      pub stays : (k : ℕ) → k ≤ near.steps → back F (node near.place true) k < length D
      stays k h = back_inside P settles m (node near.place true) reached k (omega (arith, at))

      pub fits : near.steps < length D
      fits = omega (arith, at, m.short (node near.place true) reached)

      pub violated : {way last : List ℕ} {places : ℕ} → places ≡ near.steps + 1 → places ≤ length last → Traced F (node near.place true) near.steps way last
          → Violated P way last places
      violated {way} {last} many room t = record {
        steps = near.steps;
        many = many;
        fits = room;
        breaks = (rw at at along, rw last_place (n.found near is).0);
        shortest = λ f j (a, c).
            let (r, l) = no_shorter P settles m a in
            omega (arith, steps, n.least (f j) (flag_inside flags (f j) COMMITS c) c);
        rest = λ i h. t.rest i (omega arith);
      }
        where
          x : ℕ
          x = node near.place true

          none : dst D (node near.place true) - dst D (node near.place true) ≡ 0
          none = omega arith

          state : dirty_at (back F (node near.place true) (dst D (node near.place true) - dst D (node near.place true))) ≡ true
          state = rw none (dirty_node near.place true)

          along : Along P (Ever P) (λ i. get_or last i 0) (dst D (node near.place true)) true
          along = rw state at (way_along P settles m (node near.place true) reached (λ i. get_or last i 0)
              (λ i h. rw at (t.written i (omega (arith, at)))) (dst D (node near.place true)) (omega arith))

          last_place : get_or last near.steps 0 ≡ near.place
          last_place =
              let nothing : near.steps - near.steps ≡ 0 = omega arith in
              rw nothing at (t.written near.steps (omega arith)) ∙ half_node near.place true

    -- or none is
    module _ (is : r ≡ None) where
      none-near : steps_to r ≡ far
      none-near = ap steps_to is

      pub unbroken : Broken P → ⊥
      unbroken (p, s, st, run, (c, e)) =
          let r = run_reached P settles m p s st run in
          let r' : dst D (node p true) < far = rw e at r in
          omega (arith, none-near, n.least p (flag_inside flags p COMMITS c) c)

      pub undecided : {q : ℕ} → FirstOpen flags D (Some q) → Undecided P q
      undecided {q} (l, (opens, (s, r)), first) = record {
        unbroken = unbroken;
        opens = opens;
        reached = let (st, run) = reached_run P settles m q s r in (s, st, run);
        first = λ x h o s' st run. first x h (o, (s', run_reached P settles m x s' st run));
      }

      pub holds : FirstOpen flags D None → Holds P
      holds f = record {
        unbroken = unbroken;
        closed = λ (p, s, st, run, o). f p (flag_inside flags p OPENS o) (o, (s, run_reached P settles m p s st run));
      }

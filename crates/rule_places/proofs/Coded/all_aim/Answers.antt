-- `rule_places::Coded::all_aim` meets its contract: behind the last place no flag is set. Assumes nothing.
use Rattle.std.proofs.Common.{rules, ◌≡◌, true, ◌↔◌, ℕ, ◌<◌, length}
use Rattle.std.proofs.iter.runs.Sources.{ranges}
use Rattle.rule_places.specs.Coded.{has, flags_at, target_at, TARGET}
use Rattle.rule_places.proofs.Flags.{all_below}
use Rattle.rule_places.proofs.Coded.all_aim.Goals as goal

pub returns : goal.returns
returns c =
    let flags = c.args.self.flags.now in
    let targets = c.args.self.targets.now in
    let inside : (c.all.result ≡ true)
    ↔ ((p : ℕ) → p < length flags → has (flags_at flags p) TARGET ≡ true → target_at flags targets p < length flags)
    = search (rules, ranges) in
    (λ e. all_below flags targets (inside.0 e), λ h. inside.1 (λ p l. h p))

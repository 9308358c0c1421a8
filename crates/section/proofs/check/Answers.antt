-- `section::check` meets its contract. Assumes nothing.
use mathlib.Core.Path.{ap, sym, ◌∙◌}
use Rattle.section.specs.Section.{is_known}
use Rattle.section.proofs.Checks.{too_short, no_mark, unknown, cut}
use Rattle.section.proofs.check.Goals as goal

pub returns-then-bytes-lt-HEADER : goal.returns-then-bytes-lt-HEADER
returns-then-bytes-lt-HEADER c = sym (too_short c.args.bytes.now c.if-bytes-lt-HEADER.true)

pub returns-then-not-is_marked : goal.returns-then-not-is_marked
returns-then-not-is_marked c =
    sym (no_mark c.args.bytes.now c.if-bytes-lt-HEADER.false (sym c.is_marked.ensures ∙ c.if-not-is_marked.true))

pub returns-then-not-is_known : goal.returns-then-not-is_known
returns-then-not-is_known c =
    let marked = sym c.is_marked.ensures ∙ c.if-not-is_marked.false in
    let known = c.is_known.ensures ∙ ap is_known c.version.ensures in
    sym (unknown c.args.bytes.now c.if-bytes-lt-HEADER.false marked (sym known ∙ c.if-not-is_known.true))

pub returns-then-is_cut : goal.returns-then-is_cut
returns-then-is_cut c =
    let marked = sym c.is_marked.ensures ∙ c.if-not-is_marked.false in
    let known = c.is_known.ensures ∙ ap is_known c.version.ensures in
    sym (cut c.args.bytes.now c.if-bytes-lt-HEADER.false marked (sym known ∙ c.if-not-is_known.false) (sym c.is_cut.ensures ∙ c.if-is_cut.true))

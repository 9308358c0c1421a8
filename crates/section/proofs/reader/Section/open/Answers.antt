-- `section::Section::open` meets its contract. Assumes nothing.
use mathlib.Core.Path.{sym, ap, ◌∙◌}
use Rattle.std.proofs.lemmas.Result.{err_from_is_err_and}
use Rattle.section.specs.Section.{refusal_of}
use Rattle.section.proofs.Refused.{refused_by}
use Rattle.section.proofs.Accepted.{same_refusal, none_refused, is_section}
use Rattle.word.specs.Refusal.{refused_with}
use Rattle.section.proofs.reader.Section.open.Goals as goal

pub returns-in_err-opened : goal.returns-in_err-opened
returns-in_err-opened c =
    let s = c.args.bytes.now in
    let p = err_from_is_err_and c.from_residual.result c.from_residual.ensures.1 in
    rw (p.1, p.2) (refused_by s (refusal_of s) c.in_err-opened.field-0.0 (ap refused_with c.in_err-opened.ensures ∙ same_refusal s))

pub returns : goal.returns
returns c = sym (is_section c.args.bytes.now (none_refused c.args.bytes.now (sym c.in_ok-opened.ensures)))

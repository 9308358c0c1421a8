-- `home_form::home_word` meets its contract. Assumes nothing.
use mathlib.Core.Path.{ap, ◌∙◌}
use Rattle.std.specs.Result.{result_unwrap_or}
use Rattle.home_form.proofs.Homes.{own_or_home}
use Rattle.home_form.proofs.home_word.Goals as goal

pub returns : goal.returns
returns c = c.unwrap_or.ensures ∙ ap (λ x. result_unwrap_or x c.args.w) c.home_with.ensures ∙ own_or_home c.args.w

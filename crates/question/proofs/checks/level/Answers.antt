-- `question::checks::level` meets its contract. Assumes nothing.
use Rattle.limits.specs.Refusals.{number_of}
use Rattle.question.specs.Checks.{refuses, lets_pass}
use mathlib.Core.Path.{refl, sym, ◌∙◌}
use Rattle.question.proofs.checks.level.Goals as goal

pub returns-then-bad_level : goal.returns-then-bad_level
unfolding number_of
returns-then-bad_level c = refuses (sym c.bad_level.ensures ∙ c.if-bad_level.true) refl

pub returns : goal.returns
returns c = lets_pass (sym c.bad_level.ensures ∙ c.if-bad_level.false)

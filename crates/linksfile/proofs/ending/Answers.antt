-- `linksfile::ending` meets its contract. Assumes nothing.
use Rattle.linksfile.specs.Checks.{end_1, end_after, end_good}
use mathlib.Core.Path.{sym, ◌∙◌}
use native.Mathlib.Omega.{arith}
use Rattle.limits.specs.Refusals.{number_of, checked_in}
use Rattle.linksfile.proofs.ending.Goals as goal

pub returns-then-not-whole_record : goal.returns-then-not-whole_record
unfolding number_of checked_in
returns-then-not-whole_record c = end_1 _ _ (sym c.whole_record.ensures ∙ c.if-not-whole_record.true)

pub returns-then-at-s : goal.returns-then-at-s
unfolding number_of checked_in
returns-then-at-s c = end_after _ _ (sym c.whole_record.ensures ∙ c.if-not-whole_record.false) (omega (arith, c.if-at-s.true))

pub returns : goal.returns
unfolding number_of checked_in
returns c = end_good _ _ (sym c.whole_record.ensures ∙ c.if-not-whole_record.false) (omega (arith, c.if-at-s.false))

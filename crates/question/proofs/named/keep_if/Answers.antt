-- `question::named::keep_if` meets its contract. Assumes nothing.
use mathlib.Core.Path.{refl}
use Rattle.laws.proofs.Lists.{true_not_false}
use Rattle.question.proofs.named.keep_if.Goals as goal

pub returns-then-not-test : goal.returns-then-not-test
returns-then-not-test c = record { stays = λ e. absurd (true_not_false e c.if-not-test.true); goes = λ _. c.put.ensures }

pub returns-else-not-test : goal.returns-else-not-test
returns-else-not-test c = record { stays = λ _. refl; goes = λ e. absurd (true_not_false c.if-not-test.false e) }

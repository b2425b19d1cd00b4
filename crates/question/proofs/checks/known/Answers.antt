-- `question::checks::known` meets its contract. Assumes nothing.
use native.Mathlib.Omega.{arith}
use Rattle.limits.specs.Refusals.{number_of}
use Rattle.stored.specs.Opening.{graph}
use Rattle.question.specs.Checks.{refuses, lets_pass, one_outside, none_outside}
use mathlib.Core.Path.{refl}
use Rattle.question.proofs.checks.known.Goals as goal

pub returns-then-index-a : goal.returns-then-index-a
unfolding number_of
returns-then-index-a c = refuses (one_outside (graph c.args.index) c.args.index.shape.accounts c.args.accounts.now {k = c.loop-a.a-index} (omega arith) (omega arith)) refl

pub returns : goal.returns
returns c = lets_pass (none_outside (graph c.args.index) c.args.index.shape.accounts c.args.accounts.now (λ k l. c.loop-a.invariant k (omega arith)))

-- `question::named::greatest` meets its contract. Assumes nothing.
use native.Mathlib.Omega.{arith}
use mathlib.Core.Path.{◌≡◌}
use Rattle.question.specs.Named.{best_none, best_more}
use Rattle.question.proofs.named.greatest.Goals as goal

pub loop-g-init : goal.loop-g-init
loop-g-init c = best_none

pub better-best-requires : goal.better-best-requires
better-best-requires c = record { w_len = c.requires; g_lt_count = c.loop-g-test.true; best_bound = c.loop-g.invariant.small }

pub loop-g-preserved : goal.loop-g-preserved
loop-g-preserved c = best_more c.loop-g.invariant c.better-best.ensures

pub returns : goal.returns
returns c = let e : c.loop-g.g ≡ c.args.index.groups = omega arith in rw e at c.loop-g.invariant

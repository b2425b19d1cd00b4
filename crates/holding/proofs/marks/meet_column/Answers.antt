-- `holding::marks::meet_column` meets its contract. Assumes nothing.
use native.Mathlib.Omega.{arith}
use mathlib.Core.Path.{◌∙◌}
use Rattle.holding.specs.Turns.{meets_more}
use Rattle.holding.proofs.marks.meet_column.Goals as goal

pub meet-requires : goal.meet-requires
meet-requires c = record { w_len = c.loop-g.invariant.only.length_is ∙ c.requires.w_len; c_bound = c.requires.c_bound; g_lt_m = omega (arith, c.loop-g-test.true, c.requires.count_le_m) }

pub loop-g-preserved : goal.loop-g-preserved
loop-g-preserved c = meets_more (λ z. omega (arith, z, c.requires.c_nonzero)) (omega (arith, c.loop-g-test.true, c.requires.count_le_m)) c.requires.w_len c.loop-g.invariant c.meet.ensures

-- `question::named::keep_level` meets its contract. Assumes nothing.
use native.Mathlib.Omega.{arith}
use Rattle.stored.specs.Rows.{shape_sized, sized_few}
use Rattle.question.specs.Named.{keep-none, keep_more, level_done}
use Rattle.question.proofs.named.keep_level.Goals as goal

pub loop-g-init : goal.loop-g-init
loop-g-init c = keep-none c.requires.w_len

pub is_group_at-t-requires : goal.is_group_at-t-requires
is_group_at-t-requires c = record { min_level_le_k = c.requires.min_level_le_k; g_lt_count = c.loop-g-test.true }

pub keep_if-requires : goal.keep_if-requires
keep_if-requires c = record { w_len = c.loop-g.invariant.size_is; g_lt_m = omega (arith, c.loop-g-test.true, (sized_few (shape_sized c.args.index.shape)).0) }

pub loop-g-preserved : goal.loop-g-preserved
loop-g-preserved c = keep_more (shape_sized c.args.index.shape) c.loop-g-test.true c.loop-g.invariant c.is_group_at-t.ensures c.keep_if.ensures

pub returns : goal.returns
returns c = level_done (omega arith) c.loop-g.invariant

-- `question::named::keep_strongest` meets its contract. Assumes nothing.
use native.Mathlib.Omega.{arith}
use Rattle.stored.specs.Rows.{shape_sized, sized_few}
use Rattle.question.specs.Named.{keep-none, keep_more, strongest_done, strong_tells}
use Rattle.question.proofs.named.keep_strongest.Goals as goal

pub loop-g-init : goal.loop-g-init
loop-g-init c = keep-none c.requires

pub group_strength-t-requires : goal.group_strength-t-requires
group_strength-t-requires c = let S = c.args.index.shape in record { groups_at = S.groups_at_lem; g_bound = omega (arith, c.loop-g-test.true, S.groups) }

pub keep_if-requires : goal.keep_if-requires
keep_if-requires c = record { w_len = c.loop-g.invariant.size_is; g_lt_m = omega (arith, c.loop-g-test.true, (sized_few (shape_sized c.args.index.shape)).0) }

pub loop-g-preserved : goal.loop-g-preserved
loop-g-preserved c = keep_more (shape_sized c.args.index.shape) c.loop-g-test.true c.loop-g.invariant (strong_tells c.args.index.bytes.now c.loop-g.g c.group_strength-t.ensures.0) c.keep_if.ensures

pub returns : goal.returns
returns c = strongest_done (omega arith) c.loop-g.invariant

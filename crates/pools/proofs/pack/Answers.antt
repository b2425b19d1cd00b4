-- `pools::pack` meets its contract. Assumes nothing.
use mathlib.Core.Path.{refl}
use native.Mathlib.Omega.{arith}
use Rattle.pools.specs.Packing.{rowed_asks, rowed_more}
use Rattle.pools.proofs.pack.Goals as goal

pub of-from-requires : goal.of-from-requires
of-from-requires c = omega (arith, c.loop-a-test.true, c.requires.long)

pub overflow_add-a : goal.overflow_add-a
overflow_add-a c = omega (arith, c.loop-a-test.true, c.requires.small)

pub of-until-requires : goal.of-until-requires
of-until-requires c = omega (arith, c.loop-a-test.true, c.requires.long)

pub pack_row-to-requires : goal.pack_row-to-requires
pack_row-to-requires c = rowed_asks c.requires c.loop-a.invariant c.loop-a-test.true c.of-from.ensures.0 c.of-until.ensures.0

pub overflow_cast-end : goal.overflow_cast-end
overflow_cast-end c = omega (arith, c.pack_row-to.ensures.packed.fits, (rowed_asks c.requires c.loop-a.invariant c.loop-a-test.true c.of-from.ensures.0 c.of-until.ensures.0).fits, c.requires.few)

pub bounds-end-a : goal.bounds-end-a
bounds-end-a c = omega (arith, c.loop-a-test.true, c.loop-a.invariant.wide)

pub loop-a-preserved : goal.loop-a-preserved
loop-a-preserved c = rowed_more c.requires c.loop-a.invariant c.loop-a-test.true c.of-from.ensures.0 c.of-until.ensures.0 c.pack_row-to.ensures refl

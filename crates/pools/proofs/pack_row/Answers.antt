-- `pools::pack_row` meets its contract. Assumes nothing.
use native.Mathlib.Omega.{arith}
use Rattle.pools.specs.Packing.{packing_asks, packing_more, packing_all}
use Rattle.pools.proofs.pack_row.Goals as goal

pub keep-to-requires : goal.keep-to-requires
keep-to-requires c = packing_asks c.requires c.loop-j.invariant c.loop-j-test.true

pub loop-j-preserved : goal.loop-j-preserved
loop-j-preserved c = packing_more c.requires c.loop-j.invariant c.loop-j-test.true c.keep-to.ensures

pub returns : goal.returns
returns c = packing_all (omega (arith, c.loop-j-test.false, (c.loop-j.auto.j-end (omega arith)))) c.loop-j.invariant

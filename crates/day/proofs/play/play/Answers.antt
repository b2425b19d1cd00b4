-- `day::play::play` meets its contract. Assumes nothing.
use native.Mathlib.Omega.{arith}
use mathlib.Core.Path.{refl}
use Rattle.day.specs.Playing.{standing_none, standing_row, standing_asks, standing_more, standing_all}
use Rattle.day.proofs.play.play.Goals as goal

pub loop-i-init : goal.loop-i-init
loop-i-init c = λ G k n groups A. standing_none A

pub turn-after-requires : goal.turn-after-requires
turn-after-requires c = let (G, k, n, groups, A) = c.requires in let S = c.loop-i.invariant G k n groups A in record { in_row = standing_row A S c.loop-i-test.true; turn_asks = standing_asks A S c.loop-i-test.true }

pub bounds-taken-i : goal.bounds-taken-i
bounds-taken-i c = let (G, k, n, groups, A) = c.requires in omega (arith, A.room, c.loop-i-test.true)

pub loop-i-preserved : goal.loop-i-preserved
loop-i-preserved c = λ G k n groups A. standing_more A (c.loop-i.invariant G k n groups A) c.loop-i-test.true c.turn-after.ensures c.from.ensures refl

pub returns : goal.returns
returns c = λ G k n groups A. standing_all A (omega arith) (c.loop-i.invariant G k n groups A)

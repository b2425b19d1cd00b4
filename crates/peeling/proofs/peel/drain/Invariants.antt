-- `peeling::peel::drain` meets its contract. Assumes nothing.
use Rattle.peeling.specs.Drain.{DrainTurns}
use Prim.Native.Nat.{◌-◌}
use lib.ListN.{length}
use mathlib.Core.Path.{◌≡◌}
use Rattle.peeling.proofs.peel.drain.Given as goal

abbrev pub invariant-loop-head : goal.invariant-loop-head
invariant-loop-head l = (length l.w ≡ length l.initial.w) × (length l.stop ≡ length l.initial.stop) × (length l.mark ≡ length l.initial.mark) × DrainTurns l.m l.n l.s l.until l.all l.head l.tail l.at l.initial.w l.w l.start l.initial.stop l.stop l.initial.mark l.mark

abbrev pub decreases-loop-head : goal.decreases-loop-head
decreases-loop-head l = l.m - l.head

-- `counting::touch_higher` meets its contract. Assumes nothing.
use Rattle.counting.specs.Ends.{Walked, pointer}
use Rattle.counting.proofs.touch_higher.Given as goal

abbrev pub invariant-loop-next : goal.invariant-loop-next
invariant-loop-next l = Walked l.index.bytes.now l.index.m l.index.groups l.v (pointer l.next) l.initial.w l.w

abbrev pub decreases-loop-next : goal.decreases-loop-next
decreases-loop-next l = pointer l.next

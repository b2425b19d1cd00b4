-- `counting::touch_lower` meets its contract. Assumes nothing.
use Rattle.counting.specs.Ends.{Passed}
use Rattle.counting.proofs.touch_lower.Given as goal

abbrev pub invariant-loop-i : goal.invariant-loop-i
invariant-loop-i l = Passed l.index.bytes.now l.index.m l.index.groups l.v l.p l.i l.initial.w l.w

-- `day::play::play` meets its contract. Assumes nothing.
use Prim.Native.Nat.{ℕ}
use Rattle.truss.specs.Graph.{Graph}
use Rattle.day.specs.Playing.{PlayAsks, Standing}
use Rattle.day.proofs.play.play.Given as goal

abbrev pub invariant-loop-i : goal.invariant-loop-i
invariant-loop-i l = (G : Graph) (k n groups : ℕ) (A : PlayAsks G k n groups l.m l.opening l.count l.records l.initial.w l.start l.end l.initial.own l.initial.taken) → Standing A l.i l.limit l.w l.own l.taken

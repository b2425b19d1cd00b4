-- `index::open::read_keys` meets its contract. Assumes nothing.
use Rattle.index.specs.Open.{KeysSoFar}
use Rattle.index.proofs.open.read_keys.Given as goal

abbrev pub invariant-loop-i : goal.invariant-loop-i
invariant-loop-i l = KeysSoFar l.s l.n l.m l.i l.last l.w

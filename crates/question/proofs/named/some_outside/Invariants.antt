-- `question::named::some_outside` meets its contract. Assumes nothing.
use Rattle.question.specs.Named.{FirstBelow}
use Rattle.question.proofs.named.some_outside.Given as goal

abbrev pub invariant-loop-j : goal.invariant-loop-j
invariant-loop-j l = FirstBelow l.named l.index.n l.j

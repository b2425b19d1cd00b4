-- `question::named::greatest` meets its contract. Assumes nothing.
use Rattle.stored.specs.Opening.{graph}
use Rattle.question.specs.Named.{Best}
use Rattle.question.proofs.named.greatest.Given as goal

abbrev pub invariant-loop-g : goal.invariant-loop-g
invariant-loop-g l = Best (graph l.index) l.index.m l.g l.best l.w

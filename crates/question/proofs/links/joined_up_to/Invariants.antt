-- `question::links::joined_up_to` meets its contract. Assumes nothing.
use Rattle.stored.specs.Opening.{graph}
use Rattle.question.specs.Links.{NoneFrom}
use Rattle.question.proofs.links.joined_up_to.Given as goal

abbrev pub invariant-loop-k : goal.invariant-loop-k
invariant-loop-k l = NoneFrom (graph l.index) l.e l.f l.k

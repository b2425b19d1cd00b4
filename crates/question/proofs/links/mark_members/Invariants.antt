-- `question::links::mark_members` meets its contract. Assumes nothing.
use Rattle.stored.specs.Opening.{graph}
use Rattle.question.specs.Links.{Members}
use Rattle.question.proofs.links.mark_members.Given as goal

abbrev pub invariant-loop-i : goal.invariant-loop-i
invariant-loop-i l = Members (graph l.index) l.k l.e l.index.m l.i l.w

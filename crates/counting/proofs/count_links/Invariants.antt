-- `counting::count_links` meets its contract. Assumes nothing.
use Rattle.stored.specs.Opening.{graph}
use Rattle.counting.specs.Touching.{Both}
use Rattle.counting.specs.Counting.{Rounds, member_of}
use Rattle.counting.proofs.count_links.Given as goal

abbrev pub invariant-loop-i : goal.invariant-loop-i
invariant-loop-i l = Both l.index.m l.index.groups 5 l.initial.w l.w × Rounds l.index.m l.index.groups 5 l.i (member_of (graph l.index)) l.w

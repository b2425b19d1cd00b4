-- `holding::marks::mark_links` meets its contract. Assumes nothing.
use Rattle.holding.specs.Turns.{OwnMarks}
use Rattle.holding.proofs.marks.mark_links.Given as goal

abbrev pub invariant-loop-i : goal.invariant-loop-i
invariant-loop-i l = OwnMarks l.index.bytes.now l.index.m l.index.groups l.d l.ranks l.i l.w

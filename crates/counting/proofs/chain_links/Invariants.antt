-- `counting::chain_links` meets its contract. Assumes nothing.
use Rattle.counting.specs.Ends.{Chained}
use Rattle.counting.proofs.chain_links.Given as goal

abbrev pub invariant-loop-i : goal.invariant-loop-i
invariant-loop-i l = Chained l.index.bytes.now l.index.m l.i l.initial.w l.w l.head

-- `holding::ranks::rank_all` meets its contract. Assumes nothing.
use Rattle.holding.specs.Turns.{RankState}
use Rattle.holding.proofs.ranks.rank_all.Given as goal

abbrev pub invariant-loop-j : goal.invariant-loop-j
invariant-loop-j l = RankState l.n l.j l.d l.named l.ranks

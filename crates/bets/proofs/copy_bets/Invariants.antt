-- `bets::copy_bets` meets its contract. Assumes nothing.
use Rattle.std.proofs.Common.{◌≡◌}
use Rattle.wire.specs.Writing.{written}
use Rattle.bets.specs.Row.{row_of}
use Rattle.bets.proofs.copy_bets.Given as goal

abbrev pub invariant-loop-i : goal.invariant-loop-i
invariant-loop-i l = l.row ≡ written l.initial.row 0 (row_of l.i l.bets)

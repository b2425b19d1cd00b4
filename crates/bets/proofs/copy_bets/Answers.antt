-- `bets::copy_bets` meets its contract. Assumes nothing.
use Rattle.std.proofs.Common.{arith}
use Rattle.bets.specs.Row.{copied_none, copied_more}
use Rattle.bets.proofs.copy_bets.Goals as goal

pub loop-i-init : goal.loop-i-init
loop-i-init c = copied_none c.args.row.now c.args.bets.now

pub loop-i-preserved : goal.loop-i-preserved
loop-i-preserved c = copied_more c.args.row.now c.args.bets.now c.loop-i.i (omega arith) (omega arith) c.loop-i.invariant c.put_bet.ensures

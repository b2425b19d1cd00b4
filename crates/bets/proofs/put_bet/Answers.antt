-- `bets::put_bet` meets its contract. Assumes nothing.
use native.Mathlib.Omega.{arith}
use Rattle.bets.specs.Row.{bet_put}
use Rattle.bets.proofs.put_bet.Goals as goal

pub returns : goal.returns
returns c = bet_put c.args.row.now c.args.i c.args.b (omega (arith, c.requires)) c.bet_record-rec.ensures c.paste.ensures

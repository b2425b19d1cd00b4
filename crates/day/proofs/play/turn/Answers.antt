-- `day::play::turn` meets its contract. Assumes nothing.
use native.Mathlib.Omega.{arith}
use mathlib.Core.Path.{refl}
use Rattle.day.specs.Records.{bet_named, limit_named}
use Rattle.day.specs.Sums.{is_limit, is_bet, turn_asks}
use Rattle.day.proofs.play.turn.Goals as goal

pub take_bet-taken-requires : goal.take_bet-taken-requires
take_bet-taken-requires c = turn_asks c.requires.turn_asks (bet_named c.args.records.now _ c.record_at.ensures c.in-Bet.is) (omega arith)

pub returns-in-Bet : goal.returns-in-Bet
returns-in-Bet c = is_bet (bet_named c.args.records.now _ c.record_at.ensures c.in-Bet.is) refl c.take_bet-taken.ensures

pub returns-in-Limit : goal.returns-in-Limit
returns-in-Limit c = is_limit (limit_named c.args.records.now _ c.record_at.ensures c.in-Limit.is) refl refl (omega arith) refl refl

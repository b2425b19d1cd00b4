-- `bets::bet_record` meets its contract. Assumes nothing.
use mathlib.Core.Path.{refl}
use Rattle.bets.specs.Row.{top_byte}
use Rattle.bets.proofs.bet_record.Goals as goal

pub returns : goal.returns
returns c = rw (c.to_be_bytes.ensures, c.to_be_bytes-2.ensures, top_byte c.args.bet.account, top_byte c.args.bet.amount) refl

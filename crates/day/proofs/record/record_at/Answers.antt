-- `day::record::record_at` meets its contract. Assumes nothing.
use Rattle.day.specs.Records.{limit_read, bet_read}
use Rattle.day.proofs.record.record_at.Goals as goal

pub returns-then-s-at-ne0 : goal.returns-then-s-at-ne0
returns-then-s-at-ne0 c = limit_read c.args.s.now _ c.if-s-at-ne0.true c.wide_at-amount.ensures

pub returns : goal.returns
returns c = bet_read c.args.s.now _ c.if-s-at-ne0.false c.wide_at.ensures c.wide_at-amount.ensures

-- `day::play::take_bet` meets its contract. Assumes nothing.
use mathlib.Core.Path.{refl}
use Rattle.day.specs.Sums.{bet_row, bet_in_groups, bet_alone, bet_alone_full}
use Rattle.day.proofs.play.take_bet.Goals as goal

pub bet_held-requires : goal.bet_held-requires
bet_held-requires c = record { row_safe = bet_row c.of-from.ensures.0 c.of-to.ensures.0 c.requires; stake_lt_entry_bound = c.requires.small; limit_lt_entry_bound = c.requires.limited }

pub returns-then-from-to : goal.returns-then-from-to
returns-then-from-to c = bet_in_groups c.of-from.ensures.0 c.of-to.ensures.0 c.if-from-to.true c.bet_held.ensures

pub returns-then-limit-sum : goal.returns-then-limit-sum
returns-then-limit-sum c = bet_alone_full c.of-from.ensures.0 c.of-to.ensures.0 c.if-from-to.false c.of-sum.ensures.0 refl c.if-limit-sum.true

pub returns : goal.returns
returns c = bet_alone c.of-from.ensures.0 c.of-to.ensures.0 c.if-from-to.false c.of-sum.ensures.0 refl c.if-limit-sum.false refl

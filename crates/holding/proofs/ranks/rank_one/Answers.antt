-- `holding::ranks::rank_one` meets its contract. Assumes nothing.
use mathlib.Core.Path.{refl}
use Rattle.holding.specs.Turns.{ranked_again, ranked_new}
use Rattle.holding.proofs.ranks.rank_one.Goals as goal

pub returns-then-ranks-v-ne0 : goal.returns-then-ranks-v-ne0
returns-then-ranks-v-ne0 c = ranked_again c.if-ranks-v-ne0.true

pub returns : goal.returns
returns c = ranked_new c.if-ranks-v-ne0.false refl

-- `holding::marks::mark` meets its contract. Assumes nothing.
use Rattle.holding.specs.Turns.{marked-none, marked-store}
use Rattle.holding.proofs.marks.mark.Goals as goal

pub returns-in-Some : goal.returns-in-Some
returns-in-Some c = rw (c.in-Some.is, c.put.ensures) (marked-store _ _ _ _ (rw c.in-Some.is at c.requires.rank_bound) c.requires.g_lt_m c.requires.w_len)

pub returns-in_default : goal.returns-in_default
returns-in_default c = rw c.in_default.is marked-none

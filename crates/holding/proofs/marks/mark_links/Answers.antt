-- `holding::marks::mark_links` meets its contract. Assumes nothing.
use Rattle.holding.specs.Turns.{own-none}
use Rattle.holding.proofs.marks.mark_links.Goals as goal

pub mark_link-requires : goal.mark_link-requires
mark_link-requires c = record { mark_given = c.requires.mark_given; own_marks = c.loop-i.invariant; i_lt_m = c.loop-i-test.true }

pub loop-i-preserved : goal.loop-i-preserved
loop-i-preserved c = c.mark_link.ensures

pub loop-i-init : goal.loop-i-init
loop-i-init c = own-none c.requires.mark_given.columns c.requires.w_value

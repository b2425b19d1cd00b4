-- `question::lists::give` meets its contract. Assumes nothing.
use native.Mathlib.Omega.{arith}
use Rattle.ordering.specs.Rows.{marked}
use Rattle.question.specs.Lists.{marked_few, list_stops, list_goes_on}
use Rattle.question.proofs.lists.give.Goals as goal

pub give_count-requires : goal.give_count-requires
give_count-requires c = omega (arith, c.count_marks.ensures, marked_few c.args.w.now c.args.m c.args.size, c.requires.part, c.requires.few)

pub returns-in_err-given : goal.returns-in_err-given
returns-in_err-given c = list_stops (marked c.args.w.now c.args.m c.args.size) c.args.out.now c.count_marks.ensures c.from_residual.result _ c.from_residual.ensures.1 c.in_err-given.ensures

pub returns : goal.returns
returns c = list_goes_on (marked c.args.w.now c.args.m c.args.size) c.args.out.now c.count_marks.ensures c.in_ok-given.ensures c.write_marks.ensures

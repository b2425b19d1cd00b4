-- `question::lists::give_row` meets its contract. Assumes nothing.
use mathlib.Core.Path.{sym}
use Rattle.columns.specs.Columns.{cell}
use Rattle.ordering.specs.Rows.{front, front_length}
use Rattle.question.specs.Lists.{list_stops, list_goes_on}
use Rattle.question.proofs.lists.give_row.Goals as goal

pub returns-in_err-given : goal.returns-in_err-given
returns-in_err-given c = list_stops (front (cell c.args.w.now c.args.m 3) c.args.r) c.args.out.now (sym (front_length (cell c.args.w.now c.args.m 3) c.args.r)) c.from_residual.result _ c.from_residual.ensures.1 c.in_err-given.ensures

pub returns : goal.returns
returns c = list_goes_on (front (cell c.args.w.now c.args.m 3) c.args.r) c.args.out.now (sym (front_length (cell c.args.w.now c.args.m 3) c.args.r)) c.in_ok-given.ensures c.write_row.ensures

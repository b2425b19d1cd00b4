-- `trial::try_of` meets its contract. Assumes nothing.
use native.Mathlib.Omega.{arith}
use Rattle.stored.specs.Rows.{sized_few, shape_sized}
use Rattle.trial.specs.Trial.{gives_refused, gives_done, closing_row, closing_room}
use Rattle.trial.proofs.try_of.Goals as goal

pub returns-in_err-closing-clause-numbers_of_lem : goal.returns-in_err-closing-clause-numbers_of_lem
returns-in_err-closing-clause-numbers_of_lem c = gives_refused c.try_in.ensures (λ zs. zs) c.args.margins.now _ c.from_residual.result c.in_err-closing.was c.from_residual.ensures.1

pub write_margins-requires : goal.write_margins-requires
write_margins-requires c = record { row_given = closing_row c.try_in.ensures c.in_ok-closing.was; r_in_bounds = (closing_room c.try_in.ensures c.in_ok-closing.was).0 }

pub overflow_cast-result : goal.overflow_cast-result
overflow_cast-result c = omega (arith, (closing_room c.try_in.ensures c.in_ok-closing.was).1, sized_few (shape_sized c.args.index.shape))

pub returns-clause-numbers_of_lem : goal.returns-clause-numbers_of_lem
returns-clause-numbers_of_lem c = gives_done c.try_in.ensures c.in_ok-closing.was (λ zs. zs) c.args.margins.now c.write_margins.ensures

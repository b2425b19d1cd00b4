-- `trial::try_bytes_of` meets its contract. Assumes nothing.
use native.Mathlib.Omega.{arith}
use mathlib.Core.Path.{◌∙◌}
use Rattle.stored.specs.Rows.{sized_few, shape_sized}
use Rattle.trial.specs.Trial.{gives_refused, gives_done, closing_row, closing_room}
use Rattle.truss.specs.Lists.{concat_map}
use Rattle.truss.specs.Bets.{margin_bytes}
use Rattle.wire.specs.Writing.{written_start}
use Rattle.trial.proofs.try_bytes_of.Goals as goal

pub returns-in_err-closing-clause-bytes_of : goal.returns-in_err-closing-clause-bytes_of
returns-in_err-closing-clause-bytes_of c = gives_refused c.try_in.ensures (concat_map margin_bytes) c.args.margins.now _ c.from_residual.result c.in_err-closing.was c.from_residual.ensures.1

pub write_bytes-requires : goal.write_bytes-requires
write_bytes-requires c = record { row_given = closing_row c.try_in.ensures c.in_ok-closing.was; margin_length_in_bounds = omega (arith, (closing_room c.try_in.ensures c.in_ok-closing.was).0) }

pub overflow_cast-result : goal.overflow_cast-result
overflow_cast-result c = omega (arith, (closing_room c.try_in.ensures c.in_ok-closing.was).1, sized_few (shape_sized c.args.index.shape))

pub returns-clause-bytes_of : goal.returns-clause-bytes_of
returns-clause-bytes_of c = gives_done c.try_in.ensures c.in_ok-closing.was (concat_map margin_bytes) c.args.margins.now (c.write_bytes.ensures ∙ written_start _ _)

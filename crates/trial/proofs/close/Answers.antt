-- `trial::close` meets its contract. Assumes nothing.
use native.Mathlib.Omega.{arith}
use mathlib.Core.Path.{sym}
use lib.Seq.{length-take-le}
use Rattle.trial.specs.Trial.{few_n}
use Rattle.trial.proofs.close.Goals as goal

pub overflow_add-start : goal.overflow_add-start
overflow_add-start c = omega (arith, few_n c.args.index c.requires)

pub slice_bounds-start-end : goal.slice_bounds-start-end
slice_bounds-start-end c = omega (arith, few_n c.args.index c.requires)

pub slice_bounds-close_with-end : goal.slice_bounds-close_with-end
slice_bounds-close_with-end c = sym (length-take-le _ _ (omega (arith, few_n c.args.index c.requires)))

pub slice_bounds-end-end : goal.slice_bounds-end-end
slice_bounds-end-end c = omega (arith, few_n c.args.index c.requires)

pub slice_bounds-close_with-end-2 : goal.slice_bounds-close_with-end-2
slice_bounds-close_with-end-2 c = sym (length-take-le _ _ (omega (arith, few_n c.args.index c.requires)))

pub close_with-requires : goal.close_with-requires
close_with-requires c = record { close_asks = c.requires; start_len = length-take-le _ _ (omega (arith, few_n c.args.index c.requires)); end_len = length-take-le _ _ (omega (arith, few_n c.args.index c.requires)); own_value = c.account_room-own.ensures }

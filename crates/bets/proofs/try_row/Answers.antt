-- `bets::try_row` meets its contract. Assumes nothing.
use mathlib.Core.Path.{sym}
use native.Mathlib.Omega.{arith}
use Prim.Native.Nat.{◌*◌}
use lib.ListN.{take}
use lib.Seq.{length-take-le}
use Rattle.truss.specs.Limits.{record_length}
use Rattle.truss.specs.Bets.{records_in}
use Rattle.stored.specs.Opening.{opens_ok, opens_err, handed_no_index}
use Rattle.trial.specs.Trial.{few_m, numbers_7, numbers_of_lem}
use Rattle.bets.proofs.try_row.Goals as goal

pub overflow_mul-size : goal.overflow_mul-size
overflow_mul-size c = omega (arith, few_m c.in_ok-opened.opened)

pub slice_bounds-work-end : goal.slice_bounds-work-end
slice_bounds-work-end c = omega (arith, few_m c.in_ok-opened.opened)

pub slice_bounds-try_of-end-2 : goal.slice_bounds-try_of-end-2
slice_bounds-try_of-end-2 c = sym (length-take-le _ _ (omega (arith, few_m c.in_ok-opened.opened)))

pub try_of-requires : goal.try_of-requires
try_of-requires c = record { w_value = (opens_ok _ _ c.«open».ensures.opens c.in_ok-opened.was).1; opening_lt_entry_bound = omega (arith, c.ranges.limit) }

pub returns-in_err-opened : goal.returns-in_err-opened
returns-in_err-opened c =
    let O = c.«open».ensures.opens in
    numbers_7 c.args.index.now c.args.k c.args.limit c.args.taken.now (records_in (take (record_length * c.args.count) c.args.row.now)) c.args.margins.now c.from_residual.result (opens_err _ _ O c.in_err-opened.was).1 (handed_no_index _ _ c.from_residual.result O c.in_err-opened.was c.from_residual.ensures.1)

pub returns : goal.returns
returns c = numbers_of_lem c.args.index.now c.args.k c.args.limit c.args.taken.now (records_in (take (record_length * c.args.count) c.args.row.now)) c.args.margins.now c.try_of.result (opens_ok _ _ c.«open».ensures.opens c.in_ok-opened.was).0 c.try_of.ensures.numbers_of_lem

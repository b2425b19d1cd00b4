-- `bets::bytes::try_bytes` meets its contract. Assumes nothing.
use mathlib.Core.Path.{sym}
use native.Mathlib.Omega.{arith}
use lib.Seq.{length-take-le}
use Rattle.stored.specs.Opening.{opens_ok, opens_err, handed_no_index}
use Rattle.trial.specs.Trial.{few_m, bytes_7, bytes_of}
use Rattle.bets.proofs.bytes.try_bytes.Goals as goal

pub overflow_mul-size : goal.overflow_mul-size
overflow_mul-size c = omega (arith, few_m c.in_ok-opened.opened)

pub slice_bounds-work-end : goal.slice_bounds-work-end
slice_bounds-work-end c = omega (arith, few_m c.in_ok-opened.opened)

pub slice_bounds-try_bytes_of-end : goal.slice_bounds-try_bytes_of-end
slice_bounds-try_bytes_of-end c = sym (length-take-le _ _ (omega (arith, few_m c.in_ok-opened.opened)))

pub try_bytes_of-requires : goal.try_bytes_of-requires
try_bytes_of-requires c = record { w_value = (opens_ok _ _ c.«open».ensures.opens c.in_ok-opened.was).1; opening_lt_entry_bound = omega (arith, c.ranges.limit) }

pub returns-in_err-opened : goal.returns-in_err-opened
returns-in_err-opened c =
    let O = c.«open».ensures.opens in
    bytes_7 c.args.index.now c.args.k c.args.limit c.args.taken.now c.args.records.now c.args.margins.now c.from_residual.result (opens_err _ _ O c.in_err-opened.was).1 (handed_no_index _ _ c.from_residual.result O c.in_err-opened.was c.from_residual.ensures.1)

pub returns : goal.returns
returns c = bytes_of c.args.index.now c.args.k c.args.limit c.args.taken.now c.args.records.now c.args.margins.now c.try_bytes_of.result (opens_ok _ _ c.«open».ensures.opens c.in_ok-opened.was).0 c.try_bytes_of.ensures.bytes_of

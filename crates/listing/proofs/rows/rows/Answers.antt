-- `listing::rows::rows` meets its contract. Assumes nothing.
use mathlib.Core.Path.{sym}
use native.Mathlib.Omega.{arith}
use lib.Seq.{length-take-le}
use Rattle.stored.specs.Rows.{shape_sized, sized_few}
use Rattle.stored.specs.Opening.{opens_ok, opens_err, handed_no_index}
use Rattle.listing.specs.Rows.{rows_7, rows_read}
use Rattle.listing.proofs.rows.rows.Goals as goal

pub returns-in_err-opened : goal.returns-in_err-opened
returns-in_err-opened c =
    let O = c.«open».ensures.opens in
    rows_7 c.args.index.now c.args.out.now c.from_residual.result (opens_err _ _ O c.in_err-opened.was).1 (handed_no_index _ _ c.from_residual.result O c.in_err-opened.was c.from_residual.ensures.1)

pub overflow_mul-size : goal.overflow_mul-size
overflow_mul-size c = omega (arith, (sized_few (shape_sized c.in_ok-opened.opened.shape)).1)

pub slice_bounds-work-end : goal.slice_bounds-work-end
slice_bounds-work-end c = omega (arith, c.«open».auto.work, (sized_few (shape_sized c.in_ok-opened.opened.shape)).1)

pub slice_bounds-rows_of-end : goal.slice_bounds-rows_of-end
slice_bounds-rows_of-end c = sym (length-take-le _ _ (omega (arith, c.«open».auto.work, (sized_few (shape_sized c.in_ok-opened.opened.shape)).1)))

pub rows_of-requires : goal.rows_of-requires
rows_of-requires c = length-take-le _ _ (omega (arith, c.«open».auto.work, (sized_few (shape_sized c.in_ok-opened.opened.shape)).1))

pub returns : goal.returns
returns c = rows_read c.args.index.now c.args.out.now c.rows_of.result (opens_ok _ _ c.«open».ensures.opens c.in_ok-opened.was).0 c.rows_of.ensures

-- `listing::rows::put_rows` meets its contract. Assumes nothing.
use Rattle.listing.specs.Rows.{out_long}
use native.Mathlib.Omega.{arith}
use mathlib.Core.Path.{sym, ap, ◌∙◌}
use Prim.Native.Nat.{◌*◌, ◌-◌}
use lib.ListN.{length, drop, length-drop}
use lib.Seq.{length-take-le}
use Rattle.stored.specs.Rows.{shape_sized, sized_few}
use Rattle.stored.specs.Opening.{graph}
use Rattle.wire.specs.Writing.{written, written_none, written_next, up_to, up_to_more}
use Rattle.listing.specs.Rows.{row_of, rows-length}
use Rattle.listing.proofs.rows.put_rows.Goals as goal

pub overflow_mul-g : goal.overflow_mul-g
overflow_mul-g c = omega (arith, c.loop-g-test.true, sized_few (shape_sized c.args.index.shape))

pub offset_bounds-out-g : goal.offset_bounds-out-g
offset_bounds-out-g c = omega (arith, c.loop-g-test.true, sized_few (shape_sized c.args.index.shape))

pub slice_bounds-put_row-count : goal.slice_bounds-put_row-count
slice_bounds-put_row-count c = omega (arith, c.loop-g-test.true, c.requires.count_in_bounds, out_long (graph c.args.index) c.args.out.now c.loop-g.auto.g-end c.requires.count_in_bounds c.loop-g.invariant)

pub put_row-requires : goal.put_row-requires
put_row-requires c = let q = out_long (graph c.args.index) c.args.out.now c.loop-g.auto.g-end c.requires.count_in_bounds c.loop-g.invariant in record { row_asks = record { all = c.requires.rows_asks; in_range = c.loop-g-test.true }; in_bounds = omega (arith, c.loop-g-test.true, c.requires.count_in_bounds, q, length-take-le (length c.loop-g.out - 6 * c.loop-g.g) (drop (6 * c.loop-g.g) c.loop-g.out) (simp length-drop (omega arith)), length-drop (6 * c.loop-g.g) c.loop-g.out) }

pub loop-g-preserved : goal.loop-g-preserved
loop-g-preserved c = written_next c.args.out.now (up_to (row_of (graph c.args.index)) c.loop-g.g) (row_of (graph c.args.index) c.loop-g.g) 0 {at = 6 * c.loop-g.g} c.loop-g.invariant (omega (arith, rows-length (graph c.args.index) c.loop-g.g)) (omega (arith, c.loop-g-test.true, c.requires.count_in_bounds)) c.put_row.ensures ∙ ap (written c.args.out.now 0) (sym (up_to_more (row_of (graph c.args.index)) c.loop-g.g))

pub loop-g-init : goal.loop-g-init
unfolding up_to
loop-g-init c = written_none _ 0

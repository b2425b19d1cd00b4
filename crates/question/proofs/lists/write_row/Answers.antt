-- `question::lists::write_row` meets its contract. Assumes nothing.
use mathlib.Core.Path.{◌≡◌, ap, ◌∙◌}
use Prim.Native.Nat.{◌*◌}
use native.Mathlib.Omega.{arith}
use Rattle.truss.specs.Record.{field}
use Rattle.wire.specs.Writing.{written, written_next}
use Rattle.question.specs.Lists.{row_bytes, row-none, row_more, row-length}
use Rattle.question.proofs.lists.write_row.Goals as goal

pub loop-i-init : goal.loop-i-init
loop-i-init c = row-none _ _ _

pub loop-i-preserved : goal.loop-i-preserved
loop-i-preserved c = let w = c.args.w.now in
    let m = c.args.m in
    let i = c.loop-i.i in
    let out = c.args.out.now in
    written_next out (row_bytes w m i) (field c.get.result) 0 {at = 2 * i} c.loop-i.invariant (omega (arith, row-length w m i)) (omega (arith, c.loop-i-test.true, c.requires.r_in_bounds)) (rw c.field_record-rec.ensures at c.paste.ensures)
    ∙ ap (written out 0) (row_more w m i c.get.ensures.0)

pub returns : goal.returns
returns c = let e : c.loop-i.i ≡ c.args.r = omega arith in rw e at c.loop-i.invariant

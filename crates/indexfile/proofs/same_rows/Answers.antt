-- `indexfile::same_rows` meets its contract. Assumes nothing.
use Rattle.std.proofs.Common.{◌≡◌, refl, zero-mul, arith}
use Rattle.wire.specs.Writing.{tells_yes, tells_no, up_to}
use Rattle.indexfile.specs.Comparing.{row_more, row_not}
use Rattle.indexfile.proofs.same_rows.Goals as goal

pub loop-i-init : goal.loop-i-init
unfolding up_to
loop-i-init g c = rw (zero-mul g.row.N) refl

pub returns-then-not-stands : goal.returns-then-not-stands
returns-then-not-stands g c =
    tells_no (row_not _ g.row.N (g.met.R.Rows.long c.args.rows.now) _ c.args.count c.loop-i.i (omega arith) c.requires.room c.row.ensures (c.stands.ensures.no_is c.if-not-stands.true))

pub loop-i-preserved : goal.loop-i-preserved
loop-i-preserved g c =
    row_more _ g.row.N (g.met.R.Rows.long c.args.rows.now) _ c.args.count c.loop-i.i (omega arith) c.requires.room c.loop-i.invariant c.row.ensures (c.stands.ensures.yes_is c.if-not-stands.false)

pub returns : goal.returns
returns g c = let e : c.loop-i.i ≡ c.args.count = omega arith in tells_yes (rw e at c.loop-i.invariant)

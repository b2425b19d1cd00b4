-- `margins::write_margins` meets its contract. Assumes nothing.
use native.Mathlib.Omega.{arith}
use mathlib.Core.Path.{◌≡◌, refl}
use Rattle.margins.specs.Margins.{margins_none, over_margin, row-part}
use Rattle.margins.proofs.write_margins.Goals as goal

pub loop-j-init : goal.loop-j-init
loop-j-init c = rw (margins_none c.args.w.now c.args.m c.args.limit) refl

pub margin_of-requires : goal.margin_of-requires
margin_of-requires c = row-part c.requires.row_given c.loop-j-test.true

pub loop-j-preserved : goal.loop-j-preserved
loop-j-preserved c = over_margin c.args.w.now c.args.m c.args.limit _ c.args.out.now c.loop-j.invariant (omega (arith, c.loop-j-test.true, c.requires.r_in_bounds)) c.margin_of.ensures.0 c.margin_of.ensures.1

pub returns : goal.returns
returns c = let e : c.loop-j.j ≡ c.args.r = omega arith in rw e at c.loop-j.invariant

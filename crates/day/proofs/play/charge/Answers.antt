-- `day::play::charge` meets its contract. Assumes nothing.
use native.Mathlib.Omega.{arith}
use mathlib.Core.Path.{◌≡◌, refl}
use Rattle.day.specs.Sums.{charged_none, charged_more, charge_below, charge_size, charge_room}
use Rattle.day.proofs.play.charge.Goals as goal

pub loop-j-init : goal.loop-j-init
loop-j-init c = charged_none

pub near-g-requires : goal.near-g-requires
near-g-requires c = record { i_bound = omega (arith, c.loop-j-test.true, c.requires.safe.fits); w_len = charge_size c.requires c.loop-j.invariant c.loop-j.auto.j c.loop-j-test.true refl }

pub get-sum-requires : goal.get-sum-requires
get-sum-requires c = record { c_bound = omega arith; i_lt_m = charge_below c.requires c.loop-j.invariant c.loop-j.auto.j c.loop-j-test.true c.near-g.ensures.0; w_len = charge_size c.requires c.loop-j.invariant c.loop-j.auto.j c.loop-j-test.true c.near-g.ensures.0 }

pub overflow_add-sum : goal.overflow_add-sum
overflow_add-sum c = omega (arith, charge_room c.requires c.loop-j.invariant c.loop-j.auto.j c.loop-j-test.true c.near-g.ensures.0 c.get-sum.ensures.0)

pub put-requires : goal.put-requires
put-requires c = record { c_bound = omega arith; i_lt_m = charge_below c.requires c.loop-j.invariant c.loop-j.auto.j c.loop-j-test.true c.near-g.ensures.0; x_lt_entry_bound = charge_room c.requires c.loop-j.invariant c.loop-j.auto.j c.loop-j-test.true c.near-g.ensures.0 c.get-sum.ensures.0; w_len = charge_size c.requires c.loop-j.invariant c.loop-j.auto.j c.loop-j-test.true c.near-g.ensures.0 }

pub loop-j-preserved : goal.loop-j-preserved
loop-j-preserved c = charged_more c.requires c.loop-j.invariant c.loop-j.auto.j c.loop-j-test.true c.near-g.ensures.0 c.get-sum.ensures.0 c.put.ensures

pub returns : goal.returns
returns c = let e : c.loop-j.j ≡ c.args.to = omega (arith, c.loop-j-test.false, c.loop-j.auto.j-end c.requires.safe.rises) in rw (← e) c.loop-j.invariant

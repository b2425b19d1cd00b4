-- `day::play::has_room` meets its contract. Assumes nothing.
use native.Mathlib.Omega.{arith}
use mathlib.Core.Path.{refl}
use Rattle.day.specs.Sums.{room, room_more, room_full}
use Rattle.day.proofs.play.has_room.Goals as goal

pub loop-j-init : goal.loop-j-init
loop-j-init c = λ x l k. absurd (omega (arith, l, k))

pub returns-then-limit-sum : goal.returns-then-limit-sum
returns-then-limit-sum c = room_full refl c.loop-j.auto.j c.loop-j-test.true c.near-g.ensures.0 c.get-sum.ensures.0 c.if-limit-sum.true

pub loop-j-preserved : goal.loop-j-preserved
loop-j-preserved c = room_more c.args.m c.args.from _ c.args.stake c.args.limit c.args.w.now c.loop-j.invariant c.near-g.ensures.0 c.get-sum.ensures.0 c.if-limit-sum.false

pub returns : goal.returns
returns c = room refl (λ x l k. c.loop-j.invariant x l (omega (arith, k, c.loop-j-test.false)))

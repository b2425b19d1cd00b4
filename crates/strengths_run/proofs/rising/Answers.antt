-- `strengths_run::rising` meets its contract. Assumes nothing.
use Rattle.std.proofs.Common.{arith}
use Rattle.strengths_run.specs.Keys.{rising_none, rising_more, rising_all}
use Rattle.strengths_run.proofs.rising.Goals as goal

pub loop-i-init : goal.loop-i-init
loop-i-init c = rising_none _ _ _

pub loop-i-preserved : goal.loop-i-preserved
loop-i-preserved c = rising_more c.loop-i.invariant (c.good.ensures c.if-not-good.false)

pub returns : goal.returns
returns c = λ h. rising_all (omega (arith, c.loop-i.auto.i-end)) c.loop-i.invariant

-- `strength::strengths` meets its contract. Assumes nothing.
use native.Mathlib.Omega.{arith}
use lib.Seq.{length-take-le}
use Rattle.strength.specs.Whole.{strengths_none, strengths_all, work_pre}
use Rattle.strength.proofs.strengths.Goals as goal

pub returns-then-m-eq0 : goal.returns-then-m-eq0
returns-then-m-eq0 c = λ G N. strengths_none N c.if-m-eq0.true

pub returns : goal.returns
returns c = λ G N.
    strengths_all
    (c.work-lookups.ensures G (work_pre N c.if-m-eq0.false (length-take-le _ _ (omega (arith, N.small))) (length-take-le _ _ (omega (arith, N.small)))))
    c.wipe_all.ensures

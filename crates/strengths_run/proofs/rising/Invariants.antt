-- `strengths_run::rising` meets its contract. Assumes nothing.
use Rattle.strengths_run.specs.Keys.{Rising}
use Rattle.strengths_run.proofs.rising.Given as goal

abbrev pub invariant-loop-i : goal.invariant-loop-i
invariant-loop-i l = Rising l.m l.n l.i l.w

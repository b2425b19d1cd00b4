-- `question::named::keep_level` meets its contract. Assumes nothing.
use Rattle.question.specs.Named.{KeepState, AtLevel}
use Rattle.question.proofs.named.keep_level.Given as goal

abbrev pub invariant-loop-g : goal.invariant-loop-g
invariant-loop-g l = KeepState l.index.bytes.now l.index.m l.index.groups l.g (AtLevel l.index.bytes.now l.k) l.initial.w l.w

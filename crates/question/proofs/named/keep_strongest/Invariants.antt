-- `question::named::keep_strongest` meets its contract. Assumes nothing.
use Rattle.question.specs.Named.{KeepState, AsStrong}
use Rattle.question.proofs.named.keep_strongest.Given as goal

abbrev pub invariant-loop-g : goal.invariant-loop-g
invariant-loop-g l = KeepState l.index.bytes.now l.index.m l.index.groups l.g (AsStrong l.index.bytes.now l.best) l.initial.w l.w

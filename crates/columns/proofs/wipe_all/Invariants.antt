-- `columns::wipe_all` meets its contract. Assumes nothing.
use Rattle.columns.specs.Wiping.{Cleaned}
use Rattle.columns.proofs.wipe_all.Given as goal

abbrev pub invariant-loop-c : goal.invariant-loop-c
invariant-loop-c l = Cleaned l.m l.from l.c l.initial.w l.w

-- `margins::write_margins` meets its contract. Assumes nothing.
use mathlib.Core.Path.{◌≡◌}
use Rattle.truss.specs.Call.{overwrite}
use Rattle.margins.specs.Margins.{margins_in}
use Rattle.margins.proofs.write_margins.Given as goal

abbrev pub invariant-loop-j : goal.invariant-loop-j
invariant-loop-j l = l.out ≡ overwrite (margins_in l.w l.m l.limit l.j) l.initial.out

-- `margins::list_groups` meets its contract. Assumes nothing.
use Rattle.margins.specs.Margins.{Listed}
use Rattle.margins.proofs.list_groups.Given as goal

abbrev pub invariant-loop-g : goal.invariant-loop-g
invariant-loop-g l = Listed l.m l.g l.t l.initial.w l.w

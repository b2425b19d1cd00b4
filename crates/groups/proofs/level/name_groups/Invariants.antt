-- `groups::level::name_groups` meets its contract. Assumes nothing.
use Rattle.groups.specs.Naming.{NamesGives}
use Rattle.groups.proofs.level.name_groups.Given as goal

abbrev pub invariant-loop-e : goal.invariant-loop-e
invariant-loop-e l = NamesGives l.m l.k l.e l.initial.w l.w

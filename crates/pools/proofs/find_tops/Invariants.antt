-- `pools::find_tops` meets its contract. Assumes nothing.
use Rattle.stored.specs.Opening.{graph}
use Rattle.pools.specs.Tops.{Topping}
use Rattle.pools.proofs.find_tops.Given as goal

abbrev pub invariant-loop-g : goal.invariant-loop-g
invariant-loop-g l = Topping (graph l.index) l.index.m l.index.groups l.k l.g l.initial.w l.w

-- `pools::load_links` meets its contract. Assumes nothing.
use Rattle.stored.specs.Opening.{graph}
use Rattle.pools.specs.Tops.{Linking}
use Rattle.pools.proofs.load_links.Given as goal

abbrev pub invariant-loop-i : goal.invariant-loop-i
invariant-loop-i l = Linking (graph l.index) l.index.m l.k l.i l.initial.w l.w

-- `groups::tree::levels` meets its contract. Assumes nothing.
use Rattle.groups.specs.Tree.{LevelsPre, TreeAt}
use Rattle.laws.proofs.Sides.{InOrder}
use Rattle.laws.proofs.Groups.{size}
use Rattle.truss.specs.Limits.{no_group}
use Rattle.truss.specs.Graph.{Graph}
use lib.ListN.{length}
use Prim.Native.Nat.{◌≤◌}
use mathlib.Core.Path.{◌≡◌}
use Rattle.groups.proofs.tree.levels.Given as goal

abbrev pub invariant-loop-k : goal.invariant-loop-k
invariant-loop-k l = (length l.w ≡ length l.initial.w) × (length l.mark ≡ length l.initial.mark) × ((G : Graph) (o : InOrder G) (fits : size G ≤ no_group) → LevelsPre G o fits l.m l.n l.initial.w l.row l.initial.mark → TreeAt G o fits l.m l.n l.k l.joins l.groups l.w)

abbrev pub decreases-loop-k : goal.decreases-loop-k
decreases-loop-k l = l.k

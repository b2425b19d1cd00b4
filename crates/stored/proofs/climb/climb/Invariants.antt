-- `stored::climb::climb` meets its contract. Assumes nothing.
use Prim.Native.Nat.{ℕ, ◌-◌}
use Rattle.stored.specs.Rows.{graph_in}
use Rattle.stored.specs.Climb.{ClimbAsks, Climbed}
use Rattle.stored.proofs.climb.climb.Given as goal

-- h is a group of strength at least k, and what the climb from h gives, the climb from g gives
abbrev pub invariant-loop-p : goal.invariant-loop-p
invariant-loop-p l = ClimbAsks l.s l.at l.count l.k l.h × ((r : ℕ) → Climbed (graph_in l.s) l.k l.h r → Climbed (graph_in l.s) l.k l.g r)

abbrev pub decreases-loop-p : goal.decreases-loop-p
decreases-loop-p l = l.count - l.h

-- A union-find forest, as the code keeps it: parent[i] ≤ i, and the root of a component is its least point. No part of what an index means: `Unions` ties it to
-- the labels of components that the definitions use.
use mathlib.Core.Bool.{cond}
use mathlib.Core.List.{List}
use Prim.Native.Nat.{ℕ, zero, suc, ◌≤◌}
use lib.Dec.{eqb}
use lib.ListN.{get_or}

-- parents are never above their children
abbrev pub Down : List ℕ → Type 0
Down p = (a : ℕ) → get_or p a 0 ≤ a

-- up through parents, at most so many steps
unfoldable pub climb_up : ℕ → List ℕ → ℕ → ℕ
climb_up zero p a = a
climb_up (suc f) p a = cond (eqb (get_or p a 0) a) a (climb_up f p (get_or p a 0))

-- the root of a point: a steps are enough
unfoldable pub root_of : List ℕ → ℕ → ℕ
unfolding climb_up
root_of p a = climb_up a p a

-- What holds of the graph of each accepted links file (Accepted: graph_proper), and what nearly every law asks of a graph.
use mathlib.Core.Path.{◌≡◌}
use mathlib.Core.Bool.{true}
use Prim.Native.Nat.{ℕ, ◌<◌}
use lib.ListN.{length}
use Rattle.truss.specs.Graph.{Link, Graph, link_at, link_number, member}

-- links of accounts below n, the lower account first, each link listed once
pub record Proper (G : Graph) : Type 0 where
  pub ordered : (e : Link) → member G.links e ≡ true → e.lo < e.hi
  pub below : (e : Link) → member G.links e ≡ true → e.hi < G.n
  pub numbered : (i : ℕ) → i < length G.links → link_number G (link_at G i) ≡ i

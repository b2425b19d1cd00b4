-- What question G answers, as one statement about every accepted links file: the function of Shortest meets the relation there. Proved in laws: ways.
use Rattle.std.specs.Prelude.{◌≡◌, ◌↔◌, false, List, [], ◌∷◌, ℕ, ◌≤◌, ◌<◌, length}
use mathlib.Core.List.{Memᴰ as In}
use Rattle.truss.specs.Limits.{min_level, max_chain_bytes}
use Rattle.truss.specs.Graph.{Link, Pair, Graph, Triangle, Has, graph_of}
use Rattle.truss.specs.Strength.{IsStrength}
use Rattle.truss.specs.Chain.{AtLeast, StrongTriangle, Joined, InGroup}
use Rattle.truss.specs.Shortest.{IsShortestFirst, triangle_before, shortest_chain}
use Rattle.truss.specs.LinksFile.{accepted, read_links}
use Rattle.truss.specs.Question.{chain}
use Rattle.truss.specs.Call.{answer_bytes}

-- one triangle, the first by accounts of weight at least k that holds the link
pub record FirstHolding (G : Graph) (k : ℕ) (e : Link) (ts : List Triangle) : Type 0 where
  pub t : Triangle
  pub one : ts ≡ t ∷ []
  pub strong : StrongTriangle G k t
  pub holds : Has t e
  pub first : (u : Triangle) → StrongTriangle G k u → Has u e → triangle_before u t ≡ false

pub record Way (G : Graph) (k : ℕ) (e f : Link) : Type 0 where
  -- "its answer is a chain with the fewest triangles .. the one that comes first", and there is only one such row of triangles
  pub given : Joined G k e f → IsShortestFirst G k e f (shortest_chain G k e f)
  pub only : (ts us : List Triangle) → IsShortestFirst G k e f ts → IsShortestFirst G k e f us → ts ≡ us
  -- "Links not joined at k give count 0, and otherwise the count is never 0.": joined by a chain. What counts as joined without one is the one case below.
  pub none : (shortest_chain G k e f ≡ []) ↔ (¬ Joined G k e f)
  -- "A link with itself gives one triangle if its strength reaches k", but for a link of strength 2, which is in none.
  pub itself : AtLeast G 3 e → AtLeast G k e → FirstHolding G k e (shortest_chain G k e e)
  pub itself_none : ¬ AtLeast G k e → shortest_chain G k e e ≡ []
  -- "In request 1 a lone link with itself at 2 gives count 0, the one such case": of links that count as joined
  pub one_case : min_level ≤ k → InGroup G k e f → (shortest_chain G k e f ≡ []) ↔ ((f ≡ e) × (k ≡ 2) × IsStrength G e 2)
  -- "three two-byte accounts, rising, for each triangle"
  pub rising : (t : Triangle) → In t (shortest_chain G k e f) → (t.a < t.b) × (t.b < t.c)
  -- the bytes that are enough for any answer
  pub room : length (answer_bytes (chain (shortest_chain G k e f))) ≤ max_chain_bytes

abbrev pub Ways : Type 0
Ways = (file : List ℕ) (n : ℕ) (ps : List Pair) → read_links file ≡ accepted n ps → (k : ℕ) (e f : Link) → Way (graph_of n ps) k e f

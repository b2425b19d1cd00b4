-- Chains of triangles: links joined at k (triangle-connected in the k-truss) and groups at k (k-truss communities), as relations over
-- `IsStrength`: nothing here leans on a function that computes.
use Rattle.std.specs.Prelude.{◌≡◌, ◌⊎◌, ℕ, ◌≤◌}
use Rattle.truss.specs.Graph.{Link, Graph, Triangle, IsTriangle, Has, member, side_ab, side_ac, side_bc}
use Rattle.truss.specs.Strength.{IsStrength}

-- the link e has strength at least k
abbrev pub AtLeast : Graph → ℕ → Link → Type 0
AtLeast G k e = (s : ℕ) × IsStrength G e s × (k ≤ s)

-- t is a triangle of the graph of weight at least k: the least strength of its links is at least k, so each of them is
pub record StrongTriangle (G : Graph) (k : ℕ) (t : Triangle) : Type 0 where
  pub is_triangle : IsTriangle (member G.links) t
  pub ab_strong : AtLeast G k (side_ab t)
  pub ac_strong : AtLeast G k (side_ac t)
  pub bc_strong : AtLeast G k (side_bc t)

-- "Two links are joined at k .. when a chain of one or more triangles of weight at least k runs from one holding the first to one
-- holding the second, neighbours in the chain sharing a link." There is no empty chain. At 2 different links are joined as at 3 (laws: joined_at_2).
pub data Joined (G : Graph) (k : ℕ) : Link → Link → Type 0 where
  one_triangle : {e f : Link} (t : Triangle) → StrongTriangle G k t → Has t e → Has t f → Joined G k e f
  and_on : {e shared f : Link} (t : Triangle) → StrongTriangle G k t → Has t e → Has t shared → Joined G k shared f → Joined G k e f

-- "A group at k is a link of strength at least k with all links joined to it at k": f is in the group at k with e. "A link counts as joined to itself at every
-- k up to its strength" (document 02), a lone link at 2 too: e and f count as joined at k just if f is in the group at k with e.
pub record InGroup (G : Graph) (k : ℕ) (e f : Link) : Type 0 where
  pub strong : AtLeast G k e
  pub joined : (f ≡ e) ⊎ Joined G k e f

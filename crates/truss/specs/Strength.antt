-- The strength (trussness) of a link: as a relation, in document 01's words, and as a function that peels. They agree (laws: strength_is,
-- strength_unique).
use Rattle.std.specs.Prelude.{◌≡◌, true, false, List, ℕ, zero, suc, ◌+◌, ◌≤◌, min, eqb, leb, length}
use Rattle.truss.specs.Lists.{filter, largest}
use Rattle.truss.specs.Graph.{Link, LinkSet, Graph, Triangle, side_ab, side_ac, side_bc, member, support}

-- ---- the relation

-- "some set of links .. each link of the set is in at least k − 2 triangles made wholly of the set": S is a k-truss of the graph, not always the
-- largest one.
pub record IsTruss (G : Graph) (k : ℕ) (S : LinkSet) : Type 0 where
  pub within : (e : Link) → S e ≡ true → member G.links e ≡ true
  pub held : (e : Link) → S e ≡ true → k ≤ 2 + support G.n S e

-- some such set holds e
abbrev pub InTruss : Graph → ℕ → Link → Type 0
InTruss G k e = (S : LinkSet) × IsTruss G k S × (S e ≡ true)

-- "The strength (trussness) of a link is the largest k such that some set of links holds it and .."
pub record IsStrength (G : Graph) (e : Link) (s : ℕ) : Type 0 where
  pub reached : InTruss G s e
  pub greatest : (k : ℕ) → InTruss G k e → k ≤ s

-- ---- the function

-- one round of peeling at k: the links in too few triangles go
unfoldable pub peel_once : ℕ → ℕ → List Link → List Link
unfolding filter support member
peel_once n k L = filter (λ e. leb k (2 + support n (member L) e)) L

-- rounds, at most so many, until one takes nothing away
unfoldable pub peel : ℕ → ℕ → ℕ → List Link → List Link
unfolding peel_once
peel zero n k L = L
peel (suc r) n k L = let L' = peel_once n k L in elim (eqb (length L') (length L)) [ true ↦ L | false ↦ peel r n k L' ]

-- the graph's k-truss: what peeling at k leaves (laws: truss_is, truss-largest)
unfoldable pub truss : Graph → ℕ → List Link
unfolding peel
truss G k = peel (length G.links) G.n k G.links

-- No strength is above n + 2, since a link is in at most n triangles: far enough to look for the largest k.
abbrev pub strength_bound : Graph → ℕ
strength_bound G = 2 + G.n

unfoldable pub strength : Graph → Link → ℕ
unfolding largest truss member
strength G e = largest (λ k. member (truss G k) e) (strength_bound G)

-- "A triangle's weight is the least strength of its links."
unfoldable pub weight : Graph → Triangle → ℕ
unfolding strength
weight G t = min (strength G (side_ab t)) (min (strength G (side_ac t)) (strength G (side_bc t)))

-- Question G, the shortest way between two links (document 02, request 1): as a relation, in document 02's words, and as a function that looks from the
-- second link back and then walks from the first. They agree (laws: shortest_is, shortest_unique, shortest_none).
use Rattle.std.specs.Prelude.{◌≡◌, Bool, false, ◌&&◌, ◌||◌, List, [], ◌∷◌, ℕ, zero, suc, ◌≤◌, eqb, ltb, leb, length}
use Rattle.truss.specs.Lists.{filter, any, position, concat_map, range}
use Rattle.truss.specs.Graph.{Link, Graph, Triangle, Has, member, side_ab, side_ac, side_bc, triangles}
use Rattle.truss.specs.Strength.{weight}
use Rattle.truss.specs.Chain.{StrongTriangle}

-- ---- the relation

-- the triangles of a chain at k from e to f: `Joined` with its triangles named (laws: chain_joined, joined_chain)
pub data IsChain (G : Graph) (k : ℕ) : Link → Link → List Triangle → Type 0 where
  one_triangle : {e f : Link} (t : Triangle) → StrongTriangle G k t → Has t e → Has t f → IsChain G k e f (t ∷ [])
  and_on : {e shared f : Link} {ts : List Triangle} (t : Triangle) → StrongTriangle G k t → Has t e → Has t shared → IsChain G k shared f ts → IsChain G k e f (t ∷ ts)

-- by accounts: the lowest, then the middle, then the highest
abbrev pub triangle_before : Triangle → Triangle → Bool
triangle_before t u = ltb t.a u.a || (eqb t.a u.a && (ltb t.b u.b || (eqb t.b u.b && ltb t.c u.c)))

abbrev pub same_triangle : Triangle → Triangle → Bool
same_triangle t u = eqb t.a u.a && (eqb t.b u.b && eqb t.c u.c)

-- "comes first by those accounts, triangle by triangle from the first link"
unfoldable pub chain_before : List Triangle → List Triangle → Bool
chain_before [] us = false
chain_before (t ∷ ts) [] = false
chain_before (t ∷ ts) (u ∷ us) = triangle_before t u || (same_triangle t u && chain_before ts us)

-- "a chain with the fewest triangles of weight at least k .. Among equally short chains the one that comes first .. is given."
pub record IsShortestFirst (G : Graph) (k : ℕ) (e f : Link) (ts : List Triangle) : Type 0 where
  pub is_chain : IsChain G k e f ts
  pub fewest : (us : List Triangle) → IsChain G k e f us → length ts ≤ length us
  pub first : (us : List Triangle) → IsChain G k e f us → length us ≡ length ts → chain_before us ts ≡ false

-- ---- the function

-- the triangles of weight at least k, by accounts (laws: strong_triangles_in, strong_triangles_order)
unfoldable pub strong_triangles : Graph → ℕ → List Triangle
unfolding filter weight triangles
strong_triangles G k = filter (λ t. leb k (weight G t)) (triangles G)

abbrev pub sides : Triangle → List Link
sides t = side_ab t ∷ side_ac t ∷ side_bc t ∷ []

-- the triangle has one of the links
unfoldable pub touches : List Link → Triangle → Bool
unfolding any member
touches L t = any (member L) (sides t)

-- the links from which a chain of just r of the triangles leads to f: of none, f itself (laws: starts_is). A triangle may come twice in a chain, so from
-- r = 1 on they only become more (laws: starts_more), and the first r at which a link is among them is its distance from f.
unfoldable pub starts : List Triangle → Link → ℕ → List Link
unfolding concat_map filter touches
starts T f zero = f ∷ []
starts T f (suc r) = concat_map sides (filter (touches (starts T f r)) T)

-- from one of the links L, r triangles to f: each the first, by accounts, that a chain to f can go on from; the next has a link of it
unfoldable pub walk : List Triangle → Link → ℕ → List Link → List Triangle
unfolding filter touches starts
walk T f zero L = []
walk T f (suc r) L = elim (filter (λ t. touches L t && touches (starts T f r) t) T) [ [] ↦ [] | t ∷ _ ↦ t ∷ walk T f r (sides t) ]

-- the fewest triangles from e to f: one or more, and as many as there are links are enough (one more if there is no chain)
unfoldable pub fewest_triangles : List Triangle → Graph → Link → Link → ℕ
unfolding position member starts range
fewest_triangles T G e f = suc (position (λ r. member (starts T f r) e) (range 1 (length G.links)))

-- G. The triangles of the chain, none if there is no chain: so too for "a lone link with itself at 2", which counts as joined to itself without a chain.
unfoldable pub shortest_chain : Graph → ℕ → Link → Link → List Triangle
unfolding strong_triangles walk fewest_triangles
shortest_chain G k e f = let T = strong_triangles G k in walk T f (fewest_triangles T G e f) (e ∷ [])

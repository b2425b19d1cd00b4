-- Accounts (vertices), links (edges), their numbers, and triangles. What document 01 calls a card is a simple undirected graph.
use Rattle.std.specs.Prelude.{◌≡◌, Bool, true, ◌&&◌, ◌||◌, List, map, ℕ, min, max, eqb, ltb, get_or}
use Rattle.truss.specs.Lists.{any, filter, position, sort, concat_map, range, count}

-- "a link an unordered pair of different accounts": kept with the lower account first.
pub record Link : Type 0 where
  pub lo : ℕ
  pub hi : ℕ

-- the link of two accounts, given in either order
abbrev pub link : ℕ → ℕ → Link
link a b = record { lo = min a b; hi = max a b }

abbrev pub same_link : Link → Link → Bool
same_link e f = eqb e.lo f.lo && eqb e.hi f.hi

-- "by lower then higher account"
abbrev pub link_before : Link → Link → Bool
link_before e f = ltb e.lo f.lo || (eqb e.lo f.lo && ltb e.hi f.hi)

-- a link has the account as an end
abbrev pub ends : Link → ℕ → Bool
ends e v = eqb e.lo v || eqb e.hi v

-- A pair as a links file names it: two accounts, in either order.
pub record Pair : Type 0 where
  pub first : ℕ
  pub second : ℕ

abbrev pub link_of : Pair → Link
link_of p = link p.first p.second

-- "strong links by lower then higher account .. numbered from 0 in that order": link number i is the element at position i.
unfoldable pub links_of : List Pair → List Link
unfolding sort
links_of ps = sort link_before (map link_of ps)

-- A graph: "An account is a number from 0 to n − 1"; the links stand in the order of their numbers.
pub record Graph : Type 0 where
  pub n : ℕ
  pub links : List Link

-- the graph that n and a list of pairs name
unfoldable pub graph_of : ℕ → List Pair → Graph
unfolding links_of
graph_of n ps = record { n = n; links = links_of ps }

abbrev pub link_at : Graph → ℕ → Link
link_at G i = get_or G.links i (link 0 0)

-- a link's number
unfoldable pub link_number : Graph → Link → ℕ
unfolding position
link_number G e = position (same_link e) G.links

-- A set of links: a test on links. The set of the links in a list:
abbrev pub LinkSet : Type 0
LinkSet = Link → Bool

unfoldable pub member : List Link → LinkSet
unfolding any
member L e = any (same_link e) L

-- How many triangles hold a link and have their other two links in a set (the link's support in that set): one for each third account. (An end of
-- the link is no third account, since no link of an accepted file has two equal ends.)
unfoldable pub support : ℕ → LinkSet → Link → ℕ
unfolding count
support n S e = count (λ c. S (link e.lo c) && S (link e.hi c)) n

-- "a triangle three accounts with all three links". Each link has its lower account first, so a < b < c.
pub record Triangle : Type 0 where
  pub a : ℕ
  pub b : ℕ
  pub c : ℕ

abbrev pub side_ab : Triangle → Link
side_ab t = record { lo = t.a; hi = t.b }

abbrev pub side_ac : Triangle → Link
side_ac t = record { lo = t.a; hi = t.c }

abbrev pub side_bc : Triangle → Link
side_bc t = record { lo = t.b; hi = t.c }

-- the three links are in the set
pub record IsTriangle (S : LinkSet) (t : Triangle) : Type 0 where
  pub has_ab : S (side_ab t) ≡ true
  pub has_ac : S (side_ac t) ≡ true
  pub has_bc : S (side_bc t) ≡ true

-- the triangle has the link
pub data Has (t : Triangle) (e : Link) : Type 0 where
  is_ab : e ≡ side_ab t → Has t e
  is_ac : e ≡ side_ac t → Has t e
  is_bc : e ≡ side_bc t → Has t e

-- the graph's triangles, each once: for each link a b, the accounts c with links a c and b c, the lower account first, so above b
unfoldable pub triangles_on : Graph → Link → List Triangle
unfolding filter range member
triangles_on G e =
    map (λ c. record { a = e.lo; b = e.hi; c = c })
    (filter (λ c. member G.links (record { lo = e.lo; hi = c }) && member G.links (record { lo = e.hi; hi = c })) (range 0 G.n))

unfoldable pub triangles : Graph → List Triangle
unfolding concat_map triangles_on
triangles G = concat_map (triangles_on G) G.links

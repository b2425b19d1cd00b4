-- The triangle derived graph and its forest (a maximum spanning forest, grown as Kruskal does). That graph's points are the link numbers.
use Rattle.std.specs.Prelude.{Bool, cond, ◌&&◌, ◌||◌, List, [], ◌∷◌, map, ℕ, min, max, eqb, ltb, length, get_or}
use Rattle.truss.specs.Lists.{sort, concat_map, range}
use Rattle.truss.specs.Graph.{Graph, Triangle, side_ab, side_ac, side_bc, link_number, triangles}
use Rattle.truss.specs.Strength.{weight}

-- A join (an edge of the triangle derived graph): two link numbers, the lower first, and a weight.
pub record Join : Type 0 where
  pub lower : ℕ
  pub higher : ℕ
  pub weight : ℕ

abbrev pub join : ℕ → ℕ → ℕ → Join
join i j w = record { lower = min i j; higher = max i j; weight = w }

-- "joins of falling weight, equal weights by lower then higher link number"
abbrev pub join_before : Join → Join → Bool
join_before x y =
    ltb y.weight x.weight
    || (eqb x.weight y.weight && (ltb x.lower y.lower || (eqb x.lower y.lower && ltb x.higher y.higher)))

-- "for each triangle, three joins of the triangle's weight"
unfoldable pub triangle_joins : Graph → Triangle → List Join
unfolding link_number weight
triangle_joins G t =
    let i = link_number G (side_ab t) in
    let j = link_number G (side_ac t) in
    let l = link_number G (side_bc t) in
    let w = weight G t in
    join i j w ∷ join i l w ∷ join j l w ∷ []

-- the joins of all triangles, in order
unfoldable pub all_joins : Graph → List Join
unfolding sort concat_map triangle_joins triangles
all_joins G = sort join_before (concat_map (triangle_joins G) (triangles G))

-- Components (of any graph on m points) are kept as a label for each point, the least point of its component. At first each point is its own.
abbrev pub singletons : ℕ → List ℕ
singletons m = range 0 m

-- the components of i and j become one
unfoldable pub merge : ℕ → ℕ → List ℕ → List ℕ
merge i j labels =
    let x = min (get_or labels i 0) (get_or labels j 0) in
    let y = max (get_or labels i 0) (get_or labels j 0) in
    map (λ l. cond (eqb l y) x l) labels

abbrev pub same_component : List ℕ → ℕ → ℕ → Bool
same_component labels i j = eqb (get_or labels i 0) (get_or labels j 0)

-- "taking a join if it closes no ring": joins in turn, each if its ends are not yet in one component
unfoldable pub kruskal : List ℕ → List Join → List Join
unfolding merge
kruskal labels [] = []
kruskal labels (x ∷ xs) =
    cond (same_component labels x.lower x.higher)
    (kruskal labels xs)
    (x ∷ kruskal (merge x.lower x.higher labels) xs)

-- "The forest is grown from joins of falling weight", in the order of taking
unfoldable pub forest : Graph → List Join
unfolding kruskal all_joins range
forest G = kruskal (singletons (length G.links)) (all_joins G)

-- the components after all of a list of joins
unfoldable pub components : List ℕ → List Join → List ℕ
unfolding merge
components labels [] = labels
components labels (x ∷ xs) = components (merge x.lower x.higher labels) xs

-- The groups at k (k-truss communities) and the stored groups with their tree, as functions. `group_at` is the relation `InGroup` (laws: group_meaning).
use Rattle.std.specs.Prelude.{Bool, false, cond, ◌&&◌, ◌||◌, not, List, [], ◌∷◌, ℕ, eqb, ltb, leb, length, get_or}
use Rattle.truss.specs.Limits.{min_level, no_group}
use Rattle.truss.specs.Lists.{filter, any, all, position, concat_map, range, falling, same_list}
use Rattle.truss.specs.Graph.{Graph, link_at}
use Rattle.truss.specs.Strength.{strength, strength_bound}
use Rattle.truss.specs.Forest.{all_joins, singletons, components, same_component}

-- the label of each link's component at k: different links have one label exactly when they are joined at k (laws: joined_same, same_joined)
unfoldable pub labels_at : Graph → ℕ → List ℕ
unfolding components filter all_joins range
labels_at G k = components (singletons (length G.links)) (filter (λ x. leb k x.weight) (all_joins G))

-- "A group at k is a link of strength at least k with all links joined to it at k": the numbers of the links of the group at k with link number i,
-- rising; none if the strength of i is below k.
unfoldable pub group_at : Graph → ℕ → ℕ → List ℕ
unfolding labels_at filter range strength
group_at G k i =
    let labels = labels_at G k in
    cond (leb k (strength G (link_at G i))) (filter (same_component labels i) (range 0 (length G.links))) []

-- A stored group: its strength and the numbers of its links, rising.
pub record Group : Type 0 where
  pub strength : ℕ
  pub members : List ℕ

-- "least link": of all links of the group, those of nested groups too
abbrev pub least_link : Group → ℕ
least_link g = get_or g.members 0 0

-- the list begins with i
unfoldable pub begins_with : ℕ → List ℕ → Bool
begins_with i [] = false
begins_with i (x ∷ xs) = eqb x i

-- the group at k whose least link is i, if there is one
unfoldable pub group_from : Graph → ℕ → ℕ → List Group
unfolding group_at begins_with
group_from G k i = let g = group_at G k i in cond (begins_with i g) (record { strength = k; members = g } ∷ []) []

-- the groups at k, each once, by least link
unfoldable pub groups_at : Graph → ℕ → List Group
unfolding concat_map group_from range
groups_at G k = concat_map (group_from G k) (range 0 (length G.links))

-- of groups that are the same set of links, the first; `seen` has the sets that came before
unfoldable pub distinct : List (List ℕ) → List Group → List Group
unfolding any same_list
distinct seen [] = []
distinct seen (g ∷ gs) = cond (any (same_list g.members) seen) (distinct seen gs) (g ∷ distinct (g.members ∷ seen) gs)

-- the levels k at which there may be groups, falling
unfoldable pub levels : Graph → List ℕ
unfolding falling filter
levels G = filter (leb min_level) (falling (strength_bound G))

-- The stored groups, in the order of their numbers: "groups by falling strength, then least link", numbered from 0 in that order. "The same set may
-- be a group at several k; it is stored once, and its strength is the largest such k" (laws: stored-largest).
unfoldable pub groups : Graph → List Group
unfolding distinct concat_map groups_at levels
groups G = distinct [] (concat_map (groups_at G) (levels G))

-- every number of the second list is in the first
unfoldable pub contains : List ℕ → List ℕ → Bool
unfolding all any
contains big small = all (λ i. any (eqb i) big) small

abbrev pub strictly_contains : Group → Group → Bool
strictly_contains h g = contains h.members g.members && not (contains g.members h.members)

-- the number of the first of the groups that passes, no_group if none does
unfoldable pub group_number : (Group → Bool) → List Group → ℕ
unfolding position
group_number p gs = let i = position p gs in cond (ltb i (length gs)) i no_group

-- "Its parent is the smallest stored group that strictly contains it." (laws: parent-next, parent-none)
unfoldable pub parent : List Group → Group → ℕ
unfolding group_number all contains
parent gs g =
    group_number (λ h. strictly_contains h g && all (λ o. not (strictly_contains o g) || leb (length h.members) (length o.members)) gs) gs

-- the number of the stored group that is the group at k with link i
unfoldable pub group_of : Graph → List Group → ℕ → ℕ → ℕ
unfolding group_number same_list group_at
group_of G gs k i = let g = group_at G k i in group_number (λ h. same_list h.members g) gs

-- The two halves of demand 3, of the bytes that the definitions give: the index tells the graph, and chain, forest and tree agree.
use mathlib.Core.Path.{◌≡◌, refl, sym, ap, ◌∙◌, subst}
use mathlib.Core.Logic.{◌⊎◌, inl, inr, ◌↔◌, ◌≢◌}
use mathlib.Core.Bool.{Bool, true, false, cond}
use mathlib.Core.List.{List, [], ◌∷◌, map}
use mathlib.Core.List.Memᴰ.{head as here}
use mathlib.Core.List.{Memᴰ as In}
use Prim.Native.Nat.{ℕ, ◌≤◌, ◌<◌, min, max}
use native.Mathlib.Nat.{le_refl, le_trans}
use native.Mathlib.Omega.{arith}
use lib.Dec.{ltb, leb-zero}
use lib.ListN.{length, get_or}
use lib.Seq.{ext_get_or}
use borrow.Author.Tests.{ltb-true}
use Rattle.truss.specs.Limits.{min_level, no_group}
use Rattle.truss.specs.Lists.{range, position, sort}
use Rattle.truss.specs.Graph.{Link, Pair, Graph, Triangle, Has, link, link_of, links_of, link_at, link_before, graph_of, link_number, member}
use Rattle.truss.specs.Strength.{weight}
use Rattle.truss.specs.Chain.{Joined, StrongTriangle}
use Rattle.truss.specs.Forest.{Join, join, all_joins, forest, singletons, same_component}
use Rattle.truss.specs.Group.{Group, groups, group_number, group_of, parent, labels_at}
use Rattle.truss.specs.Index.{Index, LinkRow, GroupRow, index, link_row, group_row, decode, index_bytes}
use Rattle.truss.specs.Stored.{ForestConnects, TreeHolds}
use Rattle.truss.specs.Demand3.{HasLink, SameGraph, AllOrNone}
use Rattle.laws.proofs.Proper.{Proper}
use Rattle.laws.proofs.Lists.{test}
use Rattle.laws.proofs.Members.{map_in, range_in, in_filter, member_in, in_member, number_lt, link_of_number}
use Rattle.laws.proofs.Components.{heavy, kruskal_in, same_component_same, same_same_component}
use Rattle.laws.proofs.Connected.{heavy-from, has_member, same_joined, joined_same}
use Rattle.laws.proofs.Sets.{map_at}
use Rattle.laws.proofs.Groups.{size, group_in_lem}
use Rattle.laws.proofs.Stored.{group_count, few_groups, stored_is}
use Rattle.laws.proofs.Tree.{tree_joined, joined_tree, rows-length, row_at_lem}
use Rattle.laws.proofs.ForestPaths.{forest_joined, joined_forest}
use Rattle.laws.proofs.Ordering.{sort_unique}
use Rattle.laws.proofs.Accepted.{GoodPairs, Named, graph_in_lem, in_graph, graph_size, graph_proper, links_distinct}
use Rattle.laws.proofs.Decoding.{IndexFits, LinkRowFits, JoinFits, GroupRowFits, decode-encode}

-- ---- the fields of an index fit two bytes

number_le : (p : Group → Bool) (gs : List Group) → length gs ≤ no_group → group_number p gs ≤ no_group
unfolding group_number
number_le p gs l = go (test (ltb (position p gs) (length gs)))
  where
    go : (ltb (position p gs) (length gs) ≡ true) ⊎ (ltb (position p gs) (length gs) ≡ false) → cond (ltb (position p gs) (length gs)) (position p gs) no_group ≤ no_group
    go (inl c) = rw c (omega (arith, ltb-true (position p gs) (length gs) c))
    go (inr c) = rw c (le_refl no_group)

le_fits : {x : ℕ} → x ≤ no_group → x < 65536
le_fits h = omega arith

first_below : (xs : List ℕ) (b : ℕ) → 0 < b → ((i : ℕ) → In i xs → i < b) → get_or xs 0 0 < b
first_below [] b p h = p
first_below (x ∷ xs) b p h = h x (here refl)

module _ (G : Graph) (proper : Proper G) (accounts : G.n ≤ 65536) (few_links : size G ≤ no_group) where
  few : group_count G ≤ no_group
  few = le_trans (few_groups G proper) few_links

  link_row_fits : (r : LinkRow) → In r (index G).links → LinkRowFits r
  unfolding index link_row group_of
  link_row_fits r m = at (map_in (link_row G (groups G)) (range 0 (size G)) m)
    where
      at : (i : ℕ) × In i (range 0 (size G)) × (r ≡ link_row G (groups G) i) → LinkRowFits r
      at (i, mi, q) =
          let li : i < size G = omega (arith, (range_in 0 (size G) mi).1) in
          let e : member G.links (link_at G i) ≡ true = in_member G.links (Rattle.laws.proofs.Members.get_d_in (link 0 0) G.links i li) in
          rw q (record {
            lo_fits = omega (arith, proper.ordered (link_at G i) e, proper.below (link_at G i) e);
            hi_fits = omega (arith, proper.below (link_at G i) e);
            group_fits = le_fits (number_le _ (groups G) few);
          })

  join_fits : (x : Join) → In x (index G).joins → JoinFits x
  unfolding index forest
  join_fits x m = at (heavy-from G 0 (in_filter (heavy 0) (all_joins G) (kruskal_in (all_joins G) (singletons (size G)) m) (leb-zero x.weight)))
    where
      at : (t : Triangle) × StrongTriangle G 0 t × ((e f : Link) × Has t e × Has t f × (x ≡ join (link_number G e) (link_number G f) (weight G t))) → JoinFits x
      at (t, s, (e, f, he, hf, q)) =
          let le : link_number G e < size G = number_lt G e (has_member G t e s.is_triangle he) in
          let lf : link_number G f < size G = number_lt G f (has_member G t f s.is_triangle hf) in
          let low : x.lower ≡ min (link_number G e) (link_number G f) = ap (λ (y : Join). y.lower) q in
          let high : x.higher ≡ max (link_number G e) (link_number G f) = ap (λ (y : Join). y.higher) q in
          record { lower_fits = omega arith; higher_fits = omega arith }

  group_row_fits : (r : GroupRow) → In r (index G).groups → GroupRowFits r
  unfolding index group_row parent
  group_row_fits r m = at (map_in (group_row (groups G)) (groups G) m)
    where
      at : (h : Group) × In h (groups G) × (r ≡ group_row (groups G) h) → GroupRowFits r
      at (h, mh, q) =
          let s = stored_is G mh in
          rw q (record {
            parent_fits = le_fits (number_le _ (groups G) few);
            least_fits = first_below h.members 65536 (omega arith) (λ i mi. omega (arith, (group_in_lem G h.strength s.least (rw s.members_eq at mi)).1));
          })

  pub index_fits : G.n < 65536 → IndexFits (index G)
  unfolding index
  index_fits l = record { n_fits = l; m_fits = omega arith; links_fit = link_row_fits; joins_fit = join_fits; groups_fit = group_row_fits }

-- the bytes of a graph's index say what the index says
pub decode-index : (G : Graph) → Proper G → G.n < 65536 → size G ≤ no_group → decode (index_bytes G) ≡ index G
unfolding index_bytes
decode-index G proper l few_links = decode-encode (index G) (index_fits G proper (omega arith) few_links l)

-- ---- the links that an index names

abbrev pub row_link : LinkRow → Link
row_link r = record { lo = r.lo; hi = r.hi }

pub index_n : (G : Graph) → (index G).n ≡ G.n
unfolding index
index_n G = refl

pub index_links : (G : Graph) → Proper G → size G ≤ no_group → map row_link (index G).links ≡ G.links
unfolding link_row
index_links G proper few_links =
    ext_get_or (link 0 0) (map row_link (index G).links) G.links long (λ i l. at i (rw long at l))
  where
    long : length (map row_link (index G).links) ≡ size G
    long = lib.ListN.length-map (index G).links row_link ∙ rows-length G proper few_links

    row-link : (i : ℕ) → row_link (link_row G (groups G) i) ≡ link_at G i
    row-link i = refl

    at : (i : ℕ) → i < size G → get_or (map row_link (index G).links) i (link 0 0) ≡ link_at G i
    at i l = map_at row_link (record { lo = 0; hi = 0; strength = 0; group = 0 }) (link 0 0) (index G).links i (rw (rows-length G proper few_links) l)
        ∙ ap row_link (row_at_lem G proper few_links i l) ∙ row-link i

-- ---- chain, forest and tree agree

module _ (n : ℕ) (ps : List Pair) (named : Named n ps) where
  G : Graph
  G = graph_of n ps

  proper : Proper G
  unfolding G
  proper = graph_proper n ps named.good

  few_links : size G ≤ no_group
  unfolding G
  few_links = omega (arith, graph_size n ps, named.links)

  pub decoded : decode (index_bytes (graph_of n ps)) ≡ index (graph_of n ps)
  unfolding G graph_of
  decoded = decode-index G proper (omega (arith, named.accounts)) few_links

  names_member : (e : Link) → HasLink ps e → member G.links e ≡ true
  unfolding G
  names_member e h = in_member (graph_of n ps).links (in_graph n ps (member_in (map link_of ps) e h))

  -- chain, forest and tree agree
  pub agree : (e f : Link) → HasLink ps e → HasLink ps f → e ≢ f → (k : ℕ) → min_level ≤ k
      → AllOrNone (Joined (graph_of n ps) k e f) (ForestConnects (index (graph_of n ps)) k e f) (TreeHolds (index (graph_of n ps)) k e f)
  unfolding G
  agree e f he hf ne k l = go (test (same_component (labels_at G k) (link_number G e) (link_number G f)))
    where
      me : member G.links e ≡ true
      me = names_member e he

      mf : member G.links f ≡ true
      mf = names_member f hf

      no_chain : same_component (labels_at G k) (link_number G e) (link_number G f) ≡ false → ¬ (Joined G k e f)
      no_chain c j = Rattle.laws.proofs.Lists.true_not_false (same_same_component (labels_at G k) (link_number G e) (link_number G f) (joined_same G k proper j)) c

      chain : (link_number G e ≡ link_number G f) ⊎ Joined G k (link_at G (link_number G e)) (link_at G (link_number G f)) → Joined G k e f
      chain (inl q) = absurd (ne (sym (link_of_number G e me) ∙ ap (link_at G) q ∙ link_of_number G f mf))
      chain (inr c) = rw (link_of_number G e me, link_of_number G f mf) at c

      go : (same_component (labels_at G k) (link_number G e) (link_number G f) ≡ true) ⊎ (same_component (labels_at G k) (link_number G e) (link_number G f) ≡ false)
          → AllOrNone (Joined G k e f) (ForestConnects (index G) k e f) (TreeHolds (index G) k e f)
      go (inl c) =
          let j = chain (same_joined G k (link_number G e) (link_number G f) (number_lt G e me) (number_lt G f mf) (same_component_same (labels_at G k) (link_number G e) (link_number G f) c)) in
          inl (j, joined_forest G proper few_links k e f ne me mf j, joined_tree G proper few_links k e f l me mf j)
      go (inr c) = inr (no_chain c, (λ x. no_chain c (forest_joined G proper few_links k e f ne x)), (λ x. no_chain c (tree_joined G proper few_links k e f ne x)))

-- ---- the index tells the graph

-- the same pairs give the same graph
pub same_graph : (n n' : ℕ) (ps ps' : List Pair) → GoodPairs n ps → GoodPairs n' ps' → SameGraph n ps n' ps' → graph_of n ps ≡ graph_of n' ps'
unfolding graph_of links_of
same_graph n n' ps ps' a b same =
    let links : sort link_before (map link_of ps) ≡ sort link_before (map link_of ps') =
    sort_unique (map link_of ps) (map link_of ps') (links_distinct n ps a) (links_distinct n' ps' b)
    (λ e m. member_in (map link_of ps') e ((same.same_pairs e).0 (in_member (map link_of ps) m)))
    (λ e m. member_in (map link_of ps) e ((same.same_pairs e).1 (in_member (map link_of ps') m))) in
    λ i. record { n = same.same_accounts i; links = links i }

graph_same : (n n' : ℕ) (ps ps' : List Pair) → graph_of n ps ≡ graph_of n' ps' → SameGraph n ps n' ps'
unfolding graph_of
graph_same n n' ps ps' q = record {
  same_accounts = ap (λ (G : Graph). G.n) q;
  same_pairs = λ e. (one n n' ps ps' q e, one n' n ps' ps (sym q) e);
}
  where
    one : (a a' : ℕ) (xs xs' : List Pair) → graph_of a xs ≡ graph_of a' xs' → (e : Link) → HasLink xs e → HasLink xs' e
    one a a' xs xs' r e h =
        let m : In e (graph_of a' xs').links = subst (λ (G : Graph). In e G.links) r (in_graph a xs (member_in (map link_of xs) e h)) in
        in_member (map link_of xs') (graph_in_lem a' xs' m)

-- equal bytes say the same index, which names its accounts and links
pub same_bytes : (n n' : ℕ) (ps ps' : List Pair) → Named n ps → Named n' ps' → (index_bytes (graph_of n ps) ≡ index_bytes (graph_of n' ps')) ↔ SameGraph n ps n' ps'
unfolding G
same_bytes n n' ps ps' a b = (to, back)
  where
    to : index_bytes (graph_of n ps) ≡ index_bytes (graph_of n' ps') → SameGraph n ps n' ps'
    to q = graph_same n n' ps ps' (λ i. record { n = accounts i; links = links i })
      where
        same : index (graph_of n ps) ≡ index (graph_of n' ps')
        same = sym (decoded n ps a) ∙ ap decode q ∙ decoded n' ps' b

        accounts : (graph_of n ps).n ≡ (graph_of n' ps').n
        accounts = sym (index_n (graph_of n ps)) ∙ ap (λ (x : Index). x.n) same ∙ index_n (graph_of n' ps')

        links : (graph_of n ps).links ≡ (graph_of n' ps').links
        links =
            sym (index_links (graph_of n ps) (proper n ps a) (few_links n ps a)) ∙ ap (λ (x : Index). map row_link x.links) same
            ∙ index_links (graph_of n' ps') (proper n' ps' b) (few_links n' ps' b)

    back : SameGraph n ps n' ps' → index_bytes (graph_of n ps) ≡ index_bytes (graph_of n' ps')
    back s = ap index_bytes (same_graph n n' ps ps' a.good b.good s)

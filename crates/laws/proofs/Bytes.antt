-- The numbers of an index are bytes.
use mathlib.Core.Path.{◌≡◌, refl}
use mathlib.Core.Bool.{true}
use mathlib.Core.List.{List, [], ◌∷◌, ◌++◌}
use mathlib.Core.List.Memᴰ.{head as here}
use mathlib.Core.List.Memᴰ.{tail as there}
use mathlib.Core.List.{Memᴰ as In}
use Prim.Native.Nat.{ℕ, ◌≤◌, ◌<◌}
use native.Mathlib.Nat.{le_trans}
use native.Mathlib.Omega.{arith}
use lib.Dec.{leb-zero}
use Rattle.truss.specs.Limits.{max_links, max_strength}
use Rattle.truss.specs.Lists.{concat_map, range}
use Rattle.truss.specs.Graph.{Link, Graph, Triangle, Has, side_ab, link, link_at, link_number, member}
use Rattle.truss.specs.Strength.{strength, weight}
use Rattle.truss.specs.Chain.{StrongTriangle}
use Rattle.truss.specs.Forest.{Join, join, all_joins, singletons, forest}
use Rattle.truss.specs.Group.{Group, groups}
use Rattle.truss.specs.Record.{kind_index_head, head_bytes, end_bytes}
use Rattle.truss.specs.Index.{Index, LinkRow, GroupRow, index, link_row, group_row, encode, index_bytes, link_bytes, join_bytes, group_bytes}
use Rattle.laws.proofs.Proper.{Proper}
use Rattle.laws.proofs.Members.{in_filter, map_in, range_in, get_d_in, in_member}
use Rattle.laws.proofs.Components.{kruskal_in, heavy}
use Rattle.laws.proofs.Connected.{heavy-from}
use Rattle.laws.proofs.Ordering.{Distinct}
use Rattle.laws.proofs.Groups.{size, strength_at, group_strong}
use Rattle.laws.proofs.Stored.{stored_is}
use Rattle.laws.proofs.Bound.{strength-max}

-- each number of a list is a byte
abbrev pub Bytes : List ℕ → Type 0
Bytes [] = Unit {0}
Bytes (x ∷ xs) = (x < 256) × Bytes xs

bytes_append : (xs ys : List ℕ) → Bytes xs → Bytes ys → Bytes (xs ++ ys)
bytes_append [] ys a b = b
bytes_append (x ∷ xs) ys a b = (a.0, bytes_append xs ys a.1 b)

bytes_concat_map : {A : Type 0} (f : A → List ℕ) (xs : List A) → ((x : A) → In x xs → Bytes (f x)) → Bytes (concat_map f xs)
unfolding concat_map
bytes_concat_map f [] h = tt
bytes_concat_map f (x ∷ xs) h = bytes_append (f x) (concat_map f xs) (h x (here refl)) (bytes_concat_map f xs (λ y m. h y (there m)))

module _ (x : Index) (links_small : (r : LinkRow) → In r x.links → r.strength < 256) (joins_small : (y : Join) → In y x.joins → y.weight < 256)
    (groups_small : (r : GroupRow) → In r x.groups → r.strength < 256) where
  encode_bytes : Bytes (encode x)
  unfolding encode
  encode_bytes =
      bytes_append (head_bytes kind_index_head x.n x.m) (concat_map link_bytes x.links ++ (concat_map join_bytes x.joins ++ (concat_map group_bytes x.groups ++ end_bytes))) (omega arith)
      (bytes_append (concat_map link_bytes x.links) (concat_map join_bytes x.joins ++ (concat_map group_bytes x.groups ++ end_bytes)) (bytes_concat_map link_bytes x.links (λ r m. omega (arith, links_small r m)))
      (bytes_append (concat_map join_bytes x.joins) (concat_map group_bytes x.groups ++ end_bytes) (bytes_concat_map join_bytes x.joins (λ y m. omega (arith, joins_small y m)))
      (bytes_append (concat_map group_bytes x.groups) end_bytes (bytes_concat_map group_bytes x.groups (λ r m. omega (arith, groups_small r m))) (omega arith))))

weight-first : (G : Graph) (t : Triangle) → weight G t ≤ strength G (side_ab t)
unfolding weight
weight-first G t = omega arith

-- strengths and weights of an index are bytes
pub record SmallRows (x : Index) : Type 0 where
  pub links_small : (r : LinkRow) → In r x.links → r.strength < 256
  pub joins_small : (y : Join) → In y x.joins → y.weight < 256
  pub groups_small : (r : GroupRow) → In r x.groups → r.strength < 256

pub index_small : (G : Graph) → Proper G → Distinct G.links → size G ≤ max_links → SmallRows (index G)
unfolding index link_row group_row forest
index_small G proper different few = record {
  links_small = λ r m. links r (map_in (link_row G (groups G)) (range 0 (size G)) m);
  joins_small = joined;
  groups_small = λ r m. grouped r (map_in (group_row (groups G)) (groups G) m);
}
  where
    top : (e : Link) → member G.links e ≡ true → strength G e ≤ max_strength
    top = strength-max G proper different few

    top_at : (i : ℕ) → i < size G → strength_at G i ≤ max_strength
    top_at i l = top (link_at G i) (in_member G.links (get_d_in (link 0 0) G.links i l))

    links : (r : LinkRow) → (i : ℕ) × In i (range 0 (size G)) × (r ≡ link_row G (groups G) i) → r.strength < 256
    links r (i, m, q) = rw q (omega (arith, top_at i (omega (arith, (range_in 0 (size G) m).1))))

    joined : (y : Join) → In y (forest G) → y.weight < 256
    joined y m = at (heavy-from G 0 (in_filter (heavy 0) (all_joins G) (kruskal_in (all_joins G) (singletons (size G)) m) (leb-zero y.weight)))
      where
        at : (t : Triangle) × StrongTriangle G 0 t × ((e f : Link) × Has t e × Has t f × (y ≡ join (link_number G e) (link_number G f) (weight G t))) → y.weight < 256
        at (t, s, (e, f, he, hf, q)) = let w = light t s in rw q (omega arith)
          where
            light : (t : Triangle) → StrongTriangle G 0 t → weight G t ≤ max_strength
            light u s' = le_trans (weight-first G u) (top (side_ab u) s'.is_triangle.has_ab)

    grouped : (r : GroupRow) → (h : Group) × In h (groups G) × (r ≡ group_row (groups G) h) → r.strength < 256
    grouped r (h, m, q) =
        let s = stored_is G m in
        rw q (omega (arith, group_strong G h.strength s.least s.least_in, top_at s.least s.least_lt))

pub index_bytes_lem : (G : Graph) → Proper G → Distinct G.links → size G ≤ max_links → Bytes (index_bytes G)
unfolding index_bytes
index_bytes_lem G proper different few = let s = index_small G proper different few in encode_bytes (index G) s.links_small s.joins_small s.groups_small

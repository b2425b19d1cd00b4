-- Paths in the stored forest: they lead between two links exactly if the links are joined.
use mathlib.Core.Path.{◌≡◌, sym, ap, ◌∙◌}
use mathlib.Core.Logic.{◌⊎◌, inl, inr, ◌≢◌}
use mathlib.Core.Bool.{true}
use mathlib.Core.List.{List}
use mathlib.Core.List.{Memᴰ as In}
use Prim.Native.Nat.{ℕ, ◌≤◌, ◌<◌, min, max}
use native.Mathlib.Omega.{arith}
use lib.ListN.{length, get_or}
use borrow.Author.Tests.{leb-true, le-leb}
use Rattle.truss.specs.Limits.{no_group}
use Rattle.truss.specs.Lists.{filter}
use Rattle.truss.specs.Graph.{Link, Graph, Triangle, Has, link_at, link_number, member}
use Rattle.truss.specs.Strength.{weight}
use Rattle.truss.specs.Chain.{Joined, StrongTriangle}
use Rattle.truss.specs.Forest.{Join, join, all_joins, singletons, forest}
use Rattle.truss.specs.Group.{labels_at}
use Rattle.truss.specs.Index.{Index, index}
use Rattle.truss.specs.Stored.{WrittenJoin, join_at, ForestPath, ForestConnects}
use Rattle.laws.proofs.Proper.{Proper}
use Rattle.truss.specs.Stored.ForestPath.{one_join, and_on}
use Rattle.laws.proofs.Members.{filter_in, in_filter, number_lt, link_of_number, get_d_in, in_get_d}
use Rattle.laws.proofs.Components.{Same, components_joins, components_least, singletons_alone, kruskal_in, heavy}
use Rattle.laws.proofs.Connected.{heavy-from, has_member, same_joined, joined_same, forest-labels}
use Rattle.laws.proofs.Groups.{size}
use Rattle.laws.proofs.Tree.{number_is, is_number}

-- ---- paths

module _ (x : Index) (k : ℕ) where
  joins_sym : {i j : ℕ} → WrittenJoin x k i j → WrittenJoin x k j i
  joins_sym {i} {j} y = record { at = y.at; in_range = y.in_range; heavy = y.heavy; joins = swap y.joins }
    where
      swap : (((join_at x y.at).lower ≡ i) × ((join_at x y.at).higher ≡ j)) ⊎ (((join_at x y.at).lower ≡ j) × ((join_at x y.at).higher ≡ i))
          → (((join_at x y.at).lower ≡ j) × ((join_at x y.at).higher ≡ i)) ⊎ (((join_at x y.at).lower ≡ i) × ((join_at x y.at).higher ≡ j))
      swap (inl p) = inr p
      swap (inr p) = inl p

  path_trans : {i j l : ℕ} → ForestPath x k i j → ForestPath x k j l → ForestPath x k i l
  path_trans (one_join y) p = and_on y p
  path_trans (and_on y q) p = and_on y (path_trans q p)

  path_sym : {i j : ℕ} → ForestPath x k i j → ForestPath x k j i
  path_sym (one_join y) = one_join (joins_sym y)
  path_sym (and_on y q) = path_trans (path_sym q) (one_join (joins_sym y))

  PathOrSame : ℕ → ℕ → Type 0
  PathOrSame i j = (i ≡ j) ⊎ ForestPath x k i j

  pos_sym : (i j : ℕ) → PathOrSame i j → PathOrSame j i
  unfolding PathOrSame
  pos_sym i j (inl q) = inl (sym q)
  pos_sym i j (inr p) = inr (path_sym p)

  pos_trans : (i j l : ℕ) → PathOrSame i j → PathOrSame j l → PathOrSame i l
  unfolding PathOrSame
  pos_trans i j l (inl q) d = rw q d
  pos_trans i j l (inr p) (inl q) = inr (rw q at p)
  pos_trans i j l (inr p) (inr r) = inr (path_trans p r)

-- ---- chains and the stored forest

module _ (G : Graph) (proper : Proper G) (fits : size G ≤ no_group) (k : ℕ) where
  taken : List Join
  taken = filter (heavy k) (forest G)

  joins_same : {i j : ℕ} → WrittenJoin (index G) k i j → Same (labels_at G k) i j
  unfolding index taken
  joins_same {i} {j} y = ends y.joins
    where
      x : Join
      x = join_at (index G) y.at

      same : Same (labels_at G k) x.lower x.higher
      same = rw (forest-labels G k) at (components_joins taken (singletons (size G))
          (in_filter (heavy k) (forest G) (get_d_in _ (forest G) y.at y.in_range) (le-leb k x.weight y.heavy)))

      ends : ((x.lower ≡ i) × (x.higher ≡ j)) ⊎ ((x.lower ≡ j) × (x.higher ≡ i)) → Same (labels_at G k) i j
      ends (inl p) = rw (p.0, p.1) at same
      ends (inr p) = sym (rw (p.0, p.1) at same)

  path_same : {i j : ℕ} → ForestPath (index G) k i j → Same (labels_at G k) i j
  path_same (one_join y) = joins_same y
  path_same (and_on y p) = joins_same y ∙ path_same p

  pub forest_joined : (e f : Link) → e ≢ f → ForestConnects (index G) k e f → Joined G k e f
  forest_joined e f ne x = go (same_joined G k x.i x.j a.0 b.0 (path_same x.path))
    where
      a : (x.i < size G) × (link_at G x.i ≡ e)
      a = let r = number_is G proper fits e x.i x.number_e in (r.0, r.1)

      b : (x.j < size G) × (link_at G x.j ≡ f)
      b = let r = number_is G proper fits f x.j x.number_f in (r.0, r.1)

      go : (x.i ≡ x.j) ⊎ Joined G k (link_at G x.i) (link_at G x.j) → Joined G k e f
      go (inl q) = absurd (ne (sym a.1 ∙ ap (link_at G) q ∙ b.1))
      go (inr c) = rw (a.1, b.1) at c

  taken_path : (x : Join) → In x taken → (x.lower < size G) × (x.higher < size G) × PathOrSame (index G) k x.lower x.higher
  unfolding index taken forest PathOrSame
  taken_path x m = ends (heavy-from G k (in_filter (heavy k) (all_joins G) (kruskal_in (all_joins G) (singletons (size G)) r.0) r.1))
    where
      r : In x (forest G) × (heavy k x ≡ true)
      r = filter_in (heavy k) (forest G) m

      at : (q : ℕ) × (q < length (forest G)) × (get_or (forest G) q (record { lower = 0; higher = 0; weight = 0 }) ≡ x)
      at = in_get_d (record { lower = 0; higher = 0; weight = 0 }) (forest G) r.0

      path : ForestPath (index G) k x.lower x.higher
      path = one_join (record {
        at = at.0;
        in_range = at.1;
        heavy = rw at.2 (leb-true k x.weight r.1);
        joins = inl (ap (λ (y : Join). y.lower) at.2, ap (λ (y : Join). y.higher) at.2);
      })

      ends : (t : Triangle) × StrongTriangle G k t × ((e f : Link) × Has t e × Has t f × (x ≡ join (link_number G e) (link_number G f) (weight G t)))
          → (x.lower < size G) × (x.higher < size G) × ((x.lower ≡ x.higher) ⊎ ForestPath (index G) k x.lower x.higher)
      ends (t, s, (e, f, he, hf, q)) =
          let le : link_number G e < size G = number_lt G e (has_member G t e s.is_triangle he) in
          let lf : link_number G f < size G = number_lt G f (has_member G t f s.is_triangle hf) in
          let low : x.lower ≡ min (link_number G e) (link_number G f) = ap (λ (y : Join). y.lower) q in
          let high : x.higher ≡ max (link_number G e) (link_number G f) = ap (λ (y : Join). y.higher) q in
          (omega arith, omega arith, inr path)

  pub joined_forest : (e f : Link) → e ≢ f → member G.links e ≡ true → member G.links f ≡ true → Joined G k e f → ForestConnects (index G) k e f
  unfolding taken PathOrSame
  joined_forest e f ne me mf c = go (components_least (size G) (PathOrSame (index G) k) (pos_sym (index G) k) (pos_trans (index G) k) taken (singletons (size G))
      (λ a b la lb s. inl (singletons_alone (size G) a b la lb s)) taken_path (link_number G e) (link_number G f) (number_lt G e me) (number_lt G f mf)
      (rw (forest-labels G k) (joined_same G k proper c)))
    where
      go : (link_number G e ≡ link_number G f) ⊎ ForestPath (index G) k (link_number G e) (link_number G f) → ForestConnects (index G) k e f
      go (inl q) = absurd (ne (sym (link_of_number G e me) ∙ ap (link_at G) q ∙ link_of_number G f mf))
      go (inr p) = record { i = link_number G e; j = link_number G f; number_e = is_number G proper fits e me; number_f = is_number G proper fits f mf; path = p }

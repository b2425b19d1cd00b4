-- Two links are joined at k exactly if the joins of weight at least k bring them together, and exactly if those of the forest do.
use mathlib.Core.Path.{◌≡◌, refl, sym, ap, ◌∙◌}
use mathlib.Core.Logic.{◌⊎◌, inl, inr}
use mathlib.Core.Bool.{Bool, true, false, ◌&&◌, ◌||◌}
use mathlib.Core.List.{List, [], ◌∷◌}
use mathlib.Core.List.Memᴰ.{cases_cons as in-cons}
use mathlib.Core.List.Memᴰ.{head as here}
use mathlib.Core.List.Memᴰ.{not-nil as in-nil}
use mathlib.Core.List.Memᴰ.{tail as there}
use mathlib.Core.List.{Memᴰ as In}
use Prim.Native.Nat.{ℕ, ◌≤◌, ◌<◌, min, max}
use native.Mathlib.Nat.{le_trans, min-eq_left, min-eq_right, max-eq_left, max-eq_right}
use native.Mathlib.Omega.{arith}
use lib.Dec.{eqb, ltb, leb}
use lib.ListN.{length}
use borrow.Author.Tests.{leb-true, leb-false, le-leb, ltb-true, ltb-false, eqb-true}
use Rattle.truss.specs.Lists.{filter, range, concat_map}
use Rattle.truss.specs.Graph.{Link, Graph, Triangle, IsTriangle, Has, is_ab, is_ac, is_bc, side_ab, side_ac, side_bc, member, link_number, link_at, triangles, triangles_on}
use Rattle.truss.specs.Strength.{weight}
use Rattle.truss.specs.Chain.{StrongTriangle, Joined, one_triangle, and_on}
use Rattle.truss.specs.Forest.{Join, join, join_before, triangle_joins, all_joins, singletons, components, forest}
use Rattle.truss.specs.Group.{labels_at}
use Rattle.laws.proofs.Proper.{Proper}
use Rattle.laws.proofs.Lists.{test, and_left, and_right, both, or_cases, or_left_false}
use Rattle.laws.proofs.Members.{filter_in, in_filter, sort_in, in_sort, sort_sorted, concat_map_in, in_concat_map, map_in, in_map, in_range, member_in, in_member, number_lt, link_of_number}
use Rattle.laws.proofs.Chains.{strong_of_weight, weight_of_strong, joined_sym, joined_trans}
use Rattle.laws.proofs.Components.{Same, components_joins, components_least, singletons_alone, kruskal-components, filter-kruskal, heavy, Falling}

-- ---- the graph's triangles

module _ (G : Graph) where
  pub triangles_in : {t : Triangle} → In t (triangles G) → IsTriangle (member G.links) t
  unfolding triangles triangles_on
  triangles_in {t} m = at (concat_map_in (triangles_on G) G.links m)
    where
      at : (e : Link) × In e G.links × In t (triangles_on G e) → IsTriangle (member G.links) t
      at r =
          let e : Link = r.0 in
          let u = map_in _ _ r.2 in
          let c : ℕ = u.0 in
          let v = filter_in _ (range 0 G.n) u.1 in
          rw u.2 (record {
            has_ab = in_member G.links r.1;
            has_ac = and_left (member G.links (record { lo = e.lo; hi = c })) (member G.links (record { lo = e.hi; hi = c })) v.1;
            has_bc = and_right (member G.links (record { lo = e.lo; hi = c })) (member G.links (record { lo = e.hi; hi = c })) v.1;
          })

  pub in_triangles : Proper G → (t : Triangle) → IsTriangle (member G.links) t → In t (triangles G)
  unfolding triangles triangles_on
  in_triangles proper t i =
      in_concat_map (triangles_on G) G.links (member_in G.links (side_ab t) i.has_ab)
      (in_map (λ c. record { a = t.a; b = t.b; c = c }) _
      (in_filter _ (range 0 G.n) (in_range 0 G.n (omega arith) (omega (arith, proper.below (side_bc t) i.has_bc))) (both i.has_ac i.has_bc)))

-- ---- joins

module _ (G : Graph) where
  -- a triangle's join is that of two of its links
  pub triangle_joins_in : (t : Triangle) {x : Join} → In x (triangle_joins G t) → (e f : Link) × Has t e × Has t f × (x ≡ join (link_number G e) (link_number G f) (weight G t))
  unfolding triangle_joins
  triangle_joins_in t {x} m = first (in-cons m)
    where
      third : (x ≡ join (link_number G (side_ac t)) (link_number G (side_bc t)) (weight G t)) ⊎ In x [] → (e f : Link) × Has t e × Has t f × (x ≡ join (link_number G e) (link_number G f) (weight G t))
      third (inl q) = (side_ac t, side_bc t, is_ac refl, is_bc refl, q)
      third (inr n) = absurd (in-nil n)

      second : (x ≡ join (link_number G (side_ab t)) (link_number G (side_bc t)) (weight G t)) ⊎ In x (join (link_number G (side_ac t)) (link_number G (side_bc t)) (weight G t) ∷ [])
          → (e f : Link) × Has t e × Has t f × (x ≡ join (link_number G e) (link_number G f) (weight G t))
      second (inl q) = (side_ab t, side_bc t, is_ab refl, is_bc refl, q)
      second (inr n) = third (in-cons n)

      first : (x ≡ join (link_number G (side_ab t)) (link_number G (side_ac t)) (weight G t))
          ⊎ In x (join (link_number G (side_ab t)) (link_number G (side_bc t)) (weight G t) ∷ join (link_number G (side_ac t)) (link_number G (side_bc t)) (weight G t) ∷ [])
          → (e f : Link) × Has t e × Has t f × (x ≡ join (link_number G e) (link_number G f) (weight G t))
      first (inl q) = (side_ab t, side_ac t, is_ab refl, is_ac refl, q)
      first (inr n) = second (in-cons n)

  pub has_member : (t : Triangle) (e : Link) → IsTriangle (member G.links) t → Has t e → member G.links e ≡ true
  has_member t e i (is_ab q) = rw q i.has_ab
  has_member t e i (is_ac q) = rw q i.has_ac
  has_member t e i (is_bc q) = rw q i.has_bc

  joins_falling : Falling (all_joins G)
  unfolding all_joins
  joins_falling = sort_sorted join_before (λ (x y : Join). y.weight ≤ x.weight) (λ x y z p q. le_trans q p) yes_before no_before (concat_map (triangle_joins G) (triangles G))
    where
      tie : Join → Join → Bool
      tie x y = ltb x.lower y.lower || (eqb x.lower y.lower && ltb x.higher y.higher)

      yes_before : (x y : Join) → join_before x y ≡ true → y.weight ≤ x.weight
      yes_before x y h = go (or_cases (ltb y.weight x.weight) (eqb x.weight y.weight && tie x y) h)
        where
          go : (ltb y.weight x.weight ≡ true) ⊎ ((eqb x.weight y.weight && tie x y) ≡ true) → y.weight ≤ x.weight
          go (inl c) = omega (arith, ltb-true y.weight x.weight c)
          go (inr c) = omega (arith, eqb-true x.weight y.weight (and_left (eqb x.weight y.weight) (tie x y) c))

      no_before : (x y : Join) → join_before x y ≡ false → x.weight ≤ y.weight
      no_before x y h = ltb-false y.weight x.weight (or_left_false (ltb y.weight x.weight) (eqb x.weight y.weight && tie x y) h)

module _ (G : Graph) (k : ℕ) where
  -- the joins of weight at least k
  abbrev pub heavy_joins : List Join
  heavy_joins = filter (heavy k) (all_joins G)

  -- each comes from two links of a strong triangle
  pub heavy-from : {x : Join} → In x heavy_joins
      → (t : Triangle) × StrongTriangle G k t × ((e f : Link) × Has t e × Has t f × (x ≡ join (link_number G e) (link_number G f) (weight G t)))
  unfolding all_joins
  heavy-from {x} m = at (concat_map_in (triangle_joins G) (triangles G) (sort_in join_before _ (filter_in (heavy k) (all_joins G) m).0))
    where
      big : k ≤ x.weight
      big = leb-true k x.weight (filter_in (heavy k) (all_joins G) m).1

      at : (t : Triangle) × In t (triangles G) × In x (triangle_joins G t)
          → (t : Triangle) × StrongTriangle G k t × ((e f : Link) × Has t e × Has t f × (x ≡ join (link_number G e) (link_number G f) (weight G t)))
      at r =
          let u = triangle_joins_in G r.0 r.2 in
          (r.0, strong_of_weight G k r.0 (triangles_in G r.1) (rw u.4 at big), u)

  -- and a strong triangle brings its links together
  module _ (proper : Proper G) where
    labels : List ℕ
    labels = labels_at G k

    ends_same : (t : Triangle) → StrongTriangle G k t → (i j : ℕ) → In (join i j (weight G t)) (triangle_joins G t) → Same labels i j
    unfolding labels labels_at all_joins
    ends_same t s i j m = go (test (leb i j))
      where
        x : Join
        x = join i j (weight G t)

        in_joins : In x heavy_joins
        in_joins = in_filter (heavy k) (all_joins G)
            (in_sort join_before _ (in_concat_map (triangle_joins G) (triangles G) (in_triangles G proper t s.is_triangle) m))
            (le-leb k (weight G t) (weight_of_strong G k t s))

        same : Same labels (min i j) (max i j)
        same = components_joins heavy_joins (singletons (length G.links)) in_joins

        go : (leb i j ≡ true) ⊎ (leb i j ≡ false) → Same labels i j
        go (inl c) = let l = leb-true i j c in rw (min-eq_left l, max-eq_right l) at same
        go (inr c) = let l : j ≤ i = omega (arith, leb-false i j c) in sym (rw (min-eq_right l, max-eq_left l) at same)

    first_same : (t : Triangle) (e : Link) → StrongTriangle G k t → Has t e → Same labels (link_number G (side_ab t)) (link_number G e)
    unfolding triangle_joins
    first_same t e s (is_ab q) = rw q refl
    first_same t e s (is_ac q) = rw q (ends_same t s (link_number G (side_ab t)) (link_number G (side_ac t)) (here refl))
    first_same t e s (is_bc q) = rw q (ends_same t s (link_number G (side_ab t)) (link_number G (side_bc t)) (there (here refl)))

    pub joined_same : {e f : Link} → Joined G k e f → Same (labels_at G k) (link_number G e) (link_number G f)
    unfolding labels
    joined_same (one_triangle {e = e} {f = f} t s he hf) = sym (first_same t e s he) ∙ first_same t f s hf
    joined_same (and_on {e = e} {shared = g} t s he hg rest) = sym (first_same t e s he) ∙ first_same t g s hg ∙ joined_same rest

  -- what is together is joined
  JoinedOrSame : ℕ → ℕ → Type 0
  JoinedOrSame i j = (i ≡ j) ⊎ Joined G k (link_at G i) (link_at G j)

  jos_sym : (i j : ℕ) → JoinedOrSame i j → JoinedOrSame j i
  unfolding JoinedOrSame
  jos_sym i j (inl q) = inl (sym q)
  jos_sym i j (inr c) = inr (joined_sym G k c)

  jos_trans : (i j l : ℕ) → JoinedOrSame i j → JoinedOrSame j l → JoinedOrSame i l
  unfolding JoinedOrSame
  jos_trans i j l (inl q) d = rw q d
  jos_trans i j l (inr c) (inl q) = inr (rw q at c)
  jos_trans i j l (inr c) (inr d) = inr (joined_trans G k c d)

  pub same_joined : (i j : ℕ) → i < length G.links → j < length G.links → Same (labels_at G k) i j → (i ≡ j) ⊎ Joined G k (link_at G i) (link_at G j)
  unfolding JoinedOrSame labels_at
  same_joined i j li lj h =
      components_least (length G.links) JoinedOrSame jos_sym jos_trans heavy_joins (singletons (length G.links))
      (λ a b la lb s. inl (singletons_alone (length G.links) a b la lb s)) (λ x m. from x (heavy-from m)) i j li lj h
    where
      from : (x : Join) → (t : Triangle) × StrongTriangle G k t × ((e f : Link) × Has t e × Has t f × (x ≡ join (link_number G e) (link_number G f) (weight G t)))
          → (x.lower < length G.links) × (x.higher < length G.links) × JoinedOrSame x.lower x.higher
      from x (t, s, (e, f, he, hf, q)) = rw q (omega (arith, lte, ltf), omega (arith, lte, ltf), go (test (leb (link_number G e) (link_number G f))))
        where
          me : member G.links e ≡ true
          me = has_member G t e s.is_triangle he

          mf : member G.links f ≡ true
          mf = has_member G t f s.is_triangle hf

          lte : link_number G e < length G.links
          lte = number_lt G e me

          ltf : link_number G f < length G.links
          ltf = number_lt G f mf

          chain : Joined G k (link_at G (link_number G e)) (link_at G (link_number G f))
          chain = rw (link_of_number G e me, link_of_number G f mf) (one_triangle t s he hf)

          go : (leb (link_number G e) (link_number G f) ≡ true) ⊎ (leb (link_number G e) (link_number G f) ≡ false) → JoinedOrSame (min (link_number G e) (link_number G f)) (max (link_number G e) (link_number G f))
          go (inl c) = let l = leb-true (link_number G e) (link_number G f) c in rw (min-eq_left l, max-eq_right l) (inr chain)
          go (inr c) =
              let l : link_number G f ≤ link_number G e = omega (arith, leb-false (link_number G e) (link_number G f) c) in
              rw (min-eq_right l, max-eq_left l) (inr (joined_sym G k chain))

-- ---- the forest

-- its joins of weight at least k bring together what all such joins do
pub forest-labels : (G : Graph) (k : ℕ) → components (singletons (length G.links)) (filter (heavy k) (forest G)) ≡ labels_at G k
unfolding labels_at forest
forest-labels G k =
    ap (components (singletons (length G.links))) (filter-kruskal k (all_joins G) (joins_falling G) (singletons (length G.links)))
    ∙ kruskal-components (filter (heavy k) (all_joins G)) (singletons (length G.links))

-- How many joins can be taken: each takes a root away, so points of which one fewer than their number are taken are one tree. How long an index is: the forest has
-- fewer joins than there are links, so an index of m links has at most 20 m bytes.
use mathlib.Core.Path.{◌≡◌, refl, sym, ap, ◌∙◌, subst}
use mathlib.Core.Logic.{◌⊎◌, inl, inr, ◌≢◌}
use mathlib.Core.Bool.{Bool, true, false, cond, not, ◌&&◌}
use mathlib.Core.List.{List, [], ◌∷◌, ◌++◌, append-nil, head-eq_of_cons-eq, tail-eq_of_cons-eq}
use mathlib.Core.List.Memᴰ.{head as here}
use mathlib.Core.List.Memᴰ.{tail as there}
use mathlib.Core.List.{Memᴰ as In}
use Prim.Native.Nat.{ℕ, zero, suc, ◌+◌, ◌*◌, ◌≤◌, ◌<◌, min, max}
use native.Mathlib.Nat.{le_refl, not-suc-le-zero}
use native.Mathlib.Omega.{arith}
use lib.Dec.{eqb, leb, leb-zero, ltb}
use lib.ListN.{length, length-append}
use borrow.Author.Tests.{eqb-true, eqb-false, eq-eqb, ne_eqb, leb-true, leb-false, ltb-true, ltb-false}
use Rattle.truss.specs.Limits.{no_group, max_index_bytes}
use Rattle.truss.specs.Lists.{count, concat_map, range}
use Rattle.truss.specs.Graph.{Link, Graph, Triangle, Has, link_number, Pair, graph_of}
use Rattle.truss.specs.Strength.{weight}
use Rattle.truss.specs.Chain.{StrongTriangle}
use Rattle.truss.specs.Forest.{Join, join, all_joins, singletons, merge, same_component, kruskal, forest, components}
use Rattle.truss.specs.Index.{Index, index, encode, index_bytes, link_bytes, join_bytes, group_bytes}
use Rattle.laws.proofs.Proper.{Proper}
use Rattle.laws.proofs.Lists.{test, true_not_false, both, and_left, and_right, and_false, count_le}
use Rattle.laws.proofs.Members.{in_filter, range_at, number_lt}
use Rattle.laws.proofs.Lowering.{count_some_of}
use Rattle.laws.proofs.Components.{label, low, high, relabel, relabel_cases, label-merge, heavy, kruskal_in}
use Rattle.laws.proofs.Connected.{heavy-from, has_member}
use Rattle.laws.proofs.Groups.{size}
use Rattle.laws.proofs.Stored.{few_groups}
use Rattle.laws.proofs.Tree.{rows-length, group_rows_length}
use Rattle.laws.proofs.Accepted.{Named, graph_proper, graph_size}
use Rattle.truss.specs.Record.{end_bytes}

pub count-fewer : (p q : ℕ → Bool) (n : ℕ) → ((i : ℕ) → i < n → p i ≡ true → q i ≡ true) → (z : ℕ) → z < n → q z ≡ true → p z ≡ false → count p n < count q n
unfolding count
count-fewer p q zero h z l qz pz = absurd (not-suc-le-zero l)
count-fewer p q (suc n) h z l qz pz = go (test (eqb z n)) (p n) refl (q n) refl (λ k. count-fewer p q n (λ i m. h i (omega arith)) z k qz pz)
  where
    mono : count p n ≤ count q n
    mono = Rattle.laws.proofs.Lists.count_mono p q n (λ i m. h i (omega arith))

    go : (eqb z n ≡ true) ⊎ (eqb z n ≡ false) → (b : Bool) → p n ≡ b → (c : Bool) → q n ≡ c → (z < n → count p n < count q n)
        → cond (p n) 1 0 + count p n < cond (q n) 1 0 + count q n
    go (inl e) true b c d ih = absurd (true_not_false (ap p (eqb-true z n e) ∙ b) pz)
    go (inl e) false b true d ih = rw (b, d) (omega (arith, mono))
    go (inl e) false b false d ih = absurd (true_not_false (ap q (sym (eqb-true z n e)) ∙ qz) d)
    go (inr e) true b true d ih = let ne : z ≢ n = eqb-false z n e in let r = ih (omega arith) in rw (b, d) (omega arith)
    go (inr e) true b false d ih = absurd (true_not_false (h n (le_refl (suc n)) b) d)
    go (inr e) false b true d ih = rw (b, d) (omega (arith, mono))
    go (inr e) false b false d ih = let ne : z ≢ n = eqb-false z n e in let r = ih (omega arith) in rw (b, d) (omega arith)

-- ---- labels are least points: what a union-find with parent[i] ≤ i keeps

pub record Roots (m : ℕ) (labels : List ℕ) : Type 0 where
  pub below : (a : ℕ) → a < m → label labels a ≤ a
  pub fixed : (a : ℕ) → a < m → label labels (label labels a) ≡ label labels a

-- the point is the root of its component
abbrev pub root : List ℕ → ℕ → Bool
root labels a = eqb (label labels a) a

-- at first each point is its own
pub singletons-own : (m a : ℕ) → a < m → label (singletons m) a ≡ a
unfolding range
singletons-own m a l = range_at 0 m a 0 l ∙ omega arith

pub singletons-roots : (m : ℕ) → Roots m (singletons m)
singletons-roots m = record { below = λ a l. omega (arith, singletons-own m a l); fixed = λ a l. ap (label (singletons m)) (singletons-own m a l) }

module _ (m i j : ℕ) (labels : List ℕ) (li : i < m) (lj : j < m) (roots : Roots m labels) where
  x : ℕ
  x = low i j labels

  y : ℕ
  y = high i j labels

  x_root : label labels x ≡ x
  unfolding x low
  x_root = go (Rattle.laws.proofs.Lists.test (leb (label labels i) (label labels j)))
    where
      go : (leb (label labels i) (label labels j) ≡ true) ⊎ (leb (label labels i) (label labels j) ≡ false) → label labels x ≡ x
      go (inl c) = let e : x ≡ label labels i = omega (arith, leb-true (label labels i) (label labels j) c) in rw e (roots.fixed i li)
      go (inr c) = let e : x ≡ label labels j = omega (arith, leb-false (label labels i) (label labels j) c) in rw e (roots.fixed j lj)

  y_root : label labels y ≡ y
  unfolding y high
  y_root = go (Rattle.laws.proofs.Lists.test (leb (label labels i) (label labels j)))
    where
      go : (leb (label labels i) (label labels j) ≡ true) ⊎ (leb (label labels i) (label labels j) ≡ false) → label labels y ≡ y
      go (inl c) = let e : y ≡ label labels j = omega (arith, leb-true (label labels i) (label labels j) c) in rw e (roots.fixed j lj)
      go (inr c) = let e : y ≡ label labels i = omega (arith, leb-false (label labels i) (label labels j) c) in rw e (roots.fixed i li)

  after : (a : ℕ) → label (merge i j labels) a ≡ relabel x y (label labels a)
  unfolding x y
  after a = label-merge i j labels a

  x≤y : x ≤ y
  unfolding x y low high
  x≤y = omega arith

  y<m : y < m
  unfolding y high
  y<m = omega (arith, roots.below i li, roots.below j lj)

  pub merge-roots : Roots m (merge i j labels)
  merge-roots = record { below = down; fixed = still }
    where
      down : (a : ℕ) → a < m → label (merge i j labels) a ≤ a
      down a l = go (relabel_cases x y (label labels a))
        where
          go : ((label labels a ≡ y) × (relabel x y (label labels a) ≡ x)) ⊎ ((label labels a ≢ y) × (relabel x y (label labels a) ≡ label labels a)) → label (merge i j labels) a ≤ a
          go (inl r) = omega (arith, after a, r.0, r.1, x≤y, roots.below a l)
          go (inr r) = omega (arith, after a, r.1, roots.below a l)

      still : (a : ℕ) → a < m → label (merge i j labels) (label (merge i j labels) a) ≡ label (merge i j labels) a
      still a l = go (relabel_cases x y (label labels a))
        where
          go : ((label labels a ≡ y) × (relabel x y (label labels a) ≡ x)) ⊎ ((label labels a ≢ y) × (relabel x y (label labels a) ≡ label labels a))
              → label (merge i j labels) (label (merge i j labels) a) ≡ label (merge i j labels) a
          go (inl r) =
              let e : label (merge i j labels) a ≡ x = after a ∙ r.1 in
              rw e (after x ∙ ap (relabel x y) x_root ∙ at (relabel_cases x y x))
            where
              at : ((x ≡ y) × (relabel x y x ≡ x)) ⊎ ((x ≢ y) × (relabel x y x ≡ x)) → relabel x y x ≡ x
              at (inl s) = s.1
              at (inr s) = s.1
          go (inr r) =
              let e : label (merge i j labels) a ≡ label labels a = after a ∙ r.1 in
              rw e (after (label labels a) ∙ ap (relabel x y) (roots.fixed a l) ∙ r.1)

  xy_singletons : label labels i ≢ label labels j → x ≢ y
  unfolding x y low high
  xy_singletons ne q = ne (omega arith)

  -- a merge of two components takes one root away: the greater, among any points that have it
  merge-fewer : (p : ℕ → Bool) → p (high i j labels) ≡ true → (label labels i ≢ label labels j)
      → count (λ a. p a && root (merge i j labels) a) m < count (λ a. p a && root labels a) m
  unfolding y
  merge-fewer p py ne =
      count-fewer (λ a. p a && root (merge i j labels) a) (λ a. p a && root labels a) m (λ a l t. both (and_left (p a) _ t) (old a l (and_right (p a) _ t))) y y<m
      (both py (eq-eqb (label labels y) y y_root)) (rw (ne_eqb (label (merge i j labels) y) y new) (and_false (p y)))
    where
      singletons_xy : x ≢ y
      singletons_xy = xy_singletons ne

      new : label (merge i j labels) y ≢ y
      new q = go (relabel_cases x y (label labels y))
        where
          go : ((label labels y ≡ y) × (relabel x y (label labels y) ≡ x)) ⊎ ((label labels y ≢ y) × (relabel x y (label labels y) ≡ label labels y)) → ⊥
          go (inl r) = singletons_xy (sym (after y ∙ r.1) ∙ q)
          go (inr r) = r.0 y_root

      old : (a : ℕ) → a < m → root (merge i j labels) a ≡ true → root labels a ≡ true
      old a l t = eq-eqb (label labels a) a (go (relabel_cases x y (label labels a)))
        where
          e : label (merge i j labels) a ≡ a
          e = eqb-true (label (merge i j labels) a) a t

          go : ((label labels a ≡ y) × (relabel x y (label labels a) ≡ x)) ⊎ ((label labels a ≢ y) × (relabel x y (label labels a) ≡ label labels a)) → label labels a ≡ a
          go (inl r) =
              let ax : a ≡ x = sym e ∙ after a ∙ r.1 in
              ap (label labels) ax ∙ x_root ∙ sym ax
          go (inr r) = sym r.1 ∙ sym (after a) ∙ e

-- ---- joins taken among some of the points, p: each takes one root of theirs away

-- the root of each of these points is one of them
abbrev pub Closed : (ℕ → Bool) → ℕ → List ℕ → Type 0
Closed p m labels = (a : ℕ) → a < m → p a ≡ true → p (label labels a) ≡ true

-- how many of these points are roots
abbrev pub roots_of : (ℕ → Bool) → List ℕ → ℕ → ℕ
roots_of p labels m = count (λ a. p a && root labels a) m

-- both ends of a join are of these points
pub record Within (p : ℕ → Bool) (m : ℕ) (z : Join) : Type 0 where
  pub low_in : z.lower < m
  pub high_in : z.higher < m
  pub low_of : p z.lower ≡ true
  pub high_of : p z.higher ≡ true

-- with c of these joins taken there are so many roots fewer
pub record Spanned (p : ℕ → Bool) (m c : ℕ) (labels labels' : List ℕ) : Type 0 where
  pub roots : Roots m labels'
  pub closed : Closed p m labels'
  pub sum : c + roots_of p labels' m ≤ roots_of p labels m

module _ (p : ℕ → Bool) (m : ℕ) where
  either_of : (a b : ℕ) → p a ≡ true → p b ≡ true → (p (min a b) ≡ true) × (p (max a b) ≡ true)
  either_of a b ha hb = go (test (leb a b))
    where
      go : (leb a b ≡ true) ⊎ (leb a b ≡ false) → (p (min a b) ≡ true) × (p (max a b) ≡ true)
      go (inl c) = let l = leb-true a b c in let e : min a b ≡ a = omega arith in let f : max a b ≡ b = omega arith in (rw e ha, rw f hb)
      go (inr c) = let l = leb-false a b c in let e : min a b ≡ b = omega arith in let f : max a b ≡ a = omega arith in (rw e hb, rw f ha)

  module _ (z : Join) (labels : List ℕ) (W : Within p m z) (C : Closed p m labels) where
    ends_of : (p (low z.lower z.higher labels) ≡ true) × (p (high z.lower z.higher labels) ≡ true)
    unfolding low high
    ends_of = either_of (label labels z.lower) (label labels z.higher) (C z.lower W.low_in W.low_of) (C z.higher W.high_in W.high_of)

    merge_closed : Closed p m (merge z.lower z.higher labels)
    merge_closed a l h =
        rw (label-merge z.lower z.higher labels a)
        (go (relabel_cases (low z.lower z.higher labels) (high z.lower z.higher labels) (label labels a)))
      where
        go : ((label labels a ≡ high z.lower z.higher labels) × (relabel (low z.lower z.higher labels) (high z.lower z.higher labels) (label labels a) ≡ low z.lower z.higher labels))
            ⊎ ((label labels a ≢ high z.lower z.higher labels) × (relabel (low z.lower z.higher labels) (high z.lower z.higher labels) (label labels a) ≡ label labels a))
            → p (relabel (low z.lower z.higher labels) (high z.lower z.higher labels) (label labels a)) ≡ true
        go (inl r) = rw r.1 ends_of.0
        go (inr r) = rw r.1 (C a l h)

  -- the first joins that are taken, among these points
  pub spanned : (xs : List Join) (labels : List ℕ) → Roots m labels → Closed p m labels → (taken rest : List Join) → taken ++ rest ≡ kruskal labels xs → ((z : Join) → In z taken → Within p m z)
      → Spanned p m (length taken) labels (components labels taken)
  unfolding kruskal components
  spanned xs labels roots closed [] rest e within = record { roots = roots; closed = closed; sum = omega arith }
  spanned [] labels roots closed (t ∷ ts) rest e within = absurd (let l = ap length e in omega arith)
  spanned (z ∷ zs) labels roots closed (t ∷ ts) rest e within =
      go (test (same_component labels z.lower z.higher)) (λ f. spanned zs labels roots closed (t ∷ ts) rest f within)
      (λ f. spanned zs next (merge-roots m t.lower t.higher labels W.low_in W.high_in roots) (merge_closed t labels W closed) ts rest f (λ y k. within y (there k)))
    where
      W : Within p m t
      W = within t (here refl)

      next : List ℕ
      next = merge t.lower t.higher labels

      go : (same_component labels z.lower z.higher ≡ true) ⊎ (same_component labels z.lower z.higher ≡ false)
          → (t ∷ (ts ++ rest) ≡ kruskal labels zs → Spanned p m (suc (length ts)) labels (components next ts))
          → (ts ++ rest ≡ kruskal next zs → Spanned p m (length ts) next (components next ts)) → Spanned p m (suc (length ts)) labels (components next ts)
      go (inl c) ih ih' = ih (e ∙ rw c refl)
      go (inr c) ih ih' = at (ih' (tail-eq_of_cons-eq f ∙ ap (λ (y : Join). kruskal (merge y.lower y.higher labels) zs) (sym same)))
        where
          f : t ∷ (ts ++ rest) ≡ z ∷ kruskal (merge z.lower z.higher labels) zs
          f = e ∙ rw c refl

          same : t ≡ z
          same = head-eq_of_cons-eq f

          apart : label labels t.lower ≢ label labels t.higher
          apart = rw same (eqb-false (label labels z.lower) (label labels z.higher) c)

          at : Spanned p m (length ts) next (components next ts) → Spanned p m (suc (length ts)) labels (components next ts)
          at r = record {
            roots = r.roots;
            closed = r.closed;
            sum = omega (arith, r.sum, merge-fewer m t.lower t.higher labels W.low_in W.high_in roots p (ends_of t labels W closed).1 apart);
          }

  -- where at most one root is left, all these points are in one component
  pub one-root : {labels : List ℕ} → Roots m labels → Closed p m labels → roots_of p labels m ≤ 1 → (a b : ℕ) → a < m → b < m → p a ≡ true → p b ≡ true → label labels a ≡ label labels b
  one-root {labels} roots closed few a b la lb pa pb = go (test (eqb (label labels a) (label labels b)))
    where
      is_root : (c : ℕ) → c < m → p c ≡ true → (p (label labels c) && root labels (label labels c)) ≡ true
      is_root c l h = both (closed c l h) (eq-eqb (label labels (label labels c)) (label labels c) (roots.fixed c l))

      go : (eqb (label labels a) (label labels b) ≡ true) ⊎ (eqb (label labels a) (label labels b) ≡ false) → label labels a ≡ label labels b
      go (inl c) = eqb-true (label labels a) (label labels b) c
      go (inr c) =
          let ne : label labels b ≢ label labels a = λ q. eqb-false (label labels a) (label labels b) c (sym q) in
          let other : ℕ → Bool = λ d. (p d && root labels d) && not (eqb d (label labels a)) in
          let one = count_some_of other (label labels b) m (omega (arith, roots.below b lb)) (both (is_root b lb pb) (rw (ne_eqb (label labels b) (label labels a) ne) refl)) in
          let two = count-fewer other (λ d. p d && root labels d) m (λ d l t. and_left (p d && root labels d) _ t) (label labels a) (omega (arith, roots.below a la)) (is_root a la pa) (rw (is_root a la pa, eq-eqb (label labels a) (label labels a) refl) refl) in
          absurd (omega (arith, few, one, two))

-- ---- the forest has fewer joins than points

kruskal-size : (m : ℕ) → 0 < m → (xs : List Join) (labels : List ℕ) → Roots m labels → ((z : Join) → In z xs → (z.lower < m) × (z.higher < m))
    → length (kruskal labels xs) + 1 ≤ count (root labels) m
kruskal-size m pos xs labels roots ends = omega (arith, S.sum, count_some_of (root all) 0 m pos (eq-eqb (label all 0) 0 (omega (arith, S.roots.below 0 pos))))
  where
    any : ℕ → Bool
    any a = true

    all : List ℕ
    all = components labels (kruskal labels xs)

    S : Spanned any m (length (kruskal labels xs)) labels all
    S = spanned any m xs labels roots (λ a l h. refl) (kruskal labels xs) [] (append-nil (kruskal labels xs)) (λ z k.
        let e = ends z (kruskal_in xs labels k) in record { low_in = e.0; high_in = e.1; low_of = refl; high_of = refl })

module _ (G : Graph) where
  join_ends : (z : Join) → In z (all_joins G) → (z.lower < size G) × (z.higher < size G)
  join_ends z m = at (heavy-from G 0 (in_filter (heavy 0) (all_joins G) m (leb-zero z.weight)))
    where
      at : (t : Triangle) × StrongTriangle G 0 t × ((e f : Link) × Has t e × Has t f × (z ≡ join (link_number G e) (link_number G f) (weight G t))) → (z.lower < size G) × (z.higher < size G)
      at (t, s, (e, f, he, hf, q)) =
          let le : link_number G e < size G = number_lt G e (has_member G t e s.is_triangle he) in
          let lf : link_number G f < size G = number_lt G f (has_member G t f s.is_triangle hf) in
          let low' : z.lower ≡ min (link_number G e) (link_number G f) = ap (λ (w : Join). w.lower) q in
          let high' : z.higher ≡ max (link_number G e) (link_number G f) = ap (λ (w : Join). w.higher) q in
          (omega arith, omega arith)

  pub forest-size : 0 < size G → length (forest G) < size G
  unfolding forest
  forest-size pos = omega (arith, kruskal-size (size G) pos (all_joins G) (singletons (size G)) (singletons-roots (size G)) join_ends, count_le (root (singletons (size G))) (size G))

-- ---- the length of an index

pub concat_map-length : {A : Type 0} (f : A → List ℕ) (l : ℕ) → ((z : A) → length (f z) ≡ l) → (xs : List A) → length (concat_map f xs) ≡ length xs * l
unfolding concat_map
concat_map-length f l h [] = omega arith
concat_map-length f l h (z ∷ zs) = let r = concat_map-length f l h zs in let a = length-append (f z) (concat_map f zs) in let b = h z in omega arith

pub encode-length : (z : Index) → length (encode z) ≡ 6 + length z.links * 8 + length z.joins * 6 + length z.groups * 6
unfolding encode
encode-length z =
    omega (
      arith,
      concat_map-length link_bytes 8 (λ r. refl) z.links,
      concat_map-length join_bytes 6 (λ r. refl) z.joins,
      concat_map-length group_bytes 6 (λ r. refl) z.groups,
      length-append (concat_map link_bytes z.links) (concat_map join_bytes z.joins ++ (concat_map group_bytes z.groups ++ end_bytes)),
      length-append (concat_map join_bytes z.joins) (concat_map group_bytes z.groups ++ end_bytes),
      length-append (concat_map group_bytes z.groups) end_bytes,
    )

-- an index of m links, m not 0, has at most 20 m bytes
pub index_length : (G : Graph) → Proper G → size G ≤ no_group → 0 < size G → length (index_bytes G) ≤ 20 * size G
unfolding index_bytes index
index_length G proper few pos =
    omega (arith, encode-length (index G), rows-length G proper few, group_rows_length G proper few, few_groups G proper, forest-size G pos)

-- without links there are no joins
no_joins : (G : Graph) → size G ≡ 0 → length (forest G) ≡ 0
unfolding forest
no_joins G none = go (forest G) refl
  where
    go : (xs : List Join) → forest G ≡ xs → length xs ≡ 0
    go [] q = refl
    go (z ∷ zs) q = absurd (omega (arith, none, (join_ends G z (kruskal_in (all_joins G) (singletons (size G)) (subst (In z) (sym q) (here refl)))).0))

-- "An index is at most 40,960 bytes."
pub index_room : (n : ℕ) (ps : List Pair) → Named n ps → length (index_bytes (graph_of n ps)) ≤ max_index_bytes
unfolding index_bytes index
index_room n ps named = go (test (ltb 0 (size G)))
  where
    G : Graph
    G = graph_of n ps

    proper : Proper G
    proper = graph_proper n ps named.good

    few : size G ≤ no_group
    few = omega (arith, graph_size n ps, named.links)

    go : (ltb 0 (size G) ≡ true) ⊎ (ltb 0 (size G) ≡ false) → length (index_bytes G) ≤ max_index_bytes
    go (inl c) = omega (arith, index_length G proper few (ltb-true 0 (size G) c), graph_size n ps, named.links)
    go (inr c) =
        let none : size G ≡ 0 = omega (arith, ltb-false 0 (size G) c) in
        omega (arith, encode-length (index G), rows-length G proper few, group_rows_length G proper few, few_groups G proper, no_joins G none)

-- Labels of components: what merging does, and that a forest grown from joins has the components of all of them.
use mathlib.Core.Path.{◌≡◌, refl, sym, ap, ◌∙◌, subst}
use mathlib.Core.Logic.{◌⊎◌, inl, inr, ◌≢◌}
use mathlib.Core.Bool.{Bool, true, false, cond}
use mathlib.Core.List.{List, [], ◌∷◌, map}
use mathlib.Core.List.Memᴰ.{cases_cons as in-cons}
use mathlib.Core.List.Memᴰ.{head as here}
use mathlib.Core.List.Memᴰ.{not-nil as in-nil}
use mathlib.Core.List.Memᴰ.{tail as there}
use mathlib.Core.List.{Memᴰ as In}
use Prim.Native.Nat.{ℕ, ◌≤◌, ◌<◌, min, max}
use native.Mathlib.Omega.{arith}
use lib.Dec.{eqb, leb}
use lib.ListN.{get_or, get_or-map}
use borrow.Author.Tests.{eqb-true, eqb-false, eq-eqb, ne_eqb, leb-true, leb-false, lt-leb}
use Rattle.truss.specs.Lists.{filter, range}
use Rattle.truss.specs.Forest.{Join, singletons, merge, same_component, kruskal, components}
use Rattle.laws.proofs.Lists.{test}
use Rattle.laws.proofs.Members.{Sorted, filter_none, range_at}

abbrev pub label : List ℕ → ℕ → ℕ
label labels a = get_or labels a 0

-- two points have the same label
abbrev pub Same : List ℕ → ℕ → ℕ → Type 0
Same labels a b = label labels a ≡ label labels b

pub same_component_same : (labels : List ℕ) (a b : ℕ) → same_component labels a b ≡ true → Same labels a b
same_component_same labels a b h = eqb-true (label labels a) (label labels b) h

pub same_same_component : (labels : List ℕ) (a b : ℕ) → Same labels a b → same_component labels a b ≡ true
same_same_component labels a b h = eq-eqb (label labels a) (label labels b) h

-- ---- one merge

pub relabel : ℕ → ℕ → ℕ → ℕ
relabel x y l = cond (eqb l y) x l

pub relabel_hit : (x y l : ℕ) → l ≡ y → relabel x y l ≡ x
unfolding relabel
relabel_hit x y l q = rw (eq-eqb l y q)

pub relabel_miss : (x y l : ℕ) → l ≢ y → relabel x y l ≡ l
unfolding relabel
relabel_miss x y l q = rw (ne_eqb l y q)

pub relabel_cases : (x y l : ℕ) → ((l ≡ y) × (relabel x y l ≡ x)) ⊎ ((l ≢ y) × (relabel x y l ≡ l))
relabel_cases x y l = go (test (eqb l y))
  where
    go : (eqb l y ≡ true) ⊎ (eqb l y ≡ false) → ((l ≡ y) × (relabel x y l ≡ x)) ⊎ ((l ≢ y) × (relabel x y l ≡ l))
    go (inl c) = inl (eqb-true l y c, relabel_hit x y l (eqb-true l y c))
    go (inr c) = inr (eqb-false l y c, relabel_miss x y l (eqb-false l y c))

module _ (i j : ℕ) (labels : List ℕ) where
  unfoldable pub low : ℕ
  low = min (label labels i) (label labels j)

  unfoldable pub high : ℕ
  high = max (label labels i) (label labels j)

  relabel_zero : relabel low high 0 ≡ 0
  unfolding low high
  relabel_zero = go (relabel_cases low high 0)
    where
      go : ((0 ≡ high) × (relabel low high 0 ≡ low)) ⊎ ((0 ≢ high) × (relabel low high 0 ≡ 0)) → relabel low high 0 ≡ 0
      go (inl r) = omega (arith, r.0, r.1)
      go (inr r) = r.1

  pub label-merge : (a : ℕ) → label (merge i j labels) a ≡ relabel low high (label labels a)
  unfolding merge relabel low high
  label-merge a = subst (λ (d : ℕ). get_or (map (relabel low high) labels) a d ≡ relabel low high (label labels a)) relabel_zero
      (get_or-map (relabel low high) labels a 0)

  -- points together stay together
  pub merge_keeps : (a b : ℕ) → Same labels a b → Same (merge i j labels) a b
  merge_keeps a b h = label-merge a ∙ ap (relabel low high) h ∙ sym (label-merge b)

  -- the two ends are together
  pub merge-ends : Same (merge i j labels) i j
  unfolding low high
  merge-ends = label-merge i ∙ go (relabel_cases low high (label labels i)) (relabel_cases low high (label labels j)) ∙ sym (label-merge j)
    where
      go : ((label labels i ≡ high) × (relabel low high (label labels i) ≡ low)) ⊎ ((label labels i ≢ high) × (relabel low high (label labels i) ≡ label labels i))
          → ((label labels j ≡ high) × (relabel low high (label labels j) ≡ low)) ⊎ ((label labels j ≢ high) × (relabel low high (label labels j) ≡ label labels j))
          → relabel low high (label labels i) ≡ relabel low high (label labels j)
      go (inl r) (inl s) = omega (arith, r.0, r.1, s.0, s.1)
      go (inl r) (inr s) = omega (arith, r.0, r.1, s.0, s.1)
      go (inr r) (inl s) = omega (arith, r.0, r.1, s.0, s.1)
      go (inr r) (inr s) = omega (arith, r.0, r.1, s.0, s.1)

  -- and no others than these come together
  pub merge_cases : (a b : ℕ) → Same (merge i j labels) a b
      → Same labels a b ⊎ ((Same labels a i × Same labels b j) ⊎ (Same labels a j × Same labels b i))
  unfolding low high
  merge_cases a b h = go (relabel_cases low high (label labels a)) (relabel_cases low high (label labels b)) (test (leb (label labels i) (label labels j)))
    where
      e : relabel low high (label labels a) ≡ relabel low high (label labels b)
      e = sym (label-merge a) ∙ h ∙ label-merge b

      go : ((label labels a ≡ high) × (relabel low high (label labels a) ≡ low)) ⊎ ((label labels a ≢ high) × (relabel low high (label labels a) ≡ label labels a))
          → ((label labels b ≡ high) × (relabel low high (label labels b) ≡ low)) ⊎ ((label labels b ≢ high) × (relabel low high (label labels b) ≡ label labels b))
          → (leb (label labels i) (label labels j) ≡ true) ⊎ (leb (label labels i) (label labels j) ≡ false)
          → Same labels a b ⊎ ((Same labels a i × Same labels b j) ⊎ (Same labels a j × Same labels b i))
      go (inl r) (inl s) t = inl (r.0 ∙ sym s.0)
      go (inr r) (inr s) t = inl (sym r.1 ∙ e ∙ s.1)
      go (inl r) (inr s) (inl t) =
          let l = leb-true (label labels i) (label labels j) t in inr (inr (omega (arith, r.0, r.1, s.0, s.1, e), omega (arith, r.0, r.1, s.0, s.1, e)))
      go (inl r) (inr s) (inr t) =
          let l = leb-false (label labels i) (label labels j) t in inr (inl (omega (arith, r.0, r.1, s.0, s.1, e), omega (arith, r.0, r.1, s.0, s.1, e)))
      go (inr r) (inl s) (inl t) =
          let l = leb-true (label labels i) (label labels j) t in inr (inl (omega (arith, r.0, r.1, s.0, s.1, e), omega (arith, r.0, r.1, s.0, s.1, e)))
      go (inr r) (inl s) (inr t) =
          let l = leb-false (label labels i) (label labels j) t in inr (inr (omega (arith, r.0, r.1, s.0, s.1, e), omega (arith, r.0, r.1, s.0, s.1, e)))

  -- a join that closes a ring changes nothing
  pub merge_ring : Same labels i j → merge i j labels ≡ labels
  unfolding merge relabel low high
  merge_ring h = all labels
    where
      fixed : (l : ℕ) → relabel low high l ≡ l
      fixed l = go (relabel_cases low high l)
        where
          go : ((l ≡ high) × (relabel low high l ≡ low)) ⊎ ((l ≢ high) × (relabel low high l ≡ l)) → relabel low high l ≡ l
          go (inl r) = omega (arith, r.0, r.1)
          go (inr r) = r.1

      all : (ls : List ℕ) → map (relabel low high) ls ≡ ls
      all [] = refl
      all (l ∷ ls) = λ t. fixed l t ∷ all ls t

-- ---- all merges

pub components_keeps : (xs : List Join) (labels : List ℕ) (a b : ℕ) → Same labels a b → Same (components labels xs) a b
unfolding components
components_keeps [] labels a b h = h
components_keeps (x ∷ xs) labels a b h =
    components_keeps xs (merge x.lower x.higher labels) a b (merge_keeps x.lower x.higher labels a b h)

pub components_joins : (xs : List Join) (labels : List ℕ) {x : Join} → In x xs → Same (components labels xs) x.lower x.higher
unfolding components
components_joins [] labels {x} m = absurd (in-nil m)
components_joins (y ∷ ys) labels {x} m = go (in-cons m) (λ k. components_joins ys (merge y.lower y.higher labels) k)
  where
    after : List ℕ
    after = components (merge y.lower y.higher labels) ys

    go : (x ≡ y) ⊎ In x ys → (In x ys → Same after x.lower x.higher) → Same after x.lower x.higher
    go (inl q) ih = rw q (components_keeps ys (merge y.lower y.higher labels) y.lower y.higher (merge-ends y.lower y.higher labels))
    go (inr k) ih = ih k

-- Points with the same label after all merges are related by any equivalence that relates points of one label before, and the ends of each join.
module _ (m : ℕ) (Q : ℕ → ℕ → Type 0) (Q-sym : (a b : ℕ) → Q a b → Q b a) (Q-trans : (a b c : ℕ) → Q a b → Q b c → Q a c) where
  pub components_least : (xs : List Join) (labels : List ℕ)
      → ((a b : ℕ) → a < m → b < m → Same labels a b → Q a b)
      → ((x : Join) → In x xs → (x.lower < m) × (x.higher < m) × Q x.lower x.higher)
      → (a b : ℕ) → a < m → b < m → Same (components labels xs) a b → Q a b
  unfolding components
  components_least [] labels base joined a b la lb h = base a b la lb h
  components_least (x ∷ xs) labels base joined a b la lb h =
      components_least xs (merge i j labels) step (λ y k. joined y (there k)) a b la lb h
    where
      i : ℕ
      i = x.lower

      j : ℕ
      j = x.higher

      at : (i < m) × (j < m) × Q i j
      at = joined x (here refl)

      step : (c d : ℕ) → c < m → d < m → Same (merge i j labels) c d → Q c d
      step c d lc ld s = go (merge_cases i j labels c d s)
        where
          go : Same labels c d ⊎ ((Same labels c i × Same labels d j) ⊎ (Same labels c j × Same labels d i)) → Q c d
          go (inl t) = base c d lc ld t
          go (inr (inl t)) = Q-trans c i d (base c i lc at.0 t.0) (Q-trans i j d at.2 (Q-sym d j (base d j ld at.1 t.1)))
          go (inr (inr t)) = Q-trans c j d (base c j lc at.1 t.0) (Q-trans j i d (Q-sym i j at.2) (Q-sym d i (base d i ld at.0 t.1)))

-- at first each point is alone
pub singletons_alone : (m a b : ℕ) → a < m → b < m → Same (singletons m) a b → a ≡ b
unfolding range
singletons_alone m a b la lb h = omega (arith, range_at 0 m a 0 la, range_at 0 m b 0 lb, h)

-- ---- Kruskal: the forest has the components of all joins, and at each weight of those of at least that weight

pub kruskal-components : (xs : List Join) (labels : List ℕ) → components labels (kruskal labels xs) ≡ components labels xs
unfolding components kruskal
kruskal-components [] labels = refl
kruskal-components (x ∷ xs) labels =
    go (same_component labels x.lower x.higher) refl (kruskal-components xs labels) (kruskal-components xs (merge x.lower x.higher labels))
  where
    go : (b : Bool) → same_component labels x.lower x.higher ≡ b
        → components labels (kruskal labels xs) ≡ components labels xs
        → components (merge x.lower x.higher labels) (kruskal (merge x.lower x.higher labels) xs) ≡ components (merge x.lower x.higher labels) xs
        → components labels (cond (same_component labels x.lower x.higher) (kruskal labels xs) (x ∷ kruskal (merge x.lower x.higher labels) xs))
        ≡ components (merge x.lower x.higher labels) xs
    go true c ih ih' = rw (c, merge_ring x.lower x.higher labels (same_component_same labels x.lower x.higher c)) ih
    go false c ih ih' = rw c ih'

pub kruskal_in : (xs : List Join) (labels : List ℕ) {x : Join} → In x (kruskal labels xs) → In x xs
unfolding kruskal
kruskal_in [] labels {x} m = m
kruskal_in (y ∷ ys) labels {x} m = go (same_component labels y.lower y.higher) refl (λ k. kruskal_in ys labels k) (λ k. kruskal_in ys (merge y.lower y.higher labels) k)
  where
    later : (In x (kruskal (merge y.lower y.higher labels) ys) → In x ys) → (x ≡ y) ⊎ In x (kruskal (merge y.lower y.higher labels) ys) → In x (y ∷ ys)
    later ih (inl q) = here q
    later ih (inr k) = there (ih k)

    go : (b : Bool) → same_component labels y.lower y.higher ≡ b → (In x (kruskal labels ys) → In x ys)
        → (In x (kruskal (merge y.lower y.higher labels) ys) → In x ys) → In x (y ∷ ys)
    go true c ih ih' = there (ih (rw c at m))
    go false c ih ih' = later ih' (in-cons (rw c at m))

-- a list of joins of falling weight
abbrev pub Falling : List Join → Type 0
Falling xs = Sorted (λ (x y : Join). y.weight ≤ x.weight) xs

module _ (k : ℕ) where
  abbrev pub heavy : Join → Bool
  heavy x = leb k x.weight

  pub filter-kruskal : (xs : List Join) → Falling xs → (labels : List ℕ) → filter heavy (kruskal labels xs) ≡ kruskal labels (filter heavy xs)
  unfolding filter kruskal
  filter-kruskal [] s labels = refl
  filter-kruskal (x ∷ xs) s labels =
      go (heavy x) refl (same_component labels x.lower x.higher) refl (filter-kruskal xs s.1 labels) (filter-kruskal xs s.1 (merge x.lower x.higher labels))
    where
      next : List ℕ
      next = merge x.lower x.higher labels

      light : heavy x ≡ false → (y : Join) → In y (x ∷ xs) → heavy y ≡ false
      light h y m = at (in-cons m)
        where
          at : (y ≡ x) ⊎ In y xs → heavy y ≡ false
          at (inl q) = rw q h
          at (inr n) = lt-leb k y.weight (omega (arith, leb-false k x.weight h, s.0 y n))

      none : heavy x ≡ false → filter heavy xs ≡ []
      none h = filter_none heavy xs (λ y m. light h y (there m))

      go : (b : Bool) → heavy x ≡ b → (t : Bool) → same_component labels x.lower x.higher ≡ t
          → filter heavy (kruskal labels xs) ≡ kruskal labels (filter heavy xs)
          → filter heavy (kruskal next xs) ≡ kruskal next (filter heavy xs)
          → filter heavy (cond (same_component labels x.lower x.higher) (kruskal labels xs) (x ∷ kruskal next xs))
          ≡ kruskal labels (cond (heavy x) (x ∷ filter heavy xs) (filter heavy xs))
      go true h true c ih ih' = rw (h, c) ih
      go true h false c ih ih' = rw (h, c, h) (ap {B = List Join} (λ r. x ∷ r) ih')
      go false h true c ih ih' = rw (h, c) ih
      go false h false c ih ih' = rw (h, c, h, none h) (ih' ∙ ap (kruskal next) (none h))

-- The joins of a graph come each once, in a strict order. So a program that writes them in that order writes this list.
use mathlib.Core.Path.{◌≡◌, refl, sym, ap, ◌∙◌, subst}
use mathlib.Core.Logic.{◌⊎◌, inl, inr, ◌≢◌}
use mathlib.Core.Bool.{Bool, true, false, ◌&&◌, ◌||◌}
use mathlib.Core.List.{List, [], ◌∷◌, map}
use mathlib.Core.List.Memᴰ.{cases_cons as in-cons}
use mathlib.Core.List.Memᴰ.{head as here}
use mathlib.Core.List.Memᴰ.{not-nil as in-nil}
use mathlib.Core.List.Memᴰ.{tail as there}
use mathlib.Core.List.{Memᴰ as In}
use Prim.Native.Nat.{ℕ, zero, suc, ◌≤◌, ◌<◌, min, max}
use native.Mathlib.Nat.{le_trans}
use native.Mathlib.Omega.{arith}
use lib.Dec.{eqb, ltb}
use borrow.Author.Tests.{eqb-true, eqb-false, ltb-true, ltb-false}
use Rattle.truss.specs.Lists.{filter, range, concat_map}
use Rattle.truss.specs.Graph.{Link, Graph, Triangle, IsTriangle, side_ab, side_ac, side_bc, member, link_number, triangles, triangles_on}
use Rattle.truss.specs.Strength.{weight}
use Rattle.truss.specs.Forest.{Join, join, join_before, triangle_joins, all_joins}
use Rattle.laws.proofs.Proper.{Proper}
use Rattle.laws.proofs.Lists.{test, and_left, and_right, or_cases, or_left_false, or_right_false}
use Rattle.laws.proofs.Members.{map_in, range_in, concat_map_in, link_of_number}
use Rattle.laws.proofs.Sets.{sorted-append}
use Rattle.laws.proofs.Connected.{triangles_in}
use Rattle.laws.proofs.Stored.{filter-sorted}
use Rattle.laws.proofs.Ordering.{Distinct, sort-distinct}

-- ---- lists without repeats

pub concat_map-distinct : {A B : Type 0} (f : A → List B) (xs : List A) → Distinct xs → ((x : A) → In x xs → Distinct (f x))
    → ((x y : A) → In x xs → In y xs → x ≢ y → (z : B) → In z (f x) → In z (f y) → ⊥) → Distinct (concat_map f xs)
unfolding concat_map
concat_map-distinct f [] d concatMap-one singletons = tt
concat_map-distinct {A} {B} f (x ∷ xs) d concatMap-one singletons =
    sorted-append (λ (u v : B). u ≢ v) (f x) (concat_map f xs) (concatMap-one x (here refl))
    (concat_map-distinct f xs d.1 (λ y m. concatMap-one y (there m)) (λ y z m n. singletons y z (there m) (there n)))
    (λ u v mu mv q. clash u v mu (concat_map_in f xs mv) q)
  where
    clash : (u v : B) → In u (f x) → (y : A) × In y xs × In v (f y) → u ≡ v → ⊥
    clash u v mu (y, my, mv) q = singletons x y (here refl) (there my) (d.0 y my) v (mathlib.Core.List.Memᴰ.cast (sym q) mu) mv

pub map-distinct : {A B : Type 0} (f : A → B) → ((x y : A) → f x ≡ f y → x ≡ y) → (xs : List A) → Distinct xs → Distinct (map f xs)
map-distinct f inj [] d = tt
map-distinct {A} {B} f inj (x ∷ xs) d = (λ y m q. clash y (map_in f xs m) q, map-distinct f inj xs d.1)
  where
    clash : (y : B) → (z : A) × In z xs × (y ≡ f z) → f x ≡ y → ⊥
    clash y (z, m, r) q = d.0 z m (inj x z (q ∙ r))

pub range-distinct : (a n : ℕ) → Distinct (range a n)
unfolding range
range-distinct a zero = tt
range-distinct a (suc n) = (λ i m q. let l = (range_in (suc a) n m).0 in omega arith, range-distinct (suc a) n)

-- ---- two links of a triangle

data Sides (t : Triangle) (e f : Link) : Type 0 where
  ab_ac : e.lo ≡ t.a → e.hi ≡ t.b → f.lo ≡ t.a → f.hi ≡ t.c → Sides t e f
  ab_bc : e.lo ≡ t.a → e.hi ≡ t.b → f.lo ≡ t.b → f.hi ≡ t.c → Sides t e f
  ac_bc : e.lo ≡ t.a → e.hi ≡ t.c → f.lo ≡ t.b → f.hi ≡ t.c → Sides t e f

-- they decide it
module _ (t u : Triangle) (t₁ : t.a < t.b) (t₂ : t.b < t.c) (u₁ : u.a < u.b) (u₂ : u.b < u.c) where
  Equal : Type 0
  Equal = (t.a ≡ u.a) × (t.b ≡ u.b) × (t.c ≡ u.c)

  same_sides : {e f : Link} → Sides t e f → Sides u e f → Equal
  unfolding Equal
  same_sides (ab_ac p q r s) (ab_ac p' q' r' s') = omega arith
  same_sides (ab_ac p q r s) (ab_bc p' q' r' s') = omega arith
  same_sides (ab_ac p q r s) (ac_bc p' q' r' s') = omega arith
  same_sides (ab_bc p q r s) (ab_ac p' q' r' s') = omega arith
  same_sides (ab_bc p q r s) (ab_bc p' q' r' s') = omega arith
  same_sides (ab_bc p q r s) (ac_bc p' q' r' s') = omega arith
  same_sides (ac_bc p q r s) (ab_ac p' q' r' s') = omega arith
  same_sides (ac_bc p q r s) (ab_bc p' q' r' s') = omega arith
  same_sides (ac_bc p q r s) (ac_bc p' q' r' s') = omega arith

  swapped_sides : {e f : Link} → Sides t e f → Sides u f e → Equal
  unfolding Equal
  swapped_sides (ab_ac p q r s) (ab_ac p' q' r' s') = omega arith
  swapped_sides (ab_ac p q r s) (ab_bc p' q' r' s') = omega arith
  swapped_sides (ab_ac p q r s) (ac_bc p' q' r' s') = omega arith
  swapped_sides (ab_bc p q r s) (ab_ac p' q' r' s') = omega arith
  swapped_sides (ab_bc p q r s) (ab_bc p' q' r' s') = omega arith
  swapped_sides (ab_bc p q r s) (ac_bc p' q' r' s') = omega arith
  swapped_sides (ac_bc p q r s) (ab_ac p' q' r' s') = omega arith
  swapped_sides (ac_bc p q r s) (ab_bc p' q' r' s') = omega arith
  swapped_sides (ac_bc p q r s) (ac_bc p' q' r' s') = omega arith

  equal_triangle : Equal → t ≡ u
  unfolding Equal
  equal_triangle x = λ i. record { a = x.0 i; b = x.1 i; c = x.2 i }

-- ---- the graph's triangles and joins, each once

module _ (G : Graph) (proper : Proper G) (different : Distinct G.links) where
  above : Link → ℕ → Bool
  above e c = member G.links (record { lo = e.lo; hi = c }) && member G.links (record { lo = e.hi; hi = c })

  with_third : Link → ℕ → Triangle
  with_third e c = record { a = e.lo; b = e.hi; c = c }

  triangles-distinct : Distinct (triangles G)
  unfolding triangles triangles_on above with_third
  triangles-distinct = concat_map-distinct (triangles_on G) G.links different on singletons
    where
      on : (e : Link) → In e G.links → Distinct (triangles_on G e)
      on e m = map-distinct (with_third e) (λ x y q. ap (λ (t : Triangle). t.c) q) (filter (above e) (range 0 G.n))
          (filter-sorted (λ (x y : ℕ). x ≢ y) (above e) (range 0 G.n) (range-distinct 0 G.n))

      singletons : (e f : Link) → In e G.links → In f G.links → e ≢ f → (t : Triangle) → In t (triangles_on G e) → In t (triangles_on G f) → ⊥
      singletons e f me mf ne t te tf =
          let x = map_in (with_third e) (filter (above e) (range 0 G.n)) te in
          let y = map_in (with_third f) (filter (above f) (range 0 G.n)) tf in
          let lo : e.lo ≡ f.lo = ap (λ (u : Triangle). u.a) (sym x.2 ∙ y.2) in
          let hi : e.hi ≡ f.hi = ap (λ (u : Triangle). u.b) (sym x.2 ∙ y.2) in
          ne (λ i. record { lo = lo i; hi = hi i })

  -- a triangle's join is that of two of its sides
  Side : Triangle → Join → Type 0
  Side t x = (e f : Link) × Sides t e f × (member G.links e ≡ true) × (member G.links f ≡ true) × (x ≡ join (link_number G e) (link_number G f) (weight G t))

  side_of : (t : Triangle) → IsTriangle (member G.links) t → {x : Join} → In x (triangle_joins G t) → Side t x
  unfolding triangle_joins Side
  side_of t i {x} m = first (in-cons m)
    where
      third : (x ≡ join (link_number G (side_ac t)) (link_number G (side_bc t)) (weight G t)) ⊎ In x [] → Side t x
      third (inl q) = (side_ac t, side_bc t, ac_bc refl refl refl refl, i.has_ac, i.has_bc, q)
      third (inr n) = absurd (in-nil n)

      second : (x ≡ join (link_number G (side_ab t)) (link_number G (side_bc t)) (weight G t)) ⊎ In x (join (link_number G (side_ac t)) (link_number G (side_bc t)) (weight G t) ∷ []) → Side t x
      second (inl q) = (side_ab t, side_bc t, ab_bc refl refl refl refl, i.has_ab, i.has_bc, q)
      second (inr n) = third (in-cons n)

      first : (x ≡ join (link_number G (side_ab t)) (link_number G (side_ac t)) (weight G t))
          ⊎ In x (join (link_number G (side_ab t)) (link_number G (side_bc t)) (weight G t) ∷ join (link_number G (side_ac t)) (link_number G (side_bc t)) (weight G t) ∷ []) → Side t x
      first (inl q) = (side_ab t, side_ac t, ab_ac refl refl refl refl, i.has_ab, i.has_ac, q)
      first (inr n) = second (in-cons n)

  number_inj : (e f : Link) → member G.links e ≡ true → member G.links f ≡ true → link_number G e ≡ link_number G f → e ≡ f
  number_inj e f me mf q = sym (link_of_number G e me) ∙ ap (Rattle.truss.specs.Graph.link_at G) q ∙ link_of_number G f mf

  side_singletons : (t u : Triangle) → IsTriangle (member G.links) t → IsTriangle (member G.links) u → (x : Join) → Side t x → Side u x → t ≡ u
  unfolding Side
  side_singletons t u it iu x (e, f, s, me, mf, q) (e', f', s', me', mf', q') = go (test (eqb (link_number G e) (link_number G e')))
    where
      t₁ : t.a < t.b
      t₁ = proper.ordered (side_ab t) it.has_ab

      t₂ : t.b < t.c
      t₂ = proper.ordered (side_bc t) it.has_bc

      u₁ : u.a < u.b
      u₁ = proper.ordered (side_ab u) iu.has_ab

      u₂ : u.b < u.c
      u₂ = proper.ordered (side_bc u) iu.has_bc

      lows : min (link_number G e) (link_number G f) ≡ min (link_number G e') (link_number G f')
      lows = ap (λ (y : Join). y.lower) (sym q ∙ q')

      highs : max (link_number G e) (link_number G f) ≡ max (link_number G e') (link_number G f')
      highs = ap (λ (y : Join). y.higher) (sym q ∙ q')

      go : (eqb (link_number G e) (link_number G e') ≡ true) ⊎ (eqb (link_number G e) (link_number G e') ≡ false) → t ≡ u
      go (inl c) =
          let a : link_number G e ≡ link_number G e' = eqb-true (link_number G e) (link_number G e') c in
          let b : link_number G f ≡ link_number G f' = omega (arith, a, lows, highs) in
          let s'' : Sides u e f = subst₂' (number_inj e' e me' me (sym a)) (number_inj f' f mf' mf (sym b)) in
          equal_triangle t u t₁ t₂ u₁ u₂ (same_sides t u t₁ t₂ u₁ u₂ s s'')
        where
          subst₂' : e' ≡ e → f' ≡ f → Sides u e f
          subst₂' x y = subst (λ (h : Link). Sides u h f) x (subst (λ (h : Link). Sides u e' h) y s')
      go (inr c) =
          let ne : link_number G e ≢ link_number G e' = eqb-false (link_number G e) (link_number G e') c in
          let a : link_number G e ≡ link_number G f' = omega (arith, ne, lows, highs) in
          let b : link_number G f ≡ link_number G e' = omega (arith, ne, lows, highs) in
          let s'' : Sides u f e = subst₂' (number_inj e' f me' mf (sym b)) (number_inj f' e mf' me (sym a)) in
          equal_triangle t u t₁ t₂ u₁ u₂ (swapped_sides t u t₁ t₂ u₁ u₂ s s'')
        where
          subst₂' : e' ≡ f → f' ≡ e → Sides u f e
          subst₂' x y = subst (λ (h : Link). Sides u h e) x (subst (λ (h : Link). Sides u e' h) y s')

  -- the three joins of a triangle are different
  triangle_joins-distinct : (t : Triangle) → IsTriangle (member G.links) t → Distinct (triangle_joins G t)
  unfolding triangle_joins
  triangle_joins-distinct t i = (one_two, (two_three, (λ y m. absurd (in-nil m), tt)))
    where
      x : ℕ
      x = link_number G (side_ab t)

      y : ℕ
      y = link_number G (side_ac t)

      z : ℕ
      z = link_number G (side_bc t)

      t₁ : t.a < t.b
      t₁ = proper.ordered (side_ab t) i.has_ab

      t₂ : t.b < t.c
      t₂ = proper.ordered (side_bc t) i.has_bc

      x≢y : x ≢ y
      x≢y q = let e = ap (λ (l : Link). l.hi) (number_inj (side_ab t) (side_ac t) i.has_ab i.has_ac q) in omega (arith, e, t₁, t₂)

      x≢z : x ≢ z
      x≢z q = let e = ap (λ (l : Link). l.lo) (number_inj (side_ab t) (side_bc t) i.has_ab i.has_bc q) in omega (arith, e, t₁, t₂)

      y≢z : y ≢ z
      y≢z q = let e = ap (λ (l : Link). l.lo) (number_inj (side_ac t) (side_bc t) i.has_ac i.has_bc q) in omega (arith, e, t₁, t₂)

      differ : (p q r : ℕ) → q ≢ r → join p q (weight G t) ≢ join p r (weight G t)
      differ p q r ne s =
          let lows : min p q ≡ min p r = ap (λ (j : Join). j.lower) s in
          let highs : max p q ≡ max p r = ap (λ (j : Join). j.higher) s in
          ne (omega (arith, lows, highs))

      differ' : (p q r : ℕ) → p ≢ q → join p r (weight G t) ≢ join q r (weight G t)
      differ' p q r ne s =
          let lows : min p r ≡ min q r = ap (λ (j : Join). j.lower) s in
          let highs : max p r ≡ max q r = ap (λ (j : Join). j.higher) s in
          ne (omega (arith, lows, highs))

      differ'' : x ≢ z → join x y (weight G t) ≢ join y z (weight G t)
      differ'' ne s =
          let lows : min x y ≡ min y z = ap (λ (j : Join). j.lower) s in
          let highs : max x y ≡ max y z = ap (λ (j : Join). j.higher) s in
          ne (omega (arith, lows, highs))

      one_two : (j : Join) → In j (join x z (weight G t) ∷ join y z (weight G t) ∷ []) → join x y (weight G t) ≢ j
      one_two j m = at (in-cons m)
        where
          last : (j ≡ join y z (weight G t)) ⊎ In j [] → join x y (weight G t) ≢ j
          last (inl q) r = differ'' x≢z (r ∙ q)
          last (inr n) r = in-nil n

          at : (j ≡ join x z (weight G t)) ⊎ In j (join y z (weight G t) ∷ []) → join x y (weight G t) ≢ j
          at (inl q) r = differ x y z y≢z (r ∙ q)
          at (inr n) r = last (in-cons n) r

      two_three : (j : Join) → In j (join y z (weight G t) ∷ []) → join x z (weight G t) ≢ j
      two_three j m = at (in-cons m)
        where
          at : (j ≡ join y z (weight G t)) ⊎ In j [] → join x z (weight G t) ≢ j
          at (inl q) r = differ' x y z x≢y (r ∙ q)
          at (inr n) r = in-nil n

  pub joins_distinct : Distinct (all_joins G)
  unfolding all_joins
  joins_distinct =
      sort-distinct join_before (concat_map (triangle_joins G) (triangles G))
      (concat_map-distinct (triangle_joins G) (triangles G) triangles-distinct (λ t m. triangle_joins-distinct t (triangles_in G m))
      (λ t u mt mu ne x xt xu. ne (side_singletons t u (triangles_in G mt) (triangles_in G mu) x (side_of t (triangles_in G mt) xt) (side_of u (triangles_in G mu) xu))))

-- ---- the order

data NotAfter (x y : Join) : Type 0 where
  heavier : y.weight < x.weight → NotAfter x y
  lower : x.weight ≡ y.weight → x.lower < y.lower → NotAfter x y
  tied : x.weight ≡ y.weight → x.lower ≡ y.lower → x.higher ≤ y.higher → NotAfter x y

not_after_trans : (x y z : Join) → NotAfter x y → NotAfter y z → NotAfter x z
not_after_trans x y z (heavier p) (heavier q) = heavier (omega arith)
not_after_trans x y z (heavier p) (lower q r) = heavier (omega arith)
not_after_trans x y z (heavier p) (tied q r s) = heavier (omega arith)
not_after_trans x y z (lower p u) (heavier q) = heavier (omega arith)
not_after_trans x y z (lower p u) (lower q r) = lower (p ∙ q) (omega arith)
not_after_trans x y z (lower p u) (tied q r s) = lower (p ∙ q) (omega arith)
not_after_trans x y z (tied p u v) (heavier q) = heavier (omega arith)
not_after_trans x y z (tied p u v) (lower q r) = lower (p ∙ q) (omega arith)
not_after_trans x y z (tied p u v) (tied q r s) = tied (p ∙ q) (u ∙ r) (le_trans v s)

not_after_antisym : (x y : Join) → NotAfter x y → NotAfter y x → x ≡ y
not_after_antisym x y (heavier p) (heavier q) = absurd (omega arith)
not_after_antisym x y (heavier p) (lower q r) = absurd (omega arith)
not_after_antisym x y (heavier p) (tied q r s) = absurd (omega arith)
not_after_antisym x y (lower p u) (heavier q) = absurd (omega arith)
not_after_antisym x y (lower p u) (lower q r) = absurd (omega arith)
not_after_antisym x y (lower p u) (tied q r s) = absurd (omega arith)
not_after_antisym x y (tied p u v) (heavier q) = absurd (omega arith)
not_after_antisym x y (tied p u v) (lower q r) = absurd (omega arith)
not_after_antisym x y (tied p u v) (tied q r s) =
    let h : x.higher ≡ y.higher = omega arith in λ i. record { lower = u i; higher = h i; weight = p i }

tie : Join → Join → Bool
tie x y = ltb x.lower y.lower || (eqb x.lower y.lower && ltb x.higher y.higher)

before_yes : (x y : Join) → join_before x y ≡ true → NotAfter x y
unfolding tie
before_yes x y h = go (or_cases (ltb y.weight x.weight) (eqb x.weight y.weight && tie x y) h)
  where
    low : x.weight ≡ y.weight → (ltb x.lower y.lower ≡ true) ⊎ ((eqb x.lower y.lower && ltb x.higher y.higher) ≡ true) → NotAfter x y
    low w (inl c) = lower w (ltb-true x.lower y.lower c)
    low w (inr c) =
        tied w (eqb-true x.lower y.lower (and_left (eqb x.lower y.lower) (ltb x.higher y.higher) c))
        (omega (arith, ltb-true x.higher y.higher (and_right (eqb x.lower y.lower) (ltb x.higher y.higher) c)))

    go : (ltb y.weight x.weight ≡ true) ⊎ ((eqb x.weight y.weight && tie x y) ≡ true) → NotAfter x y
    go (inl c) = heavier (ltb-true y.weight x.weight c)
    go (inr c) =
        low (eqb-true x.weight y.weight (and_left (eqb x.weight y.weight) (tie x y) c))
        (or_cases (ltb x.lower y.lower) (eqb x.lower y.lower && ltb x.higher y.higher) (and_right (eqb x.weight y.weight) (tie x y) c))

before_no : (x y : Join) → join_before x y ≡ false → NotAfter y x
unfolding tie
before_no x y h = go (test (eqb x.weight y.weight))
  where
    first : ltb y.weight x.weight ≡ false
    first = or_left_false (ltb y.weight x.weight) (eqb x.weight y.weight && tie x y) h

    second : (eqb x.weight y.weight && tie x y) ≡ false
    second = or_right_false (ltb y.weight x.weight) (eqb x.weight y.weight && tie x y) h

    low : x.weight ≡ y.weight → tie x y ≡ false → (eqb x.lower y.lower ≡ true) ⊎ (eqb x.lower y.lower ≡ false) → NotAfter y x
    low w t (inl c) =
        let u : (eqb x.lower y.lower && ltb x.higher y.higher) ≡ false =
        or_right_false (ltb x.lower y.lower) (eqb x.lower y.lower && ltb x.higher y.higher) t in
        let v : ltb x.higher y.higher ≡ false = rw c at u in
        tied (sym w) (sym (eqb-true x.lower y.lower c)) (ltb-false x.higher y.higher v)
    low w t (inr c) =
        let u : ltb x.lower y.lower ≡ false = or_left_false (ltb x.lower y.lower) (eqb x.lower y.lower && ltb x.higher y.higher) t in
        let d : x.lower ≢ y.lower = eqb-false x.lower y.lower c in
        lower (sym w) (omega (arith, ltb-false x.lower y.lower u))

    go : (eqb x.weight y.weight ≡ true) ⊎ (eqb x.weight y.weight ≡ false) → NotAfter y x
    go (inl c) = let t : tie x y ≡ false = rw c at second in low (eqb-true x.weight y.weight c) t (test (eqb x.lower y.lower))
    go (inr c) = let d : x.weight ≢ y.weight = eqb-false x.weight y.weight c in heavier (omega (arith, ltb-false y.weight x.weight first))

-- Peeling gives the strength (trussness) that the relation defines.
use mathlib.Core.Path.{◌≡◌, refl}
use mathlib.Core.Logic.{◌≢◌}
use mathlib.Core.Bool.{Bool, true, false}
use mathlib.Core.List.{List, [], ◌∷◌}
use Prim.Native.Nat.{ℕ, zero, suc, ◌+◌, ◌≤◌, ◌<◌}
use native.Mathlib.Nat.{le_refl, le_antisymm}
use native.Mathlib.Omega.{arith}
use lib.Dec.{eqb, leb}
use lib.ListN.{length}
use borrow.Author.Tests.{eqb-true, eqb-false, leb-true, le-leb}
use Rattle.truss.specs.Lists.{filter}
use Rattle.truss.specs.Graph.{Link, LinkSet, Graph, member, support}
use Rattle.truss.specs.Strength.{IsTruss, InTruss, IsStrength, peel_once, peel, truss, strength}
use Rattle.laws.proofs.Lists.{true_not_false, filter-length, filter-whole, member_filter, filter-member, support_le, support_mono, largest_le, largest-max, largest_passes}

module _ (n k : ℕ) where
  enough : List Link → Link → Bool
  enough L e = leb k (2 + support n (member L) e)

  -- ---- one round

  distinct-sub : (L : List Link) (e : Link) → member (peel_once n k L) e ≡ true → member L e ≡ true
  unfolding peel_once enough
  distinct-sub L e h = (member_filter (enough L) L e h).0

  -- a round keeps each set of the list's links whose links are in enough triangles of the set
  distinct_keeps : (S : LinkSet) (L : List Link) → ((e : Link) → S e ≡ true → member L e ≡ true) → ((e : Link) → S e ≡ true → k ≤ 2 + support n S e)
      → (e : Link) → S e ≡ true → member (peel_once n k L) e ≡ true
  unfolding peel_once enough
  distinct_keeps S L sub held e h =
      filter-member (enough L) L e (sub e h) (le-leb k (2 + support n (member L) e) (omega (arith, held e h, support_mono n S (member L) e sub)))

  -- ---- all rounds

  peel_stops : (r : ℕ) (L : List Link) → eqb (length (peel_once n k L)) (length L) ≡ true → peel (suc r) n k L ≡ L
  unfolding peel
  peel_stops r L h = rw (h, peel)

  peel_goes_on : (r : ℕ) (L : List Link) → eqb (length (peel_once n k L)) (length L) ≡ false → peel (suc r) n k L ≡ peel r n k (peel_once n k L)
  unfolding peel
  peel_goes_on r L h = rw (h, peel)

  pub peel-sub : (r : ℕ) (L : List Link) (e : Link) → member (peel r n k L) e ≡ true → member L e ≡ true
  unfolding peel
  peel-sub zero L e h = h
  peel-sub (suc r) L e h = go (eqb (length (peel_once n k L)) (length L)) refl (peel-sub r (peel_once n k L) e)
    where
      go : (b : Bool) → eqb (length (peel_once n k L)) (length L) ≡ b → (member (peel r n k (peel_once n k L)) e ≡ true → member (peel_once n k L) e ≡ true)
          → member L e ≡ true
      go true c ih = rw (peel_stops r L c) at h
      go false c ih = distinct-sub L e (ih (rw (peel_goes_on r L c) at h))

  pub peel_keeps : (r : ℕ) (S : LinkSet) (L : List Link) → ((e : Link) → S e ≡ true → member L e ≡ true)
      → ((e : Link) → S e ≡ true → k ≤ 2 + support n S e) → (e : Link) → S e ≡ true → member (peel r n k L) e ≡ true
  unfolding peel
  peel_keeps zero S L sub held e h = sub e h
  peel_keeps (suc r) S L sub held e h =
      go (eqb (length (peel_once n k L)) (length L)) refl (peel_keeps r S (peel_once n k L) (distinct_keeps S L sub held) held e h)
    where
      go : (b : Bool) → eqb (length (peel_once n k L)) (length L) ≡ b → member (peel r n k (peel_once n k L)) e ≡ true → member (peel (suc r) n k L) e ≡ true
      go true c ih = rw (peel_stops r L c) (sub e h)
      go false c ih = rw (peel_goes_on r L c) ih

  -- with enough rounds, each link that is left is in enough triangles of what is left
  pub peel_held : (r : ℕ) (L : List Link) → length L ≤ r → (e : Link) → member (peel r n k L) e ≡ true → k ≤ 2 + support n (member (peel r n k L)) e
  unfolding peel enough
  peel_held zero [] l e h = absurd (true_not_false h refl)
  peel_held zero (f ∷ L) l e h = absurd (omega arith)
  peel_held (suc r) L l e h = go (eqb (length (peel_once n k L)) (length L)) refl (peel_held r (peel_once n k L))
    where
      whole : eqb (length (peel_once n k L)) (length L) ≡ true → member L e ≡ true → k ≤ 2 + support n (member L) e
      whole c m =
          let same : filter (enough L) L ≡ L = filter-whole (enough L) L (eqb-true (length (peel_once n k L)) (length L) c) in
          leb-true k (2 + support n (member L) e) (member_filter (enough L) L e (rw same m)).1

      go : (b : Bool) → eqb (length (peel_once n k L)) (length L) ≡ b
          → (length (peel_once n k L) ≤ r → (f : Link) → member (peel r n k (peel_once n k L)) f ≡ true → k ≤ 2 + support n (member (peel r n k (peel_once n k L))) f)
          → k ≤ 2 + support n (member (peel (suc r) n k L)) e
      go true c ih = rw (peel_stops r L c) (whole c (rw (peel_stops r L c) at h))
      go false c ih =
          let differ : length (peel_once n k L) ≢ length L = eqb-false (length (peel_once n k L)) (length L) c in
          rw (peel_goes_on r L c) (ih (omega (arith, filter-length (enough L) L, differ)) e (rw (peel_goes_on r L c) at h))

-- ---- the k-truss of a graph

module _ (G : Graph) (k : ℕ) where
  -- what peeling leaves is such a set as the relation asks for
  pub truss_is : IsTruss G k (member (truss G k))
  unfolding truss
  truss_is = record {
    within = λ e h. peel-sub G.n k (length G.links) G.links e h;
    held = λ e h. peel_held G.n k (length G.links) G.links (le_refl (length G.links)) e h;
  }

  -- and holds every other
  pub truss-largest : (S : LinkSet) → IsTruss G k S → (e : Link) → S e ≡ true → member (truss G k) e ≡ true
  unfolding truss
  truss-largest S t e h = peel_keeps G.n k (length G.links) S G.links t.within t.held e h

  pub in_truss : (e : Link) → InTruss G k e → member (truss G k) e ≡ true
  in_truss e t = truss-largest t.0 t.1 e t.2

  pub truss_in : (e : Link) → member (truss G k) e ≡ true → InTruss G k e
  truss_in e h = (member (truss G k), truss_is, h)

-- ---- the strength

module _ (G : Graph) where
  -- all links together serve at 2
  pub in_truss_2 : (e : Link) → member G.links e ≡ true → InTruss G 2 e
  in_truss_2 e h = (member G.links, record { within = λ f t. t; held = λ f t. omega arith }, h)

  -- a link is in at most n triangles
  pub in_truss_bound : (k : ℕ) (e : Link) → InTruss G k e → k ≤ 2 + G.n
  in_truss_bound k e t = omega (arith, t.1.held e t.2, support_le G.n t.0 e)

  -- the function gives the relation's strength
  pub strength_is : (e : Link) → member G.links e ≡ true → IsStrength G e (strength G e)
  unfolding strength
  strength_is e h = record { reached = truss_in G (strength G e) e (largest_passes at (2 + G.n) positive); greatest = λ k t. top k t }
    where
      at : ℕ → Bool
      at k = member (truss G k) e

      top : (k : ℕ) → InTruss G k e → k ≤ strength G e
      top k t = largest-max at (2 + G.n) k (in_truss_bound k e t) (in_truss G k e t)

      positive : 0 < strength G e
      positive = omega (arith, top 2 (in_truss_2 e h))

  -- a link has one strength
  pub strength_unique : (e : Link) (s s' : ℕ) → IsStrength G e s → IsStrength G e s' → s ≡ s'
  strength_unique e s s' x y = le_antisymm (y.greatest s x.reached) (x.greatest s' y.reached)

  pub strength_at_least_2 : (e : Link) → member G.links e ≡ true → 2 ≤ strength G e
  strength_at_least_2 e h = (strength_is e h).greatest 2 (in_truss_2 e h)

  pub strength_at_most : (e : Link) → strength G e ≤ 2 + G.n
  unfolding strength
  strength_at_most e = largest_le (λ k. member (truss G k) e) (2 + G.n)

  -- "A link in no triangle has 2."
  pub no_triangle : (e : Link) → member G.links e ≡ true → support G.n (member G.links) e ≡ 0 → strength G e ≡ 2
  no_triangle e h none =
      let s = (strength_is e h).reached in
      let few : support G.n s.0 e ≤ support G.n (member G.links) e = support_mono G.n s.0 (member G.links) e s.1.within in
      let enough : strength G e ≤ 2 + support G.n s.0 e = s.1.held e s.2 in
      let least = strength_at_least_2 e h in
      omega arith

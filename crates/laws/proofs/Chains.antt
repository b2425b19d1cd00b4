-- Laws of strong triangles and of links joined at k.
use mathlib.Core.Path.{◌≡◌, refl, sym, subst}
use mathlib.Core.Logic.{◌⊎◌, inl, inr}
use mathlib.Core.Bool.{true, cond, ◌&&◌}
use Prim.Native.Nat.{ℕ, ◌≤◌, ◌<◌}
use native.Mathlib.Nat.{min-eq_left, min-eq_right, max-eq_left, max-eq_right, le-min}
use native.Mathlib.Omega.{arith}
use lib.Dec.{ltb}
use borrow.Author.Tests.{lt-ltb, le-ltb}
use Rattle.truss.specs.Graph.{Link, LinkSet, Graph, Triangle, IsTriangle, Has, is_ab, is_ac, is_bc, link, side_ab, side_ac, side_bc, member, support}
use Rattle.truss.specs.Strength.{IsTruss, InTruss, strength, weight}
use Rattle.truss.specs.Chain.{AtLeast, StrongTriangle, Joined, one_triangle, and_on}
use Rattle.laws.proofs.Proper.{Proper}
use Rattle.laws.proofs.Lists.{and_left, and_right, count_some}
use Rattle.laws.proofs.Numbers.{less_or_not}
use Rattle.laws.proofs.Peeling.{strength_is, strength_unique}

-- ---- the link of two accounts

pub link_ordered : (a b : ℕ) → a ≤ b → link a b ≡ record { lo = a; hi = b }
link_ordered a b h = λ i. record { lo = min-eq_left h i; hi = max-eq_right h i }

pub link_swapped : (a b : ℕ) → b ≤ a → link a b ≡ record { lo = b; hi = a }
link_swapped a b h = λ i. record { lo = min-eq_right h i; hi = max-eq_left h i }

-- ---- the triangle of a link and a third account

unfoldable pub corner : Link → ℕ → Triangle
corner e c = cond (ltb c e.lo) (record { a = c; b = e.lo; c = e.hi }) (cond (ltb e.hi c) (record { a = e.lo; b = e.hi; c = c }) (record { a = e.lo; b = c; c = e.hi }))

module _ (e : Link) (c : ℕ) where
  pub corner_below : c < e.lo → corner e c ≡ record { a = c; b = e.lo; c = e.hi }
  unfolding corner
  corner_below l = rw (lt-ltb c e.lo l) refl

  pub corner_between : e.lo ≤ c → c ≤ e.hi → corner e c ≡ record { a = e.lo; b = c; c = e.hi }
  unfolding corner
  corner_between l h = rw (le-ltb c e.lo l, le-ltb e.hi c h) refl

  pub corner_above : e.lo < e.hi → e.hi < c → corner e c ≡ record { a = e.lo; b = e.hi; c = c }
  unfolding corner
  corner_above r l = rw (le-ltb c e.lo (omega (arith, r)), lt-ltb e.hi c l) refl

pub data Place (e : Link) (c : ℕ) : Type 0 where
  is_below : c < e.lo → Place e c
  is_between : e.lo ≤ c → c ≤ e.hi → Place e c
  is_above : e.hi < c → Place e c

pub place : (e : Link) (c : ℕ) → Place e c
place e c = go (less_or_not c e.lo) (less_or_not e.hi c)
  where
    go : (c < e.lo) ⊎ (e.lo ≤ c) → (e.hi < c) ⊎ (c ≤ e.hi) → Place e c
    go (inl l) y = is_below l
    go (inr l) (inl h) = is_above h
    go (inr l) (inr h) = is_between l h

-- ---- strength at least k

module _ (G : Graph) where
  -- a set that serves at s serves below it
  pub truss_down : (k s : ℕ) (S : LinkSet) → k ≤ s → IsTruss G s S → IsTruss G k S
  truss_down k s S l t = record { within = t.within; held = λ e h. omega (arith, t.held e h) }

  -- a link of a set that serves at k has strength at least k
  pub at_least_of_truss : (k : ℕ) (e : Link) → InTruss G k e → AtLeast G k e
  at_least_of_truss k e t =
      let s = strength_is G e (t.1.within e t.2) in (strength G e, s, s.greatest k t)

  pub truss_of_at_least : (k : ℕ) (e : Link) → AtLeast G k e → InTruss G k e
  truss_of_at_least k e x =
      let t = x.1.reached in (t.0, truss_down k x.0 t.0 x.2 t.1, t.2)

  pub link_of_at_least : (k : ℕ) (e : Link) → AtLeast G k e → member G.links e ≡ true
  link_of_at_least k e x = let t = truss_of_at_least k e x in t.1.within e t.2

  -- the relation's bound is the function's
  pub at_least_strength : (k : ℕ) (e : Link) → AtLeast G k e → k ≤ strength G e
  at_least_strength k e x =
      let h = link_of_at_least k e x in
      omega (arith, x.2, strength_unique G e x.0 (strength G e) x.1 (strength_is G e h))

  pub strength_at_least : (k : ℕ) (e : Link) → member G.links e ≡ true → k ≤ strength G e → AtLeast G k e
  strength_at_least k e h l = (strength G e, strength_is G e h, l)

-- ---- strong triangles

module _ (G : Graph) (k : ℕ) where
  -- a triangle of the graph is strong at k exactly if its weight is at least k
  pub strong_of_weight : (t : Triangle) → IsTriangle (member G.links) t → k ≤ weight G t → StrongTriangle G k t
  unfolding weight
  strong_of_weight t i h = record {
    is_triangle = i;
    ab_strong = strength_at_least G k (side_ab t) i.has_ab (omega (arith, h));
    ac_strong = strength_at_least G k (side_ac t) i.has_ac (omega (arith, h));
    bc_strong = strength_at_least G k (side_bc t) i.has_bc (omega (arith, h));
  }

  pub weight_of_strong : (t : Triangle) → StrongTriangle G k t → k ≤ weight G t
  unfolding weight
  weight_of_strong t s =
      le-min (at_least_strength G k (side_ab t) s.ab_strong) (le-min (at_least_strength G k (side_ac t) s.ac_strong) (at_least_strength G k (side_bc t) s.bc_strong))

  pub has_strong : (t : Triangle) (e : Link) → StrongTriangle G k t → Has t e → AtLeast G k e
  has_strong t e s (is_ab p) = rw p s.ab_strong
  has_strong t e s (is_ac p) = rw p s.ac_strong
  has_strong t e s (is_bc p) = rw p s.bc_strong

  -- three links of strength at least k
  of_links : (t : Triangle) → AtLeast G k (side_ab t) → AtLeast G k (side_ac t) → AtLeast G k (side_bc t) → StrongTriangle G k t
  of_links t p q r = record {
    is_triangle = record { has_ab = link_of_at_least G k (side_ab t) p; has_ac = link_of_at_least G k (side_ac t) q; has_bc = link_of_at_least G k (side_bc t) r };
    ab_strong = p;
    ac_strong = q;
    bc_strong = r;
  }

  abbrev pub Holding : Link → Triangle → Type 0
  Holding e t = StrongTriangle G k t × Has t e

  module _ (proper : Proper G) where
    -- a link and a third account: its triangle is strong if the three links are
    pub corner_strong : (e : Link) → AtLeast G k e → (c : ℕ) → AtLeast G k (link e.lo c) → AtLeast G k (link e.hi c) → Holding e (corner e c)
    corner_strong e strong c low high = go (place e c)
      where
        rises : e.lo < e.hi
        rises = proper.ordered e (link_of_at_least G k e strong)

        go : Place e c → Holding e (corner e c)
        go (is_below l) =
            subst (Holding e) (sym (corner_below e c l))
            (of_links _ (subst (AtLeast G k) (link_swapped e.lo c (omega arith)) low) (subst (AtLeast G k) (link_swapped e.hi c (omega (arith, rises))) high) strong, is_bc refl)
        go (is_between l h) =
            subst (Holding e) (sym (corner_between e c l h))
            (of_links _ (subst (AtLeast G k) (link_ordered e.lo c l) low) strong (subst (AtLeast G k) (link_swapped e.hi c h) high), is_ac refl)
        go (is_above l) =
            subst (Holding e) (sym (corner_above e c rises l))
            (of_links _ strong (subst (AtLeast G k) (link_ordered e.lo c (omega (arith, rises))) low) (subst (AtLeast G k) (link_ordered e.hi c (omega arith)) high), is_ab refl)

    -- A link of strength at least k, from 3 up, is in a triangle of weight at least k.
    pub in_strong_triangle : 3 ≤ k → (e : Link) → AtLeast G k e → (t : Triangle) × StrongTriangle G k t × Has t e
    unfolding support
    in_strong_triangle three e x =
        let (S, i, h) = truss_of_at_least G k e x in
        let (c, _, both) = count_some (λ c. S (link e.lo c) && S (link e.hi c)) G.n (omega (arith, three, i.held e h)) in
        let f = link e.lo c in
        let g = link e.hi c in
        let r = corner_strong e x c (at_least_of_truss G k f (S, i, and_left (S f) (S g) both)) (at_least_of_truss G k g (S, i, and_right (S f) (S g) both)) in
        (corner e c, r.0, r.1)

-- ---- joined at k: an equivalence on the links of strength at least k, for k from 3 up

module _ (G : Graph) (k : ℕ) where
  joined_snoc : {e g : Link} (f : Link) → Joined G k e g → (t : Triangle) → StrongTriangle G k t → Has t g → Has t f → Joined G k e f
  joined_snoc f (one_triangle t' s' he hg) t s hg' hf = and_on t' s' he hg (one_triangle t s hg' hf)
  joined_snoc f (and_on t' s' he hs rest) t s hg' hf = and_on t' s' he hs (joined_snoc f rest t s hg' hf)

  pub joined_sym : {e f : Link} → Joined G k e f → Joined G k f e
  joined_sym (one_triangle t s he hf) = one_triangle t s hf he
  joined_sym (and_on {e = e} t s he hs rest) = joined_snoc e (joined_sym rest) t s hs he

  pub joined_trans : {e g f : Link} → Joined G k e g → Joined G k g f → Joined G k e f
  joined_trans (one_triangle t s he hg) j = and_on t s he hg j
  joined_trans (and_on t s he hs rest) j = and_on t s he hs (joined_trans rest j)

  pub joined_first : {e f : Link} → Joined G k e f → AtLeast G k e
  joined_first (one_triangle {e = e} t s he hf) = has_strong G k t e s he
  joined_first (and_on {e = e} t s he hs rest) = has_strong G k t e s he

  pub joined_refl : Proper G → 3 ≤ k → (e : Link) → AtLeast G k e → Joined G k e e
  joined_refl proper three e x =
      let w = in_strong_triangle G k proper three e x in one_triangle w.0 w.1 w.2 w.2

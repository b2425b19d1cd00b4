-- Laws of the groups at k and of the stored groups.
use mathlib.Core.Path.{◌≡◌, refl, sym, ap, ◌∙◌}
use mathlib.Core.Logic.{◌⊎◌, inl, inr, ◌≢◌}
use mathlib.Core.Bool.{Bool, true, false, cond}
use mathlib.Core.List.{List, [], ◌∷◌}
use mathlib.Core.List.Memᴰ.{cases_cons as in-cons}
use mathlib.Core.List.Memᴰ.{head as here}
use mathlib.Core.List.Memᴰ.{not-nil as in-nil}
use mathlib.Core.List.Memᴰ.{tail as there}
use mathlib.Core.List.{Memᴰ as In}
use Prim.Native.Nat.{ℕ, ◌≤◌, ◌<◌, min, max}
use native.Mathlib.Nat.{le_refl}
use native.Mathlib.Omega.{arith}
use lib.Dec.{eqb, leb}
use lib.ListN.{length, get_or}
use borrow.Author.Tests.{leb-true, leb-false, le-leb, lt-leb}
use Rattle.truss.specs.Lists.{filter, any, range, same_list}
use Rattle.truss.specs.Graph.{Link, Graph, Triangle, Has, link_at, link_number}
use Rattle.truss.specs.Strength.{strength, weight}
use Rattle.truss.specs.Chain.{Joined, StrongTriangle}
use Rattle.truss.specs.Forest.{Join, join, all_joins, singletons, same_component}
use Rattle.truss.specs.Group.{Group, labels_at, group_at, distinct}
use Rattle.laws.proofs.Lists.{test, true_not_false}
use Rattle.laws.proofs.Members.{Sorted, filter_in, in_filter, range_in, in_range, number_lt}
use Rattle.laws.proofs.Chains.{at_least_strength, joined_sym, joined_first}
use Rattle.laws.proofs.Components.{Same, same_component_same, same_same_component, components_joins, components_least, singletons_alone, heavy}
use Rattle.laws.proofs.Connected.{heavy_joins, heavy-from, same_joined, has_member}
use Rattle.laws.proofs.Sets.{same_list_eq, eq_same_list}

module _ (G : Graph) where
  -- the number of links, and the strength of a link by its number
  abbrev pub size : ℕ
  size = length G.links

  abbrev pub strength_at : ℕ → ℕ
  strength_at i = strength G (link_at G i)

  -- ---- a group at k

  pub group_at_eq : (k i : ℕ) → k ≤ strength_at i → group_at G k i ≡ filter (same_component (labels_at G k) i) (range 0 size)
  unfolding group_at
  group_at_eq k i l = rw (le-leb k (strength_at i) l)

  pub group_at-none : (k i : ℕ) → strength_at i < k → group_at G k i ≡ []
  unfolding group_at
  group_at-none k i l = rw (lt-leb k (strength_at i) l)

  pub group_strong : (k i : ℕ) {j : ℕ} → In j (group_at G k i) → k ≤ strength_at i
  group_strong k i {j} m = go (test (leb k (strength_at i)))
    where
      go : (leb k (strength_at i) ≡ true) ⊎ (leb k (strength_at i) ≡ false) → k ≤ strength_at i
      go (inl c) = leb-true k (strength_at i) c
      go (inr c) = absurd (in-nil (rw (group_at-none k i (leb-false k (strength_at i) c)) at m))

  pub group_in_lem : (k i : ℕ) {j : ℕ} → In j (group_at G k i) → (k ≤ strength_at i) × (j < size) × Same (labels_at G k) i j
  group_in_lem k i {j} m =
      let s = group_strong k i m in
      let r = filter_in (same_component (labels_at G k) i) (range 0 size) (rw (group_at_eq k i s) at m) in
      (s, omega (arith, (range_in 0 size r.0).1), same_component_same (labels_at G k) i j r.1)

  pub in_group : (k i : ℕ) {j : ℕ} → k ≤ strength_at i → j < size → Same (labels_at G k) i j → In j (group_at G k i)
  in_group k i {j} s l h =
      rw (group_at_eq k i s) (in_filter (same_component (labels_at G k) i) (range 0 size) (in_range 0 size (omega arith) (omega arith)) (same_same_component (labels_at G k) i j h))

  pub group_self : (k i : ℕ) → i < size → k ≤ strength_at i → In i (group_at G k i)
  group_self k i l s = in_group k i s l refl

  -- each of its links has strength at least k
  pub group_strong_all : (k i : ℕ) {j : ℕ} → i < size → In j (group_at G k i) → k ≤ strength_at j
  group_strong_all k i {j} l m = go (same_joined G k i j l r.1 r.2)
    where
      r : (k ≤ strength_at i) × (j < size) × Same (labels_at G k) i j
      r = group_in_lem k i m

      go : (i ≡ j) ⊎ Joined G k (link_at G i) (link_at G j) → k ≤ strength_at j
      go (inl q) = rw q at r.0
      go (inr c) = at_least_strength G k (link_at G j) (joined_first G k (joined_sym G k c))

  -- it is the group of each of its links
  pub group_rebase : (k i : ℕ) {j : ℕ} → i < size → In j (group_at G k i) → group_at G k j ≡ group_at G k i
  group_rebase k i {j} l m =
      group_at_eq k j (group_strong_all k i l m)
      ∙ ap (λ (x : ℕ). filter (λ a. eqb x (get_or (labels_at G k) a 0)) (range 0 size)) (sym (group_in_lem k i m).2)
      ∙ sym (group_at_eq k i (group_strong k i m))

  -- ---- groups at a lower k are larger

  pub same_down : (k k' : ℕ) → k ≤ k' → (i j : ℕ) → i < size → j < size → Same (labels_at G k') i j → Same (labels_at G k) i j
  unfolding labels_at
  same_down k k' l i j li lj h =
      components_least size (Same (labels_at G k)) (λ a b s. sym s) (λ a b c s t. s ∙ t) (heavy_joins G k') (singletons size)
      (λ a b la lb s. ap (λ (x : ℕ). get_or (labels_at G k) x 0) (singletons_alone size a b la lb s)) (λ x m. at x m) i j li lj h
    where
      at : (x : Join) → In x (heavy_joins G k') → (x.lower < size) × (x.higher < size) × Same (labels_at G k) x.lower x.higher
      at x m = ends (heavy-from G k' m)
        where
          same : Same (labels_at G k) x.lower x.higher
          same = components_joins (heavy_joins G k) (singletons size)
              (let r = filter_in (heavy k') (all_joins G) m in in_filter (heavy k) (all_joins G) r.0 (le-leb k x.weight (omega (arith, leb-true k' x.weight r.1))))

          ends : (t : Triangle) × StrongTriangle G k' t × ((e f : Link) × Has t e × Has t f × (x ≡ join (link_number G e) (link_number G f) (weight G t)))
              → (x.lower < size) × (x.higher < size) × Same (labels_at G k) x.lower x.higher
          ends (t, s, (e, f, he, hf, q)) =
              let le : link_number G e < size = number_lt G e (has_member G t e s.is_triangle he) in
              let lf : link_number G f < size = number_lt G f (has_member G t f s.is_triangle hf) in
              let low : x.lower ≡ min (link_number G e) (link_number G f) = ap (λ (y : Join). y.lower) q in
              let high : x.higher ≡ max (link_number G e) (link_number G f) = ap (λ (y : Join). y.higher) q in
              (omega arith, omega arith, same)

  pub group_down : (k k' i : ℕ) {j : ℕ} → k ≤ k' → i < size → In j (group_at G k' i) → In j (group_at G k i)
  group_down k k' i {j} l li m =
      let r = group_in_lem k' i m in in_group k i (omega (arith, r.0)) r.1 (same_down k k' l i j li r.1 r.2)

-- ---- the stored groups

-- groups of falling strength
abbrev pub FallingGroups : List Group → Type 0
FallingGroups gs = Sorted (λ (g h : Group). h.strength ≤ g.strength) gs

abbrev pub seen_as : Group → List (List ℕ) → Bool
seen_as g seen = any (same_list g.members) seen

pub distinct_in : (seen : List (List ℕ)) (cs : List Group) {h : Group} → In h (distinct seen cs) → In h cs × (seen_as h seen ≡ false)
unfolding distinct any
distinct_in seen [] {h} m = absurd (in-nil m)
distinct_in seen (c ∷ cs) {h} m = go (seen_as c seen) refl (λ k. distinct_in seen cs k) (λ k. distinct_in (c.members ∷ seen) cs k)
  where
    later : In h cs × (seen_as h (c.members ∷ seen) ≡ false) → In h (c ∷ cs) × (seen_as h seen ≡ false)
    later r = (there r.0, drop-one (same_list h.members c.members) (seen_as h seen) r.1)
      where
        drop-one : (a b : Bool) → cond a true b ≡ false → b ≡ false
        drop-one true b e = absurd (true_not_false refl e)
        drop-one false b e = e

    first : seen_as c seen ≡ false → (In h (distinct (c.members ∷ seen) cs) → In h cs × (seen_as h (c.members ∷ seen) ≡ false))
        → (h ≡ c) ⊎ In h (distinct (c.members ∷ seen) cs) → In h (c ∷ cs) × (seen_as h seen ≡ false)
    first e ih (inl q) = (here q, rw q e)
    first e ih (inr k) = later (ih k)

    go : (b : Bool) → seen_as c seen ≡ b → (In h (distinct seen cs) → In h cs × (seen_as h seen ≡ false))
        → (In h (distinct (c.members ∷ seen) cs) → In h cs × (seen_as h (c.members ∷ seen) ≡ false)) → In h (c ∷ cs) × (seen_as h seen ≡ false)
    go true e ih ih' = let r = ih (rw e at m) in (there r.0, r.1)
    go false e ih ih' = first e ih' (in-cons (rw e at m))

-- no two are the same set
pub distinct-distinct : (seen : List (List ℕ)) (cs : List Group) → Sorted (λ (g h : Group). g.members ≢ h.members) (distinct seen cs)
unfolding distinct any
distinct-distinct seen [] = tt
distinct-distinct seen (c ∷ cs) = go (seen_as c seen) refl (distinct-distinct seen cs) (distinct-distinct (c.members ∷ seen) cs)
  where
    other : (h : Group) → In h (distinct (c.members ∷ seen) cs) → c.members ≢ h.members
    other h m q = clash (same_list h.members c.members) (seen_as h seen) (eq_same_list h.members c.members (sym q)) (distinct_in (c.members ∷ seen) cs m).1
      where
        clash : (a b : Bool) → a ≡ true → cond a true b ≡ false → ⊥
        clash true b e f = true_not_false refl f
        clash false b e f = true_not_false e refl

    go : (b : Bool) → seen_as c seen ≡ b → Sorted (λ (g h : Group). g.members ≢ h.members) (distinct seen cs)
        → Sorted (λ (g h : Group). g.members ≢ h.members) (distinct (c.members ∷ seen) cs)
        → Sorted (λ (g h : Group). g.members ≢ h.members) (cond (any (same_list c.members) seen) (distinct seen cs) (c ∷ distinct (c.members ∷ seen) cs))
    go true e ih ih' = rw e ih
    go false e ih ih' = rw e (other, ih')

-- of falling groups, the one kept has the largest strength of its set
pub distinct-first : (seen : List (List ℕ)) (cs : List Group) → FallingGroups cs → {c : Group} → In c cs
    → (seen_as c seen ≡ true) ⊎ ((h : Group) × In h (distinct seen cs) × (h.members ≡ c.members) × (c.strength ≤ h.strength))
unfolding distinct any
distinct-first seen [] s {c} m = absurd (in-nil m)
distinct-first seen (g ∷ gs) s {c} m = go (seen_as g seen) refl (in-cons m) (λ k. distinct-first seen gs s.1 k) (λ k. distinct-first (g.members ∷ seen) gs s.1 k)
  where
    Kept : List Group → Type 0
    Kept hs = (h : Group) × In h hs × (h.members ≡ c.members) × (c.strength ≤ h.strength)

    rest : List Group
    rest = distinct (g.members ∷ seen) gs

    push : Kept rest → Kept (g ∷ rest)
    push r = (r.0, there r.1, r.2, r.3)

    split : In c gs → (a b : Bool) → same_list c.members g.members ≡ a → seen_as c seen ≡ b → cond a true b ≡ true → (seen_as c seen ≡ true) ⊎ Kept (g ∷ rest)
    split k true b p q e = inr (g, here refl, sym (same_list_eq c.members g.members p), s.0 c k)
    split k false b p q e = inl (q ∙ e)

    new : seen_as g seen ≡ false → (c ≡ g) ⊎ In c gs → (In c gs → (seen_as c (g.members ∷ seen) ≡ true) ⊎ Kept rest) → (seen_as c seen ≡ true) ⊎ Kept (g ∷ rest)
    new e (inl q) ih = inr (g, here refl, ap (λ (x : Group). x.members) (sym q), rw q (le_refl g.strength))
    new e (inr k) ih = at (ih k)
      where
        at : (seen_as c (g.members ∷ seen) ≡ true) ⊎ Kept rest → (seen_as c seen ≡ true) ⊎ Kept (g ∷ rest)
        at (inl t) = split k (same_list c.members g.members) (seen_as c seen) refl refl t
        at (inr r) = inr (push r)

    go : (b : Bool) → seen_as g seen ≡ b → (c ≡ g) ⊎ In c gs → (In c gs → (seen_as c seen ≡ true) ⊎ Kept (distinct seen gs))
        → (In c gs → (seen_as c (g.members ∷ seen) ≡ true) ⊎ Kept rest)
        → (seen_as c seen ≡ true) ⊎ Kept (cond (any (same_list g.members) seen) (distinct seen gs) (g ∷ rest))
    go true e (inl q) ih ih' = inl (rw q e)
    go true e (inr k) ih ih' = rw e (ih k)
    go false e k ih ih' = rw e (new e k ih')

pub distinct-falling : (seen : List (List ℕ)) (cs : List Group) → FallingGroups cs → FallingGroups (distinct seen cs)
unfolding distinct any
distinct-falling seen [] s = tt
distinct-falling seen (c ∷ cs) s = go (seen_as c seen) refl (distinct-falling seen cs s.1) (distinct-falling (c.members ∷ seen) cs s.1)
  where
    go : (b : Bool) → seen_as c seen ≡ b → FallingGroups (distinct seen cs) → FallingGroups (distinct (c.members ∷ seen) cs)
        → FallingGroups (cond (any (same_list c.members) seen) (distinct seen cs) (c ∷ distinct (c.members ∷ seen) cs))
    go true e ih ih' = rw e ih
    go false e ih ih' = rw e (λ h m. s.0 h (distinct_in (c.members ∷ seen) cs m).0, ih')

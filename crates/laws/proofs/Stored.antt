-- Laws of the list of stored groups: each is a group at its strength, each group at some k from min_level up is there, no set twice, and
-- there are no more of them than links.
use mathlib.Core.Path.{◌≡◌, refl, sym, ap, ap₂, ◌∙◌, subst}
use mathlib.Core.Logic.{◌⊎◌, inl, inr, ◌≢◌}
use mathlib.Core.Bool.{Bool, true, false, cond}
use mathlib.Core.List.{List, [], ◌∷◌}
use mathlib.Core.List.Memᴰ.{cases_cons as in-cons}
use mathlib.Core.List.Memᴰ.{head as here}
use mathlib.Core.List.Memᴰ.{not-nil as in-nil}
use mathlib.Core.List.Memᴰ.{tail as there}
use mathlib.Core.List.{Memᴰ as In}
use Prim.Native.Nat.{ℕ, zero, suc, ◌≤◌, ◌<◌}
use native.Mathlib.Nat.{le-min}
use native.Mathlib.Omega.{arith}
use lib.Dec.{eqb, ltb, leb}
use lib.ListN.{length, get_or}
use borrow.Author.Tests.{eqb-true, eqb-false, eq-eqb, leb-true, le-leb, ltb-true, ltb-false}
use Rattle.truss.specs.Limits.{min_level}
use Rattle.truss.specs.Lists.{filter, any, range, concat_map, falling}
use Rattle.truss.specs.Graph.{Link, Graph, Triangle, Has, is_ab, is_ac, is_bc, side_ab, side_ac, side_bc, link_at, link_number, member}
use Rattle.truss.specs.Strength.{strength, strength_bound, weight}
use Rattle.truss.specs.Chain.{Joined, one_triangle, and_on, StrongTriangle}
use Rattle.truss.specs.Forest.{same_component}
use Rattle.truss.specs.Group.{Group, labels_at, group_at, group_from, groups_at, begins_with, distinct, levels, groups}
use Rattle.laws.proofs.Proper.{Proper}
use Rattle.laws.proofs.Lists.{test, true_not_false}
use Rattle.laws.proofs.Members.{Sorted, filter_in, in_filter, concat_map_in, in_concat_map, range_in, in_range, number_lt, link_of_number, in_any, any_in, get_d_in, in_get_d}
use Rattle.laws.proofs.Peeling.{strength_at_most}
use Rattle.laws.proofs.Chains.{strong_of_weight}
use Rattle.laws.proofs.Components.{Same, same_component_same, same_same_component}
use Rattle.laws.proofs.Connected.{same_joined, joined_same}
use Rattle.laws.proofs.Sets.{filter_same, sorted_all, sorted-append, sorted_at, pigeonhole}
use Rattle.laws.proofs.Groups.{size, strength_at, group_at_eq, group_strong, group_in_lem, in_group, group_self, group_strong_all, group_rebase, same_down, FallingGroups, seen_as, distinct_in, distinct-distinct, distinct-first, distinct-falling}

-- ---- numbers that fall

pub falling_in : (n : ℕ) {k : ℕ} → In k (falling n) → k ≤ n
unfolding falling
falling_in zero {k} m = absurd (in-nil m)
falling_in (suc n) {k} m = go (in-cons m) (λ j. falling_in n j)
  where
    go : (k ≡ suc n) ⊎ In k (falling n) → (In k (falling n) → k ≤ n) → k ≤ suc n
    go (inl q) ih = omega arith
    go (inr j) ih = let r = ih j in omega arith

in_falling : (n : ℕ) {k : ℕ} → 0 < k → k ≤ n → In k (falling n)
unfolding falling
in_falling zero {k} p l = absurd (omega arith)
in_falling (suc n) {k} p l = go (test (eqb k (suc n))) (λ j. in_falling n p j)
  where
    go : (eqb k (suc n) ≡ true) ⊎ (eqb k (suc n) ≡ false) → (k ≤ n → In k (falling n)) → In k (suc n ∷ falling n)
    go (inl c) ih = here (eqb-true k (suc n) c)
    go (inr c) ih = let d : k ≢ suc n = eqb-false k (suc n) c in there (ih (omega arith))

falling-sorted : (n : ℕ) → Sorted (λ (a b : ℕ). b ≤ a) (falling n)
unfolding falling
falling-sorted zero = tt
falling-sorted (suc n) = (λ k m. omega (arith, falling_in n m), falling-sorted n)

pub filter-sorted : {A : Type 0} (R : A → A → Type 0) (p : A → Bool) (xs : List A) → Sorted R xs → Sorted R (filter p xs)
unfolding filter
filter-sorted R p [] s = tt
filter-sorted {A} R p (x ∷ xs) s = go (p x) refl (filter-sorted R p xs s.1)
  where
    go : (b : Bool) → p x ≡ b → Sorted R (filter p xs) → Sorted R (cond (p x) (x ∷ filter p xs) (filter p xs))
    go true c ih = rw c (λ y m. s.0 y (filter_in p xs m).0, ih)
    go false c ih = rw c ih

-- ---- the first of a list

begins_in : (i : ℕ) (xs : List ℕ) → begins_with i xs ≡ true → In i xs
unfolding begins_with
begins_in i [] h = absurd (true_not_false h refl)
begins_in i (x ∷ xs) h = here (sym (eqb-true x i h))

begins_some : (xs : List ℕ) {i : ℕ} → In i xs → (l : ℕ) × In l xs × (begins_with l xs ≡ true)
unfolding begins_with
begins_some [] {i} m = absurd (in-nil m)
begins_some (x ∷ xs) {i} m = (x, here refl, eq-eqb x x refl)

module _ (G : Graph) where
  pub group_from_in : (k i : ℕ) {h : Group} → In h (group_from G k i) → (h ≡ record { strength = k; members = group_at G k i }) × (begins_with i (group_at G k i) ≡ true)
  unfolding group_from
  group_from_in k i {h} m = go (test (begins_with i (group_at G k i)))
    where
      only : (h ≡ record { strength = k; members = group_at G k i }) ⊎ In h [] → h ≡ record { strength = k; members = group_at G k i }
      only (inl q) = q
      only (inr n) = absurd (in-nil n)

      go : (begins_with i (group_at G k i) ≡ true) ⊎ (begins_with i (group_at G k i) ≡ false)
          → (h ≡ record { strength = k; members = group_at G k i }) × (begins_with i (group_at G k i) ≡ true)
      go (inl c) = (only (in-cons (rw c at m)), c)
      go (inr c) = absurd (in-nil (rw c at m))

  in_group_from : (k i : ℕ) → begins_with i (group_at G k i) ≡ true → In (record { strength = k; members = group_at G k i }) (group_from G k i)
  unfolding group_from
  in_group_from k i c = rw c (here refl)

  groups_at-strength : (k : ℕ) {h : Group} → In h (groups_at G k) → h.strength ≡ k
  unfolding groups_at
  groups_at-strength k {h} m = let r = concat_map_in (group_from G k) (range 0 (size G)) m in ap (λ (x : Group). x.strength) (group_from_in k r.0 r.2).0

  candidates_falling : (ks : List ℕ) → Sorted (λ (a b : ℕ). b ≤ a) ks → FallingGroups (concat_map (groups_at G) ks)
  unfolding concat_map
  candidates_falling [] s = tt
  candidates_falling (k ∷ ks) s =
      sorted-append (λ (g h : Group). h.strength ≤ g.strength) (groups_at G k) (concat_map (groups_at G) ks)
      (sorted_all (λ (g h : Group). h.strength ≤ g.strength) (groups_at G k) (λ g h m n. omega (arith, groups_at-strength k m, groups_at-strength k n)))
      (candidates_falling ks s.1)
      (λ g h m n. let r = concat_map_in (groups_at G) ks n in omega (arith, groups_at-strength k m, groups_at-strength r.0 r.2, s.0 r.0 r.1))

  -- each stored group is the group at its strength with a link of its own
  pub record Stored (h : Group) : Type 0 where
    pub least : ℕ
    pub least_lt : least < size G
    pub level : min_level ≤ h.strength
    pub members_eq : h.members ≡ group_at G h.strength least
    pub least_in : In least (group_at G h.strength least)

  pub stored_is : {h : Group} → In h (groups G) → Stored h
  unfolding groups groups_at levels
  stored_is {h} m = at (concat_map_in (groups_at G) (levels G) (distinct_in [] (concat_map (groups_at G) (levels G)) m).0)
    where
      at : (k : ℕ) × In k (levels G) × In h (groups_at G k) → Stored h
      at (k, mk, mh) = from (concat_map_in (group_from G k) (range 0 (size G)) mh)
        where
          from : (i : ℕ) × In i (range 0 (size G)) × In h (group_from G k i) → Stored h
          from (i, mi, hi) =
              let r = group_from_in k i hi in
              rw r.0 (record {
                least = i;
                least_lt = omega (arith, (range_in 0 (size G) mi).1);
                level = leb-true min_level k (filter_in (leb min_level) (falling (strength_bound G)) mk).1;
                members_eq = refl;
                least_in = begins_in i (group_at G k i) r.1;
              })

  -- each group at k is stored, at k or a larger strength
  pub stored_has : (k i : ℕ) → min_level ≤ k → i < size G → k ≤ strength_at G i → (h : Group) × In h (groups G) × (h.members ≡ group_at G k i) × (k ≤ h.strength)
  unfolding groups groups_at levels
  stored_has k i l li s = found (begins_some (group_at G k i) (group_self G k i li s))
    where
      Found : Type 0
      Found = (h : Group) × In h (groups G) × (h.members ≡ group_at G k i) × (k ≤ h.strength)

      found : (j : ℕ) × In j (group_at G k i) × (begins_with j (group_at G k i) ≡ true) → Found
      found (j, mj, bj) = pick (distinct-first [] (concat_map (groups_at G) (levels G)) (candidates_falling (levels G) levels-falling) candidate)
        where
          same : group_at G k j ≡ group_at G k i
          same = group_rebase G k i li mj

          levels-falling : Sorted (λ (a b : ℕ). b ≤ a) (levels G)
          levels-falling = filter-sorted (λ (a b : ℕ). b ≤ a) (leb min_level) (falling (strength_bound G)) (falling-sorted (strength_bound G))

          begins : begins_with j (group_at G k j) ≡ true
          begins = rw same bj

          candidate : In (record { strength = k; members = group_at G k j }) (concat_map (groups_at G) (levels G))
          candidate =
              in_concat_map (groups_at G) (levels G)
              (in_filter (leb min_level) (falling (strength_bound G)) (in_falling (strength_bound G) (omega arith) (omega (arith, strength_at_most G (link_at G i)))) (le-leb min_level k l))
              (in_concat_map (group_from G k) (range 0 (size G)) (in_range 0 (size G) (omega arith) (omega (arith, (group_in_lem G k i mj).1))) (in_group_from k j begins))

          pick : (seen_as (record { strength = k; members = group_at G k j }) [] ≡ true)
              ⊎ ((h : Group) × In h (distinct [] (concat_map (groups_at G) (levels G))) × (h.members ≡ group_at G k j) × (k ≤ h.strength)) → Found
          pick (inl e) = absurd (true_not_false e refl)
          pick (inr r) = (r.0, r.1, r.2 ∙ same, r.3)

-- ---- the stored groups by their numbers

abbrev pub no_such_group : Group
no_such_group = record { strength = 0; members = [] }

module _ (G : Graph) where
  abbrev pub group_count : ℕ
  group_count = length (groups G)

  abbrev pub stored : ℕ → Group
  stored g = get_or (groups G) g no_such_group

  pub stored_at : (g : ℕ) → g < group_count → Stored G (stored g)
  stored_at g l = stored_is G (get_d_in no_such_group (groups G) g l)

  -- no set is stored twice
  pub stored-distinct : (g h : ℕ) → g < group_count → h < group_count → (stored g).members ≡ (stored h).members → g ≡ h
  unfolding groups
  stored-distinct g h lg lh q = go (test (ltb g h)) (test (ltb h g))
    where
      singletons_at : (a b : ℕ) → a < b → b < group_count → (stored a).members ≢ (stored b).members
      singletons_at = sorted_at (λ (x y : Group). x.members ≢ y.members) no_such_group (groups G) (distinct-distinct [] (concat_map (groups_at G) (levels G)))

      go : (ltb g h ≡ true) ⊎ (ltb g h ≡ false) → (ltb h g ≡ true) ⊎ (ltb h g ≡ false) → g ≡ h
      go (inl c) d = absurd (singletons_at g h (ltb-true g h c) lh q)
      go (inr c) (inl d) = absurd (singletons_at h g (ltb-true h g d) lg (sym q))
      go (inr c) (inr d) = omega (arith, ltb-false g h c, ltb-false h g d)

  -- a lower number has no lower strength
  pub stored-falling : (g h : ℕ) → g < h → h < group_count → (stored h).strength ≤ (stored g).strength
  unfolding groups levels
  stored-falling = sorted_at (λ (x y : Group). y.strength ≤ x.strength) no_such_group (groups G)
      (distinct-falling [] (concat_map (groups_at G) (levels G)) (candidates_falling G (levels G)
      (filter-sorted (λ (a b : ℕ). b ≤ a) (leb min_level) (falling (strength_bound G)) (falling-sorted (strength_bound G)))))

  pub stored_number : (k i : ℕ) → min_level ≤ k → i < size G → k ≤ strength_at G i
      → (g : ℕ) × (g < group_count) × ((stored g).members ≡ group_at G k i) × (k ≤ (stored g).strength)
  stored_number k i l li s =
      let r = stored_has G k i l li s in
      let p = in_get_d no_such_group (groups G) r.1 in
      (p.0, p.1, ap (λ (x : Group). x.members) p.2 ∙ r.2, rw p.2 r.3)

  pub stored_in : (g : ℕ) → g < group_count → {i : ℕ} → In i (stored g).members
      → (i < size G) × ((stored g).strength ≤ strength_at G i) × ((stored g).members ≡ group_at G (stored g).strength i)
  stored_in g l {i} m =
      let s = stored_at g l in
      let m' : In i (group_at G (stored g).strength s.least) = rw s.members_eq at m in (
        (group_in_lem G (stored g).strength s.least m').1,
        group_strong_all G (stored g).strength s.least s.least_lt m',
        s.members_eq ∙ sym (group_rebase G (stored g).strength s.least s.least_lt m'),
      )

  -- ---- a group whose links are all stronger is a group at the next level too

  module _ (proper : Proper G) (k l : ℕ) (ll : l < size G) (stronger : (j : ℕ) → j < size G → Same (labels_at G k) l j → suc k ≤ strength_at G j) where
    lift_link : (e f : Link) → member G.links f ≡ true → Same (labels_at G k) l (link_number G e) → Joined G k e f → suc k ≤ strength G f
    lift_link e f mf s c =
        subst (λ (x : Link). suc k ≤ strength G x) (link_of_number G f mf) (stronger (link_number G f) (number_lt G f mf) (s ∙ joined_same G k proper c))

    lift_triangle : (t : Triangle) (e : Link) → StrongTriangle G k t → Has t e → Same (labels_at G k) l (link_number G e) → StrongTriangle G (suc k) t
    unfolding weight
    lift_triangle t e s he h =
        strong_of_weight G (suc k) t s.is_triangle
        (le-min (lift_link e (side_ab t) s.is_triangle.has_ab h (one_triangle t s he (is_ab refl)))
        (le-min (lift_link e (side_ac t) s.is_triangle.has_ac h (one_triangle t s he (is_ac refl)))
        (lift_link e (side_bc t) s.is_triangle.has_bc h (one_triangle t s he (is_bc refl)))))

    lift : {e f : Link} → Joined G k e f → Same (labels_at G k) l (link_number G e) → Joined G (suc k) e f
    lift (one_triangle {e = e} t s he hf) h = one_triangle t (lift_triangle t e s he h) he hf
    lift (and_on {e = e} {shared = g} t s he hg rest) h =
        and_on t (lift_triangle t e s he h) he hg (lift rest (h ∙ joined_same G k proper (one_triangle t s he hg)))

    lift_same : (j : ℕ) → j < size G → Same (labels_at G k) l j → Same (labels_at G (suc k)) l j
    lift_same j lj h = go (same_joined G k l j ll lj h)
      where
        at_l : link_number G (link_at G l) ≡ l
        at_l = proper.numbered l ll

        at_j : link_number G (link_at G j) ≡ j
        at_j = proper.numbered j lj

        go : (l ≡ j) ⊎ Joined G k (link_at G l) (link_at G j) → Same (labels_at G (suc k)) l j
        go (inl q) = ap (λ (x : ℕ). get_or (labels_at G (suc k)) x 0) q
        go (inr c) =
            let start : Same (labels_at G k) l (link_number G (link_at G l)) = ap (λ (x : ℕ). get_or (labels_at G k) x 0) (sym at_l) in
            let up : Same (labels_at G (suc k)) (link_number G (link_at G l)) (link_number G (link_at G j)) = joined_same G (suc k) proper (lift c start) in
            ap (λ (x : ℕ). get_or (labels_at G (suc k)) x 0) (sym at_l) ∙ up ∙ ap (λ (x : ℕ). get_or (labels_at G (suc k)) x 0) at_j

    lift_group : group_at G (suc k) l ≡ group_at G k l
    lift_group =
        let top : suc k ≤ strength_at G l = stronger l ll refl in
        group_at_eq G (suc k) l top
        ∙ filter_same (same_component (labels_at G (suc k)) l) (same_component (labels_at G k) l) (range 0 (size G)) agree
        ∙ sym (group_at_eq G k l (omega (arith, top)))
      where
        agree : (j : ℕ) → In j (range 0 (size G)) → same_component (labels_at G (suc k)) l j ≡ same_component (labels_at G k) l j
        agree j m = go (test (same_component (labels_at G k) l j)) (test (same_component (labels_at G (suc k)) l j))
          where
            lj : j < size G
            lj = omega (arith, (range_in 0 (size G) m).1)

            go : (same_component (labels_at G k) l j ≡ true) ⊎ (same_component (labels_at G k) l j ≡ false)
                → (same_component (labels_at G (suc k)) l j ≡ true) ⊎ (same_component (labels_at G (suc k)) l j ≡ false)
                → same_component (labels_at G (suc k)) l j ≡ same_component (labels_at G k) l j
            go (inl c) d = same_same_component (labels_at G (suc k)) l j (lift_same j lj (same_component_same (labels_at G k) l j c)) ∙ sym c
            go (inr c) (inr d) = d ∙ sym c
            go (inr c) (inl d) =
                absurd (true_not_false
                (same_same_component (labels_at G k) l j (same_down G k (suc k) (omega arith) l j ll lj (same_component_same (labels_at G (suc k)) l j d))) c)

  -- ---- some link of a stored group has exactly its strength, and so is in no group at a larger k

  module _ (proper : Proper G) where
    pub stored_exact : (g : ℕ) → g < group_count → (i : ℕ) × In i (stored g).members × (strength_at G i ≡ (stored g).strength)
    stored_exact g lg = go (test (any exactly (stored g).members))
      where
        s : Stored G (stored g)
        s = stored_at g lg

        k : ℕ
        k = (stored g).strength

        exactly : ℕ → Bool
        exactly i = eqb (strength_at G i) k

        go : (any exactly (stored g).members ≡ true) ⊎ (any exactly (stored g).members ≡ false)
            → (i : ℕ) × In i (stored g).members × (strength_at G i ≡ (stored g).strength)
        go (inl c) = let r = any_in exactly (stored g).members c in (r.0, r.1, eqb-true (strength_at G r.0) k r.2)
        go (inr c) = absurd (clash (stored_number (suc k) s.least (omega (arith, s.level)) s.least_lt (stronger s.least s.least_lt refl)))
          where
            ks : k ≤ strength_at G s.least
            ks = group_strong G k s.least s.least_in

            stronger : (j : ℕ) → j < size G → Same (labels_at G k) s.least j → suc k ≤ strength_at G j
            stronger j lj h =
                let m : In j (group_at G k s.least) = in_group G k s.least ks lj h in
                let ne : strength_at G j ≢ k = λ q. true_not_false (in_any exactly (stored g).members (rw s.members_eq m) (eq-eqb (strength_at G j) k q)) c in
                omega (arith, group_strong_all G k s.least s.least_lt m, ne)

            clash : (h : ℕ) × (h < group_count) × ((stored h).members ≡ group_at G (suc k) s.least) × (suc k ≤ (stored h).strength) → ⊥
            clash (h, lh, q, big) =
                let same : h ≡ g = stored-distinct h g lh lg (q ∙ lift_group proper k s.least s.least_lt stronger ∙ sym s.members_eq) in
                let t : (stored h).strength ≡ (stored g).strength = ap (λ (x : ℕ). (stored x).strength) same in
                omega (arith, big, t)

    -- so there are no more stored groups than links
    pub few_groups : group_count ≤ size G
    few_groups = pigeonhole (size G) group_count link_of_lem below inj
      where
        pick_if : (g : ℕ) → (ltb g group_count ≡ true) ⊎ (ltb g group_count ≡ false) → ℕ
        pick_if g (inl c) = (stored_exact g (ltb-true g group_count c)).0
        pick_if g (inr c) = 0

        link_of_lem : ℕ → ℕ
        link_of_lem g = pick_if g (test (ltb g group_count))

        link_is : (g : ℕ) → g < group_count → In (link_of_lem g) (stored g).members × (strength_at G (link_of_lem g) ≡ (stored g).strength)
        link_is g l = go (test (ltb g group_count))
          where
            go : (t : (ltb g group_count ≡ true) ⊎ (ltb g group_count ≡ false)) → In (pick_if g t) (stored g).members × (strength_at G (pick_if g t) ≡ (stored g).strength)
            go (inl c) = let r = stored_exact g (ltb-true g group_count c) in (r.1, r.2)
            go (inr c) = absurd (omega (arith, ltb-false g group_count c))

        below : (g : ℕ) → g < group_count → link_of_lem g < size G
        below g l = (stored_in g l (link_is g l).0).0

        inj : (g h : ℕ) → g < group_count → h < group_count → link_of_lem g ≡ link_of_lem h → g ≡ h
        inj g h lg lh q =
            let a = link_is g lg in
            let b = link_is h lh in
            let ks : (stored g).strength ≡ (stored h).strength = sym a.1 ∙ ap (strength_at G) q ∙ b.1 in
            stored-distinct g h lg lh ((stored_in g lg a.0).2 ∙ ap₂ (group_at G) ks q ∙ sym (stored_in h lh b.0).2)

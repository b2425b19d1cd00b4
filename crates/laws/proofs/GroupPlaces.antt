-- The stored groups from a place in their order on, for a program that finds them level by level: a group of strength k is found by the
-- root (least link) of its component at k; its number is the number of groups before it.
use mathlib.Core.Path.{◌≡◌, refl, sym, ap, ◌∙◌, subst}
use mathlib.Core.Logic.{◌⊎◌, inl, inr, ◌≢◌}
use mathlib.Core.Bool.{Bool, true, false, cond}
use mathlib.Core.List.{List, [], ◌∷◌}
use mathlib.Core.List.Memᴰ.{tail as there}
use mathlib.Core.List.{Memᴰ as In}
use Prim.Native.Nat.{ℕ, zero, suc, ◌+◌, ◌≤◌, ◌<◌}
use native.Mathlib.Nat.{le_refl}
use native.Mathlib.Omega.{arith}
use lib.Dec.{eqb, ltb}
use lib.ListN.{get_or}
use borrow.Author.Tests.{eqb-true, eqb-false, ltb-true, ltb-false}
use Rattle.truss.specs.Limits.{min_level, no_group}
use Rattle.truss.specs.Lists.{filter, range}
use Rattle.truss.specs.Graph.{Graph, link_number, link_at}
use Rattle.truss.specs.Forest.{Join, all_joins, singletons, same_component, merge, components}
use Rattle.truss.specs.Group.{Group, least_link, labels_at, group_at, groups}
use Rattle.truss.specs.Index.{index}
use Rattle.truss.specs.Stored.{row_at, group_row_at}
use Rattle.laws.proofs.Lists.{test}
use Rattle.laws.proofs.Members.{filter_in}
use Rattle.laws.proofs.Sets.{sorted_at}
use Rattle.laws.proofs.Peeling.{strength_at_most}
use Rattle.laws.proofs.Components.{label, same_component_same, same_same_component, heavy}
use Rattle.laws.proofs.Size.{Roots, singletons-roots, merge-roots}
use Rattle.laws.proofs.Groups.{size, strength_at, group_at_eq, in_group, group_self, group_rebase}
use Rattle.laws.proofs.Stored.{no_such_group, group_count, stored, stored_at, stored_in, stored-distinct, stored_exact, few_groups}
use Rattle.laws.proofs.GroupOrder.{Before, stronger, earlier, groups-sorted}
use Rattle.laws.proofs.Tree.{own, own_is, own-strength, number_is, is_number, parent-next, parent-none}
use Rattle.laws.proofs.Sides.{InOrder, at_link, join_of, JoinOf, first_two, outer_two, last_two}

-- ---- labels are least links

components-roots : (m : ℕ) (xs : List Join) (labels : List ℕ) → Roots m labels → ((z : Join) → In z xs → (z.lower < m) × (z.higher < m)) → Roots m (components labels xs)
unfolding components
components-roots m [] labels r h = r
components-roots m (x ∷ xs) labels r h =
    let e = h x (mathlib.Core.List.Memᴰ.head refl) in
    components-roots m xs (merge x.lower x.higher labels) (merge-roots m x.lower x.higher labels e.0 e.1 r) (λ z k. h z (there k))

-- the first of the numbers from a on that pass
keep-first : (p : ℕ → Bool) (a n x : ℕ) → a ≤ x → x < a + n → p x ≡ true → ((j : ℕ) → a ≤ j → j < x → p j ≡ false) → get_or (filter p (range a n)) 0 0 ≡ x
unfolding filter range
keep-first p a zero x l h px none = absurd (omega arith)
keep-first p a (suc n) x l h px none = go (test (eqb x a)) (λ u v. keep-first p (suc a) n x u v px (λ j s t. none j (omega arith) t))
  where
    go : (eqb x a ≡ true) ⊎ (eqb x a ≡ false) → (suc a ≤ x → x < suc a + n → get_or (filter p (range (suc a) n)) 0 0 ≡ x)
        → get_or (cond (p a) (a ∷ filter p (range (suc a) n)) (filter p (range (suc a) n))) 0 0 ≡ x
    go (inl c) ih = let q : x ≡ a = eqb-true x a c in rw (ap p (sym q) ∙ px) (sym q)
    go (inr c) ih = let ne : x ≢ a = eqb-false x a c in rw (none a (le_refl a) (omega arith)) (ih (omega arith) (omega arith))

module _ (G : Graph) (o : InOrder G) where
  join_below : (z : Join) → In z (all_joins G) → (z.lower < size G) × (z.higher < size G)
  join_below z m = at (join_of G o m)
    where
      at : JoinOf G o z → (z.lower < size G) × (z.higher < size G)
      at r = go r.side
        where
          go : Rattle.laws.proofs.Sides.Side G o r.e r.f r.g z → (z.lower < size G) × (z.higher < size G)
          go (first_two a b) = (omega (arith, a, r.sides.e_in), omega (arith, b, r.sides.f_in))
          go (outer_two a b) = (omega (arith, a, r.sides.e_in), omega (arith, b, r.sides.g_in))
          go (last_two a b) = (omega (arith, a, r.sides.f_in), omega (arith, b, r.sides.g_in))

  labels-roots : (k : ℕ) → Roots (size G) (labels_at G k)
  unfolding labels_at
  labels-roots k =
      components-roots (size G) (filter (heavy k) (all_joins G)) (singletons (size G)) (singletons-roots (size G)) (λ z m. join_below z (filter_in (heavy k) (all_joins G) m).0)

  -- the root of a link's component at k
  abbrev pub root_at : ℕ → ℕ → ℕ
  root_at k i = label (labels_at G k) i

  pub root_in : (k i : ℕ) → i < size G → root_at k i < size G
  root_in k i l = omega (arith, (labels-roots k).below i l)

  root_group : (k i : ℕ) → i < size G → k ≤ strength_at G i → In (root_at k i) (group_at G k i)
  root_group k i l s = in_group G k i s (root_in k i l) (sym ((labels-roots k).fixed i l))

  -- is the least link of its group
  pub group_least : (k i : ℕ) → i < size G → k ≤ strength_at G i → get_or (group_at G k i) 0 0 ≡ root_at k i
  group_least k i l s =
      ap (λ (xs : List ℕ). get_or xs 0 0) (group_at_eq G k i s)
      ∙ keep-first (same_component (labels_at G k) i) 0 (size G) (root_at k i) (omega arith) (omega (arith, root_in k i l)) (same_same_component (labels_at G k) i (root_at k i) (sym ((labels-roots k).fixed i l))) none
    where
      none : (j : ℕ) → 0 ≤ j → j < root_at k i → same_component (labels_at G k) i j ≡ false
      none j a b = go (test (same_component (labels_at G k) i j))
        where
          go : (same_component (labels_at G k) i j ≡ true) ⊎ (same_component (labels_at G k) i j ≡ false) → same_component (labels_at G k) i j ≡ false
          go (inl c) =
              let same : root_at k i ≡ root_at k j = same_component_same (labels_at G k) i j c in
              absurd (omega (arith, b, same, (labels-roots k).below j (omega (arith, b, root_in k i l))))
          go (inr c) = c

  -- ---- groups of strength k and their roots

  -- some link of strength k has the root r at k
  pub record Marked (k r : ℕ) : Type 0 where
    pub link : ℕ
    pub link_in : link < size G
    pub strength_is : strength_at G link ≡ k
    pub root_is_lem : root_at k link ≡ r

  -- the group number g is that of strength k with the least link r
  pub record IsGroup (k r g : ℕ) : Type 0 where
    pub counted : g < group_count G
    pub strength_is : (stored G g).strength ≡ k
    pub least_is : least_link (stored G g) ≡ r

  -- its links are those with the root r
  group_of : {k r g i : ℕ} → IsGroup k r g → i < size G → k ≤ strength_at G i → root_at k i ≡ r → (stored G g).members ≡ group_at G k i
  group_of {k} {r} {g} {i} S l s q = at (stored_exact G o.proper g S.counted)
    where
      at : (j : ℕ) × In j (stored G g).members × (strength_at G j ≡ (stored G g).strength) → (stored G g).members ≡ group_at G k i
      at (j, mj, ej) =
          let a = stored_in G g S.counted mj in
          let sj : k ≤ strength_at G j = omega (arith, ej, S.strength_is) in
          let members : (stored G g).members ≡ group_at G k j = a.2 ∙ ap (λ (z : ℕ). group_at G z j) S.strength_is in
          let rj : root_at k j ≡ r = sym (group_least k j a.0 sj) ∙ ap (λ (xs : List ℕ). get_or xs 0 0) (sym members) ∙ S.least_is in
          members ∙ sym (group_rebase G k j a.0 (in_group G k j sj l (rj ∙ sym q)))

  pub group_holds : {k r g i : ℕ} → IsGroup k r g → i < size G → k ≤ strength_at G i → root_at k i ≡ r → In i (stored G g).members
  group_holds {k} {r} {g} {i} S l s q = rw (group_of S l s q) (group_self G k i l s)

  pub stored-marked : (g : ℕ) → g < group_count G → Marked (stored G g).strength (least_link (stored G g))
  stored-marked g l = at (stored_exact G o.proper g l)
    where
      at : (j : ℕ) × In j (stored G g).members × (strength_at G j ≡ (stored G g).strength) → Marked (stored G g).strength (least_link (stored G g))
      at (j, mj, ej) =
          let a = stored_in G g l mj in
          record {
            link = j;
            link_in = a.0;
            strength_is = ej;
            root_is_lem = sym (group_least (stored G g).strength j a.0 a.1) ∙ ap (λ (xs : List ℕ). get_or xs 0 0) (sym a.2);
          }

  -- a link of a group of strength k has a marked root
  pub held_marked : {k h l : ℕ} → h < group_count G → (stored G h).strength ≡ k → In l (stored G h).members → Marked k (root_at k l)
  held_marked {k} {h} {l} lh sk m =
      let M = stored-marked h lh in
      let a = stored_in G h lh m in
      let members : (stored G h).members ≡ group_at G k l = a.2 ∙ ap (λ (z : ℕ). group_at G z l) sk in
      record {
        link = M.link;
        link_in = M.link_in;
        strength_is = M.strength_is ∙ sk;
        root_is_lem = ap (λ (z : ℕ). root_at z M.link) (sym sk) ∙ M.root_is_lem ∙ ap (λ (xs : List ℕ). get_or xs 0 0) members ∙ group_least k l a.0 (omega (arith, a.1, sk));
      }

  -- two groups of one strength and one least link are one
  pub group_once : {k r g h : ℕ} → IsGroup k r g → IsGroup k r h → g ≡ h
  group_once {k} {r} {g} {h} S T = at (stored_exact G o.proper g S.counted)
    where
      at : (j : ℕ) × In j (stored G g).members × (strength_at G j ≡ (stored G g).strength) → g ≡ h
      at (j, mj, ej) =
          let a = stored_in G g S.counted mj in
          let sj : k ≤ strength_at G j = omega (arith, ej, S.strength_is) in
          let members : (stored G g).members ≡ group_at G k j = a.2 ∙ ap (λ (z : ℕ). group_at G z j) S.strength_is in
          let rj : root_at k j ≡ r = sym (group_least k j a.0 sj) ∙ ap (λ (xs : List ℕ). get_or xs 0 0) (sym members) ∙ S.least_is in
          stored-distinct G g h S.counted T.counted (members ∙ sym (group_of T a.0 sj rj))

  -- the group with the least link of a stored group in it
  pub least_in : (g : ℕ) → g < group_count G → In (least_link (stored G g)) (stored G g).members
  least_in g l = at (stored-marked g l)
    where
      at : Marked (stored G g).strength (least_link (stored G g)) → In (least_link (stored G g)) (stored G g).members
      at M =
          let k : ℕ = (stored G g).strength in
          let s : k ≤ strength_at G M.link = omega (arith, M.strength_is) in
          let S : IsGroup k (least_link (stored G g)) g = record { counted = l; strength_is = refl; least_is = refl } in
          subst (λ (z : ℕ). In z (stored G g).members) M.root_is_lem (rw (group_of S M.link_in s M.root_is_lem) (root_group k M.link M.link_in s))

  module _ (fits : size G ≤ no_group) where
    -- ---- the own group of a link

    -- what the index says
    abbrev pub own_of : ℕ → ℕ
    own_of i = (row_at (index G) i).group

    pub own_row : (i : ℕ) → i < size G → own_of i ≡ own G o.proper fits i
    own_row i l =
        let n = is_number G o.proper fits (link_at G i) (at_link G o i l) in
        ap (λ (z : ℕ). (row_at (index G) z).group) (sym (o.proper.numbered i l))
        ∙ (number_is G o.proper fits (link_at G i) (link_number G (link_at G i)) n).2 ∙ ap (own G o.proper fits) (o.proper.numbered i l)

    pub own_group_lem : (i : ℕ) → i < size G → min_level ≤ strength_at G i → IsGroup (strength_at G i) (root_at (strength_at G i) i) (own_of i)
    own_group_lem i l s =
        let a = own_is G o.proper fits i l s in
        let q = own_row i l in
        record {
          counted = omega (arith, q, a.0);
          strength_is = ap (λ (z : ℕ). (stored G z).strength) q ∙ own-strength G o.proper fits i l s;
          least_is = ap (λ (z : ℕ). least_link (stored G z)) q ∙ ap (λ (xs : List ℕ). get_or xs 0 0) a.1 ∙ group_least (strength_at G i) i l (le_refl (strength_at G i));
        }

    -- each marked root has a stored group
    pub marked-stored : {k r : ℕ} → min_level ≤ k → Marked k r → (g : ℕ) × IsGroup k r g
    marked-stored {k} {r} three M =
        let S = own_group_lem M.link M.link_in (omega (arith, three, M.strength_is)) in (
          own_of M.link,
          record {
            counted = S.counted;
            strength_is = S.strength_is ∙ M.strength_is;
            least_is = S.least_is ∙ ap (λ (z : ℕ). root_at z M.link) M.strength_is ∙ M.root_is_lem;
          },
        )

    -- ---- parents

    abbrev pub parent_of : ℕ → ℕ
    parent_of g = (group_row_at (index G) g).parent

    -- x is the parent of g, as far as groups of strength k and more tell
    pub data ParentSo (k g x : ℕ) : Type 0 where
      known : x ≢ no_group → parent_of g ≡ x → ParentSo k g x
      open_yet : x ≡ no_group → ((h : ℕ) → h < group_count G → In (least_link (stored G g)) (stored G h).members → k ≤ (stored G h).strength → (stored G h).strength < (stored G g).strength → ⊥) → ParentSo k g x

    pub parent_weaker : {k k' g x : ℕ} → g < group_count G → k ≤ k' → ((h : ℕ) → h < group_count G → k ≤ (stored G h).strength → (stored G h).strength < (stored G g).strength → k' ≤ (stored G h).strength)
        → ParentSo k' g x → ParentSo k g x
    parent_weaker l le none (known a b) = known a b
    parent_weaker l le none (open_yet a b) = open_yet a (λ h lh m p q. b h lh m (none h lh p q) q)

    -- the strongest weaker group that holds the least link
    pub parent_found : {k g h x : ℕ} → g < group_count G → h < group_count G → x ≡ no_group → ParentSo (suc k) g x → (stored G h).strength ≡ k → k < (stored G g).strength
        → In (least_link (stored G g)) (stored G h).members → ParentSo k g h
    parent_found {k} {g} {h} {x} lg lh ex (known a b) sk less m = absurd (a ex)
    parent_found {k} {g} {h} {x} lg lh ex (open_yet a b) sk less m =
        known (λ q. omega (arith, q, lh, few_groups G o.proper, fits))
        (parent-next G o.proper fits g h (least_link (stored G g)) lg lh (least_in g lg) m (omega (arith, sk, less)) next)
      where
        next : (z : ℕ) → z < group_count G → In (least_link (stored G g)) (stored G z).members → (stored G z).strength < (stored G g).strength → (stored G z).strength ≤ (stored G h).strength
        next z lz mz w = go (test (ltb k (stored G z).strength))
          where
            go : (ltb k (stored G z).strength ≡ true) ⊎ (ltb k (stored G z).strength ≡ false) → (stored G z).strength ≤ (stored G h).strength
            go (inl c) = absurd (b z lz mz (ltb-true k (stored G z).strength c) w)
            go (inr c) = omega (arith, sk, ltb-false k (stored G z).strength c)

    -- no group of strength k holds it
    pub parent_passed : {k g x : ℕ} → g < group_count G → x ≡ no_group → ParentSo (suc k) g x
        → ((h : ℕ) → h < group_count G → (stored G h).strength ≡ k → In (least_link (stored G g)) (stored G h).members → ⊥) → ParentSo k g x
    parent_passed {k} {g} {x} lg ex (known a b) none = absurd (a ex)
    parent_passed {k} {g} {x} lg ex (open_yet a b) none = open_yet a (λ h lh m p q. go h lh m p q (test (ltb k (stored G h).strength)))
      where
        go : (h : ℕ) → h < group_count G → In (least_link (stored G g)) (stored G h).members → k ≤ (stored G h).strength → (stored G h).strength < (stored G g).strength
            → (ltb k (stored G h).strength ≡ true) ⊎ (ltb k (stored G h).strength ≡ false) → ⊥
        go h lh m p q (inl c) = b h lh m (ltb-true k (stored G h).strength c) q
        go h lh m p q (inr c) = none h lh (omega (arith, p, ltb-false k (stored G h).strength c)) m

    pub parent_end : {k g x : ℕ} → g < group_count G → ((h : ℕ) → h < group_count G → k ≤ (stored G h).strength) → ParentSo k g x → parent_of g ≡ x
    parent_end lg complete (known a b) = b
    parent_end {k} {g} {x} lg complete (open_yet a b) =
        parent-none G o.proper fits g (least_link (stored G g)) lg (least_in g lg) (λ h lh m w. b h lh m (complete h lh) w) ∙ sym a

  -- ---- places in the order of the groups

  pub data Above (k r : ℕ) (h : Group) : Type 0 where
    stronger_than : k < h.strength → Above k r h
    lower_than : h.strength ≡ k → least_link h < r → Above k r h

  pub data Beneath (k r : ℕ) (h : Group) : Type 0 where
    weaker_than : h.strength < k → Beneath k r h
    not_lower : h.strength ≡ k → r ≤ least_link h → Beneath k r h

  -- the first c groups are those before the place of strength k and least link r
  pub record Counted (k r c : ℕ) : Type 0 where
    pub within : c ≤ group_count G
    pub before : (g : ℕ) → g < c → Above k r (stored G g)
    pub after : (g : ℕ) → c ≤ g → g < group_count G → Beneath k r (stored G g)

  pub stored_most : (g : ℕ) → g < group_count G → (stored G g).strength ≤ 2 + G.n
  stored_most g l = let M = stored-marked g l in omega (arith, M.strength_is, strength_at_most G (link_at G M.link))

  pub stored_level : (g : ℕ) → g < group_count G → min_level ≤ (stored G g).strength
  stored_level g l = (stored_at G g l).level

  pub counted-first : (k : ℕ) → 2 + G.n < k → Counted k 0 0
  counted-first k l = record { within = omega arith; before = λ g a. absurd (omega arith); after = λ g a b. weaker_than (omega (arith, l, stored_most g b)) }

  not_both : {k r : ℕ} {h : Group} → Above k r h → Beneath k r h → ⊥
  not_both (stronger_than a) (weaker_than b) = omega arith
  not_both (stronger_than a) (not_lower b c) = omega arith
  not_both (lower_than a c) (weaker_than b) = omega arith
  not_both (lower_than a c) (not_lower b d) = omega arith

  -- no group of strength k has the least link r
  pub counted_skip : {k r c : ℕ} → Counted k r c → ((g : ℕ) → IsGroup k r g → ⊥) → Counted k (suc r) c
  counted_skip {k} {r} {c} C none = record { within = C.within; before = λ g l. more (C.before g l); after = λ g a b. less g b (C.after g a b) }
    where
      more : {h : Group} → Above k r h → Above k (suc r) h
      more (stronger_than a) = stronger_than a
      more (lower_than a b) = lower_than a (omega arith)

      less : (g : ℕ) → g < group_count G → Beneath k r (stored G g) → Beneath k (suc r) (stored G g)
      less g l (weaker_than a) = weaker_than a
      less g l (not_lower a b) = not_lower a (go (test (eqb (least_link (stored G g)) r)))
        where
          go : (eqb (least_link (stored G g)) r ≡ true) ⊎ (eqb (least_link (stored G g)) r ≡ false) → suc r ≤ least_link (stored G g)
          go (inl c) = absurd (none g (record { counted = l; strength_is = a; least_is = eqb-true (least_link (stored G g)) r c }))
          go (inr c) = let ne : least_link (stored G g) ≢ r = eqb-false (least_link (stored G g)) r c in omega arith

  -- the group of strength k with the least link r comes next
  pub counted_next : {k r c g : ℕ} → Counted k r c → IsGroup k r g → c ≡ g
  counted_next {k} {r} {c} {g} C S = go (test (ltb g c)) (test (ltb c g))
    where
      sorted : (a b : ℕ) → a < b → b < group_count G → Before (stored G a) (stored G b)
      sorted = sorted_at Before no_such_group (groups G) (groups-sorted G)

      at : Above k r (stored G g) → ⊥
      at (stronger_than a) = omega (arith, a, S.strength_is)
      at (lower_than a b) = omega (arith, b, S.least_is)

      clash : Before (stored G c) (stored G g) → Beneath k r (stored G c) → ⊥
      clash (stronger p) (weaker_than a) = omega (arith, p, a, S.strength_is)
      clash (stronger p) (not_lower a b) = omega (arith, p, a, S.strength_is)
      clash (earlier p q) (weaker_than a) = omega (arith, p, a, S.strength_is)
      clash (earlier p q) (not_lower a b) = omega (arith, q, b, S.least_is)

      go : (ltb g c ≡ true) ⊎ (ltb g c ≡ false) → (ltb c g ≡ true) ⊎ (ltb c g ≡ false) → c ≡ g
      go (inl x) y = absurd (at (C.before g (ltb-true g c x)))
      go (inr x) (inl y) =
          let l : c < g = ltb-true c g y in
          absurd (clash (sorted c g l S.counted) (C.after c (le_refl c) (omega (arith, l, S.counted))))
      go (inr x) (inr y) = omega (arith, ltb-false g c x, ltb-false c g y)

  pub counted_group : {k r c : ℕ} → Counted k r c → IsGroup k r c → Counted k (suc r) (c + 1)
  counted_group {k} {r} {c} C S = record {
    within = omega (arith, S.counted);
    before = λ g l. old g l (test (eqb g c));
    after = λ g a b. rest g a b (C.after g (omega arith) b) (test (eqb (least_link (stored G g)) r));
  }
    where
      more : {h : Group} → Above k r h → Above k (suc r) h
      more (stronger_than a) = stronger_than a
      more (lower_than a b) = lower_than a (omega arith)

      old : (g : ℕ) → g < c + 1 → (eqb g c ≡ true) ⊎ (eqb g c ≡ false) → Above k (suc r) (stored G g)
      old g l (inl t) = let q : g ≡ c = eqb-true g c t in rw q (lower_than S.strength_is (omega (arith, S.least_is)))
      old g l (inr t) = let ne : g ≢ c = eqb-false g c t in more (C.before g (omega (arith, l, ne)))

      rest : (g : ℕ) → c + 1 ≤ g → g < group_count G → Beneath k r (stored G g) → (eqb (least_link (stored G g)) r ≡ true) ⊎ (eqb (least_link (stored G g)) r ≡ false) → Beneath k (suc r) (stored G g)
      rest g a b (weaker_than x) t = weaker_than x
      rest g a b (not_lower x y) (inl t) =
          let same : g ≡ c = group_once (record { counted = b; strength_is = x; least_is = eqb-true (least_link (stored G g)) r t }) S in
          absurd (omega (arith, a, same))
      rest g a b (not_lower x y) (inr t) = let ne : least_link (stored G g) ≢ r = eqb-false (least_link (stored G g)) r t in not_lower x (omega (arith, y, ne))

  -- to a lower level, where no strength lies in between
  pub counted_lower : {K r k c : ℕ} → Counted K r c → ((g : ℕ) → g < group_count G → Beneath K r (stored G g) → (stored G g).strength < K) → k < K
      → ((g : ℕ) → g < group_count G → (stored G g).strength < K → (stored G g).strength ≤ k) → Counted k 0 c
  counted_lower {K} {r} {k} {c} C complete l none = record {
    within = C.within;
    before = λ g a. up (C.before g a);
    after = λ g a b. down g (none g b (complete g b (C.after g a b))) (test (eqb (stored G g).strength k));
  }
    where
      up : {h : Group} → Above K r h → Above k 0 h
      up (stronger_than a) = stronger_than (omega arith)
      up (lower_than a b) = stronger_than (omega arith)

      down : (g : ℕ) → (stored G g).strength ≤ k → (eqb (stored G g).strength k ≡ true) ⊎ (eqb (stored G g).strength k ≡ false) → Beneath k 0 (stored G g)
      down g a (inl t) = not_lower (eqb-true (stored G g).strength k t) (omega arith)
      down g a (inr t) = let ne : (stored G g).strength ≢ k = eqb-false (stored G g).strength k t in weaker_than (omega (arith, a, ne))

  -- all of strength K and more
  pub counted-all : {K c : ℕ} → Counted K (size G) c → (g : ℕ) → g < group_count G → Beneath K (size G) (stored G g) → (stored G g).strength < K
  counted-all {K} {c} C g l (weaker_than a) = a
  counted-all {K} {c} C g l (not_lower a b) =
      let M = stored-marked g l in
      absurd (omega (arith, b, M.root_is_lem, root_in (stored G g).strength M.link M.link_in))

  pub counted_end : {K r c : ℕ} → Counted K r c → ((g : ℕ) → g < group_count G → Beneath K r (stored G g) → ⊥) → c ≡ group_count G
  counted_end {K} {r} {c} C none = go (test (ltb c (group_count G)))
    where
      go : (ltb c (group_count G) ≡ true) ⊎ (ltb c (group_count G) ≡ false) → c ≡ group_count G
      go (inl t) = let l = ltb-true c (group_count G) t in absurd (none c l (C.after c (le_refl c) l))
      go (inr t) = omega (arith, C.within, ltb-false c (group_count G) t)

  -- room for a group
  pub group_room : {k r g : ℕ} → IsGroup k r g → g < size G
  group_room S = omega (arith, S.counted, few_groups G o.proper)

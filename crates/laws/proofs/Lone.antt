-- Links of strength 2: they are in no triangle, count as joined to themselves alone, and are stored groups of their own; at 2 the groups are those at 3 and these. No chain leads from one, even to itself.
use mathlib.Core.Path.{◌≡◌, refl, sym, ap, ◌∙◌, subst}
use mathlib.Core.Logic.{◌⊎◌, inl, inr, ◌↔◌, ◌≢◌}
use mathlib.Core.Bool.{Bool, true, ◌&&◌}
use mathlib.Core.List.{List, [], ◌∷◌}
use mathlib.Core.List.Memᴰ.{cases_cons as in-cons}
use mathlib.Core.List.Memᴰ.{not-nil as in-nil}
use mathlib.Core.List.{Memᴰ as In}
use Prim.Native.Nat.{ℕ, ◌≤◌, ◌<◌}
use native.Mathlib.Nat.{le_antisymm, le_refl}
use native.Mathlib.Omega.{arith}
use lib.Dec.{leb}
use lib.ListN.{length, get_or, set}
use borrow.Author.Tests.{le-leb, le-ltb, lt-leb}
use Rattle.truss.specs.Limits.{windows, min_strength, min_level, no_group}
use Rattle.truss.specs.Lists.{filter, range}
use Rattle.truss.specs.Graph.{Link, Pair, Graph, Triangle, IsTriangle, Has, link, link_at, link_number, graph_of, member}
use Rattle.truss.specs.Strength.{IsStrength, strength}
use Rattle.truss.specs.Chain.{AtLeast, Joined, one_triangle, and_on, InGroup}
use Rattle.truss.specs.Shortest.{shortest_chain}
use Rattle.truss.specs.Forest.{Join, all_joins, singletons, components, same_component}
use Rattle.truss.specs.Group.{Group, least_link, labels_at, group_at, groups}
use Rattle.truss.specs.Refusal.{Checked, passed, refused, and_then}
use Rattle.truss.specs.Record.{kind_head, kind_index_head, byte_at}
use Rattle.truss.specs.LinksFile.{Head, accepted, read_head, read_pairs, read_links}
use Rattle.truss.specs.Index.{Index, GroupRow, index, group_row, encode, index_bytes, decode}
use Rattle.truss.specs.IndexFile.{IsIndexOf, read_index}
use Rattle.truss.specs.Question.{joined_up_to, holds_all, numbers_of, is_group_at, groups_holding, all_holding, group_links, answer, ask_joined, number}
use Rattle.truss.specs.Call.{answer_bytes, answer_value, answer_second, done, next_tally, checked_answer, settle, ask}
use Rattle.truss.specs.Stored.{row_at, group_row_at, Leads}
use Rattle.truss.specs.Lone.{Lone, LonePairs, LoneRule}
use Rattle.laws.proofs.Numbers.{less_or_not}
use Rattle.laws.proofs.Members.{number_lt, link_of_number}
use Rattle.laws.proofs.Proper.{Proper}
use Rattle.laws.proofs.ProperLinks.{end_below}
use Rattle.laws.proofs.Peeling.{strength_is, strength_unique, strength_at_least_2}
use Rattle.laws.proofs.Chains.{link_of_at_least, strength_at_least, has_strong, in_strong_triangle, joined_first, joined_refl}
use Rattle.laws.proofs.Lists.{both, and_left, and_right}
use Rattle.laws.proofs.Sets.{filter_same, same_list_eq, eq_same_list}
use Rattle.laws.proofs.Groups.{size, strength_at, group_at_eq, group_self, group_strong}
use Rattle.laws.proofs.Stored.{group_count, stored, stored_in, few_groups}
use Rattle.laws.proofs.Tree.{joined_down, group_rows_length, group_row_at_lem, own, own_is, own-strength, own_strong, own-holds, parent-none}
use Rattle.laws.proofs.Meaning.{group_meaning, joined_up_to_max, joined_up_to_is}
use Rattle.laws.proofs.Answers.{numbers_in, in_numbers, joined_itself, all_inside}
use Rattle.laws.proofs.Accepted.{Named, head_kind, read_named, graph_size}
use Rattle.laws.proofs.Agree.{decoded}
use Rattle.laws.proofs.Reading.{read_only}
use Rattle.laws.proofs.Size.{index_room}
use Rattle.laws.proofs.Sides.{InOrder, at_link}
use Rattle.laws.proofs.Weights.{triangle-three, join-three}
use Rattle.laws.proofs.GroupPlaces.{root_at, Marked, own_of, own_row, own_group_lem, group_once, least_in, stored-marked, stored_level}
use Rattle.laws.proofs.Shortest.{shortest_none}
use Rattle.laws.proofs.Support.{passed_order}

module _ (G : Graph) (o : InOrder G) where
  -- ---- chains

  -- every triangle has weight 3 or more
  pub joined_three : {k : ℕ} {e f : Link} → Joined G k e f → Joined G 3 e f
  joined_three (one_triangle t s p q) = one_triangle t (triangle-three G o t s.is_triangle) p q
  joined_three (and_on t s p q j) = and_on t (triangle-three G o t s.is_triangle) p q (joined_three j)

  pub joined_at_2 : (e f : Link) → Joined G 2 e f ↔ Joined G 3 e f
  joined_at_2 e f = ((λ j. joined_three j), (λ j. joined_down G 2 3 (omega arith) j))

  not_three : {e : Link} → Lone G e → AtLeast G 3 e → ⊥
  not_three {e} l (s, i, three) = omega (arith, three, strength_unique G e s min_strength i l)

  pub lone_unjoined : {k : ℕ} {e f : Link} → Lone G e → Joined G k e f → ⊥
  lone_unjoined l j = not_three l (joined_first G 3 (joined_three j))

  -- a link is lone, or has strength 3 and more
  lone_or_three : (e : Link) → member G.links e ≡ true → Lone G e ⊎ AtLeast G 3 e
  lone_or_three e m = go (less_or_not (strength G e) 3)
    where
      go : (strength G e < 3) ⊎ (3 ≤ strength G e) → Lone G e ⊎ AtLeast G 3 e
      go (inl l) = inl (subst (IsStrength G e) (omega (arith, l, strength_at_least_2 G e m)) (strength_is G e m))
      go (inr l) = inr (strength_at_least G 3 e m l)

  lone_triangle : (e : Link) → member G.links e ≡ true → Lone G e ↔ ((t : Triangle) → IsTriangle (member G.links) t → ¬ Has t e)
  lone_triangle e m = ((λ l t i h. not_three l (has_strong G 3 t e (triangle-three G o t i) h)), (λ none. back none (lone_or_three e m)))
    where
      back : ((t : Triangle) → IsTriangle (member G.links) t → ¬ Has t e) → Lone G e ⊎ AtLeast G 3 e → Lone G e
      back none (inl l) = l
      back none (inr three) = let (t, s, h) = in_strong_triangle G 3 o.proper (le_refl 3) e three in absurd (none t s.is_triangle h)

  -- ---- groups

  itself : (e : Link) (k s : ℕ) → IsStrength G e s → InGroup G k e e ↔ (k ≤ s)
  itself e k s i = (
    (λ x. let (z, j, l) = x.strong in omega (arith, l, strength_unique G e z s j i)),
    (λ l. record { strong = (s, i, l); joined = inl refl }),
  )

  weaker : {k l : ℕ} {e : Link} → k ≤ l → AtLeast G l e → AtLeast G k e
  weaker le (s, i, u) = (s, i, omega (arith, le, u))

  -- "At 2 the groups are those at 3 and the lone links."
  pub group_at_2 : (e f : Link) → InGroup G 2 e f ↔ (InGroup G 3 e f ⊎ ((f ≡ e) × Lone G e))
  group_at_2 e f = ((λ x. to x (lone_or_three e (link_of_at_least G 2 e x.strong))), back)
    where
      to : InGroup G 2 e f → Lone G e ⊎ AtLeast G 3 e → InGroup G 3 e f ⊎ ((f ≡ e) × Lone G e)
      to x (inl l) = at x.joined
        where
          at : (f ≡ e) ⊎ Joined G 2 e f → InGroup G 3 e f ⊎ ((f ≡ e) × Lone G e)
          at (inl q) = inr (q, l)
          at (inr j) = absurd (lone_unjoined l j)
      to x (inr three) = inl (record { strong = three; joined = at x.joined })
        where
          at : (f ≡ e) ⊎ Joined G 2 e f → (f ≡ e) ⊎ Joined G 3 e f
          at (inl q) = inl q
          at (inr j) = inr (joined_three j)

      back : InGroup G 3 e f ⊎ ((f ≡ e) × Lone G e) → InGroup G 2 e f
      back (inl x) = record { strong = weaker (omega arith) x.strong; joined = at x.joined }
        where
          at : (f ≡ e) ⊎ Joined G 3 e f → (f ≡ e) ⊎ Joined G 2 e f
          at (inl q) = inl q
          at (inr j) = inr (joined_down G 2 3 (omega arith) j)
      back (inr (q, l)) = record { strong = (min_strength, l, omega arith); joined = inl q }

  -- ---- question C: the groups of links of strength 3 and more are one set at 2 and at 3

  labels_at_2 : labels_at G 2 ≡ labels_at G 3
  unfolding labels_at
  labels_at_2 =
      ap (components (singletons (size G)))
      (filter_same (λ (y : Join). leb 2 y.weight) (λ (y : Join). leb 3 y.weight) (all_joins G)
      (λ y m. let three = join-three G o m in le-leb 2 y.weight (omega (arith, three)) ∙ sym (le-leb 3 y.weight three)))

  same_group : (i : ℕ) → 3 ≤ strength_at G i → group_at G 2 i ≡ group_at G 3 i
  same_group i three =
      group_at_eq G 2 i (omega (arith, three)) ∙ ap (λ (z : List ℕ). filter (same_component z i) (range 0 (size G))) labels_at_2 ∙ sym (group_at_eq G 3 i three)

  pub C_at_2 : (vs : List ℕ) (g : ℕ) → In g (groups_holding G 2 vs) ↔ (In g (groups_holding G 3 vs) ⊎ (In g (all_holding G vs) × ((stored G g).strength ≡ min_strength)))
  unfolding groups_holding all_holding is_group_at
  C_at_2 vs g = (to, back)
    where
      at : ℕ → Group → Bool
      at k h = is_group_at G k h && holds_all G vs h

      l : ℕ
      l = least_link (stored G g)

      -- of a stored group: its least link, whose group at its strength it is
      of : g < group_count G → (l < size G) × ((stored G g).strength ≤ strength_at G l) × ((stored G g).members ≡ group_at G (stored G g).strength l)
      of lg = stored_in G g lg (least_in G o g lg)

      listed_at : (k : ℕ) → g < group_count G → group_at G k l ≡ (stored G g).members → holds_all G vs (stored G g) ≡ true → In g (numbers_of (at k) (groups G))
      listed_at k lg q h = in_numbers (at k) (groups G) lg (both (eq_same_list (group_at G k l) (stored G g).members q) h)

      is_at : (k : ℕ) → In g (numbers_of (at k) (groups G)) → (g < group_count G) × (group_at G k l ≡ (stored G g).members) × (holds_all G vs (stored G g) ≡ true)
      is_at k m =
          let r = numbers_in (at k) (groups G) m in
          (r.0, same_list_eq (group_at G k l) (stored G g).members (and_left (is_group_at G k (stored G g)) _ r.1), and_right (is_group_at G k (stored G g)) _ r.1)

      to : In g (groups_holding G 2 vs) → In g (groups_holding G 3 vs) ⊎ (In g (all_holding G vs) × ((stored G g).strength ≡ min_strength))
      to m = let (lg, q, h) = is_at 2 m in go lg q h (less_or_not (strength_at G l) 3)
        where
          go : g < group_count G → group_at G 2 l ≡ (stored G g).members → holds_all G vs (stored G g) ≡ true → (strength_at G l < 3) ⊎ (3 ≤ strength_at G l)
              → In g (groups_holding G 3 vs) ⊎ (In g (all_holding G vs) × ((stored G g).strength ≡ min_strength))
          go lg q h (inl w) = inr (in_numbers (holds_all G vs) (groups G) lg h, le_antisymm (omega (arith, w, (of lg).1)) (stored_level G o g lg))
          go lg q h (inr s) = inl (listed_at 3 lg (sym (same_group l s) ∙ q) h)

      back : In g (groups_holding G 3 vs) ⊎ (In g (all_holding G vs) × ((stored G g).strength ≡ min_strength)) → In g (groups_holding G 2 vs)
      back (inl m) =
          let (lg, q, h) = is_at 3 m in
          listed_at 2 lg (same_group l (group_strong G 3 l (subst (In l) (sym q) (least_in G o g lg))) ∙ q) h
      back (inr (m, two)) =
          let r = numbers_in (holds_all G vs) (groups G) m in
          listed_at 2 r.0 (ap (λ (k : ℕ). group_at G k l) (sym two) ∙ sym (of r.0).2) r.1

  -- ---- question G: "In request 1 a lone link with itself at 2 gives count 0, the one such case"

  pub one_case : (k : ℕ) (e f : Link) → min_level ≤ k → InGroup G k e f → (shortest_chain G k e f ≡ []) ↔ ((f ≡ e) × (k ≡ 2) × IsStrength G e 2)
  one_case k e f two x = (
    (λ q. let n = (shortest_none G o k e f).0 q in to n x.joined (lone_or_three e (link_of_at_least G k e x.strong))),
    (λ (p, q, l). (shortest_none G o k e f).1 (λ j. lone_unjoined l j)),
  )
    where
      to : ¬ Joined G k e f → (f ≡ e) ⊎ Joined G k e f → Lone G e ⊎ AtLeast G 3 e → (f ≡ e) × (k ≡ 2) × IsStrength G e 2
      to n (inr j) s = absurd (n j)
      to n (inl q) (inl l) = let (z, i, u) = x.strong in (q, omega (arith, two, u, strength_unique G e z min_strength i l), l)
      to n (inl q) (inr three) = absurd (n (subst (λ (y : Link). Joined G k e y) (sym q) (at (less_or_not k 3))))
        where
          at : (k < 3) ⊎ (3 ≤ k) → Joined G k e e
          at (inl l) = joined_down G k 3 (omega (arith, l)) (joined_refl G 3 o.proper (le_refl 3) e three)
          at (inr l) = joined_refl G k o.proper l e x.strong

  -- ---- question F, at 2 too: "The links of the group at k with a given link; none if its strength is below k"

  pub F_is : (k : ℕ) (e : Link) (i : ℕ) → member G.links e ≡ true → i < size G → In i (group_links G k e) ↔ InGroup G k e (link_at G i)
  unfolding group_links
  F_is k e i me l =
      let w = group_meaning G o.proper k (link_number G e) i (number_lt G e me) l in
      ((λ m. rw (link_of_number G e me) at (w.0 m)), (λ x. w.1 (rw (link_of_number G e me) x)))

  -- ---- stored groups

  module _ (fits : size G ≤ no_group) where
    at_strength : (i : ℕ) → i < size G → Lone G (link_at G i) → strength_at G i ≡ min_strength
    at_strength i l s = strength_unique G (link_at G i) (strength_at G i) min_strength (strength_is G (link_at G i) (at_link G o i l)) s

    -- only the link itself is in its own group
    own_alone : (i j : ℕ) → i < size G → j < size G → Lone G (link_at G i) → In j (stored G (own G o.proper fits i)).members → j ≡ i
    own_alone i j li lj s m =
        at ((group_meaning G o.proper (strength_at G i) i j li lj).0 (rw (own_is G o.proper fits i li (own_strong G o.proper fits i li)).1 at m)).joined
      where
        at : (link_at G j ≡ link_at G i) ⊎ Joined G (strength_at G i) (link_at G i) (link_at G j) → j ≡ i
        at (inl q) = sym (o.proper.numbered j lj) ∙ ap (link_number G) q ∙ o.proper.numbered i li
        at (inr u) = absurd (lone_unjoined s u)

    own_in : (i : ℕ) → i < size G → In i (stored G (own G o.proper fits i)).members
    own_in i l = rw (own_is G o.proper fits i l (own_strong G o.proper fits i l)).1 (group_self G (strength_at G i) i l (le_refl (strength_at G i)))

    own_below : (i : ℕ) → i < size G → own G o.proper fits i < group_count G
    own_below i l = (own_is G o.proper fits i l (own_strong G o.proper fits i l)).0

    own_least : (i : ℕ) → i < size G → Lone G (link_at G i) → least_link (stored G (own G o.proper fits i)) ≡ i
    own_least i l s =
        let m = least_in G o (own G o.proper fits i) (own_below i l) in
        own_alone i (least_link (stored G (own G o.proper fits i))) l (stored_in G (own G o.proper fits i) (own_below i l) m).0 s m

    own_row_is : (i : ℕ) → i < size G → Lone G (link_at G i) → group_row_at (index G) (own G o.proper fits i) ≡ record { parent = no_group; strength = min_strength; least = i }
    unfolding group_row
    own_row_is i l s = λ t. record { parent = p t; strength = q t; least = r t }
      where
        g : ℕ
        g = own G o.proper fits i

        row : group_row_at (index G) g ≡ group_row (groups G) (stored G g)
        row = group_row_at_lem G o.proper fits g (own_below i l)

        q₀ : (stored G g).strength ≡ min_strength
        q₀ = own-strength G o.proper fits i l (own_strong G o.proper fits i l) ∙ at_strength i l s

        p : (group_row_at (index G) g).parent ≡ no_group
        p = parent-none G o.proper fits g i (own_below i l) (own_in i l) (λ h lh m w. omega (arith, w, q₀, stored_level G o h lh))

        q : (group_row_at (index G) g).strength ≡ min_strength
        q = ap (λ (x : GroupRow). x.strength) row ∙ q₀

        r : (group_row_at (index G) g).least ≡ i
        r = ap (λ (x : GroupRow). x.least) row ∙ own_least i l s

    -- a stored group of strength 2 is the own group of the link that gives it its strength
    stored_lone : (g : ℕ) → g < group_count G → (stored G g).strength ≡ min_strength → (i : ℕ) × (i < size G) × Lone G (link_at G i) × (own_of G o fits i ≡ g)
    stored_lone g l q = at (stored-marked G o g l)
      where
        at : Marked G o (stored G g).strength (least_link (stored G g)) → (i : ℕ) × (i < size G) × Lone G (link_at G i) × (own_of G o fits i ≡ g)
        at M =
            let two : strength_at G M.link ≡ min_strength = M.strength_is ∙ q in
            let S = own_group_lem G o fits M.link M.link_in (omega (arith, two)) in (
              M.link,
              M.link_in,
              subst (IsStrength G (link_at G M.link)) two (strength_is G (link_at G M.link) (at_link G o M.link M.link_in)),
              group_once G o S (record { counted = l; strength_is = q ∙ sym two; least_is = sym M.root_is_lem ∙ ap (λ (z : ℕ). root_at G o z M.link) (sym M.strength_is) }),
            )

    -- what the index says of them; x is what its bytes say
    module _ {x : Index} (said : x ≡ index G) where
      own_says : (i : ℕ) → i < size G → (row_at x i).group ≡ own G o.proper fits i
      own_says i l = ap (λ (y : Index). (row_at y i).group) said ∙ own_row G o fits i l

      says_own_group : (i : ℕ) → i < size G → Lone G (link_at G i) → group_row_at x (row_at x i).group ≡ record { parent = no_group; strength = min_strength; least = i }
      says_own_group i l s = ap (λ (y : Index). group_row_at y (row_at x i).group) said ∙ ap (group_row_at (index G)) (own_says i l) ∙ own_row_is i l s

      says_no_other : (i j : ℕ) → i < size G → j < size G → Lone G (link_at G i) → Leads x (row_at x j).group (row_at x i).group → j ≡ i
      says_no_other i j li lj s u =
          own_alone i j li lj s
          (own-holds G o.proper fits j (own G o.proper fits i) lj
          (subst (λ (y : Index). Leads y (own G o.proper fits j) (own G o.proper fits i)) said
          (subst (λ (z : ℕ). Leads x z (own G o.proper fits i)) (own_says j lj) (subst (λ (z : ℕ). Leads x (row_at x j).group z) (own_says i li) u))))

      says_count : length x.groups ≡ group_count G
      says_count = ap (λ (y : Index). length y.groups) said ∙ group_rows_length G o.proper fits

      says_no_more : (g : ℕ) → g < length x.groups → (group_row_at x g).strength ≡ min_strength → (i : ℕ) × (i < size G) × Lone G (link_at G i) × ((row_at x i).group ≡ g)
      unfolding group_row
      says_no_more g l q =
          let lg : g < group_count G = omega (arith, l, says_count) in
          let row = group_row_at_lem G o.proper fits g lg in
          let (i, li, s, e) = stored_lone g lg (sym (ap (λ (y : GroupRow). y.strength) row) ∙ sym (ap (λ (y : Index). (group_row_at y g).strength) said) ∙ q) in
          (i, li, s, ap (λ (y : Index). (row_at y i).group) said ∙ e)

      says_named : (i : ℕ) → i < size G → ((row_at x i).group < length x.groups) × ((row_at x i).group ≢ no_group)
      says_named i l =
          let b = own_below i l in
          (omega (arith, own_says i l, b, says_count), λ q. omega (arith, q, own_says i l, b, few_groups G o.proper, fits))

-- ---- of every index that 7 lets pass

B_answer : (G : Graph) → Proper G → (a b c d : ℕ) → member G.links (link a b) ≡ true → link c d ≡ link a b → answer G (ask_joined a b c d) ≡ passed (number (strength G (link a b)))
unfolding answer
B_answer G proper a b c d m q =
    rw (
      all_inside G (a ∷ b ∷ c ∷ d ∷ []) below,
      m,
      ap (member G.links) q ∙ m,
      ap (joined_up_to G (link a b)) q,
      joined_itself G proper (link a b) m,
    ) refl
  where
    ab : (a < G.n) × (b < G.n)
    ab = end_below G proper a b m

    cd : (c < G.n) × (d < G.n)
    cd = end_below G proper c d (ap (member G.links) q ∙ m)

    below : (v : ℕ) → In v (a ∷ b ∷ c ∷ d ∷ []) → v < G.n
    below v x = first (in-cons x)
      where
        fourth : (v ≡ d) ⊎ In v [] → v < G.n
        fourth (inl e) = omega (arith, e, cd.1)
        fourth (inr e) = absurd (in-nil e)

        third : (v ≡ c) ⊎ In v (d ∷ []) → v < G.n
        third (inl e) = omega (arith, e, cd.0)
        third (inr e) = fourth (in-cons e)

        second : (v ≡ b) ⊎ In v (c ∷ d ∷ []) → v < G.n
        second (inl e) = omega (arith, e, ab.1)
        second (inr e) = third (in-cons e)

        first : (v ≡ a) ⊎ In v (b ∷ c ∷ d ∷ []) → v < G.n
        first (inl e) = omega (arith, e, ab.0)
        first (inr e) = second (in-cons e)

B_itself : (bytes : List ℕ) (G : Graph) → read_index bytes ≡ passed G → (a b c d : ℕ) (buffer : List ℕ) (w : ℕ) (tallies : List ℕ) (s : ℕ) → w < windows
    → member G.links (link a b) ≡ true → link c d ≡ link a b → IsStrength G (link a b) s
    → ask bytes (ask_joined a b c d) buffer w tallies ≡ record { reply = done s; buffer = buffer; tallies = set tallies w (next_tally (get_or tallies w 0)) }
unfolding ask settle checked_answer and_then answer_bytes answer_value answer_second
B_itself bytes G h a b c d buffer w tallies s l m q i =
    rw (
      strength_unique G (link a b) s (strength G (link a b)) i (strength_is G (link a b) m),
      lt-leb windows w l,
      h,
      and_then,
      B_answer G (passed_order bytes G h).proper a b c d m q,
      and_then,
      answer_bytes,
      le-ltb (length buffer) 0 (omega arith),
      settle,
      answer_value,
      answer_second,
    ) refl

index_begins : (G : Graph) → byte_at (index_bytes G) 0 ≡ kind_index_head
unfolding index_bytes encode
index_begins G = refl

links_begin : (file : List ℕ) (n : ℕ) (ps : List Pair) → read_links file ≡ accepted n ps → byte_at file 0 ≡ kind_head
unfolding read_links and_then
links_begin file n ps h = go (read_head kind_head file) refl h
  where
    go : (x : Checked Head) → read_head kind_head file ≡ x → and_then x (λ (y : Head). read_pairs file y.n y.m 5 []) ≡ accepted n ps → byte_at file 0 ≡ kind_head
    go (passed y) e q = head_kind kind_head file y e
    go (refused r) e q = let z : ◌≡◌ {A = ℕ} 0 1 = cc in absurd (omega arith)

pub lone_rule : LoneRule
lone_rule = record { pairs = λ bytes G h. of bytes G h (read_only bytes G h); links_begin = links_begin }
  where
    of : (bytes : List ℕ) (G : Graph) → read_index bytes ≡ passed G → (n : ℕ) × (ps : List Pair) × IsIndexOf bytes n ps × (G ≡ graph_of n ps) → LonePairs bytes G
    of bytes G h (n, ps, i, q) = record {
      in_none = lone_triangle G o;
      itself = itself G o;
      up_to = λ e f me mf. (joined_up_to_max G o.proper e f me mf, joined_up_to_is G o.proper e f me mf);
      joined_itself = B_itself bytes G h;
      own_group_lem = says_own_group G o fits said;
      holds_no_other = says_no_other G o fits said;
      no_more = says_no_more G o fits said;
      named = says_named G o fits said;
      at_2 = group_at_2 G o;
      C_at_2 = C_at_2 G o;
      group_links_lem = F_is G o;
      joined_at_2 = joined_at_2 G o;
      begins = ap (λ (b : List ℕ). byte_at b 0) (sym i.bytes) ∙ index_begins (graph_of n ps);
      room = omega (arith, ap (λ (b : List ℕ). length b) i.bytes, index_room n ps named);
    }
      where
        o : InOrder G
        o = passed_order bytes G h

        named : Named n ps
        named = read_named i.file n ps i.file_accepted

        fits : size G ≤ no_group
        fits = omega (arith, ap size q, graph_size n ps, named.links)

        said : decode bytes ≡ index G
        said = ap decode (sym i.bytes) ∙ decoded n ps named ∙ ap index (sym q)

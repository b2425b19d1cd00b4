-- The tree that an index stores: climbing from a link's own group reaches exactly the stored groups that hold the link.
use mathlib.Core.Path.{◌≡◌, refl, sym, ap, ◌∙◌, subst}
use mathlib.Core.Logic.{◌⊎◌, inl, inr, ◌≢◌}
use mathlib.Core.Bool.{Bool, true, false, cond, not, ◌&&◌, ◌||◌}
use mathlib.Core.List.{List, [], ◌∷◌}
use mathlib.Core.List.Memᴰ.{cases_cons as in-cons}
use mathlib.Core.List.Memᴰ.{head as here}
use mathlib.Core.List.Memᴰ.{tail as there}
use mathlib.Core.List.{Memᴰ as In}
use Prim.Native.Nat.{ℕ, zero, suc, ◌+◌, ◌≤◌, ◌<◌}
use native.Mathlib.Nat.{le_refl, le_trans}
use native.Mathlib.Omega.{arith}
use lib.Dec.{eqb, ltb, leb}
use lib.ListN.{length, get_or, length-map}
use borrow.Author.Tests.{eqb-true, eqb-false, leb-true, leb-false, le-leb, ltb-true, ltb-false, lt-ltb, not-true}
use Rattle.truss.specs.Limits.{min_level, no_group}
use Rattle.truss.specs.Lists.{filter, any, all, range, position, same_list}
use Rattle.truss.specs.Graph.{Link, Graph, link, link_at, link_number, member}
use Rattle.truss.specs.Chain.{Joined, one_triangle, and_on, StrongTriangle, AtLeast}
use Rattle.truss.specs.Forest.{same_component}
use Rattle.truss.specs.Group.{Group, labels_at, group_at, groups, contains, strictly_contains, group_number, parent, group_of}
use Rattle.truss.specs.Index.{LinkRow, GroupRow, index, link_row, group_row}
use Rattle.truss.specs.Stored.{row_at, group_row_at, IsNumber, Leads, TreeHolds}
use Rattle.laws.proofs.Proper.{Proper}
use Rattle.truss.specs.Stored.Leads.{here as arrived, up}
use Rattle.laws.proofs.Lists.{test, true_not_false, and_left, and_right, both, or_cases}
use Rattle.laws.proofs.Members.{filter_in, in_filter, range_length, number_lt, link_of_number, in_any, in_member, get_d_in, position_lt, position_passes}
use Rattle.laws.proofs.Peeling.{strength_at_least_2}
use Rattle.laws.proofs.Chains.{joined_first, at_least_strength}
use Rattle.laws.proofs.Connected.{same_joined, joined_same}
use Rattle.laws.proofs.Sets.{all_in, in_all, filter_sub_whole, filter_sub_length, contains_in, in_contains, same_list_eq, eq_same_list, map_range_at, map_at}
use Rattle.laws.proofs.Groups.{size, strength_at, group_at_eq, group_in_lem, in_group, group_self, group_down}
use Rattle.laws.proofs.Stored
use Rattle.laws.proofs.Stored.{no_such_group, group_count, stored, stored-distinct, stored-falling, stored_at, stored_number, stored_in, few_groups}

-- ---- chains at a lower k

pub strong_down : (G : Graph) (k k' : ℕ) (t : Rattle.truss.specs.Graph.Triangle) → k ≤ k' → StrongTriangle G k' t → StrongTriangle G k t
strong_down G k k' t l s = record {
  is_triangle = s.is_triangle;
  ab_strong = lower s.ab_strong;
  ac_strong = lower s.ac_strong;
  bc_strong = lower s.bc_strong;
}
  where
    lower : {e : Link} → AtLeast G k' e → AtLeast G k e
    lower x = (x.0, x.1, le_trans l x.2)

pub joined_down : (G : Graph) (k k' : ℕ) → k ≤ k' → {e f : Link} → Joined G k' e f → Joined G k e f
joined_down G k k' l (one_triangle t s he hf) = one_triangle t (strong_down G k k' t l s) he hf
joined_down G k k' l (and_on t s he hg rest) = and_on t (strong_down G k k' t l s) he hg (joined_down G k k' l rest)

-- ---- the smallest group that passes

smallest : (p : Group → Bool) (gs : List Group) → any p gs ≡ true
    → (o : Group) × In o gs × (p o ≡ true) × ((z : Group) → In z gs → p z ≡ true → length o.members ≤ length z.members)
unfolding any
smallest p [] c = absurd (true_not_false c refl)
smallest p (g ∷ gs) c = go (test (any p gs)) (test (p g)) (smallest p gs)
  where
    Least : List Group → Type 0
    Least xs = (o : Group) × In o xs × (p o ≡ true) × ((z : Group) → In z xs → p z ≡ true → length o.members ≤ length z.members)

    pair : p g ≡ true → Least gs → Least (g ∷ gs)
    pair d (o, mo, po, least) = pick (test (leb (length g.members) (length o.members)))
      where
        pick : (leb (length g.members) (length o.members) ≡ true) ⊎ (leb (length g.members) (length o.members) ≡ false) → Least (g ∷ gs)
        pick (inl e) = (g, here refl, d, λ z mz pz. at z pz (in-cons mz))
          where
            at : (z : Group) → p z ≡ true → (z ≡ g) ⊎ In z gs → length g.members ≤ length z.members
            at z pz (inl q) = rw q (le_refl (length g.members))
            at z pz (inr k) = le_trans (leb-true (length g.members) (length o.members) e) (least z k pz)
        pick (inr e) = (o, there mo, po, λ z mz pz. at z pz (in-cons mz))
          where
            at : (z : Group) → p z ≡ true → (z ≡ g) ⊎ In z gs → length o.members ≤ length z.members
            at z pz (inl q) = rw q (omega (arith, leb-false (length g.members) (length o.members) e))
            at z pz (inr k) = least z k pz

    skip : p g ≡ false → Least gs → Least (g ∷ gs)
    skip d (o, mo, po, least) = (o, there mo, po, λ z mz pz. at z pz (in-cons mz))
      where
        at : (z : Group) → p z ≡ true → (z ≡ g) ⊎ In z gs → length o.members ≤ length z.members
        at z pz (inl q) = absurd (true_not_false (ap p (sym q) ∙ pz) d)
        at z pz (inr k) = least z k pz

    only : any p gs ≡ false → p g ≡ true → Least (g ∷ gs)
    only e d = (g, here refl, d, λ z mz pz. at z pz (in-cons mz))
      where
        at : (z : Group) → p z ≡ true → (z ≡ g) ⊎ In z gs → length g.members ≤ length z.members
        at z pz (inl q) = rw q (le_refl (length g.members))
        at z pz (inr k) = absurd (true_not_false (in_any p gs k pz) e)

    go : (any p gs ≡ true) ⊎ (any p gs ≡ false) → (p g ≡ true) ⊎ (p g ≡ false) → (any p gs ≡ true → Least gs) → Least (g ∷ gs)
    go (inl e) (inl d) ih = pair d (ih e)
    go (inl e) (inr d) ih = skip d (ih e)
    go (inr e) (inl d) ih = only e d
    go (inr e) (inr d) ih = absurd (true_not_false c (rw (d, e)))

-- ---- numbers of groups

module _ (p : Group → Bool) (gs : List Group) where
  group_number_passes : length gs ≤ no_group → group_number p gs < length gs → p (get_or gs (group_number p gs) no_such_group) ≡ true
  unfolding group_number
  group_number_passes few l = go (test (ltb (position p gs) (length gs)))
    where
      go : (ltb (position p gs) (length gs) ≡ true) ⊎ (ltb (position p gs) (length gs) ≡ false) → p (get_or gs (group_number p gs) no_such_group) ≡ true
      go (inl c) = rw c (position_passes no_such_group p gs (ltb-true (position p gs) (length gs) c))
      go (inr c) = let l' : no_group < length gs = rw c at l in absurd (omega arith)

  group_number_lt : any p gs ≡ true → group_number p gs < length gs
  unfolding group_number
  group_number_lt h = let l = position_lt p gs h in rw (lt-ltb (position p gs) (length gs) l) l

  group_number_none : any p gs ≡ false → group_number p gs ≡ no_group
  unfolding group_number
  group_number_none h = go (test (ltb (position p gs) (length gs)))
    where
      go : (ltb (position p gs) (length gs) ≡ true) ⊎ (ltb (position p gs) (length gs) ≡ false) → cond (ltb (position p gs) (length gs)) (position p gs) no_group ≡ no_group
      go (inl c) =
          let l = ltb-true (position p gs) (length gs) c in
          absurd (true_not_false (in_any p gs (get_d_in no_such_group gs (position p gs) l) (position_passes no_such_group p gs l)) h)
      go (inr c) = rw c

module _ (G : Graph) (proper : Proper G) (fits : size G ≤ no_group) where
  few : group_count G ≤ no_group
  few = le_trans (few_groups G proper) fits

  -- ---- what the rows of the index say

  pub rows-length : length (index G).links ≡ size G
  unfolding index
  rows-length = length-map (range 0 (size G)) (link_row G (groups G)) ∙ range_length 0 (size G)

  pub row_at_lem : (i : ℕ) → i < size G → row_at (index G) i ≡ link_row G (groups G) i
  unfolding index
  row_at_lem i l = map_range_at (link_row G (groups G)) _ 0 (size G) i l ∙ ap (link_row G (groups G)) (omega arith)

  pub group_rows_length : length (index G).groups ≡ group_count G
  unfolding index
  group_rows_length = length-map (groups G) (group_row (groups G))

  pub group_row_at_lem : (g : ℕ) → g < group_count G → group_row_at (index G) g ≡ group_row (groups G) (stored G g)
  unfolding index
  group_row_at_lem g l = map_at (group_row (groups G)) no_such_group _ (groups G) g l

  -- ---- a link's own group

  pub own : ℕ → ℕ
  own i = (link_row G (groups G) i).group

  pub own_is : (i : ℕ) → i < size G → min_level ≤ strength_at G i → (own i < group_count G) × ((stored G (own i)).members ≡ group_at G (strength_at G i) i)
  unfolding own link_row group_of
  own_is i l s = (lt, same_list_eq _ _ (group_number_passes test_at (groups G) few lt))
    where
      test_at : Group → Bool
      test_at h = same_list h.members (group_at G (strength_at G i) i)

      there_is : (g : ℕ) × (g < group_count G) × ((stored G g).members ≡ group_at G (strength_at G i) i) × (strength_at G i ≤ (stored G g).strength)
      there_is = stored_number G (strength_at G i) i s l (le_refl (strength_at G i))

      lt : group_number test_at (groups G) < group_count G
      lt = group_number_lt test_at (groups G) (in_any test_at (groups G) (get_d_in no_such_group (groups G) there_is.0 there_is.1) (eq_same_list _ _ there_is.2))

  -- its strength is the link's
  pub own-strength : (i : ℕ) → i < size G → min_level ≤ strength_at G i → (stored G (own i)).strength ≡ strength_at G i
  own-strength i l s = at (stored_number G (strength_at G i) i s l (le_refl (strength_at G i)))
    where
      o : (own i < group_count G) × ((stored G (own i)).members ≡ group_at G (strength_at G i) i)
      o = own_is i l s

      at : (g : ℕ) × (g < group_count G) × ((stored G g).members ≡ group_at G (strength_at G i) i) × (strength_at G i ≤ (stored G g).strength) → (stored G (own i)).strength ≡ strength_at G i
      at (g, lg, q, big) =
          let same : g ≡ own i = stored-distinct G g (own i) lg o.0 (q ∙ sym o.1) in
          let e : (stored G g).strength ≡ (stored G (own i)).strength = ap (λ (x : ℕ). (stored G x).strength) same in
          let io : In i (stored G (own i)).members = rw o.1 (group_self G (strength_at G i) i l (le_refl (strength_at G i))) in
          omega (arith, big, e, (stored_in G (own i) o.0 io).1)

  -- every link has a group of its own strength: "no strong link carries FFFF"
  pub own_strong : (i : ℕ) → i < size G → min_level ≤ strength_at G i
  own_strong i l = strength_at_least_2 G (link_at G i) (in_member G.links (get_d_in (link 0 0) G.links i l))

  pub own_group_named : (i : ℕ) → i < size G → own i < group_count G
  own_group_named i l = (own_is i l (own_strong i l)).0

  -- ---- climbing

  leads_first : {g h : ℕ} → Leads (index G) g h → g < group_count G
  leads_first (arrived l) = rw group_rows_length at l
  leads_first (up l rest) = rw group_rows_length at l

  leads_last : {g h : ℕ} → Leads (index G) g h → h < group_count G
  leads_last (arrived l) = rw group_rows_length at l
  leads_last (up l rest) = leads_last rest

  -- a written parent that is a group strictly contains it, and is no larger than any other that does
  parent_test : ℕ → Group → Bool
  parent_test g h = strictly_contains h (stored G g) && all (λ o. not (strictly_contains o (stored G g)) || leb (length h.members) (length o.members)) (groups G)

  parent_is : (g : ℕ) → g < group_count G → (group_row_at (index G) g).parent ≡ group_number (parent_test g) (groups G)
  unfolding group_row parent parent_test
  parent_is g l = ap (λ (r : GroupRow). r.parent) (group_row_at_lem g l)

  parent-contains : (g : ℕ) → g < group_count G → group_number (parent_test g) (groups G) < group_count G
      → strictly_contains (stored G (group_number (parent_test g) (groups G))) (stored G g) ≡ true
  unfolding parent_test
  parent-contains g l lp = and_left _ _ (group_number_passes (parent_test g) (groups G) few lp)

  -- climbing leads only to groups with all of its links
  pub leads_holds : {g h : ℕ} → Leads (index G) g h → (i : ℕ) → In i (stored G g).members → In i (stored G h).members
  leads_holds (arrived l) i m = m
  leads_holds (up {g = g} l rest) i m =
      let lg : g < group_count G = rw group_rows_length at l in
      let q = parent_is g lg in
      let lp : group_number (parent_test g) (groups G) < group_count G = rw q at (leads_first rest) in
      let c = parent-contains g lg lp in
      leads_holds rest i (rw q (contains_in _ _ (and_left (contains (stored G (group_number (parent_test g) (groups G))).members (stored G g).members) _ c) m))

  -- ---- two stored groups that share a link

  module _ (g h i : ℕ) (lg : g < group_count G) (lh : h < group_count G) (ig : In i (stored G g).members) (ih : In i (stored G h).members) where
    as_part : (a : ℕ) → a < group_count G → In i (stored G a).members → (stored G a).members ≡ filter (same_component (labels_at G (stored G a).strength) i) (range 0 (size G))
    as_part a la m = let r = stored_in G a la m in r.2 ∙ group_at_eq G (stored G a).strength i r.1

    pg : ℕ → Bool
    pg = same_component (labels_at G (stored G g).strength) i

    ph : ℕ → Bool
    ph = same_component (labels_at G (stored G h).strength) i

    sub_test : ((j : ℕ) → In j (stored G g).members → In j (stored G h).members) → (j : ℕ) → In j (range 0 (size G)) → pg j ≡ true → ph j ≡ true
    unfolding pg ph
    sub_test sub j m t = (filter_in ph (range 0 (size G)) (rw (as_part h lh ih) at (sub j (rw (as_part g lg ig) (in_filter pg (range 0 (size G)) m t))))).1

    sub-length : ((j : ℕ) → In j (stored G g).members → In j (stored G h).members) → length (stored G g).members ≤ length (stored G h).members
    unfolding pg ph
    sub-length sub = rw (as_part g lg ig, as_part h lh ih) (filter_sub_length pg ph (range 0 (size G)) (sub_test sub))

    sub-whole : ((j : ℕ) → In j (stored G g).members → In j (stored G h).members) → length (stored G h).members ≤ length (stored G g).members
        → (stored G g).members ≡ (stored G h).members
    unfolding pg ph
    sub-whole sub l =
        as_part g lg ig ∙ filter_sub_whole pg ph (range 0 (size G)) (sub_test sub) (rw (as_part g lg ig, as_part h lh ih) at l) ∙ sym (as_part h lh ih)

    -- the stronger lies in the weaker
    nested : (stored G h).strength ≤ (stored G g).strength → (j : ℕ) → In j (stored G g).members → In j (stored G h).members
    nested l j m =
        let a = stored_in G g lg ig in
        let b = stored_in G h lh ih in
        rw b.2 (group_down G (stored G h).strength (stored G g).strength i l a.0 (rw a.2 at m))

  -- a group that strictly contains g has a smallest such group for a parent
  parent_found : (g h : ℕ) → g < group_count G → h < group_count G → strictly_contains (stored G h) (stored G g) ≡ true
      → (group_number (parent_test g) (groups G) < group_count G)
      × (length (stored G (group_number (parent_test g) (groups G))).members ≤ length (stored G h).members)
  unfolding parent_test
  parent_found g h lg lh c = (lt, at (or_cases _ _ (all_in below (groups G) (and_right (strictly_contains up_one (stored G g)) _ passes) mh)))
    where
      p : Group → Bool
      p o = strictly_contains o (stored G g)

      mh : In (stored G h) (groups G)
      mh = get_d_in no_such_group (groups G) h lh

      r : (o : Group) × In o (groups G) × (p o ≡ true) × ((z : Group) → In z (groups G) → p z ≡ true → length o.members ≤ length z.members)
      r = smallest p (groups G) (in_any p (groups G) mh c)

      other : (z : Group) → In z (groups G) → (not (p z) || leb (length r.0.members) (length z.members)) ≡ true
      other z m = go (test (p z))
        where
          go : (p z ≡ true) ⊎ (p z ≡ false) → (not (p z) || leb (length r.0.members) (length z.members)) ≡ true
          go (inl d) = rw d (le-leb (length r.0.members) (length z.members) (r.3 z m d))
          go (inr d) = rw d

      lt : group_number (parent_test g) (groups G) < group_count G
      lt = group_number_lt (parent_test g) (groups G) (in_any (parent_test g) (groups G) r.1 (both r.2 (in_all _ (groups G) other)))

      up_one : Group
      up_one = stored G (group_number (parent_test g) (groups G))

      below : Group → Bool
      below o = not (strictly_contains o (stored G g)) || leb (length up_one.members) (length o.members)

      passes : parent_test g up_one ≡ true
      passes = group_number_passes (parent_test g) (groups G) few lt

      at : (not (strictly_contains (stored G h) (stored G g)) ≡ true) ⊎ (leb (length up_one.members) (length (stored G h).members) ≡ true)
          → length up_one.members ≤ length (stored G h).members
      at (inl d) = absurd (true_not_false c (not-true (strictly_contains (stored G h) (stored G g)) d))
      at (inr d) = leb-true (length up_one.members) (length (stored G h).members) d

  -- climbing leads from a group to each stored group with all of its links
  climb : (d g h i : ℕ) → g < group_count G → h < group_count G → In i (stored G g).members → In i (stored G h).members
      → ((j : ℕ) → In j (stored G g).members → In j (stored G h).members) → length (stored G h).members ≤ length (stored G g).members + d → Leads (index G) g h
  climb zero g h i lg lh ig ih sub l =
      subst (λ (x : ℕ). Leads (index G) g x) (stored-distinct G g h lg lh (sub-whole g h i lg lh ig ih sub (omega arith))) (arrived (rw group_rows_length lg))
  climb (suc d) g h i lg lh ig ih sub l =
      go (test (leb (length (stored G h).members) (length (stored G g).members))) (λ p lp ip sub' l'. climb d p h i lp lh ip ih sub' l')
    where
      p : ℕ
      p = group_number (parent_test g) (groups G)

      go : (leb (length (stored G h).members) (length (stored G g).members) ≡ true) ⊎ (leb (length (stored G h).members) (length (stored G g).members) ≡ false)
          → ((q : ℕ) → q < group_count G → In i (stored G q).members → ((j : ℕ) → In j (stored G q).members → In j (stored G h).members)
          → length (stored G h).members ≤ length (stored G q).members + d → Leads (index G) q h)
          → Leads (index G) g h
      go (inl c) again =
          let short = leb-true (length (stored G h).members) (length (stored G g).members) c in
          subst (λ (x : ℕ). Leads (index G) g x) (stored-distinct G g h lg lh (sub-whole g h i lg lh ig ih sub short)) (arrived (rw group_rows_length lg))
      go (inr c) again = up {g = g} {h = h} (rw group_rows_length lg) (rw (parent_is g lg) (again p found.0 ip inside longer))
        where
          short : length (stored G g).members < length (stored G h).members
          short = leb-false (length (stored G h).members) (length (stored G g).members) c

          not_back : contains (stored G g).members (stored G h).members ≡ false
          not_back = at (test (contains (stored G g).members (stored G h).members))
            where
              at : (contains (stored G g).members (stored G h).members ≡ true) ⊎ (contains (stored G g).members (stored G h).members ≡ false)
                  → contains (stored G g).members (stored G h).members ≡ false
              at (inl t) = absurd (omega (arith, short, sub-length h g i lh lg ih ig (λ j m. contains_in (stored G g).members (stored G h).members t m)))
              at (inr t) = t

          found : (p < group_count G) × (length (stored G p).members ≤ length (stored G h).members)
          found = parent_found g h lg lh (both (in_contains (stored G h).members (stored G g).members sub) (rw not_back))

          strict : strictly_contains (stored G p) (stored G g) ≡ true
          strict = parent-contains g lg found.0

          up_in : (j : ℕ) → In j (stored G g).members → In j (stored G p).members
          up_in j m = contains_in (stored G p).members (stored G g).members (and_left (contains (stored G p).members (stored G g).members) _ strict) m

          ip : In i (stored G p).members
          ip = up_in i ig

          not_down : contains (stored G g).members (stored G p).members ≡ false
          not_down = not-true (contains (stored G g).members (stored G p).members) (and_right (contains (stored G p).members (stored G g).members) _ strict)

          grows : length (stored G g).members < length (stored G p).members
          grows = at (test (leb (length (stored G p).members) (length (stored G g).members)))
            where
              at : (leb (length (stored G p).members) (length (stored G g).members) ≡ true) ⊎ (leb (length (stored G p).members) (length (stored G g).members) ≡ false)
                  → length (stored G g).members < length (stored G p).members
              at (inl t) =
                  let same = sub-whole g p i lg found.0 ig ip up_in (leb-true (length (stored G p).members) (length (stored G g).members) t) in
                  absurd (true_not_false (in_contains (stored G g).members (stored G p).members (λ j m. rw same m)) not_down)
              at (inr t) = leb-false (length (stored G p).members) (length (stored G g).members) t

          inside : (j : ℕ) → In j (stored G p).members → In j (stored G h).members
          inside j m = at (test (leb (stored G h).strength (stored G p).strength))
            where
              at : (leb (stored G h).strength (stored G p).strength ≡ true) ⊎ (leb (stored G h).strength (stored G p).strength ≡ false) → In j (stored G h).members
              at (inl t) = nested p h i found.0 lh ip ih (leb-true (stored G h).strength (stored G p).strength t) j m
              at (inr t) =
                  let weaker : (stored G p).strength ≤ (stored G h).strength = omega (arith, leb-false (stored G h).strength (stored G p).strength t) in
                  rw (sub-whole h p i lh found.0 ih ip (nested h p i lh found.0 ih ip weaker) found.1) m

          longer : length (stored G h).members ≤ length (stored G p).members + d
          longer = omega (arith, l, grows)

  -- ---- chains and the stored tree

  pub number_is : (e : Link) (i : ℕ) → IsNumber (index G) e i → (i < size G) × (link_at G i ≡ e) × ((row_at (index G) i).group ≡ own i)
  unfolding link_row own
  number_is e i x =
      let l : i < size G = rw rows-length at x.in_range in
      let r = row_at_lem i l in
      let a : (link_at G i).lo ≡ e.lo = ap (λ (y : LinkRow). y.lo) (sym r) ∙ x.is_lo in
      let b : (link_at G i).hi ≡ e.hi = ap (λ (y : LinkRow). y.hi) (sym r) ∙ x.is_hi in
      (l, (λ t. record { lo = a t; hi = b t }), ap (λ (y : LinkRow). y.group) r)

  pub is_number : (e : Link) → member G.links e ≡ true → IsNumber (index G) e (link_number G e)
  unfolding link_row
  is_number e m =
      let l = number_lt G e m in
      let r = row_at_lem (link_number G e) l in
      let q = link_of_number G e m in
      record { in_range = rw rows-length l; is_lo = ap (λ (y : LinkRow). y.lo) r ∙ ap (λ (y : Link). y.lo) q; is_hi = ap (λ (y : LinkRow). y.hi) r ∙ ap (λ (y : Link). y.hi) q }

  -- climbing from a link's own group leads to each stored group that holds the link
  pub holds_leads : (i : ℕ) → i < size G → (h : ℕ) → h < group_count G → In i (stored G h).members → Leads (index G) (row_at (index G) i).group h
  unfolding own
  holds_leads i li h lh ih =
      let w = stored_in G h lh ih in
      let o = own_is i li (le_trans (stored_at G h lh).level w.1) in
      let io : In i (stored G (own i)).members = rw o.1 (group_self G (strength_at G i) i li (le_refl (strength_at G i))) in
      let inside : (a : ℕ) → In a (stored G (own i)).members → In a (stored G h).members =
      λ a m. rw w.2 (group_down G (stored G h).strength (strength_at G i) i w.1 li (rw o.1 at m)) in
      rw (row_at_lem i li) (climb (length (stored G h).members) (own i) h i o.0 lh io ih inside (omega arith))

  -- and to no other
  pub own-holds : (i h : ℕ) → i < size G → Leads (index G) (own i) h → In i (stored G h).members
  own-holds i h l leads =
      let s = own_strong i l in
      leads_holds leads i (rw (own_is i l s).1 (group_self G (strength_at G i) i l (le_refl (strength_at G i))))

  pub tree_joined : (k : ℕ) (e f : Link) → e ≢ f → TreeHolds (index G) k e f → Joined G k e f
  unfolding group_row
  tree_joined k e f ne x = go (same_joined G kh i j a.0 b.0 (group_in_lem G kh i mj).2)
    where
      i : ℕ
      i = x.i

      j : ℕ
      j = x.j

      h : ℕ
      h = x.group

      a : (i < size G) × (link_at G i ≡ e) × ((row_at (index G) i).group ≡ own i)
      a = number_is e i x.number_e

      b : (j < size G) × (link_at G j ≡ f) × ((row_at (index G) j).group ≡ own j)
      b = number_is f j x.number_f

      lh : h < group_count G
      lh = leads_last x.holds_e

      kh : ℕ
      kh = (stored G h).strength

      ih : In i (stored G h).members
      ih = own-holds i h a.0 (rw a.2 at x.holds_e)

      jh : In j (stored G h).members
      jh = own-holds j h b.0 (rw b.2 at x.holds_f)

      mj : In j (group_at G kh i)
      mj = rw (stored_in G h lh ih).2 at jh

      big : k ≤ kh
      big = rw (group_row_at_lem h lh) at x.strong

      go : (i ≡ j) ⊎ Joined G kh (link_at G i) (link_at G j) → Joined G k e f
      go (inl q) = absurd (ne (sym a.1 ∙ ap (link_at G) q ∙ b.1))
      go (inr c) = joined_down G k kh big (rw (a.1, b.1) at c)

  pub joined_tree : (k : ℕ) (e f : Link) → min_level ≤ k → member G.links e ≡ true → member G.links f ≡ true → Joined G k e f → TreeHolds (index G) k e f
  unfolding group_row own
  joined_tree k e f lk me mf c = at (stored_number G k (link_number G e) lk li si)
    where
      i : ℕ
      i = link_number G e

      j : ℕ
      j = link_number G f

      li : i < size G
      li = number_lt G e me

      lj : j < size G
      lj = number_lt G f mf

      si : k ≤ strength_at G i
      si = rw (link_of_number G e me) (at_least_strength G k e (joined_first G k c))

      at : (g : ℕ) × (g < group_count G) × ((stored G g).members ≡ group_at G k i) × (k ≤ (stored G g).strength) → TreeHolds (index G) k e f
      at (h, lh, q, big) = record {
        i = i;
        j = j;
        number_e = is_number e me;
        number_f = is_number f mf;
        group = h;
        strong = rw (group_row_at_lem h lh) big;
        holds_e = holds_leads i li h lh (rw q (group_self G k i li si));
        holds_f = holds_leads j lj h lh (rw q (in_group G k i si lj (joined_same G k proper c)));
      }

  -- ---- for a loop or a recursion that climbs

  -- a written parent that is a group has a larger number
  pub parent_rises : (g : ℕ) → g < group_count G → (group_row_at (index G) g).parent < group_count G → g < (group_row_at (index G) g).parent
  parent_rises g lg l = rw (parent_is g lg) (go (test (ltb g p)))
    where
      p : ℕ
      p = group_number (parent_test g) (groups G)

      lp : p < group_count G
      lp = rw (parent_is g lg) at l

      strict : strictly_contains (stored G p) (stored G g) ≡ true
      strict = parent-contains g lg lp

      s : Stored.Stored G (stored G g)
      s = stored_at G g lg

      ig : In s.least (stored G g).members
      ig = rw s.members_eq s.least_in

      ip : In s.least (stored G p).members
      ip = contains_in (stored G p).members (stored G g).members (and_left (contains (stored G p).members (stored G g).members) _ strict) ig

      weaker : (stored G g).strength ≤ (stored G p).strength → ⊥
      weaker w =
          true_not_false (in_contains (stored G g).members (stored G p).members (nested p g s.least lp lg ip ig w))
          (not-true (contains (stored G g).members (stored G p).members) (and_right (contains (stored G p).members (stored G g).members) _ strict))

      go : (ltb g p ≡ true) ⊎ (ltb g p ≡ false) → g < p
      go (inl c) = ltb-true g p c
      go (inr c) = at (test (eqb p g))
        where
          at : (eqb p g ≡ true) ⊎ (eqb p g ≡ false) → g < p
          at (inl e) = absurd (weaker (same (eqb-true p g e)))
            where
              same : p ≡ g → (stored G g).strength ≤ (stored G p).strength
              same q = rw q (le_refl (stored G g).strength)
          at (inr e) = let d : p ≢ g = eqb-false p g e in absurd (weaker (stored-falling G p g (omega (arith, ltb-false g p c)) lg))

  -- The last group on the way up whose strength is at least k is the group at k: what a climb to the group at k ends with.
  pub climb_end : (h i k : ℕ) → h < group_count G → In i (stored G h).members → min_level ≤ k → k ≤ (stored G h).strength
      → ((group_row_at (index G) h).parent < group_count G → (stored G (group_row_at (index G) h).parent).strength < k) → (stored G h).members ≡ group_at G k i
  climb_end h i k lh ih lk big top = from (stored_number G k i lk w.0 si)
    where
      w : (i < size G) × ((stored G h).strength ≤ strength_at G i) × ((stored G h).members ≡ group_at G (stored G h).strength i)
      w = stored_in G h lh ih

      si : k ≤ strength_at G i
      si = omega (arith, big, w.1)

      from : (g : ℕ) × (g < group_count G) × ((stored G g).members ≡ group_at G k i) × (k ≤ (stored G g).strength) → (stored G h).members ≡ group_at G k i
      from (g, lg, q, kg) = go (test (leb (length (stored G g).members) (length (stored G h).members)))
        where
          ig : In i (stored G g).members
          ig = rw q (group_self G k i w.0 si)

          sub : (j : ℕ) → In j (stored G h).members → In j (stored G g).members
          sub j m = rw q (group_down G k (stored G h).strength i big w.0 (rw w.2 at m))

          go : (leb (length (stored G g).members) (length (stored G h).members) ≡ true) ⊎ (leb (length (stored G g).members) (length (stored G h).members) ≡ false)
              → (stored G h).members ≡ group_at G k i
          go (inl c) = sub-whole h g i lh lg ih ig sub (leb-true (length (stored G g).members) (length (stored G h).members) c) ∙ q
          go (inr c) = absurd (clash (top' found.0))
            where
              not_back : contains (stored G h).members (stored G g).members ≡ false
              not_back = at (test (contains (stored G h).members (stored G g).members))
                where
                  at : (contains (stored G h).members (stored G g).members ≡ true) ⊎ (contains (stored G h).members (stored G g).members ≡ false)
                      → contains (stored G h).members (stored G g).members ≡ false
                  at (inl t) = absurd (omega (
                    arith,
                    leb-false (length (stored G g).members) (length (stored G h).members) c,
                    sub-length g h i lg lh ig ih (λ j m. contains_in (stored G h).members (stored G g).members t m),
                  ))
                  at (inr t) = t

              p : ℕ
              p = group_number (parent_test h) (groups G)

              found : (p < group_count G) × (length (stored G p).members ≤ length (stored G g).members)
              found = parent_found h g lh lg (both (in_contains (stored G g).members (stored G h).members sub) (rw not_back))

              top' : p < group_count G → (stored G p).strength < k
              top' l = rw (parent_is h lh) at (top (rw (parent_is h lh) l))

              strict : strictly_contains (stored G p) (stored G h) ≡ true
              strict = parent-contains h lh found.0

              ip : In i (stored G p).members
              ip = contains_in (stored G p).members (stored G h).members (and_left (contains (stored G p).members (stored G h).members) _ strict) ih

              clash : (stored G p).strength < k → ⊥
              clash low =
                  let up : (j : ℕ) → In j (stored G g).members → In j (stored G p).members = nested g p i lg found.0 ig ip (omega (arith, low, kg)) in
                  let same : g ≡ p = stored-distinct G g p lg found.0 (sub-whole g p i lg found.0 ig ip up found.1) in
                  let t : (stored G g).strength ≡ (stored G p).strength = ap (λ (x : ℕ). (stored G x).strength) same in
                  omega (arith, low, kg, t)

  -- ---- for a program that finds parents level by level

  -- what strictly contains a stored group is what shares a link with it and is weaker
  container_weaker : (g o i : ℕ) → g < group_count G → o < group_count G → In i (stored G g).members → strictly_contains (stored G o) (stored G g) ≡ true
      → In i (stored G o).members × ((stored G o).strength < (stored G g).strength)
  container_weaker g o i lg lo ig strict = (io, go (test (leb (stored G g).strength (stored G o).strength)))
    where
      io : In i (stored G o).members
      io = contains_in (stored G o).members (stored G g).members (and_left (contains (stored G o).members (stored G g).members) _ strict) ig

      go : (leb (stored G g).strength (stored G o).strength ≡ true) ⊎ (leb (stored G g).strength (stored G o).strength ≡ false) → (stored G o).strength < (stored G g).strength
      go (inl c) =
          absurd (true_not_false (in_contains (stored G g).members (stored G o).members (nested o g i lo lg io ig (leb-true (stored G g).strength (stored G o).strength c)))
          (not-true (contains (stored G g).members (stored G o).members) (and_right (contains (stored G o).members (stored G g).members) _ strict)))
      go (inr c) = leb-false (stored G g).strength (stored G o).strength c

  weaker_container : (g o i : ℕ) → g < group_count G → o < group_count G → In i (stored G g).members → In i (stored G o).members → (stored G o).strength < (stored G g).strength
      → strictly_contains (stored G o) (stored G g) ≡ true
  weaker_container g o i lg lo ig io less = both (in_contains (stored G o).members (stored G g).members sub) (go (test (contains (stored G g).members (stored G o).members)))
    where
      sub : (j : ℕ) → In j (stored G g).members → In j (stored G o).members
      sub = nested g o i lg lo ig io (omega (arith, less))

      go : (contains (stored G g).members (stored G o).members ≡ true) ⊎ (contains (stored G g).members (stored G o).members ≡ false)
          → not (contains (stored G g).members (stored G o).members) ≡ true
      go (inl c) =
          let same : g ≡ o = stored-distinct G g o lg lo (sub-whole g o i lg lo ig io sub
          (sub-length o g i lo lg io ig (λ j m. contains_in (stored G g).members (stored G o).members c m))) in
          let t : (stored G g).strength ≡ (stored G o).strength = ap (λ (x : ℕ). (stored G x).strength) same in
          absurd (omega (arith, less, t))
      go (inr c) = rw c

  -- the parent is the strongest weaker stored group that shares a link
  pub parent-next : (g h i : ℕ) → g < group_count G → h < group_count G → In i (stored G g).members → In i (stored G h).members
      → (stored G h).strength < (stored G g).strength
      → ((o : ℕ) → o < group_count G → In i (stored G o).members → (stored G o).strength < (stored G g).strength → (stored G o).strength ≤ (stored G h).strength)
      → (group_row_at (index G) g).parent ≡ h
  parent-next g h i lg lh ig ih less next =
      parent_is g lg ∙ sym (stored-distinct G h p lh found.0 (sub-whole h p i lh found.0 ih w.0 (nested h p i lh found.0 ih w.0 (next p found.0 w.0 w.1)) found.1))
    where
      p : ℕ
      p = group_number (parent_test g) (groups G)

      found : (p < group_count G) × (length (stored G p).members ≤ length (stored G h).members)
      found = parent_found g h lg lh (weaker_container g h i lg lh ig ih less)

      w : In i (stored G p).members × ((stored G p).strength < (stored G g).strength)
      w = container_weaker g p i lg found.0 ig (parent-contains g lg found.0)

  -- and there is none where no weaker one shares a link
  pub parent-none : (g i : ℕ) → g < group_count G → In i (stored G g).members
      → ((o : ℕ) → o < group_count G → In i (stored G o).members → (stored G o).strength < (stored G g).strength → ⊥) → (group_row_at (index G) g).parent ≡ no_group
  parent-none g i lg ig alone = parent_is g lg ∙ go (test (any (parent_test g) (groups G)))
    where
      go : (any (parent_test g) (groups G) ≡ true) ⊎ (any (parent_test g) (groups G) ≡ false) → group_number (parent_test g) (groups G) ≡ no_group
      go (inl c) =
          let l = group_number_lt (parent_test g) (groups G) c in
          let w = container_weaker g (group_number (parent_test g) (groups G)) i lg l ig (parent-contains g lg l) in
          absurd (alone (group_number (parent_test g) (groups G)) l w.0 w.1)
      go (inr c) = group_number_none (parent_test g) (groups G) c

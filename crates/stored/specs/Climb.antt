-- The climb from a group up through parents to the group at k, and the group at k with a link. Assumes nothing.
use Rattle.std.specs.Prelude.{◌≡◌, ◌⊎◌, ◌≢◌, Bool, true, false, ℕ, ◌-◌, ◌≤◌, ◌<◌, ltb}
use Rattle.std.proofs.Math.Path.{refl, sym, ap, subst}
use Rattle.std.proofs.Common.{◌∙◌, inl, inr, le_refl, arith}
use Rattle.std.proofs.Math.Bool.{cond}
use mathlib.Core.List.{List, []}
use mathlib.Core.List.Memᴰ.{not-nil as in-nil}
use mathlib.Core.List.{Memᴰ as In}
use Rattle.std.proofs.Math.ListN.{length}
use borrow.Author.Tests.{lt-ltb, ltb-true}
use Rattle.truss.specs.Limits.{min_level, no_group}
use Rattle.truss.specs.Lists.{position, same_list}
use Rattle.truss.specs.Graph.{Graph}
use Rattle.truss.specs.Group.{Group, group_number, group_at, groups, group_of}
use Rattle.truss.specs.Index.{index}
use Rattle.truss.specs.Stored.{Leads, up}
use Rattle.truss.specs.Stored.{here as arrived}
use Rattle.laws.proofs.Lists.{test}
use Rattle.laws.proofs.Numbers.{less_or_not}
use Rattle.laws.proofs.Members.{position_lt, position_passes, in_any, get_d_in}
use Rattle.laws.proofs.Sets.{same_list_eq, eq_same_list}
use Rattle.laws.proofs.Proper.{Proper}
use Rattle.laws.proofs.Groups.{size, strength_at, group_at-none, group_self, group_strong, group_rebase}
use Rattle.laws.proofs.Stored.{group_count, no_such_group, stored, stored_at, stored-distinct, stored_number}
use Rattle.laws.proofs.Tree.{group_rows_length, leads_holds, parent_rises, climb_end, own_is, own-strength}
use Rattle.stored.specs.Rows.{graph_in, IsIndex, GroupsAt, own_group, parent_of, proper, fits_groups, own_same, parent_cases, few, few_links}

-- ---- up through parents

-- what the climb asks: a group of strength at least k
pub record ClimbAsks (b : List ℕ) (at count k g : ℕ) : Type 0 where
  pub groups_at_lem : GroupsAt b at
  pub groups : group_count (graph_in b) ≡ count
  pub level : min_level ≤ k
  pub in_range : g < count
  pub strong : k ≤ (stored (graph_in b) g).strength

-- what it gives: the group at k with any link of g
pub record Climbed (G : Graph) (k g r : ℕ) : Type 0 where
  pub in_range : r < group_count G
  pub members : (i : ℕ) → In i (stored G g).members → (stored G r).members ≡ group_at G k i

module _ {b : List ℕ} {at count k g : ℕ} (A : ClimbAsks b at count k g) where
  abbrev G : Graph
  G = graph_in b

  I : IsIndex b
  I = A.groups_at_lem.is_index

  lg : g < group_count G
  lg = omega (arith, A.in_range, A.groups)

  -- no parent
  pub climb_top : {p : ℕ} → p ≡ parent_of G g → p ≡ no_group → Climbed G k g g
  climb_top q e = record {
    in_range = lg;
    members = λ i m. climb_end G (proper I) (fits_groups I) g i k lg m A.level A.strong (λ l. absurd (omega (arith, l, q, e, few I, few_links I)));
  }

  -- a weaker parent
  pub climb_weak : {p s : ℕ} → p ≡ parent_of G g → s ≡ (stored G p).strength → s < k → Climbed G k g g
  climb_weak {p} {s} q e w = record {
    in_range = lg;
    members = λ i m. climb_end G (proper I) (fits_groups I) g i k lg m A.level A.strong (λ l. omega (arith, w, e ∙ ap (λ (x : ℕ). (stored G x).strength) q));
  }

  pub parent_in : {p : ℕ} → p ≡ parent_of G g → p ≢ no_group → p < group_count G
  parent_in {p} q ne = go (parent_cases I g lg)
    where
      go : (parent_of G g < group_count G) ⊎ (parent_of G g ≡ no_group) → p < group_count G
      go (inl l) = omega (arith, l, q)
      go (inr e) = absurd (ne (q ∙ e))

  -- the climb goes on from the parent
  pub climb_on : {p s : ℕ} → p ≡ parent_of G g → p ≢ no_group → s ≡ (stored G p).strength → k ≤ s → ClimbAsks b at count k p
  climb_on q ne e w = record { groups_at_lem = A.groups_at_lem; groups = A.groups; level = A.level; in_range = omega (arith, parent_in q ne, A.groups); strong = omega (arith, w, e) }

  pub climb_falls : {p : ℕ} → p ≡ parent_of G g → p ≢ no_group → count - p < count - g
  climb_falls {p} q ne =
      let l = parent_in q ne in
      let r : g < parent_of G g = parent_rises G (proper I) (fits_groups I) g lg (omega (arith, l, q)) in
      omega (arith, l, r, q, A.groups)

  pub climbed_on : {p r : ℕ} → p ≡ parent_of G g → p ≢ no_group → Climbed G k p r → Climbed G k g r
  climbed_on {p} {r} q ne C = record {
    in_range = C.in_range;
    members = λ i m. C.members i (leads_holds G (proper I) (fits_groups I) leads i m);
  }
    where
      rows : length (index G).groups ≡ group_count G
      rows = group_rows_length G (proper I) (fits_groups I)

      leads : Leads (index G) g p
      leads = up {g = g} (omega (arith, lg, rows)) (subst (λ (x : ℕ). Leads (index G) x p) q (arrived (omega (arith, parent_in q ne, rows))))

-- ---- the number of the group at k with a link

module _ (G : Graph) (is_proper : Proper G) (k i : ℕ) (level : min_level ≤ k) (li : i < size G) where
  is_it : Group → Bool
  is_it h = same_list h.members (group_at G k i)

  in_it : {r : ℕ} → r < group_count G → (stored G r).members ≡ group_at G k i → group_of G (groups G) k i ≡ r
  unfolding group_of group_number is_it
  in_it {r} l q = rw (lt-ltb (position is_it (groups G)) (length (groups G)) lt) (stored-distinct G (position is_it (groups G)) r lt l (same_list_eq _ _ (position_passes no_such_group is_it (groups G) lt) ∙ sym q))
    where
      lt : position is_it (groups G) < length (groups G)
      lt = position_lt is_it (groups G) (in_any is_it (groups G) (get_d_in no_such_group (groups G) r l) (eq_same_list _ _ q))

  -- at its strength or below there is one
  pub group_of_strong : k ≤ strength_at G i → (group_of G (groups G) k i < group_count G) × ((stored G (group_of G (groups G) k i)).members ≡ group_at G k i)
  group_of_strong s =
      let r = stored_number G k i level li s in
      let e = in_it r.1 r.2 in
      (rw e r.1, rw e r.2)

  -- above it there is none
  pub group_of_weak : strength_at G i < k → group_of G (groups G) k i ≡ no_group
  unfolding group_of group_number is_it
  group_of_weak w = go (test (ltb (position is_it (groups G)) (length (groups G))))
    where
      go : (ltb (position is_it (groups G)) (length (groups G)) ≡ true) ⊎ (ltb (position is_it (groups G)) (length (groups G)) ≡ false)
          → cond (ltb (position is_it (groups G)) (length (groups G))) (position is_it (groups G)) no_group ≡ no_group
      go (inl c) =
          let l = ltb-true (position is_it (groups G)) (length (groups G)) c in
          let s = stored_at G (position is_it (groups G)) l in
          let e : (stored G (position is_it (groups G))).members ≡ [] = same_list_eq _ _ (position_passes no_such_group is_it (groups G) l) ∙ group_at-none G k i w in
          let m : In s.least (stored G (position is_it (groups G))).members = subst (In s.least) (sym s.members_eq) s.least_in in
          absurd (in-nil (subst (In s.least) e m))
      go (inr c) = rw c refl

  -- some number has these links: it is the number
  pub group_of_is : {r : ℕ} → r < group_count G → (stored G r).members ≡ group_at G k i → r ≡ group_of G (groups G) k i
  group_of_is l q = sym (in_it l q)

-- links with one number are in one group
module _ (G : Graph) (is_proper : Proper G) (fits : size G ≤ no_group) (k i j : ℕ) (level : min_level ≤ k) (li : i < size G) (lj : j < size G) where
  pub same_group : In j (group_at G k i) → group_of G (groups G) k j ≡ group_of G (groups G) k i
  unfolding group_of
  same_group m = ap (λ (x : List ℕ). group_number (λ (h : Group). same_list h.members x) (groups G)) (group_rebase G k i li m)

  pub group_some : In j (group_at G k i) → group_of G (groups G) k i ≢ no_group
  group_some m e = omega (arith, e, (group_of_strong G is_proper k i level li (group_strong G k i m)).0, Rattle.laws.proofs.Stored.few_groups G is_proper, fits)

  pub group_same : group_of G (groups G) k j ≡ group_of G (groups G) k i → group_of G (groups G) k i ≢ no_group → In j (group_at G k i)
  group_same q ne = go (less_or_not (strength_at G i) k) (less_or_not (strength_at G j) k)
    where
      go : (strength_at G i < k) ⊎ (k ≤ strength_at G i) → (strength_at G j < k) ⊎ (k ≤ strength_at G j) → In j (group_at G k i)
      go (inl w) y = absurd (ne (group_of_weak G is_proper k i level li w))
      go (inr s) (inl w) = absurd (ne (sym q ∙ group_of_weak G is_proper k j level lj w))
      go (inr s) (inr t) =
          let a = (group_of_strong G is_proper k i level li s).1 in
          let c = (group_of_strong G is_proper k j level lj t).1 in
          subst (In j) (sym c ∙ ap (λ (x : ℕ). (stored G x).members) q ∙ a) (group_self G k j lj t)

-- ---- from a link's own group

module _ {b : List ℕ} {at count k i : ℕ} (S : GroupsAt b at) (groups_are : group_count (graph_in b) ≡ count) (level : min_level ≤ k) (li : i < size (graph_in b)) where
  J : IsIndex b
  J = S.is_index

  pub own_weak : {s : ℕ} → s ≡ strength_at (graph_in b) i → s < k → no_group ≡ group_of (graph_in b) (groups (graph_in b)) k i
  own_weak q w = sym (group_of_weak (graph_in b) (proper J) k i level li (omega (arith, q, w)))

  module _ {s g : ℕ} (q : s ≡ strength_at (graph_in b) i) (w : k ≤ s) (own-g : g ≡ own_group (graph_in b) i) where
    strong : min_level ≤ strength_at (graph_in b) i
    strong = omega (arith, q, w, level)

    has : (g < group_count (graph_in b)) × ((stored (graph_in b) g).members ≡ group_at (graph_in b) (strength_at (graph_in b) i) i)
    has = let o = own_is (graph_in b) (proper J) (fits_groups J) i li strong in let e = own-g ∙ own_same J i li in (rw e o.0, rw e o.1)

    pub own_asks : ClimbAsks b at count k g
    own_asks = record {
      groups_at_lem = S;
      groups = groups_are;
      level = level;
      in_range = omega (arith, has.0, groups_are);
      strong = omega (arith, own-strength (graph_in b) (proper J) (fits_groups J) i li strong, ap (λ (x : ℕ). (stored (graph_in b) x).strength) (own-g ∙ own_same J i li), q, w);
    }

    pub own_climbed : {r : ℕ} → Climbed (graph_in b) k g r → r ≡ group_of (graph_in b) (groups (graph_in b)) k i
    own_climbed C =
        group_of_is (graph_in b) (proper J) k i level li C.in_range
        (C.members i (subst (In i) (sym has.1) (group_self (graph_in b) (strength_at (graph_in b) i) i li (le_refl (strength_at (graph_in b) i)))))

-- The executable groups and answers mean what the relations say.
use mathlib.Core.Path.{◌≡◌, refl, sym, ap, ◌∙◌, subst}
use mathlib.Core.Logic.{◌⊎◌, inl, inr, ◌↔◌}
use mathlib.Core.Bool.{Bool, true, false, ◌&&◌}
use mathlib.Core.List.{Memᴰ as In}
use Prim.Native.Nat.{ℕ, ◌≤◌, ◌<◌, min}
use native.Mathlib.Nat.{le_trans}
use native.Mathlib.Omega.{arith}
use lib.Dec.{eqb, leb}
use borrow.Author.Tests.{leb-true, leb-false, le-leb, eq-eqb}
use Rattle.truss.specs.Limits.{min_level}
use Rattle.truss.specs.Lists.{any}
use Rattle.truss.specs.Graph.{Link, Graph, Triangle, Has, is_ab, is_ac, is_bc, side_ab, side_ac, side_bc, link_at, link_number, member}
use Rattle.truss.specs.Strength.{strength, strength_bound, weight}
use Rattle.truss.specs.Chain.{Joined, InGroup}
use Rattle.truss.specs.Group.{group_at, labels_at}
use Rattle.truss.specs.Question.{joined_up_to}
use Rattle.laws.proofs.Proper.{Proper}
use Rattle.laws.proofs.Lists.{test, both, largest-max, largest_passes, and_left, and_right}
use Rattle.laws.proofs.Members.{get_d_in, in_member, in_any, number_lt, link_of_number}
use Rattle.laws.proofs.Peeling.{strength_at_most}
use Rattle.laws.proofs.Chains.{strength_at_least, at_least_strength}
use Rattle.laws.proofs.Components.{Same}
use Rattle.laws.proofs.Connected.{same_joined, joined_same}
use Rattle.laws.proofs.Groups.{size, strength_at, group_in_lem, in_group, group_self, group_strong}
use Rattle.laws.proofs.Stored.{group_count, stored, stored_number, stored-distinct}
use Rattle.laws.proofs.Sets.{any_number}

-- a triangle of weight w has a link of strength exactly w
pub weight_exact : (G : Graph) (t : Triangle) → (e : Link) × Has t e × (strength G e ≡ weight G t)
unfolding weight
weight_exact G t = go (test (leb (strength G (side_ab t)) (min (strength G (side_ac t)) (strength G (side_bc t))))) (test (leb (strength G (side_ac t)) (strength G (side_bc t))))
  where
    a : ℕ
    a = strength G (side_ab t)

    b : ℕ
    b = strength G (side_ac t)

    c : ℕ
    c = strength G (side_bc t)

    go : (leb a (min b c) ≡ true) ⊎ (leb a (min b c) ≡ false) → (leb b c ≡ true) ⊎ (leb b c ≡ false) → (e : Link) × Has t e × (strength G e ≡ weight G t)
    go (inl p) q = (side_ab t, is_ab refl, omega (arith, leb-true a (min b c) p))
    go (inr p) (inl q) = (side_ac t, is_ac refl, omega (arith, leb-false a (min b c) p, leb-true b c q))
    go (inr p) (inr q) = (side_bc t, is_bc refl, omega (arith, leb-false a (min b c) p, leb-false b c q))

module _ (G : Graph) (proper : Proper G) where
  link_in : (i : ℕ) → i < size G → member G.links (link_at G i) ≡ true
  link_in i l = in_member G.links (get_d_in _ G.links i l)

  -- a list `group_at` is the group of the relation
  pub group_meaning : (k i j : ℕ) → i < size G → j < size G → In j (group_at G k i) ↔ InGroup G k (link_at G i) (link_at G j)
  group_meaning k i j li lj = (to, back)
    where
      to : In j (group_at G k i) → InGroup G k (link_at G i) (link_at G j)
      to m = record { strong = strength_at_least G k (link_at G i) (link_in i li) (group_strong G k i m); joined = at (same_joined G k i j li lj (group_in_lem G k i m).2) }
        where
          at : (i ≡ j) ⊎ Joined G k (link_at G i) (link_at G j) → (link_at G j ≡ link_at G i) ⊎ Joined G k (link_at G i) (link_at G j)
          at (inl q) = inl (ap (link_at G) (sym q))
          at (inr c) = inr c

      back : InGroup G k (link_at G i) (link_at G j) → In j (group_at G k i)
      back x = at x.joined
        where
          s : k ≤ strength_at G i
          s = at_least_strength G k (link_at G i) x.strong

          at : (link_at G j ≡ link_at G i) ⊎ Joined G k (link_at G i) (link_at G j) → In j (group_at G k i)
          at (inl q) =
              let e : j ≡ i = sym (proper.numbered j lj) ∙ ap (link_number G) q ∙ proper.numbered i li in
              rw e (group_self G k i li s)
          at (inr c) =
              let h : Same (labels_at G k) (link_number G (link_at G i)) (link_number G (link_at G j)) = joined_same G k proper c in
              in_group G k i s lj (rw (proper.numbered i li, proper.numbered j lj) at h)

  -- a stored group's strength is the largest k at which its set is a group
  pub stored-largest : (g : ℕ) → g < group_count G → (k i : ℕ) → min_level ≤ k → i < size G → k ≤ strength_at G i → (stored G g).members ≡ group_at G k i → k ≤ (stored G g).strength
  stored-largest g lg k i l li s q =
      let r = stored_number G k i l li s in
      let same : r.0 ≡ g = stored-distinct G r.0 g r.1 lg (r.2 ∙ sym q) in
      subst (λ (x : ℕ). k ≤ (stored G x).strength) same r.3

  -- question B: the largest k at which e and f are in one group
  module _ (e f : Link) (me : member G.links e ≡ true) (mf : member G.links f ≡ true) where
    at : ℕ → Bool
    at k = leb min_level k && any (eqb (link_number G f)) (group_at G k (link_number G e))

    links_back : (k : ℕ) → In (link_number G f) (group_at G k (link_number G e)) ↔ InGroup G k e f
    links_back k =
        let w = group_meaning k (link_number G e) (link_number G f) (number_lt G e me) (number_lt G f mf) in
        ((λ m. rw (link_of_number G e me, link_of_number G f mf) at (w.0 m)), (λ x. w.1 (rw (link_of_number G e me, link_of_number G f mf) x)))

    pub joined_up_to_max : (k : ℕ) → min_level ≤ k → InGroup G k e f → k ≤ joined_up_to G e f
    unfolding joined_up_to at
    joined_up_to_max k l x =
        largest-max at (strength_bound G) k (le_trans (at_least_strength G k e x.strong) (strength_at_most G e)) (both (le-leb min_level k l) (in_any (eqb (link_number G f)) (group_at G k (link_number G e)) ((links_back k).1 x) (eq-eqb (link_number G f) (link_number G f) refl)))

    pub joined_up_to_is : 0 < joined_up_to G e f → (min_level ≤ joined_up_to G e f) × InGroup G (joined_up_to G e f) e f
    unfolding joined_up_to at
    joined_up_to_is h =
        let k : ℕ = joined_up_to G e f in
        let p = largest_passes at (strength_bound G) h in (
          leb-true min_level k (and_left (leb min_level k) (any (eqb (link_number G f)) (group_at G k (link_number G e))) p),
          (links_back k).0 (any_number (link_number G f) (group_at G k (link_number G e)) (and_right (leb min_level k) (any (eqb (link_number G f)) (group_at G k (link_number G e))) p)),
        )

-- Which stored groups are groups at k: those of strength at least k whose parent, if they have one, is weaker. Assumes nothing.
use Rattle.std.specs.Prelude.{◌≡◌, ◌⊎◌, ◌≢◌, true, List, ℕ, ◌≤◌, ◌<◌}
use Rattle.std.proofs.Common.{sym, ap, ◌∙◌, inl, inr, arith}
use Rattle.std.proofs.Math.Path.{subst}
use mathlib.Core.List.{Memᴰ as In}
use Rattle.std.proofs.Math.ListN.{length}
use Rattle.truss.specs.Limits.{min_level, no_group}
use Rattle.truss.specs.Lists.{range}
use Rattle.truss.specs.Graph.{Graph}
use Rattle.truss.specs.Forest.{same_component}
use Rattle.truss.specs.Group.{least_link, group_at, labels_at}
use Rattle.truss.specs.Index.{index}
use Rattle.truss.specs.Stored.{Leads, up}
use Rattle.truss.specs.Stored.{here as arrived}
use Rattle.truss.specs.Question.{is_group_at}
use Rattle.laws.proofs.Lists.{bool_same}
use Rattle.laws.proofs.Members.{first_in, filter_in, in_filter}
use Rattle.laws.proofs.Sets.{filter_same, same_list_eq, eq_same_list}
use Rattle.laws.proofs.Groups.{size, strength_at, group_at_eq, group_strong, group_in_lem, group_down}
use Rattle.laws.proofs.Stored.{group_count, stored, stored_at, stored-distinct, stored_in}
use Rattle.laws.proofs.Tree.{group_rows_length, leads_holds, parent_rises, climb_end}
use Rattle.laws.proofs.Meaning.{stored-largest}
use Rattle.stored.specs.Rows.{graph_in, IsIndex, parent_of, proper, fits_groups, few, few_links, parent_cases}

-- groups at two levels with the same links are the same list
group_ext : (G : Graph) (k l i : ℕ) → k ≤ strength_at G i → l ≤ strength_at G i → ((j : ℕ) → In j (group_at G k i) → In j (group_at G l i)) → ((j : ℕ) → In j (group_at G l i) → In j (group_at G k i)) → group_at G k i ≡ group_at G l i
group_ext G k l i sk sl to back =
    group_at_eq G k i sk
    ∙ filter_same (same_component (labels_at G k) i) (same_component (labels_at G l) i) (range 0 (size G)) (λ j m. bool_same _ _ (λ t. at k l sk sl to j m t) (λ t. at l k sl sk back j m t))
    ∙ sym (group_at_eq G l i sl)
  where
    at : (x y : ℕ) → x ≤ strength_at G i → y ≤ strength_at G i → ((j : ℕ) → In j (group_at G x i) → In j (group_at G y i)) → (j : ℕ) → In j (range 0 (size G)) → same_component (labels_at G x) i j ≡ true → same_component (labels_at G y) i j ≡ true
    at x y sx sy h j m t =
        let a : In j (group_at G x i) = rw (group_at_eq G x i sx) (in_filter (same_component (labels_at G x) i) (range 0 (size G)) m t) in
        (filter_in (same_component (labels_at G y) i) (range 0 (size G)) (rw (group_at_eq G y i sy) at (h j a))).1

module _ {b : List ℕ} (I : IsIndex b) {k g : ℕ} (level : min_level ≤ k) (lg : g < group_count (graph_in b)) where
  abbrev G : Graph
  G = graph_in b

  least_in : In (least_link (stored G g)) (stored G g).members
  least_in = let s = stored_at G g lg in first_in (stored G g).members (subst (In s.least) (sym s.members_eq) s.least_in)

  i : ℕ
  i = least_link (stored G g)

  is_at : k ≤ (stored G g).strength → (parent_of G g < group_count G → (stored G (parent_of G g)).strength < k) → is_group_at G k (stored G g) ≡ true
  unfolding is_group_at i
  is_at s top = eq_same_list (group_at G k i) (stored G g).members (sym (climb_end G (proper I) (fits_groups I) g i k lg least_in level s top))

  -- a group at k
  pub at_top : {s p : ℕ} → s ≡ (stored G g).strength → k ≤ s → p ≡ parent_of G g → p ≡ no_group → is_group_at G k (stored G g) ≡ true
  at_top q l e z = is_at (omega (arith, q, l)) (λ h. absurd (omega (arith, h, e, z, few I, few_links I)))

  pub at_below : {s p t : ℕ} → s ≡ (stored G g).strength → k ≤ s → p ≡ parent_of G g → t ≡ (stored G p).strength → t < k → is_group_at G k (stored G g) ≡ true
  at_below q l e r h = is_at (omega (arith, q, l)) (λ _. omega (arith, h, r ∙ ap (λ (x : ℕ). (stored G x).strength) e))

  module _ (t : is_group_at G k (stored G g) ≡ true) where
    same : group_at G k i ≡ (stored G g).members
    unfolding is_group_at i
    same = same_list_eq (group_at G k i) (stored G g).members t

    i_in : In i (group_at G k i)
    unfolding i
    i_in = subst (In i) (sym same) least_in

    strong_i : k ≤ strength_at G i
    strong_i = group_strong G k i i_in

    li : i < size G
    li = (group_in_lem G k i i_in).1

    too_strong : k ≤ (stored G g).strength
    too_strong = stored-largest G (proper I) g lg k i level li strong_i (sym same)

    clash : {p : ℕ} → p ≡ parent_of G g → p < group_count G → k ≤ (stored G p).strength → ⊥
    unfolding i
    clash {p} q lp h = omega (arith, same_number, parent_rises G (proper I) (fits_groups I) g lg (omega (arith, q, lp)), q)
      where
        rows : length (index G).groups ≡ group_count G
        rows = group_rows_length G (proper I) (fits_groups I)

        leads : Leads (index G) g p
        leads = up {g = g} (omega (arith, lg, rows)) (subst (λ (x : ℕ). Leads (index G) x p) q (arrived (omega (arith, lp, rows))))

        in_p : (j : ℕ) → In j (stored G g).members → In j (stored G p).members
        in_p j m = leads_holds G (proper I) (fits_groups I) leads j m

        w : (i < size G) × ((stored G p).strength ≤ strength_at G i) × ((stored G p).members ≡ group_at G (stored G p).strength i)
        w = stored_in G p lp (in_p i least_in)

        whole : group_at G (stored G p).strength i ≡ group_at G k i
        whole = group_ext G (stored G p).strength k i w.1 strong_i (λ j m. group_down G k (stored G p).strength i h li m)
            (λ j m. subst (In j) w.2 (in_p j (subst (In j) same m)))

        same_number : g ≡ p
        same_number = stored-distinct G g p lg lp (sym same ∙ sym whole ∙ sym w.2)

  -- no group at k
  pub too_weak : {s : ℕ} → s ≡ (stored G g).strength → s < k → ¬ (is_group_at G k (stored G g) ≡ true)
  too_weak q l t = omega (arith, q, l, too_strong t)

  pub not_top : {p s : ℕ} → p ≡ parent_of G g → p ≢ no_group → s ≡ (stored G p).strength → k ≤ s → ¬ (is_group_at G k (stored G g) ≡ true)
  not_top {p} {s} q n r l t = go (parent_cases I g lg)
    where
      go : (parent_of G g < group_count G) ⊎ (parent_of G g ≡ no_group) → ⊥
      go (inl x) = clash t q (omega (arith, q, x)) (omega (arith, r, l))
      go (inr e) = n (q ∙ e)

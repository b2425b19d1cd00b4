-- Which groups hold the account of a rank: those named by its links, and all above them. Assumes nothing.
use Rattle.std.specs.Prelude.{◌≡◌, ◌⊎◌, Bool, ◌||◌, List, ℕ, zero, suc, ◌+◌, ◌*◌, ◌≤◌, ◌<◌, eqb, length}
use Rattle.std.proofs.Math.Path.{refl}
use Rattle.std.proofs.Common.{sym, ap, ◌∙◌, subst, inl, inr, arith, eq-eqb, eqb-true}
use Rattle.std.proofs.Math.Bool.{true, false}
use mathlib.Core.List.{Memᴰ as In}
use Rattle.truss.specs.Graph.{Graph, link_at, ends}
use Rattle.truss.specs.Index.{index}
use Rattle.truss.specs.Stored.{Leads, up}
use Rattle.truss.specs.Stored.{here as arrived}
use Rattle.truss.specs.Question.{holds, holds_all, accounts_in}
use Rattle.laws.proofs.Lists.{or_cases}
use Rattle.laws.proofs.Members.{any_in, in_any}
use Rattle.laws.proofs.Sets.{all_in, in_all}
use Rattle.laws.proofs.Groups.{size}
use Rattle.laws.proofs.Stored.{group_count, stored, stored_in}
use Rattle.laws.proofs.Tree.{group_rows_length, leads_holds, holds_leads, own-holds}
use Rattle.stored.specs.Rows.{graph_in, IsIndex, own_group, parent_of, proper, fits_groups, own_same}
use Rattle.holding.specs.Ranks.{rank_in, Ranks, Before, in_before, before_in}

-- one of the first i links names the group and has an end of rank c + 1
abbrev pub Own : Graph → List ℕ → ℕ → ℕ → ℕ → Type 0
Own G ranks c i g = (j : ℕ) × (j < i) × (own_group G j ≡ g) × ((rank_in ranks (link_at G j).lo ≡ c + 1) ⊎ (rank_in ranks (link_at G j).hi ≡ c + 1))

-- the group holds an account of rank c + 1
abbrev pub HeldBy : Graph → List ℕ → ℕ → ℕ → Type 0
HeldBy G ranks c g = (v : ℕ) × (v < G.n) × (rank_in ranks v ≡ c + 1) × (holds G (stored G g) v ≡ true)

-- named by a link, or the parent of one of the first g groups that holds the account
abbrev pub Lifted : Graph → List ℕ → ℕ → ℕ → ℕ → Type 0
Lifted G ranks c g h = Own G ranks c (size G) h ⊎ ((x : ℕ) × (x < g) × (parent_of G x ≡ h) × HeldBy G ranks c x)

-- the last step of a way up
last_step : (G : Graph) {g h : ℕ} → Leads (index G) g h → (g ≡ h) ⊎ ((c : ℕ) × Leads (index G) g c × (c < length (index G).groups) × (parent_of G c ≡ h))
last_step G {g} {h} (arrived l) = inl refl
last_step G {g} {h} (up l rest) = inr (go (last_step G rest))
  where
    go : (parent_of G g ≡ h) ⊎ ((c : ℕ) × Leads (index G) (parent_of G g) c × (c < length (index G).groups) × (parent_of G c ≡ h))
        → (c : ℕ) × Leads (index G) g c × (c < length (index G).groups) × (parent_of G c ≡ h)
    go (inl e) = (g, arrived l, l, e)
    go (inr (c, w, lc, e)) = (c, up {g = g} l w, lc, e)

module _ {b : List ℕ} (I : IsIndex b) (ranks : List ℕ) (c : ℕ) where
  abbrev G : Graph
  G = graph_in b

  rows : length (index G).groups ≡ group_count G
  rows = group_rows_length G (proper I) (fits_groups I)

  -- a link of the group with an end v
  hold_link : (g v i : ℕ) → In i (stored G g).members → ((link_at G i).lo ≡ v) ⊎ ((link_at G i).hi ≡ v) → holds G (stored G g) v ≡ true
  unfolding holds
  hold_link g v i m e = in_any (λ (j : ℕ). ends (link_at G j) v) (stored G g).members m (go e)
    where
      right : (x : Bool) → (x || true) ≡ true
      right true = refl
      right false = refl

      go : ((link_at G i).lo ≡ v) ⊎ ((link_at G i).hi ≡ v) → ends (link_at G i) v ≡ true
      go (inl q) = rw (eq-eqb (link_at G i).lo v q) refl
      go (inr q) = rw (eq-eqb (link_at G i).hi v q) (right (eqb (link_at G i).lo v))

  -- a group named by a link, or above one that holds it, holds the account
  pub lifted_held : (g h : ℕ) → h < group_count G → g ≤ group_count G → (accounts : (i : ℕ) → i < size G → ((link_at G i).lo < G.n) × ((link_at G i).hi < G.n)) → Lifted G ranks c g h → HeldBy G ranks c h
  unfolding holds
  lifted_held g h lh lg below (inl (j, lj, q, e)) = own_case e
    where
      inside : In j (stored G h).members
      inside = own-holds G (proper I) (fits_groups I) j h lj (subst (λ (x : ℕ). Leads (index G) x h) (sym q ∙ own_same I j lj) (arrived (omega (arith, lh, rows))))

      own_case : (rank_in ranks (link_at G j).lo ≡ c + 1) ⊎ (rank_in ranks (link_at G j).hi ≡ c + 1) → HeldBy G ranks c h
      own_case (inl r) = ((link_at G j).lo, (below j lj).0, r, hold_link h (link_at G j).lo j inside (inl refl))
      own_case (inr r) = ((link_at G j).hi, (below j lj).1, r, hold_link h (link_at G j).hi j inside (inr refl))
  lifted_held g h lh lg below (inr (x, lx, q, (v, lv, r, t))) = (v, lv, r, up_one)
    where
      found : (i : ℕ) × In i (stored G x).members × (ends (link_at G i) v ≡ true)
      found = any_in (λ (j : ℕ). ends (link_at G j) v) (stored G x).members t

      leads : Leads (index G) x h
      leads = up {g = x} (omega (arith, lx, lg, rows)) (subst (λ (y : ℕ). Leads (index G) y h) (sym q) (arrived (omega (arith, lh, rows))))

      up_one : holds G (stored G h) v ≡ true
      up_one = in_any (λ (j : ℕ). ends (link_at G j) v) (stored G h).members (leads_holds G (proper I) (fits_groups I) leads found.0 found.1) found.2

  -- a group that holds the account is named by a link of its, or is above one that does
  pub held_lifted : (h : ℕ) → h < group_count G → HeldBy G ranks c h → Lifted G ranks c (group_count G) h
  unfolding holds
  held_lifted h lh (v, lv, r, t) = go (any_in (λ (j : ℕ). ends (link_at G j) v) (stored G h).members t)
    where
      go : (i : ℕ) × In i (stored G h).members × (ends (link_at G i) v ≡ true) → Lifted G ranks c (group_count G) h
      go (i, m, e) = at (last_step G (holds_leads G (proper I) (fits_groups I) i li h lh m))
        where
          li : i < size G
          li = (stored_in G h lh m).0

          by_ends : (eqb (link_at G i).lo v ≡ true) ⊎ (eqb (link_at G i).hi v ≡ true) → (rank_in ranks (link_at G i).lo ≡ c + 1) ⊎ (rank_in ranks (link_at G i).hi ≡ c + 1)
          by_ends (inl s) = inl (ap (rank_in ranks) (eqb-true (link_at G i).lo v s) ∙ r)
          by_ends (inr s) = inr (ap (rank_in ranks) (eqb-true (link_at G i).hi v s) ∙ r)

          at : (own_group G i ≡ h) ⊎ ((x : ℕ) × Leads (index G) (own_group G i) x × (x < length (index G).groups) × (parent_of G x ≡ h)) → Lifted G ranks c (group_count G) h
          at (inl s) = inl (i, li, s, by_ends (or_cases (eqb (link_at G i).lo v) (eqb (link_at G i).hi v) e))
          at (inr (x, w, lx, s)) =
              let mx : In i (stored G x).members = own-holds G (proper I) (fits_groups I) i x li (subst (λ (y : ℕ). Leads (index G) y x) (own_same I i li) w) in
              inr (x, omega (arith, lx, rows), s, (v, lv, r, in_any (λ (j : ℕ). ends (link_at G j) v) (stored G x).members mx e))

-- ---- all ranks, all named accounts

module _ (G : Graph) (ranks named : List ℕ) (d k : ℕ) (even : length named ≡ 2 * k) (below : (v : ℕ) → In v (accounts_in named) → v < G.n) (R : Ranks G.n d ranks (Before named k)) where
  pub all_held : (g : ℕ) → ((c : ℕ) → c < d → HeldBy G ranks c g) → holds_all G (accounts_in named) (stored G g) ≡ true
  all_held g h = in_all (holds G (stored G g)) (accounts_in named) (λ v m. at v m (rank_in ranks v) refl)
    where
      at : (v : ℕ) → In v (accounts_in named) → (r : ℕ) → rank_in ranks v ≡ r → holds G (stored G g) v ≡ true
      at v m zero q = absurd (R.no v (below v m) q (in_before named k even m))
      at v m (suc c) q = from (h c (omega (arith, q, R.most v (below v m))))
        where
          from : HeldBy G ranks c g → holds G (stored G g) v ≡ true
          from (u, lu, r, t) = let e : u ≡ v = R.one u v lu (below v m) (λ z. omega (arith, z, r)) (omega (arith, r, q)) in subst (λ (x : ℕ). holds G (stored G g) x ≡ true) e t

  pub held_all : (g : ℕ) → holds_all G (accounts_in named) (stored G g) ≡ true → (c : ℕ) → c < d → HeldBy G ranks c g
  held_all g h c l = at (R.each c l)
    where
      at : (v : ℕ) × (v < G.n) × (rank_in ranks v ≡ c + 1) → HeldBy G ranks c g
      at (v, lv, q) = (v, lv, q, all_in (holds G (stored G g)) (accounts_in named) h (before_in named k even (R.yes v lv (λ z. omega (arith, z, q)))))

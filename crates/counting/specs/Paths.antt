-- The way up from a group through written parents: numbers rise along it, and there is one way only. Assumes nothing.
use Rattle.std.specs.Prelude.{◌≡◌, List, ℕ, ◌≤◌, ◌<◌, length}
use Rattle.std.proofs.Common.{subst, arith}
use mathlib.Core.List.{Memᴰ as In}
use Rattle.truss.specs.Graph.{Graph}
use Rattle.truss.specs.Index.{index}
use Rattle.truss.specs.Stored.{Leads, up}
use Rattle.truss.specs.Stored.{here as arrived}
use Rattle.laws.proofs.Groups.{size}
use Rattle.laws.proofs.Stored.{group_count, stored}
use Rattle.laws.proofs.Tree.{group_rows_length, parent_rises, holds_leads, own-holds}
use Rattle.stored.specs.Rows.{graph_in, IsIndex, own_group, parent_of, proper, fits_groups, own_same}

module _ {b : List ℕ} (I : IsIndex b) where
  abbrev G : Graph
  G = graph_in b

  rows : length (index G).groups ≡ group_count G
  rows = group_rows_length G (proper I) (fits_groups I)

  starts : {g h : ℕ} → Leads (index G) g h → g < group_count G
  starts (arrived l) = omega (arith, l, rows)
  starts (up l w) = omega (arith, l, rows)

  pub rising : {g h : ℕ} → Leads (index G) g h → g ≤ h
  rising (arrived l) = omega arith
  rising {g} {h} (up l w) = omega (arith, rising w, parent_rises G (proper I) (fits_groups I) g (omega (arith, l, rows)) (starts w))

  -- of two groups on the way up, the lesser leads to the greater
  pub onward : {g x h : ℕ} → Leads (index G) g x → Leads (index G) g h → x < h → Leads (index G) (parent_of G x) h
  onward (arrived l) (arrived k) less = absurd (omega (arith, less))
  onward (arrived l) (up k w) less = w
  onward (up l v) (arrived k) less = absurd (omega (arith, less, rising (up l v)))
  onward (up l v) (up k w) less = onward v w less

  -- of two groups on the way up, the one that is not greater leads to the other
  pub between : {g x h : ℕ} → Leads (index G) g x → Leads (index G) g h → x ≤ h → Leads (index G) x h
  between (arrived l) w le = w
  between (up l v) (arrived k) le = absurd (omega (arith, le, rising v, parent_rises G (proper I) (fits_groups I) _ (omega (arith, l, rows)) (starts v)))
  between (up l v) (up k w) le = between v w le

  further : {g x h : ℕ} → Leads (index G) g x → Leads (index G) x h → Leads (index G) g h
  further (arrived l) w = w
  further {g} (up l v) w = up {g = g} l (further v w)

  -- one step up
  pub step_up : {g x : ℕ} → Leads (index G) g x → parent_of G x < group_count G → Leads (index G) g (parent_of G x)
  step_up {g} {x} (arrived l) k = up {g = g} l (arrived {g = parent_of G g} (omega (arith, k, rows)))
  step_up {g} {x} (up l v) k = up {g = g} l (step_up v k)

  -- a link is in a group just if its own group leads there
  pub in_leads : (i h : ℕ) → i < size G → h < group_count G → In i (stored G h).members → Leads (index G) (own_group G i) h
  in_leads i h li lh m = holds_leads G (proper I) (fits_groups I) i li h lh m

  pub leads_in : (i h : ℕ) → i < size G → Leads (index G) (own_group G i) h → In i (stored G h).members
  leads_in i h li w = own-holds G (proper I) (fits_groups I) i h li (subst (λ (x : ℕ). Leads (index G) x h) (own_same I i li) w)

  -- a group above one that holds a link holds it too
  pub held_above : (i h k : ℕ) → i < size G → h < group_count G → Leads (index G) h k → In i (stored G h).members → In i (stored G k).members
  held_above i h k li lh v m = leads_in i k li (further (in_leads i h li lh m) v)

-- What contracts say of one level of the peeling, and of the time between two levels. Column 3 holds supports, 4 strengths, 5 the queue.
-- d is not 0 for the links that are removed. Assumes nothing.
use Rattle.std.specs.Prelude.{◌≡◌, ◌≢◌, List, ℕ, suc, ◌+◌, ◌<◌}
use Rattle.truss.specs.Graph.{Graph, support, link_at}
use Rattle.truss.specs.Strength.{strength}
use Rattle.laws.proofs.ProperLinks.{live}
use Rattle.laws.proofs.Rounds.{Covers}
use Rattle.columns.specs.Columns.{cell, SUPPORT, STRENGTH, QUEUE}
use Rattle.removal.specs.Queue.{Queue, Line}

-- all links were looked at; none was
abbrev pub All : ℕ → Type 0
All y = Unit {0}

abbrev pub None : ℕ → Type 0
None y = ⊥

abbrev pub Waiting : Graph → ℕ → ℕ → (ℕ → Type 0) → ℕ → ℕ → (ℕ → ℕ) → List ℕ → Type 0
Waiting G m s Met head tail d w = Queue G m s Met head tail (cell w m SUPPORT) (cell w m STRENGTH) (cell w m QUEUE) d

-- column 3 has, for each link that is left, its triangles of such links
abbrev pub Supports : Graph → ℕ → (ℕ → ℕ) → List ℕ → Type 0
Supports G m d w = (y : ℕ) → y < m → d y ≡ 0 → cell w m SUPPORT y ≡ support G.n (live G d) (link_at G y)

-- level s: the links of strength s + 2 go
pub record Level (G : Graph) (m s : ℕ) (Met : ℕ → Type 0) (head tail : ℕ) (d : ℕ → ℕ) (w : List ℕ) : Type 0 where
  pub queue : Waiting G m s Met head tail d w
  pub supports : Supports G m d w
  pub covers : Covers G (suc (s + 2)) (live G d)

-- between two levels: nothing waits of the first `tail` in the queue, and the links that are left hold the k-truss
pub record Ready (G : Graph) (m k tail : ℕ) (d : ℕ → ℕ) (w : List ℕ) : Type 0 where
  pub line : Line m tail (cell w m STRENGTH) (cell w m QUEUE)
  pub ended : (y : ℕ) → y < m → cell w m STRENGTH y ≡ 0 → d y ≡ 0
  pub finished : (y : ℕ) → y < m → cell w m STRENGTH y ≢ 0 → d y ≢ 0
  pub gone : (y : ℕ) → y < m → d y ≢ 0 → cell w m SUPPORT y ≡ 0
  pub known : (y : ℕ) → y < m → cell w m STRENGTH y ≢ 0 → strength G (link_at G y) ≡ cell w m STRENGTH y
  pub supports : Supports G m d w
  pub covers : Covers G k (live G d)

-- What the finished bytes of an index say of links: "The words of demand 3 are read so". All of it is over decoded bytes, and over nothing else.
use Rattle.std.specs.Prelude.{◌≡◌, ◌⊎◌, ℕ, ◌≤◌, ◌<◌, length, get_or}
use Rattle.truss.specs.Graph.{Link}
use Rattle.truss.specs.Forest.{Join}
use Rattle.truss.specs.Index.{Index, LinkRow, GroupRow}

-- the records of a link, a join, a group, by number
abbrev pub row_at : Index → ℕ → LinkRow
row_at x i = get_or x.links i (record { lo = 0; hi = 0; strength = 0; group = 0 })

abbrev pub join_at : Index → ℕ → Join
join_at x q = get_or x.joins q (record { lower = 0; higher = 0; weight = 0 })

abbrev pub group_row_at : Index → ℕ → GroupRow
group_row_at x g = get_or x.groups g (record { parent = 0; strength = 0; least = 0 })

-- i is "the number of e": the position of its record
pub record IsNumber (x : Index) (e : Link) (i : ℕ) : Type 0 where
  pub in_range : i < length x.links
  pub is_lo : (row_at x i).lo ≡ e.lo
  pub is_hi : (row_at x i).hi ≡ e.hi

-- a join "written in the index, .. of written weight at least k" has the ends i and j, in either order
pub record WrittenJoin (x : Index) (k : ℕ) (i j : ℕ) : Type 0 where
  pub at : ℕ
  pub in_range : at < length x.joins
  pub heavy : k ≤ (join_at x at).weight
  pub joins : (((join_at x at).lower ≡ i) × ((join_at x at).higher ≡ j)) ⊎ (((join_at x at).lower ≡ j) × ((join_at x at).higher ≡ i))

-- "a path of joins written in the index, each of written weight at least k, runs from .. to ..": one or more of them
pub data ForestPath (x : Index) (k : ℕ) : ℕ → ℕ → Type 0 where
  one_join : {i j : ℕ} → WrittenJoin x k i j → ForestPath x k i j
  and_on : {i j l : ℕ} → WrittenJoin x k i j → ForestPath x k j l → ForestPath x k i l

-- "The stored forest joins e and f by weights of at least k when a path .. runs from the number of e to the number of f."
pub record ForestConnects (x : Index) (k : ℕ) (e f : Link) : Type 0 where
  pub i : ℕ
  pub j : ℕ
  pub number_e : IsNumber x e i
  pub number_f : IsNumber x f j
  pub path : ForestPath x k i j

-- written parents lead from the group g on to the group h, in zero or more steps
pub data Leads (x : Index) : ℕ → ℕ → Type 0 where
  here : {g : ℕ} → g < length x.groups → Leads x g g
  up : {g h : ℕ} → g < length x.groups → Leads x (group_row_at x g).parent h → Leads x g h

-- "The stored tree has a group holding a link when the link's record in the index names that group, or written parents lead on to it from the group
-- named; the group's strength is the one written": a group of strength at least k holds both e and f
pub record TreeHolds (x : Index) (k : ℕ) (e f : Link) : Type 0 where
  pub i : ℕ
  pub j : ℕ
  pub number_e : IsNumber x e i
  pub number_f : IsNumber x f j
  pub group : ℕ
  pub strong : k ≤ (group_row_at x group).strength
  pub holds_e : Leads x (row_at x i).group group
  pub holds_f : Leads x (row_at x j).group group

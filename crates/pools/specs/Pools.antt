-- The groups at k that hold each account, as rows of their numbers: what `pool_rows` gives. Assumes nothing.
use Rattle.std.specs.Prelude.{◌≡◌, ◌≢◌, true, List, ℕ, ◌+◌, ◌*◌, ◌≤◌, ◌<◌, eqb, length, get_or}
use Rattle.truss.specs.Graph.{Graph}
use Rattle.truss.specs.Question.{is_group_at, holds}
use Rattle.laws.proofs.Stored.{stored}
use Rattle.columns.specs.Columns.{cell, entry, COLUMNS}

-- of each stored group: the group at k with its links, no_group if it is weaker than k
abbrev pub TOP : ℕ
TOP = 4

-- the entries from .. to of columns 1 and 2 are the stored groups that are groups at k and hold account a, each once
pub record Row (G : Graph) (k m count : ℕ) (w : List ℕ) (a from to : ℕ) : Type 0 where
  pub rises : from ≤ to
  pub fits : to ≤ 2 * m
  pub below : (j : ℕ) → from ≤ j → j < to → entry w m j < count
  pub level : (j : ℕ) → from ≤ j → j < to → is_group_at G k (stored G (entry w m j)) ≡ true
  pub held : (j : ℕ) → from ≤ j → j < to → holds G (stored G (entry w m j)) a ≡ true
  pub once : (i j : ℕ) → from ≤ i → i < j → j < to → entry w m i ≢ entry w m j
  pub whole : (g : ℕ) → g < count → is_group_at G k (stored G g) ≡ true → holds G (stored G g) a ≡ true → (j : ℕ) × (from ≤ j) × (j < to) × (entry w m j ≡ g)

pub record PoolRows (G : Graph) (k n m count : ℕ) (w start end : List ℕ) : Type 0 where
  pub size_is : length w ≡ COLUMNS * m
  pub starts : length start ≡ n + 1
  pub ends : length end ≡ n
  -- column TOP tells which stored groups are groups at k: those that name themselves
  pub tops : (g : ℕ) → g < count → is_group_at G k (stored G g) ≡ eqb (cell w m TOP g) g
  pub rows : (a : ℕ) → a < n → Row G k m count w a (get_or start a 0) (get_or end a 0)
  -- the columns from 6 on are 0 still
  pub free : (c y : ℕ) → 6 ≤ c → c < COLUMNS → y < m → cell w m c y ≡ 0

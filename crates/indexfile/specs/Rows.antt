-- What the columns of a solved work space say as an index: 0 keys, 4 strengths, 8 groups of links; 9 joins, 10 their weights; 11 to 13 the groups' strengths,
-- parents and least links. Assumes nothing.
use Rattle.std.specs.Prelude.{◌≡◌, List, ◌++◌, map, ℕ, ◌+◌, ◌*◌, ◌/◌, ◌%◌, ◌≤◌, ◌<◌, length}
use Rattle.std.proofs.Common.{sym, append_assoc}
use Rattle.truss.specs.Lists.{range}
use Rattle.truss.specs.Forest.{Join}
use Rattle.truss.specs.Record.{kind_index_head, head_bytes, end_bytes}
use Rattle.truss.specs.Index.{LinkRow, GroupRow, Index, link_bytes, join_bytes, group_bytes, encode}
use Rattle.columns.specs.Columns.{cell, COLUMNS}
use Rattle.wire.specs.Writing.{up_to, up_to_rows}

abbrev pub row_in : List ℕ → ℕ → ℕ → LinkRow
row_in w m i = record { lo = cell w m 0 i / 65536; hi = cell w m 0 i % 65536; strength = cell w m 4 i; group = cell w m 8 i }

abbrev pub join_in : List ℕ → ℕ → ℕ → Join
join_in w m q = record { lower = cell w m 9 q / 65536; higher = cell w m 9 q % 65536; weight = cell w m 10 q }

abbrev pub group_in : List ℕ → ℕ → ℕ → GroupRow
group_in w m g = record { parent = cell w m 12 g; strength = cell w m 11 g; least = cell w m 13 g }

-- the index that the columns hold
unfoldable pub index_in : List ℕ → ℕ → ℕ → ℕ → ℕ → Index
unfolding range
index_in w n m joins groups =
    record { n = n; m = m; links = map (row_in w m) (range 0 m); joins = map (join_in w m) (range 0 joins); groups = map (group_in w m) (range 0 groups) }

-- its records, part by part
abbrev pub link_record : List ℕ → ℕ → ℕ → List ℕ
link_record w m i = link_bytes (row_in w m i)

abbrev pub join_record : List ℕ → ℕ → ℕ → List ℕ
join_record w m q = join_bytes (join_in w m q)

abbrev pub group_record : List ℕ → ℕ → ℕ → List ℕ
group_record w m g = group_bytes (group_in w m g)

pub index_parts : (w : List ℕ) (n m joins groups : ℕ) → encode (index_in w n m joins groups)
    ≡ (((head_bytes kind_index_head n m ++ up_to (link_record w m) m) ++ up_to (join_record w m) joins) ++ up_to (group_record w m) groups) ++ end_bytes
unfolding encode index_in
index_parts w n m joins groups =
    rw (← up_to_rows link_bytes (row_in w m) m, ← up_to_rows join_bytes (join_in w m) joins, ← up_to_rows group_bytes (group_in w m) groups)
    (sym (simp append_assoc))

-- where the groups stand
abbrev pub groups_from : ℕ → ℕ → ℕ
groups_from m joins = 5 + 8 * m + 6 * joins

-- what a writer asks: strengths and weights are bytes, and there is no more of anything than links
pub record Writes (w : List ℕ) (m joins groups : ℕ) : Type 0 where
  pub size : length w ≡ COLUMNS * m
  pub few : m ≤ 65535
  pub few_joins : joins ≤ m
  pub few_groups : groups ≤ m
  pub strengths : (i : ℕ) → i < m → cell w m 4 i < 256
  pub weights : (q : ℕ) → q < joins → cell w m 10 q < 256
  pub group_strengths : (g : ℕ) → g < groups → cell w m 11 g < 256

-- what the writer of one record asks: there is such an entry, and that of the strength's column is a byte
pub record CellGiven (c m i : ℕ) (w : List ℕ) : Type 0 where
  pub size : length w ≡ COLUMNS * m
  pub below : i < m
  pub small : cell w m c i < 256

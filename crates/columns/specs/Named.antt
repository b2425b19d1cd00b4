-- A graph whose links column 0 names, by their keys in order: what every step from the sorted links on is given. Assumes nothing.
use Rattle.std.specs.Prelude.{◌≡◌, List, ℕ, ◌+◌, ◌*◌, ◌≤◌, ◌<◌, length}
use Rattle.truss.specs.Limits.{max_accounts}
use Rattle.truss.specs.Graph.{Graph, link_at}
use Rattle.laws.proofs.Proper.{Proper}
use Rattle.columns.specs.Columns.{cell, KEY, COLUMNS, HALF, link_bound}

-- a proper graph of n accounts and m links, named by column 0
pub record Named (G : Graph) (m n : ℕ) (w : List ℕ) : Type 0 where
  pub proper : Proper G
  pub accounts : G.n ≡ n
  pub count : length G.links ≡ m
  pub few : m ≤ link_bound
  pub small : n ≤ max_accounts
  pub size : length w ≡ COLUMNS * m
  pub key : (i : ℕ) → i < m → cell w m KEY i ≡ (link_at G i).lo * HALF + (link_at G i).hi

-- Demand 3, as one statement about any two accepted links files. Proved in laws: demand3, only_short_memory.
use Rattle.std.specs.Prelude.{◌≡◌, ◌⊎◌, ◌↔◌, ◌≢◌, true, List, map, ℕ, ◌≤◌, length, take}
use Rattle.truss.specs.Limits.{min_level, max_level}
use Rattle.truss.specs.Graph.{Link, Pair, link_of, graph_of, member}
use Rattle.truss.specs.Chain.{Joined}
use Rattle.truss.specs.LinksFile.{accepted, read_links}
use Rattle.truss.specs.Index.{decode, index_bytes}
use Rattle.truss.specs.Call.{build, done}
use Rattle.truss.specs.Stored.{ForestConnects, TreeHolds}

-- the file names the link, whichever of its accounts stands first
abbrev pub HasLink : List Pair → Link → Type 0
HasLink ps e = member (map link_of ps) e ≡ true

-- "they name the same number of accounts and the same pairs"
pub record SameGraph (n : ℕ) (ps : List Pair) (n' : ℕ) (ps' : List Pair) : Type 0 where
  pub same_accounts : n ≡ n'
  pub same_pairs : (e : Link) → HasLink ps e ↔ HasLink ps' e

-- b is what a build of the file writes that is not refused, "whatever memory was lent and whatever that held"
pub record Builds (file b : List ℕ) : Type 0 where
  pub lent : List ℕ
  pub not_refused : (build file lent).reply ≡ done (length b)
  pub written : take (length b) (build file lent).buffer ≡ b

-- "all or none"
abbrev pub AllOrNone : Type 0 → Type 0 → Type 0 → Type 0
AllOrNone A B C = (A × B × C) ⊎ ((¬ A) × (¬ B) × (¬ C))

-- "for any two different links e, f of one of them and each k" up to 64, which "now starts at k = 2": chain, stored forest and stored tree agree
abbrev pub Agrees : ℕ → List Pair → List ℕ → Type 0
Agrees n ps b =
    (e f : Link) → HasLink ps e → HasLink ps f → e ≢ f → (k : ℕ) → min_level ≤ k → k ≤ max_level
    → AllOrNone (Joined (graph_of n ps) k e f) (ForestConnects (decode b) k e f) (TreeHolds (decode b) k e f)

pub record Agreement (n : ℕ) (ps : List Pair) (b : List ℕ) (n' : ℕ) (ps' : List Pair) (b' : List ℕ) : Type 0 where
  -- "their indexes are equal byte for byte exactly when they name the same number of accounts and the same pairs"
  pub same_index : (b ≡ b') ↔ SameGraph n ps n' ps'
  pub agrees : Agrees n ps b
  pub agrees' : Agrees n' ps' b'

abbrev pub Demand3 : Type 0
Demand3 =
    (file file' : List ℕ) (n n' : ℕ) (ps ps' : List Pair) (b b' : List ℕ)
    → read_links file ≡ accepted n ps → read_links file' ≡ accepted n' ps' → Builds file b → Builds file' b'
    → Agreement n ps b n' ps' b'

-- Beside it: "Only lent memory that is too short turns such a build back."
abbrev pub OnlyShortMemory : Type 0
OnlyShortMemory =
    (file : List ℕ) (n : ℕ) (ps : List Pair) (lent : List ℕ)
    → read_links file ≡ accepted n ps → length (index_bytes (graph_of n ps)) ≤ length lent
    → (build file lent).reply ≡ done (length (index_bytes (graph_of n ps)))

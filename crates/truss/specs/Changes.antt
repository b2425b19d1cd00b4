-- What a change is refused by and what it writes, for every index and every pair; and what an index tells after any sequence of changes. Proved in laws: change_rule,
-- changes_tell.
use Rattle.std.specs.Prelude.{◌≡◌, ◌⊎◌, ◌↔◌, ◌≢◌, true, false, cond, not, ◌&&◌, ◌||◌, List, ℕ, ◌≤◌, ◌<◌, eqb, length, take}
use Rattle.truss.specs.Limits.{max_links}
use Rattle.truss.specs.Graph.{Link, LinkSet, Pair, Graph, link, same_link, member}
use Rattle.truss.specs.Refusal.{passed, refuse}
use Rattle.truss.specs.LinksFile.{accepted, read_links}
use Rattle.truss.specs.IndexFile.{IsIndexOf, read_index}
use Rattle.truss.specs.Call.{Written, build}
use Rattle.truss.specs.Windows.{refused_by}
use Rattle.truss.specs.Demand3.{HasLink, Builds}
use Rattle.truss.specs.Change.{Change, put_in, withdraw, change}

-- ---- the set that an index tells

-- the pairs name just the set
abbrev pub Names : List Pair → LinkSet → Type 0
Names ps S = (e : Link) → HasLink ps e ↔ (S e ≡ true)

-- an index "tells what a plain set of pairs .. would hold", of n accounts: it is the index of a links file that names them
pub record Tells (b : List ℕ) (n : ℕ) (S : LinkSet) : Type 0 where
  pub pairs : List Pair
  pub is_index : IsIndexOf b n pairs
  pub names : Names pairs S

-- what a change does to a plain set of pairs
unfoldable pub moved : Change → LinkSet → LinkSet
moved (put_in a b) S e = S e || same_link e (link a b)
moved (withdraw a b) S e = S e && not (same_link e (link a b))

-- ---- one change

-- the first fault of a change to the links of G, "the order is 7, 9, 5, 14, 11, 3, 12": here 9 to 3
pub data Faulty (G : Graph) : Change → ℕ → Type 0 where
  put_outside : {a b : ℕ} → (G.n ≤ a) ⊎ (G.n ≤ b) → Faulty G (put_in a b) 9
  put_equal : {a b : ℕ} → a < G.n → b < G.n → a ≡ b → Faulty G (put_in a b) 5
  put_again : {a b : ℕ} → a < G.n → b < G.n → a ≢ b → member G.links (link a b) ≡ true → Faulty G (put_in a b) 14
  put_full : {a b : ℕ} → a < G.n → b < G.n → a ≢ b → member G.links (link a b) ≡ false → max_links ≤ length G.links → Faulty G (put_in a b) 3
  withdraw_outside : {a b : ℕ} → (G.n ≤ a) ⊎ (G.n ≤ b) → Faulty G (withdraw a b) 9
  withdraw_none : {a b : ℕ} → a < G.n → b < G.n → member G.links (link a b) ≡ false → Faulty G (withdraw a b) 11

pub record ChangeRule : Type 0 where
  -- 7 ahead of all; then the first fault. "a refused change leaves both buffers"
  pub no_index : (c : Change) (bytes buffer : List ℕ) → read_index bytes ≡ refuse 7 0 → change c bytes buffer ≡ record { reply = refused_by 7; buffer = buffer }
  pub faulty : (c : Change) (bytes buffer : List ℕ) (G : Graph) (k : ℕ) → read_index bytes ≡ passed G → Faulty G c k
      → change c bytes buffer ≡ record { reply = refused_by k; buffer = buffer }
  -- "The bytes are those of a fresh build of the altered links": of any links file that names them, and so are the reply, 12 and the bytes after the index
  pub puts : (a b : ℕ) (bytes buffer file : List ℕ) (n : ℕ) (ps : List Pair) (S : LinkSet) → Tells bytes n S → S (link a b) ≡ false
      → read_links file ≡ accepted n ps → Names ps (moved (put_in a b) S) → change (put_in a b) bytes buffer ≡ build file buffer
  pub withdraws : (a b : ℕ) (bytes buffer file : List ℕ) (n : ℕ) (ps : List Pair) (S : LinkSet) → Tells bytes n S → S (link a b) ≡ true
      → read_links file ≡ accepted n ps → Names ps (moved (withdraw a b) S) → change (withdraw a b) bytes buffer ≡ build file buffer
  -- each number under its condition only: a change without a fault is a build of a links file that names the altered set, which 12 alone can refuse
  pub only : (c : Change) (bytes buffer : List ℕ) (G : Graph) → read_index bytes ≡ passed G
      → ((k : ℕ) × Faulty G c k)
      ⊎ ((file : List ℕ) × (ps : List Pair) × (read_links file ≡ accepted G.n ps) × Names ps (moved c (member G.links)) × (change c bytes buffer ≡ build file buffer))
  -- bytes that 7 lets pass tell the links that are read from them, and bytes that tell a set pass and are read as it
  pub passed_tells : (b : List ℕ) (G : Graph) → read_index b ≡ passed G → Tells b G.n (member G.links)
  pub tells_passed : (b : List ℕ) (n : ℕ) (S : LinkSet) → Tells b n S → (G : Graph) × (read_index b ≡ passed G) × (G.n ≡ n) × ((e : Link) → member G.links e ≡ S e)
  -- what tells a set is what a fresh build of any links file that names it writes
  pub tells_built : (b file : List ℕ) (n : ℕ) (ps : List Pair) (S : LinkSet) → Tells b n S → read_links file ≡ accepted n ps → Names ps S → Builds file b

-- ---- any sequence of changes

-- the last index written: a change that is not refused writes one, at the front of its buffer
abbrev pub last_index : Written → List ℕ → List ℕ
last_index w x = cond (eqb w.reply.refusal 0) (take w.reply.value w.buffer) x

-- the plain set, "unmoved by refused changes"
abbrev pub last_set : Written → Change → LinkSet → LinkSet
last_set w c S = cond (eqb w.reply.refusal 0) (moved c S) S

-- "any sequence of changes, refused ones included, each given the last index written", and lent any buffer, whatever it holds. `Called c x buffer w` says that the change c, given
-- the index x and lent the buffer, gives w. From the index x and the set S to the index y and the set T.
pub data Changes (Called : Change → List ℕ → List ℕ → Written → Type 0) : List ℕ → LinkSet → List ℕ → LinkSet → Type 0 where
  none : {x : List ℕ} {S : LinkSet} → Changes Called x S x S
  one : {x y : List ℕ} {S T : LinkSet} (c : Change) (buffer : List ℕ) (w : Written) → Called c x buffer w → Changes Called (last_index w x) (last_set w c S) y T
      → Changes Called x S y T

abbrev pub Changed : Change → List ℕ → List ℕ → Written → Type 0
Changed c x buffer w = w ≡ change c x buffer

-- "(at first one that 7 lets pass), that index tells what a plain set of pairs, unmoved by refused changes, would hold"; the number of accounts stays
abbrev pub ChangesTell : Type 0
ChangesTell = (b x : List ℕ) (G : Graph) (T : LinkSet) → read_index b ≡ passed G → Changes Changed b (member G.links) x T → Tells x G.n T

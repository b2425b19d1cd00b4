-- Which bytes are an index: refusal 7.
use Rattle.std.specs.Prelude.{◌≡◌, not, List, map, ℕ}
use Rattle.truss.specs.Lists.{same_list}
use Rattle.truss.specs.Graph.{Pair, Graph, graph_of}
use Rattle.truss.specs.Refusal.{Checked, passed, refused, refuse, refuse_if}
use Rattle.truss.specs.LinksFile.{Links, accepted, graph_of_links, read_links, write_links}
use Rattle.truss.specs.Index.{LinkRow, decode, index_bytes}

-- "Its index is .. the bytes that "The two files" defines for its n and its pairs": the bytes are the index of some accepted links file, one that
-- names n and ps. Refusal 7 is for all other bytes: "the bytes are not the index of any accepted links file".
pub record IsIndexOf (b : List ℕ) (n : ℕ) (ps : List Pair) : Type 0 where
  pub file : List ℕ
  pub file_accepted : read_links file ≡ accepted n ps
  pub bytes : index_bytes (graph_of n ps) ≡ b

-- The same as a test (laws: read-index, read_only, refused_7): the links file that the head and the strong links name is accepted, and these bytes
-- are its index.
unfoldable pub links_file_in : List ℕ → List ℕ
unfolding decode write_links
links_file_in b = let x = decode b in write_links x.n (map (λ (r : LinkRow). record { first = r.lo; second = r.hi }) x.links)

unfoldable pub if_index_is : List ℕ → Checked Links → Checked Graph
unfolding same_list index_bytes graph_of
if_index_is b (passed l) = let G = graph_of_links l in refuse_if (not (same_list (index_bytes G) b)) 7 0 (passed G)
if_index_is b (refused r) = refuse 7 0

-- the graph whose index the bytes are, or refusal 7
unfoldable pub read_index : List ℕ → Checked Graph
unfolding if_index_is links_file_in read_links
read_index b = if_index_is b (read_links (links_file_in b))

-- A links file (an edge list): which bytes are accepted and what they name, what refuses others and where, and the bytes that are written.
use Rattle.std.specs.Prelude.{not, ◌||◌, List, [], ◌∷◌, ◌++◌, map, ℕ, zero, suc, ◌+◌, eqb, ltb, leb, length}
use Rattle.truss.specs.Limits.{max_accounts, max_links}
use Rattle.truss.specs.Lists.{concat_map}
use Rattle.truss.specs.Graph.{Link, Pair, Graph, link, link_of, graph_of, member}
use Rattle.truss.specs.Refusal.{Checked, passed, refuse_if, and_then}
use Rattle.truss.specs.Record.{kind_head, kind_end, kind_plain_link, body_length, holds_body, field, field_at, head_bytes, end_bytes, whole}

-- what a head says
pub record Head : Type 0 where
  pub n : ℕ
  pub m : ℕ

-- what an accepted file names: the number of accounts, and the pairs in file order
pub record Links : Type 0 where
  pub n : ℕ
  pub pairs : List Pair

-- "A links file is accepted when it meets none of 1 to 6": the file passes and names n and ps
abbrev pub accepted : ℕ → List Pair → Checked Links
accepted n ps = passed (record { n = n; pairs = ps })

abbrev pub graph_of_links : Links → Graph
graph_of_links l = graph_of l.n l.pairs

-- "The head is checked as 1, 2, 3": 1, no whole head of the kind with which the file begins; 2, "n is 0 or above 1,024"; 3, "m above 2,048"
unfoldable pub read_head : ℕ → List ℕ → Checked Head
unfolding body_length holds_body
read_head kind b =
    let n = field_at b 1 in
    let m = field_at b 3 in
    refuse_if (not (whole b 0 kind)) 1 0
    (refuse_if (eqb n 0 || ltb max_accounts n) 2 0
    (refuse_if (ltb max_links m) 3 0
    (passed (record { n = n; m = m }))))

-- The records after the head, from place `at` on: r plain links, one end, and nothing after it; `seen` has the pairs read so far.
-- "then each record in file order as 1, 4, 5, 6. The first fault met is given.": 1, "unknown or misplaced kind, cut record, bytes after the end";
-- 4, "an account not below n"; 5, "both accounts equal"; 6, "the pair came earlier, either way round".
unfoldable pub read_pairs : List ℕ → ℕ → ℕ → ℕ → List Pair → Checked Links
unfolding body_length holds_body member
read_pairs b n zero at seen =
    refuse_if (not (whole b at kind_end)) 1 at
    (refuse_if (not (eqb (length b) (at + 1))) 1 (at + 1)
    (accepted n seen))
read_pairs b n (suc r) at seen =
    let x = field_at b (at + 1) in
    let y = field_at b (at + 3) in
    refuse_if (not (whole b at kind_plain_link)) 1 at
    (refuse_if (leb n x || leb n y) 4 at
    (refuse_if (eqb x y) 5 at
    (refuse_if (member (map link_of seen) (link x y)) 6 at
    (read_pairs b n r (at + 5) (seen ++ (record { first = x; second = y } ∷ []))))))

-- "A links file is one head, m plain links in any order, one end."
unfoldable pub read_links : List ℕ → Checked Links
unfolding and_then read_head read_pairs
read_links b = and_then (read_head kind_head b) (λ h. read_pairs b h.n h.m 5 [])

-- ---- a links file as it is written: pairs in a given order

abbrev pub pair_bytes : Pair → List ℕ
pair_bytes p = kind_plain_link ∷ (field p.first ++ field p.second)

unfoldable pub write_links : ℕ → List Pair → List ℕ
unfolding concat_map
write_links n ps = head_bytes kind_head n (length ps) ++ (concat_map pair_bytes ps ++ end_bytes)

-- "A links file read back has its links in index order, lower account first."
abbrev pub lower_first : Link → Pair
lower_first e = record { first = e.lo; second = e.hi }

unfoldable pub pairs_of : Graph → List Pair
pairs_of G = map lower_first G.links

unfoldable pub read_back : Graph → List ℕ
unfolding write_links pairs_of
read_back G = write_links G.n (pairs_of G)

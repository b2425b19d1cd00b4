-- The cards of the worked cases, and what they share.
use Rattle.std.specs.Prelude.{List, [], ◌∷◌, ◌++◌, ℕ, replicate}
use Rattle.truss.specs.Lists.{concat_map}
use Rattle.truss.specs.Graph.{Pair, Graph, Triangle, graph_of}
use Rattle.truss.specs.Record.{kind_head, kind_index_head, field, head_bytes, end_bytes}
use Rattle.truss.specs.LinksFile.{pair_bytes}
use Rattle.truss.specs.Index.{Index, index_bytes}

unfoldable pub pair : ℕ → ℕ → Pair
pair a b = record { first = a; second = b }

unfoldable pub corners : ℕ → ℕ → ℕ → Triangle
corners a b c = record { a = a; b = b; c = c }

-- a links file whose head says n and m, with these pairs and these bytes at the end
unfoldable pub file : ℕ → ℕ → List Pair → List ℕ → List ℕ
unfolding concat_map
file n m ps end = head_bytes kind_head n m ++ (concat_map pair_bytes ps ++ end)

-- a head with no links, and the end
unfoldable pub head_only : ℕ → List ℕ
head_only n = head_bytes kind_head n 0 ++ end_bytes

-- the index of no links
unfoldable pub index_only : ℕ → List ℕ
index_only n = head_bytes kind_index_head n 0 ++ end_bytes

-- accounts as a question is lent them
unfoldable pub accounts : List ℕ → List ℕ
unfolding concat_map
accounts vs = concat_map field vs

-- the tallies of a desk's 32 windows, each 7
unfoldable pub sevens : List ℕ
sevens = replicate 32 7

-- Card A: "n = 5; links 0-1, 0-2, 1-2, 1-3, 2-3, 3-4"
unfoldable pub pairs_a : List Pair
unfolding pair
pairs_a = pair 0 1 ∷ pair 0 2 ∷ pair 1 2 ∷ pair 1 3 ∷ pair 2 3 ∷ pair 3 4 ∷ []

-- the same pairs in another order, some with the higher account first
unfoldable pub pairs_a' : List Pair
unfolding pair
pairs_a' = pair 3 4 ∷ pair 3 2 ∷ pair 0 1 ∷ pair 2 0 ∷ pair 3 1 ∷ pair 1 2 ∷ []

unfoldable pub graph_a : Graph
unfolding pairs_a graph_of
graph_a = graph_of 5 pairs_a

-- "that card's index becomes 90 bytes"
unfoldable pub index_a : List ℕ
index_a =
    0x07 ∷ 0x00 ∷ 0x05 ∷ 0x00 ∷ 0x06
    ∷ 0x02 ∷ 0x00 ∷ 0x00 ∷ 0x00 ∷ 0x01 ∷ 0x03 ∷ 0x00 ∷ 0x00
    ∷ 0x02 ∷ 0x00 ∷ 0x00 ∷ 0x00 ∷ 0x02 ∷ 0x03 ∷ 0x00 ∷ 0x00
    ∷ 0x02 ∷ 0x00 ∷ 0x01 ∷ 0x00 ∷ 0x02 ∷ 0x03 ∷ 0x00 ∷ 0x00
    ∷ 0x02 ∷ 0x00 ∷ 0x01 ∷ 0x00 ∷ 0x03 ∷ 0x03 ∷ 0x00 ∷ 0x00
    ∷ 0x02 ∷ 0x00 ∷ 0x02 ∷ 0x00 ∷ 0x03 ∷ 0x03 ∷ 0x00 ∷ 0x00
    ∷ 0x02 ∷ 0x00 ∷ 0x03 ∷ 0x00 ∷ 0x04 ∷ 0x02 ∷ 0x00 ∷ 0x01
    ∷ 0x03 ∷ 0x00 ∷ 0x00 ∷ 0x00 ∷ 0x01 ∷ 0x03
    ∷ 0x03 ∷ 0x00 ∷ 0x00 ∷ 0x00 ∷ 0x02 ∷ 0x03
    ∷ 0x03 ∷ 0x00 ∷ 0x02 ∷ 0x00 ∷ 0x03 ∷ 0x03
    ∷ 0x03 ∷ 0x00 ∷ 0x02 ∷ 0x00 ∷ 0x04 ∷ 0x03
    ∷ 0x04 ∷ 0xFF ∷ 0xFF ∷ 0x03 ∷ 0x00 ∷ 0x00
    ∷ 0x04 ∷ 0xFF ∷ 0xFF ∷ 0x02 ∷ 0x00 ∷ 0x05
    ∷ 0x05 ∷ []

-- Card B: "n = 7; all pairs of {0,1,2,3}, all pairs of {3,4,5,6}, and 2-4"
unfoldable pub graph_b : Graph
unfolding pair graph_of
graph_b =
    graph_of 7
    (pair 0 1 ∷ pair 0 2 ∷ pair 0 3 ∷ pair 1 2 ∷ pair 1 3 ∷ pair 2 3 ∷ pair 3 4 ∷ pair 3 5 ∷ pair 3 6 ∷ pair 4 5 ∷ pair 4 6 ∷ pair 5 6 ∷ pair 2 4 ∷ [])

unfoldable pub index_b : List ℕ
unfolding graph_b index_bytes
index_b = index_bytes graph_b

-- two triangles that share account 2
unfoldable pub bow_tie : Graph
unfolding pair graph_of
bow_tie = graph_of 5 (pair 0 1 ∷ pair 0 2 ∷ pair 1 2 ∷ pair 2 3 ∷ pair 2 4 ∷ pair 3 4 ∷ [])

-- all pairs of five
unfoldable pub five : Graph
unfolding pair graph_of
five = graph_of 5 (pair 0 1 ∷ pair 0 2 ∷ pair 0 3 ∷ pair 0 4 ∷ pair 1 2 ∷ pair 1 3 ∷ pair 1 4 ∷ pair 2 3 ∷ pair 2 4 ∷ pair 3 4 ∷ [])

-- three groups, one in the other: all pairs of {0,1,2,3,4}; 5 with 0, 1, 2; 6 with 0, 1; and 7, an account without links
unfoldable pub nested : Graph
unfolding pair graph_of
nested =
    graph_of 8
    (pair 0 1 ∷ pair 0 2 ∷ pair 0 3 ∷ pair 0 4 ∷ pair 1 2 ∷ pair 1 3 ∷ pair 1 4 ∷ pair 2 3 ∷ pair 2 4 ∷ pair 3 4
    ∷ pair 0 5 ∷ pair 1 5 ∷ pair 2 5 ∷ pair 0 6 ∷ pair 1 6 ∷ [])

-- at 4 the link 0-2 falls in the third round of peeling
unfoldable pub slow : Graph
unfolding pair graph_of
slow = graph_of 6 (pair 0 2 ∷ pair 0 3 ∷ pair 0 4 ∷ pair 0 5 ∷ pair 1 2 ∷ pair 1 4 ∷ pair 1 5 ∷ pair 2 4 ∷ pair 2 5 ∷ pair 3 4 ∷ pair 3 5 ∷ [])

-- card B with other numbers: the weak side of the triangle between the groups is its first (2-3 of 2-3-6), and its last (1-4 of 0-1-4)
unfoldable pub weak_first : Graph
unfolding pair graph_of
weak_first =
    graph_of 7
    (pair 0 1 ∷ pair 0 2 ∷ pair 0 6 ∷ pair 1 2 ∷ pair 1 6 ∷ pair 2 6 ∷ pair 3 4 ∷ pair 3 5 ∷ pair 3 6 ∷ pair 4 5 ∷ pair 4 6 ∷ pair 5 6 ∷ pair 2 3 ∷ [])

unfoldable pub weak_last : Graph
unfolding pair graph_of
weak_last =
    graph_of 7
    (pair 0 1 ∷ pair 0 2 ∷ pair 0 3 ∷ pair 1 2 ∷ pair 1 3 ∷ pair 2 3 ∷ pair 0 4 ∷ pair 0 5 ∷ pair 0 6 ∷ pair 4 5 ∷ pair 4 6 ∷ pair 5 6 ∷ pair 1 4 ∷ [])

-- two triangles that share a link: tells the order of joins of equal weight
unfoldable pub kite : Graph
unfolding pair graph_of
kite = graph_of 4 (pair 0 1 ∷ pair 0 2 ∷ pair 0 3 ∷ pair 1 2 ∷ pair 2 3 ∷ [])

-- two triangles apart, 0-3-4 and 1-2-5, of which the first has both the least and the greatest link: tells the order of groups of equal strength
unfoldable pub two_apart : Graph
unfolding pair graph_of
two_apart = graph_of 6 (pair 0 3 ∷ pair 0 4 ∷ pair 3 4 ∷ pair 1 2 ∷ pair 1 5 ∷ pair 2 5 ∷ [])

-- account 3 linked to all others, which stand in a ring 0-4-1-2-5: two ways of three triangles from 0-5 to 1-3
unfoldable pub wheel : Graph
unfolding pair graph_of
wheel =
    graph_of 6
    (pair 0 3 ∷ pair 1 3 ∷ pair 2 3 ∷ pair 3 4 ∷ pair 3 5 ∷ pair 0 4 ∷ pair 1 4 ∷ pair 1 2 ∷ pair 2 5 ∷ pair 0 5 ∷ [])

-- a strip of six triangles: 0-1-2, 1-2-3, .. 5-6-7
unfoldable pub strip : Graph
unfolding pair graph_of
strip =
    graph_of 8
    (pair 0 1 ∷ pair 1 2 ∷ pair 2 3 ∷ pair 3 4 ∷ pair 4 5 ∷ pair 5 6 ∷ pair 6 7 ∷ pair 0 2 ∷ pair 1 3 ∷ pair 2 4 ∷ pair 3 5 ∷ pair 4 6 ∷ pair 5 7 ∷ [])

-- two groups of strength 3 that share account 2: the triangle 0-1-2, and 2-3-4 with 3-4-5, which holds one account more
unfoldable pub two_sizes : Graph
unfolding pair graph_of
two_sizes = graph_of 6 (pair 0 1 ∷ pair 0 2 ∷ pair 1 2 ∷ pair 2 3 ∷ pair 2 4 ∷ pair 3 4 ∷ pair 3 5 ∷ pair 4 5 ∷ [])

-- a clique of four accounts, and at its account 3 a strip of three triangles, weaker with five accounts
unfoldable pub strong_and_large : Graph
unfolding pair graph_of
strong_and_large =
    graph_of 8
    (pair 0 1 ∷ pair 0 2 ∷ pair 0 3 ∷ pair 1 2 ∷ pair 1 3 ∷ pair 2 3 ∷ pair 3 4 ∷ pair 3 5 ∷ pair 4 5 ∷ pair 4 6 ∷ pair 5 6 ∷ pair 5 7 ∷ pair 6 7 ∷ [])

-- at account 3 two groups of strength 3: two triangles of four accounts, and 3-4-5 with the clique 4-5-6-7 nested in it, whose own links have three accounts as ends, all its links five
unfoldable pub larger_by_nested : Graph
unfolding pair graph_of
larger_by_nested =
    graph_of 8
    (pair 0 1 ∷ pair 0 2 ∷ pair 1 2 ∷ pair 1 3 ∷ pair 2 3 ∷ pair 3 4 ∷ pair 3 5 ∷ pair 4 5 ∷ pair 4 6 ∷ pair 4 7 ∷ pair 5 6 ∷ pair 5 7 ∷ pair 6 7 ∷ [])

-- at account 4 two groups of strength 3 and of five accounts: a strip of seven links, and four triangles around account 4, of eight links
unfoldable pub more_links : Graph
unfolding pair graph_of
more_links =
    graph_of 9
    (pair 0 1 ∷ pair 0 2 ∷ pair 1 2 ∷ pair 1 3 ∷ pair 2 3 ∷ pair 2 4 ∷ pair 3 4 ∷ pair 4 5 ∷ pair 4 6 ∷ pair 4 7 ∷ pair 4 8 ∷ pair 5 6 ∷ pair 6 7 ∷ pair 7 8 ∷ pair 5 8 ∷ [])

-- four groups at account 0: the triangle 0-1-2, then 0-3-4 with 3-4-5, the triangle 0-6-7, and the clique 0-8-9-10
unfoldable pub fan : Graph
unfolding pair graph_of
fan =
    graph_of 11
    (pair 0 1 ∷ pair 0 2 ∷ pair 1 2 ∷ pair 0 3 ∷ pair 0 4 ∷ pair 3 4 ∷ pair 3 5 ∷ pair 4 5 ∷ pair 0 6 ∷ pair 0 7 ∷ pair 6 7
    ∷ pair 0 8 ∷ pair 0 9 ∷ pair 0 10 ∷ pair 8 9 ∷ pair 8 10 ∷ pair 9 10 ∷ [])

-- three lone links: a path 0-1-2 of two that share account 1, and 3-4 apart from them
unfoldable pub three_lone : Graph
unfolding pair graph_of
three_lone = graph_of 5 (pair 4 3 ∷ pair 1 2 ∷ pair 0 1 ∷ [])

-- a lone link that is the first of all links, at one account of a triangle
unfoldable pub lone_first : Graph
unfolding pair graph_of
lone_first = graph_of 4 (pair 1 2 ∷ pair 1 3 ∷ pair 2 3 ∷ pair 0 1 ∷ [])

-- one triangle, and its index of 48 bytes
unfoldable pub triangle : Graph
unfolding pair graph_of
triangle = graph_of 3 (pair 2 0 ∷ pair 0 1 ∷ pair 2 1 ∷ [])

unfoldable pub index_t : List ℕ
unfolding triangle index_bytes
index_t = index_bytes triangle

-- rows whose fields need both bytes (of no graph), and their bytes
unfoldable pub large_rows : Index
large_rows =
    record {
      n = 600;
      m = 300;
      links = record { lo = 258; hi = 772; strength = 5; group = 1543 } ∷ [];
      joins = record { lower = 2057; higher = 2571; weight = 12 } ∷ [];
      groups = record { parent = 3342; strength = 15; least = 4113 } ∷ [];
    }

unfoldable pub large_bytes : List ℕ
large_bytes =
    7 ∷ 2 ∷ 88 ∷ 1 ∷ 44
    ∷ 2 ∷ 1 ∷ 2 ∷ 3 ∷ 4 ∷ 5 ∷ 6 ∷ 7
    ∷ 3 ∷ 8 ∷ 9 ∷ 10 ∷ 11 ∷ 12
    ∷ 4 ∷ 13 ∷ 14 ∷ 15 ∷ 16 ∷ 17
    ∷ 5 ∷ []

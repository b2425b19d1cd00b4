-- The links of an accepted file's graph are in order, each once.
use mathlib.Core.Path.{◌≡◌}
use mathlib.Core.Logic.{◌⊎◌, inl, inr, ◌≢◌}
use mathlib.Core.Bool.{true, false}
use mathlib.Core.List.{List, map}
use Prim.Native.Nat.{ℕ, ◌<◌}
use Rattle.truss.specs.Graph.{Link, Pair, link, link_of, links_of, link_before, link_at, graph_of}
use Rattle.laws.proofs.Lists.{test}
use Rattle.laws.proofs.Members.{sort_sorted}
use Rattle.laws.proofs.Sets.{sorted_at}
use Rattle.laws.proofs.Ordering.{Distinct, NotAfter, not_after_trans, not_after_antisym, before_yes, before_no, sort-distinct}
use Rattle.laws.proofs.Groups.{size}
use Rattle.laws.proofs.Accepted.{GoodPairs, graph_proper, links_distinct}
use Rattle.laws.proofs.Sides.{InOrder}

pub graph_distinct : (n : ℕ) (ps : List Pair) → GoodPairs n ps → Distinct (graph_of n ps).links
unfolding graph_of links_of
graph_distinct n ps good = sort-distinct link_before (map link_of ps) (links_distinct n ps good)

pub graph_in_order : (n : ℕ) (ps : List Pair) → GoodPairs n ps → InOrder (graph_of n ps)
unfolding graph_of links_of
graph_in_order n ps good = record { proper = graph_proper n ps good; rises = rises }
  where
    rises : (i j : ℕ) → i < j → j < size (graph_of n ps) → link_before (link_at (graph_of n ps) i) (link_at (graph_of n ps) j) ≡ true
    rises i j l k = go (test (link_before (link_at (graph_of n ps) i) (link_at (graph_of n ps) j)))
      where
        up : NotAfter (link_at (graph_of n ps) i) (link_at (graph_of n ps) j)
        up = sorted_at NotAfter (link 0 0) (graph_of n ps).links (sort_sorted link_before NotAfter not_after_trans before_yes before_no (map link_of ps)) i j l k

        ne : link_at (graph_of n ps) i ≢ link_at (graph_of n ps) j
        ne = sorted_at (λ (e f : Link). e ≢ f) (link 0 0) (graph_of n ps).links (graph_distinct n ps good) i j l k

        go : (link_before (link_at (graph_of n ps) i) (link_at (graph_of n ps) j) ≡ true) ⊎ (link_before (link_at (graph_of n ps) i) (link_at (graph_of n ps) j) ≡ false)
            → link_before (link_at (graph_of n ps) i) (link_at (graph_of n ps) j) ≡ true
        go (inl c) = c
        go (inr c) = absurd (ne (not_after_antisym (link_at (graph_of n ps) i) (link_at (graph_of n ps) j) up (before_no (link_at (graph_of n ps) i) (link_at (graph_of n ps) j) c)))

-- A solved work space holds the index of its graph. Assumes nothing.
use Rattle.std.specs.Prelude.{◌≡◌, List, map, ℕ, ◌+◌, ◌*◌, ◌/◌, ◌%◌, ◌≤◌, ◌<◌, length, get_or}
use Rattle.std.proofs.Math.Path.{sym, ap}
use Rattle.std.proofs.Common.{◌∙◌, arith, ext_get_or}
use Rattle.std.proofs.lemmas.List.{length-map}
use Rattle.truss.specs.Limits.{no_group}
use Rattle.truss.specs.Lists.{range}
use Rattle.truss.specs.Graph.{Pair, Graph, graph_of, link_at}
use Rattle.truss.specs.Strength.{strength}
use Rattle.truss.specs.Forest.{Join, join, forest}
use Rattle.truss.specs.Group.{groups}
use Rattle.truss.specs.Index.{LinkRow, GroupRow, index, link_row}
use Rattle.truss.specs.Stored.{row_at, group_row_at}
use Rattle.laws.proofs.Proper.{Proper}
use Rattle.laws.proofs.Members.{range_length, get_d_in}
use Rattle.laws.proofs.Sets.{map_range_at}
use Rattle.laws.proofs.Groups.{size}
use Rattle.laws.proofs.Tree.{rows-length, row_at_lem, group_rows_length}
use Rattle.laws.proofs.Accepted.{graph_size}
use Rattle.laws.proofs.Accepted.{Named as Accepted}
use Rattle.laws.proofs.Agree.{index_fits}
use Rattle.laws.proofs.Bytes.{SmallRows, index_small}
use Rattle.laws.proofs.Decoding.{IndexFits}
use Rattle.laws.proofs.InOrder.{graph_in_order, graph_distinct}
use Rattle.columns.specs.Columns.{cell}
use Rattle.columns.specs.Named.{Named}
use Rattle.strength.specs.Whole.{Strengths, afterwards}
use Rattle.unions.specs.State.{Given}
use Rattle.groups.specs.Whole.{Tree, forest_join}
use Rattle.indexfile.specs.Rows.{row_in, join_in, group_in, index_in, Writes}

-- column 0 names the graph of these pairs, within the limits
pub record SolveAsks (n m : ℕ) (ps : List Pair) (w : List ℕ) : Type 0 where
  pub accepted : Accepted n ps
  pub named : Named (graph_of n ps) m n w

-- all that is no result is 0
pub record Blank (m joins groups : ℕ) (w : List ℕ) : Type 0 where
  pub joins_end : (d i : ℕ) → 9 ≤ d → d < 11 → joins ≤ i → i < m → cell w m d i ≡ 0
  pub groups_end : (d g : ℕ) → 11 ≤ d → d < 14 → groups ≤ g → g < m → cell w m d g ≡ 0
  pub low : (d i : ℕ) → 1 ≤ d → d < 4 → i < m → cell w m d i ≡ 0
  pub middle : (d i : ℕ) → 5 ≤ d → d < 8 → i < m → cell w m d i ≡ 0
  pub high : (d i : ℕ) → 14 ≤ d → d < 16 → i < m → cell w m d i ≡ 0

pub record Solved (n m joins groups : ℕ) (ps : List Pair) (w : List ℕ) : Type 0 where
  pub index_is : index_in w n m joins groups ≡ index (graph_of n ps)
  pub writes : Writes w m joins groups
  pub blank : Blank m joins groups w

abbrev pub SolveGiven : ℕ → ℕ → List ℕ → Type 0
SolveGiven n m w = (ps : List Pair) × SolveAsks n m ps w

abbrev pub SolveGives : ℕ → ℕ → ℕ → ℕ → List ℕ → List ℕ → Type 0
SolveGives n m joins groups w w' = (ps : List Pair) → SolveAsks n m ps w → Solved n m joins groups ps w'

module _ {n m : ℕ} {ps : List Pair} {w : List ℕ} (P : SolveAsks n m ps w) where
  abbrev G : Graph
  G = graph_of n ps

  few_links : size G ≤ no_group
  few_links = omega (arith, P.named.count, P.named.few)

  -- what the forest asks after the strengths
  pub given : {r : ℕ} {w₁ : List ℕ} → Strengths G m r w w₁ → Given G m n w₁
  unfolding afterwards
  given S = record {
    order = graph_in_order n ps P.accepted.good;
    accounts = P.named.accounts;
    count = P.named.count;
    few = P.named.few;
    small = P.named.small;
    size_is = S.length_is ∙ P.named.size;
    key = λ i l. S.entries 0 i (omega arith) l ∙ P.named.key i l;
    strengths = λ i l. S.entries 4 i (omega arith) l;
  }

  module _ {r joins count : ℕ} {w₁ w₂ : List ℕ} (S : Strengths G m r w w₁) (T : Tree G m joins count w₁ w₂) where
    proper : Proper G
    proper = P.named.proper

    fits : IndexFits (index G)
    fits = index_fits G proper (omega (arith, P.named.accounts, P.named.small)) few_links (omega (arith, P.named.accounts, P.named.small))

    small : SmallRows (index G)
    small = index_small G proper (graph_distinct n ps P.accepted.good) (omega (arith, graph_size n ps, P.accepted.links))

    key_at_lem : (i : ℕ) → i < m → cell w₂ m 0 i ≡ (link_at G i).lo * 65536 + (link_at G i).hi
    unfolding afterwards
    key_at_lem i l = T.keys i l ∙ S.entries 0 i (omega arith) l ∙ P.named.key i l

    row_is : (i : ℕ) → i < m → row_in w₂ m i ≡ row_at (index G) i
    unfolding afterwards link_row
    row_is i l =
        let li : i < size G = omega (arith, P.named.count) in
        let r = row_at_lem G proper few_links i li in
        let f = fits.links_fit (row_at (index G) i) (get_d_in _ (index G).links i (omega (arith, rows-length G proper few_links))) in
        let lo : (row_at (index G) i).lo ≡ (link_at G i).lo = ap (λ (x : LinkRow). x.lo) r in
        let hi : (row_at (index G) i).hi ≡ (link_at G i).hi = ap (λ (x : LinkRow). x.hi) r in
        let st : (row_at (index G) i).strength ≡ strength G (link_at G i) = ap (λ (x : LinkRow). x.strength) r in
        let a : cell w₂ m 0 i / 65536 ≡ (row_at (index G) i).lo = omega (arith, key_at_lem i l, lo, hi, f.hi_fits) in
        let b : cell w₂ m 0 i % 65536 ≡ (row_at (index G) i).hi = omega (arith, key_at_lem i l, lo, hi, f.hi_fits) in
        let c : cell w₂ m 4 i ≡ (row_at (index G) i).strength = T.strengths i l ∙ S.entries 4 i (omega arith) l ∙ sym st in
        let d = T.own_groups i l in
        λ j. record { lo = a j; hi = b j; strength = c j; group = d j }

    links_are : map (row_in w₂ m) (range 0 m) ≡ (index G).links
    links_are = ext_get_or (record { lo = 0; hi = 0; strength = 0; group = 0 }) (map (row_in w₂ m) (range 0 m)) (index G).links
        (long ∙ sym (rows-length G proper few_links ∙ P.named.count))
        (λ i l. let k : i < m = omega (arith, l, long) in at i k)
      where
        long : length (map (row_in w₂ m) (range 0 m)) ≡ m
        long = length-map (range 0 m) (row_in w₂ m) ∙ range_length 0 m

        at : (i : ℕ) → i < m → get_or (map (row_in w₂ m) (range 0 m)) i (record { lo = 0; hi = 0; strength = 0; group = 0 }) ≡ row_at (index G) i
        at i l = map_range_at (row_in w₂ m) (record { lo = 0; hi = 0; strength = 0; group = 0 }) 0 m i l ∙ ap (row_in w₂ m) (omega arith) ∙ row_is i l

    join_is : (q : ℕ) → q < joins → join_in w₂ m q ≡ forest_join G q
    unfolding index
    join_is q l =
        let f = fits.joins_fit (forest_join G q) (get_d_in _ (forest G) q (omega (arith, T.joins, l))) in
        let e = T.join_ends q l in
        let a : cell w₂ m 9 q / 65536 ≡ (forest_join G q).lower = omega (arith, e, f.higher_fits) in
        let b : cell w₂ m 9 q % 65536 ≡ (forest_join G q).higher = omega (arith, e, f.higher_fits) in
        let c = T.join_weights q l in
        λ j. record { lower = a j; higher = b j; weight = c j }

    joins_are : map (join_in w₂ m) (range 0 joins) ≡ forest G
    joins_are = ext_get_or (join 0 0 0) (map (join_in w₂ m) (range 0 joins)) (forest G) (long ∙ T.joins) (λ q l. at q (omega (arith, l, long)))
      where
        long : length (map (join_in w₂ m) (range 0 joins)) ≡ joins
        long = length-map (range 0 joins) (join_in w₂ m) ∙ range_length 0 joins

        at : (q : ℕ) → q < joins → get_or (map (join_in w₂ m) (range 0 joins)) q (join 0 0 0) ≡ forest_join G q
        at q l = map_range_at (join_in w₂ m) (join 0 0 0) 0 joins q l ∙ ap (join_in w₂ m) (omega arith) ∙ join_is q l

    group_is : (g : ℕ) → g < count → group_in w₂ m g ≡ group_row_at (index G) g
    group_is g l =
        let a = T.group_parents g l in
        let b = T.group_strengths g l in
        let c = T.group_leasts g l in
        λ j. record { parent = a j; strength = b j; least = c j }

    groups_are : map (group_in w₂ m) (range 0 count) ≡ (index G).groups
    groups_are = ext_get_or (record { parent = 0; strength = 0; least = 0 }) (map (group_in w₂ m) (range 0 count)) (index G).groups
        (long ∙ T.groups ∙ sym (group_rows_length G proper few_links)) (λ g l. at g (omega (arith, l, long)))
      where
        long : length (map (group_in w₂ m) (range 0 count)) ≡ count
        long = length-map (range 0 count) (group_in w₂ m) ∙ range_length 0 count

        at : (g : ℕ) → g < count → get_or (map (group_in w₂ m) (range 0 count)) g (record { parent = 0; strength = 0; least = 0 }) ≡ group_row_at (index G) g
        at g l = map_range_at (group_in w₂ m) (record { parent = 0; strength = 0; least = 0 }) 0 count g l ∙ ap (group_in w₂ m) (omega arith) ∙ group_is g l

    pub solved : Solved n m joins count ps w₂
    unfolding index_in index
    solved = record {
      index_is =
          let a = P.named.accounts in
          let b = P.named.count in
          λ j. record { n = sym a j; m = sym b j; links = links_are j; joins = joins_are j; groups = groups_are j };
      writes = record {
        size = T.length_is ∙ S.length_is ∙ P.named.size;
        few = P.named.few;
        few_joins = T.joins_fit;
        few_groups = T.groups_fit;
        strengths = λ i l. let q = ap (λ (x : LinkRow). x.strength) (row_is i l) in rw q (small.links_small (row_at (index G) i) (get_d_in _ (index G).links i (omega (arith, rows-length G proper few_links, P.named.count))));
        weights = λ q l. let e = ap (λ (x : Join). x.weight) (join_is q l) in rw e (small.joins_small (forest_join G q) (get_d_in _ (forest G) q (omega (arith, T.joins))));
        group_strengths = λ g l. let e = ap (λ (x : GroupRow). x.strength) (group_is g l) in rw e (small.groups_small (group_row_at (index G) g) (get_d_in _ (index G).groups g (omega (arith, T.groups, group_rows_length G proper few_links))));
      };
      blank = record { joins_end = T.joins_end; groups_end = T.groups_end; low = T.low; middle = T.middle; high = T.high };
    }

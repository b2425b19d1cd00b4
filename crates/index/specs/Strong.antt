-- The strong links of an index, read at their places: what the reader checks of them, that every index passes, and the graph that they name. Assumes nothing.
use Rattle.std.specs.Prelude.{◌≡◌, ◌⊎◌, ◌&&◌, ℕ, ◌+◌, ◌*◌, ◌≤◌, ◌<◌, eqb, ltb}
use Rattle.std.proofs.Math.Path.{refl, sym, ap, ap₂}
use Rattle.std.proofs.Common.{◌∙◌, inl, inr, ext_get_or}
use Rattle.std.proofs.Math.Bool.{true}
use mathlib.Core.List.{List, ◌++◌, map}
use native.Mathlib.Omega.{arith}
use Rattle.std.proofs.Math.ListN.{length, get_or, length-append}
use Rattle.std.proofs.lemmas.List.{length-map}
use borrow.Author.Tests.{eq-eqb, ne_eqb, le-leb, le-ltb, ltb-true, eqb-true}
use Rattle.truss.specs.Limits.{max_accounts, max_links, no_group}
use Rattle.truss.specs.Lists.{concat_map, range}
use Rattle.truss.specs.Graph.{Link, Pair, Graph, link, link_before, graph_of, link_at, member}
use Rattle.truss.specs.Refusal.{passed}
use Rattle.truss.specs.Record.{kind_index_head, kind_strong_link, body_length, holds_body, byte_at, field_at, head_bytes, end_bytes, whole}
use Rattle.truss.specs.LinksFile.{read_head}
use Rattle.truss.specs.Index.{LinkRow, link_bytes, join_bytes, group_bytes, encode, index, index_bytes, link_row}
use Rattle.truss.specs.Stored.{row_at}
use Rattle.laws.proofs.Lists.{both, and_left, and_right, or_cases}
use Rattle.laws.proofs.Members.{range_length, get_d_in, in_member}
use Rattle.laws.proofs.Sets.{map_range_at}
use Rattle.laws.proofs.Proper.{Proper}
use Rattle.laws.proofs.Groups.{size}
use Rattle.laws.proofs.Tree.{rows-length, row_at_lem}
use Rattle.laws.proofs.Decoding.{field_back}
use Rattle.laws.proofs.Accepted.{graph_size, graph_proper}
use Rattle.laws.proofs.Accepted.{Named as Accepted}
use Rattle.laws.proofs.InOrder.{graph_in_order}
use Rattle.wire.specs.Writing.{up_to, up_to_rows, up_to_length}
use Rattle.wire.specs.RowBytes.{row_byte}

-- the place of strong link i, and its key
abbrev pub strong_place : ℕ → ℕ
strong_place i = 5 + 8 * i

abbrev pub strong_pair : List ℕ → ℕ → Pair
strong_pair b i = record { first = field_at b (strong_place i + 1); second = field_at b (strong_place i + 3) }

abbrev pub strong_key : List ℕ → ℕ → ℕ
strong_key b i = (strong_pair b i).first * 65536 + (strong_pair b i).second

-- a strong link stands there, of different accounts below n, the lower first
pub record Strong (b : List ℕ) (n i : ℕ) : Type 0 where
  pub is_whole : whole b (strong_place i) kind_strong_link ≡ true
  pub ordered : (strong_pair b i).first < (strong_pair b i).second
  pub below : (strong_pair b i).second < n

-- m of them, in order
pub record AllStrong (b : List ℕ) (n m : ℕ) : Type 0 where
  pub each : (i : ℕ) → i < m → Strong b n i
  pub rises : (i j : ℕ) → i < j → j < m → strong_key b i < strong_key b j

-- links in order, by their accounts
before_cases : (e f : Link) → link_before e f ≡ true → (e.lo < f.lo) ⊎ ((e.lo ≡ f.lo) × (e.hi < f.hi))
before_cases e f h = go (or_cases (ltb e.lo f.lo) (eqb e.lo f.lo && ltb e.hi f.hi) h)
  where
    go : (ltb e.lo f.lo ≡ true) ⊎ ((eqb e.lo f.lo && ltb e.hi f.hi) ≡ true) → (e.lo < f.lo) ⊎ ((e.lo ≡ f.lo) × (e.hi < f.hi))
    go (inl c) = inl (ltb-true e.lo f.lo c)
    go (inr c) =
        inr (eqb-true e.lo f.lo (and_left (eqb e.lo f.lo) (ltb e.hi f.hi) c), ltb-true e.hi f.hi (and_right (eqb e.lo f.lo) (ltb e.hi f.hi) c))

-- ---- every index passes

module _ (n : ℕ) (ps : List Pair) (accepted : Accepted n ps) where
  abbrev G : Graph
  G = graph_of n ps

  abbrev m : ℕ
  m = length ps

  proper : Proper G
  proper = graph_proper n ps accepted.good

  count : size G ≡ m
  count = graph_size n ps

  few : size G ≤ no_group
  few = omega (arith, count, accepted.links)

  f : ℕ → List ℕ
  f i = link_bytes (row_at (index G) i)

  rows_are : (index G).links ≡ map (row_at (index G)) (range 0 m)
  rows_are = ext_get_or (record { lo = 0; hi = 0; strength = 0; group = 0 }) (index G).links (map (row_at (index G)) (range 0 m))
      (rows-length G proper few ∙ count ∙ sym (length-map (range 0 m) (row_at (index G)) ∙ range_length 0 m))
      (λ i l. sym (map_range_at (row_at (index G)) (record { lo = 0; hi = 0; strength = 0; group = 0 }) 0 m i (omega (arith, l, rows-length G proper few, count)) ∙ ap (row_at (index G)) (omega arith)))

  tail : List ℕ
  tail = concat_map join_bytes (index G).joins ++ (concat_map group_bytes (index G).groups ++ end_bytes)

  bytes_are : index_bytes G ≡ head_bytes kind_index_head (index G).n (index G).m ++ (up_to f m ++ tail)
  unfolding index_bytes encode f tail
  bytes_are =
      ap (λ (x : List ℕ). head_bytes kind_index_head (index G).n (index G).m ++ (x ++ tail)) (ap (concat_map link_bytes) rows_are ∙ sym (up_to_rows link_bytes (row_at (index G)) m))

  long : 5 + m * 8 ≤ length (index_bytes G)
  unfolding f
  long =
      let a = ap length bytes_are in
      let b = length-append (head_bytes kind_index_head (index G).n (index G).m) (up_to f m ++ tail) in
      omega (arith, a, b, length-append (up_to f m) tail, up_to_length f 8 (λ j. refl) m)

  row_fields : (i : ℕ) → i < m → ((row_at (index G) i).lo ≡ (link_at G i).lo) × ((row_at (index G) i).hi ≡ (link_at G i).hi)
  unfolding link_row
  row_fields i l = let r = row_at_lem G proper few i (omega (arith, count)) in (ap (λ (x : LinkRow). x.lo) r, ap (λ (x : LinkRow). x.hi) r)

  link_in : (i : ℕ) → i < m → member G.links (link_at G i) ≡ true
  link_in i l = in_member G.links (get_d_in (link 0 0) G.links i (omega (arith, count)))

  module _ (i : ℕ) (l : i < m) where
    at_row : (j : ℕ) → j < 8 → byte_at (index_bytes G) (strong_place i + j) ≡ get_or (f i) j 0
    unfolding f
    at_row j k =
        let e : strong_place i + j ≡ 5 + i * 8 + j = omega arith in
        ap₂ (λ (x : List ℕ) (y : ℕ). get_or x y 0) bytes_are e ∙ row_byte f 8 (λ j. refl) (head_bytes kind_index_head (index G).n (index G).m) tail m i j l k

    small : ((link_at G i).lo < (link_at G i).hi) × ((link_at G i).hi < n)
    unfolding graph_of
    small = (proper.ordered (link_at G i) (link_in i l), proper.below (link_at G i) (link_in i l))

    pub first_is : (strong_pair (index_bytes G) i).first ≡ (link_at G i).lo
    unfolding f
    first_is =
        let e : strong_place i + 1 + 1 ≡ strong_place i + 2 = omega arith in
        ap₂ (λ (x y : ℕ). x * 256 + y) (at_row 1 (omega arith)) (ap (byte_at (index_bytes G)) e ∙ at_row 2 (omega arith))
        ∙ field_back (row_at (index G) i).lo (omega (arith, (row_fields i l).0, small.0, small.1, accepted.accounts)) ∙ (row_fields i l).0

    pub second_is : (strong_pair (index_bytes G) i).second ≡ (link_at G i).hi
    unfolding f
    second_is =
        let e : strong_place i + 3 + 1 ≡ strong_place i + 4 = omega arith in
        ap₂ (λ (x y : ℕ). x * 256 + y) (at_row 3 (omega arith)) (ap (byte_at (index_bytes G)) e ∙ at_row 4 (omega arith))
        ∙ field_back (row_at (index G) i).hi (omega (arith, (row_fields i l).1, small.1, accepted.accounts)) ∙ (row_fields i l).1

    pub strong_is : whole (index_bytes G) (strong_place i) kind_strong_link ≡ true
    unfolding f body_length holds_body
    strong_is =
        let e : strong_place i ≡ strong_place i + 0 = omega arith in
        both (eq-eqb (byte_at (index_bytes G) (strong_place i)) 2 (ap (byte_at (index_bytes G)) e ∙ at_row 0 (omega arith)))
        (le-leb (strong_place i + 1 + 7) (length (index_bytes G)) (omega (arith, long, l)))

  pub all_strong : AllStrong (index_bytes G) n m
  all_strong = record {
    each = λ i l. record {
      is_whole = strong_is i l;
      ordered = omega (arith, first_is i l, second_is i l, (small i l).0);
      below = omega (arith, second_is i l, (small i l).1);
    };
    rises = λ i j p q. rising i j p q;
  }
    where
      rising : (i j : ℕ) → i < j → j < m → strong_key (index_bytes G) i < strong_key (index_bytes G) j
      rising i j p q = go (before_cases (link_at G i) (link_at G j) ((graph_in_order n ps accepted.good).rises i j p (omega (arith, count))))
        where
          li : i < m
          li = omega arith

          go : ((link_at G i).lo < (link_at G j).lo) ⊎ (((link_at G i).lo ≡ (link_at G j).lo) × ((link_at G i).hi < (link_at G j).hi)) → strong_key (index_bytes G) i < strong_key (index_bytes G) j
          go (inl c) = omega (arith, c, first_is i li, second_is i li, first_is j q, second_is j q, (small i li).1, (small j q).1, accepted.accounts)
          go (inr (c, d)) = omega (arith, c, d, first_is i li, second_is i li, first_is j q, second_is j q)

  -- the head of an index
  pub index_head : read_head kind_index_head (index_bytes G) ≡ passed (record { n = n; m = m })
  unfolding read_head index_bytes encode index graph_of body_length holds_body
  index_head =
      rw (is_head, is_n, is_m, ne_eqb n 0 (omega (arith, accepted.some_account)), le-ltb max_accounts n accepted.accounts, le-ltb max_links m accepted.links) refl
    where
      is_head : whole (index_bytes G) 0 kind_index_head ≡ true
      is_head = le-leb 5 (length (index_bytes G)) (omega arith)

      is_n : field_at (index_bytes G) 1 ≡ n
      is_n = field_back n (omega (arith, accepted.accounts))

      is_m : field_at (index_bytes G) 3 ≡ m
      is_m = ap (λ (x : ℕ). field_at (head_bytes kind_index_head n x) 3) count ∙ field_back m (omega (arith, accepted.links))

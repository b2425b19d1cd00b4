-- Opening an index: which bytes are one, and what is known of it then. Assumes nothing.
use Rattle.std.specs.Prelude.{Option, None, Some, ◌≡◌, refl, ◌⊎◌, ◌≢◌, Bool, true, false, List, ◌++◌, map, ℕ, zero, suc, ◌+◌, ◌*◌, ◌-◌, ◌≤◌, ◌<◌, length, get_or, take, drop}
use Rattle.std.proofs.Common.{sym, ap, ap₂, ◌∙◌, subst, inl, inr, arith, ext_get_or, take_at}
use mathlib.Core.List.{Memᴰ as In}
use Rattle.std.proofs.lemmas.List.{length-map}
use Rattle.truss.specs.Limits.{max_accounts, max_links}
use Rattle.truss.specs.Lists.{range}
use Rattle.truss.specs.Graph.{Pair, Graph, link, link_of, graph_of}
use Rattle.truss.specs.Refusal.{Checked, passed, refused, refuse}
use Rattle.truss.specs.Record.{kind_index_head, kind_strong_link, body_length, field_at, whole}
use Rattle.truss.specs.LinksFile.{Head, read_head, write_links, lower_first, pairs_of}
use Rattle.truss.specs.Index.{Index as IndexRows, encode, index, index_bytes}
use Rattle.truss.specs.IndexFile.{IsIndexOf, read_index}
use Rattle.laws.proofs.Members.{map_in, in_map, range_in, in_range, range_length, Sorted}
use Rattle.laws.proofs.Sets.{map_range_at, map_at}
use Rattle.laws.proofs.Accepted.{GoodPairs, GoodHead, head_good, read_named, graph_size}
use Rattle.laws.proofs.Accepted.{Named as Accepted}
use Rattle.laws.proofs.Reading.{write_read, read-index, refused_7, graph_again}
use Rattle.laws.proofs.Numbers.{same_or_not, less_or_not}
use Rattle.columns.specs.Columns.{cell, store, KEY, STRENGTH, COLUMNS}
use Rattle.columns.specs.Laws.{stored, kept_entry, length-store}
use Rattle.columns.specs.Wiping.{Wiped, Wiping, wiped_still, wiping_still, zeros, zeros-length, cells_zero}
use Rattle.wire.specs.Wire.{whole_within}
use Rattle.wire.specs.Writing.{Tells}
use Rattle.linksfile.specs.SortedLinks.{Row, row_named}
use Rattle.linksfile.specs.Records.{key_of}
use Rattle.linksfile.specs.Load.{ScanAsks}
use Rattle.index.specs.declared.open.Outline.{Outline}
use Rattle.indexfile.specs.Rows.{join_in, group_in, groups_from, index_in}
use Rattle.index.specs.Solved.{Blank, SolveAsks, Solved}
use Rattle.index.specs.Strong.{strong_pair, strong_key, Strong, AllStrong, all_strong, index_head, first_is, second_is}

pub whole_strong : (b : List ℕ) (at : ℕ) → whole b at kind_strong_link ≡ true → at + 8 ≤ length b
unfolding body_length
whole_strong b at h = omega (arith, whole_within kind_strong_link b at refl h)

-- the pairs that strong links name
abbrev pub pairs_in : List ℕ → ℕ → List Pair
pairs_in b m = map (strong_pair b) (range 0 m)

pub pairs_count : (b : List ℕ) (m : ℕ) → length (pairs_in b m) ≡ m
pairs_count b m = length-map (range 0 m) (strong_pair b) ∙ range_length 0 m

head_same : {n m n' m' : ℕ} → ◌≡◌ {A = Checked Head} (passed (record { n = n; m = m })) (passed (record { n = n'; m = m' })) → (n ≡ n') × (m ≡ m')
head_same {n} {m} {n'} {m'} q =
    let r : ◌≡◌ {A = Head} (record { n = n; m = m }) (record { n = n'; m = m' }) = cc in
    (ap (λ (x : Head). x.n) r, ap (λ (x : Head). x.m) r)

-- the strong links of a graph's index name its pairs, the lower account first
pub pairs_of_index : (n : ℕ) (ps : List Pair) → Accepted n ps → pairs_in (index_bytes (graph_of n ps)) (length ps) ≡ pairs_of (graph_of n ps)
unfolding pairs_of
pairs_of_index n ps acc = ext_get_or (record { first = 0; second = 0 }) (pairs_in b m) (map lower_first G.links)
    (pairs_count b m ∙ sym (length-map G.links lower_first ∙ graph_size n ps)) (λ i l. at i (omega (arith, l, pairs_count b m)))
  where
    G : Graph
    G = graph_of n ps

    b : List ℕ
    b = index_bytes G

    m : ℕ
    m = length ps

    at : (i : ℕ) → i < m → get_or (pairs_in b m) i (record { first = 0; second = 0 }) ≡ get_or (map lower_first G.links) i (record { first = 0; second = 0 })
    at i l =
        let p = first_is n ps acc i l in
        let q = second_is n ps acc i l in
        map_range_at (strong_pair b) (record { first = 0; second = 0 }) 0 m i l ∙ ap (strong_pair b) (omega arith) ∙ (λ j. record { first = p j; second = q j })
        ∙ sym (map_at lower_first (link 0 0) (record { first = 0; second = 0 }) G.links i (omega (arith, graph_size n ps, l)))

-- an index has a good head and strong links
module _ (b : List ℕ) where
  index_facts : (n : ℕ) (ps : List Pair) → IsIndexOf b n ps → (read_head kind_index_head b ≡ passed (record { n = n; m = length ps })) × AllStrong b n (length ps) × Accepted n ps
  index_facts n ps x =
      let acc = read_named x.file n ps x.file_accepted in (
        subst (λ (s : List ℕ). read_head kind_index_head s ≡ passed (record { n = n; m = length ps })) x.bytes (index_head n ps acc),
        subst (λ (s : List ℕ). AllStrong s n (length ps)) x.bytes (all_strong n ps acc),
        acc,
      )

  -- bytes whose head is refused, or without strong links, are no index
  pub no_head : (k : ℕ) → refuse k 0 ≡ read_head kind_index_head b → read_index b ≡ refuse 7 0
  no_head k q = (refused_7 b).1 (λ (n, ps, x). let h : refuse k 0 ≡ passed (record { n = n; m = length ps }) = q ∙ (index_facts n ps x).0 in let z : ◌≡◌ {A = ℕ} 0 1 = cc in omega arith)

  module _ (n m : ℕ) (head : read_head kind_index_head b ≡ passed (record { n = n; m = m })) where
    pub not_strong : ¬ (AllStrong b n m) → read_index b ≡ refuse 7 0
    not_strong none = (refused_7 b).1 (λ (n', ps, x). clash n' ps x)
      where
        clash : (n' : ℕ) (ps : List Pair) → IsIndexOf b n' ps → ⊥
        clash n' ps x =
            let f = index_facts n' ps x in
            let s = head_same (sym head ∙ f.0) in
            none (rw (s.0, s.1) f.1)

    module _ (A : AllStrong b n m) where
      H : GoodHead b (record { n = n; m = m })
      H = head_good kind_index_head b (record { n = n; m = m }) head

      key_is : (i : ℕ) → i < m → strong_key b i ≡ key_of (link_of (strong_pair b i))
      key_is i l = let s = A.each i l in omega (arith, s.ordered)

      good : GoodPairs n (pairs_in b m)
      unfolding range
      good = record {
        fit = λ p mp. at p (map_in (strong_pair b) (range 0 m) mp);
        distinct = different 0 m (omega arith);
      }
        where
          at : (p : Pair) → (i : ℕ) × In i (range 0 m) × (p ≡ strong_pair b i) → (p.first < n) × (p.second < n) × (p.first ≢ p.second)
          at p (i, mi, q) = let s = A.each i (omega (arith, (range_in 0 m mi).1)) in rw q (omega (arith, s.ordered, s.below), s.below, omega (arith, s.ordered))

          different : (a r : ℕ) → a + r ≤ m → Sorted (λ (p q : Pair). link_of p ≢ link_of q) (map (strong_pair b) (range a r))
          different a zero l = tt
          different a (suc r) l = (λ q mq e. apart (map_in (strong_pair b) (range (suc a) r) mq) e, different (suc a) r (omega arith))
            where
              apart : {q : Pair} → (i : ℕ) × In i (range (suc a) r) × (q ≡ strong_pair b i) → link_of (strong_pair b a) ≡ link_of q → ⊥
              apart (i, mi, e) f =
                  let w = range_in (suc a) r mi in
                  let same : key_of (link_of (strong_pair b a)) ≡ key_of (link_of (strong_pair b i)) = ap key_of (f ∙ ap link_of e) in
                  omega (arith, same, key_is a (omega arith), key_is i (omega (arith, w.1)), A.rises a i (omega (arith, w.0)) (omega (arith, w.1)))

      pub pairs_accepted : Accepted n (pairs_in b m)
      pairs_accepted = record { good = good; some_account = H.some_account; accounts = H.accounts; links = omega (arith, pairs_count b m, H.links) }

      row : Row n m (pairs_in b m) (strong_key b)
      row = record {
        count = pairs_count b m;
        good = good;
        small = H.accounts;
        rises = A.rises;
        only = λ i l. (strong_pair b i, in_map (strong_pair b) (range 0 m) (in_range 0 m (omega arith) (omega arith)), key_is i l);
        each = λ p mp. at p (map_in (strong_pair b) (range 0 m) mp);
      }
        where
          at : (p : Pair) → (i : ℕ) × In i (range 0 m) × (p ≡ strong_pair b i) → (i : ℕ) × (i < m) × (strong_key b i ≡ key_of (link_of p))
          at p (i, mi, q) = let l : i < m = omega (arith, (range_in 0 m mi).1) in (i, l, key_is i l ∙ ap (λ (z : Pair). key_of (link_of z)) (sym q))

      pub read_solve : {w : List ℕ} → length w ≡ COLUMNS * m → ((i : ℕ) → i < m → cell w m 0 i ≡ strong_key b i) → SolveAsks n m (pairs_in b m) w
      read_solve size keys = record { accepted = pairs_accepted; named = row_named row (omega (arith, H.links)) size keys }

      -- the bytes are the index of those pairs
      pub takes : b ≡ index_bytes (graph_of n (pairs_in b m)) → read_index b ≡ passed (graph_of n (pairs_in b m))
      takes q = ap read_index q ∙ read-index (write_links n (pairs_in b m)) n (pairs_in b m) (write_read n (pairs_in b m) pairs_accepted)

      -- or of none
      pub takes_not : ¬ (b ≡ index_bytes (graph_of n (pairs_in b m))) → read_index b ≡ refuse 7 0
      takes_not none = (refused_7 b).1 (λ (n', ps, x). clash n' ps x)
        where
          clash : (n' : ℕ) (ps : List Pair) → IsIndexOf b n' ps → ⊥
          clash n' ps x =
              let f = index_facts n' ps x in
              let s = head_same (sym head ∙ f.0) in
              let same : pairs_in b m ≡ pairs_of (graph_of n' ps) =
              ap₂ pairs_in (sym x.bytes) s.1 ∙ pairs_of_index n' ps f.2 in
              let graph : graph_of n (pairs_in b m) ≡ graph_of n' ps = ap₂ graph_of s.0 same ∙ graph_again n' ps f.2 in
              none (sym x.bytes ∙ ap index_bytes (sym graph))

-- ---- the keys, one after the other

-- a strong link whose key k comes after the last one
pub record Follows (b : List ℕ) (n at last k : ℕ) : Type 0 where
  pub is_whole : whole b at kind_strong_link ≡ true
  pub ordered : field_at b (at + 1) < field_at b (at + 3)
  pub below : field_at b (at + 3) < n
  pub is_key : k ≡ field_at b (at + 1) * 65536 + field_at b (at + 3)
  pub after : last < k

-- the key of the link that follows, or none
pub NextKey : List ℕ → ℕ → ℕ → ℕ → Option ℕ → Type 0
NextKey b n at last (Some k) = Follows b n at last k
NextKey b n at last None = (k : ℕ) → ¬ (Follows b n at last k)

module _ (b : List ℕ) (n at last : ℕ) where
  pub next_not : whole b at kind_strong_link ≡ false → NextKey b n at last None
  unfolding NextKey
  next_not h = λ k F. let y : true ≡ false = sym F.is_whole ∙ h in let z : ◌≡◌ {A = ℕ} 0 1 = cc in omega arith

  module _ {x y : ℕ} (ex : x ≡ field_at b (at + 1)) (ey : y ≡ field_at b (at + 3)) where
    pub next_turned : y ≤ x → NextKey b n at last None
    unfolding NextKey
    next_turned h = λ k F. omega (arith, h, ex, ey, F.ordered)

    pub next_above : n ≤ y → NextKey b n at last None
    unfolding NextKey
    next_above h = λ k F. omega (arith, h, ey, F.below)

    pub next_before : x * 65536 + y ≤ last → NextKey b n at last None
    unfolding NextKey
    next_before h = λ k F. omega (arith, h, ex, ey, F.is_key, F.after)

    pub next_found : whole b at kind_strong_link ≡ true → x < y → y < n → last < x * 65536 + y → NextKey b n at last (Some (x * 65536 + y))
    unfolding NextKey
    next_found h o l a = record { is_whole = h; ordered = omega (arith, o, ex, ey); below = omega (arith, l, ey); is_key = omega (arith, ex, ey); after = a }

-- the answer, read
pub next-none : {b : List ℕ} {n at last : ℕ} {r : Option ℕ} → NextKey b n at last r → r ≡ None → (k : ℕ) → ¬ (Follows b n at last k)
unfolding NextKey
next-none {b} {n} {at} {last} N q = subst (NextKey b n at last) q N

pub next_is : {b : List ℕ} {n at last k : ℕ} {r : Option ℕ} → NextKey b n at last r → r ≡ Some k → Follows b n at last k
unfolding NextKey
next_is {b} {n} {at} {last} N q = subst (NextKey b n at last) q N

pub follows_small : {b : List ℕ} {n at last r : ℕ} → n ≤ max_accounts → Follows b n at last r → r < 67108864
follows_small l F = omega (arith, l, F.is_key, F.ordered, F.below)

pub record KeysSoFar (b : List ℕ) (n m i last : ℕ) (w : List ℕ) : Type 0 where
  pub part : i ≤ m
  pub size : length w ≡ COLUMNS * m
  pub each : (j : ℕ) → j < i → Strong b n j
  pub rises : (j l : ℕ) → j < l → l < i → strong_key b j < strong_key b l
  pub cells : (j : ℕ) → j < i → cell w m 0 j ≡ strong_key b j
  pub first : i ≡ 0 → last ≡ 0
  pub previous : 0 < i → last ≡ strong_key b (i - 1)

pub keys_none : {b : List ℕ} {n m : ℕ} {w : List ℕ} → length w ≡ COLUMNS * m → KeysSoFar b n m 0 0 w
keys_none h = record {
  part = omega arith;
  size = h;
  each = λ j l. absurd (omega arith);
  rises = λ j l p q. absurd (omega arith);
  cells = λ j l. absurd (omega arith);
  first = λ q. refl;
  previous = λ l. absurd (omega arith);
}

-- the key so far is at least every key before
keys_last : {b : List ℕ} {n m i last : ℕ} {w : List ℕ} → KeysSoFar b n m i last w → (j : ℕ) → j < i → strong_key b j ≤ last
keys_last {b} {n} {m} {i} {last} K j l = go (same_or_not j (i - 1))
  where
    go : (j ≡ i - 1) ⊎ (j ≢ i - 1) → strong_key b j ≤ last
    go (inl q) = omega (arith, K.previous (omega arith), ap (strong_key b) q)
    go (inr q) = omega (arith, K.previous (omega arith), K.rises j (i - 1) (omega arith) (omega arith))

pub keys_more : {b : List ℕ} {n m i last k : ℕ} {w w' : List ℕ} → KeysSoFar b n m i last w → i < m → Follows b n (5 + 8 * i) last k → w' ≡ store w m 0 i k → KeysSoFar b n m (i + 1) k w'
keys_more {b} {n} {m} {i} {last} {k} {w} {w'} K l F u = record {
  part = omega arith;
  size = ap length u ∙ length-store w m 0 i k ∙ K.size;
  each = λ j h. each j h (same_or_not j i);
  rises = λ j x p h. rises j x p h (same_or_not x i);
  cells = λ j h. cells j h (same_or_not j i);
  first = λ q. absurd (omega arith);
  previous = λ h. let e : i + 1 - 1 ≡ i = omega arith in F.is_key ∙ ap (strong_key b) (sym e);
}
  where
    each : (j : ℕ) → j < i + 1 → (j ≡ i) ⊎ (j ≢ i) → Strong b n j
    each j h (inl q) = rw q (record { is_whole = F.is_whole; ordered = F.ordered; below = F.below })
    each j h (inr q) = K.each j (omega arith)

    rises : (j x : ℕ) → j < x → x < i + 1 → (x ≡ i) ⊎ (x ≢ i) → strong_key b j < strong_key b x
    rises j x p h (inl q) = rw q (omega (arith, keys_last K j (omega arith), F.after, F.is_key))
    rises j x p h (inr q) = K.rises j x p (omega arith)

    cells : (j : ℕ) → j < i + 1 → (j ≡ i) ⊎ (j ≢ i) → cell w' m 0 j ≡ strong_key b j
    cells j h (inl q) = rw (q, u) (stored w m 0 i k (omega arith) l K.size ∙ F.is_key)
    cells j h (inr q) = rw u (kept_entry w m 0 i j k q ∙ K.cells j (omega arith))

-- where no key follows, not all are strong and in order
pub keys_not : {b : List ℕ} {n m i last : ℕ} {w : List ℕ} → KeysSoFar b n m i last w → i < m → ((k : ℕ) → ¬ (Follows b n (5 + 8 * i) last k)) → ¬ (AllStrong b n m)
keys_not {b} {n} {m} {i} {last} {w} K l un A = un (strong_key b i) (record { is_whole = s.is_whole; ordered = s.ordered; below = s.below; is_key = refl; after = after (same_or_not i 0) })
  where
    s : Strong b n i
    s = A.each i l

    after : (i ≡ 0) ⊎ (i ≢ 0) → last < strong_key b i
    after (inl q) = omega (arith, K.first q, s.ordered)
    after (inr q) = omega (arith, K.previous (omega arith), A.rises (i - 1) i (omega arith) l)

pub record KeysRead (b : List ℕ) (n m : ℕ) (r : Bool) (w : List ℕ) : Type 0 where
  pub size : length w ≡ COLUMNS * m
  pub yes_is : r ≡ true → AllStrong b n m × ((i : ℕ) → i < m → cell w m 0 i ≡ strong_key b i)
  pub no_is : r ≡ false → ¬ (AllStrong b n m)

pub keys_all : {b : List ℕ} {n m i last : ℕ} {w : List ℕ} → KeysSoFar b n m i last w → m ≤ i → KeysRead b n m true w
keys_all {b} {n} {m} {i} {last} {w} K l = record {
  size = K.size;
  yes_is = λ _. (record { each = λ j h. K.each j (omega (arith, l)); rises = λ j x p h. K.rises j x p (omega (arith, l)) }, λ j h. K.cells j (omega (arith, l)));
  no_is = λ q. absurd (let z : ◌≡◌ {A = ℕ} 0 1 = cc in omega arith);
}

pub keys_failed : {b : List ℕ} {n m i last : ℕ} {w : List ℕ} → KeysSoFar b n m i last w → ¬ (AllStrong b n m) → KeysRead b n m false w
keys_failed K un = record { size = K.size; yes_is = λ q. absurd (let z : ◌≡◌ {A = ℕ} 0 1 = cc in omega arith); no_is = λ _. un }

-- ---- the opening

-- what the head's checks let pass
pub record OpenAsks (b : List ℕ) (n m : ℕ) (w : List ℕ) : Type 0 where
  pub head : read_head kind_index_head b ≡ passed (record { n = n; m = m })
  pub size : length w ≡ COLUMNS * m

pub index_links : (b : List ℕ) (n m : ℕ) → read_head kind_index_head b ≡ passed (record { n = n; m = m }) → m ≤ max_links
index_links b n m h = (head_good kind_index_head b (record { n = n; m = m }) h).links

pub open_scan : {b : List ℕ} {n m : ℕ} {w : List ℕ} → OpenAsks b n m w → ScanAsks m n w
open_scan {b} {n} {m} P =
    let H = head_good kind_index_head b (record { n = n; m = m }) P.head in
    record { size = P.size; few = omega (arith, H.links); small = H.accounts }

-- the answer of a check, with what is known then
unfoldable pub opening_of : Bool → ℕ → ℕ → ℕ → ℕ → Option Outline
opening_of true n m at groups = Some (record { n = n; m = m; at = at; groups = groups })
opening_of false n m at groups = None

-- the bytes are an index: of the graph that head and strong links name, with its groups at that place
pub record Opened (b : List ℕ) (n m at groups : ℕ) : Type 0 where
  pub head : read_head kind_index_head b ≡ passed (record { n = n; m = m })
  pub strong : AllStrong b n m
  pub bytes : b ≡ index_bytes (graph_of n (pairs_in b m))
  pub place : at ≡ groups_from m (length (index (graph_of n (pairs_in b m))).joins)
  pub groups_are : groups ≡ length (index (graph_of n (pairs_in b m))).groups

-- THE PROMISE of an opening: 7 for bytes that are no index, and of an index its outline
pub OpenSays : List ℕ → Option Outline → Type 0
OpenSays b (Some o) = Opened b o.n o.m o.at o.groups
OpenSays b None = read_index b ≡ refuse 7 0

-- and of what is lent for the work space: its sixteen numbers for each link that the head names are 0, the rest stays
unfoldable pub cleared : Checked Head → List ℕ → List ℕ
cleared (passed h) work = zeros (COLUMNS * h.m) ++ drop (COLUMNS * h.m) work
cleared (refused r) work = work

pub keys_fail_says : {b : List ℕ} {n m : ℕ} → read_head kind_index_head b ≡ passed (record { n = n; m = m }) → ¬ (AllStrong b n m) → OpenSays b None
unfolding OpenSays
keys_fail_says {b} {n} {m} head un = not_strong b n m head un

pub head_fail_says : (b : List ℕ) {k : ℕ} → refuse k 0 ≡ read_head kind_index_head b → OpenSays b None
unfolding OpenSays
head_fail_says b {k} q = no_head b k q

pub open_says : {b : List ℕ} {n m at joins groups : ℕ} {w : List ℕ} {t : Bool} {r : Option Outline} → read_head kind_index_head b ≡ passed (record { n = n; m = m }) → AllStrong b n m
    → Solved n m joins groups (pairs_in b m) w → Tells t (b ≡ encode (index_in w n m joins groups)) → at ≡ groups_from m joins → r ≡ opening_of t n m at groups → OpenSays b r
unfolding index_bytes opening_of OpenSays index_in
open_says {b} {n} {m} {at} {joins} {groups} {w} {t} {r} head A S T p q = subst (OpenSays b) (sym q) (go t refl)
  where
    e : encode (index_in w n m joins groups) ≡ index_bytes (graph_of n (pairs_in b m))
    e = ap encode S.index_is

    go : (x : Bool) → t ≡ x → OpenSays b (opening_of x n m at groups)
    go true h = record {
      head = head;
      strong = A;
      bytes = T.yes_is h ∙ e;
      place = p ∙ ap (groups_from m) (sym (length-map (range 0 joins) (join_in w m) ∙ range_length 0 joins) ∙ ap (λ (x : IndexRows). length x.joins) S.index_is);
      groups_are = sym (length-map (range 0 groups) (group_in w m) ∙ range_length 0 groups) ∙ ap (λ (x : IndexRows). length x.groups) S.index_is;
    }
    go false h = takes_not b n m head A (λ p. T.no_is h (p ∙ sym e))

-- the answer, read
pub opened_is : (b : List ℕ) {r : Option Outline} {o : Outline} → OpenSays b r → r ≡ Some o → Opened b o.n o.m o.at o.groups
unfolding OpenSays
opened_is b O q = subst (OpenSays b) q O

pub not_opened : (b : List ℕ) {r : Option Outline} → OpenSays b r → r ≡ None → read_index b ≡ refuse 7 0
unfolding OpenSays
not_opened b O q = subst (OpenSays b) q O

-- the lent slice, put back
pub cleared_refused : (b work : List ℕ) {k : ℕ} → refuse k 0 ≡ read_head kind_index_head b → work ≡ cleared (read_head kind_index_head b) work
unfolding cleared
cleared_refused b work q = rw (← q) refl

pub cleared_good : (b : List ℕ) {n m : ℕ} (work : List ℕ) {w : List ℕ} → read_head kind_index_head b ≡ passed (record { n = n; m = m }) → w ≡ zeros (COLUMNS * m) → w ++ drop (COLUMNS * m) work ≡ cleared (read_head kind_index_head b) work
unfolding cleared
cleared_good b work q z = rw (q, z) refl

-- the work space of an index that was opened
pub opened_blank : (b work : List ℕ) {n m at groups : ℕ} {work' : List ℕ} → Opened b n m at groups → work' ≡ cleared (read_head kind_index_head b) work → take (COLUMNS * m) work' ≡ zeros (COLUMNS * m)
unfolding cleared
opened_blank b work {n} {m} O q = rw (q, O.head) (take_at (zeros (COLUMNS * m)) (drop (COLUMNS * m) work) (COLUMNS * m) (zeros-length (COLUMNS * m)))

-- ---- all at 0 again

module _ {m joins groups : ℕ} {w w₁ w₂ w₃ w₄ w₅ w₆ w₇ w₈ : List ℕ} (B : Blank m joins groups w) (size : length w ≡ COLUMNS * m)
    (A₁ : Wiping m KEY m w w₁) (A₂ : Wiping m STRENGTH m w₁ w₂) (A₃ : Wiping m 8 m w₂ w₃) (A₄ : Wiped m 9 0 joins w₃ w₄) (A₅ : Wiped m 10 0 joins w₄ w₅)
    (A₆ : Wiped m 11 0 groups w₅ w₆) (A₇ : Wiped m 12 0 groups w₆ w₇) (A₈ : Wiped m 13 0 groups w₇ w₈) where
  module _ (d y : ℕ) (l : y < m) where
    to₃ : cell w m d y ≡ 0 → cell w₃ m d y ≡ 0
    to₃ z = wiping_still d y A₃ l (wiping_still d y A₂ l (wiping_still d y A₁ l z))

    to₄ : cell w m d y ≡ 0 → cell w₄ m d y ≡ 0
    to₄ z = wiped_still d y A₄ l (to₃ z)

    to₅ : cell w m d y ≡ 0 → cell w₅ m d y ≡ 0
    to₅ z = wiped_still d y A₅ l (to₄ z)

    to₆ : cell w m d y ≡ 0 → cell w₆ m d y ≡ 0
    to₆ z = wiped_still d y A₆ l (to₅ z)

    to₇ : cell w m d y ≡ 0 → cell w₇ m d y ≡ 0
    to₇ z = wiped_still d y A₇ l (to₆ z)

    from₇ : cell w₇ m d y ≡ 0 → cell w₈ m d y ≡ 0
    from₇ z = wiped_still d y A₈ l z

    from₆ : cell w₆ m d y ≡ 0 → cell w₈ m d y ≡ 0
    from₆ z = from₇ (wiped_still d y A₇ l z)

    from₅ : cell w₅ m d y ≡ 0 → cell w₈ m d y ≡ 0
    from₅ z = from₆ (wiped_still d y A₆ l z)

    from₄ : cell w₄ m d y ≡ 0 → cell w₈ m d y ≡ 0
    from₄ z = from₅ (wiped_still d y A₅ l z)

    from₃ : cell w₃ m d y ≡ 0 → cell w₈ m d y ≡ 0
    from₃ z = from₄ (wiped_still d y A₄ l z)

  -- a column of joins or of groups: wiped up to its end, and 0 from there on
  ended : {c e : ℕ} {v v' : List ℕ} (y : ℕ) → Wiped m c 0 e v v' → (e ≤ y → cell v m c y ≡ 0) → cell v' m c y ≡ 0
  ended {c} {e} {v} {v'} y W z = go (less_or_not y e)
    where
      go : (y < e) ⊎ (e ≤ y) → cell v' m c y ≡ 0
      go (inl h) = W.zero y (omega arith) h
      go (inr h) = W.after y h ∙ z h

  module _ (y : ℕ) (l : y < m) where
    keys : cell w₈ m KEY y ≡ 0
    keys = from₃ KEY y l (wiping_still KEY y A₃ l (wiping_still KEY y A₂ l (A₁.zero y l)))

    strengths : cell w₈ m STRENGTH y ≡ 0
    strengths = from₃ STRENGTH y l (wiping_still STRENGTH y A₃ l (A₂.zero y l))

    own_groups : cell w₈ m 8 y ≡ 0
    own_groups = from₃ 8 y l (A₃.zero y l)

    joins_at : (c : ℕ) → 9 ≤ c → c < 11 → cell w₈ m c y ≡ 0
    joins_at c a b = go (same_or_not c 9)
      where
        go : (c ≡ 9) ⊎ (c ≢ 9) → cell w₈ m c y ≡ 0
        go (inl q) = rw q (from₄ 9 y l (ended y A₄ (λ e. to₃ 9 y l (B.joins_end 9 y (omega arith) (omega arith) e l))))
        go (inr n) = let q : c ≡ 10 = omega (arith, a, b, n) in rw q (from₅ 10 y l (ended y A₅ (λ e. to₄ 10 y l (B.joins_end 10 y (omega arith) (omega arith) e l))))

    groups_at_lem : (c : ℕ) → 11 ≤ c → c < 14 → cell w₈ m c y ≡ 0
    groups_at_lem c a b = go (same_or_not c 11) (same_or_not c 12)
      where
        go : (c ≡ 11) ⊎ (c ≢ 11) → (c ≡ 12) ⊎ (c ≢ 12) → cell w₈ m c y ≡ 0
        go (inl q) x = rw q (from₆ 11 y l (ended y A₆ (λ e. to₅ 11 y l (B.groups_end 11 y (omega arith) (omega arith) e l))))
        go (inr n) (inl q) = rw q (from₇ 12 y l (ended y A₇ (λ e. to₆ 12 y l (B.groups_end 12 y (omega arith) (omega arith) e l))))
        go (inr n) (inr k) = let q : c ≡ 13 = omega (arith, a, b, n, k) in rw q (ended y A₈ (λ e. to₇ 13 y l (B.groups_end 13 y (omega arith) (omega arith) e l)))

    -- by the column
    zero_at : (c : ℕ) → c < COLUMNS → cell w₈ m c y ≡ 0
    zero_at c h = low (same_or_not c KEY) (less_or_not c STRENGTH)
      where
        high : (c < 11) ⊎ (11 ≤ c) → (c < 14) ⊎ (14 ≤ c) → 9 ≤ c → cell w₈ m c y ≡ 0
        high (inl a) b g = joins_at c g a
        high (inr a) (inl b) g = groups_at_lem c a b
        high (inr a) (inr b) g = from₇ c y l (to₇ c y l (B.high c y b h l))

        middle : (c ≡ STRENGTH) ⊎ (c ≢ STRENGTH) → (c ≡ 8) ⊎ (c ≢ 8) → (c < 8) ⊎ (8 ≤ c) → STRENGTH ≤ c → cell w₈ m c y ≡ 0
        middle (inl q) x z g = rw q strengths
        middle (inr n) (inl q) z g = rw q own_groups
        middle (inr n) (inr k) (inl z) g = from₇ c y l (to₇ c y l (B.middle c y (omega (arith, g, n)) z l))
        middle (inr n) (inr k) (inr z) g = high (less_or_not c 11) (less_or_not c 14) (omega (arith, k, z))

        low : (c ≡ KEY) ⊎ (c ≢ KEY) → (c < STRENGTH) ⊎ (STRENGTH ≤ c) → cell w₈ m c y ≡ 0
        low (inl q) x = rw q keys
        low (inr n) (inl a) = from₇ c y l (to₇ c y l (B.low c y (omega (arith, n)) a l))
        low (inr n) (inr a) = middle (same_or_not c STRENGTH) (same_or_not c 8) (less_or_not c 8) a

  pub forgotten : w₈ ≡ zeros (COLUMNS * m)
  forgotten =
      cells_zero (A₈.length_is ∙ A₇.length_is ∙ A₆.length_is ∙ A₅.length_is ∙ A₄.length_is ∙ A₃.length_is ∙ A₂.length_is ∙ A₁.length_is ∙ size) (λ c y h l. zero_at y l c h)

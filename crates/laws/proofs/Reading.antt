-- Reading: a links file that is written from good pairs is accepted and names them; the reader of an index takes exactly what the writer writes.
use mathlib.Core.Path.{◌≡◌, refl, sym, ap, ap₂, ◌∙◌, subst}
use mathlib.Core.Logic.{◌⊎◌, inl, inr, ◌↔◌, ◌≢◌}
use mathlib.Core.Bool.{true, false}
use mathlib.Core.List.{List, [], ◌∷◌, ◌++◌, map, append_assoc, append-nil}
use mathlib.Core.List.Memᴰ.{append_right as in_right}
use mathlib.Core.List.Memᴰ.{cases_cons as in-cons}
use mathlib.Core.List.Memᴰ.{head as here}
use mathlib.Core.List.Memᴰ.{not-nil as in-nil}
use mathlib.Core.List.Memᴰ.{tail as there}
use mathlib.Core.List.{Memᴰ as In}
use Prim.Native.Nat.{ℕ, suc, ◌+◌, ◌≤◌, ◌<◌}
use native.Mathlib.Omega.{arith}
use lib.Dec.{eqb}
use lib.ListN.{length, get_or, length-append, length-map}
use lib.Seq.{get_or-append-add}
use borrow.Author.Tests.{eq-eqb, ne_eqb, le-leb, lt-leb, le-ltb}
use Rattle.truss.specs.Limits.{max_accounts, max_links, no_group}
use Rattle.truss.specs.Lists.{concat_map, sort, same_list}
use Rattle.truss.specs.Graph.{Link, Pair, Graph, link, link_of, links_of, link_before, graph_of, member}
use Rattle.truss.specs.Refusal.{Checked, passed, refused, refuse, and_then}
use Rattle.truss.specs.Record.{kind_head, kind_end, kind_plain_link, body_length, from_bytes, head_bytes, end_bytes, field_at, whole, holds_body}
use Rattle.truss.specs.LinksFile.{Links, accepted, read_pairs, read_links, pair_bytes, write_links, lower_first, pairs_of, read_head}
use Rattle.truss.specs.Index.{Index, LinkRow, index, index_bytes}
use Rattle.truss.specs.IndexFile.{IsIndexOf, links_file_in, if_index_is, read_index}
use Rattle.laws.proofs.Proper.{Proper}
use Rattle.laws.proofs.Lists.{test, both}
use Rattle.laws.proofs.Members.{Sorted, map_in, sort_in, in_sort, member_in, in_member}
use Rattle.laws.proofs.Sets.{same_list_eq, eq_same_list}
use Rattle.laws.proofs.Decoding.{field_back}
use Rattle.laws.proofs.Ordering.{Distinct, sort_unique, sort-distinct}
use Rattle.laws.proofs.Agree.{decoded, index_n, index_links, row_link}
use Rattle.laws.proofs.Accepted.{GoodPairs, Named, read_named, graph_size, graph_proper, links_distinct}

-- ---- the byte at a place after a front

at_position : (pre suf : List ℕ) (i j : ℕ) → i ≡ length pre + j → get_or (pre ++ suf) i 0 ≡ get_or suf j 0
at_position pre suf i j q = ap (λ (x : ℕ). get_or (pre ++ suf) x 0) q ∙ get_or-append-add pre suf j 0

-- ---- the records after the head

-- one plain link that meets no fault
pub read_step : (b : List ℕ) (n r at : ℕ) (seen : List Pair) (x y : ℕ) → whole b at kind_plain_link ≡ true → field_at b (at + 1) ≡ x → field_at b (at + 3) ≡ y
    → x < n → y < n → x ≢ y → member (map link_of seen) (link x y) ≡ false
    → read_pairs b n (suc r) at seen ≡ read_pairs b n r (at + 5) (seen ++ (record { first = x; second = y } ∷ []))
unfolding read_pairs body_length holds_body
read_step b n r at seen x y w ex ey lx ly ne new = rw (w, ex, ey, lt-leb n x lx, lt-leb n y ly, ne_eqb x y ne, new) refl

read-written : (n : ℕ) → n ≤ max_accounts → (qs seen : List Pair) (pre : List ℕ) → GoodPairs n (seen ++ qs)
    → read_pairs (pre ++ (concat_map pair_bytes qs ++ end_bytes)) n (length qs) (length pre) seen ≡ accepted n (seen ++ qs)
unfolding read_pairs concat_map body_length holds_body
read-written n ln [] seen pre good = rw (is_end, is_long) (ap {B = Checked Links} (λ qs. accepted n qs) (sym (append-nil seen)))
  where
    b : List ℕ
    b = pre ++ (5 ∷ [])

    is_end : whole b (length pre) kind_end ≡ true
    is_end = both (eq-eqb (get_or b (length pre) 0) 5 (at_position pre (5 ∷ []) (length pre) 0 (omega arith)))
        (le-leb (length pre + 1 + 0) (length b) (omega (arith, length-append pre (5 ∷ []))))

    is_long : eqb (length b) (length pre + 1) ≡ true
    is_long = eq-eqb (length b) (length pre + 1) (length-append pre (5 ∷ []))
read-written n ln (q ∷ qs) seen pre good =
    read_step b n (length qs) (length pre) seen q.first q.second is_link is_one is_two f.0 f.1 f.2 is_new
    ∙ ap₂ (λ (c : List ℕ) (l : ℕ). read_pairs c n (length qs) l (seen ++ (q ∷ []))) (sym (append_assoc pre (pair_bytes q) (concat_map pair_bytes qs ++ end_bytes))) (sym long)
    ∙ read-written n ln qs (seen ++ (q ∷ [])) (pre ++ pair_bytes q) (subst (GoodPairs n) (sym (append_assoc seen (q ∷ []) qs)) good)
    ∙ ap {B = Checked Links} (λ qs. accepted n qs) (append_assoc seen (q ∷ []) qs)
  where
    suf : List ℕ
    suf = pair_bytes q ++ (concat_map pair_bytes qs ++ end_bytes)

    b : List ℕ
    b = pre ++ suf

    f : (q.first < n) × (q.second < n) × (q.first ≢ q.second)
    f = good.fit q (in_right seen (here refl))

    long : length (pre ++ pair_bytes q) ≡ length pre + 5
    long = length-append pre (pair_bytes q)

    is_link : whole b (length pre) kind_plain_link ≡ true
    is_link = both (eq-eqb (get_or b (length pre) 0) 6 (at_position pre suf (length pre) 0 (omega arith)))
        (le-leb (length pre + 1 + 4) (length b) (omega (arith, length-append pre suf)))

    is_one : field_at b (length pre + 1) ≡ q.first
    is_one =
        ap₂ from_bytes (at_position pre suf (length pre + 1) 1 refl) (at_position pre suf (length pre + 1 + 1) 2 (omega arith))
        ∙ field_back q.first (omega (arith, f.0))

    is_two : field_at b (length pre + 3) ≡ q.second
    is_two =
        ap₂ from_bytes (at_position pre suf (length pre + 3) 3 refl) (at_position pre suf (length pre + 3 + 1) 4 (omega arith))
        ∙ field_back q.second (omega (arith, f.1))

    is_new : member (map link_of seen) (link q.first q.second) ≡ false
    is_new = go (test (member (map link_of seen) (link_of q)))
      where
        clash : (p : Pair) × In p seen × (link_of q ≡ link_of p) → ⊥
        clash (p, m, e) = front seen good.distinct m (sym e)
          where
            front : (xs : List Pair) → Sorted (λ (u v : Pair). link_of u ≢ link_of v) (xs ++ (q ∷ qs)) → In p xs → link_of p ≢ link_of q
            front [] s k = absurd (in-nil k)
            front (x ∷ xs) s k = at (in-cons k) (front xs s.1)
              where
                at : (p ≡ x) ⊎ In p xs → (In p xs → link_of p ≢ link_of q) → link_of p ≢ link_of q
                at (inl e') ih = λ r. s.0 q (in_right xs (here refl)) (ap link_of (sym e') ∙ r)
                at (inr k') ih = ih k'

        go : (member (map link_of seen) (link_of q) ≡ true) ⊎ (member (map link_of seen) (link_of q) ≡ false) → member (map link_of seen) (link_of q) ≡ false
        go (inl c) = absurd (clash (map_in link_of seen (member_in (map link_of seen) (link_of q) c)))
        go (inr c) = c

-- what is written is read back
pub write_read : (n : ℕ) (ps : List Pair) → Named n ps → read_links (write_links n ps) ≡ accepted n ps
unfolding read_links read_head and_then write_links body_length holds_body
write_read n ps named =
    rw (is_head, is_n, is_m, ne_eqb n 0 (omega (arith, named.some_account)), le-ltb max_accounts n named.accounts, le-ltb max_links (length ps) named.links, and_then)
    (read-written n named.accounts ps [] (head_bytes kind_head n (length ps)) named.good)
  where
    is_head : whole (write_links n ps) 0 kind_head ≡ true
    is_head = le-leb 5 (length (write_links n ps)) (omega arith)

    is_n : field_at (write_links n ps) 1 ≡ n
    is_n = field_back n (omega (arith, named.accounts))

    is_m : field_at (write_links n ps) 3 ≡ length ps
    is_m = field_back (length ps) (omega (arith, named.links))

-- ---- the reader of an index

-- the graph's own pairs are as good as the file's
module _ (n : ℕ) (ps : List Pair) (named : Named n ps) where
  link_lower : (e : Link) → e.lo < e.hi → link_of (lower_first e) ≡ e
  link_lower e l = Rattle.laws.proofs.Chains.link_ordered e.lo e.hi (omega arith)

  proper : Proper (graph_of n ps)
  proper = graph_proper n ps named.good

  links_again : map link_of (pairs_of (graph_of n ps)) ≡ (graph_of n ps).links
  unfolding pairs_of
  links_again = go (graph_of n ps).links (λ e m. proper.ordered e (in_member (graph_of n ps).links m))
    where
      go : (L : List Link) → ((e : Link) → In e L → e.lo < e.hi) → map link_of (map lower_first L) ≡ L
      go [] h = refl
      go (e ∷ L) h =
          let a = link_lower e (h e (here refl)) in
          let b = go L (λ f m. h f (there m)) in
          λ i. a i ∷ b i

  graph_distinct : Distinct (graph_of n ps).links
  unfolding graph_of links_of
  graph_distinct = sort-distinct link_before (map link_of ps) (links_distinct n ps named.good)

  pub named_again : Named n (pairs_of (graph_of n ps))
  unfolding pairs_of graph_of
  named_again = record {
    good = record {
      fit = λ p m. at p (map_in lower_first (graph_of n ps).links m);
      distinct = go (graph_of n ps).links graph_distinct (λ e m. proper.ordered e (in_member (graph_of n ps).links m));
    };
    some_account = named.some_account;
    accounts = named.accounts;
    links = omega (arith, length-map (graph_of n ps).links lower_first, graph_size n ps, named.links);
  }
    where
      at : (p : Pair) → (e : Link) × In e (graph_of n ps).links × (p ≡ lower_first e) → (p.first < n) × (p.second < n) × (p.first ≢ p.second)
      at p (e, m, q) =
          let lo : e.lo < e.hi = proper.ordered e (in_member (graph_of n ps).links m) in
          let hi : e.hi < n = proper.below e (in_member (graph_of n ps).links m) in
          rw q (omega arith)

      go : (L : List Link) → Distinct L → ((e : Link) → In e L → e.lo < e.hi) → Sorted (λ (u v : Pair). link_of u ≢ link_of v) (map lower_first L)
      go [] s h = tt
      go (e ∷ L) s h = (λ y m r. new (map_in lower_first L m) r, go L s.1 (λ f m. h f (there m)))
        where
          new : {y : Pair} → (f : Link) × In f L × (y ≡ lower_first f) → link_of (lower_first e) ≡ link_of y → ⊥
          new (f, m, q) r = s.0 f m (sym (link_lower e (h e (here refl))) ∙ r ∙ ap link_of q ∙ link_lower f (h f (there m)))

  pub graph_again : graph_of n (pairs_of (graph_of n ps)) ≡ graph_of n ps
  unfolding graph_of links_of
  graph_again =
      let again : sort link_before (map link_of (pairs_of (graph_of n ps))) ≡ (graph_of n ps).links =
      ap (sort link_before) links_again
      ∙ sort_unique (graph_of n ps).links (map link_of ps) graph_distinct (links_distinct n ps named.good)
      (λ e m. sort_in link_before (map link_of ps) m) (λ e m. in_sort link_before (map link_of ps) m) in
      λ i. record { n = n; links = again i }

-- "An index written from accepted links reads back as those links": as their graph
pub read-index : (file : List ℕ) (n : ℕ) (ps : List Pair) → read_links file ≡ accepted n ps → read_index (index_bytes (graph_of n ps)) ≡ passed (graph_of n ps)
unfolding read_index links_file_in if_index_is graph_of pairs_of
read-index file n ps h =
    ap (if_index_is b) (ap read_links same_file ∙ write_read n (pairs_of G) (named_again n ps named))
    ∙ rw (eq_same_list (index_bytes (graph_of n (pairs_of G))) b (ap index_bytes (graph_again n ps named))) (ap {B = Checked Graph} (λ x. passed x) (graph_again n ps named))
  where
    named : Named n ps
    named = read_named file n ps h

    G : Graph
    G = graph_of n ps

    b : List ℕ
    b = index_bytes G

    row_pair : LinkRow → Pair
    row_pair r = record { first = r.lo; second = r.hi }

    by_rows : (rows : List LinkRow) → map row_pair rows ≡ map lower_first (map row_link rows)
    by_rows [] = refl
    by_rows (r ∷ rows) = ap {B = List Pair} (λ x. row_pair r ∷ x) (by_rows rows)

    few : length G.links ≤ no_group
    few = omega (arith, graph_size n ps, named.links)

    same_file : links_file_in b ≡ write_links n (pairs_of G)
    same_file =
        ap (λ (x : Index). write_links x.n (map row_pair x.links)) (decoded n ps named)
        ∙ ap₂ write_links (index_n G) (by_rows (index G).links ∙ ap (map lower_first) (index_links G (proper n ps named) few))

-- the two answers of the reader
read_cases : (b : List ℕ) → ((G : Graph) × (n : ℕ) × (ps : List Pair) × IsIndexOf b n ps × (G ≡ graph_of n ps) × (read_index b ≡ passed G)) ⊎ (read_index b ≡ refuse 7 0)
unfolding read_index if_index_is
read_cases b = go (read_links (links_file_in b)) refl
  where
    Found : Type 0
    Found = (G : Graph) × (n : ℕ) × (ps : List Pair) × IsIndexOf b n ps × (G ≡ graph_of n ps) × (read_index b ≡ passed G)

    go : (x : Checked Links) → read_links (links_file_in b) ≡ x → Found ⊎ (read_index b ≡ refuse 7 0)
    go (passed l) e = at (test (same_list (index_bytes (graph_of l.n l.pairs)) b))
      where
        at : (same_list (index_bytes (graph_of l.n l.pairs)) b ≡ true) ⊎ (same_list (index_bytes (graph_of l.n l.pairs)) b ≡ false) → Found ⊎ (read_index b ≡ refuse 7 0)
        at (inl c) = inl (
          graph_of l.n l.pairs,
          l.n,
          l.pairs,
          record { file = links_file_in b; file_accepted = e; bytes = same_list_eq (index_bytes (graph_of l.n l.pairs)) b c },
          refl,
          ap (if_index_is b) e ∙ rw c refl,
        )
        at (inr c) = inr (ap (if_index_is b) e ∙ rw c refl)
    go (refused r) e = inr (ap (if_index_is b) e)

-- "the reader takes only what the writer writes"
pub read_only : (b : List ℕ) (G : Graph) → read_index b ≡ passed G → (n : ℕ) × (ps : List Pair) × IsIndexOf b n ps × (G ≡ graph_of n ps)
read_only b G h = go (read_cases b)
  where
    go : ((H : Graph) × (n : ℕ) × (ps : List Pair) × IsIndexOf b n ps × (H ≡ graph_of n ps) × (read_index b ≡ passed H)) ⊎ (read_index b ≡ refuse 7 0)
        → (n : ℕ) × (ps : List Pair) × IsIndexOf b n ps × (G ≡ graph_of n ps)
    go (inl (H, n, ps, x, q, r)) = let s : passed G ≡ passed H = sym h ∙ r in let t : G ≡ H = cc in (n, ps, x, t ∙ q)
    go (inr r) = let z : ◌≡◌ {A = ℕ} 0 1 = cc in absurd (omega arith)

-- "7: the bytes are not the index of any accepted links file", and 7 for no other bytes
pub refused_7 : (b : List ℕ) → (read_index b ≡ refuse 7 0) ↔ (¬ ((n : ℕ) × (ps : List Pair) × IsIndexOf b n ps))
refused_7 b = (to, back (read_cases b))
  where
    to : read_index b ≡ refuse 7 0 → ¬ ((n : ℕ) × (ps : List Pair) × IsIndexOf b n ps)
    to h (n, ps, x) =
        let r : read_index b ≡ passed (graph_of n ps) = ap read_index (sym x.bytes) ∙ read-index x.file n ps x.file_accepted in
        let z : ◌≡◌ {A = ℕ} 0 1 = cc in
        omega arith

    back : ((H : Graph) × (n : ℕ) × (ps : List Pair) × IsIndexOf b n ps × (H ≡ graph_of n ps) × (read_index b ≡ passed H)) ⊎ (read_index b ≡ refuse 7 0)
        → ¬ ((n : ℕ) × (ps : List Pair) × IsIndexOf b n ps) → read_index b ≡ refuse 7 0
    back (inl (H, n, ps, x, q, r)) none = absurd (none (n, ps, x))
    back (inr r) none = r

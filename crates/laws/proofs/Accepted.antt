-- What an accepted links file names: n and m within their limits, pairs of different accounts below n, no pair twice. So its graph is proper.
use mathlib.Core.Path.{◌≡◌, refl, sym, ap, ◌∙◌, subst}
use mathlib.Core.Logic.{◌⊎◌, inl, inr, ◌≢◌}
use mathlib.Core.Bool.{Bool, true, false, not, ◌||◌}
use mathlib.Core.List.{List, [], ◌∷◌, ◌++◌, map}
use mathlib.Core.List.Memᴰ.{append_cases as in-append}
use mathlib.Core.List.Memᴰ.{eq_of_singleton as in-single}
use mathlib.Core.List.Memᴰ.{not-nil as in-nil}
use mathlib.Core.List.{Memᴰ as In}
use Prim.Native.Nat.{ℕ, zero, suc, ◌+◌, ◌≤◌, ◌<◌}
use native.Mathlib.Omega.{arith}
use lib.Dec.{eqb, ltb, leb}
use lib.ListN.{length, length-append, length-map}
use borrow.Author.Tests.{eqb-true, eqb-false, leb-false, ltb-false, not-false}
use Rattle.truss.specs.Limits.{max_accounts, max_links}
use Rattle.truss.specs.Graph.{Link, Pair, link, link_of, links_of, link_before, graph_of, member, link_number}
use Rattle.truss.specs.Refusal.{Checked, passed, refused, refuse_if, and_then}
use Rattle.truss.specs.Record.{kind_end, kind_plain_link, kind_head, body_length, byte_at, field_at, holds_body, whole}
use Rattle.truss.specs.LinksFile.{Head, Links, accepted, read_head, read_pairs, read_links}
use Rattle.laws.proofs.Proper.{Proper}
use Rattle.laws.proofs.Lists.{true_not_false, and_left, or_left_false, or_right_false}
use Rattle.laws.proofs.Members.{Sorted, map_in, in_map, sort_in, in_sort, member_in, in_member}
use Rattle.laws.proofs.Sets.{sorted-append}
use Rattle.laws.proofs.Ordering.{Distinct, sort-distinct, position_of, sort-length}

-- a check that does not refuse: its test is false, and the checks after it pass
pub not_refused : {A : Type 0} (t : Bool) (k p : ℕ) (x : A) (rest : Checked A) → refuse_if t k p rest ≡ passed x → (t ≡ false) × (rest ≡ passed x)
not_refused true k p x rest h = let z : ◌≡◌ {A = ℕ} 0 1 = cc in absurd (omega arith)
not_refused false k p x rest h = (refl, h)

pub record GoodPairs (n : ℕ) (ps : List Pair) : Type 0 where
  pub fit : (p : Pair) → In p ps → (p.first < n) × (p.second < n) × (p.first ≢ p.second)
  pub distinct : Sorted (λ (p q : Pair). link_of p ≢ link_of q) ps

pub record Named (n : ℕ) (ps : List Pair) : Type 0 where
  pub good : GoodPairs n ps
  pub some_account : 0 < n
  pub accounts : n ≤ max_accounts
  pub links : length ps ≤ max_links

pub read_good : (b : List ℕ) (n r at : ℕ) (seen : List Pair) → GoodPairs n seen → (n' : ℕ) (ps : List Pair) → read_pairs b n r at seen ≡ accepted n' ps
    → (n' ≡ n) × GoodPairs n ps × (length ps ≡ length seen + r)
unfolding read_pairs
read_good b n zero at seen g n' ps h = last second.1
  where
    l' : Links
    l' = record { n = n'; pairs = ps }

    first : (not (whole b at kind_end) ≡ false) × (refuse_if (not (eqb (length b) (at + 1))) 1 (at + 1) (accepted n seen) ≡ accepted n' ps)
    first = not_refused (not (whole b at kind_end)) 1 at l' (refuse_if (not (eqb (length b) (at + 1))) 1 (at + 1) (accepted n seen)) h

    second : (not (eqb (length b) (at + 1)) ≡ false) × (accepted n seen ≡ accepted n' ps)
    second = not_refused (not (eqb (length b) (at + 1))) 1 (at + 1) l' (accepted n seen) first.1

    last : accepted n seen ≡ accepted n' ps → (n' ≡ n) × GoodPairs n ps × (length ps ≡ length seen + 0)
    last q =
        let r : record { n = n; pairs = seen } ≡ l' = cc in
        let a : n' ≡ n = sym (ap (λ (l : Links). l.n) r) in
        let c : seen ≡ ps = ap (λ (l : Links). l.pairs) r in
        (a, subst (GoodPairs n) c g, ap length (sym c) ∙ omega arith)
read_good b n (suc r) at seen g n' ps h = last (read_good b n r (at + 5) (seen ++ (p ∷ [])) good n' ps t6.1)
  where
    l' : Links
    l' = record { n = n'; pairs = ps }

    x : ℕ
    x = field_at b (at + 1)

    y : ℕ
    y = field_at b (at + 3)

    p : Pair
    p = record { first = x; second = y }

    c6 : Checked Links
    c6 = read_pairs b n r (at + 5) (seen ++ (p ∷ []))

    c5 : Checked Links
    c5 = refuse_if (member (map link_of seen) (link x y)) 6 at c6

    c4 : Checked Links
    c4 = refuse_if (eqb x y) 5 at c5

    c1 : Checked Links
    c1 = refuse_if (leb n x || leb n y) 4 at c4

    t1 : (not (whole b at kind_plain_link) ≡ false) × (c1 ≡ accepted n' ps)
    t1 = not_refused (not (whole b at kind_plain_link)) 1 at l' c1 h

    t4 : ((leb n x || leb n y) ≡ false) × (c4 ≡ accepted n' ps)
    t4 = not_refused (leb n x || leb n y) 4 at l' c4 t1.1

    t5 : (eqb x y ≡ false) × (c5 ≡ accepted n' ps)
    t5 = not_refused (eqb x y) 5 at l' c5 t4.1

    t6 : (member (map link_of seen) (link x y) ≡ false) × (c6 ≡ accepted n' ps)
    t6 = not_refused (member (map link_of seen) (link x y)) 6 at l' c6 t5.1

    fits : (x < n) × (y < n) × (x ≢ y)
    fits = (leb-false n x (or_left_false (leb n x) (leb n y) t4.0), leb-false n y (or_right_false (leb n x) (leb n y) t4.0), eqb-false x y t5.0)

    good : GoodPairs n (seen ++ (p ∷ []))
    good = record {
      fit = λ q m. at_one q (in-append seen m);
      distinct = sorted-append (λ (u v : Pair). link_of u ≢ link_of v) seen (p ∷ []) g.distinct (λ v m. absurd (in-nil m), tt) (λ u v mu mv. new u v mu (in-single mv));
    }
      where
        at_one : (q : Pair) → In q seen ⊎ In q (p ∷ []) → (q.first < n) × (q.second < n) × (q.first ≢ q.second)
        at_one q (inl m) = g.fit q m
        at_one q (inr m) = rw (in-single m) fits

        new : (u v : Pair) → In u seen → v ≡ p → link_of u ≢ link_of v
        new u v m q e = true_not_false (in_member (map link_of seen) (mathlib.Core.List.Memᴰ.cast (ap link_of (sym q) ∙ sym e) (in_map link_of seen m))) t6.0

    last : (n' ≡ n) × GoodPairs n ps × (length ps ≡ length (seen ++ (p ∷ [])) + r) → (n' ≡ n) × GoodPairs n ps × (length ps ≡ length seen + suc r)
    last (a, c, d) = (a, c, omega (arith, d, length-append seen (p ∷ [])))

-- what a head that passes says
pub record GoodHead (b : List ℕ) (h : Head) : Type 0 where
  pub is_n : h.n ≡ field_at b 1
  pub is_m : h.m ≡ field_at b 3
  pub some_account : 0 < h.n
  pub accounts : h.n ≤ max_accounts
  pub links : h.m ≤ max_links

-- it begins with the kind that is looked for
pub head_kind : (kind : ℕ) (b : List ℕ) (h : Head) → read_head kind b ≡ passed h → byte_at b 0 ≡ kind
unfolding read_head
head_kind kind b h q =
    eqb-true (byte_at b 0) kind (and_left (eqb (byte_at b 0) kind) (holds_body (body_length kind) b 0) (not-false (whole b 0 kind) (not_refused (not (whole b 0 kind)) 1 0 h _ q).0))

pub head_good : (kind : ℕ) (b : List ℕ) (h : Head) → read_head kind b ≡ passed h → GoodHead b h
unfolding read_head
head_good kind b h q = record {
  is_n = sym same_n;
  is_m = sym same_m;
  some_account = let z : n ≢ 0 = eqb-false n 0 (or_left_false (eqb n 0) (ltb max_accounts n) t2.0) in omega (arith, same_n, z);
  accounts = omega (arith, same_n, ltb-false max_accounts n (or_right_false (eqb n 0) (ltb max_accounts n) t2.0));
  links = omega (arith, same_m, ltb-false max_links m t3.0);
}
  where
    n : ℕ
    n = field_at b 1

    m : ℕ
    m = field_at b 3

    said : Head
    said = record { n = n; m = m }

    c2 : Checked Head
    c2 = refuse_if (ltb max_links m) 3 0 (passed said)

    c1 : Checked Head
    c1 = refuse_if (eqb n 0 || ltb max_accounts n) 2 0 c2

    t1 : (not (whole b 0 kind) ≡ false) × (c1 ≡ passed h)
    t1 = not_refused (not (whole b 0 kind)) 1 0 h c1 q

    t2 : ((eqb n 0 || ltb max_accounts n) ≡ false) × (c2 ≡ passed h)
    t2 = not_refused (eqb n 0 || ltb max_accounts n) 2 0 h c2 t1.1

    t3 : (ltb max_links m ≡ false) × (passed said ≡ passed h)
    t3 = not_refused (ltb max_links m) 3 0 h (passed said) t2.1

    same : said ≡ h
    same = let e : passed said ≡ passed h = t3.1 in cc

    same_n : n ≡ h.n
    same_n = ap (λ (x : Head). x.n) same

    same_m : m ≡ h.m
    same_m = ap (λ (x : Head). x.m) same

pub read_named : (b : List ℕ) (n : ℕ) (ps : List Pair) → read_links b ≡ accepted n ps → Named n ps
unfolding read_links and_then
read_named b n ps h = go (read_head kind_head b) refl h
  where
    go : (x : Checked Head) → read_head kind_head b ≡ x → and_then x (λ (y : Head). read_pairs b y.n y.m 5 []) ≡ accepted n ps → Named n ps
    go (passed y) e q = from (head_good kind_head b y e) (read_good b y.n y.m 5 [] (record { fit = λ p k. absurd (in-nil k); distinct = tt }) n ps q)
      where
        from : GoodHead b y → (n ≡ y.n) × GoodPairs y.n ps × (length ps ≡ 0 + y.m) → Named n ps
        from g (a, c, d) = record {
          good = subst (λ (k : ℕ). GoodPairs k ps) (sym a) c;
          some_account = omega (arith, a, g.some_account);
          accounts = omega (arith, a, g.accounts);
          links = omega (arith, d, g.links);
        }
    go (refused r) e q = let z : ◌≡◌ {A = ℕ} 0 1 = cc in absurd (omega arith)

-- ---- the graph

module _ (n : ℕ) (ps : List Pair) where
  -- the graph's links are the file's
  pub graph_in_lem : {e : Link} → In e (graph_of n ps).links → In e (map link_of ps)
  unfolding graph_of links_of
  graph_in_lem m = sort_in link_before (map link_of ps) m

  pub in_graph : {e : Link} → In e (map link_of ps) → In e (graph_of n ps).links
  unfolding graph_of links_of
  in_graph m = in_sort link_before (map link_of ps) m

  pub graph_size : length (graph_of n ps).links ≡ length ps
  unfolding graph_of links_of
  graph_size = sort-length link_before (map link_of ps) ∙ length-map ps link_of

  module _ (good : GoodPairs n ps) where
    pub links_distinct : Distinct (map link_of ps)
    links_distinct = go ps good.distinct
      where
        go : (qs : List Pair) → Sorted (λ (p q : Pair). link_of p ≢ link_of q) qs → Distinct (map link_of qs)
        go [] s = tt
        go (q ∷ qs) s = (λ e m r. at (map_in link_of qs m) r, go qs s.1)
          where
            at : {e : Link} → (v : Pair) × In v qs × (e ≡ link_of v) → link_of q ≡ e → ⊥
            at (v, mv, w) r = s.0 v mv (r ∙ w)

    pub graph_proper : Proper (graph_of n ps)
    unfolding graph_of links_of link_number
    graph_proper = record {
      ordered = λ e h. at_ordered (map_in link_of ps (graph_in_lem (member_in (graph_of n ps).links e h)));
      below = λ e h. at_below (map_in link_of ps (graph_in_lem (member_in (graph_of n ps).links e h)));
      numbered = λ i l. position_of (graph_of n ps).links (link 0 0) (sort-distinct link_before (map link_of ps) links_distinct) i l;
    }
      where
        at_ordered : {e : Link} → (p : Pair) × In p ps × (e ≡ link_of p) → e.lo < e.hi
        at_ordered (p, m, q) = let f = good.fit p m in rw q (omega (arith, f.2))

        at_below : {e : Link} → (p : Pair) × In p ps × (e ≡ link_of p) → e.hi < n
        at_below (p, m, q) = let f = good.fit p m in rw q (omega (arith, f.0, f.1))

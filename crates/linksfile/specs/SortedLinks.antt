-- Keys of different pairs, in rising order, name the graph of those pairs. Assumes nothing.
use Rattle.std.specs.Prelude.{◌≡◌, refl, ◌⊎◌}
use Rattle.std.proofs.Math.Path.{sym, ap, subst}
use Rattle.std.proofs.Common.{◌∙◌, inl, inr, arith}
use mathlib.Core.List.{List, map}
use mathlib.Core.List.{Memᴰ as In}
use Prim.Native.Nat.{ℕ, zero, suc, ◌+◌, ◌*◌, ◌/◌, ◌%◌, ◌≤◌, ◌<◌}
use Rattle.std.proofs.Math.ListN.{length, get_or, length-map}
use Rattle.truss.specs.Limits.{max_accounts}
use Rattle.truss.specs.Lists.{range, sort}
use Rattle.truss.specs.Graph.{Link, Pair, link, link_of, links_of, link_at, link_before, graph_of}
use Rattle.laws.proofs.Members.{Sorted, map_in, in_map, sort_in, in_sort, sort_sorted, range_in, in_range, range_length}
use Rattle.laws.proofs.Sets.{map_range_at}
use Rattle.laws.proofs.Ordering.{Distinct, NotAfter, lower, tied, not_after_trans, not_after_antisym, before_yes, before_no, sorted_unique, sort-distinct}
use Rattle.laws.proofs.Accepted.{GoodPairs, graph_proper, links_distinct}
use Rattle.columns.specs.Columns.{cell, COLUMNS}
use Rattle.columns.specs.Named.{Named}
use Rattle.linksfile.specs.Records.{key_of}

-- the link of a key
abbrev pub link_of_key : ℕ → Link
link_of_key k = record { lo = k / 65536; hi = k % 65536 }

-- a row of keys: rising, and each that of a pair, and each pair's among them
pub record Row (n m : ℕ) (ps : List Pair) (f : ℕ → ℕ) : Type 0 where
  pub count : length ps ≡ m
  pub good : GoodPairs n ps
  pub small : n ≤ max_accounts
  pub rises : (i j : ℕ) → i < j → j < m → f i < f j
  pub only : (i : ℕ) → i < m → (p : Pair) × In p ps × (f i ≡ key_of (link_of p))
  pub each : (p : Pair) → In p ps → (i : ℕ) × (i < m) × (f i ≡ key_of (link_of p))

module _ {n m : ℕ} {ps : List Pair} {f : ℕ → ℕ} (R : Row n m ps f) where
  L : List Link
  L = map (λ (i : ℕ). link_of_key (f i)) (range 0 m)

  back : (p : Pair) → In p ps → (k : ℕ) → k ≡ key_of (link_of p) → link_of_key k ≡ link_of p
  back p mp k q =
      let g = R.good.fit p mp in
      let a : k / 65536 ≡ (link_of p).lo = omega (arith, q, g.0, g.1, R.small) in
      let b : k % 65536 ≡ (link_of p).hi = omega (arith, q, g.0, g.1, R.small) in
      λ i. record { lo = a i; hi = b i }

  to : (e : Link) → In e L → In e (map link_of ps)
  unfolding L
  to e me = at (map_in (λ (i : ℕ). link_of_key (f i)) (range 0 m) me)
    where
      at : (i : ℕ) × In i (range 0 m) × (e ≡ link_of_key (f i)) → In e (map link_of ps)
      at (i, mi, q) =
          let w = R.only i (omega (arith, (range_in 0 m mi).1)) in
          subst (λ (z : Link). In z (map link_of ps)) (sym (q ∙ back w.0 w.1 (f i) w.2)) (in_map link_of ps w.1)

  from : (e : Link) → In e (map link_of ps) → In e L
  unfolding L
  from e me = at (map_in link_of ps me)
    where
      at : (p : Pair) × In p ps × (e ≡ link_of p) → In e L
      at (p, mp, q) =
          let w = R.each p mp in
          subst (λ (z : Link). In z L) (sym (q ∙ sym (back p mp (f w.0) w.2))) (in_map (λ (i : ℕ). link_of_key (f i)) (range 0 m) (in_range 0 m (omega arith) (omega (arith, w.1))))

  -- rising keys are links in order
  after : (k l : ℕ) → k < l → NotAfter (link_of_key k) (link_of_key l)
  after k l h = go (Rattle.laws.proofs.Numbers.less_or_not (k / 65536) (l / 65536))
    where
      go : (k / 65536 < l / 65536) ⊎ (l / 65536 ≤ k / 65536) → NotAfter (link_of_key k) (link_of_key l)
      go (inl c) = lower c
      go (inr c) = tied (omega arith) (omega arith)

  rising : (a r : ℕ) → a + r ≤ m → Sorted NotAfter (map (λ (i : ℕ). link_of_key (f i)) (range a r))
  unfolding range
  rising a zero l = tt
  rising a (suc r) l = (λ e me. at (map_in (λ (i : ℕ). link_of_key (f i)) (range (suc a) r) me), rising (suc a) r (omega arith))
    where
      at : {e : Link} → (i : ℕ) × In i (range (suc a) r) × (e ≡ link_of_key (f i)) → NotAfter (link_of_key (f a)) e
      at (i, mi, q) = let w = range_in (suc a) r mi in rw q (after (f a) (f i) (R.rises a i (omega (arith, w.0)) (omega (arith, w.1))))

  different : (a r : ℕ) → a + r ≤ m → Distinct (map (λ (i : ℕ). link_of_key (f i)) (range a r))
  unfolding range
  different a zero l = tt
  different a (suc r) l = (λ e me q. at (map_in (λ (i : ℕ). link_of_key (f i)) (range (suc a) r) me) q, different (suc a) r (omega arith))
    where
      at : {e : Link} → (i : ℕ) × In i (range (suc a) r) × (e ≡ link_of_key (f i)) → link_of_key (f a) ≡ e → ⊥
      at (i, mi, q) e =
          let w = range_in (suc a) r mi in
          let same : link_of_key (f a) ≡ link_of_key (f i) = e ∙ q in
          let x : f a / 65536 ≡ f i / 65536 = ap (λ (z : Link). z.lo) same in
          let y : f a % 65536 ≡ f i % 65536 = ap (λ (z : Link). z.hi) same in
          omega (arith, x, y, R.rises a i (omega (arith, w.0)) (omega (arith, w.1)))

  -- so the row is the graph's list of links
  links_are : L ≡ (graph_of n ps).links
  unfolding L graph_of links_of
  links_are =
      sorted_unique NotAfter not_after_antisym L (sort link_before (map link_of ps)) (rising 0 m (omega arith))
      (sort_sorted link_before NotAfter not_after_trans before_yes before_no (map link_of ps)) (different 0 m (omega arith))
      (sort-distinct link_before (map link_of ps) (links_distinct n ps R.good))
      (λ e me. in_sort link_before (map link_of ps) (to e me)) (λ e me. from e (sort_in link_before (map link_of ps) me))

  link_is : (i : ℕ) → i < m → link_at (graph_of n ps) i ≡ link_of_key (f i)
  unfolding L
  link_is i l =
      ap (λ (xs : List Link). get_or xs i (link 0 0)) (sym links_are) ∙ map_range_at (λ (j : ℕ). link_of_key (f j)) (link 0 0) 0 m i l
      ∙ ap (λ (j : ℕ). link_of_key (f j)) (omega arith)

  pub row_named : {w : List ℕ} → m ≤ 65535 → length w ≡ COLUMNS * m → ((i : ℕ) → i < m → cell w m 0 i ≡ f i) → Named (graph_of n ps) m n w
  unfolding graph_of L
  row_named few size keys = record {
    proper = graph_proper n ps R.good;
    accounts = refl;
    count = ap length (sym links_are) ∙ length-map (range 0 m) (λ (i : ℕ). link_of_key (f i)) ∙ range_length 0 m;
    few = few;
    small = R.small;
    size = size;
    key = λ i l.
        let q = link_is i l in
        let a : (link_at (graph_of n ps) i).lo ≡ f i / 65536 = ap (λ (e : Link). e.lo) q in
        let b : (link_at (graph_of n ps) i).hi ≡ f i % 65536 = ap (λ (e : Link). e.hi) q in
        keys i l ∙ omega (arith, a, b);
  }

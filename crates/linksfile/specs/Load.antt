-- A links file whose head is good, loaded: what the scan of its records finds, and what is known after the sort. Assumes nothing.
use Rattle.std.specs.Prelude.{◌≡◌, refl, ◌⊎◌, ◌≢◌, List, [], ℕ, ◌*◌, ◌≤◌, ◌<◌, length}
use Rattle.std.proofs.Common.{sym, ap, ◌∙◌, inl, inr, arith}
use Rattle.std.proofs.Math.Path.{subst}
use mathlib.Core.List.Memᴰ.{not-nil as in-nil}
use Rattle.truss.specs.Limits.{max_accounts, max_links}
use Rattle.truss.specs.Graph.{Pair, link_of, graph_of}
use Rattle.truss.specs.Refusal.{Refusal, Checked, passed, refused, refuse}
use Rattle.truss.specs.Record.{kind_head}
use Rattle.truss.specs.LinksFile.{Links, accepted, read_head, read_pairs}
use Rattle.laws.proofs.Numbers.{same_or_not}
use Rattle.laws.proofs.Accepted.{GoodHead, head_good, read_good}
use Rattle.columns.specs.Columns.{cell, COLUMNS}
use Rattle.columns.specs.Named.{Named}
use Rattle.sorting.specs.Order.{spot, NoRepeat}
use Rattle.sorting.specs.State.{Keys, SortedBy}
use Rattle.sorting.specs.Gives.{SortAsks}
use Rattle.linksfile.specs.Records.{key_of, place_of, pair_at, record_at, end_at, Good, Sound, sound, pairs_to, pairs_length, pairs_in_lem, in_pairs, walk_repeat, walk_fault, walk_end_fault, walk-done}
use Rattle.linksfile.specs.SortedLinks.{Row, row_named}

-- whether checks pass, whatever they let pass
unfoldable pub forget : {A : Type 0} → Checked A → Checked (Unit {0})
forget (passed x) = passed tt
forget (refused r) = refused r

-- what a scan finds after so many records: the next one's own fault, or what the end gives
pub data Stop (b : List ℕ) (n m count : ℕ) (rest : Checked (Unit {0})) : Type 0 where
  at_record : (r : Refusal) → count < m → record_at b n (place_of count) ≡ refused r → rest ≡ refused r → Stop b n m count rest
  at_end : count ≡ m → rest ≡ end_at b (place_of m) → Stop b n m count rest

-- the scan: the keys of the first records, as far as none has a fault by itself, and what it found after them
pub record Scanned (b : List ℕ) (n m count : ℕ) (rest : Checked (Unit {0})) (w : List ℕ) : Type 0 where
  pub part : count ≤ m
  pub size : length w ≡ COLUMNS * m
  pub keys : Good b n (cell w m 14) count
  pub stop : Stop b n m count rest

-- what the scan asks of the work space
pub record ScanAsks (m n : ℕ) (w : List ℕ) : Type 0 where
  pub size : length w ≡ COLUMNS * m
  pub few : m ≤ 65535
  pub small : n ≤ max_accounts

-- what the head's checks let pass
pub record LoadAsks (b : List ℕ) (n m : ℕ) (w : List ℕ) : Type 0 where
  pub head : read_head kind_head b ≡ passed (record { n = n; m = m })
  pub size : length w ≡ COLUMNS * m

-- what loading gives: the walk's own outcome, and the graph in column 0 where there is no fault
pub record LoadGives (b : List ℕ) (n m : ℕ) (loaded : Checked (Unit {0})) (w : List ℕ) : Type 0 where
  pub outcome : loaded ≡ forget (read_pairs b n m 5 [])
  pub named : (ps : List Pair) → read_pairs b n m 5 [] ≡ accepted n ps → Named (graph_of n ps) m n w
  pub length_is : length w ≡ COLUMNS * m

module _ {b : List ℕ} {n m count : ℕ} {rest : Checked (Unit {0})} {w₀ w₁ : List ℕ} (P : LoadAsks b n m w₀) (S : Scanned b n m count rest w₁) where
  H : GoodHead b (record { n = n; m = m })
  H = head_good kind_head b (record { n = n; m = m }) P.head

  pub load_few : m ≤ max_links
  unfolding H
  load_few = H.links

  accounts_few : n ≤ max_accounts
  unfolding H
  accounts_few = H.accounts

  abbrev pub K : Keys
  K = record { key = cell w₁ m 14; count = count; accounts = n }

  at : (r : ℕ) → r < count → Sound b n r (cell w₁ m 14 r)
  at r l = sound b n r (cell w₁ m 14 r) (S.keys r l)

  pub sort_asks : SortAsks K m n count w₁
  sort_asks = record {
    keyed = record {
      size = S.size;
      few = omega (arith, load_few);
      part = S.part;
      small = accounts_few;
      file = λ r l. refl;
      lower = λ r l. let s = at r l in omega (arith, s.key_is, s.first_below, s.second_below, accounts_few);
      higher = λ r l. let s = at r l in omega (arith, s.key_is, s.first_below, s.second_below, accounts_few);
    };
    accounts = refl;
    count = refl;
  }

  module _ {best : ℕ} {w₂ : List ℕ} (T : SortedBy K m best w₂) where
    κ : ℕ → ℕ
    κ = cell w₁ m 14

    size₂ : length w₂ ≡ COLUMNS * m
    size₂ = T.taken.sorted.keyed.size

    small : n ≤ 65535
    small = omega (arith, accounts_few)

    -- a refusal names no graph
    none_named : {r : Refusal} → read_pairs b n m 5 [] ≡ refused r → (ps : List Pair) → read_pairs b n m 5 [] ≡ accepted n ps → Named (graph_of n ps) m n w₂
    none_named h ps q = let z : ◌≡◌ {A = ℕ} 0 1 = cc in absurd (omega arith)

    refusal : (r : Refusal) → read_pairs b n m 5 [] ≡ refused r → LoadGives b n m (refused r) w₂
    unfolding forget
    refusal r h = record { outcome = rw h refl; named = none_named h; length_is = size₂ }

    -- a repeat
    pub load_repeat : best < count → LoadGives b n m (refuse 6 (place_of best)) w₂
    unfolding κ
    load_repeat l =
        let r = T.repeat.repeats l in
        refusal (record { number = 6; place = place_of best })
        (walk_repeat b n m κ small best (omega (arith, S.part)) (λ j k. S.keys j (omega arith)) T.repeat.first r.0 r.1 r.2)

    no_repeat : count ≤ best → NoRepeat κ count
    unfolding κ
    no_repeat l j r p q = T.repeat.first j r p (omega (arith, l))

    -- no repeat, and all records good: what the end gives
    ended : count ≤ best → count ≡ m → (e : Checked (Unit {0})) → end_at b (place_of m) ≡ e → LoadGives b n m e w₂
    unfolding κ forget
    ended l c (refused r) e = refusal r (walk_end_fault b n m κ small r.number r.place all_good all_new e)
      where
        all_good : Good b n κ m
        all_good = subst (Good b n κ) c S.keys

        all_new : NoRepeat κ m
        all_new = subst (NoRepeat κ) c (no_repeat l)
    ended l c (passed tt) e = record {
      outcome = rw done refl;
      named = λ ps h. let q : accepted n (pairs_to b m) ≡ accepted n ps = sym done ∙ h in subst (λ (xs : List Pair). Named (graph_of n xs) m n w₂) (pairs_same q) name;
      length_is = size₂;
    }
      where
        all_good : Good b n κ m
        all_good = subst (Good b n κ) c S.keys

        all_new : NoRepeat κ m
        all_new = subst (NoRepeat κ) c (no_repeat l)

        done : read_pairs b n m 5 [] ≡ accepted n (pairs_to b m)
        done = walk-done b n m κ small all_good all_new e

        pairs_same : {ps : List Pair} → accepted n (pairs_to b m) ≡ accepted n ps → pairs_to b m ≡ ps
        pairs_same {ps} q = let r : ◌≡◌ {A = Links} (record { n = n; pairs = pairs_to b m }) (record { n = n; pairs = ps }) = cc in ap (λ (x : Links). x.pairs) r

        π : ℕ → ℕ
        π = cell w₂ m 3

        row : Row n m (pairs_to b m) (λ i. κ (π i))
        row = record {
          count = pairs_length b m;
          good = (read_good b n m 5 [] (record { fit = λ p k. absurd (in-nil k); distinct = tt }) n (pairs_to b m) done).1;
          small = accounts_few;
          rises = λ i j p q. rises i j p (omega (arith, c)) (omega (arith, c, q));
          only = λ i k. (pair_at b (π i), in_pairs b m (π i) (below i (omega (arith, c, k))), (at (π i) (omega (arith, c, below i (omega (arith, c, k))))).key_is);
          each = λ p mp. found p (pairs_in_lem b m mp);
        }
          where
            R : Rattle.sorting.specs.Order.Row κ count (n * 4294967296) count π
            R = T.taken.sorted.row

            below : (i : ℕ) → i < count → π i < m
            below i k = omega (arith, c, R.small i k)

            rises : (i j : ℕ) → i < j → m ≤ count → j < count → κ (π i) < κ (π j)
            rises i j p f q = strict (same_or_not (κ (π i)) (κ (π j)))
              where
                up : spot κ (π i) < spot κ (π j)
                up = R.rises i j p q

                strict : (κ (π i) ≡ κ (π j)) ⊎ (κ (π i) ≢ κ (π j)) → κ (π i) < κ (π j)
                strict (inl x) = absurd (all_new (π i) (π j) (omega (arith, up, x)) (below j q) x)
                strict (inr x) = omega (arith, up, x, R.small i (omega arith), R.small j q, load_few, S.part)

            found : (p : Pair) → (j : ℕ) × (j < m) × (p ≡ pair_at b j) → (i : ℕ) × (i < m) × (κ (π i) ≡ key_of (link_of p))
            found p (j, lj, x) = row_at_lem (R.all j (omega (arith, c, lj)) top)
              where
                s : Sound b n j (κ j)
                s = at j (omega (arith, c, lj))

                top : spot κ j < n * 4294967296
                top = omega (arith, s.key_is, s.first_below, s.second_below, accounts_few, lj, load_few)

                row_at_lem : (i : ℕ) × (i < count) × (π i ≡ j) → (i : ℕ) × (i < m) × (κ (π i) ≡ key_of (link_of p))
                row_at_lem (i, li, y) = (i, omega (arith, c, li), ap κ y ∙ s.key_is ∙ ap (λ (z : Pair). key_of (link_of z)) (sym x))

        name : Named (graph_of n (pairs_to b m)) m n w₂
        name = row_named row (omega (arith, load_few)) size₂ (λ i k. T.taken.keys i (omega (arith, c, k)))

    -- no repeat: the scan's own fault, or the graph
    pub load_scan : count ≤ best → LoadGives b n m rest w₂
    unfolding κ
    load_scan l = go S.stop
      where
        go : Stop b n m count rest → LoadGives b n m rest w₂
        go (at_record r c e f) = rw f (refusal r (walk_fault b n m κ small count r.number r.place c S.keys (no_repeat l) e))
        go (at_end c f) = rw f (ended l c (end_at b (place_of m)) refl)

pub scan_asks : {b : List ℕ} {n m : ℕ} {w : List ℕ} → LoadAsks b n m w → ScanAsks m n w
scan_asks {b} {n} {m} P =
    let H = head_good kind_head b (record { n = n; m = m }) P.head in
    record { size = P.size; few = omega (arith, H.links); small = H.accounts }

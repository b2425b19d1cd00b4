-- The links of strength at least k of an index, loaded: `count_strong`, `load_strong`. Assumes nothing.
use Rattle.std.specs.Prelude.{◌≡◌, refl, ◌⊎◌, ◌≢◌, List, [], ◌∷◌, ◌++◌, ℕ, ◌+◌, ◌*◌, ◌≤◌, ◌<◌, length, get_or}
use Rattle.std.proofs.Common.{sym, ap, ◌∙◌, inl, inr, arith}
use Rattle.std.proofs.Math.ListN.{get_or-append}
use Rattle.std.proofs.lemmas.List.{get_or_at}
use Rattle.truss.specs.Graph.{Link, Graph, link, link_at}
use Rattle.laws.proofs.Numbers.{same_or_not}
use Rattle.laws.proofs.Groups.{size, strength_at}
use Rattle.columns.specs.Columns.{cell, store, KEY, HALF, COLUMNS, link_bound}
use Rattle.columns.specs.Laws.{stored, kept_entry, kept_column, length-store}
use Rattle.stored.specs.Rows.{graph_in, IsIndex, index-order, few_links, few_accounts}
use Rattle.chain.specs.Search.{Given}
use Rattle.chain.specs.Strong.{strong_of, strong_to, strong_none, strong_all, strong_within, strong_skip, strong_take, strong_count, strong_order, strong_fewer, strong_accounts}

-- a link's key
abbrev pub link_key : Link → ℕ
link_key e = e.lo * HALF + e.hi

-- ---- the first i links

pub record Loading (G : Graph) (k h i j : ℕ) (w₀ w : List ℕ) : Type 0 where
  pub count : j ≡ length (strong_to G k i)
  pub length_is : length w ≡ length w₀
  pub keys : (y : ℕ) → y < j → cell w h KEY y ≡ link_key (get_or (strong_to G k i) y (link 0 0))
  pub others : (c y : ℕ) → c ≢ KEY → y < h → cell w h c y ≡ cell w₀ h c y

pub loading_none : (G : Graph) (k h : ℕ) (w : List ℕ) → Loading G k h 0 0 w w
loading_none G k h w = record { count = sym (ap length (strong_none G k)); length_is = refl; keys = λ y l. absurd (omega arith); others = λ c y n l. refl }

module _ {s : List ℕ} {k h i j : ℕ} {w₀ w : List ℕ} (I : IsIndex s) (hq : h ≡ size (strong_of (graph_in s) k)) (size₀ : length w₀ ≡ COLUMNS * h)
    (L : Loading (graph_in s) k h i j w₀ w) (l : i < size (graph_in s)) where
  abbrev G : Graph
  G = graph_in s

  pub loading_few : h ≤ link_bound
  loading_few = omega (arith, hq, strong_fewer G k, few_links I)

  pub loading_room : k ≤ strength_at (graph_in s) i → j < h
  loading_room strong = omega (arith, hq, L.count, strong_count G k i l strong, strong_within G k (i + 1))

  -- link i is left out
  pub loading_skip : strength_at (graph_in s) i < k → Loading (graph_in s) k h (i + 1) j w₀ w
  loading_skip weak =
      let same = strong_skip G k i l weak in
      record {
        count = L.count ∙ sym (ap length same);
        length_is = L.length_is;
        keys = λ y yl. rw same (L.keys y yl);
        others = L.others;
      }

  -- its key goes to place j
  pub loading_take : k ≤ strength_at (graph_in s) i → {x : ℕ} → x ≡ link_key (link_at (graph_in s) i) → Loading (graph_in s) k h (i + 1) (j + 1) w₀ (store w h KEY j x)
  loading_take strong q = rw q (record {
    count = omega (arith, L.count, strong_count G k i l strong);
    length_is = length-store w h KEY j (link_key (link_at G i)) ∙ L.length_is;
    keys = λ y yl. key y yl (same_or_not y j);
    others = λ c y n yl. kept_column w h KEY c j y (link_key (link_at G i)) (λ e. n (sym e)) jl yl ∙ L.others c y n yl;
  })
    where
      jl : j < h
      jl = loading_room strong

      more : strong_to (graph_in s) k (i + 1) ≡ strong_to (graph_in s) k i ++ (link_at (graph_in s) i ∷ [])
      more = strong_take (graph_in s) k i l strong

      key : (y : ℕ) → y < j + 1 → (y ≡ j) ⊎ (y ≢ j) → cell (store w h KEY j (link_key (link_at (graph_in s) i))) h KEY y ≡ link_key (get_or (strong_to (graph_in s) k (i + 1)) y (link 0 0))
      key y yl (inl e) =
          let last : get_or (strong_to (graph_in s) k (i + 1)) j (link 0 0) ≡ link_at (graph_in s) i = ap (λ (xs : List Link). get_or xs j (link 0 0)) more ∙ get_or_at (strong_to (graph_in s) k i) (link_at (graph_in s) i) [] (link 0 0) j (sym L.count) in
          rw (e, last) (stored w h KEY j (link_key (link_at (graph_in s) i)) (omega arith) jl (L.length_is ∙ size₀))
      key y yl (inr e) =
          let yj : y < j = omega (arith, yl, e) in
          kept_entry w h KEY j y (link_key (link_at (graph_in s) i)) e ∙ L.keys y yj
          ∙ ap link_key (sym (ap (λ (xs : List Link). get_or xs y (link 0 0)) more ∙ get_or-append (strong_to (graph_in s) k i) (link_at (graph_in s) i ∷ []) (link 0 0) y (omega (arith, yj, L.count))))

-- all of them: the graph of these links stands in the work space, and the other columns stay
pub record LoadGives (k h : ℕ) (s w w' : List ℕ) : Type 0 where
  pub length_is : length w' ≡ length w
  pub keys : (y : ℕ) → y < h → cell w' h KEY y ≡ link_key (link_at (strong_of (graph_in s) k) y)
  pub others : (c y : ℕ) → c ≢ KEY → y < h → cell w' h c y ≡ cell w h c y

pub loading_end : {s : List ℕ} {k h m i j : ℕ} {w₀ w : List ℕ} → h ≡ size (strong_of (graph_in s) k) → size (graph_in s) ≡ m → Loading (graph_in s) k h i j w₀ w → i ≡ m → LoadGives k h s w₀ w
loading_end {s} {k} {h} {m} {i} {j} hq mq L q =
    let all : strong_to (graph_in s) k i ≡ (strong_of (graph_in s) k).links = strong_all (graph_in s) k i (mq ∙ sym q) in
    record {
      length_is = L.length_is;
      keys = λ y l. L.keys y (omega (arith, l, hq, L.count, ap length all)) ∙ ap (λ (xs : List Link). link_key (get_or xs y (link 0 0))) all;
      others = L.others;
    }

pub loaded_given : {s : List ℕ} {k h : ℕ} {w w' : List ℕ} → IsIndex s → h ≡ size (strong_of (graph_in s) k) → length w ≡ COLUMNS * h → LoadGives k h s w w'
    → Given (strong_of (graph_in s) k) h (graph_in s).n w'
loaded_given {s} {k} {h} I hq long L =
    let o = strong_order (graph_in s) (index-order I) k in
    record {
      named = record {
        proper = o.proper;
        accounts = strong_accounts (graph_in s) k;
        count = sym hq;
        few = omega (arith, hq, strong_fewer (graph_in s) k, few_links I);
        small = few_accounts I;
        size = L.length_is ∙ long;
        key = L.keys;
      };
      order = o;
    }

-- ---- how many there are

module _ (G : Graph) (k i : ℕ) {c : ℕ} (l : i < size G) (q : c ≡ length (strong_to G k i)) where
  pub count_skip : strength_at G i < k → c ≡ length (strong_to G k (i + 1))
  count_skip h = omega (arith, q, ap length (strong_skip G k i l h))

  pub count_take : k ≤ strength_at G i → c + 1 ≡ length (strong_to G k (i + 1))
  count_take h = omega (arith, q, strong_count G k i l h)

pub count_small : {s : List ℕ} (k i : ℕ) → IsIndex s → length (strong_to (graph_in s) k i) ≤ link_bound
count_small {s} k i I = omega (arith, strong_within (graph_in s) k i, strong_fewer (graph_in s) k, few_links I)

pub count_end : (s : List ℕ) (k : ℕ) {m i c : ℕ} → size (graph_in s) ≡ m → i ≡ m → c ≡ length (strong_to (graph_in s) k i) → c ≡ size (strong_of (graph_in s) k)
count_end s k {m} {i} mq q e = e ∙ ap length (strong_all (graph_in s) k i (mq ∙ sym q))

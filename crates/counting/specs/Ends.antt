-- The links that have an account as an end: those with it as lower account are neighbours, those with it as higher account are in a chain. Assumes nothing.
use Rattle.std.specs.Prelude.{◌≡◌, refl, ◌⊎◌, ◌≢◌, Bool, true, false, ◌||◌, Option, Some, None, SomeIff, List, ℕ, ◌+◌, ◌*◌, ◌-◌, ◌≤◌, ◌<◌, eqb, length, set}
use Rattle.std.proofs.Common.{sym, ap, ◌∙◌, subst, inl, inr, arith, length-set, get_or-set_same, get_or-set_other, eq-eqb, eqb-true}
use Rattle.truss.specs.Graph.{link_at, ends}
use Rattle.laws.proofs.Lists.{or_cases}
use Rattle.laws.proofs.Numbers.{same_or_not, less_or_not}
use Rattle.laws.proofs.Groups.{size}
use Rattle.laws.proofs.Sides.{ends_below, lows_rise}
use Rattle.columns.specs.Columns.{cell, store, COLUMNS}
use Rattle.columns.specs.Laws.{stored, length-store, kept_column, kept_entry}
use Rattle.sorting.specs.Chains.{hi, Prev, Higher, higher_none, higher_more}
use Rattle.sorting.specs.State.{at as headAt}
use Rattle.stored.specs.Rows.{graph_in, key_at, IsIndex, index-order, ends_small}
use Rattle.counting.specs.Touching.{LinkGives}
use Rattle.counting.specs.Counting.{Round, round_none, round_link, round_then, round_same}

-- ---- chains by higher account

-- a link as the cells of a chain have it: one more, and 0 for none
abbrev pub pointer : Option ℕ → ℕ
pointer None = 0
pointer (Some e) = e + 1

-- a cell read as a pointer
pub pointed : (o : Option ℕ) {x : ℕ} → SomeIff o (1 ≤ x) (x - 1) → pointer o ≡ x
pointed None {x} S = go (less_or_not 0 x)
  where
    go : (0 < x) ⊎ (x ≤ 0) → 0 ≡ x
    go (inl l) = absurd (S (omega (arith, l)))
    go (inr l) = omega (arith, l)
pointed (Some e) {x} S = omega (arith, S.0, S.1)

pub record ChainAsks (b : List ℕ) (m : ℕ) (w head : List ℕ) : Type 0 where
  pub size_is : length w ≡ COLUMNS * m
  pub wide : (graph_in b).n ≤ length head
  pub zero : (a : ℕ) → a < (graph_in b).n → headAt head a ≡ 0

-- the first i links are in chains: head has a pointer for each account, column 1 one for each link; the other columns stay
pub record Chained (b : List ℕ) (m i : ℕ) (w₀ w head : List ℕ) : Type 0 where
  pub length_is : length w ≡ length w₀
  pub wide : (graph_in b).n ≤ length head
  pub chains : Higher (key_at (graph_in b)) (graph_in b).n i (headAt head) (cell w m 1)
  pub others : (d y : ℕ) → d ≢ 1 → y < m → cell w m d y ≡ cell w₀ m d y

pub chained_none : {b : List ℕ} {m : ℕ} {w head : List ℕ} → ChainAsks b m w head → Chained b m 0 w w head
chained_none A = record { length_is = refl; wide = A.wide; chains = higher_none A.zero; others = λ d y n l. refl }

-- the higher half of a key is the higher account
pub high_is : {b : List ℕ} → IsIndex b → (i : ℕ) → i < size (graph_in b) → hi (key_at (graph_in b)) i ≡ (link_at (graph_in b) i).hi
high_is I i l = omega (arith, (ends_small I i l).1)

module _ {b : List ℕ} (I : IsIndex b) {m i x : ℕ} (links : size (graph_in b) ≡ m) (l : i < m) (q : x ≡ (link_at (graph_in b) i).hi) where
  is_high : x ≡ hi (key_at (graph_in b)) i
  is_high = q ∙ sym (high_is I i (omega (arith, l, links)))

  below : x < (graph_in b).n
  below = omega (arith, q, ends_below (graph_in b) (index-order I) i (omega (arith, l, links)))

  pub chain_head : {w₀ w head : List ℕ} → Chained b m i w₀ w head → x < length head
  chain_head C = omega (arith, below, C.wide)

  pub chained_more : {y : ℕ} {w₀ w w' head head' : List ℕ} → length w₀ ≡ COLUMNS * m → Chained b m i w₀ w head → y ≡ headAt head x → w' ≡ store w m 1 i y → head' ≡ set head x (i + 1) → Chained b m (i + 1) w₀ w' head'
  chained_more {y} {w₀} {w} {w'} {head} {head'} sz C e u h = record {
    length_is = ap length u ∙ length-store w m 1 i y ∙ C.length_is;
    wide = omega (arith, C.wide, ap length h, length-set head x (i + 1));
    chains = higher_more C.chains (omega (arith, below, is_high))
        (rw (h, ← is_high) (get_or-set_same head x (i + 1) 0 (chain_head C)))
        (λ a k ne. rw h (get_or-set_other head x a (i + 1) 0 (λ s. ne (s ∙ is_high))))
        (rw (u, ← is_high) (stored w m 1 i y (omega arith) l (C.length_is ∙ sz) ∙ e))
        (λ r k. rw u (kept_entry w m 1 i r y (omega arith)));
    others = λ d j n k. ap (λ (z : List ℕ). cell z m d j) u ∙ kept_column w m 1 d i j y (λ s. n (sym s)) l k ∙ C.others d j n k;
  }

pub chained_all : {b : List ℕ} {m i : ℕ} {w₀ w head : List ℕ} → i ≡ m → Chained b m i w₀ w head → Chained b m m w₀ w head
chained_all {b} {m} {i} {w₀} {w} {head} e C = subst (λ (x : ℕ). Chained b m x w₀ w head) e C

-- ---- along a chain

-- the links from q on with higher account v
abbrev pub AtHigher : List ℕ → ℕ → ℕ → ℕ → ℕ → Type 0
AtHigher b m v q j = (q ≤ j) × (j < m) × (hi (key_at (graph_in b)) j ≡ v)

-- q points at the last link with higher account v, and each pointer of column 1 at the one before
pub record ChainAt (b : List ℕ) (m v q : ℕ) (w : List ℕ) : Type 0 where
  pub head : Prev (key_at (graph_in b)) v m q
  pub nexts : (r : ℕ) → r < m → Prev (key_at (graph_in b)) (hi (key_at (graph_in b)) r) r (cell w m 1 r)

-- the chain from q on is left
pub record Walked (b : List ℕ) (m count v q : ℕ) (w₀ w : List ℕ) : Type 0 where
  pub below : q ≤ m
  pub here : 0 < q → hi (key_at (graph_in b)) (q - 1) ≡ v
  pub round : Round b m count (v + 1) (AtHigher b m v q) w₀ w

pub walked_none : {b : List ℕ} {m count v q : ℕ} {w : List ℕ} → ChainAt b m v q w → Walked b m count v q w w
walked_none C = record { below = C.head.below; here = C.head.here; round = round_none (λ j (a, k, e). C.head.none j a k e) }

at_v : {b : List ℕ} {m count v : ℕ} {w₀ w : List ℕ} (e : ℕ) → Walked b m count v (e + 1) w₀ w → hi (key_at (graph_in b)) e ≡ v
at_v {b} e W = let s : e ≡ e + 1 - 1 = omega arith in ap (hi (key_at (graph_in b))) s ∙ W.here (omega arith)

module _ {b : List ℕ} {m count v q₀ e : ℕ} {w₀ w : List ℕ} (C : ChainAt b m v q₀ w₀) (W : Walked b m count v (e + 1) w₀ w) where
  pub walked_in : e < m
  walked_in = omega (arith, W.below)

  module _ {p : ℕ} {w' : List ℕ} (L : LinkGives b m count 4 e (v + 1) w w') (q : p ≡ cell w' m 1 e) where
    prev : Prev (key_at (graph_in b)) v e p
    prev =
        let is : p ≡ cell w₀ m 1 e = q ∙ L.both.others 1 e (omega arith) (omega arith) walked_in ∙ W.round.both.others 1 e (omega arith) (omega arith) walked_in in
        rw (is, ← at_v e W) (C.nexts e walked_in)

    pub walked_less : p < e + 1
    walked_less = omega (arith, prev.below)

    pub walked_more : Walked b m count v p w₀ w'
    walked_more = record { below = omega (arith, prev.below, W.below); here = prev.here; round = round_same to from (round_then W.round (round_link L)) }
      where
        to : (j : ℕ) → AtHigher b m v (e + 1) j ⊎ (j ≡ e) → AtHigher b m v p j
        to j (inl (a, k, h)) = (omega (arith, a, walked_less), k, h)
        to j (inr s) = (omega (arith, s, prev.below), omega (arith, s, walked_in), ap (hi (key_at (graph_in b))) s ∙ at_v e W)

        from : (j : ℕ) → AtHigher b m v p j → AtHigher b m v (e + 1) j ⊎ (j ≡ e)
        from j (a, k, h) = go (same_or_not j e) (less_or_not j e)
          where
            go : (j ≡ e) ⊎ (j ≢ e) → (j < e) ⊎ (e ≤ j) → AtHigher b m v (e + 1) j ⊎ (j ≡ e)
            go (inl s) o = inr s
            go (inr s) (inl o) = absurd (prev.none j a o h)
            go (inr s) (inr o) = inl (omega (arith, s, o), k, h)

-- ---- neighbours

-- the links from p up to i
abbrev pub Between : ℕ → ℕ → ℕ → Type 0
Between p i j = (p ≤ j) × (j < i)

-- they have lower account v
pub record Passed (b : List ℕ) (m count v p i : ℕ) (w₀ w : List ℕ) : Type 0 where
  pub from : p ≤ i
  pub within : i ≤ m
  pub same : (j : ℕ) → p ≤ j → j < i → (link_at (graph_in b) j).lo ≡ v
  pub round : Round b m count (v + 1) (Between p i) w₀ w

pub passed_none : {b : List ℕ} {m count v p : ℕ} {w : List ℕ} → p ≤ m → Passed b m count v p p w w
passed_none l = record { from = omega arith; within = l; same = λ j a k. absurd (omega (arith, a, k)); round = round_none (λ j (a, k). omega (arith, a, k)) }

pub passed_more : {b : List ℕ} {m count v p i x : ℕ} {w₀ w w' : List ℕ} → i < m → Passed b m count v p i w₀ w → x ≡ (link_at (graph_in b) i).lo → x ≡ v → LinkGives b m count 4 i (v + 1) w w' → Passed b m count v p (i + 1) w₀ w'
passed_more {b} {m} {count} {v} {p} {i} {x} l P q e L = record {
  from = omega (arith, P.from);
  within = omega (arith, l);
  same = λ j a k. same j a k (same_or_not j i);
  round = round_same to from (round_then P.round (round_link L));
}
  where
    same : (j : ℕ) → p ≤ j → j < i + 1 → (j ≡ i) ⊎ (j ≢ i) → (link_at (graph_in b) j).lo ≡ v
    same j a k (inl s) = rw s (sym q ∙ e)
    same j a k (inr s) = P.same j a (omega (arith, k, s))

    to : (j : ℕ) → Between p i j ⊎ (j ≡ i) → Between p (i + 1) j
    to j (inl (a, k)) = (a, omega (arith, k))
    to j (inr s) = (omega (arith, s, P.from), omega (arith, s))

    from : (j : ℕ) → Between p (i + 1) j → Between p i j ⊎ (j ≡ i)
    from j (a, k) = go (same_or_not j i)
      where
        go : (j ≡ i) ⊎ (j ≢ i) → Between p i j ⊎ (j ≡ i)
        go (inl s) = inr s
        go (inr s) = inl (a, omega (arith, k, s))

-- all of them
pub record LowerGives (b : List ℕ) (m count v p i : ℕ) (w w' : List ℕ) : Type 0 where
  pub passed : Passed b m count v p i w w'
  pub last : i < m → (link_at (graph_in b) i).lo ≢ v

-- ---- accounts in turn

-- link i is the first whose lower account is v or more
pub record First (b : List ℕ) (m v i : ℕ) : Type 0 where
  pub within : i ≤ m
  pub before : (j : ℕ) → j < i → (link_at (graph_in b) j).lo < v
  pub after : (j : ℕ) → i ≤ j → j < m → v ≤ (link_at (graph_in b) j).lo

pub first-none : {b : List ℕ} {m : ℕ} → First b m 0 0
first-none = record { within = omega arith; before = λ j l. absurd (omega arith); after = λ j l k. omega arith }

module _ {b : List ℕ} (I : IsIndex b) {m count v p i : ℕ} {w w' : List ℕ} (links : size (graph_in b) ≡ m) (F : First b m v p) (L : LowerGives b m count v p i w w') where
  pub first_more : First b m (v + 1) i
  first_more = record { within = L.passed.within; before = λ j l. before j l (less_or_not j p); after = after }
    where
      before : (j : ℕ) → j < i → (j < p) ⊎ (p ≤ j) → (link_at (graph_in b) j).lo < v + 1
      before j l (inl k) = omega (arith, F.before j k)
      before j l (inr k) = omega (arith, L.passed.same j k l)

      after : (j : ℕ) → i ≤ j → j < m → v + 1 ≤ (link_at (graph_in b) j).lo
      after j k l =
          let li : i < m = omega (arith, k, l) in
          omega (arith, F.after i L.passed.from li, L.last li, lows_rise (graph_in b) (index-order I) i j k (omega (arith, l, links)))

  -- the neighbours and the chain of account v are the links with end v
  abbrev pub AtEnd : ℕ → Type 0
  AtEnd j = Between p i j ⊎ AtHigher b m v 0 j

  pub at_end : (j : ℕ) → AtEnd j → ends (link_at (graph_in b) j) v ≡ true
  at_end j (inl (a, k)) = rw (eq-eqb (link_at (graph_in b) j).lo v (L.passed.same j a k)) refl
  at_end j (inr (a, k, h)) = rw (eq-eqb (link_at (graph_in b) j).hi v (sym (high_is I j (omega (arith, k, links))) ∙ h)) (right (eqb (link_at (graph_in b) j).lo v))
    where
      right : (x : Bool) → (x || true) ≡ true
      right true = refl
      right false = refl

  pub all-ends : (j : ℕ) → j < size (graph_in b) → ends (link_at (graph_in b) j) v ≡ true → AtEnd j
  all-ends j l t = go (or_cases (eqb (link_at (graph_in b) j).lo v) (eqb (link_at (graph_in b) j).hi v) t)
    where
      by : (link_at (graph_in b) j).lo ≡ v → (j < p) ⊎ (p ≤ j) → (j < i) ⊎ (i ≤ j) → AtEnd j
      by e (inl a) o = absurd (omega (arith, e, F.before j a))
      by e (inr a) (inl k) = inl (a, k)
      by e (inr a) (inr k) = absurd (omega (arith, e, first_more.after j k (omega (arith, l, links))))

      go : (eqb (link_at (graph_in b) j).lo v ≡ true) ⊎ (eqb (link_at (graph_in b) j).hi v ≡ true) → AtEnd j
      go (inl z) = by (eqb-true (link_at (graph_in b) j).lo v z) (less_or_not j p) (less_or_not j i)
      go (inr z) = inr (omega arith, omega (arith, l, links), high_is I j l ∙ eqb-true (link_at (graph_in b) j).hi v z)

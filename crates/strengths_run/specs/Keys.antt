-- A column of rising keys names a proper card. Assumes nothing.
use Rattle.std.specs.Prelude.{◌≡◌, ◌⊎◌, ◌≢◌, Bool, true, false, not, List, [], ◌∷◌, ℕ, zero, suc, ◌+◌, ◌*◌, ◌-◌, ◌≤◌, ◌<◌, ◌/◌, ◌%◌, length, get_or}
use Rattle.std.proofs.Math.Path.{refl, sym, ap}
use Rattle.std.proofs.Common.{◌∙◌, inl, inr, not-suc-le-zero, arith}
use Rattle.truss.specs.Graph.{Link, Graph, member, link_number, link_at, link}
use Rattle.laws.proofs.Proper.{Proper}
use Rattle.laws.proofs.Members.{get_d_in, in_member, number_lt, link_of_number}
use Rattle.laws.proofs.Numbers.{same_or_not, less_or_not}
use Rattle.columns.specs.Columns.{cell, KEY, COLUMNS, HALF}
use Rattle.adjacency.specs.State.{Named}

-- the cards of this program are small
abbrev pub most_small : ℕ
most_small = 64

abbrev key : List ℕ → ℕ → ℕ → ℕ
key w m i = cell w m KEY i

pub record Good (m n i : ℕ) (w : List ℕ) : Type 0 where
  pub ordered : key w m i / HALF < key w m i % HALF
  pub below : key w m i % HALF < n
  pub after : (j : ℕ) → j + 1 ≡ i → key w m j < key w m i

pub good_after : (m n i : ℕ) (w : List ℕ) {k p : ℕ} → k ≡ cell w m KEY i → p ≡ cell w m KEY (i - 1) → k / HALF < k % HALF → k % HALF < n → p < k → Good m n i w
good_after m n i w {k} {p} a b o l u = record {
  ordered = rw (← a) o;
  below = rw (← a) l;
  after = λ j q. let z : i - 1 ≡ j = omega arith in omega (arith, a, b, ap (cell w m KEY) z);
}

pub not_false : (b : Bool) → not b ≡ false → b ≡ true
not_false true e = refl
not_false false e = sym e

-- the first e keys
abbrev pub Rising : ℕ → ℕ → ℕ → List ℕ → Type 0
Rising m n e w = (i : ℕ) → i < e → Good m n i w

pub rising_none : (m n : ℕ) (w : List ℕ) → Rising m n 0 w
rising_none m n w i l = absurd (not-suc-le-zero l)

pub rising_more : {m n e : ℕ} {w : List ℕ} → Rising m n e w → Good m n e w → Rising m n (e + 1) w
rising_more {m} {n} {e} {w} R g i l = go (same_or_not i e)
  where
    go : (i ≡ e) ⊎ (i ≢ e) → Good m n i w
    go (inl q) = rw q g
    go (inr q) = R i (omega arith)

pub rising_all : {m n e : ℕ} {w : List ℕ} → e ≡ m → Rising m n e w → Rising m n m w
rising_all q R = rw q at R

-- the links that the first e keys name, in their order
link_of_key : ℕ → Link
link_of_key k = record { lo = k / HALF; hi = k % HALF }

links_from : List ℕ → ℕ → ℕ → ℕ → List Link
links_from w m i zero = []
links_from w m i (suc e) = link_of_key (key w m i) ∷ links_from w m (suc i) e

links_length : (w : List ℕ) (m i e : ℕ) → length (links_from w m i e) ≡ e
unfolding links_from
links_length w m i zero = refl
links_length w m i (suc e) = ap suc (links_length w m (suc i) e)

links_at : (w : List ℕ) (m i e j : ℕ) → j < e → get_or (links_from w m i e) j (link 0 0) ≡ link_of_key (key w m (i + j))
unfolding links_from
links_at w m i zero j l = absurd (not-suc-le-zero l)
links_at w m i (suc e) zero l = ap (λ (z : ℕ). link_of_key (key w m z)) (omega arith)
links_at w m i (suc e) (suc j) l = links_at w m (suc i) e j (omega arith) ∙ ap (λ (z : ℕ). link_of_key (key w m z)) (omega arith)

pub card_of_keys : List ℕ → ℕ → ℕ → Graph
card_of_keys w m n = record { n = n; links = links_from w m 0 m }

module _ {m n : ℕ} {w : List ℕ} (R : Rising m n m w) where
  at : (i : ℕ) → i < m → link_at (card_of_keys w m n) i ≡ link_of_key (key w m i)
  unfolding card_of_keys
  at i l = links_at w m 0 m i l ∙ ap (λ (z : ℕ). link_of_key (key w m z)) (omega arith)

  size : length (card_of_keys w m n).links ≡ m
  unfolding card_of_keys
  size = links_length w m 0 m

  up : (i d : ℕ) → i + suc d < m → key w m i < key w m (i + suc d)
  up i zero l = let e : i + 1 ≡ i + suc zero = omega arith in (R (i + suc zero) l).after i e
  up i (suc d) l = omega (arith, up i d (omega arith), (R (i + suc (suc d)) l).after (i + suc d) (omega arith))

  apart : (a b : ℕ) → a < b → b < m → key w m a ≡ key w m b → ⊥
  apart a b h k z =
      let e : a + suc (b - suc a) ≡ b = omega arith in
      let u : key w m a < key w m b = ap_lt e (up a (b - suc a) (omega arith)) in
      omega arith
    where
      ap_lt : {c : ℕ} → c ≡ b → key w m a < key w m c → key w m a < key w m b
      ap_lt q l = rw q at l

  same : (i j : ℕ) → i < m → j < m → key w m i ≡ key w m j → i ≡ j
  same i j li lj e = go (same_or_not i j) (less_or_not i j)
    where
      go : (i ≡ j) ⊎ (i ≢ j) → (i < j) ⊎ (j ≤ i) → i ≡ j
      go (inl q) h = q
      go (inr q) (inl h) = absurd (apart i j h lj e)
      go (inr q) (inr h) = absurd (apart j i (omega arith) li (sym e))

  -- a link of the card by its number
  held : (e : Link) → member (card_of_keys w m n).links e ≡ true → (link_number (card_of_keys w m n) e < m) × (e ≡ link_of_key (key w m (link_number (card_of_keys w m n) e)))
  held e h =
      let l : link_number (card_of_keys w m n) e < m = omega (arith, number_lt (card_of_keys w m n) e h, size) in
      (l, sym (link_of_number (card_of_keys w m n) e h) ∙ at (link_number (card_of_keys w m n) e) l)

  accounts : (card_of_keys w m n).n ≡ n
  unfolding card_of_keys
  accounts = refl

  proper : Proper (card_of_keys w m n)
  unfolding link_of_key
  proper = record {
    ordered = λ e h. let r = held e h in to_ordered (sym r.1) (R (link_number (card_of_keys w m n) e) r.0).ordered;
    below = λ e h. let r = held e h in to_below (sym r.1) (R (link_number (card_of_keys w m n) e) r.0).below;
    numbered = λ i l.
        let li : i < m = omega (arith, size) in
        let r = held (link_at (card_of_keys w m n) i) (in_member (card_of_keys w m n).links (get_d_in (link 0 0) (card_of_keys w m n).links i l)) in
        let z : link_of_key (key w m (link_number (card_of_keys w m n) (link_at (card_of_keys w m n) i))) ≡ link_of_key (key w m i) = sym r.1 ∙ at i li in
        let a = ap (λ (f : Link). f.lo) z in
        let b = ap (λ (f : Link). f.hi) z in
        same (link_number (card_of_keys w m n) (link_at (card_of_keys w m n) i)) i r.0 li (omega (arith, a, b));
  }
    where
      to_ordered : {e f : Link} → f ≡ e → f.lo < f.hi → e.lo < e.hi
      to_ordered q h = rw q at h

      to_below : {e f : Link} → f ≡ e → f.hi < n → e.hi < (card_of_keys w m n).n
      to_below {e} q h = let k : e.hi < n = rw q at h in omega (arith, accounts)

  -- so the card is named
  pub keys_named : length w ≡ COLUMNS * m → m ≤ most_small → n ≤ most_small → Named (card_of_keys w m n) m n w
  unfolding card_of_keys link_of_key
  keys_named s few small = record {
    proper = proper;
    accounts = refl;
    count = size;
    few = omega arith;
    small = omega arith;
    size = s;
    key = λ i l. rw (at i l) (omega arith);
  }

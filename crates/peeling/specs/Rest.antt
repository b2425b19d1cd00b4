-- The list of the links that are left, those whose support is not 0: `begin`, `listed`, `lesser`, `keep`, `rest`; and how many a queue can have of them. Assumes nothing.
use Rattle.std.specs.Prelude.{◌≡◌, refl, ◌⊎◌, ◌≢◌, Option, Some, None, MatchOption, List, ℕ, ◌+◌, ◌*◌, ◌-◌, ◌≤◌, ◌<◌, length}
use Rattle.std.proofs.Common.{sym, ◌∙◌, inl, inr, arith}
use Rattle.std.specs.Option.{unwrap_or, option_map_or}
use Rattle.std.proofs.Math.Path.{ap}
use Rattle.laws.proofs.Numbers.{same_or_not, less_or_not}
use Rattle.laws.proofs.Sets.{pigeonhole}
use Rattle.columns.specs.Columns.{cell, store, SUPPORT, STRENGTH, QUEUE, FREE, COLUMNS, no_support}
use Rattle.columns.specs.Laws.{Upd, Same, upd_store, same_store, same_trans}
use Rattle.adjacency.specs.State.{Kept, kept-none, kept_trans, kept_store}
use Rattle.removal.specs.Left.{Falls}

-- ---- the list that is read from `first` on

-- its first place; that of all links if there is none
abbrev pub begins : Option ℕ → ℕ
begins first = unwrap_or first 0

-- its link at place i; link i itself if all links are gone through
unfoldable pub listed_at : List ℕ → ℕ → Option ℕ → ℕ → ℕ
listed_at w m None i = i
listed_at w m (Some place) i = cell w m QUEUE i

module _ (w : List ℕ) (m : ℕ) (first : Option ℕ) (i : ℕ) where
  pub listed-all : first ≡ None → listed_at w m first i ≡ i
  unfolding listed_at
  listed-all z = rw z refl

  pub listed-cell : {place : ℕ} → first ≡ Some place → listed_at w m first i ≡ cell w m QUEUE i
  unfolding listed_at
  listed-cell z = rw z refl

pub listed_same : (w : List ℕ) (m : ℕ) (first : Option ℕ) (i : ℕ) (w' : List ℕ) → cell w' m QUEUE i ≡ cell w m QUEUE i → listed_at w' m first i ≡ listed_at w m first i
unfolding listed_at
listed_same w m None i w' q = refl
listed_same w m (Some place) i w' q = q

-- it misses no link that is left
pub record Listed (m : ℕ) (first : Option ℕ) (w : List ℕ) : Type 0 where
  pub within : (i : ℕ) → begins first ≤ i → i < m → listed_at w m first i < m
  pub finds : (y : ℕ) → y < m → cell w m SUPPORT y ≢ 0 → (i : ℕ) × (begins first ≤ i) × (i < m) × (listed_at w m first i ≡ y)

-- the links that are left stand in column QUEUE from `place` on
pub record Tops (m place : ℕ) (w : List ℕ) : Type 0 where
  pub top : place ≤ m
  pub within : (i : ℕ) → place ≤ i → i < m → cell w m QUEUE i < m
  pub finds : (y : ℕ) → y < m → cell w m SUPPORT y ≢ 0 → (i : ℕ) × (place ≤ i) × (i < m) × (cell w m QUEUE i ≡ y)

-- where a list that begins at `place` is read from
pub data Begun (m place : ℕ) (r : Option ℕ) : Type 0 where
  whole : place < m - place → r ≡ None → Begun m place r
  listed : m - place ≤ place → r ≡ Some place → Begun m place r

-- a queue of no more links than were left stays before the list, unless all links are gone through
pub begun_before : {m place : ℕ} {first : Option ℕ} → Begun m place first → (first ≡ None) ⊎ (m - place ≤ begins first)
begun_before (whole l z) = inl z
begun_before (listed l q) = inr (rw q l)

pub listed-whole : {m : ℕ} (w : List ℕ) → Listed m None w
listed-whole {m} w = record {
  within = λ i l k. rw (listed-all w m None i refl) k;
  finds = λ y l n. (y, omega arith, l, listed-all w m None y refl);
}

-- it is a list still once more links are gone, and a queue of no more links than were left is written before it
pub listed_later : {m place : ℕ} {first : Option ℕ} {w w' : List ℕ} → Begun m place first → Tops m place w → Falls m w w'
    → ((i : ℕ) → m - place ≤ i → i < m → cell w' m QUEUE i ≡ cell w m QUEUE i) → Listed m first w'
listed_later {m} {place} {first} {w} {w'} (whole l z) T falls same = rw z (listed-whole w')
listed_later {m} {place} {first} {w} {w'} (listed l q) T falls same = rw q (record {
  within = λ i f k. rw (at i f k) (T.within i f k);
  finds = λ y k h.
      let r = T.finds y k (falls y k h) in
      (r.0, r.1, r.2, at r.0 r.1 r.2 ∙ r.3);
})
  where
    at : (i : ℕ) → place ≤ i → i < m → listed_at w' m (Some place) i ≡ cell w m QUEUE i
    at i f k = listed-cell w' m (Some place) i refl ∙ same i (omega arith) k

-- ---- no more than `all` links are left, σ their supports: each has a place of its own

pub record Few (m all : ℕ) (σ : ℕ → ℕ) : Type 0 where
  pub place : ℕ → ℕ
  pub below : (y : ℕ) → y < m → σ y ≢ 0 → place y < all
  pub once : (x y : ℕ) → x < m → y < m → σ x ≢ 0 → σ y ≢ 0 → place x ≡ place y → x ≡ y

module _ {m place : ℕ} {w : List ℕ} (T : Tops m place w) where
  at : (y : ℕ) → (y < m) ⊎ (m ≤ y) → (cell w m SUPPORT y ≡ 0) ⊎ (cell w m SUPPORT y ≢ 0) → ℕ
  at y (inl l) (inr z) = (T.finds y l z).0 - place
  at y (inl l) (inl z) = 0
  at y (inr l) h = 0

  at_is : (y : ℕ) → y < m → cell w m SUPPORT y ≢ 0 → (a : (y < m) ⊎ (m ≤ y)) (b : (cell w m SUPPORT y ≡ 0) ⊎ (cell w m SUPPORT y ≢ 0))
      → (at y a b < m - place) × (cell w m QUEUE (place + at y a b) ≡ y)
  unfolding at
  at_is y l z (inl k) (inr h) =
      let r = T.finds y k h in
      (omega (arith, r.1, r.2), ap (cell w m QUEUE) (omega (arith, r.1)) ∙ r.3)
  at_is y l z (inl k) (inl h) = absurd (z h)
  at_is y l z (inr k) b = absurd (omega arith)

  abbrev its : ℕ → ℕ
  its y = at y (less_or_not y m) (same_or_not (cell w m SUPPORT y) 0)

  its_is : (y : ℕ) → y < m → cell w m SUPPORT y ≢ 0 → (its y < m - place) × (cell w m QUEUE (place + its y) ≡ y)
  its_is y l z = at_is y l z (less_or_not y m) (same_or_not (cell w m SUPPORT y) 0)

  pub tops_few : Few m (m - place) (cell w m SUPPORT)
  tops_few = record {
    place = its;
    below = λ y l z. (its_is y l z).0;
    once = λ x y k l t z q. sym (its_is x k t).1 ∙ ap (λ (p : ℕ). cell w m QUEUE (place + p)) q ∙ (its_is y l z).1;
  }

pub few_same : {m all : ℕ} {σ σ' : ℕ → ℕ} → Same m σ σ' → Few m all σ → Few m all σ'
few_same h F = record {
  place = F.place;
  below = λ y l z. F.below y l (λ e. z (h y l ∙ e));
  once = λ x y k l t z q. F.once x y k l (λ e. t (h x k ∙ e)) (λ e. z (h y l ∙ e)) q;
}

-- so a queue of links that were left, each once, is no longer than that
pub few_queued : {m all tail : ℕ} {σ q : ℕ → ℕ} → Few m all σ → ((i : ℕ) → i < tail → q i < m) → ((i : ℕ) → i < tail → σ (q i) ≢ 0)
    → ((i j : ℕ) → i < tail → j < tail → q i ≡ q j → i ≡ j) → tail ≤ all
few_queued {m} {all} {tail} {σ} {q} F within left once =
    pigeonhole all tail (λ i. F.place (q i)) (λ i l. F.below (q i) (within i l) (left i l)) (λ i j l k e.
    once i j l k (F.once (q i) (q j) (within i l) (within j k) (left i l) (left j k) e))

-- ---- the least support of a link that is left; more than any if there is none

pub record Least (m r : ℕ) (w : List ℕ) : Type 0 where
  pub low : (y : ℕ) → y < m → cell w m SUPPORT y ≢ 0 → r ≤ cell w m SUPPORT y
  pub greatest : (k : ℕ) → k ≤ no_support → ((y : ℕ) → y < m → cell w m SUPPORT y ≢ 0 → k ≤ cell w m SUPPORT y) → k ≤ r

pub record Lesser (x best r : ℕ) : Type 0 where
  pub under : r ≤ best
  pub low : x ≢ 0 → r ≤ x
  pub greatest : (k : ℕ) → k ≤ best → (x ≢ 0 → k ≤ x) → k ≤ r

-- ---- the list anew

-- a link of support x goes before place j, if it is left
pub data Places (x j r : ℕ) : Type 0 where
  gone : x ≡ 0 → r ≡ j → Places x j r
  left : x ≢ 0 → r + 1 ≡ j → Places x j r

places_high : {x j r : ℕ} → Places x j r → r ≤ j
places_high (gone z q) = omega arith
places_high (left n q) = omega arith

places_low : {x j r : ℕ} → Places x j r → j ≤ r + 1
places_low (gone z q) = omega arith
places_low (left n q) = omega arith

places_left : {x j r : ℕ} → Places x j r → x ≢ 0 → r + 1 ≡ j
places_left (gone z q) n = absurd (n z)
places_left (left n q) h = q

-- the list is made, from `place` on, and `best` is the least support
pub record Rested (m place best : ℕ) (w₀ w : List ℕ) : Type 0 where
  pub tops : Tops m place w
  pub least : Least m best w
  pub kept : Kept m FREE w₀ w
  pub supports : Same m (cell w₀ m SUPPORT) (cell w m SUPPORT)
  pub strengths : Same m (cell w₀ m STRENGTH) (cell w m STRENGTH)

-- the same where no link is left: its support would be less
pub record NoneLeft (m : ℕ) (w₀ w : List ℕ) : Type 0 where
  pub place : ℕ
  pub rested : Rested m place no_support w₀ w

-- and where one is left
pub record SomeLeft (m place best : ℕ) (w₀ w : List ℕ) : Type 0 where
  pub rested : Rested m place best w₀ w
  pub small : best < no_support

pub rested_none : {m place best : ℕ} {w₀ w : List ℕ} → Rested m place best w₀ w → no_support ≤ best → NoneLeft m w₀ w
rested_none {m} {place} {best} R l = record {
  place = place;
  rested = record {
    tops = R.tops;
    least = record { low = λ y h n. omega (arith, R.least.low y h n); greatest = λ k h b. h };
    kept = R.kept;
    supports = R.supports;
    strengths = R.strengths;
  };
}

-- one or the other
module _ {A : Type 0} {m : ℕ} {w₀ w : List ℕ} where
  pub rest_made : (o : Option A) (place least : A → ℕ) → MatchOption o (NoneLeft m w₀ w) (λ r. SomeLeft m (place r) (least r) w₀ w) → (p : ℕ) × (b : ℕ) × Rested m p b w₀ w
  rest_made None place least h = (h.place, no_support, h.rested)
  rest_made (Some r) place least h = (place r, least r, h.rested)

  pub rest_cases : (o : Option A) (place least : A → ℕ) {P : Type 0} {Q : A → Type 0} → (NoneLeft m w₀ w → P) → ((r : A) → SomeLeft m (place r) (least r) w₀ w → Q r)
      → MatchOption o (NoneLeft m w₀ w) (λ r. SomeLeft m (place r) (least r) w₀ w) → MatchOption o P Q
  rest_cases None place least none some h = none h
  rest_cases (Some r) place least none some h = some r h

  -- the least support rises, so what is left of its range falls
  pub rest_falls : (o : Option A) (place least : A → ℕ) {s : ℕ} → s < no_support → ((p b : ℕ) → Rested m p b w₀ w → s + 1 ≤ b)
      → MatchOption o (NoneLeft m w₀ w) (λ r. SomeLeft m (place r) (least r) w₀ w) → option_map_or (λ r. no_support - least r) o 0 < no_support - s
  rest_falls None place least l rise h = omega arith
  rest_falls (Some r) place least l rise h = omega (arith, rise (place r) (least r) h.rested)

-- the places from i on of the old list are done, and the new one begins at j
pub record Resting (m : ℕ) (first : Option ℕ) (i j best : ℕ) (w₀ w : List ℕ) : Type 0 where
  pub behind : i ≤ j
  pub top : j ≤ m
  pub kept : Kept m FREE w₀ w
  pub supports : Same m (cell w₀ m SUPPORT) (cell w m SUPPORT)
  pub strengths : Same m (cell w₀ m STRENGTH) (cell w m STRENGTH)
  pub before : (k : ℕ) → k < i → cell w m QUEUE k ≡ cell w₀ m QUEUE k
  pub within : (k : ℕ) → j ≤ k → k < m → cell w m QUEUE k < m
  pub found : (k : ℕ) → i ≤ k → k < m → cell w₀ m SUPPORT (listed_at w₀ m first k) ≢ 0 → (p : ℕ) × (j ≤ p) × (p < m) × (cell w m QUEUE p ≡ listed_at w₀ m first k)
  pub low : (k : ℕ) → i ≤ k → k < m → cell w₀ m SUPPORT (listed_at w₀ m first k) ≢ 0 → best ≤ cell w₀ m SUPPORT (listed_at w₀ m first k)
  pub greatest : (k : ℕ) → k ≤ no_support → ((y : ℕ) → y < m → cell w₀ m SUPPORT y ≢ 0 → k ≤ cell w₀ m SUPPORT y) → k ≤ best

pub rest_start : (m : ℕ) (first : Option ℕ) (w : List ℕ) → Resting m first m m no_support w w
rest_start m first w = record {
  behind = omega arith;
  top = omega arith;
  kept = kept-none m FREE w;
  supports = λ y l. refl;
  strengths = λ y l. refl;
  before = λ k l. refl;
  within = λ k l h. absurd (omega arith);
  found = λ k l h n. absurd (omega arith);
  low = λ k l h n. absurd (omega arith);
  greatest = λ k l h. l;
}

module _ {m : ℕ} {first : Option ℕ} {w₀ : List ℕ} (size : length w₀ ≡ COLUMNS * m) (L : Listed m first w₀) {i j best : ℕ} {w : List ℕ} (S : Resting m first i j best w₀ w) where
  pub rest-size : length w ≡ COLUMNS * m
  rest-size = S.kept.length_is ∙ size

  module _ (more : begins first < i) {e : ℕ} (is : e ≡ listed_at w m first (i - 1)) where
    inside : i - 1 < m
    inside = omega (arith, S.behind, S.top)

    was : e ≡ listed_at w₀ m first (i - 1)
    was = is ∙ listed_same w₀ m first (i - 1) w (S.before (i - 1) (omega arith))

    pub rest-link : e < m
    rest-link = rw was (L.within (i - 1) (omega arith) inside)

    pub rest-next : {x best' j' : ℕ} {w' : List ℕ} → x ≡ cell w m SUPPORT e → Lesser x best best' → Places x j j' → w' ≡ store w m QUEUE (j - 1) e
        → Resting m first (i - 1) j' best' w₀ w'
    rest-next {x} {best'} {j'} {w'} has lesser placed stored = rw stored (record {
      behind = omega (arith, S.behind, places_low placed);
      top = omega (arith, S.top, places_high placed);
      kept = kept_trans S.kept (kept_store w m FREE QUEUE (j - 1) e (omega arith) (omega arith) room);
      supports = same_trans S.supports (same_store w m QUEUE SUPPORT (j - 1) e (omega arith) room);
      strengths = same_trans S.strengths (same_store w m QUEUE STRENGTH (j - 1) e (omega arith) room);
      before = λ k l. new.else k (omega (arith, inside)) (omega (arith, S.behind)) ∙ S.before k (omega arith);
      within = λ k l h. in_it k l h (same_or_not k (j - 1));
      found = λ k l h n. find k l h n (same_or_not k (i - 1));
      low = λ k l h n. under k l h n (same_or_not k (i - 1));
      greatest = λ k l h. lesser.greatest k (S.greatest k l h) (λ n. rw x_is (h e rest-link (λ z. n (x_is ∙ z))));
    })
      where
        room : j - 1 < m
        room = omega (arith, S.behind, S.top)

        new : Upd m (cell w m QUEUE) (cell (store w m QUEUE (j - 1) e) m QUEUE) (j - 1) e
        new = upd_store w m QUEUE (j - 1) e (omega arith) room rest-size

        x_is : x ≡ cell w₀ m SUPPORT e
        x_is = has ∙ S.supports e rest-link

        -- link e is the one at the place in question
        here : (k : ℕ) → k ≡ i - 1 → listed_at w₀ m first k ≡ e
        here k q = ap (listed_at w₀ m first) q ∙ sym was

        x_at : (k : ℕ) → k ≡ i - 1 → x ≡ cell w₀ m SUPPORT (listed_at w₀ m first k)
        x_at k q = x_is ∙ ap (cell w₀ m SUPPORT) (sym (here k q))

        in_it : (k : ℕ) → j' ≤ k → k < m → (k ≡ j - 1) ⊎ (k ≢ j - 1) → cell (store w m QUEUE (j - 1) e) m QUEUE k < m
        in_it k l h (inl q) = rw (q, new.here) rest-link
        in_it k l h (inr q) = rw (new.else k h q) (S.within k (omega (arith, places_low placed)) h)

        find : (k : ℕ) → i - 1 ≤ k → k < m → cell w₀ m SUPPORT (listed_at w₀ m first k) ≢ 0 → (k ≡ i - 1) ⊎ (k ≢ i - 1)
            → (p : ℕ) × (j' ≤ p) × (p < m) × (cell (store w m QUEUE (j - 1) e) m QUEUE p ≡ listed_at w₀ m first k)
        find k l h n (inl q) = (j - 1, omega (arith, places_left placed (λ z. n (sym (x_at k q) ∙ z))), room, new.here ∙ sym (here k q))
        find k l h n (inr q) =
            let r = S.found k (omega arith) h n in
            (r.0, omega (arith, r.1, places_high placed), r.2, new.else r.0 r.2 (omega (arith, r.1, S.behind)) ∙ r.3)

        under : (k : ℕ) → i - 1 ≤ k → k < m → cell w₀ m SUPPORT (listed_at w₀ m first k) ≢ 0 → (k ≡ i - 1) ⊎ (k ≢ i - 1) → best' ≤ cell w₀ m SUPPORT (listed_at w₀ m first k)
        under k l h n (inl q) = omega (arith, lesser.low (λ z. n (sym (x_at k q) ∙ z)), x_at k q)
        under k l h n (inr q) = omega (arith, lesser.under, S.low k (omega arith) h n)

  pub rest_end : i ≤ begins first → Rested m j best w₀ w
  rest_end done = record {
    tops = record { top = S.top; within = S.within; finds = find };
    least = record { low = low; greatest = λ k l h. S.greatest k l (λ y b n. rw (← S.supports y b) (h y b (λ z. n (sym (S.supports y b) ∙ z)))) };
    kept = S.kept;
    supports = S.supports;
    strengths = S.strengths;
  }
    where
      find : (y : ℕ) → y < m → cell w m SUPPORT y ≢ 0 → (p : ℕ) × (j ≤ p) × (p < m) × (cell w m QUEUE p ≡ y)
      find y l n =
          let r = L.finds y l (λ z. n (S.supports y l ∙ z)) in
          let f = S.found r.0 (omega (arith, r.1)) r.2 (λ z. n (S.supports y l ∙ ap (cell w₀ m SUPPORT) (sym r.3) ∙ z)) in
          (f.0, f.1, f.2, f.3 ∙ r.3)

      low : (y : ℕ) → y < m → cell w m SUPPORT y ≢ 0 → best ≤ cell w m SUPPORT y
      low y l n =
          let r = L.finds y l (λ z. n (S.supports y l ∙ z)) in
          let f = S.low r.0 (omega (arith, r.1)) r.2 (λ z. n (S.supports y l ∙ ap (cell w₀ m SUPPORT) (sym r.3) ∙ z)) in
          rw (S.supports y l, ← r.3) f

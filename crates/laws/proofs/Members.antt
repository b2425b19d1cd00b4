-- Which elements the list functions of truss/specs/Lists give, and sorted lists. `In x xs` is mathlib's membership as a derivation.
use mathlib.Core.Path.{◌≡◌, refl, sym, ap, ◌∙◌}
use mathlib.Core.Logic.{◌⊎◌, inl, inr, ◌≢◌}
use mathlib.Core.Bool.{Bool, true, false, cond}
use mathlib.Core.List.{List, [], ◌∷◌, ◌++◌, map, append-nil, append_assoc}
use mathlib.Core.List.Memᴰ.{append_cases as in-append}
use mathlib.Core.List.Memᴰ.{append_left as in_left}
use mathlib.Core.List.Memᴰ.{append_right as in_right}
use mathlib.Core.List.Memᴰ.{cases_cons as in-cons}
use mathlib.Core.List.Memᴰ.{head as here}
use mathlib.Core.List.Memᴰ.{not-nil as in-nil}
use mathlib.Core.List.Memᴰ.{tail as there}
use mathlib.Core.List.{Memᴰ as In}
use Prim.Native.Nat.{ℕ, zero, suc, ◌+◌, ◌≤◌, ◌<◌, suc-le-suc}
use native.Mathlib.Nat.{not-suc-le-zero, le_of_suc-le-suc, zero-lt-suc, zero-add}
use native.Mathlib.Omega.{arith}
use lib.Dec.{eqb}
use lib.ListN.{length, get_or}
use borrow.Author.Tests.{eqb-true, eqb-false}
use Rattle.truss.specs.Lists.{filter, any, position, insert, sort, concat_map, range, count}
use Rattle.truss.specs.Graph.{Link, Graph, link, same_link, member, link_number, link_at}
use Rattle.laws.proofs.Lists.{test, any_cons, any_here, any_there, same_link_eq, same_link_refl, true_not_false}

module _ {A : Type 0} where
  -- ---- keep

  pub filter_in : (p : A → Bool) (xs : List A) {x : A} → In x (filter p xs) → In x xs × (p x ≡ true)
  unfolding filter
  filter_in p [] {x} m = absurd (in-nil m)
  filter_in p (y ∷ ys) {x} m = go (p y) refl (λ k. filter_in p ys k)
    where
      later : In x ys × (p x ≡ true) → In x (y ∷ ys) × (p x ≡ true)
      later r = (there r.0, r.1)

      cases : p y ≡ true → (In x (filter p ys) → In x ys × (p x ≡ true)) → (x ≡ y) ⊎ In x (filter p ys) → In x (y ∷ ys) × (p x ≡ true)
      cases c ih (inl q) = (here q, ap p q ∙ c)
      cases c ih (inr k) = later (ih k)

      go : (b : Bool) → p y ≡ b → (In x (filter p ys) → In x ys × (p x ≡ true)) → In x (y ∷ ys) × (p x ≡ true)
      go true c ih = cases c ih (in-cons (rw c at m))
      go false c ih = later (ih (rw c at m))

  pub in_filter : (p : A → Bool) (xs : List A) {x : A} → In x xs → p x ≡ true → In x (filter p xs)
  unfolding filter
  in_filter p [] {x} m h = m
  in_filter p (y ∷ ys) {x} m h = go (p y) refl (λ k. in_filter p ys k h) (in-cons m)
    where
      go : (b : Bool) → p y ≡ b → (In x ys → In x (filter p ys)) → (x ≡ y) ⊎ In x ys → In x (cond (p y) (y ∷ filter p ys) (filter p ys))
      go true c ih (inl q) = rw c (here q)
      go true c ih (inr k) = rw c (there (ih k))
      go false c ih (inl q) = absurd (true_not_false (ap p (sym q) ∙ h) c)
      go false c ih (inr k) = rw c (ih k)

  pub filter_none : (p : A → Bool) (xs : List A) → ((x : A) → In x xs → p x ≡ false) → filter p xs ≡ []
  unfolding filter
  filter_none p [] h = refl
  filter_none p (x ∷ xs) h = rw (h x (here refl)) (filter_none p xs (λ y m. h y (there m)))

  -- ---- some

  pub any_in : (p : A → Bool) (xs : List A) → any p xs ≡ true → (x : A) × In x xs × (p x ≡ true)
  unfolding any
  any_in p [] h = absurd (true_not_false h refl)
  any_in p (y ∷ ys) h = go (any_cons p y ys h) (any_in p ys)
    where
      go : (p y ≡ true) ⊎ (any p ys ≡ true) → (any p ys ≡ true → (x : A) × In x ys × (p x ≡ true)) → (x : A) × In x (y ∷ ys) × (p x ≡ true)
      go (inl c) ih = (y, here refl, c)
      go (inr c) ih = let r = ih c in (r.0, there r.1, r.2)

  pub in_any : (p : A → Bool) (xs : List A) {x : A} → In x xs → p x ≡ true → any p xs ≡ true
  in_any p [] {x} m h = absurd (in-nil m)
  in_any p (y ∷ ys) {x} m h = go (in-cons m) (λ k. in_any p ys k h)
    where
      go : (x ≡ y) ⊎ In x ys → (In x ys → any p ys ≡ true) → any p (y ∷ ys) ≡ true
      go (inl q) ih = any_here p y ys (ap p (sym q) ∙ h)
      go (inr k) ih = any_there p y ys (ih k)

  -- ---- sort: the same elements

  pub insert_in : (before : A → A → Bool) (x : A) (ys : List A) {z : A} → In z (insert before x ys) → (z ≡ x) ⊎ In z ys
  unfolding insert
  insert_in before x [] {z} m = in-cons m
  insert_in before x (y ∷ ys) {z} m = go (before x y) refl (λ k. insert_in before x ys k)
    where
      late : (z ≡ x) ⊎ In z ys → (z ≡ x) ⊎ In z (y ∷ ys)
      late (inl q) = inl q
      late (inr k) = inr (there k)

      past : (In z (insert before x ys) → (z ≡ x) ⊎ In z ys) → (z ≡ y) ⊎ In z (insert before x ys) → (z ≡ x) ⊎ In z (y ∷ ys)
      past ih (inl q) = inr (here q)
      past ih (inr k) = late (ih k)

      go : (b : Bool) → before x y ≡ b → (In z (insert before x ys) → (z ≡ x) ⊎ In z ys) → (z ≡ x) ⊎ In z (y ∷ ys)
      go true c ih = in-cons (rw c at m)
      go false c ih = past ih (in-cons (rw c at m))

  pub in_insert : (before : A → A → Bool) (x : A) (ys : List A) {z : A} → (z ≡ x) ⊎ In z ys → In z (insert before x ys)
  unfolding insert
  in_insert before x [] {z} (inl q) = here q
  in_insert before x [] {z} (inr m) = absurd (in-nil m)
  in_insert before x (y ∷ ys) {z} h = go (before x y) refl (λ k. in_insert before x ys k) h
    where
      past : ((z ≡ x) ⊎ In z ys → In z (insert before x ys)) → (z ≡ y) ⊎ In z ys → In z (y ∷ insert before x ys)
      past ih (inl q) = here q
      past ih (inr k) = there (ih (inr k))

      go : (b : Bool) → before x y ≡ b → ((z ≡ x) ⊎ In z ys → In z (insert before x ys)) → (z ≡ x) ⊎ In z (y ∷ ys)
          → In z (cond (before x y) (x ∷ y ∷ ys) (y ∷ insert before x ys))
      go true c ih (inl q) = rw c (here q)
      go true c ih (inr k) = rw c (there k)
      go false c ih (inl q) = rw c (there (ih (inl q)))
      go false c ih (inr k) = rw c (past ih (in-cons k))

  pub sort_in : (before : A → A → Bool) (xs : List A) {z : A} → In z (sort before xs) → In z xs
  unfolding sort
  sort_in before [] {z} m = m
  sort_in before (x ∷ xs) {z} m = go (insert_in before x (sort before xs) m) (λ k. sort_in before xs k)
    where
      go : (z ≡ x) ⊎ In z (sort before xs) → (In z (sort before xs) → In z xs) → In z (x ∷ xs)
      go (inl q) ih = here q
      go (inr k) ih = there (ih k)

  pub in_sort : (before : A → A → Bool) (xs : List A) {z : A} → In z xs → In z (sort before xs)
  unfolding sort
  in_sort before [] {z} m = m
  in_sort before (x ∷ xs) {z} m = in_insert before x (sort before xs) (go (in-cons m) (λ k. in_sort before xs k))
    where
      go : (z ≡ x) ⊎ In z xs → (In z xs → In z (sort before xs)) → (z ≡ x) ⊎ In z (sort before xs)
      go (inl q) ih = inl q
      go (inr k) ih = inr (ih k)

  -- ---- sorted by a relation: each element is before all later ones

  abbrev pub Sorted : (A → A → Type 0) → List A → Type 0
  Sorted R [] = Unit {0}
  Sorted R (x ∷ xs) = ((y : A) → In y xs → R x y) × Sorted R xs

  module _ (before : A → A → Bool) (R : A → A → Type 0) (trans : (x y z : A) → R x y → R y z → R x z)
      (yes_before : (x y : A) → before x y ≡ true → R x y) (no_before : (x y : A) → before x y ≡ false → R y x) where
    pub insert-sorted : (x : A) (ys : List A) → Sorted R ys → Sorted R (insert before x ys)
    unfolding insert
    insert-sorted x [] s = (λ y m. absurd (in-nil m), tt)
    insert-sorted x (y ∷ ys) s = go (before x y) refl (insert-sorted x ys s.1)
      where
        first : before x y ≡ true → (z : A) → In z (y ∷ ys) → R x z
        first c z m = at (in-cons m)
          where
            at : (z ≡ y) ⊎ In z ys → R x z
            at (inl q) = rw q (yes_before x y c)
            at (inr k) = trans x y z (yes_before x y c) (s.0 z k)

        later : before x y ≡ false → (z : A) → In z (insert before x ys) → R y z
        later c z m = at (insert_in before x ys m)
          where
            at : (z ≡ x) ⊎ In z ys → R y z
            at (inl q) = rw q (no_before x y c)
            at (inr k) = s.0 z k

        go : (b : Bool) → before x y ≡ b → Sorted R (insert before x ys) → Sorted R (cond (before x y) (x ∷ y ∷ ys) (y ∷ insert before x ys))
        go true c ih = rw c (first c, s)
        go false c ih = rw c (later c, ih)

    pub sort_sorted : (xs : List A) → Sorted R (sort before xs)
    unfolding sort
    sort_sorted [] = tt
    sort_sorted (x ∷ xs) = insert-sorted x (sort before xs) (sort_sorted xs)

-- ---- each, map, range

module _ {A B : Type 0} where
  pub concat_map_in : (f : A → List B) (xs : List A) {y : B} → In y (concat_map f xs) → (x : A) × In x xs × In y (f x)
  unfolding concat_map
  concat_map_in f [] {y} m = absurd (in-nil m)
  concat_map_in f (x ∷ xs) {y} m = go (in-append (f x) m) (λ k. concat_map_in f xs k)
    where
      go : In y (f x) ⊎ In y (concat_map f xs) → (In y (concat_map f xs) → (z : A) × In z xs × In y (f z)) → (z : A) × In z (x ∷ xs) × In y (f z)
      go (inl k) ih = (x, here refl, k)
      go (inr k) ih = let r = ih k in (r.0, there r.1, r.2)

  pub in_concat_map : (f : A → List B) (xs : List A) {x : A} {y : B} → In x xs → In y (f x) → In y (concat_map f xs)
  unfolding concat_map
  in_concat_map f [] {x} {y} m k = absurd (in-nil m)
  in_concat_map f (z ∷ xs) {x} {y} m k = go (in-cons m) (λ l. in_concat_map f xs l k)
    where
      go : (x ≡ z) ⊎ In x xs → (In x xs → In y (concat_map f xs)) → In y (f z ++ concat_map f xs)
      go (inl q) ih = in_left (concat_map f xs) (rw q at k)
      go (inr l) ih = in_right (f z) (ih l)

  pub map_in : (f : A → B) (xs : List A) {y : B} → In y (map f xs) → (x : A) × In x xs × (y ≡ f x)
  map_in f [] {y} m = absurd (in-nil m)
  map_in f (x ∷ xs) {y} m = go (in-cons m) (λ k. map_in f xs k)
    where
      go : (y ≡ f x) ⊎ In y (map f xs) → (In y (map f xs) → (z : A) × In z xs × (y ≡ f z)) → (z : A) × In z (x ∷ xs) × (y ≡ f z)
      go (inl q) ih = (x, here refl, q)
      go (inr k) ih = let r = ih k in (r.0, there r.1, r.2)

  pub in_map : (f : A → B) (xs : List A) {x : A} → In x xs → In (f x) (map f xs)
  in_map f [] {x} m = absurd (in-nil m)
  in_map f (z ∷ xs) {x} m = go (in-cons m) (λ k. in_map f xs k)
    where
      go : (x ≡ z) ⊎ In x xs → (In x xs → In (f x) (map f xs)) → In (f x) (f z ∷ map f xs)
      go (inl q) ih = here (ap f q)
      go (inr k) ih = there (ih k)

-- the last of the numbers from a on
-- one element more at the end
pub filter_last : {A : Type 0} (p : A → Bool) (xs : List A) (x : A) → filter p (xs ++ (x ∷ [])) ≡ filter p xs ++ cond (p x) (x ∷ []) []
unfolding filter
filter_last {A} p [] x = go (p x)
  where
    go : (b : Bool) → ◌≡◌ {A = List A} (cond b (x ∷ []) []) (cond b (x ∷ []) [])
    go b = refl
filter_last {A} p (y ∷ ys) x = go (p y) (filter_last p ys x)
  where
    go : (b : Bool) → filter p (ys ++ (x ∷ [])) ≡ filter p ys ++ cond (p x) (x ∷ []) [] → cond b (y ∷ filter p (ys ++ (x ∷ []))) (filter p (ys ++ (x ∷ []))) ≡ cond b (y ∷ filter p ys) (filter p ys) ++ cond (p x) (x ∷ []) []
    go true ih = ap {B = List A} (λ r. y ∷ r) ih
    go false ih = ih

pub map_last : {A B : Type 0} (f : A → B) (xs : List A) (x : A) → map f (xs ++ (x ∷ [])) ≡ map f xs ++ (f x ∷ [])
map_last f [] x = refl
map_last {A} {B} f (y ∷ ys) x = ap {B = List B} (λ r. f y ∷ r) (map_last f ys x)

pub concat_map_last : {A B : Type 0} (f : A → List B) (xs : List A) (x : A) → concat_map f (xs ++ (x ∷ [])) ≡ concat_map f xs ++ f x
unfolding concat_map
concat_map_last f [] x = append-nil (f x)
concat_map_last {A} {B} f (y ∷ ys) x = ap {B = List B} (λ r. f y ++ r) (concat_map_last f ys x) ∙ sym (append_assoc (f y) (concat_map f ys) (f x))

pub range_last : (a n : ℕ) → range a (suc n) ≡ range a n ++ ((a + n) ∷ [])
unfolding range
range_last a zero = ap (λ (x : ℕ). x ∷ []) (omega arith)
range_last a (suc n) = ap {B = List ℕ} (λ r. a ∷ r) (range_last (suc a) n ∙ ap (λ (x : ℕ). range (suc a) n ++ (x ∷ [])) (omega arith))

-- how many numbers below n pass is how long the list of them is
counted_last : (p : ℕ → Bool) (xs : List ℕ) (x : ℕ) → length (filter p (xs ++ (x ∷ []))) ≡ cond (p x) 1 0 + length (filter p xs)
unfolding filter
counted_last p [] x = go (p x)
  where
    go : (t : Bool) → length (cond t (x ∷ []) []) ≡ cond t 1 0 + 0
    go true = refl
    go false = refl
counted_last p (y ∷ ys) x = go (p y) (counted_last p ys x)
  where
    go : (t : Bool) → length (filter p (ys ++ (x ∷ []))) ≡ cond (p x) 1 0 + length (filter p ys)
        → length (cond t (y ∷ filter p (ys ++ (x ∷ []))) (filter p (ys ++ (x ∷ [])))) ≡ cond (p x) 1 0 + length (cond t (y ∷ filter p ys) (filter p ys))
    go true ih = omega (arith, ih)
    go false ih = ih

pub count-filter : (p : ℕ → Bool) (n : ℕ) → length (filter p (range 0 n)) ≡ count p n
unfolding count filter range
count-filter p zero = refl
count-filter p (suc n) =
    ap (λ (xs : List ℕ). length (filter p xs)) (range_last 0 n ∙ ap (λ (x : ℕ). range 0 n ++ (x ∷ [])) (zero-add n))
    ∙ counted_last p (range 0 n) n ∙ ap (λ (x : ℕ). cond (p n) 1 0 + x) (count-filter p n)

-- a list with an element has a first
pub first_in : (xs : List ℕ) {j : ℕ} → In j xs → In (get_or xs 0 0) xs
first_in [] m = absurd (in-nil m)
first_in (x ∷ xs) m = here refl

pub range_in : (a n : ℕ) {i : ℕ} → In i (range a n) → (a ≤ i) × (i < a + n)
unfolding range
range_in a zero {i} m = absurd (in-nil m)
range_in a (suc n) {i} m = go (in-cons m) (λ k. range_in (suc a) n k)
  where
    go : (i ≡ a) ⊎ In i (range (suc a) n) → (In i (range (suc a) n) → (suc a ≤ i) × (i < suc a + n)) → (a ≤ i) × (i < a + suc n)
    go (inl q) ih = (omega arith, omega arith)
    go (inr k) ih = let r = ih k in (omega (arith, r.0), omega (arith, r.1))

pub in_range : (a n : ℕ) {i : ℕ} → a ≤ i → i < a + n → In i (range a n)
unfolding range
in_range a zero {i} l h = absurd (omega arith)
in_range a (suc n) {i} l h = go (test (eqb i a)) (λ k. in_range (suc a) n k)
  where
    go : (eqb i a ≡ true) ⊎ (eqb i a ≡ false) → (suc a ≤ i → i < suc a + n → In i (range (suc a) n)) → In i (a ∷ range (suc a) n)
    go (inl c) ih = here (eqb-true i a c)
    go (inr c) ih = let d : i ≢ a = eqb-false i a c in there (ih (omega arith) (omega arith))

pub range_length : (a n : ℕ) → length (range a n) ≡ n
unfolding range
range_length a zero = refl
range_length a (suc n) = ap suc (range_length (suc a) n)

pub range_at : (a n i d : ℕ) → i < n → get_or (range a n) i d ≡ a + i
unfolding range
range_at a zero i d h = absurd (not-suc-le-zero h)
range_at a (suc n) zero d h = omega arith
range_at a (suc n) (suc i) d h = let r = range_at (suc a) n i d (le_of_suc-le-suc h) in omega arith

-- ---- places

pub get_d_in : {A : Type 0} (d : A) (xs : List A) (i : ℕ) → i < length xs → In (get_or xs i d) xs
get_d_in d [] i h = absurd (not-suc-le-zero h)
get_d_in d (x ∷ xs) zero h = here refl
get_d_in d (x ∷ xs) (suc i) h = there (get_d_in d xs i (le_of_suc-le-suc h))

pub in_get_d : {A : Type 0} (d : A) (xs : List A) {x : A} → In x xs → (i : ℕ) × (i < length xs) × (get_or xs i d ≡ x)
in_get_d d [] {x} m = absurd (in-nil m)
in_get_d d (y ∷ ys) {x} m = go (in-cons m) (λ k. in_get_d d ys k)
  where
    go : (x ≡ y) ⊎ In x ys → (In x ys → (i : ℕ) × (i < length ys) × (get_or ys i d ≡ x)) → (i : ℕ) × (i < length (y ∷ ys)) × (get_or (y ∷ ys) i d ≡ x)
    go (inl q) ih = (0, zero-lt-suc (length ys), sym q)
    go (inr k) ih = let r = ih k in (suc r.0, suc-le-suc r.1, r.2)

pub position_lt : {A : Type 0} (p : A → Bool) (xs : List A) → any p xs ≡ true → position p xs < length xs
unfolding position any
position_lt p [] h = absurd (true_not_false h refl)
position_lt p (x ∷ xs) h = go (p x) refl (position_lt p xs)
  where
    go : (b : Bool) → p x ≡ b → (any p xs ≡ true → position p xs < length xs) → cond (p x) 0 (suc (position p xs)) < suc (length xs)
    go true c ih = rw c (zero-lt-suc (length xs))
    go false c ih = rw c (suc-le-suc (ih (rw c at h)))

pub position_passes : {A : Type 0} (d : A) (p : A → Bool) (xs : List A) → position p xs < length xs → p (get_or xs (position p xs) d) ≡ true
unfolding position
position_passes d p [] h = absurd (not-suc-le-zero h)
position_passes d p (x ∷ xs) h = go (p x) refl (position_passes d p xs)
  where
    go : (b : Bool) → p x ≡ b → (position p xs < length xs → p (get_or xs (position p xs) d) ≡ true) → p (get_or (x ∷ xs) (cond (p x) 0 (suc (position p xs))) d) ≡ true
    go true c ih = rw (c, c)
    go false c ih = rw c (ih (le_of_suc-le-suc (rw c at h)))

-- ---- links

pub member_in : (L : List Link) (e : Link) → member L e ≡ true → In e L
unfolding member
member_in L e h = let r = any_in (same_link e) L h in cast (same_link_eq e r.0 r.2) r.1
  where
    cast : {f : Link} → e ≡ f → In f L → In e L
    cast q m = mathlib.Core.List.Memᴰ.cast q m

pub in_member : (L : List Link) {e : Link} → In e L → member L e ≡ true
unfolding member
in_member L {e} m = in_any (same_link e) L m (same_link_refl e)

-- a link's number leads back to the link
pub number_lt : (G : Graph) (e : Link) → member G.links e ≡ true → link_number G e < length G.links
unfolding link_number member
number_lt G e h = position_lt (same_link e) G.links h

pub link_of_number : (G : Graph) (e : Link) → member G.links e ≡ true → link_at G (link_number G e) ≡ e
unfolding link_number member
link_of_number G e h =
    sym (same_link_eq e (link_at G (link_number G e)) (position_passes (link 0 0) (same_link e) G.links (position_lt (same_link e) G.links h)))

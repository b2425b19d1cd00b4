-- Laws of lists that stand for sets of numbers: `every`, `contains`, `same_list`, parts of one list by two tests, sorted lists, `place`.
use mathlib.Core.Path.{◌≡◌, refl, sym, ap, ◌∙◌, subst}
use mathlib.Core.Logic.{◌⊎◌, inl, inr, ◌≢◌}
use mathlib.Core.Bool.{Bool, true, false, cond}
use mathlib.Core.List.{List, [], ◌∷◌, ◌++◌, map}
use mathlib.Core.List.Memᴰ.{append_cases as in-append}
use mathlib.Core.List.Memᴰ.{cases_cons as in-cons}
use mathlib.Core.List.Memᴰ.{head as here}
use mathlib.Core.List.Memᴰ.{not-nil as in-nil}
use mathlib.Core.List.Memᴰ.{tail as there}
use mathlib.Core.List.{Memᴰ as In}
use Prim.Native.Nat.{ℕ, zero, suc, ◌+◌, ◌≤◌, ◌<◌, suc-le-suc}
use native.Mathlib.Nat.{le_refl, not-suc-le-zero, le_of_suc-le-suc, zero-lt-suc}
use native.Mathlib.Omega.{arith}
use lib.Dec.{eqb}
use lib.ListN.{length, get_or}
use borrow.Author.Tests.{eqb-true, eqb-false, eq-eqb}
use Rattle.truss.specs.Lists.{filter, any, all, same_list, range}
use Rattle.truss.specs.Group.{contains}
use Rattle.laws.proofs.Lists.{test, and_left, and_right, both, true_not_false}
use Rattle.laws.proofs.Members.{Sorted, any_in, in_any, in_get_d, get_d_in}

module _ {A : Type 0} where
  pub all_in : (p : A → Bool) (xs : List A) → all p xs ≡ true → {x : A} → In x xs → p x ≡ true
  unfolding all
  all_in p [] h {x} m = absurd (in-nil m)
  all_in p (y ∷ ys) h {x} m = go (p y) refl (λ e k. all_in p ys e k) (in-cons m)
    where
      go : (b : Bool) → p y ≡ b → (all p ys ≡ true → In x ys → p x ≡ true) → (x ≡ y) ⊎ In x ys → p x ≡ true
      go true c ih (inl q) = ap p q ∙ c
      go true c ih (inr k) = ih (rw c at h) k
      go false c ih k = absurd (true_not_false (rw c at h) refl)

  pub in_all : (p : A → Bool) (xs : List A) → ((x : A) → In x xs → p x ≡ true) → all p xs ≡ true
  unfolding all
  in_all p [] h = refl
  in_all p (y ∷ ys) h = rw (h y (here refl)) (in_all p ys (λ x m. h x (there m)))

  -- ---- parts of one list by two tests

  pub filter_same : (p q : A → Bool) (xs : List A) → ((x : A) → In x xs → p x ≡ q x) → filter p xs ≡ filter q xs
  unfolding filter
  filter_same p q [] h = refl
  filter_same p q (x ∷ xs) h = go (q x) refl (filter_same p q xs (λ y m. h y (there m)))
    where
      go : (b : Bool) → q x ≡ b → filter p xs ≡ filter q xs → cond (p x) (x ∷ filter p xs) (filter p xs) ≡ cond (q x) (x ∷ filter q xs) (filter q xs)
      go true c ih = rw (h x (here refl), c) (ap {B = List A} (λ r. x ∷ r) ih)
      go false c ih = rw (h x (here refl), c) ih

  pub filter_sub_length : (p q : A → Bool) (xs : List A) → ((x : A) → In x xs → p x ≡ true → q x ≡ true) → length (filter p xs) ≤ length (filter q xs)
  unfolding filter
  filter_sub_length p q [] h = le_refl 0
  filter_sub_length p q (x ∷ xs) h = go (p x) refl (q x) refl (filter_sub_length p q xs (λ y m. h y (there m)))
    where
      go : (b : Bool) → p x ≡ b → (c : Bool) → q x ≡ c → length (filter p xs) ≤ length (filter q xs)
          → length (cond (p x) (x ∷ filter p xs) (filter p xs)) ≤ length (cond (q x) (x ∷ filter q xs) (filter q xs))
      go true b true c ih = rw (b, c) (suc-le-suc ih)
      go true b false c ih = absurd (true_not_false (h x (here refl) b) c)
      go false b true c ih = rw (b, c) (omega arith)
      go false b false c ih = rw (b, c) ih

  -- a part of a part that is no shorter is that part
  pub filter_sub_whole : (p q : A → Bool) (xs : List A) → ((x : A) → In x xs → p x ≡ true → q x ≡ true) → length (filter q xs) ≤ length (filter p xs)
      → filter p xs ≡ filter q xs
  unfolding filter
  filter_sub_whole p q [] h l = refl
  filter_sub_whole p q (x ∷ xs) h l = go (p x) refl (q x) refl (filter_sub_whole p q xs (λ y m. h y (there m)))
    where
      go : (b : Bool) → p x ≡ b → (c : Bool) → q x ≡ c → (length (filter q xs) ≤ length (filter p xs) → filter p xs ≡ filter q xs)
          → cond (p x) (x ∷ filter p xs) (filter p xs) ≡ cond (q x) (x ∷ filter q xs) (filter q xs)
      go true b true c ih =
          let l' : suc (length (filter q xs)) ≤ suc (length (filter p xs)) = rw (b, c) at l in
          rw (b, c) (ap {B = List A} (λ r. x ∷ r) (ih (le_of_suc-le-suc l')))
      go true b false c ih = absurd (true_not_false (h x (here refl) b) c)
      go false b true c ih =
          let l' : suc (length (filter q xs)) ≤ length (filter p xs) = rw (b, c) at l in
          absurd (omega (arith, filter_sub_length p q xs (λ y m. h y (there m))))
      go false b false c ih =
          let l' : length (filter q xs) ≤ length (filter p xs) = rw (b, c) at l in
          rw (b, c) (ih l')

  -- ---- sorted lists

  pub sorted_all : (R : A → A → Type 0) (xs : List A) → ((x y : A) → In x xs → In y xs → R x y) → Sorted R xs
  sorted_all R [] h = tt
  sorted_all R (x ∷ xs) h = (λ y m. h x y (here refl) (there m), sorted_all R xs (λ y z m n. h y z (there m) (there n)))

  pub sorted-append : (R : A → A → Type 0) (xs ys : List A) → Sorted R xs → Sorted R ys → ((x y : A) → In x xs → In y ys → R x y) → Sorted R (xs ++ ys)
  sorted-append R [] ys s t h = t
  sorted-append R (x ∷ xs) ys s t h = (λ y m. go y (in-append xs m), sorted-append R xs ys s.1 t (λ a b m n. h a b (there m) n))
    where
      go : (y : A) → In y xs ⊎ In y ys → R x y
      go y (inl m) = s.0 y m
      go y (inr m) = h x y (here refl) m

  pub sorted_at : (R : A → A → Type 0) (d : A) (xs : List A) → Sorted R xs → (a b : ℕ) → a < b → b < length xs → R (get_or xs a d) (get_or xs b d)
  sorted_at R d [] s a b l m = absurd (not-suc-le-zero m)
  sorted_at R d (x ∷ xs) s zero zero l m = absurd (not-suc-le-zero l)
  sorted_at R d (x ∷ xs) s zero (suc b) l m = s.0 (get_or xs b d) (get_d_in d xs b (le_of_suc-le-suc m))
  sorted_at R d (x ∷ xs) s (suc a) zero l m = absurd (not-suc-le-zero l)
  sorted_at R d (x ∷ xs) s (suc a) (suc b) l m = sorted_at R d xs s.1 a b (le_of_suc-le-suc l) (le_of_suc-le-suc m)

  pub sorted_of : (R : A → A → Type 0) (d : A) (xs : List A) → ((i j : ℕ) → i < j → j < length xs → R (get_or xs i d) (get_or xs j d)) → Sorted R xs
  sorted_of R d [] h = tt
  sorted_of R d (x ∷ xs) h = (λ y m. at y (in_get_d d xs m), sorted_of R d xs (λ i j l k. h (suc i) (suc j) (omega (arith, l)) (omega (arith, k))))
    where
      at : (y : A) → (i : ℕ) × (i < length xs) × (get_or xs i d ≡ y) → R x y
      at y (i, l, q) = subst (R x) q (h 0 (suc i) (omega arith) (omega (arith, l)))

-- ---- lists of numbers

pub same_list_eq : (xs ys : List ℕ) → same_list xs ys ≡ true → xs ≡ ys
unfolding same_list
same_list_eq [] [] h = refl
same_list_eq [] (y ∷ ys) h = absurd (true_not_false h refl)
same_list_eq (x ∷ xs) [] h = absurd (true_not_false h refl)
same_list_eq (x ∷ xs) (y ∷ ys) h =
    let p = eqb-true x y (and_left (eqb x y) (same_list xs ys) h) in
    let q = same_list_eq xs ys (and_right (eqb x y) (same_list xs ys) h) in
    λ i. p i ∷ q i

pub same_list_refl : (xs : List ℕ) → same_list xs xs ≡ true
unfolding same_list
same_list_refl [] = refl
same_list_refl (x ∷ xs) = both (eq-eqb x x refl) (same_list_refl xs)

pub eq_same_list : (xs ys : List ℕ) → xs ≡ ys → same_list xs ys ≡ true
eq_same_list xs ys q = rw q (same_list_refl ys)

pub any_number : (i : ℕ) (xs : List ℕ) → any (eqb i) xs ≡ true → In i xs
any_number i xs h = let r = any_in (eqb i) xs h in mathlib.Core.List.Memᴰ.cast (eqb-true i r.0 r.2) r.1

pub contains_in : (big small : List ℕ) → contains big small ≡ true → {i : ℕ} → In i small → In i big
unfolding contains
contains_in big small h {i} m = any_number i big (all_in (λ j. any (eqb j) big) small h m)

pub in_contains : (big small : List ℕ) → ((i : ℕ) → In i small → In i big) → contains big small ≡ true
unfolding contains
in_contains big small h = in_all (λ j. any (eqb j) big) small (λ i m. in_any (eqb i) big (h i m) (eq-eqb i i refl))

-- the value of a function at each place
pub map_range_at : {B : Type 0} (f : ℕ → B) (d : B) (a n i : ℕ) → i < n → get_or (map f (range a n)) i d ≡ f (a + i)
unfolding range
map_range_at f d a zero i h = absurd (not-suc-le-zero h)
map_range_at f d a (suc n) zero h = ap f (omega arith)
map_range_at f d a (suc n) (suc i) h = map_range_at f d (suc a) n i (le_of_suc-le-suc h) ∙ ap f (omega arith)

pub map_at : {A B : Type 0} (f : A → B) (d : A) (d' : B) (xs : List A) (i : ℕ) → i < length xs → get_or (map f xs) i d' ≡ f (get_or xs i d)
map_at f d d' [] i h = absurd (not-suc-le-zero h)
map_at f d d' (x ∷ xs) zero h = refl
map_at f d d' (x ∷ xs) (suc i) h = map_at f d d' xs i (le_of_suc-le-suc h)

-- ---- a one-to-one function from the numbers below a into those below b: a ≤ b

pub pigeonhole : (b a : ℕ) (g : ℕ → ℕ) → ((i : ℕ) → i < a → g i < b) → ((i j : ℕ) → i < a → j < a → g i ≡ g j → i ≡ j) → a ≤ b
pigeonhole b zero g below inj = Prim.Native.Nat.zero-le
pigeonhole zero (suc a) g below inj = absurd (not-suc-le-zero (below 0 (zero-lt-suc a)))
pigeonhole (suc b) (suc a) g below inj = suc-le-suc (pigeonhole b a g' below' inj')
  where
    -- the last value is given up; whoever had the value b takes the last one's
    g' : ℕ → ℕ
    g' i = cond (eqb (g i) b) (g a) (g i)

    g'_cases : (i : ℕ) → ((g i ≡ b) × (g' i ≡ g a)) ⊎ ((g i ≢ b) × (g' i ≡ g i))
    g'_cases i = go (test (eqb (g i) b))
      where
        go : (eqb (g i) b ≡ true) ⊎ (eqb (g i) b ≡ false) → ((g i ≡ b) × (g' i ≡ g a)) ⊎ ((g i ≢ b) × (g' i ≡ g i))
        go (inl c) = inl (eqb-true (g i) b c, rw c)
        go (inr c) = inr (eqb-false (g i) b c, rw c)

    below' : (i : ℕ) → i < a → g' i < b
    below' i l = go (g'_cases i)
      where
        other : g i ≡ b → g a ≢ b
        other q r = let s = inj i a (omega arith) (le_refl (suc a)) (q ∙ sym r) in omega arith

        go : ((g i ≡ b) × (g' i ≡ g a)) ⊎ ((g i ≢ b) × (g' i ≡ g i)) → g' i < b
        go (inl r) = let o = other r.0 in omega (arith, r.1, below a (le_refl (suc a)), o)
        go (inr r) = omega (arith, r.0, r.1, below i (omega arith))

    inj' : (i j : ℕ) → i < a → j < a → g' i ≡ g' j → i ≡ j
    inj' i j li lj h = go (g'_cases i) (g'_cases j)
      where
        go : ((g i ≡ b) × (g' i ≡ g a)) ⊎ ((g i ≢ b) × (g' i ≡ g i)) → ((g j ≡ b) × (g' j ≡ g a)) ⊎ ((g j ≢ b) × (g' j ≡ g j)) → i ≡ j
        go (inl r) (inl s) = inj i j (omega arith) (omega arith) (r.0 ∙ sym s.0)
        go (inl r) (inr s) =
            let q = inj a j (le_refl (suc a)) (omega arith) (sym r.1 ∙ h ∙ s.1) in absurd (omega arith)
        go (inr r) (inl s) =
            let q = inj a i (le_refl (suc a)) (omega arith) (sym s.1 ∙ sym h ∙ r.1) in absurd (omega arith)
        go (inr r) (inr s) = inj i j (omega arith) (omega arith) (sym r.1 ∙ h ∙ s.1)

-- Laws of Booleans, of the list functions of specs/Basic.antt, and of links as elements of a list.
use mathlib.Core.Path.{◌≡◌, refl, sym, ap, ◌∙◌}
use mathlib.Core.Logic.{◌⊎◌, inl, inr}
use mathlib.Core.Bool.{Bool, true, false, cond, ◌&&◌, ◌||◌}
use mathlib.Core.List.{List, [], ◌∷◌}
use Prim.Native.Nat.{ℕ, zero, suc, ◌+◌, ◌≤◌, ◌<◌}
use native.Mathlib.Nat.{le_refl, not-suc-le-zero}
use native.Mathlib.Omega.{arith}
use lib.Dec.{eqb}
use lib.ListN.{length}
use borrow.Author.Tests.{eqb-true, eq-eqb}
use Rattle.truss.specs.Lists.{filter, any, count, largest}
use Rattle.truss.specs.Graph.{Link, LinkSet, link, same_link, member, support}

-- ---- Booleans

pub and_left : (a b : Bool) → (a && b) ≡ true → a ≡ true
and_left true b h = refl
and_left false b h = h

pub and_right : (a b : Bool) → (a && b) ≡ true → b ≡ true
and_right true b h = h
and_right false b h = let z : ◌≡◌ {A = ℕ} 0 1 = cc in absurd (omega arith)

-- tests that hold together are the same
pub bool_same : (a b : Bool) → (a ≡ true → b ≡ true) → (b ≡ true → a ≡ true) → a ≡ b
bool_same true b f g = sym (f refl)
bool_same false true f g = g refl
bool_same false false f g = refl

pub and_false : (a : Bool) → (a && false) ≡ false
and_false true = refl
and_false false = refl

pub both : {a b : Bool} → a ≡ true → b ≡ true → (a && b) ≡ true
both h k = rw (h, k)

pub or_cases : (a b : Bool) → (a || b) ≡ true → (a ≡ true) ⊎ (b ≡ true)
or_cases true b h = inl refl
or_cases false b h = inr h

pub or_left_false : (a b : Bool) → (a || b) ≡ false → a ≡ false
or_left_false true b h = h
or_left_false false b h = refl

pub or_right_false : (a b : Bool) → (a || b) ≡ false → b ≡ false
or_right_false true b h = let z : ◌≡◌ {A = ℕ} 0 1 = cc in absurd (omega arith)
or_right_false false b h = h

pub true_not_false : {b : Bool} → b ≡ true → b ≡ false → ⊥
true_not_false h k = let z : ◌≡◌ {A = ℕ} 0 1 = cc in omega arith

-- a test passes or fails, with the equation
pub test : (b : Bool) → (b ≡ true) ⊎ (b ≡ false)
test true = inl refl
test false = inr refl

-- ---- a list's elements that pass

module _ {A : Type 0} where
  pub any_cons : (p : A → Bool) (x : A) (xs : List A) → any p (x ∷ xs) ≡ true → (p x ≡ true) ⊎ (any p xs ≡ true)
  unfolding any
  any_cons p x xs h = go (p x) refl
    where
      go : (b : Bool) → p x ≡ b → (p x ≡ true) ⊎ (any p xs ≡ true)
      go true e = inl e
      go false e = inr (rw e at h)

  pub any_here : (p : A → Bool) (x : A) (xs : List A) → p x ≡ true → any p (x ∷ xs) ≡ true
  unfolding any
  any_here p x xs h = rw h

  pub any_there : (p : A → Bool) (x : A) (xs : List A) → any p xs ≡ true → any p (x ∷ xs) ≡ true
  unfolding any
  any_there p x xs h = go (p x) refl
    where
      go : (b : Bool) → p x ≡ b → cond (p x) true (any p xs) ≡ true
      go true e = rw e
      go false e = rw e h

  pub filter-length : (p : A → Bool) (xs : List A) → length (filter p xs) ≤ length xs
  unfolding filter
  filter-length p [] = le_refl 0
  filter-length p (x ∷ xs) = go (p x) refl (filter-length p xs)
    where
      go : (b : Bool) → p x ≡ b → length (filter p xs) ≤ length xs → length (cond (p x) (x ∷ filter p xs) (filter p xs)) ≤ suc (length xs)
      go true e ih = rw e (omega arith)
      go false e ih = rw e (omega arith)

  -- where nothing was taken away, each element passes
  pub filter-whole : (p : A → Bool) (xs : List A) → length (filter p xs) ≡ length xs → filter p xs ≡ xs
  unfolding filter
  filter-whole p [] h = refl
  filter-whole p (x ∷ xs) h = go (p x) refl (filter-whole p xs)
    where
      go : (b : Bool) → p x ≡ b → (length (filter p xs) ≡ length xs → filter p xs ≡ xs) → cond (p x) (x ∷ filter p xs) (filter p xs) ≡ x ∷ xs
      go true e ih =
          let l : suc (length (filter p xs)) ≡ suc (length xs) = rw e at h in
          rw e (ap {B = List A} (λ r. x ∷ r) (ih (omega arith)))
      go false e ih =
          let l : length (filter p xs) ≡ suc (length xs) = rw e at h in
          absurd (omega (arith, filter-length p xs))

-- ---- links

pub same_link_eq : (e f : Link) → same_link e f ≡ true → e ≡ f
same_link_eq e f h =
    let p : e.lo ≡ f.lo = eqb-true e.lo f.lo (and_left (eqb e.lo f.lo) (eqb e.hi f.hi) h) in
    let q : e.hi ≡ f.hi = eqb-true e.hi f.hi (and_right (eqb e.lo f.lo) (eqb e.hi f.hi) h) in
    λ i. record { lo = p i; hi = q i }

pub same_link_refl : (e : Link) → same_link e e ≡ true
same_link_refl e = both (eq-eqb e.lo e.lo refl) (eq-eqb e.hi e.hi refl)

pub member_filter : (p : Link → Bool) (L : List Link) (e : Link) → member (filter p L) e ≡ true → (member L e ≡ true) × (p e ≡ true)
unfolding filter member any
member_filter p [] e h = (h, absurd (true_not_false h refl))
member_filter p (f ∷ L) e h = go (p f) refl (member_filter p L e)
  where
    on : (member (filter p L) e ≡ true → (member L e ≡ true) × (p e ≡ true)) → member (filter p L) e ≡ true → (member (f ∷ L) e ≡ true) × (p e ≡ true)
    on ih t = (any_there (same_link e) f L (ih t).0, (ih t).1)

    go : (b : Bool) → p f ≡ b → (member (filter p L) e ≡ true → (member L e ≡ true) × (p e ≡ true)) → (member (f ∷ L) e ≡ true) × (p e ≡ true)
    go true c ih = here (any_cons (same_link e) f (filter p L) (rw c at h))
      where
        here : (same_link e f ≡ true) ⊎ (any (same_link e) (filter p L) ≡ true) → (member (f ∷ L) e ≡ true) × (p e ≡ true)
        here (inl s) = (any_here (same_link e) f L s, ap p (same_link_eq e f s) ∙ c)
        here (inr t) = on ih t
    go false c ih = on ih (rw c at h)

pub filter-member : (p : Link → Bool) (L : List Link) (e : Link) → member L e ≡ true → p e ≡ true → member (filter p L) e ≡ true
unfolding filter member any
filter-member p [] e h q = h
filter-member p (f ∷ L) e h q = go (p f) refl (any_cons (same_link e) f L h) (λ t. filter-member p L e t q)
  where
    go : (b : Bool) → p f ≡ b → (same_link e f ≡ true) ⊎ (any (same_link e) L ≡ true) → (member L e ≡ true → member (filter p L) e ≡ true)
        → member (cond (p f) (f ∷ filter p L) (filter p L)) e ≡ true
    go true c (inl s) ih = rw c (any_here (same_link e) f (filter p L) s)
    go true c (inr t) ih = rw c (any_there (same_link e) f (filter p L) (ih t))
    go false c (inl s) ih = absurd (true_not_false (ap p (sym (same_link_eq e f s)) ∙ q) c)
    go false c (inr t) ih = rw c (ih t)

-- ---- counts

pub count_mono : (p q : ℕ → Bool) (n : ℕ) → ((i : ℕ) → i < n → p i ≡ true → q i ≡ true) → count p n ≤ count q n
unfolding count
count_mono p q zero h = le_refl 0
count_mono p q (suc n) h = go (p n) refl (count_mono p q n (λ i l. h i (omega arith)))
  where
    go : (b : Bool) → p n ≡ b → count p n ≤ count q n → cond (p n) 1 0 + count p n ≤ cond (q n) 1 0 + count q n
    go true e ih = rw (e, h n (le_refl (suc n)) e) (omega arith)
    go false e ih = rw e (omega arith)

pub count_le : (p : ℕ → Bool) (n : ℕ) → count p n ≤ n
unfolding count
count_le p zero = le_refl 0
count_le p (suc n) = go (p n) refl (count_le p n)
  where
    go : (b : Bool) → p n ≡ b → count p n ≤ n → cond (p n) 1 0 + count p n ≤ suc n
    go true e ih = rw e (omega arith)
    go false e ih = rw e (omega arith)

-- a count that is not 0 has a number that passes
pub count_some : (p : ℕ → Bool) (n : ℕ) → 0 < count p n → (i : ℕ) × (i < n) × (p i ≡ true)
unfolding count
count_some p zero h = absurd (not-suc-le-zero h)
count_some p (suc n) h = go (p n) refl (count_some p n)
  where
    go : (b : Bool) → p n ≡ b → (0 < count p n → (i : ℕ) × (i < n) × (p i ≡ true)) → (i : ℕ) × (i < suc n) × (p i ≡ true)
    go true e ih = (n, le_refl (suc n), e)
    go false e ih =
        let c : 0 < 0 + count p n = rw e at h in
        let r = ih (omega arith) in
        (r.0, omega (arith, r.1), r.2)

pub support_mono : (n : ℕ) (S S' : LinkSet) (e : Link) → ((f : Link) → S f ≡ true → S' f ≡ true) → support n S e ≤ support n S' e
unfolding support
support_mono n S S' e h =
    count_mono _ _ n (λ c l t.
    both (h (link e.lo c) (and_left (S (link e.lo c)) (S (link e.hi c)) t)) (h (link e.hi c) (and_right (S (link e.lo c)) (S (link e.hi c)) t)))

-- where a set has both other sides of each triangle, it has as many
pub support-sides : (n : ℕ) (S S' : LinkSet) (e : Link)
    → ((c : ℕ) → S (link e.lo c) ≡ true → S (link e.hi c) ≡ true → (S' (link e.lo c) ≡ true) × (S' (link e.hi c) ≡ true)) → support n S e ≤ support n S' e
unfolding support
support-sides n S S' e sides =
    count_mono _ _ n (λ c l t.
    let r = sides c (and_left (S (link e.lo c)) (S (link e.hi c)) t) (and_right (S (link e.lo c)) (S (link e.hi c)) t) in
    both r.0 r.1)

pub support_le : (n : ℕ) (S : LinkSet) (e : Link) → support n S e ≤ n
unfolding support
support_le n S e = count_le _ n

-- ---- the largest number that passes

pub largest_le : (p : ℕ → Bool) (n : ℕ) → largest p n ≤ n
unfolding largest
largest_le p zero = le_refl 0
largest_le p (suc n) = go (p (suc n)) refl (largest_le p n)
  where
    go : (b : Bool) → p (suc n) ≡ b → largest p n ≤ n → cond (p (suc n)) (suc n) (largest p n) ≤ suc n
    go true e ih = rw e (le_refl (suc n))
    go false e ih = rw e (omega arith)

pub largest-max : (p : ℕ → Bool) (n k : ℕ) → k ≤ n → p k ≡ true → k ≤ largest p n
unfolding largest
largest-max p zero k l h = l
largest-max p (suc n) k l h = go (p (suc n)) refl (λ m. largest-max p n k m h)
  where
    below : p (suc n) ≡ false → k ≤ n
    below e = low ((native.Mathlib.Nat.le-suc_iff).0 l)
      where
        low : (k ≤ n) ⊎ (k ≡ suc n) → k ≤ n
        low (inl m) = m
        low (inr q) = absurd (true_not_false h (ap p q ∙ e))

    go : (b : Bool) → p (suc n) ≡ b → (k ≤ n → k ≤ largest p n) → k ≤ cond (p (suc n)) (suc n) (largest p n)
    go true e ih = rw e l
    go false e ih = rw e (ih (below e))

pub largest_passes : (p : ℕ → Bool) (n : ℕ) → 0 < largest p n → p (largest p n) ≡ true
unfolding largest
largest_passes p zero h = absurd (not-suc-le-zero h)
largest_passes p (suc n) h = go (p (suc n)) refl (largest_passes p n)
  where
    go : (b : Bool) → p (suc n) ≡ b → (0 < largest p n → p (largest p n) ≡ true) → p (cond (p (suc n)) (suc n) (largest p n)) ≡ true
    go true e ih = rw (e, e)
    go false e ih = rw e (ih (rw e at h))

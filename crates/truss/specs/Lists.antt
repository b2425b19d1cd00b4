-- Functions on lists and numbers that the definitions use; a test is a function to Bool. (`length`, `get_or`, `take`, `drop`, `map` and `◌++◌` are
-- the library's; get_or xs i d is the element at i, d past the end.)
use Rattle.std.specs.Prelude.{Bool, true, false, cond, ◌&&◌, ℕ, zero, suc, ◌+◌, eqb}
use mathlib.Core.List.{List, [], ◌∷◌, ◌++◌}

module _ {A : Type 0} where
  -- the elements that pass, in their order
  unfoldable pub filter : (A → Bool) → List A → List A
  filter p [] = []
  filter p (x ∷ xs) = cond (p x) (x ∷ filter p xs) (filter p xs)

  -- some element passes
  unfoldable pub any : (A → Bool) → List A → Bool
  any p [] = false
  any p (x ∷ xs) = cond (p x) true (any p xs)

  -- every element passes
  unfoldable pub all : (A → Bool) → List A → Bool
  all p [] = true
  all p (x ∷ xs) = cond (p x) (all p xs) false

  -- the position of the first element that passes, the length if none does
  unfoldable pub position : (A → Bool) → List A → ℕ
  position p [] = 0
  position p (x ∷ xs) = cond (p x) 0 (suc (position p xs))

  -- insertion sort: an element goes in front of the first that it is before
  unfoldable pub insert : (A → A → Bool) → A → List A → List A
  insert before x [] = x ∷ []
  insert before x (y ∷ ys) = cond (before x y) (x ∷ y ∷ ys) (y ∷ insert before x ys)

  unfoldable pub sort : (A → A → Bool) → List A → List A
  unfolding insert
  sort before [] = []
  sort before (x ∷ xs) = insert before x (sort before xs)

-- the lists that f gives, one after the other
unfoldable pub concat_map : {A B : Type 0} → (A → List B) → List A → List B
concat_map f [] = []
concat_map f (x ∷ xs) = f x ++ concat_map f xs

-- n numbers from a on
unfoldable pub range : ℕ → ℕ → List ℕ
range a zero = []
range a (suc n) = a ∷ range (suc a) n

-- the numbers n, n - 1, .. 1
unfoldable pub falling : ℕ → List ℕ
falling zero = []
falling (suc n) = suc n ∷ falling n

-- how many of the numbers below n pass
unfoldable pub count : (ℕ → Bool) → ℕ → ℕ
count p zero = 0
count p (suc n) = cond (p n) 1 0 + count p n

-- the largest number that passes and is at most n, 0 if there is none
unfoldable pub largest : (ℕ → Bool) → ℕ → ℕ
largest p zero = 0
largest p (suc n) = let r = largest p n in cond (p (suc n)) (suc n) r

-- two lists of numbers are the same
unfoldable pub same_list : List ℕ → List ℕ → Bool
same_list [] [] = true
same_list [] (y ∷ ys) = false
same_list (x ∷ xs) [] = false
same_list (x ∷ xs) (y ∷ ys) = eqb x y && same_list xs ys

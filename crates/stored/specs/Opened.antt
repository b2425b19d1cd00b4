-- What is known of an opened index has no two proofs, so that a value may carry it. Assumes nothing.
use Rattle.std.specs.Prelude.{List, [], ◌∷◌, ℕ}
use Rattle.std.specs.Coded.{×_prop, Unit-prop, le_prop}
use Rattle.std.proofs.Props.{props}
use Rattle.laws.proofs.Members.{Sorted}
use Rattle.stored.specs.Rows.{Shape}

Sorted-prop : {A : Type 0} (R : A → A → Type 0) → ((x y : A) → IsProp (R x y)) → (xs : List A) → IsProp (Sorted R xs)
Sorted-prop R p [] = Unit-prop
Sorted-prop R p (x ∷ xs) = let tail = Sorted-prop R p xs in let one = p in hlevel (one, tail)

pub Shape-prop : (b : List ℕ) (n m at count : ℕ) → IsProp (Shape b n m at count)
Shape-prop b n m at count = hlevel (props, Sorted-prop)

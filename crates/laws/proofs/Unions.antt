-- A union-find forest with parent[i] ≤ i keeps the labels of specs/Forest.antt: a root is a label, and one store is a merge.
use mathlib.Core.Path.{◌≡◌, refl, sym, ap, ◌∙◌}
use mathlib.Core.Logic.{◌⊎◌, inl, inr, ◌≢◌}
use mathlib.Core.Bool.{true, false}
use mathlib.Core.List.{List}
use Prim.Native.Nat.{ℕ, zero, suc, ◌≤◌, ◌<◌}
use native.Mathlib.Nat.{le_refl}
use native.Mathlib.Omega.{arith}
use lib.Dec.{eqb}
use lib.ListN.{length, get_or, set}
use lib.Seq.{get_or-set_same, get_or-set_other}
use borrow.Author.Tests.{eqb-true, eqb-false, eq-eqb, ne_eqb}
use Rattle.truss.specs.Forest.{merge}
use Rattle.laws.proofs.UnionFind.{Down, climb_up, root_of}
use Rattle.laws.proofs.Lists.{test}
use Rattle.laws.proofs.Components.{label, relabel, relabel_hit, relabel_miss, low, high, label-merge}

module _ (p : List ℕ) where
  climb_root : (f a : ℕ) → get_or p a 0 ≡ a → climb_up f p a ≡ a
  unfolding climb_up
  climb_root zero a q = refl
  climb_root (suc f) a q = rw (eq-eqb (get_or p a 0) a q)

  climb_on : (f a : ℕ) → get_or p a 0 ≢ a → climb_up (suc f) p a ≡ climb_up f p (get_or p a 0)
  unfolding climb_up
  climb_on f a ne = rw (ne_eqb (get_or p a 0) a ne)

  module _ (down : Down p) where
    -- enough steps are enough
    climb_enough : (f g a : ℕ) → a ≤ f → a ≤ g → climb_up f p a ≡ climb_up g p a
    climb_enough zero g a l m =
        let q : get_or p a 0 ≡ a = omega (arith, down a) in climb_root zero a q ∙ sym (climb_root g a q)
    climb_enough (suc f) zero a l m =
        let q : get_or p a 0 ≡ a = omega (arith, down a) in climb_root (suc f) a q ∙ sym (climb_root zero a q)
    climb_enough (suc f) (suc g) a l m = go (test (eqb (get_or p a 0) a)) (λ u v. climb_enough f g (get_or p a 0) u v)
      where
        go : (eqb (get_or p a 0) a ≡ true) ⊎ (eqb (get_or p a 0) a ≡ false) → (get_or p a 0 ≤ f → get_or p a 0 ≤ g → climb_up f p (get_or p a 0) ≡ climb_up g p (get_or p a 0))
            → climb_up (suc f) p a ≡ climb_up (suc g) p a
        go (inl c) ih = let q = eqb-true (get_or p a 0) a c in climb_root (suc f) a q ∙ sym (climb_root (suc g) a q)
        go (inr c) ih =
            let ne : get_or p a 0 ≢ a = eqb-false (get_or p a 0) a c in
            climb_on f a ne ∙ ih (omega (arith, down a, ne)) (omega (arith, down a, ne)) ∙ sym (climb_on g a ne)

    -- the step of a loop that finds the root
    pub root_stop : (a : ℕ) → get_or p a 0 ≡ a → root_of p a ≡ a
    unfolding root_of
    root_stop a q = climb_root a a q

    pub root_step : (a : ℕ) → get_or p a 0 ≢ a → root_of p a ≡ root_of p (get_or p a 0)
    unfolding root_of
    root_step a ne =
        climb_enough a (suc a) a (le_refl a) (omega arith) ∙ climb_on a a ne
        ∙ climb_enough a (get_or p a 0) (get_or p a 0) (down a) (le_refl (get_or p a 0))

    -- ---- one store: the root y gets the parent x

    module _ (x y : ℕ) (x<y : x < y) (y-in : y < length p) (x_root : get_or p x 0 ≡ x) (y_root : get_or p y 0 ≡ y) where
      stored : List ℕ
      stored = set p y x

      at_y : get_or stored y 0 ≡ x
      unfolding stored
      at_y = get_or-set_same p y x 0 y-in

      at_other : (a : ℕ) → a ≢ y → get_or stored a 0 ≡ get_or p a 0
      unfolding stored
      at_other a ne = get_or-set_other p y a x 0 ne

      pub store_down : Down (set p y x)
      unfolding stored
      store_down a = go (test (eqb a y))
        where
          go : (eqb a y ≡ true) ⊎ (eqb a y ≡ false) → get_or stored a 0 ≤ a
          go (inl c) = let q : a ≡ y = eqb-true a y c in rw q (omega (arith, at_y))
          go (inr c) = omega (arith, at_other a (eqb-false a y c), down a)

      store_climb : (f a : ℕ) → a ≤ f → climb_up f stored a ≡ relabel x y (climb_up f p a)
      store_climb zero a l =
          let ne : a ≢ y = omega arith in
          let q : get_or p a 0 ≡ a = omega (arith, down a) in
          Rattle.laws.proofs.Unions.climb_root stored zero a (at_other a ne ∙ q) ∙ sym (relabel_miss x y a ne) ∙ ap (relabel x y) (sym (climb_root zero a q))
      store_climb (suc f) a l = go (test (eqb a y)) (test (eqb (get_or p a 0) a)) (λ u. store_climb f (get_or p a 0) u)
        where
          go : (eqb a y ≡ true) ⊎ (eqb a y ≡ false) → (eqb (get_or p a 0) a ≡ true) ⊎ (eqb (get_or p a 0) a ≡ false)
              → (get_or p a 0 ≤ f → climb_up f stored (get_or p a 0) ≡ relabel x y (climb_up f p (get_or p a 0))) → climb_up (suc f) stored a ≡ relabel x y (climb_up (suc f) p a)
          go (inl c) d ih =
              let q : a ≡ y = eqb-true a y c in
              let ne : get_or stored y 0 ≢ y = omega (arith, at_y) in
              let xy : x ≢ y = omega arith in
              rw q (Rattle.laws.proofs.Unions.climb_on stored f y ne ∙ ap (climb_up f stored) at_y ∙ Rattle.laws.proofs.Unions.climb_root stored f x (at_other x xy ∙ x_root)
              ∙ sym (relabel_hit x y y refl) ∙ ap (relabel x y) (sym (climb_root (suc f) y y_root)))
          go (inr c) (inl d) ih =
              let ne : a ≢ y = eqb-false a y c in
              let q : get_or p a 0 ≡ a = eqb-true (get_or p a 0) a d in
              Rattle.laws.proofs.Unions.climb_root stored (suc f) a (at_other a ne ∙ q) ∙ sym (relabel_miss x y a ne) ∙ ap (relabel x y) (sym (climb_root (suc f) a q))
          go (inr c) (inr d) ih =
              let ne : a ≢ y = eqb-false a y c in
              let on : get_or p a 0 ≢ a = eqb-false (get_or p a 0) a d in
              let on' : get_or stored a 0 ≢ a = λ q. on (sym (at_other a ne) ∙ q) in
              Rattle.laws.proofs.Unions.climb_on stored f a on' ∙ ap (climb_up f stored) (at_other a ne) ∙ ih (omega (arith, down a, on)) ∙ ap (relabel x y) (sym (climb_on f a on))

      pub store-root : (a : ℕ) → root_of (set p y x) a ≡ relabel x y (root_of p a)
      unfolding root_of stored
      store-root a = store_climb a a (le_refl a)

-- ---- the forest keeps the labels

abbrev pub Keeps : ℕ → List ℕ → List ℕ → Type 0
Keeps m p labels = (a : ℕ) → a < m → root_of p a ≡ label labels a

-- the store that joins the components of i and j keeps the merged labels
pub keeps_merge : (m : ℕ) (p labels : List ℕ) (down : Down p) → Keeps m p labels → (i j : ℕ) → low i j labels < high i j labels → high i j labels < length p
    → get_or p (low i j labels) 0 ≡ low i j labels → get_or p (high i j labels) 0 ≡ high i j labels
    → Keeps m (set p (high i j labels) (low i j labels)) (merge i j labels)
keeps_merge m p labels down keeps i j less y-in x_root y_root a l =
    store-root p down (low i j labels) (high i j labels) less y-in x_root y_root a ∙ ap (relabel (low i j labels) (high i j labels)) (keeps a l) ∙ sym (label-merge i j labels a)

-- A union-find forest with parent[i] ≤ i: a point may be hung under its parent's parent, and every root stays. Points with one parent have one root.
use mathlib.Core.Path.{◌≡◌, sym, ap, ◌∙◌}
use mathlib.Core.Logic.{◌⊎◌, inl, inr, ◌≢◌}
use mathlib.Core.Bool.{true, false}
use mathlib.Core.List.{List}
use Prim.Native.Nat.{ℕ, zero, suc, ◌≤◌, ◌<◌}
use native.Mathlib.Nat.{le_refl}
use native.Mathlib.Omega.{arith}
use lib.Dec.{eqb}
use lib.ListN.{length, get_or, set}
use lib.Seq.{get_or-set_same, get_or-set_other}
use borrow.Author.Tests.{eqb-true, eqb-false}
use Rattle.laws.proofs.UnionFind.{Down, root_of}
use Rattle.laws.proofs.Lists.{test}
use Rattle.laws.proofs.Unions.{root_stop, root_step}

module _ (p : List ℕ) (down : Down p) where
  -- a point has the root of its parent
  pub root-parent : (a : ℕ) → root_of p a ≡ root_of p (get_or p a 0)
  root-parent a = go (test (eqb (get_or p a 0) a))
    where
      go : (eqb (get_or p a 0) a ≡ true) ⊎ (eqb (get_or p a 0) a ≡ false) → root_of p a ≡ root_of p (get_or p a 0)
      go (inl c) = ap (root_of p) (sym (eqb-true (get_or p a 0) a c))
      go (inr c) = root_step p down a (eqb-false (get_or p a 0) a c)

  pub same_parent : (a b : ℕ) → get_or p a 0 ≡ get_or p b 0 → root_of p a ≡ root_of p b
  same_parent a b q = root-parent a ∙ ap (root_of p) q ∙ sym (root-parent b)

  -- a root is its own parent, and no point is below its root
  root_is_lem : (f a : ℕ) → a ≤ f → (get_or p (root_of p a) 0 ≡ root_of p a) × (root_of p a ≤ a)
  root_is_lem zero a l =
      let q : get_or p a 0 ≡ a = omega (arith, down a) in
      let r : root_of p a ≡ a = root_stop p down a q in
      (ap (λ (x : ℕ). get_or p x 0) r ∙ q ∙ sym r, omega (arith, r))
  root_is_lem (suc f) a l = go (test (eqb (get_or p a 0) a)) (λ u. root_is_lem f (get_or p a 0) u)
    where
      go : (eqb (get_or p a 0) a ≡ true) ⊎ (eqb (get_or p a 0) a ≡ false)
          → (get_or p a 0 ≤ f → (get_or p (root_of p (get_or p a 0)) 0 ≡ root_of p (get_or p a 0)) × (root_of p (get_or p a 0) ≤ get_or p a 0))
          → (get_or p (root_of p a) 0 ≡ root_of p a) × (root_of p a ≤ a)
      go (inl c) ih =
          let q : get_or p a 0 ≡ a = eqb-true (get_or p a 0) a c in
          let r : root_of p a ≡ a = root_stop p down a q in
          (ap (λ (x : ℕ). get_or p x 0) r ∙ q ∙ sym r, omega (arith, r))
      go (inr c) ih =
          let ne : get_or p a 0 ≢ a = eqb-false (get_or p a 0) a c in
          let h = ih (omega (arith, down a, ne)) in
          let r : root_of p a ≡ root_of p (get_or p a 0) = root_step p down a ne in
          (ap (λ (x : ℕ). get_or p x 0) r ∙ h.0 ∙ sym r, omega (arith, r, h.1, down a))

  pub root_fixed : (a : ℕ) → get_or p (root_of p a) 0 ≡ root_of p a
  root_fixed a = (root_is_lem a a (le_refl a)).0

  pub root_below : (a : ℕ) → root_of p a ≤ a
  root_below a = (root_is_lem a a (le_refl a)).1

  -- ---- halving a path

  module _ (x : ℕ) (x_in : x < length p) where
    far : ℕ
    far = get_or p (get_or p x 0) 0

    halved : List ℕ
    halved = set p x far

    at_x : get_or halved x 0 ≡ far
    unfolding halved
    at_x = get_or-set_same p x far 0 x_in

    at_other : (a : ℕ) → a ≢ x → get_or halved a 0 ≡ get_or p a 0
    unfolding halved
    at_other a ne = get_or-set_other p x a far 0 ne

    far_low : far ≤ get_or p x 0
    unfolding far
    far_low = down (get_or p x 0)

    halved_down : Down halved
    halved_down a = go (test (eqb a x))
      where
        go : (eqb a x ≡ true) ⊎ (eqb a x ≡ false) → get_or halved a 0 ≤ a
        go (inl c) = let q : a ≡ x = eqb-true a x c in rw q (omega (arith, at_x, far_low, down x))
        go (inr c) = omega (arith, at_other a (eqb-false a x c), down a)

    far_root : root_of p x ≡ root_of p far
    unfolding far
    far_root = root-parent x ∙ root-parent (get_or p x 0)

    halved_step : (a : ℕ) → ((b : ℕ) → b < a → root_of halved b ≡ root_of p b) → root_of halved a ≡ root_of p a
    halved_step a ih = go (test (eqb a x)) (test (eqb (get_or halved a 0) a))
      where
        go : (eqb a x ≡ true) ⊎ (eqb a x ≡ false) → (eqb (get_or halved a 0) a ≡ true) ⊎ (eqb (get_or halved a 0) a ≡ false) → root_of halved a ≡ root_of p a
        go (inl c) (inl d) =
            let q : a ≡ x = eqb-true a x c in
            let s : get_or halved a 0 ≡ a = eqb-true (get_or halved a 0) a d in
            let t : get_or halved a 0 ≡ far = ap (λ (z : ℕ). get_or halved z 0) q ∙ at_x in
            let same : get_or p a 0 ≡ get_or p x 0 = ap (λ (z : ℕ). get_or p z 0) q in
            root_stop halved halved_down a s ∙ sym (root_stop p down a (omega (arith, s, t, same, q, far_low, down x)))
        go (inl c) (inr d) =
            let q : a ≡ x = eqb-true a x c in
            let ne : get_or halved a 0 ≢ a = eqb-false (get_or halved a 0) a d in
            let t : get_or halved a 0 ≡ far = ap (λ (z : ℕ). get_or halved z 0) q ∙ at_x in
            root_step halved halved_down a ne ∙ ap (root_of halved) t ∙ ih far (omega (arith, ne, t, halved_down a)) ∙ sym far_root ∙ ap (root_of p) (sym q)
        go (inr c) (inl d) =
            let s : get_or halved a 0 ≡ a = eqb-true (get_or halved a 0) a d in
            let o = at_other a (eqb-false a x c) in
            root_stop halved halved_down a s ∙ sym (root_stop p down a (sym o ∙ s))
        go (inr c) (inr d) =
            let ne : get_or halved a 0 ≢ a = eqb-false (get_or halved a 0) a d in
            let o = at_other a (eqb-false a x c) in
            root_step halved halved_down a ne ∙ ih (get_or halved a 0) (omega (arith, ne, halved_down a)) ∙ ap (root_of p) o
            ∙ sym (root-parent a)

    halved_roots : (f a : ℕ) → a ≤ f → root_of halved a ≡ root_of p a
    halved_roots zero a l = halved_step a (λ b u. absurd (omega arith))
    halved_roots (suc f) a l = halved_step a (λ b u. halved_roots f b (omega arith))

  pub halve_down : (x : ℕ) → x < length p → Down (set p x (get_or p (get_or p x 0) 0))
  unfolding halved far
  halve_down x l = halved_down x l

  pub halve_roots : (x : ℕ) → x < length p → (a : ℕ) → root_of (set p x (get_or p (get_or p x 0) 0)) a ≡ root_of p a
  unfolding halved far
  halve_roots x l a = halved_roots x l a a (le_refl a)

-- What a program that peels needs: links may go in any order, and what is left when none can go is the k-truss.
use mathlib.Core.Path.{◌≡◌, sym, ◌∙◌}
use mathlib.Core.Logic.{◌⊎◌, inl, inr}
use mathlib.Core.Bool.{true, false}
use Prim.Native.Nat.{ℕ, suc, ◌+◌, ◌≤◌, ◌<◌}
use native.Mathlib.Nat.{le_antisymm}
use native.Mathlib.Omega.{arith}
use Rattle.truss.specs.Graph.{Link, LinkSet, Graph, member, support}
use Rattle.truss.specs.Strength.{IsStrength, truss, strength}
use Rattle.laws.proofs.Lists.{test, true_not_false, support_mono}
use Rattle.laws.proofs.Peeling.{truss_is, truss-largest, in_truss, truss_in, strength_is}
use Rattle.laws.proofs.Chains.{truss_down}

module _ (G : Graph) (k : ℕ) where
  -- S holds the k-truss
  abbrev pub Covers : LinkSet → Type 0
  Covers S = (e : Link) → member (truss G k) e ≡ true → S e ≡ true

  -- a link in too few triangles of such a set is outside the k-truss, so it can go
  pub outside : (S : LinkSet) → Covers S → (e : Link) → 2 + support G.n S e < k → member (truss G k) e ≡ false
  outside S covers e few = go (test (member (truss G k) e))
    where
      go : (member (truss G k) e ≡ true) ⊎ (member (truss G k) e ≡ false) → member (truss G k) e ≡ false
      go (inl m) = absurd (omega (arith, few, (truss_is G k).held e m, support_mono G.n (member (truss G k)) S e covers))
      go (inr m) = m

  -- where none can go, the set is the k-truss
  pub done : (S : LinkSet) → Covers S → ((e : Link) → S e ≡ true → member G.links e ≡ true) → ((e : Link) → S e ≡ true → k ≤ 2 + support G.n S e)
      → (e : Link) → S e ≡ member (truss G k) e
  done S covers links held e = go (test (S e)) (test (member (truss G k) e))
    where
      go : (S e ≡ true) ⊎ (S e ≡ false) → (member (truss G k) e ≡ true) ⊎ (member (truss G k) e ≡ false) → S e ≡ member (truss G k) e
      go (inl s) m = s ∙ sym (truss-largest G k S (record { within = links; held = held }) e s)
      go (inr s) (inl m) = absurd (true_not_false (covers e m) s)
      go (inr s) (inr m) = s ∙ sym m

-- the next truss lies in the one before, so peeling goes on from it
pub truss-nested : (G : Graph) (k k' : ℕ) → k ≤ k' → (e : Link) → member (truss G k') e ≡ true → member (truss G k) e ≡ true
truss-nested G k k' l e m = truss-largest G k (member (truss G k')) (truss_down G k k' (member (truss G k')) l (truss_is G k')) e m

-- a link that goes at suc k and not before has strength k
pub strength_between : (G : Graph) (k : ℕ) (e : Link) → member (truss G k) e ≡ true → member (truss G (suc k)) e ≡ false → strength G e ≡ k
strength_between G k e m out = le_antisymm below (s.greatest k (truss_in G k e m))
  where
    s : IsStrength G e (strength G e)
    s = strength_is G e ((truss_is G k).within e m)

    below : strength G e ≤ k
    below = go (test (lib.Dec.leb (strength G e) k))
      where
        go : (lib.Dec.leb (strength G e) k ≡ true) ⊎ (lib.Dec.leb (strength G e) k ≡ false) → strength G e ≤ k
        go (inl c) = borrow.Author.Tests.leb-true (strength G e) k c
        go (inr c) =
            let big : suc k ≤ strength G e = borrow.Author.Tests.leb-false (strength G e) k c in
            absurd (true_not_false (truss-nested G (suc k) (strength G e) big e (in_truss G (strength G e) e s.reached)) out)

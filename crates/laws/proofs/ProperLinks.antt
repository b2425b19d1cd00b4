-- Facts of a proper graph, and the links that are not done. Assumes nothing.
use mathlib.Core.Path.{◌≡◌, refl, sym, ap, ◌∙◌}
use mathlib.Core.Logic.{◌≢◌}
use mathlib.Core.Bool.{Bool, true, false, ◌&&◌}
use Prim.Native.Nat.{ℕ, ◌<◌}
use native.Mathlib.Omega.{arith}
use lib.Dec.{eqb}
use lib.ListN.{length}
use borrow.Author.Tests.{eqb-true, eq-eqb, ne_eqb}
use Rattle.truss.specs.Graph.{Link, LinkSet, Graph, link, member, link_number, link_at}
use Rattle.laws.proofs.Proper.{Proper}
use Rattle.laws.proofs.Lists.{and_left, and_right, both}
use Rattle.laws.proofs.Members.{get_d_in, in_member, link_of_number}

-- the links that a column of flags leaves
unfoldable pub live : Graph → (ℕ → ℕ) → LinkSet
live G d f = member G.links f && eqb (d (link_number G f)) 0

module _ (G : Graph) (proper : Proper G) where
  pub at_member : (y : ℕ) → y < length G.links → member G.links (link_at G y) ≡ true
  at_member y l = in_member G.links (get_d_in (link 0 0) G.links y l)

  pub number_same : (f g : Link) → member G.links f ≡ true → member G.links g ≡ true → link_number G f ≡ link_number G g → f ≡ g
  number_same f g mf mg e = sym (link_of_number G f mf) ∙ ap (link_at G) e ∙ link_of_number G g mg

  pub not_self : (a c : ℕ) → member G.links (link a c) ≡ true → c ≢ a
  not_self a c h e = omega (arith, proper.ordered (link a c) h)

  pub end_below : (a c : ℕ) → member G.links (link a c) ≡ true → (a < G.n) × (c < G.n)
  end_below a c h = (omega (arith, proper.below (link a c) h), omega (arith, proper.below (link a c) h))

  -- ---- live links

  module _ (d : ℕ → ℕ) where
    pub live-member : (f : Link) → live G d f ≡ true → member G.links f ≡ true
    unfolding live
    live-member f h = and_left (member G.links f) (eqb (d (link_number G f)) 0) h

    pub live_flag : (f : Link) → live G d f ≡ true → d (link_number G f) ≡ 0
    unfolding live
    live_flag f h = eqb-true (d (link_number G f)) 0 (and_right (member G.links f) (eqb (d (link_number G f)) 0) h)

    pub is_live : (f : Link) → member G.links f ≡ true → d (link_number G f) ≡ 0 → live G d f ≡ true
    unfolding live
    is_live f h e = both h (eq-eqb (d (link_number G f)) 0 e)

    pub not_live : (f : Link) → d (link_number G f) ≢ 0 → live G d f ≡ false
    unfolding live
    not_live f e = rw (ne_eqb (d (link_number G f)) 0 e) (off (member G.links f))
      where
        off : (b : Bool) → (b && false) ≡ false
        off true = refl
        off false = refl

    -- by number
    pub live_at : (y : ℕ) → y < length G.links → d y ≡ 0 → live G d (link_at G y) ≡ true
    live_at y l e = is_live (link_at G y) (at_member y l) (ap d (proper.numbered y l) ∙ e)

    pub flag_at : (y : ℕ) → y < length G.links → live G d (link_at G y) ≡ true → d y ≡ 0
    flag_at y l h = ap d (sym (proper.numbered y l)) ∙ live_flag (link_at G y) h

    pub dead_at : (y : ℕ) → y < length G.links → d y ≢ 0 → live G d (link_at G y) ≡ false
    dead_at y l e = not_live (link_at G y) (λ z. e (ap d (sym (proper.numbered y l)) ∙ z))

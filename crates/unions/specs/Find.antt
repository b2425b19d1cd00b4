-- The root of a link in column 6: `halve`, `find`. Assumes nothing.
use Rattle.std.specs.Prelude.{◌≡◌, refl, ◌≢◌, List, ℕ, ◌*◌, ◌≤◌, ◌<◌, length, get_or}
use Rattle.std.proofs.Common.{sym, ap, ◌∙◌, arith}
use Rattle.laws.proofs.UnionFind.{Down, root_of}
use Rattle.laws.proofs.Unions.{root_stop}
use Rattle.laws.proofs.Halving.{root-parent}
use Rattle.columns.specs.Columns.{cell, store, COLUMNS}
use Rattle.unions.specs.Space.{Steady, steady_none, steady_trans, steady_halve, roots, root, parents, parent_at}

pub record FindPre (m x : ℕ) (w : List ℕ) : Type 0 where
  pub size : length w ≡ COLUMNS * m
  pub few : m ≤ 65535
  pub below : x < m
  pub down : Down (parents w m)

pub record Found (m x r : ℕ) (w w' : List ℕ) : Type 0 where
  pub steady : Steady roots m w w'
  pub is : r ≡ root w m x
  pub below : r < m
  -- it is its own parent
  pub top : cell w' m 6 r ≡ r

pub record HalvePre (m x p : ℕ) (w : List ℕ) : Type 0 where
  pub find : FindPre m x w
  pub is : p ≡ cell w m 6 x
  pub moved : p ≢ x

pub record Halved (m x q : ℕ) (w w' : List ℕ) : Type 0 where
  pub steady : Steady roots m w w'
  pub same_root : root w m q ≡ root w m x
  pub less : q < x

module _ {m x : ℕ} {w : List ℕ} (P : FindPre m x w) where
  pub parent_below : cell w m 6 x ≤ x
  parent_below = omega (arith, parent_at w m x P.below, P.down x)

pub halve_near : {m x p : ℕ} {w : List ℕ} → HalvePre m x p w → p < m
halve_near {m} {x} {p} {w} H = omega (arith, H.is, parent_below H.find, H.find.below)

pub halve_below : {m x p q : ℕ} {w : List ℕ} → HalvePre m x p w → q ≡ cell w m 6 p → q < x
halve_below {m} {x} {p} {q} {w} H e =
    omega (arith, e, H.is, H.moved, parent_below H.find, parent_at w m p (halve_near H), H.find.down p)

pub halve_done : {m x p q : ℕ} {w w' : List ℕ} → HalvePre m x p w → q ≡ cell w m 6 p → w' ≡ store w m 6 x q → Halved m x q w w'
halve_done {m} {x} {p} {q} {w} {w'} H e put = rw put (record {
  steady = steady_halve w m x p q H.find.below H.find.size H.find.down H.is e;
  same_root = sym (root-parent (parents w m) H.find.down x ∙ ap (root_of (parents w m)) up ∙ root-parent (parents w m) H.find.down p ∙ ap (root_of (parents w m)) far);
  less = halve_below H e;
})
  where
    up : get_or (parents w m) x 0 ≡ p
    up = parent_at w m x H.find.below ∙ sym H.is

    far : get_or (parents w m) p 0 ≡ q
    far = parent_at w m p (halve_near H) ∙ sym e

-- ---- the loop

pub record Finding (m from x p : ℕ) (w₀ w : List ℕ) : Type 0 where
  pub steady : Steady roots m w₀ w
  pub below : x < m
  pub same_root : root w₀ m x ≡ root w₀ m from
  pub is : p ≡ cell w m 6 x

pub finding_first : {m from p : ℕ} {w : List ℕ} → FindPre m from w → p ≡ cell w m 6 from → Finding m from from p w w
finding_first {m} {from} {p} {w} P e = record { steady = steady_none roots m w; below = P.below; same_root = refl; is = e }

pub finding_find : {m from x p : ℕ} {w₀ w : List ℕ} → FindPre m from w₀ → Finding m from x p w₀ w → FindPre m x w
finding_find P F = record { size = F.steady.frame.length_is ∙ P.size; few = P.few; below = F.below; down = F.steady.down P.down }

pub finding_halve : {m from x p : ℕ} {w₀ w : List ℕ} → FindPre m from w₀ → Finding m from x p w₀ w → p ≢ x → HalvePre m x p w
finding_halve P F n = record { find = finding_find P F; is = F.is; moved = n }

pub finding_next : {m from x p q p' : ℕ} {w₀ w w' : List ℕ} → FindPre m from w₀ → Finding m from x p w₀ w → Halved m x q w w' → p' ≡ cell w' m 6 q → Finding m from q p' w₀ w'
finding_next {m} {from} {x} {p} {q} {p'} {w₀} {w} {w'} P F H e = record {
  steady = steady_trans F.steady H.steady;
  below = omega (arith, H.less, F.below);
  same_root = sym (F.steady.same_root P.down q) ∙ H.same_root ∙ F.steady.same_root P.down x ∙ F.same_root;
  is = e;
}

pub finding_done : {m from x p : ℕ} {w₀ w : List ℕ} → FindPre m from w₀ → Finding m from x p w₀ w → p ≡ x → Found m from x w₀ w
finding_done {m} {from} {x} {p} {w₀} {w} P F e = record {
  steady = F.steady;
  is = sym (root_stop (parents w m) (F.steady.down P.down) x top') ∙ F.steady.same_root P.down x ∙ F.same_root;
  below = F.below;
  top = sym F.is ∙ e;
}
  where
    top' : get_or (parents w m) x 0 ≡ x
    top' = parent_at w m x F.below ∙ sym F.is ∙ e

-- What a function changes of the work space: some columns only, and of the union-find forest in column 6 no root. Assumes nothing.
use Rattle.std.specs.Prelude.{◌≡◌, refl, ◌⊎◌, ◌≢◌, Bool, true, false, ◌||◌, List, [], ◌∷◌, map, ℕ, zero, suc, ◌*◌, ◌≤◌, ◌<◌, eqb, length, get_or, set}
use Rattle.std.proofs.Common.{sym, ap, ◌∙◌, subst, inl, inr, le_refl, arith, length-set, ext_get_or, get_or-set_same, get_or-set_other}
use Rattle.std.proofs.lemmas.List.{length-map}
use Rattle.truss.specs.Lists.{range}
use Rattle.laws.proofs.UnionFind.{Down, root_of}
use Rattle.laws.proofs.Lists.{true_not_false, or_left_false, or_right_false}
use Rattle.laws.proofs.Members.{range_length}
use Rattle.laws.proofs.Sets.{map_range_at}
use Rattle.laws.proofs.Halving.{halve_down, halve_roots}
use Rattle.columns.specs.Columns.{cell, store, COLUMNS}
use Rattle.laws.proofs.Numbers.{same_or_not}
use Rattle.columns.specs.Laws.{Same, stored, kept_entry, kept_column, length-store}

-- ---- the columns that a function may change

abbrev pub Columns : Type 0
Columns = ℕ → Bool

-- find
abbrev pub roots : Columns
roots c = eqb c 6

-- a join taken
abbrev pub joining : Columns
joining c = eqb c 6 || (eqb c 9 || eqb c 10)

-- a next weight
abbrev pub nexting : Columns
nexting c = eqb c 7

-- a level of the forest
abbrev pub growing : Columns
growing c = eqb c 7 || joining c

-- the start
abbrev pub preparing : Columns
preparing c = eqb c 6 || (eqb c 7 || eqb c 15)

-- a level of groups
abbrev pub grouping : Columns
grouping c = eqb c 6 || (eqb c 8 || (eqb c 11 || (eqb c 12 || (eqb c 13 || (eqb c 14 || eqb c 15)))))

pub record Frame (t : Columns) (m : ℕ) (w w' : List ℕ) : Type 0 where
  pub length_is : length w' ≡ length w
  pub same : (c : ℕ) → t c ≡ false → Same m (cell w m c) (cell w' m c)

pub frame_none : (t : Columns) (m : ℕ) (w : List ℕ) → Frame t m w w
frame_none t m w = record { length_is = refl; same = λ c f y l. refl }

pub frame_trans : {t : Columns} {m : ℕ} {w w' w'' : List ℕ} → Frame t m w w' → Frame t m w' w'' → Frame t m w w''
frame_trans p q = record { length_is = q.length_is ∙ p.length_is; same = λ c f y l. q.same c f y l ∙ p.same c f y l }

pub frame_wide : {s t : Columns} {m : ℕ} {w w' : List ℕ} → ((c : ℕ) → t c ≡ false → s c ≡ false) → Frame s m w w' → Frame t m w w'
frame_wide h p = record { length_is = p.length_is; same = λ c f y l. p.same c (h c f) y l }

pub frame_store : (t : Columns) (w : List ℕ) (m c i x : ℕ) → t c ≡ true → i < m → Frame t m w (store w m c i x)
frame_store t w m c i x h l = record {
  length_is = length-store w m c i x;
  same = λ d f y k. kept_column w m c d i y x (λ q. true_not_false (ap t (sym q) ∙ h) f) l k;
}

pub roots-joining : (c : ℕ) → joining c ≡ false → roots c ≡ false
roots-joining c h = or_left_false (eqb c 6) (eqb c 9 || eqb c 10) h

pub joining-growing : (c : ℕ) → growing c ≡ false → joining c ≡ false
joining-growing c h = or_right_false (eqb c 7) (joining c) h

pub nexting-growing : (c : ℕ) → growing c ≡ false → nexting c ≡ false
nexting-growing c h = or_left_false (eqb c 7) (joining c) h

-- ---- columns 9 and 10 beyond the joins: there are j of them at first and r at last, and no entry from r on is touched

pub record JoinsEnd (m j r : ℕ) (w w' : List ℕ) : Type 0 where
  pub later : j ≤ r
  pub ends : (y : ℕ) → r ≤ y → y < m → cell w' m 9 y ≡ cell w m 9 y
  pub weights : (y : ℕ) → r ≤ y → y < m → cell w' m 10 y ≡ cell w m 10 y

pub joins_end_none : {m j : ℕ} {w : List ℕ} → JoinsEnd m j j w w
joins_end_none {m} {j} = record { later = le_refl j; ends = λ y l k. refl; weights = λ y l k. refl }

pub joins_end_frame : (j : ℕ) {t : Columns} {m : ℕ} {w w' : List ℕ} → t 9 ≡ false → t 10 ≡ false → Frame t m w w' → JoinsEnd m j j w w'
joins_end_frame j a b f = record { later = le_refl j; ends = λ y l k. f.same 9 a y k; weights = λ y l k. f.same 10 b y k }

pub joins_end_trans : {m j r s : ℕ} {w w' w'' : List ℕ} → JoinsEnd m j r w w' → JoinsEnd m r s w' w'' → JoinsEnd m j s w w''
joins_end_trans p q = record {
  later = omega (arith, p.later, q.later);
  ends = λ y l k. q.ends y l k ∙ p.ends y (omega (arith, q.later)) k;
  weights = λ y l k. q.weights y l k ∙ p.weights y (omega (arith, q.later)) k;
}

-- ---- column 6 as a list of parents

unfoldable pub parents : List ℕ → ℕ → List ℕ
parents w m = map (cell w m 6) (range 0 m)

pub parents-length : (w : List ℕ) (m : ℕ) → length (parents w m) ≡ m
unfolding parents
parents-length w m = length-map (range 0 m) (cell w m 6) ∙ range_length 0 m

pub parent_at : (w : List ℕ) (m a : ℕ) → a < m → get_or (parents w m) a 0 ≡ cell w m 6 a
unfolding parents
parent_at w m a l = map_range_at (cell w m 6) 0 0 m a l ∙ ap (cell w m 6) (omega arith)

pub parent_past : (w : List ℕ) (m a : ℕ) → m ≤ a → get_or (parents w m) a 0 ≡ 0
parent_past w m a l = past (parents w m) a (omega (arith, l, parents-length w m))
  where
    past : (xs : List ℕ) (i : ℕ) → length xs ≤ i → get_or xs i 0 ≡ 0
    past [] i h = refl
    past (x ∷ xs) zero h = absurd (omega arith)
    past (x ∷ xs) (suc i) h = past xs i (omega arith)

pub parents_same : (w w' : List ℕ) (m : ℕ) → Same m (cell w m 6) (cell w' m 6) → parents w' m ≡ parents w m
parents_same w w' m h =
    ext_get_or 0 (parents w' m) (parents w m) (parents-length w' m ∙ sym (parents-length w m)) (λ i l.
    let k : i < m = omega (arith, l, parents-length w' m) in parent_at w' m i k ∙ h i k ∙ sym (parent_at w m i k))

pub parents-store : (w : List ℕ) (m i x : ℕ) → i < m → length w ≡ COLUMNS * m → parents (store w m 6 i x) m ≡ set (parents w m) i x
parents-store w m i x l size =
    ext_get_or 0 (parents w₁ m) (set (parents w m) i x) (parents-length w₁ m ∙ sym (parents-length w m) ∙ sym (length-set (parents w m) i x)) at
  where
    w₁ : List ℕ
    w₁ = store w m 6 i x

    at : (j : ℕ) → j < length (parents w₁ m) → get_or (parents w₁ m) j 0 ≡ get_or (set (parents w m) i x) j 0
    at j h = parent_at w₁ m j k ∙ go (same_or_not j i)
      where
        k : j < m
        k = omega (arith, h, parents-length w₁ m)

        go : (j ≡ i) ⊎ (j ≢ i) → cell w₁ m 6 j ≡ get_or (set (parents w m) i x) j 0
        go (inl q) = rw q (stored w m 6 i x (omega arith) l size ∙ sym (get_or-set_same (parents w m) i x 0 (omega (arith, l, parents-length w m))))
        go (inr q) = kept_entry w m 6 i j x q ∙ sym (parent_at w m j k) ∙ sym (get_or-set_other (parents w m) i j x 0 q)

abbrev pub root : List ℕ → ℕ → ℕ → ℕ
root w m a = root_of (parents w m) a

-- ---- a change that leaves the roots

pub record Steady (t : Columns) (m : ℕ) (w w' : List ℕ) : Type 0 where
  pub frame : Frame t m w w'
  pub down : Down (parents w m) → Down (parents w' m)
  pub same_root : Down (parents w m) → (a : ℕ) → root w' m a ≡ root w m a

pub steady_none : (t : Columns) (m : ℕ) (w : List ℕ) → Steady t m w w
steady_none t m w = record { frame = frame_none t m w; down = λ d. d; same_root = λ d a. refl }

pub steady_trans : {t : Columns} {m : ℕ} {w w' w'' : List ℕ} → Steady t m w w' → Steady t m w' w'' → Steady t m w w''
steady_trans p q = record {
  frame = frame_trans p.frame q.frame;
  down = λ d. q.down (p.down d);
  same_root = λ d a. q.same_root (p.down d) a ∙ p.same_root d a;
}

pub steady_wide : {s t : Columns} {m : ℕ} {w w' : List ℕ} → ((c : ℕ) → t c ≡ false → s c ≡ false) → Steady s m w w' → Steady t m w w'
steady_wide h p = record { frame = frame_wide h p.frame; down = p.down; same_root = p.same_root }

pub steady_frame : {t : Columns} {m : ℕ} {w w' : List ℕ} → Frame t m w w' → Same m (cell w m 6) (cell w' m 6) → Steady t m w w'
steady_frame {t} {m} {w} {w'} f s = record {
  frame = f;
  down = λ d. subst Down (sym (parents_same w w' m s)) d;
  same_root = λ d a. ap (λ (p : List ℕ). root_of p a) (parents_same w w' m s);
}

-- a store in another column than 6
pub steady_store : (t : Columns) (w : List ℕ) (m c i x : ℕ) → t c ≡ true → c ≢ 6 → i < m → Steady t m w (store w m c i x)
steady_store t w m c i x h n l = steady_frame (frame_store t w m c i x h l) (λ y k. kept_column w m c 6 i y x n l k)

-- a point is hung under its parent's parent
pub steady_halve : (w : List ℕ) (m x p q : ℕ) → x < m → length w ≡ COLUMNS * m → Down (parents w m) → p ≡ cell w m 6 x → q ≡ cell w m 6 p → Steady roots m w (store w m 6 x q)
steady_halve w m x p q l size d ep eq = record {
  frame = frame_store roots w m 6 x q refl l;
  down = λ d'. subst Down (sym same) (halve_down (parents w m) d x in_p);
  same_root = λ d' a. ap (λ (z : List ℕ). root_of z a) same ∙ halve_roots (parents w m) d x in_p a;
}
  where
    in_p : x < length (parents w m)
    in_p = omega (arith, l, parents-length w m)

    up : get_or (parents w m) x 0 ≡ p
    up = parent_at w m x l ∙ sym ep

    p<m : p < m
    p<m = omega (arith, l, up, d x)

    far : get_or (parents w m) (get_or (parents w m) x 0) 0 ≡ q
    far = ap (λ (z : ℕ). get_or (parents w m) z 0) up ∙ parent_at w m p p<m ∙ sym eq

    same : parents (store w m 6 x q) m ≡ set (parents w m) x (get_or (parents w m) (get_or (parents w m) x 0) 0)
    same = parents-store w m x q l size ∙ ap (set (parents w m) x) (sym far)

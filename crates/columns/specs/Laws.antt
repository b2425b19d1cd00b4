-- The laws of a store: it changes its own cell and nothing else. In order: bounds of a cell's place, the store's own column, the other
-- columns, columns 1 and 2 as one; then the same as changes of functions (`Upd`, `Same`), which is how proofs above cite them.
use Rattle.std.specs.Prelude.{◌≡◌, ◌⊎◌, ◌≢◌, List, ℕ, suc, ◌+◌, ◌*◌, ◌<◌, ◌≤◌, length}
use Rattle.std.proofs.Common.{◌∙◌, inl, inr, suc-mul, arith}
use Rattle.std.proofs.Math.Nat.{mul-le-mul_right}
use Rattle.std.proofs.Math.ListN.{length-set}
use Rattle.std.proofs.Math.Seq.{get_or-set_same, get_or-set_other}
use Rattle.laws.proofs.Numbers.{less_or_not}
use Rattle.columns.specs.Columns.{cell, store, entry, store_entry, COLUMNS}

pub column : (c m : ℕ) → c < COLUMNS → c * m ≤ 15 * m
column c m p = mul-le-mul_right m (omega (arith, p))

pub after : (m c d i j : ℕ) → c < d → i < m → c * m + i < d * m + j
after m c d i j p q =
    let wide : suc c * m ≤ d * m = mul-le-mul_right m p in
    omega (arith, q, wide, suc-mul c m)

pub apart : (m c d i j : ℕ) → c ≢ d → i < m → j < m → d * m + j ≢ c * m + i
apart m c d i j n p q e = go (less_or_not c d)
  where
    go : (c < d) ⊎ (d ≤ c) → ⊥
    go (inl l) = omega (arith, e, after m c d i j l p)
    go (inr l) = let s : d < c = omega (arith, l, n) in omega (arith, e, after m d c j i s q)

module _ (w : List ℕ) (m : ℕ) where
  pub length-store : (c i x : ℕ) → length (store w m c i x) ≡ length w
  unfolding store
  length-store c i x = length-set w (c * m + i) x

  pub stored : (c i x : ℕ) → c < COLUMNS → i < m → length w ≡ COLUMNS * m → cell (store w m c i x) m c i ≡ x
  unfolding cell store
  stored c i x p q h = get_or-set_same w (c * m + i) x 0 (omega (arith, q, h, column c m p))

  pub kept_entry : (c i j x : ℕ) → j ≢ i → cell (store w m c i x) m c j ≡ cell w m c j
  unfolding cell store
  kept_entry c i j x n = get_or-set_other w (c * m + i) (c * m + j) x 0 (λ e. n (omega (arith, e)))

  pub kept_column : (c d i j x : ℕ) → c ≢ d → i < m → j < m → cell (store w m c i x) m d j ≡ cell w m d j
  unfolding cell store
  kept_column c d i j x n p q = get_or-set_other w (c * m + i) (d * m + j) x 0 (apart m c d i j n p q)

  -- columns 1 and 2 as one
  pub entry_kept : (c i j x : ℕ) → 3 ≤ c → j < 2 * m → entry (store w m c i x) m j ≡ entry w m j
  unfolding entry store
  entry_kept c i j x l q =
      let wide : 3 * m ≤ c * m = mul-le-mul_right m l in
      get_or-set_other w (c * m + i) (m + j) x 0 (λ e. omega (arith, e, q, wide))

  pub length_store_entry : (i x : ℕ) → length (store_entry w m i x) ≡ length w
  unfolding store_entry
  length_store_entry i x = length-set w (m + i) x

  pub entry-stored : (i x : ℕ) → i < 2 * m → length w ≡ COLUMNS * m → entry (store_entry w m i x) m i ≡ x
  unfolding entry store_entry
  entry-stored i x q h = get_or-set_same w (m + i) x 0 (omega (arith, q, h))

  pub entry_other : (i j x : ℕ) → j ≢ i → entry (store_entry w m i x) m j ≡ entry w m j
  unfolding entry store_entry
  entry_other i j x n = get_or-set_other w (m + i) (m + j) x 0 (λ e. n (omega (arith, e)))

  -- column 0 and the columns from 3 on are kept by a store there
  pub cell-kept : (d i j x : ℕ) → i < 2 * m → j < m → (d ≡ 0) ⊎ (3 ≤ d) → cell (store_entry w m i x) m d j ≡ cell w m d j
  unfolding cell store_entry
  cell-kept d i j x p q h = get_or-set_other w (m + i) (d * m + j) x 0 (λ e. go e h)
    where
      go : d * m + j ≡ m + i → (d ≡ 0) ⊎ (3 ≤ d) → ⊥
      go e (inl z) = let f : d * m ≡ 0 * m = rw z in omega (arith, e, q, f)
      go e (inr l) =
          let wide : 3 * m ≤ d * m = mul-le-mul_right m l in
          omega (arith, e, p, wide)

-- ---- the same as changes of functions on the numbers below m

-- f' is f with the value v at x
pub record Upd (m : ℕ) (f f' : ℕ → ℕ) (x v : ℕ) : Type 0 where
  pub here : f' x ≡ v
  pub else : (y : ℕ) → y < m → y ≢ x → f' y ≡ f y

abbrev pub Same : ℕ → (ℕ → ℕ) → (ℕ → ℕ) → Type 0
Same m f f' = (y : ℕ) → y < m → f' y ≡ f y

pub upd_store : (w : List ℕ) (m c i x : ℕ) → c < COLUMNS → i < m → length w ≡ COLUMNS * m → Upd m (cell w m c) (cell (store w m c i x) m c) i x
upd_store w m c i x p q h = record { here = stored w m c i x p q h; else = λ y l n. kept_entry w m c i y x n }

pub same_store : (w : List ℕ) (m c d i x : ℕ) → c ≢ d → i < m → Same m (cell w m d) (cell (store w m c i x) m d)
same_store w m c d i x n p y l = kept_column w m c d i y x n p l

pub same_trans : {m : ℕ} {f g h : ℕ → ℕ} → Same m f g → Same m g h → Same m f h
same_trans p q y l = q y l ∙ p y l

pub upd_then : {m : ℕ} {f g h : ℕ → ℕ} {x v : ℕ} → x < m → Upd m f g x v → Same m g h → Upd m f h x v
upd_then {m} {f} {g} {h} {x} l p q = record { here = q x l ∙ p.here; else = λ y k n. q y k ∙ p.else y k n }

pub then_upd : {m : ℕ} {f g h : ℕ → ℕ} {x v : ℕ} → Same m f g → Upd m g h x v → Upd m f h x v
then_upd p q = record { here = q.here; else = λ y k n. q.else y k n ∙ p y k }

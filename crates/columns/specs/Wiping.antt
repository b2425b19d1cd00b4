-- Columns and rows at zero: what `wipe_range`, `wipe`, `wipe_all` and `zero` do. Assumes nothing.
use Rattle.std.specs.Prelude.{◌≡◌, refl, ◌⊎◌, ◌≢◌, List, ℕ, suc, ◌+◌, ◌-◌, ◌*◌, ◌/◌, ◌%◌, ◌≤◌, ◌<◌, length, get_or, take, drop, replicate}
use Rattle.std.proofs.Common.{sym, ◌∙◌, inl, inr, mod-lt, div-add-mod', div-lt_iff_lt-mul, arith, length-take, length-drop, suc-mul, ext_get_or}
use Rattle.std.proofs.Math.Nat.{mul-le-mul_right}
use Rattle.std.proofs.lemmas.List.{length-replicate, get_or-replicate, get_or_past}
use Rattle.std.proofs.lemmas.Grind.{common_steps}
use borrow.Rule.Slice.PartMut.{put_mid}
use Rattle.columns.specs.Columns.{cell, COLUMNS}
use Rattle.laws.proofs.Numbers.{same_or_not, less_or_not}
use Rattle.columns.specs.Laws.{column, after}

-- ---- the entries from `from` up to e of column c at 0, all others as they were

pub record Wiped (m c from e : ℕ) (w w' : List ℕ) : Type 0 where
  pub length_is : length w' ≡ length w
  pub zero : (y : ℕ) → from ≤ y → y < e → cell w' m c y ≡ 0
  pub before : (y : ℕ) → y < from → cell w' m c y ≡ cell w m c y
  pub after : (y : ℕ) → e ≤ y → cell w' m c y ≡ cell w m c y
  pub others : (d y : ℕ) → d ≢ c → y < m → cell w' m d y ≡ cell w m d y

-- a part of a list is 0, and the rest as it was
module _ (w : List ℕ) (a e : ℕ) (room : e ≤ length w) (rises : a ≤ e) where
  filled : List ℕ
  filled = put_mid a (e - a) w (replicate (e - a) 0)

  filled_zero : (i : ℕ) → a ≤ i → i < e → get_or filled i 0 ≡ 0
  unfolding filled
  filled_zero i l h = grind (arith, common_steps)

  filled_before : (i : ℕ) → i < a → get_or filled i 0 ≡ get_or w i 0
  unfolding filled
  filled_before i l = grind (arith, common_steps)

  filled_after : (i : ℕ) → e ≤ i → get_or filled i 0 ≡ get_or w i 0
  unfolding filled
  filled_after i l = grind (arith, common_steps)

  filled_length : length filled ≡ length w
  unfolding filled
  filled_length = grind (arith, common_steps)

  part_length : length (take (e - a) (drop a w)) ≡ e - a
  part_length = simp (length-take, length-drop) (omega arith)

pub wiped_filled : {m c from until : ℕ} {w ys : List ℕ} → c < COLUMNS → from ≤ until → until ≤ m → length w ≡ COLUMNS * m
    → ys ≡ replicate (length (take (c * m + until - (c * m + from)) (drop (c * m + from) w))) 0 → Wiped m c from until w (put_mid (c * m + from) (c * m + until - (c * m + from)) w ys)
unfolding filled cell
wiped_filled {m} {c} {from} {until} {w} cl rises within size zeroed = rw (zeroed, part_length w a e room up) (record {
  length_is = filled_length w a e room up;
  zero = λ y l k. filled_zero w a e room up (c * m + y) (omega (arith, l)) (omega (arith, k));
  before = λ y l. filled_before w a e room up (c * m + y) (omega (arith, l));
  after = λ y l. filled_after w a e room up (c * m + y) (omega (arith, l));
  others = λ d y n l. go d y n l (less_or_not c d);
})
  where
    a : ℕ
    a = c * m + from

    e : ℕ
    e = c * m + until

    up : a ≤ e
    up = omega arith

    room : e ≤ length w
    room = omega (arith, size, within, column c m cl)

    go : (d y : ℕ) → d ≢ c → y < m → (c < d) ⊎ (d ≤ c) → get_or (filled w a e room up) (d * m + y) 0 ≡ get_or w (d * m + y) 0
    go d y n l (inl p) = let wide : suc c * m ≤ d * m = mul-le-mul_right m p in filled_after w a e room up (d * m + y) (omega (arith, wide, suc-mul c m, within))
    go d y n l (inr p) = let s : d < c = omega (arith, p, n) in filled_before w a e room up (d * m + y) (after m d c y from s l)

-- ---- the first e entries of column c at 0, all other columns as they were

pub record Wiping (m c e : ℕ) (w w' : List ℕ) : Type 0 where
  pub length_is : length w' ≡ length w
  pub zero : (y : ℕ) → y < e → cell w' m c y ≡ 0
  pub others : (d y : ℕ) → d ≢ c → y < m → cell w' m d y ≡ cell w m d y

pub wiping_first : {m c e : ℕ} {w w' : List ℕ} → Wiped m c 0 e w w' → Wiping m c e w w'
wiping_first W = record { length_is = W.length_is; zero = λ y l. W.zero y (omega arith) l; others = W.others }

-- ---- columns from `from` up to c at 0

pub record Cleaned (m from c : ℕ) (w w' : List ℕ) : Type 0 where
  pub length_is : length w' ≡ length w
  pub zero : (d y : ℕ) → from ≤ d → d < c → y < m → cell w' m d y ≡ 0
  pub below : (d y : ℕ) → d < from → y < m → cell w' m d y ≡ cell w m d y
  pub above : (d y : ℕ) → c ≤ d → y < m → cell w' m d y ≡ cell w m d y

pub cleaned_none : (m from : ℕ) (w : List ℕ) → Cleaned m from from w w
cleaned_none m from w = record { length_is = refl; zero = λ d y l k h. absurd (omega arith); below = λ d y l k. refl; above = λ d y l k. refl }

pub cleaned_more : {m from c : ℕ} {w₀ w w' : List ℕ} → from ≤ c → Cleaned m from c w₀ w → Wiping m c m w w' → Cleaned m from (c + 1) w₀ w'
cleaned_more {m} {from} {c} {w₀} {w} {w'} fc C W = record {
  length_is = W.length_is ∙ C.length_is;
  zero = λ d y l k h. go d y l k h (same_or_not d c);
  below = λ d y l k. W.others d y (omega arith) k ∙ C.below d y l k;
  above = λ d y l k. W.others d y (omega arith) k ∙ C.above d y (omega arith) k;
}
  where
    go : (d y : ℕ) → from ≤ d → d < c + 1 → y < m → (d ≡ c) ⊎ (d ≢ c) → cell w' m d y ≡ 0
    go d y l k h (inl q) = rw q (W.zero y h)
    go d y l k h (inr q) = W.others d y q h ∙ C.zero d y l (omega arith) h

-- ---- the first n entries of an account-sized row at 0, the others as they were

abbrev pub Zeros : ℕ → List ℕ → Type 0
Zeros n s = (a : ℕ) → a < n → get_or s a 0 ≡ 0

pub record Zeroed (n : ℕ) (s s' : List ℕ) : Type 0 where
  pub length_is : length s' ≡ length s
  pub zero : Zeros n s'
  pub after : (a : ℕ) → n ≤ a → get_or s' a 0 ≡ get_or s a 0

-- ---- a whole slice at 0

unfoldable pub zeros : ℕ → List ℕ
zeros k = replicate k 0

pub zeros-length : (k : ℕ) → length (zeros k) ≡ k
unfolding zeros
zeros-length k = length-replicate k 0

pub zeros_at : (k i : ℕ) → get_or (zeros k) i 0 ≡ 0
unfolding zeros
zeros_at k i = go (less_or_not i k)
  where
    go : (i < k) ⊎ (k ≤ i) → ◌≡◌ {A = ℕ} (get_or (replicate k 0) i 0) 0
    go (inl l) = get_or-replicate k i 0 0 l
    go (inr l) = get_or_past (replicate k 0) i 0 (omega (arith, l, length-replicate {A = ℕ} k 0))

pub all_zero : {w : List ℕ} {k : ℕ} → length w ≡ k → ((i : ℕ) → i < k → get_or w i 0 ≡ 0) → w ≡ zeros k
all_zero {w} {k} l h = ext_get_or 0 w (zeros k) (l ∙ sym (zeros-length k)) (λ i p. h i (omega (arith, l, p)) ∙ sym (zeros_at k i))

-- a work space at 0, cell by cell
pub zeros-cell : (k m c i : ℕ) → cell (zeros k) m c i ≡ 0
unfolding cell
zeros-cell k m c i = zeros_at k (c * m + i)

pub cells_zero : {w : List ℕ} {m : ℕ} → length w ≡ COLUMNS * m → ((c y : ℕ) → c < COLUMNS → y < m → cell w m c y ≡ 0) → w ≡ zeros (COLUMNS * m)
unfolding cell
cells_zero {w} {m} size h = all_zero size at
  where
    at : (i : ℕ) → i < COLUMNS * m → get_or w i 0 ≡ 0
    at i l =
        let some : 0 < m = omega (arith, l) in
        let c : i / m < COLUMNS = (div-lt_iff_lt-mul some).1 l in
        rw (← div-add-mod' i m) (h (i / m) (i % m) c (mod-lt i some))

-- what is 0 stays so when more is wiped
pub wiped_still : {m c from e : ℕ} {w w' : List ℕ} (d y : ℕ) → Wiped m c from e w w' → y < m → cell w m d y ≡ 0 → cell w' m d y ≡ 0
wiped_still {m} {c} {from} {e} {w} {w'} d y W l z = go (same_or_not d c) (less_or_not y from) (less_or_not y e)
  where
    go : (d ≡ c) ⊎ (d ≢ c) → (y < from) ⊎ (from ≤ y) → (y < e) ⊎ (e ≤ y) → cell w' m d y ≡ 0
    go (inr n) a b = W.others d y n l ∙ z
    go (inl q) (inl a) b = rw q (W.before y a) ∙ z
    go (inl q) (inr a) (inl b) = rw q (W.zero y a b)
    go (inl q) (inr a) (inr b) = rw q (W.after y b) ∙ z

pub wiping_still : {m c : ℕ} {w w' : List ℕ} (d y : ℕ) → Wiping m c m w w' → y < m → cell w m d y ≡ 0 → cell w' m d y ≡ 0
wiping_still {m} {c} {w} {w'} d y W l z = go (same_or_not d c)
  where
    go : (d ≡ c) ⊎ (d ≢ c) → cell w' m d y ≡ 0
    go (inr n) = W.others d y n l ∙ z
    go (inl q) = rw q (W.zero y l)

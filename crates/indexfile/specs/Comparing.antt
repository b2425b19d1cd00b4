-- Comparing bytes with records, one after the other: when all of them stand there, and when not. Assumes nothing.
use Rattle.std.specs.Prelude.{◌≡◌, List, [], ◌∷◌, ◌++◌, ℕ, zero, suc, ◌+◌, ◌*◌, ◌-◌, ◌≤◌, ◌<◌, length, take, drop}
use Rattle.std.proofs.Math.Path.{refl}
use Rattle.std.proofs.Common.{sym, ap, ap₂, ◌∙◌, add-one, suc-mul, mul-le-mul_right, arith, take_at, drop_at, take-add, take-take}
use Rattle.wire.specs.Writing.{up_to, up_to_more, up_to_length}
use Rattle.wire.specs.RowBytes.{up_to_split}

-- a piece of a front is a piece of the whole
drop_take_front : (at l n : ℕ) (s : List ℕ) → at + l ≤ n → take l (drop at (take n s)) ≡ take l (drop at s)
drop_take_front zero l n s h = take-take l n s (omega arith)
drop_take_front (suc at) l zero s h = absurd (omega arith)
drop_take_front (suc at) l (suc n) [] h = refl
drop_take_front (suc at) l (suc n) (x ∷ s) h = drop_take_front at l n s (omega arith)

-- the part of s from at on, as `&s[at..]` lends it, begins as s does there
pub part-front : (s : List ℕ) (at l : ℕ) → at + l ≤ length s → take l (take (length s - at) (drop at s)) ≡ take l (drop at s)
part-front s at l h = take-take l (length s - at) (drop at s) (omega arith)

-- a front, and what stands straight after it
pub front_more : (s xs ys : List ℕ) (at l : ℕ) → take at s ≡ xs → take l (drop at s) ≡ ys → take (at + l) s ≡ xs ++ ys
front_more s xs ys at l p q = take-add at l s ∙ ap₂ (λ (x y : List ℕ). x ++ y) p q

-- bytes that are not those after a front are not the whole's
pub front_not : (s xs ys zs : List ℕ) (at l : ℕ) → length xs ≡ at → length ys ≡ l → ¬ (take l (drop at s) ≡ ys) → ¬ (s ≡ xs ++ (ys ++ zs))
front_not s xs ys zs at l a b n q = n (ap (λ (x : List ℕ). take l (drop at x)) q ∙ ap (take l) (drop_at xs (ys ++ zs) at a) ∙ take_at ys zs l b)

-- s, whose front is compared with m records of l bytes, at record i
module _ (f : ℕ → List ℕ) (l : ℕ) (long : (i : ℕ) → length (f i) ≡ l) (s : List ℕ) (m i : ℕ) (h : i < m) (fits : m * l ≤ length s) where
  within : i * l + l ≤ m * l
  within = let k : suc i * l ≤ m * l = mul-le-mul_right l h in omega (arith, suc-mul i l)

  -- the first i records stand there, and record i straight after them
  pub row_more : {y : List ℕ} → take (i * l) s ≡ up_to f i → y ≡ f i → take (length y) (take (length s - i * l) (drop (i * l) s)) ≡ y → take ((i + 1) * l) s ≡ up_to f (i + 1)
  row_more {y} before is here =
      let e : take l (take (length s - i * l) (drop (i * l) s)) ≡ f i = rw (is, long i) at here in
      let k : (i + 1) * l ≡ i * l + l = rw add-one (suc-mul i l) in
      rw k (front_more s (up_to f i) (f i) (i * l) l before (sym (part-front s (i * l) l (omega (arith, within))) ∙ e) ∙ sym (up_to_more f i))

  -- record i does not stand in its place: then not all m records stand in theirs
  pub row_not : {y : List ℕ} → y ≡ f i → ¬ (take (length y) (take (length s - i * l) (drop (i * l) s)) ≡ y) → ¬ (take (m * l) s ≡ up_to f m)
  row_not {y} is n q = n (rw (is, long i) (part-front s (i * l) l (omega (arith, within)) ∙ inner))
    where
      r : (rest : List ℕ) × (up_to f m ≡ up_to f i ++ (f i ++ rest))
      r = up_to_split f l long m i h

      inner : take l (drop (i * l) s) ≡ f i
      inner =
          sym (drop_take_front (i * l) l (m * l) s within)
          ∙ ap (λ (x : List ℕ). take l (drop (i * l) x)) (q ∙ r.1)
          ∙ ap (take l) (drop_at (up_to f i) (f i ++ r.0) (i * l) (up_to_length f l long i))
          ∙ take_at (f i) r.0 l (long i)

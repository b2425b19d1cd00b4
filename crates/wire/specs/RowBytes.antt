-- Records of one length that stand one after the other: where each begins, and its bytes. Assumes nothing.
use Rattle.std.specs.Prelude.{◌≡◌, ◌⊎◌, ◌≢◌, length, get_or}
use Rattle.std.proofs.Common.{sym, ap₂, ◌∙◌, inl, inr, arith, length-append, get_or-append-add}
use Rattle.std.proofs.Math.Path.{ap}
use mathlib.Core.List.{List, [], ◌++◌, append_assoc, append-nil}
use Prim.Native.Nat.{ℕ, zero, suc, ◌+◌, ◌*◌, ◌<◌}
use Rattle.std.proofs.Math.ListN.{get_or-append}
use Rattle.laws.proofs.Numbers.{same_or_not}
use Rattle.wire.specs.Writing.{up_to, up_to_length}

module _ (f : ℕ → List ℕ) (l : ℕ) (long : (i : ℕ) → length (f i) ≡ l) where
  -- record i stands after the first i
  pub up_to_split : (m i : ℕ) → i < m → (rest : List ℕ) × (up_to f m ≡ up_to f i ++ (f i ++ rest))
  unfolding up_to
  up_to_split zero i h = absurd (omega arith)
  up_to_split (suc m) i h = go (same_or_not i m) (up_to_split m i)
    where
      go : (i ≡ m) ⊎ (i ≢ m) → (i < m → (rest : List ℕ) × (up_to f m ≡ up_to f i ++ (f i ++ rest))) → (rest : List ℕ) × (up_to f m ++ f m ≡ up_to f i ++ (f i ++ rest))
      go (inl q) ih = ([], rw q (ap (λ (x : List ℕ). up_to f m ++ x) (sym (append-nil (f m)))))
      go (inr q) ih =
          let r = ih (omega arith) in
          (r.0 ++ f m, ap (λ (x : List ℕ). x ++ f m) r.1 ∙ append_assoc (up_to f i) (f i ++ r.0) (f m) ∙ ap (λ (x : List ℕ). up_to f i ++ x) (append_assoc (f i) r.0 (f m)))

  -- byte j of record i, where the records stand after a front
  pub row_byte : (pre suf : List ℕ) (m i j : ℕ) → i < m → j < l → get_or (pre ++ (up_to f m ++ suf)) (length pre + i * l + j) 0 ≡ get_or (f i) j 0
  row_byte pre suf m i j h k =
      let r = up_to_split m i h in
      let e : pre ++ (up_to f m ++ suf) ≡ (pre ++ up_to f i) ++ (f i ++ (r.0 ++ suf)) = ap (λ (x : List ℕ). pre ++ (x ++ suf)) r.1 ∙ simp append_assoc in
      let p : length pre + i * l + j ≡ length (pre ++ up_to f i) + j = omega (arith, length-append pre (up_to f i), up_to_length f l long i) in
      ap₂ (λ (x : List ℕ) (y : ℕ). get_or x y 0) e p ∙ get_or-append-add (pre ++ up_to f i) (f i ++ (r.0 ++ suf)) j 0
      ∙ get_or-append (f i) (r.0 ++ suf) 0 j (omega (arith, k, long i))

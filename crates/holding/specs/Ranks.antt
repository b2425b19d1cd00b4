-- The named accounts, each with a rank: 1, 2, .. by first naming; other accounts have 0. Assumes nothing.
use Rattle.std.specs.Prelude.{◌≡◌, ◌⊎◌, ◌≢◌, Option, Some, None, SomeIff, List, [], ◌∷◌, ℕ, zero, suc, ◌+◌, ◌*◌, ◌-◌, ◌≤◌, ◌<◌, length, get_or, set}
use Rattle.std.proofs.Common.{sym, ap, ◌∙◌, inl, inr, arith, length-set, get_or-set_same, get_or-set_other}
use mathlib.Core.List.Memᴰ.{cases_cons as in-cons}
use mathlib.Core.List.Memᴰ.{head as here}
use mathlib.Core.List.Memᴰ.{not-nil as in-nil}
use mathlib.Core.List.Memᴰ.{tail as there}
use mathlib.Core.List.{Memᴰ as In}
use Rattle.truss.specs.Record.{field_at}
use Rattle.truss.specs.Question.{accounts_in}
use Rattle.laws.proofs.Numbers.{same_or_not}
use Rattle.columns.specs.Wiping.{Zeros}

abbrev pub rank_in : List ℕ → ℕ → ℕ
rank_in ranks v = get_or ranks v 0

-- the rank whose marks a column has; no column, no rank
abbrev pub rank_of : Option ℕ → ℕ
rank_of None = 0
rank_of (Some c) = c + 1

-- the column of a rank
pub ranked : (o : Option ℕ) {x : ℕ} → SomeIff o (1 ≤ x) (x - 1) → rank_of o ≡ x
ranked None {x} S = go (same_or_not x 0)
  where
    go : (x ≡ 0) ⊎ (x ≢ 0) → 0 ≡ x
    go (inl z) = sym z
    go (inr n) = absurd (S (omega (arith, n)))
ranked (Some c) {x} S = omega (arith, S.0, S.1)

-- v is among the first j accounts that are named
abbrev pub Before : List ℕ → ℕ → ℕ → Type 0
Before named j v = (t : ℕ) × (t < j) × (v ≡ field_at named (2 * t))

-- the accounts below n that have P have the ranks 1 to d
pub record Ranks (n d : ℕ) (ranks : List ℕ) (P : ℕ → Type 0) : Type 0 where
  pub room : n ≤ length ranks
  pub yes : (v : ℕ) → v < n → rank_in ranks v ≢ 0 → P v
  pub no : (v : ℕ) → v < n → rank_in ranks v ≡ 0 → ¬ (P v)
  pub most : (v : ℕ) → v < n → rank_in ranks v ≤ d
  pub one : (u v : ℕ) → u < n → v < n → rank_in ranks u ≢ 0 → rank_in ranks u ≡ rank_in ranks v → u ≡ v
  pub each : (c : ℕ) → c < d → (v : ℕ) × (v < n) × (rank_in ranks v ≡ c + 1)

pub ranks_none : {n : ℕ} {ranks : List ℕ} (named : List ℕ) → Zeros n ranks → n ≤ length ranks → Ranks n 0 ranks (Before named 0)
ranks_none named Z s = record {
  room = s;
  yes = λ v h k. absurd (k (Z v h));
  no = λ v h k (t, lt, q). omega (arith, lt);
  most = λ v h. omega (arith, Z v h);
  one = λ u v h k nz q. absurd (nz (Z u h));
  each = λ c h. absurd (omega arith);
}

-- an account that has a rank is named again
pub ranks_again : {n d j v : ℕ} {ranks : List ℕ} (named : List ℕ) → Ranks n d ranks (Before named j) → v ≡ field_at named (2 * j) → v < n → rank_in ranks v ≢ 0 → Ranks n d ranks (Before named (j + 1))
ranks_again {n} {d} {j} {v} {ranks} named R q l nz = record {
  room = R.room;
  yes = λ u h k. more (R.yes u h k);
  no = λ u h k p. no u h k p;
  most = R.most;
  one = R.one;
  each = R.each;
}
  where
    more : {u : ℕ} → Before named j u → Before named (j + 1) u
    more (t, lt, e) = (t, omega (arith, lt), e)

    no : (u : ℕ) → u < n → rank_in ranks u ≡ 0 → ¬ (Before named (j + 1) u)
    no u h k (t, lt, e) = go (same_or_not t j)
      where
        go : (t ≡ j) ⊎ (t ≢ j) → ⊥
        go (inl s) = let uv : u ≡ v = e ∙ ap (λ (x : ℕ). field_at named (2 * x)) s ∙ sym q in nz (ap (rank_in ranks) (sym uv) ∙ k)
        go (inr s) = R.no u h k (t, omega (arith, lt, s), e)

-- an account that has none gets the next
pub ranks_new : {n d j v : ℕ} {ranks : List ℕ} (named : List ℕ) → Ranks n d ranks (Before named j) → v ≡ field_at named (2 * j) → v < n → rank_in ranks v ≡ 0 → Ranks n (d + 1) (set ranks v (d + 1)) (Before named (j + 1))
ranks_new {n} {d} {j} {v} {ranks} named R q l z = record {
  room = omega (arith, R.room, length-set ranks v (d + 1));
  yes = λ u h k. yes u h k (same_or_not u v);
  no = λ u h k. no u h k (same_or_not u v);
  most = λ u h. most u h (same_or_not u v);
  one = λ u x h k nz e. one u x h k nz e (same_or_not u v) (same_or_not x v);
  each = λ c h. each c (same_or_not c d) h;
}
  where
    at_v : rank_in (set ranks v (d + 1)) v ≡ d + 1
    at_v = get_or-set_same ranks v (d + 1) 0 (omega (arith, R.room))

    else : (u : ℕ) → u ≢ v → rank_in (set ranks v (d + 1)) u ≡ rank_in ranks u
    else u ne = get_or-set_other ranks v u (d + 1) 0 ne

    more : {u : ℕ} → Before named j u → Before named (j + 1) u
    more (t, lt, e) = (t, omega (arith, lt), e)

    yes : (u : ℕ) → u < n → rank_in (set ranks v (d + 1)) u ≢ 0 → (u ≡ v) ⊎ (u ≢ v) → Before named (j + 1) u
    yes u h k (inl e) = (j, omega arith, e ∙ q)
    yes u h k (inr ne) = more (R.yes u h (λ s. k (else u ne ∙ s)))

    no : (u : ℕ) → u < n → rank_in (set ranks v (d + 1)) u ≡ 0 → (u ≡ v) ⊎ (u ≢ v) → ¬ (Before named (j + 1) u)
    no u h k (inl e) p = omega (arith, at_v, ap (rank_in (set ranks v (d + 1))) (sym e) ∙ k)
    no u h k (inr ne) (t, lt, e) = go (same_or_not t j)
      where
        go : (t ≡ j) ⊎ (t ≢ j) → ⊥
        go (inl s) = ne (e ∙ ap (λ (x : ℕ). field_at named (2 * x)) s ∙ sym q)
        go (inr s) = R.no u h (sym (else u ne) ∙ k) (t, omega (arith, lt, s), e)

    most : (u : ℕ) → u < n → (u ≡ v) ⊎ (u ≢ v) → rank_in (set ranks v (d + 1)) u ≤ d + 1
    most u h (inl e) = rw e (omega (arith, at_v))
    most u h (inr ne) = omega (arith, else u ne, R.most u h)

    one : (u x : ℕ) → u < n → x < n → rank_in (set ranks v (d + 1)) u ≢ 0 → rank_in (set ranks v (d + 1)) u ≡ rank_in (set ranks v (d + 1)) x → (u ≡ v) ⊎ (u ≢ v) → (x ≡ v) ⊎ (x ≢ v) → u ≡ x
    one u x h k nz e (inl a) (inl c) = a ∙ sym c
    one u x h k nz e (inl a) (inr c) = absurd (omega (arith, ap (rank_in (set ranks v (d + 1))) a, at_v, e, else x c, R.most x k))
    one u x h k nz e (inr a) (inl c) = absurd (omega (arith, ap (rank_in (set ranks v (d + 1))) c, at_v, e, else u a, R.most u h))
    one u x h k nz e (inr a) (inr c) = R.one u x h k (λ s. nz (else u a ∙ s)) (sym (else u a) ∙ e ∙ else x c)

    each : (c : ℕ) → (c ≡ d) ⊎ (c ≢ d) → c < d + 1 → (u : ℕ) × (u < n) × (rank_in (set ranks v (d + 1)) u ≡ c + 1)
    each c (inl e) h = (v, l, at_v ∙ ap (λ (x : ℕ). x + 1) (sym e))
    each c (inr ne) h = at (R.each c (omega arith))
      where
        at : (u : ℕ) × (u < n) × (rank_in ranks u ≡ c + 1) → (u : ℕ) × (u < n) × (rank_in (set ranks v (d + 1)) u ≡ c + 1)
        at (u, lu, e) = (u, lu, else u (λ s. omega (arith, ap (rank_in ranks) s, z, e)) ∙ e)

-- ---- the accounts that lent bytes name

-- two bytes on
field_on : (x y : ℕ) (b : List ℕ) (t : ℕ) → field_at (x ∷ y ∷ b) (2 * suc t) ≡ field_at b (2 * t)
field_on x y b t =
    let s : 2 * suc t ≡ suc (suc (2 * t)) = omega arith in
    let u : suc (suc (2 * t)) + 1 ≡ suc (suc (2 * t + 1)) = omega arith in
    ap (field_at (x ∷ y ∷ b)) s ∙ ap (λ (z : ℕ). get_or b (2 * t) 0 * 256 + get_or (x ∷ y ∷ b) z 0) u

pub in_before : (named : List ℕ) (k : ℕ) → length named ≡ 2 * k → {v : ℕ} → In v (accounts_in named) → Before named k v
unfolding accounts_in
in_before [] k q m = absurd (in-nil m)
in_before (x ∷ []) k q m = absurd (in-nil m)
in_before (x ∷ y ∷ b) k q {v} m = go (in-cons m) (λ i. in_before b (k - 1) (omega (arith, q)) i)
  where
    go : (v ≡ field_at (x ∷ y ∷ b) 0) ⊎ In v (accounts_in b) → (In v (accounts_in b) → Before b (k - 1) v) → Before (x ∷ y ∷ b) k v
    go (inl e) ih = (0, omega (arith, q), e)
    go (inr i) ih = at (ih i)
      where
        at : Before b (k - 1) v → Before (x ∷ y ∷ b) k v
        at (t, lt, e) = (suc t, omega (arith, lt), e ∙ sym (field_on x y b t))

pub before_in : (named : List ℕ) (k : ℕ) → length named ≡ 2 * k → {v : ℕ} → Before named k v → In v (accounts_in named)
unfolding accounts_in
before_in [] k q (t, lt, e) = absurd (omega (arith, q, lt))
before_in (x ∷ []) k q (t, lt, e) = absurd (omega (arith, q, lt))
before_in (x ∷ y ∷ b) k q (zero, lt, e) = here e
before_in (x ∷ y ∷ b) k q {v} (suc t, lt, e) =
    there (before_in b (k - 1) (omega (arith, q)) (t, omega (arith, lt), e ∙ field_on x y b t))

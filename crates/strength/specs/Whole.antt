-- What `strengths` promises, and its parts put together. Assumes nothing.
use Rattle.std.specs.Prelude.{◌≡◌, refl, ◌⊎◌, ◌≢◌, cond, List, ℕ, ◌+◌, ◌≤◌, ◌<◌, eqb, length}
use Rattle.std.proofs.Common.{◌∙◌, inl, inr, arith, ne_eqb}
use Rattle.truss.specs.Graph.{Graph, link_at}
use Rattle.truss.specs.Strength.{strength}
use Rattle.laws.proofs.Numbers.{same_or_not, less_or_not}
use Rattle.columns.specs.Columns.{cell, KEY, NEAR, STRENGTH, FREE, COLUMNS}
use Rattle.columns.specs.Wiping.{Cleaned, Zeros}
use Rattle.adjacency.specs.State.{Named, named-kept, near-kept}
use Rattle.adjacency.specs.Lists.{ListsDone, named_keyed}
use Rattle.triangles.specs.Lookups.{lookups}
use Rattle.triangles.specs.LookupLaws.{looks_none}
use Rattle.triangles.specs.Triangles.{Ask, Triangles}
use Rattle.peeling.specs.Peel.{PeelPre, PeelCleared}

-- ---- the promise

-- entry y of column c afterwards: the key as it was, the link's strength, and 0 elsewhere
unfoldable pub afterwards : Graph → ℕ → List ℕ → ℕ → ℕ → ℕ
afterwards G m w c y = cond (eqb c KEY) (cell w m KEY y) (cond (eqb c STRENGTH) (strength G (link_at G y)) 0)

pub record Strengths (G : Graph) (m r : ℕ) (w w' : List ℕ) : Type 0 where
  pub length_is : length w' ≡ length w
  pub entries : (c y : ℕ) → c < COLUMNS → y < m → cell w' m c y ≡ afterwards G m w c y
  pub made : r ≡ lookups G

-- of every graph that column 0 names
abbrev pub StrengthsGive : ℕ → ℕ → ℕ → List ℕ → List ℕ → Type 0
StrengthsGive m n r w w' = (G : Graph) → Named G m n w → Strengths G m r w w'

-- ---- the three steps

pub record WorkPre (G : Graph) (m n : ℕ) (w start mark : List ℕ) : Type 0 where
  pub named : Named G m n w
  pub some : 0 < m
  pub long : length start ≡ n + 1
  pub wide : length mark ≡ n

pub work_pre : {G : Graph} {m n : ℕ} {w start mark : List ℕ} → Named G m n w → m ≢ 0 → length start ≡ n + 1 → length mark ≡ n → WorkPre G m n w start mark
work_pre N z s t = record { named = N; some = omega arith; long = s; wide = t }

pub record Worked (G : Graph) (m r : ℕ) (w w' : List ℕ) : Type 0 where
  pub length_is : length w' ≡ length w
  pub keys : (y : ℕ) → y < m → cell w' m KEY y ≡ cell w m KEY y
  pub strengths : (y : ℕ) → y < m → cell w' m STRENGTH y ≡ strength G (link_at G y)
  pub used : (c y : ℕ) → NEAR ≤ c → c < FREE → c ≢ STRENGTH → y < m → cell w' m c y ≡ 0
  pub made : r ≡ lookups G

abbrev pub WorkAsks : ℕ → ℕ → List ℕ → List ℕ → List ℕ → Type 0
WorkAsks m n w start mark = (G : Graph) × WorkPre G m n w start mark

abbrev pub WorkGives : ℕ → ℕ → ℕ → List ℕ → List ℕ → List ℕ → List ℕ → Type 0
WorkGives m n r w w' start mark = (G : Graph) → WorkPre G m n w start mark → Worked G m r w w'

module _ {G : Graph} {m n : ℕ} {w start₀ mark₀ : List ℕ} (P : WorkPre G m n w start₀ mark₀) where
  module _ {w₁ start : List ℕ} (L : ListsDone G m w w₁ start) where
    N₁ : Named G m n w₁
    N₁ = named_keyed P.named L.keyed

    pub work_count : {mark₁ : List ℕ} → length mark₁ ≡ length mark₀ → Zeros n mark₁ → Ask G m n w₁ start mark₁
    work_count e z = record {
      named = N₁;
      near = L.near;
      some = P.some;
      blank = record { wide = omega (arith, P.wide, P.named.accounts); is = λ c l. z c (omega (arith, P.named.accounts)) };
    }

    module _ {r : ℕ} {w₂ mark₂ : List ℕ} (T : Triangles G m r w₁ w₂ mark₂) where
      pub work_peel : PeelPre G m n w₂ start mark₂
      work_peel = record {
        named = named-kept N₁ T.kept;
        near = near-kept L.near T.kept;
        marks = T.marks;
        triangles = T.triangles;
      }

      pub work_done : {w₃ mark₃ : List ℕ} → PeelCleared G m n w₂ w₃ mark₃ → Worked G m r w w₃
      work_done D = record {
        length_is = D.held.length_is ∙ T.kept.length_is ∙ L.keyed.length_is;
        keys = λ y l. D.held.keys y l ∙ T.kept.keys y l ∙ L.keyed.keys y l;
        strengths = D.strengths;
        used = D.used;
        made = T.made;
      }

-- ---- the whole

pub strengths_none : {G : Graph} {m n : ℕ} {w : List ℕ} → Named G m n w → m ≡ 0 → Strengths G m 0 w w
strengths_none N z = record { length_is = refl; entries = λ c y l k. absurd (omega arith); made = looks_none N z }

pub strengths_all : {G : Graph} {m r : ℕ} {w w₁ w₂ : List ℕ} → Worked G m r w w₁ → Cleaned m FREE COLUMNS w₁ w₂ → Strengths G m r w w₂
unfolding afterwards
strengths_all {G} {m} {r} {w} {w₁} {w₂} W C = record {
  length_is = C.length_is ∙ W.length_is;
  entries = λ c y l k. go c y l k (same_or_not c KEY) (same_or_not c STRENGTH);
  made = W.made;
}
  where
    go : (c y : ℕ) → c < COLUMNS → y < m → (c ≡ KEY) ⊎ (c ≢ KEY) → (c ≡ STRENGTH) ⊎ (c ≢ STRENGTH)
        → cell w₂ m c y ≡ cond (eqb c KEY) (cell w m KEY y) (cond (eqb c STRENGTH) (strength G (link_at G y)) 0)
    go c y l k (inl z) q = rw z (C.below KEY y (omega arith) k ∙ W.keys y k)
    go c y l k (inr n) (inl z) = rw z (C.below STRENGTH y (omega arith) k ∙ W.strengths y k)
    go c y l k (inr n) (inr n') = rw (ne_eqb c KEY n, ne_eqb c STRENGTH n') (at (less_or_not c FREE))
      where
        at : (c < FREE) ⊎ (FREE ≤ c) → cell w₂ m c y ≡ 0
        at (inl h) = C.below c y h k ∙ W.used c y (omega (arith, n)) h n' k
        at (inr h) = C.zero c y h l k

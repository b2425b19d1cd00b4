-- What loading leaves in the work space: column 0 where there is no fault, and no other trace. Assumes nothing.
use Rattle.std.proofs.Math.Path.{◌≡◌, refl, sym, ap}
use Rattle.std.proofs.Common.{◌∙◌, inl, inr}
use Rattle.std.specs.Prelude.{◌⊎◌, ◌≢◌, true, false, Result, Ok, Err, is_err, List, [], ℕ, ◌*◌, ◌≤◌, ◌<◌, length}
use native.Mathlib.Omega.{arith}
use Rattle.truss.specs.Graph.{Graph, Pair, graph_of}
use Rattle.truss.specs.Refusal.{Refusal, Checked, passed, refused}
use Rattle.truss.specs.LinksFile.{accepted, read_pairs}
use Rattle.laws.proofs.Lists.{true_not_false}
use Rattle.laws.proofs.Numbers.{same_or_not}
use Rattle.limits.specs.declared.refusal.Fault.{Fault}
use Rattle.limits.specs.Refusals.{refusal_in, checked_in}
use Rattle.columns.specs.Columns.{cell, store, COLUMNS}
use Rattle.columns.specs.Laws.{kept_column, length-store}
use Rattle.columns.specs.Named.{Named}
use Rattle.columns.specs.Wiping.{Wiping}
use Rattle.sorting.specs.Kept.{SortLeaves}
use Rattle.linksfile.specs.Load.{forget, LoadGives}

-- ---- the scan writes column 14 and no other

pub record FileOnly (m : ℕ) (w w' : List ℕ) : Type 0 where
  pub length_is : length w' ≡ length w
  pub column : (d y : ℕ) → d ≢ 14 → y < m → cell w' m d y ≡ cell w m d y

pub file-none : {m : ℕ} {w : List ℕ} → FileOnly m w w
file-none = record { length_is = refl; column = λ d y n l. refl }

pub file_more : {m : ℕ} {w₀ w w' : List ℕ} (i k : ℕ) → FileOnly m w₀ w → i < m → w' ≡ store w m 14 i k → FileOnly m w₀ w'
file_more {m} {w₀} {w} i k F l put = rw put (record {
  length_is = length-store w m 14 i k ∙ F.length_is;
  column = λ d y n h. kept_column w m 14 d i y k (λ q. n (sym q)) l h ∙ F.column d y n h;
})

-- ---- scan and sort: columns 0, 3 and 14 are in use, 1 and 2 are 0, the others are as they were

pub record ScanLeaves (m : ℕ) (w w' : List ℕ) : Type 0 where
  pub length_is : length w' ≡ length w
  pub chains : (d y : ℕ) → 1 ≤ d → d < 3 → y < m → cell w' m d y ≡ 0
  pub others : (d y : ℕ) → 4 ≤ d → d ≢ 14 → y < m → cell w' m d y ≡ cell w m d y

pub scan_leaves : {m t : ℕ} {w w₁ w₂ : List ℕ} → FileOnly m w w₁ → SortLeaves m t w₁ w₂ → ScanLeaves m w w₂
scan_leaves F S = record {
  length_is = S.others.length_is ∙ F.length_is;
  chains = S.chains;
  others = λ d y l n k. S.others.column d y l k ∙ F.column d y n k;
}

-- ---- the whole: the walk's own outcome, the graph in column 0 where there is no fault and zeros where there is one, columns 1, 2, 3 and 14 at 0, and
-- all others as they were

pub record LoadClears (b : List ℕ) (n m : ℕ) (loaded : Checked (Unit {0})) (w w' : List ℕ) : Type 0 where
  pub outcome : loaded ≡ forget (read_pairs b n m 5 [])
  pub named : (ps : List Pair) → read_pairs b n m 5 [] ≡ accepted n ps → Named (graph_of n ps) m n w'
  pub length_is : length w' ≡ COLUMNS * m
  pub no_keys : (r : Refusal) → loaded ≡ refused r → (y : ℕ) → y < m → cell w' m 0 y ≡ 0
  pub rows : (d y : ℕ) → 1 ≤ d → d < 4 → y < m → cell w' m d y ≡ 0
  pub file : (y : ℕ) → y < m → cell w' m 14 y ≡ 0
  pub others : (d y : ℕ) → 4 ≤ d → d ≢ 14 → y < m → cell w' m d y ≡ cell w m d y

-- how a result went
pub went_well : (r : Result (Unit {0}) Fault) → is_err r ≡ false → checked_in r ≡ passed tt
unfolding checked_in
went_well (Ok tt) q = refl
went_well (Err f) q = absurd (true_not_false refl q)

pub went_wrong : (r : Result (Unit {0}) Fault) → is_err r ≡ true → (x : Refusal) × (checked_in r ≡ refused x)
unfolding checked_in
went_wrong (Ok x) q = absurd (true_not_false q refl)
went_wrong (Err f) q = (refusal_in f, refl)

-- what passes is not refused
not_both : {x : Checked (Unit {0})} {r : Refusal} → x ≡ refused r → x ≡ passed tt → ⊥
not_both {x} {r} e h = let q : ◌≡◌ {A = Checked (Unit {0})} (refused r) (passed tt) = sym e ∙ h in let z : ◌≡◌ {A = ℕ} 0 1 = cc in omega arith

named_same : {G : Graph} {m n : ℕ} {w w' : List ℕ} → length w' ≡ length w → ((i : ℕ) → i < m → cell w' m 0 i ≡ cell w m 0 i) → Named G m n w → Named G m n w'
named_same l same N = record {
  proper = N.proper;
  accounts = N.accounts;
  count = N.count;
  few = N.few;
  small = N.small;
  size = l ∙ N.size;
  key = λ i k. same i k ∙ N.key i k;
}

module _ {b : List ℕ} {n m : ℕ} {loaded : Checked (Unit {0})} {w w₁ w₂ w₃ : List ℕ} (L : LoadGives b n m loaded w₁) (S : ScanLeaves m w w₁) (R : Wiping m 3 m w₁ w₂) (F : Wiping m 14 m w₂ w₃) where
  rows_zero : (d y : ℕ) → 1 ≤ d → d < 4 → y < m → cell w₃ m d y ≡ 0
  rows_zero d y l h k = go (same_or_not d 3)
    where
      go : (d ≡ 3) ⊎ (d ≢ 3) → cell w₃ m d y ≡ 0
      go (inl q) = F.others d y (omega arith) k ∙ rw q (R.zero y k)
      go (inr q) = F.others d y (omega arith) k ∙ R.others d y q k ∙ S.chains d y l (omega (arith, h, q)) k

  others_kept : (d y : ℕ) → 4 ≤ d → d ≢ 14 → y < m → cell w₃ m d y ≡ cell w m d y
  others_kept d y l ne k = F.others d y ne k ∙ R.others d y (omega arith) k ∙ S.others d y l ne k

  pub load_good : loaded ≡ passed tt → LoadClears b n m loaded w w₃
  load_good z = record {
    outcome = L.outcome;
    named = λ ps h. named_same (F.length_is ∙ R.length_is) (λ i k. F.others 0 i (omega arith) k ∙ R.others 0 i (omega arith) k) (L.named ps h);
    length_is = F.length_is ∙ R.length_is ∙ L.length_is;
    no_keys = λ r e. absurd (not_both e z);
    rows = rows_zero;
    file = F.zero;
    others = others_kept;
  }

  -- a fault names no graph
  not_accepted : {r : Refusal} → loaded ≡ refused r → (ps : List Pair) → read_pairs b n m 5 [] ≡ accepted n ps → ⊥
  unfolding forget
  not_accepted e ps h = not_both e (L.outcome ∙ ap forget h)

  pub load_bad : {r : Refusal} {w₄ : List ℕ} → loaded ≡ refused r → Wiping m 0 m w₃ w₄ → LoadClears b n m loaded w w₄
  load_bad {w₄ = w₄} e Z = record {
    outcome = L.outcome;
    named = λ ps h. absurd (not_accepted e ps h);
    length_is = Z.length_is ∙ F.length_is ∙ R.length_is ∙ L.length_is;
    no_keys = λ _ _. Z.zero;
    rows = λ d y l h k. Z.others d y (omega arith) k ∙ rows_zero d y l h k;
    file = λ y k. Z.others 14 y (omega arith) k ∙ F.zero y k;
    others = λ d y l q k. Z.others d y (omega arith) k ∙ others_kept d y l q k;
  }

-- The first fault of a day, as a number: 0 if there is none. Assumes nothing.
use Rattle.std.specs.Prelude.{Result, Ok, Err, IsErrAnd, ◌≡◌, ◌⊎◌, ◌≢◌, Bool, true, false, cond, ◌||◌, ℕ, zero, suc, ◌+◌, ◌*◌, ◌/◌, ◌≤◌, ◌<◌, eqb, leb, length, get_or, drop}
use Rattle.std.proofs.Math.Path.{refl}
use Rattle.std.proofs.Common.{sym, ap, ◌∙◌, inr, add-one, arith}
use Rattle.std.proofs.Math.Logic.{inl}
use Rattle.std.proofs.lemmas.Result.{err_from_is_err_and}
use mathlib.Core.List.{List, [], ◌∷◌}
use Rattle.std.proofs.Math.Dec.{ltb}
use Rattle.std.proofs.Math.Seq.{drop-cons, drop-length}
use borrow.Author.Tests.{eq-eqb, ne_eqb, lt-ltb, le-ltb, ltb-false, leb-false}
use Rattle.truss.specs.Limits.{max_records, min_stake, max_stake, max_limit, record_length}
use Rattle.truss.specs.Graph.{Graph}
use Rattle.truss.specs.Refusal.{passed, refuse}
use Rattle.truss.specs.Question.{bad_level}
use Rattle.truss.specs.Bets.{DayRecord, bet, new_limit, record_at, records_in, Day, day_of, check_records, check_day}
use Rattle.truss.specs.Trial.{no_record}
use Rattle.laws.proofs.Lists.{test}
use Rattle.laws.proofs.Numbers.{same_or_not}
use Rattle.limits.specs.declared.refusal.Refusal.{Refusal}
use Rattle.limits.specs.Refusals.{number_of}
use Rattle.index.specs.Answered.{number_not_0}
use Rattle.day.specs.Records.{records-length, record_here}

-- what the code's checks give: the number of the fault, 0 if there is none
unfoldable pub fault_number : Result (Unit {0}) Refusal → ℕ
fault_number (Ok x) = 0
fault_number (Err e) = number_of e

-- the answer, read; and what `?` hands on
pub fault_ok : {r : Result (Unit {0}) Refusal} {x : Unit {0}} {f : ℕ} → fault_number r ≡ f → r ≡ Ok x → 0 ≡ f
unfolding fault_number
fault_ok q e = sym (ap fault_number e) ∙ q

pub fault_err : {r : Result (Unit {0}) Refusal} {e : Refusal} {f : ℕ} → fault_number r ≡ f → r ≡ Err e → number_of e ≡ f
unfolding fault_number
fault_err q e = sym (ap fault_number e) ∙ q

pub fault_handed : (r : Result (Unit {0}) Refusal) (e : Refusal) → IsErrAnd r (λ x. x ≡ e) → fault_number r ≡ number_of e
unfolding fault_number
fault_handed r e h = let p = err_from_is_err_and r h in ap fault_number p.1 ∙ ap number_of p.2

unfoldable pub record_fault : ℕ → DayRecord → ℕ
record_fault n (bet a s) = cond (leb n a) 9 (cond (ltb s min_stake || ltb max_stake s) 15 0)
record_fault n (new_limit x) = cond (ltb max_limit x) 15 0

unfoldable pub first_fault : ℕ → List DayRecord → ℕ
unfolding record_fault
first_fault n [] = 0
first_fault n (r ∷ rs) = cond (eqb (record_fault n r) 0) (first_fault n rs) (record_fault n r)

unfoldable pub day_fault : ℕ → ℕ → ℕ → List DayRecord → ℕ
unfolding first_fault
day_fault n k opening rs = cond (bad_level k) 10 (cond (ltb max_records (length rs)) 16 (cond (ltb max_limit opening) 15 (first_fault n rs)))

-- ---- one record

-- a stake out of range
pub stake_out : (x : ℕ) → (min_stake ≤ x → x ≤ max_stake → ⊥) → (ltb x min_stake || ltb max_stake x) ≡ true
stake_out x h = go (test (ltb x min_stake)) (test (ltb max_stake x))
  where
    go : (ltb x min_stake ≡ true) ⊎ (ltb x min_stake ≡ false) → (ltb max_stake x ≡ true) ⊎ (ltb max_stake x ≡ false) → (ltb x min_stake || ltb max_stake x) ≡ true
    go (inl t) u = rw t refl
    go (inr t) (inl u) = rw (t, u) refl
    go (inr t) (inr u) = absurd (h (ltb-false x min_stake t) (ltb-false max_stake x u))

-- ---- the loop over a row

module _ (n : ℕ) (s : List ℕ) (i : ℕ) (l : i < length s / record_length) where
  from_here : first_fault n (drop i (records_in s))
      ≡ cond (eqb (record_fault n (record_at s (i * record_length))) 0) (first_fault n (drop (i + 1) (records_in s))) (record_fault n (record_at s (i * record_length)))
  unfolding first_fault
  from_here = rw (add-one, drop-cons (records_in s) i no_record (omega (arith, records-length s)), record_here s i l) refl

  pub fault_next : 0 ≡ record_fault n (record_at s (i * record_length)) → first_fault n (drop (i + 1) (records_in s)) ≡ first_fault n (drop i (records_in s))
  fault_next q = sym (from_here ∙ rw (eq-eqb (record_fault n (record_at s (i * record_length))) 0 (sym q)) refl)

  pub fault_found : (e : Refusal) → number_of e ≡ record_fault n (record_at s (i * record_length)) → number_of e ≡ first_fault n (drop i (records_in s))
  fault_found e q = q ∙ sym (from_here ∙ rw (ne_eqb (record_fault n (record_at s (i * record_length))) 0 (λ z. number_not_0 e (q ∙ z))) refl)

pub fault_none : (n : ℕ) (s : List ℕ) {i : ℕ} → length s / record_length ≡ i → 0 ≡ first_fault n (drop i (records_in s))
unfolding first_fault
fault_none n s {i} q =
    let e : drop i (records_in s) ≡ [] = rw (← q, ← records-length s) (drop-length (records_in s)) in
    sym (ap (first_fault n) e)

-- ---- the checks before it

module _ (n k opening : ℕ) (s : List ℕ) where
  pub fault_level : {b : Bool} → b ≡ bad_level k → b ≡ true → 10 ≡ day_fault n k opening (records_in s)
  unfolding day_fault
  fault_level q t = rw (sym q ∙ t) refl

  module _ {b : Bool} (q : b ≡ bad_level k) (f : b ≡ false) where
    pub fault_many : max_records < length s / record_length → 16 ≡ day_fault n k opening (records_in s)
    unfolding day_fault
    fault_many l = rw (sym q ∙ f, lt-ltb max_records (length (records_in s)) (omega (arith, l, records-length s))) refl

    module _ (few : length s / record_length ≤ max_records) where
      pub fault_opening : max_limit < opening → 15 ≡ day_fault n k opening (records_in s)
      unfolding day_fault
      fault_opening l = rw (sym q ∙ f, le-ltb max_records (length (records_in s)) (omega (arith, few, records-length s)), lt-ltb max_limit opening l) refl

      pub fault_records : {r : ℕ} → opening ≤ max_limit → r ≡ first_fault n (records_in s) → r ≡ day_fault n k opening (records_in s)
      unfolding day_fault
      fault_records l e = rw (sym q ∙ f, le-ltb max_records (length (records_in s)) (omega (arith, few, records-length s)), le-ltb max_limit opening l) e

-- ---- what the fault says of the checks

-- by record
module _ (G : Graph) (d : Day) where
  abbrev Checks : List DayRecord → Type 0
  Checks xs = ((first_fault G.n xs ≡ 0) × (check_records G xs d ≡ passed d)) ⊎ ((first_fault G.n xs ≢ 0) × (check_records G xs d ≡ refuse (first_fault G.n xs) 0))

  records-checked : (xs : List DayRecord) → Checks xs
  unfolding first_fault record_fault check_records
  records-checked [] = inl (refl, refl)
  records-checked (bet a s ∷ xs) = by (test (leb G.n a)) (test (ltb s min_stake || ltb max_stake s)) (records-checked xs)
    where
      by : (leb G.n a ≡ true) ⊎ (leb G.n a ≡ false) → ((ltb s min_stake || ltb max_stake s) ≡ true) ⊎ ((ltb s min_stake || ltb max_stake s) ≡ false) → Checks xs → Checks (bet a s ∷ xs)
      by (inl t) u c = rw t (inr (λ e. omega (arith, e), refl))
      by (inr t) (inl u) c = rw (t, u) (inr (λ e. omega (arith, e), refl))
      by (inr t) (inr u) c = rw (t, u) c
  records-checked (new_limit x ∷ xs) = by (test (ltb max_limit x)) (records-checked xs)
    where
      by : (ltb max_limit x ≡ true) ⊎ (ltb max_limit x ≡ false) → Checks xs → Checks (new_limit x ∷ xs)
      by (inl t) c = rw t (inr (λ e. omega (arith, e), refl))
      by (inr t) c = rw t c

-- a day's checks give the day, or are refused by its first fault
pub day_checked : (G : Graph) (k opening : ℕ) (rs : List DayRecord) {f : ℕ} → f ≡ day_fault G.n k opening rs
    → ((f ≡ 0) × (check_day G k opening rs ≡ passed (day_of G k opening rs))) ⊎ ((f ≢ 0) × (check_day G k opening rs ≡ refuse f 0))
unfolding check_day day_fault
day_checked G k opening rs {f} q = level (test (bad_level k))
  where
    d : Day
    d = day_of G k opening rs

    opened : (ltb max_limit opening ≡ true) ⊎ (ltb max_limit opening ≡ false) → bad_level k ≡ false → ltb max_records (length rs) ≡ false
        → ((f ≡ 0) × (check_day G k opening rs ≡ passed d)) ⊎ ((f ≢ 0) × (check_day G k opening rs ≡ refuse f 0))
    opened (inl t) b c = rw (q, b, c, t) (inr (λ e. omega (arith, e), refl))
    opened (inr t) b c = rw (q, b, c, t) (records-checked G d rs)

    many : (ltb max_records (length rs) ≡ true) ⊎ (ltb max_records (length rs) ≡ false) → bad_level k ≡ false
        → ((f ≡ 0) × (check_day G k opening rs ≡ passed d)) ⊎ ((f ≢ 0) × (check_day G k opening rs ≡ refuse f 0))
    many (inl t) b = rw (q, b, t) (inr (λ e. omega (arith, e), refl))
    many (inr t) b = opened (test (ltb max_limit opening)) b t

    level : (bad_level k ≡ true) ⊎ (bad_level k ≡ false) → ((f ≡ 0) × (check_day G k opening rs ≡ passed d)) ⊎ ((f ≢ 0) × (check_day G k opening rs ≡ refuse f 0))
    level (inl t) = rw (q, t) (inr (λ e. omega (arith, e), refl))
    level (inr t) = many (test (ltb max_records (length rs))) t

-- what holds of a day without a fault
module _ (n : ℕ) where
  inside_row : (rs : List DayRecord) → first_fault n rs ≡ 0 → (i a s : ℕ) → i < length rs → get_or rs i no_record ≡ bet a s → a < n
  unfolding first_fault record_fault
  inside_row [] z i a s l q = absurd (omega arith)
  inside_row (r ∷ rs) z i a s l q = by i l q (same_or_not (record_fault n r) 0) (inside_row rs)
    where
      of_bet : r ≡ bet a s → record_fault n r ≡ 0 → a < n
      of_bet e f = go (test (leb n a)) (ap (record_fault n) (sym e) ∙ f)
        where
          go : (leb n a ≡ true) ⊎ (leb n a ≡ false) → record_fault n (bet a s) ≡ 0 → a < n
          go (inl t) f = absurd (omega (arith, rw t at f))
          go (inr t) f = leb-false n a t

      by : (i : ℕ) → i < suc (length rs) → get_or (r ∷ rs) i no_record ≡ bet a s → (record_fault n r ≡ 0) ⊎ (record_fault n r ≢ 0)
          → (first_fault n rs ≡ 0 → (i a s : ℕ) → i < length rs → get_or rs i no_record ≡ bet a s → a < n) → a < n
      by i l q (inr d) ih = absurd (d (rw (ne_eqb (record_fault n r) 0 d) at z))
      by zero l q (inl f) ih = of_bet q f
      by (suc i) l q (inl f) ih = ih (rw (eq-eqb (record_fault n r) 0 f) at z) i a s (omega arith) q

pub record Sound (n k opening : ℕ) (rs : List DayRecord) : Type 0 where
  pub level : bad_level k ≡ false
  pub few : length rs ≤ max_records
  pub inside : (i a s : ℕ) → i < length rs → get_or rs i no_record ≡ bet a s → a < n

pub no_fault : (n k opening : ℕ) (rs : List DayRecord) → 0 ≡ day_fault n k opening rs → Sound n k opening rs
unfolding day_fault
no_fault n k opening rs z = by (test (bad_level k)) (test (ltb max_records (length rs))) (test (ltb max_limit opening))
  where
    by : (bad_level k ≡ true) ⊎ (bad_level k ≡ false) → (ltb max_records (length rs) ≡ true) ⊎ (ltb max_records (length rs) ≡ false) → (ltb max_limit opening ≡ true) ⊎ (ltb max_limit opening ≡ false) → Sound n k opening rs
    by (inl t) u v = absurd (omega (arith, rw t at z))
    by (inr t) (inl u) v = absurd (omega (arith, rw (t, u) at z))
    by (inr t) (inr u) (inl v) = absurd (omega (arith, rw (t, u, v) at z))
    by (inr t) (inr u) (inr v) = record { level = t; few = ltb-false max_records (length rs) u; inside = inside_row n rs (sym (rw (t, u, v) at z)) }

-- The numbers that a column marks, counted and written; and the first numbers of a row, written. Assumes nothing.
use Rattle.std.specs.Int.{from_bool}
use Rattle.std.specs.Prelude.{Result, Ok, Err, IsErrAnd, take, drop, ◌≡◌, ◌⊎◌, ◌≢◌, Bool, true, false, not, List, [], ◌∷◌, ◌++◌, ℕ, zero, suc, ◌+◌, ◌*◌, ◌-◌, ◌≤◌, ◌<◌, eqb, length}
use Rattle.std.proofs.Math.Path.{refl, ap}
use Rattle.std.proofs.Common.{sym, ap₂, ◌∙◌, inl, inr, arith, length-append, eq-eqb, ne_eqb, eqb-true}
use Rattle.std.proofs.lemmas.Bool.{eqb-false}
use Rattle.std.proofs.lemmas.Result.{err_from_is_err_and}
use Rattle.truss.specs.Limits.{max_links}
use Rattle.truss.specs.Lists.{filter, range, concat_map}
use Rattle.truss.specs.Record.{field}
use Rattle.truss.specs.Question.{numbers}
use Rattle.truss.specs.Call.{answer_bytes, answer_value, answer_second}
use Rattle.laws.proofs.Numbers.{same_or_not}
use Rattle.laws.proofs.Lists.{bool_same}
use Rattle.laws.proofs.Members.{range_in, concat_map_last}
use Rattle.laws.proofs.Sets.{filter_same}
use Rattle.laws.proofs.Answers.{fields_length, answer-length}
use Rattle.columns.specs.Columns.{cell, COLUMNS}
use Rattle.wire.specs.Writing.{written, written_none, written-length, written_then, written_next, back}
use Rattle.limits.specs.declared.refusal.Refusal.{Refusal}
use Rattle.limits.specs.declared.refusal.Refusal.TheVariants.{NoRoom}
use Rattle.index.specs.declared.answers.Answered.{Answered}
use Rattle.index.specs.Answered.{only}
use Rattle.holding.specs.Marks.{Marks}
use Rattle.ordering.specs.Rows.{marks_it, marked, marked_more, marked_same, marked-none, front, front_more, front_length}
use Rattle.question.specs.Replies.{shown_no_room, shown_wrote}
use Rattle.question.specs.Replies.{Lists as ListGives}

module _ (w : List ℕ) (m i : ℕ) where
  pub count_more : {x : ℕ} → x ≡ cell w m 0 i → x ≢ 0 → length (marked w m (i + 1)) ≡ length (marked w m i) + 1
  count_more q n = ap length (marked_more w m i (λ z. n (q ∙ z))) ∙ length-append (marked w m i) (i ∷ [])

  pub count_same : {x : ℕ} → x ≡ cell w m 0 i → x ≡ 0 → length (marked w m (i + 1)) ≡ length (marked w m i)
  count_same q z = ap length (marked_same w m i (sym q ∙ z))

pub marked_few : (w : List ℕ) (m i : ℕ) → length (marked w m i) ≤ i
marked_few w m zero = omega (arith, ap length (marked-none w m))
marked_few w m (suc i) =
    let ih = marked_few w m i in
    let e : suc i ≡ i + 1 = omega arith in
    let f = ap (λ (x : ℕ). length (marked w m x)) e in
    go f ih (same_or_not (cell w m 0 i) 0)
  where
    go : length (marked w m (suc i)) ≡ length (marked w m (i + 1)) → length (marked w m i) ≤ i → (cell w m 0 i ≡ 0) ⊎ (cell w m 0 i ≢ 0) → length (marked w m (suc i)) ≤ suc i
    go f ih (inl z) = omega (arith, f, ih, count_same w m i refl z)
    go f ih (inr n) = omega (arith, f, ih, count_more w m i refl n)

-- ---- their bytes

module _ (w : List ℕ) (m i : ℕ) where
  pub bytes_more : {x : ℕ} → x ≡ cell w m 0 i → x ≢ 0 → concat_map field (marked w m (i + 1)) ≡ concat_map field (marked w m i) ++ field i
  bytes_more q n = ap (concat_map field) (marked_more w m i (λ z. n (q ∙ z))) ∙ concat_map_last field (marked w m i) i

  pub bytes_same : {x : ℕ} → x ≡ cell w m 0 i → x ≡ 0 → concat_map field (marked w m (i + 1)) ≡ concat_map field (marked w m i)
  bytes_same q z = ap (concat_map field) (marked_same w m i (sym q ∙ z))

-- the whole answer
pub answer_bytes_lem : (xs : List ℕ) → answer_bytes (numbers xs) ≡ field (length xs) ++ concat_map field xs
unfolding answer_bytes
answer_bytes_lem xs = refl

-- a count is written, if there is room for as many numbers after it
pub record CountGives (count : ℕ) (out : List ℕ) (r : Result Answered Refusal) (out' : List ℕ) : Type 0 where
  pub no_room : (f : Refusal) → r ≡ Err f → (f ≡ NoRoom) × (length out < 2 + 2 * count) × (out' ≡ out)
  pub wrote : (a : Answered) → r ≡ Ok a → (a ≡ only (2 + 2 * count)) × (2 + 2 * count ≤ length out) × (out' ≡ written out 0 (field count))

module _ (xs out : List ℕ) where
  pub list_no_room : length out < 2 + 2 * length xs → ListGives xs out (Err NoRoom) out
  list_no_room l = shown_no_room (numbers xs) out (omega (arith, l, answer-length xs))

  pub list_wrote : {a : Answered} {out' : List ℕ} → 2 + 2 * length xs ≤ length out → out' ≡ written out 0 (field (length xs) ++ concat_map field xs) → a ≡ only (2 + 2 * length xs) → ListGives xs out (Ok a) out'
  unfolding answer_value answer_second
  list_wrote l q v =
      shown_wrote (numbers xs) out refl (omega (arith, l, answer-length xs)) (q ∙ ap (written out 0) (sym (answer_bytes_lem xs))) (v ∙ ap only (sym (answer-length xs)))

module _ {count : ℕ} {out : List ℕ} where
  pub count_no_room : length out < 2 + 2 * count → CountGives count out (Err NoRoom) out
  count_no_room l = record { no_room = λ f q. let e : ◌≡◌ {A = Result Answered Refusal} (Err NoRoom) (Err f) = q in (cc, l, refl); wrote = λ a q. let e : ◌≡◌ {A = Result Answered Refusal} (Err NoRoom) (Ok a) = q in absurd (let z : ◌≡◌ {A = ℕ} 0 1 = cc in omega arith) }

  pub count_wrote : {a : Answered} {out' : List ℕ} → 2 + 2 * count ≤ length out → a ≡ only (2 + 2 * count) → out' ≡ written out 0 (field count) → CountGives count out (Ok a) out'
  count_wrote {a} l v q = record {
    no_room = λ f e. let g : ◌≡◌ {A = Result Answered Refusal} (Ok a) (Err f) = e in absurd (let z : ◌≡◌ {A = ℕ} 0 1 = cc in omega arith);
    wrote = λ b e. let g : ◌≡◌ {A = Result Answered Refusal} (Ok a) (Ok b) = e in let f : b ≡ a = cc in (f ∙ v, l, q);
  }

module _ (xs out : List ℕ) {count : ℕ} (n : count ≡ length xs) where
  -- no room
  pub list_stops : (r : Result Answered Refusal) (f : Refusal) {out' : List ℕ} → IsErrAnd r (λ e. e ≡ f) → CountGives count out (Err f) out' → ListGives xs out r out'
  list_stops r f h C =
      let p = err_from_is_err_and r h in
      let g = C.no_room f refl in
      rw (p.1, p.2, g.0, g.2) (list_no_room xs out (omega (arith, g.1, n)))

  -- the numbers after their count
  pub list_goes_on : {a : Answered} {out₁ rest : List ℕ} → CountGives count out (Ok a) out₁ → rest ≡ written (take (length out₁ - 2) (drop 2 out₁)) 0 (concat_map field xs) → ListGives xs out (Ok a) (back out₁ 2 rest)
  list_goes_on {a} {out₁} C q =
      let g = C.wrote a refl in
      list_wrote xs out (omega (arith, g.1, n)) (written_next out (field (length xs)) (concat_map field xs) 0 {at = 2} (g.2 ∙ ap (λ (k : ℕ). written out 0 (field k)) n) refl (omega (arith, g.1, n)) q) (g.0 ∙ ap (λ (k : ℕ). only (2 + 2 * k)) n)

-- ---- what is marked is what passes a test

pub marked_are : (w : List ℕ) (m size : ℕ) (p : ℕ → Bool) → Marks (cell w m 0) size (λ (i : ℕ). p i ≡ true) → marked w m size ≡ filter p (range 0 size)
unfolding marked
marked_are w m size p M = filter_same (marks_it w m) p (range 0 size) (λ i k. at i (omega (arith, (range_in 0 size k).1)))
  where
    at : (i : ℕ) → i < size → marks_it w m i ≡ p i
    at i l = bool_same (marks_it w m i) (p i) (λ t. to t (eqb (cell w m 0 i) 0) refl) (λ t. back t (eqb (cell w m 0 i) 0) refl)
      where
        to : marks_it w m i ≡ true → (x : Bool) → eqb (cell w m 0 i) 0 ≡ x → p i ≡ true
        to t true e = absurd (let y : false ≡ true = sym (ap not e) ∙ t in let z : ◌≡◌ {A = ℕ} 0 1 = cc in omega arith)
        to t false e = M.yes i l (eqb-false (cell w m 0 i) 0 e)

        back : p i ≡ true → (x : Bool) → eqb (cell w m 0 i) 0 ≡ x → marks_it w m i ≡ true
        back t true e = absurd (M.no i l (eqb-true (cell w m 0 i) 0 e) t)
        back t false e = ap not e

-- ---- the loops

-- what counting and writing ask of the work space
pub record ColumnGiven (m size : ℕ) (w : List ℕ) : Type 0 where
  pub size_is : length w ≡ COLUMNS * m
  pub part : size ≤ m
  pub few : m ≤ max_links

pub counted_more : (w : List ℕ) (m i : ℕ) {c x r : ℕ} → c ≡ length (marked w m i) → x ≡ cell w m 0 i → r ≡ from_bool (not (eqb x 0)) → c + r ≡ length (marked w m (i + 1))
counted_more w m i {c} {x} {r} q e u = go (same_or_not x 0)
  where
    go : (x ≡ 0) ⊎ (x ≢ 0) → c + r ≡ length (marked w m (i + 1))
    go (inl z) = let v : r ≡ 0 = u ∙ rw (eq-eqb x 0 z) refl in omega (arith, q, v, count_same w m i e z)
    go (inr n) = let v : r ≡ 1 = u ∙ rw (ne_eqb x 0 n) refl in omega (arith, q, v, count_more w m i e n)

marked_rises : (w : List ℕ) (m i j : ℕ) → length (marked w m i) ≤ length (marked w m (i + j))
marked_rises w m i zero = let e : i ≡ i + 0 = omega arith in omega (arith, ap (λ (x : ℕ). length (marked w m x)) e)
marked_rises w m i (suc j) = go (same_or_not (cell w m 0 (i + j)) 0) (marked_rises w m i j)
  where
    e : length (marked w m (i + suc j)) ≡ length (marked w m (i + j + 1))
    e = ap (λ (x : ℕ). length (marked w m x)) (omega arith)

    go : (cell w m 0 (i + j) ≡ 0) ⊎ (cell w m 0 (i + j) ≢ 0) → length (marked w m i) ≤ length (marked w m (i + j)) → length (marked w m i) ≤ length (marked w m (i + suc j))
    go (inl z) ih = omega (arith, e, ih, count_same w m (i + j) refl z)
    go (inr n) ih = omega (arith, e, ih, count_more w m (i + j) refl n)

-- a number is written at a place, if x is not 0
pub record PutGives (at i x r : ℕ) (out out' : List ℕ) : Type 0 where
  pub none : x ≡ 0 → (r ≡ at) × (out' ≡ out)
  pub some : x ≢ 0 → (r ≡ at + 2) × (out' ≡ written out at (field i))

-- the first i numbers are written
pub record WriteState (w : List ℕ) (m i at : ℕ) (out₀ out : List ℕ) : Type 0 where
  pub place : at ≡ 2 * length (marked w m i)
  pub bytes : out ≡ written out₀ 0 (concat_map field (marked w m i))

pub write-none : (w : List ℕ) (m : ℕ) (out : List ℕ) → WriteState w m 0 0 out out
unfolding concat_map
write-none w m out =
    let e = marked-none w m in
    record { place = omega (arith, ap length e); bytes = written_none out 0 ∙ ap (λ (x : List ℕ). written out 0 (concat_map field x)) (sym e) }

module _ {w : List ℕ} {m size i at : ℕ} {out₀ out : List ℕ} (room : 2 * length (marked w m size) ≤ length out₀) (S : WriteState w m i at out₀ out) (l : i < size) where
  fits : 2 * length (marked w m i) ≤ length out₀
  fits = let e : i + (size - i) ≡ size = omega arith in omega (arith, room, marked_rises w m i (size - i), ap (λ (x : ℕ). length (marked w m x)) e)

  pub out_length : length out ≡ length out₀
  out_length = ap length S.bytes ∙ written-length out₀ 0 (concat_map field (marked w m i)) (omega (arith, fits, fields_length (marked w m i)))

  pub put_room : {x : ℕ} → x ≡ cell w m 0 i → x ≢ 0 → at + 2 ≤ length out
  put_room q n =
      let e : i + 1 + (size - (i + 1)) ≡ size = omega arith in
      omega (arith, room, S.place, count_more w m i q n, marked_rises w m (i + 1) (size - (i + 1)), ap (λ (x : ℕ). length (marked w m x)) e, out_length)

  pub write_more : {x r : ℕ} {out' : List ℕ} → x ≡ cell w m 0 i → PutGives at i x r out out' → WriteState w m (i + 1) r out₀ out'
  write_more {x} {r} {out'} q P = go (same_or_not x 0)
    where
      go : (x ≡ 0) ⊎ (x ≢ 0) → WriteState w m (i + 1) r out₀ out'
      go (inl z) = let p = P.none z in record { place = omega (arith, p.0, S.place, count_same w m i q z); bytes = p.1 ∙ S.bytes ∙ ap (written out₀ 0) (sym (bytes_same w m i q z)) }
      go (inr n) =
          let p = P.some n in
          let xs : List ℕ = concat_map field (marked w m i) in
          let e : at ≡ 0 + length xs = omega (arith, S.place, fields_length (marked w m i)) in
          record {
            place = omega (arith, p.0, S.place, count_more w m i q n);
            bytes = p.1 ∙ ap₂ (λ (o : List ℕ) (a : ℕ). written o a (field i)) S.bytes e ∙ written_then out₀ 0 xs (omega (arith, fits, fields_length (marked w m i))) (field i) ∙ ap (written out₀ 0) (sym (bytes_more w m i q n));
          }

pub write_done : {w : List ℕ} {m size i at : ℕ} {out₀ out : List ℕ} → i ≡ size → WriteState w m i at out₀ out → out ≡ written out₀ 0 (concat_map field (marked w m size))
write_done {w} {m} {size} {i} {at} {out₀} q S = S.bytes ∙ ap (λ (x : ℕ). written out₀ 0 (concat_map field (marked w m x))) q

-- ---- a row

-- what writing asks of the work space
pub record RowGiven (m r : ℕ) (w : List ℕ) : Type 0 where
  pub size_is : length w ≡ COLUMNS * m
  pub part : r ≤ m
  pub few : m ≤ max_links

-- the bytes of the first r numbers of column 3
abbrev pub row_bytes : List ℕ → ℕ → ℕ → List ℕ
row_bytes w m r = concat_map field (front (cell w m 3) r)

module _ (w : List ℕ) (m : ℕ) where
  pub row-none : (out : List ℕ) → out ≡ written out 0 (row_bytes w m 0)
  unfolding front range concat_map
  row-none out = written_none out 0

  pub row_more : (i : ℕ) {g : ℕ} → g ≡ cell w m 3 i → row_bytes w m i ++ field g ≡ row_bytes w m (i + 1)
  row_more i {g} q = ap (λ (x : ℕ). row_bytes w m i ++ field x) q ∙ sym (ap (concat_map field) (front_more (cell w m 3) i) ∙ concat_map_last field (front (cell w m 3) i) (cell w m 3 i))

  pub row-length : (i : ℕ) → length (row_bytes w m i) ≡ 2 * i
  row-length i = fields_length (front (cell w m 3) i) ∙ ap (λ (x : ℕ). 2 * x) (front_length (cell w m 3) i)

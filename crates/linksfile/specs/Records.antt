-- The records of a links file, one by one: the faults 1, 4 and 5 that a record has by itself, the end, and what the walk of document 01 over them gives when
-- it is known which records repeat an earlier one. Assumes nothing.
use Rattle.std.specs.Prelude.{◌≡◌, ◌⊎◌, ◌≢◌, Bool, true, false, not, ◌||◌, List, [], ◌∷◌, ◌++◌, map, eqb, length}
use Rattle.std.proofs.Math.Path.{refl, sym, ap}
use Rattle.std.proofs.Common.{◌∙◌, subst, inl, inr, length-append}
use mathlib.Core.List.Memᴰ.{append_cases as in-append}
use mathlib.Core.List.Memᴰ.{append_left as in_left}
use mathlib.Core.List.Memᴰ.{append_right as in_right}
use mathlib.Core.List.Memᴰ.{eq_of_singleton as in-single}
use mathlib.Core.List.Memᴰ.{head as here}
use mathlib.Core.List.Memᴰ.{not-nil as in-nil}
use mathlib.Core.List.{Memᴰ as In}
use Prim.Native.Nat.{ℕ, zero, suc, ◌+◌, ◌*◌, ◌-◌, ◌≤◌, ◌<◌}
use native.Mathlib.Omega.{arith}
use Rattle.std.proofs.Math.Dec.{leb}
use borrow.Author.Tests.{leb-false, eqb-false, lt-leb, ne_eqb}
use Rattle.truss.specs.Graph.{Link, Pair, link, link_of, member}
use Rattle.truss.specs.Refusal.{Refusal, Checked, passed, refused, refuse, refuse_if}
use Rattle.truss.specs.Record.{kind_end, kind_plain_link, body_length, holds_body, field_at, whole}
use Rattle.truss.specs.LinksFile.{Links, accepted, read_pairs}
use Rattle.laws.proofs.Lists.{test, or_left_false, or_right_false}
use Rattle.laws.proofs.Members.{map_in, in_map, member_in, in_member}
use Rattle.laws.proofs.Accepted.{not_refused}
use Rattle.laws.proofs.Reading.{read_step}
use Rattle.laws.proofs.Numbers.{same_or_not}
use Rattle.sorting.specs.Order.{NoRepeat}

-- a link as one number
abbrev pub key_of : Link → ℕ
key_of e = e.lo * 65536 + e.hi

-- the place of record i
abbrev pub place_of : ℕ → ℕ
place_of i = 5 + 5 * i

-- the pair that record i names
abbrev pub pair_at : List ℕ → ℕ → Pair
pair_at b i = record { first = field_at b (place_of i + 1); second = field_at b (place_of i + 3) }

-- the key of a plain link record, or the fault that it has by itself
unfoldable pub record_at : List ℕ → ℕ → ℕ → Checked ℕ
unfolding body_length holds_body
record_at b n at =
    let x = field_at b (at + 1) in
    let y = field_at b (at + 3) in
    refuse_if (not (whole b at kind_plain_link)) 1 at
    (refuse_if (leb n x || leb n y) 4 at
    (refuse_if (eqb x y) 5 at
    (passed (key_of (link x y)))))

-- the end, and nothing after it
unfoldable pub end_at : List ℕ → ℕ → Checked (Unit {0})
unfolding body_length holds_body
end_at b at =
    refuse_if (not (whole b at kind_end)) 1 at
    (refuse_if (not (eqb (length b) (at + 1))) 1 (at + 1)
    (passed tt))

-- the first i records have no fault by themselves, and these are their keys
abbrev pub Good : List ℕ → ℕ → (ℕ → ℕ) → ℕ → Type 0
Good b n κ i = (j : ℕ) → j < i → record_at b n (place_of j) ≡ passed (κ j)

-- the pairs of the first i records
unfoldable pub pairs_to : List ℕ → ℕ → List Pair
pairs_to b zero = []
pairs_to b (suc i) = pairs_to b i ++ (pair_at b i ∷ [])

pub pairs_length : (b : List ℕ) (i : ℕ) → length (pairs_to b i) ≡ i
unfolding pairs_to
pairs_length b zero = refl
pairs_length b (suc i) = omega (arith, length-append (pairs_to b i) (pair_at b i ∷ []), pairs_length b i)

pub pairs_in_lem : (b : List ℕ) (i : ℕ) {p : Pair} → In p (pairs_to b i) → (j : ℕ) × (j < i) × (p ≡ pair_at b j)
unfolding pairs_to
pairs_in_lem b zero m = absurd (in-nil m)
pairs_in_lem b (suc i) {p} m = go (in-append (pairs_to b i) m) (pairs_in_lem b i)
  where
    go : In p (pairs_to b i) ⊎ In p (pair_at b i ∷ []) → (In p (pairs_to b i) → (j : ℕ) × (j < i) × (p ≡ pair_at b j)) → (j : ℕ) × (j < suc i) × (p ≡ pair_at b j)
    go (inl k) ih = let r = ih k in (r.0, omega (arith, r.1), r.2)
    go (inr k) ih = (i, omega arith, in-single k)

pub in_pairs : (b : List ℕ) (i j : ℕ) → j < i → In (pair_at b j) (pairs_to b i)
unfolding pairs_to
in_pairs b zero j l = absurd (omega arith)
in_pairs b (suc i) j l = go (same_or_not j i) (in_pairs b i j)
  where
    go : (j ≡ i) ⊎ (j ≢ i) → (j < i → In (pair_at b j) (pairs_to b i)) → In (pair_at b j) (pairs_to b i ++ (pair_at b i ∷ []))
    go (inl q) ih = in_right (pairs_to b i) (here (ap (pair_at b) q))
    go (inr q) ih = in_left (pair_at b i ∷ []) (ih (omega arith))

-- ---- what a record without a fault says

pub record Sound (b : List ℕ) (n i k : ℕ) : Type 0 where
  pub is_whole : whole b (place_of i) kind_plain_link ≡ true
  pub first_below : (pair_at b i).first < n
  pub second_below : (pair_at b i).second < n
  pub different : (pair_at b i).first ≢ (pair_at b i).second
  pub key_is : k ≡ key_of (link_of (pair_at b i))

not_false : (t : Bool) → not t ≡ false → t ≡ true
not_false true q = refl
not_false false q = sym q

module _ (b : List ℕ) (n i k : ℕ) where
  x : ℕ
  x = (pair_at b i).first

  y : ℕ
  y = (pair_at b i).second

  pub sound : record_at b n (place_of i) ≡ passed k → Sound b n i k
  unfolding record_at x y
  sound h = record {
    is_whole = not_false (whole b (place_of i) kind_plain_link) t1.0;
    first_below = leb-false n x (or_left_false (leb n x) (leb n y) t4.0);
    second_below = leb-false n y (or_right_false (leb n x) (leb n y) t4.0);
    different = eqb-false x y t5.0;
    key_is = let e : passed (key_of (link x y)) ≡ passed k = t5.1 in sym cc;
  }
    where
      c5 : Checked ℕ
      c5 = passed (key_of (link x y))

      c4 : Checked ℕ
      c4 = refuse_if (eqb x y) 5 (place_of i) c5

      c1 : Checked ℕ
      c1 = refuse_if (leb n x || leb n y) 4 (place_of i) c4

      t1 : (not (whole b (place_of i) kind_plain_link) ≡ false) × (c1 ≡ passed k)
      t1 = not_refused (not (whole b (place_of i) kind_plain_link)) 1 (place_of i) k c1 h

      t4 : ((leb n x || leb n y) ≡ false) × (c4 ≡ passed k)
      t4 = not_refused (leb n x || leb n y) 4 (place_of i) k c4 t1.1

      t5 : (eqb x y ≡ false) × (c5 ≡ passed k)
      t5 = not_refused (eqb x y) 5 (place_of i) k c5 t4.1

-- links of accounts below 65,536 have one key each
pub key_inj : (e f : Link) → e.hi < 65536 → f.hi < 65536 → key_of e ≡ key_of f → e ≡ f
key_inj e f l k q =
    let a : e.lo ≡ f.lo = omega arith in
    let c : e.hi ≡ f.hi = omega arith in
    λ i. record { lo = a i; hi = c i }

-- ---- checks with the same tests refuse alike

refuse_same : {A B : Type 0} (a p b q : ℕ) → ◌≡◌ {A = Checked A} (refuse a p) (refuse b q) → ◌≡◌ {A = Checked B} (refuse a p) (refuse b q)
refuse_same {A} {B} a p b q h = let r : ◌≡◌ {A = Refusal} (record { number = a; place = p }) (record { number = b; place = q }) = cc in ap {B = Checked B} (λ z. refused z) r

three : (t₁ t₄ t₅ : Bool) (at k p key : ℕ) (rest : Checked Links)
    → refuse_if t₁ 1 at (refuse_if t₄ 4 at (refuse_if t₅ 5 at (passed key))) ≡ refuse k p → refuse_if t₁ 1 at (refuse_if t₄ 4 at (refuse_if t₅ 5 at rest)) ≡ refuse k p
three true t₄ t₅ at k p key rest h = refuse_same {A = ℕ} 1 at k p h
three false true t₅ at k p key rest h = refuse_same {A = ℕ} 4 at k p h
three false false true at k p key rest h = refuse_same {A = ℕ} 5 at k p h
three false false false at k p key rest h = let z : ◌≡◌ {A = ℕ} 0 1 = cc in absurd (omega arith)

two_tests : (t₁ t₂ : Bool) (at k p : ℕ) (u : Unit {0}) (rest : Checked Links)
    → refuse_if t₁ 1 at (refuse_if t₂ 1 (at + 1) (passed u)) ≡ refuse k p → refuse_if t₁ 1 at (refuse_if t₂ 1 (at + 1) rest) ≡ refuse k p
two_tests true t₂ at k p u rest h = refuse_same {A = Unit {0}} 1 at k p h
two_tests false true at k p u rest h = refuse_same {A = Unit {0}} 1 (at + 1) k p h
two_tests false false at k p u rest h = let z : ◌≡◌ {A = ℕ} 0 1 = cc in absurd (omega arith)

two_passed : (t₁ t₂ : Bool) (at : ℕ) (rest : Checked Links) → refuse_if {A = Unit {0}} t₁ 1 at (refuse_if t₂ 1 (at + 1) (passed tt)) ≡ passed tt
    → refuse_if t₁ 1 at (refuse_if t₂ 1 (at + 1) rest) ≡ rest
two_passed true t₂ at rest h = let z : ◌≡◌ {A = ℕ} 0 1 = cc in absurd (omega arith)
two_passed false true at rest h = let z : ◌≡◌ {A = ℕ} 0 1 = cc in absurd (omega arith)
two_passed false false at rest h = refl

-- ---- the walk

module _ (b : List ℕ) (n m : ℕ) (κ : ℕ → ℕ) (small : n ≤ 65535) where
  -- a record's link is among those of earlier records only if its key is
  new_link : (i : ℕ) → Good b n κ (suc i) → ((j : ℕ) → j < i → κ j ≢ κ i) → member (map link_of (pairs_to b i)) (link_of (pair_at b i)) ≡ false
  new_link i good new = go (test (member (map link_of (pairs_to b i)) (link_of (pair_at b i))))
    where
      clash : (p : Pair) × In p (pairs_to b i) × (link_of (pair_at b i) ≡ link_of p) → ⊥
      clash (p, mp, q) = at (pairs_in_lem b i mp)
        where
          at : (j : ℕ) × (j < i) × (p ≡ pair_at b j) → ⊥
          at (j, l, e) =
              new j l ((sound b n j (κ j) (good j (omega arith))).key_is ∙ ap (λ (z : Pair). key_of (link_of z)) (sym e) ∙ ap key_of (sym q) ∙ sym (sound b n i (κ i) (good i (omega arith))).key_is)

      go : (member (map link_of (pairs_to b i)) (link_of (pair_at b i)) ≡ true) ⊎ (member (map link_of (pairs_to b i)) (link_of (pair_at b i)) ≡ false)
          → member (map link_of (pairs_to b i)) (link_of (pair_at b i)) ≡ false
      go (inl c) = absurd (clash (map_in link_of (pairs_to b i) (member_in (map link_of (pairs_to b i)) (link_of (pair_at b i)) c)))
      go (inr c) = c

  -- past the first i records
  pub walk : (i : ℕ) → i ≤ m → Good b n κ i → NoRepeat κ i → read_pairs b n m 5 [] ≡ read_pairs b n (m - i) (place_of i) (pairs_to b i)
  unfolding pairs_to
  walk zero l good none = let e : m - 0 ≡ m = omega arith in rw e refl
  walk (suc i) l good none =
      walk i (omega arith) (λ j k. good j (omega arith)) (λ j r p q. none j r p (omega arith))
      ∙ ap (λ (r : ℕ). read_pairs b n r (place_of i) (pairs_to b i)) left
      ∙ read_step b n (m - suc i) (place_of i) (pairs_to b i) (pair_at b i).first (pair_at b i).second s.is_whole refl refl s.first_below s.second_below s.different
      (new_link i good (λ j k. none j i k (omega arith)))
      ∙ ap (λ (a : ℕ). read_pairs b n (m - suc i) a (pairs_to b i ++ (pair_at b i ∷ []))) next
    where
      s : Sound b n i (κ i)
      s = sound b n i (κ i) (good i (omega arith))

      left : m - i ≡ suc (m - suc i)
      left = omega arith

      next : place_of i + 5 ≡ place_of (suc i)
      next = omega arith

  -- the first repeat
  pub walk_repeat : (r : ℕ) → r < m → Good b n κ (suc r) → NoRepeat κ r → (j : ℕ) → j < r → κ j ≡ κ r → read_pairs b n m 5 [] ≡ refuse 6 (place_of r)
  unfolding read_pairs body_length holds_body
  walk_repeat r l good none j lj same =
      walk r (omega arith) (λ i k. good i (omega arith)) none ∙ ap (λ (z : ℕ). read_pairs b n z (place_of r) (pairs_to b r)) left
      ∙ rw (s.is_whole, lt-leb n (pair_at b r).first s.first_below, lt-leb n (pair_at b r).second s.second_below, ne_eqb (pair_at b r).first (pair_at b r).second s.different, again) refl
    where
      s : Sound b n r (κ r)
      s = sound b n r (κ r) (good r (omega arith))

      t : Sound b n j (κ j)
      t = sound b n j (κ j) (good j (omega arith))

      left : m - r ≡ suc (m - suc r)
      left = omega arith

      same_link_lem : link_of (pair_at b j) ≡ link_of (pair_at b r)
      same_link_lem = key_inj (link_of (pair_at b j)) (link_of (pair_at b r)) (omega (arith, t.first_below, t.second_below)) (omega (arith, s.first_below, s.second_below))
          (sym t.key_is ∙ same ∙ s.key_is)

      again : member (map link_of (pairs_to b r)) (link_of (pair_at b r)) ≡ true
      again = in_member (map link_of (pairs_to b r)) (subst (λ (e : Link). In e (map link_of (pairs_to b r))) same_link_lem (in_map link_of (pairs_to b r) (in_pairs b r j lj)))

  -- the first record with a fault of its own
  pub walk_fault : (t k p : ℕ) → t < m → Good b n κ t → NoRepeat κ t → record_at b n (place_of t) ≡ refuse k p → read_pairs b n m 5 [] ≡ refuse k p
  unfolding read_pairs record_at body_length holds_body
  walk_fault t k p l good none f =
      walk t (omega arith) good none ∙ ap (λ (z : ℕ). read_pairs b n z (place_of t) (pairs_to b t)) left
      ∙ three (not (whole b (place_of t) kind_plain_link)) (leb n (pair_at b t).first || leb n (pair_at b t).second) (eqb (pair_at b t).first (pair_at b t).second) (place_of t) k p _ _ f
    where
      left : m - t ≡ suc (m - suc t)
      left = omega arith

  -- the end, with a fault
  pub walk_end_fault : (k p : ℕ) → Good b n κ m → NoRepeat κ m → end_at b (place_of m) ≡ refuse k p → read_pairs b n m 5 [] ≡ refuse k p
  unfolding read_pairs end_at body_length holds_body
  walk_end_fault k p good none f =
      walk m (omega arith) good none ∙ ap (λ (z : ℕ). read_pairs b n z (place_of m) (pairs_to b m)) left
      ∙ two_tests (not (whole b (place_of m) kind_end)) (not (eqb (length b) (place_of m + 1))) (place_of m) k p _ _ f
    where
      left : m - m ≡ 0
      left = omega arith

  -- and without one
  pub walk-done : Good b n κ m → NoRepeat κ m → end_at b (place_of m) ≡ passed tt → read_pairs b n m 5 [] ≡ accepted n (pairs_to b m)
  unfolding read_pairs end_at body_length holds_body
  walk-done good none f =
      walk m (omega arith) good none ∙ ap (λ (z : ℕ). read_pairs b n z (place_of m) (pairs_to b m)) left
      ∙ two_passed (not (whole b (place_of m) kind_end)) (not (eqb (length b) (place_of m + 1))) (place_of m) (accepted n (pairs_to b m)) f
    where
      left : m - m ≡ 0
      left = omega arith

-- The groups at k as a row of numbers, and their margins, as numbers and as bytes. Assumes nothing.
use Rattle.std.specs.Prelude.{◌≡◌, ◌⊎◌, ◌≢◌, cond, List, [], ◌∷◌, ◌++◌, map, ℕ, ◌+◌, ◌*◌, ◌-◌, ◌/◌, ◌%◌, ◌≤◌, ◌<◌, length, get_or, set, ℤ, pos, ◌-ℤ◌}
use Rattle.std.proofs.Math.Path.{refl, sym, ap}
use Rattle.std.proofs.Common.{◌∙◌, inl, inr, append-nil, zero-add, arith, length-append, SFits, to_z, of_z, to_z-of_z, eq-eqb, ne_eqb}
use Rattle.std.proofs.Math.Numerals.{add-one}
use Rattle.std.proofs.Math.Dec.{eqb}
use Rattle.std.proofs.Math.ListN.{length-map, get_or-append}
use Rattle.std.proofs.lemmas.List.{get_or_at}
use Rattle.std.proofs.Math.IntN.{negsuc}
use Rattle.std.specs.Int.Signed.{mag}
use Rattle.std.specs.Int.{w64, to_be_bytes}
use Rattle.std.proofs.Math.Facts.{to_z_pos}
use borrow.Author.Rules.{sfits_of}
use Rattle.truss.specs.Limits.{margin_length}
use Rattle.truss.specs.Lists.{filter, range, concat_map}
use Rattle.truss.specs.Call.{overwrite}
use Rattle.truss.specs.Bets.{wide_field, complement, margin_bytes}
use Rattle.laws.proofs.Numbers.{same_or_not}
use Rattle.laws.proofs.Bets.{margin_mag}
use Rattle.laws.proofs.Members.{range_last, range_length, filter_last, map_last, concat_map_last}
use Rattle.columns.specs.Columns.{cell, store, COLUMNS, link_bound, entry_bound}
use Rattle.columns.specs.Laws.{stored, kept_entry, kept_column, length-store}
use Rattle.wire.specs.Writing.{written, written_none}
use Rattle.day.specs.Sums.{SUM}
use Rattle.pools.specs.Pools.{TOP}

abbrev pub LEVEL : ℕ
LEVEL = 7

-- ---- one margin

-- a margin of numbers of 32 bits fits 64 bits with a sign
pub margin_fits : {limit sum : ℕ} → limit < entry_bound → sum < entry_bound → SFits w64 (pos limit -ℤ pos sum)
margin_fits {limit} {sum} l s = sfits_of (omega (arith, margin_mag limit sum (entry_bound - 1) (omega arith) (omega arith)))

pub read_small : {x : ℕ} → x < entry_bound → to_z w64 x ≡ pos x
read_small l = to_z_pos w64 (omega arith)

pub read_back : {z : ℤ} → SFits w64 z → to_z w64 (of_z w64 z) ≡ z
read_back f = to_z-of_z f

-- as it is given back
pub margin_told : {z : ℤ} {limit sum : ℕ} → z ≡ pos limit -ℤ pos sum → limit < entry_bound → sum < entry_bound → (to_z w64 (of_z w64 z) ≡ pos limit -ℤ pos sum) × (mag (to_z w64 (of_z w64 z)) < entry_bound)
margin_told {z} {limit} {sum} q l s =
    let e : to_z w64 (of_z w64 z) ≡ pos limit -ℤ pos sum = rw q (read_back (margin_fits l s)) in
    (e, rw e (omega (arith, margin_mag limit sum (entry_bound - 1) (omega arith) (omega arith))))

pub told_back : {z : ℤ} → mag z < entry_bound → to_z w64 (of_z w64 z) ≡ z
told_back l = read_back (sfits_of (omega arith))

-- as bytes, high byte first, of its two's complement
word_bytes : (x : ℕ) → to_be_bytes w64 x ≡ wide_field (x / 0x1_0000_0000) ++ wide_field x
word_bytes x =
    let e7 : x / 72057594037927936 % 256 ≡ x / 4294967296 / 65536 / 256 % 256 = omega arith in
    let e6 : x / 281474976710656 % 256 ≡ x / 4294967296 / 65536 % 256 = omega arith in
    let e5 : x / 1099511627776 % 256 ≡ x / 4294967296 / 256 % 256 = omega arith in
    let e3 : x / 16777216 % 256 ≡ x / 65536 / 256 % 256 = omega arith in
    λ i. e7 i ∷ e6 i ∷ e5 i ∷ x / 4294967296 % 256 ∷ e3 i ∷ x / 65536 % 256 ∷ x / 256 % 256 ∷ x % 256 ∷ []

cast_is : (z : ℤ) → of_z w64 z ≡ complement z
unfolding complement
cast_is (pos x) = refl
cast_is (negsuc x) = omega arith

pub margin_be : (z : ℤ) → to_be_bytes w64 (of_z w64 z) ≡ margin_bytes z
unfolding margin_bytes
margin_be z = word_bytes (of_z w64 z) ∙ ap (λ (x : ℕ). wide_field (x / 0x1_0000_0000) ++ wide_field x) (cast_is z)

-- ---- the row

-- the groups below count that name themselves
unfoldable pub tops_of : List ℕ → ℕ → ℕ → List ℕ
unfolding filter range
tops_of w m count = filter (λ g. eqb (cell w m TOP g) g) (range 0 count)

module _ (w : List ℕ) (m g : ℕ) where
  tops_next : tops_of w m (g + 1) ≡ tops_of w m g ++ cond (eqb (cell w m TOP g) g) (g ∷ []) []
  unfolding tops_of
  tops_next = rw add-one (ap (filter (λ h. eqb (cell w m TOP h) h)) (range_last 0 g ∙ ap (λ (x : ℕ). range 0 g ++ (x ∷ [])) (zero-add g)) ∙ filter_last (λ h. eqb (cell w m TOP h) h) (range 0 g) g)

  tops_more : cell w m TOP g ≡ g → tops_of w m (g + 1) ≡ tops_of w m g ++ (g ∷ [])
  tops_more e = tops_next ∙ rw (eq-eqb (cell w m TOP g) g e) refl

  tops_same : cell w m TOP g ≢ g → tops_of w m (g + 1) ≡ tops_of w m g
  tops_same n = tops_next ∙ rw (ne_eqb (cell w m TOP g) g n) (append-nil (tops_of w m g))

-- the groups at k among the first g, t of them, stand in column LEVEL; the other columns stay
pub record Listed (m g t : ℕ) (w₀ w : List ℕ) : Type 0 where
  pub length_is : length w ≡ length w₀
  pub count : t ≡ length (tops_of w₀ m g)
  pub few : t ≤ g
  pub row : (j : ℕ) → j < t → cell w m LEVEL j ≡ get_or (tops_of w₀ m g) j 0
  pub after : (j : ℕ) → t ≤ j → cell w m LEVEL j ≡ cell w₀ m LEVEL j
  pub others : (c y : ℕ) → c ≢ LEVEL → y < m → cell w m c y ≡ cell w₀ m c y

pub listed-none : (m : ℕ) (w : List ℕ) → Listed m 0 0 w w
unfolding tops_of
listed-none m w = record { length_is = refl; count = refl; few = omega arith; row = λ j l. absurd (omega arith); after = λ j l. refl; others = λ c y n l. refl }

-- one group
pub data TakeGives (m g t r : ℕ) (w w' : List ℕ) : Type 0 where
  skipped : cell w m TOP g ≢ g → r ≡ t → w' ≡ w → TakeGives m g t r w w'
  taken : cell w m TOP g ≡ g → r ≡ t + 1 → w' ≡ store w m LEVEL t g → TakeGives m g t r w w'

pub take-length : {m g t r : ℕ} {w w' : List ℕ} → TakeGives m g t r w w' → length w' ≡ length w
take-length (skipped n q e) = ap length e
take-length {m} {g} {t} {w = w} (taken n q e) = ap length e ∙ length-store w m LEVEL t g

module _ {m count g t : ℕ} {w₀ w : List ℕ} (size : length w₀ ≡ COLUMNS * m) (part : count ≤ m) (L : Listed m g t w₀ w) (l : g < count) where
  is_top : cell w m TOP g ≡ cell w₀ m TOP g
  is_top = L.others TOP g (omega arith) (omega (arith, l, part))

  pub listed_room : t < m
  listed_room = omega (arith, L.few, l, part)

  pub listed_more : {r : ℕ} {w' : List ℕ} → TakeGives m g t r w w' → Listed m (g + 1) r w₀ w'
  listed_more (skipped n q e) =
      let same : tops_of w₀ m (g + 1) ≡ tops_of w₀ m g = tops_same w₀ m g (λ z. n (is_top ∙ z)) in
      rw (q, e) (record { length_is = L.length_is; count = L.count ∙ sym (ap length same); few = omega (arith, L.few); row = λ j h. L.row j h ∙ ap (λ (r : List ℕ). get_or r j 0) (sym same); after = L.after; others = L.others })
  listed_more (taken n q e) = rw (q, e) (record {
    length_is = length-store w m LEVEL t g ∙ L.length_is;
    count = omega (arith, L.count, ap length more, length-append (tops_of w₀ m g) (g ∷ []));
    few = omega (arith, L.few);
    row = λ j h. at j h (same_or_not j t);
    after = λ j h. kept_entry w m LEVEL t j g (omega (arith, h)) ∙ L.after j (omega (arith, h));
    others = λ c y d k. kept_column w m LEVEL c t y g (λ s. d (sym s)) listed_room k ∙ L.others c y d k;
  })
    where
      more : tops_of w₀ m (g + 1) ≡ tops_of w₀ m g ++ (g ∷ [])
      more = tops_more w₀ m g (sym is_top ∙ n)

      at : (j : ℕ) → j < t + 1 → (j ≡ t) ⊎ (j ≢ t) → cell (store w m LEVEL t g) m LEVEL j ≡ get_or (tops_of w₀ m (g + 1)) j 0
      at j h (inl s) = rw (s, more) (stored w m LEVEL t g (omega arith) listed_room (L.length_is ∙ size) ∙ sym (get_or_at (tops_of w₀ m g) g [] 0 t (sym L.count)))
      at j h (inr s) =
          let before : j < t = omega (arith, h, s) in
          rw more (kept_entry w m LEVEL t j g s ∙ L.row j before ∙ sym (get_or-append (tops_of w₀ m g) (g ∷ []) 0 j (omega (arith, before, L.count))))

pub listed-all : {m count g t : ℕ} {w₀ w : List ℕ} → g ≡ count → Listed m g t w₀ w → Listed m count t w₀ w
listed-all e L = rw e at L

-- ---- margins

-- what is read: the first r groups of the row, and a limit that fits
pub record RowGiven (m r limit : ℕ) (w : List ℕ) : Type 0 where
  pub size_is : length w ≡ COLUMNS * m
  pub few : m ≤ link_bound
  pub limited : limit < entry_bound
  pub part : r ≤ m
  pub below : (j : ℕ) → j < r → cell w m LEVEL j < m

pub row-part : {m r limit j : ℕ} {w : List ℕ} → RowGiven m r limit w → j < r → RowGiven m (j + 1) limit w
row-part R l = record { size_is = R.size_is; few = R.few; limited = R.limited; part = omega (arith, l, R.part); below = λ i h. R.below i (omega (arith, h, l)) }

-- the margin of group j of the row
abbrev pub margin_in : List ℕ → ℕ → ℕ → ℕ → ℤ
margin_in w m limit j = pos limit -ℤ pos (cell w m SUM (cell w m LEVEL j))

unfoldable pub margins_in : List ℕ → ℕ → ℕ → ℕ → List ℤ
unfolding range
margins_in w m limit r = map (margin_in w m limit) (range 0 r)

module _ (w : List ℕ) (m limit : ℕ) where
  pub margins_none : margins_in w m limit 0 ≡ []
  unfolding margins_in
  margins_none = refl

  pub margins_more : (j : ℕ) → margins_in w m limit (j + 1) ≡ margins_in w m limit j ++ (margin_in w m limit j ∷ [])
  unfolding margins_in
  margins_more j = rw add-one (ap (map (margin_in w m limit)) (range_last 0 j ∙ ap (λ (x : ℕ). range 0 j ++ (x ∷ [])) (zero-add j)) ∙ map_last (margin_in w m limit) (range 0 j) j)

  pub margins_length : (r : ℕ) → length (margins_in w m limit r) ≡ r
  unfolding margins_in
  margins_length r = length-map (range 0 r) (margin_in w m limit) ∙ range_length 0 r

-- one number more over the front of a buffer
over_next : {A : Type 0} (xs out : List A) (z : A) → length xs < length out → set (overwrite xs out) (length xs) z ≡ overwrite (xs ++ (z ∷ [])) out
over_next [] [] z l = absurd (omega arith)
over_next [] (o ∷ os) z l = refl
over_next (x ∷ xs) [] z l = absurd (omega arith)
over_next {A} (x ∷ xs) (o ∷ os) z l = ap {B = List A} (λ r. x ∷ r) (over_next xs os z (omega arith))

pub over_margin : (w : List ℕ) (m limit j : ℕ) (out₀ : List ℤ) {out : List ℤ} {z : ℤ} → out ≡ overwrite (margins_in w m limit j) out₀ → j < length out₀ → z ≡ margin_in w m limit j → mag z < entry_bound
    → set out j (to_z w64 (of_z w64 z)) ≡ overwrite (margins_in w m limit (j + 1)) out₀
over_margin w m limit j out₀ {out} {z} q l e small =
    let n : length (margins_in w m limit j) ≡ j = margins_length w m limit j in
    rw (told_back small, q, e, margins_more w m limit j) (ap (λ (i : ℕ). set (overwrite (margins_in w m limit j) out₀) i (margin_in w m limit j)) (sym n) ∙ over_next (margins_in w m limit j) out₀ (margin_in w m limit j) (omega (arith, n, l)))

-- as bytes
abbrev pub bytes_in : List ℕ → ℕ → ℕ → ℕ → List ℕ
bytes_in w m limit r = concat_map margin_bytes (margins_in w m limit r)

pub margin_eight : (z : ℤ) → length (margin_bytes z) ≡ margin_length
unfolding margin_bytes
margin_eight z = refl

pub bytes_length : (zs : List ℤ) → length (concat_map margin_bytes zs) ≡ length zs * margin_length
unfolding concat_map
bytes_length [] = refl
bytes_length (z ∷ zs) = length-append (margin_bytes z) (concat_map margin_bytes zs) ∙ omega (arith, margin_eight z, bytes_length zs)

module _ (w : List ℕ) (m limit : ℕ) where
  pub bytes_none : (out : List ℕ) → out ≡ written out 0 (bytes_in w m limit 0)
  unfolding margins_in concat_map
  bytes_none out = written_none out 0

  pub bytes_more : (j : ℕ) {z : ℤ} → z ≡ margin_in w m limit j → bytes_in w m limit j ++ margin_bytes z ≡ bytes_in w m limit (j + 1)
  bytes_more j {z} q = ap (λ (x : ℤ). bytes_in w m limit j ++ margin_bytes x) q ∙ sym (ap (concat_map margin_bytes) (margins_more w m limit j) ∙ concat_map_last margin_bytes (margins_in w m limit j) (margin_in w m limit j))

  pub bytes_eight : (r : ℕ) → length (bytes_in w m limit r) ≡ r * margin_length
  bytes_eight r = bytes_length (margins_in w m limit r) ∙ ap (λ (x : ℕ). x * margin_length) (margins_length w m limit r)

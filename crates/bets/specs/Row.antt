-- The records of a day as one row of bytes, nine to a record. Assumes nothing.
use Rattle.std.specs.Prelude.{◌≡◌, refl, List, [], ◌∷◌, ◌++◌, ℕ, zero, suc, ◌+◌, ◌*◌, ◌-◌, ◌/◌, ◌%◌, ◌≤◌, ◌<◌, length, take, get_or, drop}
use Rattle.std.proofs.Common.{◌∙◌, add-one, arith, length-append, take-suc}
use Rattle.truss.specs.Lists.{concat_map}
use Rattle.truss.specs.Limits.{record_length}
use Rattle.truss.specs.Bets.{wide_field}
use Rattle.laws.proofs.Members.{concat_map_last}
use Rattle.wire.specs.Writing.{written, written_none, written_then, written-part}
use Rattle.bets.specs.declared.Bet.{Bet}

-- a record's nine bytes: its kind, its account, its amount
abbrev pub bet_bytes : Bet → List ℕ
bet_bytes b = b.kind ∷ (wide_field b.account ++ wide_field b.amount)

-- the bytes of the first n records
unfoldable pub row_of : ℕ → List Bet → List ℕ
row_of n bs = concat_map bet_bytes (take n bs)

-- the highest of four bytes
pub top_byte : (x : ℕ) → x / 16777216 % 256 ≡ x / 65536 / 256 % 256
top_byte x = omega arith

-- what stands where no record is
abbrev pub no_bet : Bet
no_bet = record { kind = 0; account = 0; amount = 0 }

-- ---- laws

row_of_more : (bs : List Bet) (i : ℕ) → i < length bs → row_of (i + 1) bs ≡ row_of i bs ++ bet_bytes (get_or bs i no_bet)
unfolding row_of
row_of_more bs i l = rw (add-one, take-suc bs i no_bet l) (concat_map_last bet_bytes (take i bs) (get_or bs i no_bet))

pub row_of_length : (n : ℕ) (bs : List Bet) → n ≤ length bs → length (row_of n bs) ≡ record_length * n
unfolding row_of concat_map
row_of_length zero bs l = refl
row_of_length (suc n) [] l = absurd (omega arith)
row_of_length (suc n) (b ∷ bs) l = length-append (bet_bytes b) (concat_map bet_bytes (take n bs)) ∙ omega (arith, row_of_length n bs (omega arith))

-- the bytes of no records
pub copied_none : (w : List ℕ) (bs : List Bet) → w ≡ written w 0 (row_of 0 bs)
unfolding row_of concat_map
copied_none w bs = written_none w 0

-- one record more
pub copied_more : (w₀ : List ℕ) (bs : List Bet) (i : ℕ) {w w' : List ℕ} → i < length bs → record_length * i + record_length ≤ length w₀ → w ≡ written w₀ 0 (row_of i bs) → w' ≡ written w (record_length * i) (bet_bytes (get_or bs i no_bet))
    → w' ≡ written w₀ 0 (row_of (i + 1) bs)
copied_more w₀ bs i {w} {w'} l room q u =
    let n : length (row_of i bs) ≡ record_length * i = row_of_length i bs (omega arith) in
    let e : record_length * i ≡ 0 + length (row_of i bs) = omega (arith, n) in
    u ∙ rw (q, e, row_of_more bs i l) (written_then w₀ 0 (row_of i bs) (omega (arith, n)) (bet_bytes (get_or bs i no_bet)))

-- a record that was put in the part of the row that begins at its place
pub bet_put : (w : List ℕ) (i : ℕ) (b : Bet) {rec ys : List ℕ} → record_length * i ≤ length w → rec ≡ bet_bytes b → ys ≡ written (take (length w - record_length * i) (drop (record_length * i) w)) 0 rec
    → take (record_length * i) w ++ (ys ++ drop (length w - record_length * i) (drop (record_length * i) w)) ≡ written w (record_length * i) (bet_bytes b)
bet_put w i b l q e = rw (e, q) (written-part w (record_length * i) (length w - record_length * i) (bet_bytes b) (omega arith))

-- A trial on the row of bytes that was made of the records is one on the records. Assumes nothing.
use Rattle.std.specs.Prelude.{Result, ◌≡◌, refl, ◌⊎◌, cond, ◌||◌, List, [], ◌∷◌, ◌++◌, map, ℕ, zero, suc, ◌+◌, ◌*◌, ◌/◌, ◌%◌, ◌≤◌, ◌<◌, ltb, length, get_or, take, ℤ}
use Rattle.std.proofs.Common.{sym, ap, ◌∙◌, inl, inr, suc-add, arith, take_all, take_at, length-take-le, ext_get_or, lt-ltb}
use Rattle.std.proofs.Math.Nat.{min-le_left, min-le_right}
use Rattle.std.proofs.lemmas.List.{length-map}
use Rattle.truss.specs.Limits.{max_records, record_length}
use Rattle.truss.specs.Lists.{concat_map}
use Rattle.truss.specs.Graph.{Graph}
use Rattle.truss.specs.Refusal.{Checked, passed, refused, refuse, refuse_if, and_then}
use Rattle.truss.specs.Record.{byte_at}
use Rattle.truss.specs.IndexFile.{read_index}
use Rattle.truss.specs.Question.{bad_level}
use Rattle.truss.specs.Bets.{DayRecord, wide_at, record_at, records_in, Day, check_day, checked_day, settle_day, try_limit}
use Rattle.truss.specs.Trial.{no_record}
use Rattle.laws.proofs.Numbers.{less_or_not}
use Rattle.laws.proofs.Sets.{map_at}
use Rattle.columns.specs.Columns.{entry_bound}
use Rattle.columns.specs.Wiping.{zeros}
use Rattle.wire.specs.Writing.{written, written_start}
use Rattle.limits.specs.declared.refusal.Refusal.{Refusal}
use Rattle.day.specs.Records.{records-length, record_here}
use Rattle.bets.specs.Row.{bet_bytes, row_of, row_of_length, no_bet}
use Rattle.bets.specs.declared.Bet.{Bet}
use Rattle.bets.specs.Limit.{most_bets, row_length, record_of, LimitGives, RowGives, counted}

-- ---- a row read back

skip : (xs ys : List ℕ) (j : ℕ) → get_or (xs ++ ys) (length xs + j) 0 ≡ get_or ys j 0
skip [] ys j = ap (λ (i : ℕ). get_or ys i 0) (omega arith)
skip (x ∷ xs) ys j = ap (λ (i : ℕ). get_or (x ∷ (xs ++ ys)) i 0) (suc-add (length xs) j) ∙ skip xs ys j

-- the first record
wide_back : (x : ℕ) → ((x / 65536 / 256 % 256) * 256 + x / 65536 % 256) * 65536 + ((x / 256 % 256) * 256 + x % 256) ≡ x % entry_bound
wide_back x = omega arith

record_first : (b : Bet) (rest : List ℕ) → record_at (bet_bytes b ++ rest) 0 ≡ record_of b
unfolding record_at
record_first b rest = rw (wide_back b.account, wide_back b.amount) refl

-- and those after it
record_next : (b : Bet) (rest : List ℕ) (at : ℕ) → record_at (bet_bytes b ++ rest) (record_length + at) ≡ record_at rest at
unfolding record_at
record_next b rest at = rw (byte (record_length + at) at refl, wide (record_length + at + 1) (at + 1) (omega arith), wide (record_length + at + 5) (at + 5) (omega arith)) refl
  where
    byte : (p q : ℕ) → p ≡ record_length + q → byte_at (bet_bytes b ++ rest) p ≡ byte_at rest q
    byte p q e = ap (byte_at (bet_bytes b ++ rest)) e ∙ skip (bet_bytes b) rest q

    wide : (p q : ℕ) → p ≡ record_length + q → wide_at (bet_bytes b ++ rest) p ≡ wide_at rest q
    wide p q e = rw (byte p q e, byte (p + 1) (q + 1) (omega arith), byte (p + 2) (q + 2) (omega arith), byte (p + 2 + 1) (q + 2 + 1) (omega arith)) refl

row_at_lem : (bs : List Bet) (i : ℕ) → i < length bs → record_at (concat_map bet_bytes bs) (i * record_length) ≡ record_of (get_or bs i no_bet)
unfolding concat_map
row_at_lem [] i l = absurd (omega arith)
row_at_lem (b ∷ bs) zero l = record_first b (concat_map bet_bytes bs)
row_at_lem (b ∷ bs) (suc i) l = ap (record_at (bet_bytes b ++ concat_map bet_bytes bs)) (omega arith) ∙ record_next b (concat_map bet_bytes bs) (i * record_length) ∙ row_at_lem bs i (omega arith)

-- the records of the row are those that were put into it
row_back : (n : ℕ) (bs : List Bet) → n ≤ length bs → records_in (row_of n bs) ≡ map record_of (take n bs)
unfolding row_of
row_back n bs l = ext_get_or no_record (records_in (row_of n bs)) (map record_of (take n bs)) (long ∙ sym (length-map (take n bs) record_of ∙ short)) at
  where
    short : length (take n bs) ≡ n
    short = length-take-le n bs l

    count : length (row_of n bs) / record_length ≡ n
    count = omega (arith, row_of_length n bs l)

    long : length (records_in (row_of n bs)) ≡ n
    long = records-length (row_of n bs) ∙ count

    at : (i : ℕ) → i < length (records_in (row_of n bs)) → get_or (records_in (row_of n bs)) i no_record ≡ get_or (map record_of (take n bs)) i no_record
    at i h =
        let k : i < n = omega (arith, h, long) in
        record_here (row_of n bs) i (omega (arith, k, count)) ∙ row_at_lem (take n bs) i (omega (arith, k, short)) ∙ sym (map_at record_of no_bet no_record (take n bs) i (omega (arith, k, short)))

-- ---- too many are too many

-- they are not looked at
many_day : (G : Graph) (k limit : ℕ) (rs : List DayRecord) → max_records < length rs → check_day G k limit rs ≡ cond (bad_level k) (refuse 10 0) (refuse 16 0)
unfolding check_day
many_day G k limit rs l = rw (lt-ltb max_records (length rs) l) refl

many_same : (index : List ℕ) (k limit : ℕ) (rs rs' : List DayRecord) (taken : List ℕ) (margins : List ℤ) → max_records < length rs → max_records < length rs'
    → try_limit index k limit rs taken margins ≡ try_limit index k limit rs' taken margins
unfolding try_limit checked_day and_then
many_same index k limit rs rs' taken margins l l' = ap (λ (c : Checked Day). settle_day (λ zs. zs) c taken margins) (go (read_index index))
  where
    roomy : Day → Checked Day
    roomy d = refuse_if (ltb (length taken) (length d.taken) || ltb (length margins) (length d.margins)) 12 0 (passed d)

    go : (c : Checked Graph) → and_then c (λ G. and_then (check_day G k limit rs) roomy) ≡ and_then c (λ G. and_then (check_day G k limit rs') roomy)
    go (passed G) = ap (λ (x : Checked Day). and_then x roomy) (many_day G k limit rs l ∙ sym (many_day G k limit rs' l'))
    go (refused r) = refl

-- ---- laws

module _ (bs : List Bet) {count : ℕ} (c : count ≡ counted bs) where
  -- those counted are there, and their bytes have room
  pub counted_room : (count ≤ length bs) × (record_length * count ≤ row_length)
  counted_room = (omega (arith, c, min-le_left (length bs) most_bets), omega (arith, c, min-le_right (length bs) most_bets))

  -- a trial on the row that was made of the records is one on the records
  pub limit_gives : (index : List ℕ) (k limit : ℕ) (taken : List ℕ) (margins : List ℤ) (r : Result ℕ Refusal) (taken' : List ℕ) (margins' : List ℤ) {room row : List ℕ} → room ≡ zeros row_length → row ≡ written room 0 (row_of count bs)
      → RowGives index row count k limit taken margins r taken' margins' → LimitGives index bs k limit taken margins r taken' margins'
  limit_gives index k limit taken margins r taken' margins' {room} {row} z w g = g ∙ ap (λ (rs : List DayRecord). try_limit index k limit rs taken margins) records ∙ whole (less_or_not most_bets (length bs))
    where
      n : length (row_of count bs) ≡ record_length * count
      n = row_of_length count bs counted_room.0

      records : records_in (take (record_length * count) row) ≡ map record_of (take count bs)
      records = ap records_in (ap (take (record_length * count)) (w ∙ written_start room (row_of count bs)) ∙ take_at (row_of count bs) _ (record_length * count) n) ∙ row_back count bs counted_room.0

      whole : (most_bets < length bs) ⊎ (length bs ≤ most_bets) → try_limit index k limit (map record_of (take count bs)) taken margins ≡ try_limit index k limit (map record_of bs) taken margins
      whole (inr l) = ap (λ (xs : List Bet). try_limit index k limit (map record_of xs) taken margins) (take_all count bs (omega (arith, c, l)))
      whole (inl l) =
          many_same index k limit (map record_of (take count bs)) (map record_of bs) taken margins
          (omega (arith, c, l, length-map (take count bs) record_of, length-take-le count bs counted_room.0)) (omega (arith, l, length-map bs record_of))

-- The records of a row by their number. Assumes nothing.
use Rattle.std.specs.Prelude.{◌≡◌, refl, ◌≢◌, List, ℕ, ◌+◌, ◌*◌, ◌/◌, ◌≤◌, ◌<◌, length, get_or}
use Rattle.std.proofs.Common.{sym, ap, ◌∙◌, arith, eq-eqb, ne_eqb}
use Rattle.std.proofs.lemmas.List.{length-map}
use Rattle.truss.specs.Limits.{max_records, record_length}
use Rattle.truss.specs.Lists.{range}
use Rattle.truss.specs.Record.{byte_at}
use Rattle.truss.specs.Bets.{DayRecord, bet, new_limit, wide_at, record_at, records_in}
use Rattle.truss.specs.Trial.{no_record}
use Rattle.laws.proofs.Members.{range_length}
use Rattle.laws.proofs.Sets.{map_range_at}
use Rattle.day.specs.declared.record.Record.{Record}
use Rattle.day.specs.declared.record.Record.TheVariants.{Bet, Limit}

-- record i stands in the row whole
abbrev pub InRow : List ℕ → ℕ → Type 0
InRow s i = (i < length s / record_length) × (i < max_records)

pub row_room : (s : List ℕ) (i : ℕ) → i < length s / record_length → i * record_length + record_length ≤ length s
row_room s i l = omega (arith, l)

pub records-length : (s : List ℕ) → length (records_in s) ≡ length s / record_length
unfolding records_in
records-length s = length-map (range 0 (length s / record_length)) (λ i. record_at s (i * record_length)) ∙ range_length 0 (length s / record_length)

pub record_here : (s : List ℕ) (i : ℕ) → i < length s / record_length → get_or (records_in s) i no_record ≡ record_at s (i * record_length)
unfolding records_in
record_here s i l = map_range_at (λ j. record_at s (j * record_length)) no_record 0 (length s / record_length) i l ∙ ap (λ (j : ℕ). record_at s (j * record_length)) (omega arith)

-- a record that was read, in the definitions' words
unfoldable pub day_record : Record → DayRecord
day_record (Bet a s) = bet a s
day_record (Limit x) = new_limit x

-- what its kind byte says, with the numbers that were read
pub limit_read : (s : List ℕ) (at : ℕ) {x : ℕ} → byte_at s at ≢ 0 → x ≡ wide_at s (at + 5) → day_record (Limit x) ≡ record_at s at
unfolding day_record record_at
limit_read s at n e = rw (e, ne_eqb (byte_at s at) 0 n) refl

pub bet_read : (s : List ℕ) (at : ℕ) {a x : ℕ} → byte_at s at ≡ 0 → a ≡ wide_at s (at + 1) → x ≡ wide_at s (at + 5) → day_record (Bet a x) ≡ record_at s at
unfolding day_record record_at
bet_read s at z d e = rw (d, e, eq-eqb (byte_at s at) 0 z) refl

-- and what a record that was read says of the row
pub bet_named : (s : List ℕ) (at : ℕ) {a x : ℕ} {r : Record} → day_record r ≡ record_at s at → r ≡ Bet a x → record_at s at ≡ bet a x
unfolding day_record
bet_named s at q e = sym q ∙ ap day_record e

pub limit_named : (s : List ℕ) (at : ℕ) {x : ℕ} {r : Record} → day_record r ≡ record_at s at → r ≡ Limit x → record_at s at ≡ new_limit x
unfolding day_record
limit_named s at q e = sym q ∙ ap day_record e

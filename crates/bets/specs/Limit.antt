-- What a trial of a limit promises: of a row of bytes, and of records as they are lent. Assumes nothing.
use Rattle.std.specs.Prelude.{Result, ◌≡◌, cond, List, map, ℕ, ◌+◌, ◌*◌, ◌%◌, min, eqb, length, take, ℤ}
use Rattle.truss.specs.Limits.{max_records, record_length}
use Rattle.truss.specs.Bets.{DayRecord, bet, new_limit, records_in, try_limit}
use Rattle.columns.specs.Columns.{entry_bound}
use Rattle.limits.specs.declared.refusal.Refusal.{Refusal}
use Rattle.limits.specs.Refusals.{checked}
use Rattle.trial.specs.Trial.{tried_by}
use Rattle.bets.specs.declared.Bet.{Bet}

-- the most records that are looked at, and their bytes
abbrev pub most_bets : ℕ
most_bets = max_records + 1

abbrev pub row_length : ℕ
row_length = most_bets * record_length

-- the record that a struct is, in the definitions' words. Account and amount are numbers of 32 bits, which the remainder leaves as they are.
abbrev pub record_of : Bet → DayRecord
record_of b = cond (eqb b.kind 0) (bet (b.account % entry_bound) (b.amount % entry_bound)) (new_limit (b.amount % entry_bound))

-- THE PROMISE of a trial: its result, every byte of the first buffer and every number of the second are what the definition gives. Index and records are lent to read.
abbrev pub LimitGives : List ℕ → List Bet → ℕ → ℕ → List ℕ → List ℤ → Result ℕ Refusal → List ℕ → List ℤ → Type 0
LimitGives index bs k limit taken margins r taken' margins' = tried_by (checked r) taken' margins' ≡ try_limit index k limit (map record_of bs) taken margins

-- the same on the first records of a row of bytes
abbrev pub RowGives : List ℕ → List ℕ → ℕ → ℕ → ℕ → List ℕ → List ℤ → Result ℕ Refusal → List ℕ → List ℤ → Type 0
RowGives index row count k limit taken margins r taken' margins' = tried_by (checked r) taken' margins' ≡ try_limit index k limit (records_in (take (record_length * count) row)) taken margins

-- how many of the records lent are looked at
abbrev pub counted : List Bet → ℕ
counted bs = min (length bs) most_bets

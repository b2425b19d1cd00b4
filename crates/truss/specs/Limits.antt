-- The figures of documents 01 and 02, each named once in the definitions. The code has them in the crate `limits`, which is tied to these lines; CONTRIBUTING.md says which lines a limit has.
use Rattle.std.specs.Prelude.{ℕ, ◌+◌, ◌*◌, ◌-◌, ◌/◌}

-- "n is 1 to 1,024, m is 0 to 2,048"
abbrev pub max_accounts : ℕ
max_accounts = 1024

abbrev pub max_links : ℕ
max_links = 2048

-- "A strength runs from 2 to 64; its least and greatest value are named once." That no link of an accepted file has another strength is a
-- theorem (laws: strength_at_least_2, strength-max) and no part of a strength's definition.
abbrev pub min_strength : ℕ
min_strength = 2

abbrev pub max_strength : ℕ
max_strength = 64

-- "k may be 2" (document 02, request 7), the least strength; "below 2 or above 64" is refused
abbrev pub min_level : ℕ
min_level = min_strength

abbrev pub max_level : ℕ
max_level = max_strength

-- "One to 16 accounts are named"
abbrev pub max_named : ℕ
max_named = 16

-- "FFFF for none": what is written for no parent; "no strong link carries FFFF" (laws: own_group_named)
abbrev pub no_group : ℕ
no_group = 0xFFFF

-- "An index is at most 40,960 bytes." A theorem (laws: index_room), used in no definition.
abbrev pub max_index_bytes : ℕ
max_index_bytes = 40960

-- The most bytes that an answer of G has: a count, and three accounts for each triangle, of which a shortest chain has at most half as many as there are
-- other links. A theorem (laws: chain_room), used in no definition.
abbrev pub max_chain_bytes : ℕ
max_chain_bytes = 2 + 6 * ((max_links - 1) / 2)

-- "resting at 4,294,967,295"; "four to a tally"
abbrev pub max_tally : ℕ
max_tally = 4_294_967_295

abbrev pub tally_length : ℕ
tally_length = 4

-- "The record now holds 32 tallies, numbered 0 to 31" (document 02, request 3)
abbrev pub windows : ℕ
windows = 32

-- the record as bytes
abbrev pub desk_length : ℕ
desk_length = windows * tally_length

-- "The day's bets lie in one row of records, at most 4,096"; "stake from 1 to 1,000,000 pence"; a limit "(0 to 1,000,000,000 pence)" (document 02, request 8)
abbrev pub max_records : ℕ
max_records = 4096

abbrev pub min_stake : ℕ
min_stake = 1

abbrev pub max_stake : ℕ
max_stake = 1_000_000

abbrev pub max_limit : ℕ
max_limit = 1_000_000_000

-- the bytes of a record and of a margin, from C
abbrev pub record_length : ℕ
record_length = 9

abbrev pub margin_length : ℕ
margin_length = 8

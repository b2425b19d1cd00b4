-- A limit tried on a day's bets (document 02, request 8): records, margins, which bets are taken, the checks, the whole calls. All of it is read from the records
-- and their bytes; nothing is stored from one record to the next. A margin is an integer (ℤ: pos x is x, negsuc x is −(x + 1)), as a contract reads an i64.
use Rattle.std.specs.Prelude.{Bool, ◌&&◌, ◌||◌, ℕ, ◌+◌, ◌-◌, ◌*◌, ◌/◌, eqb, ltb, leb, length, ℤ, pos, negsuc, ◌-ℤ◌}
use Rattle.std.proofs.Math.Bool.{cond}
use mathlib.Core.List.{List, [], ◌∷◌, ◌++◌, map}
use Rattle.std.specs.Int.Signed.{le_z}
use Rattle.truss.specs.Limits.{max_records, min_stake, max_stake, max_limit, record_length, margin_length}
use Rattle.truss.specs.Lists.{filter, all, range, concat_map}
use Rattle.truss.specs.Graph.{Graph}
use Rattle.truss.specs.Group.{Group, groups}
use Rattle.truss.specs.Refusal.{Checked, passed, refused, refuse_if, and_then}
use Rattle.truss.specs.Record.{field, byte_at, field_at}
use Rattle.truss.specs.IndexFile.{read_index}
use Rattle.truss.specs.Question.{holds, is_group_at, bad_level}
use Rattle.truss.specs.Call.{Reply, done, not_done, overwrite}

-- "A record is a bet (account, stake ..) or a new limit (..) for all groups from then on."
pub data DayRecord : Type 0 where
  bet : (account stake : ℕ) → DayRecord
  new_limit : (limit : ℕ) → DayRecord

-- ---- what a row of records and its bytes say

-- the last limit of a row
unfoldable pub limit_after : ℕ → List DayRecord → ℕ
limit_after limit [] = limit
limit_after limit (bet a s ∷ rs) = limit_after limit rs
limit_after limit (new_limit x ∷ rs) = limit_after x rs

-- "the stakes taken from accounts" that pass: those of the bets whose byte is 1
unfoldable pub stakes_taken : (ℕ → Bool) → List DayRecord → List ℕ → ℕ
stakes_taken p [] bs = 0
stakes_taken p (r ∷ rs) [] = 0
stakes_taken p (bet a s ∷ rs) (b ∷ bs) = cond (eqb b 1 && p a) s 0 + stakes_taken p rs bs
stakes_taken p (new_limit x ∷ rs) (b ∷ bs) = stakes_taken p rs bs

-- "The margin is the limit less the stakes taken from accounts the group holds; after a lowered limit, the margin may fall below zero and is reported so."
unfoldable pub margin_of : (ℕ → Bool) → ℕ → List DayRecord → List ℕ → ℤ
unfolding limit_after stakes_taken
margin_of p opening rs bs = pos (limit_after opening rs) -ℤ pos (stakes_taken p rs bs)

-- ---- which bets are taken

-- the groups at k, by group number: stored groups that are groups at k, perhaps not their strength
unfoldable pub groups_of : Graph → ℕ → List Group
unfolding filter is_group_at groups
groups_of G k = filter (is_group_at G k) (groups G)

-- what an account is measured by, each as a test of accounts: "every group at k holding the account"; "an account in no group at k is measured as a group by itself"
unfoldable pub pools_of : Graph → ℕ → ℕ → List (ℕ → Bool)
unfolding filter holds groups_of
pools_of G k a = let hs = filter (λ g. holds G g a) (groups_of G k) in cond (eqb (length hs) 0) (eqb a ∷ []) (map (holds G) hs)

module _ (G : Graph) (k opening : ℕ) where
  -- "One buffer gets a byte for each record, 1 if taken or a new limit, else 0." "A bet is taken exactly if every group at k holding the account has a margin of at least
  -- the stake": the margin after the records before it
  unfoldable pub byte_for : List DayRecord → List ℕ → DayRecord → ℕ
  unfolding all margin_of pools_of
  byte_for before bytes (bet a s) = cond (all (λ p. le_z (pos s) (margin_of p opening before bytes)) (pools_of G k a)) 1 0
  byte_for before bytes (new_limit x) = 1

  -- record by record, after some records and their bytes
  unfoldable pub bytes_after : List DayRecord → List ℕ → List DayRecord → List ℕ
  unfolding byte_for
  bytes_after before bytes [] = bytes
  bytes_after before bytes (r ∷ rs) = bytes_after (before ++ (r ∷ [])) (bytes ++ (byte_for before bytes r ∷ [])) rs

-- a day: a byte for each record, and "the closing margin of each group at k, by group number". An account in no group has none there.
pub record Day : Type 0 where
  pub taken : List ℕ
  pub margins : List ℤ

unfoldable pub day_of : Graph → ℕ → ℕ → List DayRecord → Day
unfolding bytes_after groups_of margin_of holds
day_of G k opening rs =
    let bs = bytes_after G k opening [] [] rs in
    record { taken = bs; margins = map (λ g. margin_of (holds G g) opening rs bs) (groups_of G k) }

-- ---- checks

-- "then by record 9, 15": 9, an account not below n; 15, "a stake or limit out of range"
unfoldable pub check_records : {A : Type 0} → Graph → List DayRecord → A → Checked A
check_records G [] x = passed x
check_records G (bet a s ∷ rs) x = refuse_if (leb G.n a) 9 0 (refuse_if (ltb s min_stake || ltb max_stake s) 15 0 (check_records G rs x))
check_records G (new_limit l ∷ rs) x = refuse_if (ltb max_limit l) 15 0 (check_records G rs x)

-- "order 7, 10, 16, 15 for the opening limit, then by record 9, 15, then 12 for either buffer": here 10 to 15
unfoldable pub check_day : Graph → ℕ → ℕ → List DayRecord → Checked Day
unfolding check_records day_of
check_day G k opening rs =
    refuse_if (bad_level k) 10 0
    (refuse_if (ltb max_records (length rs)) 16 0
    (refuse_if (ltb max_limit opening) 15 0
    (check_records G rs (day_of G k opening rs))))

-- all checks, with room for so many bytes and so many margins
unfoldable pub checked_day : List ℕ → ℕ → ℕ → List DayRecord → ℕ → ℕ → Checked Day
unfolding and_then read_index check_day
checked_day bytes k opening rs takenRoom marginRoom =
    and_then (read_index bytes) (λ G. and_then (check_day G k opening rs) (λ d. refuse_if (ltb takenRoom (length d.taken) || ltb marginRoom (length d.margins)) 12 0 (passed d)))

-- ---- whole calls

-- the value is the number of margins written; refused, both buffers stay
pub record Tried (A : Type 0) : Type 0 where
  pub reply : Reply
  pub taken : List ℕ
  pub margins : List A

-- margins are written as numbers, or as bytes
unfoldable pub settle_day : {A : Type 0} → (List ℤ → List A) → Checked Day → List ℕ → List A → Tried A
settle_day written (passed d) taken margins = record { reply = done (length d.margins); taken = overwrite d.taken taken; margins = overwrite (written d.margins) margins }
settle_day written (refused r) taken margins = record { reply = not_done r; taken = taken; margins = margins }

-- "Before a meeting, management tries a level k and a stake limit." The second buffer gets margins "as signed 64-bit numbers". No desk is lent: it is no question, and no
-- tally moves.
unfoldable pub try_limit : List ℕ → ℕ → ℕ → List DayRecord → List ℕ → List ℤ → Tried ℤ
unfolding settle_day checked_day
try_limit bytes k opening rs taken margins = settle_day (λ zs. zs) (checked_day bytes k opening rs (length taken) (length margins)) taken margins

-- ---- the same from C: nine bytes to a record, eight to a margin

-- a number of four bytes, high byte first
abbrev pub wide_at : List ℕ → ℕ → ℕ
wide_at b at = field_at b at * 65536 + field_at b (at + 2)

abbrev pub wide_field : ℕ → List ℕ
wide_field x = field (x / 65536) ++ field x

-- the kind (0 a bet, else a new limit), the account (of no meaning for a new limit), the stake or limit
unfoldable pub record_at : List ℕ → ℕ → DayRecord
record_at b at = cond (eqb (byte_at b at) 0) (bet (wide_at b (at + 1)) (wide_at b (at + 5))) (new_limit (wide_at b (at + 5)))

-- fewer than nine bytes at the end are no record
unfoldable pub records_in : List ℕ → List DayRecord
unfolding range record_at
records_in b = map (λ i. record_at b (i * record_length)) (range 0 (length b / record_length))

-- the greatest number of 64 bits
abbrev pub max_word : ℕ
max_word = 0xFFFF_FFFF_FFFF_FFFF

-- two's complement in 64 bits: a margin's number, and the margin of a number
unfoldable pub complement : ℤ → ℕ
complement (pos x) = x
complement (negsuc x) = max_word - x

unfoldable pub signed : ℕ → ℤ
signed x = cond (ltb x 0x8000_0000_0000_0000) (pos x) (negsuc (max_word - x))

-- a margin as eight bytes, high byte first, and the margin in eight bytes
unfoldable pub margin_bytes : ℤ → List ℕ
unfolding complement
margin_bytes z = let x = complement z in wide_field (x / 0x1_0000_0000) ++ wide_field x

unfoldable pub margin_at : List ℕ → ℕ → ℤ
unfolding signed
margin_at b at = signed (wide_at b at * 0x1_0000_0000 + wide_at b (at + 4))

unfoldable pub try_limit_bytes : List ℕ → ℕ → ℕ → List ℕ → List ℕ → List ℕ → Tried ℕ
unfolding settle_day checked_day records_in concat_map margin_bytes
try_limit_bytes bytes k opening records taken margins =
    settle_day (concat_map margin_bytes) (checked_day bytes k opening (records_in records) (length taken) (length margins / margin_length)) taken margins

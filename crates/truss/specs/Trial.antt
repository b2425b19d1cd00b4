-- What trying a limit gives, as one statement about every index that 7 lets pass, every level, every limit, every row of records and whatever is lent: of the call with records
-- and margins as numbers, and of the one from C with both as bytes. Proved in laws: trial_rule.
use Rattle.std.specs.Prelude.{◌≡◌, ◌⊎◌, true, false, List, ℕ, ◌*◌, ◌/◌, ◌≤◌, ◌<◌, eqb, length, get_or, take, ℤ, pos, ◌-ℤ◌, ◌≤ℤ◌}
use mathlib.Core.List.{Memᴰ as In}
use Rattle.std.specs.Int.Signed.{mag}
use Rattle.truss.specs.Limits.{max_records, min_stake, max_stake, max_limit, margin_length}
use Rattle.truss.specs.Graph.{Graph}
use Rattle.truss.specs.Group.{Group, groups, group_at}
use Rattle.truss.specs.Refusal.{passed, refuse}
use Rattle.truss.specs.IndexFile.{read_index}
use Rattle.truss.specs.Question.{empty_group, holds}
use Rattle.truss.specs.Call.{done}
use Rattle.truss.specs.Windows.{refused_by}
use Rattle.truss.specs.Order.{Level}
use Rattle.truss.specs.Bets.{DayRecord, bet, new_limit, limit_after, stakes_taken, margin_of, groups_of, Tried, try_limit, records_in, margin_at, try_limit_bytes}

-- past the end of a row
abbrev pub no_record : DayRecord
no_record = new_limit 0

-- ---- which bets are taken

-- "every group at k holding the account has a margin of at least the stake; an account in no group at k is measured as a group by itself": after these records and bytes
pub record HasRoom (G : Graph) (k opening : ℕ) (before : List DayRecord) (bytes : List ℕ) (a s : ℕ) : Type 0 where
  pub every_group : (g : Group) → In g (groups_of G k) → holds G g a ≡ true → pos s ≤ℤ margin_of (holds G g) opening before bytes
  pub by_itself : ((g : Group) → In g (groups_of G k) → holds G g a ≡ false) → pos s ≤ℤ margin_of (eqb a) opening before bytes

-- the byte of record i, by the records before it and their bytes
pub data ByteIs (G : Graph) (k opening : ℕ) (rs : List DayRecord) (bytes : List ℕ) (i : ℕ) : Type 0 where
  taken : {a s : ℕ} → get_or rs i no_record ≡ bet a s → HasRoom G k opening (take i rs) (take i bytes) a s → get_or bytes i 0 ≡ 1 → ByteIs G k opening rs bytes i
  not_taken : {a s : ℕ} → get_or rs i no_record ≡ bet a s → ¬ HasRoom G k opening (take i rs) (take i bytes) a s → get_or bytes i 0 ≡ 0 → ByteIs G k opening rs bytes i
  limited : {x : ℕ} → get_or rs i no_record ≡ new_limit x → get_or bytes i 0 ≡ 1 → ByteIs G k opening rs bytes i

-- ---- the first fault

-- a record without a fault: an account below n and a stake in range, or a limit in range
pub data Sound (G : Graph) : DayRecord → Type 0 where
  sound_bet : {a s : ℕ} → a < G.n → min_stake ≤ s → s ≤ max_stake → Sound G (bet a s)
  sound_limit : {x : ℕ} → x ≤ max_limit → Sound G (new_limit x)

-- "by record 9, 15"
pub data RecordFault (G : Graph) : DayRecord → ℕ → Type 0 where
  outside : {a s : ℕ} → G.n ≤ a → RecordFault G (bet a s) 9
  stake : {a s : ℕ} → a < G.n → (s < min_stake) ⊎ (max_stake < s) → RecordFault G (bet a s) 15
  limit : {x : ℕ} → max_limit < x → RecordFault G (new_limit x) 15

-- "order 7, 10, 16, 15 for the opening limit, then by record 9, 15, then 12 for either buffer": here 10 to 15
pub data DayFault (G : Graph) (k opening : ℕ) (rs : List DayRecord) : ℕ → Type 0 where
  level : ¬ Level k → DayFault G k opening rs 10
  many : Level k → max_records < length rs → DayFault G k opening rs 16
  opened : Level k → length rs ≤ max_records → max_limit < opening → DayFault G k opening rs 15
  recorded : {r : ℕ} → Level k → length rs ≤ max_records → opening ≤ max_limit → (i : ℕ) → i < length rs → ((j : ℕ) → j < i → Sound G (get_or rs j no_record))
      → RecordFault G (get_or rs i no_record) r → DayFault G k opening rs r

-- no fault but, perhaps, 12
pub record NoFault (G : Graph) (k opening : ℕ) (rs : List DayRecord) : Type 0 where
  pub is_level : Level k
  pub few : length rs ≤ max_records
  pub in_range : opening ≤ max_limit
  pub sound : (j : ℕ) → j < length rs → Sound G (get_or rs j no_record)

-- ---- a day that is done

-- What stands in the buffers after the call, of which `margin` reads the margin at a place, written in `width` elements: each byte by the rule, "the closing margin of each group at k, by group
-- number", and all else as it was lent. "For any row a group's closing margin is the last limit less its accounts' taken bets, read from the records and their bytes and not from stored sums."
pub record Closes {A : Type 0} (G : Graph) (k opening : ℕ) (rs : List DayRecord) (margin : List A → ℕ → ℤ) (width : ℕ) (none : A) (taken : List ℕ) (margins : List A) (t : Tried A) : Type 0 where
  pub reply : t.reply ≡ done (length (groups_of G k))
  pub bytes : (i : ℕ) → i < length rs → ByteIs G k opening rs t.taken i
  pub bytes_after : (i : ℕ) → length rs ≤ i → get_or t.taken i 0 ≡ get_or taken i 0
  pub closing : (j : ℕ) → j < length (groups_of G k)
      → margin t.margins j ≡ pos (limit_after opening rs) -ℤ pos (stakes_taken (holds G (get_or (groups_of G k) j empty_group)) rs t.taken)
  pub closing_after : (i : ℕ) → length (groups_of G k) * width ≤ i → get_or t.margins i none ≡ get_or margins i none
  -- neither above the greatest limit nor below it with a minus sign
  pub within : (j : ℕ) → j < length (groups_of G k) → mag (margin t.margins j) ≤ max_limit
  pub lengths : (length t.taken ≡ length taken) × (length t.margins ≡ length margins)

pub record TrialRule : Type 0 where
  -- refused, all that is lent stays
  pub no_index : (bytes : List ℕ) (k opening : ℕ) (rs : List DayRecord) (taken : List ℕ) (margins : List ℤ) → read_index bytes ≡ refuse 7 0
      → try_limit bytes k opening rs taken margins ≡ record { reply = refused_by 7; taken = taken; margins = margins }
  pub faulty : (bytes : List ℕ) (G : Graph) (k opening : ℕ) (rs : List DayRecord) (taken : List ℕ) (margins : List ℤ) (r : ℕ) → read_index bytes ≡ passed G → DayFault G k opening rs r
      → try_limit bytes k opening rs taken margins ≡ record { reply = refused_by r; taken = taken; margins = margins }
  pub short : (bytes : List ℕ) (G : Graph) (k opening : ℕ) (rs : List DayRecord) (taken : List ℕ) (margins : List ℤ) → read_index bytes ≡ passed G → NoFault G k opening rs
      → (length taken < length rs) ⊎ (length margins < length (groups_of G k)) → try_limit bytes k opening rs taken margins ≡ record { reply = refused_by 12; taken = taken; margins = margins }
  -- there is a first fault, or none,
  pub fault_or_none : (G : Graph) (k opening : ℕ) (rs : List DayRecord) → ((r : ℕ) × DayFault G k opening rs r) ⊎ NoFault G k opening rs
  -- and else the day is done
  pub closes : (bytes : List ℕ) (G : Graph) (k opening : ℕ) (rs : List DayRecord) (taken : List ℕ) (margins : List ℤ) → read_index bytes ≡ passed G → NoFault G k opening rs
      → length rs ≤ length taken → length (groups_of G k) ≤ length margins → Closes G k opening rs (λ zs j. get_or zs j (pos 0)) 1 (pos 0) taken margins (try_limit bytes k opening rs taken margins)
  -- From C: the records that the bytes name, and room for as many margins as eight bytes each go in. Refused as above; done, the eight bytes read back are the margin.
  pub as_bytes : (bytes : List ℕ) (k opening : ℕ) (records taken margins : List ℕ) (zs : List ℤ) → length zs ≡ length margins / margin_length
      → ((try_limit_bytes bytes k opening records taken margins).reply ≡ (try_limit bytes k opening (records_in records) taken zs).reply)
      × ((try_limit_bytes bytes k opening records taken margins).taken ≡ (try_limit bytes k opening (records_in records) taken zs).taken)
  pub closes_bytes : (bytes : List ℕ) (G : Graph) (k opening : ℕ) (records taken margins : List ℕ) → read_index bytes ≡ passed G → NoFault G k opening (records_in records)
      → length (records_in records) ≤ length taken → length (groups_of G k) * margin_length ≤ length margins
      → Closes G k opening (records_in records) (λ b j. margin_at b (j * margin_length)) margin_length 0 taken margins (try_limit_bytes bytes k opening records taken margins)
  -- the groups that are meant are those at k: the group at k of each link that is as strong is one of them, and each of them is the group at k of each of its links
  pub each_group : (bytes : List ℕ) (G : Graph) (k i : ℕ) → read_index bytes ≡ passed G → Level k → (j : ℕ) → In j (group_at G k i) → (g : Group) × In g (groups_of G k) × (g.members ≡ group_at G k i)
  pub each_link : (bytes : List ℕ) (G : Graph) (k : ℕ) (g : Group) → read_index bytes ≡ passed G → Level k → In g (groups_of G k) → In g (groups G) × ((i : ℕ) → In i g.members → group_at G k i ≡ g.members)

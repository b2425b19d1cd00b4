-- A day played, record by record: what the limit and the sums are after some records. Assumes nothing.
use Rattle.std.specs.Prelude.{◌≡◌, refl, ◌⊎◌, ◌≢◌, Bool, true, false, cond, ◌&&◌, List, ℕ, ◌+◌, ◌*◌, ◌/◌, ◌≤◌, ◌<◌, eqb, leb, length, get_or, take, set}
use Rattle.std.proofs.Common.{sym, ap, ◌∙◌, subst, inl, inr, arith, length-set, get_or-set_same, get_or-set_other, take_all, eq-eqb, ne_eqb, le-leb}
use Rattle.std.specs.Int.{from_bool}
use mathlib.Core.List.{Memᴰ as In}
use Rattle.std.proofs.lemmas.Bool.{lt-leb}
use Rattle.truss.specs.Limits.{max_accounts, max_records, max_links, record_length}
use Rattle.truss.specs.Graph.{Graph}
use Rattle.truss.specs.Group.{Group, groups}
use Rattle.truss.specs.Question.{is_group_at, holds, empty_group}
use Rattle.truss.specs.Bets.{DayRecord, bet, new_limit, limit_after, stakes_taken, groups_of, byte_for, record_at, records_in}
use Rattle.truss.specs.Trial.{no_record}
use Rattle.laws.proofs.Lists.{test, true_not_false}
use Rattle.laws.proofs.Members.{in_get_d}
use Rattle.laws.proofs.Numbers.{same_or_not}
use Rattle.laws.proofs.Stored.{group_count, stored}
use Rattle.laws.proofs.Bets.{day_bytes, bytes_length, byte_here, byte_limit, byte_alone, byte_room, byte_full, limit_bet, limit_new, stakes_bet, stakes_limit, group_numbered_lem, level_of}
use Rattle.columns.specs.Columns.{cell, entry, COLUMNS, entry_bound}
use Rattle.wire.specs.Writing.{written, written_none, written_byte}
use Rattle.pools.specs.Pools.{Row}
use Rattle.day.specs.Records.{InRow, records-length, record_here}
use Rattle.day.specs.Sums.{SUM, RowSafe, HeldGives, takes, fills, held, alone, alone_full, TurnAsks, TurnGives, is_limit, is_bet}

-- no group at k holds the account
abbrev pub InNone : Graph → ℕ → ℕ → Type 0
InNone G k a = (g : Group) → In g (groups_of G k) → holds G g a ≡ false

-- what a day is played on: rows of the groups at k, no stakes taken yet, records whose accounts are below n, and room for a byte each
pub record PlayAsks (G : Graph) (k n groups m opening count : ℕ) (records w start end own taken : List ℕ) : Type 0 where
  pub size_is : length w ≡ COLUMNS * m
  pub starts : n ≤ length start
  pub ends : n ≤ length end
  pub rows : (a : ℕ) → a < n → Row G k m groups w a (get_or start a 0) (get_or end a 0)
  pub untaken : (g : ℕ) → g < m → cell w m SUM g ≡ 0
  pub is_groups : group_count G ≡ groups
  pub few : groups ≤ m
  pub small : m ≤ max_links
  pub accounts : n ≤ length own
  pub few_accounts : n ≤ max_accounts
  pub none : (a : ℕ) → a < n → get_or own a 0 ≡ 0
  pub is_count : length records / record_length ≡ count
  pub in_range : count ≤ max_records
  pub inside : (i a s : ℕ) → i < count → record_at records (i * record_length) ≡ bet a s → a < n
  pub room : count ≤ length taken
  pub limited : opening < entry_bound

-- some index and level
abbrev pub PlayGiven : ℕ → ℕ → ℕ → List ℕ → List ℕ → List ℕ → List ℕ → List ℕ → List ℕ → Type 0
PlayGiven m opening count records w start end own taken = (G : Graph) × (k : ℕ) × (n : ℕ) × (groups : ℕ) × PlayAsks G k n groups m opening count records w start end own taken

-- and of every such index and level: the bytes of the day, the last limit, and the stakes that by these bytes are taken from each group at k
pub record Played (G : Graph) (k n groups m opening r : ℕ) (records w w' own own' taken taken' : List ℕ) : Type 0 where
  pub length_is : length w' ≡ length w
  pub limit : r ≡ limit_after opening (records_in records)
  pub small : r < entry_bound
  pub bytes : taken' ≡ written taken 0 (day_bytes G k opening (records_in records))
  pub sums : (g : ℕ) → g < groups → is_group_at G k (stored G g) ≡ true → cell w' m SUM g ≡ stakes_taken (holds G (stored G g)) (records_in records) (day_bytes G k opening (records_in records))
  -- an account in no group at k has its own stakes; everything else stays
  pub owns : (a : ℕ) → a < n → InNone G k a → get_or own' a 0 ≡ stakes_taken (eqb a) (records_in records) (day_bytes G k opening (records_in records))
  pub not_own : (a : ℕ) → (n ≤ a) ⊎ (¬ InNone G k a) → get_or own' a 0 ≡ get_or own a 0
  pub not_level : (g : ℕ) → g < m → (groups ≤ g) ⊎ (is_group_at G k (stored G g) ≡ false) → cell w' m SUM g ≡ cell w m SUM g
  pub others : (c y : ℕ) → c ≢ SUM → y < m → cell w' m c y ≡ cell w m c y

abbrev pub PlayGives : ℕ → ℕ → ℕ → ℕ → List ℕ → List ℕ → List ℕ → List ℕ → List ℕ → List ℕ → List ℕ → List ℕ → List ℕ → Type 0
PlayGives m opening count r records w w' start end own own' taken taken' =
    (G : Graph) (k n groups : ℕ) → PlayAsks G k n groups m opening count records w start end own taken → Played G k n groups m opening r records w w' own own' taken taken'

-- ---- a row keeps its entries

pub row_kept : {G : Graph} {k m groups : ℕ} {w w' : List ℕ} {a from to : ℕ} → ((j : ℕ) → j < 2 * m → entry w' m j ≡ entry w m j) → Row G k m groups w a from to → Row G k m groups w' a from to
row_kept {G} {k} {m} {groups} {w} {w'} {a} {from} {to} same R = record {
  rises = R.rises;
  fits = R.fits;
  below = λ j l h. omega (arith, here j h, R.below j l h);
  level = λ j l h. rw (here j h) (R.level j l h);
  held = λ j l h. rw (here j h) (R.held j l h);
  once = λ i j l h x e. R.once i j l h x (sym (here i (omega (arith, h, x))) ∙ e ∙ here j x);
  whole = λ g l t h. let (j, p, q, e) = R.whole g l t h in (j, p, q, here j q ∙ e);
}
  where
    here : (j : ℕ) → j < to → entry w' m j ≡ entry w m j
    here j h = same j (omega (arith, h, R.fits))

-- ---- after i records

module _ {G : Graph} {k n groups m opening count : ℕ} {records w₀ start end own₀ taken₀ : List ℕ} (A : PlayAsks G k n groups m opening count records w₀ start end own₀ taken₀) where
  abbrev rs : List DayRecord
  rs = records_in records

  abbrev ds : List ℕ
  ds = day_bytes G k opening rs

  -- the stakes taken in the first i records
  abbrev taken_to : ℕ → (ℕ → Bool) → ℕ
  taken_to i p = stakes_taken p (take i rs) (take i ds)

  pub record Standing (i limit : ℕ) (w own taken : List ℕ) : Type 0 where
    pub length_is : length w ≡ length w₀
    pub own-length : length own ≡ length own₀
    pub limit_is : limit ≡ limit_after opening (take i rs)
    pub limited : limit < entry_bound
    pub sums : (g : ℕ) → g < groups → is_group_at G k (stored G g) ≡ true → cell w m SUM g ≡ taken_to i (holds G (stored G g))
    pub owns : (a : ℕ) → a < n → InNone G k a → get_or own a 0 ≡ taken_to i (eqb a)
    pub not_own : (a : ℕ) → (n ≤ a) ⊎ (¬ InNone G k a) → get_or own a 0 ≡ get_or own₀ a 0
    pub not_level : (g : ℕ) → g < m → (groups ≤ g) ⊎ (is_group_at G k (stored G g) ≡ false) → cell w m SUM g ≡ cell w₀ m SUM g
    pub others : (c y : ℕ) → c ≢ SUM → y < m → cell w m c y ≡ cell w₀ m c y
    pub entries : (j : ℕ) → j < 2 * m → entry w m j ≡ entry w₀ m j
    pub bytes : taken ≡ written taken₀ 0 (take i ds)

  rows-length : length rs ≡ count
  rows-length = records-length records ∙ A.is_count

  pub standing_none : Standing 0 opening w₀ own₀ taken₀
  unfolding limit_after stakes_taken
  standing_none = record {
    length_is = refl;
    own-length = refl;
    limit_is = refl;
    limited = A.limited;
    sums = λ g l t. A.untaken g (omega (arith, l, A.few));
    owns = λ a l x. A.none a l;
    not_own = λ a d. refl;
    not_level = λ g l d. refl;
    others = λ c y d l. refl;
    entries = λ j l. refl;
    bytes = written_none taken₀ 0;
  }

  module _ {i limit : ℕ} {w own tk : List ℕ} (S : Standing i limit w own tk) (l : i < count) where
    in_rs : i < length rs
    in_rs = omega (arith, l, rows-length)

    in_ds : i < length ds
    in_ds = omega (arith, in_rs, bytes_length G k opening rs)

    here : get_or rs i no_record ≡ record_at records (i * record_length)
    here = record_here records i (omega (arith, l, A.is_count))

    pub standing_row : InRow records i
    standing_row = (omega (arith, l, A.is_count), omega (arith, l, A.in_range))

    row : (a : ℕ) → a < n → Row G k m groups w a (get_or start a 0) (get_or end a 0)
    row a la = row_kept S.entries (A.rows a la)

    safe : (a : ℕ) → a < n → RowSafe m (get_or start a 0) (get_or end a 0) w
    safe a la = let R = row a la in record {
      size_is = S.length_is ∙ A.size_is;
      few = omega (arith, A.small);
      rises = R.rises;
      fits = R.fits;
      below = λ j p q. omega (arith, R.below j p q, A.few);
      once = R.once;
    }

    pub standing_asks : TurnAsks m limit records i w start end own
    standing_asks = record {
      limited = S.limited;
      placed = λ a s q.
          let la : a < n = A.inside i a s l q in
          (safe a la, omega (arith, la, A.starts), omega (arith, la, A.ends), omega (arith, la, A.accounts, S.own-length), omega (arith, la, A.few_accounts));
    }

    -- a new limit
    module _ {x : ℕ} (q : record_at records (i * record_length) ≡ new_limit x) where
      is_new : get_or rs i no_record ≡ new_limit x
      is_new = here ∙ q

      byte_new : get_or ds i 0 ≡ 1
      byte_new = byte_here G k opening rs i in_rs ∙ ap (byte_for G k opening (take i rs) (take i ds)) is_new ∙ byte_limit G k opening (take i rs) (take i ds) x

      pub standing_limit : {byte : ℕ} {tk' : List ℕ} → x < entry_bound → byte ≡ 1 → tk' ≡ set tk i byte → Standing (i + 1) x w own tk'
      standing_limit small b u = record {
        length_is = S.length_is;
        own-length = S.own-length;
        limit_is = sym (limit_new opening rs i in_rs is_new);
        limited = small;
        sums = λ g lg t. S.sums g lg t ∙ sym (stakes_limit (holds G (stored G g)) rs ds i in_rs in_ds is_new);
        owns = λ a la h. S.owns a la h ∙ sym (stakes_limit (eqb a) rs ds i in_rs in_ds is_new);
        not_own = S.not_own;
        not_level = S.not_level;
        others = S.others;
        entries = S.entries;
        bytes = written_byte taken₀ ds i (omega (arith, bytes_length G k opening rs, rows-length, A.room)) in_ds S.bytes (u ∙ ap (set tk i) (b ∙ sym byte_new));
      }

    -- a bet
    module _ {a s : ℕ} (q : record_at records (i * record_length) ≡ bet a s) where
      is_one : get_or rs i no_record ≡ bet a s
      is_one = here ∙ q

      la : a < n
      la = A.inside i a s l q

      byte_of : get_or ds i 0 ≡ byte_for G k opening (take i rs) (take i ds) (bet a s)
      byte_of = byte_here G k opening rs i in_rs ∙ ap (byte_for G k opening (take i rs) (take i ds)) is_one

      -- what the row's sums say of groups
      group_in_lem : (g : ℕ) → g < groups → is_group_at G k (stored G g) ≡ true → In (stored G g) (groups_of G k)
      group_in_lem g lg t = group_numbered_lem G k g (omega (arith, lg, A.is_groups)) t

      -- the sums and the bytes after the bet, if its byte is known
      module _ {byte : ℕ} (is_byte_lem : byte ≡ get_or ds i 0) where
        next : {w' own' tk' : List ℕ} → length w' ≡ length w → length own' ≡ length own
            → ((g : ℕ) → g < groups → is_group_at G k (stored G g) ≡ true → cell w' m SUM g ≡ cell w m SUM g + cond (eqb byte 1 && holds G (stored G g) a) s 0)
            → ((b : ℕ) → b < n → InNone G k b → get_or own' b 0 ≡ get_or own b 0 + cond (eqb byte 1 && eqb b a) s 0)
            → ((b : ℕ) → (n ≤ b) ⊎ (¬ InNone G k b) → get_or own' b 0 ≡ get_or own b 0)
            → ((g : ℕ) → g < m → (groups ≤ g) ⊎ (is_group_at G k (stored G g) ≡ false) → cell w' m SUM g ≡ cell w m SUM g)
            → ((c y : ℕ) → c ≢ SUM → y < m → cell w' m c y ≡ cell w m c y) → ((j : ℕ) → j < 2 * m → entry w' m j ≡ entry w m j)
            → tk' ≡ set tk i byte → Standing (i + 1) limit w' own' tk'
        next {w'} {own'} {tk'} lw lo sums owns not_own not_level others entries u = record {
          length_is = lw ∙ S.length_is;
          own-length = lo ∙ S.own-length;
          limit_is = S.limit_is ∙ sym (limit_bet opening rs i in_rs is_one);
          limited = S.limited;
          sums = λ g lg t.
              sums g lg t ∙ rw (S.sums g lg t, is_byte_lem) (sym (stakes_bet (holds G (stored G g)) rs ds i in_rs in_ds is_one));
          owns = λ b lb h. owns b lb h ∙ rw (S.owns b lb h, is_byte_lem) (sym (stakes_bet (eqb b) rs ds i in_rs in_ds is_one));
          not_own = λ b d. not_own b d ∙ S.not_own b d;
          not_level = λ g lg d. not_level g lg d ∙ S.not_level g lg d;
          others = λ c y d ly. others c y d ly ∙ S.others c y d ly;
          entries = λ j lj. entries j lj ∙ S.entries j lj;
          bytes = written_byte taken₀ ds i (omega (arith, bytes_length G k opening rs, rows-length, A.room)) in_ds S.bytes (u ∙ ap (set tk i) is_byte_lem);
        }

      -- in groups
      module _ (some : get_or start a 0 ≢ get_or end a 0) where
        R : Row G k m groups w a (get_or start a 0) (get_or end a 0)
        R = row a la

        abbrev first : ℕ
        first = entry w m (get_or start a 0)

        one_in : get_or start a 0 < get_or end a 0
        one_in = omega (arith, some, R.rises)

        held_in : (j : ℕ) → get_or start a 0 ≤ j → j < get_or end a 0 → In (stored G (entry w m j)) (groups_of G k)
        held_in j p r = group_in_lem (entry w m j) (R.below j p r) (R.level j p r)

        not_none : InNone G k a → ⊥
        not_none h = true_not_false (R.held (get_or start a 0) (omega arith) one_in) (h (stored G first) (held_in (get_or start a 0) (omega arith) one_in))

        -- a group at k that holds the account, by its number
        numbered : (h : Group) → In h (groups_of G k) → (g : ℕ) × (g < groups) × (stored G g ≡ h) × (is_group_at G k (stored G g) ≡ true)
        numbered h m =
            let v = level_of G k m in
            let (g, lg, e) = in_get_d empty_group (Rattle.truss.specs.Group.groups G) v.0 in
            (g, omega (arith, lg, A.is_groups), e, ap (is_group_at G k) e ∙ v.1)

        byte_one : ((j : ℕ) → get_or start a 0 ≤ j → j < get_or end a 0 → cell w m SUM (entry w m j) + s ≤ limit) → get_or ds i 0 ≡ 1
        byte_one room = byte_of ∙ byte_room G k opening (take i rs) (take i ds) a s (stored G first) (held_in (get_or start a 0) (omega arith) one_in) (R.held (get_or start a 0) (omega arith) one_in) each
          where
            each : (h : Group) → In h (groups_of G k) → holds G h a ≡ true → taken_to i (holds G h) + s ≤ limit_after opening (take i rs)
            each h mh t =
                let (g, lg, e, v) = numbered h mh in
                let (j, p, r, f) = R.whole g lg v (ap (λ (o : Group). holds G o a) e ∙ t) in
                let sum : cell w m SUM (entry w m j) ≡ taken_to i (holds G h) = ap (cell w m SUM) f ∙ S.sums g lg v ∙ ap (λ (o : Group). taken_to i (holds G o)) e in
                omega (arith, room j p r, sum, S.limit_is)

        byte_zero : (j : ℕ) → get_or start a 0 ≤ j → j < get_or end a 0 → limit < cell w m SUM (entry w m j) + s → get_or ds i 0 ≡ 0
        byte_zero j p r over =
            byte_of
            ∙ byte_full G k opening (take i rs) (take i ds) a s (stored G (entry w m j)) (held_in j p r) (R.held j p r)
            (omega (arith, over, S.sums (entry w m j) (R.below j p r) (R.level j p r), S.limit_is))

        pub standing_held : {taken : Bool} {byte : ℕ} {w' tk' : List ℕ} → HeldGives m (get_or start a 0) (get_or end a 0) s limit taken w w' → byte ≡ from_bool taken → tk' ≡ set tk i byte → Standing (i + 1) limit w' own tk'
        standing_held {taken} {byte} {w'} {tk'} (takes t room C) z u =
            let one = byte_one room in
            next (b ∙ sym one) C.length_is refl sums (λ c lc h. owns c lc h) (λ c d. refl) outside C.others C.entries u
          where
            b : byte ≡ 1
            b = z ∙ ap from_bool t

            -- what is no group at k is in no row
            outside : (g : ℕ) → g < m → (groups ≤ g) ⊎ (is_group_at G k (stored G g) ≡ false) → cell w' m SUM g ≡ cell w m SUM g
            outside g lg (inl d) = C.off g (λ j p r e. omega (arith, e, d, R.below j p r))
            outside g lg (inr d) = C.off g (λ j p r e. true_not_false (R.level j p r) (rw e d))

            owns : (c : ℕ) → c < n → InNone G k c → get_or own c 0 ≡ get_or own c 0 + cond (eqb byte 1 && eqb c a) s 0
            owns c lc h = rw (eq-eqb byte 1 b, ne_eqb c a (λ e. not_none (subst (InNone G k) e h))) (omega arith)

            sums : (g : ℕ) → g < groups → is_group_at G k (stored G g) ≡ true → cell w' m SUM g ≡ cell w m SUM g + cond (eqb byte 1 && holds G (stored G g) a) s 0
            sums g lg t = rw (eq-eqb byte 1 b) (by (test (holds G (stored G g) a)))
              where
                by : (holds G (stored G g) a ≡ true) ⊎ (holds G (stored G g) a ≡ false) → cell w' m SUM g ≡ cell w m SUM g + cond (holds G (stored G g) a) s 0
                by (inl h) =
                    let (j, p, r, e) = R.whole g lg t h in
                    rw (h, ← e) (C.on j p r)
                by (inr h) = rw h (C.off g (λ j p r e. true_not_false (R.held j p r) (rw e h)) ∙ omega arith)
        standing_held {taken} {byte} {w'} {tk'} (fills f j p r over e) z u =
            rw e (next (b ∙ sym (byte_zero j p r over)) refl refl (λ g lg t. nothing (cell w m SUM g) (holds G (stored G g) a)) (λ c lc h. nothing (get_or own c 0) (eqb c a)) (λ c d. refl) (λ g lg d. refl) (λ c y d ly. refl) (λ x lx. refl) u)
          where
            b : byte ≡ 0
            b = z ∙ ap from_bool f

            nothing : (x : ℕ) (t : Bool) → x ≡ x + cond (eqb byte 1 && t) s 0
            nothing x t = rw (ne_eqb byte 1 (λ z. omega (arith, z, b))) (omega arith)

      -- in none
      module _ (no : get_or start a 0 ≡ get_or end a 0) where
        R₀ : Row G k m groups w a (get_or start a 0) (get_or end a 0)
        R₀ = row a la

        none-holds : (g : ℕ) → g < groups → is_group_at G k (stored G g) ≡ true → holds G (stored G g) a ≡ false
        none-holds g lg t = by (test (holds G (stored G g) a))
          where
            by : (holds G (stored G g) a ≡ true) ⊎ (holds G (stored G g) a ≡ false) → holds G (stored G g) a ≡ false
            by (inl h) = let (j, p, r, e) = R₀.whole g lg t h in absurd (omega (arith, p, r, no))
            by (inr h) = h

        in_none : InNone G k a
        in_none h mh =
            let v = level_of G k mh in
            let (g, lg, e) = in_get_d empty_group (Rattle.truss.specs.Group.groups G) v.0 in
            ap (λ (o : Group). holds G o a) (sym e) ∙ none-holds g (omega (arith, lg, A.is_groups)) (ap (is_group_at G k) e ∙ v.1)

        byte_by : get_or ds i 0 ≡ cond (leb (get_or own a 0 + s) limit) 1 0
        byte_by = byte_of ∙ byte_alone G k opening (take i rs) (take i ds) a s in_none ∙ rw (S.owns a la in_none, S.limit_is) refl

        no_sums : (t : Bool) (g : ℕ) → g < groups → is_group_at G k (stored G g) ≡ true → cell w m SUM g ≡ cell w m SUM g + cond (t && holds G (stored G g) a) s 0
        no_sums t g lg v = rw (none-holds g lg v) (off t)
          where
            off : (t : Bool) → cell w m SUM g ≡ cell w m SUM g + cond (t && false) s 0
            off true = omega arith
            off false = omega arith

        pub standing_alone : {byte : ℕ} {own' tk' : List ℕ} → byte ≡ 1 → get_or own a 0 + s ≤ limit → own' ≡ set own a (get_or own a 0 + s) → tk' ≡ set tk i byte → Standing (i + 1) limit w own' tk'
        standing_alone {byte} {own'} {tk'} b room o u =
            next (b ∙ sym (byte_by ∙ rw (le-leb (get_or own a 0 + s) limit room) refl)) refl (ap length o ∙ length-set own a (get_or own a 0 + s)) (no_sums (eqb byte 1)) owns other-own (λ g lg d. refl) (λ c y d ly. refl) (λ x lx. refl) u
          where
            other-own : (c : ℕ) → (n ≤ c) ⊎ (¬ InNone G k c) → get_or own' c 0 ≡ get_or own c 0
            other-own c d = ap (λ (xs : List ℕ). get_or xs c 0) o ∙ get_or-set_other own a c (get_or own a 0 + s) 0 (apart d)
              where
                apart : (n ≤ c) ⊎ (¬ InNone G k c) → c ≢ a
                apart (inl h) e = omega (arith, h, e, la)
                apart (inr h) e = h (subst (InNone G k) (sym e) in_none)

            owns : (c : ℕ) → c < n → InNone G k c → get_or own' c 0 ≡ get_or own c 0 + cond (eqb byte 1 && eqb c a) s 0
            owns c lc h = rw (eq-eqb byte 1 b, o) (by (same_or_not c a))
              where
                by : (c ≡ a) ⊎ (c ≢ a) → get_or (set own a (get_or own a 0 + s)) c 0 ≡ get_or own c 0 + cond (eqb c a) s 0
                by (inl e) = rw (eq-eqb c a e, e) (get_or-set_same own a (get_or own a 0 + s) 0 (omega (arith, la, A.accounts, S.own-length)))
                by (inr e) = rw (ne_eqb c a e) (get_or-set_other own a c (get_or own a 0 + s) 0 e ∙ omega arith)

        pub standing_alone_full : {byte : ℕ} {tk' : List ℕ} → byte ≡ 0 → limit < get_or own a 0 + s → tk' ≡ set tk i byte → Standing (i + 1) limit w own tk'
        standing_alone_full {byte} b over u =
            next (b ∙ sym (byte_by ∙ rw (lt-leb (get_or own a 0 + s) limit over) refl)) refl refl (no_sums (eqb byte 1)) (λ c lc h. nothing (get_or own c 0) (eqb c a)) (λ c d. refl) (λ g lg d. refl) (λ c y d ly. refl) (λ x lx. refl) u
          where
            nothing : (x : ℕ) (t : Bool) → x ≡ x + cond (eqb byte 1 && t) s 0
            nothing x t = rw (ne_eqb byte 1 (λ z. omega (arith, z, b))) (omega arith)

    -- the byte of what is taken is 1, of what is not 0
    pub standing_more : {taken : Bool} {byte limit' : ℕ} {w' own' tk' : List ℕ} → TurnGives m limit taken limit' records i w w' start end own own' → byte ≡ from_bool taken → tk' ≡ set tk i byte → Standing (i + 1) limit' w' own' tk'
    standing_more (is_limit q t e small ew eo) b u = rw (e, ew, eo) (standing_limit q small (b ∙ ap from_bool t) u)
    standing_more (is_bet q e (held some H eo)) b u = rw (e, eo) (standing_held q some H b u)
    standing_more (is_bet q e (alone z t room eo ew)) b u = rw (e, ew) (standing_alone q z (b ∙ ap from_bool t) room eo u)
    standing_more (is_bet q e (alone_full z t over eo ew)) b u = rw (e, ew, eo) (standing_alone_full q z (b ∙ ap from_bool t) over u)

  pub standing_all : {i limit : ℕ} {w own tk : List ℕ} → i ≡ count → Standing i limit w own tk → Played G k n groups m opening limit records w₀ w own₀ own taken₀ tk
  standing_all {i} {limit} {w} {own} {tk} q S = record {
    length_is = S.length_is;
    limit = S.limit_is ∙ ap (limit_after opening) all_rs;
    small = S.limited;
    bytes = S.bytes ∙ ap (written taken₀ 0) all_ds;
    sums = λ g lg t. S.sums g lg t ∙ rw (all_rs, all_ds) refl;
    owns = λ a la h. S.owns a la h ∙ rw (all_rs, all_ds) refl;
    not_own = S.not_own;
    not_level = S.not_level;
    others = S.others;
  }
    where
      all_rs : take i rs ≡ rs
      all_rs = take_all i rs (omega (arith, q, rows-length))

      all_ds : take i ds ≡ ds
      all_ds = take_all i ds (omega (arith, q, rows-length, bytes_length G k opening rs))

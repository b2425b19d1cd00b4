-- A day tried on an index: what the calls promise, and the ways to it. Assumes nothing.
use Rattle.std.specs.Prelude.{Result, Ok, Err, IsErrAnd, ◌≡◌, ◌⊎◌, ◌≢◌, Bool, true, false, ◌||◌, ℕ, ◌+◌, ◌*◌, ◌/◌, ◌≤◌, ◌<◌, ltb, ◌-ℤ◌}
use Rattle.std.proofs.Math.Path.{refl, sym, ap}
use Rattle.std.proofs.Common.{subst, ap₂, ◌∙◌, inl, inr, arith, lt-ltb, le-ltb, ltb-false}
use Rattle.std.proofs.lemmas.Result.{err_from_is_err_and}
use mathlib.Core.List.{List}
use Rattle.std.proofs.Math.Dec.{eqb}
use Rattle.std.proofs.Math.ListN.{length, get_or, length-map}
use Rattle.std.proofs.Math.Seq.{ext_get_or}
use Rattle.std.proofs.Math.IntN.{ℤ, pos}
use Rattle.truss.specs.Limits.{max_accounts, max_links, max_records, min_level, max_level, record_length, margin_length}
use Rattle.truss.specs.Lists.{filter, range, concat_map}
use Rattle.truss.specs.Graph.{Graph}
use Rattle.truss.specs.Group.{Group, groups}
use Rattle.truss.specs.Refusal.{Checked, passed, refuse, refuse_if, and_then}
use Rattle.truss.specs.IndexFile.{read_index}
use Rattle.truss.specs.Question.{is_group_at, holds, empty_group, numbers_of}
use Rattle.truss.specs.Call.{done, overwrite}
use Rattle.truss.specs.Bets.{DayRecord, bet, limit_after, stakes_taken, margin_of, groups_of, Day, day_of, check_day, checked_day, Tried, settle_day, try_limit, record_at, records_in, margin_bytes, try_limit_bytes}
use Rattle.laws.proofs.Lists.{or_left_false}
use Rattle.laws.proofs.Members.{get_d_in, range_in}
use Rattle.laws.proofs.Answers.{numbers_in}
use Rattle.laws.proofs.Sets.{filter_same, map_range_at, map_at}
use Rattle.laws.proofs.Stored.{group_count, stored}
use Rattle.laws.proofs.Bets.{day_bytes, bytes_length, groups_by_number}
use Rattle.limits.specs.declared.refusal.Refusal.{Refusal}
use Rattle.limits.specs.declared.refusal.Refusal.TheVariants.{NoRoom}
use Rattle.limits.specs.Refusals.{number_of, checked}
use Rattle.columns.specs.Columns.{cell, entry, entry_bound, link_bound, COLUMNS}
use Rattle.columns.specs.Wiping.{zeros, zeros-length, zeros_at}
use Rattle.adjacency.specs.State.{entry-cell}
use Rattle.wire.specs.Writing.{written, written_start}
use Rattle.index.specs.declared.Reply.{Reply as CReply}
use Rattle.index.specs.Build.{reply_in, reply_of}
use Rattle.index.specs.Answered.{number_not_0}
use Rattle.stored.specs.declared.opened.Index.{Index}
use Rattle.stored.specs.Opening.{graph, handed}
use Rattle.stored.specs.Rows.{few_links, few_accounts, shape_sized, sized_few}
use Rattle.pools.specs.Pools.{TOP, PoolRows}
use Rattle.day.specs.Records.{records-length, record_here}
use Rattle.day.specs.Checks.{day_fault, fault_number, fault_ok, fault_err, day_checked, no_fault}
use Rattle.day.specs.Sums.{SUM}
use Rattle.day.specs.Playing.{PlayAsks, Played, row_kept}
use Rattle.trial.specs.declared.Closing.{Closing}
use Rattle.margins.specs.Margins.{LEVEL, tops_of, Listed, RowGiven, margin_in, margins_in, margins_length}

-- a call's result, and both buffers after it, in the definitions' words
abbrev pub tried_by : {A : Type 0} → Checked ℕ → List ℕ → List A → Tried A
tried_by given taken margins = record { reply = reply_of given; taken = taken; margins = margins }

-- an index has few links
pub few_m : (x : Index) → x.m ≤ max_links
few_m x = omega (arith, x.shape.links, few_links x.shape.groups_at_lem.is_index)

-- the checks of a day, on the links of an index
abbrev pub day_in : Graph → ℕ → ℕ → List DayRecord → ℕ → ℕ → Checked Day
day_in G k opening rs takenRoom marginRoom = and_then (check_day G k opening rs) (λ d. refuse_if (ltb takenRoom (length d.taken) || ltb marginRoom (length d.margins)) 12 0 (passed d))

-- THE PROMISE of a trial from C: its result and every byte of both buffers are what the definition gives. Index and records are lent to read.
abbrev pub BytesGives : List ℕ → List ℕ → ℕ → ℕ → List ℕ → List ℕ → Result ℕ Refusal → List ℕ → List ℕ → Type 0
BytesGives index records k limit taken margins r taken' margins' = tried_by (checked r) taken' margins' ≡ try_limit_bytes index k limit records taken margins

-- the same of a reply to a C host
abbrev pub BytesReplies : List ℕ → List ℕ → ℕ → ℕ → List ℕ → List ℕ → CReply → List ℕ → List ℕ → Type 0
BytesReplies index records k limit taken margins r taken' margins' = ◌≡◌ {A = Tried ℕ} (record { reply = reply_in r; taken = taken'; margins = margins' }) (try_limit_bytes index k limit records taken margins)

-- the same on the links that were read, and with margins as numbers
abbrev pub BytesOf : Graph → List DayRecord → ℕ → ℕ → List ℕ → List ℕ → Result ℕ Refusal → List ℕ → List ℕ → Type 0
BytesOf G rs k limit taken margins r taken' margins' = tried_by (checked r) taken' margins' ≡ settle_day (concat_map margin_bytes) (day_in G k limit rs (length taken) (length margins / margin_length)) taken margins

abbrev pub NumbersOf : Graph → List DayRecord → ℕ → ℕ → List ℕ → List ℤ → Result ℕ Refusal → List ℕ → List ℤ → Type 0
NumbersOf G rs k limit taken margins r taken' margins' = tried_by (checked r) taken' margins' ≡ settle_day (λ zs. zs) (day_in G k limit rs (length taken) (length margins)) taken margins

-- ---- 7, and the call by the links

module _ (b : List ℕ) (k limit : ℕ) (taken : List ℕ) where
  pub bytes_7 : (records margins : List ℕ) (r : Result ℕ Refusal) → read_index b ≡ refuse 7 0 → checked r ≡ refuse 7 0 → BytesGives b records k limit taken margins r taken margins
  unfolding try_limit_bytes checked_day and_then settle_day reply_of
  bytes_7 records margins r e R = ap (λ x. tried_by x taken margins) R ∙ rw (e, and_then, settle_day) refl

  pub bytes_of : (records margins : List ℕ) {G : Graph} (r : Result ℕ Refusal) {taken' margins' : List ℕ} → read_index b ≡ passed G → BytesOf G (records_in records) k limit taken margins r taken' margins'
      → BytesGives b records k limit taken margins r taken' margins'
  unfolding try_limit_bytes checked_day and_then
  bytes_of records margins r e B = B ∙ rw (e, and_then) refl

  pub numbers_7 : (rs : List DayRecord) (margins : List ℤ) (r : Result ℕ Refusal) → read_index b ≡ refuse 7 0 → checked r ≡ refuse 7 0 → tried_by (checked r) taken margins ≡ try_limit b k limit rs taken margins
  unfolding try_limit checked_day and_then settle_day reply_of
  numbers_7 rs margins r e R = ap (λ x. tried_by x taken margins) R ∙ rw (e, and_then, settle_day) refl

  pub numbers_of_lem : (rs : List DayRecord) (margins : List ℤ) {G : Graph} (r : Result ℕ Refusal) {taken' : List ℕ} {margins' : List ℤ} → read_index b ≡ passed G → NumbersOf G rs k limit taken margins r taken' margins'
      → tried_by (checked r) taken' margins' ≡ try_limit b k limit rs taken margins
  unfolding try_limit checked_day and_then
  numbers_of_lem rs margins r e B = B ∙ rw (e, and_then) refl

-- ---- a day without a fault, played

-- no fault, and room for the bytes
pub record CloseAsks (x : Index) (records : List ℕ) (count k opening : ℕ) (taken w : List ℕ) : Type 0 where
  pub blank : w ≡ zeros (COLUMNS * x.m)
  pub level : min_level ≤ k
  pub is_count : length records / record_length ≡ count
  pub in_range : count ≤ max_records
  pub inside : (i a s : ℕ) → i < count → record_at records (i * record_length) ≡ bet a s → a < x.n
  pub room : count ≤ length taken
  pub limited : opening < entry_bound

-- what was played: a byte of each record, the groups at k by number, and what their margins are read from
pub record PlayedOut (G : Graph) (m : ℕ) (rs : List DayRecord) (k opening : ℕ) (taken taken' : List ℕ) (c : Closing) (w : List ℕ) : Type 0 where
  pub bytes : taken' ≡ written taken 0 (day_bytes G k opening rs)
  pub count : c.groups ≡ length (groups_of G k)
  pub few : c.groups ≤ m
  pub row : RowGiven m c.groups c.limit w
  pub margins : margins_in w m c.limit c.groups ≡ (day_of G k opening rs).margins

-- what is played, or 12 for the margins
pub data CloseGives (G : Graph) (m : ℕ) (rs : List DayRecord) (k opening room : ℕ) (taken taken' : List ℕ) (r : Result Closing Refusal) (w : List ℕ) : Type 0 where
  short : r ≡ Err NoRoom → room < length (groups_of G k) → taken' ≡ taken → CloseGives G m rs k opening room taken taken' r w
  closed : (c : Closing) → r ≡ Ok c → length (groups_of G k) ≤ room → PlayedOut G m rs k opening taken taken' c w → CloseGives G m rs k opening room taken taken' r w

-- ---- a day with its checks

pub data InGives (G : Graph) (m : ℕ) (rs : List DayRecord) (k opening room : ℕ) (taken taken' : List ℕ) (r : Result Closing Refusal) (w : List ℕ) : Type 0 where
  refuses : (e : Refusal) → r ≡ Err e → day_in G k opening rs (length taken) room ≡ refuse (number_of e) 0 → taken' ≡ taken → InGives G m rs k opening room taken taken' r w
  passes : (c : Closing) → r ≡ Ok c → day_in G k opening rs (length taken) room ≡ passed (day_of G k opening rs) → length (day_bytes G k opening rs) ≤ length taken → length (groups_of G k) ≤ room
      → PlayedOut G m rs k opening taken taken' c w → InGives G m rs k opening room taken taken' r w

-- ---- the groups at k by number, listed

module _ {G : Graph} {k n m count t : ℕ} {w w' start end : List ℕ} (P : PoolRows G k n m count w start end) (is_count : group_count G ≡ count) (L : Listed m count t w w') where
  nums : List ℕ
  nums = numbers_of (is_group_at G k) (groups G)

  tops_are : tops_of w m count ≡ nums
  unfolding tops_of numbers_of nums
  tops_are =
      ap (λ (c : ℕ). filter (λ g. eqb (cell w m TOP g) g) (range 0 c)) (sym is_count)
      ∙ filter_same (λ g. eqb (cell w m TOP g) g) (λ g. is_group_at G k (get_or (groups G) g empty_group)) (range 0 (group_count G)) (λ g h. sym (P.tops g (omega (arith, range_in 0 (group_count G) h, is_count))))

  pub listed-groups : t ≡ length (groups_of G k)
  unfolding nums
  listed-groups = L.count ∙ ap length tops_are ∙ sym (ap length (groups_by_number G k) ∙ length-map nums (λ g. get_or (groups G) g empty_group))

  -- group j of the row
  level_at : (j : ℕ) → j < t → cell w' m LEVEL j ≡ get_or nums j 0
  level_at j l = L.row j l ∙ ap (λ (xs : List ℕ). get_or xs j 0) tops_are

  group_at_place : (j : ℕ) → j < t → get_or (groups_of G k) j empty_group ≡ stored G (get_or nums j 0)
  unfolding nums
  group_at_place j l =
      ap (λ (gs : List Group). get_or gs j empty_group) (groups_by_number G k)
      ∙ map_at (λ g. get_or (groups G) g empty_group) 0 empty_group nums j (omega (arith, l, L.count, ap length tops_are))

  numbered : (j : ℕ) → j < t → (get_or nums j 0 < count) × (is_group_at G k (stored G (get_or nums j 0)) ≡ true)
  unfolding nums
  numbered j l =
      let inside = numbers_in (is_group_at G k) (groups G) (get_d_in 0 nums j (omega (arith, l, L.count, ap length tops_are))) in
      (omega (arith, inside.0, is_count), inside.1)

  -- what is played on: the rows are as they were, and nothing is taken yet
  entries_kept : (j : ℕ) → j < 2 * m → entry w' m j ≡ entry w m j
  entries_kept j l = let (d, y, ld, ly, e, f) = entry-cell w m j l in f w' ∙ L.others d y (λ q. omega (arith, q, ld)) ly ∙ sym e

  module _ {opening c : ℕ} {records starts ends own taken : List ℕ} (same_start : (a : ℕ) → a < n → get_or starts a 0 ≡ get_or start a 0) (same_end : (a : ℕ) → a < n → get_or ends a 0 ≡ get_or end a 0) where
    pub play_asks : (n ≤ length starts) → (n ≤ length ends) → count ≤ m → m ≤ max_links → own ≡ zeros (max_accounts + 1) → n ≤ max_accounts → length records / record_length ≡ c → c ≤ max_records
        → ((i a s : ℕ) → i < c → record_at records (i * record_length) ≡ bet a s → a < n) → c ≤ length taken → opening < entry_bound
        → PlayAsks G k n count m opening c records w' starts ends own taken
    play_asks ls le few small own_is na is_c cr inside room limited = record {
      size_is = L.length_is ∙ P.size_is;
      starts = ls;
      ends = le;
      rows = λ a l. rw (same_start a l, same_end a l) (row_kept entries_kept (P.rows a l));
      untaken = λ g l. L.others SUM g (omega arith) l ∙ P.free SUM g (omega arith) (omega arith) l;
      is_groups = is_count;
      few = few;
      small = small;
      accounts = omega (arith, ap length own_is, zeros-length (max_accounts + 1), na);
      few_accounts = na;
      none = λ a l. ap (λ (xs : List ℕ). get_or xs a 0) own_is ∙ zeros_at (max_accounts + 1) a;
      is_count = is_c;
      in_range = cr;
      inside = inside;
      room = room;
      limited = limited;
    }

  module _ {opening r : ℕ} {records w'' own own' taken taken' : List ℕ} (few : count ≤ m) (small : m ≤ max_links) (D : Played G k n count m opening r records w' w'' own own' taken taken') where
    abbrev rs : List DayRecord
    rs = records_in records

    level_after : (j : ℕ) → j < t → cell w'' m LEVEL j ≡ get_or nums j 0
    level_after j l = D.others LEVEL j (omega arith) (omega (arith, l, L.few, few)) ∙ level_at j l

    pub row-given : RowGiven m t r w''
    row-given = record {
      size_is = D.length_is ∙ L.length_is ∙ P.size_is;
      few = omega (arith, small);
      limited = D.small;
      part = omega (arith, L.few, few);
      below = λ j l. omega (arith, level_after j l, (numbered j l).0, few);
    }

    pub margins_are : margins_in w'' m r t ≡ (day_of G k opening rs).margins
    unfolding day_of margin_of margins_in
    margins_are = ext_get_or (pos 0) (margins_in w'' m r t) (day_of G k opening rs).margins (margins_length w'' m r t ∙ sym (length-map (groups_of G k) margin ∙ sym listed-groups)) at
      where
        margin : Group → ℤ
        margin g = pos (limit_after opening rs) -ℤ pos (stakes_taken (holds G g) rs (day_bytes G k opening rs))

        at : (j : ℕ) → j < length (margins_in w'' m r t) → get_or (margins_in w'' m r t) j (pos 0) ≡ get_or (day_of G k opening rs).margins j (pos 0)
        at j h =
            let l : j < t = omega (arith, h, margins_length w'' m r t) in
            let v = numbered j l in
            map_range_at (margin_in w'' m r) (pos 0) 0 t j l
            ∙ ap (margin_in w'' m r) (omega arith)
            ∙ ap₂ (λ (x y : ℕ). pos x -ℤ pos y) D.limit (ap (cell w'' m SUM) (level_after j l) ∙ D.sums (get_or nums j 0) v.0 v.1)
            ∙ ap margin (sym (group_at_place j l))
            ∙ sym (map_at margin empty_group (pos 0) (groups_of G k) j (omega (arith, l, listed-groups)))

-- ---- the checks

is_err : {A : Type 0} (r : Result A Refusal) {e : Refusal} → IsErrAnd r (λ x. x ≡ e) → r ≡ Err e
is_err {A} r h = let p = err_from_is_err_and r h in p.1 ∙ ap {B = Result A Refusal} (λ x. Err x) p.2

module _ (G : Graph) (m : ℕ) (rs : List DayRecord) (k opening room : ℕ) (taken : List ℕ) where
  taken_long : length (day_of G k opening rs).taken ≡ length rs
  unfolding day_of
  taken_long = bytes_length G k opening rs

  margins_long : length (day_of G k opening rs).margins ≡ length (groups_of G k)
  unfolding day_of
  margins_long = length-map (groups_of G k) (λ g. margin_of (holds G g) opening rs (day_bytes G k opening rs))

  module _ {n : ℕ} (accounts : G.n ≡ n) (f : Result (Unit {0}) Refusal) (q : fault_number f ≡ day_fault n k opening rs) where
    at_graph : fault_number f ≡ day_fault G.n k opening rs
    at_graph = q ∙ ap (λ (x : ℕ). day_fault x k opening rs) (sym accounts)

    pub in_refused : (e : Refusal) (r : Result Closing Refusal) (w : List ℕ) → f ≡ Err e → IsErrAnd r (λ x. x ≡ e) → InGives G m rs k opening room taken taken r w
    unfolding and_then
    in_refused e r w p h = refuses e (is_err r h) (go (day_checked G k opening rs (fault_err at_graph p))) refl
      where
        go : ((number_of e ≡ 0) × (check_day G k opening rs ≡ passed (day_of G k opening rs))) ⊎ ((number_of e ≢ 0) × (check_day G k opening rs ≡ refuse (number_of e) 0)) → day_in G k opening rs (length taken) room ≡ refuse (number_of e) 0
        go (inl (z, y)) = absurd (number_not_0 e z)
        go (inr (z, y)) = rw (y, and_then) refl

    module _ {u : Unit {0}} (z : f ≡ Ok u) where
      is_day : check_day G k opening rs ≡ passed (day_of G k opening rs)
      is_day = go (day_checked G k opening rs (fault_ok at_graph z))
        where
          go : ((◌≡◌ {A = ℕ} 0 0) × (check_day G k opening rs ≡ passed (day_of G k opening rs))) ⊎ ((◌≢◌ {A = ℕ} 0 0) × (check_day G k opening rs ≡ refuse 0 0)) → check_day G k opening rs ≡ passed (day_of G k opening rs)
          go (inl (y, e)) = e
          go (inr (d, e)) = absurd (d refl)

      by_room : day_in G k opening rs (length taken) room
          ≡ refuse_if (ltb (length taken) (length (day_of G k opening rs).taken) || ltb room (length (day_of G k opening rs).margins)) 12 0 (passed (day_of G k opening rs))
      unfolding and_then
      by_room = rw (is_day, and_then) refl

      right_true : (x : Bool) → (x || true) ≡ true
      right_true true = refl
      right_true false = refl

      pub in_short : (w : List ℕ) → length taken < length rs → InGives G m rs k opening room taken taken (Err NoRoom) w
      unfolding number_of
      in_short w l = refuses NoRoom refl (by_room ∙ rw (lt-ltb (length taken) (length (day_of G k opening rs).taken) (omega (arith, l, taken_long))) refl) refl

      pub in_closed : {taken' : List ℕ} {r : Result Closing Refusal} {w : List ℕ} → length rs ≤ length taken → CloseGives G m rs k opening room taken taken' r w → InGives G m rs k opening room taken taken' r w
      unfolding number_of
      in_closed fits (short e l same) =
          refuses NoRoom e (by_room ∙ rw (lt-ltb room (length (day_of G k opening rs).margins) (omega (arith, l, margins_long)), right_true (ltb (length taken) (length (day_of G k opening rs).taken))) refl) same
      in_closed fits (closed c e l P) =
          passes c e
          (by_room ∙ rw (le-ltb (length taken) (length (day_of G k opening rs).taken) (omega (arith, fits, taken_long)), le-ltb room (length (day_of G k opening rs).margins) (omega (arith, l, margins_long))) refl)
          (omega (arith, fits, bytes_length G k opening rs)) l P

-- what a day without a fault is played on
pub close_asks : (x : Index) {records taken w : List ℕ} {k opening : ℕ} {f : Result (Unit {0}) Refusal} {u : Unit {0}} → w ≡ zeros (COLUMNS * x.m) → opening < entry_bound → fault_number f ≡ day_fault x.n k opening (records_in records)
    → f ≡ Ok u → length records / record_length ≤ length taken → CloseAsks x records (length records / record_length) k opening taken w
close_asks x {records} {taken} {w} {k} {opening} blank limited q z room =
    let F = no_fault x.n k opening (records_in records) (fault_ok q z) in
    record {
      blank = blank;
      level = ltb-false k min_level (or_left_false (ltb k min_level) (ltb max_level k) F.level);
      is_count = refl;
      in_range = omega (arith, F.few, records-length records);
      inside = λ i a s l e. F.inside i a s (omega (arith, l, records-length records)) (record_here records i l ∙ e);
      room = room;
      limited = limited;
    }

-- ---- results

not_both : {A B : Type 0} {x : A} {y : B} → ◌≡◌ {A = Result A B} (Ok x) (Err y) → ⊥
not_both q = cc

module _ {G : Graph} {m : ℕ} {rs : List DayRecord} {k opening room : ℕ} {taken taken' : List ℕ} {t : Result Closing Refusal} {w : List ℕ} (I : InGives G m rs k opening room taken taken' t w) where
  -- refused: what `?` hands on
  module _ {A : Type 0} (write : List ℤ → List A) (margins : List A) where
    pub gives_refused : (e : Refusal) (r : Result ℕ Refusal) → t ≡ Err e → IsErrAnd r (λ x. x ≡ e) → tried_by (checked r) taken' margins ≡ settle_day write (day_in G k opening rs (length taken) room) taken margins
    unfolding settle_day reply_of
    gives_refused e r p h = go I
      where
        go : InGives G m rs k opening room taken taken' t w → tried_by (checked r) taken' margins ≡ settle_day write (day_in G k opening rs (length taken) room) taken margins
        go (refuses x y d same) =
            let z : x ≡ e = cc in
            rw (handed r e h, d, same, z) refl
        go (passes c y d fits l P) = absurd (not_both (sym y ∙ p))

  -- done: what is asked for the margins, and what is given
  module _ {c : Closing} (p : t ≡ Ok c) where
    done_in : (day_in G k opening rs (length taken) room ≡ passed (day_of G k opening rs)) × (length (groups_of G k) ≤ room) × PlayedOut G m rs k opening taken taken' c w
    done_in = go I
      where
        go : InGives G m rs k opening room taken taken' t w → (day_in G k opening rs (length taken) room ≡ passed (day_of G k opening rs)) × (length (groups_of G k) ≤ room) × PlayedOut G m rs k opening taken taken' c w
        go (refuses x y d same) = absurd (not_both (sym p ∙ y))
        go (passes x y d fits l P) =
            let z : x ≡ c = cc in
            (d, l, subst (λ (v : Closing). PlayedOut G m rs k opening taken taken' v w) z P)

    pub closing_row : RowGiven m c.groups c.limit w
    closing_row = done_in.2.row

    pub closing_room : (c.groups ≤ room) × (c.groups ≤ m)
    closing_room = (omega (arith, done_in.2.count, done_in.1), done_in.2.few)

    module _ {A : Type 0} (write : List ℤ → List A) (margins : List A) where
      pub gives_done : {margins' : List A} → margins' ≡ overwrite (write (margins_in w m c.limit c.groups)) margins → tried_by (checked (Ok c.groups)) taken' margins' ≡ settle_day write (day_in G k opening rs (length taken) room) taken margins
      unfolding settle_day day_of reply_of checked
      gives_done {margins'} e =
          let n : c.groups ≡ length (day_of G k opening rs).margins = done_in.2.count ∙ sym (length-map (groups_of G k) (λ g. margin_of (holds G g) opening rs (day_bytes G k opening rs))) in
          let x : taken' ≡ overwrite (day_of G k opening rs).taken taken = done_in.2.bytes ∙ written_start taken (day_bytes G k opening rs) in
          let y : margins' ≡ overwrite (write (day_of G k opening rs).margins) margins = e ∙ ap (λ (zs : List ℤ). overwrite (write zs) margins) done_in.2.margins in
          rw done_in.0 (λ i. record { reply = done (n i); taken = x i; margins = y i })

-- ---- a day that is played

module _ (x : Index) {records taken w₀ : List ℕ} {count k opening : ℕ} (A : CloseAsks x records count k opening taken w₀) where
  abbrev H : Graph
  H = graph x

  few_groups : (x.groups ≤ x.m) × (x.m ≤ max_links)
  few_groups = sized_few (shape_sized x.shape)

  pub few_n : x.n ≤ max_accounts
  few_n = omega (arith, x.shape.accounts, few_accounts x.shape.groups_at_lem.is_index)

  module _ {w₁ start end : List ℕ} (P : PoolRows H k x.n x.m x.groups w₁ start end) where
    pub close_size : length w₁ ≡ COLUMNS * x.m
    close_size = P.size_is

    pub close_list : (x.groups ≤ x.m) × (x.m ≤ link_bound)
    close_list = (few_groups.0, omega (arith, few_groups.1))

    module _ {t : ℕ} {w₂ : List ℕ} (L : Listed x.m x.groups t w₁ w₂) where
      pub close_short : {room : ℕ} → room < t → CloseGives H x.m (records_in records) k opening room taken taken (Err NoRoom) w₂
      close_short l = short refl (omega (arith, l, listed-groups P x.shape.groups L)) refl

      pub close_play : {own : List ℕ} → own ≡ zeros (max_accounts + 1) → PlayAsks H k x.n x.groups x.m opening count records w₂ start end own taken
      close_play z =
          play_asks P x.shape.groups L (λ a l. refl) (λ a l. refl) (omega (arith, P.starts)) (omega (arith, P.ends)) few_groups.0 few_groups.1 z few_n A.is_count A.in_range A.inside A.room
          A.limited

      pub close_done : {room r : ℕ} {w₃ own own' taken' : List ℕ} → t ≤ room → Played H k x.n x.groups x.m opening r records w₂ w₃ own own' taken taken'
          → CloseGives H x.m (records_in records) k opening room taken taken' (Ok (record { groups = t; limit = r })) w₃
      close_done l D =
          closed _ refl (omega (arith, l, listed-groups P x.shape.groups L)) (record {
            bytes = D.bytes;
            count = listed-groups P x.shape.groups L;
            few = omega (arith, L.few, few_groups.0);
            row = row-given P x.shape.groups L few_groups.0 few_groups.1 D;
            margins = margins_are P x.shape.groups L few_groups.0 few_groups.1 D;
          })

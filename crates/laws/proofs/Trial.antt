-- What trying a limit gives: `trial_rule`. In order: room and the byte of a record; bounds; the checks; the day's bytes in front of a lent buffer; a margin as eight bytes; the whole calls;
-- the groups at k.
use mathlib.Core.Path.{◌≡◌, refl, sym, ap, ◌∙◌, subst}
use mathlib.Core.Logic.{◌⊎◌, inl, inr}
use mathlib.Core.Bool.{Bool, true, false, cond, ◌&&◌, ◌||◌}
use mathlib.Core.List.{List, [], ◌∷◌, ◌++◌, append_assoc}
use mathlib.Core.List.{Memᴰ as In}
use Prim.Native.Nat.{ℕ, zero, suc, ◌+◌, ◌-◌, ◌*◌, ◌/◌, ◌%◌, ◌≤◌, ◌<◌}
use native.Mathlib.Nat.{not-suc-le-zero, le_of_suc-le-suc}
use native.Mathlib.Numerals.{add-one}
use native.Mathlib.Omega.{arith}
use lib.Dec.{eqb, ltb, leb}
use lib.ListN.{length, get_or, take, drop, length-append, length-map, length-drop, get_or-append, get_or-eq_default}
use lib.Seq.{take-length, take-append-le, get_or-append-add, get_or-drop}
use lib.IntN.{ℤ, pos, negsuc, ◌-ℤ◌}
use lib.Signed.{le_z, mag, ◌≤ℤ◌}
use borrow.Author.Tests.{ltb-true, lt-ltb, le-ltb, le-leb, lt-leb, eqb-true}
use Rattle.truss.specs.Limits.{min_level, max_level, max_records, min_stake, max_stake, max_limit, margin_length}
use Rattle.truss.specs.Lists.{any, concat_map}
use Rattle.truss.specs.Graph.{Graph, link, link_at, member}
use Rattle.truss.specs.Strength.{strength, truss, strength_bound}
use Rattle.truss.specs.Group.{Group, least_link, groups, group_at}
use Rattle.truss.specs.Refusal.{Checked, passed, refused, refuse, refuse_if, and_then}
use Rattle.truss.specs.Record.{from_bytes}
use Rattle.truss.specs.IndexFile.{read_index}
use Rattle.truss.specs.Question.{empty_group, holds, is_group_at}
use Rattle.truss.specs.Call.{done, overwrite}
use Rattle.truss.specs.Windows.{refused_by}
use Rattle.truss.specs.Order.{Level}
use Rattle.truss.specs.Bets.{DayRecord, bet, new_limit, limit_after, stakes_taken, margin_of, groups_of, byte_for, Day, day_of, check_records, check_day, checked_day, settle_day, try_limit, records_in, max_word, complement, signed, margin_bytes, margin_at, try_limit_bytes}
use Rattle.truss.specs.Trial.{no_record, HasRoom, ByteIs, taken as is-taken, not_taken, limited, Sound, sound_bet, sound_limit, RecordFault, outside, stake, limit, DayFault, level, many, opened, recorded, NoFault, Closes, TrialRule}
use Rattle.laws.proofs.Numbers.{less_or_not}
use Rattle.laws.proofs.Lists.{test, true_not_false, and_left, and_right, both, largest_passes}
use Rattle.laws.proofs.Members.{any_in, in_any, in_filter, first_in, get_d_in}
use Rattle.laws.proofs.Sets.{same_list_eq, eq_same_list, map_at}
use Rattle.laws.proofs.Bets.{margin_test, margin_mag, limit_bet, limit_new, stakes_bet, stakes_limit, day_bytes, bytes_length, byte_here, byte_limit, byte_alone, byte_room, byte_full, level_of}
use Rattle.laws.proofs.Answers.{is_level, no_level}
use Rattle.laws.proofs.Size.{concat_map-length}
use Rattle.laws.proofs.Peeling.{truss_is}
use Rattle.laws.proofs.Groups.{size, group_strong, group_rebase}
use Rattle.laws.proofs.Stored.{stored_has}
use Rattle.laws.proofs.Support.{passed_order}

-- ---- room for a bet, and the byte of a record

module _ (G : Graph) (k opening : ℕ) where
  module _ (before : List DayRecord) (bytes : List ℕ) (a s : ℕ) where
    -- the stakes taken so far with this one
    abbrev with_stake : (ℕ → Bool) → ℕ
    with_stake p = stakes_taken p before bytes + s

    abbrev limit_now : ℕ
    limit_now = limit_after opening before

    margin_is : (p : ℕ → Bool) → le_z (pos s) (margin_of p opening before bytes) ≡ leb (with_stake p) limit_now
    unfolding margin_of
    margin_is p = margin_test s (limit_after opening before) (stakes_taken p before bytes)

    holds_stake : (p : ℕ → Bool) → with_stake p ≤ limit_now → pos s ≤ℤ margin_of p opening before bytes
    holds_stake p l = record { le = rw (margin_is p ∙ le-leb (with_stake p) limit_now l) tt }

    stake_held : (p : ℕ → Bool) → pos s ≤ℤ margin_of p opening before bytes → with_stake p ≤ limit_now
    stake_held p r = go (less_or_not limit_now (with_stake p))
      where
        go : (limit_now < with_stake p) ⊎ (with_stake p ≤ limit_now) → with_stake p ≤ limit_now
        go (inl l) = absurd (rw (margin_is p ∙ lt-leb (with_stake p) limit_now l) at r.le)
        go (inr l) = l

    -- a bet has room and gets 1, or has none and gets 0
    abbrev RoomByte : Type 0
    RoomByte =
        (HasRoom G k opening before bytes a s × (byte_for G k opening before bytes (bet a s) ≡ 1))
        ⊎ ((¬ HasRoom G k opening before bytes a s) × (byte_for G k opening before bytes (bet a s) ≡ 0))

    -- a group of the account without room
    abbrev full : Group → Bool
    full g = holds G g a && ltb limit_now (with_stake (holds G g))

    room_byte : RoomByte
    room_byte = some (test (any (λ g. holds G g a) (groups_of G k)))
      where
        some : (any (λ g. holds G g a) (groups_of G k) ≡ true) ⊎ (any (λ g. holds G g a) (groups_of G k) ≡ false) → RoomByte
        some (inl t) = let (g, m, h) = any_in (λ o. holds G o a) (groups_of G k) t in held g m h (test (any full (groups_of G k)))
          where
            held : (g : Group) → In g (groups_of G k) → holds G g a ≡ true → (any full (groups_of G k) ≡ true) ⊎ (any full (groups_of G k) ≡ false) → RoomByte
            held g m h (inl f) =
                let (o, mo, q) = any_in full (groups_of G k) f in
                let ho : holds G o a ≡ true = and_left (holds G o a) _ q in
                let over : limit_now < with_stake (holds G o) = ltb-true limit_now (with_stake (holds G o)) (and_right (holds G o a) _ q) in
                inr (λ r. omega (arith, over, stake_held (holds G o) (r.every_group o mo ho)), byte_full G k opening before bytes a s o mo ho over)
            held g m h (inr f) = inl (
              record {
                every_group = λ o mo ho. holds_stake (holds G o) (fits o mo ho);
                by_itself = λ none. absurd (true_not_false h (none g m));
              },
              byte_room G k opening before bytes a s g m h fits,
            )
              where
                fits : (o : Group) → In o (groups_of G k) → holds G o a ≡ true → with_stake (holds G o) ≤ limit_now
                fits o mo ho = at (less_or_not limit_now (with_stake (holds G o)))
                  where
                    at : (limit_now < with_stake (holds G o)) ⊎ (with_stake (holds G o) ≤ limit_now) → with_stake (holds G o) ≤ limit_now
                    at (inl l) = absurd (true_not_false (in_any full (groups_of G k) mo (both ho (lt-ltb limit_now (with_stake (holds G o)) l))) f)
                    at (inr l) = l
        some (inr f) = alone (less_or_not limit_now (with_stake (eqb a)))
          where
            none : (g : Group) → In g (groups_of G k) → holds G g a ≡ false
            none g m = at (test (holds G g a))
              where
                at : (holds G g a ≡ true) ⊎ (holds G g a ≡ false) → holds G g a ≡ false
                at (inl h) = absurd (true_not_false (in_any (λ o. holds G o a) (groups_of G k) m h) f)
                at (inr h) = h

            byte : byte_for G k opening before bytes (bet a s) ≡ cond (leb (with_stake (eqb a)) limit_now) 1 0
            byte = byte_alone G k opening before bytes a s none

            alone : (limit_now < with_stake (eqb a)) ⊎ (with_stake (eqb a) ≤ limit_now) → RoomByte
            alone (inl l) = inr (λ r. omega (arith, l, stake_held (eqb a) (r.by_itself none)), byte ∙ rw (lt-leb (with_stake (eqb a)) limit_now l) refl)
            alone (inr l) = inl (
              record {
                every_group = λ g m h. absurd (true_not_false h (none g m));
                by_itself = λ n. holds_stake (eqb a) l;
              },
              byte ∙ rw (le-leb (with_stake (eqb a)) limit_now l) refl,
            )

  -- bytes that begin with those of the day
  module _ (rs : List DayRecord) (rest : List ℕ) where
    abbrev lent : List ℕ
    lent = day_bytes G k opening rs ++ rest

    byte_at : (i : ℕ) → i < length rs → get_or lent i 0 ≡ byte_for G k opening (take i rs) (take i lent) (get_or rs i no_record)
    byte_at i l =
        let lb : i < length (day_bytes G k opening rs) = omega (arith, l, bytes_length G k opening rs) in
        get_or-append (day_bytes G k opening rs) rest 0 i lb ∙ byte_here G k opening rs i l
        ∙ ap (λ bs. byte_for G k opening (take i rs) bs (get_or rs i no_record)) (sym (take-append-le i (day_bytes G k opening rs) rest (omega arith)))

    byte_rule : (i : ℕ) → i < length rs → ByteIs G k opening rs lent i
    byte_rule i l = go (get_or rs i no_record) refl
      where
        go : (r : DayRecord) → get_or rs i no_record ≡ r → ByteIs G k opening rs lent i
        go (bet a s) q = at (room_byte (take i rs) (take i lent) a s)
          where
            here : get_or lent i 0 ≡ byte_for G k opening (take i rs) (take i lent) (bet a s)
            here = byte_at i l ∙ ap (byte_for G k opening (take i rs) (take i lent)) q

            at : RoomByte (take i rs) (take i lent) a s → ByteIs G k opening rs lent i
            at (inl (r, b)) = is-taken q r (here ∙ b)
            at (inr (n, b)) = not_taken q n (here ∙ b)
        go (new_limit x) q = limited q (byte_at i l ∙ ap (byte_for G k opening (take i rs) (take i lent)) q ∙ byte_limit G k opening (take i rs) (take i lent) x)

  -- ---- bounds

  -- the stakes that a group's accounts have had taken in the first i records
  abbrev sum_at : List DayRecord → Group → ℕ → ℕ
  sum_at rs g i = stakes_taken (holds G g) (take i rs) (take i (day_bytes G k opening rs))

  limit_start : (rs : List DayRecord) → limit_after opening (take 0 rs) ≡ opening
  unfolding limit_after
  limit_start [] = refl
  limit_start (r ∷ rs) = refl

  sum_start : (p : ℕ → Bool) (rs : List DayRecord) (bs : List ℕ) → stakes_taken p (take 0 rs) bs ≡ 0
  unfolding stakes_taken
  sum_start p [] bs = refl
  sum_start p (r ∷ rs) bs = refl

  sound_new : {x : ℕ} → Sound G (new_limit x) → x ≤ max_limit
  sound_new (sound_limit l) = l

  module _ (rs : List DayRecord) (in_range : opening ≤ max_limit) (sound : (j : ℕ) → j < length rs → Sound G (get_or rs j no_record)) where
    limit_next : (i : ℕ) → i < length rs → limit_after opening (take i rs) ≤ max_limit → limit_after opening (take (i + 1) rs) ≤ max_limit
    limit_next i l before = go (get_or rs i no_record) refl
      where
        go : (r : DayRecord) → get_or rs i no_record ≡ r → limit_after opening (take (i + 1) rs) ≤ max_limit
        go (bet a s) q = rw (limit_bet opening rs i l q) before
        go (new_limit x) q = rw (limit_new opening rs i l q) (sound_new (subst (Sound G) q (sound i l)))

    limit_within : (i : ℕ) → i ≤ length rs → limit_after opening (take i rs) ≤ max_limit
    limit_within zero l = rw (limit_start rs) in_range
    limit_within (suc i) l = rw (← add-one i) (limit_next i l (limit_within i (omega arith)))

    -- a bet of a group is taken only within the limit of that time
    sum-next : (g : Group) → In g (groups_of G k) → (i : ℕ) → i < length rs → sum_at rs g i ≤ max_limit → sum_at rs g (i + 1) ≤ max_limit
    sum-next g m i l before = go (get_or rs i no_record) refl
      where
        bs : List ℕ
        bs = day_bytes G k opening rs

        lb : i < length (day_bytes G k opening rs)
        lb = omega (arith, l, bytes_length G k opening rs)

        byte : ℕ
        byte = get_or (day_bytes G k opening rs) i 0

        go : (r : DayRecord) → get_or rs i no_record ≡ r → sum_at rs g (i + 1) ≤ max_limit
        go (new_limit x) q = rw (stakes_limit (holds G g) rs bs i l lb q) before
        go (bet a s) q = rw (stakes_bet (holds G g) rs bs i l lb q) (at (test (eqb byte 1 && holds G g a)))
          where
            -- were it over the limit, its byte would be 0
            room : eqb byte 1 && holds G g a ≡ true → (limit_after opening (take i rs) < sum_at rs g i + s) ⊎ (sum_at rs g i + s ≤ limit_after opening (take i rs)) → sum_at rs g i + s ≤ max_limit
            room t (inl over) =
                let zero-byte = byte_full G k opening (take i rs) (take i bs) a s g m (and_right (eqb byte 1) (holds G g a) t) over in
                let here : byte ≡ 0 = byte_here G k opening rs i l ∙ ap (byte_for G k opening (take i rs) (take i bs)) q ∙ zero-byte in
                absurd (omega (arith, here, eqb-true byte 1 (and_left (eqb byte 1) (holds G g a) t)))
            room t (inr fits) = omega (arith, fits, limit_within i (omega arith))

            at : (eqb byte 1 && holds G g a ≡ true) ⊎ (eqb byte 1 && holds G g a ≡ false) → sum_at rs g i + cond (eqb byte 1 && holds G g a) s 0 ≤ max_limit
            at (inr f) = rw f (omega (arith, before))
            at (inl t) = rw t (room t (less_or_not (limit_after opening (take i rs)) (sum_at rs g i + s)))

    sum_within : (g : Group) → In g (groups_of G k) → (i : ℕ) → i ≤ length rs → sum_at rs g i ≤ max_limit
    sum_within g m zero l = rw (sum_start (holds G g) rs (take 0 (day_bytes G k opening rs))) (omega arith)
    sum_within g m (suc i) l = rw (← add-one i) (sum-next g m i l (sum_within g m i (omega arith)))

    closing_within : (g : Group) → In g (groups_of G k) → mag (margin_of (holds G g) opening rs (day_bytes G k opening rs)) ≤ max_limit
    unfolding margin_of
    closing_within g m =
        let a = limit_within (length rs) (omega arith) in
        let b = sum_within g m (length rs) (omega arith) in
        let whole : take (length rs) (day_bytes G k opening rs) ≡ day_bytes G k opening rs
        = ap (λ n. take n (day_bytes G k opening rs)) (sym (bytes_length G k opening rs)) ∙ take-length (day_bytes G k opening rs) in
        margin_mag (limit_after opening rs) (stakes_taken (holds G g) rs (day_bytes G k opening rs)) max_limit (rw (take-length rs) at a) (rw (take-length rs, whole) at b)

-- ---- the checks

module _ (G : Graph) where
  -- a record without a fault leaves it to the others
  sound_on : {A : Type 0} (r : DayRecord) (rs : List DayRecord) (x : A) → Sound G r → check_records G (r ∷ rs) x ≡ check_records G rs x
  unfolding check_records
  sound_on (bet a s) rs x (sound_bet l low high) = rw (lt-leb G.n a l, le-ltb s min_stake low, le-ltb max_stake s high) refl
  sound_on (new_limit y) rs x (sound_limit l) = rw (le-ltb max_limit y l) refl

  sound_records : {A : Type 0} (rs : List DayRecord) (x : A) → ((j : ℕ) → j < length rs → Sound G (get_or rs j no_record)) → check_records G rs x ≡ passed x
  unfolding check_records
  sound_records [] x f = refl
  sound_records (r ∷ rs) x f = sound_on r rs x (f 0 (omega arith)) ∙ sound_records rs x (λ j l. f (suc j) (omega arith))

  fault_here : {A : Type 0} {n : ℕ} (r : DayRecord) (rs : List DayRecord) (x : A) → RecordFault G r n → check_records G (r ∷ rs) x ≡ refuse n 0
  unfolding check_records
  fault_here (bet a s) rs x (outside l) = rw (le-leb G.n a l) refl
  fault_here (bet a s) rs x (stake l (inl low)) = rw (lt-leb G.n a l, lt-ltb s min_stake low) refl
  fault_here (bet a s) rs x (stake l (inr high)) = rw (lt-leb G.n a l, le-ltb s min_stake (omega arith), lt-ltb max_stake s high) refl
  fault_here (new_limit y) rs x (limit l) = rw (lt-ltb max_limit y l) refl

  fault_records : {A : Type 0} {n : ℕ} (rs : List DayRecord) (x : A) (i : ℕ) → i < length rs → ((j : ℕ) → j < i → Sound G (get_or rs j no_record)) → RecordFault G (get_or rs i no_record) n
      → check_records G rs x ≡ refuse n 0
  fault_records [] x i l f w = absurd (not-suc-le-zero l)
  fault_records (r ∷ rs) x zero l f w = fault_here r rs x w
  fault_records (r ∷ rs) x (suc i) l f w = sound_on r rs x (f 0 (omega arith)) ∙ fault_records rs x i (le_of_suc-le-suc l) (λ j h. f (suc j) (omega arith)) w

  -- the first record with a fault, if there is one
  sound_or_fault : (r : DayRecord) → Sound G r ⊎ ((n : ℕ) × RecordFault G r n)
  sound_or_fault (bet a s) = inside (less_or_not a G.n) (less_or_not s min_stake) (less_or_not max_stake s)
    where
      inside : (a < G.n) ⊎ (G.n ≤ a) → (s < min_stake) ⊎ (min_stake ≤ s) → (max_stake < s) ⊎ (s ≤ max_stake) → Sound G (bet a s) ⊎ ((n : ℕ) × RecordFault G (bet a s) n)
      inside (inr l) low high = inr (9, outside l)
      inside (inl l) (inl low) high = inr (15, stake l (inl low))
      inside (inl l) (inr low) (inl high) = inr (15, stake l (inr high))
      inside (inl l) (inr low) (inr high) = inl (sound_bet l low high)
  sound_or_fault (new_limit x) = go (less_or_not max_limit x)
    where
      go : (max_limit < x) ⊎ (x ≤ max_limit) → Sound G (new_limit x) ⊎ ((n : ℕ) × RecordFault G (new_limit x) n)
      go (inl l) = inr (15, limit l)
      go (inr l) = inl (sound_limit l)

  abbrev FirstFault : List DayRecord → Type 0
  FirstFault rs = (n : ℕ) × (i : ℕ) × (i < length rs) × ((j : ℕ) → j < i → Sound G (get_or rs j no_record)) × RecordFault G (get_or rs i no_record) n

  first_fault_lem : (rs : List DayRecord) → ((j : ℕ) → j < length rs → Sound G (get_or rs j no_record)) ⊎ FirstFault rs
  first_fault_lem [] = inl (λ j l. absurd (not-suc-le-zero l))
  first_fault_lem (r ∷ rs) = go (sound_or_fault r) (first_fault_lem rs)
    where
      go : Sound G r ⊎ ((n : ℕ) × RecordFault G r n) → ((j : ℕ) → j < length rs → Sound G (get_or rs j no_record)) ⊎ FirstFault rs
          → ((j : ℕ) → j < length (r ∷ rs) → Sound G (get_or (r ∷ rs) j no_record)) ⊎ FirstFault (r ∷ rs)
      go (inr (n, w)) rest = inr (n, 0, omega arith, (λ j l. absurd (not-suc-le-zero l)), w)
      go (inl s) (inl all) = inl at
        where
          at : (j : ℕ) → j < length (r ∷ rs) → Sound G (get_or (r ∷ rs) j no_record)
          at zero l = s
          at (suc j) l = all j (le_of_suc-le-suc l)
      go (inl s) (inr (n, i, l, before, w)) = inr (n, suc i, omega arith, at, w)
        where
          at : (j : ℕ) → j < suc i → Sound G (get_or (r ∷ rs) j no_record)
          at zero h = s
          at (suc j) h = before j (le_of_suc-le-suc h)

  fault_or_none : (k opening : ℕ) (rs : List DayRecord) → ((r : ℕ) × DayFault G k opening rs r) ⊎ NoFault G k opening rs
  fault_or_none k opening rs = go (less_or_not k min_level) (less_or_not max_level k) (less_or_not max_records (length rs)) (less_or_not max_limit opening) (first_fault_lem rs)
    where
      go : (k < min_level) ⊎ (min_level ≤ k) → (max_level < k) ⊎ (k ≤ max_level) → (max_records < length rs) ⊎ (length rs ≤ max_records) → (max_limit < opening) ⊎ (opening ≤ max_limit)
          → ((j : ℕ) → j < length rs → Sound G (get_or rs j no_record)) ⊎ FirstFault rs → ((r : ℕ) × DayFault G k opening rs r) ⊎ NoFault G k opening rs
      go (inl l) b c d e = inl (10, level (λ (x, y). omega (arith, l, x)))
      go (inr a) (inl l) c d e = inl (10, level (λ (x, y). omega (arith, l, y)))
      go (inr a) (inr b) (inl l) d e = inl (16, many (a, b) l)
      go (inr a) (inr b) (inr c) (inl l) e = inl (15, opened (a, b) c l)
      go (inr a) (inr b) (inr c) (inr d) (inl all) = inr (record { is_level = (a, b); few = c; in_range = d; sound = all })
      go (inr a) (inr b) (inr c) (inr d) (inr (n, i, l, before, w)) = inl (n, recorded (a, b) c d i l before w)

  module _ (k opening : ℕ) (rs : List DayRecord) where
    fault_day : {n : ℕ} → DayFault G k opening rs n → check_day G k opening rs ≡ refuse n 0
    unfolding check_day
    fault_day (level n) = rw (no_level k n) refl
    fault_day (many h l) = rw (is_level k h, lt-ltb max_records (length rs) l) refl
    fault_day (opened h few l) = rw (is_level k h, le-ltb max_records (length rs) few, lt-ltb max_limit opening l) refl
    fault_day (recorded h few in_range i l f w) =
        rw (is_level k h, le-ltb max_records (length rs) few, le-ltb max_limit opening in_range) (fault_records rs (day_of G k opening rs) i l f w)

    no_fault_day : NoFault G k opening rs → check_day G k opening rs ≡ passed (day_of G k opening rs)
    unfolding check_day
    no_fault_day n =
        rw (is_level k n.is_level, le-ltb max_records (length rs) n.few, le-ltb max_limit opening n.in_range) (sound_records rs (day_of G k opening rs) n.sound)

    -- a day is as long as its records, and has a margin for each group at k
    day_length : length (day_of G k opening rs).taken ≡ length rs
    unfolding day_of
    day_length = bytes_length G k opening rs

    margins_length : length (day_of G k opening rs).margins ≡ length (groups_of G k)
    unfolding day_of
    margins_length = length-map (groups_of G k) (λ g. margin_of (holds G g) opening rs (day_bytes G k opening rs))

    module _ (bytes : List ℕ) (h : read_index bytes ≡ passed G) (taken-room margin-room : ℕ) where
      checked_fault : {n : ℕ} → DayFault G k opening rs n → checked_day bytes k opening rs taken-room margin-room ≡ refuse n 0
      unfolding checked_day and_then
      checked_fault w = rw (h, and_then, fault_day w, and_then) refl

      checked_short : NoFault G k opening rs → (taken-room < length rs) ⊎ (margin-room < length (groups_of G k)) → checked_day bytes k opening rs taken-room margin-room ≡ refuse 12 0
      unfolding checked_day and_then
      checked_short n s = rw (h, and_then, no_fault_day n, and_then, day_length, margins_length) (go s)
        where
          d : Day
          d = day_of G k opening rs

          go : (taken-room < length rs) ⊎ (margin-room < length (groups_of G k))
              → refuse_if (ltb taken-room (length rs) || ltb margin-room (length (groups_of G k))) 12 0 (passed d) ≡ refuse 12 0
          go (inl l) = rw (lt-ltb taken-room (length rs) l) refl
          go (inr l) = at (ltb taken-room (length rs))
            where
              at : (t : Bool) → refuse_if (t || ltb margin-room (length (groups_of G k))) 12 0 (passed d) ≡ refuse 12 0
              at true = refl
              at false = rw (lt-ltb margin-room (length (groups_of G k)) l) refl

      checked-done : NoFault G k opening rs → length rs ≤ taken-room → length (groups_of G k) ≤ margin-room → checked_day bytes k opening rs taken-room margin-room ≡ passed (day_of G k opening rs)
      unfolding checked_day and_then
      checked-done n lt lm =
          rw (h, and_then, no_fault_day n, and_then, day_length, margins_length, le-ltb taken-room (length rs) lt, le-ltb margin-room (length (groups_of G k)) lm) refl

-- ---- what a day writes, in front of what is lent

module _ {A : Type 0} (xs ys : List A) where
  over_after : (d : A) (i : ℕ) → length xs ≤ i → get_or (overwrite xs ys) i d ≡ get_or ys i d
  over_after d i l =
      let n : length xs + (i - length xs) ≡ i = omega arith in
      ap (λ j. get_or (overwrite xs ys) j d) (sym n) ∙ get_or-append-add xs (drop (length xs) ys) (i - length xs) d ∙ get_or-drop (length xs) ys (i - length xs) d ∙ ap (λ j. get_or ys j d) n

  over_length : length xs ≤ length ys → length (overwrite xs ys) ≡ length ys
  over_length l = omega (arith, l, length-append xs (drop (length xs) ys), length-drop (length xs) ys)

-- bytes past the records say nothing
stakes_front : (p : ℕ → Bool) (rs : List DayRecord) (bs rest : List ℕ) → length bs ≡ length rs → stakes_taken p rs (bs ++ rest) ≡ stakes_taken p rs bs
unfolding stakes_taken
stakes_front p [] bs rest q = refl
stakes_front p (r ∷ rs) [] rest q = absurd (omega arith)
stakes_front p (bet a s ∷ rs) (b ∷ bs) rest q = ap (λ n. cond (eqb b 1 && p a) s 0 + n) (stakes_front p rs bs rest (omega arith))
stakes_front p (new_limit x ∷ rs) (b ∷ bs) rest q = stakes_front p rs bs rest (omega arith)

module _ (G : Graph) (k opening : ℕ) (rs : List DayRecord) where
  -- a margin of the day, by its group
  day_margin : (j : ℕ) → j < length (groups_of G k)
      → get_or (day_of G k opening rs).margins j (pos 0) ≡ margin_of (holds G (get_or (groups_of G k) j empty_group)) opening rs (day_bytes G k opening rs)
  unfolding day_of
  day_margin j l = map_at (λ g. margin_of (holds G g) opening rs (day_bytes G k opening rs)) empty_group (pos 0) (groups_of G k) j l

  day_within : NoFault G k opening rs → (j : ℕ) → j < length (groups_of G k) → mag (get_or (day_of G k opening rs).margins j (pos 0)) ≤ max_limit
  day_within n j l = rw (day_margin j l) (closing_within G k opening rs n.in_range n.sound (get_or (groups_of G k) j empty_group) (get_d_in empty_group (groups_of G k) j l))

  -- however margins are written, if they are read back
  module _ {A : Type 0} (written : List ℤ → List A) (margin : List A → ℕ → ℤ) (width : ℕ) (none : A) (taken : List ℕ) (margins : List A) (n : NoFault G k opening rs)
      (long : length (written (day_of G k opening rs).margins) ≡ length (groups_of G k) * width)
      (back : (j : ℕ) → j < length (groups_of G k) → margin (overwrite (written (day_of G k opening rs).margins) margins) j ≡ get_or (day_of G k opening rs).margins j (pos 0)) where
    closes_with : length rs ≤ length taken → length (groups_of G k) * width ≤ length margins
        → Closes G k opening rs margin width none taken margins (settle_day written (passed (day_of G k opening rs)) taken margins)
    unfolding settle_day day_of margin_of
    closes_with lt lm = record {
      reply = ap done (margins_length G k opening rs);
      bytes = byte_rule G k opening rs (drop (length (day_bytes G k opening rs)) taken);
      bytes_after = λ i l. over_after (day_bytes G k opening rs) taken 0 i (omega (arith, l, bytes_length G k opening rs));
      closing = closing;
      closing_after = λ i l. over_after (written (day_of G k opening rs).margins) margins none i (omega (arith, l, long));
      within = λ j l. rw (back j l) (day_within n j l);
      lengths = (
        over_length (day_bytes G k opening rs) taken (omega (arith, lt, bytes_length G k opening rs)),
        over_length (written (day_of G k opening rs).margins) margins (omega (arith, lm, long)),
      );
    }
      where
        closing : (j : ℕ) → j < length (groups_of G k) → margin (overwrite (written (day_of G k opening rs).margins) margins) j
            ≡ pos (limit_after opening rs) -ℤ pos (stakes_taken (holds G (get_or (groups_of G k) j empty_group)) rs (overwrite (day_bytes G k opening rs) taken))
        closing j l =
            back j l ∙ day_margin j l
            ∙ ap (λ s. pos (limit_after opening rs) -ℤ pos s)
            (sym (stakes_front (holds G (get_or (groups_of G k) j empty_group)) rs (day_bytes G k opening rs) (drop (length (day_bytes G k opening rs)) taken) (bytes_length G k opening rs)))

-- ---- a margin as eight bytes, high byte first, and read back

field-rest : (x : ℕ) → from_bytes (x / 256 % 256) (x % 256) ≡ x % 65536
field-rest x = omega arith

wide_rest : (x : ℕ) → x / 65536 % 65536 * 65536 + x % 65536 ≡ x % 0x1_0000_0000
wide_rest x = omega arith

word_back : (x : ℕ) → x ≤ max_word → x / 0x1_0000_0000 % 0x1_0000_0000 * 0x1_0000_0000 + x % 0x1_0000_0000 ≡ x
word_back x l = omega arith

complement_small : (z : ℤ) → mag z ≤ max_limit → complement z ≤ max_word
unfolding complement
complement_small (pos x) l = omega arith
complement_small (negsuc x) l = omega arith

signed_back : (z : ℤ) → mag z ≤ max_limit → signed (complement z) ≡ z
unfolding signed complement
signed_back (pos x) l = rw (lt-ltb x 0x8000_0000_0000_0000 (omega arith)) refl
signed_back (negsuc x) l = rw (le-ltb (max_word - x) 0x8000_0000_0000_0000 (omega arith)) (ap negsuc (omega arith))

margin_back : (z : ℤ) → mag z ≤ max_limit → margin_at (margin_bytes z) 0 ≡ z
unfolding margin_at margin_bytes
margin_back z l =
    let x : ℕ = complement z in
    let y : ℕ = x / 0x1_0000_0000 in
    rw (field-rest (y / 65536), field-rest y, field-rest (x / 65536), field-rest x, wide_rest y, wide_rest x, word_back x (complement_small z l)) (signed_back z l)

eight : (z : ℤ) → length (margin_bytes z) ≡ 8
unfolding margin_bytes
eight z = refl

-- the j-th eight bytes are those of the j-th margin
byte_of : (zs : List ℤ) (rest : List ℕ) (j c : ℕ) → j < length zs → c < 8 → get_or (concat_map margin_bytes zs ++ rest) (j * 8 + c) 0 ≡ get_or (margin_bytes (get_or zs j (pos 0))) c 0
unfolding concat_map
byte_of [] rest j c l h = absurd (not-suc-le-zero l)
byte_of (z ∷ zs) rest zero c l h =
    let n : zero * 8 + c ≡ c = omega arith in
    rw (n, append_assoc (margin_bytes z) (concat_map margin_bytes zs) rest)
    (get_or-append (margin_bytes z) (concat_map margin_bytes zs ++ rest) 0 c (omega (arith, h, eight z)))
byte_of (z ∷ zs) rest (suc j) c l h =
    let n : suc j * 8 + c ≡ length (margin_bytes z) + (j * 8 + c) = omega (arith, eight z) in
    rw (n, append_assoc (margin_bytes z) (concat_map margin_bytes zs) rest)
    (get_or-append-add (margin_bytes z) (concat_map margin_bytes zs ++ rest) (j * 8 + c) 0 ∙ byte_of zs rest j c (le_of_suc-le-suc l) h)

-- eight bytes that are the same
margin_same : (b b' : List ℕ) (at : ℕ) → ((c : ℕ) → c < 8 → get_or b (at + c) 0 ≡ get_or b' c 0) → margin_at b at ≡ margin_at b' 0
unfolding margin_at
margin_same b b' at same =
    rw (
      at_0 ∙ same 0 (omega arith),
      same 1 (omega arith),
      same 2 (omega arith),
      at_3 ∙ same 3 (omega arith),
      same 4 (omega arith),
      at_5 ∙ same 5 (omega arith),
      at_6 ∙ same 6 (omega arith),
      at_7 ∙ same 7 (omega arith),
    ) refl
  where
    at_0 : get_or b at 0 ≡ get_or b (at + 0) 0
    at_0 = ap (λ i. get_or b i 0) (omega arith)

    at_3 : get_or b (at + 2 + 1) 0 ≡ get_or b (at + 3) 0
    at_3 = ap (λ i. get_or b i 0) (omega arith)

    at_5 : get_or b (at + 4 + 1) 0 ≡ get_or b (at + 5) 0
    at_5 = ap (λ i. get_or b i 0) (omega arith)

    at_6 : get_or b (at + 4 + 2) 0 ≡ get_or b (at + 6) 0
    at_6 = ap (λ i. get_or b i 0) (omega arith)

    at_7 : get_or b (at + 4 + 2 + 1) 0 ≡ get_or b (at + 7) 0
    at_7 = ap (λ i. get_or b i 0) (omega arith)

margin_of_lem : (zs : List ℤ) (rest : List ℕ) (j : ℕ) → j < length zs → mag (get_or zs j (pos 0)) ≤ max_limit → margin_at (concat_map margin_bytes zs ++ rest) (j * margin_length) ≡ get_or zs j (pos 0)
margin_of_lem zs rest j l w =
    margin_same (concat_map margin_bytes zs ++ rest) (margin_bytes (get_or zs j (pos 0))) (j * 8) (λ c h. byte_of zs rest j c l h) ∙ margin_back (get_or zs j (pos 0)) w

-- ---- the whole calls

settle_same : {A B : Type 0} (v : List ℤ → List A) (w : List ℤ → List B) (x : Checked Day) (taken : List ℕ) (ms : List A) (ns : List B)
    → ((settle_day v x taken ms).reply ≡ (settle_day w x taken ns).reply) × ((settle_day v x taken ms).taken ≡ (settle_day w x taken ns).taken)
unfolding settle_day
settle_same v w (passed d) taken ms ns = (refl, refl)
settle_same v w (refused r) taken ms ns = (refl, refl)

no_index : (bytes : List ℕ) (k opening : ℕ) (rs : List DayRecord) (taken : List ℕ) (margins : List ℤ) → read_index bytes ≡ refuse 7 0
    → try_limit bytes k opening rs taken margins ≡ record { reply = refused_by 7; taken = taken; margins = margins }
unfolding try_limit settle_day checked_day and_then
no_index bytes k opening rs taken margins h = rw (h, and_then, settle_day) refl

refused_by_lem : (bytes : List ℕ) (k opening : ℕ) (rs : List DayRecord) (taken : List ℕ) (margins : List ℤ) (r : ℕ) → checked_day bytes k opening rs (length taken) (length margins) ≡ refuse r 0
    → try_limit bytes k opening rs taken margins ≡ record { reply = refused_by r; taken = taken; margins = margins }
unfolding try_limit settle_day
refused_by_lem bytes k opening rs taken margins r q = rw (q, settle_day) refl

closes : (bytes : List ℕ) (G : Graph) (k opening : ℕ) (rs : List DayRecord) (taken : List ℕ) (margins : List ℤ) → read_index bytes ≡ passed G → NoFault G k opening rs
    → length rs ≤ length taken → length (groups_of G k) ≤ length margins → Closes G k opening rs (λ zs j. get_or zs j (pos 0)) 1 (pos 0) taken margins (try_limit bytes k opening rs taken margins)
unfolding try_limit
closes bytes G k opening rs taken margins h n lt lm =
    let d : Day = day_of G k opening rs in
    let long = margins_length G k opening rs in
    rw (checked-done G k opening rs bytes h (length taken) (length margins) n lt lm)
    (closes_with G k opening rs (λ zs. zs) (λ zs j. get_or zs j (pos 0)) 1 (pos 0) taken margins n (omega (arith, long))
    (λ j l. get_or-append d.margins (drop (length d.margins) margins) (pos 0) j (omega (arith, l, long))) lt (omega (arith, lm)))

as_bytes : (bytes : List ℕ) (k opening : ℕ) (records taken margins : List ℕ) (zs : List ℤ) → length zs ≡ length margins / margin_length
    → ((try_limit_bytes bytes k opening records taken margins).reply ≡ (try_limit bytes k opening (records_in records) taken zs).reply)
    × ((try_limit_bytes bytes k opening records taken margins).taken ≡ (try_limit bytes k opening (records_in records) taken zs).taken)
unfolding try_limit try_limit_bytes
as_bytes bytes k opening records taken margins zs q =
    rw q (settle_same (concat_map margin_bytes) (λ xs. xs) (checked_day bytes k opening (records_in records) (length taken) (length margins / margin_length)) taken margins zs)

closes_bytes : (bytes : List ℕ) (G : Graph) (k opening : ℕ) (records taken margins : List ℕ) → read_index bytes ≡ passed G → NoFault G k opening (records_in records)
    → length (records_in records) ≤ length taken → length (groups_of G k) * margin_length ≤ length margins
    → Closes G k opening (records_in records) (λ b j. margin_at b (j * margin_length)) margin_length 0 taken margins (try_limit_bytes bytes k opening records taken margins)
unfolding try_limit_bytes
closes_bytes bytes G k opening records taken margins h n lt lm =
    let rs : List DayRecord = records_in records in
    let d : Day = day_of G k opening rs in
    let long = margins_length G k opening rs in
    rw (checked-done G k opening rs bytes h (length taken) (length margins / margin_length) n lt (omega (arith, lm)))
    (closes_with G k opening rs (concat_map margin_bytes) (λ b j. margin_at b (j * margin_length)) margin_length 0 taken margins n (omega (arith, long, concat_map-length margin_bytes 8 eight d.margins))
    (λ j l. margin_of_lem d.margins (drop (length (concat_map margin_bytes d.margins)) margins) j (omega (arith, l, long)) (day_within G k opening rs n j l)) lt lm)

-- ---- the groups at k

module _ (bytes : List ℕ) (G : Graph) (k : ℕ) (h : read_index bytes ≡ passed G) (is : Level k) where
  -- past the links there is no group
  counted : (i j : ℕ) → In j (group_at G k i) → i < size G
  unfolding strength
  counted i j m = go (less_or_not i (size G))
    where
      go : (i < size G) ⊎ (size G ≤ i) → i < size G
      go (inl l) = l
      go (inr l) =
          let s : 0 < strength G (link_at G i) = omega (arith, group_strong G k i m, is.0) in
          let t = (truss_is G (strength G (link_at G i))).within (link_at G i) (passes s) in
          let r = (passed_order bytes G h).proper.ordered (link_at G i) t in
          absurd (none (rw (get_or-eq_default G.links (link 0 0) l) at r))
        where
          passes : 0 < strength G (link_at G i) → member (truss G (strength G (link_at G i))) (link_at G i) ≡ true
          passes s = largest_passes (λ x. member (truss G x) (link_at G i)) (strength_bound G) s

          none : ¬ ((link 0 0).lo < (link 0 0).hi)
          none l = omega arith

  each_group : (i j : ℕ) → In j (group_at G k i) → (g : Group) × In g (groups_of G k) × (g.members ≡ group_at G k i)
  unfolding groups_of is_group_at
  each_group i j m = from (stored_has G k i is.0 (counted i j m) (group_strong G k i m))
    where
      from : (g : Group) × In g (groups G) × (g.members ≡ group_at G k i) × (k ≤ g.strength) → (g : Group) × In g (groups_of G k) × (g.members ≡ group_at G k i)
      from (g, mg, q, l) = (g, in_filter (is_group_at G k) (groups G) mg at_k, q)
        where
          least : In (least_link g) (group_at G k i)
          least = subst (λ xs. In (get_or g.members 0 0) xs) q (first_in g.members (subst (In j) (sym q) m))

          at_k : is_group_at G k g ≡ true
          at_k = eq_same_list (group_at G k (least_link g)) g.members (group_rebase G k i (counted i j m) least ∙ sym q)

  each_link : (g : Group) → In g (groups_of G k) → In g (groups G) × ((i : ℕ) → In i g.members → group_at G k i ≡ g.members)
  unfolding is_group_at
  each_link g m =
      let (mg, t) = level_of G k m in
      let q : group_at G k (least_link g) ≡ g.members = same_list_eq (group_at G k (least_link g)) g.members t in
      (mg, λ i mi. let at = subst (In i) (sym q) mi in group_rebase G k (least_link g) (counted (least_link g) i at) at ∙ q)

pub trial_rule : TrialRule
trial_rule = record {
  no_index = no_index;
  faulty = λ bytes G k opening rs taken margins r h w. refused_by_lem bytes k opening rs taken margins r (checked_fault G k opening rs bytes h (length taken) (length margins) w);
  short = λ bytes G k opening rs taken margins h n s. refused_by_lem bytes k opening rs taken margins 12 (checked_short G k opening rs bytes h (length taken) (length margins) n s);
  fault_or_none = fault_or_none;
  closes = closes;
  as_bytes = as_bytes;
  closes_bytes = closes_bytes;
  each_group = λ bytes G k i h is j m. each_group bytes G k h is i j m;
  each_link = λ bytes G k g h is m. each_link bytes G k h is g m;
}

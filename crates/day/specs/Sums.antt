-- One bet and the sums: whether the groups of a row have room, and what taking the stake does. Assumes nothing.
use Rattle.std.specs.Prelude.{◌≡◌, refl, ◌⊎◌, ◌≢◌, Bool, true, false, List, ℕ, ◌+◌, ◌*◌, ◌≤◌, ◌<◌, length, get_or, set}
use Rattle.std.proofs.Common.{sym, ap, ◌∙◌, inl, inr, arith, length-set}
use Rattle.truss.specs.Limits.{max_accounts, record_length}
use Rattle.truss.specs.Bets.{bet, new_limit, record_at}
use Rattle.laws.proofs.Numbers.{same_or_not}
use Rattle.columns.specs.Columns.{cell, entry, store, COLUMNS, link_bound, entry_bound}
use Rattle.columns.specs.Laws.{stored, kept_entry, kept_column, length-store, entry_kept}

abbrev pub SUM : ℕ
SUM = 6

-- the entries from .. to of columns 1 and 2 name groups, each once
pub record RowSafe (m from to : ℕ) (w : List ℕ) : Type 0 where
  pub size_is : length w ≡ COLUMNS * m
  pub few : m ≤ link_bound
  pub rises : from ≤ to
  pub fits : to ≤ 2 * m
  pub below : (j : ℕ) → from ≤ j → j < to → entry w m j < m
  pub once : (i j : ℕ) → from ≤ i → i < j → j < to → entry w m i ≢ entry w m j

-- the stakes taken from the group that entry j names
abbrev pub sum_of : List ℕ → ℕ → ℕ → ℕ
sum_of w m j = cell w m SUM (entry w m j)

-- ---- is there room

pub data RoomGives (m from to stake limit : ℕ) (r : Bool) (w : List ℕ) : Type 0 where
  room : r ≡ true → ((j : ℕ) → from ≤ j → j < to → sum_of w m j + stake ≤ limit) → RoomGives m from to stake limit r w
  full : r ≡ false → (j : ℕ) → from ≤ j → j < to → limit < sum_of w m j + stake → RoomGives m from to stake limit r w

abbrev pub RoomTo : ℕ → ℕ → ℕ → ℕ → ℕ → List ℕ → Type 0
RoomTo m from i stake limit w = (j : ℕ) → from ≤ j → j < i → sum_of w m j + stake ≤ limit

pub room_more : (m from i stake limit : ℕ) {g sum : ℕ} (w : List ℕ) → RoomTo m from i stake limit w → g ≡ entry w m i → sum ≡ cell w m SUM g → sum + stake ≤ limit → RoomTo m from (i + 1) stake limit w
room_more m from i stake limit {g} {sum} w R q e h j l k = go (same_or_not j i)
  where
    go : (j ≡ i) ⊎ (j ≢ i) → sum_of w m j + stake ≤ limit
    go (inl s) = omega (arith, h, e ∙ ap (cell w m SUM) q, ap (λ (x : ℕ). sum_of w m x) s)
    go (inr s) = R j l (omega (arith, k, s))

pub room_full : {m from to i stake limit g sum : ℕ} {r : Bool} {w : List ℕ} → r ≡ false → from ≤ i → i < to → g ≡ entry w m i → sum ≡ cell w m SUM g → limit < sum + stake → RoomGives m from to stake limit r w
room_full {m} {i = i} {w = w} f l k q e h = full f i l k (omega (arith, h, e ∙ ap (cell w m SUM) q))

-- ---- the stake is taken

pub record ChargeAsks (m from to stake : ℕ) (w : List ℕ) : Type 0 where
  pub safe : RowSafe m from to w
  pub room : (j : ℕ) → from ≤ j → j < to → sum_of w m j + stake < entry_bound

pub record Charged (m from to stake : ℕ) (w w' : List ℕ) : Type 0 where
  pub length_is : length w' ≡ length w
  pub on : (j : ℕ) → from ≤ j → j < to → cell w' m SUM (entry w m j) ≡ sum_of w m j + stake
  pub off : (g : ℕ) → ((j : ℕ) → from ≤ j → j < to → entry w m j ≢ g) → cell w' m SUM g ≡ cell w m SUM g
  pub others : (c y : ℕ) → c ≢ SUM → y < m → cell w' m c y ≡ cell w m c y
  pub entries : (j : ℕ) → j < 2 * m → entry w' m j ≡ entry w m j

pub charged_none : {m from stake : ℕ} {w : List ℕ} → Charged m from from stake w w
charged_none = record { length_is = refl; on = λ j l k. absurd (omega (arith, l, k)); off = λ g n. refl; others = λ c y n l. refl; entries = λ j l. refl }

module _ {m from to stake : ℕ} {w₀ : List ℕ} (A : ChargeAsks m from to stake w₀) {i g : ℕ} {w : List ℕ} (C : Charged m from i stake w₀ w) (lf : from ≤ i) (lt : i < to) (q : g ≡ entry w m i) where
  in_row : i < 2 * m
  in_row = omega (arith, lt, A.safe.fits)

  is_entry : g ≡ entry w₀ m i
  is_entry = q ∙ C.entries i in_row

  pub charge_below : g < m
  charge_below = omega (arith, is_entry, A.safe.below i lf lt)

  pub charge_size : length w ≡ COLUMNS * m
  charge_size = C.length_is ∙ A.safe.size_is

  -- not taken from yet
  fresh : cell w m SUM g ≡ sum_of w₀ m i
  fresh = C.off g (λ j l k e. A.safe.once j i l k lt (e ∙ is_entry)) ∙ ap (cell w₀ m SUM) is_entry

  module _ {sum : ℕ} (e : sum ≡ cell w m SUM g) where
    pub charge_room : sum + stake < entry_bound
    charge_room = omega (arith, e, fresh, A.room i lf lt)

    pub charged_more : {w' : List ℕ} → w' ≡ store w m SUM g (sum + stake) → Charged m from (i + 1) stake w₀ w'
    charged_more {w'} u = rw u (record {
      length_is = length-store w m SUM g (sum + stake) ∙ C.length_is;
      on = λ j l k. on j l k (same_or_not j i);
      off = λ h n. kept_entry w m SUM g h (sum + stake) (λ s. n i lf (omega arith) (sym is_entry ∙ sym s)) ∙ C.off h (λ j l k. n j l (omega (arith, k)));
      others = λ c y n l. kept_column w m SUM c g y (sum + stake) (λ s. n (sym s)) charge_below l ∙ C.others c y n l;
      entries = λ j l. entry_kept w m SUM g j (sum + stake) (omega arith) l ∙ C.entries j l;
    })
      where
        on : (j : ℕ) → from ≤ j → j < i + 1 → (j ≡ i) ⊎ (j ≢ i) → cell (store w m SUM g (sum + stake)) m SUM (entry w₀ m j) ≡ sum_of w₀ m j + stake
        on j l k (inl s) =
            rw (s, ← is_entry) (stored w m SUM g (sum + stake) (omega arith) charge_below charge_size ∙ ap (λ (x : ℕ). x + stake) (e ∙ fresh ∙ ap (cell w₀ m SUM) (sym is_entry)))
        on j l k (inr s) =
            let before : j < i = omega (arith, k, s) in
            kept_entry w m SUM g (entry w₀ m j) (sum + stake) (λ x. A.safe.once j i l before lt (x ∙ is_entry)) ∙ C.on j l before

-- ---- a bet of an account in groups

pub data HeldGives (m from to stake limit : ℕ) (r : Bool) (w w' : List ℕ) : Type 0 where
  takes : r ≡ true → ((j : ℕ) → from ≤ j → j < to → sum_of w m j + stake ≤ limit) → Charged m from to stake w w' → HeldGives m from to stake limit r w w'
  fills : r ≡ false → (j : ℕ) → from ≤ j → j < to → limit < sum_of w m j + stake → w' ≡ w → HeldGives m from to stake limit r w w'

pub held_room : {m from to stake limit : ℕ} {t : Bool} {w : List ℕ} → RoomGives m from to stake limit t w → t ≡ true → (j : ℕ) → from ≤ j → j < to → sum_of w m j + stake ≤ limit
held_room (room q h) t = h
held_room (full q j l k h) t = absurd (Rattle.laws.proofs.Lists.true_not_false t q)

pub held_full : {m from to stake limit : ℕ} {t r : Bool} {w : List ℕ} → RoomGives m from to stake limit t w → t ≡ false → r ≡ false → HeldGives m from to stake limit r w w
held_full (room q h) t z = absurd (Rattle.laws.proofs.Lists.true_not_false q t)
held_full (full q j l k h) t z = fills z j l k h refl

pub held_length : {m from to stake limit : ℕ} {r : Bool} {w w' : List ℕ} → HeldGives m from to stake limit r w w' → length w' ≡ length w
held_length (takes q h C) = C.length_is
held_length (fills q j l k h e) = ap length e

-- ---- a bet of any account

pub record BetAsks (m a stake limit : ℕ) (w start end own : List ℕ) : Type 0 where
  pub safe : RowSafe m (get_or start a 0) (get_or end a 0) w
  pub starts : a < length start
  pub ends : a < length end
  pub owns : a < length own
  pub few : a < max_accounts
  pub small : stake < entry_bound
  pub limited : limit < entry_bound

pub data BetGives (m a stake limit : ℕ) (r : Bool) (w w' start end own own' : List ℕ) : Type 0 where
  held : get_or start a 0 ≢ get_or end a 0 → HeldGives m (get_or start a 0) (get_or end a 0) stake limit r w w' → own' ≡ own → BetGives m a stake limit r w w' start end own own'
  alone : get_or start a 0 ≡ get_or end a 0 → r ≡ true → get_or own a 0 + stake ≤ limit → own' ≡ set own a (get_or own a 0 + stake) → w' ≡ w → BetGives m a stake limit r w w' start end own own'
  alone_full : get_or start a 0 ≡ get_or end a 0 → r ≡ false → limit < get_or own a 0 + stake → own' ≡ own → w' ≡ w → BetGives m a stake limit r w w' start end own own'

module _ {m a stake limit from to : ℕ} {w start end own : List ℕ} (q : from ≡ get_or start a 0) (e : to ≡ get_or end a 0) where
  pub bet_row : BetAsks m a stake limit w start end own → RowSafe m from to w
  bet_row A = rw (q, e) A.safe

  pub bet_in_groups : {r : Bool} {w' : List ℕ} → from ≢ to → HeldGives m from to stake limit r w w' → BetGives m a stake limit r w w' start end own own
  bet_in_groups n H = held (λ x. n (q ∙ x ∙ sym e)) (rw (← q, ← e) H) refl

  pub bet_alone : {sum : ℕ} {r : Bool} {own' : List ℕ} → from ≡ to → sum ≡ get_or own a 0 → r ≡ true → sum + stake ≤ limit → own' ≡ set own a (sum + stake) → BetGives m a stake limit r w w start end own own'
  bet_alone z s r h u = alone (sym q ∙ z ∙ e) r (rw s at h) (rw s at u) refl

  pub bet_alone_full : {sum : ℕ} {r : Bool} → from ≡ to → sum ≡ get_or own a 0 → r ≡ false → limit < sum + stake → BetGives m a stake limit r w w start end own own
  bet_alone_full z s r h = alone_full (sym q ∙ z ∙ e) r (rw s at h) refl refl

pub bet_length : {m a stake limit : ℕ} {r : Bool} {w w' start end own own' : List ℕ} → BetGives m a stake limit r w w' start end own own' → (length w' ≡ length w) × (length own' ≡ length own)
bet_length (held n H e) = (held_length H, ap length e)
bet_length {a = a} {stake = stake} {own = own} (alone z r h e u) = (ap length u, ap length e ∙ length-set own a (get_or own a 0 + stake))
bet_length (alone_full z r h e u) = (ap length u, ap length e)

-- ---- a record

-- its account, if it is a bet, has a row and a sum of its own
pub record TurnAsks (m limit : ℕ) (records : List ℕ) (i : ℕ) (w start end own : List ℕ) : Type 0 where
  pub limited : limit < entry_bound
  pub placed : (a s : ℕ) → record_at records (i * record_length) ≡ bet a s
      → RowSafe m (get_or start a 0) (get_or end a 0) w × (a < length start) × (a < length end) × (a < length own) × (a < max_accounts)

pub data TurnGives (m limit : ℕ) (taken : Bool) (limit' : ℕ) (records : List ℕ) (i : ℕ) (w w' start end own own' : List ℕ) : Type 0 where
  is_limit : {x : ℕ} → record_at records (i * record_length) ≡ new_limit x → taken ≡ true → limit' ≡ x → x < entry_bound → w' ≡ w → own' ≡ own → TurnGives m limit taken limit' records i w w' start end own own'
  is_bet : {a s : ℕ} → record_at records (i * record_length) ≡ bet a s → limit' ≡ limit → BetGives m a s limit taken w w' start end own own' → TurnGives m limit taken limit' records i w w' start end own own'

pub turn_asks : {m limit i a s : ℕ} {records w start end own : List ℕ} → TurnAsks m limit records i w start end own → record_at records (i * record_length) ≡ bet a s → s < entry_bound
    → BetAsks m a s limit w start end own
turn_asks {a = a} {s = s} A q small =
    let p = A.placed a s q in
    record { safe = p.0; starts = p.1; ends = p.2; owns = p.3; few = p.4; small = small; limited = A.limited }

pub turn_length : {m limit limit' i : ℕ} {taken : Bool} {records w w' start end own own' : List ℕ} → TurnGives m limit taken limit' records i w w' start end own own' → (length w' ≡ length w) × (length own' ≡ length own)
turn_length (is_limit q b e small u v) = (ap length u, ap length v)
turn_length (is_bet q e B) = bet_length B

-- A limit tried on a day's bets. In order: margins without signs; one record more; the byte of a record; when a bet is taken; the groups at k by number. The statement is in Trial.
-- A program that keeps a limit and sums needs `limit_bet`, `limit_new`, `stakes_bet`, `stakes_limit`, `byte_here`, `byte_alone`, `byte_room` and `byte_full`.
use mathlib.Core.Path.{◌≡◌, refl, sym, ap, ◌∙◌}
use mathlib.Core.Logic.{◌⊎◌, inl, inr}
use mathlib.Core.Bool.{Bool, true, false, cond, ◌&&◌}
use mathlib.Core.List.{List, [], ◌∷◌, ◌++◌, map, append_assoc, append-nil}
use mathlib.Core.List.Memᴰ.{head as here}
use mathlib.Core.List.Memᴰ.{not-nil as in-nil}
use mathlib.Core.List.{Memᴰ as In}
use Prim.Native.Nat.{ℕ, zero, suc, ◌+◌, ◌-◌, ◌≤◌, ◌<◌}
use native.Mathlib.Nat.{not-suc-le-zero, le_of_suc-le-suc}
use native.Mathlib.Numerals.{add-one}
use native.Mathlib.Omega.{arith}
use lib.Dec.{eqb, leb}
use lib.ListN.{length, get_or, take, length-append, length-map}
use lib.Seq.{ext_get_or, take-suc, length-take-le}
use lib.IntN.{pos, negsuc, ◌-ℤ◌}
use lib.Signed.{le_z, mag}
use borrow.Author.Tests.{lt-ltb, le-ltb, le-leb, lt-leb, ne_eqb}
use Rattle.truss.specs.Lists.{filter, all, range}
use Rattle.truss.specs.Graph.{Graph}
use Rattle.truss.specs.Group.{Group, groups}
use Rattle.truss.specs.Question.{holds, empty_group, is_group_at, numbers_of}
use Rattle.truss.specs.Bets.{DayRecord, bet, new_limit, limit_after, stakes_taken, margin_of, groups_of, pools_of, byte_for, bytes_after}
use Rattle.truss.specs.Trial.{no_record}
use Rattle.laws.proofs.Numbers.{less_or_not}
use Rattle.laws.proofs.Lists.{test, true_not_false}
use Rattle.laws.proofs.Members.{filter_in, in_filter, map_in, in_map, get_d_in, range_length}
use Rattle.laws.proofs.Sets.{all_in, in_all, map_range_at}

-- ---- margins without signs

less_pos : (a b : ℕ) → b ≤ a → pos a -ℤ pos b ≡ pos (a - b)
less_pos a zero l = ap pos (omega arith)
less_pos a (suc b) l = rw (le-ltb a (suc b) l) refl

less_neg : (a b : ℕ) → a < b → pos a -ℤ pos b ≡ negsuc (b - suc a)
less_neg a zero l = absurd (not-suc-le-zero l)
less_neg a (suc b) l = rw (lt-ltb a (suc b) l) refl

-- a margin of at least the stake
pub margin_test : (s limit sum : ℕ) → le_z (pos s) (pos limit -ℤ pos sum) ≡ leb (sum + s) limit
margin_test s limit sum = go (less_or_not limit sum)
  where
    go : (limit < sum) ⊎ (sum ≤ limit) → le_z (pos s) (pos limit -ℤ pos sum) ≡ leb (sum + s) limit
    go (inl l) = let q : limit < sum + s = omega arith in rw (less_neg limit sum l, lt-leb (sum + s) limit q) refl
    go (inr l) = rw (less_pos limit sum l) (same (less_or_not limit (sum + s)))
      where
        same : (limit < sum + s) ⊎ (sum + s ≤ limit) → leb s (limit - sum) ≡ leb (sum + s) limit
        same (inl h) = let q : limit - sum < s = omega arith in rw (lt-leb s (limit - sum) q, lt-leb (sum + s) limit h) refl
        same (inr h) = let q : s ≤ limit - sum = omega arith in rw (le-leb s (limit - sum) q, le-leb (sum + s) limit h) refl

pub margin_mag : (a b c : ℕ) → a ≤ c → b ≤ c → mag (pos a -ℤ pos b) ≤ c
margin_mag a b c la lb = go (less_or_not a b)
  where
    go : (a < b) ⊎ (b ≤ a) → mag (pos a -ℤ pos b) ≤ c
    go (inl l) = rw (less_neg a b l) (omega arith)
    go (inr l) = rw (less_pos a b l) (omega arith)

-- ---- one record more

limit_more : (l : ℕ) (rs : List DayRecord) (r : DayRecord) → limit_after l (rs ++ (r ∷ [])) ≡ limit_after (limit_after l rs) (r ∷ [])
unfolding limit_after
limit_more l [] r = refl
limit_more l (bet a s ∷ rs) r = limit_more l rs r
limit_more l (new_limit x ∷ rs) r = limit_more x rs r

stakes_more : (p : ℕ → Bool) (rs : List DayRecord) (bs : List ℕ) (r : DayRecord) (b : ℕ) → length rs ≡ length bs
    → stakes_taken p (rs ++ (r ∷ [])) (bs ++ (b ∷ [])) ≡ stakes_taken p rs bs + stakes_taken p (r ∷ []) (b ∷ [])
unfolding stakes_taken
stakes_more p [] [] r b q = omega arith
stakes_more p [] (c ∷ bs) r b q = absurd (omega arith)
stakes_more p (x ∷ rs) [] r b q = absurd (omega arith)
stakes_more p (bet a s ∷ rs) (c ∷ bs) r b q = omega (arith, stakes_more p rs bs r b (omega arith))
stakes_more p (new_limit x ∷ rs) (c ∷ bs) r b q = stakes_more p rs bs r b (omega arith)

-- the limit after i records and after the next
module _ (opening : ℕ) (rs : List DayRecord) (i : ℕ) (l : i < length rs) where
  next_limit : limit_after opening (take (i + 1) rs) ≡ limit_after (limit_after opening (take i rs)) (get_or rs i no_record ∷ [])
  next_limit = rw (add-one, take-suc rs i no_record l) (limit_more opening (take i rs) (get_or rs i no_record))

  pub limit_bet : {a s : ℕ} → get_or rs i no_record ≡ bet a s → limit_after opening (take (i + 1) rs) ≡ limit_after opening (take i rs)
  unfolding limit_after
  limit_bet q = next_limit ∙ ap (λ r. limit_after (limit_after opening (take i rs)) (r ∷ [])) q

  pub limit_new : {x : ℕ} → get_or rs i no_record ≡ new_limit x → limit_after opening (take (i + 1) rs) ≡ x
  unfolding limit_after
  limit_new q = next_limit ∙ ap (λ r. limit_after (limit_after opening (take i rs)) (r ∷ [])) q

-- the stakes taken in i records and in one more
module _ (p : ℕ → Bool) (rs : List DayRecord) (bs : List ℕ) (i : ℕ) (l : i < length rs) (lb : i < length bs) where
  next_stakes : stakes_taken p (take (i + 1) rs) (take (i + 1) bs) ≡ stakes_taken p (take i rs) (take i bs) + stakes_taken p (get_or rs i no_record ∷ []) (get_or bs i 0 ∷ [])
  next_stakes =
      let same : length (take i rs) ≡ length (take i bs) = length-take-le i rs (omega arith) ∙ sym (length-take-le i bs (omega arith)) in
      rw (add-one, take-suc rs i no_record l, take-suc bs i 0 lb) (stakes_more p (take i rs) (take i bs) (get_or rs i no_record) (get_or bs i 0) same)

  pub stakes_limit : {x : ℕ} → get_or rs i no_record ≡ new_limit x → stakes_taken p (take (i + 1) rs) (take (i + 1) bs) ≡ stakes_taken p (take i rs) (take i bs)
  unfolding stakes_taken
  stakes_limit q = next_stakes ∙ ap (λ r. stakes_taken p (take i rs) (take i bs) + stakes_taken p (r ∷ []) (get_or bs i 0 ∷ [])) q ∙ omega arith

  pub stakes_bet : {a s : ℕ} → get_or rs i no_record ≡ bet a s → stakes_taken p (take (i + 1) rs) (take (i + 1) bs) ≡ stakes_taken p (take i rs) (take i bs) + cond (eqb (get_or bs i 0) 1 && p a) s 0
  unfolding stakes_taken
  stakes_bet q = next_stakes ∙ ap (λ r. stakes_taken p (take i rs) (take i bs) + stakes_taken p (r ∷ []) (get_or bs i 0 ∷ [])) q ∙ omega arith

-- ---- the byte of a record, by the records before it and their bytes

module _ (G : Graph) (k opening : ℕ) where
  -- the bytes so far stay
  bytes_front : (before : List DayRecord) (bytes : List ℕ) (rs : List DayRecord) → (rest : List ℕ) × (bytes_after G k opening before bytes rs ≡ bytes ++ rest) × (length rest ≡ length rs)
  unfolding bytes_after
  bytes_front before bytes [] = ([], sym (append-nil bytes), refl)
  bytes_front before bytes (r ∷ rs) =
      let b : ℕ = byte_for G k opening before bytes r in
      let x = bytes_front (before ++ (r ∷ [])) (bytes ++ (b ∷ [])) rs in
      (b ∷ x.0, x.1 ∙ append_assoc bytes (b ∷ []) x.0, ap suc x.2)

  get_d_front : (xs ys : List ℕ) → get_or (xs ++ ys) (length xs) 0 ≡ get_or ys 0 0
  get_d_front [] ys = refl
  get_d_front (x ∷ xs) ys = get_d_front xs ys

  take-front : (xs ys : List ℕ) → take (length xs) (xs ++ ys) ≡ xs
  take-front [] ys = nil ys
    where
      nil : (zs : List ℕ) → take 0 zs ≡ []
      nil [] = refl
      nil (z ∷ zs) = refl
  take-front (x ∷ xs) ys = ap {B = List ℕ} (λ r. x ∷ r) (take-front xs ys)

  at : (before : List DayRecord) (bytes : List ℕ) (rs : List DayRecord) (i : ℕ) → i < length rs
      → get_or (bytes_after G k opening before bytes rs) (length bytes + i) 0
      ≡ byte_for G k opening (before ++ take i rs) (take (length bytes + i) (bytes_after G k opening before bytes rs)) (get_or rs i no_record)
  unfolding bytes_after
  at before bytes [] i l = absurd (not-suc-le-zero l)
  at before bytes (r ∷ rs) zero l =
      let b : ℕ = byte_for G k opening before bytes r in
      let x = bytes_front (before ++ (r ∷ [])) (bytes ++ (b ∷ [])) rs in
      let whole : bytes_after G k opening (before ++ (r ∷ [])) (bytes ++ (b ∷ [])) rs ≡ bytes ++ (b ∷ x.0) = x.1 ∙ append_assoc bytes (b ∷ []) x.0 in
      let n : length bytes + 0 ≡ length bytes = omega arith in
      rw (whole, n, take-front bytes (b ∷ x.0), append-nil before) (get_d_front bytes (b ∷ x.0))
  at before bytes (r ∷ rs) (suc i) l =
      let b : ℕ = byte_for G k opening before bytes r in
      let ih = at (before ++ (r ∷ [])) (bytes ++ (b ∷ [])) rs i (le_of_suc-le-suc l) in
      let n : length (bytes ++ (b ∷ [])) + i ≡ length bytes + suc i = omega (arith, length-append bytes (b ∷ [])) in
      let f : (before ++ (r ∷ [])) ++ take i rs ≡ before ++ (r ∷ take i rs) = append_assoc before (r ∷ []) (take i rs) in
      rw (n, f) at ih

  -- the bytes of a day
  abbrev pub day_bytes : List DayRecord → List ℕ
  day_bytes rs = bytes_after G k opening [] [] rs

  pub bytes_length : (rs : List DayRecord) → length (day_bytes rs) ≡ length rs
  bytes_length rs = let x = bytes_front [] [] rs in ap length x.1 ∙ x.2

  pub byte_here : (rs : List DayRecord) (i : ℕ) → i < length rs → get_or (day_bytes rs) i 0 ≡ byte_for G k opening (take i rs) (take i (day_bytes rs)) (get_or rs i no_record)
  byte_here rs i l = let n : 0 + i ≡ i = omega arith in rw n at (at [] [] rs i l)

  -- ---- when a bet is taken

  pub byte_limit : (before : List DayRecord) (bytes : List ℕ) (x : ℕ) → byte_for G k opening before bytes (new_limit x) ≡ 1
  unfolding byte_for
  byte_limit before bytes x = refl

  module _ (before : List DayRecord) (bytes : List ℕ) (a s : ℕ) where
    -- the account's groups
    held : List Group
    held = filter (λ g. holds G g a) (groups_of G k)

    fits : (ℕ → Bool) → Bool
    fits p = le_z (pos s) (margin_of p opening before bytes)

    fits_is : (p : ℕ → Bool) → fits p ≡ leb (stakes_taken p before bytes + s) (limit_after opening before)
    unfolding margin_of fits
    fits_is p = margin_test s (limit_after opening before) (stakes_taken p before bytes)

    byte_is : {ps : List (ℕ → Bool)} → pools_of G k a ≡ ps → byte_for G k opening before bytes (bet a s) ≡ cond (all fits ps) 1 0
    unfolding byte_for fits
    byte_is q = ap (λ ps. cond (all fits ps) 1 0) q

    -- in no group
    pub byte_alone : ((g : Group) → In g (groups_of G k) → holds G g a ≡ false)
        → byte_for G k opening before bytes (bet a s) ≡ cond (leb (stakes_taken (eqb a) before bytes + s) (limit_after opening before)) 1 0
    unfolding pools_of all held
    byte_alone none =
        let no : held ≡ [] = go held (λ g m. let f = filter_in (λ h. holds G h a) (groups_of G k) m in true_not_false f.1 (none g f.0)) in
        let one : pools_of G k a ≡ eqb a ∷ [] = rw no refl in
        byte_is one ∙ rw (fits_is (eqb a)) (both (leb (stakes_taken (eqb a) before bytes + s) (limit_after opening before)))
      where
        go : (hs : List Group) → ((g : Group) → ¬ (In g hs)) → hs ≡ []
        go [] f = refl
        go (h ∷ hs) f = absurd (f h (here refl))

        both : (t : Bool) → ◌≡◌ {A = ℕ} (cond (cond t true false) 1 0) (cond t 1 0)
        both true = refl
        both false = refl

    -- in some group: measured by all of them
    some_pools : (g : Group) → In g (groups_of G k) → holds G g a ≡ true → pools_of G k a ≡ map (holds G) held
    unfolding pools_of held
    some_pools g m h = go held (in_filter (λ o. holds G o a) (groups_of G k) m h)
      where
        go : (hs : List Group) → In g hs → cond (eqb (length hs) 0) (eqb a ∷ []) (map (holds G) hs) ≡ map (holds G) hs
        go [] n = absurd (in-nil n)
        go (o ∷ hs) n = rw (ne_eqb (suc (length hs)) 0 (λ e. omega (arith, e))) refl

    pub byte_room : (g : Group) → In g (groups_of G k) → holds G g a ≡ true
        → ((h : Group) → In h (groups_of G k) → holds G h a ≡ true → stakes_taken (holds G h) before bytes + s ≤ limit_after opening before) → byte_for G k opening before bytes (bet a s) ≡ 1
    unfolding held
    byte_room g m h room = byte_is (some_pools g m h) ∙ ap (λ t. cond t 1 0) (in_all fits (map (holds G) held) each)
      where
        each : (p : ℕ → Bool) → In p (map (holds G) held) → fits p ≡ true
        each p n =
            let (o, mo, q) = map_in (holds G) held n in
            let f = filter_in (λ x. holds G x a) (groups_of G k) mo in
            ap fits q ∙ fits_is (holds G o) ∙ le-leb (stakes_taken (holds G o) before bytes + s) (limit_after opening before) (room o f.0 f.1)

    pub byte_full : (g : Group) → In g (groups_of G k) → holds G g a ≡ true → limit_after opening before < stakes_taken (holds G g) before bytes + s → byte_for G k opening before bytes (bet a s) ≡ 0
    unfolding held
    byte_full g m h full = byte_is (some_pools g m h) ∙ ap (λ t. cond t 1 0) (no (test (all fits (map (holds G) held))))
      where
        not_here : fits (holds G g) ≡ false
        not_here = fits_is (holds G g) ∙ lt-leb (stakes_taken (holds G g) before bytes + s) (limit_after opening before) full

        no : (all fits (map (holds G) held) ≡ true) ⊎ (all fits (map (holds G) held) ≡ false) → all fits (map (holds G) held) ≡ false
        no (inl t) = absurd (true_not_false (all_in fits (map (holds G) held) t (in_map (holds G) held (in_filter (λ o. holds G o a) (groups_of G k) m h))) not_here)
        no (inr f) = f

-- ---- the groups at k by number

module _ (G : Graph) (k : ℕ) where
  filter_map : {A B : Type 0} (p : B → Bool) (f : A → B) (xs : List A) → filter p (map f xs) ≡ map f (filter (λ x. p (f x)) xs)
  unfolding filter
  filter_map p f [] = refl
  filter_map {A} {B} p f (x ∷ xs) = go (test (p (f x))) (filter_map p f xs)
    where
      go : (p (f x) ≡ true) ⊎ (p (f x) ≡ false) → filter p (map f xs) ≡ map f (filter (λ y. p (f y)) xs)
          → cond (p (f x)) (f x ∷ filter p (map f xs)) (filter p (map f xs)) ≡ map f (cond (p (f x)) (x ∷ filter (λ y. p (f y)) xs) (filter (λ y. p (f y)) xs))
      go (inl c) ih = rw c (ap {B = List B} (λ r. f x ∷ r) ih)
      go (inr c) ih = rw c ih

  by_place : (gs : List Group) → map (λ j. get_or gs j empty_group) (range 0 (length gs)) ≡ gs
  by_place gs = ext_get_or empty_group (map at' (range 0 (length gs))) gs long (λ i l. map_range_at at' empty_group 0 (length gs) i (rw long at l) ∙ ap at' (omega arith))
    where
      at' : ℕ → Group
      at' j = get_or gs j empty_group

      long : length (map at' (range 0 (length gs))) ≡ length gs
      long = length-map (range 0 (length gs)) at' ∙ range_length 0 (length gs)

  -- they are those of the numbers that question C would give
  pub groups_by_number : groups_of G k ≡ map (λ g. get_or (groups G) g empty_group) (numbers_of (is_group_at G k) (groups G))
  unfolding groups_of numbers_of
  groups_by_number = ap (filter (is_group_at G k)) (sym (by_place (groups G))) ∙ filter_map (is_group_at G k) (λ g. get_or (groups G) g empty_group) (range 0 (length (groups G)))

  pub group_numbered_lem : (g : ℕ) → g < length (groups G) → is_group_at G k (get_or (groups G) g empty_group) ≡ true → In (get_or (groups G) g empty_group) (groups_of G k)
  unfolding groups_of
  group_numbered_lem g l t = in_filter (is_group_at G k) (groups G) (get_d_in empty_group (groups G) g l) t

  pub level_of : {g : Group} → In g (groups_of G k) → In g (groups G) × (is_group_at G k g ≡ true)
  unfolding groups_of
  level_of m = filter_in (is_group_at G k) (groups G) m

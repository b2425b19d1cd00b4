-- The row of links at each account becomes the row of their groups, in place: `keep`, `pack_row`, `pack`. Nothing here knows what links and groups are. Assumes nothing.
use Rattle.std.specs.Prelude.{◌≡◌, refl, ◌⊎◌, ◌≢◌, List, ℕ, ◌+◌, ◌*◌, ◌%◌, ◌≤◌, ◌<◌, length, get_or, set}
use Rattle.std.proofs.Common.{sym, ap, ◌∙◌, subst, inl, inr, arith, length-set, get_or-set_same, get_or-set_other}
use Rattle.truss.specs.Limits.{max_accounts, no_group}
use Rattle.laws.proofs.Numbers.{same_or_not}
use Rattle.columns.specs.Columns.{cell, store, entry, store_entry, HALF, COLUMNS, link_bound}
use Rattle.columns.specs.Laws.{length-store, stored, kept_entry, kept_column, entry_kept, length_store_entry, entry-stored, entry_other, cell-kept}
use Rattle.adjacency.specs.State.{named, start_at}
use Rattle.pools.specs.Tops.{LINK}

-- of each group: one more than the last account whose row has it
abbrev pub LAST : ℕ
LAST = 5

-- the group of the link that entry j names
abbrev pub group_in : List ℕ → ℕ → ℕ → ℕ
group_in w m j = cell w m LINK (named w m j)

group_same : (m j : ℕ) (w w' : List ℕ) → entry w' m j ≡ entry w m j → named w m j < m → ((y : ℕ) → y < m → cell w' m LINK y ≡ cell w m LINK y) → group_in w' m j ≡ group_in w m j
group_same m j w w' e l h = rw e (h (named w m j) l)

-- a group, or none
abbrev pub MaybeGroup : ℕ → ℕ → Type 0
MaybeGroup m g = (g < m) ⊎ (g ≡ no_group)

some_group : {m g : ℕ} → MaybeGroup m g → g ≢ no_group → g < m
some_group (inl l) n = l
some_group (inr e) n = absurd (n e)

-- ---- one entry

pub record KeepAsks (m a j to : ℕ) (w : List ℕ) : Type 0 where
  pub size_is : length w ≡ COLUMNS * m
  pub few : m ≤ link_bound
  pub small : a < max_accounts
  pub behind : to ≤ j
  pub within : j < 2 * m
  pub name : named w m j < m
  pub group : MaybeGroup m (group_in w m j)

-- group g goes to place `to`, with the stamp of account a
pub record Took (m a g to : ℕ) (w w' : List ℕ) : Type 0 where
  pub length_is : length w' ≡ length w
  pub here : entry w' m to ≡ g
  pub else : (i : ℕ) → i ≢ to → i < 2 * m → entry w' m i ≡ entry w m i
  pub others : (d y : ℕ) → 3 ≤ d → d ≢ LAST → y < m → cell w' m d y ≡ cell w m d y
  pub stamp : cell w' m LAST g ≡ a + 1
  pub stamps : (y : ℕ) → y ≢ g → y < m → cell w' m LAST y ≡ cell w m LAST y

pub data KeepGives (m a j to r : ℕ) (w w' : List ℕ) : Type 0 where
  without : group_in w m j ≡ no_group → r ≡ to → w' ≡ w → KeepGives m a j to r w w'
  again : group_in w m j < m → cell w m LAST (group_in w m j) ≡ a + 1 → r ≡ to → w' ≡ w → KeepGives m a j to r w w'
  first : group_in w m j < m → cell w m LAST (group_in w m j) ≢ a + 1 → r ≡ to + 1 → Took m a (group_in w m j) to w w' → KeepGives m a j to r w w'

pub keep_name : {m a j to x : ℕ} {w : List ℕ} → KeepAsks m a j to w → x ≡ entry w m j → x % HALF < m
keep_name A ex = rw ex A.name

module _ {m a j to : ℕ} {w : List ℕ} (A : KeepAsks m a j to w) {x g : ℕ} (ex : x ≡ entry w m j) (eg : g ≡ cell w m LINK (x % HALF)) where
  g_is : g ≡ group_in w m j
  g_is = eg ∙ ap (λ (z : ℕ). cell w m LINK (z % HALF)) ex

  pub keep-none : g ≡ no_group → KeepGives m a j to to w w
  keep-none z = without (sym g_is ∙ z) refl refl

  pub keep_in : g ≢ no_group → g < m
  keep_in n = subst (λ (z : ℕ). z < m) (sym g_is) (some_group A.group (λ e. n (g_is ∙ e)))

  module _ (n : g ≢ no_group) {y : ℕ} (ey : y ≡ cell w m LAST g) where
    in_m : group_in w m j < m
    in_m = subst (λ (z : ℕ). z < m) g_is (keep_in n)

    stamp_is : cell w m LAST (group_in w m j) ≡ y
    stamp_is = ap (cell w m LAST) (sym g_is) ∙ sym ey

    pub keep_again : y ≡ a + 1 → KeepGives m a j to to w w
    keep_again e = again in_m (stamp_is ∙ e) refl refl

    pub keep-first : {w₁ w₂ : List ℕ} → y ≢ a + 1 → w₁ ≡ store w m LAST g (a + 1) → w₂ ≡ store_entry w₁ m to g → KeepGives m a j to (to + 1) w w₂
    keep-first {w₁} {w₂} ne u v = first in_m (λ e. ne (sym stamp_is ∙ e)) refl (subst (λ (z : ℕ). Took m a z to w w₂) g_is took)
      where
        lg : g < m
        lg = keep_in n

        lt : to < 2 * m
        lt = omega (arith, A.behind, A.within)

        l₁ : length w₁ ≡ length w
        l₁ = ap length u ∙ length-store w m LAST g (a + 1)

        entries : (i : ℕ) → entry w₂ m i ≡ entry (store_entry w₁ m to g) m i
        entries i = ap (λ (z : List ℕ). entry z m i) v

        cells : (d i : ℕ) → 3 ≤ d → i < m → cell w₂ m d i ≡ cell (store w m LAST g (a + 1)) m d i
        cells d i l k = ap (λ (z : List ℕ). cell z m d i) v ∙ cell-kept w₁ m d to i g lt k (inr l) ∙ ap (λ (z : List ℕ). cell z m d i) u

        took : Took m a g to w w₂
        took = record {
          length_is = ap length v ∙ length_store_entry w₁ m to g ∙ l₁;
          here = entries to ∙ entry-stored w₁ m to g lt (l₁ ∙ A.size_is);
          else = λ i o l. entries i ∙ entry_other w₁ m to i g o ∙ ap (λ (z : List ℕ). entry z m i) u ∙ entry_kept w m LAST g i (a + 1) (omega arith) l;
          others = λ d i l o k. cells d i l k ∙ kept_column w m LAST d g i (a + 1) (λ e. o (sym e)) lg k;
          stamp = cells LAST g (omega arith) lg ∙ stored w m LAST g (a + 1) (omega arith) lg A.size_is;
          stamps = λ i o k. cells LAST i (omega arith) k ∙ kept_entry w m LAST g i (a + 1) o;
        }

-- ---- a row

-- what the entries from .. until named is now at from .. to: their groups, each once
pub record Packed (m : ℕ) (w₀ w : List ℕ) (from until to : ℕ) : Type 0 where
  pub rises : from ≤ to
  pub fits : to ≤ until
  pub sound : (i : ℕ) → from ≤ i → i < to → (x : ℕ) × (from ≤ x) × (x < until) × (group_in w₀ m x ≢ no_group) × (entry w m i ≡ group_in w₀ m x)
  pub once : (i j : ℕ) → from ≤ i → i < j → j < to → entry w m i ≢ entry w m j
  pub finds : (x : ℕ) → from ≤ x → x < until → group_in w₀ m x ≢ no_group → (i : ℕ) × (from ≤ i) × (i < to) × (entry w m i ≡ group_in w₀ m x)

pub record RowAsks (m a from until : ℕ) (w : List ℕ) : Type 0 where
  pub size_is : length w ≡ COLUMNS * m
  pub few : m ≤ link_bound
  pub small : a < max_accounts
  pub rises : from ≤ until
  pub fits : until ≤ 2 * m
  pub names : (x : ℕ) → from ≤ x → x < until → named w m x < m
  pub groups : (e : ℕ) → e < m → MaybeGroup m (cell w m LINK e)
  pub low : (g : ℕ) → g < m → cell w m LAST g ≤ a

-- the entries up to j are done
pub record Packing (m a from j to : ℕ) (w₀ w : List ℕ) : Type 0 where
  pub packed : Packed m w₀ w from j to
  pub length_is : length w ≡ length w₀
  pub others : (d y : ℕ) → 3 ≤ d → d ≢ LAST → y < m → cell w m d y ≡ cell w₀ m d y
  pub before : (i : ℕ) → i < from → i < 2 * m → entry w m i ≡ entry w₀ m i
  pub rest : (i : ℕ) → j ≤ i → i < 2 * m → entry w m i ≡ entry w₀ m i
  pub low : (g : ℕ) → g < m → cell w m LAST g ≤ a + 1
  pub stamps : (g : ℕ) → g < m → cell w m LAST g ≡ a + 1 → (i : ℕ) × (from ≤ i) × (i < to) × (entry w m i ≡ g)
  pub stamped : (i : ℕ) → from ≤ i → i < to → (entry w m i < m) × (cell w m LAST (entry w m i) ≡ a + 1)

abbrev pub RowGives : ℕ → ℕ → ℕ → ℕ → ℕ → List ℕ → List ℕ → Type 0
RowGives m a from until to w w' = Packing m a from until to w w'

pub packing_none : {m a from until : ℕ} {w : List ℕ} → RowAsks m a from until w → Packing m a from from from w w
packing_none A = record {
  packed = record {
    rises = omega arith;
    fits = omega arith;
    sound = λ i l u. absurd (omega (arith, l, u));
    once = λ i j l u v. absurd (omega (arith, l, u, v));
    finds = λ x l u n. absurd (omega (arith, l, u));
  };
  length_is = refl;
  others = λ d y l n k. refl;
  before = λ i l k. refl;
  rest = λ i l k. refl;
  low = λ g l. omega (arith, A.low g l);
  stamps = λ g l e. absurd (omega (arith, e, A.low g l));
  stamped = λ i l u. absurd (omega (arith, l, u));
}

module _ {m a from until j to : ℕ} {w₀ w : List ℕ} (A : RowAsks m a from until w₀) (P : Packing m a from j to w₀ w) (l : j < until) where
  lf : from ≤ j
  lf = omega (arith, P.packed.rises, P.packed.fits)

  lj : j < 2 * m
  lj = omega (arith, l, A.fits)

  here_same : entry w m j ≡ entry w₀ m j
  here_same = P.rest j (omega arith) lj

  group_is : group_in w m j ≡ group_in w₀ m j
  group_is = group_same m j w₀ w here_same (A.names j lf l) (λ y k. P.others LINK y (omega arith) (omega arith) k)

  pub packing_asks : KeepAsks m a j to w
  packing_asks = record {
    size_is = P.length_is ∙ A.size_is;
    few = A.few;
    small = A.small;
    behind = P.packed.fits;
    within = lj;
    name = rw here_same (A.names j lf l);
    group = subst (MaybeGroup m) (sym group_is) (A.groups (named w₀ m j) (A.names j lf l));
  }

  -- nothing is written: the entry has no group, or it is there
  skip : (group_in w₀ m j ≢ no_group → (i : ℕ) × (from ≤ i) × (i < to) × (entry w m i ≡ group_in w₀ m j)) → Packing m a from (j + 1) to w₀ w
  skip f = record {
    packed = record {
      rises = P.packed.rises;
      fits = omega (arith, P.packed.fits);
      sound = λ i k u. let r = P.packed.sound i k u in (r.0, r.1, omega (arith, r.2), r.3, r.4);
      once = P.packed.once;
      finds = λ x k u n. go x k u n (same_or_not x j);
    };
    length_is = P.length_is;
    others = P.others;
    before = P.before;
    rest = λ i k u. P.rest i (omega (arith, k)) u;
    low = P.low;
    stamps = P.stamps;
    stamped = P.stamped;
  }
    where
      go : (x : ℕ) → from ≤ x → x < j + 1 → group_in w₀ m x ≢ no_group → (x ≡ j) ⊎ (x ≢ j) → (i : ℕ) × (from ≤ i) × (i < to) × (entry w m i ≡ group_in w₀ m x)
      go x k u n (inl e) = subst (λ (z : ℕ). (i : ℕ) × (from ≤ i) × (i < to) × (entry w m i ≡ group_in w₀ m z)) (sym e) (f (λ q. n (ap (group_in w₀ m) e ∙ q)))
      go x k u n (inr e) = P.packed.finds x k (omega (arith, u, e)) n

  -- the group is new in the row
  take : {w' : List ℕ} → group_in w m j < m → cell w m LAST (group_in w m j) ≢ a + 1 → Took m a (group_in w m j) to w w' → Packing m a from (j + 1) (to + 1) w₀ w'
  take {w'} lg new T = record {
    packed = record {
      rises = omega (arith, P.packed.rises);
      fits = omega (arith, P.packed.fits);
      sound = λ i k u. sound i k u (same_or_not i to);
      once = λ i x k u v. once i x k u v (same_or_not x to);
      finds = λ x k u n. finds x k u n (same_or_not x j);
    };
    length_is = T.length_is ∙ P.length_is;
    others = λ d y k n u. T.others d y k n u ∙ P.others d y k n u;
    before = λ i k u. T.else i (omega (arith, k, P.packed.rises)) u ∙ P.before i k u;
    rest = λ i k u. T.else i (omega (arith, k, P.packed.fits)) u ∙ P.rest i (omega (arith, k)) u;
    low = λ y k. low y k (same_or_not y (group_in w m j));
    stamps = λ y k e. stamps y k e (same_or_not y (group_in w m j));
    stamped = λ i k u. stamped i k u (same_or_not i to);
  }
    where
      -- the entries before stay
      kept : (i : ℕ) → i < to → entry w' m i ≡ entry w m i
      kept i k = T.else i (omega (arith, k)) (omega (arith, k, P.packed.fits, lj))

      -- and are other groups
      other : (i : ℕ) → from ≤ i → i < to → entry w m i ≢ group_in w m j
      other i k u e = new (ap (cell w m LAST) (sym e) ∙ (P.stamped i k u).1)

      some : group_in w₀ m j ≢ no_group
      some e = omega (arith, e, group_is, lg, A.few)

      sound : (i : ℕ) → from ≤ i → i < to + 1 → (i ≡ to) ⊎ (i ≢ to) → (x : ℕ) × (from ≤ x) × (x < j + 1) × (group_in w₀ m x ≢ no_group) × (entry w' m i ≡ group_in w₀ m x)
      sound i k u (inl e) = (j, lf, omega arith, some, ap (entry w' m) e ∙ T.here ∙ group_is)
      sound i k u (inr e) =
          let v : i < to = omega (arith, u, e) in
          let r = P.packed.sound i k v in
          (r.0, r.1, omega (arith, r.2), r.3, kept i v ∙ r.4)

      once : (i x : ℕ) → from ≤ i → i < x → x < to + 1 → (x ≡ to) ⊎ (x ≢ to) → entry w' m i ≢ entry w' m x
      once i x k u v (inl e) q = let li : i < to = omega (arith, u, e) in other i k li (sym (kept i li) ∙ q ∙ ap (entry w' m) e ∙ T.here)
      once i x k u v (inr e) q = let lx : x < to = omega (arith, v, e) in P.packed.once i x k u lx (sym (kept i (omega (arith, u, lx))) ∙ q ∙ kept x lx)

      finds : (x : ℕ) → from ≤ x → x < j + 1 → group_in w₀ m x ≢ no_group → (x ≡ j) ⊎ (x ≢ j) → (i : ℕ) × (from ≤ i) × (i < to + 1) × (entry w' m i ≡ group_in w₀ m x)
      finds x k u n (inl e) = (to, P.packed.rises, omega arith, T.here ∙ group_is ∙ ap (group_in w₀ m) (sym e))
      finds x k u n (inr e) = let r = P.packed.finds x k (omega (arith, u, e)) n in (r.0, r.1, omega (arith, r.2), kept r.0 r.2 ∙ r.3)

      low : (y : ℕ) → y < m → (y ≡ group_in w m j) ⊎ (y ≢ group_in w m j) → cell w' m LAST y ≤ a + 1
      low y k (inl e) = omega (arith, ap (cell w' m LAST) e ∙ T.stamp)
      low y k (inr e) = omega (arith, T.stamps y e k, P.low y k)

      stamps : (y : ℕ) → y < m → cell w' m LAST y ≡ a + 1 → (y ≡ group_in w m j) ⊎ (y ≢ group_in w m j) → (i : ℕ) × (from ≤ i) × (i < to + 1) × (entry w' m i ≡ y)
      stamps y k q (inl e) = (to, P.packed.rises, omega arith, T.here ∙ sym e)
      stamps y k q (inr e) = let r = P.stamps y k (sym (T.stamps y e k) ∙ q) in (r.0, r.1, omega (arith, r.2), kept r.0 r.2 ∙ r.3)

      stamped : (i : ℕ) → from ≤ i → i < to + 1 → (i ≡ to) ⊎ (i ≢ to) → (entry w' m i < m) × (cell w' m LAST (entry w' m i) ≡ a + 1)
      stamped i k u (inl e) = let q : entry w' m i ≡ group_in w m j = ap (entry w' m) e ∙ T.here in (omega (arith, q, lg), ap (cell w' m LAST) q ∙ T.stamp)
      stamped i k u (inr e) =
          let v : i < to = omega (arith, u, e) in
          let r = P.stamped i k v in
          (omega (arith, kept i v, r.0), ap (cell w' m LAST) (kept i v) ∙ T.stamps (entry w m i) (other i k v) r.0 ∙ r.1)

  pub packing_more : {r : ℕ} {w' : List ℕ} → KeepGives m a j to r w w' → Packing m a from (j + 1) r w₀ w'
  packing_more {r} {w'} (without z er ew) = rw (er, ew) (skip (λ n. absurd (n (sym group_is ∙ z))))
  packing_more {r} {w'} (again lg s er ew) = rw (er, ew) (skip (λ n. let f = P.stamps (group_in w m j) lg s in (f.0, f.1, f.2, f.3 ∙ group_is)))
  packing_more {r} {w'} (first lg new er T) = rw er (take lg new T)

pub packing_all : {m a from until j to : ℕ} {w₀ w : List ℕ} → j ≡ until → Packing m a from j to w₀ w → RowGives m a from until to w₀ w
packing_all e P = rw e at P

-- ---- all rows

pub record PackAsks (m n : ℕ) (w start end : List ℕ) : Type 0 where
  pub size_is : length w ≡ COLUMNS * m
  pub few : m ≤ link_bound
  pub small : n ≤ max_accounts
  pub long : length start ≡ n + 1
  pub wide : length end ≡ n
  pub rises : (a : ℕ) → a < n → start_at start a ≤ start_at start (a + 1)
  pub fits : (a : ℕ) → a < n → start_at start (a + 1) ≤ 2 * m
  pub names : (a x : ℕ) → a < n → start_at start a ≤ x → x < start_at start (a + 1) → named w m x < m
  pub groups : (e : ℕ) → e < m → MaybeGroup m (cell w m LINK e)
  pub zero : (g : ℕ) → g < m → cell w m LAST g ≡ 0

-- the rows of the accounts below a are packed
pub record Rowed (m n a : ℕ) (w₀ w start end : List ℕ) : Type 0 where
  pub length_is : length w ≡ length w₀
  pub wide : length end ≡ n
  pub others : (d y : ℕ) → 3 ≤ d → d ≢ LAST → y < m → cell w m d y ≡ cell w₀ m d y
  pub rest : (i : ℕ) → start_at start a ≤ i → i < 2 * m → entry w m i ≡ entry w₀ m i
  pub low : (g : ℕ) → g < m → cell w m LAST g ≤ a
  pub behind : (c : ℕ) → c < a → start_at start (c + 1) ≤ start_at start a
  pub rows : (c : ℕ) → c < a → Packed m w₀ w (start_at start c) (start_at start (c + 1)) (get_or end c 0)

abbrev pub PackGives : ℕ → ℕ → List ℕ → List ℕ → List ℕ → List ℕ → Type 0
PackGives m n w w' start end = Rowed m n n w w' start end

pub rowed_none : {m n : ℕ} {w start end : List ℕ} → PackAsks m n w start end → Rowed m n 0 w w start end
rowed_none A = record {
  length_is = refl;
  wide = A.wide;
  others = λ d y l n k. refl;
  rest = λ i l k. refl;
  low = λ g l. omega (arith, A.zero g l);
  behind = λ c l. absurd (omega arith);
  rows = λ c l. absurd (omega arith);
}

-- the same entries there
packed_kept : {m from until to : ℕ} {w₀ w w' : List ℕ} → ((i : ℕ) → i < until → entry w' m i ≡ entry w m i) → Packed m w₀ w from until to → Packed m w₀ w' from until to
packed_kept same P = record {
  rises = P.rises;
  fits = P.fits;
  sound = λ i k u. let r = P.sound i k u in (r.0, r.1, r.2, r.3, same i (omega (arith, u, P.fits)) ∙ r.4);
  once = λ i j k u v q. P.once i j k u v (sym (same i (omega (arith, u, v, P.fits))) ∙ q ∙ same j (omega (arith, v, P.fits)));
  finds = λ x k u n. let r = P.finds x k u n in (r.0, r.1, r.2, same r.0 (omega (arith, r.2, P.fits)) ∙ r.3);
}

-- the same groups named
packed_from : {m from until to : ℕ} {w₀ w w' : List ℕ} → ((x : ℕ) → from ≤ x → x < until → group_in w m x ≡ group_in w₀ m x) → Packed m w w' from until to → Packed m w₀ w' from until to
packed_from same P = record {
  rises = P.rises;
  fits = P.fits;
  sound = λ i k u. let r = P.sound i k u in let e = same r.0 r.1 r.2 in (r.0, r.1, r.2, (λ z. r.3 (e ∙ z)), r.4 ∙ e);
  once = P.once;
  finds = λ x k u n. let e = same x k u in let r = P.finds x k u (λ z. n (sym e ∙ z)) in (r.0, r.1, r.2, r.3 ∙ e);
}

module _ {m n a from until : ℕ} {w₀ w start end₀ end : List ℕ} (A : PackAsks m n w₀ start end₀) (R : Rowed m n a w₀ w start end) (l : a < n) (qf : from ≡ start_at start a) (qu : until ≡ start_at start (a + 1)) where
  fits : until ≤ 2 * m
  fits = omega (arith, qu, A.fits a l)

  same_entry : (x : ℕ) → from ≤ x → x < until → entry w m x ≡ entry w₀ m x
  same_entry x k u = R.rest x (omega (arith, k, qf)) (omega (arith, u, fits))

  name : (x : ℕ) → from ≤ x → x < until → named w₀ m x < m
  name x k u = A.names a x l (omega (arith, k, qf)) (omega (arith, u, qu))

  pub rowed_asks : RowAsks m a from until w
  rowed_asks = record {
    size_is = R.length_is ∙ A.size_is;
    few = A.few;
    small = omega (arith, l, A.small);
    rises = omega (arith, qf, qu, A.rises a l);
    fits = fits;
    names = λ x k u. rw (same_entry x k u) (name x k u);
    groups = λ e k. rw (R.others LINK e (omega arith) (omega arith) k) (A.groups e k);
    low = R.low;
  }

  pub rowed_more : {to : ℕ} {w' end' : List ℕ} → RowGives m a from until to w w' → end' ≡ set end a to → Rowed m n (a + 1) w₀ w' start end'
  rowed_more {to} {w'} {end'} P q = rw q (record {
    length_is = P.length_is ∙ R.length_is;
    wide = length-set end a to ∙ R.wide;
    others = λ d y k o u. P.others d y k o u ∙ R.others d y k o u;
    rest = λ i k u. P.rest i (omega (arith, k, qu)) u ∙ R.rest i (omega (arith, k, A.rises a l)) u;
    low = P.low;
    behind = λ c k. behind c k (same_or_not c a);
    rows = λ c k. rows c k (same_or_not c a);
  })
    where
      behind : (c : ℕ) → c < a + 1 → (c ≡ a) ⊎ (c ≢ a) → start_at start (c + 1) ≤ start_at start (a + 1)
      behind c k (inl e) = rw e (omega arith)
      behind c k (inr e) = omega (arith, R.behind c (omega (arith, k, e)), A.rises a l)

      here : Packed m w₀ w' (start_at start a) (start_at start (a + 1)) to
      here = rw (← qf, ← qu) (packed_from (λ x k u. group_same m x w₀ w (same_entry x k u) (name x k u) (λ y v. R.others LINK y (omega arith) (omega arith) v)) P.packed)

      rows : (c : ℕ) → c < a + 1 → (c ≡ a) ⊎ (c ≢ a) → Packed m w₀ w' (start_at start c) (start_at start (c + 1)) (get_or (set end a to) c 0)
      rows c k (inl e) = rw (e, get_or-set_same end a to 0 (omega (arith, l, R.wide))) here
      rows c k (inr e) =
          let v : c < a = omega (arith, k, e) in
          let u : start_at start (c + 1) ≤ from = omega (arith, R.behind c v, qf) in
          rw (get_or-set_other end a c to 0 e) (packed_kept (λ i h. P.before i (omega (arith, h, u)) (omega (arith, h, u, qf, A.rises a l, A.fits a l))) (R.rows c v))

pub rowed_all : {m n a : ℕ} {w₀ w start end : List ℕ} → a ≡ n → Rowed m n a w₀ w start end → PackGives m n w₀ w start end
rowed_all e R = rw e at R

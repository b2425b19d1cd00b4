-- A round of touches: a group is counted once in a round, at its first touch. Column 3 has the last round that touched it. Assumes nothing.
use Rattle.std.specs.Prelude.{◌≡◌, refl, ◌⊎◌, ◌≢◌, cond, List, ℕ, ◌+◌, ◌*◌, ◌≤◌, ◌<◌, eqb, length}
use Rattle.std.proofs.Common.{sym, ap, ◌∙◌, subst, inl, inr, arith, eq-eqb, ne_eqb}
use mathlib.Core.List.{Memᴰ as In}
use Rattle.truss.specs.Limits.{no_group}
use Rattle.truss.specs.Index.{index}
use Rattle.truss.specs.Stored.{Leads}
use Rattle.truss.specs.Stored.{here as arrived}
use Rattle.laws.proofs.Numbers.{same_or_not, less_or_not}
use Rattle.laws.proofs.Groups.{size}
use Rattle.laws.proofs.Stored.{group_count, stored}
use Rattle.laws.proofs.Tree.{parent_rises, group_rows_length}
use Rattle.columns.specs.Columns.{cell, store, COLUMNS}
use Rattle.columns.specs.Laws.{upd_store, length-store, kept_column, kept_entry}
use Rattle.stored.specs.Rows.{graph_in, IsIndex, own_group, parent_of, proper, fits_groups, parent_cases, own_below, Sized, sized_few}
use Rattle.counting.specs.Paths.{rising, onward, between, step_up, in_leads, leads_in}

-- one more, if the last round was another
abbrev pub bump : ℕ → ℕ → ℕ → ℕ
bump last r x = cond (eqb last r) x (x + 1)

pub bump_again : {last r : ℕ} (x : ℕ) → last ≡ r → bump last r x ≡ x
bump_again {last} {r} x q = rw (eq-eqb last r q) refl

pub bump-first : {last r : ℕ} (x : ℕ) → last ≢ r → bump last r x ≡ x + 1
bump-first {last} {r} x n = rw (ne_eqb last r n) refl

-- group h is touched, is not
pub record Touched (m c r h : ℕ) (w w' : List ℕ) : Type 0 where
  pub stamp : cell w' m 3 h ≡ r
  pub counted : cell w' m c h ≡ bump (cell w m 3 h) r (cell w m c h)

pub record Left (m c h : ℕ) (w w' : List ℕ) : Type 0 where
  pub stamp : cell w' m 3 h ≡ cell w m 3 h
  pub counted : cell w' m c h ≡ cell w m c h

left_none : {m c h : ℕ} {w : List ℕ} → Left m c h w w
left_none = record { stamp = refl; counted = refl }

-- columns other than 3 and c, entries from count on, and the length
pub record Both (m count c : ℕ) (w w' : List ℕ) : Type 0 where
  pub length_is : length w' ≡ length w
  pub others : (d y : ℕ) → d ≢ 3 → d ≢ c → y < m → cell w' m d y ≡ cell w m d y
  pub after : (d y : ℕ) → count ≤ y → y < m → cell w' m d y ≡ cell w m d y

pub both_none : {m count c : ℕ} {w : List ℕ} → Both m count c w w
both_none = record { length_is = refl; others = λ d y n k l. refl; after = λ d y h l. refl }

pub both_then : {m count c : ℕ} {w w₁ w₂ : List ℕ} → Both m count c w w₁ → Both m count c w₁ w₂ → Both m count c w w₂
both_then p q = record { length_is = q.length_is ∙ p.length_is; others = λ d y n k l. q.others d y n k l ∙ p.others d y n k l; after = λ d y h l. q.after d y h l ∙ p.after d y h l }

-- ---- one group

pub record TouchOne (m c x r : ℕ) (w w' : List ℕ) : Type 0 where
  pub length_is : length w' ≡ length w
  pub stamp : cell w' m 3 x ≡ r
  pub counted : cell w' m c x ≡ cell w m c x + 1
  pub others : (d y : ℕ) → d ≢ 3 → d ≢ c → y < m → cell w' m d y ≡ cell w m d y
  pub else : (d y : ℕ) → y < m → y ≢ x → cell w' m d y ≡ cell w m d y

pub touch_one : {m c x r z : ℕ} {w w₁ w₂ : List ℕ} → length w ≡ COLUMNS * m → x < m → 3 < c → c < COLUMNS → w₁ ≡ store w m 3 x r → z ≡ cell w₁ m c x → w₂ ≡ store w₁ m c x (z + 1) → TouchOne m c x r w w₂
touch_one {m} {c} {x} {r} {z} {w} {w₁} {w₂} sz l lc hc u e v = record {
  length_is = ap length v ∙ length-store w₁ m c x (z + 1) ∙ l₁;
  stamp = cells 3 x ∙ kept_column w₁ m c 3 x x (z + 1) (λ s. omega (arith, s, lc)) l l ∙ cells₁ 3 x ∙ (upd_store w m 3 x r (omega arith) l sz).here;
  counted = cells c x ∙ (upd_store w₁ m c x (z + 1) hc l (l₁ ∙ sz)).here ∙ ap (λ (a : ℕ). a + 1) (e ∙ cells₁ c x ∙ kept_column w m 3 c x x r (λ s. omega (arith, s, lc)) l l);
  others = λ d j n3 nc k. cells d j ∙ kept_column w₁ m c d x j (z + 1) (λ s. nc (sym s)) l k ∙ cells₁ d j ∙ kept_column w m 3 d x j r (λ s. n3 (sym s)) l k;
  else = λ d j k n. cells d j ∙ kept w₁ c (z + 1) d j k n (same_or_not d c) ∙ cells₁ d j ∙ kept w 3 r d j k n (same_or_not d 3);
}
  where
    l₁ : length w₁ ≡ length w
    l₁ = ap length u ∙ length-store w m 3 x r

    cells : (d j : ℕ) → cell w₂ m d j ≡ cell (store w₁ m c x (z + 1)) m d j
    cells d j = ap (λ (a : List ℕ). cell a m d j) v

    cells₁ : (d j : ℕ) → cell w₁ m d j ≡ cell (store w m 3 x r) m d j
    cells₁ d j = ap (λ (a : List ℕ). cell a m d j) u

    kept : (a : List ℕ) (f y d j : ℕ) → j < m → j ≢ x → (d ≡ f) ⊎ (d ≢ f) → cell (store a m f x y) m d j ≡ cell a m d j
    kept a f y d j k n (inl q) = rw q (kept_entry a m f x j y n)
    kept a f y d j k n (inr q) = kept_column a m f d x j y (λ s. q (sym s)) l k

-- the counter before it moves has room
pub touch_small : (w : List ℕ) (m c x r : ℕ) {z : ℕ} {w₁ : List ℕ} → x < m → 3 < c → w₁ ≡ store w m 3 x r → z ≡ cell w₁ m c x → cell w m c x < 65535 → z + 1 < 4294967296
touch_small w m c x r {z} {w₁} l lc u e h =
    let k = ap (λ (a : List ℕ). cell a m c x) u ∙ kept_column w m 3 c x x r (λ s. omega (arith, s, lc)) l l in
    omega (arith, e, k, h)

-- ---- all groups on the way up from g

pub up_there : {b : List ℕ} {at m count x : ℕ} → Sized b at m count → x < count → x ≢ no_group
up_there A l e = omega (arith, e, l, (sized_few A).0, (sized_few A).1)

pub record UpState (b : List ℕ) (m count c g r x : ℕ) (w₀ w : List ℕ) : Type 0 where
  pub both : Both m count c w₀ w
  pub done : (h : ℕ) → h < count → Leads (index (graph_in b)) g h → h < x → Touched m c r h w₀ w
  pub todo : (h : ℕ) → h < count → Leads (index (graph_in b)) g h → x ≤ h → Left m c h w₀ w
  pub off : (h : ℕ) → h < count → ¬ (Leads (index (graph_in b)) g h) → Left m c h w₀ w
  pub place : (x ≡ no_group) ⊎ Leads (index (graph_in b)) g x

pub up_none : {b : List ℕ} {at m count c g r : ℕ} {w : List ℕ} → Sized b at m count → g < count → UpState b m count c g r g w w
up_none {b} {at} {m} {count} {c} {g} {r} {w} A l = record {
  both = both_none;
  done = λ h lh v k. absurd (omega (arith, k, rising I v));
  todo = λ h lh v k. left_none;
  off = λ h lh n. left_none;
  place = inr (arrived {g = g} (omega (arith, l, A.groups, group_rows_length (graph_in b) (proper I) (fits_groups I))));
}
  where
    I : IsIndex b
    I = A.groups_at_lem.is_index

module _ {b : List ℕ} {at m count c g r x : ℕ} {w₀ w : List ℕ} (A : Sized b at m count) (S : UpState b m count c g r x w₀ w) (n : x ≢ no_group) where
  I : IsIndex b
  I = A.groups_at_lem.is_index

  on_path : Leads (index (graph_in b)) g x
  on_path = go S.place
    where
      go : (x ≡ no_group) ⊎ Leads (index (graph_in b)) g x → Leads (index (graph_in b)) g x
      go (inl e) = absurd (n e)
      go (inr v) = v

  ends_in : {g x : ℕ} → Leads (index (graph_in b)) g x → x < group_count (graph_in b)
  ends_in (arrived l) = omega (arith, l, group_rows_length (graph_in b) (proper I) (fits_groups I))
  ends_in (Rattle.truss.specs.Stored.up l v) = ends_in v

  lx : x < group_count (graph_in b)
  lx = ends_in on_path

  pub up_in : x < count
  up_in = omega (arith, lx, A.groups)

  pub up_next : {p : ℕ} → p ≡ parent_of (graph_in b) x → p ≢ no_group → p < count
  up_next {p} q np = go (parent_cases I x lx)
    where
      go : (parent_of (graph_in b) x < group_count (graph_in b)) ⊎ (parent_of (graph_in b) x ≡ no_group) → p < count
      go (inl l) = omega (arith, q, l, A.groups)
      go (inr e) = absurd (np (q ∙ e))

  -- its counter is as it was
  pub up_count : cell w m c x ≡ cell w₀ m c x
  up_count = (S.todo x up_in on_path (omega arith)).counted

  -- numbers rise on the way up
  pub up_rises : {p : ℕ} → p ≡ parent_of (graph_in b) x → x < p
  up_rises {p} q = go (parent_cases I x lx)
    where
      go : (parent_of (graph_in b) x < group_count (graph_in b)) ⊎ (parent_of (graph_in b) x ≡ no_group) → x < p
      go (inl l) = omega (arith, q, parent_rises (graph_in b) (proper I) (fits_groups I) x lx l)
      go (inr e) = omega (arith, e, q, up_in, (sized_few A).0, (sized_few A).1)

  pub up_more : {p y : ℕ} {w' : List ℕ} → y ≡ cell w m 3 x → y ≢ r → p ≡ parent_of (graph_in b) x → TouchOne m c x r w w' → UpState b m count c g r p w₀ w'
  up_more {p} {y} {w'} qy ny q T = record {
    both = both_then S.both (record { length_is = T.length_is; others = T.others; after = λ d j k l. T.else d j l (λ e. omega (arith, e, k, up_in)) });
    done = λ h l v k. done h l v k (same_or_not h x);
    todo = λ h l v k. left_then (else h l (λ e. omega (arith, e, k, rises))) (S.todo h l v (omega (arith, k, rises)));
    off = λ h l nv. left_then (else h l (λ e. nv (subst (λ (y : ℕ). Leads (index (graph_in b)) g y) (sym e) on_path))) (S.off h l nv);
    place = place (parent_cases I x lx);
  }
    where
      rises : x < p
      rises = up_rises q

      else : (h : ℕ) → h < count → h ≢ x → Left m c h w w'
      else h l n = let k : h < m = omega (arith, l, (sized_few A).0) in record { stamp = T.else 3 h k n; counted = T.else c h k n }

      left_then : {h : ℕ} → Left m c h w w' → Left m c h w₀ w → Left m c h w₀ w'
      left_then a d = record { stamp = a.stamp ∙ d.stamp; counted = a.counted ∙ d.counted }

      done : (h : ℕ) → h < count → Leads (index (graph_in b)) g h → h < p → (h ≡ x) ⊎ (h ≢ x) → Touched m c r h w₀ w'
      done h l v k (inl e) =
          let t = S.todo x up_in on_path (omega arith) in
          rw e (record { stamp = T.stamp; counted = T.counted ∙ ap (λ (a : ℕ). a + 1) t.counted ∙ sym (bump-first (cell w₀ m c x) (λ s. ny (qy ∙ t.stamp ∙ s))) })
      done h l v k (inr ne) = by (less_or_not h x)
        where
          by : (h < x) ⊎ (x ≤ h) → Touched m c r h w₀ w'
          by (inl s) = let t = S.done h l v s in let a = else h l ne in record { stamp = a.stamp ∙ t.stamp; counted = a.counted ∙ t.counted }
          by (inr s) =
              let on = onward I on_path v (omega arith) in
              absurd (omega (arith, k, q, rising I on))

      place : (parent_of (graph_in b) x < group_count (graph_in b)) ⊎ (parent_of (graph_in b) x ≡ no_group) → (p ≡ no_group) ⊎ Leads (index (graph_in b)) g p
      place (inl l) = inr (subst (λ (y : ℕ). Leads (index (graph_in b)) g y) (sym q) (step_up I on_path l))
      place (inr e) = inl (q ∙ e)

-- what the round touched, it touched with all that is above
abbrev pub Closed : List ℕ → ℕ → ℕ → ℕ → List ℕ → Type 0
Closed b m count r w = (h k : ℕ) → h < count → k < count → Leads (index (graph_in b)) h k → cell w m 3 h ≡ r → cell w m 3 k ≡ r

pub record UpGives (b : List ℕ) (m count c g r : ℕ) (w w' : List ℕ) : Type 0 where
  pub both : Both m count c w w'
  pub on : (h : ℕ) → h < count → Leads (index (graph_in b)) g h → Touched m c r h w w'
  pub off : (h : ℕ) → h < count → ¬ (Leads (index (graph_in b)) g h) → Left m c h w w'

pub up_done : {b : List ℕ} {at m count c g r x : ℕ} {w w' : List ℕ} → Sized b at m count → UpState b m count c g r x w w' → x ≡ no_group → UpGives b m count c g r w w'
up_done A S e = record { both = S.both; on = λ h l v. S.done h l v (omega (arith, e, l, (sized_few A).0, (sized_few A).1)); off = S.off }

-- so the way up ends at the first group that the round touched already
pub up_stop : {b : List ℕ} {at m count c g r x y : ℕ} {w₀ w : List ℕ} → Sized b at m count → UpState b m count c g r x w₀ w → x ≢ no_group → Closed b m count r w₀ → y ≡ cell w m 3 x → y ≡ r → UpGives b m count c g r w₀ w
up_stop {b} {at} {m} {count} {c} {g} {r} {x} {y} {w₀} {w} A S n closed q e = record { both = S.both; on = λ h l v. go h l v (less_or_not h x); off = S.off }
  where
    I : IsIndex b
    I = A.groups_at_lem.is_index

    stamped : cell w₀ m 3 x ≡ r
    stamped = sym (S.todo x (up_in A S n) (on_path A S n) (omega arith)).stamp ∙ sym q ∙ e

    go : (h : ℕ) → h < count → Leads (index (graph_in b)) g h → (h < x) ⊎ (x ≤ h) → Touched m c r h w₀ w
    go h l v (inl k) = S.done h l v k
    go h l v (inr k) =
        let above : cell w₀ m 3 h ≡ r = closed x h (up_in A S n) l (between I (on_path A S n) v k) stamped in
        let t = S.todo h l v k in
        record { stamp = t.stamp ∙ above; counted = t.counted ∙ sym (bump_again (cell w₀ m c h) above) }

-- ---- all groups that hold a link

pub record LinkGives (b : List ℕ) (m count c i r : ℕ) (w w' : List ℕ) : Type 0 where
  pub both : Both m count c w w'
  pub on : (h : ℕ) → h < count → In i (stored (graph_in b) h).members → Touched m c r h w w'
  pub off : (h : ℕ) → h < count → ¬ (In i (stored (graph_in b) h).members) → Left m c h w w'

pub link_gives : {b : List ℕ} {at m count c i g r : ℕ} {w w' : List ℕ} → Sized b at m count → i < m → g ≡ own_group (graph_in b) i → UpGives b m count c g r w w' → LinkGives b m count c i r w w'
link_gives {b} {at} {m} {count} {c} {i} {g} A l q U = record {
  both = U.both;
  on = λ h k v. U.on h k (subst (λ (y : ℕ). Leads (index (graph_in b)) y h) (sym q) (in_leads I i h li (omega (arith, k, A.groups)) v));
  off = λ h k nv. U.off h k (λ v. nv (leads_in I i h li (subst (λ (y : ℕ). Leads (index (graph_in b)) y h) q v)));
}
  where
    I : IsIndex b
    I = A.groups_at_lem.is_index

    li : i < size (graph_in b)
    li = omega (arith, l, A.links)

-- ---- what the functions ask

-- counters have room for one more
abbrev pub Small : ℕ → ℕ → ℕ → List ℕ → Type 0
Small m count c w = (h : ℕ) → h < count → cell w m c h < 65535

pub own-from : {b : List ℕ} {at m count i g : ℕ} → Sized b at m count → i < m → g ≡ own_group (graph_in b) i → g < count
own-from {i = i} A l q = omega (arith, q, own_below A.groups_at_lem.is_index i (omega (arith, l, A.links)), A.groups)

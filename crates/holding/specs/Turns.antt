-- The turns of the loops that rank accounts and mark groups. Assumes nothing.
use Rattle.std.specs.Prelude.{◌≡◌, refl, ◌⊎◌, ◌≢◌, true, List, ℕ, ◌+◌, ◌*◌, ◌≤◌, ◌<◌, length, set}
use Rattle.std.proofs.Common.{sym, ap, ◌∙◌, subst, inl, inr, arith}
use mathlib.Core.List.{Memᴰ as In}
use Rattle.truss.specs.Limits.{no_group, max_accounts, max_links, max_named}
use Rattle.truss.specs.Record.{field_at}
use Rattle.truss.specs.Graph.{Graph, link_at}
use Rattle.truss.specs.Question.{accounts_in, holds_all}
use Rattle.laws.proofs.Numbers.{same_or_not, less_or_not}
use Rattle.laws.proofs.Members.{get_d_in, in_member}
use Rattle.laws.proofs.Groups.{size}
use Rattle.laws.proofs.Stored.{group_count, stored}
use Rattle.laws.proofs.Tree.{parent_rises}
use Rattle.columns.specs.Columns.{cell, store, COLUMNS}
use Rattle.columns.specs.Laws.{Upd, Same, upd_store, same_store, length-store, stored as stored-cell, kept_entry, kept_column}
use Rattle.columns.specs.Wiping.{Wiped, wiped_still, zeros, zeros-length, zeros-cell}
use Rattle.stored.specs.Rows.{graph_in, IsIndex, own_group, parent_of, proper, fits_groups, few_accounts, parent_cases, own_below, Shape, Sized, shape_sized, sized_few}
use Rattle.holding.specs.Marks.{Marks, marks_none, marks_as, marks_set}
use Rattle.holding.specs.Ranks.{rank_in, Before, Ranks, ranks_again, ranks_new, before_in}
use Rattle.holding.specs.Held.{Own, HeldBy, Lifted, lifted_held, held_lifted, all_held, held_all}

-- ---- ranks

-- account v is named when d ranks are given: it gets the next, if it has none
pub record RankedOne (v d r : ℕ) (ranks ranks' : List ℕ) : Type 0 where
  pub again : rank_in ranks v ≢ 0 → (r ≡ d) × (ranks' ≡ ranks)
  pub new : rank_in ranks v ≡ 0 → (r ≡ d + 1) × (ranks' ≡ set ranks v (d + 1))

pub ranked_again : {v d : ℕ} {ranks : List ℕ} → rank_in ranks v ≢ 0 → RankedOne v d d ranks ranks
ranked_again h = record { again = λ _. (refl, refl); new = λ z. absurd (h z) }

pub ranked_new : {v d r : ℕ} {ranks : List ℕ} → rank_in ranks v ≡ 0 → r ≡ d + 1 → RankedOne v d r ranks (set ranks v (d + 1))
ranked_new h q = record { again = λ n. absurd (n h); new = λ _. (q, refl) }

-- the work space has a column for each account that a question may name
named_columns : max_named ≤ COLUMNS
named_columns = omega arith

-- k accounts are named, two bytes each, all below n
pub record Names (n k : ℕ) (named : List ℕ) : Type 0 where
  pub even : length named ≡ 2 * k
  pub few_names : k ≤ max_named
  pub below : (v : ℕ) → In v (accounts_in named) → v < n

pub name_below : {n k : ℕ} {named : List ℕ} → Names n k named → (j : ℕ) → j < k → field_at named (2 * j) < n
name_below {n} {k} {named} N j l = N.below (field_at named (2 * j)) (before_in named k N.even (j, l, refl))

pub record RankState (n j d : ℕ) (named ranks : List ℕ) : Type 0 where
  pub ranks_are : Ranks n d ranks (Before named j)
  pub few_ranks : d ≤ j

pub rank_more : {n k j d v r : ℕ} {named ranks ranks' : List ℕ} → Names n k named → j < k → RankState n j d named ranks → v ≡ field_at named (2 * j) → RankedOne v d r ranks ranks' → RankState n (j + 1) r named ranks'
rank_more {n} {k} {j} {d} {v} {r} {named} {ranks} {ranks'} N l S q O = go (same_or_not (rank_in ranks v) 0)
  where
    lv : v < n
    lv = omega (arith, q, name_below N j l)

    go : (rank_in ranks v ≡ 0) ⊎ (rank_in ranks v ≢ 0) → RankState n (j + 1) r named ranks'
    go (inl z) = let o = O.new z in rw (o.0, o.1) (record { ranks_are = ranks_new named S.ranks_are q lv z; few_ranks = omega (arith, S.few_ranks) })
    go (inr nz) = let o = O.again nz in rw (o.0, o.1) (record { ranks_are = ranks_again named S.ranks_are q lv nz; few_ranks = omega (arith, S.few_ranks) })

-- ---- only one column changes

pub record Only (m c : ℕ) (w w' : List ℕ) : Type 0 where
  pub length_is : length w' ≡ length w
  pub others : (x y : ℕ) → x ≢ c → y < m → cell w' m x y ≡ cell w m x y

pub only_none : (m c : ℕ) (w : List ℕ) → Only m c w w
only_none m c w = record { length_is = refl; others = λ x y n l. refl }

pub only_then : {m c : ℕ} {w w₁ w₂ : List ℕ} → Only m c w w₁ → Only m c w₁ w₂ → Only m c w w₂
only_then p q = record { length_is = q.length_is ∙ p.length_is; others = λ x y n l. q.others x y n l ∙ p.others x y n l }

pub only_store : (w : List ℕ) (m c i x : ℕ) → i < m → Only m c w (store w m c i x)
only_store w m c i x l = record { length_is = length-store w m c i x; others = λ y j n k. kept_column w m c y i j x (λ e. n (sym e)) l k }

-- ---- where marks stand

-- only at the first count entries of the first d columns: all else is 0. And column 0 has nothing above 1.
pub record Within (m d count : ℕ) (w : List ℕ) : Type 0 where
  pub size : length w ≡ COLUMNS * m
  pub columns : d ≤ COLUMNS
  pub small : (y : ℕ) → y < m → cell w m 0 y ≤ 1
  pub outside : (c y : ℕ) → y < m → (d ≤ c) ⊎ (count ≤ y) → cell w m c y ≡ 0

within_zeros : {m d count : ℕ} {w : List ℕ} → d ≤ COLUMNS → w ≡ zeros (COLUMNS * m) → Within m d count w
within_zeros {m} {d} {count} {w} few-d e = rw e (record {
  size = zeros-length (COLUMNS * m);
  columns = few-d;
  small = λ y l. omega (arith, zeros-cell (COLUMNS * m) m 0 y);
  outside = λ c y l h. zeros-cell (COLUMNS * m) m c y;
})

within_store : {m d count c i v : ℕ} {w : List ℕ} → c < d → i < count → i < m → v ≤ 1 → Within m d count w → Within m d count (store w m c i v)
within_store {m} {d} {count} {c} {i} {v} {w} lc li lm lv B = record {
  size = length-store w m c i v ∙ B.size;
  columns = B.columns;
  small = λ y l. small y l (same_or_not 0 c) (same_or_not y i);
  outside = λ x y l h. outside x y l h (same_or_not x c);
}
  where
    small : (y : ℕ) → y < m → (0 ≡ c) ⊎ (0 ≢ c) → (y ≡ i) ⊎ (y ≢ i) → cell (store w m c i v) m 0 y ≤ 1
    small y l (inl e) (inl s) = rw (e, s, stored-cell w m c i v (omega (arith, lc, B.columns)) lm B.size) lv
    small y l (inl e) (inr n) = omega (arith, ap (λ (x : ℕ). cell (store w m c i v) m x y) e ∙ kept_entry w m c i y v n ∙ ap (λ (x : ℕ). cell w m x y) (sym e), B.small y l)
    small y l (inr n) s = omega (arith, kept_column w m c 0 i y v (λ e. n (sym e)) lm l, B.small y l)

    outside : (x y : ℕ) → y < m → (d ≤ x) ⊎ (count ≤ y) → (x ≡ c) ⊎ (x ≢ c) → cell (store w m c i v) m x y ≡ 0
    outside x y l h (inr n) = kept_column w m c x i y v (λ e. n (sym e)) lm l ∙ B.outside x y l h
    outside x y l (inl h) (inl e) = absurd (omega arith)
    outside x y l (inr h) (inl e) = rw e (kept_entry w m c i y v (omega arith) ∙ B.outside c y l (inr h))

within_wiped : {m d count c from e : ℕ} {w w' : List ℕ} → 0 < c → Wiped m c from e w w' → Within m d count w → Within m d count w'
within_wiped {m} {d} {count} {c} {from} {e} {w} {w'} some W B = record {
  size = W.length_is ∙ B.size;
  columns = B.columns;
  small = λ y l. omega (arith, W.others 0 y (omega arith) l, B.small y l);
  outside = λ x y l h. wiped_still x y W l (B.outside x y l h);
}

-- a change in column c keeps them there
abbrev pub Keeps : ℕ → ℕ → ℕ → List ℕ → List ℕ → Type 0
Keeps m count c w w' = (d : ℕ) → c < d → Within m d count w → Within m d count w'

-- ---- the groups that links name

-- entry g of the column of rank r, if there is one, is marked
pub record Marked (m g r : ℕ) (w w' : List ℕ) : Type 0 where
  pub length_is : length w' ≡ length w
  pub here : (c : ℕ) → r ≡ c + 1 → Upd m (cell w m c) (cell w' m c) g 1
  pub else : (c : ℕ) → r ≢ c + 1 → Same m (cell w m c) (cell w' m c)
  pub keeps : (d count : ℕ) → r ≤ d → g < count → Within m d count w → Within m d count w'

pub marked-none : {m g : ℕ} {w : List ℕ} → Marked m g 0 w w
marked-none = record { length_is = refl; here = λ c q. absurd (omega arith); else = λ c n y l. refl; keeps = λ d count h k B. B }

pub marked-store : (w : List ℕ) (m g x : ℕ) → x + 1 ≤ COLUMNS → g < m → length w ≡ COLUMNS * m → Marked m g (x + 1) w (store w m x g 1)
marked-store w m g x few-x l size = record {
  length_is = length-store w m x g 1;
  here = λ c q. let e : x ≡ c = omega arith in rw e (upd_store w m c g 1 (omega arith) l size);
  else = λ c n. same_store w m x c g 1 (λ e. n (omega (arith, e))) l;
  keeps = λ d count h k. within_store (omega (arith, h)) k l (omega arith);
}

marked_marks : {m count g r : ℕ} (c : ℕ) {w w' : List ℕ} {P : ℕ → Type 0} → count ≤ m → Marks (cell w m c) count P → Marked m g r w w'
    → Marks (cell w' m c) count (λ (h : ℕ). P h ⊎ ((h ≡ g) × (r ≡ c + 1)))
marked_marks {m} {count} {g} {r} c {w} {w'} {P} few-c M K = go (same_or_not r (c + 1))
  where
    go : (r ≡ c + 1) ⊎ (r ≢ c + 1) → Marks (cell w' m c) count (λ (h : ℕ). P h ⊎ ((h ≡ g) × (r ≡ c + 1)))
    go (inl e) = marks_set few-c M (K.here c e) (λ z. omega (arith, z)) (inr (refl, e)) (λ h p. inl p) (λ h n q. back h n q)
      where
        back : (h : ℕ) → h ≢ g → P h ⊎ ((h ≡ g) × (r ≡ c + 1)) → P h
        back h n (inl p) = p
        back h n (inr (s, t)) = absurd (n s)
    go (inr n) = marks_as M (λ h l. K.else c n h (omega arith)) (λ h l p. inl p) (λ h l q. back h q)
      where
        back : (h : ℕ) → P h ⊎ ((h ≡ g) × (r ≡ c + 1)) → P h
        back h (inl p) = p
        back h (inr (s, t)) = absurd (n t)

-- what marking asks of ranks and work space
pub record MarkGiven (G : Graph) (d : ℕ) (ranks : List ℕ) : Type 0 where
  pub columns : d ≤ COLUMNS
  pub room : G.n ≤ length ranks
  pub most : (v : ℕ) → v < G.n → rank_in ranks v ≤ d

pub ends_below : {b : List ℕ} → IsIndex b → (i : ℕ) → i < size (graph_in b) → ((link_at (graph_in b) i).lo < (graph_in b).n) × ((link_at (graph_in b) i).hi < (graph_in b).n)
ends_below {b} I i l =
    let m = in_member (graph_in b).links (get_d_in (Rattle.truss.specs.Graph.link 0 0) (graph_in b).links i l) in
    let lo = (proper I).ordered (link_at (graph_in b) i) m in
    let hi = (proper I).below (link_at (graph_in b) i) m in
    (omega (arith, lo, hi), hi)

-- the first i links have marked their groups
pub record OwnMarks (b : List ℕ) (m count d : ℕ) (ranks : List ℕ) (i : ℕ) (w : List ℕ) : Type 0 where
  pub within : Within m d count w
  pub marks : (c : ℕ) → c < d → Marks (cell w m c) count (Own (graph_in b) ranks c i)

pub own-none : {b : List ℕ} {m count d : ℕ} {ranks w : List ℕ} → d ≤ COLUMNS → w ≡ zeros (COLUMNS * m) → OwnMarks b m count d ranks 0 w
own-none {b} {m} few-d e = record {
  within = within_zeros few-d e;
  marks = λ c l. rw e (marks_none (λ g h. zeros-cell (COLUMNS * m) m c g) (λ g (j, lj, o, r). omega (arith, lj)));
}

module _ {b : List ℕ} {at m count d : ℕ} {ranks : List ℕ} (X : Sized b at m count) (A : MarkGiven (graph_in b) d ranks) {i : ℕ} {w : List ℕ} (O : OwnMarks b m count d ranks i w) (l : i < m) where
  li : i < size (graph_in b)
  li = omega (arith, X.links)

  own_first : (c g : ℕ) → Own (graph_in b) ranks c i g → Own (graph_in b) ranks c (i + 1) g
  own_first c g (j, lj, o, r) = (j, omega (arith, lj), o, r)

  pub own_in : {g : ℕ} → g ≡ own_group (graph_in b) i → g < count
  own_in q = omega (arith, q, own_below X.groups_at_lem.is_index i li, X.groups)

  -- its ends mark the group that it names
  pub own_more : {g lo hi rl rh : ℕ} {w₁ w₂ : List ℕ} → g ≡ own_group (graph_in b) i → lo ≡ (link_at (graph_in b) i).lo → hi ≡ (link_at (graph_in b) i).hi
      → rl ≡ rank_in ranks lo → rh ≡ rank_in ranks hi → Marked m g rl w w₁ → Marked m g rh w₁ w₂ → OwnMarks b m count d ranks (i + 1) w₂
  own_more {g} {lo} {hi} {rl} {rh} {w₁} {w₂} q ql qh el eh K₁ K₂ = record {
    within = K₂.keeps d count (omega (arith, eh, A.most hi (omega (arith, qh, ends.1)))) (own_in q) (K₁.keeps d count (omega (arith, el, A.most lo (omega (arith, ql, ends.0)))) (own_in q) O.within);
    marks = λ c h. marks_as (marked_marks c (sized_few X).0 (marked_marks c (sized_few X).0 (O.marks c h) K₁) K₂) (λ x k. refl) (λ x k p. to c x p) (λ x k p. back c x p);
  }
    where
      ends : ((link_at (graph_in b) i).lo < (graph_in b).n) × ((link_at (graph_in b) i).hi < (graph_in b).n)
      ends = ends_below X.groups_at_lem.is_index i li

      to : (c x : ℕ) → (Own (graph_in b) ranks c i x ⊎ ((x ≡ g) × (rl ≡ c + 1))) ⊎ ((x ≡ g) × (rh ≡ c + 1)) → Own (graph_in b) ranks c (i + 1) x
      to c x (inl (inl p)) = own_first c x p
      to c x (inl (inr (s, t))) = (i, omega arith, sym q ∙ sym s, inl (ap (rank_in ranks) (sym ql) ∙ sym el ∙ t))
      to c x (inr (s, t)) = (i, omega arith, sym q ∙ sym s, inr (ap (rank_in ranks) (sym qh) ∙ sym eh ∙ t))

      back : (c x : ℕ) → Own (graph_in b) ranks c (i + 1) x → (Own (graph_in b) ranks c i x ⊎ ((x ≡ g) × (rl ≡ c + 1))) ⊎ ((x ≡ g) × (rh ≡ c + 1))
      back c x (j, lj, o, r) = go (same_or_not j i)
        where
          at_i : j ≡ i → (rank_in ranks (link_at (graph_in b) j).lo ≡ c + 1) ⊎ (rank_in ranks (link_at (graph_in b) j).hi ≡ c + 1)
              → (Own (graph_in b) ranks c i x ⊎ ((x ≡ g) × (rl ≡ c + 1))) ⊎ ((x ≡ g) × (rh ≡ c + 1))
          at_i s (inl t) = inl (inr (sym o ∙ ap (own_group (graph_in b)) s ∙ sym q, el ∙ ap (rank_in ranks) (ql ∙ ap (λ (y : ℕ). (link_at (graph_in b) y).lo) (sym s)) ∙ t))
          at_i s (inr t) = inr (sym o ∙ ap (own_group (graph_in b)) s ∙ sym q, eh ∙ ap (rank_in ranks) (qh ∙ ap (λ (y : ℕ). (link_at (graph_in b) y).hi) (sym s)) ∙ t)

          go : (j ≡ i) ⊎ (j ≢ i) → (Own (graph_in b) ranks c i x ⊎ ((x ≡ g) × (rl ≡ c + 1))) ⊎ ((x ≡ g) × (rh ≡ c + 1))
          go (inl s) = at_i s r
          go (inr s) = inl (inl (j, omega (arith, lj, s), o, r))

-- ---- up the tree

-- one turn: the parent of a marked group is marked
pub record LiftOne (b : List ℕ) (m c g : ℕ) (w w' : List ℕ) : Type 0 where
  pub unmarked : cell w m c g ≡ 0 → w' ≡ w
  pub top : parent_of (graph_in b) g ≡ no_group → w' ≡ w
  pub marked : cell w m c g ≢ 0 → parent_of (graph_in b) g ≢ no_group → w' ≡ store w m c (parent_of (graph_in b) g) 1

pub lift_parent : {b : List ℕ} {at m count g p : ℕ} → Sized b at m count → g < count → p ≡ parent_of (graph_in b) g → p ≢ no_group → p < count
lift_parent {b} {at} {m} {count} {g} {p} A l q n = go (parent_cases A.groups_at_lem.is_index g (omega (arith, l, A.groups)))
  where
    go : (parent_of (graph_in b) g < group_count (graph_in b)) ⊎ (parent_of (graph_in b) g ≡ no_group) → p < count
    go (inl x) = omega (arith, x, q, A.groups)
    go (inr e) = absurd (n (q ∙ e))

pub lift_unmarked : {b : List ℕ} {m c g x : ℕ} {w : List ℕ} → x ≡ cell w m c g → x ≡ 0 → LiftOne b m c g w w
lift_unmarked q z = record { unmarked = λ _. refl; top = λ _. refl; marked = λ n _. absurd (n (sym q ∙ z)) }

pub lift_top : {b : List ℕ} {m c g p : ℕ} {w : List ℕ} → p ≡ parent_of (graph_in b) g → p ≡ no_group → LiftOne b m c g w w
lift_top q z = record { unmarked = λ _. refl; top = λ _. refl; marked = λ _ n. absurd (n (sym q ∙ z)) }

pub lift_marked : {b : List ℕ} {m c g x p : ℕ} {w w' : List ℕ} → x ≡ cell w m c g → x ≢ 0 → p ≡ parent_of (graph_in b) g → p ≢ no_group → w' ≡ store w m c p 1 → LiftOne b m c g w w'
lift_marked {b} {m} {c} {g} {x} {p} {w} q nx e np u = record { unmarked = λ z. absurd (nx (q ∙ z)); top = λ z. absurd (np (e ∙ z)); marked = λ _ _. u ∙ ap (λ (y : ℕ). store w m c y 1) e }

-- column c, whatever the ranks: marked at first are the groups that links name, now also the parents of the first g that hold the account
pub record LiftState (b : List ℕ) (m count c g : ℕ) (w w' : List ℕ) : Type 0 where
  pub only : Only m c w w'
  pub keeps : Keeps m count c w w'
  pub marks : (ranks : List ℕ) → Marks (cell w m c) count (Own (graph_in b) ranks c m) → Marks (cell w' m c) count (Lifted (graph_in b) ranks c g)

pub lift_none : {b : List ℕ} {at m count c : ℕ} {w : List ℕ} → Sized b at m count → LiftState b m count c 0 w w
lift_none {b} {at} {m} {count} {c} {w} A = record {
  only = only_none m c w;
  keeps = λ d l B. B;
  marks = λ ranks M. marks_as M (λ x k. refl) (λ x k p. inl (subst (λ (y : ℕ). Own (graph_in b) ranks c y x) (sym A.links) p)) (λ x k p. back ranks x p);
}
  where
    back : (ranks : List ℕ) (x : ℕ) → Lifted (graph_in b) ranks c 0 x → Own (graph_in b) ranks c m x
    back ranks x (inl p) = subst (λ (y : ℕ). Own (graph_in b) ranks c y x) A.links p
    back ranks x (inr (y, ly, q, r)) = absurd (omega (arith, ly))

module _ {b : List ℕ} {at m count : ℕ} (A : Sized b at m count) (ranks : List ℕ) (c g : ℕ) (w : List ℕ) (M : Marks (cell w m c) count (Lifted (graph_in b) ranks c g)) (l : g < count) where
  I : IsIndex b
  I = A.groups_at_lem.is_index

  lg : g < group_count (graph_in b)
  lg = omega (arith, A.groups)

  -- what the mark at g says
  is_held : cell w m c g ≢ 0 → HeldBy (graph_in b) ranks c g
  is_held nz = lifted_held I ranks c g g lg (omega (arith, lg)) (ends_below I) (M.yes g l nz)

  not_held : cell w m c g ≡ 0 → ¬ (HeldBy (graph_in b) ranks c g)
  not_held z h = M.no g l z (go (held_lifted I ranks c g lg h))
    where
      go : Lifted (graph_in b) ranks c (group_count (graph_in b)) g → Lifted (graph_in b) ranks c g g
      go (inl p) = inl p
      go (inr (x, lx, q, r)) = inr (x, omega (arith, q, parent_rises (graph_in b) (proper I) (fits_groups I) x lx (omega (arith, q, lg))), q, r)

  first : {x : ℕ} → Lifted (graph_in b) ranks c g x → Lifted (graph_in b) ranks c (g + 1) x
  first (inl p) = inl p
  first (inr (y, ly, q, r)) = inr (y, omega (arith, ly), q, r)

  -- nothing new at x
  back_from : {x : ℕ} → (parent_of (graph_in b) g ≡ x → HeldBy (graph_in b) ranks c g → ⊥) → Lifted (graph_in b) ranks c (g + 1) x → Lifted (graph_in b) ranks c g x
  back_from n (inl p) = inl p
  back_from {x} n (inr (y, ly, q, r)) = go (same_or_not y g)
    where
      go : (y ≡ g) ⊎ (y ≢ g) → Lifted (graph_in b) ranks c g x
      go (inl s) = absurd (n (ap (parent_of (graph_in b)) (sym s) ∙ q) (subst (HeldBy (graph_in b) ranks c) s r))
      go (inr s) = inr (y, omega (arith, ly, s), q, r)

  lifted_more : {w' : List ℕ} → c < COLUMNS → length w ≡ COLUMNS * m → LiftOne b m c g w w' → Marks (cell w' m c) count (Lifted (graph_in b) ranks c (g + 1))
  lifted_more {w'} lc sz O = go (same_or_not (cell w m c g) 0) (same_or_not (parent_of (graph_in b) g) no_group)
    where
      go : (cell w m c g ≡ 0) ⊎ (cell w m c g ≢ 0) → (parent_of (graph_in b) g ≡ no_group) ⊎ (parent_of (graph_in b) g ≢ no_group) → Marks (cell w' m c) count (Lifted (graph_in b) ranks c (g + 1))
      go (inl z) y = rw (O.unmarked z) (marks_as M (λ x k. refl) (λ x k p. first p) (λ x k p. back_from (λ e h. not_held z h) p))
      go (inr nz) (inl t) = rw (O.top t) (marks_as M (λ x k. refl) (λ x k p. first p) (λ x k p. back_from (λ s h. omega (arith, s, t, k, (sized_few A).0, (sized_few A).1)) p))
      go (inr nz) (inr nt) =
          let lp : parent_of (graph_in b) g < m = omega (arith, lift_parent A l refl nt, (sized_few A).0) in
          rw (O.marked nz nt)
          (marks_set (sized_few A).0 M (upd_store w m c (parent_of (graph_in b) g) 1 lc lp sz) (λ z. omega (arith, z)) (inr (g, omega arith, refl, is_held nz)) (λ y r. first r)
          (λ y ny r. back_from (λ s h. ny (sym s)) r))

lift_where : {b : List ℕ} {at m count c g : ℕ} {w w' : List ℕ} → Sized b at m count → g < count → LiftOne b m c g w w' → Only m c w w' × Keeps m count c w w'
lift_where {b} {at} {m} {count} {c} {g} {w} {w'} A l O = go (same_or_not (cell w m c g) 0) (same_or_not (parent_of (graph_in b) g) no_group)
  where
    go : (cell w m c g ≡ 0) ⊎ (cell w m c g ≢ 0) → (parent_of (graph_in b) g ≡ no_group) ⊎ (parent_of (graph_in b) g ≢ no_group) → Only m c w w' × Keeps m count c w w'
    go (inl z) y = rw (O.unmarked z) (only_none m c w, λ d h B. B)
    go (inr nz) (inl t) = rw (O.top t) (only_none m c w, λ d h B. B)
    go (inr nz) (inr nt) =
        let lp : parent_of (graph_in b) g < count = lift_parent A l refl nt in
        let lm : parent_of (graph_in b) g < m = omega (arith, lp, (sized_few A).0) in
        rw (O.marked nz nt) (only_store w m c (parent_of (graph_in b) g) 1 lm, λ d h. within_store h lp lm (omega arith))

pub lift_more : {b : List ℕ} {at m count c g : ℕ} {w₀ w w' : List ℕ} → Sized b at m count → g < count → c < COLUMNS → length w₀ ≡ COLUMNS * m → LiftState b m count c g w₀ w → LiftOne b m c g w w' → LiftState b m count c (g + 1) w₀ w'
lift_more {b} {at} {m} {count} {c} {g} {w₀} {w} {w'} A l lc sz S O = record {
  only = only_then S.only (lift_where A l O).0;
  keeps = λ d h B. (lift_where A l O).1 d h (S.keeps d h B);
  marks = λ ranks M. lifted_more A ranks c g w (S.marks ranks M) l lc (S.only.length_is ∙ sz) O;
}

-- column c marks the groups that hold the account of its rank
pub record LiftGives (b : List ℕ) (m count c : ℕ) (w w' : List ℕ) : Type 0 where
  pub only : Only m c w w'
  pub keeps : Keeps m count c w w'
  pub marks : (ranks : List ℕ) → Marks (cell w m c) count (Own (graph_in b) ranks c m) → Marks (cell w' m c) count (HeldBy (graph_in b) ranks c)

pub lift_done : {b : List ℕ} {at m count c g : ℕ} {w w' : List ℕ} → Sized b at m count → LiftState b m count c g w w' → count ≤ g → g ≤ count → LiftGives b m count c w w'
lift_done {b} {at} {m} {count} {c} {g} {w} {w'} A S l k = record {
  only = S.only;
  keeps = S.keeps;
  marks = λ ranks M. marks_as (S.marks ranks M) (λ x h. refl)
      (λ x h p. lifted_held I ranks c g x (omega (arith, h, A.groups)) (omega (arith, k, A.groups)) (ends_below I) p)
      (λ x h p. let e : group_count (graph_in b) ≡ g = omega (arith, l, k, A.groups) in subst (λ (y : ℕ). Lifted (graph_in b) ranks c y x) e (held_lifted I ranks c x (omega (arith, h, A.groups)) p));
}
  where
    I : IsIndex b
    I = A.groups_at_lem.is_index

-- the columns below c are lifted, the others as they were
pub record LiftAll (b : List ℕ) (m count c : ℕ) (w w' : List ℕ) : Type 0 where
  pub length_is : length w' ≡ length w
  pub held : (ranks : List ℕ) (x : ℕ) → x < c → Marks (cell w m x) count (Own (graph_in b) ranks x m) → Marks (cell w' m x) count (HeldBy (graph_in b) ranks x)
  pub rest : (x g : ℕ) → c ≤ x → g < m → cell w' m x g ≡ cell w m x g
  pub keeps : (d : ℕ) → c ≤ d → Within m d count w → Within m d count w'

pub lift_all_none : {b : List ℕ} {m count : ℕ} {w : List ℕ} → LiftAll b m count 0 w w
lift_all_none = record { length_is = refl; held = λ ranks x l. absurd (omega arith); rest = λ x g l k. refl; keeps = λ d l B. B }

pub lift_all_more : {b : List ℕ} {m count c : ℕ} {w₀ w w' : List ℕ} → count ≤ m → LiftAll b m count c w₀ w → LiftGives b m count c w w' → LiftAll b m count (c + 1) w₀ w'
lift_all_more {b} {m} {count} {c} {w₀} {w} {w'} few-c S L = record {
  length_is = L.only.length_is ∙ S.length_is;
  held = λ ranks x l M. held ranks x l M (same_or_not x c);
  rest = λ x g l k. L.only.others x g (omega arith) k ∙ S.rest x g (omega arith) k;
  keeps = λ d l B. L.keeps d (omega arith) (S.keeps d (omega arith) B);
}
  where
    held : (ranks : List ℕ) (x : ℕ) → x < c + 1 → Marks (cell w₀ m x) count (Own (graph_in b) ranks x m) → (x ≡ c) ⊎ (x ≢ c) → Marks (cell w' m x) count (HeldBy (graph_in b) ranks x)
    held ranks x l M (inl e) = rw e (L.marks ranks (marks_as (rw e at M) (λ y h. S.rest c y (omega arith) (omega arith)) (λ y h p. p) (λ y h p. p)))
    held ranks x l M (inr n) = marks_as (S.held ranks x (omega arith) M) (λ y h. L.only.others x y n (omega arith)) (λ y h p. p) (λ y h p. p)

-- ---- all of them

-- column 0 keeps the marks that column c has too, for the first e groups
pub record Meets (m c e : ℕ) (w w' : List ℕ) : Type 0 where
  pub only : Only m 0 w w'
  pub gone : (g : ℕ) → g < e → cell w m c g ≡ 0 → cell w' m 0 g ≡ 0
  pub kept : (g : ℕ) → g < m → cell w m c g ≢ 0 → cell w' m 0 g ≡ cell w m 0 g
  pub rest : (g : ℕ) → e ≤ g → g < m → cell w' m 0 g ≡ cell w m 0 g
  pub keeps : (count : ℕ) → e ≤ count → Keeps m count 0 w w'

pub meets_none : (m c : ℕ) (w : List ℕ) → Meets m c 0 w w
meets_none m c w = record { only = only_none m 0 w; gone = λ g l. absurd (omega arith); kept = λ g l n. refl; rest = λ g l k. refl; keeps = λ count l d k B. B }

-- one turn: the mark at g goes if column c has none
pub record MeetOne (m c g : ℕ) (w w' : List ℕ) : Type 0 where
  pub gone : cell w m c g ≡ 0 → w' ≡ store w m 0 g 0
  pub kept : cell w m c g ≢ 0 → w' ≡ w

pub meets_more : {m c e : ℕ} {w₀ w w' : List ℕ} → c ≢ 0 → e < m → length w₀ ≡ COLUMNS * m → Meets m c e w₀ w → MeetOne m c e w w' → Meets m c (e + 1) w₀ w'
meets_more {m} {c} {e} {w₀} {w} {w'} nc l sz M O = go (same_or_not (cell w m c e) 0)
  where
    same_c : (g : ℕ) → g < m → cell w m c g ≡ cell w₀ m c g
    same_c g k = M.only.others c g nc k

    go : (cell w m c e ≡ 0) ⊎ (cell w m c e ≢ 0) → Meets m c (e + 1) w₀ w'
    go (inl z) = rw (O.gone z) (record {
      only = only_then M.only (only_store w m 0 e 0 l);
      gone = λ g k h. gone g k h (same_or_not g e);
      kept = λ g k h. U.else g k (λ s. h (sym (same_c g k) ∙ ap (cell w m c) s ∙ z)) ∙ M.kept g k h;
      rest = λ g k h. U.else g h (omega arith) ∙ M.rest g (omega arith) h;
      keeps = λ count k d h B. within_store h (omega arith) l (omega arith) (M.keeps count (omega arith) d h B);
    })
      where
        U : Upd m (cell w m 0) (cell (store w m 0 e 0) m 0) e 0
        U = upd_store w m 0 e 0 (omega arith) l (M.only.length_is ∙ sz)

        gone : (g : ℕ) → g < e + 1 → cell w₀ m c g ≡ 0 → (g ≡ e) ⊎ (g ≢ e) → cell (store w m 0 e 0) m 0 g ≡ 0
        gone g k h (inl s) = ap (cell (store w m 0 e 0) m 0) s ∙ U.here
        gone g k h (inr s) = U.else g (omega arith) s ∙ M.gone g (omega arith) h
    go (inr n) = rw (O.kept n) (record {
      only = M.only;
      gone = λ g k h. gone g k h (same_or_not g e);
      kept = M.kept;
      rest = λ g k h. M.rest g (omega arith) h;
      keeps = λ count k. M.keeps count (omega arith);
    })
      where
        gone : (g : ℕ) → g < e + 1 → cell w₀ m c g ≡ 0 → (g ≡ e) ⊎ (g ≢ e) → cell w m 0 g ≡ 0
        gone g k h (inl s) = absurd (n (same_c e l ∙ ap (cell w₀ m c) (sym s) ∙ h))
        gone g k h (inr s) = M.gone g (omega arith) h

-- column 0 keeps the marks that all of the first c columns have, and they go in the others of these
pub record MeetAll (m count c : ℕ) (w w' : List ℕ) : Type 0 where
  pub length_is : length w' ≡ length w
  pub gone : (x g : ℕ) → x < c → g < count → cell w m x g ≡ 0 → cell w' m 0 g ≡ 0
  pub kept : (g : ℕ) → g < count → ((x : ℕ) → x < c → cell w m x g ≢ 0) → cell w' m 0 g ≢ 0
  pub wiped : (x g : ℕ) → 0 < x → x < c → g < count → cell w' m x g ≡ 0
  pub rest : (x g : ℕ) → c ≤ x → g < m → cell w' m x g ≡ cell w m x g
  pub keeps : Keeps m count 0 w w'

pub meet_all_none : {m count : ℕ} {w : List ℕ} → MeetAll m count 1 w w
meet_all_none {m} {count} {w} = record {
  length_is = refl;
  gone = λ x g l k z. let e : 0 ≡ x = omega arith in ap (λ (y : ℕ). cell w m y g) e ∙ z;
  kept = λ g l n. n 0 (omega arith);
  wiped = λ x g s l k. absurd (omega arith);
  rest = λ x g l k. refl;
  keeps = λ d l B. B;
}

pub meet_all_more : {m count c : ℕ} {w₀ w w₁ w' : List ℕ} → count ≤ m → 0 < c → MeetAll m count c w₀ w → Meets m c count w w₁ → Wiped m c 0 count w₁ w' → MeetAll m count (c + 1) w₀ w'
meet_all_more {m} {count} {c} {w₀} {w} {w₁} {w'} few-c some S M W = record {
  length_is = W.length_is ∙ M.only.length_is ∙ S.length_is;
  gone = λ x g l k z. first g k ∙ gone x g l k z (same_or_not x c) (same_or_not (cell w m c g) 0);
  kept = λ g l n. let nz : cell w m c g ≢ 0 = (λ z. n c (omega arith) (sym (same_c g (omega arith)) ∙ z)) in λ z. S.kept g l (λ x h. n x (omega arith)) (sym (first g l ∙ M.kept g (omega arith) nz) ∙ z);
  wiped = λ x g s l k. wiped x g s l k (same_or_not x c);
  rest = λ x g l k. other x g (omega arith) (omega arith) k ∙ S.rest x g (omega arith) k;
  keeps = λ d l B. within_wiped some W (M.keeps count (omega arith) d l (S.keeps d l B));
}
  where
    same_c : (g : ℕ) → g < m → cell w m c g ≡ cell w₀ m c g
    same_c g k = S.rest c g (omega arith) k

    first : (g : ℕ) → g < count → cell w' m 0 g ≡ cell w₁ m 0 g
    first g k = W.others 0 g (omega arith) (omega arith)

    other : (x g : ℕ) → x ≢ 0 → x ≢ c → g < m → cell w' m x g ≡ cell w m x g
    other x g n k l = W.others x g k l ∙ M.only.others x g n l

    wiped : (x g : ℕ) → 0 < x → x < c + 1 → g < count → (x ≡ c) ⊎ (x ≢ c) → cell w' m x g ≡ 0
    wiped x g s l k (inl e) = rw e (W.zero g (omega arith) k)
    wiped x g s l k (inr n) = other x g (omega arith) n (omega arith) ∙ S.wiped x g s (omega arith) k

    gone : (x g : ℕ) → x < c + 1 → g < count → cell w₀ m x g ≡ 0 → (x ≡ c) ⊎ (x ≢ c) → (cell w m c g ≡ 0) ⊎ (cell w m c g ≢ 0) → cell w₁ m 0 g ≡ 0
    gone x g l k z e (inl zc) = M.gone g k zc
    gone x g l k z (inl e) (inr nz) = absurd (nz (same_c g (omega arith) ∙ ap (λ (y : ℕ). cell w₀ m y g) (sym e) ∙ z))
    gone x g l k z (inr n) (inr nz) = M.kept g (omega arith) nz ∙ S.gone x g (omega arith) k z

-- ---- the whole

pub record HoldAsks (n m k : ℕ) (named w : List ℕ) : Type 0 where
  pub names : Names n k named
  pub some : 0 < k
  pub blank : w ≡ zeros (COLUMNS * m)

-- THE PROMISE: column 0 has 1 at each group that holds all named accounts; every other number of the work space is 0
pub record HoldGives (b : List ℕ) (m count : ℕ) (named w : List ℕ) : Type 0 where
  pub size_is : length w ≡ COLUMNS * m
  pub marks : Marks (cell w m 0) count (λ (g : ℕ). holds_all (graph_in b) (accounts_in named) (stored (graph_in b) g) ≡ true)
  pub ones : (g : ℕ) → g < count → cell w m 0 g ≤ 1
  pub rest : (c y : ℕ) → c < COLUMNS → y < m → (0 < c) ⊎ (count ≤ y) → cell w m c y ≡ 0

module _ {b : List ℕ} {n m at count k : ℕ} {named w : List ℕ} (X : Shape b n m at count) (A : HoldAsks n m k named w) where
  pub hold_few : (count ≤ m) × (m ≤ max_links) × (n ≤ max_accounts)
  hold_few = let r = sized_few (shape_sized X) in (r.0, r.1, omega (arith, few_accounts X.groups_at_lem.is_index, X.accounts))

  module _ {d : ℕ} {ranks' : List ℕ} (R : RankState n k d named ranks') where
    pub hold_columns : d ≤ COLUMNS
    hold_columns = omega (arith, R.few_ranks, A.names.few_names, named_columns)

    in_n : Ranks (graph_in b).n d ranks' (Before named k)
    in_n = rw X.accounts R.ranks_are

    -- the first named account has a rank
    pub hold_some : 0 < d
    hold_some = go (same_or_not (rank_in ranks' (field_at named (2 * 0))) 0)
      where
        l : field_at named (2 * 0) < n
        l = name_below A.names 0 A.some

        go : (rank_in ranks' (field_at named (2 * 0)) ≡ 0) ⊎ (rank_in ranks' (field_at named (2 * 0)) ≢ 0) → 0 < d
        go (inl z) = absurd (R.ranks_are.no (field_at named (2 * 0)) l z (0, A.some, refl))
        go (inr nz) = omega (arith, nz, R.ranks_are.most (field_at named (2 * 0)) l)

    pub hold_mark : MarkGiven (graph_in b) d ranks'
    hold_mark = record { columns = hold_columns; room = in_n.room; most = in_n.most }

    pub hold_gives : {w₁ w₂ w₃ : List ℕ} → OwnMarks b m count d ranks' m w₁ → LiftAll b m count d w₁ w₂ → MeetAll m count d w₂ w₃ → HoldGives b m count named w₃
    hold_gives {w₁} {w₂} {w₃} O L M = record {
      size_is = B.size;
      marks = record { yes = λ g l nz. all_held (graph_in b) ranks' named d k A.names.even below in_n g (λ c h. yes g l nz c h (same_or_not (cell w₂ m c g) 0)); no = no };
      ones = λ g l. B.small g (omega (arith, l, hold_few.0));
      rest = λ c y lc l h. rest c y l h (less_or_not c d) (less_or_not y count);
    }
      where
        B : Within m d count w₃
        B = M.keeps d hold_some (L.keeps d (omega arith) O.within)

        rest : (c y : ℕ) → y < m → (0 < c) ⊎ (count ≤ y) → (c < d) ⊎ (d ≤ c) → (y < count) ⊎ (count ≤ y) → cell w₃ m c y ≡ 0
        rest c y l h (inr k) s = B.outside c y l (inl k)
        rest c y l h (inl k) (inr s) = B.outside c y l (inr s)
        rest c y l (inl h) (inl k) (inl s) = M.wiped c y h k s
        rest c y l (inr h) (inl k) (inl s) = absurd (omega arith)

        below : (v : ℕ) → In v (accounts_in named) → v < (graph_in b).n
        below v i = omega (arith, A.names.below v i, X.accounts)

        marks_c : (c : ℕ) → c < d → Marks (cell w₂ m c) count (HeldBy (graph_in b) ranks' c)
        marks_c c h = L.held ranks' c h (O.marks c h)

        yes : (g : ℕ) → g < count → cell w₃ m 0 g ≢ 0 → (c : ℕ) → c < d → (cell w₂ m c g ≡ 0) ⊎ (cell w₂ m c g ≢ 0) → HeldBy (graph_in b) ranks' c g
        yes g l nz c h (inl z) = absurd (nz (M.gone c g h l z))
        yes g l nz c h (inr n) = (marks_c c h).yes g l n

        no : (g : ℕ) → g < count → cell w₃ m 0 g ≡ 0 → ¬ (holds_all (graph_in b) (accounts_in named) (stored (graph_in b) g) ≡ true)
        no g l z t = M.kept g l (λ x h zx. (marks_c x h).no g l zx (held_all (graph_in b) ranks' named d k A.names.even below in_n g t x h)) z

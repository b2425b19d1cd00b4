-- How many links and accounts a group has, counted round by round: a round for each link, a round for each account. Assumes nothing.
use Rattle.std.specs.Prelude.{◌≡◌, refl, ◌⊎◌, ◌≢◌, Bool, true, false, cond, List, ℕ, zero, suc, ◌+◌, ◌*◌, ◌≤◌, ◌<◌, eqb, length}
use Rattle.std.proofs.Common.{sym, ap, ap₂, ◌∙◌, subst, inl, inr, add-one, arith, eq-eqb}
use mathlib.Core.List.{Memᴰ as In}
use Rattle.truss.specs.Lists.{any, filter, range}
use Rattle.truss.specs.Lists.{count as howMany}
use Rattle.truss.specs.Graph.{Graph, link_at, ends}
use Rattle.truss.specs.Forest.{same_component}
use Rattle.truss.specs.Group.{labels_at}
use Rattle.truss.specs.Question.{holds}
use Rattle.laws.proofs.Lists.{test, bool_same, true_not_false}
use Rattle.laws.proofs.Numbers.{same_or_not}
use Rattle.laws.proofs.Sets.{any_number}
use Rattle.laws.proofs.Members.{count-filter, any_in, in_any, filter_in, in_filter, in_range}
use Rattle.laws.proofs.Lowering.{count_same}
use Rattle.laws.proofs.Groups.{size, group_at_eq, group_strong}
use Rattle.laws.proofs.Stored.{group_count, stored, stored_at, stored_in}
use Rattle.columns.specs.Columns.{cell, COLUMNS}
use Rattle.stored.specs.Rows.{graph_in, IsIndex}
use Rattle.counting.specs.Touching.{Both, both_none, both_then, bump, bump_again, bump-first, Closed, Left, LinkGives, Touched}
use Rattle.counting.specs.Paths.{held_above}

-- ---- links of a group

abbrev pub member_of : Graph → ℕ → ℕ → Bool
member_of G h j = any (eqb j) (stored G h).members

of_any : (j : ℕ) (xs : List ℕ) → In j xs → any (eqb j) xs ≡ true
of_any j xs m = in_any (eqb j) xs m (eq-eqb j j refl)

in_or_not : (j : ℕ) (xs : List ℕ) → In j xs ⊎ (¬ (In j xs))
in_or_not j xs = go (test (any (eqb j) xs))
  where
    go : (any (eqb j) xs ≡ true) ⊎ (any (eqb j) xs ≡ false) → In j xs ⊎ (¬ (In j xs))
    go (inl t) = inl (any_number j xs t)
    go (inr f) = inr (λ m. true_not_false (of_any j xs m) f)

more_yes : (p : ℕ → Bool) (i : ℕ) → p i ≡ true → howMany p (i + 1) ≡ howMany p i + 1
unfolding howMany
more_yes p i t = rw (add-one, howMany, t) (omega arith)

more_no : (p : ℕ → Bool) (i : ℕ) → p i ≡ false → howMany p (i + 1) ≡ howMany p i
unfolding howMany
more_no p i f = rw (add-one, howMany, f) (omega arith)

pub how_few : (p : ℕ → Bool) (i : ℕ) → howMany p i ≤ i
unfolding howMany
how_few p zero = omega arith
how_few p (suc i) = go (p i) (how_few p i)
  where
    go : (t : Bool) → howMany p i ≤ i → cond t 1 0 + howMany p i ≤ suc i
    go true h = omega arith
    go false h = omega arith

-- rounds 1 to i are over: column c has how many of them touched each group
pub record Rounds (m count c i : ℕ) (p : ℕ → ℕ → Bool) (w : List ℕ) : Type 0 where
  pub size_is : length w ≡ COLUMNS * m
  pub stamps : (h : ℕ) → h < count → cell w m 3 h ≤ i
  pub counts : (h : ℕ) → h < count → cell w m c h ≡ howMany (p h) i

pub rounds_none : {m count c : ℕ} {p : ℕ → ℕ → Bool} {w : List ℕ} → length w ≡ COLUMNS * m → ((h : ℕ) → h < count → cell w m 3 h ≡ 0) → ((h : ℕ) → h < count → cell w m c h ≡ 0) → Rounds m count c 0 p w
unfolding howMany
rounds_none q s z = record { size_is = q; stamps = λ h l. omega (arith, s h l); counts = λ h l. z h l }

-- a link's round
pub links_more : {b : List ℕ} {m count c i : ℕ} {w w' : List ℕ} → Rounds m count c i (member_of (graph_in b)) w → LinkGives b m count c i (i + 1) w w' → Rounds m count c (i + 1) (member_of (graph_in b)) w'
links_more {b} {m} {count} {c} {i} {w} {w'} R L = record {
  size_is = L.both.length_is ∙ R.size_is;
  stamps = λ h l. stamps h l (in_or_not i (stored (graph_in b) h).members);
  counts = λ h l. counts h l (in_or_not i (stored (graph_in b) h).members);
}
  where
    stamps : (h : ℕ) → h < count → In i (stored (graph_in b) h).members ⊎ (¬ (In i (stored (graph_in b) h).members)) → cell w' m 3 h ≤ i + 1
    stamps h l (inl m) = omega (arith, (L.on h l m).stamp)
    stamps h l (inr n) = omega (arith, (L.off h l n).stamp, R.stamps h l)

    false_of : (h : ℕ) → ¬ (In i (stored (graph_in b) h).members) → member_of (graph_in b) h i ≡ false
    false_of h n = go (test (member_of (graph_in b) h i))
      where
        go : (member_of (graph_in b) h i ≡ true) ⊎ (member_of (graph_in b) h i ≡ false) → member_of (graph_in b) h i ≡ false
        go (inl t) = absurd (n (any_number i (stored (graph_in b) h).members t))
        go (inr f) = f

    counts : (h : ℕ) → h < count → In i (stored (graph_in b) h).members ⊎ (¬ (In i (stored (graph_in b) h).members)) → cell w' m c h ≡ howMany (member_of (graph_in b) h) (i + 1)
    counts h l (inl k) =
        (L.on h l k).counted ∙ bump-first {last = cell w m 3 h} {r = i + 1} (cell w m c h) (λ e. omega (arith, e, R.stamps h l)) ∙ ap (λ (x : ℕ). x + 1) (R.counts h l)
        ∙ sym (more_yes (member_of (graph_in b) h) i (of_any i (stored (graph_in b) h).members k))
    counts h l (inr n) = (L.off h l n).counted ∙ R.counts h l ∙ sym (more_no (member_of (graph_in b) h) i (false_of h n))

-- ---- they are its length

pub group_length : (G : Graph) (h : ℕ) → h < group_count G → howMany (member_of G h) (size G) ≡ length (stored G h).members
group_length G h l = count_same (member_of G h) q (size G) same ∙ sym (ap length is ∙ count-filter q (size G))
  where
    k : ℕ
    k = (stored G h).strength

    i : ℕ
    i = (stored_at G h l).least

    q : ℕ → Bool
    q = same_component (labels_at G k) i

    is : (stored G h).members ≡ filter q (range 0 (size G))
    is = (stored_at G h l).members_eq ∙ group_at_eq G k i (group_strong G k i (stored_at G h l).least_in)

    same : (j : ℕ) → j < size G → member_of G h j ≡ q j
    same j lj = bool_same (member_of G h j) (q j)
        (λ t. (filter_in q (range 0 (size G)) (subst (In j) is (any_number j (stored G h).members t))).1)
        (λ t. of_any j (stored G h).members (subst (In j) (sym is) (in_filter q (range 0 (size G)) (in_range 0 (size G) (omega arith) (omega arith)) t)))

-- ---- accounts of a group

abbrev pub holds_of : Graph → ℕ → ℕ → Bool
holds_of G h v = holds G (stored G h) v

-- group h holds one of the links P
abbrev pub Hit : List ℕ → (ℕ → Type 0) → ℕ → Type 0
Hit b P h = (i : ℕ) × P i × In i (stored (graph_in b) h).members

-- round r took the links P
pub record Round (b : List ℕ) (m count r : ℕ) (P : ℕ → Type 0) (w w' : List ℕ) : Type 0 where
  pub both : Both m count 4 w w'
  pub each : (h : ℕ) → h < count → (Hit b P h × Touched m 4 r h w w') ⊎ ((¬ (Hit b P h)) × Left m 4 h w w')

pub round_none : {b : List ℕ} {m count r : ℕ} {P : ℕ → Type 0} {w : List ℕ} → ((i : ℕ) → ¬ (P i)) → Round b m count r P w w
round_none none = record { both = both_none; each = λ h l. inr ((λ (i, p, k). none i p), record { stamp = refl; counted = refl }) }

-- one link
pub round_link : {b : List ℕ} {m count i r : ℕ} {w w' : List ℕ} → LinkGives b m count 4 i r w w' → Round b m count r (λ (j : ℕ). j ≡ i) w w'
round_link {b} {m} {count} {i} {r} {w} {w'} L = record { both = L.both; each = λ h l. go h l (in_or_not i (stored (graph_in b) h).members) }
  where
    go : (h : ℕ) → h < count → In i (stored (graph_in b) h).members ⊎ (¬ (In i (stored (graph_in b) h).members))
        → (Hit b (λ (j : ℕ). j ≡ i) h × Touched m 4 r h w w') ⊎ ((¬ (Hit b (λ (j : ℕ). j ≡ i) h)) × Left m 4 h w w')
    go h l (inl k) = inl ((i, refl, k), L.on h l k)
    go h l (inr n) = inr ((λ (j, e, k). n (subst (λ (x : ℕ). In x (stored (graph_in b) h).members) e k)), L.off h l n)

-- more links
pub round_then : {b : List ℕ} {m count r : ℕ} {P Q : ℕ → Type 0} {w w₁ w₂ : List ℕ} → Round b m count r P w w₁ → Round b m count r Q w₁ w₂ → Round b m count r (λ (j : ℕ). P j ⊎ Q j) w w₂
round_then {b} {m} {count} {r} {P} {Q} {w} {w₁} {w₂} R S = record { both = both_then R.both S.both; each = λ h l. go h (R.each h l) (S.each h l) }
  where
    go : (h : ℕ) → (Hit b P h × Touched m 4 r h w w₁) ⊎ ((¬ (Hit b P h)) × Left m 4 h w w₁) → (Hit b Q h × Touched m 4 r h w₁ w₂) ⊎ ((¬ (Hit b Q h)) × Left m 4 h w₁ w₂)
        → (Hit b (λ (j : ℕ). P j ⊎ Q j) h × Touched m 4 r h w w₂) ⊎ ((¬ (Hit b (λ (j : ℕ). P j ⊎ Q j) h)) × Left m 4 h w w₂)
    go h (inl ((i, p, k), t)) (inl (y, u)) = inl ((i, inl p, k), record { stamp = u.stamp; counted = u.counted ∙ bump_again (cell w₁ m 4 h) t.stamp ∙ t.counted })
    go h (inl ((i, p, k), t)) (inr (n, u)) = inl ((i, inl p, k), record { stamp = u.stamp ∙ t.stamp; counted = u.counted ∙ t.counted })
    go h (inr (n, t)) (inl ((i, q, k), u)) = inl ((i, inr q, k), record { stamp = u.stamp; counted = u.counted ∙ ap₂ (λ (x y : ℕ). bump x r y) t.stamp t.counted })
    go h (inr (n, t)) (inr (o, u)) = inr (neither, record { stamp = u.stamp ∙ t.stamp; counted = u.counted ∙ t.counted })
      where
        neither : ¬ (Hit b (λ (j : ℕ). P j ⊎ Q j) h)
        neither (i, inl p, k) = n (i, p, k)
        neither (i, inr q, k) = o (i, q, k)

-- the same links, said otherwise
pub round_same : {b : List ℕ} {m count r : ℕ} {P Q : ℕ → Type 0} {w w' : List ℕ} → ((j : ℕ) → P j → Q j) → ((j : ℕ) → Q j → P j) → Round b m count r P w w' → Round b m count r Q w w'
round_same {b} {m} {count} {r} {P} {Q} {w} {w'} to from R = record { both = R.both; each = λ h l. go h (R.each h l) }
  where
    go : (h : ℕ) → (Hit b P h × Touched m 4 r h w w') ⊎ ((¬ (Hit b P h)) × Left m 4 h w w') → (Hit b Q h × Touched m 4 r h w w') ⊎ ((¬ (Hit b Q h)) × Left m 4 h w w')
    go h (inl ((i, p, k), t)) = inl ((i, to i p, k), t)
    go h (inr (n, t)) = inr ((λ (i, q, k). n (i, from i q, k)), t)

-- a counter moves by one at most
pub round_few : {b : List ℕ} {m count r : ℕ} {P : ℕ → Type 0} {w w' : List ℕ} → Round b m count r P w w' → (h : ℕ) → h < count → cell w' m 4 h ≤ cell w m 4 h + 1
round_few {b} {m} {count} {r} {P} {w} {w'} R h l = go (R.each h l)
  where
    by : Touched m 4 r h w w' → (cell w m 3 h ≡ r) ⊎ (cell w m 3 h ≢ r) → cell w' m 4 h ≤ cell w m 4 h + 1
    by t (inl e) = omega (arith, t.counted ∙ bump_again (cell w m 4 h) e)
    by t (inr n) = omega (arith, t.counted ∙ bump-first (cell w m 4 h) n)

    go : (Hit b P h × Touched m 4 r h w w') ⊎ ((¬ (Hit b P h)) × Left m 4 h w w') → cell w' m 4 h ≤ cell w m 4 h + 1
    go (inl (x, t)) = by t (same_or_not (cell w m 3 h) r)
    go (inr (n, t)) = omega (arith, t.counted)

-- a round that has not begun, one that is under way
pub rounds_closed : (b : List ℕ) {m count c i : ℕ} {p : ℕ → ℕ → Bool} {w : List ℕ} → Rounds m count c i p w → Closed b m count (i + 1) w
rounds_closed b R h k lh lk v e = absurd (omega (arith, e, R.stamps h lh))

pub round_closed : {b : List ℕ} {m count r : ℕ} {P : ℕ → Type 0} {w w' : List ℕ} → IsIndex b → group_count (graph_in b) ≡ count → Closed b m count r w → Round b m count r P w w' → Closed b m count r w'
round_closed {b} {m} {count} {r} {P} {w} {w'} I gc C R h k lh lk u e = go (R.each h lh) (R.each k lk)
  where
    up : Hit b P h → Hit b P k
    up (i, p, n) = (i, p, held_above I i h k (stored_in (graph_in b) h (omega (arith, lh, gc)) n).0 (omega (arith, lh, gc)) u n)

    go : (Hit b P h × Touched m 4 r h w w') ⊎ ((¬ (Hit b P h)) × Left m 4 h w w') → (Hit b P k × Touched m 4 r k w w') ⊎ ((¬ (Hit b P k)) × Left m 4 k w w') → cell w' m 3 k ≡ r
    go x (inl (y, t)) = t.stamp
    go (inl (x, s)) (inr (n, t)) = absurd (n (up x))
    go (inr (o, s)) (inr (n, t)) = t.stamp ∙ C h k lh lk u (sym s.stamp ∙ e)

-- an account's round takes the links that have it as an end
pub accounts_more : {b : List ℕ} {m count v : ℕ} {P : ℕ → Type 0} {w w' : List ℕ} → group_count (graph_in b) ≡ count
    → ((i : ℕ) → P i → ends (link_at (graph_in b) i) v ≡ true) → ((i : ℕ) → i < size (graph_in b) → ends (link_at (graph_in b) i) v ≡ true → P i)
    → Rounds m count 4 v (holds_of (graph_in b)) w → Round b m count (v + 1) P w w' → Rounds m count 4 (v + 1) (holds_of (graph_in b)) w'
unfolding holds
accounts_more {b} {m} {count} {v} {P} {w} {w'} gc at_end all R S = record {
  size_is = S.both.length_is ∙ R.size_is;
  stamps = λ h l. stamps h l (S.each h l);
  counts = λ h l. counts h l (S.each h l);
}
  where
    held : (h : ℕ) → Hit b P h → holds_of (graph_in b) h v ≡ true
    held h (i, p, k) = in_any (λ (i : ℕ). ends (link_at (graph_in b) i) v) (stored (graph_in b) h).members k (at_end i p)

    hit : (h : ℕ) → h < count → (i : ℕ) × In i (stored (graph_in b) h).members × (ends (link_at (graph_in b) i) v ≡ true) → Hit b P h
    hit h l (i, k, e) = (i, all i (stored_in (graph_in b) h (omega (arith, l, gc)) k).0 e, k)

    not_held : (h : ℕ) → h < count → ¬ (Hit b P h) → holds_of (graph_in b) h v ≡ false
    not_held h l n = go (test (holds_of (graph_in b) h v))
      where
        go : (holds_of (graph_in b) h v ≡ true) ⊎ (holds_of (graph_in b) h v ≡ false) → holds_of (graph_in b) h v ≡ false
        go (inl t) = absurd (n (hit h l (any_in (λ (i : ℕ). ends (link_at (graph_in b) i) v) (stored (graph_in b) h).members t)))
        go (inr f) = f

    stamps : (h : ℕ) → h < count → (Hit b P h × Touched m 4 (v + 1) h w w') ⊎ ((¬ (Hit b P h)) × Left m 4 h w w') → cell w' m 3 h ≤ v + 1
    stamps h l (inl (x, t)) = omega (arith, t.stamp)
    stamps h l (inr (n, t)) = omega (arith, t.stamp, R.stamps h l)

    counts : (h : ℕ) → h < count → (Hit b P h × Touched m 4 (v + 1) h w w') ⊎ ((¬ (Hit b P h)) × Left m 4 h w w') → cell w' m 4 h ≡ howMany (holds_of (graph_in b) h) (v + 1)
    counts h l (inl (x, t)) =
        t.counted ∙ bump-first {last = cell w m 3 h} {r = v + 1} (cell w m 4 h) (λ e. omega (arith, e, R.stamps h l)) ∙ ap (λ (y : ℕ). y + 1) (R.counts h l)
        ∙ sym (more_yes (holds_of (graph_in b) h) v (held h x))
    counts h l (inr (n, t)) = t.counted ∙ R.counts h l ∙ sym (more_no (holds_of (graph_in b) h) v (not_held h l n))

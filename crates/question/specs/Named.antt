-- Questions on named accounts: C, D and E. Assumes nothing.
use Rattle.std.specs.Prelude.{Result, Ok, Err, IsErrAnd, max, ◌≡◌, ◌⊎◌, ◌≢◌, Bool, true, false, not, ◌&&◌, ◌||◌, ℕ, ◌+◌, ◌*◌, ◌/◌, ◌≤◌, ◌<◌, ltb, leb, length, get_or}
use Rattle.std.proofs.Math.Path.{refl}
use Rattle.std.proofs.Common.{sym, ap, ◌∙◌, subst, inl, inr, arith, le-leb, lt-ltb, le-ltb}
use mathlib.Core.List.{List}
use mathlib.Core.List.{Memᴰ as In}
use Rattle.std.proofs.lemmas.Bool.{lt-leb}
use Rattle.std.proofs.lemmas.Result.{err_from_is_err_and}
use Rattle.truss.specs.Limits.{min_level, no_group, max_named}
use Rattle.truss.specs.Lists.{all}
use Rattle.truss.specs.Graph.{Graph}
use Rattle.truss.specs.Group.{Group, groups}
use Rattle.truss.specs.Refusal.{Checked, passed, refused, refuse_if}
use Rattle.truss.specs.Refusal.{Refusal as Refused}
use Rattle.limits.specs.declared.refusal.Refusal.{Refusal}
use Rattle.limits.specs.declared.refusal.Refusal.TheVariants.{Named, NoAccount}
use Rattle.limits.specs.Refusals.{number_of, checked, refusal_in, at_no_place}
use Rattle.truss.specs.Record.{field_at}
use Rattle.truss.specs.Question.{outside, accounts_in, bad_count, holds_all, is_group_at, numbers_of, groups_holding, strongest_holding, all_holding}
use Rattle.laws.proofs.Lists.{both, and_left, and_right}
use Rattle.laws.proofs.Numbers.{same_or_not, less_or_not}
use Rattle.laws.proofs.Members.{in_any, in_get_d, get_d_in}
use Rattle.laws.proofs.Stored.{group_count, stored, no_such_group}
use Rattle.laws.proofs.Answers.{counted_well, all_inside, inside_all, numbers_in, in_numbers, D_only, D_all}
use Rattle.columns.specs.Columns.{cell, store, COLUMNS}
use Rattle.columns.specs.Laws.{upd_store, length-store}
use Rattle.wire.specs.Writing.{Tells, tells_yes, tells_no}
use Rattle.stored.specs.Rows.{graph_in, parent_of, parent_cases, Sized, sized_few}
use Rattle.holding.specs.Marks.{Marks, marks_as, marks_clear}
use Rattle.holding.specs.Ranks.{Before, in_before, before_in}
use Rattle.holding.specs.Turns.{Names, HoldGives}
use Rattle.ordering.specs.Rows.{marked}
use Rattle.question.specs.Checks.{not_passed, same_refusal}
use Rattle.question.specs.Lists.{marked_are}
use Rattle.question.specs.Levels.{at_top, at_below, too_weak, not_top}

-- ---- checks 8 and 9

abbrev pub names_checked : Graph → List ℕ → Checked (Unit {0})
names_checked G named = refuse_if (bad_count named) 8 0 (refuse_if (outside G (accounts_in named)) 9 0 (passed tt))

module _ (named : List ℕ) where
  pub well_named : bad_count named ≡ false → (length named ≡ 2 * (length named / 2)) × (0 < length named / 2) × (length named / 2 ≤ max_named)
  well_named f = let (c, some, few, q) = counted_well named f in (omega (arith, q), omega (arith, some, q), omega (arith, few, q))

  module _ (G : Graph) where
    pub fault_8 : bad_count named ≡ true → checked {A = Unit {0}} (Err Named) ≡ names_checked G named
    unfolding checked number_of
    fault_8 t = rw t refl

    pub fault_9 : bad_count named ≡ false → outside G (accounts_in named) ≡ true → checked {A = Unit {0}} (Err NoAccount) ≡ names_checked G named
    unfolding checked number_of
    fault_9 f t = rw (f, t) refl

    pub fault_none : bad_count named ≡ false → outside G (accounts_in named) ≡ false → checked (Ok (tt {0})) ≡ names_checked G named
    unfolding checked
    fault_none f g = rw (f, g) refl

-- the first j accounts are below n
abbrev pub FirstBelow : List ℕ → ℕ → ℕ → Type 0
FirstBelow named n j = (t : ℕ) → t < j → field_at named (2 * t) < n

pub below_none : (named : List ℕ) {n : ℕ} → FirstBelow named n 0
below_none named t l = absurd (omega arith)

pub below_more : (named : List ℕ) {n j v : ℕ} → FirstBelow named n j → v ≡ field_at named (2 * j) → v < n → FirstBelow named n (j + 1)
below_more named {n} {j} {v} B q l t h = go (same_or_not t j)
  where
    go : (t ≡ j) ⊎ (t ≢ j) → field_at named (2 * t) < n
    go (inl e) = rw e (omega (arith, q, l))
    go (inr ne) = B t (omega arith)

module _ (G : Graph) {n : ℕ} (accounts : G.n ≡ n) (named : List ℕ) (k : ℕ) (even : length named ≡ 2 * k) where
  pub some_outside : {j v : ℕ} → j < k → v ≡ field_at named (2 * j) → n ≤ v → outside G (accounts_in named) ≡ true
  unfolding outside
  some_outside {j} {v} l q h = in_any (leb G.n) (accounts_in named) (before_in named k even (j, l, q)) (le-leb G.n v (omega (arith, accounts, h)))

  inside_in : {j : ℕ} → k ≤ j → FirstBelow named n j → (v : ℕ) → In v (accounts_in named) → v < n
  inside_in l B v m = go (in_before named k even m)
    where
      go : Before named k v → v < n
      go (t, lt, q) = omega (arith, q, B t (omega (arith, lt, l)))

  pub none-outside : {j : ℕ} → k ≤ j → FirstBelow named n j → outside G (accounts_in named) ≡ false
  none-outside l B = all_inside G (accounts_in named) (λ v m. omega (arith, inside_in l B v m, accounts))

-- what no fault means
module _ (G : Graph) (named : List ℕ) where
  pub names_good : checked (Ok (tt {0})) ≡ names_checked G named → (bad_count named ≡ false) × (outside G (accounts_in named) ≡ false)
  unfolding checked
  names_good q = go (bad_count named) (outside G (accounts_in named)) q
    where
      go : (s t : Bool) → passed (tt {0}) ≡ refuse_if s 8 0 (refuse_if t 9 0 (passed (tt {0}))) → (s ≡ false) × (t ≡ false)
      go true t q = absurd (not_passed (sym q))
      go false true q = absurd (not_passed (sym q))
      go false false q = (refl, refl)

  -- they passed, and what comes after is checked
  pub names_pass : {A : Type 0} (x : Checked A) → checked (Ok (tt {0})) ≡ names_checked G named → refuse_if (bad_count named) 8 0 (refuse_if (outside G (accounts_in named)) 9 0 x) ≡ x
  names_pass x q = let g = names_good q in rw (g.0, g.1) refl

  pub names_stop : {A : Type 0} (f : Refusal) (x : Checked A) → checked {A = Unit {0}} (Err f) ≡ names_checked G named
      → refuse_if (bad_count named) 8 0 (refuse_if (outside G (accounts_in named)) 9 0 x) ≡ refused (refusal_in (at_no_place f))
  unfolding checked
  names_stop {A} f x q = go (bad_count named) (outside G (accounts_in named)) q
    where
      r : Refused
      r = refusal_in (at_no_place f)

      go : (s t : Bool) → ◌≡◌ {A = Checked (Unit {0})} (refused r) (refuse_if s 8 0 (refuse_if t 9 0 (passed tt))) → refuse_if s 8 0 (refuse_if t 9 0 x) ≡ refused r
      go true t q = same_refusal q
      go false true q = same_refusal q
      go false false q = absurd (not_passed q)

  pub good_names : {n : ℕ} → G.n ≡ n → checked (Ok (tt {0})) ≡ names_checked G named → Names n (length named / 2) named × (0 < length named / 2)
  good_names accounts q =
      let g = names_good q in
      let c = well_named named g.0 in
      (record { even = c.0; few_names = c.2; below = λ v m. omega (arith, inside_all G (accounts_in named) g.1 v m, accounts) }, c.1)

-- ---- E

numbers_marked : (G : Graph) (p : Group → Bool) (w : List ℕ) (m count : ℕ) → group_count G ≡ count → Marks (cell w m 0) count (λ (g : ℕ). p (stored G g) ≡ true) → marked w m count ≡ numbers_of p (groups G)
unfolding numbers_of
numbers_marked G p w m count q M = rw (← q) (marked_are w m (group_count G) (λ (g : ℕ). p (stored G g)) (rw (← q) at M))

pub E_marked : {b : List ℕ} {m count : ℕ} {named w : List ℕ} → group_count (graph_in b) ≡ count → HoldGives b m count named w → marked w m count ≡ all_holding (graph_in b) (accounts_in named)
unfolding all_holding
E_marked {b} {m} {count} {named} {w} q H = numbers_marked (graph_in b) (holds_all (graph_in b) (accounts_in named)) w m count q H.marks

-- ---- C: a mark stays if the group is a group at k

-- one turn: the mark at g goes if the test fails
pub record Kept (m g : ℕ) (r : Bool) (w w' : List ℕ) : Type 0 where
  pub stays : r ≡ true → w' ≡ w
  pub goes : r ≡ false → w' ≡ store w m 0 g 0

-- the first g marks are kept where Q holds too; P is what was marked
pub record Keeping (m count g : ℕ) (P Q : ℕ → Type 0) (w : List ℕ) : Type 0 where
  pub size_is : length w ≡ COLUMNS * m
  pub marks : Marks (cell w m 0) count (λ (x : ℕ). P x × (x < g → Q x))

pub keeping_none : {m count : ℕ} {P Q : ℕ → Type 0} {w : List ℕ} → length w ≡ COLUMNS * m → Marks (cell w m 0) count P → Keeping m count 0 P Q w
keeping_none q M = record { size_is = q; marks = marks_as M (λ x k. refl) (λ x k p. (p, λ l. absurd (omega arith))) (λ x k p. p.0) }

pub keeping_more : {m count g : ℕ} {P Q : ℕ → Type 0} {r : Bool} {w w' : List ℕ} → count ≤ m → g < count → Keeping m count g P Q w → Tells r (Q g) → Kept m g r w w' → Keeping m count (g + 1) P Q w'
keeping_more {m} {count} {g} {P} {Q} {r} {w} {w'} few-c l K S T = go r refl
  where
    step : (x : ℕ) → x ≢ g → P x × (x < g → Q x) → P x × (x < g + 1 → Q x)
    step x n p = (p.0, λ h. p.1 (omega arith))

    unstep : (x : ℕ) → P x × (x < g + 1 → Q x) → P x × (x < g → Q x)
    unstep x p = (p.0, λ h. p.1 (omega arith))

    go : (t : Bool) → r ≡ t → Keeping m count (g + 1) P Q w'
    go true e = rw (T.stays e) (record { size_is = K.size_is; marks = marks_as K.marks (λ x k. refl) (λ x k p. at x p (same_or_not x g)) (λ x k p. unstep x p) })
      where
        at : (x : ℕ) → P x × (x < g → Q x) → (x ≡ g) ⊎ (x ≢ g) → P x × (x < g + 1 → Q x)
        at x p (inl s) = (p.0, λ h. subst Q (sym s) (S.yes_is e))
        at x p (inr n) = step x n p
    go false e = rw (T.goes e) (record {
      size_is = length-store w m 0 g 0 ∙ K.size_is;
      marks = marks_clear few-c K.marks (upd_store w m 0 g 0 (omega arith) (omega arith) K.size_is) (λ p. S.no_is e (p.1 (omega arith))) (λ x n p. step x n p) (λ x p. unstep x p);
    })

pub keeping_done : {m count g : ℕ} {P Q : ℕ → Type 0} {w : List ℕ} → count ≤ g → Keeping m count g P Q w → Marks (cell w m 0) count (λ (x : ℕ). P x × Q x)
keeping_done l K = marks_as K.marks (λ x k. refl) (λ x k p. (p.0, p.1 (omega arith))) (λ x k p. (p.0, λ _. p.1))

-- ---- the tests

module _ {b : List ℕ} {at m count : ℕ} (A : Sized b at m count) (k g : ℕ) (level : min_level ≤ k) (l : g < count) where
  lg : g < group_count (graph_in b)
  lg = omega (arith, A.groups)

  pub level_weak : {s : ℕ} → s ≡ (stored (graph_in b) g).strength → s < k → Tells false (is_group_at (graph_in b) k (stored (graph_in b) g) ≡ true)
  level_weak q h = tells_no (too_weak A.groups_at_lem.is_index level lg q h)

  pub level_top : {s p : ℕ} → s ≡ (stored (graph_in b) g).strength → k ≤ s → p ≡ parent_of (graph_in b) g → p ≡ no_group → Tells true (is_group_at (graph_in b) k (stored (graph_in b) g) ≡ true)
  level_top q h e z = tells_yes (at_top A.groups_at_lem.is_index level lg q h e z)

  pub level_parent_in : {p : ℕ} → p ≡ parent_of (graph_in b) g → p ≢ no_group → p < group_count (graph_in b)
  level_parent_in {p} q n = go (parent_cases A.groups_at_lem.is_index g lg)
    where
      go : (parent_of (graph_in b) g < group_count (graph_in b)) ⊎ (parent_of (graph_in b) g ≡ no_group) → p < group_count (graph_in b)
      go (inl x) = omega (arith, x, q)
      go (inr e) = absurd (n (q ∙ e))

  pub level_parent : {s p t : ℕ} → s ≡ (stored (graph_in b) g).strength → k ≤ s → p ≡ parent_of (graph_in b) g → p ≢ no_group → t ≡ (stored (graph_in b) p).strength → Tells (ltb t k) (is_group_at (graph_in b) k (stored (graph_in b) g) ≡ true)
  level_parent {s} {p} {t} q h e n r = go (less_or_not t k)
    where
      go : (t < k) ⊎ (k ≤ t) → Tells (ltb t k) (is_group_at (graph_in b) k (stored (graph_in b) g) ≡ true)
      go (inl y) = rw (lt-ltb t k y) (tells_yes (at_below A.groups_at_lem.is_index level lg q h e r y))
      go (inr y) = rw (le-ltb t k y) (tells_no (not_top A.groups_at_lem.is_index level lg e n r y))

-- C's list
pub C_marked : (b : List ℕ) (k : ℕ) (named w : List ℕ) (m : ℕ) {count : ℕ} → group_count (graph_in b) ≡ count
    → Marks (cell w m 0) count (λ (g : ℕ). (holds_all (graph_in b) (accounts_in named) (stored (graph_in b) g) ≡ true) × (is_group_at (graph_in b) k (stored (graph_in b) g) ≡ true))
    → marked w m count ≡ groups_holding (graph_in b) k (accounts_in named)
unfolding groups_holding
C_marked b k named w m {count} q M =
    numbers_marked (graph_in b) (λ (g : Group). is_group_at (graph_in b) k g && holds_all (graph_in b) (accounts_in named) g) w m count q
    (marks_as M (λ x h. refl) (λ x h p. both p.1 p.0) (λ x h p. (and_right (is_group_at (graph_in b) k (stored (graph_in b) x)) _ p, and_left (is_group_at (graph_in b) k (stored (graph_in b) x)) _ p)))

-- ---- D: the greatest strength of what is marked

pub record Best (G : Graph) (m g best : ℕ) (w : List ℕ) : Type 0 where
  pub most : (x : ℕ) → x < g → cell w m 0 x ≢ 0 → (stored G x).strength ≤ best
  pub met : 0 < best → (x : ℕ) × (x < g) × (cell w m 0 x ≢ 0) × ((stored G x).strength ≡ best)
  pub small : best < 65536

pub best_none : {G : Graph} {m : ℕ} {w : List ℕ} → Best G m 0 0 w
best_none = record { most = λ x l. absurd (omega arith); met = λ l. absurd (omega arith); small = omega arith }

-- a group's strength counts if it is marked
pub record Counts (G : Graph) (m g best r : ℕ) (w : List ℕ) : Type 0 where
  pub unmarked : cell w m 0 g ≡ 0 → r ≡ best
  pub marked_is : cell w m 0 g ≢ 0 → r ≡ max best (stored G g).strength
  pub small : r < 65536

pub best_more : {G : Graph} {m g best r : ℕ} {w : List ℕ} → Best G m g best w → Counts G m g best r w → Best G m (g + 1) r w
best_more {G} {m} {g} {best} {r} {w} B C = go (same_or_not (cell w m 0 g) 0)
  where
    later : (x : ℕ) × (x < g) × (cell w m 0 x ≢ 0) × ((stored G x).strength ≡ best) → (x : ℕ) × (x < g + 1) × (cell w m 0 x ≢ 0) × ((stored G x).strength ≡ best)
    later (x, l, n, q) = (x, omega (arith, l), n, q)

    go : (cell w m 0 g ≡ 0) ⊎ (cell w m 0 g ≢ 0) → Best G m (g + 1) r w
    go (inl z) = record {
      most = λ x l n. most x l n (same_or_not x g);
      met = λ l. let e = C.unmarked z in rw e (later (B.met (omega (arith, e, l))));
      small = C.small;
    }
      where
        most : (x : ℕ) → x < g + 1 → cell w m 0 x ≢ 0 → (x ≡ g) ⊎ (x ≢ g) → (stored G x).strength ≤ r
        most x l n (inl s) = absurd (n (ap (cell w m 0) s ∙ z))
        most x l n (inr s) = omega (arith, C.unmarked z, B.most x (omega arith) n)
    go (inr nz) = at (less_or_not best (stored G g).strength)
      where
        at : (best < (stored G g).strength) ⊎ ((stored G g).strength ≤ best) → Best G m (g + 1) r w
        at (inr h) = record {
          most = λ x l n. most x l n (same_or_not x g);
          met = λ l. let e = C.marked_is nz in let f : r ≡ best = omega (arith, e, h) in rw f (later (B.met (omega (arith, f, l))));
          small = C.small;
        }
          where
            most : (x : ℕ) → x < g + 1 → cell w m 0 x ≢ 0 → (x ≡ g) ⊎ (x ≢ g) → (stored G x).strength ≤ r
            most x l n (inl s) = rw s (omega (arith, C.marked_is nz))
            most x l n (inr s) = omega (arith, C.marked_is nz, B.most x (omega arith) n)
        at (inl h) = record {
          most = λ x l n. most x l n (same_or_not x g);
          met = λ l. (g, omega arith, nz, omega (arith, C.marked_is nz, h));
          small = C.small;
        }
          where
            most : (x : ℕ) → x < g + 1 → cell w m 0 x ≢ 0 → (x ≡ g) ⊎ (x ≢ g) → (stored G x).strength ≤ r
            most x l n (inl s) = rw s (omega (arith, C.marked_is nz))
            most x l n (inr s) = omega (arith, C.marked_is nz, B.most x (omega arith) n)

pub D_marked : {b : List ℕ} {m count best : ℕ} {named w : List ℕ} (w' : List ℕ) → group_count (graph_in b) ≡ count → HoldGives b m count named w → Best (graph_in b) m count best w
    → Marks (cell w' m 0) count (λ (g : ℕ). (holds_all (graph_in b) (accounts_in named) (stored (graph_in b) g) ≡ true) × (best ≤ (stored (graph_in b) g).strength))
    → marked w' m count ≡ strongest_holding (graph_in b) (accounts_in named)
unfolding strongest_holding
D_marked {b} {m} {count} {best} {named} {w} w' q H B M =
    numbers_marked G test_of w' m count q (marks_as M (λ x h. refl) to back)
  where
    G : Graph
    G = graph_in b

    vs : List ℕ
    vs = accounts_in named

    test_of : Group → Bool
    test_of g = holds_all G vs g && all (λ (o : Group). not (holds_all G vs o) || leb o.strength g.strength) (groups G)

    held_mark : (x : ℕ) → x < count → holds_all G vs (stored G x) ≡ true → cell w m 0 x ≢ 0
    held_mark x l t z = H.marks.no x l z t

    at_most : (g : ℕ) → best ≤ (stored G g).strength → (h : Group) → In h (groups G) → holds_all G vs h ≡ true → h.strength ≤ (stored G g).strength
    at_most g lb h m t = go (in_get_d no_such_group (groups G) m)
      where
        go : (x : ℕ) × (x < length (groups G)) × (get_or (groups G) x no_such_group ≡ h) → h.strength ≤ (stored G g).strength
        go (x, lx, e) =
            let s : (stored G x).strength ≡ h.strength = ap (λ (y : Group). y.strength) e in
            omega (arith, lb, s, B.most x (omega (arith, lx, q)) (held_mark x (omega (arith, lx, q)) (rw e t)))

    to : (g : ℕ) → g < count → (holds_all G vs (stored G g) ≡ true) × (best ≤ (stored G g).strength) → test_of (stored G g) ≡ true
    to g l (t, lb) = (numbers_in test_of (groups G) (D_all G vs g (omega (arith, l, q)) t (at_most g lb))).1

    back : (g : ℕ) → g < count → test_of (stored G g) ≡ true → (holds_all G vs (stored G g) ≡ true) × (best ≤ (stored G g).strength)
    back g l t = (o.1, go (less_or_not 0 best))
      where
        o : (g < group_count G) × (holds_all G vs (stored G g) ≡ true) × ((h : Group) → In h (groups G) → holds_all G vs h ≡ true → h.strength ≤ (stored G g).strength)
        o = D_only G vs (in_numbers test_of (groups G) (omega (arith, l, q)) t)

        from : (x : ℕ) × (x < count) × (cell w m 0 x ≢ 0) × ((stored G x).strength ≡ best) → best ≤ (stored G g).strength
        from (x, lx, n, e) = omega (arith, e, o.2 (stored G x) (get_d_in no_such_group (groups G) x (omega (arith, lx, q))) (H.marks.yes x lx n))

        go : (0 < best) ⊎ (best ≤ 0) → best ≤ (stored G g).strength
        go (inl p) = from (B.met p)
        go (inr z) = omega arith

-- ---- what the functions give

pub record HeldGives (b : List ℕ) (m count : ℕ) (named : List ℕ) (r : Result (Unit {0}) Refusal) (w : List ℕ) : Type 0 where
  pub checks : checked r ≡ names_checked (graph_in b) named
  pub size_is : length w ≡ COLUMNS * m
  pub held : r ≡ Ok tt → HoldGives b m count named w

pub held_not : (b : List ℕ) {m count : ℕ} (named : List ℕ) (r : Result (Unit {0}) Refusal) (f : Refusal) {w : List ℕ} → IsErrAnd r (λ e. e ≡ f) → checked {A = Unit {0}} (Err f) ≡ names_checked (graph_in b) named → length w ≡ COLUMNS * m
    → HeldGives b m count named r w
held_not b named r f h q l =
    let p = err_from_is_err_and r h in
    rw (p.1, p.2) (record { checks = q; size_is = l; held = λ e. absurd (let z : ◌≡◌ {A = ℕ} 0 1 = cc in omega arith) })

abbrev pub Holding : List ℕ → List ℕ → ℕ → Type 0
Holding b named g = holds_all (graph_in b) (accounts_in named) (stored (graph_in b) g) ≡ true

-- what is marked stays marked where Q is: whatever accounts were named
pub record KeepState (b : List ℕ) (m count g : ℕ) (Q : ℕ → Type 0) (w₀ w : List ℕ) : Type 0 where
  pub size_is : length w ≡ COLUMNS * m
  pub marks : (named : List ℕ) → HoldGives b m count named w₀ → Keeping m count g (Holding b named) Q w

pub keep-none : {b : List ℕ} {m count : ℕ} {Q : ℕ → Type 0} {w : List ℕ} → length w ≡ COLUMNS * m → KeepState b m count 0 Q w w
keep-none q = record { size_is = q; marks = λ named H. keeping_none q H.marks }

pub keep_more : {b : List ℕ} {at m count g : ℕ} {Q : ℕ → Type 0} {r : Bool} {w₀ w w' : List ℕ} → Sized b at m count → g < count → KeepState b m count g Q w₀ w → Tells r (Q g) → Kept m g r w w' → KeepState b m count (g + 1) Q w₀ w'
keep_more {b} {at} {m} {count} {g} {Q} {r} {w₀} {w} {w'} A l K S T = record { size_is = go r refl; marks = λ named H. keeping_more (sized_few A).0 l (K.marks named H) S T }
  where
    go : (t : Bool) → r ≡ t → length w' ≡ COLUMNS * m
    go true e = ap length (T.stays e) ∙ K.size_is
    go false e = ap length (T.goes e) ∙ length-store w m 0 g 0 ∙ K.size_is

pub record LevelGives (b : List ℕ) (m count k : ℕ) (w w' : List ℕ) : Type 0 where
  pub size_is : length w' ≡ COLUMNS * m
  pub marks : (named : List ℕ) → HoldGives b m count named w → Marks (cell w' m 0) count (λ (g : ℕ). (holds_all (graph_in b) (accounts_in named) (stored (graph_in b) g) ≡ true) × (is_group_at (graph_in b) k (stored (graph_in b) g) ≡ true))

abbrev pub AtLevel : List ℕ → ℕ → ℕ → Type 0
AtLevel b k g = is_group_at (graph_in b) k (stored (graph_in b) g) ≡ true

pub level_done : {b : List ℕ} {m count g k : ℕ} {w w' : List ℕ} → count ≤ g → KeepState b m count g (AtLevel b k) w w' → LevelGives b m count k w w'
level_done l K = record { size_is = K.size_is; marks = λ named H. keeping_done l (K.marks named H) }

pub record StrongestGives (b : List ℕ) (m count best : ℕ) (w w' : List ℕ) : Type 0 where
  pub size_is : length w' ≡ COLUMNS * m
  pub marks : (named : List ℕ) → HoldGives b m count named w → Marks (cell w' m 0) count (λ (g : ℕ). (holds_all (graph_in b) (accounts_in named) (stored (graph_in b) g) ≡ true) × (best ≤ (stored (graph_in b) g).strength))

abbrev pub AsStrong : List ℕ → ℕ → ℕ → Type 0
AsStrong b best g = best ≤ (stored (graph_in b) g).strength

pub strongest_done : {b : List ℕ} {m count g best : ℕ} {w w' : List ℕ} → count ≤ g → KeepState b m count g (AsStrong b best) w w' → StrongestGives b m count best w w'
strongest_done l K = record { size_is = K.size_is; marks = λ named H. keeping_done l (K.marks named H) }

pub strong_tells : (b : List ℕ) (g : ℕ) {best t : ℕ} → t ≡ (stored (graph_in b) g).strength → Tells (leb best t) (AsStrong b best g)
strong_tells b g {best} {t} q = go (less_or_not t best)
  where
    go : (t < best) ⊎ (best ≤ t) → Tells (leb best t) (AsStrong b best g)
    go (inl l) = rw (lt-leb best t l) (tells_no (λ h. omega (arith, h, l, q)))
    go (inr l) = rw (le-leb best t l) (tells_yes (omega (arith, l, q)))

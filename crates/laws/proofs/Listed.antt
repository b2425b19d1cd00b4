-- Questions C, D and E: what `listed` gives is what `IsListed` describes, and no other row is. And when they are refused.
use mathlib.Core.Path.{◌≡◌, refl, sym, ◌∙◌, subst}
use mathlib.Core.Logic.{◌⊎◌, inl, inr, ◌≢◌, ◌↔◌}
use mathlib.Core.Bool.{Bool, true, false, not, ◌&&◌, ◌||◌}
use mathlib.Core.List.{List, [], ◌∷◌, ◌++◌}
use mathlib.Core.List.Memᴰ.{head as here}
use mathlib.Core.List.Memᴰ.{tail as there}
use mathlib.Core.List.{Memᴰ as In}
use Prim.Native.Nat.{ℕ, ◌≤◌, ◌<◌}
use native.Mathlib.Omega.{arith}
use lib.Dec.{eqb, ltb, leb}
use lib.ListN.{length, get_or, drop, set}
use borrow.Author.Tests.{eq-eqb, eqb-true, lt-ltb, le-ltb, ltb-true, lt-leb}
use Rattle.truss.specs.Limits.{windows}
use Rattle.truss.specs.Lists.{all, range, sort}
use Rattle.truss.specs.Graph.{Graph}
use Rattle.truss.specs.Group.{Group, least_link, groups}
use Rattle.truss.specs.Refusal.{passed, refuse, and_then}
use Rattle.truss.specs.IndexFile.{read_index}
use Rattle.truss.specs.Question.{Question, answer, empty_group, accounts_held, listed_before, listed, numbers, accounts_in, holds_all, is_group_at, numbers_of, groups_holding, strongest_holding, all_holding}
use Rattle.truss.specs.Call.{done, next_tally, answer_bytes, answer_value, answer_second, checked_answer, settle, ask}
use Rattle.truss.specs.Order.{ListedBefore, stronger, larger, earlier, InOrder, nothing, and_first, IsListed, Means, means_C, means_D, means_E, FirstFault, C_count, C_outside, C_level, D_count, D_outside, E_count, E_outside, Lists, OrderRule}
use Rattle.laws.proofs.Lists.{true_not_false, and_left, and_right, or_cases}
use Rattle.laws.proofs.Numbers.{same_or_not, less_or_not}
use Rattle.laws.proofs.Members.{Sorted, sort_in, in_sort, sort_sorted}
use Rattle.laws.proofs.Sets.{sorted_at}
use Rattle.laws.proofs.Ordering.{Distinct, sort-distinct, sorted_unique, sort-length}
use Rattle.laws.proofs.JoinOrder.{range-distinct}
use Rattle.laws.proofs.Stored.{filter-sorted, group_count, stored, no_such_group}
use Rattle.laws.proofs.GroupOrder.{Before, groups-sorted}
use Rattle.laws.proofs.Answers.{well_counted, ill_counted, all_inside, not_inside, is_level, no_level, ask_refused, answer-length, numbers_in}

-- ---- the order of two groups

module _ (G : Graph) where
  one_way : (g h : Group) → ListedBefore G g h → ListedBefore G h g → ⊥
  one_way g h (stronger p) (stronger q) = omega arith
  one_way g h (stronger p) (larger q r) = omega arith
  one_way g h (stronger p) (earlier q r s) = omega arith
  one_way g h (larger p r) (stronger q) = omega arith
  one_way g h (larger p r) (larger q s) = omega arith
  one_way g h (larger p r) (earlier q s t) = omega arith
  one_way g h (earlier p r s) (stronger q) = omega arith
  one_way g h (earlier p r s) (larger q t) = omega arith
  one_way g h (earlier p r s) (earlier q t u) = omega arith

  onward : (g h o : Group) → ListedBefore G g h → ListedBefore G h o → ListedBefore G g o
  onward g h o (stronger p) (stronger q) = stronger (omega arith)
  onward g h o (stronger p) (larger q r) = stronger (omega arith)
  onward g h o (stronger p) (earlier q r s) = stronger (omega arith)
  onward g h o (larger p r) (stronger q) = stronger (omega arith)
  onward g h o (larger p r) (larger q s) = larger (p ∙ q) (omega arith)
  onward g h o (larger p r) (earlier q s t) = larger (p ∙ q) (omega arith)
  onward g h o (earlier p r s) (stronger q) = stronger (omega arith)
  onward g h o (earlier p r s) (larger q t) = larger (p ∙ q) (omega arith)
  onward g h o (earlier p r s) (earlier q t u) = earlier (p ∙ q) (r ∙ t) (omega arith)

  -- before the other, or with the same three numbers
  data NotAfter (g h : Group) : Type 0 where
    first : ListedBefore G g h → NotAfter g h
    tied : g.strength ≡ h.strength → accounts_held G g ≡ accounts_held G h → least_link g ≡ least_link h → NotAfter g h

  not_after_trans : (g h o : Group) → NotAfter g h → NotAfter h o → NotAfter g o
  not_after_trans g h o (first p) (first q) = first (onward g h o p q)
  not_after_trans g h o (first (stronger p)) (tied q r s) = first (stronger (omega arith))
  not_after_trans g h o (first (larger p t)) (tied q r s) = first (larger (p ∙ q) (omega arith))
  not_after_trans g h o (first (earlier p t u)) (tied q r s) = first (earlier (p ∙ q) (t ∙ r) (omega arith))
  not_after_trans g h o (tied q r s) (first (stronger p)) = first (stronger (omega arith))
  not_after_trans g h o (tied q r s) (first (larger p t)) = first (larger (q ∙ p) (omega arith))
  not_after_trans g h o (tied q r s) (first (earlier p t u)) = first (earlier (q ∙ p) (r ∙ t) (omega arith))
  not_after_trans g h o (tied q r s) (tied t u v) = tied (q ∙ t) (r ∙ u) (s ∙ v)

  -- of two groups one is before the other, if they have not the same three numbers
  either : (g h : Group) → ListedBefore G g h ⊎ NotAfter h g
  either g h = one (same_or_not g.strength h.strength)
    where
      three : g.strength ≡ h.strength → accounts_held G g ≡ accounts_held G h → (least_link g ≡ least_link h) ⊎ (least_link g ≢ least_link h) → ListedBefore G g h ⊎ NotAfter h g
      three p q (inl r) = inr (tied (sym p) (sym q) (sym r))
      three p q (inr n) = go (less_or_not (least_link g) (least_link h))
        where
          go : (least_link g < least_link h) ⊎ (least_link h ≤ least_link g) → ListedBefore G g h ⊎ NotAfter h g
          go (inl l) = inl (earlier p q l)
          go (inr l) = inr (first (earlier (sym p) (sym q) (omega (arith, l, n))))

      two : g.strength ≡ h.strength → (accounts_held G g ≡ accounts_held G h) ⊎ (accounts_held G g ≢ accounts_held G h) → ListedBefore G g h ⊎ NotAfter h g
      two p (inl q) = three p q (same_or_not (least_link g) (least_link h))
      two p (inr n) = go (less_or_not (accounts_held G g) (accounts_held G h))
        where
          go : (accounts_held G g < accounts_held G h) ⊎ (accounts_held G h ≤ accounts_held G g) → ListedBefore G g h ⊎ NotAfter h g
          go (inl l) = inr (first (larger (sym p) l))
          go (inr l) = inl (larger p (omega (arith, l, n)))

      one : (g.strength ≡ h.strength) ⊎ (g.strength ≢ h.strength) → ListedBefore G g h ⊎ NotAfter h g
      one (inl p) = two p (same_or_not (accounts_held G g) (accounts_held G h))
      one (inr n) = go (less_or_not g.strength h.strength)
        where
          go : (g.strength < h.strength) ⊎ (h.strength ≤ g.strength) → ListedBefore G g h ⊎ NotAfter h g
          go (inl l) = inr (first (stronger l))
          go (inr l) = inl (stronger (omega (arith, l, n)))

  -- ---- the function is the relation

  listed_before_lem : (g h : Group) → listed_before G g h ≡ true → ListedBefore G g h
  listed_before_lem g h t = one (or_cases (ltb h.strength g.strength) _ t)
    where
      two : g.strength ≡ h.strength → (ltb (accounts_held G h) (accounts_held G g) ≡ true) ⊎ ((eqb (accounts_held G g) (accounts_held G h) && ltb (least_link g) (least_link h)) ≡ true) → ListedBefore G g h
      two p (inl c) = larger p (ltb-true (accounts_held G h) (accounts_held G g) c)
      two p (inr c) =
          earlier p
          (eqb-true (accounts_held G g) (accounts_held G h) (and_left (eqb (accounts_held G g) (accounts_held G h)) (ltb (least_link g) (least_link h)) c))
          (ltb-true (least_link g) (least_link h) (and_right (eqb (accounts_held G g) (accounts_held G h)) (ltb (least_link g) (least_link h)) c))

      one : (ltb h.strength g.strength ≡ true)
          ⊎ ((eqb g.strength h.strength && (ltb (accounts_held G h) (accounts_held G g) || (eqb (accounts_held G g) (accounts_held G h) && ltb (least_link g) (least_link h)))) ≡ true)
          → ListedBefore G g h
      one (inl c) = stronger (ltb-true h.strength g.strength c)
      one (inr c) =
          two (eqb-true g.strength h.strength (and_left (eqb g.strength h.strength) _ c))
          (or_cases (ltb (accounts_held G h) (accounts_held G g)) _ (and_right (eqb g.strength h.strength) _ c))

  before_listed : (g h : Group) → ListedBefore G g h → listed_before G g h ≡ true
  before_listed g h (stronger p) = rw (lt-ltb h.strength g.strength p) refl
  before_listed g h (larger p q) =
      rw (le-ltb h.strength g.strength (omega (arith, p)), eq-eqb g.strength h.strength p, lt-ltb (accounts_held G h) (accounts_held G g) q) refl
  before_listed g h (earlier p q r) =
      rw (
        le-ltb h.strength g.strength (omega (arith, p)),
        eq-eqb g.strength h.strength p,
        le-ltb (accounts_held G h) (accounts_held G g) (omega (arith, q)),
        eq-eqb (accounts_held G g) (accounts_held G h) q,
        lt-ltb (least_link g) (least_link h) r,
      ) refl

  not_listed : (g h : Group) → listed_before G g h ≡ false → NotAfter h g
  not_listed g h f = go (either g h)
    where
      go : ListedBefore G g h ⊎ NotAfter h g → NotAfter h g
      go (inl p) = absurd (true_not_false (before_listed g h p) f)
      go (inr p) = p

  -- ---- stored groups: no two have the same strength and least link

  apart : (i j : ℕ) → i < group_count G → j < group_count G → i ≢ j → (stored G i).strength ≡ (stored G j).strength → least_link (stored G i) ≡ least_link (stored G j) → ⊥
  apart i j li lj n p q = go (less_or_not i j)
    where
      clash : {g h : Group} → Before g h → g.strength ≡ h.strength → least_link g ≡ least_link h → ⊥
      clash (Rattle.laws.proofs.GroupOrder.stronger a) p q = omega arith
      clash (Rattle.laws.proofs.GroupOrder.earlier a b) p q = omega arith

      go : (i < j) ⊎ (j ≤ i) → ⊥
      go (inl l) = clash (sorted_at Before no_such_group (groups G) (groups-sorted G) i j l lj) p q
      go (inr l) = clash (sorted_at Before no_such_group (groups G) (groups-sorted G) j i (omega (arith, l, n)) li) (sym p) (sym q)

  total : (i j : ℕ) → i < group_count G → j < group_count G → i ≢ j → ListedBefore G (stored G i) (stored G j) ⊎ ListedBefore G (stored G j) (stored G i)
  total i j li lj n = go (either (stored G i) (stored G j))
    where
      go : ListedBefore G (stored G i) (stored G j) ⊎ NotAfter (stored G j) (stored G i) → ListedBefore G (stored G i) (stored G j) ⊎ ListedBefore G (stored G j) (stored G i)
      go (inl p) = inl p
      go (inr (first p)) = inr p
      go (inr (tied p q r)) = absurd (apart i j li lj n (sym p) (sym r))

  -- ---- rows of numbers

  abbrev order : ℕ → ℕ → Bool
  order i j = listed_before G (stored G i) (stored G j)

  abbrev pub Earlier : ℕ → ℕ → Type 0
  Earlier i j = ListedBefore G (stored G i) (stored G j)

  strict : (is : List ℕ) → ((i : ℕ) → In i is → i < group_count G) → Distinct is → Sorted (λ (i j : ℕ). NotAfter (stored G i) (stored G j)) is → Sorted Earlier is
  strict [] few d s = tt
  strict (i ∷ is) few d s = (λ j m. at j m (s.0 j m), strict is (λ j m. few j (there m)) d.1 s.1)
    where
      at : (j : ℕ) → In j is → NotAfter (stored G i) (stored G j) → Earlier i j
      at j m (first p) = p
      at j m (tied p q r) = absurd (apart i j (few i (here refl)) (few j (there m)) (d.0 j m) p r)

  sorted-order : (is : List ℕ) → Sorted Earlier is → InOrder G is
  sorted-order [] s = nothing
  sorted-order (i ∷ is) s = and_first s.0 (sorted-order is s.1)

  order-sorted : {is : List ℕ} → InOrder G is → Sorted Earlier is
  order-sorted nothing = tt
  order-sorted (and_first f o) = (f, order-sorted o)

  different : (is : List ℕ) → Sorted Earlier is → Distinct is
  different [] s = tt
  different (i ∷ is) s = (λ j m q. let p = s.0 j m in one_way (stored G i) (stored G j) p (subst (λ (x : ℕ). Earlier x i) q (subst (Earlier i) (sym q) p)), different is s.1)

  -- ---- "The count and the set of groups are those of before", in order

  pub listed_is : (is : List ℕ) → ((i : ℕ) → In i is → i < group_count G) → Distinct is → IsListed G is (listed G is)
  unfolding listed
  listed_is is few d = record {
    same = λ i. ((λ m. sort_in order is m), (λ m. in_sort order is m));
    count = sort-length order is;
    in_order = sorted-order (sort order is)
        (strict (sort order is) (λ i m. few i (sort_in order is m)) (sort-distinct order is d)
        (sort_sorted order (λ (i j : ℕ). NotAfter (stored G i) (stored G j)) (λ i j k p q. not_after_trans (stored G i) (stored G j) (stored G k) p q)
        (λ i j t. first (listed_before_lem (stored G i) (stored G j) t)) (λ i j f. not_listed (stored G i) (stored G j) f) is));
  }

  pub listed_only : (is js js' : List ℕ) → IsListed G is js → ((i : ℕ) → In i js' ↔ In i is) → InOrder G js' → js ≡ js'
  listed_only is js js' L same o =
      let s = order-sorted L.in_order in
      let s' = order-sorted o in
      sorted_unique Earlier (λ i j p q. absurd (one_way (stored G i) (stored G j) p q)) js js' s s' (different js s) (different js' s')
      (λ i m. (same i).1 ((L.same i).0 m)) (λ i m. (L.same i).1 ((same i).0 m))

  -- what has the same groups, each before all that come after it, is what is listed
  pub listed_unique : (is js : List ℕ) → ((i : ℕ) → In i is → i < group_count G) → Distinct is → ((i : ℕ) → In i js ↔ In i is) → Sorted Earlier js → listed G is ≡ js
  listed_unique is js few d same s = listed_only is (listed G is) js (listed_is is few d) same (sorted-order js s)

-- ---- the groups that C, D and E mean

numbers_distinct : (p : Group → Bool) (gs : List Group) → Distinct (numbers_of p gs)
unfolding numbers_of
numbers_distinct p gs = filter-sorted (λ (i j : ℕ). i ≢ j) (λ (i : ℕ). p (get_or gs i empty_group)) (range 0 (length gs)) (range-distinct 0 (length gs))

-- they are stored groups, none twice
module _ (G : Graph) where
  numbers_listed : (p : Group → Bool) → IsListed G (numbers_of p (groups G)) (listed G (numbers_of p (groups G)))
  numbers_listed p = listed_is G (numbers_of p (groups G)) (λ i m. (numbers_in p (groups G) m).0) (numbers_distinct p (groups G))

  means_listed : {q : Question} {is : List ℕ} → Means G q is → IsListed G is (listed G is)
  unfolding groups_holding strongest_holding all_holding
  means_listed (means_C {k} {named} c i l) = numbers_listed (λ (g : Group). is_group_at G k g && holds_all G (accounts_in named) g)
  means_listed (means_D {named} c i) =
      numbers_listed (λ (g : Group). holds_all G (accounts_in named) g && all (λ (o : Group). not (holds_all G (accounts_in named) o) || leb o.strength g.strength) (groups G))
  means_listed (means_E {named} c i) = numbers_listed (holds_all G (accounts_in named))

  means_answer : {q : Question} {is : List ℕ} → Means G q is → answer G q ≡ passed (numbers (listed G is))
  unfolding answer
  means_answer (means_C {k} {named} c i l) = rw (well_counted named c, all_inside G (accounts_in named) i, is_level k l) refl
  means_answer (means_D {named} c i) = rw (well_counted named c, all_inside G (accounts_in named) i) refl
  means_answer (means_E {named} c i) = rw (well_counted named c, all_inside G (accounts_in named) i) refl

  faulty_answer : {q : Question} {r : ℕ} → FirstFault G q r → answer G q ≡ refuse r 0
  unfolding answer
  faulty_answer (C_count {k} {named} c) = rw (ill_counted named c) refl
  faulty_answer (C_outside {k} {named} c i) = rw (well_counted named c, not_inside G (accounts_in named) i) refl
  faulty_answer (C_level {k} {named} c i l) = rw (well_counted named c, all_inside G (accounts_in named) i, no_level k l) refl
  faulty_answer (D_count {named} c) = rw (ill_counted named c) refl
  faulty_answer (D_outside {named} c i) = rw (well_counted named c, not_inside G (accounts_in named) i) refl
  faulty_answer (E_count {named} c) = rw (ill_counted named c) refl
  faulty_answer (E_outside {named} c i) = rw (well_counted named c, not_inside G (accounts_in named) i) refl

-- ---- the whole call

module _ (bytes : List ℕ) (G : Graph) (q : Question) (h : read_index bytes ≡ passed G) where
  lists : (is : List ℕ) → answer G q ≡ passed (numbers is) → Lists bytes q is
  unfolding ask settle checked_answer and_then answer_bytes answer_value answer_second
  lists is e = record {
    fits = λ buffer w tallies l room.
        let whole : ask bytes q buffer w tallies ≡ settle (passed (numbers is)) buffer w tallies
        = rw (lt-leb windows w l, h, and_then, e, and_then, le-ltb (length buffer) (length (answer_bytes (numbers is))) (omega (arith, room, answer-length is))) refl in
        whole
        ∙ (λ i. record {
          reply = done (answer-length is i);
          buffer = answer_bytes (numbers is) ++ drop (answer-length is i) buffer;
          tallies = set tallies w (next_tally (get_or tallies w 0));
        });
    short = λ buffer w tallies l room.
        rw (lt-leb windows w l, h, and_then, e, and_then, lt-ltb (length buffer) (length (answer_bytes (numbers is))) (omega (arith, room, answer-length is)), settle) refl;
  }

pub order_rule : OrderRule
order_rule = record {
  total = total;
  one_way = one_way;
  onward = onward;
  gives = λ bytes G q is h m. (listed G is, means_listed G m, lists bytes G q h (listed G is) (means_answer G m));
  only = listed_only;
  refuses = λ bytes G q r h f. ask_refused bytes G q r h (faulty_answer G f);
}

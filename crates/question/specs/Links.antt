-- Questions on links: A, B and F. Assumes nothing.
use Rattle.std.specs.Int.{from_bool}
use Rattle.std.specs.Prelude.{Result, Ok, Option, Some, None, ◌≡◌, ◌⊎◌, ◌≢◌, Bool, false, ◌&&◌, ℕ, ◌+◌, ◌*◌, ◌≤◌, ◌<◌, eqb, leb, length}
use Rattle.std.proofs.Math.Path.{refl, sym, ap}
use Rattle.std.proofs.Common.{ap₂, ◌∙◌, inl, inr, arith}
use Rattle.std.proofs.Math.Bool.{true}
use mathlib.Core.List.{List}
use mathlib.Core.List.Memᴰ.{not-nil as in-nil}
use mathlib.Core.List.{Memᴰ as In}
use Rattle.std.proofs.Math.Nat.{le_antisymm}
use borrow.Author.Tests.{le-leb, leb-true, eq-eqb, ne_eqb}
use Rattle.truss.specs.Limits.{min_strength, max_strength, min_level, no_group, max_accounts, max_links}
use Rattle.truss.specs.Lists.{any, filter, range, largest}
use Rattle.truss.specs.Graph.{Graph, Link, link, link_at, link_number, member}
use Rattle.truss.specs.Strength.{strength, strength_bound}
use Rattle.truss.specs.Support.{support_at}
use Rattle.truss.specs.Forest.{same_component}
use Rattle.truss.specs.Group.{group_at, groups, group_of, labels_at}
use Rattle.truss.specs.Question.{Question, joined_up_to, ask_strength}
use Rattle.laws.proofs.Lists.{test, true_not_false, both, and_left, and_right, largest-max, largest_passes}
use Rattle.laws.proofs.Numbers.{same_or_not, less_or_not}
use Rattle.laws.proofs.Members.{in_any, link_of_number, filter_in, in_filter, filter_none, in_range}
use Rattle.laws.proofs.Sets.{any_number}
use Rattle.laws.proofs.Proper.{Proper}
use Rattle.laws.proofs.Peeling.{strength_at_most}
use Rattle.laws.proofs.Support.{strength-answer}
use Rattle.laws.proofs.Groups.{size, strength_at, group_at_eq, group_at-none, group_self, group_strong}
use Rattle.limits.specs.declared.Strength.{Strength}
use Rattle.limits.specs.Range.{strength_of}
use Rattle.limits.specs.declared.refusal.Refusal.{Refusal}
use Rattle.columns.specs.Columns.{cell, store, COLUMNS}
use Rattle.columns.specs.Laws.{upd_store, length-store}
use Rattle.wire.specs.Writing.{Tells, tells_yes, tells_no, tells_both}
use Rattle.index.specs.declared.answers.Answered.{Answered}
use Rattle.stored.specs.Rows.{graph_in, IsIndex, Shape, proper, fits_groups, few, few_links, few_accounts, strength-range}
use Rattle.stored.specs.Climb.{same_group, group_some, group_same}
use Rattle.holding.specs.Marks.{Marks}
use Rattle.question.specs.Replies.{Answers, answer_two}
use Rattle.ordering.specs.Rows.{marked}
use Rattle.question.specs.Lists.{marked_are}

-- a result that leaves the buffer, whatever it holds
abbrev pub NumberGives : Graph → Question → Result Answered Refusal → Type 0
NumberGives G q r = (out : List ℕ) → Answers G q out r out

-- the two numbers of link e
abbrev pub firmness : Graph → ℕ → Answered
firmness G e = record { value = strength_at G e; second = support_at G (strength_at G e) (link_at G e) }

abbrev pub FirmnessGives : Graph → ℕ → Result Answered Refusal → Type 0
FirmnessGives G e r = r ≡ Ok (firmness G e)

-- ---- a link by its number

-- a strength's number, which every link of an index has
pub known_strength : {x : ℕ} {k : Strength} → strength_of x ≡ Some k → (min_strength ≤ x) × (x ≤ max_strength) → k.0 ≡ x
unfolding strength_of
known_strength {x} {k} q (a, c) = let e : Some (record { 0 = x }) ≡ Some k = sym (rw (le-leb min_strength x a, le-leb x max_strength c) refl) ∙ q in let s : ◌≡◌ {A = Strength} (record { 0 = x }) k = cc in sym (ap (λ (y : Strength). y.0) s)

pub no_strength : {x : ℕ} → strength_of x ≡ None → (min_strength ≤ x) × (x ≤ max_strength) → ⊥
unfolding strength_of
no_strength {x} q (a, c) = let e : ◌≡◌ {A = Option Strength} (Some (record { 0 = x })) None = sym (rw (le-leb min_strength x a, le-leb x max_strength c) refl) ∙ q in let z : ◌≡◌ {A = ℕ} 0 1 = cc in omega arith

pub strength_known : {b : List ℕ} → IsIndex b → {i x : ℕ} → i < size (graph_in b) → x ≡ strength_at (graph_in b) i → (min_strength ≤ x) × (x ≤ max_strength)
strength_known I {i} l q = let r = strength-range I i l in (omega (arith, q, r.0), omega (arith, q, r.1))

-- ---- A

pub firmness_known : {b : List ℕ} → IsIndex b → {e s x y : ℕ} {k : Strength} → e < size (graph_in b) → s ≡ strength_at (graph_in b) e → strength_of s ≡ Some k
    → y ≡ k.0 → x ≡ support_at (graph_in b) s (link_at (graph_in b) e) → FirmnessGives (graph_in b) e (Ok (record { value = y; second = x }))
firmness_known {b} I {e} l q h v u =
    ap₂ {C = Result Answered Refusal} (λ (y x : ℕ). Ok (record { value = y; second = x })) (v ∙ known_strength h (strength_known I l q) ∙ q) (u ∙ ap (λ (s : ℕ). support_at (graph_in b) s (link_at (graph_in b) e)) q)

-- the link that was looked up
pub A_found : {G : Graph} (a b : ℕ) {e : ℕ} {r : Result Answered Refusal} → Proper G → member G.links (link a b) ≡ true → e ≡ link_number G (link a b) → FirmnessGives G e r → NumberGives G (ask_strength a b) r
A_found {G} a b {e} {r} P there q f = λ out. rw (f ∙ ap (λ (g : Link). Ok (record { value = strength G g; second = support_at G (strength G g) g })) at) (answer_two G (ask_strength a b) out (strength-answer G a b P there))
  where
    at : link_at G e ≡ link a b
    at = ap (link_at G) q ∙ link_of_number G (link a b) there

-- ---- links of one group

module _ {b : List ℕ} (I : IsIndex b) {k i j : ℕ} (level : min_level ≤ k) (li : i < size (graph_in b)) (lj : j < size (graph_in b)) where
  abbrev G : Graph
  G = graph_in b

  -- whether j is in the group at k with i, by the numbers of both groups
  pub not_in_none : {g : ℕ} → g ≡ group_of G (groups G) k i → g ≡ no_group → ¬ (In j (group_at G k i))
  not_in_none q e m = group_some G (proper I) (fits_groups I) k i j level li lj m (sym q ∙ e)

  pub not_in_other : {g h : ℕ} → g ≡ group_of G (groups G) k i → h ≡ group_of G (groups G) k j → h ≢ g → ¬ (In j (group_at G k i))
  not_in_other q r n m = n (r ∙ same_group G (proper I) (fits_groups I) k i j level li lj m ∙ sym q)

  pub in_same : {g h : ℕ} → g ≡ group_of G (groups G) k i → h ≡ group_of G (groups G) k j → g ≢ no_group → h ≡ g → In j (group_at G k i)
  in_same q r n e = group_same G (proper I) (fits_groups I) k i j level li lj (sym r ∙ e ∙ q) (λ z. n (q ∙ z))

  any_false : ¬ (In j (group_at G k i)) → any (eqb j) (group_at G k i) ≡ false
  any_false n = go (test (any (eqb j) (group_at G k i)))
    where
      go : (any (eqb j) (group_at G k i) ≡ true) ⊎ (any (eqb j) (group_at G k i) ≡ false) → any (eqb j) (group_at G k i) ≡ false
      go (inl t) = absurd (n (any_number j (group_at G k i) t))
      go (inr f) = f

  pub joined_by : {g h : ℕ} → k ≤ strength_at G i → g ≡ group_of G (groups G) k i → h ≡ group_of G (groups G) k j → eqb g h ≡ any (eqb j) (group_at G k i)
  joined_by {g} {h} s q r = go (same_or_not g h)
    where
      n : g ≢ no_group
      n e = group_some G (proper I) (fits_groups I) k i i level li li (group_self G k i li s) (sym q ∙ e)

      go : (g ≡ h) ⊎ (g ≢ h) → eqb g h ≡ any (eqb j) (group_at G k i)
      go (inl e) = eq-eqb g h e ∙ sym (in_any (eqb j) (group_at G k i) (in_same q r n (sym e)) (eq-eqb j j refl))
      go (inr ne) = ne_eqb g h ne ∙ sym (any_false (not_in_other q r (λ e. ne (sym e))))

-- the largest level, from above: none from k on
abbrev pub NoneFrom : Graph → ℕ → ℕ → ℕ → Type 0
NoneFrom G e f k = (j : ℕ) → k ≤ j → any (eqb f) (group_at G j e) ≡ false

module _ (G : Graph) (e f : ℕ) where
  pub none_from_start : {s : ℕ} → s ≡ strength_at G e → NoneFrom G e f (s + 1)
  unfolding any
  none_from_start q j l = ap (any (eqb f)) (group_at-none G j e (omega (arith, q, l)))

  pub none_from_more : {h k : ℕ} {t : Bool} → h ≡ k + 1 → NoneFrom G e f h → t ≡ any (eqb f) (group_at G k e) → t ≡ false → NoneFrom G e f k
  none_from_more {h} {k} s N q z j l = go (same_or_not j k)
    where
      go : (j ≡ k) ⊎ (j ≢ k) → any (eqb f) (group_at G j e) ≡ false
      go (inl s) = rw s (sym q ∙ z)
      go (inr n) = N j (omega (arith, l, n, s))

module _ (G : Graph) (x y : Link) (mx : member G.links x ≡ true) {e f : ℕ} (qe : e ≡ link_number G x) (qf : f ≡ link_number G y) where
  p : ℕ → Bool
  p k = leb min_level k && any (eqb (link_number G y)) (group_at G k (link_number G x))

  any_same : (k : ℕ) → any (eqb f) (group_at G k e) ≡ any (eqb (link_number G y)) (group_at G k (link_number G x))
  any_same k = ap₂ (λ (u v : ℕ). any (eqb u) (group_at G k v)) qf qe

  pub joined_found : {h k : ℕ} {t : Bool} → h ≡ k + 1 → min_level ≤ k → NoneFrom G e f h → t ≡ any (eqb f) (group_at G k e) → t ≡ true → k ≡ joined_up_to G x y
  unfolding joined_up_to p
  joined_found {h} {k} s l N q z = le_antisymm low high
    where
      here : any (eqb f) (group_at G k e) ≡ true
      here = sym q ∙ z

      strong : k ≤ strength_at G e
      strong = group_strong G k e (any_number f (group_at G k e) here)

      low : k ≤ largest p (strength_bound G)
      low = largest-max p (strength_bound G) k (omega (arith, strong, strength_at_most G (link_at G e))) (both (le-leb min_level k l) (sym (any_same k) ∙ here))

      high : largest p (strength_bound G) ≤ k
      high = go (less_or_not k (largest p (strength_bound G)))
        where
          go : (k < largest p (strength_bound G)) ⊎ (largest p (strength_bound G) ≤ k) → largest p (strength_bound G) ≤ k
          go (inl m) =
              let t = largest_passes p (strength_bound G) (omega arith) in
              absurd (true_not_false (any_same (largest p (strength_bound G)) ∙ and_right (leb min_level (largest p (strength_bound G))) _ t) (N (largest p (strength_bound G)) (omega (arith, m, s))))
          go (inr m) = m

  pub joined_nowhere : {k : ℕ} → k ≤ min_level → NoneFrom G e f k → 0 ≡ joined_up_to G x y
  unfolding joined_up_to p
  joined_nowhere {k} s N = go (less_or_not 0 (largest p (strength_bound G)))
    where
      go : (0 < largest p (strength_bound G)) ⊎ (largest p (strength_bound G) ≤ 0) → 0 ≡ largest p (strength_bound G)
      go (inl h) =
          let t = largest_passes p (strength_bound G) h in
          let v = leb-true min_level (largest p (strength_bound G)) (and_left (leb min_level (largest p (strength_bound G))) _ t) in
          absurd (true_not_false (any_same (largest p (strength_bound G)) ∙ and_right (leb min_level (largest p (strength_bound G))) _ t) (N (largest p (strength_bound G)) (omega (arith, v, s))))
      go (inr h) = omega (arith, h)

-- ---- F

module _ {b : List ℕ} (I : IsIndex b) {k i j : ℕ} (level : min_level ≤ k) (li : i < size (graph_in b)) (lj : j < size (graph_in b)) where
  -- j is in the group at k with i just if the group of i is one, and that of j
  pub in_group : {g : ℕ} {r : Bool} → g ≡ group_of (graph_in b) (groups (graph_in b)) k i → Tells r ((g ≢ no_group) × (g ≡ group_of (graph_in b) (groups (graph_in b)) k j))
      → Tells r (In j (group_at (graph_in b) k i))
  in_group {g} q t = tells_both t (λ p. in_same I level li lj q refl p.0 (sym p.1)) (λ n m. n (some m, same m))
    where
      some : In j (group_at (graph_in b) k i) → g ≢ no_group
      some m e = not_in_none I level li lj q e m

      same : In j (group_at (graph_in b) k i) → g ≡ group_of (graph_in b) (groups (graph_in b)) k j
      same m = go (same_or_not (group_of (graph_in b) (groups (graph_in b)) k j) g)
        where
          go : (group_of (graph_in b) (groups (graph_in b)) k j ≡ g) ⊎ (group_of (graph_in b) (groups (graph_in b)) k j ≢ g) → g ≡ group_of (graph_in b) (groups (graph_in b)) k j
          go (inl e) = sym e
          go (inr n) = absurd (not_in_other I level li lj q refl n m)

-- whether g is a group, and one number
pub same_tells : {g h x : ℕ} → g ≢ no_group → h ≡ x → Tells (eqb g h) ((g ≢ no_group) × (g ≡ x))
same_tells {g} {h} {x} n q = go (same_or_not g h)
  where
    go : (g ≡ h) ⊎ (g ≢ h) → Tells (eqb g h) ((g ≢ no_group) × (g ≡ x))
    go (inl e) = rw (eq-eqb g h e) (tells_yes (n, e ∙ q))
    go (inr ne) = rw (ne_eqb g h ne) (tells_no (λ p. ne (p.1 ∙ sym q)))

pub number_of_test : (r : Bool) {x : ℕ} → x ≡ from_bool r → x < 2
number_of_test true q = omega (arith, q)
number_of_test false q = omega (arith, q)

-- the first i links are marked just if they are in the group
pub record Members (G : Graph) (k e m i : ℕ) (w : List ℕ) : Type 0 where
  pub size_is : length w ≡ COLUMNS * m
  pub marks : Marks (cell w m 0) i (λ (j : ℕ). In j (group_at G k e))

pub members_none : {G : Graph} {k e m : ℕ} {w : List ℕ} → length w ≡ COLUMNS * m → Members G k e m 0 w
members_none q = record { size_is = q; marks = record { yes = λ j l. absurd (omega arith); no = λ j l. absurd (omega arith) } }

pub members_more : {G : Graph} {k e m i x : ℕ} {r : Bool} {w w' : List ℕ} → i < m → Members G k e m i w → Tells r (In i (group_at G k e)) → x ≡ from_bool r → w' ≡ store w m 0 i x → Members G k e m (i + 1) w'
members_more {G} {k} {e} {m} {i} {x} {r} {w} {w'} l M T c u = rw u (record {
  size_is = length-store w m 0 i x ∙ M.size_is;
  marks = record { yes = λ j h n. yes j h n (same_or_not j i); no = λ j h z. no j h z (same_or_not j i) };
})
  where
    U : Rattle.columns.specs.Laws.Upd m (cell w m 0) (cell (store w m 0 i x) m 0) i x
    U = upd_store w m 0 i x (omega arith) l M.size_is

    here : x ≢ 0 → In i (group_at G k e)
    here n = go r refl
      where
        go : (t : Bool) → r ≡ t → In i (group_at G k e)
        go true s = T.yes_is s
        go false s = absurd (n (c ∙ rw s refl))

    not_here : x ≡ 0 → ¬ (In i (group_at G k e))
    not_here z = go r refl
      where
        go : (t : Bool) → r ≡ t → ¬ (In i (group_at G k e))
        go true s = let a : x ≡ 1 = c ∙ rw s refl in absurd (omega (arith, a, z))
        go false s = T.no_is s

    yes : (j : ℕ) → j < i + 1 → cell (store w m 0 i x) m 0 j ≢ 0 → (j ≡ i) ⊎ (j ≢ i) → In j (group_at G k e)
    yes j h n (inl s) = rw s (here (λ z. n (ap (cell (store w m 0 i x) m 0) s ∙ U.here ∙ z)))
    yes j h n (inr s) = M.marks.yes j (omega arith) (λ z. n (U.else j (omega arith) s ∙ z))

    no : (j : ℕ) → j < i + 1 → cell (store w m 0 i x) m 0 j ≡ 0 → (j ≡ i) ⊎ (j ≢ i) → ¬ (In j (group_at G k e))
    no j h z (inl s) = rw s (not_here (sym U.here ∙ ap (cell (store w m 0 i x) m 0) (sym s) ∙ z))
    no j h z (inr s) = M.marks.no j (omega arith) (sym (U.else j (omega arith) s) ∙ z)

-- then they are the group
pub members_are : {G : Graph} {k e m : ℕ} {w : List ℕ} → size G ≡ m → Members G k e m m w → marked w m m ≡ group_at G k e
members_are {G} {k} {e} {m} {w} links M = go (less_or_not (strength_at G e) k)
  where
    go : (strength_at G e < k) ⊎ (k ≤ strength_at G e) → marked w m m ≡ group_at G k e
    go (inl weak) =
        marked_are w m m (λ _. false) (record { yes = λ j h n. absurd (in-nil (rw (group_at-none G k e weak) at (M.marks.yes j h n))); no = λ j h z t. true_not_false t refl })
        ∙ filter_none (λ _. false) (range 0 m) (λ j k. refl) ∙ sym (group_at-none G k e weak)
    go (inr strong) =
        marked_are w m m (same_component (labels_at G k) e) (record {
          yes = λ j h n. (filter_in (same_component (labels_at G k) e) (range 0 m) (rw (is) at (M.marks.yes j h n))).1;
          no = λ j h z t. M.marks.no j h z (rw (is) (in_filter (same_component (labels_at G k) e) (range 0 m) (in_range 0 m (omega arith) (omega arith)) t));
        })
        ∙ sym is
      where
        is : group_at G k e ≡ filter (same_component (labels_at G k) e) (range 0 m)
        is = group_at_eq G k e strong ∙ ap (λ (x : ℕ). filter (same_component (labels_at G k) e) (range 0 x)) links

-- ---- what the functions give

pub record JoinedGives (G : Graph) (e f r : ℕ) : Type 0 where
  pub is : (x y : Link) → member G.links x ≡ true → e ≡ link_number G x → f ≡ link_number G y → r ≡ joined_up_to G x y
  pub small : r < 65536

pub shape_few : {b : List ℕ} {n m at count : ℕ} → Shape b n m at count → (count ≤ m) × (m ≤ max_links) × (n ≤ max_accounts)
shape_few S = (
  omega (arith, few S.groups_at_lem.is_index, S.links, S.groups),
  omega (arith, few_links S.groups_at_lem.is_index, S.links),
  omega (arith, few_accounts S.groups_at_lem.is_index, S.accounts),
)

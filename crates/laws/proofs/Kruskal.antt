-- The forest grown from a place in the order of the joins on: a join that closes a ring may be passed, one that does not is taken.
-- A place is written as a join: weight, lower and higher link. `Gone p y`: y stands before p. `Left p y`: it does not.
use mathlib.Core.Path.{◌≡◌, refl, sym, ap, ◌∙◌, subst}
use mathlib.Core.Logic.{◌⊎◌, inl, inr, ◌≢◌}
use mathlib.Core.Bool.{Bool, true, false, cond, not, ◌&&◌}
use mathlib.Core.List.{List, [], ◌∷◌, ◌++◌, append_assoc, append-nil}
use mathlib.Core.List.Memᴰ.{append_cases as in-append}
use mathlib.Core.List.Memᴰ.{append_left as in_left}
use mathlib.Core.List.Memᴰ.{cases_cons as in-cons}
use mathlib.Core.List.Memᴰ.{head as here}
use mathlib.Core.List.Memᴰ.{not-nil as in-nil}
use mathlib.Core.List.Memᴰ.{tail as there}
use mathlib.Core.List.{Memᴰ as In}
use Prim.Native.Nat.{ℕ, suc, ◌+◌, ◌≤◌, ◌<◌}
use native.Mathlib.Nat.{le_refl, le_trans}
use native.Mathlib.Omega.{arith}
use lib.Dec.{eqb, leb, ltb}
use lib.ListN.{length, length-append}
use borrow.Author.Tests.{eqb-true, eqb-false, ltb-true, ltb-false, ne_eqb, le-leb, lt-leb}
use Rattle.truss.specs.Lists.{count, filter, concat_map}
use Rattle.truss.specs.Graph.{Graph, triangles}
use Rattle.truss.specs.Forest.{Join, join_before, triangle_joins, all_joins, singletons, merge, same_component, kruskal, components, forest}
use Rattle.truss.specs.Group.{labels_at}
use Rattle.laws.proofs.Lists.{test, true_not_false, and_left, count_mono}
use Rattle.laws.proofs.Members.{Sorted, sort_sorted, filter_none, filter_in}
use Rattle.laws.proofs.Sets.{filter_same}
use Rattle.laws.proofs.Ordering.{Distinct}
use Rattle.laws.proofs.JoinOrder.{joins_distinct}
use Rattle.laws.proofs.Components.{label, Same, same_same_component, merge_keeps, merge-ends, heavy, kruskal_in}
use Rattle.laws.proofs.Connected.{forest-labels}
use Rattle.laws.proofs.Groups.{size, strength_at}
use Rattle.laws.proofs.Size.{forest-size, root, singletons-roots, singletons-own, roots_of, Within, Spanned, spanned, one-root}
use Rattle.laws.proofs.Sides.{InOrder, links_distinct, join_strong}

-- ---- places

pub data Gone (p y : Join) : Type 0 where
  heavier : p.weight < y.weight → Gone p y
  earlier : y.weight ≡ p.weight → y.lower < p.lower → Gone p y
  passed : y.weight ≡ p.weight → y.lower ≡ p.lower → y.higher < p.higher → Gone p y

pub data Left (p y : Join) : Type 0 where
  lighter : y.weight < p.weight → Left p y
  later : y.weight ≡ p.weight → p.lower < y.lower → Left p y
  reached : y.weight ≡ p.weight → y.lower ≡ p.lower → p.higher ≤ y.higher → Left p y

abbrev pub spot : ℕ → ℕ → ℕ → Join
spot k e h = record { lower = e; higher = h; weight = k }

-- the joins from p on
abbrev pub from : Join → Join → Bool
from p y = not (join_before y p)

Where : Join → Join → Type 0
Where p y = ((join_before y p ≡ true) × Gone p y) ⊎ ((join_before y p ≡ false) × Left p y)

whereis : (p y : Join) → Where p y
unfolding Where
whereis p y = go (test (ltb p.weight y.weight)) (test (eqb y.weight p.weight)) (test (ltb y.lower p.lower)) (test (eqb y.lower p.lower)) (test (ltb y.higher p.higher))
  where
    go : (ltb p.weight y.weight ≡ true) ⊎ (ltb p.weight y.weight ≡ false) → (eqb y.weight p.weight ≡ true) ⊎ (eqb y.weight p.weight ≡ false)
        → (ltb y.lower p.lower ≡ true) ⊎ (ltb y.lower p.lower ≡ false) → (eqb y.lower p.lower ≡ true) ⊎ (eqb y.lower p.lower ≡ false)
        → (ltb y.higher p.higher ≡ true) ⊎ (ltb y.higher p.higher ≡ false) → Where p y
    go (inl a) b c d e = inl (rw a, heavier (ltb-true p.weight y.weight a))
    go (inr a) (inr b) c d e =
        let ne : y.weight ≢ p.weight = eqb-false y.weight p.weight b in
        inr (rw (a, b), lighter (omega (arith, ne, ltb-false p.weight y.weight a)))
    go (inr a) (inl b) (inl c) d e = inl (rw (a, b, c), earlier (eqb-true y.weight p.weight b) (ltb-true y.lower p.lower c))
    go (inr a) (inl b) (inr c) (inr d) e =
        let ne : y.lower ≢ p.lower = eqb-false y.lower p.lower d in
        inr (rw (a, b, c, d), later (eqb-true y.weight p.weight b) (omega (arith, ne, ltb-false y.lower p.lower c)))
    go (inr a) (inl b) (inr c) (inl d) (inl e) =
        inl (rw (a, b, c, d, e), passed (eqb-true y.weight p.weight b) (eqb-true y.lower p.lower d) (ltb-true y.higher p.higher e))
    go (inr a) (inl b) (inr c) (inl d) (inr e) =
        inr (rw (a, b, c, d, e), reached (eqb-true y.weight p.weight b) (eqb-true y.lower p.lower d) (ltb-false y.higher p.higher e))

pub gone_or_left : (p y : Join) → Gone p y ⊎ Left p y
unfolding Where
gone_or_left p y = go (whereis p y)
  where
    go : ((join_before y p ≡ true) × Gone p y) ⊎ ((join_before y p ≡ false) × Left p y) → Gone p y ⊎ Left p y
    go (inl r) = inl r.1
    go (inr r) = inr r.1

pub not_both : {p y : Join} → Gone p y → Left p y → ⊥
not_both (heavier a) (lighter b) = omega arith
not_both (heavier a) (later b c) = omega arith
not_both (heavier a) (reached b c d) = omega arith
not_both (earlier a c) (lighter b) = omega arith
not_both (earlier a c) (later b d) = omega arith
not_both (earlier a c) (reached b d e) = omega arith
not_both (passed a b c) (lighter d) = omega arith
not_both (passed a b c) (later d e) = omega arith
not_both (passed a b c) (reached d e f) = omega arith

from_left : (p y : Join) → from p y ≡ true → Left p y
unfolding Where
from_left p y h = go (whereis p y)
  where
    go : ((join_before y p ≡ true) × Gone p y) ⊎ ((join_before y p ≡ false) × Left p y) → Left p y
    go (inl r) = absurd (true_not_false h (rw r.0))
    go (inr r) = r.1

from_gone : (p y : Join) → from p y ≡ false → Gone p y
unfolding Where
from_gone p y h = go (whereis p y)
  where
    go : ((join_before y p ≡ true) × Gone p y) ⊎ ((join_before y p ≡ false) × Left p y) → Gone p y
    go (inl r) = r.1
    go (inr r) = absurd (true_not_false (rw r.0) h)

left_from : (p y : Join) → Left p y → from p y ≡ true
unfolding Where
left_from p y h = go (whereis p y)
  where
    go : ((join_before y p ≡ true) × Gone p y) ⊎ ((join_before y p ≡ false) × Left p y) → from p y ≡ true
    go (inl r) = absurd (not_both r.1 h)
    go (inr r) = rw r.0

gone_from : (p y : Join) → Gone p y → from p y ≡ false
unfolding Where
gone_from p y h = go (whereis p y)
  where
    go : ((join_before y p ≡ true) × Gone p y) ⊎ ((join_before y p ≡ false) × Left p y) → from p y ≡ false
    go (inl r) = rw r.0
    go (inr r) = absurd (not_both h r.1)

-- ---- the joins in order

left_trans : (x y z : Join) → Left x y → Left y z → Left x z
left_trans x y z (lighter a) (lighter b) = lighter (omega arith)
left_trans x y z (lighter a) (later b c) = lighter (omega arith)
left_trans x y z (lighter a) (reached b c d) = lighter (omega arith)
left_trans x y z (later a b) (lighter c) = lighter (omega arith)
left_trans x y z (later a b) (later c d) = later (c ∙ a) (omega arith)
left_trans x y z (later a b) (reached c d e) = later (c ∙ a) (omega arith)
left_trans x y z (reached a b c) (lighter d) = lighter (omega arith)
left_trans x y z (reached a b c) (later d e) = later (d ∙ a) (omega arith)
left_trans x y z (reached a b c) (reached d e f) = reached (d ∙ a) (e ∙ b) (le_trans c f)

gone_left : {x y : Join} → Gone y x → Left x y
gone_left (heavier a) = lighter a
gone_left (earlier a b) = later (sym a) b
gone_left (passed a b c) = reached (sym a) (sym b) (omega arith)

-- of two different joins the later stands after the earlier
left_gone : {x y : Join} → Left x y → x ≢ y → Gone y x
left_gone (lighter a) n = heavier a
left_gone (later a b) n = earlier (sym a) b
left_gone {x} {y} (reached a b c) n = passed (sym a) (sym b) (at (test (eqb x.higher y.higher)))
  where
    at : (eqb x.higher y.higher ≡ true) ⊎ (eqb x.higher y.higher ≡ false) → x.higher < y.higher
    at (inl d) = let q = eqb-true x.higher y.higher d in let a' = sym a in let b' = sym b in absurd (n (λ t. record { lower = b' t; higher = q t; weight = a' t }))
    at (inr d) = let ne : x.higher ≢ y.higher = eqb-false x.higher y.higher d in omega arith

joins_sorted : (G : Graph) → Sorted Left (all_joins G)
unfolding all_joins Where
joins_sorted G = sort_sorted join_before Left left_trans yes_before no_before (concat_map (triangle_joins G) (triangles G))
  where
    yes_before : (x y : Join) → join_before x y ≡ true → Left x y
    yes_before x y h = go (whereis y x)
      where
        go : ((join_before x y ≡ true) × Gone y x) ⊎ ((join_before x y ≡ false) × Left y x) → Left x y
        go (inl r) = gone_left r.1
        go (inr r) = absurd (true_not_false h r.0)

    no_before : (x y : Join) → join_before x y ≡ false → Left y x
    no_before x y h = go (whereis y x)
      where
        go : ((join_before x y ≡ true) × Gone y x) ⊎ ((join_before x y ≡ false) × Left y x) → Left y x
        go (inl r) = absurd (true_not_false r.0 h)
        go (inr r) = r.1

-- the place just after a join
abbrev pub next : Join → Join
next x = record { lower = x.lower; higher = suc x.higher; weight = x.weight }

next_left : (x z : Join) → Left x z → z ≢ x → Left (next x) z
next_left x z (lighter a) n = lighter a
next_left x z (later a b) n = later a b
next_left x z (reached a b c) n = at (left_gone {x = x} {y = z} (reached a b c) (λ q. n (sym q)))
  where
    at : Gone z x → Left (next x) z
    at (heavier d) = absurd (omega arith)
    at (earlier d e) = absurd (omega arith)
    at (passed d e f) = reached a b f

next_gone : (x z : Join) → Gone x z → Gone (next x) z
next_gone x z (heavier a) = heavier a
next_gone x z (earlier a b) = earlier a b
next_gone x z (passed a b c) = passed a b (omega arith)

-- what is gone after x is x or was gone before
pub gone_next : (x z : Join) → Gone (next x) z → Gone x z ⊎ (z ≡ x)
gone_next x z h = go (gone_or_left x z) (test (eqb z.higher x.higher))
  where
    at : Gone (next x) z → Left x z → z ≡ x
    at (heavier a) l = absurd (not_both {p = x} {y = z} (heavier a) l)
    at (earlier a b) l = absurd (not_both {p = x} {y = z} (earlier a b) l)
    at (passed a b c) (lighter d) = absurd (omega arith)
    at (passed a b c) (later d e) = absurd (omega arith)
    at (passed a b c) (reached d e f) = let q : z.higher ≡ x.higher = omega arith in λ t. record { lower = b t; higher = q t; weight = a t }

    go : Gone x z ⊎ Left x z → (eqb z.higher x.higher ≡ true) ⊎ (eqb z.higher x.higher ≡ false) → Gone x z ⊎ (z ≡ x)
    go (inl g) t = inl g
    go (inr l) t = inr (at h l)

keep-take : (x : Join) (xs : List Join) → Sorted Left xs → Distinct xs → In x xs → filter (from x) xs ≡ x ∷ filter (from (next x)) xs
unfolding filter
keep-take x [] s d m = absurd (in-nil m)
keep-take x (y ∷ ys) s d m = go (in-cons m) (λ k. keep-take x ys s.1 d.1 k)
  where
    same : x ≡ y → (z : Join) → In z ys → from x z ≡ from (next x) z
    same q z mz = at (gone_or_left x z)
      where
        at : Gone x z ⊎ Left x z → from x z ≡ from (next x) z
        at (inl g) = gone_from x z g ∙ sym (gone_from (next x) z (next_gone x z g))
        at (inr l) = left_from x z l ∙ sym (left_from (next x) z (next_left x z l (λ r. d.0 z mz (sym q ∙ sym r))))

    go : (x ≡ y) ⊎ In x ys → (In x ys → filter (from x) ys ≡ x ∷ filter (from (next x)) ys)
        → cond (from x y) (y ∷ filter (from x) ys) (filter (from x) ys) ≡ x ∷ cond (from (next x) y) (y ∷ filter (from (next x)) ys) (filter (from (next x)) ys)
    go (inl q) ih =
        let a : from x y ≡ true = left_from x y (rw (sym q) (reached refl refl (le_refl x.higher))) in
        let b : from (next x) y ≡ false = gone_from (next x) y (rw (sym q) (passed refl refl (le_refl (suc x.higher)))) in
        rw (a, b) (let r = filter_same (from x) (from (next x)) ys (same q) in λ t. sym q t ∷ r t)
    go (inr k) ih =
        let g : Gone x y = left_gone {x = y} {y = x} (s.0 x k) (d.0 x k) in
        rw (gone_from x y g, gone_from (next x) y (next_gone x y g)) (ih k)

-- ---- joins that close rings may be passed

pub grow_skip : (p q : Join → Bool) (xs : List Join) (labels : List ℕ) → ((y : Join) → In y xs → q y ≡ true → p y ≡ true)
    → ((y : Join) → In y xs → p y ≡ true → q y ≡ false → Same labels y.lower y.higher) → kruskal labels (filter p xs) ≡ kruskal labels (filter q xs)
unfolding kruskal filter
grow_skip p q [] labels sub ring = refl
grow_skip p q (x ∷ xs) labels sub ring =
    go (p x) refl (q x) refl (same_component labels x.lower x.higher) refl
    (grow_skip p q xs labels (λ y m. sub y (there m)) (λ y m. ring y (there m)))
    (grow_skip p q xs next-labels (λ y m. sub y (there m)) (λ y m h n. merge_keeps x.lower x.higher labels y.lower y.higher (ring y (there m) h n)))
  where
    next-labels : List ℕ
    next-labels = merge x.lower x.higher labels

    go : (a : Bool) → p x ≡ a → (b : Bool) → q x ≡ b → (t : Bool) → same_component labels x.lower x.higher ≡ t
        → kruskal labels (filter p xs) ≡ kruskal labels (filter q xs) → kruskal next-labels (filter p xs) ≡ kruskal next-labels (filter q xs)
        → kruskal labels (cond (p x) (x ∷ filter p xs) (filter p xs)) ≡ kruskal labels (cond (q x) (x ∷ filter q xs) (filter q xs))
    go true a true b true t ih ih' = rw (a, b, t) ih
    go true a true b false t ih ih' = rw (a, b, t) (ap {B = List Join} (λ r. x ∷ r) ih')
    go true a false b true t ih ih' = rw (a, b, t) ih
    go true a false b false t ih ih' =
        absurd (true_not_false (same_same_component labels x.lower x.higher (ring x (here refl) a b)) t)
    go false a true b t c ih ih' = absurd (true_not_false (sub x (here refl) b) a)
    go false a false b t c ih ih' = rw (a, b) ih

pub components-append : (xs ys : List Join) (labels : List ℕ) → components labels (xs ++ ys) ≡ components (components labels xs) ys
unfolding components
components-append [] ys labels = refl
components-append (x ∷ xs) ys labels = components-append xs ys (merge x.lower x.higher labels)

-- ---- the forest grown so far

-- the components of the joins taken
abbrev pub labels_of : Graph → List Join → List ℕ
labels_of G taken = components (singletons (size G)) taken

-- the joins before p are dealt with
pub record Grown (G : Graph) (p : Join) (taken : List Join) : Type 0 where
  pub whole : taken ++ kruskal (labels_of G taken) (filter (from p) (all_joins G)) ≡ forest G
  pub closed : (y : Join) → In y (all_joins G) → Gone p y → Same (labels_of G taken) y.lower y.higher
  pub heavy : (y : Join) → In y taken → p.weight ≤ y.weight

module _ (G : Graph) where
  -- from a place on, all that is left of the joins
  pub grown_first : (p : Join) → ((y : Join) → In y (all_joins G) → Left p y) → Grown G p []
  unfolding forest components filter
  grown_first p complete = record {
    whole = ap (kruskal (singletons (size G))) (filter-whole (all_joins G) (λ y m. left_from p y (complete y m)));
    closed = λ y m g. absurd (not_both g (complete y m));
    heavy = λ y m. absurd (in-nil m);
  }
    where
      filter-whole : (xs : List Join) → ((y : Join) → In y xs → from p y ≡ true) → filter (from p) xs ≡ xs
      filter-whole [] h = refl
      filter-whole (x ∷ xs) h = rw (h x (here refl)) (ap {B = List Join} (λ r. x ∷ r) (filter-whole xs (λ y m. h y (there m))))

  module _ {p : Join} {taken : List Join} (g : Grown G p taken) where
    -- to a later place, where all joins in between close rings
    pub grown_skip : (q : Join) → q.weight ≤ p.weight → ((y : Join) → In y (all_joins G) → Left q y → Left p y)
        → ((y : Join) → In y (all_joins G) → Left p y → Gone q y → Same (labels_of G taken) y.lower y.higher) → Grown G q taken
    grown_skip q le sub ring = record {
      whole =
          ap (λ (r : List Join). taken ++ r)
          (sym (grow_skip (from p) (from q) (all_joins G) (labels_of G taken) (λ y m h. left_from p y (sub y m (from_left q y h)))
          (λ y m h n. ring y m (from_left p y h) (from_gone q y n))))
          ∙ g.whole;
      closed = λ y m h. at y m h (gone_or_left p y);
      heavy = λ y m. le_trans le (g.heavy y m);
    }
      where
        at : (y : Join) → In y (all_joins G) → Gone q y → Gone p y ⊎ Left p y → Same (labels_of G taken) y.lower y.higher
        at y m h (inl b) = g.closed y m b
        at y m h (inr b) = ring y m b h

    -- a join taken
    module _ (o : InOrder G) (m : In p (all_joins G)) (apart_ends : label (labels_of G taken) p.lower ≢ label (labels_of G taken) p.higher) where
      left_over : List Join
      left_over = filter (from (next p)) (all_joins G)

      merged : labels_of G (taken ++ (p ∷ [])) ≡ merge p.lower p.higher (labels_of G taken)
      unfolding components
      merged = components-append taken (p ∷ []) (singletons (size G))

      step : kruskal (labels_of G taken) (filter (from p) (all_joins G)) ≡ p ∷ kruskal (merge p.lower p.higher (labels_of G taken)) left_over
      unfolding kruskal left_over
      step =
          ap (kruskal (labels_of G taken)) (keep-take p (all_joins G) (joins_sorted G) (joins_distinct G o.proper (links_distinct G o.proper)) m)
          ∙ rw (ne_eqb (label (labels_of G taken) p.lower) (label (labels_of G taken) p.higher) apart_ends)

      pub grown_take : Grown G (next p) (taken ++ (p ∷ []))
      unfolding left_over
      grown_take = record {
        whole =
            append_assoc taken (p ∷ []) (kruskal (labels_of G (taken ++ (p ∷ []))) left_over)
            ∙ ap (λ (l : List ℕ). taken ++ (p ∷ kruskal l left_over)) merged
            ∙ ap (λ (r : List Join). taken ++ r) (sym step) ∙ g.whole;
        closed = λ y my h. subst (λ (l : List ℕ). Same l y.lower y.higher) (sym merged) (at y my (gone_next p y h));
        heavy = λ y my. old y (in-append taken my);
      }
        where
          at : (y : Join) → In y (all_joins G) → Gone p y ⊎ (y ≡ p) → Same (merge p.lower p.higher (labels_of G taken)) y.lower y.higher
          at y my (inl b) = merge_keeps p.lower p.higher (labels_of G taken) y.lower y.higher (g.closed y my b)
          at y my (inr q) = rw q (merge-ends p.lower p.higher (labels_of G taken))

          newest : (y : Join) → (y ≡ p) ⊎ In y [] → p.weight ≤ y.weight
          newest y (inl q) = rw q (le_refl p.weight)
          newest y (inr n) = absurd (in-nil n)

          old : (y : Join) → In y taken ⊎ In y (p ∷ []) → p.weight ≤ y.weight
          old y (inl k) = g.heavy y k
          old y (inr k) = newest y (in-cons k)

      -- there is room for it
      pub room_to_take : 0 < size G → length taken + 1 < size G
      room_to_take pos =
          omega (arith, forest-size G pos, ap length (sym g.whole) ∙ length-append taken (kruskal (labels_of G taken) (filter (from p) (all_joins G))), ap length step)

    -- Once the joins taken are one fewer than the links of strength k or more, these links are one tree: any two are in one component.
    pub grown_tree : InOrder G → (k : ℕ) → k ≤ p.weight → count (λ i. leb k (strength_at G i)) (size G) ≤ length taken + 1
        → (a b : ℕ) → a < size G → b < size G → k ≤ strength_at G a → k ≤ strength_at G b → Same (labels_of G taken) a b
    unfolding forest
    grown_tree o k le few a b la lb ka kb =
        one-root strong (size G) S.roots S.closed (omega (arith, S.sum, few, at_first)) a b la lb (le-leb k (strength_at G a) ka) (le-leb k (strength_at G b) kb)
      where
        strong : ℕ → Bool
        strong i = leb k (strength_at G i)

        rest : List Join
        rest = kruskal (labels_of G taken) (filter (from p) (all_joins G))

        -- a join taken has both ends among these links
        within : (z : Join) → In z taken → Within strong (size G) z
        within z mz =
            let r = join_strong G o (kruskal_in (all_joins G) (singletons (size G)) (subst (In z) g.whole (in_left rest mz))) in
            let h = g.heavy z mz in
            record {
              low_in = r.low_in;
              high_in = r.high_in;
              low_of = le-leb k (strength_at G z.lower) (omega (arith, le, h, r.low_strong));
              high_of = le-leb k (strength_at G z.higher) (omega (arith, le, h, r.high_strong));
            }

        S : Spanned strong (size G) (length taken) (singletons (size G)) (labels_of G taken)
        S = spanned strong (size G) (all_joins G) (singletons (size G)) (singletons-roots (size G)) (λ i l h. rw (singletons-own (size G) i l) h) taken rest g.whole within

        at_first : roots_of strong (singletons (size G)) (size G) ≤ count strong (size G)
        at_first = count_mono (λ i. strong i && root (singletons (size G)) i) strong (size G) (λ i l h. and_left (strong i) _ h)

    -- where nothing is left, all is taken
    pub grown_all : ((y : Join) → In y (all_joins G) → Gone p y) → taken ≡ forest G
    unfolding kruskal
    grown_all none =
        sym (append-nil taken) ∙ ap (λ (xs : List Join). taken ++ kruskal (labels_of G taken) xs) (sym (filter_none (from p) (all_joins G) (λ y m. gone_from p y (none y m))))
        ∙ g.whole

    -- where all of weight k and no lighter are gone, the components are those at k
    pub grown_labels : (k : ℕ) → k ≡ p.weight → ((y : Join) → In y (all_joins G) → Left p y → y.weight < k) → labels_of G taken ≡ labels_at G k
    unfolding filter
    grown_labels k e light =
        ap (components (singletons (size G)))
        (sym (keep-front taken rest heavy-front light_rest) ∙ ap (filter (heavy k)) g.whole)
        ∙ forest-labels G k
      where
        rest : List Join
        rest = kruskal (labels_of G taken) (filter (from p) (all_joins G))

        heavy-front : (y : Join) → In y taken → heavy k y ≡ true
        heavy-front y m = le-leb k y.weight (omega (arith, e, g.heavy y m))

        light_rest : (y : Join) → In y rest → heavy k y ≡ false
        light_rest y m =
            let r = filter_in (from p) (all_joins G) (kruskal_in (filter (from p) (all_joins G)) (labels_of G taken) m) in
            lt-leb k y.weight (light y r.0 (from_left p y r.1))

        keep-front : (xs ys : List Join) → ((y : Join) → In y xs → heavy k y ≡ true) → ((y : Join) → In y ys → heavy k y ≡ false) → filter (heavy k) (xs ++ ys) ≡ xs
        keep-front [] ys a b = filter_none (heavy k) ys b
        keep-front (x ∷ xs) ys a b = rw (a x (here refl)) (ap {B = List Join} (λ r. x ∷ r) (keep-front xs ys (λ y m. a y (there m)) b))

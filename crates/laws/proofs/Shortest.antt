-- Shortest chains of triangles: what `shortest_chain` gives is the one that `IsShortestFirst` describes, and nothing is given only where there is no chain.
use mathlib.Core.Path.{◌≡◌, refl, sym, ap, ◌∙◌, subst}
use mathlib.Core.Logic.{◌⊎◌, inl, inr, ◌↔◌, ◌≢◌}
use mathlib.Core.Bool.{Bool, true, false, cond, not, ◌&&◌, ◌||◌}
use mathlib.Core.List.{List, [], ◌∷◌, map}
use mathlib.Core.List.Memᴰ.{cases_cons as in-cons}
use mathlib.Core.List.Memᴰ.{head as here}
use mathlib.Core.List.Memᴰ.{not-nil as in-nil}
use mathlib.Core.List.Memᴰ.{tail as there}
use mathlib.Core.List.{Memᴰ as In}
use Prim.Native.Nat.{ℕ, zero, suc, ◌+◌, ◌≤◌, ◌<◌}
use native.Mathlib.Nat.{le_antisymm, le_refl}
use native.Mathlib.Omega.{arith}
use lib.Dec.{eqb, ltb, leb}
use lib.ListN.{length, get_or}
use borrow.Author.Tests.{eq-eqb, eqb-true, lt-ltb, le-ltb, ltb-true, le-leb, leb-true, not-true}
use Rattle.truss.specs.Lists.{filter, any, position, range}
use Rattle.truss.specs.Graph.{Link, Graph, Triangle, Has, is_ab, is_ac, is_bc, link, link_before, member, side_ab, side_ac, side_bc, triangles, triangles_on}
use Rattle.truss.specs.Strength.{weight}
use Rattle.truss.specs.Chain.{AtLeast, StrongTriangle, Joined}
use Rattle.truss.specs.Shortest.{IsChain, one_triangle, and_on, triangle_before, same_triangle, chain_before, IsShortestFirst, strong_triangles, sides, touches, starts, walk, fewest_triangles, shortest_chain}
use Rattle.truss.specs.Ways.{FirstHolding}
use Rattle.laws.proofs.Lists.{test, true_not_false, filter-length, both, and_left, and_right, or_cases, or_left_false, or_right_false}
use Rattle.laws.proofs.Numbers.{same_or_not, less_or_not}
use Rattle.laws.proofs.Members.{Sorted, filter_in, in_filter, any_in, in_any, concat_map_in, in_concat_map, map_in, in_range, range_length, range_at, position_lt, position_passes, member_in, in_member}
use Rattle.laws.proofs.Sets.{sorted_of}
use Rattle.laws.proofs.Stored.{filter-sorted}
use Rattle.laws.proofs.Chains.{strong_of_weight, weight_of_strong, in_strong_triangle, joined_first}
use Rattle.laws.proofs.Tree.{strong_down}
use Rattle.laws.proofs.Connected.{triangles_in, in_triangles, has_member}
use Rattle.laws.proofs.Bound.{filter-fewer}
use Rattle.laws.proofs.Groups.{size}
use Rattle.laws.proofs.GroupOrder.{concat_map-sorted, range_rising}
use Rattle.laws.proofs.Sides.{InOrder}

-- ---- the order of triangles and of chains

pub data Earlier (t u : Triangle) : Type 0 where
  by_a : t.a < u.a → Earlier t u
  by_b : t.a ≡ u.a → t.b < u.b → Earlier t u
  by_c : t.a ≡ u.a → t.b ≡ u.b → t.c < u.c → Earlier t u

pub before_asym : (t u : Triangle) → Earlier t u → Earlier u t → ⊥
before_asym t u (by_a p) (by_a q) = omega arith
before_asym t u (by_a p) (by_b q r) = omega arith
before_asym t u (by_a p) (by_c q r s) = omega arith
before_asym t u (by_b p q) (by_a r) = omega arith
before_asym t u (by_b p q) (by_b r s) = omega arith
before_asym t u (by_b p q) (by_c r s v) = omega arith
before_asym t u (by_c p q r) (by_a s) = omega arith
before_asym t u (by_c p q r) (by_b s v) = omega arith
before_asym t u (by_c p q r) (by_c s v w) = omega arith

pub triangle_is : (t u : Triangle) → t.a ≡ u.a → t.b ≡ u.b → t.c ≡ u.c → t ≡ u
triangle_is t u p q r = λ i. record { a = p i; b = q i; c = r i }

pub either_before : (t u : Triangle) → Earlier t u ⊎ (Earlier u t ⊎ (t ≡ u))
either_before t u = one (same_or_not t.a u.a)
  where
    three : t.a ≡ u.a → t.b ≡ u.b → (t.c ≡ u.c) ⊎ (t.c ≢ u.c) → Earlier t u ⊎ (Earlier u t ⊎ (t ≡ u))
    three p q (inl r) = inr (inr (triangle_is t u p q r))
    three p q (inr n) = go (less_or_not t.c u.c)
      where
        go : (t.c < u.c) ⊎ (u.c ≤ t.c) → Earlier t u ⊎ (Earlier u t ⊎ (t ≡ u))
        go (inl l) = inl (by_c p q l)
        go (inr l) = inr (inl (by_c (sym p) (sym q) (omega (arith, l, n))))

    two : t.a ≡ u.a → (t.b ≡ u.b) ⊎ (t.b ≢ u.b) → Earlier t u ⊎ (Earlier u t ⊎ (t ≡ u))
    two p (inl q) = three p q (same_or_not t.c u.c)
    two p (inr n) = go (less_or_not t.b u.b)
      where
        go : (t.b < u.b) ⊎ (u.b ≤ t.b) → Earlier t u ⊎ (Earlier u t ⊎ (t ≡ u))
        go (inl l) = inl (by_b p l)
        go (inr l) = inr (inl (by_b (sym p) (omega (arith, l, n))))

    one : (t.a ≡ u.a) ⊎ (t.a ≢ u.a) → Earlier t u ⊎ (Earlier u t ⊎ (t ≡ u))
    one (inl p) = two p (same_or_not t.b u.b)
    one (inr n) = go (less_or_not t.a u.a)
      where
        go : (t.a < u.a) ⊎ (u.a ≤ t.a) → Earlier t u ⊎ (Earlier u t ⊎ (t ≡ u))
        go (inl l) = inl (by_a l)
        go (inr l) = inr (inl (by_a (omega (arith, l, n))))

before_true : (t u : Triangle) → Earlier t u → triangle_before t u ≡ true
before_true t u (by_a p) = rw (lt-ltb t.a u.a p) refl
before_true t u (by_b p q) = rw (le-ltb t.a u.a (omega (arith, p)), eq-eqb t.a u.a p, lt-ltb t.b u.b q) refl
before_true t u (by_c p q r) =
    rw (le-ltb t.a u.a (omega (arith, p)), eq-eqb t.a u.a p, le-ltb t.b u.b (omega (arith, q)), eq-eqb t.b u.b q, lt-ltb t.c u.c r) refl

true_before : (t u : Triangle) → triangle_before t u ≡ true → Earlier t u
true_before t u h = first (or_cases (ltb t.a u.a) _ h)
  where
    third : (ltb t.b u.b ≡ true) ⊎ ((eqb t.b u.b && ltb t.c u.c) ≡ true) → t.a ≡ u.a → Earlier t u
    third (inl c) p = by_b p (ltb-true t.b u.b c)
    third (inr c) p = by_c p (eqb-true t.b u.b (and_left (eqb t.b u.b) (ltb t.c u.c) c)) (ltb-true t.c u.c (and_right (eqb t.b u.b) (ltb t.c u.c) c))

    first : (ltb t.a u.a ≡ true) ⊎ ((eqb t.a u.a && (ltb t.b u.b || (eqb t.b u.b && ltb t.c u.c))) ≡ true) → Earlier t u
    first (inl c) = by_a (ltb-true t.a u.a c)
    first (inr c) =
        let rest = ltb t.b u.b || (eqb t.b u.b && ltb t.c u.c) in
        third (or_cases (ltb t.b u.b) (eqb t.b u.b && ltb t.c u.c) (and_right (eqb t.a u.a) rest c)) (eqb-true t.a u.a (and_left (eqb t.a u.a) rest c))

same_true : (t u : Triangle) → same_triangle t u ≡ true → t ≡ u
same_true t u h =
    let r = and_right (eqb t.a u.a) (eqb t.b u.b && eqb t.c u.c) h in
    triangle_is t u (eqb-true t.a u.a (and_left (eqb t.a u.a) (eqb t.b u.b && eqb t.c u.c) h))
    (eqb-true t.b u.b (and_left (eqb t.b u.b) (eqb t.c u.c) r)) (eqb-true t.c u.c (and_right (eqb t.b u.b) (eqb t.c u.c) r))

same_refl : (t : Triangle) → same_triangle t t ≡ true
same_refl t = rw (eq-eqb t.a t.a refl, eq-eqb t.b t.b refl, eq-eqb t.c t.c refl) refl

not_before : (t u : Triangle) → (Earlier t u → ⊥) → triangle_before t u ≡ false
not_before t u n = go (test (triangle_before t u))
  where
    go : (triangle_before t u ≡ true) ⊎ (triangle_before t u ≡ false) → triangle_before t u ≡ false
    go (inl c) = absurd (n (true_before t u c))
    go (inr c) = c

not_same : (t u : Triangle) → Earlier t u → same_triangle u t ≡ false
not_same t u b = go (test (same_triangle u t))
  where
    go : (same_triangle u t ≡ true) ⊎ (same_triangle u t ≡ false) → same_triangle u t ≡ false
    go (inl c) = absurd (before_asym t u b (subst (λ (x : Triangle). Earlier x t) (sym (same_true u t c)) (subst (Earlier t) (same_true u t c) b)))
    go (inr c) = c

-- a later first triangle is a later chain; the same one leaves it to the rest
pub later_first : (t u : Triangle) (ts us : List Triangle) → Earlier t u → chain_before (u ∷ us) (t ∷ ts) ≡ false
unfolding chain_before
later_first t u ts us b = rw (not_before u t (λ c. before_asym t u b c), not_same t u b) refl

pub same_first : (t : Triangle) (ts us : List Triangle) → chain_before us ts ≡ false → chain_before (t ∷ us) (t ∷ ts) ≡ false
unfolding chain_before
same_first t ts us h = rw (not_before t t (λ c. before_asym t t c c), same_refl t, h) refl

-- of two chains of one length one is before the other, or they are one
decided : (ts us : List Triangle) → length ts ≡ length us → chain_before ts us ≡ false → chain_before us ts ≡ false → ts ≡ us
unfolding chain_before
decided [] [] e p q = refl
decided [] (u ∷ us) e p q = absurd (omega arith)
decided (t ∷ ts) [] e p q = absurd (omega arith)
decided (t ∷ ts) (u ∷ us) e p q = go (either_before t u) (λ a b. decided ts us (omega (arith, e)) a b)
  where
    go : Earlier t u ⊎ (Earlier u t ⊎ (t ≡ u)) → (chain_before ts us ≡ false → chain_before us ts ≡ false → ts ≡ us) → t ∷ ts ≡ u ∷ us
    go (inl b) ih = absurd (true_not_false (before_true t u b) (or_left_false (triangle_before t u) (same_triangle t u && chain_before ts us) p))
    go (inr (inl b)) ih = absurd (true_not_false (before_true u t b) (or_left_false (triangle_before u t) (same_triangle u t && chain_before us ts) q))
    go (inr (inr s)) ih =
        let a : same_triangle t u ≡ true = subst (λ (x : Triangle). same_triangle t x ≡ true) s (same_refl t) in
        let b : same_triangle u t ≡ true = subst (λ (x : Triangle). same_triangle x t ≡ true) s (same_refl t) in
        let f : (same_triangle t u && chain_before ts us) ≡ false = or_right_false (triangle_before t u) (same_triangle t u && chain_before ts us) p in
        let g : (same_triangle u t && chain_before us ts) ≡ false = or_right_false (triangle_before u t) (same_triangle u t && chain_before us ts) q in
        let r = ih (rw a at f) (rw b at g) in
        λ i. s i ∷ r i

pub shortest_unique : (G : Graph) (k : ℕ) (e f : Link) (ts us : List Triangle) → IsShortestFirst G k e f ts → IsShortestFirst G k e f us → ts ≡ us
shortest_unique G k e f ts us x y =
    let l : length ts ≡ length us = le_antisymm (x.fewest us y.is_chain) (y.fewest ts x.is_chain) in
    decided ts us l (y.first ts x.is_chain l) (x.first us y.is_chain (sym l))

-- ---- the triangles, by accounts

has_side : (t : Triangle) {e : Link} → Has t e → In e (sides t)
has_side t (is_ab q) = here q
has_side t (is_ac q) = there (here q)
has_side t (is_bc q) = there (there (here q))

pub side_has : (t : Triangle) {e : Link} → In e (sides t) → Has t e
side_has t {e} m = first (in-cons m)
  where
    third : (e ≡ side_bc t) ⊎ In e [] → Has t e
    third (inl q) = is_bc q
    third (inr n) = absurd (in-nil n)

    second : (e ≡ side_ac t) ⊎ In e (side_bc t ∷ []) → Has t e
    second (inl q) = is_ac q
    second (inr n) = third (in-cons n)

    first : (e ≡ side_ab t) ⊎ In e (side_ac t ∷ side_bc t ∷ []) → Has t e
    first (inl q) = is_ab q
    first (inr n) = second (in-cons n)

pub touches_in : (L : List Link) (t : Triangle) → touches L t ≡ true → (l : Link) × In l L × Has t l
unfolding touches
touches_in L t h = let r = any_in (member L) (sides t) h in (r.0, member_in L r.0 r.2, side_has t r.1)

pub in_touches : (L : List Link) (t : Triangle) {l : Link} → In l L → Has t l → touches L t ≡ true
unfolding touches
in_touches L t m h = in_any (member L) (sides t) (has_side t h) (in_member L m)

map-sorted : {A B : Type 0} (S : A → A → Type 0) (R : B → B → Type 0) (f : A → B) (xs : List A) → Sorted S xs → ((x y : A) → S x y → R (f x) (f y)) → Sorted R (map f xs)
map-sorted S R f [] s h = tt
map-sorted {A} {B} S R f (x ∷ xs) s h = (λ y m. at (map_in f xs m), map-sorted S R f xs s.1 h)
  where
    at : {y : B} → (z : A) × In z xs × (y ≡ f z) → R (f x) y
    at (z, m, q) = subst (R (f x)) (sym q) (h x z (s.0 z m))

module _ (G : Graph) (o : InOrder G) (k : ℕ) where
  abbrev T : List Triangle
  T = strong_triangles G k

  pub strong_triangles_in : {t : Triangle} → In t T → StrongTriangle G k t
  unfolding strong_triangles
  strong_triangles_in {t} m = let r = filter_in (λ u. leb k (weight G u)) (triangles G) m in strong_of_weight G k t (triangles_in G r.0) (leb-true k (weight G t) r.1)

  pub in_strong_triangles : (t : Triangle) → StrongTriangle G k t → In t T
  unfolding strong_triangles
  in_strong_triangles t s = in_filter (λ u. leb k (weight G u)) (triangles G) (in_triangles G o.proper t s.is_triangle) (le-leb k (weight G t) (weight_of_strong G k t s))

  third_on : Link → ℕ → Bool
  third_on e c = member G.links (record { lo = e.lo; hi = c }) && member G.links (record { lo = e.hi; hi = c })

  on_one : (e : Link) → Sorted Earlier (triangles_on G e)
  unfolding triangles_on third_on
  on_one e =
      map-sorted (λ (x y : ℕ). x < y) Earlier (λ c. record { a = e.lo; b = e.hi; c = c }) (filter (third_on e) (range 0 G.n))
      (filter-sorted (λ (x y : ℕ). x < y) (third_on e) (range 0 G.n) (range_rising 0 G.n)) (λ x y l. by_c refl refl l)

  on : (e : Link) (t : Triangle) → In t (triangles_on G e) → (t.a ≡ e.lo) × (t.b ≡ e.hi)
  unfolding triangles_on third_on
  on e t m = let r = map_in (λ c. record { a = e.lo; b = e.hi; c = c }) (filter (third_on e) (range 0 G.n)) m in (ap (λ (x : Triangle). x.a) r.2, ap (λ (x : Triangle). x.b) r.2)

  pub strong_triangles_order : Sorted Earlier T
  unfolding strong_triangles triangles
  strong_triangles_order =
      filter-sorted Earlier (λ u. leb k (weight G u)) (triangles G)
      (concat_map-sorted (λ (e f : Link). link_before e f ≡ true) Earlier (triangles_on G) G.links (sorted_of (λ (e f : Link). link_before e f ≡ true) (link 0 0) G.links o.rises) on_one across)
    where
      across : (e f : Link) → link_before e f ≡ true → (t u : Triangle) → In t (triangles_on G e) → In u (triangles_on G f) → Earlier t u
      across e f h t u mt mu = go (or_cases (ltb e.lo f.lo) (eqb e.lo f.lo && ltb e.hi f.hi) h)
        where
          go : (ltb e.lo f.lo ≡ true) ⊎ ((eqb e.lo f.lo && ltb e.hi f.hi) ≡ true) → Earlier t u
          go (inl c) = by_a (omega (arith, ltb-true e.lo f.lo c, (on e t mt).0, (on f u mu).0))
          go (inr c) =
              let a = eqb-true e.lo f.lo (and_left (eqb e.lo f.lo) (ltb e.hi f.hi) c) in
              let b = ltb-true e.hi f.hi (and_right (eqb e.lo f.lo) (ltb e.hi f.hi) c) in
              by_b ((on e t mt).0 ∙ a ∙ sym (on f u mu).0) (omega (arith, b, (on e t mt).1, (on f u mu).1))

some_length : {A : Type 0} (xs : List A) {x : A} → In x xs → 0 < length xs
some_length [] m = absurd (in-nil m)
some_length (y ∷ ys) m = omega arith

position_before : {A : Type 0} (d : A) (p : A → Bool) (xs : List A) (i : ℕ) → i < position p xs → p (get_or xs i d) ≡ false
unfolding position
position_before d p [] i l = absurd (omega arith)
position_before d p (x ∷ xs) i l = go (p x) refl i l (λ j m. position_before d p xs j m)
  where
    go : (b : Bool) → p x ≡ b → (i : ℕ) → i < cond (p x) 0 (suc (position p xs)) → ((j : ℕ) → j < position p xs → p (get_or xs j d) ≡ false) → p (get_or (x ∷ xs) i d) ≡ false
    go true c i l ih = let z : i < 0 = rw c at l in absurd (omega (arith, z))
    go false c zero l ih = c
    go false c (suc i) l ih = let z : suc i < suc (position p xs) = rw c at l in ih i (omega (arith, z))

one_more : (x : ℕ) → 1 + x ≡ suc x
one_more x = omega arith

tail : List Triangle → List Triangle
tail [] = []
tail (t ∷ ts) = ts

-- ---- looking back from f

module _ (G : Graph) (o : InOrder G) (k : ℕ) (f : Link) where
  abbrev S : List Triangle
  S = strong_triangles G k

  next_in : (r : ℕ) {e : Link} → In e (starts S f (suc r)) → (t : Triangle) × In t S × Has t e × (l : Link) × In l (starts S f r) × Has t l
  unfolding starts
  next_in r {e} m =
      let c = concat_map_in sides (filter (touches (starts S f r)) S) m in
      let w = filter_in (touches (starts S f r)) S c.1 in
      let q = touches_in (starts S f r) c.0 w.1 in
      (c.0, w.0, side_has c.0 c.2, q.0, q.1, q.2)

  in_next : (r : ℕ) (t : Triangle) {e l : Link} → In t S → Has t e → In l (starts S f r) → Has t l → In e (starts S f (suc r))
  unfolding starts
  in_next r t m he ml hl = in_concat_map sides (filter (touches (starts S f r)) S) (in_filter (touches (starts S f r)) S m (in_touches (starts S f r) t ml hl)) (has_side t he)

  only_f : {l : Link} → In l (starts S f 0) → l ≡ f
  unfolding starts
  only_f {l} m = go (in-cons m)
    where
      go : (l ≡ f) ⊎ In l [] → l ≡ f
      go (inl q) = q
      go (inr n) = absurd (in-nil n)

  -- `starts` of r is where chains of r triangles begin
  pub starts_is : (r : ℕ) {e : Link} → In e (starts S f (suc r)) → (ts : List Triangle) × IsChain G k e f ts × (length ts ≡ suc r)
  starts_is zero {e} m = at (next_in 0 m)
    where
      at : (t : Triangle) × In t S × Has t e × (l : Link) × In l (starts S f 0) × Has t l → (ts : List Triangle) × IsChain G k e f ts × (length ts ≡ 1)
      at (t, mt, he, l, ml, hl) = (t ∷ [], one_triangle t (strong_triangles_in G o k mt) he (subst (Has t) (only_f ml) hl), refl)
  starts_is (suc r) {e} m = at (next_in (suc r) m) (λ l n. starts_is r n)
    where
      at : (t : Triangle) × In t S × Has t e × (l : Link) × In l (starts S f (suc r)) × Has t l
          → ((l : Link) → In l (starts S f (suc r)) → (ts : List Triangle) × IsChain G k l f ts × (length ts ≡ suc r))
          → (ts : List Triangle) × IsChain G k e f ts × (length ts ≡ suc (suc r))
      at (t, mt, he, l, ml, hl) ih = let c = ih l ml in (t ∷ c.0, and_on t (strong_triangles_in G o k mt) he hl c.1, ap suc c.2)

  at_0 : In f (starts S f 0)
  unfolding starts
  at_0 = here refl

  pub is_start : {e g : Link} {ts : List Triangle} → IsChain G k e g ts → g ≡ f → In e (starts S f (length ts))
  is_start (one_triangle t s he hg) q = in_next 0 t (in_strong_triangles G o k t s) he at_0 (subst (Has t) q hg)
  is_start (and_on {ts = ts} t s he hs c) q = in_next (length ts) t (in_strong_triangles G o k t s) he (is_start c q) hs

  -- ---- the walk

  -- a chain to f from one of the links
  From : List Link → List Triangle → Type 0
  From L ts = (l : Link) × In l L × IsChain G k l f ts

  record Walked (L : List Link) (r : ℕ) (ts : List Triangle) : Type 0 where
    is_from : From L ts
    long : length ts ≡ suc r
    first : (us : List Triangle) → From L us → length us ≡ suc r → chain_before us ts ≡ false

  -- what a chain of suc r triangles can begin with
  goes : ℕ → List Link → Triangle → Bool
  goes r L t = touches L t && touches (starts S f r) t

  -- a chain's first triangle, and what comes after it
  Rest : Triangle → List Triangle → Type 0
  Rest u us = ((us ≡ []) × Has u f) ⊎ ((s : Link) × Has u s × IsChain G k s f us)

  taken : {l g : Link} {ts : List Triangle} → IsChain G k l g ts → g ≡ f → (u : Triangle) (us : List Triangle) → ts ≡ u ∷ us → StrongTriangle G k u × Has u l × Rest u us
  unfolding Rest tail
  taken {l = l} (one_triangle t s he hg) q u us e =
      let h : t ≡ u = ap (λ (x : List Triangle). get_or x 0 t) e in
      let n : [] ≡ us = ap tail e in
      (subst (StrongTriangle G k) h s, subst (λ (x : Triangle). Has x l) h he, inl (sym n, subst (λ (x : Triangle). Has x f) h (subst (Has t) q hg)))
  taken {l = l} {g = g} (and_on {shared = s} {ts = ts} t st he hs c) q u us e =
      let h : t ≡ u = ap (λ (x : List Triangle). get_or x 0 t) e in
      let n : ts ≡ us = ap tail e in
      (subst (StrongTriangle G k) h st, subst (λ (x : Triangle). Has x l) h he, inr (s, subst (λ (x : Triangle). Has x s) h hs, subst (λ (x : Link). IsChain G k s x us) q (subst (IsChain G k s g) n c)))

  goes_of : (r : ℕ) (L : List Link) (u : Triangle) (us : List Triangle) → From L (u ∷ us) → length us ≡ r → In u S × (goes r L u ≡ true)
  unfolding goes From Rest
  goes_of r L u us (l, ml, c) q = at (taken c refl u us refl)
    where
      at : StrongTriangle G k u × Has u l × Rest u us → In u S × (goes r L u ≡ true)
      at (s, h, inl (n, hf)) =
          (in_strong_triangles G o k u s, both (in_touches L u ml h) (subst (λ (i : ℕ). touches (starts S f i) u ≡ true) (sym (ap length n) ∙ q) (in_touches (starts S f 0) u at_0 hf)))
      at (s, h, inr (x, hx, d)) = (in_strong_triangles G o k u s, both (in_touches L u ml h) (subst (λ (i : ℕ). touches (starts S f i) u ≡ true) q (in_touches (starts S f (length us)) u (is_start d refl) hx)))

  rest_from : (r : ℕ) (L : List Link) (u : Triangle) (us : List Triangle) → From L (u ∷ us) → length us ≡ suc r → From (sides u) us
  unfolding From Rest
  rest_from r L u us (l, ml, c) q = at (taken c refl u us refl)
    where
      at : StrongTriangle G k u × Has u l × Rest u us → From (sides u) us
      at (s, h, inl (n, hf)) = absurd (omega (arith, q, ap length n))
      at (s, h, inr (x, hx, d)) = (x, has_side u hx, d)

  -- the first triangle that goes, and the others
  first_goes : (r : ℕ) (L : List Link) (t : Triangle) (rest : List Triangle) → filter (goes r L) S ≡ t ∷ rest
      → In t S × (goes r L t ≡ true) × ((u : Triangle) → In u S → goes r L u ≡ true → (u ≡ t) ⊎ Earlier t u)
  first_goes r L t rest e =
      let m : In t (filter (goes r L) S) = subst (In t) (sym e) (here refl) in
      let w = filter_in (goes r L) S m in
      let sorted : Sorted Earlier (t ∷ rest) = subst (Sorted Earlier) e (filter-sorted Earlier (goes r L) S (strong_triangles_order G o k)) in
      (w.0, w.1, λ u mu g. at sorted.0 u (in-cons (subst (In u) e (in_filter (goes r L) S mu g))))
    where
      at : ((y : Triangle) → In y rest → Earlier t y) → (u : Triangle) → (u ≡ t) ⊎ In u rest → (u ≡ t) ⊎ Earlier t u
      at h u (inl q) = inl q
      at h u (inr n) = inr (h u n)

  -- the walk after its first triangle: nothing after one triangle, else a walk from its links
  After : ℕ → Triangle → List Triangle → Type 0
  After zero t ts = ts ≡ []
  After (suc r) t ts = Walked (sides t) r ts

  led : (r : ℕ) (L : List Link) (t : Triangle) (ts : List Triangle) → In t S → goes r L t ≡ true → After r t ts → From L (t ∷ ts) × (length (t ∷ ts) ≡ suc r)
  unfolding goes From After starts
  led zero L t ts m g a =
      let x = touches_in L t (and_left (touches L t) (touches (starts S f 0) t) g) in
      let y = touches_in (starts S f 0) t (and_right (touches L t) (touches (starts S f 0) t) g) in
      let c = one_triangle t (strong_triangles_in G o k m) x.2 (subst (Has t) (only_f y.1) y.2) in
      ((x.0, x.1, subst (λ (z : List Triangle). IsChain G k x.0 f (t ∷ z)) (sym a) c), ap (λ (z : List Triangle). suc (length z)) a)
  led (suc r) L t ts m g a =
      let x = touches_in L t (and_left (touches L t) (touches (starts S f (suc r)) t) g) in
      let y = a.is_from in
      ((x.0, x.1, and_on t (strong_triangles_in G o k m) x.2 (side_has t y.1) y.2), ap suc a.long)

  after_first : (r : ℕ) (L : List Link) (t : Triangle) (ts us : List Triangle) → After r t ts → From L (t ∷ us) → length us ≡ r → chain_before us ts ≡ false
  unfolding After chain_before
  after_first zero L t ts [] a c q = refl
  after_first zero L t ts (u ∷ us) a c q = absurd (omega arith)
  after_first (suc r) L t ts us a c q = a.first us (rest_from r L t us c q) q

  step : (r : ℕ) (L : List Link) (t : Triangle) (rest ts : List Triangle) → filter (goes r L) S ≡ t ∷ rest → After r t ts → Walked L r (t ∷ ts)
  step r L t rest ts e a = record { is_from = d.0; long = d.1; first = λ us c q. at us c q }
    where
      F : In t S × (goes r L t ≡ true) × ((u : Triangle) → In u S → goes r L u ≡ true → (u ≡ t) ⊎ Earlier t u)
      F = first_goes r L t rest e

      d : From L (t ∷ ts) × (length (t ∷ ts) ≡ suc r)
      d = led r L t ts F.0 F.1 a

      at : (us : List Triangle) → From L us → length us ≡ suc r → chain_before us (t ∷ ts) ≡ false
      at [] c q = absurd (omega arith)
      at (u ∷ us) c q = go (F.2 u g.0 g.1)
        where
          g : In u S × (goes r L u ≡ true)
          g = goes_of r L u us c (omega (arith, q))

          go : (u ≡ t) ⊎ Earlier t u → chain_before (u ∷ us) (t ∷ ts) ≡ false
          go (inr b) = later_first t u ts us b
          go (inl s) =
              subst (λ (x : Triangle). chain_before (x ∷ us) (t ∷ ts) ≡ false) (sym s)
              (same_first t ts us (after_first r L t ts us a (subst (λ (x : Triangle). From L (x ∷ us)) s c) (omega (arith, q))))

  -- some triangle goes
  some_goes : (r : ℕ) (L : List Link) (us : List Triangle) → From L us → length us ≡ suc r → filter (goes r L) S ≡ [] → ⊥
  some_goes r L [] c q e = omega arith
  some_goes r L (u ∷ us) c q e = let g = goes_of r L u us c (omega (arith, q)) in in-nil (subst (In u) e (in_filter (goes r L) S g.0 g.1))

  next_chain : (r : ℕ) (L : List Link) (t : Triangle) → goes (suc r) L t ≡ true → (vs : List Triangle) × From (sides t) vs × (length vs ≡ suc r)
  unfolding goes From
  next_chain r L t g =
      let y = touches_in (starts S f (suc r)) t (and_right (touches L t) (touches (starts S f (suc r)) t) g) in
      let c = starts_is r y.1 in
      (c.0, (y.0, has_side t y.2, c.1), c.2)

  walk_is : (r : ℕ) (L : List Link) (us : List Triangle) → From L us → length us ≡ suc r → Walked L r (walk S f (suc r) L)
  unfolding walk goes After
  walk_is zero L us c q = go (filter (goes 0 L) S) refl
    where
      go : (F : List Triangle) → filter (goes 0 L) S ≡ F → Walked L 0 (elim F [ [] ↦ [] | t ∷ _ ↦ t ∷ walk S f 0 (sides t) ])
      go [] e = absurd (some_goes 0 L us c q e)
      go (t ∷ rest) e = step 0 L t rest (walk S f 0 (sides t)) e refl
  walk_is (suc r) L us c q = go (filter (goes (suc r) L) S) refl (λ M vs d l. walk_is r M vs d l)
    where
      go : (F : List Triangle) → filter (goes (suc r) L) S ≡ F → ((M : List Link) (vs : List Triangle) → From M vs → length vs ≡ suc r → Walked M r (walk S f (suc r) M))
          → Walked L (suc r) (elim F [ [] ↦ [] | t ∷ _ ↦ t ∷ walk S f (suc r) (sides t) ])
      go [] e ih = absurd (some_goes (suc r) L us c q e)
      go (t ∷ rest) e ih = let v = next_chain r L t (first_goes (suc r) L t rest e).1 in step (suc r) L t rest (walk S f (suc r) (sides t)) e (ih (sides t) v.0 v.1 v.2)

  begun : (r : ℕ) (L : List Link) (t : Triangle) → In t S → goes r L t ≡ true → (us : List Triangle) × From L us
  unfolding goes From starts
  begun zero L t m g =
      let x = touches_in L t (and_left (touches L t) (touches (starts S f 0) t) g) in
      let y = touches_in (starts S f 0) t (and_right (touches L t) (touches (starts S f 0) t) g) in
      (t ∷ [], (x.0, x.1, one_triangle t (strong_triangles_in G o k m) x.2 (subst (Has t) (only_f y.1) y.2)))
  begun (suc r) L t m g =
      let x = touches_in L t (and_left (touches L t) (touches (starts S f (suc r)) t) g) in
      let v = next_chain r L t g in
      (t ∷ v.0, (x.0, x.1, and_on t (strong_triangles_in G o k m) x.2 (side_has t v.1.1) v.1.2))

  -- no chain, no walk
  walk_none : (r : ℕ) (L : List Link) → ((us : List Triangle) → From L us → ⊥) → walk S f (suc r) L ≡ []
  unfolding walk goes
  walk_none r L n = go (filter (goes r L) S) refl
    where
      go : (F : List Triangle) → filter (goes r L) S ≡ F → ◌≡◌ {A = List Triangle} (elim F [ [] ↦ [] | t ∷ _ ↦ t ∷ walk S f r (sides t) ]) []
      go [] e = refl
      go (t ∷ rest) e = absurd (n w.0 w.1)
        where
          w : (us : List Triangle) × From L us
          w = begun r L t (first_goes r L t rest e).0 (first_goes r L t rest e).1

  -- ---- as many triangles as there are links are enough

  -- a triangle may come twice, so that from the first on they only become more
  pub starts_more : (r : ℕ) {e : Link} → In e (starts S f (suc r)) → In e (starts S f (suc (suc r)))
  starts_more r {e} m = at (next_in r m)
    where
      at : (t : Triangle) × In t S × Has t e × (l : Link) × In l (starts S f r) × Has t l → In e (starts S f (suc (suc r)))
      at (t, mt, he, l, ml, hl) = in_next (suc r) t mt he (in_next r t mt hl ml hl) hl

  starts_links : (r : ℕ) {e : Link} → In e (starts S f (suc r)) → In e G.links
  starts_links r {e} m = at (next_in r m)
    where
      at : (t : Triangle) × In t S × Has t e × (l : Link) × In l (starts S f r) × Has t l → In e G.links
      at (t, mt, he, l, ml, hl) = member_in G.links e (has_member G t e (strong_triangles_in G o k mt).is_triangle he)

  Closed : ℕ → Type 0
  Closed i = (x : Link) → In x (starts S f (suc (suc i))) → In x (starts S f (suc i))

  closed_on : (i q : ℕ) → Closed i → suc i ≤ q → {x : Link} → In x (starts S f q) → In x (starts S f (suc i))
  unfolding Closed
  closed_on i zero h l m = absurd (omega arith)
  closed_on i (suc q) h l {x} m = at (less_or_not i q) (next_in q m) (λ n y my. closed_on i q h n my)
    where
      at : (i < q) ⊎ (q ≤ i) → (t : Triangle) × In t S × Has t x × (y : Link) × In y (starts S f q) × Has t y → (suc i ≤ q → (y : Link) → In y (starts S f q) → In y (starts S f (suc i)))
          → In x (starts S f (suc i))
      at (inl n) (t, mt, hx, y, my, hy) ih = h x (in_next (suc i) t mt hx (ih n y my) hy)
      at (inr n) _ ih = subst (λ (j : ℕ). In x (starts S f (suc j))) (omega (arith, n, l)) m

  amount : ℕ → ℕ
  amount r = length (filter (member (starts S f r)) G.links)

  grow : {x : Link} → In x (starts S f 1) → (r : ℕ) → ((i : ℕ) × (i < r) × Closed i) ⊎ (suc r ≤ amount (suc r))
  unfolding amount Closed
  grow {x} m zero = inr (some_length (filter (member (starts S f 1)) G.links) (in_filter (member (starts S f 1)) G.links (starts_links 0 m) (in_member (starts S f 1) m)))
  grow {x} m (suc r) = at (grow m r)
    where
      new : Link → Bool
      new z = not (member (starts S f (suc r)) z)

      at : ((i : ℕ) × (i < r) × Closed i) ⊎ (suc r ≤ amount (suc r)) → ((i : ℕ) × (i < suc r) × Closed i) ⊎ (suc (suc r) ≤ amount (suc (suc r)))
      at (inl (i, l, c)) = inl (i, omega (arith, l), c)
      at (inr h) = go (test (any new (starts S f (suc (suc r)))))
        where
          go : (any new (starts S f (suc (suc r))) ≡ true) ⊎ (any new (starts S f (suc (suc r))) ≡ false) → ((i : ℕ) × (i < suc r) × Closed i) ⊎ (suc (suc r) ≤ amount (suc (suc r)))
          go (inl t) =
              let z = any_in new (starts S f (suc (suc r))) t in
              inr (omega (
                arith,
                h,
                filter-fewer (member (starts S f (suc r))) (member (starts S f (suc (suc r)))) G.links
                    (λ y _ p. in_member (starts S f (suc (suc r))) (starts_more r (member_in (starts S f (suc r)) y p)))
                    (starts_links (suc r) z.1) (in_member (starts S f (suc (suc r))) z.1) (not-true (member (starts S f (suc r)) z.0) z.2),
              ))
          go (inr t) = inl (r, omega arith, λ y my. in_old y my (test (member (starts S f (suc r)) y)))
            where
              in_old : (y : Link) → In y (starts S f (suc (suc r))) → (member (starts S f (suc r)) y ≡ true) ⊎ (member (starts S f (suc r)) y ≡ false) → In y (starts S f (suc r))
              in_old y my (inl p) = member_in (starts S f (suc r)) y p
              in_old y my (inr p) = absurd (true_not_false (in_any new (starts S f (suc (suc r))) my (ap not p)) t)

  some_first : {e g : Link} {ts : List Triangle} → IsChain G k e g ts → g ≡ f → (x : Link) × In x (starts S f 1)
  some_first {e = e} (one_triangle t s he hg) q = (e, in_next 0 t (in_strong_triangles G o k t s) he at_0 (subst (Has t) q hg))
  some_first (and_on t s he hs c) q = some_first c q

  chain_some : {e g : Link} {ts : List Triangle} → IsChain G k e g ts → 0 < length ts
  chain_some (one_triangle t s he hg) = omega arith
  chain_some (and_on t s he hs c) = omega arith

  enough : {e : Link} {ts : List Triangle} → IsChain G k e f ts → (r : ℕ) × (r < size G) × In e (starts S f (suc r))
  unfolding amount
  enough {e} {ts} c = at (length ts) (is_start c refl) (chain_some c)
    where
      at : (q : ℕ) → In e (starts S f q) → 0 < q → (r : ℕ) × (r < size G) × In e (starts S f (suc r))
      at zero m p = absurd (omega arith)
      at (suc q) m p = go (less_or_not q (size G))
        where
          go : (q < size G) ⊎ (size G ≤ q) → (r : ℕ) × (r < size G) × In e (starts S f (suc r))
          go (inl l) = (q, l, m)
          go (inr l) = more (grow (some_first c refl).1 (size G))
            where
              more : ((i : ℕ) × (i < size G) × Closed i) ⊎ (suc (size G) ≤ amount (suc (size G))) → (r : ℕ) × (r < size G) × In e (starts S f (suc r))
              more (inl (i, li, h)) = (i, li, closed_on i (suc q) h (omega (arith, li, l)) m)
              more (inr h) = absurd (omega (arith, h, filter-length (member (starts S f (suc (size G)))) G.links))

  -- ---- the answer

  module _ (e : Link) where
    passes : ℕ → Bool
    passes r = member (starts S f r) e

    rounds : ℕ
    rounds = position passes (range 1 (size G))

    chain_is : shortest_chain G k e f ≡ walk S f (suc rounds) (e ∷ [])
    unfolding shortest_chain fewest_triangles rounds passes
    chain_is = refl

    module _ (us : List Triangle) (c : IsChain G k e f us) where
      some_round : any passes (range 1 (size G)) ≡ true
      unfolding passes
      some_round = let r = enough c in in_any passes (range 1 (size G)) (in_range 1 (size G) (omega arith) (omega (arith, r.1))) (in_member (starts S f (suc r.0)) r.2)

      rounds_few : rounds < size G
      unfolding rounds
      rounds_few = omega (arith, position_lt passes (range 1 (size G)) some_round, range_length 1 (size G))

      at_rounds : In e (starts S f (suc rounds))
      unfolding rounds passes
      at_rounds =
          member_in (starts S f (suc rounds)) e
          (subst (λ (i : ℕ). passes i ≡ true) (range_at 1 (size G) rounds 0 rounds_few ∙ one_more rounds) (position_passes 0 passes (range 1 (size G)) (position_lt passes (range 1 (size G)) some_round)))

      walked : Walked (e ∷ []) rounds (walk S f (suc rounds) (e ∷ []))
      unfolding From
      walked = let w = starts_is rounds at_rounds in walk_is rounds (e ∷ []) w.0 (e, here refl, w.1) w.2

      from_e : {ts : List Triangle} → From (e ∷ []) ts → IsChain G k e f ts
      unfolding From
      from_e {ts} (l, m, d) = at (in-cons m)
        where
          at : (l ≡ e) ⊎ In l [] → IsChain G k e f ts
          at (inl q) = subst (λ (x : Link). IsChain G k x f ts) q d
          at (inr n) = absurd (in-nil n)

      -- no round before
      earlier : (q : ℕ) → q < rounds → In e (starts S f (suc q)) → ⊥
      unfolding rounds passes
      earlier q l m =
          true_not_false (in_member (starts S f (suc q)) m)
          (subst (λ (i : ℕ). passes i ≡ false) (range_at 1 (size G) q 0 (omega (arith, l, rounds_few)) ∙ one_more q) (position_before 0 passes (range 1 (size G)) q l))

      of_chain : IsShortestFirst G k e f (shortest_chain G k e f)
      unfolding From
      of_chain = rw chain_is (record {
        is_chain = from_e walked.is_from;
        fewest = λ vs d. few vs d (length vs) refl;
        first = λ vs d q. walked.first vs (e, here refl, d) (q ∙ walked.long);
      })
        where
          few : (vs : List Triangle) → IsChain G k e f vs → (n : ℕ) → length vs ≡ n → length (walk S f (suc rounds) (e ∷ [])) ≤ length vs
          few vs d zero q = absurd (omega (arith, q, chain_some d))
          few vs d (suc n) q = go (less_or_not n rounds)
            where
              go : (n < rounds) ⊎ (rounds ≤ n) → length (walk S f (suc rounds) (e ∷ [])) ≤ length vs
              go (inl l) = absurd (earlier n l (subst (λ (i : ℕ). In e (starts S f i)) q (is_start d refl)))
              go (inr l) = omega (arith, walked.long, q, l)

      count_some : 0 < length (shortest_chain G k e f)
      count_some = rw chain_is (omega (arith, walked.long))

    of_none : ((us : List Triangle) → IsChain G k e f us → ⊥) → shortest_chain G k e f ≡ []
    unfolding From
    of_none n = chain_is ∙ walk_none rounds (e ∷ []) (λ us (l, m, d). at us d (in-cons m))
      where
        at : {l : Link} (us : List Triangle) → IsChain G k l f us → (l ≡ e) ⊎ In l [] → ⊥
        at us d (inl q) = n us (subst (λ (x : Link). IsChain G k x f us) q d)
        at us d (inr m) = in-nil m

-- ---- "a chain .. runs": the chain of G is the chain of `Joined`

pub chain_joined : {G : Graph} {k : ℕ} {e f : Link} {ts : List Triangle} → IsChain G k e f ts → Joined G k e f
chain_joined (one_triangle t s p q) = Rattle.truss.specs.Chain.one_triangle t s p q
chain_joined (and_on t s p q c) = Rattle.truss.specs.Chain.and_on t s p q (chain_joined c)

pub joined_chain : {G : Graph} {k : ℕ} {e f : Link} → Joined G k e f → (ts : List Triangle) × IsChain G k e f ts
joined_chain (Rattle.truss.specs.Chain.one_triangle t s p q) = (t ∷ [], one_triangle t s p q)
joined_chain (Rattle.truss.specs.Chain.and_on t s p q j) = let c = joined_chain j in (t ∷ c.0, and_on t s p q c.1)

module _ (G : Graph) (o : InOrder G) (k : ℕ) (e f : Link) where
  -- what is given is the first of the shortest chains; by `shortest_unique` it is the only one
  pub shortest_is : Joined G k e f → IsShortestFirst G k e f (shortest_chain G k e f)
  shortest_is j = let c = joined_chain j in of_chain G o k f e c.0 c.1

  -- "Links not joined at k give count 0, and otherwise the count is never 0."
  pub shortest_none : (shortest_chain G k e f ≡ []) ↔ (¬ Joined G k e f)
  shortest_none = (
    (λ q j. let c = joined_chain j in omega (arith, count_some G o k f e c.0 c.1, ap length q)),
    (λ n. of_none G o k f e (λ us c. n (chain_joined c))),
  )

-- "A link with itself gives one triangle if its strength reaches k", but for a link of strength 2.
module _ (G : Graph) (o : InOrder G) (k : ℕ) (e : Link) where
  pub shortest_itself : AtLeast G 3 e → AtLeast G k e → FirstHolding G k e (shortest_chain G k e e)
  unfolding chain_before
  shortest_itself three s = at (shortest_chain G k e e) (shortest_is G o k e e (Rattle.truss.specs.Chain.one_triangle w.0 w.1 w.2 w.2))
    where
      w : (t : Triangle) × StrongTriangle G k t × Has t e
      w = in_triangle (less_or_not k 3)
        where
          in_triangle : (k < 3) ⊎ (3 ≤ k) → (t : Triangle) × StrongTriangle G k t × Has t e
          in_triangle (inl l) = let (t, u, h) = in_strong_triangle G 3 o.proper (le_refl 3) e three in (t, strong_down G k 3 t (omega (arith, l)) u, h)
          in_triangle (inr l) = in_strong_triangle G k o.proper l e s

      begins : (t : Triangle) → IsChain G k e e (t ∷ []) → StrongTriangle G k t × Has t e
      begins t (one_triangle u p q r) = (p, q)
      begins t (and_on {shared = shared} _ _ _ _ rest) = elim rest [ ]

      at : (ts : List Triangle) → IsShortestFirst G k e e ts → FirstHolding G k e ts
      at [] S = absurd (omega (arith, chain_some G o k e S.is_chain))
      at (t ∷ u ∷ us) S = absurd (omega (arith, S.fewest (w.0 ∷ []) (one_triangle w.0 w.1 w.2 w.2)))
      at (t ∷ []) S =
          let b = begins t S.is_chain in
          record {
            t = t;
            one = refl;
            strong = b.0;
            holds = b.1;
            first = λ u p q. or_left_false (triangle_before u t) (same_triangle u t && chain_before [] []) (S.first (u ∷ []) (one_triangle u p q q) refl);
          }

  pub shortest_itself_none : ¬ AtLeast G k e → shortest_chain G k e e ≡ []
  shortest_itself_none n = (shortest_none G o k e e).1 (λ j. n (joined_first G k j))

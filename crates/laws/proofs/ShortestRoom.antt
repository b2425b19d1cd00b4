-- How long a shortest chain of triangles can be: each of its triangles has two links that no later one has, so a chain of L triangles needs 2 L + 1 links
-- (a strip of L triangles has just these), and an answer of G fits `max_chain_bytes`.
use mathlib.Core.Path.{◌≡◌, refl, sym, ap, ◌∙◌, subst}
use mathlib.Core.Logic.{◌⊎◌, inl, inr, ◌≢◌}
use mathlib.Core.Bool.{true, false, ◌&&◌}
use mathlib.Core.List.{List, [], ◌∷◌, ◌++◌}
use mathlib.Core.List.Memᴰ.{append_cases as in-append}
use mathlib.Core.List.Memᴰ.{append_right as in_right}
use mathlib.Core.List.Memᴰ.{cases_cons as in-cons}
use mathlib.Core.List.Memᴰ.{head as here}
use mathlib.Core.List.Memᴰ.{not-nil as in-nil}
use mathlib.Core.List.Memᴰ.{tail as there}
use mathlib.Core.List.{Memᴰ as In}
use Prim.Native.Nat.{ℕ, zero, suc, ◌+◌, ◌*◌, ◌≤◌, ◌<◌}
use native.Mathlib.Nat.{le_refl}
use native.Mathlib.Omega.{arith}
use lib.ListN.{length}
use Rattle.truss.specs.Limits.{max_links, max_chain_bytes}
use Rattle.truss.specs.Lists.{filter}
use Rattle.truss.specs.Graph.{Link, Graph, Triangle, IsTriangle, graph_of, Has, is_ab, is_ac, is_bc, member, side_ab, side_ac, side_bc}
use Rattle.truss.specs.Chain.{StrongTriangle, Joined}
use Rattle.truss.specs.Shortest.{IsChain, one_triangle, and_on, strong_triangles, sides, touches, starts, walk, fewest_triangles, shortest_chain}
use Rattle.truss.specs.Question.{chain}
use Rattle.truss.specs.Call.{triangle_bytes, answer_bytes}
use Rattle.truss.specs.Ways.{Ways}
use Rattle.laws.proofs.Proper.{Proper}
use Rattle.laws.proofs.Lists.{test, true_not_false, filter-length}
use Rattle.laws.proofs.Numbers.{less_or_not}
use Rattle.laws.proofs.Members.{filter_in, member_in, in_member}
use Rattle.laws.proofs.Connected.{has_member}
use Rattle.laws.proofs.Groups.{size}
use Rattle.laws.proofs.Bound.{filter-fewer}
use Rattle.laws.proofs.Size.{concat_map-length}
use Rattle.laws.proofs.Accepted.{read_named, graph_size}
use Rattle.laws.proofs.InOrder.{graph_in_order}
use Rattle.laws.proofs.Sides.{InOrder}
use Rattle.laws.proofs.Lone.{one_case}
use Rattle.laws.proofs.Shortest.{triangle_is, side_has, strong_triangles_in, shortest_is, shortest_unique, shortest_none, shortest_itself, shortest_itself_none}

-- ---- two triangles with two links in common are one

-- the accounts of a triangle rise
pub record Rises (t : Triangle) : Type 0 where
  pub ab : t.a < t.b
  pub bc : t.b < t.c

pub triangle_rises : (G : Graph) → Proper G → (t : Triangle) → IsTriangle (member G.links) t → Rises t
triangle_rises G proper t i = record { ab = proper.ordered (side_ab t) i.has_ab; bc = proper.ordered (side_bc t) i.has_bc }

ab_not_ac : (t : Triangle) → Rises t → side_ab t ≢ side_ac t
ab_not_ac t r q = omega (arith, ap (λ (x : Link). x.hi) q)

ab_not_bc : (t : Triangle) → Rises t → side_ab t ≢ side_bc t
ab_not_bc t r q = omega (arith, ap (λ (x : Link). x.lo) q)

ac_not_bc : (t : Triangle) → Rises t → side_ac t ≢ side_bc t
ac_not_bc t r q = omega (arith, ap (λ (x : Link). x.lo) q)

-- x is an account of the triangle
data At (u : Triangle) (x : ℕ) : Type 0 where
  at_a : x ≡ u.a → At u x
  at_b : x ≡ u.b → At u x
  at_c : x ≡ u.c → At u x

lo_at : {u : Triangle} {l : Link} → Has u l → At u l.lo
lo_at (is_ab q) = at_a (ap (λ (x : Link). x.lo) q)
lo_at (is_ac q) = at_a (ap (λ (x : Link). x.lo) q)
lo_at (is_bc q) = at_b (ap (λ (x : Link). x.lo) q)

hi_at : {u : Triangle} {l : Link} → Has u l → At u l.hi
hi_at (is_ab q) = at_b (ap (λ (x : Link). x.hi) q)
hi_at (is_ac q) = at_c (ap (λ (x : Link). x.hi) q)
hi_at (is_bc q) = at_c (ap (λ (x : Link). x.hi) q)

module _ (t u : Triangle) (rt : Rises t) (ru : Rises u) where
  least : (x : ℕ) → At u x → u.a ≤ x
  least x (at_a q) = omega arith
  least x (at_b q) = omega arith
  least x (at_c q) = omega arith

  most : (x : ℕ) → At u x → x ≤ u.c
  most x (at_a q) = omega arith
  most x (at_b q) = omega arith
  most x (at_c q) = omega arith

  -- whose accounts are all accounts of u is u
  same_accounts : At u t.a → At u t.b → At u t.c → t ≡ u
  same_accounts x y z = triangle_is t u (first x) (middle y) (last z)
    where
      middle : At u t.b → t.b ≡ u.b
      middle (at_a q) = absurd (omega (arith, least t.a x))
      middle (at_b q) = q
      middle (at_c q) = absurd (omega (arith, most t.c z))

      first : At u t.a → t.a ≡ u.a
      first (at_a q) = q
      first (at_b q) = absurd (omega (arith, middle y))
      first (at_c q) = absurd (omega (arith, middle y))

      last : At u t.c → t.c ≡ u.c
      last (at_a q) = absurd (omega (arith, middle y))
      last (at_b q) = absurd (omega (arith, middle y))
      last (at_c q) = q

-- ---- the links on a chain to f

-- f and the links of the triangles
links_on : Link → List Triangle → List Link
links_on f [] = f ∷ []
links_on f (t ∷ ts) = sides t ++ links_on f ts

on_cases : (f : Link) (t : Triangle) (ts : List Triangle) {l : Link} → In l (links_on f (t ∷ ts)) → Has t l ⊎ In l (links_on f ts)
unfolding links_on
on_cases f t ts {l} m = at (in-append (sides t) m)
  where
    at : In l (sides t) ⊎ In l (links_on f ts) → Has t l ⊎ In l (links_on f ts)
    at (inl n) = inl (side_has t n)
    at (inr n) = inr n

only : {f l : Link} → In l (f ∷ []) → l ≡ f
only {f} {l} m = at (in-cons m)
  where
    at : (l ≡ f) ⊎ In l [] → l ≡ f
    at (inl q) = q
    at (inr n) = absurd (in-nil n)

-- the last triangle has f too
on_last : (f : Link) (t : Triangle) {l : Link} → Has t f → In l (links_on f (t ∷ [])) → Has t l
unfolding links_on
on_last f t {l} h m = at (on_cases f t [] m)
  where
    at : Has t l ⊎ In l (f ∷ []) → Has t l
    at (inl k) = k
    at (inr n) = subst (Has t) (sym (only n)) h

-- no two links of the triangle are among the links
record NoTwo (t : Triangle) (L : List Link) : Type 0 where
  ab_ac : In (side_ab t) L → In (side_ac t) L → ⊥
  ab_bc : In (side_ab t) L → In (side_bc t) L → ⊥
  ac_bc : In (side_ac t) L → In (side_bc t) L → ⊥

module _ (G : Graph) (o : InOrder G) (k : ℕ) where
  rising : (t : Triangle) → StrongTriangle G k t → Rises t
  rising t s = triangle_rises G o.proper t s.is_triangle

  -- ---- how many of the graph's links

  amount : List Link → ℕ
  amount L = length (filter (member L) G.links)

  -- a link that is new makes them more
  more : (L M : List Link) → ((l : Link) → In l L → In l M) → {x : Link} → In x G.links → In x M → (In x L → ⊥) → amount L < amount M
  unfolding amount
  more L M sub {x} mx new old = filter-fewer (member L) (member M) G.links (λ l _ p. in_member M (sub l (member_in L l p))) mx (in_member M new) (no (test (member L x)))
    where
      no : (member L x ≡ true) ⊎ (member L x ≡ false) → member L x ≡ false
      no (inl c) = absurd (old (member_in L x c))
      no (inr c) = c

  -- and two make them two more
  two_more : (L M : List Link) → ((l : Link) → In l L → In l M) → {x y : Link} → x ≢ y → In x G.links → In y G.links → In x M → In y M → (In x L → ⊥) → (In y L → ⊥)
      → 2 + amount L ≤ amount M
  two_more L M sub {x} {y} ne mx my nx ny ox oy =
      omega (arith, more L (x ∷ L) (λ l m. there m) mx (here refl) ox, more (x ∷ L) M (λ l m. within l (in-cons m)) my ny (λ m. neither (in-cons m)))
    where
      within : (l : Link) → (l ≡ x) ⊎ In l L → In l M
      within l (inl q) = subst (λ (z : Link). In z M) (sym q) nx
      within l (inr m) = sub l m

      neither : (y ≡ x) ⊎ In y L → ⊥
      neither (inl q) = ne (sym q)
      neither (inr m) = oy m

  -- a triangle of which no two links were there brings two
  brings_two : (t : Triangle) (L : List Link) → StrongTriangle G k t → NoTwo t L → 2 + amount L ≤ amount (sides t ++ L)
  brings_two t L s apart = go (test (member L (side_ab t))) (test (member L (side_ac t))) (test (member L (side_bc t)))
    where
      M : List Link
      M = sides t ++ L

      r : Rises t
      r = rising t s

      old : (l : Link) → In l L → In l M
      old l m = in_right (sides t) m

      of_graph : (l : Link) → Has t l → In l G.links
      of_graph l h = member_in G.links l (has_member G t l s.is_triangle h)

      out : {l : Link} → member L l ≡ false → In l L → ⊥
      out c m = true_not_false (in_member L m) c

      ab : In (side_ab t) M
      ab = here refl

      ac : In (side_ac t) M
      ac = there (here refl)

      bc : In (side_bc t) M
      bc = there (there (here refl))

      go : (member L (side_ab t) ≡ true) ⊎ (member L (side_ab t) ≡ false) → (member L (side_ac t) ≡ true) ⊎ (member L (side_ac t) ≡ false)
          → (member L (side_bc t) ≡ true) ⊎ (member L (side_bc t) ≡ false) → 2 + amount L ≤ amount M
      go (inl p) (inl q) _ = absurd (apart.ab_ac (member_in L (side_ab t) p) (member_in L (side_ac t) q))
      go (inl p) (inr _) (inl q) = absurd (apart.ab_bc (member_in L (side_ab t) p) (member_in L (side_bc t) q))
      go (inr _) (inl p) (inl q) = absurd (apart.ac_bc (member_in L (side_ac t) p) (member_in L (side_bc t) q))
      go (inr p) (inr q) _ = two_more L M old (ab_not_ac t r) (of_graph (side_ab t) (is_ab refl)) (of_graph (side_ac t) (is_ac refl)) ab ac (out p) (out q)
      go (inr p) (inl _) (inr q) = two_more L M old (ab_not_bc t r) (of_graph (side_ab t) (is_ab refl)) (of_graph (side_bc t) (is_bc refl)) ab bc (out p) (out q)
      go (inl _) (inr p) (inr q) = two_more L M old (ac_not_bc t r) (of_graph (side_ac t) (is_ac refl)) (of_graph (side_bc t) (is_bc refl)) ac bc (out p) (out q)

  -- ---- chains with the fewest triangles

  abbrev Fewest : Link → Link → List Triangle → Type 0
  Fewest e f ts = (us : List Triangle) → IsChain G k e f us → length ts ≤ length us

  first : {e f : Link} {ts : List Triangle} → IsChain G k e f ts → Triangle
  first (one_triangle t s he hf) = t
  first (and_on t s he hs c) = t

  first_strong : {e f : Link} {ts : List Triangle} (c : IsChain G k e f ts) → StrongTriangle G k (first c)
  unfolding first
  first_strong (one_triangle t s he hf) = s
  first_strong (and_on t s he hs c) = s

  -- a chain begins at each link of its first triangle
  begin_at : {e l f : Link} {ts : List Triangle} (c : IsChain G k e f ts) → Has (first c) l → IsChain G k l f ts
  unfolding first
  begin_at (one_triangle t s he hf) h = one_triangle t s h hf
  begin_at (and_on t s he hs c) h = and_on t s h hs c

  -- from a link on a chain it is no further
  from_on : {e l f : Link} {ts : List Triangle} → IsChain G k e f ts → In l (links_on f ts) → (us : List Triangle) × IsChain G k l f us × (length us ≤ length ts)
  from_on {f = f} (one_triangle t s he hf) m = (t ∷ [], one_triangle t s (on_last f t hf m) hf, le_refl 1)
  from_on {l = l} {f = f} (and_on {ts = ts} t s he hs c) m = at (on_cases f t ts m) (λ n. from_on c n)
    where
      at : Has t l ⊎ In l (links_on f ts) → (In l (links_on f ts) → (us : List Triangle) × IsChain G k l f us × (length us ≤ length ts))
          → (us : List Triangle) × IsChain G k l f us × (length us ≤ suc (length ts))
      at (inl h) ih = (t ∷ ts, and_on t s h hs c, le_refl (suc (length ts)))
      at (inr n) ih = let r = ih n in (r.0, r.1, omega (arith, r.2))

  -- a link on a chain from which there is no shorter way is on the first triangle
  on_first : {e l f : Link} {ts : List Triangle} (c : IsChain G k e f ts) → Fewest l f ts → In l (links_on f ts) → Has (first c) l
  unfolding first
  on_first {f = f} (one_triangle t s he hf) few m = on_last f t hf m
  on_first {l = l} {f = f} (and_on {ts = ts} t s he hs c) few m = at (on_cases f t ts m)
    where
      at : Has t l ⊎ In l (links_on f ts) → Has t l
      at (inl h) = h
      at (inr n) = let r = from_on c n in absurd (omega (arith, few r.0 r.1, r.2))

  -- Where no chain is shorter, no two links of the first triangle are on the rest: both would be on the second triangle, which would be the first, and the
  -- rest alone would do.
  no_two : {e x f : Link} {ts : List Triangle} (t : Triangle) → StrongTriangle G k t → Has t e → (c : IsChain G k x f ts) → Fewest e f (t ∷ ts) → NoTwo t (links_on f ts)
  no_two {e} {x} {f} {ts} t s he c few = record {
    ab_ac = λ m n. let p = near (is_ab refl) m in let q = near (is_ac refl) n in apart (lo_at p) (hi_at p) (hi_at q);
    ab_bc = λ m n. let p = near (is_ab refl) m in let q = near (is_bc refl) n in apart (lo_at p) (hi_at p) (hi_at q);
    ac_bc = λ m n. let p = near (is_ac refl) m in let q = near (is_bc refl) n in apart (lo_at p) (lo_at q) (hi_at p);
  }
    where
      near : {l : Link} → Has t l → In l (links_on f ts) → Has (first c) l
      near h m = on_first c (λ us d. let z = few (t ∷ us) (and_on t s he h d) in omega arith) m

      apart : At (first c) t.a → At (first c) t.b → At (first c) t.c → ⊥
      apart x y z =
          let q : t ≡ first c = same_accounts t (first c) (rising t s) (rising (first c) (first_strong c)) x y z in
          let d = few ts (begin_at c (subst (λ (u : Triangle). Has u e) q he)) in
          omega arith

  -- each triangle brings two links, from the last to the first, and f was there
  enough_links : {e f : Link} {ts : List Triangle} → IsChain G k e f ts → Fewest e f ts → 2 * length ts + 1 ≤ amount (links_on f ts)
  unfolding links_on
  enough_links {f = f} (one_triangle t s he hf) few = omega (arith, brings_two t (f ∷ []) s alone, f_counts)
    where
      r : Rises t
      r = rising t s

      alone : NoTwo t (f ∷ [])
      alone = record {
        ab_ac = λ m n. ab_not_ac t r (only m ∙ sym (only n));
        ab_bc = λ m n. ab_not_bc t r (only m ∙ sym (only n));
        ac_bc = λ m n. ac_not_bc t r (only m ∙ sym (only n));
      }

      f_counts : amount [] < amount (f ∷ [])
      f_counts = more [] (f ∷ []) (λ l m. absurd (in-nil m)) (member_in G.links f (has_member G t f s.is_triangle hf)) (here refl) (λ m. in-nil m)
  enough_links {f = f} (and_on {ts = ts} t s he hs c) few =
      omega (arith, brings_two t (links_on f ts) s (no_two t s he c few), enough_links c (λ us d. let z = few (t ∷ us) (and_on t s he hs d) in omega arith))

-- ---- the answer

module _ (G : Graph) (o : InOrder G) (k : ℕ) (e f : Link) where
  -- a shortest chain of L triangles needs 2 L + 1 links
  pub shortest_room : Joined G k e f → 2 * length (shortest_chain G k e f) + 1 ≤ size G
  unfolding amount
  shortest_room j =
      let s = shortest_is G o k e f j in
      omega (arith, enough_links G o k s.is_chain s.fewest, filter-length (member (links_on f (shortest_chain G k e f))) G.links)

-- a count, and three accounts for each triangle
pub chain_length : (ts : List Triangle) → length (answer_bytes (chain ts)) ≡ 2 + length ts * 6
unfolding answer_bytes
chain_length ts = omega (arith, concat_map-length triangle_bytes 6 (λ t. refl) ts)

-- an answer of G fits, of links that are joined and of links that are not
pub chain_room : (G : Graph) (o : InOrder G) → size G ≤ max_links → (k : ℕ) (e f : Link) → length (answer_bytes (chain (shortest_chain G k e f))) ≤ max_chain_bytes
chain_room G o few k e f = go (less_or_not max_chain_bytes (length (answer_bytes (chain ts))))
  where
    ts : List Triangle
    ts = shortest_chain G k e f

    go : (max_chain_bytes < length (answer_bytes (chain ts))) ⊎ (length (answer_bytes (chain ts)) ≤ max_chain_bytes) → length (answer_bytes (chain ts)) ≤ max_chain_bytes
    go (inl l) = absurd (omega (arith, chain_length ts, ap length ((shortest_none G o k e f).1 (λ j. too_long j))))
      where
        too_long : Joined G k e f → ⊥
        too_long j = omega (arith, chain_length ts, shortest_room G o k e f j)
    go (inr l) = l

-- ---- "three two-byte accounts, rising, for each triangle"

walk_in : (T : List Triangle) (f : Link) (r : ℕ) (L : List Link) {t : Triangle} → In t (walk T f r L) → In t T
unfolding walk
walk_in T f zero L m = absurd (in-nil m)
walk_in T f (suc r) L {t} m = go (filter (λ u. touches L u && touches (starts T f r) u) T) refl m (λ u n. walk_in T f r (sides u) n)
  where
    go : (us : List Triangle) → filter (λ u. touches L u && touches (starts T f r) u) T ≡ us → In t (elim us [ [] ↦ [] | u ∷ _ ↦ u ∷ walk T f r (sides u) ])
        → ((u : Triangle) → In t (walk T f r (sides u)) → In t T) → In t T
    go [] q n more = absurd (in-nil n)
    go (u ∷ us) q n more = at (in-cons n)
      where
        at : (t ≡ u) ⊎ In t (walk T f r (sides u)) → In t T
        at (inl e) = (filter_in (λ v. touches L v && touches (starts T f r) v) T (subst (In t) (sym q) (here e))).0
        at (inr n) = more u n

chain_rises : (G : Graph) (o : InOrder G) (k : ℕ) (e f : Link) (t : Triangle) → In t (shortest_chain G k e f) → Rises t
unfolding shortest_chain
chain_rises G o k e f t m =
    let T = strong_triangles G k in
    rising G o k t (strong_triangles_in G o k (walk_in T f (fewest_triangles T G e f) (e ∷ []) m))

-- ---- of every accepted links file

pub ways : Ways
ways file n ps h k e f =
    let N = read_named file n ps h in
    let o = graph_in_order n ps N.good in
    record {
      given = shortest_is (graph_of n ps) o k e f;
      only = shortest_unique (graph_of n ps) k e f;
      none = shortest_none (graph_of n ps) o k e f;
      itself = shortest_itself (graph_of n ps) o k e;
      itself_none = shortest_itself_none (graph_of n ps) o k e;
      one_case = one_case (graph_of n ps) o k e f;
      rising = λ t m. let r = chain_rises (graph_of n ps) o k e f t m in (r.ab, r.bc);
      room = chain_room (graph_of n ps) o (omega (arith, graph_size n ps, N.links)) k e f;
    }

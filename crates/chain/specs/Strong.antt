-- The links of strength at least k (called strong here; document 01 calls every link record of an index so) as a graph of their own: its links are in order too, and its triangles are those of weight at least k. Assumes nothing.
use Rattle.std.specs.Prelude.{◌≡◌, ◌≢◌, Bool, true, List, [], ◌∷◌, ◌++◌, leb, take, drop}
use Rattle.std.proofs.Math.Path.{refl, sym, ap}
use Rattle.std.proofs.Common.{◌∙◌, append-nil, length-append, take-append-drop, take-suc, take_all}
use Prim.Native.Nat.{ℕ, suc, ◌+◌, ◌≤◌, ◌<◌}
use native.Mathlib.Omega.{arith}
use Rattle.std.proofs.Math.ListN.{length}
use borrow.Author.Tests.{le-leb, lt-leb, leb-true}
use Rattle.truss.specs.Lists.{filter}
use Rattle.truss.specs.Graph.{Link, Graph, Triangle, IsTriangle, side_ab, side_ac, side_bc, link, link_at, link_number, link_before, member}
use Rattle.truss.specs.Strength.{strength}
use Rattle.truss.specs.Chain.{StrongTriangle}
use Rattle.laws.proofs.Lists.{member_filter, filter-member, filter-length}
use Rattle.laws.proofs.Members.{Sorted}
use Rattle.laws.proofs.Decoding.{filter-append}
use Rattle.laws.proofs.Stored.{filter-sorted}
use Rattle.laws.proofs.Sets.{sorted_at, sorted_of}
use Rattle.laws.proofs.Ordering.{Distinct, position_of}
use Rattle.laws.proofs.Chains.{at_least_strength, strength_at_least}
use Rattle.laws.proofs.Groups.{size, strength_at}
use Rattle.laws.proofs.Sides.{InOrder, LinkOrder, lower, tied, order_of}

abbrev pub is_strong : Graph → ℕ → Link → Bool
is_strong G k e = leb k (strength G e)

unfoldable pub strong_of : Graph → ℕ → Graph
strong_of G k = record { n = G.n; links = filter (is_strong G k) G.links }

pub strong_accounts : (G : Graph) (k : ℕ) → (strong_of G k).n ≡ G.n
unfolding strong_of
strong_accounts G k = refl

pub strong_fewer : (G : Graph) (k : ℕ) → size (strong_of G k) ≤ size G
unfolding strong_of
strong_fewer G k = filter-length (is_strong G k) G.links

module _ (G : Graph) (o : InOrder G) (k : ℕ) where
  pub strong_member : (e : Link) → member (strong_of G k).links e ≡ true → (member G.links e ≡ true) × (k ≤ strength G e)
  unfolding strong_of
  strong_member e h = let r = member_filter (is_strong G k) G.links e h in (r.0, leb-true k (strength G e) r.1)

  pub member_strong : (e : Link) → member G.links e ≡ true → k ≤ strength G e → member (strong_of G k).links e ≡ true
  unfolding strong_of
  member_strong e h l = filter-member (is_strong G k) G.links e h (le-leb k (strength G e) l)

  sorted : Sorted (λ (e f : Link). link_before e f ≡ true) G.links
  sorted = sorted_of (λ (e f : Link). link_before e f ≡ true) (link 0 0) G.links o.rises

  distinct : Distinct G.links
  distinct = sorted_of (λ (e f : Link). e ≢ f) (link 0 0) G.links (λ i j l m q. clash (order_of G o i j l m) q)
    where
      clash : {e f : Link} → LinkOrder e f → e ≡ f → ⊥
      clash (lower p) q = omega (arith, p, ap (λ (l : Link). l.lo) q)
      clash (tied p r) q = omega (arith, r, ap (λ (l : Link). l.hi) q)

  pub strong_order : InOrder (strong_of G k)
  unfolding strong_of link_number
  strong_order = record {
    proper = record {
      ordered = λ e h. o.proper.ordered e (strong_member e h).0;
      below = λ e h. o.proper.below e (strong_member e h).0;
      numbered = λ i l. position_of (filter (is_strong G k) G.links) (link 0 0) (filter-sorted (λ (e f : Link). e ≢ f) (is_strong G k) G.links distinct) i l;
    };
    rises = λ i j l m. sorted_at (λ (e f : Link). link_before e f ≡ true) (link 0 0) (filter (is_strong G k) G.links) (filter-sorted (λ (e f : Link). link_before e f ≡ true) (is_strong G k) G.links sorted) i j l m;
  }

  pub strong_heavy : (t : Triangle) → StrongTriangle G k t → IsTriangle (member (strong_of G k).links) t
  strong_heavy t s = record {
    has_ab = member_strong (side_ab t) s.is_triangle.has_ab (at_least_strength G k (side_ab t) s.ab_strong);
    has_ac = member_strong (side_ac t) s.is_triangle.has_ac (at_least_strength G k (side_ac t) s.ac_strong);
    has_bc = member_strong (side_bc t) s.is_triangle.has_bc (at_least_strength G k (side_bc t) s.bc_strong);
  }

  pub heavy_strong : (t : Triangle) → IsTriangle (member (strong_of G k).links) t → StrongTriangle G k t
  heavy_strong t i =
      let ab = strong_member (side_ab t) i.has_ab in
      let ac = strong_member (side_ac t) i.has_ac in
      let bc = strong_member (side_bc t) i.has_bc in
      record {
        is_triangle = record { has_ab = ab.0; has_ac = ac.0; has_bc = bc.0 };
        ab_strong = strength_at_least G k (side_ab t) ab.0 ab.1;
        ac_strong = strength_at_least G k (side_ac t) ac.0 ac.1;
        bc_strong = strength_at_least G k (side_bc t) bc.0 bc.1;
      }

-- ---- those among the first i links

module _ (G : Graph) (k : ℕ) where
  unfoldable pub strong_to : ℕ → List Link
  strong_to i = filter (is_strong G k) (take i G.links)

  pub strong_none : strong_to 0 ≡ []
  unfolding strong_to filter
  strong_none = refl

  pub strong_all : (m : ℕ) → size G ≡ m → strong_to m ≡ (strong_of G k).links
  unfolding strong_to strong_of
  strong_all m q = ap (filter (is_strong G k)) (take_all m G.links (omega (arith, q)))

  pub strong_within : (i : ℕ) → length (strong_to i) ≤ size (strong_of G k)
  unfolding strong_to strong_of
  strong_within i =
      let split : filter (is_strong G k) (take i G.links) ++ filter (is_strong G k) (drop i G.links) ≡ filter (is_strong G k) G.links =
      sym (filter-append (is_strong G k) (take i G.links) (drop i G.links)) ∙ ap (filter (is_strong G k)) (take-append-drop i G.links) in
      omega (arith, sym (length-append (filter (is_strong G k) (take i G.links)) (filter (is_strong G k) (drop i G.links))) ∙ ap length split)

  next : (i : ℕ) → i < size G → strong_to (i + 1) ≡ strong_to i ++ filter (is_strong G k) (link_at G i ∷ [])
  unfolding strong_to
  next i l =
      let one : i + 1 ≡ suc i = omega arith in
      ap (λ (j : ℕ). filter (is_strong G k) (take j G.links)) one ∙ ap (filter (is_strong G k)) (take-suc G.links i (link 0 0) l)
      ∙ filter-append (is_strong G k) (take i G.links) (link_at G i ∷ [])

  pub strong_skip : (i : ℕ) → i < size G → strength_at G i < k → strong_to (i + 1) ≡ strong_to i
  unfolding filter
  strong_skip i l weak = next i l ∙ rw (lt-leb k (strength G (link_at G i)) weak) (append-nil (strong_to i))

  pub strong_take : (i : ℕ) → i < size G → k ≤ strength_at G i → strong_to (i + 1) ≡ strong_to i ++ (link_at G i ∷ [])
  unfolding filter
  strong_take i l s = next i l ∙ rw (le-leb k (strength G (link_at G i)) s) refl

  pub strong_count : (i : ℕ) → i < size G → k ≤ strength_at G i → length (strong_to (i + 1)) ≡ length (strong_to i) + 1
  strong_count i l s = ap length (strong_take i l s) ∙ length-append (strong_to i) (link_at G i ∷ [])

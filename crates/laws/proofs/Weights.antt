-- The weights of a graph's joins: from 3 to n + 2, and each strength from 3 on is one of them.
use mathlib.Core.Path.{◌≡◌, refl, sym, ap, ◌∙◌}
use mathlib.Core.Logic.{◌⊎◌, inl, inr}
use mathlib.Core.Bool.{Bool, true, false, ◌&&◌, ◌||◌}
use mathlib.Core.List.Memᴰ.{head as here}
use mathlib.Core.List.{Memᴰ as In}
use Prim.Native.Nat.{ℕ, ◌+◌, ◌≤◌, ◌<◌, min, max}
use native.Mathlib.Nat.{le_refl}
use native.Mathlib.Omega.{arith}
use Rattle.truss.specs.Graph.{Link, LinkSet, Graph, Triangle, IsTriangle, Has, is_ab, is_ac, is_bc, side_ab, side_ac, side_bc, link, same_link, member, link_number, link_at, support, triangles}
use Rattle.truss.specs.Strength.{IsTruss, strength, weight}
use Rattle.truss.specs.Chain.{StrongTriangle}
use Rattle.truss.specs.Forest.{Join, join, join_before, triangle_joins, all_joins}
use Rattle.laws.proofs.Lists.{true_not_false, or_cases, both, same_link_eq, same_link_refl}
use Rattle.laws.proofs.Members.{in_concat_map, in_sort, number_lt, link_of_number}
use Rattle.laws.proofs.Peeling.{strength_is, strength_at_most}
use Rattle.laws.proofs.Chains.{link_ordered, strength_at_least, strong_of_weight, in_strong_triangle, weight_of_strong}
use Rattle.laws.proofs.Connected.{in_triangles}
use Rattle.laws.proofs.Groups.{size, strength_at}
use Rattle.laws.proofs.Size.{count-fewer}
use Rattle.laws.proofs.Sides.{InOrder, Sides, sides_weight, weight-first, at_link, ends-order, join_of}

-- ---- the links of a triangle are a 3-truss

module _ (G : Graph) (o : InOrder G) {e f g : ℕ} (s : Sides G e f g) where
  a : ℕ
  a = (link_at G e).lo

  b : ℕ
  b = (link_at G e).hi

  c : ℕ
  c = (link_at G f).hi

  E : Link
  E = link_at G e

  F : Link
  F = link_at G f

  H : Link
  H = link_at G g

  a<b : a < b
  unfolding a b
  a<b = ends-order G o e s.e_in

  b<c : b < c
  unfolding b c
  b<c = omega (arith, s.middle, s.high, ends-order G o g s.g_in)

  three : LinkSet
  three x = same_link x E || (same_link x F || same_link x H)

  has_e : three E ≡ true
  unfolding three
  has_e = rw (same_link_refl E)

  has_f : three F ≡ true
  unfolding three
  has_f = rw (same_link_refl F) (or_true (same_link F E))
    where
      or_true : (x : Bool) → (x || true) ≡ true
      or_true true = refl
      or_true false = refl

  has_h : three H ≡ true
  unfolding three
  has_h = rw (same_link_refl H) (or_true (same_link H E) (same_link H F))
    where
      or_true : (x y : Bool) → (x || (y || true)) ≡ true
      or_true true y = refl
      or_true false true = refl
      or_true false false = refl

  -- the three links by their accounts
  as_e : link a b ≡ E
  unfolding a b E
  as_e = link_ordered (link_at G e).lo (link_at G e).hi (omega (arith, ends-order G o e s.e_in))

  as_f : link a c ≡ F
  unfolding a c F
  as_f = link_ordered (link_at G e).lo (link_at G f).hi (omega (arith, s.low, ends-order G o f s.f_in)) ∙ (let p = sym s.low in λ t. record { lo = p t; hi = (link_at G f).hi })

  as_h : link b c ≡ H
  unfolding b c H
  as_h = link_ordered (link_at G e).hi (link_at G f).hi (omega (arith, s.middle, s.high, ends-order G o g s.g_in)) ∙ (let p = sym s.middle in let q = sym s.high in λ t. record { lo = p t; hi = q t })

  swap : (x y : ℕ) → link x y ≡ link y x
  swap x y = let p : min x y ≡ min y x = omega arith in let q : max x y ≡ max y x = omega arith in λ t. record { lo = p t; hi = q t }

  -- a link with a third account has support
  supported : (x : Link) (z : ℕ) → z < G.n → three (link x.lo z) ≡ true → three (link x.hi z) ≡ true → 1 ≤ support G.n three x
  unfolding support
  supported x z l p q =
      omega (arith, count-fewer (λ y. false) (λ y. three (link x.lo y) && three (link x.hi y)) G.n (λ i k t. absurd (true_not_false t refl)) z l (both p q) refl)

  c<n : c < G.n
  unfolding c
  c<n = o.proper.below (link_at G f) (at_link G o f s.f_in)

  held_e : 1 ≤ support G.n three E
  unfolding E a b c
  held_e = supported E c c<n (ap three as_f ∙ has_f) (ap three as_h ∙ has_h)

  held_f : 1 ≤ support G.n three F
  unfolding F a b c
  held_f =
      supported F b (omega (arith, b<c, c<n)) (ap (λ (z : ℕ). three (link z b)) s.low ∙ ap three as_e ∙ has_e)
      (ap three (swap c b ∙ as_h) ∙ has_h)

  held_h : 1 ≤ support G.n three H
  unfolding H a b c
  held_h =
      supported H a (omega (arith, a<b, b<c, c<n)) (ap (λ (z : ℕ). three (link z a)) s.middle ∙ ap three (swap b a ∙ as_e) ∙ has_e)
      (ap (λ (z : ℕ). three (link z a)) s.high ∙ ap three (swap c a ∙ as_f) ∙ has_f)

  which : (x : Link) → three x ≡ true → (x ≡ E) ⊎ ((x ≡ F) ⊎ (x ≡ H))
  unfolding three
  which x h = at_first (or_cases (same_link x E) (same_link x F || same_link x H) h)
    where
      at_second : (same_link x F ≡ true) ⊎ (same_link x H ≡ true) → (x ≡ E) ⊎ ((x ≡ F) ⊎ (x ≡ H))
      at_second (inl p) = inr (inl (same_link_eq x F p))
      at_second (inr p) = inr (inr (same_link_eq x H p))

      at_first : (same_link x E ≡ true) ⊎ ((same_link x F || same_link x H) ≡ true) → (x ≡ E) ⊎ ((x ≡ F) ⊎ (x ≡ H))
      at_first (inl p) = inl (same_link_eq x E p)
      at_first (inr p) = at_second (or_cases (same_link x F) (same_link x H) p)

  is_truss : IsTruss G 3 three
  unfolding E F H
  is_truss = record { within = λ x h. member_of x (which x h); held = λ x h. held_of x (which x h) }
    where
      member_of : (x : Link) → (x ≡ E) ⊎ ((x ≡ F) ⊎ (x ≡ H)) → member G.links x ≡ true
      member_of x (inl q) = ap (member G.links) q ∙ at_link G o e s.e_in
      member_of x (inr (inl q)) = ap (member G.links) q ∙ at_link G o f s.f_in
      member_of x (inr (inr q)) = ap (member G.links) q ∙ at_link G o g s.g_in

      held_of : (x : Link) → (x ≡ E) ⊎ ((x ≡ F) ⊎ (x ≡ H)) → 3 ≤ 2 + support G.n three x
      held_of x (inl q) = omega (arith, ap (support G.n three) q, held_e)
      held_of x (inr (inl q)) = omega (arith, ap (support G.n three) q, held_f)
      held_of x (inr (inr q)) = omega (arith, ap (support G.n three) q, held_h)

  -- a triangle has weight 3 or more
  pub sides-three : 3 ≤ sides_weight G e f g
  unfolding sides_weight E F H
  sides-three =
      omega (
        arith,
        (strength_is G E (at_link G o e s.e_in)).greatest 3 (three, is_truss, has_e),
        (strength_is G F (at_link G o f s.f_in)).greatest 3 (three, is_truss, has_f),
        (strength_is G H (at_link G o g s.g_in)).greatest 3 (three, is_truss, has_h),
      )

module _ (G : Graph) (o : InOrder G) where
  pub triangle-three : (t : Triangle) → IsTriangle (member G.links) t → StrongTriangle G 3 t
  unfolding weight sides_weight
  triangle-three t i = strong_of_weight G 3 t i (omega (arith, sides-three G o numbers, ap (strength G) ab, ap (strength G) ac, ap (strength G) bc))
    where
      ab : link_at G (link_number G (side_ab t)) ≡ side_ab t
      ab = link_of_number G (side_ab t) i.has_ab

      ac : link_at G (link_number G (side_ac t)) ≡ side_ac t
      ac = link_of_number G (side_ac t) i.has_ac

      bc : link_at G (link_number G (side_bc t)) ≡ side_bc t
      bc = link_of_number G (side_bc t) i.has_bc

      numbers : Sides G (link_number G (side_ab t)) (link_number G (side_ac t)) (link_number G (side_bc t))
      numbers = record {
        e_in = number_lt G (side_ab t) i.has_ab;
        f_in = number_lt G (side_ac t) i.has_ac;
        g_in = number_lt G (side_bc t) i.has_bc;
        low = ap (λ (x : Link). x.lo) ac ∙ sym (ap (λ (x : Link). x.lo) ab);
        middle = ap (λ (x : Link). x.lo) bc ∙ sym (ap (λ (x : Link). x.hi) ab);
        high = ap (λ (x : Link). x.hi) bc ∙ sym (ap (λ (x : Link). x.hi) ac);
      }

  pub join-three : {y : Join} → In y (all_joins G) → 3 ≤ y.weight
  join-three {y} m = let r = join_of G o m in omega (arith, r.weighs, sides-three G o r.sides)

  pub join_most : {y : Join} → In y (all_joins G) → y.weight ≤ 2 + G.n
  join_most {y} m = let r = join_of G o m in omega (arith, r.weighs, weight-first G r.e r.f r.g, strength_at_most G (link_at G r.e))

  -- a link of strength 3 or more is in a triangle of that weight
  pub strength-join : (i : ℕ) → i < size G → 3 ≤ strength_at G i → (y : Join) × In y (all_joins G) × (y.weight ≡ strength_at G i)
  unfolding all_joins triangle_joins weight
  strength-join i l three = at (in_strong_triangle G (strength_at G i) o.proper three (link_at G i) (strength_at_least G (strength_at G i) (link_at G i) (at_link G o i l) (le_refl (strength_at G i))))
    where
      low : (t : Triangle) → Has t (link_at G i) → weight G t ≤ strength_at G i
      low t (is_ab q) = omega (arith, ap (strength G) q)
      low t (is_ac q) = omega (arith, ap (strength G) q)
      low t (is_bc q) = omega (arith, ap (strength G) q)

      at : (t : Triangle) × StrongTriangle G (strength_at G i) t × Has t (link_at G i) → (y : Join) × In y (all_joins G) × (y.weight ≡ strength_at G i)
      at (t, s, h) = (
        join (link_number G (side_ab t)) (link_number G (side_ac t)) (weight G t),
        in_sort join_before _ (in_concat_map (triangle_joins G) (triangles G) (in_triangles G o.proper t s.is_triangle) (here refl)),
        omega (arith, low t h, weight_of_strong G (strength_at G i) t s),
      )

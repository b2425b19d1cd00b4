-- Triangles by a link and a third account, in a graph whose links have their lower account first. Assumes nothing.
use Rattle.std.specs.Prelude.{◌≡◌, refl, ◌⊎◌, ◌≢◌, true, cond, ℕ, ◌+◌, ◌*◌, ◌≤◌, ◌<◌, ltb}
use Rattle.std.proofs.Common.{sym, ap, ◌∙◌, subst, inl, inr, arith, lt-ltb, le-ltb}
use Rattle.truss.specs.Graph.{Link, Graph, Triangle, IsTriangle, Has, is_ab, is_ac, is_bc, side_ab, side_ac, side_bc, link, member}
use Rattle.laws.proofs.Numbers.{less_or_not}
use Rattle.laws.proofs.Proper.{Proper}
use Rattle.laws.proofs.ProperLinks.{not_self}
use Rattle.laws.proofs.Lowering.{link_is, link_sym, link-ends}
use Rattle.laws.proofs.Shortest.{Earlier, by_a, by_b, by_c}
use Rattle.laws.proofs.ShortestRoom.{Rises}
use Rattle.columns.specs.Columns.{HALF}

-- the triangle has link e, and z is its third account
pub data On (t : Triangle) (e : Link) (z : ℕ) : Type 0 where
  on_ab : e ≡ side_ab t → z ≡ t.c → On t e z
  on_ac : e ≡ side_ac t → z ≡ t.b → On t e z
  on_bc : e ≡ side_bc t → z ≡ t.a → On t e z

pub on_has : {t : Triangle} {e : Link} {z : ℕ} → On t e z → Has t e
on_has (on_ab q r) = is_ab q
on_has (on_ac q r) = is_ac q
on_has (on_bc q r) = is_bc q

pub has_on : {t : Triangle} {e : Link} → Has t e → (z : ℕ) × On t e z
has_on {t} (is_ab q) = (t.c, on_ab q refl)
has_on {t} (is_ac q) = (t.b, on_ac q refl)
has_on {t} (is_bc q) = (t.a, on_bc q refl)

-- one of the three links of a, b and c, with the account that it leaves
pub data OneOf (a b c : ℕ) (e : Link) (z : ℕ) : Type 0 where
  ab_c : e ≡ link a b → z ≡ c → OneOf a b c e z
  ac_b : e ≡ link a c → z ≡ b → OneOf a b c e z
  bc_a : e ≡ link b c → z ≡ a → OneOf a b c e z

-- t is the triangle of the accounts a, b and c, in whatever order
pub record Corner (t : Triangle) (a b c : ℕ) : Type 0 where
  pub ab : On t (link a b) c
  pub ac : On t (link a c) b
  pub bc : On t (link b c) a
  pub only : (e : Link) (z : ℕ) → On t e z → OneOf a b c e z

pub corner_swap : {t : Triangle} {a b c : ℕ} → Corner t a b c → Corner t b a c
corner_swap {t} {a} {b} {c} C = record {
  ab = subst (λ (e : Link). On t e c) (link_sym a b) C.ab;
  ac = C.bc;
  bc = C.ac;
  only = λ e z o. go (C.only e z o);
}
  where
    go : {e : Link} {z : ℕ} → OneOf a b c e z → OneOf b a c e z
    go (ab_c q r) = ab_c (q ∙ link_sym a b) r
    go (ac_b q r) = bc_a q r
    go (bc_a q r) = ac_b q r

pub corner_turn : {t : Triangle} {a b c : ℕ} → Corner t a b c → Corner t a c b
corner_turn {t} {a} {b} {c} C = record {
  ab = C.ac;
  ac = C.ab;
  bc = subst (λ (e : Link). On t e a) (link_sym b c) C.bc;
  only = λ e z o. go (C.only e z o);
}
  where
    go : {e : Link} {z : ℕ} → OneOf a b c e z → OneOf a c b e z
    go (ab_c q r) = ac_b q r
    go (ac_b q r) = ab_c q r
    go (bc_a q r) = bc_a (q ∙ link_sym b c) r

-- a link with its lower account first
low-high : (a b : ℕ) → a < b → record { lo = a; hi = b } ≡ link a b
low-high a b l = link_is (record { lo = a; hi = b }) (link a b) (omega arith) (omega arith)

pub corner-own : (t : Triangle) → Rises t → Corner t t.a t.b t.c
corner-own t r = record {
  ab = on_ab (sym AB) refl;
  ac = on_ac (sym Ac) refl;
  bc = on_bc (sym BC) refl;
  only = λ e z o. go o;
}
  where
    AB : side_ab t ≡ link t.a t.b
    AB = low-high t.a t.b r.ab

    Ac : side_ac t ≡ link t.a t.c
    Ac = low-high t.a t.c (omega (arith, r.ab, r.bc))

    BC : side_bc t ≡ link t.b t.c
    BC = low-high t.b t.c r.bc

    go : {e : Link} {z : ℕ} → On t e z → OneOf t.a t.b t.c e z
    go (on_ab q s) = ab_c (q ∙ AB) s
    go (on_ac q s) = ac_b (q ∙ Ac) s
    go (on_bc q s) = bc_a (q ∙ BC) s

-- so a triangle that has the link of a and b is that of a, b and its third account
pub corner_at : (t : Triangle) → Rises t → (a b z : ℕ) → On t (link a b) z → Corner t a b z
corner_at t r a b z (on_ab q s) = rw s (go (link-ends a b t.a t.b (q ∙ low-high t.a t.b r.ab)))
  where
    go : ((a ≡ t.a) × (b ≡ t.b)) ⊎ ((a ≡ t.b) × (b ≡ t.a)) → Corner t a b t.c
    go (inl (p, p')) = rw (p, p') (corner-own t r)
    go (inr (p, p')) = rw (p, p') (corner_swap (corner-own t r))
corner_at t r a b z (on_ac q s) = rw s (go (link-ends a b t.a t.c (q ∙ low-high t.a t.c (omega (arith, r.ab, r.bc)))))
  where
    go : ((a ≡ t.a) × (b ≡ t.c)) ⊎ ((a ≡ t.c) × (b ≡ t.a)) → Corner t a b t.b
    go (inl (p, p')) = rw (p, p') (corner_turn (corner-own t r))
    go (inr (p, p')) = rw (p, p') (corner_swap (corner_turn (corner-own t r)))
corner_at t r a b z (on_bc q s) = rw s (go (link-ends a b t.b t.c (q ∙ low-high t.b t.c r.bc)))
  where
    go : ((a ≡ t.b) × (b ≡ t.c)) ⊎ ((a ≡ t.c) × (b ≡ t.b)) → Corner t a b t.a
    go (inl (p, p')) = rw (p, p') (corner_turn (corner_swap (corner-own t r)))
    go (inr (p, p')) = rw (p, p') (corner_swap (corner_turn (corner_swap (corner-own t r))))

-- ---- the triangle of a link and a third account

abbrev three : ℕ → ℕ → ℕ → Triangle
three a b c = record { a = a; b = b; c = c }

-- the accounts of the link u-v, u < v, and z, in order
unfoldable pub sorted : ℕ → ℕ → ℕ → Triangle
sorted u v z = cond (ltb z u) (three z u v) (cond (ltb z v) (three u z v) (three u v z))

pub on_sorted : (t : Triangle) → Rises t → {e : Link} {z : ℕ} → On t e z → t ≡ sorted e.lo e.hi z
unfolding sorted
on_sorted t r {e} {z} (on_ab q s) =
    let u : e.lo ≡ t.a = ap (λ (l : Link). l.lo) q in
    let v : e.hi ≡ t.b = ap (λ (l : Link). l.hi) q in
    rw (u, v, s, le-ltb t.c t.a (omega (arith, r.ab, r.bc)), le-ltb t.c t.b (omega (arith, r.bc))) refl
on_sorted t r {e} {z} (on_ac q s) =
    let u : e.lo ≡ t.a = ap (λ (l : Link). l.lo) q in
    let v : e.hi ≡ t.c = ap (λ (l : Link). l.hi) q in
    rw (u, v, s, le-ltb t.b t.a (omega (arith, r.ab)), lt-ltb t.b t.c r.bc) refl
on_sorted t r {e} {z} (on_bc q s) =
    let u : e.lo ≡ t.b = ap (λ (l : Link). l.lo) q in
    let v : e.hi ≡ t.c = ap (λ (l : Link). l.hi) q in
    rw (u, v, s, lt-ltb t.a t.b r.ab) refl

-- of two triangles on one link the one with the lower third account comes first
pub third_order : (t u : Triangle) → Rises t → Rises u → {e : Link} {y z : ℕ} → On t e y → On u e z → y < z → Earlier t u
third_order t u r s {e} (on_ab p q) (on_ab p' q') l = by_c (sym (lo p) ∙ lo p') (sym (hi p) ∙ hi p') (omega (arith, q, q', l))
  where
    lo : {f : Link} → e ≡ f → e.lo ≡ f.lo
    lo h = ap (λ (x : Link). x.lo) h

    hi : {f : Link} → e ≡ f → e.hi ≡ f.hi
    hi h = ap (λ (x : Link). x.hi) h
third_order t u r s {e} (on_ab p q) (on_ac p' q') l = absurd (omega (arith, q, q', l, r.bc, s.bc, ap (λ (x : Link). x.hi) p, ap (λ (x : Link). x.hi) p'))
third_order t u r s {e} (on_ab p q) (on_bc p' q') l = absurd (omega (arith, q, q', l, r.ab, r.bc, s.ab, ap (λ (x : Link). x.lo) p, ap (λ (x : Link). x.lo) p'))
third_order t u r s {e} (on_ac p q) (on_ab p' q') l =
    by_b (sym (ap (λ (x : Link). x.lo) p) ∙ ap (λ (x : Link). x.lo) p') (omega (arith, r.bc, ap (λ (x : Link). x.hi) p, ap (λ (x : Link). x.hi) p'))
third_order t u r s {e} (on_ac p q) (on_ac p' q') l = by_b (sym (ap (λ (x : Link). x.lo) p) ∙ ap (λ (x : Link). x.lo) p') (omega (arith, q, q', l))
third_order t u r s {e} (on_ac p q) (on_bc p' q') l = absurd (omega (arith, q, q', l, r.ab, s.ab, ap (λ (x : Link). x.lo) p, ap (λ (x : Link). x.lo) p'))
third_order t u r s {e} (on_bc p q) (on_ab p' q') l = by_a (omega (arith, r.ab, ap (λ (x : Link). x.lo) p, ap (λ (x : Link). x.lo) p'))
third_order t u r s {e} (on_bc p q) (on_ac p' q') l = by_a (omega (arith, r.ab, ap (λ (x : Link). x.lo) p, ap (λ (x : Link). x.lo) p'))
third_order t u r s {e} (on_bc p q) (on_bc p' q') l = by_a (omega (arith, q, q', l))

pub third_same : (t u : Triangle) → Rises t → Rises u → {e : Link} {z : ℕ} → On t e z → On u e z → t ≡ u
third_same t u r s o o' = on_sorted t r o ∙ sym (on_sorted u s o')

module _ (G : Graph) (proper : Proper G) where
  pub on_member : {t : Triangle} → IsTriangle (member G.links) t → {e : Link} {z : ℕ} → On t e z → member G.links e ≡ true
  on_member i (on_ab q r) = ap (member G.links) q ∙ i.has_ab
  on_member i (on_ac q r) = ap (member G.links) q ∙ i.has_ac
  on_member i (on_bc q r) = ap (member G.links) q ∙ i.has_bc

  -- three accounts with all three links
  rising : (a b c : ℕ) → a < b → b < c → member G.links (link a b) ≡ true → member G.links (link a c) ≡ true → member G.links (link b c) ≡ true
      → (t : Triangle) × IsTriangle (member G.links) t × Corner t a b c
  rising a b c p q ab ac bc = (
    three a b c,
    record {
      has_ab = ap (member G.links) (low-high a b p) ∙ ab;
      has_ac = ap (member G.links) (low-high a c (omega arith)) ∙ ac;
      has_bc = ap (member G.links) (low-high b c q) ∙ bc;
    },
    corner-own (three a b c) (record { ab = p; bc = q }),
  )

  turned : (a b : ℕ) → member G.links (link a b) ≡ true → member G.links (link b a) ≡ true
  turned a b h = ap (member G.links) (link_sym b a) ∙ h

  pub corner_of : (a b c : ℕ) → member G.links (link a b) ≡ true → member G.links (link a c) ≡ true → member G.links (link b c) ≡ true
      → (t : Triangle) × IsTriangle (member G.links) t × Corner t a b c
  corner_of a b c ab ac bc = go (less_or_not a b) (less_or_not a c) (less_or_not b c)
    where
      n_ab : b ≢ a
      n_ab = not_self G proper a b ab

      n_ac : c ≢ a
      n_ac = not_self G proper a c ac

      n_bc : c ≢ b
      n_bc = not_self G proper b c bc

      go : (a < b) ⊎ (b ≤ a) → (a < c) ⊎ (c ≤ a) → (b < c) ⊎ (c ≤ b) → (t : Triangle) × IsTriangle (member G.links) t × Corner t a b c
      go (inl p) v (inl q) = rising a b c p q ab ac bc
      go (inl p) (inl v) (inr q) = let r = rising a c b v (omega (arith, q, n_bc)) ac ab (turned b c bc) in (r.0, r.1, corner_turn r.2)
      go (inl p) (inr v) (inr q) = let r = rising c a b (omega (arith, v, n_ac)) p (turned a c ac) (turned b c bc) ab in (r.0, r.1, corner_turn (corner_swap r.2))
      go (inr p) (inl v) q = let r = rising b a c (omega (arith, p, n_ab)) v (turned a b ab) bc ac in (r.0, r.1, corner_swap r.2)
      go (inr p) (inr v) (inl q) = let r = rising b c a q (omega (arith, v, n_ac)) bc (turned a b ab) (turned a c ac) in (r.0, r.1, corner_swap (corner_turn r.2))
      go (inr p) (inr v) (inr q) =
          let r = rising c b a (omega (arith, q, n_bc)) (omega (arith, p, n_ab)) (turned b c bc) (turned a c ac) (turned a b ab) in
          (r.0, r.1, corner_swap (corner_turn (corner_swap r.2)))

-- ---- a triangle as a number that rises by accounts

unfoldable pub code : Triangle → ℕ
code t = (t.a * HALF + t.b) * HALF + t.c

pub record Fits (t : Triangle) : Type 0 where
  pub b : t.b < HALF
  pub c : t.c < HALF

pub code-order : (t u : Triangle) → Fits t → Fits u → Earlier t u → code t < code u
unfolding code
code-order t u f g (by_a p) = omega (arith, f.b, f.c, g.b, g.c, p)
code-order t u f g (by_b p q) = omega (arith, f.b, f.c, g.b, g.c, p, q)
code-order t u f g (by_c p q r) = omega (arith, f.b, f.c, g.b, g.c, p, q, r)

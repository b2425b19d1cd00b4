-- The chain that the search leaves: from each link the triangle of its entry, then on from one of its links that is one nearer, the one whose triangle comes
-- first. It is the first of the shortest chains; and where link e is not reached there is none. G is the graph of the links of strength at least k of another
-- one, so that its triangles are those of weight at least k there. Assumes nothing.
use Rattle.std.specs.Prelude.{◌≡◌, ◌⊎◌, ◌≢◌, true, false, cond, eqb, ltb, length}
use Rattle.std.proofs.Math.Path.{refl, sym, ap, subst}
use Rattle.std.proofs.Common.{◌∙◌, inl, inr, arith, eqb-true, ltb-true, ltb-false}
use mathlib.Core.List.{List, [], ◌∷◌}
use Prim.Native.Nat.{ℕ, zero, suc, ◌+◌, ◌≤◌, ◌<◌, ◌/◌, ◌%◌}
use Rattle.std.proofs.lemmas.Bool.{eqb-false}
use Rattle.truss.specs.Graph.{Link, Graph, Triangle, Has, member, link_at, link_number}
use Rattle.truss.specs.Chain.{StrongTriangle}
use Rattle.truss.specs.Shortest.{IsChain, one_triangle, and_on, chain_before, IsShortestFirst}
use Rattle.laws.proofs.Lists.{test}
use Rattle.laws.proofs.Members.{number_lt, link_of_number}
use Rattle.laws.proofs.Numbers.{less_or_not, same_or_not}
use Rattle.laws.proofs.Proper.{Proper}
use Rattle.laws.proofs.Shortest.{Earlier, either_before, later_first, same_first}
use Rattle.laws.proofs.ShortestRoom.{Rises, triangle_rises}
use Rattle.columns.specs.Columns.{HALF}
use Rattle.chain.specs.Corners.{On, on_ab, on_ac, on_bc, on_has, has_on, on_sorted, on_member, sorted, third_order, third_same, Fits, code, code-order}
use Rattle.chain.specs.Wave.{dist, IsTri, Why, has_f, by_first, by_second, Reason, Spread, Led}

-- the triangle of a link's entry
abbrev pub triangle_at : Graph → (ℕ → ℕ) → ℕ → Triangle
triangle_at G X x = sorted (link_at G x).lo (link_at G x).hi (X x % HALF)

abbrev near_of : Graph → (ℕ → ℕ) → ℕ → ℕ → ℕ → ℕ
near_of G X g h d =
    cond (eqb (dist X g) d) (cond (eqb (dist X h) d) (cond (ltb (code (triangle_at G X h)) (code (triangle_at G X g))) h g) g) h

-- of its other two links one at distance d, that with the first triangle
unfoldable pub chosen : Graph → (ℕ → ℕ) → (ℕ → ℕ) → ℕ → ℕ → ℕ
chosen G X R x d = near_of G X (R x / HALF) (R x % HALF) d

-- the chain of d triangles from link x
unfoldable pub followed : Graph → (ℕ → ℕ) → (ℕ → ℕ) → ℕ → ℕ → List Triangle
followed G X R zero x = []
followed G X R (suc d) x = triangle_at G X x ∷ followed G X R d (chosen G X R x d)

pub followed-length : (G : Graph) (X R : ℕ → ℕ) (d x : ℕ) → length (followed G X R d x) ≡ d
unfolding followed
followed-length G X R zero x = refl
followed-length G X R (suc d) x = ap suc (followed-length G X R d (chosen G X R x d))

module _ {G : Graph} {f e m : ℕ} {X R : ℕ → ℕ} (proper : Proper G) (count : length G.links ≡ m) (tiny : G.n ≤ HALF) (L : Led G f e m X R) where
  number_at : (y : ℕ) → y < m → link_number G (link_at G y) ≡ y
  number_at y l = proper.numbered y (omega (arith, count, l))

  has_member : {t : Triangle} {l : Link} → IsTri G t → Has t l → member G.links l ≡ true
  has_member i h = on_member G proper i (has_on h).1

  number_in : {t : Triangle} {l : Link} → IsTri G t → Has t l → link_number G l < m
  number_in {t} {l} i h = omega (arith, number_lt G l (has_member i h), count)

  at_number : {t : Triangle} {l : Link} → IsTri G t → Has t l → link_at G (link_number G l) ≡ l
  at_number {t} {l} i h = link_of_number G l (has_member i h)

  -- accounts are small
  fits : (t : Triangle) → IsTri G t → Fits t
  fits t i =
      let r = triangle_rises G proper t i in
      record { b = omega (arith, r.bc, proper.below _ i.has_bc, tiny); c = omega (arith, proper.below _ i.has_bc, tiny) }

  third_small : {t : Triangle} {l : Link} {z : ℕ} → IsTri G t → On t l z → z < HALF
  third_small {t} i (on_ab q r) = omega (arith, r, (fits t i).c)
  third_small {t} i (on_ac q r) = omega (arith, r, (fits t i).b)
  third_small {t} i (on_bc q r) = omega (arith, r, (fits t i).b, (triangle_rises G proper t i).ab)

  -- the spread of link y reaches what shares a triangle with it
  spread_dist : (d y : ℕ) {t : Triangle} {l : Link} → Spread G X d y → IsTri G t → Has t (link_at G y) → Has t l → (X (link_number G l) ≢ 0) × (dist X (link_number G l) ≤ d)
  spread_dist d y {t} {l} S i hy hl =
      let o = has_on hl in
      let b = S t i hy l o.0 o.1 in
      let s = third_small i o.1 in
      (b.0, omega (arith, b.1, s))

  -- ---- the entry of a link

  module _ (x : ℕ) (xl : x < m) (xn : X x ≢ 0) where
    W : Reason G f m X R x
    W = L.sound x xl xn

    at_is : W.t ≡ triangle_at G X x
    at_is = on_sorted W.t (triangle_rises G proper W.t W.step.is) W.step.on

    at_tri : IsTri G (triangle_at G X x)
    at_tri = subst (IsTri G) at_is W.step.is

    at_on : On (triangle_at G X x) (link_at G x) (X x % HALF)
    at_on = subst (λ (t : Triangle). On t (link_at G x) (X x % HALF)) at_is W.step.on

    -- there is a link that is one nearer, unless the triangle has f
    abbrev g : ℕ
    g = R x / HALF

    abbrev h : ℕ
    h = R x % HALF

    nearer_one : (d : ℕ) → dist X x ≡ suc d → 1 ≤ d → ((X g ≢ 0) × (dist X g ≡ d)) ⊎ ((X h ≢ 0) × (dist X h ≡ d))
    nearer_one d q l = go W.why
      where
        go : Why G f X W.t (dist X x) g h → ((X g ≢ 0) × (dist X g ≡ d)) ⊎ ((X h ≢ 0) × (dist X h ≡ d))
        go (has_f a r) = absurd (omega (arith, q, l, r))
        go (by_first a r) = inl (a, omega (arith, q, r))
        go (by_second a r) = inr (a, omega (arith, q, r))

    -- the link chosen is at distance d, and no link of the triangle at that distance has an earlier triangle
    pub chosen_in : (d : ℕ) → dist X x ≡ suc d → 1 ≤ d → (chosen G X R x d < m) × (dist X (chosen G X R x d) ≡ d) × Has (triangle_at G X x) (link_at G (chosen G X R x d))
    unfolding chosen
    chosen_in d q l = go (test (eqb (dist X g) d)) (test (eqb (dist X h) d)) (test (ltb (code (triangle_at G X h)) (code (triangle_at G X g))))
      where
        use_g : dist X g ≡ d → (g < m) × (dist X g ≡ d) × Has (triangle_at G X x) (link_at G g)
        use_g p = (W.step.g_in, p, subst (λ (t : Triangle). Has t (link_at G g)) at_is W.step.has_g)

        use_h : dist X h ≡ d → (h < m) × (dist X h ≡ d) × Has (triangle_at G X x) (link_at G h)
        use_h p = (W.step.h_in, p, subst (λ (t : Triangle). Has t (link_at G h)) at_is W.step.has_h)

        one : ((X g ≢ 0) × (dist X g ≡ d)) ⊎ ((X h ≢ 0) × (dist X h ≡ d)) → eqb (dist X g) d ≡ false → dist X h ≡ d
        one (inl (_, p)) c = absurd (eqb-false (dist X g) d c p)
        one (inr (_, p)) c = p

        go : (eqb (dist X g) d ≡ true) ⊎ (eqb (dist X g) d ≡ false) → (eqb (dist X h) d ≡ true) ⊎ (eqb (dist X h) d ≡ false)
            → (ltb (code (triangle_at G X h)) (code (triangle_at G X g)) ≡ true) ⊎ (ltb (code (triangle_at G X h)) (code (triangle_at G X g)) ≡ false)
            → (near_of G X g h d < m) × (dist X (near_of G X g h d) ≡ d) × Has (triangle_at G X x) (link_at G (near_of G X g h d))
        go (inl a) (inl b) (inl c) = rw (a, b, c) (use_h (eqb-true (dist X h) d b))
        go (inl a) (inl b) (inr c) = rw (a, b, c) (use_g (eqb-true (dist X g) d a))
        go (inl a) (inr b) c = rw (a, b) (use_g (eqb-true (dist X g) d a))
        go (inr a) b c = rw a (use_h (one (nearer_one d q l) a))

    chosen-first : (d : ℕ) → dist X x ≡ suc d → (y : ℕ) → y < m → Has (triangle_at G X x) (link_at G y) → dist X y ≡ d
        → code (triangle_at G X (chosen G X R x d)) ≤ code (triangle_at G X y)
    unfolding chosen
    chosen-first d q y yl hy p = which (W.step.rest (link_at G y) (subst (λ (t : Triangle). Has t (link_at G y)) (sym at_is) hy))
      where
        same : (z : ℕ) → z < m → link_at G y ≡ link_at G z → y ≡ z
        same z zl r = sym (number_at y yl) ∙ ap (link_number G) r ∙ number_at z zl

        at_g : dist X g ≡ d → (eqb (dist X g) d ≡ true) ⊎ (eqb (dist X g) d ≡ false) → (eqb (dist X h) d ≡ true) ⊎ (eqb (dist X h) d ≡ false)
            → (ltb (code (triangle_at G X h)) (code (triangle_at G X g)) ≡ true) ⊎ (ltb (code (triangle_at G X h)) (code (triangle_at G X g)) ≡ false)
            → code (triangle_at G X (near_of G X g h d)) ≤ code (triangle_at G X g)
        at_g r (inl a) (inl b) (inl c) = rw (a, b, c) (let u = ltb-true (code (triangle_at G X h)) (code (triangle_at G X g)) c in omega (arith, u))
        at_g r (inl a) (inl b) (inr c) = rw (a, b, c) (omega arith)
        at_g r (inl a) (inr b) c = rw (a, b) (omega arith)
        at_g r (inr a) b c = absurd (eqb-false (dist X g) d a r)

        at_h : dist X h ≡ d → (eqb (dist X g) d ≡ true) ⊎ (eqb (dist X g) d ≡ false) → (eqb (dist X h) d ≡ true) ⊎ (eqb (dist X h) d ≡ false)
            → (ltb (code (triangle_at G X h)) (code (triangle_at G X g)) ≡ true) ⊎ (ltb (code (triangle_at G X h)) (code (triangle_at G X g)) ≡ false)
            → code (triangle_at G X (near_of G X g h d)) ≤ code (triangle_at G X h)
        at_h r (inl a) (inl b) (inl c) = rw (a, b, c) (omega arith)
        at_h r (inl a) (inl b) (inr c) = rw (a, b, c) (let u = ltb-false (code (triangle_at G X h)) (code (triangle_at G X g)) c in omega (arith, u))
        at_h r (inl a) (inr b) c = absurd (eqb-false (dist X h) d b r)
        at_h r (inr a) b c = rw a (omega arith)

        which : (link_at G y ≡ link_at G x) ⊎ ((link_at G y ≡ link_at G g) ⊎ (link_at G y ≡ link_at G h)) → code (triangle_at G X (near_of G X g h d)) ≤ code (triangle_at G X y)
        which (inl r) = absurd (omega (arith, q, p, ap (dist X) (same x xl r)))
        which (inr (inl r)) =
            let s = same g W.step.g_in r in
            rw s (at_g (sym (ap (dist X) s) ∙ p) (test (eqb (dist X g) d)) (test (eqb (dist X h) d)) (test (ltb (code (triangle_at G X h)) (code (triangle_at G X g)))))
        which (inr (inr r)) =
            let s = same h W.step.h_in r in
            rw s (at_h (sym (ap (dist X) s) ∙ p) (test (eqb (dist X g) d)) (test (eqb (dist X h) d)) (test (ltb (code (triangle_at G X h)) (code (triangle_at G X g)))))

    pub at_fits : Fits (triangle_at G X x)
    at_fits = fits (triangle_at G X x) at_tri

  known : (x d : ℕ) → dist X x ≡ d → 1 ≤ d → X x ≢ 0
  known x d q l z = omega (arith, q, l, z)

  -- ---- the triangles are those of weight at least k of another graph

  module _ (G₀ : Graph) (k : ℕ) (heavy : (t : Triangle) → StrongTriangle G₀ k t → IsTri G t) (strong : (t : Triangle) → IsTri G t → StrongTriangle G₀ k t) where
    -- ---- distances are lengths

    near : {l l' : Link} {us : List Triangle} → IsChain G₀ k l l' us → l' ≡ link_at G f → X e ≢ 0 → length us ≤ dist X e
        → (X (link_number G l) ≢ 0) × (dist X (link_number G l) ≤ length us)
    near (one_triangle t s hl hf) q n r = spread_dist 1 f L.first (heavy t s) (subst (Has t) q hf) hl
    near (and_on {shared = c} {ts = ts} t s hl hc rest) q n r =
        let h = near rest q n (omega arith) in
        let i = heavy t s in
        let S = L.nearer n (link_number G c) (number_in i hc) h.0 (omega (arith, h.1, r)) in
        let b = spread_dist (dist X (link_number G c) + 1) (link_number G c) S i (rw (at_number i hc) hc) hl in
        (b.0, omega (arith, b.1, h.1))

    reached : {l l' : Link} {us : List Triangle} → IsChain G₀ k l l' us → l' ≡ link_at G f → X e ≡ 0 → X (link_number G l) ≢ 0
    reached (one_triangle t s hl hf) q n = (spread_dist 1 f L.first (heavy t s) (subst (Has t) q hf) hl).0
    reached (and_on {shared = c} t s hl hc rest) q n =
        let h = reached rest q n in
        let i = heavy t s in
        let S = L.all n (link_number G c) (number_in i hc) h in
        (spread_dist (dist X (link_number G c) + 1) (link_number G c) S i (rw (at_number i hc) hc) hl).0

    -- no entry, no chain
    pub no_way : e < m → X e ≡ 0 → (us : List Triangle) → IsChain G₀ k (link_at G e) (link_at G f) us → ⊥
    no_way el z us c = reached c refl z (ap X (number_at e el) ∙ z)

    -- ---- it is a chain

    is_way : (d x : ℕ) → x < m → dist X x ≡ suc d → IsChain G₀ k (link_at G x) (link_at G f) (followed G X R (suc d) x)
    unfolding followed
    is_way zero x xl q = let xn : X x ≢ 0 = known x 1 q (omega arith) in go xn (W x xl xn).why
      where
        go : (xn : X x ≢ 0) → Why G f X (W x xl xn).t (dist X x) (R x / HALF) (R x % HALF) → IsChain G₀ k (link_at G x) (link_at G f) (triangle_at G X x ∷ [])
        go xn (has_f hf r) =
            one_triangle (triangle_at G X x) (strong _ (at_tri x xl xn)) (on_has (at_on x xl xn)) (subst (λ (t : Triangle). Has t (link_at G f)) (at_is x xl xn) hf)
        go xn (by_first a r) = absurd (omega (arith, q, r, L.some (R x / HALF) (W x xl xn).step.g_in a))
        go xn (by_second a r) = absurd (omega (arith, q, r, L.some (R x % HALF) (W x xl xn).step.h_in a))
    is_way (suc d) x xl q =
        let xn : X x ≢ 0 = known x (suc (suc d)) q (omega arith) in
        let c = chosen_in x xl xn (suc d) q (omega arith) in
        and_on (triangle_at G X x) (strong _ (at_tri x xl xn)) (on_has (at_on x xl xn)) c.2 (is_way d (chosen G X R x (suc d)) c.0 c.1)

    -- ---- and none comes before it

    -- a triangle on link y whose third account is not below that of y's entry is not before the entry's
    not_before : (u : Triangle) (y : ℕ) → IsTri G u → (yl : y < m) (yn : X y ≢ 0) (z : ℕ) → On u (link_at G y) z → X y % HALF ≤ z → code (triangle_at G X y) ≤ code u
    not_before u y i yl yn z o le = go (same_or_not (X y % HALF) z)
      where
        rises : Rises (triangle_at G X y)
        rises = triangle_rises G proper (triangle_at G X y) (at_tri y yl yn)

        go : (X y % HALF ≡ z) ⊎ (X y % HALF ≢ z) → code (triangle_at G X y) ≤ code u
        go (inl w) = omega (arith, ap code (third_same (triangle_at G X y) u rises (triangle_rises G proper u i) (at_on y yl yn) (rw w o)))
        go (inr w) =
            let b = third_order (triangle_at G X y) u rises (triangle_rises G proper u i) (at_on y yl yn) o (omega (arith, le, w)) in
            omega (arith, code-order (triangle_at G X y) u (fits (triangle_at G X y) (at_tri y yl yn)) (fits u i) b)

    module _ (n : X e ≢ 0) where
      -- the first triangle of a chain from link l that is as short as its distance is not before the one of its entry
      first_after : (d : ℕ) {l l' : Link} {u : Triangle} {us : List Triangle} → IsChain G₀ k l l' (u ∷ us) → l' ≡ link_at G f → length us ≡ d → suc d ≤ dist X e
          → dist X (link_number G l) ≡ suc d → code (triangle_at G X (link_number G l)) ≤ code u
      first_after d {l} (one_triangle u s hl hf) q r top at =
          let i = heavy u s in
          let o = has_on hl in
          let b = L.first u i (subst (Has u) q hf) l o.0 o.1 in
          not_before u (link_number G l) i (number_in i hl) b.0 o.0 (rw (at_number i hl) o.1) (omega (arith, b.1, at, r, third_small i o.1))
      first_after d {l} (and_on {shared = c} u s hl hc rest) q r top at =
          let i = heavy u s in
          let o = has_on hl in
          let h = near rest q n (omega (arith, r, top)) in
          let S = L.nearer n (link_number G c) (number_in i hc) h.0 (omega (arith, h.1, r, top)) in
          let b = S u i (rw (at_number i hc) hc) l o.0 o.1 in
          not_before u (link_number G l) i (number_in i hl) b.0 o.0 (rw (at_number i hl) o.1) (omega (arith, b.1, at, h.1, r, third_small i o.1))

      -- a chain goes on from a link of its first triangle
      goes_on : {l l' : Link} {u v : Triangle} {us : List Triangle} → IsChain G₀ k l l' (u ∷ v ∷ us) → (c : Link) × Has u c × IsChain G₀ k c l' (v ∷ us)
      goes_on (and_on {shared = c} u s hl hc rest) = (c, hc, rest)

      chain_first : {l l' : Link} {u : Triangle} {us : List Triangle} → IsChain G₀ k l l' (u ∷ us) → StrongTriangle G₀ k u × Has u l
      chain_first (one_triangle u s hl hf) = (s, hl)
      chain_first (and_on u s hl hc rest) = (s, hl)

      -- a chain of d + 1 triangles from link l, where x has that distance and no later triangle than l
      none_before : (d x : ℕ) → x < m → dist X x ≡ suc d → suc d ≤ dist X e → (l : Link) (us : List Triangle) → IsChain G₀ k l (link_at G f) us → length us ≡ suc d
          → (X (link_number G l) ≢ 0 → suc d ≤ dist X (link_number G l))
          → (dist X (link_number G l) ≡ suc d → code (triangle_at G X x) ≤ code (triangle_at G X (link_number G l))) → chain_before us (followed G X R (suc d) x) ≡ false
      unfolding followed chain_before
      none_before d x xl q top l [] c r far best = absurd (omega (arith, r))
      none_before zero x xl q top l (u ∷ v ∷ us) c r far best = absurd (omega (arith, r))
      none_before (suc d) x xl q top l (u ∷ []) c r far best = absurd (omega (arith, r))
      none_before zero x xl q top l (u ∷ []) c r far best = go (either_before (triangle_at G X x) u)
        where
          after : code (triangle_at G X x) ≤ code u
          after =
              let h = near c refl n (omega (arith, r, top)) in
              let at : dist X (link_number G l) ≡ 1 = omega (arith, h.1, r, far h.0) in
              omega (arith, best at, first_after 0 c refl refl top at)

          xn : X x ≢ 0
          xn = known x 1 q (omega arith)

          go : Earlier (triangle_at G X x) u ⊎ (Earlier u (triangle_at G X x) ⊎ (triangle_at G X x ≡ u)) → chain_before (u ∷ []) (triangle_at G X x ∷ []) ≡ false
          go (inl b) = later_first (triangle_at G X x) u [] [] b
          go (inr (inl b)) =
              absurd (omega (arith, after, code-order u (triangle_at G X x) (fits u (heavy u (chain_first c).0)) (fits (triangle_at G X x) (at_tri x xl xn)) b))
          go (inr (inr w)) = subst (λ (t : Triangle). chain_before (t ∷ []) (triangle_at G X x ∷ []) ≡ false) w (same_first (triangle_at G X x) [] [] refl)
      none_before (suc d) x xl q top l (u ∷ v ∷ us) c r far best =
          go (either_before (triangle_at G X x) u)
          (λ xi xq xt l' c' r' far' best'. none_before d (chosen G X R x (suc d)) xi xq xt l' (v ∷ us) c' r' far' best')
        where
          rest : List Triangle
          rest = followed G X R (suc d) (chosen G X R x (suc d))

          after : code (triangle_at G X x) ≤ code u
          after =
              let h = near c refl n (omega (arith, r, top)) in
              let at : dist X (link_number G l) ≡ suc (suc d) = omega (arith, h.1, r, far h.0) in
              omega (arith, best at, first_after (suc d) c refl (omega (arith, r)) top at)

          xn : X x ≢ 0
          xn = known x (suc (suc d)) q (omega arith)

          -- the rest, where the first triangle is the same
          same : triangle_at G X x ≡ u
              → ((chosen G X R x (suc d) < m) → dist X (chosen G X R x (suc d)) ≡ suc d → suc d ≤ dist X e → (l' : Link) → IsChain G₀ k l' (link_at G f) (v ∷ us) → length (v ∷ us) ≡ suc d
              → (X (link_number G l') ≢ 0 → suc d ≤ dist X (link_number G l'))
              → (dist X (link_number G l') ≡ suc d → code (triangle_at G X (chosen G X R x (suc d))) ≤ code (triangle_at G X (link_number G l')))
              → chain_before (v ∷ us) rest ≡ false)
              → chain_before (v ∷ us) rest ≡ false
          same w again =
              let i = at_tri x xl xn in
              let p = goes_on c in
              let hc : Has (triangle_at G X x) p.0 = subst (λ (t : Triangle). Has t p.0) (sym w) p.1 in
              let y = link_number G p.0 in
              let yl : link_number G p.0 < m = number_in i hc in
              let hy : Has (triangle_at G X x) (link_at G (link_number G p.0)) = rw (at_number i hc) hc in
              let ch = chosen_in x xl xn (suc d) q (omega arith) in
              again ch.0 ch.1 (omega (arith, top)) p.0 p.2 (omega (arith, r)) (λ yn. apart y yl hy yn (less_or_not (dist X y) (dist X e)))
              (λ at. chosen-first x xl xn (suc d) q y yl hy at)
            where
              -- a link of x's triangle is at most one nearer
              apart : (y : ℕ) → y < m → Has (triangle_at G X x) (link_at G y) → X y ≢ 0 → (dist X y < dist X e) ⊎ (dist X e ≤ dist X y) → suc d ≤ dist X y
              apart y yl hy yn (inr z) = omega (arith, z, top)
              apart y yl hy yn (inl z) =
                  let b = spread_dist (dist X y + 1) y {l = link_at G x} (L.nearer n y yl yn z) (at_tri x xl xn) hy (on_has (at_on x xl xn)) in
                  omega (arith, b.1, ap (dist X) (number_at x xl), q)

          go : Earlier (triangle_at G X x) u ⊎ (Earlier u (triangle_at G X x) ⊎ (triangle_at G X x ≡ u))
              → ((chosen G X R x (suc d) < m) → dist X (chosen G X R x (suc d)) ≡ suc d → suc d ≤ dist X e → (l' : Link) → IsChain G₀ k l' (link_at G f) (v ∷ us) → length (v ∷ us) ≡ suc d
              → (X (link_number G l') ≢ 0 → suc d ≤ dist X (link_number G l'))
              → (dist X (link_number G l') ≡ suc d → code (triangle_at G X (chosen G X R x (suc d))) ≤ code (triangle_at G X (link_number G l')))
              → chain_before (v ∷ us) rest ≡ false)
              → chain_before (u ∷ v ∷ us) (triangle_at G X x ∷ followed G X R (suc d) (chosen G X R x (suc d))) ≡ false
          go (inl b) again = later_first (triangle_at G X x) u (followed G X R (suc d) (chosen G X R x (suc d))) (v ∷ us) b
          go (inr (inl b)) again =
              absurd (omega (arith, after, code-order u (triangle_at G X x) (fits u (heavy u (chain_first c).0)) (fits (triangle_at G X x) (at_tri x xl xn)) b))
          go (inr (inr w)) again =
              subst (λ (t : Triangle). chain_before (t ∷ v ∷ us) (triangle_at G X x ∷ followed G X R (suc d) (chosen G X R x (suc d))) ≡ false) w
              (same_first (triangle_at G X x) (followed G X R (suc d) (chosen G X R x (suc d))) (v ∷ us) (same w again))

    -- the chain that was found is the first of the shortest
    pub first_way : e < m → X e ≢ 0 → IsShortestFirst G₀ k (link_at G e) (link_at G f) (followed G X R (dist X e) e)
    first_way el n = at (dist X e) refl
      where
        at : (d : ℕ) → dist X e ≡ d → IsShortestFirst G₀ k (link_at G e) (link_at G f) (followed G X R d e)
        at zero q = absurd (omega (arith, q, L.some e el n))
        at (suc d) q = record {
          is_chain = is_way d e el q;
          fewest = λ us c. few us c (less_or_not (length us) (suc d));
          first = λ us c r.
              none_before n d e el q (omega (arith, q)) (link_at G e) us c (r ∙ followed-length G X R (suc d) e) (λ _. omega (arith, q, ap (dist X) (number_at e el)))
              (λ _. omega (arith, ap (λ (y : ℕ). code (triangle_at G X y)) (number_at e el)));
        }
          where
            few : (us : List Triangle) → IsChain G₀ k (link_at G e) (link_at G f) us → (length us < suc d) ⊎ (suc d ≤ length us) → length (followed G X R (suc d) e) ≤ length us
            few us c (inr z) = omega (arith, z, followed-length G X R (suc d) e)
            few us c (inl z) =
                let h = near c refl n (omega (arith, z, q)) in
                absurd (omega (arith, h.1, z, q, ap (dist X) (number_at e el)))

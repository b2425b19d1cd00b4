-- A strength k needs k (k - 1) / 2 links. So no accepted file has a strength above max_strength.
use mathlib.Core.Path.{◌≡◌, refl, sym, ap, ◌∙◌, subst}
use mathlib.Core.Logic.{◌⊎◌, inl, inr, ◌≢◌}
use mathlib.Core.Bool.{Bool, true, false, cond, not, ◌&&◌, ◌||◌}
use mathlib.Core.List.{List, [], ◌∷◌}
use mathlib.Core.List.Memᴰ.{head as here}
use mathlib.Core.List.Memᴰ.{not-nil as in-nil}
use mathlib.Core.List.Memᴰ.{tail as there}
use mathlib.Core.List.{Memᴰ as In}
use Prim.Native.Nat.{ℕ, zero, suc, ◌+◌, ◌-◌, ◌*◌, ◌≤◌, ◌<◌, min, max, zero-le}
use native.Mathlib.Nat.{le_refl}
use native.Mathlib.Omega.{arith}
use lib.Dec.{eqb, leb}
use lib.ListN.{length}
use borrow.Author.Tests.{eqb-true, eq-eqb, leb-true, leb-false}
use Rattle.truss.specs.Limits.{max_strength, max_links}
use Rattle.truss.specs.Lists.{filter, count}
use Rattle.truss.specs.Graph.{Link, LinkSet, Graph, link, same_link, member, support, ends}
use Rattle.truss.specs.Strength.{IsTruss, InTruss, strength}
use Rattle.laws.proofs.Proper.{Proper}
use Rattle.laws.proofs.Lists.{test, true_not_false, and_left, and_right, both, or_cases, same_link_eq, same_link_refl, filter-length}
use Rattle.laws.proofs.Members.{filter_in, in_filter, member_in, in_member}
use Rattle.laws.proofs.Sets.{filter_sub_whole, filter_sub_length}
use Rattle.laws.proofs.Ordering.{Distinct}
use Rattle.laws.proofs.Peeling.{strength_is, strength_at_least_2}

-- ---- how many pass: the difference that one element makes

module _ {A : Type 0} where
  -- an element that passes only the weaker test
  pub filter-fewer : (p q : A → Bool) (xs : List A) → ((x : A) → In x xs → p x ≡ true → q x ≡ true) → {z : A} → In z xs → q z ≡ true → p z ≡ false → length (filter p xs) < length (filter q xs)
  filter-fewer p q xs sub {z} m qz pz = go (test (leb (length (filter q xs)) (length (filter p xs))))
    where
      go : (leb (length (filter q xs)) (length (filter p xs)) ≡ true) ⊎ (leb (length (filter q xs)) (length (filter p xs)) ≡ false) → length (filter p xs) < length (filter q xs)
      go (inl c) =
          let same = filter_sub_whole p q xs sub (leb-true (length (filter q xs)) (length (filter p xs)) c) in
          let k : In z (filter p xs) = rw same (in_filter q xs m qz) in
          absurd (true_not_false (filter_in p xs k).1 pz)
      go (inr c) = leb-false (length (filter q xs)) (length (filter p xs)) c

  -- at most one element passes only the weaker test
  pub filter_one_fewer : (p q : A → Bool) (z : A) (xs : List A) → Distinct xs → ((x : A) → In x xs → q x ≡ true → (p x ≡ true) ⊎ (x ≡ z)) → length (filter q xs) ≤ suc (length (filter p xs))
  unfolding filter
  filter_one_fewer p q z [] d h = zero-le
  filter_one_fewer p q z (x ∷ xs) d h = go (q x) refl (p x) refl (filter_one_fewer p q z xs d.1 (λ y m. h y (there m)))
    where
      -- x is the one element, so no later one is
      rest : x ≡ z → length (filter q xs) ≤ length (filter p xs)
      rest e = filter_sub_length q p xs (λ y m t. at y m (h y (there m) t))
        where
          at : (y : A) → In y xs → (p y ≡ true) ⊎ (y ≡ z) → p y ≡ true
          at y m (inl t) = t
          at y m (inr f) = absurd (d.0 y m (e ∙ sym f))

      only : (p x ≡ true) ⊎ (x ≡ z) → p x ≡ false → length (filter q xs) ≤ length (filter p xs)
      only (inl t) f = absurd (true_not_false t f)
      only (inr e) f = rest e

      go : (b : Bool) → q x ≡ b → (c : Bool) → p x ≡ c → length (filter q xs) ≤ suc (length (filter p xs))
          → length (cond (q x) (x ∷ filter q xs) (filter q xs)) ≤ suc (length (cond (p x) (x ∷ filter p xs) (filter p xs)))
      go true b true c ih = rw (b, c) (omega arith)
      go true b false c ih = rw (b, c) (omega (arith, only (h x (here refl) b) c))
      go false b true c ih = rw (b, c) (omega arith)
      go false b false c ih = rw (b, c) ih

  -- a test splits what passes another
  pub filter_split : (p q : A → Bool) (xs : List A) → length (filter p xs) ≡ length (filter (λ x. p x && q x) xs) + length (filter (λ x. p x && not (q x)) xs)
  unfolding filter
  filter_split p q [] = refl
  filter_split p q (x ∷ xs) = go (p x) refl (q x) refl (filter_split p q xs)
    where
      l : ℕ
      l = length (filter (λ x. p x && q x) xs)

      r : ℕ
      r = length (filter (λ x. p x && not (q x)) xs)

      go : (b : Bool) → p x ≡ b → (c : Bool) → q x ≡ c → length (filter p xs) ≡ l + r
          → length (cond (p x) (x ∷ filter p xs) (filter p xs))
          ≡ length (cond (p x && q x) (x ∷ filter (λ x. p x && q x) xs) (filter (λ x. p x && q x) xs))
          + length (cond (p x && not (q x)) (x ∷ filter (λ x. p x && not (q x)) xs) (filter (λ x. p x && not (q x)) xs))
      go true b true c ih = rw (b, c) (omega arith)
      go true b false c ih = rw (b, c) (omega arith)
      go false b c e ih = rw b ih

-- numbers that pass, each with a link of its own in a part of a list
pub count_inject : (p : ℕ → Bool) (f : ℕ → Link) (L : List Link) (n : ℕ) (q : Link → Bool)
    → ((c : ℕ) → c < n → p c ≡ true → In (f c) L × (q (f c) ≡ true)) → ((c d : ℕ) → f c ≡ f d → c ≡ d) → count p n ≤ length (filter q L)
unfolding count
count_inject p f L zero q h inj = zero-le
count_inject p f L (suc n) q h inj = go (p n) refl (count_inject p f L n q (λ c l t. h c (omega arith) t) inj) (count_inject p f L n q' below inj)
  where
    q' : Link → Bool
    q' e = q e && not (same_link e (f n))

    below : (c : ℕ) → c < n → p c ≡ true → In (f c) L × (q' (f c) ≡ true)
    below c l t = let r = h c (omega arith) t in (r.0, both r.1 (ap not other))
      where
        other : same_link (f c) (f n) ≡ false
        other = at (test (same_link (f c) (f n)))
          where
            at : (same_link (f c) (f n) ≡ true) ⊎ (same_link (f c) (f n) ≡ false) → same_link (f c) (f n) ≡ false
            at (inl e) = let s = inj c n (same_link_eq (f c) (f n) e) in absurd (omega arith)
            at (inr e) = e

    go : (b : Bool) → p n ≡ b → count p n ≤ length (filter q L) → count p n ≤ length (filter q' L) → cond (p n) 1 0 + count p n ≤ length (filter q L)
    go true b ih ih' =
        let r = h n (le_refl (suc n)) b in
        let less : length (filter q' L) < length (filter q L) =
        filter-fewer q' q L (λ e m t. and_left (q e) (not (same_link e (f n))) t) r.0 r.1 (rw (r.1, same_link_refl (f n))) in
        rw b (omega (arith, less))
    go false b ih ih' = rw b (omega arith)

-- 0 + 1 + .. + d, which is d (d + 1) / 2
unfoldable pub triangular : ℕ → ℕ
triangular zero = 0
triangular (suc d) = suc d + triangular d

pub triangular_double : (d : ℕ) → 2 * triangular d ≡ d * (d + 1)
unfolding triangular
triangular_double zero = refl
triangular_double (suc d) = let r = triangular_double d in omega arith

-- ---- degrees

not_pos : {x : ℕ} → 0 < x → x ≡ 0 → ⊥
not_pos h q = omega arith

module _ (L : List Link) (different : Distinct L) (ordered : (e : Link) → In e L → e.lo < e.hi) where
  -- how many links of a set have the account as an end
  degree : LinkSet → ℕ → ℕ
  degree S v = length (filter (λ e. S e && ends e v) L)

  ends_cases : (e : Link) (v : ℕ) → ends e v ≡ true → (e.lo ≡ v) ⊎ (e.hi ≡ v)
  ends_cases e v h = go (or_cases (eqb e.lo v) (eqb e.hi v) h)
    where
      go : (eqb e.lo v ≡ true) ⊎ (eqb e.hi v ≡ true) → (e.lo ≡ v) ⊎ (e.hi ≡ v)
      go (inl c) = inl (eqb-true e.lo v c)
      go (inr c) = inr (eqb-true e.hi v c)

  lo_ends : (e : Link) → ends e e.lo ≡ true
  lo_ends e = rw (eq-eqb e.lo e.lo refl)

  hi_ends : (e : Link) → ends e e.hi ≡ true
  hi_ends e = go (eqb e.lo e.hi)
    where
      go : (b : Bool) → (b || eqb e.hi e.hi) ≡ true
      go true = refl
      go false = eq-eqb e.hi e.hi refl

  -- an account with some degree is an end of a link of the set
  degree_some : (S : LinkSet) (v : ℕ) → 0 < degree S v → (e : Link) × In e L × (S e ≡ true) × (ends e v ≡ true)
  unfolding degree
  degree_some S v h = first (filter (λ e. S e && ends e v) L) refl h
    where
      first : (xs : List Link) → filter (λ e. S e && ends e v) L ≡ xs → 0 < length xs → (e : Link) × In e L × (S e ≡ true) × (ends e v ≡ true)
      first [] q l = absurd (omega arith)
      first (e ∷ xs) q l =
          let m : In e (filter (λ e. S e && ends e v) L) = rw q (here refl) in
          let r = filter_in (λ e. S e && ends e v) L m in
          (e, r.0, and_left (S e) (ends e v) r.1, and_right (S e) (ends e v) r.1)

  degree-pos : (S : LinkSet) (v : ℕ) {e : Link} → In e L → S e ≡ true → ends e v ≡ true → 0 < degree S v
  unfolding degree
  degree-pos S v {e} m s h = first (filter (λ e. S e && ends e v) L) (in_filter (λ e. S e && ends e v) L m (both s h))
    where
      first : (xs : List Link) → In e xs → 0 < length xs
      first [] k = absurd (in-nil k)
      first (x ∷ xs) k = omega arith

  -- without the links at v
  without : LinkSet → ℕ → LinkSet
  without S v e = S e && not (ends e v)

  without_less : (S : LinkSet) (v u : ℕ) → degree (without S v) u ≤ degree S u
  unfolding degree without
  without_less S v u = filter_sub_length _ _ L (λ e m t.
      both (and_left (S e) (not (ends e v)) (and_left (S e && not (ends e v)) (ends e u) t)) (and_right (S e && not (ends e v)) (ends e u) t))

  -- another account loses at most the one link to v
  without-one : (S : LinkSet) (v u : ℕ) → u ≢ v → degree S u ≤ suc (degree (without S v) u)
  unfolding degree without
  without-one S v u ne = filter_one_fewer (λ e. (S e && not (ends e v)) && ends e u) (λ e. S e && ends e u) (link u v) L different cases
    where
      cases : (e : Link) → In e L → (S e && ends e u) ≡ true → (((S e && not (ends e v)) && ends e u) ≡ true) ⊎ (e ≡ link u v)
      cases e m t = go (test (ends e v))
        where
          s : S e ≡ true
          s = and_left (S e) (ends e u) t

          at_u : ends e u ≡ true
          at_u = and_right (S e) (ends e u) t

          same : (e.lo ≡ u) ⊎ (e.hi ≡ u) → (e.lo ≡ v) ⊎ (e.hi ≡ v) → e ≡ link u v
          same (inl p) (inl q) = absurd (ne (sym p ∙ q))
          same (inr p) (inr q) = absurd (ne (sym p ∙ q))
          same (inl p) (inr q) =
              let l = ordered e m in
              let lo : e.lo ≡ min u v = omega arith in
              let hi : e.hi ≡ max u v = omega arith in
              λ i. record { lo = lo i; hi = hi i }
          same (inr p) (inl q) =
              let l = ordered e m in
              let lo : e.lo ≡ min u v = omega arith in
              let hi : e.hi ≡ max u v = omega arith in
              λ i. record { lo = lo i; hi = hi i }

          go : (ends e v ≡ true) ⊎ (ends e v ≡ false) → (((S e && not (ends e v)) && ends e u) ≡ true) ⊎ (e ≡ link u v)
          go (inl c) = inr (same (ends_cases e u at_u) (ends_cases e v c))
          go (inr c) = inl (both (both s (ap not c)) at_u)

  without-none : (S : LinkSet) (v : ℕ) → degree (without S v) v ≡ 0
  unfolding degree without
  without-none S v = ap length (Rattle.laws.proofs.Members.filter_none _ L (λ e m. none (S e) (ends e v)))
    where
      none : (a b : Bool) → ((a && not b) && b) ≡ false
      none true true = refl
      none true false = refl
      none false b = refl

  size_split : (S : LinkSet) (v : ℕ) → length (filter S L) ≡ degree S v + length (filter (without S v) L)
  unfolding degree without
  size_split S v = filter_split S (λ e. ends e v) L

  -- where each account of the set has degree at least d, the set has d (d + 1) / 2 links
  degree-size : (d : ℕ) (S : LinkSet) → ((u : ℕ) → 0 < degree S u → d ≤ degree S u) → (v : ℕ) → 0 < degree S v → triangular d ≤ length (filter S L)
  unfolding triangular
  degree-size zero S busy v h = zero-le
  degree-size (suc zero) S busy v h = omega (arith, size_split S v, h)
  degree-size (suc (suc d)) S busy v h =
      let w = neighbour (ends_cases e.0 v e.3) in
      let smaller = degree-size (suc d) (without S v) busy' w.0 w.1 in
      omega (arith, size_split S v, busy v h)
    where
      S' : LinkSet
      S' = without S v

      busy' : (u : ℕ) → 0 < degree S' u → suc d ≤ degree S' u
      busy' u k =
          let ne : u ≢ v = λ q. not_pos (subst (λ (x : ℕ). 0 < degree S' x) q k) (without-none S v) in
          omega (arith, busy u (omega (arith, without_less S v u)), without-one S v u ne)

      e : (e : Link) × In e L × (S e ≡ true) × (ends e v ≡ true)
      e = degree_some S v h

      -- the other end of a link at v is left with a link
      neighbour : (e.0.lo ≡ v) ⊎ (e.0.hi ≡ v) → (w : ℕ) × (0 < degree S' w)
      neighbour (inl q) =
          let l = ordered e.0 e.1 in
          let ne : e.0.hi ≢ v = omega arith in
          (e.0.hi, omega (arith, busy e.0.hi (degree-pos S e.0.hi e.1 e.2 (hi_ends e.0)), without-one S v e.0.hi ne))
      neighbour (inr q) =
          let l = ordered e.0 e.1 in
          let ne : e.0.lo ≢ v = omega arith in
          (e.0.lo, omega (arith, busy e.0.lo (degree-pos S e.0.lo e.1 e.2 (lo_ends e.0)), without-one S v e.0.lo ne))

-- ---- a set that serves at k

link_inj : (v c d : ℕ) → link v c ≡ link v d → c ≡ d
link_inj v c d q =
    let lo : min v c ≡ min v d = ap (λ (e : Link). e.lo) q in
    let hi : max v c ≡ max v d = ap (λ (e : Link). e.hi) q in
    omega arith

module _ (G : Graph) (proper : Proper G) (different : Distinct G.links) where
  ordered : (e : Link) → In e G.links → e.lo < e.hi
  ordered e m = proper.ordered e (in_member G.links m)

  -- each account of the set has a degree of at least k - 1: one link, and one more for each of its k - 2 triangles
  truss-degree : (j : ℕ) (S : LinkSet) → IsTruss G (2 + j) S → (v : ℕ) → 0 < degree G.links different ordered S v → suc j ≤ degree G.links different ordered S v
  unfolding degree support
  truss-degree j S t v h = at (ends_cases G.links different ordered e.0 v e.3)
    where
      e : (e : Link) × In e G.links × (S e ≡ true) × (ends e v ≡ true)
      e = degree_some G.links different ordered S v h

      p : ℕ → Bool
      p c = S (link e.0.lo c) && S (link e.0.hi c)

      q : Link → Bool
      q f = (S f && ends f v) && not (same_link f e.0)

      less : length (filter q G.links) < length (filter (λ f. S f && ends f v) G.links)
      less = filter-fewer q (λ f. S f && ends f v) G.links (λ f m u. and_left (S f && ends f v) (not (same_link f e.0)) u) e.1 (both e.2 e.3)
          (rw (e.2, e.3, same_link_refl e.0))

      -- no link has two equal ends
      proper_link : (a b : ℕ) → S (link a b) ≡ true → a ≢ b
      proper_link a b s r =
          let l : min a b < max a b = proper.ordered (link a b) (t.within (link a b) s) in omega arith

      link-ends : (c : ℕ) → ends (link v c) v ≡ true
      link-ends c = go (test (leb v c))
        where
          go : (leb v c ≡ true) ⊎ (leb v c ≡ false) → ends (link v c) v ≡ true
          go (inl k) = let l = leb-true v c k in rw (eq-eqb (min v c) v (omega arith))
          go (inr k) =
              let l = leb-false v c k in
              let hi : eqb (max v c) v ≡ true = eq-eqb (max v c) v (omega arith) in
              or_right (eqb (min v c) v) (eqb (max v c) v) hi
            where
              or_right : (a b : Bool) → b ≡ true → (a || b) ≡ true
              or_right true b z = refl
              or_right false b z = z

      enough : ((c : ℕ) → c < G.n → p c ≡ true → (S (link v c) ≡ true) × (link v c ≢ e.0)) → suc j ≤ length (filter (λ f. S f && ends f v) G.links)
      enough spread =
          let held : 2 + j ≤ 2 + count p G.n = t.held e.0 e.2 in
          let many : count p G.n ≤ length (filter q G.links) =
          count_inject p (λ c. link v c) G.links G.n q
          (λ c l u. let r = spread c l u in (member_in G.links (link v c) (t.within (link v c) r.0), both (both r.0 (link-ends c)) (other c r.1)))
          (link_inj v) in
          omega (arith, less)
        where
          other : (c : ℕ) → link v c ≢ e.0 → not (same_link (link v c) e.0) ≡ true
          other c ne = go (test (same_link (link v c) e.0))
            where
              go : (same_link (link v c) e.0 ≡ true) ⊎ (same_link (link v c) e.0 ≡ false) → not (same_link (link v c) e.0) ≡ true
              go (inl k) = absurd (ne (same_link_eq (link v c) e.0 k))
              go (inr k) = ap not k

      at : (e.0.lo ≡ v) ⊎ (e.0.hi ≡ v) → suc j ≤ length (filter (λ f. S f && ends f v) G.links)
      at (inl r) = enough (λ c l u.
          let a : S (link e.0.lo c) ≡ true = and_left (S (link e.0.lo c)) (S (link e.0.hi c)) u in
          let b : e.0.hi ≢ c = proper_link e.0.hi c (and_right (S (link e.0.lo c)) (S (link e.0.hi c)) u) in
          (rw r at a, λ s. b (sym (link_inj v c e.0.hi (s ∙ whole r)))))
        where
          whole : e.0.lo ≡ v → e.0 ≡ link v e.0.hi
          whole w =
              let l = ordered e.0 e.1 in
              let lo : e.0.lo ≡ min v e.0.hi = omega arith in
              let hi : e.0.hi ≡ max v e.0.hi = omega arith in
              λ i. record { lo = lo i; hi = hi i }
      at (inr r) = enough (λ c l u.
          let a : e.0.lo ≢ c = proper_link e.0.lo c (and_left (S (link e.0.lo c)) (S (link e.0.hi c)) u) in
          let b : S (link e.0.hi c) ≡ true = and_right (S (link e.0.lo c)) (S (link e.0.hi c)) u in
          (rw r at b, λ s. a (sym (link_inj v c e.0.lo (s ∙ whole r)))))
        where
          whole : e.0.hi ≡ v → e.0 ≡ link v e.0.lo
          whole w =
              let l = ordered e.0 e.1 in
              let lo : e.0.lo ≡ min v e.0.lo = omega arith in
              let hi : e.0.hi ≡ max v e.0.lo = omega arith in
              λ i. record { lo = lo i; hi = hi i }

  -- a set that serves at k and holds a link has k (k - 1) / 2 links
  pub truss-size : (j : ℕ) (S : LinkSet) → IsTruss G (2 + j) S → (e : Link) → S e ≡ true → triangular (suc j) ≤ length (filter S G.links)
  truss-size j S t e s =
      degree-size G.links different ordered (suc j) S (truss-degree j S t) e.lo
      (degree-pos G.links different ordered S e.lo (member_in G.links e (t.within e s)) s (lo_ends G.links different ordered e))

  -- "A strength k needs k(k − 1)/2 links"
  pub strength_needs : (e : Link) → member G.links e ≡ true → (strength G e - 1) * strength G e ≤ 2 * length G.links
  strength_needs e m =
      let j : ℕ = strength G e - 2 in
      let t = (strength_is G e m).reached in
      let two = strength_at_least_2 G e m in
      let shape : 2 + j ≡ strength G e = omega arith in
      let links = truss-size j t.0 (rw shape t.1) e t.2 in
      let half : 2 * triangular (suc j) ≡ suc j * (suc j + 1) = triangular_double (suc j) in
      let a : strength G e - 1 ≡ suc j = omega arith in
      let b : strength G e ≡ suc j + 1 = omega arith in
      let all-links = filter-length t.0 G.links in
      rw a (subst (λ (x : ℕ). suc j * x ≤ 2 * length G.links) (sym b) (omega (arith, half, links, all-links)))

-- ---- the greatest strength

triangular_mono : (a d : ℕ) → triangular a ≤ triangular (a + d)
unfolding triangular
triangular_mono a zero = let q : a + 0 ≡ a = omega arith in rw q (le_refl (triangular a))
triangular_mono a (suc d) = let q : a + suc d ≡ suc (a + d) = omega arith in let r = triangular_mono a d in rw q (omega arith)

-- the limits fit each other: max_links links are too few for a strength above max_strength
limits_fit : max_links < triangular max_strength
unfolding triangular
limits_fit = lib.Dec.lit< tt

module _ (G : Graph) (proper : Proper G) (different : Distinct G.links) (few : length G.links ≤ max_links) where
  pub strength-max : (e : Link) → member G.links e ≡ true → strength G e ≤ max_strength
  strength-max e m = go (test (leb (strength G e) max_strength))
    where
      t : InTruss G (strength G e) e
      t = (strength_is G e m).reached

      go : (leb (strength G e) max_strength ≡ true) ⊎ (leb (strength G e) max_strength ≡ false) → strength G e ≤ max_strength
      go (inl c) = leb-true (strength G e) max_strength c
      go (inr c) =
          let big : max_strength < strength G e = leb-false (strength G e) max_strength c in
          let j : ℕ = strength G e - 2 in
          let shape : 2 + j ≡ strength G e = omega arith in
          let links = truss-size G proper different j t.0 (rw shape t.1) e t.2 in
          let d : ℕ = suc j - max_strength in
          let up : suc j ≡ max_strength + d = omega arith in
          let mono : triangular max_strength ≤ triangular (suc j) = rw up (triangular_mono max_strength d) in
          absurd (omega (arith, limits_fit, filter-length t.0 G.links))

-- Breadth-first search over triangles from link f. X is the column of entries: 0 for a link not reached, else distance * HALF + third account: for each
-- link no farther than e, the number of triangles of a shortest chain to f and the first triangle of such a chain; beyond e only of some chain. R has that
-- triangle's other two links; q is the queue. In order: what an entry means; what the search leaves; the invariant; a triangle is offered to a link. Assumes nothing.
use Rattle.std.specs.Prelude.{◌≡◌, refl, ◌⊎◌, ◌≢◌, cond, ℕ, ◌+◌, ◌*◌, ◌≤◌, ◌<◌, ◌/◌, ◌%◌, eqb}
use Rattle.std.proofs.Common.{sym, ap, ◌∙◌, subst, inl, inr, arith, eq-eqb, ne_eqb}
use Rattle.truss.specs.Graph.{Link, Graph, Triangle, IsTriangle, Has, member, link_at, link_number}
use Rattle.laws.proofs.Sets.{pigeonhole}
use Rattle.laws.proofs.Numbers.{same_or_not}
use Rattle.columns.specs.Columns.{HALF}
use Rattle.columns.specs.Laws.{Upd, Same}
use Rattle.chain.specs.Corners.{On}

abbrev pub dist : (ℕ → ℕ) → ℕ → ℕ
dist X y = X y / HALF

abbrev pub IsTri : Graph → Triangle → Type 0
IsTri G t = IsTriangle (member G.links) t

-- ---- what an entry means

-- why a link is at this distance: its triangle has f, or a link that is one nearer
pub data Why (G : Graph) (f : ℕ) (X : ℕ → ℕ) (t : Triangle) (d g h : ℕ) : Type 0 where
  has_f : Has t (link_at G f) → d ≡ 1 → Why G f X t d g h
  by_first : X g ≢ 0 → d ≡ dist X g + 1 → Why G f X t d g h
  by_second : X h ≢ 0 → d ≡ dist X h + 1 → Why G f X t d g h

-- t is a triangle on link y with the third account z; its other links are g and h
pub record Step (G : Graph) (m y z g h : ℕ) (t : Triangle) : Type 0 where
  pub is : IsTri G t
  pub on : On t (link_at G y) z
  pub g_in : g < m
  pub h_in : h < m
  pub has_g : Has t (link_at G g)
  pub has_h : Has t (link_at G h)
  pub rest : (l : Link) → Has t l → (l ≡ link_at G y) ⊎ ((l ≡ link_at G g) ⊎ (l ≡ link_at G h))

pub record Reason (G : Graph) (f m : ℕ) (X R : ℕ → ℕ) (y : ℕ) : Type 0 where
  pub t : Triangle
  pub step : Step G m y (X y % HALF) (R y / HALF) (R y % HALF) t
  pub why : Why G f X t (dist X y) (R y / HALF) (R y % HALF)

-- link x is reached, with an entry that is not above v
abbrev pub Below : (ℕ → ℕ) → ℕ → ℕ → Type 0
Below X x v = (X x ≢ 0) × (X x ≤ v)

-- each link of the triangle was offered it, at distance d
abbrev pub Offered : Graph → (ℕ → ℕ) → ℕ → Triangle → Type 0
Offered G X d t = (e : Link) (z : ℕ) → On t e z → Below X (link_number G e) (d * HALF + z)

-- every triangle on link y was offered to its links
abbrev pub Spread : Graph → (ℕ → ℕ) → ℕ → ℕ → Type 0
Spread G X d y = (t : Triangle) → IsTri G t → Has t (link_at G y) → Offered G X d t

-- ---- what the search leaves, for a chain from link e: it stops once all nearer links were spread

pub record Led (G : Graph) (f e m : ℕ) (X R : ℕ → ℕ) : Type 0 where
  pub f_in : f < m
  pub some : (y : ℕ) → y < m → X y ≢ 0 → 1 ≤ dist X y
  pub few : (y : ℕ) → y < m → dist X y ≤ m
  pub sound : (y : ℕ) → y < m → X y ≢ 0 → Reason G f m X R y
  pub first : Spread G X 1 f
  pub nearer : X e ≢ 0 → (y : ℕ) → y < m → X y ≢ 0 → dist X y < dist X e → Spread G X (dist X y + 1) y
  pub all : X e ≡ 0 → (y : ℕ) → y < m → X y ≢ 0 → Spread G X (dist X y + 1) y

-- ---- the invariant

pub record Wave (G : Graph) (f m tail : ℕ) (X R q : ℕ → ℕ) : Type 0 where
  pub f_in : f < m
  pub within : (i : ℕ) → i < tail → q i < m
  pub once : (i j : ℕ) → i < tail → j < tail → q i ≡ q j → i ≡ j
  pub known : (i : ℕ) → i < tail → X (q i) ≢ 0
  pub queued : (y : ℕ) → y < m → X y ≢ 0 → (i : ℕ) × (i < tail) × (q i ≡ y)
  pub rises : (i j : ℕ) → i ≤ j → j < tail → dist X (q i) ≤ dist X (q j)
  pub few : (i : ℕ) → i < tail → dist X (q i) ≤ i + 1
  pub some : (y : ℕ) → y < m → X y ≢ 0 → 1 ≤ dist X y
  pub sound : (y : ℕ) → y < m → X y ≢ 0 → Reason G f m X R y

-- nothing is reached
pub wave_none : {G : Graph} {f m : ℕ} {X R q : ℕ → ℕ} → f < m → ((y : ℕ) → y < m → X y ≡ 0) → Wave G f m 0 X R q
wave_none {G} {f} {m} {X} {R} {q} fl z = record {
  f_in = fl;
  within = λ i l. absurd (omega arith);
  once = λ i j l. absurd (omega arith);
  known = λ i l. absurd (omega arith);
  queued = λ y l n. absurd (n (z y l));
  rises = λ i j a l. absurd (omega arith);
  few = λ i l. absurd (omega arith);
  some = λ y l n. absurd (n (z y l));
  sound = λ y l n. absurd (n (z y l));
}

-- no link is farther than d, and there is room for one at d
pub record Top (d tail : ℕ) (X q : ℕ → ℕ) : Type 0 where
  pub least : 1 ≤ d
  pub most : (i : ℕ) → i < tail → dist X (q i) ≤ d
  pub room : d ≤ tail + 1

-- entries only fall, and keep their distance; the queue only grows
pub record Onward (m tail r : ℕ) (X q X' q' : ℕ → ℕ) : Type 0 where
  pub kept : (y : ℕ) → y < m → X y ≢ 0 → X' y ≢ 0
  pub falls : (y : ℕ) → y < m → X y ≢ 0 → X' y ≤ X y
  pub same : (y : ℕ) → y < m → X y ≢ 0 → dist X' y ≡ dist X y
  pub queue : (i : ℕ) → i < tail → q' i ≡ q i
  pub more : tail ≤ r

pub onward_none : (m tail : ℕ) (X q : ℕ → ℕ) → Onward m tail tail X q X q
onward_none m tail X q = record { kept = λ y l n. n; falls = λ y l n. omega arith; same = λ y l n. refl; queue = λ i l. refl; more = omega arith }

pub onward_trans : {m tail s r : ℕ} {X q X' q' X'' q'' : ℕ → ℕ} → Onward m tail s X q X' q' → Onward m s r X' q' X'' q'' → Onward m tail r X q X'' q''
onward_trans p o = record {
  kept = λ y l n. o.kept y l (p.kept y l n);
  falls = λ y l n. omega (arith, p.falls y l n, o.falls y l (p.kept y l n));
  same = λ y l n. o.same y l (p.kept y l n) ∙ p.same y l n;
  queue = λ i l. o.queue i (omega (arith, p.more)) ∙ p.queue i l;
  more = omega (arith, p.more, o.more);
}

pub below_on : {m tail r x v : ℕ} {X q X' q' : ℕ → ℕ} → Onward m tail r X q X' q' → x < m → Below X x v → Below X' x v
below_on {x = x} o l b = (o.kept x l b.0, omega (arith, o.falls x l b.0, b.1))

pub why_on : {G : Graph} {f m tail r d g h : ℕ} {X q X' q' : ℕ → ℕ} {t : Triangle} → Onward m tail r X q X' q' → g < m → h < m → Why G f X t d g h → Why G f X' t d g h
why_on {g = g} {h = h} o gl hl (has_f a e) = has_f a e
why_on {g = g} {h = h} o gl hl (by_first a e) = by_first (o.kept g gl a) (e ∙ ap (λ (v : ℕ). v + 1) (sym (o.same g gl a)))
why_on {g = g} {h = h} o gl hl (by_second a e) = by_second (o.kept h hl a) (e ∙ ap (λ (v : ℕ). v + 1) (sym (o.same h hl a)))

-- what two numbers share an entry
pub entry-dist : (d z : ℕ) → z < HALF → (d * HALF + z) / HALF ≡ d
entry-dist d z l = omega arith

pub entry_third : (d z : ℕ) → z < HALF → (d * HALF + z) % HALF ≡ z
entry_third d z l = omega arith

-- the same in other columns, if they are the same as far as links go
module _ {m tail : ℕ} {X X' q q' : ℕ → ℕ} (tl : tail ≤ m) (s_x : Same m X X') (sq : Same m q q') where
  at : (i : ℕ) → i < tail → q' i ≡ q i
  at i l = sq i (omega arith)

  lost : (y : ℕ) → y < m → X' y ≢ 0 → X y ≢ 0
  lost y l n z = n (s_x y l ∙ z)

  gained : (y : ℕ) → y < m → X y ≢ 0 → X' y ≢ 0
  gained y l n z = n (sym (s_x y l) ∙ z)

  as_far : (y : ℕ) → y < m → dist X' y ≡ dist X y
  as_far y l = ap (λ (v : ℕ). v / HALF) (s_x y l)

  pub onward_same : Onward m tail tail X q X' q'
  onward_same = record { kept = gained; falls = λ y l n. omega (arith, s_x y l); same = λ y l n. as_far y l; queue = at; more = omega arith }

  pub wave_same : {G : Graph} {f : ℕ} {R R' : ℕ → ℕ} → Same m R R' → Wave G f m tail X R q → Wave G f m tail X' R' q'
  wave_same {G} {f} {R} {R'} s_r A = record {
    f_in = A.f_in;
    within = λ i l. rw (at i l) (A.within i l);
    once = λ i j l k h. A.once i j l k (sym (at i l) ∙ h ∙ at j k);
    known = λ i l. rw (at i l) (gained (q i) (A.within i l) (A.known i l));
    queued = λ y l n. let r = A.queued y l (lost y l n) in (r.0, r.1, at r.0 r.1 ∙ r.2);
    rises = λ i j a l. let il : i < tail = omega arith in rw (at i il, at j l, as_far (q i) (A.within i il), as_far (q j) (A.within j l)) (A.rises i j a l);
    few = λ i l. rw (at i l, as_far (q i) (A.within i l)) (A.few i l);
    some = λ y l n. rw (as_far y l) (A.some y l (lost y l n));
    sound = λ y l n.
        let W = A.sound y l (lost y l n) in
        record {
          t = W.t;
          step = rw (s_x y l, s_r y l) W.step;
          why = rw (s_x y l, s_r y l) (why_on onward_same W.step.g_in W.step.h_in W.why);
        };
  }

  pub top_same : {d : ℕ} → ((i : ℕ) → i < tail → q i < m) → Top d tail X q → Top d tail X' q'
  top_same w T = record { least = T.least; most = λ i l. rw (at i l, as_far (q i) (w i l)) (T.most i l); room = T.room }

-- ---- a triangle is offered to link x at distance d

-- it lies on x, with the third account z and the other links g and h; and if the link takes it, there is a reason
pub record Bid (G : Graph) (f m d x z g h : ℕ) (X : ℕ → ℕ) (t : Triangle) : Type 0 where
  pub x_in : x < m
  pub small : z < HALF
  pub g_small : g < HALF
  pub h_small : h < HALF
  pub step : Step G m x z g h t
  pub why : (X x ≡ 0) ⊎ (d * HALF + z < X x) → Why G f X t d g h

module _ {G : Graph} {f m d tail x z g h : ℕ} {X R q : ℕ → ℕ} {t : Triangle} (A : Wave G f m tail X R q) (T : Top d tail X q) (B : Bid G f m d x z g h X t) where
  abbrev v : ℕ
  v = d * HALF + z

  abbrev s : ℕ
  s = g * HALF + h

  -- the link's entry after it took the triangle
  reason_new : (X' R' : ℕ → ℕ) → X' x ≡ v → R' x ≡ s → Why G f X' t d g h → Reason G f m X' R' x
  reason_new X' R' xv rs w =
      let a : X' x % HALF ≡ z = ap (λ (y : ℕ). y % HALF) xv ∙ entry_third d z B.small in
      let b : R' x / HALF ≡ g = ap (λ (y : ℕ). y / HALF) rs ∙ entry-dist g h B.h_small in
      let c : R' x % HALF ≡ h = ap (λ (y : ℕ). y % HALF) rs ∙ entry_third g h B.h_small in
      let e : dist X' x ≡ d = ap (λ (y : ℕ). y / HALF) xv ∙ entry-dist d z B.small in
      record { t = t; step = rw (a, b, c) B.step; why = rw (b, c, e) w }

  reason_on : {r : ℕ} {X' R' q' : ℕ → ℕ} → Onward m tail r X q X' q' → (y : ℕ) → y < m → X y ≢ 0 → X' y ≡ X y → R' y ≡ R y → Reason G f m X' R' y
  reason_on {r} {X'} {R'} {q'} o y l n xe re =
      let W = A.sound y l n in
      record {
        t = W.t;
        step = rw (xe, re) W.step;
        why = rw (xe, re) (why_on o W.step.g_in W.step.h_in W.why);
      }

  -- ---- it was reached at d, by a later triangle

  module _ {X' R' : ℕ → ℕ} (was : X x ≢ 0) (lower : v < X x) (u_x : Upd m X X' x v) (u_r : Upd m R R' x s) where
    at_d : dist X x ≡ d
    at_d =
        let r = A.queued x B.x_in was in
        let u : dist X x ≤ d = subst (λ (y : ℕ). dist X y ≤ d) r.2 (T.most r.0 r.1) in
        omega (arith, u, lower, B.small)

    X_at : (y : ℕ) → y < m → (y ≡ x) ⊎ (y ≢ x) → (X y ≢ 0 → X' y ≢ 0) × (X' y ≤ X y) × (dist X' y ≡ dist X y)
    X_at y l (inl e) = rw e (
      (λ n q. omega (arith, u_x.here, q, T.least)),
      omega (arith, u_x.here, lower),
      ap (λ (w : ℕ). w / HALF) u_x.here ∙ entry-dist d z B.small ∙ sym at_d,
    )
    X_at y l (inr e) = let q = u_x.else y l e in rw q ((λ n. n), omega arith, refl)

    pub better_on : Onward m tail tail X q X' q
    better_on = record {
      kept = λ y l n. (X_at y l (same_or_not y x)).0 n;
      falls = λ y l n. (X_at y l (same_or_not y x)).1;
      same = λ y l n. (X_at y l (same_or_not y x)).2;
      queue = λ i l. refl;
      more = omega arith;
    }

    -- nothing is reached that was not
    old : (y : ℕ) → y < m → X' y ≢ 0 → (y ≡ x) ⊎ (y ≢ x) → X y ≢ 0
    old y l n (inl e) = rw e was
    old y l n (inr e) = λ w. n (u_x.else y l e ∙ w)

    same_dist : (y : ℕ) → y < m → dist X' y ≡ dist X y
    same_dist y l = (X_at y l (same_or_not y x)).2

    pub better_wave : Wave G f m tail X' R' q
    better_wave = record {
      f_in = A.f_in;
      within = A.within;
      once = A.once;
      known = λ i l. better_on.kept (q i) (A.within i l) (A.known i l);
      queued = λ y l n. A.queued y l (old y l n (same_or_not y x));
      rises = λ i j a l. omega (arith, same_dist (q i) (A.within i (omega arith)), same_dist (q j) (A.within j l), A.rises i j a l);
      few = λ i l. omega (arith, same_dist (q i) (A.within i l), A.few i l);
      some = λ y l n. omega (arith, same_dist y l, A.some y l (old y l n (same_or_not y x)));
      sound = λ y l n. why y l n (same_or_not y x);
    }
      where
        why : (y : ℕ) → y < m → X' y ≢ 0 → (y ≡ x) ⊎ (y ≢ x) → Reason G f m X' R' y
        why y l n (inl e) = rw e (reason_new X' R' u_x.here u_r.here (why_on better_on B.step.g_in B.step.h_in (B.why (inr lower))))
        why y l n (inr e) = reason_on better_on y l (old y l n (inr e)) (u_x.else y l e) (u_r.else y l e)

    pub better_top : Top d tail X' q
    better_top = record { least = T.least; most = λ i l. omega (arith, same_dist (q i) (A.within i l), T.most i l); room = T.room }

    pub better_below : Below X' x v
    better_below = ((λ w. omega (arith, u_x.here, w, T.least)), omega (arith, u_x.here))

  -- ---- it is reached now

  module _ {X' R' q' : ℕ → ℕ} (new : X x ≡ 0) (u_x : Upd m X X' x v) (u_r : Upd m R R' x s) (uq : Upd m q q' tail x) (tl : tail ≤ m) where
    fresh : (i : ℕ) → i < tail → q i ≢ x
    fresh i l e = A.known i l (ap X e ∙ new)

    q_old : (i : ℕ) → i < tail → q' i ≡ q i
    q_old i l = uq.else i (omega arith) (omega arith)

    X_old : (y : ℕ) → y < m → X y ≢ 0 → X' y ≡ X y
    X_old y l n = u_x.else y l (λ e. n (ap X e ∙ new))

    pub new_on : Onward m tail (tail + 1) X q X' q'
    new_on = record {
      kept = λ y l n w. n (sym (X_old y l n) ∙ w);
      falls = λ y l n. omega (arith, X_old y l n);
      same = λ y l n. ap (λ (w : ℕ). w / HALF) (X_old y l n);
      queue = q_old;
      more = omega arith;
    }

    place : (i : ℕ) → i < tail + 1 → (i ≡ tail) ⊎ (i < tail)
    place i l = go (same_or_not i tail)
      where
        go : (i ≡ tail) ⊎ (i ≢ tail) → (i ≡ tail) ⊎ (i < tail)
        go (inl e) = inl e
        go (inr e) = inr (omega arith)

    q_at : (i : ℕ) → i ≡ tail → q' i ≡ x
    q_at i e = ap q' e ∙ uq.here

    d_at : (i : ℕ) → i ≡ tail → dist X' (q' i) ≡ d
    d_at i e = ap (dist X') (q_at i e) ∙ ap (λ (w : ℕ). w / HALF) u_x.here ∙ entry-dist d z B.small

    d_old : (i : ℕ) → i < tail → dist X' (q' i) ≡ dist X (q i)
    d_old i l = ap (dist X') (q_old i l) ∙ ap (λ (w : ℕ). w / HALF) (X_old (q i) (A.within i l) (A.known i l))

    pub new_wave : Wave G f m (tail + 1) X' R' q'
    new_wave = record {
      f_in = A.f_in;
      within = λ i l. in_range i (place i l);
      once = λ i j l k e. one i j e (place i l) (place j k);
      known = λ i l. there i (place i l);
      queued = λ y l n. line y l n (same_or_not y x);
      rises = λ i j a l. up i j a (place j l);
      few = λ i l. few' i (place i l);
      some = λ y l n. some' y l n (same_or_not y x);
      sound = λ y l n. why y l n (same_or_not y x);
    }
      where
        in_range : (i : ℕ) → (i ≡ tail) ⊎ (i < tail) → q' i < m
        in_range i (inl e) = rw (q_at i e) B.x_in
        in_range i (inr l) = rw (q_old i l) (A.within i l)

        one : (i j : ℕ) → q' i ≡ q' j → (i ≡ tail) ⊎ (i < tail) → (j ≡ tail) ⊎ (j < tail) → i ≡ j
        one i j e (inl a) (inl b) = a ∙ sym b
        one i j e (inl a) (inr b) = absurd (fresh j b (sym (q_old j b) ∙ sym e ∙ q_at i a))
        one i j e (inr a) (inl b) = absurd (fresh i a (sym (q_old i a) ∙ e ∙ q_at j b))
        one i j e (inr a) (inr b) = A.once i j a b (sym (q_old i a) ∙ e ∙ q_old j b)

        there : (i : ℕ) → (i ≡ tail) ⊎ (i < tail) → X' (q' i) ≢ 0
        there i (inl e) w = omega (arith, ap X' (q_at i e), u_x.here, w, T.least)
        there i (inr l) w = A.known i l (sym (X_old (q i) (A.within i l) (A.known i l)) ∙ sym (ap X' (q_old i l)) ∙ w)

        line : (y : ℕ) → y < m → X' y ≢ 0 → (y ≡ x) ⊎ (y ≢ x) → (i : ℕ) × (i < tail + 1) × (q' i ≡ y)
        line y l n (inl e) = (tail, omega arith, uq.here ∙ sym e)
        line y l n (inr e) =
            let r = A.queued y l (λ w. n (u_x.else y l e ∙ w)) in
            (r.0, omega (arith, r.1), q_old r.0 r.1 ∙ r.2)

        up : (i j : ℕ) → i ≤ j → (j ≡ tail) ⊎ (j < tail) → dist X' (q' i) ≤ dist X' (q' j)
        up i j a (inl e) = go (place i (omega arith))
          where
            go : (i ≡ tail) ⊎ (i < tail) → dist X' (q' i) ≤ dist X' (q' j)
            go (inl w) = omega (arith, d_at i w, d_at j e)
            go (inr w) = omega (arith, d_old i w, d_at j e, T.most i w)
        up i j a (inr l) =
            let w : i < tail = omega arith in
            omega (arith, d_old i w, d_old j l, A.rises i j a l)

        few' : (i : ℕ) → (i ≡ tail) ⊎ (i < tail) → dist X' (q' i) ≤ i + 1
        few' i (inl e) = omega (arith, d_at i e, T.room, e)
        few' i (inr l) = omega (arith, d_old i l, A.few i l)

        some' : (y : ℕ) → y < m → X' y ≢ 0 → (y ≡ x) ⊎ (y ≢ x) → 1 ≤ dist X' y
        some' y l n (inl e) = rw e (omega (arith, u_x.here, T.least))
        some' y l n (inr e) =
            let n' : X y ≢ 0 = λ w. n (u_x.else y l e ∙ w) in
            omega (arith, ap (λ (w : ℕ). w / HALF) (u_x.else y l e), A.some y l n')

        why : (y : ℕ) → y < m → X' y ≢ 0 → (y ≡ x) ⊎ (y ≢ x) → Reason G f m X' R' y
        why y l n (inl e) = rw e (reason_new X' R' u_x.here u_r.here (why_on new_on B.step.g_in B.step.h_in (B.why (inl new))))
        why y l n (inr e) = reason_on new_on y l (λ w. n (u_x.else y l e ∙ w)) (u_x.else y l e) (u_r.else y l e)

    pub new_top : Top d (tail + 1) X' q'
    new_top = record { least = T.least; most = λ i l. go i (place i l); room = omega (arith, T.room) }
      where
        go : (i : ℕ) → (i ≡ tail) ⊎ (i < tail) → dist X' (q' i) ≤ d
        go i (inl e) = omega (arith, d_at i e)
        go i (inr l) = omega (arith, d_old i l, T.most i l)

    pub new_below : Below X' x v
    new_below = ((λ w. omega (arith, u_x.here, w, T.least)), omega (arith, u_x.here))

-- no more entries than links
pub wave_few : {G : Graph} {f m tail : ℕ} {X R q : ℕ → ℕ} → Wave G f m tail X R q → tail ≤ m
wave_few {m = m} {tail = tail} {q = q} A = pigeonhole m tail q A.within (λ i j l k e. A.once i j l k e)

-- so there is room for a link that is not reached
pub wave_room : {G : Graph} {f m tail : ℕ} {X R q : ℕ → ℕ} → Wave G f m tail X R q → (x : ℕ) → x < m → X x ≡ 0 → tail < m
wave_room {m = m} {tail = tail} {X = X} {q = q} A x l z =
    let r : tail + 1 ≤ m = pigeonhole m (tail + 1) more within (λ i j a b e. once i j a b e) in
    omega (arith, r)
  where
    more : ℕ → ℕ
    more i = cond (eqb i tail) x (q i)

    place : (i : ℕ) → i < tail + 1 → ((i ≡ tail) × (more i ≡ x)) ⊎ ((i < tail) × (more i ≡ q i))
    place i k = go (same_or_not i tail)
      where
        go : (i ≡ tail) ⊎ (i ≢ tail) → ((i ≡ tail) × (more i ≡ x)) ⊎ ((i < tail) × (more i ≡ q i))
        go (inl e) = inl (e, rw (eq-eqb i tail e) refl)
        go (inr e) = inr (omega arith, rw (ne_eqb i tail e) refl)

    within : (i : ℕ) → i < tail + 1 → more i < m
    within i k = go (place i k)
      where
        go : ((i ≡ tail) × (more i ≡ x)) ⊎ ((i < tail) × (more i ≡ q i)) → more i < m
        go (inl (e, r)) = omega (arith, r, l)
        go (inr (e, r)) = omega (arith, r, A.within i e)

    once : (i j : ℕ) → i < tail + 1 → j < tail + 1 → more i ≡ more j → i ≡ j
    once i j a b e = go (place i a) (place j b)
      where
        fresh : (y : ℕ) → y < tail → q y ≢ x
        fresh y k w = A.known y k (ap X w ∙ z)

        go : ((i ≡ tail) × (more i ≡ x)) ⊎ ((i < tail) × (more i ≡ q i)) → ((j ≡ tail) × (more j ≡ x)) ⊎ ((j < tail) × (more j ≡ q j)) → i ≡ j
        go (inl (p, _)) (inl (r, _)) = p ∙ sym r
        go (inl (p, u)) (inr (r, w)) = absurd (fresh j r (sym w ∙ sym e ∙ u))
        go (inr (p, u)) (inl (r, w)) = absurd (fresh i p (sym u ∙ e ∙ w))
        go (inr (p, u)) (inr (r, w)) = A.once i j p r (sym u ∙ e ∙ w)

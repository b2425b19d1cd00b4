-- The search: `offer`, `offer_all`, `offer_listed`, `spread`, `is_settled`, `search`. Assumes nothing.
use Rattle.std.specs.Prelude.{leb, ◌≡◌, refl, ◌⊎◌, ◌≢◌, Bool, true, false, List, ℕ, ◌+◌, ◌*◌, ◌-◌, ◌≤◌, ◌<◌, ◌/◌, ◌%◌, length}
use Rattle.std.proofs.Common.{sym, ap, ◌∙◌, subst, inl, inr, arith}
use borrow.Author.Tests.{lt-leb, le-leb}
use Rattle.truss.specs.Limits.{max_accounts}
use Rattle.truss.specs.Graph.{Link, Graph, Triangle, Has, link, member, link_number, link_at}
use Rattle.laws.proofs.Lists.{true_not_false}
use Rattle.laws.proofs.Members.{number_lt, link_of_number}
use Rattle.laws.proofs.Numbers.{same_or_not, less_or_not}
use Rattle.laws.proofs.Proper.{Proper}
use Rattle.laws.proofs.ProperLinks.{at_member, end_below}
use Rattle.laws.proofs.Sides.{InOrder}
use Rattle.laws.proofs.ShortestRoom.{triangle_rises}
use Rattle.columns.specs.Columns.{cell, store, QUEUE, COLUMNS, HALF, link_bound, entry_bound}
use Rattle.columns.specs.Laws.{Upd, Same, upd_store, same_store, upd_then, then_upd, length-store, kept_column}
use Rattle.adjacency.specs.State.{Named, Near, Marks, Kept, kept-none, kept_trans, kept_store, named-kept, near-kept}
use Rattle.thirds.specs.Look.{EndsAre}
use Rattle.thirds.specs.Listing.{SIDE, MET, beside_kept, met_at, Listed, listed_same, ThirdsPre, ThirdsAre}
use Rattle.chain.specs.Corners.{On, OneOf, ab_c, ac_b, bc_a, Corner, corner_of, corner_at, has_on, on_has, on_member}
use Rattle.chain.specs.Wave.{dist, IsTri, Why, has_f, by_first, Step, Below, Offered, Spread, Led, Wave, wave_none, wave_few, wave_room, Top, Onward, onward_none, onward_trans, below_on, wave_same, top_same, onward_same, Bid, better_on, better_wave, better_top, better_below, new_on, new_wave, new_top, new_below}

abbrev pub NEAREST : ℕ
NEAREST = 3

abbrev pub SIDES : ℕ
SIDES = 4

-- the first column that the search does not use
abbrev pub SEARCH_END : ℕ
SEARCH_END = 9

-- the columns of the search
abbrev pub nearest : List ℕ → ℕ → ℕ → ℕ
nearest w m = cell w m NEAREST

abbrev pub sides : List ℕ → ℕ → ℕ → ℕ
sides w m = cell w m SIDES

abbrev pub queue : List ℕ → ℕ → ℕ → ℕ
queue w m = cell w m QUEUE

-- ---- what stands: a graph, its links in order in column 0; the wave

pub record Given (G : Graph) (m n : ℕ) (w : List ℕ) : Type 0 where
  pub named : Named G m n w
  pub order : InOrder G

pub given-kept : {G : Graph} {m n : ℕ} {w w' : List ℕ} → Given G m n w → Kept m SEARCH_END w w' → Given G m n w'
given-kept g k = record { named = named-kept g.named k; order = g.order }

-- triangles were offered at distance d: from tail to r the queue grew; keys, lists and all columns but three stay
pub record Went (G : Graph) (f m n d tail r : ℕ) (w w' : List ℕ) : Type 0 where
  pub given : Given G m n w'
  pub wave : Wave G f m r (nearest w' m) (sides w' m) (queue w' m)
  pub top : Top d r (nearest w' m) (queue w' m)
  pub onward : Onward m tail r (nearest w m) (queue w m) (nearest w' m) (queue w' m)
  pub kept : Kept m SEARCH_END w w'
  pub listed : (c y : ℕ) → c ≢ NEAREST → c ≢ SIDES → c ≢ QUEUE → y < m → cell w' m c y ≡ cell w m c y

pub record Ready (G : Graph) (f m n d tail : ℕ) (w : List ℕ) : Type 0 where
  pub given : Given G m n w
  pub wave : Wave G f m tail (nearest w m) (sides w m) (queue w m)
  pub top : Top d tail (nearest w m) (queue w m)

pub went_none : {G : Graph} {f m n d tail : ℕ} {w : List ℕ} → Ready G f m n d tail w → Went G f m n d tail tail w w
went_none {m = m} {tail = tail} {w = w} A = record {
  given = A.given;
  wave = A.wave;
  top = A.top;
  onward = onward_none m tail (nearest w m) (queue w m);
  kept = kept-none m SEARCH_END w;
  listed = λ c y p q r l. refl;
}

pub went_trans : {G : Graph} {f m n d tail s r : ℕ} {w w' w'' : List ℕ} → Went G f m n d tail s w w' → Went G f m n d s r w' w'' → Went G f m n d tail r w w''
went_trans p q = record {
  given = q.given;
  wave = q.wave;
  top = q.top;
  onward = onward_trans p.onward q.onward;
  kept = kept_trans p.kept q.kept;
  listed = λ c y a b e l. q.listed c y a b e l ∙ p.listed c y a b e l;
}

pub went_ready : {G : Graph} {f m n d tail r : ℕ} {w w' : List ℕ} → Went G f m n d tail r w w' → Ready G f m n d r w'
went_ready p = record { given = p.given; wave = p.wave; top = p.top }

-- ---- one link

pub record OfferPre (m x v s tail : ℕ) (w : List ℕ) : Type 0 where
  pub size : length w ≡ COLUMNS * m
  pub few : m ≤ link_bound
  pub x_in : x < m
  pub sides_small : s < entry_bound
  pub room : nearest w m x ≡ 0 → (tail < m) × (v < entry_bound)

abbrev taken : List ℕ → ℕ → ℕ → ℕ → ℕ → List ℕ
taken w m x v s = store (store w m NEAREST x v) m SIDES x s

pub data Offer (m x v s tail r : ℕ) (w w' : List ℕ) : Type 0 where
  was : nearest w m x ≢ 0 → nearest w m x ≤ v → r ≡ tail → w' ≡ w → Offer m x v s tail r w w'
  better : nearest w m x ≢ 0 → v < nearest w m x → r ≡ tail → w' ≡ taken w m x v s → Offer m x v s tail r w w'
  new : nearest w m x ≡ 0 → r ≡ tail + 1 → w' ≡ store (taken w m x v s) m QUEUE tail x → Offer m x v s tail r w w'

module _ (w : List ℕ) (m x v s : ℕ) (size : length w ≡ COLUMNS * m) (xl : x < m) where
  size_1 : length (store w m NEAREST x v) ≡ COLUMNS * m
  size_1 = length-store w m NEAREST x v ∙ size

  size_2 : length (taken w m x v s) ≡ COLUMNS * m
  size_2 = length-store (store w m NEAREST x v) m SIDES x s ∙ size_1

  taken-nearest : Upd m (nearest w m) (nearest (taken w m x v s) m) x v
  taken-nearest = upd_then xl (upd_store w m NEAREST x v (omega arith) xl size) (same_store (store w m NEAREST x v) m SIDES NEAREST x s (omega arith) xl)

  taken-sides : Upd m (sides w m) (sides (taken w m x v s) m) x s
  taken-sides = then_upd (same_store w m NEAREST SIDES x v (omega arith) xl) (upd_store (store w m NEAREST x v) m SIDES x s (omega arith) xl size_1)

  taken-kept : Kept m SEARCH_END w (taken w m x v s)
  taken-kept = kept_trans (kept_store w m SEARCH_END NEAREST x v (omega arith) (omega arith) xl) (kept_store (store w m NEAREST x v) m SEARCH_END SIDES x s (omega arith) (omega arith) xl)

  taken_same : (c y : ℕ) → c ≢ NEAREST → c ≢ SIDES → y < m → cell (taken w m x v s) m c y ≡ cell w m c y
  taken_same c y p q l =
      kept_column (store w m NEAREST x v) m SIDES c x y s (λ e. q (sym e)) xl l ∙ kept_column w m NEAREST c x y v (λ e. p (sym e)) xl l

  module _ (tail : ℕ) (tl : tail < m) where
    abbrev queued : List ℕ
    queued = store (taken w m x v s) m QUEUE tail x

    queued-nearest : Upd m (nearest w m) (nearest queued m) x v
    queued-nearest = upd_then xl taken-nearest (same_store (taken w m x v s) m QUEUE NEAREST tail x (omega arith) tl)

    queued-sides : Upd m (sides w m) (sides queued m) x s
    queued-sides = upd_then xl taken-sides (same_store (taken w m x v s) m QUEUE SIDES tail x (omega arith) tl)

    queued-queue : Upd m (queue w m) (queue queued m) tail x
    queued-queue =
        then_upd (λ y l. taken_same QUEUE y (omega arith) (omega arith) l) (upd_store (taken w m x v s) m QUEUE tail x (omega arith) tl size_2)

    queued-kept : Kept m SEARCH_END w queued
    queued-kept = kept_trans taken-kept (kept_store (taken w m x v s) m SEARCH_END QUEUE tail x (omega arith) (omega arith) tl)

    queued_same : (c y : ℕ) → c ≢ NEAREST → c ≢ SIDES → c ≢ QUEUE → y < m → cell queued m c y ≡ cell w m c y
    queued_same c y p q e l = kept_column (taken w m x v s) m QUEUE c tail y x (λ r. e (sym r)) tl l ∙ taken_same c y p q l

-- the queue of a wave stays where only entries fall
module _ {G : Graph} {f m n d tail x z g h : ℕ} {w : List ℕ} {t : Triangle} (A : Ready G f m n d tail w) (B : Bid G f m d x z g h (nearest w m) t) where
  size : length w ≡ COLUMNS * m
  size = A.given.named.size

  few : m ≤ link_bound
  few = A.given.named.few

  pub offer_pre : OfferPre m x (d * HALF + z) (g * HALF + h) tail w
  offer_pre = record {
    size = size;
    few = few;
    x_in = B.x_in;
    sides_small = omega (arith, B.step.g_in, B.h_small, few);
    room = λ e. let r = wave_room A.wave x B.x_in e in (r, omega (arith, r, few, A.top.room, B.small));
  }

  pub offer_went : {r : ℕ} {w' : List ℕ} → Offer m x (d * HALF + z) (g * HALF + h) tail r w w' → Went G f m n d tail r w w' × Below (nearest w' m) x (d * HALF + z)
  offer_went {r} {w'} (was a b rt wt) = rw (rt, wt) (went_none A, (a, b))
  offer_went {r} {w'} (better a b rt wt) = rw (rt, wt) (
    record {
      given = given-kept A.given kept;
      wave = wave_same tl (λ y l. refl) same (λ y l. refl) (better_wave A.wave A.top B a b u_x u_r);
      top = top_same tl (λ y l. refl) same A.wave.within (better_top A.wave A.top B a b u_x u_r);
      onward = onward_trans (better_on A.wave A.top B a b u_x u_r) (onward_same tl (λ y l. refl) same);
      kept = kept;
      listed = λ c y p q e l. taken_same w m x (d * HALF + z) (g * HALF + h) size B.x_in c y p q l;
    },
    better_below A.wave A.top B a b u_x u_r,
  )
    where
      tl : tail ≤ m
      tl = wave_few A.wave

      u_x : Upd m (nearest w m) (nearest (taken w m x (d * HALF + z) (g * HALF + h)) m) x (d * HALF + z)
      u_x = taken-nearest w m x (d * HALF + z) (g * HALF + h) size B.x_in

      u_r : Upd m (sides w m) (sides (taken w m x (d * HALF + z) (g * HALF + h)) m) x (g * HALF + h)
      u_r = taken-sides w m x (d * HALF + z) (g * HALF + h) size B.x_in

      same : Same m (queue w m) (queue (taken w m x (d * HALF + z) (g * HALF + h)) m)
      same y l = taken_same w m x (d * HALF + z) (g * HALF + h) size B.x_in QUEUE y (omega arith) (omega arith) l

      kept : Kept m SEARCH_END w (taken w m x (d * HALF + z) (g * HALF + h))
      kept = taken-kept w m x (d * HALF + z) (g * HALF + h) size B.x_in
  offer_went {r} {w'} (new a rt wt) = rw (rt, wt) (
    record {
      given = given-kept A.given kept;
      wave = new_wave A.wave A.top B a u_x u_r uq (omega (arith, tl));
      top = new_top A.wave A.top B a u_x u_r uq (omega (arith, tl));
      onward = new_on A.wave A.top B a u_x u_r uq (omega (arith, tl));
      kept = kept;
      listed = λ c y p q e l. queued_same w m x (d * HALF + z) (g * HALF + h) size B.x_in tail tl c y p q e l;
    },
    new_below A.wave A.top B a u_x u_r uq (omega (arith, tl)),
  )
    where
      tl : tail < m
      tl = wave_room A.wave x B.x_in a

      u_x : Upd m (nearest w m) (nearest (queued w m x (d * HALF + z) (g * HALF + h) size B.x_in tail tl) m) x (d * HALF + z)
      u_x = queued-nearest w m x (d * HALF + z) (g * HALF + h) size B.x_in tail tl

      u_r : Upd m (sides w m) (sides (queued w m x (d * HALF + z) (g * HALF + h) size B.x_in tail tl) m) x (g * HALF + h)
      u_r = queued-sides w m x (d * HALF + z) (g * HALF + h) size B.x_in tail tl

      uq : Upd m (queue w m) (queue (queued w m x (d * HALF + z) (g * HALF + h) size B.x_in tail tl) m) tail x
      uq = queued-queue w m x (d * HALF + z) (g * HALF + h) size B.x_in tail tl

      kept : Kept m SEARCH_END w (queued w m x (d * HALF + z) (g * HALF + h) size B.x_in tail tl)
      kept = queued-kept w m x (d * HALF + z) (g * HALF + h) size B.x_in tail tl

-- ---- the three links of a triangle

-- whose triangles are offered: those of f at distance 1, those of a reached link one farther than it
pub data Cause (f d p : ℕ) (X : ℕ → ℕ) : Type 0 where
  at_f : p ≡ f → d ≡ 1 → Cause f d p X
  beyond : X p ≢ 0 → d ≡ dist X p + 1 → Cause f d p X

pub cause_on : {f m tail r d p : ℕ} {X q X' q' : ℕ → ℕ} → Onward m tail r X q X' q' → p < m → Cause f d p X → Cause f d p X'
cause_on o l (at_f e q) = at_f e q
cause_on {p = p} o l (beyond n q) = beyond (o.kept p l n) (q ∙ ap (λ (v : ℕ). v + 1) (sym (o.same p l n)))

-- the links of a, b and c have entries that are not above this triangle's at distance d
pub record Three (G : Graph) (d a b c : ℕ) (X : ℕ → ℕ) : Type 0 where
  pub ab : Below X (link_number G (link a b)) (d * HALF + c)
  pub ac : Below X (link_number G (link a c)) (d * HALF + b)
  pub bc : Below X (link_number G (link b c)) (d * HALF + a)

pub three_offered : {G : Graph} {d a b c : ℕ} {X : ℕ → ℕ} {t : Triangle} → Three G d a b c X → Corner t a b c → Offered G X d t
three_offered {G} {d} {a} {b} {c} {X} {t} T C e z o = go (C.only e z o)
  where
    go : OneOf a b c e z → Below X (link_number G e) (d * HALF + z)
    go (ab_c p q) = rw (p, q) T.ab
    go (ac_b p q) = rw (p, q) T.ac
    go (bc_a p q) = rw (p, q) T.bc

-- p, g and h are the numbers of the links of a, b and c
pub record Links (G : Graph) (m a b c p g h : ℕ) : Type 0 where
  pub ab : member G.links (link a b) ≡ true
  pub ac : member G.links (link a c) ≡ true
  pub bc : member G.links (link b c) ≡ true
  pub p_is : p ≡ link_number G (link a b)
  pub g_is : g ≡ link_number G (link a c)
  pub h_is : h ≡ link_number G (link b c)

pub record AllPre (G : Graph) (f m n d a b c p g h tail : ℕ) (w : List ℕ) : Type 0 where
  pub ready : Ready G f m n d tail w
  pub cause : Cause f d p (nearest w m)
  pub links : Links G m a b c p g h

pub record All (G : Graph) (f m n d a b c tail r : ℕ) (w w' : List ℕ) : Type 0 where
  pub went : Went G f m n d tail r w w'
  pub three : Three G d a b c (nearest w' m)

abbrev pub AllAsks : ℕ → ℕ → ℕ → ℕ → ℕ → ℕ → ℕ → ℕ → ℕ → List ℕ → Type 0
AllAsks m d a b c p g h tail w = (G : Graph) × (f : ℕ) × (n : ℕ) × AllPre G f m n d a b c p g h tail w

abbrev pub AllGives : ℕ → ℕ → ℕ → ℕ → ℕ → ℕ → ℕ → ℕ → ℕ → ℕ → List ℕ → List ℕ → Type 0
AllGives m d a b c p g h tail r w w' = (G : Graph) (f n : ℕ) → AllPre G f m n d a b c p g h tail w → All G f m n d a b c tail r w w'

module _ {G : Graph} {f m n d a b c p g h tail : ℕ} {w : List ℕ} (P : AllPre G f m n d a b c p g h tail w) where
  K : Links G m a b c p g h
  K = P.links

  N : Named G m n w
  N = P.ready.given.named

  p_in : p < m
  p_in = omega (arith, K.p_is, number_lt G (link a b) K.ab, N.count)

  g_in : g < m
  g_in = omega (arith, K.g_is, number_lt G (link a c) K.ac, N.count)

  h_in : h < m
  h_in = omega (arith, K.h_is, number_lt G (link b c) K.bc, N.count)

  p_at : link_at G p ≡ link a b
  p_at = ap (link_at G) K.p_is ∙ link_of_number G (link a b) K.ab

  g_at : link_at G g ≡ link a c
  g_at = ap (link_at G) K.g_is ∙ link_of_number G (link a c) K.ac

  h_at : link_at G h ≡ link b c
  h_at = ap (link_at G) K.h_is ∙ link_of_number G (link b c) K.bc

  pub all_a : a < max_accounts
  all_a = omega (arith, (end_below G N.proper a b K.ab).0, N.accounts, N.small)

  pub all_b : b < max_accounts
  all_b = omega (arith, (end_below G N.proper a b K.ab).1, N.accounts, N.small)

  pub all_c : c < max_accounts
  all_c = omega (arith, (end_below G N.proper a c K.ac).1, N.accounts, N.small)

  pub all_numbers : (p < HALF) × (g < HALF) × (h < HALF)
  all_numbers = (omega (arith, p_in, N.few), omega (arith, g_in, N.few), omega (arith, h_in, N.few))

  pub all_d : d ≤ HALF
  all_d = omega (arith, P.ready.top.room, wave_few P.ready.wave, N.few)

  T : (t : Triangle) × IsTri G t × Corner t a b c
  T = corner_of G N.proper a b c K.ab K.ac K.bc

  -- every link of the triangle is one of the three
  rest : (l : Link) → Has T.0 l → (l ≡ link_at G p) ⊎ ((l ≡ link_at G g) ⊎ (l ≡ link_at G h))
  rest l hl = go (T.2.only l (has_on hl).0 (has_on hl).1)
    where
      go : {z : ℕ} → OneOf a b c l z → (l ≡ link_at G p) ⊎ ((l ≡ link_at G g) ⊎ (l ≡ link_at G h))
      go (ab_c q _) = inl (q ∙ sym p_at)
      go (ac_b q _) = inr (inl (q ∙ sym g_at))
      go (bc_a q _) = inr (inr (q ∙ sym h_at))

  has_p : Has T.0 (link_at G p)
  has_p = rw p_at (on_has T.2.ab)

  has_g : Has T.0 (link_at G g)
  has_g = rw g_at (on_has T.2.ac)

  has_h : Has T.0 (link_at G h)
  has_h = rw h_at (on_has T.2.bc)

  -- the reason of g and h is p; p itself takes it only if it is f
  step_p : Step G m p c g h T.0
  step_p = record { is = T.1; on = rw p_at T.2.ab; g_in = g_in; h_in = h_in; has_g = has_g; has_h = has_h; rest = rest }

  step_g : Step G m g b p h T.0
  step_g = record {
    is = T.1;
    on = rw g_at T.2.ac;
    g_in = p_in;
    h_in = h_in;
    has_g = has_p;
    has_h = has_h;
    rest = λ l hl. go (rest l hl);
  }
    where
      go : {l : Link} → (l ≡ link_at G p) ⊎ ((l ≡ link_at G g) ⊎ (l ≡ link_at G h)) → (l ≡ link_at G g) ⊎ ((l ≡ link_at G p) ⊎ (l ≡ link_at G h))
      go (inl e) = inr (inl e)
      go (inr (inl e)) = inl e
      go (inr (inr e)) = inr (inr e)

  step_h : Step G m h a p g T.0
  step_h = record {
    is = T.1;
    on = rw h_at T.2.bc;
    g_in = p_in;
    h_in = g_in;
    has_g = has_p;
    has_h = has_g;
    rest = λ l hl. go (rest l hl);
  }
    where
      go : {l : Link} → (l ≡ link_at G p) ⊎ ((l ≡ link_at G g) ⊎ (l ≡ link_at G h)) → (l ≡ link_at G h) ⊎ ((l ≡ link_at G p) ⊎ (l ≡ link_at G g))
      go (inl e) = inr (inl e)
      go (inr (inl e)) = inr (inr e)
      go (inr (inr e)) = inl e

  why_p : {X : ℕ → ℕ} → Cause f d p X → (X p ≡ 0) ⊎ (d * HALF + c < X p) → Why G f X T.0 d g h
  why_p (at_f e q) _ = has_f (subst (λ (i : ℕ). Has T.0 (link_at G i)) e has_p) q
  why_p (beyond n q) (inl z) = absurd (n z)
  why_p {X} (beyond n q) (inr z) = absurd (omega (arith, q, z))

  why_other : {X : ℕ → ℕ} {i : ℕ} → Cause f d p X → Why G f X T.0 d p i
  why_other (at_f e q) = has_f (subst (λ (i : ℕ). Has T.0 (link_at G i)) e has_p) q
  why_other (beyond n q) = by_first n q

  bid_p : Bid G f m d p c g h (nearest w m) T.0
  bid_p = record { x_in = p_in; small = omega (arith, all_c); g_small = all_numbers.1; h_small = all_numbers.2; step = step_p; why = λ r. why_p P.cause r }

  pub all_first : OfferPre m p (d * HALF + c) (g * HALF + h) tail w
  all_first = offer_pre P.ready bid_p

  module _ {t : ℕ} {w₁ : List ℕ} (O : Offer m p (d * HALF + c) (g * HALF + h) tail t w w₁) where
    one : Went G f m n d tail t w w₁ × Below (nearest w₁ m) p (d * HALF + c)
    one = offer_went P.ready bid_p O

    bid_g : Bid G f m d g b p h (nearest w₁ m) T.0
    bid_g = record {
      x_in = g_in;
      small = omega (arith, all_b);
      g_small = all_numbers.0;
      h_small = all_numbers.2;
      step = step_g;
      why = λ _. why_other (cause_on one.0.onward p_in P.cause);
    }

    pub all_second : OfferPre m g (d * HALF + b) (p * HALF + h) t w₁
    all_second = offer_pre (went_ready one.0) bid_g

    module _ {u : ℕ} {w₂ : List ℕ} (O₂ : Offer m g (d * HALF + b) (p * HALF + h) t u w₁ w₂) where
      two : Went G f m n d t u w₁ w₂ × Below (nearest w₂ m) g (d * HALF + b)
      two = offer_went (went_ready one.0) bid_g O₂

      both : Went G f m n d tail u w w₂
      both = went_trans one.0 two.0

      bid_h : Bid G f m d h a p g (nearest w₂ m) T.0
      bid_h = record {
        x_in = h_in;
        small = omega (arith, all_a);
        g_small = all_numbers.0;
        h_small = all_numbers.1;
        step = step_h;
        why = λ _. why_other (cause_on both.onward p_in P.cause);
      }

      pub all_third : OfferPre m h (d * HALF + a) (p * HALF + g) u w₂
      all_third = offer_pre (went_ready both) bid_h

      pub all_done : {r : ℕ} {w₃ : List ℕ} → Offer m h (d * HALF + a) (p * HALF + g) u r w₂ w₃ → All G f m n d a b c tail r w w₃
      all_done {r} {w₃} O₃ = go (offer_went (went_ready both) bid_h O₃)
        where
          go : Went G f m n d u r w₂ w₃ × Below (nearest w₃ m) h (d * HALF + a) → All G f m n d a b c tail r w w₃
          go (v, bh) = record {
            went = went_trans both v;
            three = record {
              ab = rw (← K.p_is) (below_on v.onward p_in (below_on two.0.onward p_in one.1));
              ac = rw (← K.g_is) (below_on v.onward g_in two.1);
              bc = rw (← K.h_is) bh;
            };
          }

-- ---- the listed triangles of link p

pub record OverPre (G : Graph) (f m n d a b p count tail : ℕ) (w : List ℕ) : Type 0 where
  pub ready : Ready G f m n d tail w
  pub cause : Cause f d p (nearest w m)
  pub p_in : p < m
  pub ends : EndsAre G p a b
  pub few : count ≤ m
  pub each : (t : ℕ) → t < count → Listed G m a b t w

pub record Over (G : Graph) (f m n d a b tail r j : ℕ) (w w' : List ℕ) : Type 0 where
  pub went : Went G f m n d tail r w w'
  pub met : (t : ℕ) → t < j → Three G d a b (met_at w m t) (nearest w' m)

abbrev pub OverAsks : ℕ → ℕ → ℕ → ℕ → ℕ → ℕ → ℕ → List ℕ → Type 0
OverAsks m d a b p count tail w = (G : Graph) × (f : ℕ) × (n : ℕ) × OverPre G f m n d a b p count tail w

abbrev pub OverTurns : ℕ → ℕ → ℕ → ℕ → ℕ → ℕ → ℕ → ℕ → ℕ → List ℕ → List ℕ → Type 0
OverTurns m d a b p count tail r j w w' = (G : Graph) (f n : ℕ) → OverPre G f m n d a b p count tail w → Over G f m n d a b tail r j w w'

abbrev pub OverGives : ℕ → ℕ → ℕ → ℕ → ℕ → ℕ → ℕ → ℕ → List ℕ → List ℕ → Type 0
OverGives m d a b p count tail r w w' = OverTurns m d a b p count tail r count w w'

module _ {G : Graph} {f m n d a b p count tail : ℕ} {w₀ : List ℕ} (P : OverPre G f m n d a b p count tail w₀) where
  pub over_start : Over G f m n d a b tail tail 0 w₀ w₀
  over_start = record { went = went_none P.ready; met = λ t l. absurd (omega arith) }

  proper_in : member G.links (link_at G p) ≡ true
  proper_in = at_member G P.ready.given.named.proper p (omega (arith, P.p_in, P.ready.given.named.count))

  module _ {r j : ℕ} {w : List ℕ} (O : Over G f m n d a b tail r j w₀ w) (l : j < count) where
    pub over_in : j < m
    over_in = omega (arith, P.few)

    pub over_size : length w ≡ COLUMNS * m
    over_size = O.went.given.named.size

    here : Listed G m a b j w
    here = listed_same (O.went.listed SIDE j (omega arith) (omega arith) (omega arith) over_in) (O.went.listed MET j (omega arith) (omega arith) (omega arith) over_in) (P.each j l)

    module _ {g x : ℕ} (g_is : g ≡ cell w m SIDE j) (x_is : x ≡ cell w m MET j) where
      pub over_some : 1 ≤ g
      over_some = omega (arith, g_is, here.side)

      pub over_all : AllPre G f m n d a b (x / HALF) p (g - 1) (x % HALF) r w
      over_all = record {
        ready = went_ready O.went;
        cause = cause_on O.went.onward P.p_in P.cause;
        links = rw x_is (record {
          ab = ap (member G.links) (sym P.ends.is) ∙ proper_in;
          ac = here.ac;
          bc = here.bc;
          p_is = sym (P.ready.given.named.proper.numbered p (omega (arith, P.p_in, P.ready.given.named.count))) ∙ ap (link_number G) P.ends.is;
          g_is = omega (arith, g_is, here.side);
          h_is = here.met;
        });
      }

      pub over_turn : {r' : ℕ} {w' : List ℕ} → All G f m n d a b (x / HALF) r r' w w' → Over G f m n d a b tail r' (j + 1) w₀ w'
      over_turn {r'} {w'} Q = record { went = went_trans O.went Q.went; met = λ t k. go t k (same_or_not t j) }
        where
          met_is : x / HALF ≡ met_at w₀ m j
          met_is = ap (λ (v : ℕ). v / HALF) (x_is ∙ O.went.listed MET j (omega arith) (omega arith) (omega arith) over_in)

          on : (i : ℕ) {v : ℕ} → i < m → Below (nearest w m) i v → Below (nearest w' m) i v
          on i k b = below_on Q.went.onward k b

          below : (e : Link) → member G.links e ≡ true → link_number G e < m
          below e h = omega (arith, number_lt G e h, P.ready.given.named.count)

          go : (t : ℕ) → t < j + 1 → (t ≡ j) ⊎ (t ≢ j) → Three G d a b (met_at w₀ m t) (nearest w' m)
          go t k (inl e) = rw (e, ← met_is) Q.three
          go t k (inr e) =
              let o = O.met t (omega arith) in
              let L = P.each t (omega arith) in
              record {
                ab = on (link_number G (link a b)) (below (link a b) (ap (member G.links) (sym P.ends.is) ∙ proper_in)) o.ab;
                ac = on (link_number G (link a (met_at w₀ m t))) (below (link a (met_at w₀ m t)) L.ac) o.ac;
                bc = on (link_number G (link b (met_at w₀ m t))) (below (link b (met_at w₀ m t)) L.bc) o.bc;
              }

-- ---- all triangles on link p

pub record SpreadPre (G : Graph) (f m n d p at tail : ℕ) (w start mark : List ℕ) : Type 0 where
  pub ready : Ready G f m n d tail w
  pub cause : Cause f d p (nearest w m)
  pub p_in : p < m
  pub near : Near G m w start
  pub marks : Marks G mark at
  pub at_in : at < G.n

pub record Spreads (G : Graph) (f m n d p tail r at' : ℕ) (w w' start mark' : List ℕ) : Type 0 where
  pub ready : Ready G f m n d r w'
  pub onward : Onward m tail r (nearest w m) (queue w m) (nearest w' m) (queue w' m)
  pub kept : Kept m SEARCH_END w w'
  pub near : Near G m w' start
  pub marks : Marks G mark' at'
  pub at_in : at' < G.n
  pub spread : Spread G (nearest w' m) d p

abbrev pub SpreadAsks : ℕ → ℕ → ℕ → ℕ → ℕ → ℕ → List ℕ → List ℕ → List ℕ → Type 0
SpreadAsks m n d p at tail w start mark = (G : Graph) × (f : ℕ) × SpreadPre G f m n d p at tail w start mark

abbrev pub SpreadGives : ℕ → ℕ → ℕ → ℕ → ℕ → ℕ → ℕ → ℕ → List ℕ → List ℕ → List ℕ → List ℕ → List ℕ → Type 0
SpreadGives m n d p at tail r at' w w' start mark mark' = (G : Graph) (f : ℕ) → SpreadPre G f m n d p at tail w start mark → Spreads G f m n d p tail r at' w w' start mark'

module _ {G : Graph} {f m n d p at tail : ℕ} {w start mark : List ℕ} (P : SpreadPre G f m n d p at tail w start mark) where
  pub spread_thirds : ThirdsPre G m n p at w start mark
  spread_thirds = record {
    named = P.ready.given.named;
    order = P.ready.given.order;
    near = P.near;
    marks = P.marks;
    at_in = P.at_in;
    below = P.p_in;
  }

  module _ {a b count at' : ℕ} {w₁ mark' : List ℕ} (L : ThirdsAre G m p a b count at' w w₁ mark') where
    tl : tail ≤ m
    tl = wave_few P.ready.wave

    col : (c : ℕ) → c ≢ SIDE → c ≢ MET → Same m (cell w m c) (cell w₁ m c)
    col c u v y l = L.beside.same c y u v l

    s_x : Same m (nearest w m) (nearest w₁ m)
    s_x = col NEAREST (omega arith) (omega arith)

    s_r : Same m (sides w m) (sides w₁ m)
    s_r = col SIDES (omega arith) (omega arith)

    sq : Same m (queue w m) (queue w₁ m)
    sq = col QUEUE (omega arith) (omega arith)

    side_on : Onward m tail tail (nearest w m) (queue w m) (nearest w₁ m) (queue w₁ m)
    side_on = onward_same tl s_x sq

    kept_1 : Kept m SEARCH_END w w₁
    kept_1 = beside_kept (omega arith) L.beside

    ready_1 : Ready G f m n d tail w₁
    ready_1 = record {
      given = given-kept P.ready.given kept_1;
      wave = wave_same tl s_x sq s_r P.ready.wave;
      top = top_same tl s_x sq P.ready.wave.within P.ready.top;
    }

    pub spread_over : OverPre G f m n d a b p count tail w₁
    spread_over = record {
      ready = ready_1;
      cause = cause_on side_on P.p_in P.cause;
      p_in = P.p_in;
      ends = L.ends;
      few = L.few;
      each = L.each;
    }

    pub spread_done : {r : ℕ} {w' : List ℕ} → Over G f m n d a b tail r count w₁ w' → Spreads G f m n d p tail r at' w w' start mark'
    spread_done {r} {w'} O = record {
      ready = went_ready O.went;
      onward = onward_trans side_on O.went.onward;
      kept = kept_trans kept_1 O.went.kept;
      near = near-kept P.near (kept_trans kept_1 O.went.kept);
      marks = L.marks;
      at_in = L.at_in;
      spread = λ t i hp. all t i (has_on (rw L.ends.is at hp));
    }
      where
        proper : Proper G
        proper = P.ready.given.named.proper

        all : (t : Triangle) → IsTri G t → (z : ℕ) × On t (link a b) z → Offered G (nearest w' m) d t
        all t i (z, o) =
            let C = corner_at t (triangle_rises G proper t i) a b z o in
            let r = L.all z (on_member G proper i C.ac) (on_member G proper i C.bc) in
            three_offered (rw r.2 at (O.met r.0 r.1)) C

-- ---- whether link e is reached, at a distance of no more than d

pub record SettledAsks (m e : ℕ) (w : List ℕ) : Type 0 where
  pub size : length w ≡ COLUMNS * m
  pub e_in : e < m

pub data Settled (m e d : ℕ) (r : Bool) (w : List ℕ) : Type 0 where
  settled : r ≡ true → nearest w m e ≢ 0 → dist (nearest w m) e ≤ d → Settled m e d r w
  unsettled : r ≡ false → Settled m e d r w

-- by the entry that is looked at
pub settled_by : {m e d : ℕ} {w : List ℕ} (x : ℕ) → x ≡ nearest w m e → x ≢ 0 → Settled m e d (leb (x / HALF) d) w
settled_by {m} {e} {d} {w} x q n = go (less_or_not d (x / HALF))
  where
    go : (d < x / HALF) ⊎ (x / HALF ≤ d) → Settled m e d (leb (x / HALF) d) w
    go (inl l) = unsettled (lt-leb (x / HALF) d l)
    go (inr l) = settled (le-leb (x / HALF) d l) (λ z. n (q ∙ z)) (omega (arith, l, q))

pub settled_is : {m e d : ℕ} {r : Bool} {w : List ℕ} → Settled m e d r w → r ≡ true → (nearest w m e ≢ 0) × (dist (nearest w m) e ≤ d)
settled_is (settled t n l) q = (n, l)
settled_is (unsettled f) q = absurd (true_not_false q f)

-- ---- the links that wait

pub record SearchPre (G : Graph) (m n e f at : ℕ) (w start mark : List ℕ) : Type 0 where
  pub given : Given G m n w
  pub near : Near G m w start
  pub marks : Marks G mark at
  pub at_in : at < G.n
  pub e_in : e < m
  pub f_in : f < m
  pub blank : (y : ℕ) → y < m → nearest w m y ≡ 0

-- f and the first `head` links of the queue were spread, those from there up to `tail` wait
pub record Searching (G : Graph) (f m n head tail at : ℕ) (w₀ w start mark : List ℕ) : Type 0 where
  pub given : Given G m n w
  pub wave : Wave G f m tail (nearest w m) (sides w m) (queue w m)
  pub kept : Kept m SEARCH_END w₀ w
  pub near : Near G m w start
  pub marks : Marks G mark at
  pub at_in : at < G.n
  pub first : Spread G (nearest w m) 1 f
  pub ahead : head < tail → (i : ℕ) → i < tail → dist (nearest w m) (queue w m i) ≤ dist (nearest w m) (queue w m head) + 1
  pub done : (i : ℕ) → i < head → i < tail → Spread G (nearest w m) (dist (nearest w m) (queue w m i) + 1) (queue w m i)

-- link p is to be spread at distance d; then so it is
pub record Turning (G : Graph) (f m n head tail at d p : ℕ) (w₀ w start mark : List ℕ) : Type 0 where
  pub pre : SpreadPre G f m n d p at tail w start mark
  pub then : (r at' : ℕ) (w' mark' : List ℕ) → Spreads G f m n d p tail r at' w w' start mark' → Searching G f m n head r at' w₀ w' start mark'

-- the entries that chains from e to f take
pub record Searched (G : Graph) (f e m n : ℕ) (w₀ w : List ℕ) : Type 0 where
  pub given : Given G m n w
  pub led : Led G f e m (nearest w m) (sides w m)
  pub kept : Kept m SEARCH_END w₀ w

abbrev pub SearchAsks : ℕ → ℕ → ℕ → ℕ → ℕ → List ℕ → List ℕ → List ℕ → Type 0
SearchAsks m n e f at w start mark = (G : Graph) × SearchPre G m n e f at w start mark

abbrev pub SearchTurns : ℕ → ℕ → ℕ → ℕ → ℕ → ℕ → ℕ → ℕ → ℕ → ℕ → List ℕ → List ℕ → List ℕ → List ℕ → List ℕ → Type 0
SearchTurns m n e f at₀ head tail at d p w₀ w start mark₀ mark = (G : Graph) → SearchPre G m n e f at₀ w₀ start mark₀ → Turning G f m n head tail at d p w₀ w start mark

abbrev pub SearchGives : ℕ → ℕ → ℕ → ℕ → ℕ → List ℕ → List ℕ → List ℕ → List ℕ → Type 0
SearchGives m n e f at w w' start mark = (G : Graph) → SearchPre G m n e f at w start mark → Searched G f e m n w w'

-- a spread stands while entries fall
spread_on : (G : Graph) (d p : ℕ) {m tail r : ℕ} {X q X' q' : ℕ → ℕ} → Onward m tail r X q X' q' → ((t : Triangle) → IsTri G t → (e : Link) (z : ℕ) → On t e z → link_number G e < m)
    → Spread G X d p → Spread G X' d p
spread_on G d p o small S t i hp e z on = below_on o (small t i e z on) (S t i hp e z on)

module _ {G : Graph} {m n e f at₀ : ℕ} {w₀ start mark₀ : List ℕ} (P : SearchPre G m n e f at₀ w₀ start mark₀) where
  -- f first
  pub search_start : Turning G f m n 0 0 at₀ 1 f w₀ w₀ start mark₀
  search_start = record {
    pre = record {
      ready = record {
        given = P.given;
        wave = wave_none P.f_in P.blank;
        top = record { least = omega arith; most = λ i l. absurd (omega arith); room = omega arith };
      };
      cause = at_f refl refl;
      p_in = P.f_in;
      near = P.near;
      marks = P.marks;
      at_in = P.at_in;
    };
    then = λ r at' w' mark' D. record {
      given = D.ready.given;
      wave = D.ready.wave;
      kept = D.kept;
      near = D.near;
      marks = D.marks;
      at_in = D.at_in;
      first = D.spread;
      ahead = λ h i l. omega (arith, D.ready.top.most i l);
      done = λ i l. absurd (omega arith);
    };
  }

  named_in : Named G m n w₀
  named_in = P.given.named

  small : (t : Triangle) → IsTri G t → (l : Link) (z : ℕ) → On t l z → link_number G l < m
  small t i l z o = omega (arith, number_lt G l (on_member G named_in.proper i o), named_in.count)

  module _ {head tail at : ℕ} {w mark : List ℕ} (S : Searching G f m n head tail at w₀ w start mark) where
    pub search_few : tail ≤ m
    search_few = wave_few S.wave

    pub search_size : length w ≡ COLUMNS * m
    search_size = S.given.named.size

    pub search_settled : SettledAsks m e w
    search_settled = record { size = search_size; e_in = P.e_in }

    -- every distance is at most m
    few_all : (y : ℕ) → y < m → dist (nearest w m) y ≤ m
    few_all y l = go (same_or_not (nearest w m y) 0)
      where
        go : (nearest w m y ≡ 0) ⊎ (nearest w m y ≢ 0) → dist (nearest w m) y ≤ m
        go (inl z) = omega (arith, z)
        go (inr z) = let r = S.wave.queued y l z in omega (arith, ap (dist (nearest w m)) r.2, S.wave.few r.0 r.1, r.1, search_few)

    -- nothing waits
    pub search_end : tail ≤ head → Searched G f e m n w₀ w
    search_end h = record {
      given = S.given;
      led = record {
        f_in = S.wave.f_in;
        some = S.wave.some;
        few = few_all;
        sound = S.wave.sound;
        first = S.first;
        nearer = λ _ y l n _. all y l n;
        all = λ _ y l n. all y l n;
      };
      kept = S.kept;
    }
      where
        all : (y : ℕ) → y < m → nearest w m y ≢ 0 → Spread G (nearest w m) (dist (nearest w m) y + 1) y
        all y l n = let r = S.wave.queued y l n in rw (← r.2) (S.done r.0 (omega (arith, r.1, h)) r.1)

    module _ (more : head < tail) {p : ℕ} (p_is : p ≡ queue w m head) where
      pub search_p : p < m
      search_p = rw p_is (S.wave.within head more)

      module _ {x : ℕ} (x_is : x ≡ nearest w m p) where
        d_is : x / HALF ≡ dist (nearest w m) (queue w m head)
        d_is = ap (λ (v : ℕ). v / HALF) (x_is ∙ ap (nearest w m) p_is)

        pub search_small : x / HALF ≤ link_bound
        search_small = omega (arith, d_is, S.wave.few head more, more, search_few, S.given.named.few)

        -- the first that waits is no nearer than e
        pub search_stop : nearest w m e ≢ 0 → dist (nearest w m) e ≤ x / HALF → Searched G f e m n w₀ w
        search_stop n' le = record {
          given = S.given;
          led = record {
            f_in = S.wave.f_in;
            some = S.wave.some;
            few = few_all;
            sound = S.wave.sound;
            first = S.first;
            nearer = λ _ y l n h. spread y l n h (S.wave.queued y l n);
            all = λ z. absurd (n' z);
          };
          kept = S.kept;
        }
          where
            spread : (y : ℕ) → y < m → nearest w m y ≢ 0 → dist (nearest w m) y < dist (nearest w m) e → (i : ℕ) × (i < tail) × (queue w m i ≡ y)
                → Spread G (nearest w m) (dist (nearest w m) y + 1) y
            spread y l n h (i, il, q) = go (less_or_not i head)
              where
                go : (i < head) ⊎ (head ≤ i) → Spread G (nearest w m) (dist (nearest w m) y + 1) y
                go (inl u) = rw (← q) (S.done i u il)
                go (inr u) = absurd (omega (arith, S.wave.rises head i u il, ap (dist (nearest w m)) q, h, le, d_is))

        -- else it is spread next
        pub search_next : Turning G f m n (head + 1) tail at (x / HALF + 1) p w₀ w start mark
        search_next = record {
          pre = record {
            ready = record {
              given = S.given;
              wave = S.wave;
              top = record {
                least = omega arith;
                most = λ i l. omega (arith, d_is, S.ahead more i l);
                room = omega (arith, d_is, S.wave.few head more, more);
              };
            };
            cause = beyond (λ z. S.wave.known head more (ap (nearest w m) (sym p_is) ∙ z)) (ap (λ (v : ℕ). v / HALF + 1) x_is);
            p_in = search_p;
            near = S.near;
            marks = S.marks;
            at_in = S.at_in;
          };
          then = λ r at' w' mark' D. onward r at' w' mark' D;
        }
          where
            onward : (r at' : ℕ) (w' mark' : List ℕ) → Spreads G f m n (x / HALF + 1) p tail r at' w w' start mark' → Searching G f m n (head + 1) r at' w₀ w' start mark'
            onward r at' w' mark' D = record {
              given = D.ready.given;
              wave = D.ready.wave;
              kept = kept_trans S.kept D.kept;
              near = D.near;
              marks = D.marks;
              at_in = D.at_in;
              first = spread_on G 1 f D.onward small S.first;
              ahead = λ h i l. omega (arith, D.ready.top.most i l, far, D.ready.wave.rises head (head + 1) (omega arith) h);
              done = λ i l k. finished i l (same_or_not i head);
            }
              where
                -- those that waited keep place and distance
                stay : (i : ℕ) → i < tail → queue w' m i ≡ queue w m i
                stay i l = D.onward.queue i l

                stays : (i : ℕ) → i < tail → dist (nearest w' m) (queue w' m i) ≡ dist (nearest w m) (queue w m i)
                stays i l = ap (dist (nearest w' m)) (stay i l) ∙ D.onward.same (queue w m i) (S.wave.within i l) (S.wave.known i l)

                far : dist (nearest w' m) (queue w' m head) ≡ x / HALF
                far = stays head more ∙ sym d_is

                finished : (i : ℕ) → i < head + 1 → (i ≡ head) ⊎ (i ≢ head) → Spread G (nearest w' m) (dist (nearest w' m) (queue w' m i) + 1) (queue w' m i)
                finished i l (inl q) = rw (q, far, stay head more, ← p_is) D.spread
                finished i l (inr q) =
                    let il : i < tail = omega arith in
                    rw (stays i il, stay i il) (spread_on G (dist (nearest w m) (queue w m i) + 1) (queue w m i) D.onward small (S.done i (omega arith) il))

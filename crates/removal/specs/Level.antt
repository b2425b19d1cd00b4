-- One level of the peeling, over the whole graph: its start, its end, the end of all levels, the removal of one link. Assumes nothing.
use Rattle.std.specs.Prelude.{◌≡◌, ◌⊎◌, ◌≢◌, Bool, List, ℕ, suc, ◌+◌, ◌≤◌, ◌<◌, length}
use Rattle.std.proofs.Math.Path.{refl, ap}
use Rattle.std.proofs.Common.{sym, ◌∙◌, inl, inr, arith}
use Rattle.std.proofs.Math.Bool.{true, false}
use Rattle.truss.specs.Graph.{Link, Graph, member, support, link_number, link_at}
use Rattle.truss.specs.Strength.{truss, strength}
use Rattle.laws.proofs.Lists.{test, true_not_false}
use Rattle.laws.proofs.Members.{number_lt, link_of_number}
use Rattle.laws.proofs.Rounds.{Covers, outside, done, truss-nested, strength_between}
use Rattle.columns.specs.Columns.{cell, SUPPORT, STRENGTH, QUEUE}
use Rattle.laws.proofs.Numbers.{same_or_not}
use Rattle.columns.specs.Laws.{Upd, Same}
use Rattle.columns.specs.Wiping.{Wiping}
use Rattle.laws.proofs.ProperLinks.{live, live-member, live_flag, live_at, dead_at}
use Rattle.removal.specs.Queue.{Fate, stays, goes, went, put, upd_put, queue_line, queue-done}
use Rattle.adjacency.specs.State.{Named}
use Rattle.removal.specs.State.{Level, Ready, All, None, Waiting, Supports}

inside : {G : Graph} {m n : ℕ} {w : List ℕ} → Named G m n w → (y : ℕ) → y < m → y < length G.links
inside N y l = omega (arith, N.count)

-- all links are removed
abbrev pub everyone : ℕ → ℕ
everyone y = 1

module _ {G : Graph} {m n : ℕ} {w : List ℕ} (N : Named G m n w) (d : ℕ → ℕ) where
  -- a link of the set by its number
  flagged : (e : Link) → live G d e ≡ true → (link_number G e < m) × (d (link_number G e) ≡ 0) × (link_at G (link_number G e) ≡ e)
  flagged e h =
      let me = live-member G N.proper d e h in
      (omega (arith, N.count, number_lt G e me), live_flag G N.proper d e h, link_of_number G e me)

  -- where each link of the set has support enough, the set is the truss
  exact : (k : ℕ) → Covers G k (live G d) → Supports G m d w → ((y : ℕ) → y < m → d y ≡ 0 → k ≤ 2 + cell w m SUPPORT y)
      → (e : Link) → live G d e ≡ member (truss G k) e
  exact k covers sup enough e = done G k (live G d) covers (λ f h. live-member G N.proper d f h) held e
    where
      held : (f : Link) → live G d f ≡ true → k ≤ 2 + support G.n (live G d) f
      held f h =
          let r = flagged f h in
          let x = sup (link_number G f) r.0 r.1 ∙ ap (support G.n (live G d)) r.2 in
          omega (arith, x, enough (link_number G f) r.0 r.1)

  -- ---- the start

  module _ {k tail : ℕ} (R : Ready G m k tail d w) (s : ℕ) (up : k ≤ s + 2) (least : (y : ℕ) → y < m → cell w m STRENGTH y ≡ 0 → s ≤ cell w m SUPPORT y) where
    unqueued : (y : ℕ) → y < m → d y ≡ 0 → cell w m STRENGTH y ≡ 0
    unqueued y l z = go (same_or_not (cell w m STRENGTH y) 0)
      where
        go : (cell w m STRENGTH y ≡ 0) ⊎ (cell w m STRENGTH y ≢ 0) → cell w m STRENGTH y ≡ 0
        go (inl e) = e
        go (inr e) = absurd (R.finished y l e z)

    start_exact : (e : Link) → live G d e ≡ member (truss G (s + 2)) e
    start_exact =
        exact (s + 2) (λ e h. R.covers e (truss-nested G k (s + 2) up e h)) R.supports (λ y l z. omega (arith, least y l (unqueued y l z)))

    pub level_start : Level G m s None tail tail d w
    level_start = record {
      queue = record {
        order = omega arith;
        within = R.line.within;
        named = R.line.named;
        once = R.line.once;
        fresh = λ i g l. absurd (omega arith);
        waits = λ y l t. inl (R.finished y l t);
        above = λ y l t z. absurd t;
        low = λ y l t z. absurd (R.finished y l t z);
        ended = R.ended;
        gone = R.gone;
        fate = λ y l. go y l (same_or_not (cell w m STRENGTH y) 0);
      };
      supports = R.supports;
      covers = λ e h. R.covers e (truss-nested G k (suc (s + 2)) (omega arith) e h);
    }
      where
        go : (y : ℕ) → y < m → (cell w m STRENGTH y ≡ 0) ⊎ (cell w m STRENGTH y ≢ 0) → Fate G s (link_at G y) (cell w m STRENGTH y)
        go y l (inl z) = stays (sym (start_exact (link_at G y)) ∙ live_at G N.proper d y (inside N y l) (R.ended y l z)) z
        go y l (inr z) = went (R.known y l z) z

  -- ---- the end

  module _ {s head tail : ℕ} (L : Level G m s All head tail d w) (emptied : head ≡ tail) where
    out : (y : ℕ) → y < m → cell w m STRENGTH y ≢ 0 → d y ≢ 0
    out y l t = go (L.queue.waits y l t)
      where
        go : (d y ≢ 0) ⊎ ((i : ℕ) × (head ≤ i) × (i < tail) × (cell w m QUEUE i ≡ y)) → d y ≢ 0
        go (inl z) = z
        go (inr r) = absurd (omega (arith, r.1, r.2))

    pub end_above : (y : ℕ) → y < m → cell w m STRENGTH y ≡ 0 → s + 1 ≤ cell w m SUPPORT y
    end_above y l z = omega (arith, L.queue.above y l tt z)

    end_exact : (e : Link) → live G d e ≡ member (truss G (suc (s + 2))) e
    end_exact = exact (suc (s + 2)) L.covers L.supports (λ y l z. enough y l z (same_or_not (cell w m STRENGTH y) 0))
      where
        enough : (y : ℕ) → y < m → d y ≡ 0 → (cell w m STRENGTH y ≡ 0) ⊎ (cell w m STRENGTH y ≢ 0) → suc (s + 2) ≤ 2 + cell w m SUPPORT y
        enough y l z (inl t) = omega (arith, end_above y l t)
        enough y l z (inr t) = absurd (out y l t z)

    pub level_end : Ready G m (suc (s + 2)) tail d w
    level_end = record {
      line = queue_line L.queue (λ y l. refl) (λ y l. refl);
      ended = L.queue.ended;
      finished = out;
      gone = L.queue.gone;
      known = λ y l t. go y l t (L.queue.fate y l);
      supports = L.supports;
      covers = L.covers;
    }
      where
        go : (y : ℕ) → y < m → cell w m STRENGTH y ≢ 0 → Fate G s (link_at G y) (cell w m STRENGTH y) → strength G (link_at G y) ≡ cell w m STRENGTH y
        go y l t (stays a b) = absurd (t b)
        go y l t (goes a b) =
            strength_between G (s + 2) (link_at G y) a (sym (end_exact (link_at G y)) ∙ dead_at G N.proper d y (inside N y l) (out y l t)) ∙ sym b
        go y l t (went a b) = a

  -- ---- the end of all levels: every link is in the queue, so none is in the next truss, and no triangle has to be taken off

  module _ {s head tail : ℕ} (L : Level G m s All head tail d w) (all : (y : ℕ) → y < m → cell w m STRENGTH y ≢ 0) where
    next_empty : (e : Link) → member (truss G (suc (s + 2))) e ≡ false
    next_empty e = go (test (member (truss G (suc (s + 2))) e))
      where
        go : (member (truss G (suc (s + 2))) e ≡ true) ⊎ (member (truss G (suc (s + 2))) e ≡ false) → member (truss G (suc (s + 2))) e ≡ false
        go (inr h) = h
        go (inl h) =
            let r = flagged e (L.covers e h) in
            let y = link_number G e in
            let x : cell w m SUPPORT y ≡ support G.n (live G d) e = L.supports y r.0 r.1 ∙ ap (support G.n (live G d)) r.2 in
            outside G (suc (s + 2)) (live G d) L.covers e (omega (arith, x, L.queue.low y r.0 (all y r.0) r.1))

    pub level_last : {w' : List ℕ} → Wiping m SUPPORT m w w' → Ready G m (suc (s + 2)) tail everyone w'
    level_last {w'} W = record {
      line = queue_line L.queue same (λ y l. W.others QUEUE y (omega arith) l);
      ended = λ y l z. absurd (all y l (sym (same y l) ∙ z));
      finished = λ y l t z. absurd (omega arith);
      gone = λ y l t. W.zero y l;
      known = λ y l t. go y l (L.queue.fate y l) ∙ sym (same y l);
      supports = λ y l z. absurd (omega arith);
      covers = λ e h. absurd (true_not_false h (next_empty e));
    }
      where
        same : (y : ℕ) → y < m → cell w' m STRENGTH y ≡ cell w m STRENGTH y
        same y l = W.others STRENGTH y (omega arith) l

        go : (y : ℕ) → y < m → Fate G s (link_at G y) (cell w m STRENGTH y) → strength G (link_at G y) ≡ cell w m STRENGTH y
        go y l (stays a b) = absurd (all y l b)
        go y l (goes a b) = strength_between G (s + 2) (link_at G y) a (next_empty (link_at G y)) ∙ sym b
        go y l (went a b) = a

-- ---- one link goes: e is the first in the queue, w₁ is the work space after the walk, w₂ has no support for e any more

module _ {G : Graph} {m n : ℕ} {w : List ℕ} {d : ℕ → ℕ} (N : Named G m n w) {s head tail : ℕ} (L : Level G m s All head tail d w) (some : head < tail)
    (e : ℕ) (front : cell w m QUEUE head ≡ e) where
  pub below : e < m
  below = rw (sym front) (L.queue.within head some)

  here : d e ≡ 0
  here = ap d (sym front) ∙ L.queue.fresh head (omega arith) some

  -- the links that are left then
  abbrev pub without : ℕ → ℕ
  without = put d e 1

  flag : Upd m d without e 1
  flag = upd_put m d e 1

  pub first_live : live G d (link_at G e) ≡ true
  first_live = live_at G N.proper d e (inside N e below) here

  pub gone : live G without (link_at G e) ≡ false
  gone = dead_at G N.proper without e (inside N e below) (λ z. let o : 1 ≡ without e = sym flag.here in omega arith)

  pub others : (f : Link) → f ≢ link_at G e → live G without f ≡ live G d f
  unfolding live
  others f ne = go (member G.links f) refl
    where
      go : (t : Bool) → member G.links f ≡ t → live G without f ≡ live G d f
      go false h = rw h
      go true h =
          let l : link_number G f < m = omega (arith, N.count, number_lt G f h) in
          let k : link_number G f ≢ e = λ q. ne (sym (link_of_number G f h) ∙ ap (link_at G) q) in
          rw (flag.else (link_number G f) l k)

  -- it is not in the next truss
  leaves : member (truss G (suc (s + 2))) (link_at G e) ≡ false
  leaves =
      outside G (suc (s + 2)) (live G d) L.covers (link_at G e)
      (omega (arith, sym (L.supports e below here), L.queue.low e below (λ z. L.queue.named head some (ap (cell w m STRENGTH) front ∙ z)) here))

  pub level_next : (w₁ : List ℕ) {tail₁ : ℕ} {w₂ : List ℕ} → cell w₁ m QUEUE head ≡ e → Waiting G m s All head tail₁ d w₁ → head < tail₁
      → Upd m (cell w₁ m SUPPORT) (cell w₂ m SUPPORT) e 0 → Same m (cell w₁ m STRENGTH) (cell w₂ m STRENGTH) → Same m (cell w₁ m QUEUE) (cell w₂ m QUEUE)
      → ((y : ℕ) → y < m → live G without (link_at G y) ≡ true → cell w₁ m SUPPORT y ≡ support G.n (live G without) (link_at G y))
      → Level G m s All (head + 1) tail₁ without w₂
  level_next w₁ first₁ Q more u3 s4 s5 sup = record {
    queue = queue-done Q more (rw first₁ u3) s4 s5 (rw first₁ flag);
    supports = λ y l z. u3.else y l (other y z) ∙ sup y l (live_at G N.proper without y (inside N y l) z);
    covers = λ f h. others f (λ q. true_not_false h (ap (member (truss G (suc (s + 2)))) q ∙ leaves)) ∙ L.covers f h;
  }
    where
      other : (y : ℕ) → without y ≡ 0 → y ≢ e
      other y z q = let o : 1 ≡ without y = sym (ap without q ∙ flag.here) in omega arith

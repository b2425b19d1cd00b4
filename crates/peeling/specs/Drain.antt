-- All links that wait are removed, until all that were left are in the queue: `finish`, `drain`. Assumes nothing.
use Rattle.std.specs.Prelude.{◌≡◌, refl, ◌⊎◌, ◌≢◌, List, ℕ, suc, ◌+◌, ◌*◌, ◌≤◌, ◌<◌, length}
use Rattle.std.proofs.Common.{sym, ap, ◌∙◌, inl, inr, arith}
use Rattle.truss.specs.Graph.{Graph}
use Rattle.laws.proofs.Numbers.{same_or_not, less_or_not}
use Rattle.laws.proofs.Rounds.{truss-nested}
use Rattle.columns.specs.Columns.{cell, SUPPORT, STRENGTH, QUEUE, FREE, COLUMNS, no_support}
use Rattle.columns.specs.Laws.{Same}
use Rattle.columns.specs.Wiping.{Wiping}
use Rattle.removal.specs.Queue.{Queue, put, upd_put, queue_few, queue_push}
use Rattle.adjacency.specs.State.{Named, Kept, Held, kept_held, kept_wiped, held_none, held_trans, named_held}
use Rattle.removal.specs.Left.{Left, Falls, left_kept}
use Rattle.removal.specs.Marks.{Stamps, Marked, marked-none, marked_falls}
use Rattle.removal.specs.State.{All, Level, Ready}
use Rattle.removal.specs.Level.{level_end, end_above, everyone, level_last}
use Rattle.removal.specs.Centre.{TurnPre, Turned}
use Rattle.removal.specs.Remove.{RemovePre, Removed}
use Rattle.peeling.specs.Rest.{Few, few_queued}

-- at most `all` links are left, and the first `tail` in the queue are of them
pub record DrainPre (G : Graph) (m n s tail all : ℕ) (d : ℕ → ℕ) (w start stop mark : List ℕ) : Type 0 where
  pub named : Named G m n w
  pub left : Left G m w start stop
  pub stamps : Stamps G mark
  pub small : s < no_support
  pub level : Level G m s All 0 tail d w
  pub busy : (y : ℕ) → y < m → d y ≡ 0 → cell w m SUPPORT y ≢ 0
  pub few : Few m all (cell w m SUPPORT)

pub record Draining (G : Graph) (m s head tail at : ℕ) (d₀ d : ℕ → ℕ) (w₀ w start stop mark : List ℕ) : Type 0 where
  pub level : Level G m s All head tail d w
  pub held : Held m FREE w₀ w
  pub left : Left G m w start stop
  pub marked : Marked G m at w mark
  pub falls : Falls m w₀ w
  pub grows : (y : ℕ) → y < m → d y ≡ 0 → d₀ y ≡ 0
  pub were : (i : ℕ) → i < tail → d₀ (cell w m QUEUE i) ≡ 0
  pub after : (i : ℕ) → tail ≤ i → i < m → cell w m QUEUE i ≡ cell w₀ m QUEUE i

-- after a level; its queue is given up, and what stood behind it in the column is there still
pub record Drained (G : Graph) (m s all : ℕ) (d : ℕ → ℕ) (w₀ w start stop mark : List ℕ) : Type 0 where
  pub ready : Ready G m (suc (s + 2)) 0 d w
  pub above : (y : ℕ) → y < m → cell w m STRENGTH y ≡ 0 → s + 1 ≤ cell w m SUPPORT y
  pub held : Held m FREE w₀ w
  pub left : Left G m w start stop
  pub stamps : Stamps G mark
  pub falls : Falls m w₀ w
  pub after : (i : ℕ) → all ≤ i → i < m → cell w m QUEUE i ≡ cell w₀ m QUEUE i

-- the supports stay, or, once all links that were left are in the queue, they are wiped
pub data Finished (m all tail : ℕ) (w w' : List ℕ) : Type 0 where
  partial : tail < all → w' ≡ w → Finished m all tail w w'
  full : all ≤ tail → Wiping m SUPPORT m w w' → Finished m all tail w w'

abbrev pub DrainAsks : ℕ → ℕ → ℕ → ℕ → ℕ → List ℕ → List ℕ → List ℕ → List ℕ → Type 0
DrainAsks m n s tail all w start stop mark = (G : Graph) × (d : ℕ → ℕ) × DrainPre G m n s tail all d w start stop mark

abbrev pub DrainTurns : ℕ → ℕ → ℕ → ℕ → ℕ → ℕ → ℕ → ℕ → List ℕ → List ℕ → List ℕ → List ℕ → List ℕ → List ℕ → List ℕ → Type 0
DrainTurns m n s tail₀ all head tail at w₀ w start stop₀ stop mark₀ mark =
    (G : Graph) (d₀ : ℕ → ℕ) → DrainPre G m n s tail₀ all d₀ w₀ start stop₀ mark₀ → (d : ℕ → ℕ) × Draining G m s head tail at d₀ d w₀ w start stop mark

abbrev pub DrainGives : ℕ → ℕ → ℕ → ℕ → ℕ → List ℕ → List ℕ → List ℕ → List ℕ → List ℕ → List ℕ → List ℕ → Type 0
DrainGives m n s tail₀ all w₀ w start stop₀ stop mark₀ mark =
    (G : Graph) (d₀ : ℕ → ℕ) → DrainPre G m n s tail₀ all d₀ w₀ start stop₀ mark₀ → (d : ℕ → ℕ) × Drained G m s all d w₀ w start stop mark

-- the queue begins anew, at a level that may be higher
pub anew : {G : Graph} {m k : ℕ} (k' : ℕ) {tail : ℕ} {d : ℕ → ℕ} {w w' : List ℕ} → k ≤ k' → Same m (cell w m SUPPORT) (cell w' m SUPPORT) → Same m (cell w m STRENGTH) (cell w' m STRENGTH)
    → Ready G m k tail d w → Ready G m k' 0 d w'
anew {G} {m} {k} k' l supports strengths R = record {
  line = record { within = λ i h. absurd (omega arith); named = λ i h. absurd (omega arith); once = λ i j h b e. absurd (omega arith) };
  ended = λ y h z. R.ended y h (sym (strengths y h) ∙ z);
  finished = λ y h z. R.finished y h (λ e. z (strengths y h ∙ e));
  gone = λ y h z. supports y h ∙ R.gone y h z;
  known = λ y h z. R.known y h (λ e. z (strengths y h ∙ e)) ∙ sym (strengths y h);
  supports = λ y h z. supports y h ∙ R.supports y h z;
  covers = λ e h. R.covers e (truss-nested G k k' l e h);
}

module _ {G : Graph} {m n s tail₀ all : ℕ} {d₀ : ℕ → ℕ} {w₀ start stop₀ mark₀ : List ℕ} (P : DrainPre G m n s tail₀ all d₀ w₀ start stop₀ mark₀) where
  pub drain_start : Draining G m s 0 tail₀ n d₀ d₀ w₀ w₀ start stop₀ mark₀
  drain_start = record {
    level = P.level;
    held = held_none m FREE w₀;
    left = P.left;
    marked = marked-none P.named P.stamps;
    falls = λ y l n. n;
    grows = λ y l z. z;
    were = λ i l. P.level.queue.fresh i (omega arith) l;
    after = λ i l k. refl;
  }

  module _ {head tail at : ℕ} {d : ℕ → ℕ} {w stop mark : List ℕ} (D : Draining G m s head tail at d₀ d w₀ w start stop mark) where
    N : Named G m n w
    N = named_held P.named D.held

    pub drain_few : tail ≤ m
    drain_few = queue_few D.level.queue

    -- the queue has only links that were left
    pub drain_all : tail ≤ all
    drain_all =
        let Q = D.level.queue in
        few_queued P.few Q.within (λ i l. P.busy (cell w m QUEUE i) (Q.within i l) (D.were i l)) (λ i j l k e. Q.once i j l k e)

    -- and if it has so many, it has all of them
    queued : all ≤ tail → (y : ℕ) → y < m → cell w m STRENGTH y ≢ 0
    queued f y l z =
        let Q = queue_push D.level.queue y 0 l z (omega arith) (upd_put m (cell w m SUPPORT) y 0) (upd_put m (cell w m STRENGTH) y (s + 2)) (upd_put m (cell w m QUEUE) tail y) (λ x k. refl) in
        let r : tail + 1 ≤ all = go Q in
        omega arith
      where
        was : (i : ℕ) → i < tail + 1 → (i ≡ tail) ⊎ (i ≢ tail) → d₀ (put (cell w m QUEUE) tail y i) ≡ 0
        was i k (inl q) = ap d₀ (ap (put (cell w m QUEUE) tail y) q ∙ (upd_put m (cell w m QUEUE) tail y).here) ∙ D.grows y l (D.level.queue.ended y l z)
        was i k (inr q) =
            let b : i < tail = omega arith in
            ap d₀ ((upd_put m (cell w m QUEUE) tail y).else i (omega (arith, drain_few)) q) ∙ D.were i b

        go : Queue G m s All head (tail + 1) (put (cell w m SUPPORT) y 0) (put (cell w m STRENGTH) y (s + 2)) (put (cell w m QUEUE) tail y) d → tail + 1 ≤ all
        go Q = few_queued P.few Q.within (λ i k. P.busy (put (cell w m QUEUE) tail y i) (Q.within i k) (was i k (same_or_not i tail))) (λ i j a b e. Q.once i j a b e)

    pub drain_size : length w ≡ COLUMNS * m
    drain_size = N.size

    module _ (some : head < tail) {e : ℕ} (is : e ≡ cell w m QUEUE head) where
      pub drain_turn : TurnPre G m n e at w start stop mark
      drain_turn = record {
        named = N;
        left = D.left;
        marked = D.marked;
        below = rw is (D.level.queue.within head some);
      }

      pub drain_remove : {a : ℕ} {mark' : List ℕ} → Turned G m e a w mark' → RemovePre G m n e a s head tail d w start stop mark'
      drain_remove t = record {
        named = N;
        left = D.left;
        marked = t.marked;
        end = t.end;
        small = P.small;
        level = D.level;
        some = some;
        front = sym is;
      }

      pub drain_next : {a r : ℕ} {mark' w' stop' : List ℕ} → Turned G m e a w mark' → Removed G m e s head tail r d w w' start stop'
          → Draining G m s (head + 1) r a d₀ (put d e 1) w₀ w' start stop' mark'
      drain_next {a} {r} {mark'} {w'} t R = record {
        level = R.level;
        held = held_trans D.held R.held;
        left = R.left;
        marked = marked_falls N R.falls t.marked;
        falls = λ y l n. D.falls y l (R.falls y l n);
        grows = λ y l z. D.grows y l (still y l z (same_or_not y e));
        were = λ i l. was i l (less_or_not i tail);
        after = λ i l k. R.after i l k ∙ D.after i (omega (arith, R.later)) k;
      }
        where
          still : (y : ℕ) → y < m → put d e 1 y ≡ 0 → (y ≡ e) ⊎ (y ≢ e) → d y ≡ 0
          still y l z (inl q) = absurd (let o : 1 ≡ 0 = sym (upd_put m d e 1).here ∙ ap (put d e 1) (sym q) ∙ z in omega arith)
          still y l z (inr q) = sym ((upd_put m d e 1).else y l q) ∙ z

          was : (i : ℕ) → i < r → (i < tail) ⊎ (tail ≤ i) → d₀ (cell w' m QUEUE i) ≡ 0
          was i l (inl k) = ap d₀ (R.before i k (omega (arith, drain_few))) ∙ D.were i k
          was i l (inr k) =
              let y = cell w' m QUEUE i in
              let b : y < m = R.level.queue.within i l in
              D.grows y b (still y b (R.level.queue.fresh i (omega arith) l) (same_or_not y e))

    pub drain_end : {w' : List ℕ} → (tail < all → tail ≤ head) → Finished m all tail w w' → (d' : ℕ → ℕ) × Drained G m s all d' w₀ w' start stop mark
    drain_end {w'} done (partial lt is) = rw is (
      d,
      record {
        ready = anew (suc (s + 2)) (omega arith) (λ y k. refl) (λ y k. refl) (level_end N d D.level q);
        above = end_above N d D.level q;
        held = D.held;
        left = D.left;
        stamps = D.marked.stamps;
        falls = D.falls;
        after = λ i k h. D.after i (omega (arith, drain_all)) h;
      },
    )
      where
        q : head ≡ tail
        q = omega (arith, D.level.queue.order, done lt)
    drain_end {w'} done (full f W) = (
      everyone,
      record {
        ready = anew (suc (s + 2)) (omega arith) (λ y k. refl) (λ y k. refl) (level_last N d D.level (queued f) W);
        above = λ y k z. absurd (queued f y k (sym (W.others STRENGTH y (omega arith) k) ∙ z));
        held = held_trans D.held (kept_held wiped);
        left = left_kept N D.left wiped.entries (λ y k h. absurd (h (W.zero y k)));
        stamps = D.marked.stamps;
        falls = λ y k n. absurd (n (W.zero y k));
        after = λ i k h. W.others QUEUE i (omega arith) h ∙ D.after i (omega (arith, drain_all)) h;
      },
    )
      where
        wiped : Kept m FREE w w'
        wiped = kept_wiped W (omega arith) (omega arith)

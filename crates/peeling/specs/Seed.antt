-- The start of a level: `seed_one`, `seed_account`, `seed_hub`, `seed_hubs`, `seed`. Assumes nothing.
use Rattle.std.specs.Prelude.{◌≡◌, refl, ◌⊎◌, ◌≢◌, Option, List, ℕ, ◌+◌, ◌*◌, ◌≤◌, ◌<◌, ◌%◌, length}
use Rattle.std.proofs.Common.{sym, ap, ◌∙◌, inl, inr, arith}
use Rattle.truss.specs.Graph.{Graph}
use Rattle.laws.proofs.Numbers.{same_or_not}
use Rattle.laws.proofs.TriangleWalk.{Seen}
use Rattle.columns.specs.Columns.{cell, store, entry, SUPPORT, STRENGTH, QUEUE, FREE, COLUMNS, HALF, no_support}
use Rattle.columns.specs.Laws.{Upd, Same, upd_store, same_store, length-store, same_trans, upd_then, then_upd}
use Rattle.adjacency.specs.State.{Named, Kept, kept-none, kept_trans, kept_store, named-kept, start_at}
use Rattle.removal.specs.Queue.{queue_push, queue_room, queue-met, queue_looked, upd_same}
use Rattle.removal.specs.Left.{Left, left_fits, left_link, left_kept}
use Rattle.removal.specs.State.{All, None, Waiting, Level}
use Rattle.peeling.specs.Rest.{begins, Listed, Few, listed_at, listed-all, listed_same, few_queued}

-- a link in no queue has support s or more
abbrev pub AtLeast : ℕ → ℕ → List ℕ → Type 0
AtLeast m s w = (y : ℕ) → y < m → cell w m STRENGTH y ≡ 0 → s ≤ cell w m SUPPORT y

-- ---- what seeding keeps and does: Met are the links looked at

pub record Seeding (G : Graph) (m s : ℕ) (Met : ℕ → Type 0) (tail : ℕ) (d : ℕ → ℕ) (w₀ w : List ℕ) : Type 0 where
  pub kept : Kept m FREE w₀ w
  pub supports : Same m (cell w₀ m SUPPORT) (cell w m SUPPORT)
  pub least : AtLeast m s w
  pub queue : Waiting G m s Met 0 tail d w
  pub after : (i : ℕ) → tail ≤ i → i < m → cell w m QUEUE i ≡ cell w₀ m QUEUE i

pub seeding_left : {G : Graph} {m n s : ℕ} {Met : ℕ → Type 0} {tail : ℕ} {d : ℕ → ℕ} {w₀ w start stop : List ℕ} → Named G m n w₀ → Left G m w₀ start stop
    → Seeding G m s Met tail d w₀ w → Left G m w start stop
seeding_left N L S = left_kept N L S.kept.entries (λ y l n z. n (S.supports y l ∙ z))

-- link e stays, or it goes into the queue
pub data Seeded (m e s tail r : ℕ) (w w' : List ℕ) : Type 0 where
  stays : (cell w m STRENGTH e ≡ 0 → cell w m SUPPORT e ≢ s) → r ≡ tail → w' ≡ w → Seeded m e s tail r w w'
  joins : cell w m STRENGTH e ≡ 0 → cell w m SUPPORT e ≡ s → r ≡ tail + 1 → w' ≡ store (store w m STRENGTH e (s + 2)) m QUEUE tail e → Seeded m e s tail r w w'

module _ (m e s tail : ℕ) (w : List ℕ) (size : length w ≡ COLUMNS * m) (below : e < m) (room : tail < m) where
  abbrev after_push : List ℕ
  after_push = store (store w m STRENGTH e (s + 2)) m QUEUE tail e

  push_supports : Same m (cell w m SUPPORT) (cell after_push m SUPPORT)
  push_supports = same_trans (same_store w m STRENGTH SUPPORT e (s + 2) (omega arith) below) (same_store (store w m STRENGTH e (s + 2)) m QUEUE SUPPORT tail e (omega arith) room)

  push_strengths : Upd m (cell w m STRENGTH) (cell after_push m STRENGTH) e (s + 2)
  push_strengths = upd_then below (upd_store w m STRENGTH e (s + 2) (omega arith) below size) (same_store (store w m STRENGTH e (s + 2)) m QUEUE STRENGTH tail e (omega arith) room)

  push_queue : Upd m (cell w m QUEUE) (cell after_push m QUEUE) tail e
  push_queue =
      then_upd (same_store w m STRENGTH QUEUE e (s + 2) (omega arith) below)
      (upd_store (store w m STRENGTH e (s + 2)) m QUEUE tail e (omega arith) room (length-store w m STRENGTH e (s + 2) ∙ size))

  push_kept : Kept m FREE w after_push
  push_kept = kept_trans (kept_store w m FREE STRENGTH e (s + 2) (omega arith) (omega arith) below) (kept_store (store w m STRENGTH e (s + 2)) m FREE QUEUE tail e (omega arith) (omega arith) room)

  -- link e goes into the queue
  pushed : {G : Graph} {Met Met' : ℕ → Type 0} {d : ℕ → ℕ} {w₀ : List ℕ} → Seeding G m s Met tail d w₀ w → cell w m STRENGTH e ≡ 0 → cell w m SUPPORT e ≤ s
      → ((y : ℕ) → y < m → Met' y → Met y ⊎ (y ≡ e)) → Seeding G m s Met' (tail + 1) d w₀ after_push
  pushed S z l cases = record {
    kept = kept_trans S.kept push_kept;
    supports = same_trans S.supports push_supports;
    least = λ y k t. waits y k t (same_or_not y e);
    queue =
        queue_looked (queue_push S.queue e (cell w m SUPPORT e) below z l (upd_same push_supports e below) push_strengths push_queue (λ y k. refl)) e (λ t.
        absurd (let q : s + 2 ≡ 0 = sym push_strengths.here ∙ t in omega arith)) cases;
    after = λ i h k. push_queue.else i k (omega arith) ∙ S.after i (omega arith) k;
  }
    where
      waits : (y : ℕ) → y < m → cell after_push m STRENGTH y ≡ 0 → (y ≡ e) ⊎ (y ≢ e) → s ≤ cell after_push m SUPPORT y
      waits y k t (inl h) = absurd (let o : s + 2 ≡ 0 = sym push_strengths.here ∙ ap (cell after_push m STRENGTH) (sym h) ∙ t in omega arith)
      waits y k t (inr h) = rw (push_supports y k) (S.least y k (sym (push_strengths.else y k h) ∙ t))

-- before the first link
pub seeding_none : {G : Graph} {m s : ℕ} {d : ℕ → ℕ} {w : List ℕ} → AtLeast m s w → Waiting G m s None 0 0 d w → Seeding G m s None 0 d w w
seeding_none {G} {m} {s} {d} {w} least queue = record {
  kept = kept-none m FREE w;
  supports = λ y l. refl;
  least = least;
  queue = queue;
  after = λ i l k. refl;
}

-- one more link was looked at
module _ {G : Graph} {m s : ℕ} {Met : ℕ → Type 0} {tail : ℕ} {d : ℕ → ℕ} {w₀ w : List ℕ} (S : Seeding G m s Met tail d w₀ w) {e : ℕ} (below : e < m) where
  pub seeding_room : cell w m STRENGTH e ≡ 0 → tail < m
  seeding_room z = queue_room S.queue e below z

  pub seeding_one : {Met' : ℕ → Type 0} → length w ≡ COLUMNS * m → ((y : ℕ) → y < m → Met' y → Met y ⊎ (y ≡ e)) → {r : ℕ} {w' : List ℕ} → Seeded m e s tail r w w'
      → Seeding G m s Met' r d w₀ w'
  seeding_one size cases (stays h rt wt) =
      rw (rt, wt) (record {
        kept = S.kept;
        supports = S.supports;
        least = S.least;
        queue = queue_looked S.queue e (λ z. omega (arith, S.least e below z, h z)) cases;
        after = S.after;
      })
  seeding_one size cases (joins z l rt wt) = rw (rt, wt) (pushed m e s tail w size below (seeding_room z) S z (omega arith) cases)

-- ---- links of the hubs, any of them

pub record HubPre (G : Graph) (m n s : ℕ) (w start stop : List ℕ) : Type 0 where
  pub named : Named G m n w
  pub left : Left G m w start stop
  pub small : s < no_support

-- the level began at v
abbrev pub HubAsks : ℕ → ℕ → ℕ → ℕ → List ℕ → List ℕ → List ℕ → Type 0
HubAsks m n s tail w start stop = (G : Graph) × (d : ℕ → ℕ) × (v : List ℕ) × HubPre G m n s v start stop × Seeding G m s None tail d v w

abbrev pub AccountAsks : ℕ → ℕ → ℕ → ℕ → List ℕ → List ℕ → List ℕ → Type 0
AccountAsks m a s tail w start stop = (n : ℕ) × (a < n) × HubAsks m n s tail w start stop

abbrev pub HubGives : ℕ → ℕ → ℕ → ℕ → List ℕ → List ℕ → Type 0
HubGives m s tail r w w' = (G : Graph) (d : ℕ → ℕ) (v : List ℕ) → Seeding G m s None tail d v w → Seeding G m s None r d v w'

module _ {G : Graph} {m n a s tail : ℕ} {d : ℕ → ℕ} {v w start stop : List ℕ} (P : HubPre G m n s v start stop) (here : a < n) (S : Seeding G m s None tail d v w) where
  pub hub_here : a < G.n
  hub_here = omega (arith, P.named.accounts)

  pub hub_size : length w ≡ COLUMNS * m
  hub_size = S.kept.length_is ∙ P.named.size

  module _ {i : ℕ} (from : start_at start a ≤ i) (to : i < start_at stop a) where
    pub hub_fits : i < 2 * m
    hub_fits = left_fits P.named P.left hub_here i from to

    pub hub_link : {x : ℕ} → x ≡ entry w m i → x % HALF < m
    hub_link is = rw is (left_link (named-kept P.named S.kept) (seeding_left P.named P.left S) hub_here i from to)

-- ---- all links of the list

-- at most `all` links are left, so that the queue stays before the list
pub record SeedPre (G : Graph) (m n : ℕ) (first : Option ℕ) (s : ℕ) (d : ℕ → ℕ) (w : List ℕ) : Type 0 where
  pub named : Named G m n w
  pub small : s < no_support
  pub some : 1 ≤ s
  pub listed : Listed m first w
  pub busy : (y : ℕ) → y < m → d y ≡ 0 → cell w m SUPPORT y ≢ 0
  pub all : ℕ
  pub few : Few m all (cell w m SUPPORT)
  pub before : (first ≡ Rattle.std.specs.Prelude.None) ⊎ (all ≤ begins first)

-- the links at the places from `first` up to i
abbrev pub Listing : ℕ → Option ℕ → ℕ → List ℕ → ℕ → Type 0
Listing m first i w y = Seen (listed_at w m first) (begins first) i y

-- the level began at v, and the queue has the first `tail` links already
abbrev pub SeedAsks : ℕ → Option ℕ → ℕ → ℕ → List ℕ → Type 0
SeedAsks m first s tail w = (G : Graph) × (n : ℕ) × (d : ℕ → ℕ) × (v : List ℕ) × SeedPre G m n first s d v × Seeding G m s None tail d v w

abbrev pub SeedTurns : ℕ → Option ℕ → ℕ → ℕ → ℕ → ℕ → List ℕ → List ℕ → Type 0
SeedTurns m first i s tail₀ tail w₀ w =
    (G : Graph) (n : ℕ) (d : ℕ → ℕ) (v : List ℕ) → SeedPre G m n first s d v → Seeding G m s None tail₀ d v w₀ → Seeding G m s (Listing m first i v) tail d v w

abbrev pub SeedGives : ℕ → Option ℕ → ℕ → ℕ → ℕ → List ℕ → List ℕ → Type 0
SeedGives m first s tail₀ tail w₀ w =
    (G : Graph) (n : ℕ) (d : ℕ → ℕ) (v : List ℕ) → SeedPre G m n first s d v → Seeding G m s None tail₀ d v w₀ → Seeding G m s All tail d v w

pub seed_start : {G : Graph} {m s : ℕ} (first : Option ℕ) {tail : ℕ} {d : ℕ → ℕ} {v w : List ℕ} → Seeding G m s None tail d v w → Seeding G m s (Listing m first (begins first) v) tail d v w
seed_start first S = record {
  kept = S.kept;
  supports = S.supports;
  least = S.least;
  queue = queue-met S.queue (λ y l h. absurd (omega (arith, h.1, h.2)));
  after = S.after;
}

module _ {G : Graph} {m n : ℕ} {first : Option ℕ} {s : ℕ} {d : ℕ → ℕ} {v : List ℕ} (P : SeedPre G m n first s d v) {i tail : ℕ} {w : List ℕ} (S : Seeding G m s (Listing m first i v) tail d v w) where
  pub seed_size : length w ≡ COLUMNS * m
  seed_size = S.kept.length_is ∙ P.named.size

  -- the queue has only links that are left
  behind : tail ≤ P.all
  behind = few_queued P.few S.queue.within (λ k l. P.busy (cell w m QUEUE k) (S.queue.within k l) (S.queue.fresh k (omega arith) l)) (λ k j l h q. S.queue.once k j l h q)

  module _ (from : begins first ≤ i) (more : i < m) {e : ℕ} (is : e ≡ listed_at w m first i) where
    was : e ≡ listed_at v m first i
    was = go P.before
      where
        go : (first ≡ Rattle.std.specs.Prelude.None) ⊎ (P.all ≤ begins first) → e ≡ listed_at v m first i
        go (inl z) = is ∙ listed-all w m first i z ∙ sym (listed-all v m first i z)
        go (inr l) = is ∙ listed_same v m first i w (S.after i (omega (arith, behind)) more)

    pub seed_link : e < m
    seed_link = rw was (P.listed.within i from more)

    cases : (y : ℕ) → y < m → Listing m first (i + 1) v y → Listing m first i v y ⊎ (y ≡ e)
    cases y l h = go (same_or_not h.0 i)
      where
        go : (h.0 ≡ i) ⊎ (h.0 ≢ i) → Listing m first i v y ⊎ (y ≡ e)
        go (inl q) = inr (sym h.3 ∙ ap (listed_at v m first) q ∙ sym was)
        go (inr q) = inl (h.0, h.1, omega (arith, h.2), h.3)

    pub seed_next : {r : ℕ} {w' : List ℕ} → Seeded m e s tail r w w' → Seeding G m s (Listing m first (i + 1) v) r d v w'
    seed_next h = seeding_one S seed_link seed_size cases h

  pub seed_end : m ≤ i → Seeding G m s All tail d v w
  seed_end done = record {
    kept = S.kept;
    supports = S.supports;
    least = S.least;
    queue = queue-met S.queue (λ y l h. met y l (same_or_not (cell v m SUPPORT y) 0));
    after = S.after;
  }
    where
      met : (y : ℕ) → y < m → (cell v m SUPPORT y ≡ 0) ⊎ (cell v m SUPPORT y ≢ 0) → Listing m first i v y ⊎ (cell w m STRENGTH y ≡ 0 → s < cell w m SUPPORT y)
      met y l (inl z) = inr (λ t. absurd (omega (arith, S.least y l t, S.supports y l, P.some)))
      met y l (inr z) = let r = P.listed.finds y l z in inl (r.0, r.1, omega (arith, r.2), r.3)

-- the level is then whole
pub level_seeded : {G : Graph} {m s tail : ℕ} {d : ℕ → ℕ} {w₀ w : List ℕ} → Level G m s None 0 0 d w₀ → Seeding G m s All tail d w₀ w → Level G m s All 0 tail d w
level_seeded L S = record { queue = S.queue; supports = λ y l z. S.supports y l ∙ L.supports y l z; covers = L.covers }

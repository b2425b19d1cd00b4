-- All levels: `level`, `peel_levels`, `peel`. Assumes nothing.
use Rattle.std.specs.Prelude.{◌≡◌, refl, ◌⊎◌, ◌≢◌, Option, List, ℕ, ◌+◌, ◌*◌, ◌-◌, ◌≤◌, ◌<◌, length, get_or, take, drop}
use Rattle.std.proofs.Common.{sym, ap, ◌∙◌, inl, inr, arith, get_or-take}
use Rattle.std.proofs.lemmas.Grind.{get_or_after_one}
use Rattle.truss.specs.Graph.{Graph, support, link_at}
use Rattle.truss.specs.Strength.{strength}
use Rattle.laws.proofs.Lists.{support_le}
use Rattle.laws.proofs.Numbers.{same_or_not, less_or_not}
use Rattle.laws.proofs.ProperLinks.{live}
use Rattle.columns.specs.Columns.{cell, NEAR, SUPPORT, STRENGTH, QUEUE, FREE, COLUMNS, no_support}
use Rattle.columns.specs.Wiping.{Wiping, Cleaned, Zeroed}
use Rattle.adjacency.specs.State.{Named, Near, Marks, Held, kept_held, kept_wiped, held_cleaned, held_none, held_trans, named-kept, named_held, whole, start_at}
use Rattle.removal.specs.Left.{Left, left_whole, left_kept}
use Rattle.removal.specs.Marks.{Stamps, stamps_first}
use Rattle.removal.specs.State.{All, None, Level, Ready}
use Rattle.removal.specs.Level.{level_start}
use Rattle.peeling.specs.Bare.{First, Bare, given, some, ready_bare}
use Rattle.peeling.specs.Rest.{Listed, Tops, Begun, Least, Rested, begun_before, listed_later, tops_few, few_same}
use Rattle.peeling.specs.Seed.{AtLeast, HubPre, SeedPre, Seeding, seeding_none, seeding_left, level_seeded}
use Rattle.peeling.specs.Drain.{DrainPre, Drained, anew, drain_start, drain_all}

pub record LevelPre (G : Graph) (m n s place : ℕ) (d : ℕ → ℕ) (w start stop mark : List ℕ) : Type 0 where
  pub named : Named G m n w
  pub left : Left G m w start stop
  pub stamps : Stamps G mark
  pub small : s < no_support
  pub some : 1 ≤ s
  pub ready : Ready G m (s + 2) 0 d w
  pub least : AtLeast m s w
  pub tops : Tops m place w

abbrev pub LevelAsks : ℕ → ℕ → ℕ → ℕ → List ℕ → List ℕ → List ℕ → List ℕ → Type 0
LevelAsks m n s place w start stop mark = (G : Graph) × (d : ℕ → ℕ) × LevelPre G m n s place d w start stop mark

abbrev pub LevelGives : ℕ → ℕ → ℕ → ℕ → List ℕ → List ℕ → List ℕ → List ℕ → List ℕ → List ℕ → List ℕ → Type 0
LevelGives m n s place w w' start stop stop' mark mark' =
    (G : Graph) (d : ℕ → ℕ) → LevelPre G m n s place d w start stop mark → (d' : ℕ → ℕ) × Drained G m s (m - place) d' w w' start stop' mark'

-- a link that is not removed has no strength yet
waiting : {G : Graph} {m k tail : ℕ} {d : ℕ → ℕ} {w : List ℕ} → Ready G m k tail d w → (y : ℕ) → y < m → d y ≡ 0 → cell w m STRENGTH y ≡ 0
waiting {G} {m} {k} {tail} {d} {w} R y l z = go (same_or_not (cell w m STRENGTH y) 0)
  where
    go : (cell w m STRENGTH y ≡ 0) ⊎ (cell w m STRENGTH y ≢ 0) → cell w m STRENGTH y ≡ 0
    go (inl e) = e
    go (inr e) = absurd (R.finished y l e z)

-- nor has one that has a support
supported : {G : Graph} {m k tail : ℕ} {d : ℕ → ℕ} {w : List ℕ} → Ready G m k tail d w → (y : ℕ) → y < m → cell w m SUPPORT y ≢ 0 → cell w m STRENGTH y ≡ 0
supported {G} {m} {k} {tail} {d} {w} R y l n = go (same_or_not (d y) 0)
  where
    go : (d y ≡ 0) ⊎ (d y ≢ 0) → cell w m STRENGTH y ≡ 0
    go (inl z) = waiting R y l z
    go (inr z) = absurd (n (R.gone y l z))

module _ {G : Graph} {m n s place : ℕ} {d : ℕ → ℕ} {w start stop mark : List ℕ} (P : LevelPre G m n s place d w start stop mark) where
  begun : Level G m s None 0 0 d w
  begun = level_start P.named d P.ready s (omega arith) P.least

  pub level_hubs : HubPre G m n s w start stop
  level_hubs = record { named = P.named; left = P.left; small = P.small }

  pub level_none : Seeding G m s None 0 d w w
  level_none = seeding_none P.least begun.queue

  busy : (y : ℕ) → y < m → d y ≡ 0 → cell w m SUPPORT y ≢ 0
  busy y l z e = omega (arith, P.least y l (waiting P.ready y l z), P.some, e)

  pub level_seeds : {first : Option ℕ} → Begun m place first → SeedPre G m n first s d w
  level_seeds {first} b = record {
    named = P.named;
    small = P.small;
    some = P.some;
    listed = listed_later b P.tops (λ y l n. n) (λ i l k. refl);
    busy = busy;
    all = m - place;
    few = tops_few P.tops;
    before = begun_before b;
  }

  module _ {tail : ℕ} {w₁ : List ℕ} (p : Seeding G m s All tail d w w₁) where
    pub level_drain : DrainPre G m n s tail (m - place) d w₁ start stop mark
    level_drain = record {
      named = named-kept P.named p.kept;
      left = seeding_left P.named P.left p;
      stamps = P.stamps;
      small = P.small;
      level = level_seeded begun p;
      busy = λ y l z e. busy y l z (sym (p.supports y l) ∙ e);
      few = few_same p.supports (tops_few P.tops);
    }

    pub level_done : {d' : ℕ → ℕ} {w₂ stop' mark' : List ℕ} → Drained G m s (m - place) d' w₁ w₂ start stop' mark' → Drained G m s (m - place) d' w w₂ start stop' mark'
    level_done e = record {
      ready = e.ready;
      above = e.above;
      held = held_trans (kept_held p.kept) e.held;
      left = e.left;
      stamps = e.stamps;
      falls = λ y l n z. e.falls y l n (p.supports y l ∙ z);
      after = λ i l k. e.after i l k ∙ p.after i (omega (arith, drain_all level_drain (drain_start level_drain))) k;
    }

-- ---- all levels, from the first count and the strengths of the links in no triangle

pub record LevelsPre (G : Graph) (m n : ℕ) (w start stop mark : List ℕ) : Type 0 where
  pub named : Named G m n w
  pub left : Left G m w start stop
  pub stamps : Stamps G mark
  pub triangles : (y : ℕ) → y < m → cell w m SUPPORT y ≡ support G.n (whole G) (link_at G y)
  pub first : (y : ℕ) → y < m → First (cell w m SUPPORT y) (cell w m STRENGTH y)

pub record Peeling (G : Graph) (m s place : ℕ) (d : ℕ → ℕ) (w₀ w start stop mark : List ℕ) : Type 0 where
  pub ready : Ready G m (s + 2) 0 d w
  pub some : 1 ≤ s
  pub least : AtLeast m s w
  pub tops : Tops m place w
  pub held : Held m FREE w₀ w
  pub left : Left G m w start stop
  pub stamps : Stamps G mark

-- column 4 has the strengths, column 3 is used up
pub record Peeled (G : Graph) (m : ℕ) (w₀ w : List ℕ) : Type 0 where
  pub strengths : (y : ℕ) → y < m → cell w m STRENGTH y ≡ strength G (link_at G y)
  pub supports : (y : ℕ) → y < m → cell w m SUPPORT y ≡ 0
  pub held : Held m FREE w₀ w

abbrev pub LevelsAsk : ℕ → ℕ → List ℕ → List ℕ → List ℕ → List ℕ → Type 0
LevelsAsk m n w start stop mark = (G : Graph) × LevelsPre G m n w start stop mark

abbrev pub LevelsTurn : ℕ → ℕ → ℕ → ℕ → List ℕ → List ℕ → List ℕ → List ℕ → List ℕ → List ℕ → List ℕ → Type 0
LevelsTurn m n s place w₀ w start stop₀ stop mark₀ mark = (G : Graph) → LevelsPre G m n w₀ start stop₀ mark₀ → (d : ℕ → ℕ) × Peeling G m s place d w₀ w start stop mark

-- after the last level
abbrev pub LevelsEnd : ℕ → ℕ → List ℕ → List ℕ → List ℕ → List ℕ → List ℕ → List ℕ → List ℕ → Type 0
LevelsEnd m n w₀ w start stop₀ stop mark₀ mark = (place : ℕ) × LevelsTurn m n no_support place w₀ w start stop₀ stop mark₀ mark

abbrev pub LevelsGive : ℕ → ℕ → List ℕ → List ℕ → List ℕ → List ℕ → List ℕ → Type 0
LevelsGive m n w₀ w start stop₀ mark₀ = (G : Graph) → LevelsPre G m n w₀ start stop₀ mark₀ → Peeled G m w₀ w

-- the list of the links that are left is made anew
rested_left : {G : Graph} {m n place best : ℕ} {w w' start stop : List ℕ} → Named G m n w → Rested m place best w w' → Left G m w start stop → Left G m w' start stop
rested_left N R L = left_kept N L R.kept.entries (λ y l n z. n (R.supports y l ∙ z))

pub rested_levels : {G : Graph} {m n place best : ℕ} {w w' start stop mark : List ℕ} → Rested m place best w w' → LevelsPre G m n w start stop mark → LevelsPre G m n w' start stop mark
rested_levels R P = record {
  named = named-kept P.named R.kept;
  left = rested_left P.named R P.left;
  stamps = P.stamps;
  triangles = λ y l. R.supports y l ∙ P.triangles y l;
  first = λ y l. rw (R.supports y l, R.strengths y l) (P.first y l);
}

pub rested_peeled : {G : Graph} {m place best : ℕ} {w w' w'' : List ℕ} → Rested m place best w w' → Peeled G m w' w'' → Peeled G m w w''
rested_peeled R D = record { strengths = D.strengths; supports = D.supports; held = held_trans (kept_held R.kept) D.held }

module _ {G : Graph} {m n : ℕ} {w₀ start stop₀ mark₀ : List ℕ} (P : LevelsPre G m n w₀ start stop₀ mark₀) where
  pub levels_start : {s place : ℕ} → Tops m place w₀ → Least m s w₀ → (d : ℕ → ℕ) × Peeling G m s place d w₀ w₀ start stop₀ mark₀
  levels_start {s} {place} T L = (
    given m w₀,
    record {
      ready = anew (s + 2) (omega (arith, up)) (λ y l. refl) (λ y l. refl) (ready_bare P.named P.triangles P.first);
      some = up;
      least = λ y l z. L.low y l (λ e. omega (arith, e, triangle y l z));
      tops = T;
      held = held_none m FREE w₀;
      left = P.left;
      stamps = P.stamps;
    },
  )
    where
      triangle : (y : ℕ) → y < m → cell w₀ m STRENGTH y ≡ 0 → 1 ≤ cell w₀ m SUPPORT y
      triangle = some P.named P.triangles P.first

      up : 1 ≤ s
      up = L.greatest 1 (omega arith) (λ y l n. omega arith)

  module _ {s place : ℕ} {d : ℕ → ℕ} {w stop mark : List ℕ} (D : Peeling G m s place d w₀ w start stop mark) where
    pub levels_level : s < no_support → LevelPre G m n s place d w start stop mark
    levels_level l = record {
      named = named_held P.named D.held;
      left = D.left;
      stamps = D.stamps;
      small = omega arith;
      some = D.some;
      ready = D.ready;
      least = D.least;
      tops = D.tops;
    }

    module _ {d' : ℕ → ℕ} {w' stop' mark' : List ℕ} (e : Drained G m s (m - place) d' w w' start stop' mark') where
      N : Named G m n w'
      N = named_held P.named (held_trans D.held e.held)

      pub levels-size : length w' ≡ COLUMNS * m
      levels-size = N.size

      pub levels_list : {first : Option ℕ} → Begun m place first → Listed m first w'
      levels_list b = listed_later b D.tops e.falls e.after

      module _ (l : s < no_support) {s' place' : ℕ} {w'' : List ℕ} (R : Rested m place' s' w' w'') where
        pub levels_rise : s + 1 ≤ s'
        levels_rise = R.least.greatest (s + 1) (omega arith) (λ y k n.
            let h = R.supports y k in
            rw h (e.above y k (supported e.ready y k (λ z. n (h ∙ z)))))

        pub levels-next : Peeling G m s' place' d' w₀ w'' start stop' mark'
        levels-next = record {
          ready = anew (s' + 2) (omega (arith, levels_rise)) R.supports R.strengths e.ready;
          some = omega (arith, levels_rise);
          least = λ y k z. R.least.low y k (λ q. omega (arith, q, R.supports y k, e.above y k (sym (R.strengths y k) ∙ z)));
          tops = R.tops;
          held = held_trans D.held (held_trans e.held (kept_held R.kept));
          left = rested_left N R e.left;
          stamps = e.stamps;
        }

    pub levels_end : no_support ≤ s → Peeled G m w₀ w
    levels_end l = record { strengths = λ y k. sym (D.ready.known y k (placed y k)); supports = λ y k. D.ready.gone y k (D.ready.finished y k (placed y k)); held = D.held }
      where
        placed : (y : ℕ) → y < m → cell w m STRENGTH y ≢ 0
        placed y k z =
            let a = D.ready.supports y k (D.ready.ended y k z) in
            omega (arith, a, D.least y k z, support_le G.n (live G d) (link_at G y), P.named.accounts, P.named.small)

-- ---- the whole

-- column 3 is the first count; the marks are those of account 0
pub record PeelPre (G : Graph) (m n : ℕ) (w start mark : List ℕ) : Type 0 where
  pub named : Named G m n w
  pub near : Near G m w start
  pub marks : Marks G mark 0
  pub triangles : (y : ℕ) → y < m → cell w m SUPPORT y ≡ support G.n (whole G) (link_at G y)

-- column 4 has the strengths, the other columns from 1 to 5 are 0, and so are the marks; column 0 and the columns from 6 on stay
pub record PeelCleared (G : Graph) (m n : ℕ) (w w' mark' : List ℕ) : Type 0 where
  pub strengths : (y : ℕ) → y < m → cell w' m STRENGTH y ≡ strength G (link_at G y)
  pub used : (c y : ℕ) → NEAR ≤ c → c < FREE → c ≢ STRENGTH → y < m → cell w' m c y ≡ 0
  pub held : Held m FREE w w'
  pub blank : (c : ℕ) → c < n → get_or mark' c 0 ≡ 0

abbrev pub PeelAsks : ℕ → ℕ → List ℕ → List ℕ → List ℕ → Type 0
PeelAsks m n w start mark = (G : Graph) × PeelPre G m n w start mark

abbrev pub PeelInAsks : ℕ → ℕ → List ℕ → List ℕ → List ℕ → List ℕ → Type 0
PeelInAsks m n w start stop mark = (G : Graph) × PeelPre G m n w start mark × (length stop ≡ n)

abbrev pub PeelClears : ℕ → ℕ → List ℕ → List ℕ → List ℕ → List ℕ → List ℕ → Type 0
PeelClears m n w w' start mark mark' = (G : Graph) → PeelPre G m n w start mark → PeelCleared G m n w w' mark'

-- all lists are whole
pub record Ended (n : ℕ) (start stop₀ stop : List ℕ) : Type 0 where
  pub same : length stop ≡ length stop₀
  pub is : (c : ℕ) → c < n → start_at stop c ≡ start_at start (c + 1)

pub ended_copied : {n k : ℕ} {start stop stop' : List ℕ} → length stop' ≡ length stop → stop' ≡ take k (drop 1 start) → n ≤ k → Ended n start stop stop'
ended_copied {n} {k} {start} same is wide = record { same = same; is = λ c l. ap (λ (s : List ℕ). get_or s c 0) is ∙ get_or-take k (drop 1 start) c 0 (omega arith) ∙ get_or_after_one start c 0 ∙ ap (λ (z : ℕ). get_or start z 0) (omega arith) }

module _ {G : Graph} {m n : ℕ} {w start mark : List ℕ} (P : PeelPre G m n w start mark) where
  module _ {stop₀ stop : List ℕ} (wide : length stop₀ ≡ n) (E : Ended n start stop₀ stop) {w₁ : List ℕ} (B : Bare m m w w₁) where
    pub peel_levels : LevelsPre G m n w₁ start stop mark
    peel_levels = record {
      named = named-kept P.named B.kept;
      left =
          left_kept P.named (left_whole P.near (E.same ∙ wide ∙ sym P.named.accounts) (λ a l. E.is a (omega (arith, P.named.accounts)))) B.kept.entries (λ y l n z.
          n (B.supports y l ∙ z));
      stamps = stamps_first P.named P.marks;
      triangles = λ y l. B.supports y l ∙ P.triangles y l;
      first = B.first;
    }

  pub peel-done : {w₁ w₂ w₃ w₄ mark₁ mark₂ : List ℕ} → Bare m m w w₁ → Peeled G m w₁ w₂ → Cleaned m NEAR SUPPORT w₂ w₃ → Wiping m QUEUE m w₃ w₄ → Zeroed n mark₁ mark₂
      → PeelCleared G m n w w₄ mark₂
  peel-done {w₁} {w₂} {w₃} {w₄} B R C U Z = record {
    strengths = λ y l. U.others STRENGTH y (omega arith) l ∙ C.above STRENGTH y (omega arith) l ∙ R.strengths y l;
    used = λ c y a b ne l. used c y a b ne l (less_or_not c SUPPORT) (same_or_not c QUEUE);
    held = held_trans (kept_held B.kept) (held_trans R.held (held_trans (held_cleaned C (omega arith) (omega arith)) (kept_held (kept_wiped U (omega arith) (omega arith)))));
    blank = Z.zero;
  }
    where
      used : (c y : ℕ) → NEAR ≤ c → c < FREE → c ≢ STRENGTH → y < m → (c < SUPPORT) ⊎ (SUPPORT ≤ c) → (c ≡ QUEUE) ⊎ (c ≢ QUEUE) → cell w₄ m c y ≡ 0
      used c y a b ne l s (inl q) = rw q (U.zero y l)
      used c y a b ne l (inl s) (inr q) = U.others c y q l ∙ C.zero c y a s l
      used c y a b ne l (inr s) (inr q) = let e : c ≡ SUPPORT = omega (arith, s, b, ne, q) in rw e (U.others SUPPORT y (omega arith) l ∙ C.above SUPPORT y (omega arith) l ∙ R.supports y l)

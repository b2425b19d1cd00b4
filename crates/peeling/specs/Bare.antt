-- The links in no triangle have strength 2 before the first level: `first_strength`, `bare`. Assumes nothing.
use Rattle.std.specs.Prelude.{◌≡◌, refl, ◌⊎◌, ◌≢◌, true, List, ℕ, ◌+◌, ◌*◌, ◌≤◌, ◌<◌, length}
use Rattle.std.proofs.Common.{sym, ap, ◌∙◌, inl, inr, arith}
use Rattle.truss.specs.Graph.{Link, Graph, link, member, support, link_number, link_at}
use Rattle.truss.specs.Strength.{truss}
use Rattle.laws.proofs.Lists.{support_mono, support-sides}
use Rattle.laws.proofs.Lowering.{link-own, link_sym, support_some}
use Rattle.laws.proofs.Members.{number_lt, link_of_number}
use Rattle.laws.proofs.Numbers.{same_or_not}
use Rattle.laws.proofs.Peeling.{truss_is, no_triangle}
use Rattle.laws.proofs.ProperLinks.{live, live-member, is_live, at_member, end_below}
use Rattle.columns.specs.Columns.{cell, store, SUPPORT, STRENGTH, FREE, COLUMNS, entry_bound}
use Rattle.columns.specs.Laws.{Upd, Same, upd_store, same_store, same_trans}
use Rattle.adjacency.specs.State.{Named, Kept, kept-none, kept_trans, kept_store, whole}
use Rattle.removal.specs.State.{Ready}

-- the strength of a link of x triangles
pub record First (x r : ℕ) : Type 0 where
  pub lone : x ≡ 0 → r ≡ 2
  pub shared : x ≢ 0 → r ≡ 0

pub first_small : {x r : ℕ} → First x r → r < entry_bound
first_small {x} {r} f = go (same_or_not x 0)
  where
    go : (x ≡ 0) ⊎ (x ≢ 0) → r < entry_bound
    go (inl z) = omega (arith, f.lone z)
    go (inr n) = omega (arith, f.shared n)

-- the links below e
pub record Bare (m e : ℕ) (w₀ w : List ℕ) : Type 0 where
  pub kept : Kept m FREE w₀ w
  pub supports : Same m (cell w₀ m SUPPORT) (cell w m SUPPORT)
  pub first : (y : ℕ) → y < e → First (cell w m SUPPORT y) (cell w m STRENGTH y)

pub bare_none : (m : ℕ) (w : List ℕ) → Bare m 0 w w
bare_none m w = record { kept = kept-none m FREE w; supports = λ y l. refl; first = λ y l. absurd (omega arith) }

module _ {m e : ℕ} {w₀ w : List ℕ} (B : Bare m e w₀ w) (size : length w₀ ≡ COLUMNS * m) (below : e < m) where
  pub bare_size : length w ≡ COLUMNS * m
  bare_size = B.kept.length_is ∙ size

  pub bare_next : {v : ℕ} {w' : List ℕ} → First (cell w m SUPPORT e) v → w' ≡ store w m STRENGTH e v → Bare m (e + 1) w₀ w'
  bare_next {v} {w'} f is = rw is (record {
    kept = kept_trans B.kept (kept_store w m FREE STRENGTH e v (omega arith) (omega arith) below);
    supports = same_trans B.supports same;
    first = λ y l. go y l (same_or_not y e);
  })
    where
      same : Same m (cell w m SUPPORT) (cell (store w m STRENGTH e v) m SUPPORT)
      same = same_store w m STRENGTH SUPPORT e v (omega arith) below

      new : Upd m (cell w m STRENGTH) (cell (store w m STRENGTH e v) m STRENGTH) e v
      new = upd_store w m STRENGTH e v (omega arith) below bare_size

      go : (y : ℕ) → y < e + 1 → (y ≡ e) ⊎ (y ≢ e) → First (cell (store w m STRENGTH e v) m SUPPORT y) (cell (store w m STRENGTH e v) m STRENGTH y)
      go y l (inl q) = rw (q, same e below, new.here) f
      go y l (inr q) = rw (same y (omega arith), new.else y (omega arith) q) (B.first y (omega arith))

pub bare_all : {m e : ℕ} {w w' : List ℕ} → e ≡ m → Bare m e w w' → Bare m m w w'
bare_all q h = rw q at h

-- ---- before the first level: these links are removed, and the others hold the 3-truss

-- the removed links are those with a strength
abbrev pub given : ℕ → List ℕ → ℕ → ℕ
given m w y = cell w m STRENGTH y

module _ {G : Graph} {m n : ℕ} {w : List ℕ} (N : Named G m n w) (triangles : (y : ℕ) → y < m → cell w m SUPPORT y ≡ support G.n (whole G) (link_at G y))
    (first : (y : ℕ) → y < m → First (cell w m SUPPORT y) (cell w m STRENGTH y)) where
  none : (y : ℕ) → y < m → cell w m STRENGTH y ≢ 0 → cell w m SUPPORT y ≡ 0
  none y l t = go (same_or_not (cell w m SUPPORT y) 0)
    where
      go : (cell w m SUPPORT y ≡ 0) ⊎ (cell w m SUPPORT y ≢ 0) → cell w m SUPPORT y ≡ 0
      go (inl z) = z
      go (inr z) = absurd (t ((first y l).shared z))

  pub some : (y : ℕ) → y < m → cell w m STRENGTH y ≡ 0 → 1 ≤ cell w m SUPPORT y
  some y l t = go (same_or_not (cell w m SUPPORT y) 0)
    where
      go : (cell w m SUPPORT y ≡ 0) ⊎ (cell w m SUPPORT y ≢ 0) → 1 ≤ cell w m SUPPORT y
      go (inl z) = absurd (omega (arith, (first y l).lone z))
      go (inr z) = omega arith

  -- a link in a triangle is left
  busy : (f : Link) → member G.links f ≡ true → 1 ≤ support G.n (whole G) f → live G (given m w) f ≡ true
  busy f h s =
      let l : link_number G f < m = omega (arith, number_lt G f h, N.count) in
      let q : cell w m SUPPORT (link_number G f) ≡ support G.n (whole G) f = triangles (link_number G f) l ∙ ap (support G.n (whole G)) (link_of_number G f h) in
      is_live G N.proper (given m w) f h ((first (link_number G f) l).shared (omega arith))

  -- so all triangles are
  same_support : (f : Link) → member G.links f ≡ true → support G.n (live G (given m w)) f ≡ support G.n (whole G) f
  same_support f h = omega (arith, support_mono G.n (live G (given m w)) (whole G) f (live-member G N.proper (given m w)), support-sides G.n (whole G) (live G (given m w)) f sides)
    where
      own : whole G (link f.lo f.hi) ≡ true
      own = ap (whole G) (link-own f (N.proper.ordered f h)) ∙ h

      ends : (f.lo < G.n) × (f.hi < G.n)
      ends = end_below G N.proper f.lo f.hi own

      sides : (c : ℕ) → whole G (link f.lo c) ≡ true → whole G (link f.hi c) ≡ true → (live G (given m w) (link f.lo c) ≡ true) × (live G (given m w) (link f.hi c) ≡ true)
      sides c x y = (
        busy (link f.lo c) x (support_some G.n (whole G) f.lo f.hi c ends.1 own y),
        busy (link f.hi c) y (support_some G.n (whole G) f.hi f.lo c ends.0 (ap (whole G) (link_sym f.hi f.lo) ∙ own) x),
      )

  link_here : (y : ℕ) → y < m → member G.links (link_at G y) ≡ true
  link_here y l = at_member G N.proper y (omega (arith, N.count))

  pub ready_bare : Ready G m 3 0 (given m w) w
  ready_bare = record {
    line = record { within = λ i l. absurd (omega arith); named = λ i l. absurd (omega arith); once = λ i j l k e. absurd (omega arith) };
    ended = λ y l z. z;
    finished = λ y l z. z;
    gone = none;
    known = λ y l z. no_triangle G (link_at G y) (link_here y l) (sym (triangles y l) ∙ none y l z) ∙ sym ((first y l).lone (none y l z));
    supports = λ y l z. triangles y l ∙ sym (same_support (link_at G y) (link_here y l));
    covers = λ e h.
        let me = (truss_is G 3).within e h in
        busy e me (omega (arith, (truss_is G 3).held e h, support_mono G.n (member (truss G 3)) (whole G) e (truss_is G 3).within));
  }

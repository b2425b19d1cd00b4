-- One join: passed if it closes a ring, taken if not. `unite`, `join`. Assumes nothing.
use Rattle.std.specs.Prelude.{◌≡◌, refl, ◌≢◌, List, ℕ, suc, ◌+◌, ◌*◌, ◌≤◌, ◌<◌, min, max, length}
use Rattle.std.proofs.Common.{sym, ◌∙◌, arith}
use mathlib.Core.List.{Memᴰ as In}
use Rattle.truss.specs.Graph.{Graph}
use Rattle.truss.specs.Forest.{all_joins}
use Rattle.laws.proofs.Halving.{same_parent}
use Rattle.laws.proofs.Kruskal.{spot}
use Rattle.columns.specs.Columns.{cell, store, COLUMNS}
use Rattle.columns.specs.Laws.{kept_entry, kept_column}
use Rattle.unions.specs.Space.{JoinsEnd, joins_end_none, joins_end_frame, joins_end_trans, Frame, frame_none, frame_trans, frame_wide, roots, joining, roots-joining, parents, parent_at, root, steady_trans}
use Rattle.unions.specs.Find.{FindPre, Found}
use Rattle.unions.specs.State.{Growth, growth_steady, growth_ring, growth_take, take_frame, take_room, join_ends, roots_same, Stays, stays_frame, take_stays}

pub record JoinPre (G : Graph) (m n e f k j : ℕ) (w : List ℕ) : Type 0 where
  pub growth : Growth G m n (spot k e f) j w
  pub is_join : In (spot k e f) (all_joins G)
  pub light : k ≤ 65535

abbrev pub JoinAsks : ℕ → ℕ → ℕ → ℕ → ℕ → List ℕ → Type 0
JoinAsks m e f k j w = (G : Graph) × (n : ℕ) × JoinPre G m n e f k j w

pub record JoinGives (m e f k j r : ℕ) (w w' : List ℕ) : Type 0 where
  pub frame : Frame joining m w w'
  pub after : JoinsEnd m j r w w'
  pub growth : (G : Graph) (n : ℕ) → JoinPre G m n e f k j w → Growth G m n (spot k e (suc f)) r w'
  pub stays : (G : Graph) (n : ℕ) → JoinPre G m n e f k j w → Stays G m j r w w'

pub record UnitePre (m a b e f k j : ℕ) (w : List ℕ) : Type 0 where
  pub a_in : a < m
  pub b_in : b < m
  pub e_in : e < m
  pub f_in : f < m
  pub room : j < m
  pub few : m ≤ 65535
  pub light : k ≤ 65535
  pub size : length w ≡ COLUMNS * m

abbrev pub united : ℕ → ℕ → ℕ → ℕ → ℕ → ℕ → ℕ → List ℕ → List ℕ
united m a b e f k j w = store (store (store w m 6 (max a b) (min a b)) m 9 j (e * 65536 + f)) m 10 j k

module _ {G : Graph} {m n e f k j : ℕ} {w : List ℕ} (P : JoinPre G m n e f k j w) where
  pub join_in_lem : (e < m) × (f < m)
  join_in_lem = join_ends P.growth P.is_join

  pub join_find : FindPre m e w
  join_find = record { size = P.growth.given.size_is; few = P.growth.given.few; below = join_in_lem.0; down = P.growth.down }

  -- one parent, one root
  pub join_settled : cell w m 6 e ≡ cell w m 6 f → Growth G m n (spot k e (suc f)) j w
  join_settled q =
      growth_ring P.growth (roots_same P.growth e f join_in_lem.0 join_in_lem.1
      (same_parent (parents w m) P.growth.down e f (parent_at w m e join_in_lem.0 ∙ q ∙ sym (parent_at w m f join_in_lem.1))))

  module _ {a : ℕ} {w₁ : List ℕ} (A : Found m e a w w₁) where
    growth₁ : Growth G m n (spot k e f) j w₁
    growth₁ = growth_steady refl refl refl refl A.steady P.growth

    pub join_find_next : FindPre m f w₁
    join_find_next = record { size = growth₁.given.size_is; few = P.growth.given.few; below = join_in_lem.1; down = growth₁.down }

    module _ {b : ℕ} {w₂ : List ℕ} (B : Found m f b w₁ w₂) where
      growth₂ : Growth G m n (spot k e f) j w₂
      growth₂ = growth_steady refl refl refl refl B.steady growth₁

      ea : a ≡ root w₂ m e
      ea = A.is ∙ sym ((steady_trans A.steady B.steady).same_root P.growth.down e)

      eb : b ≡ root w₂ m f
      eb = B.is ∙ sym (B.steady.same_root growth₁.down f)

      pub join_ring : a ≡ b → Growth G m n (spot k e (suc f)) j w₂
      join_ring q = growth_ring growth₂ (roots_same growth₂ e f join_in_lem.0 join_in_lem.1 (sym ea ∙ q ∙ eb))

      pub join_unite : a ≢ b → UnitePre m a b e f k j w₂
      join_unite ne = record {
        a_in = A.below;
        b_in = B.below;
        e_in = join_in_lem.0;
        f_in = join_in_lem.1;
        room = take_room growth₂ a b P.is_join ea eb ne;
        few = P.growth.given.few;
        light = P.light;
        size = growth₂.given.size_is;
      }

      pub join-taken : a ≢ b → Growth G m n (spot k e (suc f)) (j + 1) (united m a b e f k j w₂)
      join-taken ne = growth_take growth₂ a b P.is_join ea eb ne

      pub join_taken_stays : a ≢ b → Stays G m j (j + 1) w₂ (united m a b e f k j w₂)
      join_taken_stays ne = take_stays growth₂ a b P.is_join ea eb ne

      pub join_taken_frame : a ≢ b → Frame joining m w₂ (united m a b e f k j w₂)
      join_taken_frame ne = take_frame growth₂ a b P.is_join ea eb ne

-- no entry beyond the join that is taken is touched
united_after : {m a b e f k j : ℕ} {w : List ℕ} → UnitePre m a b e f k j w → JoinsEnd m j (j + 1) w (united m a b e f k j w)
united_after {m} {a} {b} {e} {f} {k} {j} {w} U = record {
  later = omega arith;
  ends = λ y l i.
      kept_column w₂ m 10 9 j y k (omega arith) U.room i
      ∙ kept_entry w₁ m 9 j y (e * 65536 + f) (omega arith)
      ∙ kept_column w m 6 9 (max a b) y (min a b) (omega arith) top i;
  weights = λ y l i.
      kept_entry w₂ m 10 j y k (omega arith)
      ∙ kept_column w₁ m 9 10 j y (e * 65536 + f) (omega arith) U.room i
      ∙ kept_column w m 6 10 (max a b) y (min a b) (omega arith) top i;
}
  where
    w₁ : List ℕ
    w₁ = store w m 6 (max a b) (min a b)

    w₂ : List ℕ
    w₂ = store w₁ m 9 j (e * 65536 + f)

    top : max a b < m
    top = omega (arith, U.a_in, U.b_in)

finds_frame : {m e f a b : ℕ} {w w₁ w₂ : List ℕ} → Found m e a w w₁ → Found m f b w₁ w₂ → Frame roots m w w₂
finds_frame A B = frame_trans A.steady.frame B.steady.frame

pub join_early : {m e f k j : ℕ} {w : List ℕ} → cell w m 6 e ≡ cell w m 6 f → JoinGives m e f k j j w w
join_early {m} {e} {f} {k} {j} {w} q = record { frame = frame_none joining m w; after = joins_end_none; growth = λ G n P. join_settled P q; stays = λ G n P a b s. s }

pub join_late : {m e f k j a b : ℕ} {w w₁ w₂ : List ℕ} → Found m e a w w₁ → Found m f b w₁ w₂ → a ≡ b → JoinGives m e f k j j w w₂
join_late {j = j} A B q = record {
  frame = frame_wide roots-joining (finds_frame A B);
  after = joins_end_frame j refl refl (finds_frame A B);
  growth = λ G n P. join_ring P A B q;
  stays = λ G n P. stays_frame G refl refl (finds_frame A B) P.growth.within;
}

pub join-done : {m e f k j a b : ℕ} {w w₁ w₂ w₃ : List ℕ} → JoinAsks m e f k j w → Found m e a w w₁ → Found m f b w₁ w₂ → a ≢ b → w₃ ≡ united m a b e f k j w₂ → JoinGives m e f k j (j + 1) w w₃
join-done {j = j} (G₀, n₀, P₀) A B ne put = rw put (record {
  frame = frame_trans (frame_wide roots-joining (finds_frame A B)) (join_taken_frame P₀ A B ne);
  after = joins_end_trans (joins_end_frame j refl refl (finds_frame A B)) (united_after (join_unite P₀ A B ne));
  growth = λ G n P. join-taken P A B ne;
  stays = λ G n P a b s. join_taken_stays P A B ne a b (stays_frame G refl refl (finds_frame A B) P.growth.within a b s);
})

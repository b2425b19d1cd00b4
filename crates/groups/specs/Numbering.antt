-- The groups of strength k, numbered by rising root: `number_one`, `number_roots`. Assumes nothing.
use Rattle.std.specs.Prelude.{◌≡◌, refl, ◌⊎◌, ◌≢◌, ◌||◌, List, ℕ, suc, ◌+◌, ◌*◌, ◌≤◌, ◌<◌, eqb, length}
use Rattle.std.proofs.Common.{sym, ap, ◌∙◌, subst, inl, inr, arith}
use Rattle.truss.specs.Limits.{no_group}
use Rattle.truss.specs.Graph.{Graph}
use Rattle.truss.specs.Group.{least_link}
use Rattle.laws.proofs.Groups.{size, strength_at}
use Rattle.laws.proofs.Stored.{stored}
use Rattle.laws.proofs.Sides.{InOrder}
use Rattle.laws.proofs.GroupPlaces.{Marked, IsGroup, Counted, ParentSo, open_yet, stored-marked, marked-stored, counted_skip, counted_next, counted_group, group_room}
use Rattle.columns.specs.Columns.{cell, store, COLUMNS}
use Rattle.laws.proofs.Numbers.{same_or_not}
use Rattle.columns.specs.Laws.{stored as stored-cell, kept_entry, kept_column, length-store}
use Rattle.unions.specs.Space.{Columns, Frame, frame_none, frame_trans, frame_store}
use Rattle.groups.specs.Marking.{AtLevel, MarkedTo, root_is, marked_frame, at_steady}

abbrev pub numbering : Columns
numbering c = eqb c 11 || (eqb c 12 || (eqb c 13 || eqb c 14))

-- the groups up to the place of strength k and least link r are written; of a marked root below r, column 14 has its group
pub record Numbered (G : Graph) (o : InOrder G) (fits : size G ≤ no_group) (m k r c : ℕ) (w : List ℕ) : Type 0 where
  pub counted : Counted G o k r c
  pub strengths : (g : ℕ) → g < c → cell w m 11 g ≡ (stored G g).strength
  pub leasts : (g : ℕ) → g < c → cell w m 13 g ≡ least_link (stored G g)
  pub parents_so : (g : ℕ) → g < c → ParentSo G o fits (suc k) g (cell w m 12 g)
  pub numbers : (y : ℕ) → y < r → cell w m 15 y ≡ k → IsGroup G o k y (cell w m 14 y)

pub record NumberPre (G : Graph) (o : InOrder G) (fits : size G ≤ no_group) (m n r k c : ℕ) (w : List ℕ) : Type 0 where
  pub state : Numbered G o fits m k r c w
  pub at : AtLevel G m n k w
  pub marked : MarkedTo G m k m w
  pub r_in : r < m

abbrev pub NumberAsks : ℕ → ℕ → ℕ → ℕ → List ℕ → Type 0
NumberAsks m r k c w = (G : Graph) × (n : ℕ) × (o : InOrder G) × (fits : size G ≤ no_group) × NumberPre G o fits m n r k c w

pub record NumberGives (m r k c c' : ℕ) (w w' : List ℕ) : Type 0 where
  pub frame : Frame numbering m w w'
  pub more : c ≤ c'
  pub state : (G : Graph) (n : ℕ) (o : InOrder G) (fits : size G ≤ no_group) → NumberPre G o fits m n r k c w → Numbered G o fits m k (r + 1) c' w'

suc_one : (r : ℕ) → suc r ≡ r + 1
suc_one r = omega arith

pub number_passed : {m r k c x : ℕ} {w : List ℕ} → x ≡ cell w m 15 r → x ≢ k → NumberGives m r k c c w w
number_passed {m} {r} {k} {c} {x} {w} ex ne = record { frame = frame_none numbering m w; more = omega arith; state = λ G n o fits P. at G n o fits P }
  where
    at : (G : Graph) (n : ℕ) (o : InOrder G) (fits : size G ≤ no_group) → NumberPre G o fits m n r k c w → Numbered G o fits m k (r + 1) c w
    at G n o fits P = record {
      counted = subst (λ (z : ℕ). Counted G o k z c) (suc_one r) (counted_skip G o P.state.counted none);
      strengths = P.state.strengths;
      leasts = P.state.leasts;
      parents_so = P.state.parents_so;
      numbers = λ y l q. go y l q (same_or_not y r);
    }
      where
        from : (g : ℕ) → IsGroup G o k r g → Marked G o (stored G g).strength (least_link (stored G g)) → ⊥
        from g S M =
            let sk : strength_at G M.link ≡ k = M.strength_is ∙ S.strength_is in
            let rr : root_is G k M.link ≡ r = ap (λ (z : ℕ). root_is G z M.link) (sym S.strength_is) ∙ M.root_is_lem ∙ S.least_is in
            ne (ex ∙ ap (cell w m 15) (sym rr) ∙ P.marked.complete M.link (omega (arith, M.link_in, P.at.given.count)) sk)

        none : (g : ℕ) → IsGroup G o k r g → ⊥
        none g S = from g S (stored-marked G o g S.counted)

        go : (y : ℕ) → y < r + 1 → cell w m 15 y ≡ k → (y ≡ r) ⊎ (y ≢ r) → IsGroup G o k y (cell w m 14 y)
        go y l q (inl t) = absurd (ne (ex ∙ ap (cell w m 15) (sym t) ∙ q))
        go y l q (inr t) = P.state.numbers y (omega (arith, l, t)) q

-- a marked root is the least link of the next group
pub number_is : {G : Graph} {m n r k c x : ℕ} {o : InOrder G} {fits : size G ≤ no_group} {w : List ℕ} → NumberPre G o fits m n r k c w → x ≡ cell w m 15 r → x ≡ k → IsGroup G o k r c
number_is {G} {m} {n} {r} {k} {c} {x} {o} {fits} {w} P ex q = at (P.marked.sound r P.r_in (sym ex ∙ q))
  where
    at : (i : ℕ) × (i < m) × (strength_at G i ≡ k) × (root_is G k i ≡ r) → IsGroup G o k r c
    at (i, l, s, t) =
        let M : Marked G o k r = record { link = i; link_in = omega (arith, l, P.at.given.count); strength_is = s; root_is_lem = t } in
        let S = marked-stored G o fits P.at.level M in
        subst (IsGroup G o k r) (sym (counted_next G o P.state.counted S.1)) S.1

pub number_room : {G : Graph} {m n r k c x : ℕ} {o : InOrder G} {fits : size G ≤ no_group} {w : List ℕ} → NumberPre G o fits m n r k c w → x ≡ cell w m 15 r → x ≡ k → c < m
number_room {G} {m} {n} {r} {k} {c} {x} {o} {fits} P ex q = omega (arith, group_room G o (number_is P ex q), P.at.given.count)

abbrev pub group_put : ℕ → ℕ → ℕ → ℕ → List ℕ → List ℕ
group_put m r k c w = store (store (store (store w m 14 r c) m 11 c k) m 12 c no_group) m 13 c r

pub number_done : {m r k c x : ℕ} {w w' : List ℕ} → NumberAsks m r k c w → x ≡ cell w m 15 r → x ≡ k → w' ≡ group_put m r k c w → NumberGives m r k c (c + 1) w w'
number_done {m} {r} {k} {c} {x} {w} {w'} ask ex q put = rw put (record { frame = frame; more = omega arith; state = λ G n o fits P. at G n o fits P })
  where
    rm : r < m
    rm = ask.4.r_in

    cm : c < m
    cm = number_room ask.4 ex q

    w₁ : List ℕ
    w₁ = store w m 14 r c

    w₂ : List ℕ
    w₂ = store w₁ m 11 c k

    w₃ : List ℕ
    w₃ = store w₂ m 12 c no_group

    w₄ : List ℕ
    w₄ = store w₃ m 13 c r

    frame : Frame numbering m w w₄
    frame = frame_trans (frame_store numbering w m 14 r c refl rm)
        (frame_trans (frame_store numbering w₁ m 11 c k refl cm) (frame_trans (frame_store numbering w₂ m 12 c no_group refl cm) (frame_store numbering w₃ m 13 c r refl cm)))

    s₀ : length w ≡ COLUMNS * m
    s₀ = ask.4.at.given.size_is

    s₁ : length w₁ ≡ COLUMNS * m
    s₁ = length-store w m 14 r c ∙ s₀

    s₂ : length w₂ ≡ COLUMNS * m
    s₂ = length-store w₁ m 11 c k ∙ s₁

    s₃ : length w₃ ≡ COLUMNS * m
    s₃ = length-store w₂ m 12 c no_group ∙ s₂

    new11 : cell w₄ m 11 c ≡ k
    new11 = kept_column w₃ m 13 11 c c r (omega arith) cm cm ∙ kept_column w₂ m 12 11 c c no_group (omega arith) cm cm ∙ stored-cell w₁ m 11 c k (omega arith) cm s₁

    new12 : cell w₄ m 12 c ≡ no_group
    new12 = kept_column w₃ m 13 12 c c r (omega arith) cm cm ∙ stored-cell w₂ m 12 c no_group (omega arith) cm s₂

    new13 : cell w₄ m 13 c ≡ r
    new13 = stored-cell w₃ m 13 c r (omega arith) cm s₃

    new14 : cell w₄ m 14 r ≡ c
    new14 = kept_column w₃ m 13 14 c r r (omega arith) cm rm ∙ kept_column w₂ m 12 14 c r no_group (omega arith) cm rm ∙ kept_column w₁ m 11 14 c r k (omega arith) cm rm ∙ stored-cell w m 14 r c (omega arith) rm s₀

    old11 : (y : ℕ) → y < m → y ≢ c → cell w₄ m 11 y ≡ cell w m 11 y
    old11 y l n = kept_column w₃ m 13 11 c y r (omega arith) cm l ∙ kept_column w₂ m 12 11 c y no_group (omega arith) cm l ∙ kept_entry w₁ m 11 c y k n ∙ kept_column w m 14 11 r y c (omega arith) rm l

    old12 : (y : ℕ) → y < m → y ≢ c → cell w₄ m 12 y ≡ cell w m 12 y
    old12 y l n = kept_column w₃ m 13 12 c y r (omega arith) cm l ∙ kept_entry w₂ m 12 c y no_group n ∙ kept_column w₁ m 11 12 c y k (omega arith) cm l ∙ kept_column w m 14 12 r y c (omega arith) rm l

    old13 : (y : ℕ) → y < m → y ≢ c → cell w₄ m 13 y ≡ cell w m 13 y
    old13 y l n = kept_entry w₃ m 13 c y r n ∙ kept_column w₂ m 12 13 c y no_group (omega arith) cm l ∙ kept_column w₁ m 11 13 c y k (omega arith) cm l ∙ kept_column w m 14 13 r y c (omega arith) rm l

    old14 : (y : ℕ) → y < m → y ≢ r → cell w₄ m 14 y ≡ cell w m 14 y
    old14 y l n = kept_column w₃ m 13 14 c y r (omega arith) cm l ∙ kept_column w₂ m 12 14 c y no_group (omega arith) cm l ∙ kept_column w₁ m 11 14 c y k (omega arith) cm l ∙ kept_entry w m 14 r y c n

    at : (G : Graph) (n : ℕ) (o : InOrder G) (fits : size G ≤ no_group) → NumberPre G o fits m n r k c w → Numbered G o fits m k (r + 1) (c + 1) w₄
    at G n o fits P = record {
      counted = subst (λ (z : ℕ). Counted G o k z (c + 1)) (suc_one r) (counted_group G o P.state.counted S);
      strengths = λ g l. go11 g l (same_or_not g c);
      leasts = λ g l. go13 g l (same_or_not g c);
      parents_so = λ g l. go12 g l (same_or_not g c);
      numbers = λ y l t. go14 y l t (same_or_not y r);
    }
      where
        S : IsGroup G o k r c
        S = number_is P ex q

        go11 : (g : ℕ) → g < c + 1 → (g ≡ c) ⊎ (g ≢ c) → cell w₄ m 11 g ≡ (stored G g).strength
        go11 g l (inl t) = ap (cell w₄ m 11) t ∙ new11 ∙ sym S.strength_is ∙ ap (λ (z : ℕ). (stored G z).strength) (sym t)
        go11 g l (inr t) = old11 g (omega (arith, l, cm)) t ∙ P.state.strengths g (omega (arith, l, t))

        go13 : (g : ℕ) → g < c + 1 → (g ≡ c) ⊎ (g ≢ c) → cell w₄ m 13 g ≡ least_link (stored G g)
        go13 g l (inl t) = ap (cell w₄ m 13) t ∙ new13 ∙ sym S.least_is ∙ ap (λ (z : ℕ). least_link (stored G z)) (sym t)
        go13 g l (inr t) = old13 g (omega (arith, l, cm)) t ∙ P.state.leasts g (omega (arith, l, t))

        go12 : (g : ℕ) → g < c + 1 → (g ≡ c) ⊎ (g ≢ c) → ParentSo G o fits (suc k) g (cell w₄ m 12 g)
        go12 g l (inl t) =
            let e : (stored G g).strength ≡ k = ap (λ (z : ℕ). (stored G z).strength) t ∙ S.strength_is in
            open_yet (ap (cell w₄ m 12) t ∙ new12) (λ h lh mh a b. omega (arith, a, b, e))
        go12 g l (inr t) = subst (ParentSo G o fits (suc k) g) (sym (old12 g (omega (arith, l, cm)) t)) (P.state.parents_so g (omega (arith, l, t)))

        go14 : (y : ℕ) → y < r + 1 → cell w₄ m 15 y ≡ k → (y ≡ r) ⊎ (y ≢ r) → IsGroup G o k y (cell w₄ m 14 y)
        go14 y l u (inl t) = subst (λ (z : ℕ). IsGroup G o k z (cell w₄ m 14 z)) (sym t) (subst (IsGroup G o k r) (sym new14) S)
        go14 y l u (inr t) =
            let ym : y < m = omega (arith, l, rm) in
            subst (IsGroup G o k y) (sym (old14 y ym t)) (P.state.numbers y (omega (arith, l, t)) (sym (frame.same 15 refl y ym) ∙ u))

-- ---- the loop

pub record NumbersPre (G : Graph) (o : InOrder G) (fits : size G ≤ no_group) (m n k c : ℕ) (w : List ℕ) : Type 0 where
  pub state : Numbered G o fits m k 0 c w
  pub at : AtLevel G m n k w
  pub marked : MarkedTo G m k m w

abbrev pub NumbersAsks : ℕ → ℕ → ℕ → List ℕ → Type 0
NumbersAsks m k c w = (G : Graph) × (n : ℕ) × (o : InOrder G) × (fits : size G ≤ no_group) × NumbersPre G o fits m n k c w

pub record NumbersGives (m k r c c' : ℕ) (w w' : List ℕ) : Type 0 where
  pub frame : Frame numbering m w w'
  pub more : c ≤ c'
  pub state : (G : Graph) (n : ℕ) (o : InOrder G) (fits : size G ≤ no_group) → NumbersPre G o fits m n k c w → Numbered G o fits m k r c' w'

pub numbers_none : {m k c : ℕ} {w : List ℕ} → NumbersGives m k 0 c c w w
numbers_none {m} {k} {c} {w} = record { frame = frame_none numbering m w; more = omega arith; state = λ G n o fits P. P.state }

-- columns 6, 0, 4 and 15 are not touched
pub numbers_at : {G : Graph} {m n k : ℕ} {w w' : List ℕ} → AtLevel G m n k w → Frame numbering m w w' → AtLevel G m n k w'
numbers_at L f = at_steady refl refl (Rattle.unions.specs.Space.steady_frame f (f.same 6 refl)) L

pub numbers_one : {G : Graph} {m n r k c c' : ℕ} {o : InOrder G} {fits : size G ≤ no_group} {w w' : List ℕ} → NumbersPre G o fits m n k c w → NumbersGives m k r c c' w w' → r < m → NumberPre G o fits m n r k c' w'
numbers_one {G} {m} {n} {r} {k} {c} {c'} {o} {fits} P S l = record {
  state = S.state G n o fits P;
  at = numbers_at P.at S.frame;
  marked = marked_frame refl S.frame P.at (native.Mathlib.Nat.le_refl m) P.marked;
  r_in = l;
}

pub numbers_more : {m r k c c' c'' : ℕ} {w w' w'' : List ℕ} → NumbersGives m k r c c' w w' → r < m → NumberGives m r k c' c'' w' w'' → NumbersGives m k (r + 1) c c'' w w''
numbers_more S l T = record {
  frame = frame_trans S.frame T.frame;
  more = omega (arith, S.more, T.more);
  state = λ G n o fits P. T.state G n o fits (numbers_one P S l);
}

pub numbers_all : {m k r c c' : ℕ} {w w' : List ℕ} → r ≡ m → NumbersGives m k r c c' w w' → NumbersGives m k m c c' w w'
numbers_all {m} {k} {r} {c} {c'} {w} {w'} q S = subst (λ (z : ℕ). NumbersGives m k z c c' w w') q S

-- a store leaves the size
pub put-size : (w : List ℕ) (m c i x : ℕ) {w' : List ℕ} → w' ≡ store w m c i x → length w ≡ COLUMNS * m → length w' ≡ COLUMNS * m
put-size w m c i x q s = rw q (length-store w m c i x ∙ s)

-- The own group of each link of strength k (column 8), and the parents that level k decides (column 12).
-- `name_one`, `name_groups`, `adopt_one`, `adopt`. Assumes nothing.
use Rattle.std.specs.Prelude.{◌≡◌, refl, ◌⊎◌, ◌≢◌, false, List, ℕ, suc, ◌+◌, ◌*◌, ◌≤◌, ◌<◌, length}
use Rattle.std.proofs.Common.{sym, ap, ◌∙◌, subst, inl, inr, le_refl, arith}
use mathlib.Core.List.{Memᴰ as In}
use Rattle.truss.specs.Limits.{no_group}
use Rattle.truss.specs.Graph.{Graph}
use Rattle.truss.specs.Group.{least_link}
use Rattle.laws.proofs.Groups.{size, strength_at}
use Rattle.laws.proofs.Stored.{group_count, stored, stored_in}
use Rattle.laws.proofs.Sides.{InOrder}
use Rattle.laws.proofs.GroupPlaces.{IsGroup, ParentSo, open_yet, known, own_of, own_group_lem, group_once, group_holds, held_marked, least_in, parent_found, parent_passed}
use Rattle.columns.specs.Columns.{cell, store, COLUMNS}
use Rattle.laws.proofs.Numbers.{same_or_not}
use Rattle.columns.specs.Laws.{stored as stored-cell, kept_entry}
use Rattle.unions.specs.Space.{Columns, Steady, steady_none, steady_trans, steady_wide, steady_store}
use Rattle.unions.specs.Find.{Found}
use Rattle.groups.specs.Marking.{AtLevel, MarkedTo, root_is, marked_frame, at_steady, at_found, naming, adopting, roots-naming, roots-adopting}

-- of a marked root, column 14 has its group
abbrev pub Numbers : (G : Graph) → InOrder G → ℕ → ℕ → List ℕ → Type 0
Numbers G o m k w = (y : ℕ) → y < m → cell w m 15 y ≡ k → IsGroup G o k y (cell w m 14 y)

-- a level whose roots are marked and numbered
pub record Ready (G : Graph) (o : InOrder G) (m n k : ℕ) (w : List ℕ) : Type 0 where
  pub at : AtLevel G m n k w
  pub marked : MarkedTo G m k m w
  pub numbers : Numbers G o m k w

pub ready_steady : {t : Columns} {G : Graph} {o : InOrder G} {m n k : ℕ} {w w' : List ℕ} → t 0 ≡ false → t 4 ≡ false → t 14 ≡ false → t 15 ≡ false → Steady t m w w'
    → Ready G o m n k w → Ready G o m n k w'
ready_steady {t} {G} {o} {m} {n} {k} {w} {w'} a b c d s R = record {
  at = at_steady a b s R.at;
  marked = marked_frame d s.frame R.at (le_refl m) R.marked;
  numbers = λ y l q. subst (IsGroup G o k y) (sym (s.frame.same 14 c y l)) (R.numbers y l (sym (s.frame.same 15 d y l) ∙ q));
}

-- ---- own groups

pub record Owned (G : Graph) (o : InOrder G) (fits : size G ≤ no_group) (m k e : ℕ) (w : List ℕ) : Type 0 where
  pub above : (i : ℕ) → i < m → k < strength_at G i → cell w m 8 i ≡ own_of G o fits i
  pub here : (i : ℕ) → i < e → strength_at G i ≡ k → cell w m 8 i ≡ own_of G o fits i

pub record NamePre (G : Graph) (o : InOrder G) (fits : size G ≤ no_group) (m n e k : ℕ) (w : List ℕ) : Type 0 where
  pub state : Owned G o fits m k e w
  pub ready : Ready G o m n k w
  pub e_in : e < m

abbrev pub NameAsks : ℕ → ℕ → ℕ → List ℕ → Type 0
NameAsks m e k w = (G : Graph) × (n : ℕ) × (o : InOrder G) × (fits : size G ≤ no_group) × NamePre G o fits m n e k w

pub record NameGives (m e k : ℕ) (w w' : List ℕ) : Type 0 where
  pub steady : Steady naming m w w'
  pub state : (G : Graph) (n : ℕ) (o : InOrder G) (fits : size G ≤ no_group) → NamePre G o fits m n e k w → Owned G o fits m k (e + 1) w'

pub name_passed : {m e k x : ℕ} {w : List ℕ} → x ≡ cell w m 4 e → x ≢ k → NameGives m e k w w
name_passed {m} {e} {k} {x} {w} ex ne = record { steady = steady_none naming m w; state = λ G n o fits P. at G n o fits P }
  where
    at : (G : Graph) (n : ℕ) (o : InOrder G) (fits : size G ≤ no_group) → NamePre G o fits m n e k w → Owned G o fits m k (e + 1) w
    at G n o fits P = record { above = P.state.above; here = λ i l q. go i l q (same_or_not i e) }
      where
        go : (i : ℕ) → i < e + 1 → strength_at G i ≡ k → (i ≡ e) ⊎ (i ≢ e) → cell w m 8 i ≡ own_of G o fits i
        go i l q (inl t) = absurd (ne (ex ∙ P.ready.at.given.strengths e P.e_in ∙ ap (strength_at G) (sym t) ∙ q))
        go i l q (inr t) = P.state.here i (omega (arith, l, t)) q

module _ {m e k x r : ℕ} {w w₁ : List ℕ} (ex : x ≡ cell w m 4 e) (q : x ≡ k) (F : Found m e r w w₁) where
  module _ {G : Graph} {n : ℕ} {o : InOrder G} {fits : size G ≤ no_group} (P : NamePre G o fits m n e k w) where
    strong : strength_at G e ≡ k
    strong = sym (P.ready.at.given.strengths e P.e_in) ∙ sym ex ∙ q

    rr : r ≡ root_is G k e
    rr = at_found P.ready.at P.e_in F

    ready₁ : Ready G o m n k w₁
    ready₁ = ready_steady refl refl refl refl F.steady P.ready

    pub name_group : {g : ℕ} → g ≡ cell w₁ m 14 r → IsGroup G o k r g
    name_group {g} eg =
        subst (IsGroup G o k r) (sym eg) (ready₁.numbers r F.below (ap (cell w₁ m 15) rr ∙ ready₁.marked.complete e P.e_in strong))

    own_is : {g : ℕ} → g ≡ cell w₁ m 14 r → g ≡ own_of G o fits e
    own_is {g} eg =
        let S = own_group_lem G o fits e (omega (arith, P.e_in, P.ready.at.given.count)) (omega (arith, strong, P.ready.at.level)) in
        group_once G o (name_group eg) (record {
          counted = S.counted;
          strength_is = S.strength_is ∙ strong;
          least_is = S.least_is ∙ ap (λ (z : ℕ). root_is G z e) strong ∙ sym rr;
        })

  pub name_done : {g : ℕ} {w₂ : List ℕ} → NameAsks m e k w → g ≡ cell w₁ m 14 r → w₂ ≡ store w₁ m 8 e g → NameGives m e k w w₂
  name_done {g} {w₂} ask eg put = rw put (record {
    steady = steady_trans (steady_wide roots-naming F.steady) (steady_store naming w₁ m 8 e g refl (omega arith) em);
    state = λ G n o fits P. at G n o fits P;
  })
    where
      em : e < m
      em = ask.4.e_in

      here8 : cell (store w₁ m 8 e g) m 8 e ≡ g
      here8 = stored-cell w₁ m 8 e g (omega arith) em (F.steady.frame.length_is ∙ ask.4.ready.at.given.size_is)

      else : (y : ℕ) → y < m → y ≢ e → cell (store w₁ m 8 e g) m 8 y ≡ cell w m 8 y
      else y l n = kept_entry w₁ m 8 e y g n ∙ F.steady.frame.same 8 refl y l

      at : (G : Graph) (n : ℕ) (o : InOrder G) (fits : size G ≤ no_group) → NamePre G o fits m n e k w → Owned G o fits m k (e + 1) (store w₁ m 8 e g)
      at G n o fits P = record {
        above = λ i l s. else i l (λ t. omega (arith, s, ap (strength_at G) t, strong P)) ∙ P.state.above i l s;
        here = λ i l s. go i l s (same_or_not i e);
      }
        where
          go : (i : ℕ) → i < e + 1 → strength_at G i ≡ k → (i ≡ e) ⊎ (i ≢ e) → cell (store w₁ m 8 e g) m 8 i ≡ own_of G o fits i
          go i l s (inl t) = ap (cell (store w₁ m 8 e g) m 8) t ∙ here8 ∙ own_is P eg ∙ ap (own_of G o fits) (sym t)
          go i l s (inr t) = else i (omega (arith, l, em)) t ∙ P.state.here i (omega (arith, l, t)) s

pub record NamesPre (G : Graph) (o : InOrder G) (fits : size G ≤ no_group) (m n k : ℕ) (w : List ℕ) : Type 0 where
  pub state : Owned G o fits m k 0 w
  pub ready : Ready G o m n k w

abbrev pub NamesAsks : ℕ → ℕ → List ℕ → Type 0
NamesAsks m k w = (G : Graph) × (n : ℕ) × (o : InOrder G) × (fits : size G ≤ no_group) × NamesPre G o fits m n k w

pub record NamesGives (m k e : ℕ) (w w' : List ℕ) : Type 0 where
  pub steady : Steady naming m w w'
  pub state : (G : Graph) (n : ℕ) (o : InOrder G) (fits : size G ≤ no_group) → NamesPre G o fits m n k w → Owned G o fits m k e w'

pub names_none : {m k : ℕ} {w : List ℕ} → NamesGives m k 0 w w
names_none {m} {k} {w} = record { steady = steady_none naming m w; state = λ G n o fits P. P.state }

pub names_one : {G : Graph} {m n e k : ℕ} {o : InOrder G} {fits : size G ≤ no_group} {w w' : List ℕ} → NamesPre G o fits m n k w → NamesGives m k e w w' → e < m → NamePre G o fits m n e k w'
names_one {G} {m} {n} {e} {k} {o} {fits} P S l = record { state = S.state G n o fits P; ready = ready_steady refl refl refl refl S.steady P.ready; e_in = l }

pub names_more : {m e k : ℕ} {w w' w'' : List ℕ} → NamesGives m k e w w' → e < m → NameGives m e k w' w'' → NamesGives m k (e + 1) w w''
names_more S l T = record { steady = steady_trans S.steady T.steady; state = λ G n o fits P. T.state G n o fits (names_one P S l) }

pub names_all : {m k e : ℕ} {w w' : List ℕ} → e ≡ m → NamesGives m k e w w' → NamesGives m k m w w'
names_all {m} {k} {e} {w} {w'} q S = subst (λ (z : ℕ). NamesGives m k z w w') q S

-- ---- parents

-- the groups below c are stronger than k; column 13 has their least links; level k has decided the parents of those below g
pub record Adopted (G : Graph) (o : InOrder G) (fits : size G ≤ no_group) (m k c g : ℕ) (w : List ℕ) : Type 0 where
  pub counted : c ≤ group_count G
  pub strong : (h : ℕ) → h < c → k < (stored G h).strength
  pub leasts : (h : ℕ) → h < c → cell w m 13 h ≡ least_link (stored G h)
  pub decided : (h : ℕ) → h < g → ParentSo G o fits k h (cell w m 12 h)
  pub waits : (h : ℕ) → g ≤ h → h < c → ParentSo G o fits (suc k) h (cell w m 12 h)

pub record AdoptPre (G : Graph) (o : InOrder G) (fits : size G ≤ no_group) (m n k g c : ℕ) (w : List ℕ) : Type 0 where
  pub state : Adopted G o fits m k c g w
  pub ready : Ready G o m n k w
  pub g_in : g < c
  pub c_in : c ≤ m

abbrev pub AdoptAsks : ℕ → ℕ → ℕ → List ℕ → Type 0
AdoptAsks m k g w = (G : Graph) × (n : ℕ) × (c : ℕ) × (o : InOrder G) × (fits : size G ≤ no_group) × AdoptPre G o fits m n k g c w

pub record AdoptGives (m k g : ℕ) (w w' : List ℕ) : Type 0 where
  pub steady : Steady adopting m w w'
  pub others : (y : ℕ) → y < m → y ≢ g → cell w' m 12 y ≡ cell w m 12 y
  pub state : (G : Graph) (n c : ℕ) (o : InOrder G) (fits : size G ≤ no_group) → AdoptPre G o fits m n k g c w → Adopted G o fits m k c (g + 1) w'

-- the new state from what becomes of g
adopt_state : {m k g : ℕ} {w w' : List ℕ} → Steady adopting m w w' → ((y : ℕ) → y < m → y ≢ g → cell w' m 12 y ≡ cell w m 12 y) → {G : Graph} {n c : ℕ} {o : InOrder G} {fits : size G ≤ no_group}
    → AdoptPre G o fits m n k g c w → ParentSo G o fits k g (cell w' m 12 g) → Adopted G o fits m k c (g + 1) w'
adopt_state {m} {k} {g} {w} {w'} s others {G} {n} {c} {o} {fits} P here = record {
  counted = P.state.counted;
  strong = P.state.strong;
  leasts = λ h l. s.frame.same 13 refl h (omega (arith, l, P.c_in)) ∙ P.state.leasts h l;
  decided = λ h l. go h l (same_or_not h g);
  waits = λ h a b. subst (ParentSo G o fits (suc k) h) (sym (others h (omega (arith, b, P.c_in)) (omega arith))) (P.state.waits h (omega arith) b);
}
  where
    go : (h : ℕ) → h < g + 1 → (h ≡ g) ⊎ (h ≢ g) → ParentSo G o fits k h (cell w' m 12 h)
    go h l (inl t) = subst (λ (z : ℕ). ParentSo G o fits k z (cell w' m 12 z)) (sym t) here
    go h l (inr t) = subst (ParentSo G o fits k h) (sym (others h (omega (arith, l, P.g_in, P.c_in)) t)) (P.state.decided h (omega (arith, l, t)))

stays : {G : Graph} {k g x : ℕ} {o : InOrder G} {fits : size G ≤ no_group} → ParentSo G o fits (suc k) g x → x ≢ no_group → ParentSo G o fits k g x
stays (known a b) n = known a b
stays (open_yet a b) n = absurd (n a)

pub adopt_known : {m k g x : ℕ} {w : List ℕ} → x ≡ cell w m 12 g → x ≢ no_group → AdoptGives m k g w w
adopt_known {m} {k} {g} {x} {w} ex ne = record {
  steady = steady_none adopting m w;
  others = λ y l n. refl;
  state = λ G n c o fits P. adopt_state (steady_none adopting m w) (λ y l t. refl) P (stays (P.state.waits g (le_refl g) P.g_in) (λ t. ne (ex ∙ t)));
}

-- the least link of g is a link
pub adopt_least : {G : Graph} {m n k g c l : ℕ} {o : InOrder G} {fits : size G ≤ no_group} {w : List ℕ} → AdoptPre G o fits m n k g c w → l ≡ cell w m 13 g → l < m
adopt_least {G} {m} {n} {k} {g} {c} {l} {o} P el =
    let gc : g < group_count G = omega (arith, P.g_in, P.state.counted) in
    omega (arith, el, P.state.leasts g P.g_in, (stored_in G g gc (least_in G o g gc)).0, P.ready.at.given.count)

module _ {m k g x l r : ℕ} {w w₁ : List ℕ} (ex : x ≡ cell w m 12 g) (q : x ≡ no_group) (el : l ≡ cell w m 13 g) (F : Found m l r w w₁) where
  module _ {G : Graph} {n c : ℕ} {o : InOrder G} {fits : size G ≤ no_group} (P : AdoptPre G o fits m n k g c w) where
    gc : g < group_count G
    gc = omega (arith, P.g_in, P.state.counted)

    ll : l ≡ least_link (stored G g)
    ll = el ∙ P.state.leasts g P.g_in

    lm : l < m
    lm = adopt_least P el

    root_of_least : r ≡ root_is G k l
    root_of_least = at_found P.ready.at lm F

    ready_after : Ready G o m n k w₁
    ready_after = ready_steady refl refl refl refl F.steady P.ready

    open_one : ParentSo G o fits (suc k) g x
    open_one = subst (ParentSo G o fits (suc k) g) (sym ex) (P.state.waits g (le_refl g) P.g_in)

    l_strong : k ≤ strength_at G l
    l_strong =
        let a = stored_in G g gc (least_in G o g gc) in
        omega (arith, P.state.strong g P.g_in, a.1, ap (strength_at G) ll)

    -- the root is not marked: no group of strength k holds the least link
    parent_none_here : {z : ℕ} → z ≡ cell w₁ m 15 r → z ≢ k → ParentSo G o fits k g x
    parent_none_here {z} ez ne = parent_passed G o fits gc q open_one none
      where
        none : (h : ℕ) → h < group_count G → (stored G h).strength ≡ k → In (least_link (stored G g)) (stored G h).members → ⊥
        none h lh sk mh =
            let M = held_marked G o lh sk mh in
            let s : cell w₁ m 15 (root_is G k M.link) ≡ k = ready_after.marked.complete M.link (omega (arith, M.link_in, P.ready.at.given.count)) M.strength_is in
            let t : root_is G k M.link ≡ r = M.root_is_lem ∙ ap (root_is G k) (sym ll) ∙ sym root_of_least in
            ne (ez ∙ ap (cell w₁ m 15) (sym t) ∙ s)

    adopt_group : {z h : ℕ} → z ≡ cell w₁ m 15 r → z ≡ k → h ≡ cell w₁ m 14 r → IsGroup G o k r h
    adopt_group {z} {h} ez s eh = subst (IsGroup G o k r) (sym eh) (ready_after.numbers r F.below (sym ez ∙ s))

    parent_here : {z h : ℕ} → z ≡ cell w₁ m 15 r → z ≡ k → h ≡ cell w₁ m 14 r → ParentSo G o fits k g h
    parent_here {z} {h} ez s eh =
        let S = adopt_group ez s eh in
        parent_found G o fits gc S.counted q open_one S.strength_is (P.state.strong g P.g_in)
        (subst (λ (y : ℕ). In y (stored G h).members) ll (group_holds G o S (omega (arith, lm, P.ready.at.given.count)) l_strong (sym root_of_least)))

  pub adopt_passed : {z : ℕ} → z ≡ cell w₁ m 15 r → z ≢ k → g < m → AdoptGives m k g w w₁
  adopt_passed ez ne gm = record {
    steady = steady_wide roots-adopting F.steady;
    others = λ y a b. F.steady.frame.same 12 refl y a;
    state = λ G n c o fits P. adopt_state (steady_wide roots-adopting F.steady) (λ y a b. F.steady.frame.same 12 refl y a) P
        (subst (ParentSo G o fits k g) (ex ∙ sym (F.steady.frame.same 12 refl g gm)) (parent_none_here P ez ne));
  }

  pub adopt_done : {z h : ℕ} {w₂ : List ℕ} → z ≡ cell w₁ m 15 r → z ≡ k → h ≡ cell w₁ m 14 r → g < m → length w ≡ COLUMNS * m → w₂ ≡ store w₁ m 12 g h → AdoptGives m k g w w₂
  adopt_done {z} {h} {w₂} ez s eh gm size put = rw put (record {
    steady = steady;
    others = others;
    state = λ G n c o fits P. adopt_state steady others P (subst (ParentSo G o fits k g) (sym here) (parent_here P ez s eh));
  })
    where
      steady : Steady adopting m w (store w₁ m 12 g h)
      steady = steady_trans (steady_wide roots-adopting F.steady) (steady_store adopting w₁ m 12 g h refl (omega arith) gm)

      others : (y : ℕ) → y < m → y ≢ g → cell (store w₁ m 12 g h) m 12 y ≡ cell w m 12 y
      others y a b = kept_entry w₁ m 12 g y h b ∙ F.steady.frame.same 12 refl y a

      here : cell (store w₁ m 12 g h) m 12 g ≡ h
      here = stored-cell w₁ m 12 g h (omega arith) gm (F.steady.frame.length_is ∙ size)

pub record AdoptsPre (G : Graph) (o : InOrder G) (fits : size G ≤ no_group) (m n k c : ℕ) (w : List ℕ) : Type 0 where
  pub state : Adopted G o fits m k c 0 w
  pub ready : Ready G o m n k w
  pub c_in : c ≤ m

abbrev pub AdoptsAsks : ℕ → ℕ → ℕ → List ℕ → Type 0
AdoptsAsks m k c w = (G : Graph) × (n : ℕ) × (o : InOrder G) × (fits : size G ≤ no_group) × AdoptsPre G o fits m n k c w

pub record AdoptsGives (m k c g : ℕ) (w w' : List ℕ) : Type 0 where
  pub steady : Steady adopting m w w'
  -- the other groups keep their parents
  pub others : (y : ℕ) → y < m → c ≤ y → cell w' m 12 y ≡ cell w m 12 y
  pub state : (G : Graph) (n : ℕ) (o : InOrder G) (fits : size G ≤ no_group) → AdoptsPre G o fits m n k c w → Adopted G o fits m k c g w'

pub adopts_none : {m k c : ℕ} {w : List ℕ} → AdoptsGives m k c 0 w w
adopts_none {m} {k} {c} {w} = record { steady = steady_none adopting m w; others = λ y a b. refl; state = λ G n o fits P. P.state }

pub adopts_one : {G : Graph} {m n g k c : ℕ} {o : InOrder G} {fits : size G ≤ no_group} {w w' : List ℕ} → AdoptsPre G o fits m n k c w → AdoptsGives m k c g w w' → g < c → AdoptPre G o fits m n k g c w'
adopts_one {G} {m} {n} {g} {k} {c} {o} {fits} P S l = record {
  state = S.state G n o fits P;
  ready = ready_steady refl refl refl refl S.steady P.ready;
  g_in = l;
  c_in = P.c_in;
}

pub adopts_more : {m g k c : ℕ} {w w' w'' : List ℕ} → AdoptsGives m k c g w w' → g < c → AdoptGives m k g w' w'' → AdoptsGives m k c (g + 1) w w''
adopts_more {m} {g} {k} {c} S l T = record {
  steady = steady_trans S.steady T.steady;
  others = λ y a b. T.others y a (omega arith) ∙ S.others y a b;
  state = λ G n o fits P. T.state G n c o fits (adopts_one P S l);
}

pub adopts_all : {m k c g : ℕ} {w w' : List ℕ} → g ≡ c → AdoptsGives m k c g w w' → AdoptsGives m k c c w w'
adopts_all {m} {k} {c} {g} {w} {w'} q S = subst (λ (z : ℕ). AdoptsGives m k c z w w') q S

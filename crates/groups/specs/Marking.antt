-- The roots of the links of strength k, marked in column 15. `mark_one`, `mark_roots`. Assumes nothing.
use Rattle.std.specs.Prelude.{◌≡◌, refl, ◌⊎◌, ◌≢◌, false, ◌||◌, List, ℕ, suc, ◌+◌, ◌*◌, ◌≤◌, ◌<◌, eqb, length}
use Rattle.std.proofs.Common.{sym, ap, ◌∙◌, subst, inl, inr, arith}
use Rattle.truss.specs.Limits.{min_level}
use Rattle.truss.specs.Graph.{Graph}
use Rattle.truss.specs.Group.{labels_at}
use Rattle.laws.proofs.UnionFind.{Down}
use Rattle.laws.proofs.Lists.{or_left_false}
use Rattle.laws.proofs.Components.{label}
use Rattle.laws.proofs.Unions.{Keeps}
use Rattle.laws.proofs.Groups.{strength_at}
use Rattle.laws.proofs.GroupPlaces.{root_in}
use Rattle.columns.specs.Columns.{cell, store, COLUMNS}
use Rattle.laws.proofs.Numbers.{same_or_not}
use Rattle.columns.specs.Laws.{stored, kept_entry}
use Rattle.unions.specs.Space.{Columns, Frame, parents, roots, Steady, steady_none, steady_trans, steady_wide, steady_store}
use Rattle.unions.specs.Find.{FindPre, Found}
use Rattle.unions.specs.State.{Given, given_frame}

-- ---- the columns that change

abbrev pub marking : Columns
marking c = eqb c 6 || eqb c 15

abbrev pub naming : Columns
naming c = eqb c 6 || eqb c 8

abbrev pub adopting : Columns
adopting c = eqb c 6 || eqb c 12

pub roots-marking : (c : ℕ) → marking c ≡ false → roots c ≡ false
roots-marking c h = or_left_false (eqb c 6) (eqb c 15) h

pub roots-naming : (c : ℕ) → naming c ≡ false → roots c ≡ false
roots-naming c h = or_left_false (eqb c 6) (eqb c 8) h

pub roots-adopting : (c : ℕ) → adopting c ≡ false → roots c ≡ false
roots-adopting c h = or_left_false (eqb c 6) (eqb c 12) h

-- ---- a level whose joins are done: the roots are those of the components at k

pub record AtLevel (G : Graph) (m n k : ℕ) (w : List ℕ) : Type 0 where
  pub given : Given G m n w
  pub down : Down (parents w m)
  pub keeps : Keeps m (parents w m) (labels_at G k)
  pub level : min_level ≤ k
  pub light : k ≤ 65535

pub at_steady : {t : Columns} {G : Graph} {m n k : ℕ} {w w' : List ℕ} → t 0 ≡ false → t 4 ≡ false → Steady t m w w' → AtLevel G m n k w → AtLevel G m n k w'
at_steady a b s L = record {
  given = given_frame a b s.frame L.given;
  down = s.down L.down;
  keeps = λ x l. s.same_root L.down x ∙ L.keeps x l;
  level = L.level;
  light = L.light;
}

-- the root of link i at k
abbrev pub root_is : Graph → ℕ → ℕ → ℕ
root_is G k i = label (labels_at G k) i

pub at_find : {G : Graph} {m n k x : ℕ} {w : List ℕ} → AtLevel G m n k w → x < m → FindPre m x w
at_find L l = record { size = L.given.size_is; few = L.given.few; below = l; down = L.down }

pub at_found : {G : Graph} {m n k x r : ℕ} {w w' : List ℕ} → AtLevel G m n k w → x < m → Found m x r w w' → r ≡ root_is G k x
at_found {G} {m} {n} {k} {x} L l F = F.is ∙ L.keeps x l

pub root_below : {G : Graph} {m n k x : ℕ} {w : List ℕ} → AtLevel G m n k w → x < m → root_is G k x < m
root_below {G} {m} {n} {k} {x} L l = omega (arith, root_in G L.given.order k x (omega (arith, L.given.count)), L.given.count)

-- ---- marks

-- column 15 has k just for the roots of the links below e of strength k; no lower mark was used
pub record MarkedTo (G : Graph) (m k e : ℕ) (w : List ℕ) : Type 0 where
  pub sound : (r : ℕ) → r < m → cell w m 15 r ≡ k → (i : ℕ) × (i < e) × (strength_at G i ≡ k) × (root_is G k i ≡ r)
  pub complete : (i : ℕ) → i < e → strength_at G i ≡ k → cell w m 15 (root_is G k i) ≡ k
  pub fresh : (r x : ℕ) → r < m → 0 < x → x < k → cell w m 15 r ≢ x

pub marked_frame : {t : Columns} {G : Graph} {m n k e : ℕ} {w w' : List ℕ} → t 15 ≡ false → Frame t m w w' → AtLevel G m n k w → e ≤ m → MarkedTo G m k e w → MarkedTo G m k e w'
marked_frame a f L el M = record {
  sound = λ r l q. M.sound r l (sym (f.same 15 a r l) ∙ q);
  complete = λ i l q. f.same 15 a _ (root_below L (omega arith)) ∙ M.complete i l q;
  fresh = λ r x l p q s. M.fresh r x l p q (sym (f.same 15 a r l) ∙ s);
}

pub record MarkPre (G : Graph) (m n e k : ℕ) (w : List ℕ) : Type 0 where
  pub at : AtLevel G m n k w
  pub marked : MarkedTo G m k e w
  pub e_in : e < m

abbrev pub MarkAsks : ℕ → ℕ → ℕ → List ℕ → Type 0
MarkAsks m e k w = (G : Graph) × (n : ℕ) × MarkPre G m n e k w

pub record MarkGives (m e k : ℕ) (w w' : List ℕ) : Type 0 where
  pub steady : Steady marking m w w'
  pub state : (G : Graph) (n : ℕ) → MarkPre G m n e k w → MarkedTo G m k (e + 1) w'

pub mark_passed : {m e k x : ℕ} {w : List ℕ} → x ≡ cell w m 4 e → x ≢ k → MarkGives m e k w w
mark_passed {m} {e} {k} {x} {w} ex ne = record { steady = steady_none marking m w; state = λ G n P. at G n P }
  where
    at : (G : Graph) (n : ℕ) → MarkPre G m n e k w → MarkedTo G m k (e + 1) w
    at G n P = record {
      sound = λ r l q. let s = P.marked.sound r l q in (s.0, omega (arith, s.1), s.2, s.3);
      complete = λ i l q. go i l q (same_or_not i e);
      fresh = P.marked.fresh;
    }
      where
        go : (i : ℕ) → i < e + 1 → strength_at G i ≡ k → (i ≡ e) ⊎ (i ≢ e) → cell w m 15 (root_is G k i) ≡ k
        go i l q (inl t) = absurd (ne (ex ∙ P.at.given.strengths e P.e_in ∙ ap (strength_at G) (sym t) ∙ q))
        go i l q (inr t) = P.marked.complete i (omega (arith, l, t)) q

pub mark_done : {m e k x r : ℕ} {w w₁ w₂ : List ℕ} → MarkAsks m e k w → x ≡ cell w m 4 e → x ≡ k → Found m e r w w₁ → w₂ ≡ store w₁ m 15 r k → MarkGives m e k w w₂
mark_done {m} {e} {k} {x} {r} {w} {w₁} {w₂} ask ex q F put = rw put (record {
  steady = steady_trans (steady_wide roots-marking F.steady) (steady_store marking w₁ m 15 r k refl (omega arith) F.below);
  state = λ G n P. at G n P;
})
  where
    size₁ : length w₁ ≡ COLUMNS * m
    size₁ = F.steady.frame.length_is ∙ ask.2.at.given.size_is

    here : cell (store w₁ m 15 r k) m 15 r ≡ k
    here = stored w₁ m 15 r k (omega arith) F.below size₁

    else : (y : ℕ) → y < m → y ≢ r → cell (store w₁ m 15 r k) m 15 y ≡ cell w m 15 y
    else y l n = kept_entry w₁ m 15 r y k n ∙ F.steady.frame.same 15 refl y l

    at : (G : Graph) (n : ℕ) → MarkPre G m n e k w → MarkedTo G m k (e + 1) (store w₁ m 15 r k)
    at G n P = record { sound = λ y l s. sound y l s (same_or_not y r); complete = λ i l s. complete i l s (same_or_not (root_is G k i) r) (same_or_not i e); fresh = λ y z l a b s. fresh y z l a b s (same_or_not y r) }
      where
        rr : r ≡ root_is G k e
        rr = at_found P.at P.e_in F

        strong : strength_at G e ≡ k
        strong = sym (P.at.given.strengths e P.e_in) ∙ sym ex ∙ q

        sound : (y : ℕ) → y < m → cell (store w₁ m 15 r k) m 15 y ≡ k → (y ≡ r) ⊎ (y ≢ r) → (i : ℕ) × (i < e + 1) × (strength_at G i ≡ k) × (root_is G k i ≡ y)
        sound y l s (inl t) = (e, omega arith, strong, sym rr ∙ sym t)
        sound y l s (inr t) = let u = P.marked.sound y l (sym (else y l t) ∙ s) in (u.0, omega (arith, u.1), u.2, u.3)

        complete : (i : ℕ) → i < e + 1 → strength_at G i ≡ k → (root_is G k i ≡ r) ⊎ (root_is G k i ≢ r) → (i ≡ e) ⊎ (i ≢ e) → cell (store w₁ m 15 r k) m 15 (root_is G k i) ≡ k
        complete i l s (inl t) u = ap (cell (store w₁ m 15 r k) m 15) t ∙ here
        complete i l s (inr t) (inl u) = absurd (t (ap (root_is G k) u ∙ sym rr))
        complete i l s (inr t) (inr u) = else (root_is G k i) (root_below P.at (omega (arith, l, P.e_in))) t ∙ P.marked.complete i (omega (arith, l, u)) s

        fresh : (y z : ℕ) → y < m → 0 < z → z < k → cell (store w₁ m 15 r k) m 15 y ≡ z → (y ≡ r) ⊎ (y ≢ r) → ⊥
        fresh y z l a b s (inl t) = let v : k ≡ z = sym here ∙ ap (cell (store w₁ m 15 r k) m 15) (sym t) ∙ s in omega (arith, b, v)
        fresh y z l a b s (inr t) = P.marked.fresh y z l a b (sym (else y l t) ∙ s)

-- ---- the loop

-- no mark is k or lower
pub record MarksPre (G : Graph) (m n k : ℕ) (w : List ℕ) : Type 0 where
  pub at : AtLevel G m n k w
  pub fresh : (r x : ℕ) → r < m → 0 < x → x < suc k → cell w m 15 r ≢ x

abbrev pub MarksAsks : ℕ → ℕ → List ℕ → Type 0
MarksAsks m k w = (G : Graph) × (n : ℕ) × MarksPre G m n k w

pub record MarksGives (m k e : ℕ) (w w' : List ℕ) : Type 0 where
  pub steady : Steady marking m w w'
  pub state : (G : Graph) (n : ℕ) → MarksPre G m n k w → MarkedTo G m k e w'

pub marks_none : {m k : ℕ} {w : List ℕ} → MarksGives m k 0 w w
marks_none {m} {k} {w} = record {
  steady = steady_none marking m w;
  state = λ G n P. record {
    sound = λ r l q. absurd (P.fresh r k l (omega (arith, P.at.level)) (omega arith) q);
    complete = λ i l q. absurd (omega arith);
    fresh = λ r x l a b q. P.fresh r x l a (omega arith) q;
  };
}

pub marks_one : {G : Graph} {m n k e : ℕ} {w w' : List ℕ} → MarksPre G m n k w → MarksGives m k e w w' → e < m → MarkPre G m n e k w'
marks_one {G} {m} {n} P S l = record { at = at_steady refl refl S.steady P.at; marked = S.state G n P; e_in = l }

pub marks_more : {m k e : ℕ} {w w' w'' : List ℕ} → MarksGives m k e w w' → e < m → MarkGives m e k w' w'' → MarksGives m k (e + 1) w w''
marks_more S l T = record { steady = steady_trans S.steady T.steady; state = λ G n P. T.state G n (marks_one P S l) }

pub marks_all : {m k e : ℕ} {w w' : List ℕ} → e ≡ m → MarksGives m k e w w' → MarksGives m k m w w'
marks_all {m} {k} {e} {w} {w'} q S = subst (λ (z : ℕ). MarksGives m k z w w') q S

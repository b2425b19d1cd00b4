-- The groups of one level put together: `group`. Assumes nothing.
use Rattle.std.specs.Prelude.{◌≡◌, refl, ◌⊎◌, ◌≢◌, false, ◌||◌, List, ℕ, suc, ◌≤◌, ◌<◌, eqb}
use Rattle.std.proofs.Common.{sym, ◌∙◌, subst, inl, inr, le_refl, arith}
use Rattle.truss.specs.Limits.{no_group}
use Rattle.truss.specs.Graph.{Graph}
use Rattle.truss.specs.Group.{least_link}
use Rattle.laws.proofs.Lists.{or_left_false, or_right_false}
use Rattle.laws.proofs.Groups.{size, strength_at}
use Rattle.laws.proofs.Stored.{group_count, stored, few_groups}
use Rattle.laws.proofs.Sides.{InOrder}
use Rattle.laws.proofs.GroupPlaces.{Counted, Above, Beneath, stronger_than, lower_than, weaker_than, not_lower, counted-all, ParentSo, parent_weaker, own_of}
use Rattle.columns.specs.Columns.{cell}
use Rattle.laws.proofs.Numbers.{same_or_not, less_or_not}
use Rattle.unions.specs.Space.{Columns, Frame, grouping, Steady, steady_trans, steady_wide, steady_frame}
use Rattle.groups.specs.Marking.{AtLevel, at_steady, marked_frame, marking, naming, adopting, MarksPre, MarksGives}
use Rattle.groups.specs.Numbering.{numbering, Numbered, NumbersPre, NumbersGives, numbers_at}
use Rattle.groups.specs.Naming.{Ready, ready_steady, Owned, NamesPre, NamesGives, Adopted, AdoptsPre, AdoptsGives}

-- ---- the columns of a level

six : (c : ℕ) → grouping c ≡ false → eqb c 6 ≡ false
six c h = or_left_false (eqb c 6) (eqb c 8 || (eqb c 11 || (eqb c 12 || (eqb c 13 || (eqb c 14 || eqb c 15))))) h

after6 : (c : ℕ) → grouping c ≡ false → (eqb c 8 || (eqb c 11 || (eqb c 12 || (eqb c 13 || (eqb c 14 || eqb c 15))))) ≡ false
after6 c h = or_right_false (eqb c 6) (eqb c 8 || (eqb c 11 || (eqb c 12 || (eqb c 13 || (eqb c 14 || eqb c 15))))) h

after8 : (c : ℕ) → grouping c ≡ false → (eqb c 11 || (eqb c 12 || (eqb c 13 || (eqb c 14 || eqb c 15)))) ≡ false
after8 c h = or_right_false (eqb c 8) (eqb c 11 || (eqb c 12 || (eqb c 13 || (eqb c 14 || eqb c 15)))) (after6 c h)

after11 : (c : ℕ) → grouping c ≡ false → (eqb c 12 || (eqb c 13 || (eqb c 14 || eqb c 15))) ≡ false
after11 c h = or_right_false (eqb c 11) (eqb c 12 || (eqb c 13 || (eqb c 14 || eqb c 15))) (after8 c h)

after12 : (c : ℕ) → grouping c ≡ false → (eqb c 13 || (eqb c 14 || eqb c 15)) ≡ false
after12 c h = or_right_false (eqb c 12) (eqb c 13 || (eqb c 14 || eqb c 15)) (after11 c h)

after13 : (c : ℕ) → grouping c ≡ false → (eqb c 14 || eqb c 15) ≡ false
after13 c h = or_right_false (eqb c 13) (eqb c 14 || eqb c 15) (after12 c h)

marking_in : (c : ℕ) → grouping c ≡ false → marking c ≡ false
marking_in c h = rw (six c h, or_right_false (eqb c 14) (eqb c 15) (after13 c h))

naming_in : (c : ℕ) → grouping c ≡ false → naming c ≡ false
naming_in c h = rw (six c h, or_left_false (eqb c 8) (eqb c 11 || (eqb c 12 || (eqb c 13 || (eqb c 14 || eqb c 15)))) (after6 c h))

adopting_in : (c : ℕ) → grouping c ≡ false → adopting c ≡ false
adopting_in c h = rw (six c h, or_left_false (eqb c 12) (eqb c 13 || (eqb c 14 || eqb c 15)) (after11 c h))

numbering_in : (c : ℕ) → grouping c ≡ false → numbering c ≡ false
numbering_in c h =
    rw (
      or_left_false (eqb c 11) (eqb c 12 || (eqb c 13 || (eqb c 14 || eqb c 15))) (after8 c h),
      or_left_false (eqb c 12) (eqb c 13 || (eqb c 14 || eqb c 15)) (after11 c h),
      or_left_false (eqb c 13) (eqb c 14 || eqb c 15) (after12 c h),
      or_left_false (eqb c 14) (eqb c 15) (after13 c h),
    )

-- ---- the groups of strength K and more

pub record GroupsTo (G : Graph) (o : InOrder G) (fits : size G ≤ no_group) (m K c : ℕ) (w : List ℕ) : Type 0 where
  pub spot : ℕ
  pub counted : Counted G o K spot c
  pub light : (g : ℕ) → g < group_count G → Beneath G o K spot (stored G g) → (stored G g).strength < K
  pub strengths : (g : ℕ) → g < c → cell w m 11 g ≡ (stored G g).strength
  pub leasts : (g : ℕ) → g < c → cell w m 13 g ≡ least_link (stored G g)
  pub parents_so : (g : ℕ) → g < c → ParentSo G o fits K g (cell w m 12 g)
  pub owns : (i : ℕ) → i < m → K ≤ strength_at G i → cell w m 8 i ≡ own_of G o fits i
  pub fresh : (r x : ℕ) → r < m → 0 < x → x < K → cell w m 15 r ≢ x

pub groups_frame : {t : Columns} {G : Graph} {o : InOrder G} {fits : size G ≤ no_group} {m K c : ℕ} {w w' : List ℕ} → t 8 ≡ false → t 11 ≡ false → t 12 ≡ false → t 13 ≡ false → t 15 ≡ false
    → size G ≡ m → Frame t m w w' → GroupsTo G o fits m K c w → GroupsTo G o fits m K c w'
groups_frame {t} {G} {o} {fits} {m} {K} {c} {w} {w'} a b d e h sm f S = record {
  spot = S.spot;
  counted = S.counted;
  light = S.light;
  strengths = λ g l. f.same 11 b g (below g l) ∙ S.strengths g l;
  leasts = λ g l. f.same 13 e g (below g l) ∙ S.leasts g l;
  parents_so = λ g l. subst (ParentSo G o fits K g) (sym (f.same 12 d g (below g l))) (S.parents_so g l);
  owns = λ i l s. f.same 8 a i l ∙ S.owns i l s;
  fresh = λ r x l p q s. S.fresh r x l p q (sym (f.same 15 h r l) ∙ s);
}
  where
    below : (g : ℕ) → g < c → g < m
    below g l = omega (arith, l, S.counted.within, few_groups G o.proper, sm)

-- ---- one level

pub record GroupPre (G : Graph) (o : InOrder G) (fits : size G ≤ no_group) (m n k c : ℕ) (w : List ℕ) : Type 0 where
  pub at : AtLevel G m n k w
  pub numbered : Numbered G o fits m k 0 c w
  pub owned : Owned G o fits m k 0 w
  pub fresh : (r x : ℕ) → r < m → 0 < x → x < suc k → cell w m 15 r ≢ x

abbrev pub GroupAsks : ℕ → ℕ → ℕ → List ℕ → Type 0
GroupAsks m k c w = (G : Graph) × (n : ℕ) × (o : InOrder G) × (fits : size G ≤ no_group) × GroupPre G o fits m n k c w

pub record GroupGives (m k c c' : ℕ) (w w' : List ℕ) : Type 0 where
  pub steady : Steady grouping m w w'
  pub state : (G : Graph) (n : ℕ) (o : InOrder G) (fits : size G ≤ no_group) → GroupPre G o fits m n k c w → GroupsTo G o fits m k c' w'

pub group_marks : {G : Graph} {o : InOrder G} {fits : size G ≤ no_group} {m n k c : ℕ} {w : List ℕ} → GroupPre G o fits m n k c w → MarksPre G m n k w
group_marks P = record { at = P.at; fresh = P.fresh }

module _ {m k c : ℕ} {w w₁ : List ℕ} (A : MarksGives m k m w w₁) where
  module _ {G : Graph} {n : ℕ} {o : InOrder G} {fits : size G ≤ no_group} (P : GroupPre G o fits m n k c w) where
    pub group_in_lem : c ≤ m
    group_in_lem = omega (arith, P.numbered.counted.within, few_groups G o.proper, P.at.given.count)

    pub group_numbers : NumbersPre G o fits m n k c w₁
    group_numbers = record {
      state = record {
        counted = P.numbered.counted;
        strengths = λ g l. A.steady.frame.same 11 refl g (omega (arith, l, group_in_lem)) ∙ P.numbered.strengths g l;
        leasts = λ g l. A.steady.frame.same 13 refl g (omega (arith, l, group_in_lem)) ∙ P.numbered.leasts g l;
        parents_so = λ g l. subst (ParentSo G o fits (suc k) g) (sym (A.steady.frame.same 12 refl g (omega (arith, l, group_in_lem)))) (P.numbered.parents_so g l);
        numbers = λ y l q. absurd (omega arith);
      };
      at = at_steady refl refl A.steady P.at;
      marked = A.state G n (group_marks P);
    }

  module _ {c' : ℕ} {w₂ : List ℕ} (B : NumbersGives m k m c c' w₁ w₂) where
    steady₂ : Steady numbering m w₁ w₂
    steady₂ = steady_frame B.frame (B.frame.same 6 refl)

    module _ {G : Graph} {n : ℕ} {o : InOrder G} {fits : size G ≤ no_group} (P : GroupPre G o fits m n k c w) where
      numbered₂ : Numbered G o fits m k m c' w₂
      numbered₂ = B.state G n o fits (group_numbers P)

      ready₂ : Ready G o m n k w₂
      ready₂ = record {
        at = numbers_at (group_numbers P).at B.frame;
        marked = marked_frame refl B.frame (group_numbers P).at (le_refl m) (group_numbers P).marked;
        numbers = numbered₂.numbers;
      }

      same8 : (i : ℕ) → i < m → cell w₂ m 8 i ≡ cell w m 8 i
      same8 i l = B.frame.same 8 refl i l ∙ A.steady.frame.same 8 refl i l

      pub group_names : NamesPre G o fits m n k w₂
      group_names = record {
        state = record {
          above = λ i l s. same8 i l ∙ P.owned.above i l s;
          here = λ i l s. absurd (omega arith);
        };
        ready = ready₂;
      }

    module _ {w₃ : List ℕ} (C : NamesGives m k m w₂ w₃) where
      module _ {G : Graph} {n : ℕ} {o : InOrder G} {fits : size G ≤ no_group} (P : GroupPre G o fits m n k c w) where
        strong : (h : ℕ) → h < c → k < (stored G h).strength
        strong h l = go (P.numbered.counted.before h l)
          where
            go : Above G o k 0 (stored G h) → k < (stored G h).strength
            go (stronger_than a) = a
            go (lower_than a b) = absurd (omega arith)

        c'_in : c' ≤ m
        c'_in = omega (arith, (numbered₂ P).counted.within, few_groups G o.proper, P.at.given.count)

        pub group_adopts : AdoptsPre G o fits m n k c w₃
        group_adopts = record {
          state = record {
            counted = P.numbered.counted.within;
            strong = strong;
            leasts = λ h l. C.steady.frame.same 13 refl h (omega (arith, l, group_in_lem P)) ∙ (numbered₂ P).leasts h (omega (arith, l, B.more));
            decided = λ h l. absurd (omega arith);
            waits = λ h a l. subst (ParentSo G o fits (suc k) h) (sym (C.steady.frame.same 12 refl h (omega (arith, l, group_in_lem P)))) ((numbered₂ P).parents_so h (omega (arith, l, B.more)));
          };
          ready = ready_steady refl refl refl refl C.steady (ready₂ P);
          c_in = group_in_lem P;
        }

      module _ {w₄ : List ℕ} (D : AdoptsGives m k c c w₃ w₄) where
        steady : Steady grouping m w w₄
        steady =
            steady_trans (steady_wide marking_in A.steady)
            (steady_trans (steady_wide numbering_in steady₂) (steady_trans (steady_wide naming_in C.steady) (steady_wide adopting_in D.steady)))

        module _ {G : Graph} {n : ℕ} {o : InOrder G} {fits : size G ≤ no_group} (P : GroupPre G o fits m n k c w) where
          adopted : Adopted G o fits m k c c w₄
          adopted = D.state G n o fits (group_adopts P)

          owned : Owned G o fits m k m w₃
          owned = C.state G n o fits (group_names P)

          below : (h : ℕ) → h < c' → h < m
          below h l = omega (arith, l, c'_in P)

          -- a new group has strength k
          weak : (h : ℕ) → c ≤ h → h < c' → (stored G h).strength ≤ k
          weak h a l = go (P.numbered.counted.after h a (omega (arith, l, (numbered₂ P).counted.within)))
            where
              go : Beneath G o k 0 (stored G h) → (stored G h).strength ≤ k
              go (weaker_than x) = omega arith
              go (not_lower x y) = omega arith

          parent_of : (h : ℕ) → h < c' → (h < c) ⊎ (c ≤ h) → ParentSo G o fits k h (cell w₄ m 12 h)
          parent_of h l (inl a) = adopted.decided h a
          parent_of h l (inr a) =
              subst (ParentSo G o fits k h) (sym (D.others h (below h l) a ∙ C.steady.frame.same 12 refl h (below h l)))
              (parent_weaker G o fits (omega (arith, l, (numbered₂ P).counted.within)) (omega arith) (λ z lz x y. absurd (omega (arith, x, y, weak h a l))) ((numbered₂ P).parents_so h l))

          own_of_lem : (i : ℕ) → i < m → k ≤ strength_at G i → (strength_at G i ≡ k) ⊎ (strength_at G i ≢ k) → cell w₄ m 8 i ≡ own_of G o fits i
          own_of_lem i l s (inl t) = D.steady.frame.same 8 refl i l ∙ owned.here i l t
          own_of_lem i l s (inr t) = D.steady.frame.same 8 refl i l ∙ owned.above i l (omega (arith, s, t))

          done : GroupsTo G o fits m k c' w₄
          done = record {
            spot = m;
            counted = (numbered₂ P).counted;
            light = λ g l b. counted-all G o (subst (λ (z : ℕ). Counted G o k z c') (sym P.at.given.count) (numbered₂ P).counted) g l (subst (λ (z : ℕ). Beneath G o k z (stored G g)) (sym P.at.given.count) b);
            strengths = λ g l. D.steady.frame.same 11 refl g (below g l) ∙ C.steady.frame.same 11 refl g (below g l) ∙ (numbered₂ P).strengths g l;
            leasts = λ g l. D.steady.frame.same 13 refl g (below g l) ∙ C.steady.frame.same 13 refl g (below g l) ∙ (numbered₂ P).leasts g l;
            parents_so = λ g l. parent_of g l (less_or_not g c);
            owns = λ i l s. own_of_lem i l s (same_or_not (strength_at G i) k);
            fresh = λ r x l p q s. (ready₂ P).marked.fresh r x l p q (sym (D.steady.frame.same 15 refl r l ∙ C.steady.frame.same 15 refl r l) ∙ s);
          }

        pub group_gives : GroupGives m k c c' w w₄
        group_gives = record { steady = steady; state = λ G n o fits P. done P }

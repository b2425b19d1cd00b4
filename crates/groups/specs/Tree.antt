-- Forest and groups by falling levels: `levels`, `work`. Assumes nothing.
use Rattle.std.specs.Prelude.{◌≡◌, refl, ◌⊎◌, List, ℕ, suc, ◌+◌, ◌-◌, ◌≤◌, ◌<◌, length}
use Rattle.std.proofs.Common.{sym, ◌∙◌, subst, inl, inr, le_refl, arith}
use Rattle.truss.specs.Limits.{min_level, no_group}
use Rattle.truss.specs.Graph.{Graph, link_at}
use Rattle.truss.specs.Forest.{forest}
use Rattle.truss.specs.Group.{least_link}
use Rattle.laws.proofs.Peeling.{strength_at_most}
use Rattle.laws.proofs.Groups.{size, strength_at}
use Rattle.laws.proofs.Stored.{group_count, stored}
use Rattle.laws.proofs.Sides.{InOrder}
use Rattle.laws.proofs.Tree.{own_strong}
use Rattle.laws.proofs.Kruskal.{spot}
use Rattle.laws.proofs.GroupPlaces.{stored-marked, stored_most, stored_level, counted-first, counted_lower, counted_end, parent_weaker, parent_end, parent_of, own_of}
use Rattle.columns.specs.Columns.{cell}
use Rattle.laws.proofs.Numbers.{less_or_not}
use Rattle.unions.specs.State.{Given, Growth, taken, taken_frame, growth_steady}
use Rattle.forest.specs.Rows.{Rows, RowsPre, RowsGives}
use Rattle.forest.specs.Level.{Between, Top, LevelPre, LevelGives, Prepared, between_first, between_level, level_between, between_labels, between_all, between_strength, between_end}
use Rattle.groups.specs.Marking.{AtLevel}
use Rattle.groups.specs.Level.{GroupsTo, groups_frame, GroupPre, GroupGives}

-- between two levels: the joins and the groups of weight and strength K and more are there; k is the next weight
pub record TreeAt (G : Graph) (o : InOrder G) (fits : size G ≤ no_group) (m n k j c : ℕ) (w : List ℕ) : Type 0 where
  pub K : ℕ
  pub between : Between G m n K j w
  pub groups_to : GroupsTo G o fits m K c w
  pub top : Top m m k w
  pub less : k < K
  pub above : min_level < K
  pub most : K ≤ 65536

-- ---- the start

groups-first : {G : Graph} {o : InOrder G} {fits : size G ≤ no_group} {m n : ℕ} {w w' : List ℕ} → Given G m n w → Prepared m m w w' → GroupsTo G o fits m 65536 0 w'
groups-first {G} {o} {fits} {m} {n} {w} {w'} d P = record {
  spot = 0;
  counted = counted-first G o 65536 (omega (arith, d.accounts, d.small));
  light = λ g l b. omega (arith, stored_most G o g l, d.accounts, d.small);
  strengths = λ g l. absurd (omega arith);
  leasts = λ g l. absurd (omega arith);
  parents_so = λ g l. absurd (omega arith);
  owns = λ i l s. absurd (omega (arith, s, strength_at_most G (link_at G i), d.accounts, d.small));
  fresh = λ r x l p q s. omega (arith, p, s, P.no_marks r l);
}

pub record LevelsPre (G : Graph) (o : InOrder G) (fits : size G ≤ no_group) (m n : ℕ) (w row mark : List ℕ) : Type 0 where
  pub between : Between G m n 65536 0 w
  pub groups_to : GroupsTo G o fits m 65536 0 w
  pub rows : Rows G m n row
  pub wide : G.n ≤ length mark

abbrev pub LevelsAsks : ℕ → ℕ → List ℕ → List ℕ → List ℕ → Type 0
LevelsAsks m n w row mark = (G : Graph) × (o : InOrder G) × (fits : size G ≤ no_group) × LevelsPre G o fits m n w row mark

-- the end
pub record TreeDone (G : Graph) (o : InOrder G) (fits : size G ≤ no_group) (m n j c : ℕ) (w : List ℕ) : Type 0 where
  pub given : Given G m n w
  pub within : j ≤ m
  pub forest_is : taken w m j ≡ forest G
  pub count : c ≡ group_count G
  pub strengths : (g : ℕ) → g < c → cell w m 11 g ≡ (stored G g).strength
  pub leasts : (g : ℕ) → g < c → cell w m 13 g ≡ least_link (stored G g)
  pub parents_are : (g : ℕ) → g < c → cell w m 12 g ≡ parent_of G o fits g
  pub owns : (i : ℕ) → i < m → cell w m 8 i ≡ own_of G o fits i

abbrev pub LevelsGives : ℕ → ℕ → ℕ → ℕ → List ℕ → List ℕ → List ℕ → List ℕ → Type 0
LevelsGives m n j c w w' row mark = (G : Graph) (o : InOrder G) (fits : size G ≤ no_group) → LevelsPre G o fits m n w row mark → TreeDone G o fits m n j c w'

pub levels-first : {G : Graph} {o : InOrder G} {fits : size G ≤ no_group} {m n k : ℕ} {w row mark : List ℕ} → LevelsPre G o fits m n w row mark → Top m m k w → TreeAt G o fits m n k 0 0 w
levels-first {G} {o} {fits} {m} {n} {k} {w} P T = record {
  K = 65536;
  between = P.between;
  groups_to = P.groups_to;
  top = T;
  less = omega (arith, T.least 65535 (λ y l. let r = (P.between.next y l).less in omega arith));
  above = omega arith;
  most = le_refl 65536;
}

-- ---- one level

module _ {G : Graph} {o : InOrder G} {fits : size G ≤ no_group} {m n k j c : ℕ} {w : List ℕ} (S : TreeAt G o fits m n k j c w) where
  pub tree_given : Given G m n w
  tree_given = S.between.growth.given

  -- level x is next: no triangle has a weight between x and K
  module _ {x : ℕ} (low : k ≤ x) (level : min_level ≤ x) (less : x < S.K) where
    -- no strength lies between x and K: from 3 up it is the weight of a join
    gap : (i : ℕ) → i < m → strength_at G i < S.K → strength_at G i ≤ x
    gap i l b = go (less_or_not (strength_at G i) 3)
      where
        go : (strength_at G i < 3) ⊎ (3 ≤ strength_at G i) → strength_at G i ≤ x
        go (inl a) = omega (arith, a, level)
        go (inr a) = omega (arith, low, between_strength S.between S.top i l a b)

    group_gap : (g : ℕ) → g < group_count G → (stored G g).strength < S.K → (stored G g).strength ≤ x
    group_gap g l b =
        let M = stored-marked G o g l in
        let e = M.strength_is in
        omega (arith, e, gap M.link (omega (arith, M.link_in, tree_given.count)) (omega (arith, b, e)))

    next-groups : {w₁ : List ℕ} → AtLevel G m n x w₁ → GroupsTo G o fits m S.K c w₁ → GroupPre G o fits m n x c w₁
    next-groups L A = record {
      at = L;
      numbered = record {
        counted = counted_lower G o A.counted A.light less group_gap;
        strengths = A.strengths;
        leasts = A.leasts;
        parents_so = λ g l. parent_weaker G o fits (omega (arith, l, A.counted.within)) less (λ h lh a b. strong h lh a (less_or_not (stored G h).strength S.K)) (A.parents_so g l);
        numbers = λ y l q. absurd (omega arith);
      };
      owned = record { above = λ i l s. A.owns i l (high i l s (less_or_not (strength_at G i) S.K)); here = λ i l s. absurd (omega arith) };
      fresh = λ r y l p q. A.fresh r y l p (omega (arith, q, less));
    }
      where
        strong : (h : ℕ) → h < group_count G → suc x ≤ (stored G h).strength → ((stored G h).strength < S.K) ⊎ (S.K ≤ (stored G h).strength) → S.K ≤ (stored G h).strength
        strong h lh a (inl b) = absurd (omega (arith, a, group_gap h lh b))
        strong h lh a (inr b) = b

        high : (i : ℕ) → i < m → x < strength_at G i → (strength_at G i < S.K) ⊎ (S.K ≤ strength_at G i) → S.K ≤ strength_at G i
        high i l s (inl b) = absurd (omega (arith, s, gap i l b))
        high i l s (inr b) = b

  pub tree_level : {row mark : List ℕ} → min_level < k → Rows G m n row → G.n ≤ length mark → LevelPre G m n k j w row mark
  tree_level three R wide = record {
    start = between_level S.between S.top S.less;
    rows = R;
    wide = wide;
    light = omega (arith, S.less, S.most);
    some = omega arith;
  }

  module _ (three : min_level < k) {j₁ : ℕ} {w₁ row mark : List ℕ} (R : Rows G m n row) (wide : G.n ≤ length mark) (L : LevelGives m n k j j₁ w w₁ row mark) where
    between₁ : Between G m n k j₁ w₁
    between₁ = level_between (L.state G (tree_level three R wide))

    pub tree_group : GroupPre G o fits m n k c w₁
    tree_group =
        next-groups (le_refl k) (omega (arith, three)) S.less
        (record { given = between₁.growth.given; down = between₁.growth.down; keeps = between_labels between₁; level = omega (arith, three); light = omega (arith, S.less, S.most) })
        (groups_frame refl refl refl refl refl tree_given.count L.frame S.groups_to)

    module _ {c₂ k₂ : ℕ} {w₂ : List ℕ} (D : GroupGives m k c c₂ w₁ w₂) (T : Top m m k₂ w₂) where
      between₂ : Between G m n k j₁ w₂
      between₂ = record {
        at = between₁.at;
        growth = growth_steady refl refl refl refl D.steady between₁.growth;
        light = between₁.light;
        next = λ y l. subst (Rattle.forest.specs.Visit.NextFor G k y) (sym (D.steady.frame.same 7 refl y l)) (between₁.next y l);
      }

      -- the next weight is lower
      pub tree_less : k₂ < k
      tree_less = omega (arith, T.least (k - 1) (λ y l. let r = (between₂.next y l).less in omega arith), three)

      pub tree_next : TreeAt G o fits m n k₂ j₁ c₂ w₂
      tree_next = record {
        K = k;
        between = between₂;
        groups_to = D.state G n o fits tree_group;
        top = T;
        less = tree_less;
        above = three;
        most = omega (arith, S.less, S.most);
      }

  -- ---- the end: no weight is left, and the links of strength 2 are groups of their own

  module _ (low : k ≤ min_level) where
    pub tree_lone : GroupPre G o fits m n min_level c w
    tree_lone =
        next-groups low (le_refl min_level) S.above
        (record { given = tree_given; down = S.between.growth.down; keeps = between_all S.between S.top (omega (arith, low)) S.above; level = le_refl min_level; light = omega arith })
        S.groups_to

    pub tree_end : {c₂ : ℕ} {w₂ : List ℕ} → GroupGives m min_level c c₂ w w₂ → TreeDone G o fits m n j c₂ w₂
    tree_end {c₂} {w₂} D = record {
      given = grown.given;
      within = grown.within;
      forest_is = taken_frame refl refl D.steady.frame grown.within ∙ between_end S.between S.top (omega (arith, low));
      count = counted_end G o A.counted (λ g l b. omega (arith, A.light g l b, stored_level G o g l));
      strengths = A.strengths;
      leasts = A.leasts;
      parents_are = λ g l. sym (parent_end G o fits (omega (arith, l, A.counted.within)) (stored_level G o) (A.parents_so g l));
      owns = λ i l. A.owns i l (own_strong G o.proper fits i (omega (arith, l, tree_given.count)));
    }
      where
        grown : Growth G m n (spot S.K S.between.at 0) j w₂
        grown = growth_steady refl refl refl refl D.steady S.between.growth

        A : GroupsTo G o fits m min_level c₂ w₂
        A = D.state G n o fits tree_lone

-- ---- with account-sized memory lent

pub record WorkPre (G : Graph) (m n : ℕ) (w row mark : List ℕ) : Type 0 where
  pub given : Given G m n w
  pub long : n + 1 ≤ length row
  pub wide : n ≤ length mark

abbrev pub WorkAsks : ℕ → ℕ → List ℕ → List ℕ → List ℕ → Type 0
WorkAsks m n w row mark = (G : Graph) × WorkPre G m n w row mark

abbrev pub WorkGives : ℕ → ℕ → ℕ → ℕ → List ℕ → List ℕ → List ℕ → List ℕ → Type 0
WorkGives m n j c w w' row mark = (G : Graph) (o : InOrder G) (fits : size G ≤ no_group) → WorkPre G m n w row mark → TreeDone G o fits m n j c w'

pub work_rows : {G : Graph} {m n : ℕ} {w row mark : List ℕ} → WorkPre G m n w row mark → RowsPre G m n w row
work_rows P = record { given = P.given; long = P.long }

pub given_fits : {G : Graph} {m n : ℕ} {w : List ℕ} → Given G m n w → size G ≤ no_group
given_fits d = omega (arith, d.count, d.few)

pub work_levels : {G : Graph} {o : InOrder G} {fits : size G ≤ no_group} {m n : ℕ} {w w₁ row row₁ mark : List ℕ} → WorkPre G m n w row mark → RowsGives m n w row row₁ → Prepared m m w w₁
    → LevelsPre G o fits m n w₁ row₁ mark
work_levels {G} {o} {fits} {m} {n} P R Q = record {
  between = between_first P.given Q;
  groups_to = groups-first P.given Q;
  rows = R G (work_rows P);
  wide = omega (arith, P.wide, P.given.accounts);
}

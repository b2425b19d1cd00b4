-- The whole: scratch columns and the unused ends of columns at 0, and what `tree` gives. Assumes nothing.
use Rattle.std.specs.Prelude.{◌≡◌, refl, ◌⊎◌, ◌≢◌, List, ℕ, ◌+◌, ◌*◌, ◌≤◌, ◌<◌, length, get_or}
use Rattle.std.proofs.Common.{sym, ap, ◌∙◌, inl, inr, arith}
use Rattle.truss.specs.Limits.{max_accounts, no_group}
use Rattle.truss.specs.Graph.{Graph}
use Rattle.truss.specs.Forest.{Join, join, forest}
use Rattle.truss.specs.Group.{groups}
use Rattle.truss.specs.Index.{GroupRow, index, group_row}
use Rattle.truss.specs.Stored.{row_at, group_row_at}
use Rattle.laws.proofs.Groups.{size}
use Rattle.laws.proofs.Stored.{stored, few_groups}
use Rattle.laws.proofs.Sets.{map_range_at}
use Rattle.laws.proofs.Tree.{group_row_at_lem}
use Rattle.laws.proofs.Sides.{InOrder}
use Rattle.columns.specs.Columns.{cell}
use Rattle.laws.proofs.Numbers.{same_or_not}
use Rattle.columns.specs.Wiping.{Wiped, Cleaned}
use Rattle.unions.specs.State.{Given, taken, taken-length, join_at}
use Rattle.groups.specs.Tree.{TreeDone, WorkPre, given_fits}

-- ---- the unused ends of the columns of joins (9, 10) and of groups (11, 12, 13) at 0

pub record Ends (m j c : ℕ) (w w' : List ℕ) : Type 0 where
  pub length_is : length w' ≡ length w
  pub joins_end : (d y : ℕ) → 9 ≤ d → d < 11 → j ≤ y → y < m → cell w' m d y ≡ 0
  pub joins_kept : (d y : ℕ) → 9 ≤ d → d < 11 → y < j → y < m → cell w' m d y ≡ cell w m d y
  pub groups_end : (d y : ℕ) → 11 ≤ d → d < 14 → c ≤ y → y < m → cell w' m d y ≡ 0
  pub groups_kept : (d y : ℕ) → 11 ≤ d → d < 14 → y < c → y < m → cell w' m d y ≡ cell w m d y
  pub below : (d y : ℕ) → d < 9 → y < m → cell w' m d y ≡ cell w m d y
  pub above : (d y : ℕ) → 14 ≤ d → y < m → cell w' m d y ≡ cell w m d y

pub ends-done : {m j c : ℕ} {w w₁ w₂ w₃ w₄ w₅ : List ℕ} → Wiped m 9 j m w w₁ → Wiped m 10 j m w₁ w₂ → Wiped m 11 c m w₂ w₃ → Wiped m 12 c m w₃ w₄ → Wiped m 13 c m w₄ w₅ → Ends m j c w w₅
ends-done {m} {j} {c} {w} {w₁} {w₂} {w₃} {w₄} {w₅} A B C D E = record {
  length_is = E.length_is ∙ D.length_is ∙ C.length_is ∙ B.length_is ∙ A.length_is;
  joins_end = λ d y a b l k. je d y a b l k (same_or_not d 9);
  joins_kept = λ d y a b l k. jk d y a b l k (same_or_not d 9);
  groups_end = λ d y a b l k. ge d y a b l k (same_or_not d 11) (same_or_not d 12);
  groups_kept = λ d y a b l k. gk d y a b l k (same_or_not d 11) (same_or_not d 12);
  below = λ d y l k. E.others d y (omega arith) k ∙ D.others d y (omega arith) k ∙ C.others d y (omega arith) k ∙ B.others d y (omega arith) k ∙ A.others d y (omega arith) k;
  above = λ d y l k. E.others d y (omega arith) k ∙ D.others d y (omega arith) k ∙ C.others d y (omega arith) k ∙ B.others d y (omega arith) k ∙ A.others d y (omega arith) k;
}
  where
    late : (d y : ℕ) → d < 11 → y < m → cell w₅ m d y ≡ cell w₂ m d y
    late d y l k = E.others d y (omega arith) k ∙ D.others d y (omega arith) k ∙ C.others d y (omega arith) k

    early : (d y : ℕ) → 11 ≤ d → y < m → cell w₂ m d y ≡ cell w m d y
    early d y l k = B.others d y (omega arith) k ∙ A.others d y (omega arith) k

    je : (d y : ℕ) → 9 ≤ d → d < 11 → j ≤ y → y < m → (d ≡ 9) ⊎ (d ≢ 9) → cell w₅ m d y ≡ 0
    je d y a b l k (inl q) = late d y b k ∙ (rw q (B.others 9 y (omega arith) k ∙ A.zero y l k))
    je d y a b l k (inr q) = let r : d ≡ 10 = omega (arith, a, b, q) in late d y b k ∙ (rw r (B.zero y l k))

    jk : (d y : ℕ) → 9 ≤ d → d < 11 → y < j → y < m → (d ≡ 9) ⊎ (d ≢ 9) → cell w₅ m d y ≡ cell w m d y
    jk d y a b l k (inl q) = late d y b k ∙ (rw q (B.others 9 y (omega arith) k ∙ A.before y l))
    jk d y a b l k (inr q) = let r : d ≡ 10 = omega (arith, a, b, q) in late d y b k ∙ (rw r (B.before y l ∙ A.others 10 y (omega arith) k))

    ge : (d y : ℕ) → 11 ≤ d → d < 14 → c ≤ y → y < m → (d ≡ 11) ⊎ (d ≢ 11) → (d ≡ 12) ⊎ (d ≢ 12) → cell w₅ m d y ≡ 0
    ge d y a b l k (inl q) t = rw q (E.others 11 y (omega arith) k ∙ D.others 11 y (omega arith) k ∙ C.zero y l k)
    ge d y a b l k (inr q) (inl t) = rw t (E.others 12 y (omega arith) k ∙ D.zero y l k)
    ge d y a b l k (inr q) (inr t) = let r : d ≡ 13 = omega (arith, a, b, q, t) in rw r (E.zero y l k)

    gk : (d y : ℕ) → 11 ≤ d → d < 14 → y < c → y < m → (d ≡ 11) ⊎ (d ≢ 11) → (d ≡ 12) ⊎ (d ≢ 12) → cell w₅ m d y ≡ cell w m d y
    gk d y a b l k (inl q) t = rw q (E.others 11 y (omega arith) k ∙ D.others 11 y (omega arith) k ∙ C.before y l ∙ early 11 y (omega arith) k)
    gk d y a b l k (inr q) (inl t) = rw t (E.others 12 y (omega arith) k ∙ D.before y l ∙ C.others 12 y (omega arith) k ∙ early 12 y (omega arith) k)
    gk d y a b l k (inr q) (inr t) =
        let r : d ≡ 13 = omega (arith, a, b, q, t) in
        rw r (E.before y l ∙ D.others 13 y (omega arith) k ∙ C.others 13 y (omega arith) k ∙ early 13 y (omega arith) k)

-- ---- all together

pub record Tidied (m j c : ℕ) (w w' : List ℕ) : Type 0 where
  pub length_is : length w' ≡ length w
  -- columns 0, 4 and 8
  pub kept : (d y : ℕ) → (d ≡ 0) ⊎ ((d ≡ 4) ⊎ (d ≡ 8)) → y < m → cell w' m d y ≡ cell w m d y
  pub joins_kept : (d y : ℕ) → 9 ≤ d → d < 11 → y < j → y < m → cell w' m d y ≡ cell w m d y
  pub joins_end : (d y : ℕ) → 9 ≤ d → d < 11 → j ≤ y → y < m → cell w' m d y ≡ 0
  pub groups_kept : (d y : ℕ) → 11 ≤ d → d < 14 → y < c → y < m → cell w' m d y ≡ cell w m d y
  pub groups_end : (d y : ℕ) → 11 ≤ d → d < 14 → c ≤ y → y < m → cell w' m d y ≡ 0
  pub low : (d y : ℕ) → 1 ≤ d → d < 4 → y < m → cell w' m d y ≡ 0
  pub middle : (d y : ℕ) → 5 ≤ d → d < 8 → y < m → cell w' m d y ≡ 0
  pub high : (d y : ℕ) → 14 ≤ d → d < 16 → y < m → cell w' m d y ≡ 0

pub tidied : {m j c : ℕ} {w w₁ w₂ w₃ w₄ : List ℕ} → Ends m j c w w₁ → Cleaned m 1 4 w₁ w₂ → Cleaned m 5 8 w₂ w₃ → Cleaned m 14 16 w₃ w₄ → Tidied m j c w w₄
tidied {m} {j} {c} {w} {w₁} {w₂} {w₃} {w₄} E A B C = record {
  length_is = C.length_is ∙ B.length_is ∙ A.length_is ∙ E.length_is;
  kept = λ d y h l. go d y h l;
  joins_kept = λ d y a b l k. late d y (omega arith) (omega arith) k ∙ E.joins_kept d y a b l k;
  joins_end = λ d y a b l k. late d y (omega arith) (omega arith) k ∙ E.joins_end d y a b l k;
  groups_kept = λ d y a b l k. late d y (omega arith) (omega arith) k ∙ E.groups_kept d y a b l k;
  groups_end = λ d y a b l k. late d y (omega arith) (omega arith) k ∙ E.groups_end d y a b l k;
  low = λ d y a b k. C.below d y (omega arith) k ∙ B.below d y (omega arith) k ∙ A.zero d y a b k;
  middle = λ d y a b k. C.below d y (omega arith) k ∙ B.zero d y a b k;
  high = λ d y a b k. C.zero d y a b k;
}
  where
    late : (d y : ℕ) → 8 ≤ d → d < 14 → y < m → cell w₄ m d y ≡ cell w₁ m d y
    late d y a b k = C.below d y b k ∙ B.above d y a k ∙ A.above d y (omega arith) k

    go : (d y : ℕ) → (d ≡ 0) ⊎ ((d ≡ 4) ⊎ (d ≡ 8)) → y < m → cell w₄ m d y ≡ cell w m d y
    go d y (inl q) l = C.below d y (omega arith) l ∙ B.below d y (omega arith) l ∙ A.below d y (omega arith) l ∙ E.below d y (omega arith) l
    go d y (inr (inl q)) l = C.below d y (omega arith) l ∙ B.below d y (omega arith) l ∙ A.above d y (omega arith) l ∙ E.below d y (omega arith) l
    go d y (inr (inr q)) l = late d y (omega arith) (omega arith) l ∙ E.below d y (omega arith) l

-- ---- what `tree` gives

-- the join number i of the forest
abbrev pub forest_join : Graph → ℕ → Join
forest_join G i = get_or (forest G) i (join 0 0 0)

pub record Tree (G : Graph) (m j c : ℕ) (w w' : List ℕ) : Type 0 where
  pub length_is : length w' ≡ length w
  pub keys : (i : ℕ) → i < m → cell w' m 0 i ≡ cell w m 0 i
  pub strengths : (i : ℕ) → i < m → cell w' m 4 i ≡ cell w m 4 i
  -- the forest, in columns 9 and 10
  pub joins : j ≡ length (forest G)
  pub joins_fit : j ≤ m
  pub join_ends : (i : ℕ) → i < j → cell w' m 9 i ≡ (forest_join G i).lower * 65536 + (forest_join G i).higher
  pub join_weights : (i : ℕ) → i < j → cell w' m 10 i ≡ (forest_join G i).weight
  -- the stored groups, in columns 11, 12 and 13: the rows of the index
  pub groups : c ≡ length (groups G)
  pub groups_fit : c ≤ m
  pub group_strengths : (g : ℕ) → g < c → cell w' m 11 g ≡ (group_row_at (index G) g).strength
  pub group_parents : (g : ℕ) → g < c → cell w' m 12 g ≡ (group_row_at (index G) g).parent
  pub group_leasts : (g : ℕ) → g < c → cell w' m 13 g ≡ (group_row_at (index G) g).least
  -- the own group of each link, in column 8
  pub own_groups : (i : ℕ) → i < m → cell w' m 8 i ≡ (row_at (index G) i).group
  -- all else is 0
  pub joins_end : (d i : ℕ) → 9 ≤ d → d < 11 → j ≤ i → i < m → cell w' m d i ≡ 0
  pub groups_end : (d g : ℕ) → 11 ≤ d → d < 14 → c ≤ g → g < m → cell w' m d g ≡ 0
  pub low : (d i : ℕ) → 1 ≤ d → d < 4 → i < m → cell w' m d i ≡ 0
  pub middle : (d i : ℕ) → 5 ≤ d → d < 8 → i < m → cell w' m d i ≡ 0
  pub high : (d i : ℕ) → 14 ≤ d → d < 16 → i < m → cell w' m d i ≡ 0

abbrev pub TreeAsks : ℕ → ℕ → List ℕ → Type 0
TreeAsks m n w = (G : Graph) × Given G m n w

abbrev pub TreeGives : ℕ → ℕ → ℕ → ℕ → List ℕ → List ℕ → Type 0
TreeGives m n j c w w' = (G : Graph) → Given G m n w → Tree G m j c w w'

taken_at : (w : List ℕ) (m j i : ℕ) → i < j → get_or (taken w m j) i (join 0 0 0) ≡ join_at w m i
unfolding taken
taken_at w m j i l = map_range_at (join_at w m) (join 0 0 0) 0 j i l ∙ ap (join_at w m) (omega arith)

join-key : (w : List ℕ) (m i : ℕ) → cell w m 9 i ≡ (join_at w m i).lower * 65536 + (join_at w m i).higher
unfolding join_at
join-key w m i = omega arith

join-weight : (w : List ℕ) (m i : ℕ) → cell w m 10 i ≡ (join_at w m i).weight
unfolding join_at
join-weight w m i = refl

pub tree_all : {G : Graph} {m n j c : ℕ} {w w₁ w₂ : List ℕ} → (d : Given G m n w) → TreeDone G d.order (given_fits d) m n j c w₁ → Tidied m j c w₁ w₂ → Tree G m j c w w₂
unfolding group_row
tree_all {G} {m} {n} {j} {c} {w} {w₁} {w₂} d D T = record {
  length_is = T.length_is ∙ D.given.size_is ∙ sym d.size_is;
  keys = λ i l. T.kept 0 i (inl refl) l ∙ D.given.key i l ∙ sym (d.key i l);
  strengths = λ i l. T.kept 4 i (inr (inl refl)) l ∙ D.given.strengths i l ∙ sym (d.strengths i l);
  joins = count_joins;
  joins_fit = joins_fit;
  join_ends = λ i l. T.joins_kept 9 i (omega arith) (omega arith) l (omega (arith, l, joins_fit)) ∙ ends i l;
  join_weights = λ i l. T.joins_kept 10 i (omega arith) (omega arith) l (omega (arith, l, joins_fit)) ∙ weights i l;
  groups = D.count;
  groups_fit = groups_fit;
  group_strengths = λ g l. T.groups_kept 11 g (omega arith) (omega arith) l (below g l) ∙ D.strengths g l ∙ sym (ap (λ (r : GroupRow). r.strength) (row g l));
  group_parents = λ g l. T.groups_kept 12 g (omega arith) (omega arith) l (below g l) ∙ D.parents_are g l;
  group_leasts = λ g l. T.groups_kept 13 g (omega arith) (omega arith) l (below g l) ∙ D.leasts g l ∙ sym (ap (λ (r : GroupRow). r.least) (row g l));
  own_groups = λ i l. T.kept 8 i (inr (inr refl)) l ∙ D.owns i l;
  joins_end = T.joins_end;
  groups_end = T.groups_end;
  low = T.low;
  middle = T.middle;
  high = T.high;
}
  where
    count_joins : j ≡ length (forest G)
    count_joins = sym (taken-length w₁ m j) ∙ ap length D.forest_is

    joins_fit : j ≤ m
    joins_fit = D.within

    at : (i : ℕ) → i < j → forest_join G i ≡ join_at w₁ m i
    at i l = ap (λ (xs : List Join). get_or xs i (join 0 0 0)) (sym D.forest_is) ∙ taken_at w₁ m j i l

    ends : (i : ℕ) → i < j → cell w₁ m 9 i ≡ (forest_join G i).lower * 65536 + (forest_join G i).higher
    ends i l = join-key w₁ m i ∙ ap (λ (y : Join). y.lower * 65536 + y.higher) (sym (at i l))

    weights : (i : ℕ) → i < j → cell w₁ m 10 i ≡ (forest_join G i).weight
    weights i l = join-weight w₁ m i ∙ ap (λ (y : Join). y.weight) (sym (at i l))

    groups_fit : c ≤ m
    groups_fit = omega (arith, D.count, few_groups G d.order.proper, d.count)

    below : (g : ℕ) → g < c → g < m
    below g l = omega (arith, l, groups_fit)

    row : (g : ℕ) → g < c → group_row_at (index G) g ≡ group_row (groups G) (stored G g)
    row g l = group_row_at_lem G d.order.proper (given_fits d) g (omega (arith, l, D.count))

-- ---- the two parts put together

pub tree_work : {G : Graph} {m n : ℕ} {w row mark : List ℕ} → Given G m n w → length row ≡ max_accounts + 1 → length mark ≡ max_accounts + 1 → WorkPre G m n w row mark
tree_work d a b = record { given = d; long = omega (arith, a, d.small); wide = omega (arith, b, d.small) }

pub tree_fits : {G : Graph} {o : InOrder G} {fits : size G ≤ no_group} {m n j c : ℕ} {w : List ℕ} → TreeDone G o fits m n j c w → c ≤ m
tree_fits {G} {o} D = omega (arith, D.count, few_groups G o.proper, D.given.count)

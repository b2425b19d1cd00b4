-- The top of each stored group, the group at k with its links, and the group at k of each link: `top_of`, `find_tops`, `load_links`. Assumes nothing.
use Rattle.std.specs.Prelude.{◌≡◌, refl, ◌⊎◌, ◌≢◌, true, List, ℕ, ◌+◌, ◌*◌, ◌-◌, ◌≤◌, ◌<◌, eqb, length}
use Rattle.std.proofs.Common.{sym, ◌∙◌, subst, inl, inr, arith}
use Rattle.std.proofs.Math.Path.{ap}
use mathlib.Core.List.{Memᴰ as In}
use borrow.Author.Tests.{eq-eqb, eqb-true}
use Rattle.truss.specs.Limits.{min_level, no_group}
use Rattle.truss.specs.Graph.{Graph}
use Rattle.truss.specs.Index.{index}
use Rattle.truss.specs.Group.{least_link, group_at, group_of, groups}
use Rattle.truss.specs.Question.{is_group_at}
use Rattle.laws.proofs.Lists.{bool_same}
use Rattle.laws.proofs.Numbers.{same_or_not}
use Rattle.laws.proofs.Members.{first_in}
use Rattle.laws.proofs.Sets.{same_list_eq, eq_same_list}
use Rattle.laws.proofs.Groups.{size, strength_at, group_strong, group_in_lem}
use Rattle.laws.proofs.Stored.{group_count, stored, stored_at, stored-distinct}
use Rattle.laws.proofs.Tree.{parent_rises, own-strength, own_strong}
use Rattle.laws.proofs.Meaning.{stored-largest}
use Rattle.columns.specs.Columns.{cell, store, KEY, COLUMNS, entry_bound}
use Rattle.columns.specs.Laws.{length-store, kept_entry, kept_column}
use Rattle.columns.specs.Laws.{stored as put_there}
use Rattle.stored.specs.Places.{groups_place}
use Rattle.stored.specs.Rows.{graph_in, key_at, own_group, parent_of, IsIndex, GroupsAt, Sized, proper, fits_groups, few, few_links, own_same, own_below, sized_few}
use Rattle.stored.specs.Climb.{ClimbAsks, Climbed, climb_top, climb_weak, climbed_on, parent_in, group_of_weak, own_climbed}
use Rattle.pools.specs.Pools.{TOP}

-- of each link: its group at k
abbrev pub LINK : ℕ
LINK = 3

-- ---- the top of a group

-- r is the group at k with the links of group g, if that is not weaker than k
pub data TopIs (G : Graph) (k g r : ℕ) : Type 0 where
  weak : (stored G g).strength < k → r ≡ no_group → TopIs G k g r
  strong : k ≤ (stored G g).strength → Climbed G k g r → TopIs G k g r

-- column TOP has the tops of the groups from g on
abbrev pub Tops : Graph → ℕ → ℕ → ℕ → ℕ → List ℕ → Type 0
Tops G m k g count w = (h : ℕ) → g ≤ h → h < count → TopIs G k h (cell w m TOP h)

pub record TopsAsks (m k : ℕ) (w : List ℕ) : Type 0 where
  pub level : min_level ≤ k
  pub size_is : length w ≡ COLUMNS * m

pub record TopAsks (G : Graph) (m count k g : ℕ) (w : List ℕ) : Type 0 where
  pub asks : TopsAsks m k w
  pub in_range : g < count
  pub above : Tops G m k (g + 1) count w

module _ {b : List ℕ} {at m count k g : ℕ} {w : List ℕ} (X : Sized b at m count) (A : TopAsks (graph_in b) m count k g w) where
  abbrev G : Graph
  G = graph_in b

  I : IsIndex b
  I = X.groups_at_lem.is_index

  pub top_group : g < group_count G
  top_group = omega (arith, A.in_range, X.groups)

  pub top_weak : {s : ℕ} → s ≡ (stored G g).strength → s < k → TopIs G k g no_group
  top_weak q l = weak (omega (arith, q, l)) refl

  module _ {s : ℕ} (q : s ≡ (stored G g).strength) (l : k ≤ s) where
    strong_enough : k ≤ (stored G g).strength
    strong_enough = omega (arith, q, l)

    climb : ClimbAsks b at count k g
    climb = record { groups_at_lem = X.groups_at_lem; groups = X.groups; level = A.asks.level; in_range = A.in_range; strong = strong_enough }

    pub top_none : {p : ℕ} → p ≡ parent_of G g → p ≡ no_group → TopIs G k g g
    top_none e z = strong strong_enough (climb_top climb e z)

    pub top_below : {p t : ℕ} → p ≡ parent_of G g → t ≡ (stored G p).strength → t < k → TopIs G k g g
    top_below e r h = strong strong_enough (climb_weak climb e r h)

    pub top_parent : {p : ℕ} → p ≡ parent_of G g → p ≢ no_group → (p < group_count G) × (p < m)
    top_parent e n = let x = parent_in climb e n in (x, omega (arith, x, X.groups, (sized_few X).0))

    pub top_on : {p t r : ℕ} → p ≡ parent_of G g → p ≢ no_group → t ≡ (stored G p).strength → k ≤ t → r ≡ cell w m TOP p → TopIs G k g r
    top_on {p} {t} {r} e n et h q =
        let x = parent_in climb e n in
        let rises : g < parent_of G g = parent_rises G (proper I) (fits_groups I) g top_group (omega (arith, x, e)) in
        go (subst (TopIs G k p) (sym q) (A.above p (omega (arith, rises, e)) (omega (arith, x, X.groups))))
      where
        go : TopIs G k p r → TopIs G k g r
        go (weak f z) = absurd (omega (arith, f, et, h))
        go (strong f C) = strong strong_enough (climbed_on climb e n C)

-- it fits a cell
pub top_small : {b : List ℕ} {k g r : ℕ} → IsIndex b → TopIs (graph_in b) k g r → r < entry_bound
top_small I (weak f z) = omega (arith, z)
top_small I (strong f C) = omega (arith, C.in_range, few I, few_links I)

-- a group at k is its own top
module _ {b : List ℕ} (I : IsIndex b) {k g : ℕ} (level : min_level ≤ k) (lg : g < group_count (graph_in b)) where
  abbrev G₁ : Graph
  G₁ = graph_in b

  i : ℕ
  i = least_link (stored G₁ g)

  least_in : In i (stored G₁ g).members
  unfolding i
  least_in = let s = stored_at G₁ g lg in first_in (stored G₁ g).members (subst (In s.least) (sym s.members_eq) s.least_in)

  same : is_group_at G₁ k (stored G₁ g) ≡ true → group_at G₁ k i ≡ (stored G₁ g).members
  unfolding is_group_at i
  same t = same_list_eq (group_at G₁ k i) (stored G₁ g).members t

  at_level : is_group_at G₁ k (stored G₁ g) ≡ true → k ≤ (stored G₁ g).strength
  at_level t =
      let i_in : In i (group_at G₁ k i) = subst (In i) (sym (same t)) least_in in
      stored-largest G₁ (proper I) g lg k i level (group_in_lem G₁ k i i_in).1 (group_strong G₁ k i i_in) (sym (same t))

  pub top_level : {r : ℕ} → TopIs G₁ k g r → is_group_at G₁ k (stored G₁ g) ≡ eqb r g
  unfolding is_group_at i
  top_level {r} (weak f z) = bool_same _ _ (λ t. absurd (omega (arith, f, at_level t))) (λ t. absurd (omega (arith, eqb-true r g t, z, lg, few I, few_links I)))
  top_level {r} (strong f C) = bool_same _ _
      (λ t. eq-eqb r g (stored-distinct G₁ r g C.in_range lg (C.members i least_in ∙ same t)))
      (λ t. eq_same_list (group_at G₁ k i) (stored G₁ g).members (sym (C.members i least_in) ∙ ap (λ (x : ℕ). (stored G₁ x).members) (eqb-true r g t)))

-- ---- from the last group down to group g

pub record Topping (G : Graph) (m count k g : ℕ) (w₀ w : List ℕ) : Type 0 where
  pub length_is : length w ≡ length w₀
  pub tops : Tops G m k g count w
  pub others : (d y : ℕ) → d ≢ TOP → y < m → cell w m d y ≡ cell w₀ m d y

abbrev pub TopsGive : Graph → ℕ → ℕ → ℕ → List ℕ → List ℕ → Type 0
TopsGive G m count k w w' = Topping G m count k 0 w w'

pub topping_none : {G : Graph} {m count k : ℕ} {w : List ℕ} → Topping G m count k count w w
topping_none = record { length_is = refl; tops = λ h l u. absurd (omega (arith, l, u)); others = λ d y n l. refl }

module _ {b : List ℕ} {at m count k g : ℕ} {w₀ w : List ℕ} (X : Sized b at m count) (A : TopsAsks m k w₀) (T : Topping (graph_in b) m count k g w₀ w) (some : 0 < g) (within : g ≤ count) where
  pub topping_asks : TopAsks (graph_in b) m count k (g - 1) w
  topping_asks = record {
    asks = record { level = A.level; size_is = T.length_is ∙ A.size_is };
    in_range = omega (arith, some, within);
    above = λ h l u. T.tops h (omega (arith, l, some)) u;
  }

  pub topping_place : g - 1 < m
  topping_place = omega (arith, some, within, (sized_few X).0)

  pub topping_more : {t : ℕ} {w' : List ℕ} → TopIs (graph_in b) k (g - 1) t → w' ≡ store w m TOP (g - 1) t → Topping (graph_in b) m count k (g - 1) w₀ w'
  topping_more {t} {w'} top u = rw u (record {
    length_is = length-store w m TOP (g - 1) t ∙ T.length_is;
    tops = λ h l v. go h l v (same_or_not h (g - 1));
    others = λ d y n l. kept_column w m TOP d (g - 1) y t (λ e. n (sym e)) topping_place l ∙ T.others d y n l;
  })
    where
      go : (h : ℕ) → g - 1 ≤ h → h < count → (h ≡ g - 1) ⊎ (h ≢ g - 1) → TopIs (graph_in b) k h (cell (store w m TOP (g - 1) t) m TOP h)
      go h l v (inl e) = rw (e, put_there w m TOP (g - 1) t (omega arith) topping_place (T.length_is ∙ A.size_is)) top
      go h l v (inr e) = rw (kept_entry w m TOP (g - 1) h t e) (T.tops h (omega (arith, l, e)) v)

pub topping_all : {G : Graph} {m count k g : ℕ} {w₀ w : List ℕ} → g ≤ 0 → Topping G m count k g w₀ w → TopsGive G m count k w₀ w
topping_all {G} {m} {count} {k} {g} {w₀} {w} l T = let e : g ≡ 0 = omega arith in rw e at T

-- ---- the group at k of each link

pub record LinksAsks (G : Graph) (m k : ℕ) (w : List ℕ) : Type 0 where
  pub level : min_level ≤ k
  pub size_is : length w ≡ COLUMNS * m
  pub tops : Tops G m k 0 (group_count G) w

-- the top of a link's own group
pub own_top : {b : List ℕ} {k i g t : ℕ} → IsIndex b → min_level ≤ k → i < size (graph_in b) → g ≡ own_group (graph_in b) i → TopIs (graph_in b) k g t → t ≡ group_of (graph_in b) (groups (graph_in b)) k i
own_top {b} {k} {i} {g} {t} I level li q top = go top
  where
    strength_is : (stored (graph_in b) g).strength ≡ strength_at (graph_in b) i
    strength_is = ap (λ (x : ℕ). (stored (graph_in b) x).strength) (q ∙ own_same I i li) ∙ own-strength (graph_in b) (proper I) (fits_groups I) i li (own_strong (graph_in b) (proper I) (fits_groups I) i li)

    S : GroupsAt b (groups_place (index (graph_in b)))
    S = record { is_index = I; place = refl }

    go : TopIs (graph_in b) k g t → t ≡ group_of (graph_in b) (groups (graph_in b)) k i
    go (weak f z) = z ∙ sym (group_of_weak (graph_in b) (proper I) k i level li (omega (arith, f, strength_is)))
    go (strong f C) = own_climbed S refl level li strength_is f q C

-- the first i links
pub record Linking (G : Graph) (m k i : ℕ) (w₀ w : List ℕ) : Type 0 where
  pub length_is : length w ≡ length w₀
  pub keys : (y : ℕ) → y < i → cell w m KEY y ≡ key_at G y
  pub links : (y : ℕ) → y < i → cell w m LINK y ≡ group_of G (groups G) k y
  pub others : (d y : ℕ) → d ≢ KEY → d ≢ LINK → y < m → cell w m d y ≡ cell w₀ m d y

abbrev pub LinksGive : Graph → ℕ → ℕ → List ℕ → List ℕ → Type 0
LinksGive G m k w w' = Linking G m k m w w'

pub linking_none : {G : Graph} {m k : ℕ} {w : List ℕ} → Linking G m k 0 w w
linking_none = record { length_is = refl; keys = λ y l. absurd (omega arith); links = λ y l. absurd (omega arith); others = λ d y n o l. refl }

module _ {b : List ℕ} {at m count k i : ℕ} {w₀ w : List ℕ} (X : Sized b at m count) (A : LinksAsks (graph_in b) m k w₀) (L : Linking (graph_in b) m k i w₀ w) (l : i < m) where
  abbrev G₂ : Graph
  G₂ = graph_in b

  pub linking_in : i < size G₂
  linking_in = omega (arith, l, X.links)

  pub linking_long : length w ≡ COLUMNS * m
  linking_long = L.length_is ∙ A.size_is

  module _ {x : ℕ} {w₁ : List ℕ} (q : x ≡ key_at G₂ i) (u : w₁ ≡ store w m KEY i x) where
    pub linking_long₁ : length w₁ ≡ COLUMNS * m
    linking_long₁ = ap length u ∙ length-store w m KEY i x ∙ linking_long

    cells : (d y : ℕ) → cell w₁ m d y ≡ cell (store w m KEY i x) m d y
    cells d y = ap (λ (a : List ℕ). cell a m d y) u

    module _ {g : ℕ} (own-g : g ≡ own_group G₂ i) where
      lg : g < group_count G₂
      lg = omega (arith, own-g, own_below X.groups_at_lem.is_index i linking_in)

      pub linking_group : g < m
      linking_group = omega (arith, lg, few X.groups_at_lem.is_index, X.links)

      module _ {t : ℕ} (e : t ≡ cell w₁ m TOP g) where
        top : TopIs G₂ k g t
        top = subst (TopIs G₂ k g) (sym (e ∙ cells TOP g ∙ kept_column w m KEY TOP i g x (omega arith) l linking_group ∙ L.others TOP g (omega arith) (omega arith) linking_group)) (A.tops g (omega arith) lg)

        pub linking_small : t < entry_bound
        linking_small = top_small X.groups_at_lem.is_index top

        pub linking_more : {w₂ : List ℕ} → w₂ ≡ store w₁ m LINK i t → Linking G₂ m k (i + 1) w₀ w₂
        linking_more {w₂} v = rw v (record {
          length_is = length-store w₁ m LINK i t ∙ ap length u ∙ length-store w m KEY i x ∙ L.length_is;
          keys = λ y h. kept_column w₁ m LINK KEY i y t (omega arith) l (omega (arith, h, l)) ∙ cells KEY y ∙ key y h (same_or_not y i);
          links = λ y h. link y h (same_or_not y i);
          others = λ d y n o h. kept_column w₁ m LINK d i y t (λ s. o (sym s)) l h ∙ cells d y ∙ kept_column w m KEY d i y x (λ s. n (sym s)) l h ∙ L.others d y n o h;
        })
          where
            key : (y : ℕ) → y < i + 1 → (y ≡ i) ⊎ (y ≢ i) → cell (store w m KEY i x) m KEY y ≡ key_at (graph_in b) y
            key y h (inl s) = rw s (put_there w m KEY i x (omega arith) l linking_long ∙ q)
            key y h (inr s) = kept_entry w m KEY i y x s ∙ L.keys y (omega (arith, h, s))

            link : (y : ℕ) → y < i + 1 → (y ≡ i) ⊎ (y ≢ i) → cell (store w₁ m LINK i t) m LINK y ≡ group_of (graph_in b) (groups (graph_in b)) k y
            link y h (inl s) = rw s (put_there w₁ m LINK i t (omega arith) l linking_long₁ ∙ own_top X.groups_at_lem.is_index A.level linking_in own-g top)
            link y h (inr s) = kept_entry w₁ m LINK i y t s ∙ cells LINK y ∙ kept_column w m KEY LINK i y x (omega arith) l (omega (arith, h, l)) ∙ L.links y (omega (arith, h, s))

pub linking_all : {G : Graph} {m k i : ℕ} {w₀ w : List ℕ} → i ≡ m → Linking G m k i w₀ w → LinksGive G m k w₀ w
linking_all e L = rw e at L

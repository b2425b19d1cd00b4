-- What the packed rows are: the groups at k that hold each account. `pool_rows`. Assumes nothing.
use Rattle.std.specs.Prelude.{◌≡◌, refl, ◌⊎◌, ◌≢◌, Bool, true, false, ◌||◌, List, ℕ, ◌+◌, ◌*◌, ◌≤◌, ◌<◌, min, max, eqb, length}
use Rattle.std.proofs.Math.Path.{sym, subst}
use Rattle.std.proofs.Common.{ap, ◌∙◌, inl, inr, arith, eq-eqb, eqb-true}
use mathlib.Core.List.{Memᴰ as In}
use Rattle.truss.specs.Limits.{min_level, no_group}
use Rattle.truss.specs.Graph.{Link, Graph, link, link_at, link_number, ends, member}
use Rattle.truss.specs.Group.{least_link, group_at, group_of, groups}
use Rattle.truss.specs.Question.{is_group_at, holds}
use Rattle.laws.proofs.Lists.{or_cases}
use Rattle.laws.proofs.Numbers.{less_or_not}
use Rattle.laws.proofs.Members.{any_in, in_any, first_in, number_lt, link_of_number}
use Rattle.laws.proofs.Sets.{same_list_eq, eq_same_list}
use Rattle.laws.proofs.ProperLinks.{at_member}
use Rattle.laws.proofs.Lowering.{link-own, link_sym}
use Rattle.laws.proofs.Groups.{size, strength_at, group_self, group_rebase}
use Rattle.laws.proofs.Stored.{group_count, stored, stored_in}
use Rattle.columns.specs.Columns.{cell, entry, COLUMNS}
use Rattle.columns.specs.Wiping.{zeros, zeros-length, zeros-cell}
use Rattle.adjacency.specs.State.{Named, Near, named, other, start_at}
use Rattle.adjacency.specs.Lists.{ListsDone}
use Rattle.stored.specs.Rows.{graph_in, IsIndex, Shape, proper, few, few_links, few_accounts}
use Rattle.stored.specs.Climb.{group_of_strong, group_of_weak, group_of_is}
use Rattle.pools.specs.Pools.{TOP, Row, PoolRows}
use Rattle.pools.specs.Tops.{LINK, TopsAsks, TopsGive, LinksAsks, LinksGive, top_level}
use Rattle.pools.specs.Packing.{LAST, MaybeGroup, group_in, Packed, PackAsks, PackGives}

-- ---- the links at an account

ends-link : (a c : ℕ) → ends (link a c) a ≡ true
ends-link a c = go (less_or_not c a)
  where
    right : (x : Bool) → (x || true) ≡ true
    right true = refl
    right false = refl

    go : (c < a) ⊎ (a ≤ c) → ends (link a c) a ≡ true
    go (inl l) = rw (eq-eqb (max a c) a (omega arith)) (right (eqb (min a c) a))
    go (inr l) = rw (eq-eqb (min a c) a (omega arith)) refl

link-ends : (e : Link) (a : ℕ) → e.lo < e.hi → ends e a ≡ true → (c : ℕ) × (e ≡ link a c)
link-ends e a l t = go (or_cases (eqb e.lo a) (eqb e.hi a) t)
  where
    go : (eqb e.lo a ≡ true) ⊎ (eqb e.hi a ≡ true) → (c : ℕ) × (e ≡ link a c)
    go (inl s) = (e.hi, sym (link-own e l) ∙ ap (λ (z : ℕ). link z e.hi) (eqb-true e.lo a s))
    go (inr s) = (e.lo, sym (link-own e l) ∙ link_sym e.lo e.hi ∙ ap (λ (z : ℕ). link z e.lo) (eqb-true e.hi a s))

-- ---- the group at k of a link

module _ {b : List ℕ} (I : IsIndex b) {k : ℕ} (level : min_level ≤ k) where
  abbrev G : Graph
  G = graph_in b

  abbrev of_link : ℕ → ℕ
  of_link i = group_of G (groups G) k i

  module _ (i : ℕ) (li : i < size G) where
    maybe : MaybeGroup (size G) (of_link i)
    maybe = go (less_or_not (strength_at G i) k)
      where
        go : (strength_at G i < k) ⊎ (k ≤ strength_at G i) → MaybeGroup (size G) (of_link i)
        go (inl w) = inr (group_of_weak G (proper I) k i level li w)
        go (inr s) = inl (omega (arith, (group_of_strong G (proper I) k i level li s).0, few I))

    strong : of_link i ≢ no_group → k ≤ strength_at G i
    strong n = go (less_or_not (strength_at G i) k)
      where
        go : (strength_at G i < k) ⊎ (k ≤ strength_at G i) → k ≤ strength_at G i
        go (inl w) = absurd (n (group_of_weak G (proper I) k i level li w))
        go (inr s) = s

    module _ (n : of_link i ≢ no_group) where
      is_stored : (of_link i < group_count G) × ((stored G (of_link i)).members ≡ group_at G k i)
      is_stored = group_of_strong G (proper I) k i level li (strong n)

      inside : In i (stored G (of_link i)).members
      inside = subst (In i) (sym is_stored.1) (group_self G k i li (strong n))

      is_level : is_group_at G k (stored G (of_link i)) ≡ true
      unfolding is_group_at
      is_level =
          let least : In (least_link (stored G (of_link i))) (group_at G k i) = subst (In (least_link (stored G (of_link i)))) is_stored.1 (first_in (stored G (of_link i)).members inside) in
          eq_same_list _ _ (group_rebase G k i li least ∙ sym is_stored.1)

      is_held : (a : ℕ) → ends (link_at G i) a ≡ true → holds G (stored G (of_link i)) a ≡ true
      unfolding holds
      is_held a t = in_any (λ (j : ℕ). ends (link_at G j) a) (stored G (of_link i)).members inside t

  -- a group at k is that of each of its links
  of_member : (g i : ℕ) → g < group_count G → is_group_at G k (stored G g) ≡ true → In i (stored G g).members → g ≡ of_link i
  unfolding is_group_at
  of_member g i lg t m =
      let same : group_at G k (least_link (stored G g)) ≡ (stored G g).members = same_list_eq _ _ t in
      let least = (stored_in G g lg (first_in (stored G g).members m)).0 in
      let base = group_rebase G k (least_link (stored G g)) least (subst (In i) (sym same) m) in
      group_of_is G (proper I) k i level (stored_in G g lg m).0 lg (sym same ∙ sym base)

-- ---- rows

module _ {b : List ℕ} {n m at count k : ℕ} (S : Shape b n m at count) (level : min_level ≤ k) where
  abbrev H : Graph
  H = graph_in b

  J : IsIndex b
  J = S.groups_at_lem.is_index

  -- the links at each account, and their groups
  module _ {w start : List ℕ} (N : Near H m w start) (links : (e : ℕ) → e < m → cell w m LINK e ≡ group_of H (groups H) k e) where
    -- what entry x of account a names
    module _ (a x : ℕ) (la : a < n) (lo : start_at start a ≤ x) (hi : x < start_at start (a + 1)) where
      below : a < H.n
      below = omega (arith, la, S.accounts)

      there : member H.links (link a (other w m x)) ≡ true
      there = N.holds a x below lo hi

      name_in : named w m x < size H
      name_in = omega (arith, N.number_is a x below lo hi, number_lt H (link a (other w m x)) there)

      name_ends : ends (link_at H (named w m x)) a ≡ true
      name_ends = ap (λ (e : Link). ends e a) (ap (link_at H) (N.number_is a x below lo hi) ∙ link_of_number H (link a (other w m x)) there) ∙ ends-link a (other w m x)

      name_group : group_in w m x ≡ group_of H (groups H) k (named w m x)
      name_group = links (named w m x) (omega (arith, name_in, S.links))

    pub near_asks : {end : List ℕ} → length w ≡ COLUMNS * m → length end ≡ n → ((y : ℕ) → y < m → cell w m LAST y ≡ 0) → PackAsks m n w start end
    near_asks {end} size_is wide zero = record {
      size_is = size_is;
      few = omega (arith, few_links J, S.links);
      small = omega (arith, few_accounts J, S.accounts);
      long = omega (arith, N.long, S.accounts);
      wide = wide;
      rises = λ a l. N.rises a (omega (arith, l, S.accounts));
      fits = λ a l. N.fits a (omega (arith, l, S.accounts));
      names = λ a x l lo hi. omega (arith, name_in a x l lo hi, S.links);
      groups = λ e l. subst (MaybeGroup m) (sym (links e l)) (subst (λ (z : ℕ). MaybeGroup z (group_of H (groups H) k e)) S.links (maybe J level e (omega (arith, l, S.links))));
      zero = zero;
    }

    pub packed_row : {w' : List ℕ} {a to : ℕ} → a < n → Packed m w w' (start_at start a) (start_at start (a + 1)) to → Row H k m count w' a (start_at start a) to
    unfolding holds
    packed_row {w'} {a} {to} la P = record {
      rises = P.rises;
      fits = omega (arith, P.fits, N.fits a (omega (arith, la, S.accounts)));
      below = λ j l u. let r = from j l u in omega (arith, r.4, (is_stored J level r.0 r.1 r.3).0, S.groups);
      level = λ j l u. let r = from j l u in rw r.4 (is_level J level r.0 r.1 r.3);
      held = λ j l u. let r = from j l u in rw r.4 (is_held J level r.0 r.1 r.3 a r.2);
      once = P.once;
      whole = whole;
    }
      where
        -- the link that an entry comes from
        from : (j : ℕ) → start_at start a ≤ j → j < to → (e : ℕ) × (e < size (graph_in b)) × (ends (link_at (graph_in b) e) a ≡ true) × (group_of (graph_in b) (groups (graph_in b)) k e ≢ no_group) × (entry w' m j ≡ group_of (graph_in b) (groups (graph_in b)) k e)
        from j l u =
            let r = P.sound j l u in
            let q = name_group a r.0 la r.1 r.2 in
            (named w m r.0, name_in a r.0 la r.1 r.2, name_ends a r.0 la r.1 r.2, (λ z. r.3 (q ∙ z)), r.4 ∙ q)

        whole : (g : ℕ) → g < count → is_group_at (graph_in b) k (stored (graph_in b) g) ≡ true → holds (graph_in b) (stored (graph_in b) g) a ≡ true → (j : ℕ) × (start_at start a ≤ j) × (j < to) × (entry w' m j ≡ g)
        whole g lg t h = go (any_in (λ (i : ℕ). ends (link_at (graph_in b) i) a) (stored (graph_in b) g).members h)
          where
            lc : g < group_count (graph_in b)
            lc = omega (arith, lg, S.groups)

            go : (i : ℕ) × In i (stored (graph_in b) g).members × (ends (link_at (graph_in b) i) a ≡ true) → (j : ℕ) × (start_at start a ≤ j) × (j < to) × (entry w' m j ≡ g)
            go (i, inside, e) =
                let li = (stored_in (graph_in b) g lc inside).0 in
                let is = at_member (graph_in b) (proper J) i li in
                let c = link-ends (link_at (graph_in b) i) a ((proper J).ordered (link_at (graph_in b) i) is) e in
                let la' : a < (graph_in b).n = omega (arith, la, S.accounts) in
                let x = N.finds a c.0 la' (ap (member (graph_in b).links) (sym c.1) ∙ is) in
                let name : named w m x.0 ≡ i = N.number_is a x.0 la' x.1 x.2 ∙ ap (λ (z : ℕ). link_number (graph_in b) (link a z)) x.3 ∙ ap (link_number (graph_in b)) (sym c.1) ∙ (proper J).numbered i li in
                let group : group_in w m x.0 ≡ g = name_group a x.0 la x.1 x.2 ∙ ap (group_of (graph_in b) (groups (graph_in b)) k) name ∙ sym (of_member J level g i lc t inside) in
                let j = P.finds x.0 x.1 x.2 (λ z. omega (arith, z, group, lc, few J, few_links J)) in
                (j.0, j.1, j.2, j.3 ∙ group)

  -- ---- the steps put together

  module _ {w : List ℕ} (zero : w ≡ zeros (COLUMNS * m)) where
    pub tops_asks : TopsAsks m k w
    tops_asks = record { level = level; size_is = ap length zero ∙ zeros-length (COLUMNS * m) }

    module _ {w₁ : List ℕ} (T : TopsGive H m count k w w₁) where
      pub links_asks : LinksAsks H m k w₁
      links_asks = record {
        level = level;
        size_is = T.length_is ∙ tops_asks.size_is;
        tops = λ h l u. T.tops h l (omega (arith, u, S.groups));
      }

      module _ {w₂ : List ℕ} (L : LinksGive H m k w₁ w₂) where
        pub names_asks : Named H m n w₂
        names_asks = record {
          proper = proper J;
          accounts = S.accounts;
          count = S.links;
          few = omega (arith, few_links J, S.links);
          small = omega (arith, few_accounts J, S.accounts);
          size = L.length_is ∙ links_asks.size_is;
          key = L.keys;
        }

        module _ {w₃ start : List ℕ} (D : ListsDone H m w₂ w₃ start) where
          -- a column that the steps leave
          untouched : (c y : ℕ) → 5 ≤ c → y < m → cell w₃ m c y ≡ 0
          untouched c y l u =
              D.keyed.above c y (omega (arith, l)) u ∙ L.others c y (omega (arith, l)) (omega (arith, l)) u ∙ T.others c y (omega (arith, l)) u
              ∙ ap (λ (z : List ℕ). cell z m c y) zero ∙ zeros-cell (COLUMNS * m) m c y

          groups_are : (e : ℕ) → e < m → cell w₃ m LINK e ≡ group_of (graph_in b) (groups (graph_in b)) k e
          groups_are e l = D.keyed.above LINK e (omega arith) l ∙ L.links e l

          long : length w₃ ≡ COLUMNS * m
          long = D.keyed.length_is ∙ names_asks.size

          pub pack_asks : {end : List ℕ} → length end ≡ n → PackAsks m n w₃ start end
          pack_asks wide = near_asks D.near groups_are long wide (λ y l. untouched LAST y (omega arith) l)

          pub pools_done : {w₄ end : List ℕ} → PackGives m n w₃ w₄ start end → PoolRows H k n m count w₄ start end
          pools_done {w₄} {end} R = record {
            size_is = R.length_is ∙ long;
            starts = omega (arith, D.near.long, S.accounts);
            ends = R.wide;
            tops = tops;
            rows = λ a l. packed_row D.near groups_are l (R.rows a l);
            free = λ c y l u k. R.others c y (omega (arith, l)) (omega (arith, l)) k ∙ untouched c y (omega (arith, l)) k;
          }
            where
              tops : (g : ℕ) → g < count → is_group_at (graph_in b) k (stored (graph_in b) g) ≡ eqb (cell w₄ m TOP g) g
              tops g l =
                  let lm : g < m = omega (arith, l, few J, S.groups, S.links) in
                  let same : cell w₄ m TOP g ≡ cell w₁ m TOP g = R.others TOP g (omega arith) (omega arith) lm ∙ D.keyed.above TOP g (omega arith) lm ∙ L.others TOP g (omega arith) (omega arith) lm in
                  rw same (top_level J level (omega (arith, l, S.groups)) (T.tops g (omega arith) l))

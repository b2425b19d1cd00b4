-- What the contracts say of the work space while the forest grows. Columns: 0 keys, 4 strengths, 6 parents, 7 next weights,
-- 9 and 10 the joins taken. In order: the graph; the joins taken; the forest up to a place in the order of the joins. Assumes nothing.
use Rattle.std.specs.Prelude.{◌≡◌, ◌⊎◌, ◌≢◌, false, ℕ, zero, suc, ◌+◌, ◌*◌, ◌≤◌, ◌<◌, ◌/◌, ◌%◌, min, max, length, get_or, set}
use Rattle.std.proofs.Math.Path.{refl, ap, subst}
use Rattle.std.proofs.Common.{sym, ◌∙◌, inl, inr, add-one, arith}
use mathlib.Core.List.{List, [], ◌∷◌, ◌++◌, map}
use mathlib.Core.List.{Memᴰ as In}
use Rattle.std.proofs.lemmas.List.{length-map}
use Rattle.truss.specs.Limits.{max_accounts}
use Rattle.truss.specs.Lists.{range}
use Rattle.truss.specs.Graph.{Graph, link_at}
use Rattle.truss.specs.Forest.{Join, all_joins, merge}
use Rattle.laws.proofs.UnionFind.{Down, root_of}
use Rattle.laws.proofs.Members.{range_length, range_in}
use Rattle.laws.proofs.Components.{label, Same, low, high, merge_keeps}
use Rattle.laws.proofs.Unions.{Keeps, keeps_merge, store_down}
use Rattle.laws.proofs.Halving.{root_fixed, root_below}
use Rattle.laws.proofs.Groups.{size, strength_at}
use Rattle.laws.proofs.Sides.{InOrder, Sides, join_of, JoinOf, first_two, outer_two, last_two}
use Rattle.laws.proofs.Kruskal
use Rattle.laws.proofs.Kruskal.{Grown, Left, Gone, next, labels_of, grown_skip, grown_take, room_to_take, components-append, reached, lighter, later}
use Rattle.columns.specs.Columns.{cell, store, COLUMNS}
use Rattle.columns.specs.Laws.{stored, kept_entry, kept_column, length-store}
use Rattle.unions.specs.Space.{Columns, Frame, frame_trans, frame_store, joining, parents, parents-length, parents_same, parents-store, root, Steady}

-- ---- the graph

-- a graph of n accounts and m links in order, named by column 0; column 4 has the strengths
pub record Given (G : Graph) (m n : ℕ) (w : List ℕ) : Type 0 where
  pub order : InOrder G
  pub accounts : G.n ≡ n
  pub count : size G ≡ m
  pub few : m ≤ 65535
  pub small : n ≤ max_accounts
  pub size_is : length w ≡ COLUMNS * m
  pub key : (i : ℕ) → i < m → cell w m 0 i ≡ (link_at G i).lo * 65536 + (link_at G i).hi
  pub strengths : (i : ℕ) → i < m → cell w m 4 i ≡ strength_at G i

pub given_frame : {t : Columns} {G : Graph} {m n : ℕ} {w w' : List ℕ} → t 0 ≡ false → t 4 ≡ false → Frame t m w w' → Given G m n w → Given G m n w'
given_frame a b f g = record {
  order = g.order;
  accounts = g.accounts;
  count = g.count;
  few = g.few;
  small = g.small;
  size_is = f.length_is ∙ g.size_is;
  key = λ i l. f.same 0 a i l ∙ g.key i l;
  strengths = λ i l. f.same 4 b i l ∙ g.strengths i l;
}

-- ---- the joins taken

unfoldable pub join_at : List ℕ → ℕ → ℕ → Join
join_at w m i = record { lower = cell w m 9 i / 65536; higher = cell w m 9 i % 65536; weight = cell w m 10 i }

unfoldable pub taken : List ℕ → ℕ → ℕ → List Join
taken w m j = map (join_at w m) (range 0 j)

pub taken-length : (w : List ℕ) (m j : ℕ) → length (taken w m j) ≡ j
unfolding taken
taken-length w m j = length-map (range 0 j) (join_at w m) ∙ range_length 0 j

map_same : {A B : Type 0} (f g : A → B) (xs : List A) → ((x : A) → In x xs → f x ≡ g x) → map f xs ≡ map g xs
map_same f g [] h = refl
map_same {A} {B} f g (x ∷ xs) h =
    let p = h x (mathlib.Core.List.Memᴰ.head refl) in
    let q = map_same f g xs (λ y m. h y (mathlib.Core.List.Memᴰ.tail m)) in λ t. p t ∷ q t

pub taken_same : (w w' : List ℕ) (m j : ℕ) → ((i : ℕ) → i < j → (cell w' m 9 i ≡ cell w m 9 i) × (cell w' m 10 i ≡ cell w m 10 i)) → taken w' m j ≡ taken w m j
unfolding taken join_at
taken_same w w' m j h = map_same (join_at w' m) (join_at w m) (range 0 j) (λ i k. at i (omega (arith, (range_in 0 j k).1)))
  where
    at : (i : ℕ) → i < j → join_at w' m i ≡ join_at w m i
    at i l = let r = h i l in rw (r.0, r.1)

pub taken_frame : {t : Columns} {m j : ℕ} {w w' : List ℕ} → t 9 ≡ false → t 10 ≡ false → Frame t m w w' → j ≤ m → taken w' m j ≡ taken w m j
taken_frame {t} {m} {j} {w} {w'} c d f l = taken_same w w' m j (λ i k. (f.same 9 c i (omega (arith, k, l)), f.same 10 d i (omega (arith, k, l))))

range_more : (a j : ℕ) → range a (suc j) ≡ range a j ++ ((a + j) ∷ [])
unfolding range
range_more a zero = let e : a ≡ a + 0 = omega arith in λ t. e t ∷ []
range_more a (suc j) =
    let r = range_more (suc a) j in
    let e : suc a + j ≡ a + suc j = omega arith in
    ap {B = List ℕ} (λ xs. a ∷ xs) (r ∙ ap (λ (z : ℕ). range (suc a) j ++ (z ∷ [])) e)

map_more : {A B : Type 0} (f : A → B) (xs ys : List A) → map f (xs ++ ys) ≡ map f xs ++ map f ys
map_more f [] ys = refl
map_more {A} {B} f (x ∷ xs) ys = ap {B = List B} (λ r. f x ∷ r) (map_more f xs ys)

pub taken_more : (w : List ℕ) (m j : ℕ) → taken w m (j + 1) ≡ taken w m j ++ (join_at w m j ∷ [])
unfolding taken
taken_more w m j = rw add-one (ap (map (join_at w m)) (range_more 0 j) ∙ map_more (join_at w m) (range 0 j) ((0 + j) ∷ []) ∙ ap (λ (z : ℕ). map (join_at w m) (range 0 j) ++ (join_at w m z ∷ [])) (omega arith))

-- ---- the forest up to the place p

pub record Growth (G : Graph) (m n : ℕ) (p : Join) (j : ℕ) (w : List ℕ) : Type 0 where
  pub given : Given G m n w
  pub down : Down (parents w m)
  pub keeps : Keeps m (parents w m) (labels_of G (taken w m j))
  pub grown : Grown G p (taken w m j)
  pub within : j ≤ m

-- the labels of the components so far
abbrev pub labels : Graph → List ℕ → ℕ → ℕ → List ℕ
labels G w m j = labels_of G (taken w m j)

-- links of one component stay so
abbrev pub Stays : Graph → ℕ → ℕ → ℕ → List ℕ → List ℕ → Type 0
Stays G m j r w w' = (a b : ℕ) → Same (labels G w m j) a b → Same (labels G w' m r) a b

pub stays_frame : (G : Graph) {t : Columns} {m j : ℕ} {w w' : List ℕ} → t 9 ≡ false → t 10 ≡ false → Frame t m w w' → j ≤ m → Stays G m j j w w'
stays_frame G c d f l a b s = subst (λ (z : List Join). Same (labels_of G z) a b) (sym (taken_frame c d f l)) s

pub growth_steady : {t : Columns} {G : Graph} {m n j : ℕ} {p : Join} {w w' : List ℕ} → t 0 ≡ false → t 4 ≡ false → t 9 ≡ false → t 10 ≡ false → Steady t m w w'
    → Growth G m n p j w → Growth G m n p j w'
growth_steady {t} {G} {m} {n} {j} {p} {w} {w'} a b c d s g = record {
  given = given_frame a b s.frame g.given;
  down = s.down g.down;
  keeps = λ x l. s.same_root g.down x ∙ g.keeps x l ∙ ap (λ (r : List Join). label (labels_of G r) x) (sym same);
  grown = subst (Grown G p) (sym same) g.grown;
  within = g.within;
}
  where
    same : taken w' m j ≡ taken w m j
    same = taken_frame c d s.frame g.within

module _ {G : Graph} {m n j : ℕ} {p : Join} {w : List ℕ} (g : Growth G m n p j w) where
  pub growth_skip : (q : Join) → q.weight ≤ p.weight → ((y : Join) → In y (all_joins G) → Left q y → Left p y)
      → ((y : Join) → In y (all_joins G) → Left p y → Gone q y → Same (labels G w m j) y.lower y.higher) → Growth G m n q j w
  growth_skip q le sub ring = record {
    given = g.given;
    down = g.down;
    keeps = g.keeps;
    grown = grown_skip G g.grown q le sub ring;
    within = g.within;
  }

  -- one join that closes a ring
  pub growth_ring : Same (labels G w m j) p.lower p.higher → Growth G m n (next p) j w
  growth_ring s = growth_skip (next p) (native.Mathlib.Nat.le_refl p.weight) (λ y k h. sub y h) (λ y k h f. ring y h (Kruskal.gone_next p y f))
    where
      sub : (y : Join) → Left (next p) y → Left p y
      sub y (lighter a) = lighter a
      sub y (later a b) = later a b
      sub y (reached a b c) = reached a b (omega arith)

      ring : (y : Join) → Left p y → Gone p y ⊎ (y ≡ p) → Same (labels G w m j) y.lower y.higher
      ring y h (inl b) = absurd (Kruskal.not_both b h)
      ring y h (inr q) = rw q s

  pub label-root : (a : ℕ) → a < m → root w m a ≡ label (labels G w m j) a
  label-root a l = g.keeps a l

  -- links with one root
  pub roots_same : (a b : ℕ) → a < m → b < m → root w m a ≡ root w m b → Same (labels G w m j) a b
  roots_same a b la lb q = sym (label-root a la) ∙ q ∙ label-root b lb

  -- both ends of a join are links
  pub join_ends : {y : Join} → In y (all_joins G) → (y.lower < m) × (y.higher < m)
  join_ends {y} k = at (join_of G g.given.order k)
    where
      at : JoinOf G g.given.order y → (y.lower < m) × (y.higher < m)
      at r = go r.side
        where
          go : Rattle.laws.proofs.Sides.Side G g.given.order r.e r.f r.g y → (y.lower < m) × (y.higher < m)
          go (first_two a b) = (omega (arith, a, r.sides.e_in, g.given.count), omega (arith, b, r.sides.f_in, g.given.count))
          go (outer_two a b) = (omega (arith, a, r.sides.e_in, g.given.count), omega (arith, b, r.sides.g_in, g.given.count))
          go (last_two a b) = (omega (arith, a, r.sides.f_in, g.given.count), omega (arith, b, r.sides.g_in, g.given.count))

  -- ---- a join taken

  module _ (a b : ℕ) (mem : In p (all_joins G)) (ea : a ≡ root w m p.lower) (eb : b ≡ root w m p.higher) (ne : a ≢ b) where
    ends : (p.lower < m) × (p.higher < m)
    ends = join_ends mem

    la : a ≡ label (labels G w m j) p.lower
    la = ea ∙ label-root p.lower ends.0

    lb : b ≡ label (labels G w m j) p.higher
    lb = eb ∙ label-root p.higher ends.1

    apart_ends : label (labels G w m j) p.lower ≢ label (labels G w m j) p.higher
    apart_ends q = ne (la ∙ q ∙ sym lb)

    some : 0 < size G
    some = omega (arith, ends.0, g.given.count)

    pub take_room : j < m
    take_room = omega (arith, room_to_take G g.grown g.given.order mem apart_ends some, taken-length w m j, g.given.count)

    a<m : a < m
    a<m = omega (arith, ea, root_below (parents w m) g.down p.lower, ends.0)

    b<m : b < m
    b<m = omega (arith, eb, root_below (parents w m) g.down p.higher, ends.1)

    a_root : get_or (parents w m) a 0 ≡ a
    a_root = ap (λ (z : ℕ). get_or (parents w m) z 0) ea ∙ root_fixed (parents w m) g.down p.lower ∙ sym ea

    b_root : get_or (parents w m) b 0 ≡ b
    b_root = ap (λ (z : ℕ). get_or (parents w m) z 0) eb ∙ root_fixed (parents w m) g.down p.higher ∙ sym eb

    low_is : low p.lower p.higher (labels G w m j) ≡ min a b
    unfolding low
    low_is = omega (arith, la, lb)

    high_is : high p.lower p.higher (labels G w m j) ≡ max a b
    unfolding high
    high_is = omega (arith, la, lb)

    min-root : get_or (parents w m) (min a b) 0 ≡ min a b
    min-root = go (Rattle.laws.proofs.Numbers.less_or_not a b)
      where
        go : (a < b) ⊎ (b ≤ a) → get_or (parents w m) (min a b) 0 ≡ min a b
        go (inl l) = let q : min a b ≡ a = omega arith in rw q a_root
        go (inr l) = let q : min a b ≡ b = omega arith in rw q b_root

    max-root : get_or (parents w m) (max a b) 0 ≡ max a b
    max-root = go (Rattle.laws.proofs.Numbers.less_or_not a b)
      where
        go : (a < b) ⊎ (b ≤ a) → get_or (parents w m) (max a b) 0 ≡ max a b
        go (inl l) = let q : max a b ≡ b = omega arith in rw q b_root
        go (inr l) = let q : max a b ≡ a = omega arith in rw q a_root

    w₁ : List ℕ
    w₁ = store w m 6 (max a b) (min a b)

    w₂ : List ℕ
    w₂ = store w₁ m 9 j (p.lower * 65536 + p.higher)

    w₃ : List ℕ
    w₃ = store w₂ m 10 j p.weight

    max<m : max a b < m
    max<m = omega (arith, a<m, b<m)

    less : min a b < max a b
    less = omega (arith, ne)

    frame : Frame joining m w w₃
    unfolding w₁ w₂ w₃
    frame = frame_trans (frame_store joining w m 6 (max a b) (min a b) refl max<m)
        (frame_trans (frame_store joining w₁ m 9 j (p.lower * 65536 + p.higher) refl take_room) (frame_store joining w₂ m 10 j p.weight refl take_room))

    parents_then : parents w₃ m ≡ set (parents w m) (max a b) (min a b)
    unfolding w₁ w₂ w₃
    parents_then =
        parents_same w₂ w₃ m (λ y l. kept_column w₂ m 10 6 j y p.weight (omega arith) take_room l)
        ∙ parents_same w₁ w₂ m (λ y l. kept_column w₁ m 9 6 j y (p.lower * 65536 + p.higher) (omega arith) take_room l)
        ∙ parents-store w m (max a b) (min a b) max<m g.given.size_is

    keys_of : (y : ℕ) → y < j → (cell w₃ m 9 y ≡ cell w m 9 y) × (cell w₃ m 10 y ≡ cell w m 10 y)
    unfolding w₁ w₂ w₃
    keys_of y l = (
      kept_column w₂ m 10 9 j y p.weight (omega arith) take_room (omega (arith, take_room)) ∙ kept_entry w₁ m 9 j y (p.lower * 65536 + p.higher) (omega arith)
          ∙ kept_column w m 6 9 (max a b) y (min a b) (omega arith) max<m (omega (arith, take_room)),
      kept_entry w₂ m 10 j y p.weight (omega arith) ∙ kept_column w₁ m 9 10 j y (p.lower * 65536 + p.higher) (omega arith) take_room (omega (arith, take_room))
          ∙ kept_column w m 6 10 (max a b) y (min a b) (omega arith) max<m (omega (arith, take_room)),
    )

    key_new : cell w₃ m 9 j ≡ p.lower * 65536 + p.higher
    unfolding w₂ w₃ w₁
    key_new =
        kept_column w₂ m 10 9 j j p.weight (omega arith) take_room take_room
        ∙ stored w₁ m 9 j (p.lower * 65536 + p.higher) (omega arith) take_room (length-store w m 6 (max a b) (min a b) ∙ g.given.size_is)

    weight_new : cell w₃ m 10 j ≡ p.weight
    unfolding w₃ w₂ w₁
    weight_new =
        stored w₂ m 10 j p.weight (omega arith) take_room
        (length-store w₁ m 9 j (p.lower * 65536 + p.higher) ∙ length-store w m 6 (max a b) (min a b) ∙ g.given.size_is)

    join_new : join_at w₃ m j ≡ p
    unfolding join_at
    join_new =
        let f : p.higher < 65536 = omega (arith, ends.1, g.given.few) in
        let q : cell w₃ m 9 j / 65536 ≡ p.lower = omega (arith, key_new) in
        let r : cell w₃ m 9 j % 65536 ≡ p.higher = omega (arith, key_new) in
        λ t. record { lower = q t; higher = r t; weight = weight_new t }

    taken_new : taken w₃ m (j + 1) ≡ taken w m j ++ (p ∷ [])
    taken_new =
        taken_more w₃ m j
        ∙ ap {B = List Join} (λ (x : Join). taken w₃ m j ++ (x ∷ [])) join_new
        ∙ ap (λ (r : List Join). r ++ (p ∷ [])) (taken_same w w₃ m j keys_of)

    labels_new : labels_of G (taken w₃ m (j + 1)) ≡ merge p.lower p.higher (labels G w m j)
    unfolding Rattle.truss.specs.Forest.components
    labels_new = ap (labels_of G) taken_new ∙ components-append (taken w m j) (p ∷ []) (Rattle.truss.specs.Forest.singletons (size G))

    keeps_new : Keeps m (set (parents w m) (max a b) (min a b)) (merge p.lower p.higher (labels G w m j))
    keeps_new = subst2 (sym high_is) (sym low_is)
      where
        Target : ℕ → ℕ → Type 0
        Target y x = Keeps m (set (parents w m) y x) (merge p.lower p.higher (labels G w m j))

        subst2 : max a b ≡ high p.lower p.higher (labels G w m j) → min a b ≡ low p.lower p.higher (labels G w m j) → Target (max a b) (min a b)
        subst2 x y =
            subst (λ (z : ℕ). Target z (min a b)) (sym x) (subst (λ (z : ℕ). Target (high p.lower p.higher (labels G w m j)) z) (sym y)
            (keeps_merge m (parents w m) (labels G w m j) g.down g.keeps p.lower p.higher
            (omega (arith, low_is, high_is, less)) (omega (arith, high_is, max<m, parents-length w m))
            (ap (λ (z : ℕ). get_or (parents w m) z 0) low_is ∙ min-root ∙ sym low_is) (ap (λ (z : ℕ). get_or (parents w m) z 0) high_is ∙ max-root ∙ sym high_is)))

    pub growth_take : Growth G m n (next p) (j + 1) (store (store (store w m 6 (max a b) (min a b)) m 9 j (p.lower * 65536 + p.higher)) m 10 j p.weight)
    unfolding w₁ w₂ w₃
    growth_take = record {
      given = given_frame refl refl frame g.given;
      down = subst Down (sym parents_then) (store_down (parents w m) g.down (min a b) (max a b) less (omega (arith, max<m, parents-length w m)) min-root max-root);
      keeps = λ x l. ap (λ (z : List ℕ). root_of z x) parents_then ∙ keeps_new x l ∙ ap (λ (z : List ℕ). label z x) (sym labels_new);
      grown = subst (Grown G (next p)) (sym taken_new) (grown_take G g.grown g.given.order mem apart_ends);
      within = omega (arith, take_room);
    }

    pub take_stays : Stays G m j (j + 1) w (store (store (store w m 6 (max a b) (min a b)) m 9 j (p.lower * 65536 + p.higher)) m 10 j p.weight)
    unfolding w₁ w₂ w₃
    take_stays x y s = subst (λ (z : List ℕ). Same z x y) (sym labels_new) (merge_keeps p.lower p.higher (labels G w m j) x y s)

    pub take_frame : Frame joining m w (store (store (store w m 6 (max a b) (min a b)) m 9 j (p.lower * 65536 + p.higher)) m 10 j p.weight)
    unfolding w₁ w₂ w₃
    take_frame = frame

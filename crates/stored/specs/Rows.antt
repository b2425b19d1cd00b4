-- The graph whose index the bytes are, and what they say of its links and groups by number. Assumes nothing.
use Rattle.std.specs.Prelude.{Option, None, Some, unwrap_or, ◌≡◌, ◌≢◌, ◌⊎◌, Bool, true, false, cond, ℕ, ◌+◌, ◌*◌, ◌/◌, ◌%◌, ◌≤◌, ◌<◌, eqb, ltb, get_or}
use Rattle.std.proofs.Math.Path.{refl, sym, ap}
use Rattle.std.proofs.Common.{ap₂, ◌∙◌, subst, inl, inr, arith, eq-eqb, ne_eqb, ltb-true}
use mathlib.Core.List.{List}
use Rattle.std.proofs.Math.ListN.{length, length-map}
use Rattle.truss.specs.Limits.{min_strength, max_strength, no_group, max_accounts, max_links}
use Rattle.truss.specs.Lists.{position, range}
use Rattle.truss.specs.Graph.{Graph, graph_of, link, link_at}
use Rattle.truss.specs.Group.{Group, least_link, group_number, groups, parent}
use Rattle.truss.specs.Refusal.{passed}
use Rattle.truss.specs.Record.{kind_index_head, byte_at, field_at}
use Rattle.truss.specs.Index.{Index, LinkRow, GroupRow, link_row, group_row, index, index_bytes, encode}
use Rattle.truss.specs.IndexFile.{read_index}
use Rattle.truss.specs.Stored.{row_at, group_row_at}
use Rattle.laws.proofs.Lists.{test}
use Rattle.laws.proofs.Numbers.{same_or_not}
use Rattle.laws.proofs.Members.{get_d_in, in_member, range_length}
use Rattle.laws.proofs.Peeling.{strength_at_least_2}
use Rattle.laws.proofs.Bound.{strength-max}
use Rattle.laws.proofs.InOrder.{graph_distinct, graph_in_order}
use Rattle.laws.proofs.Proper.{Proper}
use Rattle.laws.proofs.Sides.{InOrder}
use Rattle.laws.proofs.Groups.{size, strength_at}
use Rattle.laws.proofs.Stored.{group_count, stored, few_groups}
use Rattle.laws.proofs.Tree.{rows-length, row_at_lem, group_rows_length, group_row_at_lem, own, own_group_named, number_is}
use Rattle.laws.proofs.Decoding.{IndexFits}
use Rattle.laws.proofs.Accepted.{graph_size, graph_proper, head_good}
use Rattle.laws.proofs.Accepted.{Named as Accepted}
use Rattle.laws.proofs.Agree.{index_fits}
use Rattle.linksfile.specs.Records.{key_of}
use Rattle.index.specs.Strong.{strong_pair}
use Rattle.index.specs.declared.open.Outline.{Outline}
use Rattle.index.specs.Open.{pairs_in, pairs_accepted, takes, Opened}
use Rattle.stored.specs.Places.{groups_place, encode-length, link_byte, group_byte, field_of}

-- ---- the graph

-- what the head and the strong links name
abbrev pub graph_in : List ℕ → Graph
graph_in b = graph_of (field_at b 1) (pairs_in b (field_at b 3))

-- the bytes are its index
pub record IsIndex (b : List ℕ) : Type 0 where
  pub accepted : Accepted (field_at b 1) (pairs_in b (field_at b 3))
  pub bytes : b ≡ index_bytes (graph_in b)

-- a link's key, of which each half is an account
abbrev pub key_at : Graph → ℕ → ℕ
key_at G i = key_of (link_at G i)

-- the group that a link's record names: at its own strength
abbrev pub own_group : Graph → ℕ → ℕ
own_group G i = (row_at (index G) i).group

abbrev pub parent_of : Graph → ℕ → ℕ
parent_of G g = (group_row_at (index G) g).parent

-- the parent, if there is one
abbrev pub parent_there : Graph → ℕ → Option ℕ
parent_there G g = cond (eqb (parent_of G g) no_group) None (Some (parent_of G g))

module _ (G : Graph) (g : ℕ) where
  top_is : parent_of G g ≡ no_group → parent_there G g ≡ None
  top_is e = rw (eq-eqb (parent_of G g) no_group e) refl

  below_is : parent_of G g ≢ no_group → parent_there G g ≡ Some (parent_of G g)
  below_is n = rw (ne_eqb (parent_of G g) no_group n) refl

  -- by the number that the bytes have
  pub parent_not : {x : ℕ} → x ≡ parent_of G g → x ≡ no_group → None ≡ parent_there G g
  parent_not q z = sym (top_is (sym q ∙ z))

  pub parent_some : {x : ℕ} → x ≡ parent_of G g → x ≢ no_group → Some x ≡ parent_there G g
  parent_some q n = ap {B = Option ℕ} (λ y. Some y) q ∙ sym (below_is (λ z. n (q ∙ z)))

  -- by what the look-up gives
  module _ {r : Option ℕ} (q : r ≡ parent_there G g) where
    pub parent_none : r ≡ None → parent_of G g ≡ no_group
    parent_none h = go (same_or_not (parent_of G g) no_group)
      where
        go : (parent_of G g ≡ no_group) ⊎ (parent_of G g ≢ no_group) → parent_of G g ≡ no_group
        go (inl e) = e
        go (inr n) = let z : ◌≡◌ {A = Option ℕ} None (Some (parent_of G g)) = sym h ∙ q ∙ below_is n in let y : ◌≡◌ {A = ℕ} 0 1 = cc in absurd (omega arith)

    pub parent_found : {p : ℕ} → r ≡ Some p → (p ≡ parent_of G g) × (p ≢ no_group)
    parent_found {p} h = go (same_or_not (parent_of G g) no_group)
      where
        go : (parent_of G g ≡ no_group) ⊎ (parent_of G g ≢ no_group) → (p ≡ parent_of G g) × (p ≢ no_group)
        go (inl e) = let z : ◌≡◌ {A = Option ℕ} (Some p) None = sym h ∙ q ∙ top_is e in let y : ◌≡◌ {A = ℕ} 0 1 = cc in absurd (omega arith)
        go (inr n) = let z : ◌≡◌ {A = Option ℕ} (Some p) (Some (parent_of G g)) = sym h ∙ q ∙ below_is n in let e : p ≡ parent_of G g = cc in (e, λ s. n (sym e ∙ s))

    -- as a number again
    pub parent_number : unwrap_or r no_group ≡ parent_of G g
    parent_number = go (same_or_not (parent_of G g) no_group)
      where
        go : (parent_of G g ≡ no_group) ⊎ (parent_of G g ≢ no_group) → unwrap_or r no_group ≡ parent_of G g
        go (inl e) = ap (λ o. unwrap_or o no_group) (q ∙ top_is e) ∙ sym e
        go (inr n) = ap (λ o. unwrap_or o no_group) (q ∙ below_is n)

-- its groups stand from at on
pub record GroupsAt (b : List ℕ) (at : ℕ) : Type 0 where
  pub is_index : IsIndex b
  pub place : at ≡ groups_place (index (graph_in b))

-- with the numbers of its links and groups
pub record Sized (b : List ℕ) (at m count : ℕ) : Type 0 where
  pub groups_at_lem : GroupsAt b at
  pub links : size (graph_in b) ≡ m
  pub groups : group_count (graph_in b) ≡ count

-- with all its numbers
pub record Shape (b : List ℕ) (n m at count : ℕ) : Type 0 where
  pub groups_at_lem : GroupsAt b at
  pub accounts : (graph_in b).n ≡ n
  pub links : size (graph_in b) ≡ m
  pub groups : group_count (graph_in b) ≡ count

-- what is known of it, as it was opened
abbrev pub Outlined : List ℕ → Outline → Type 0
Outlined b o = Shape b o.n o.m o.at o.groups

pub shape_sized : {b : List ℕ} {n m at count : ℕ} → Shape b n m at count → Sized b at m count
shape_sized S = record { groups_at_lem = S.groups_at_lem; links = S.links; groups = S.groups }

number_cases : (p : Group → Bool) (gs : List Group) → (group_number p gs < length gs) ⊎ (group_number p gs ≡ no_group)
unfolding group_number
number_cases p gs = go (test (ltb (position p gs) (length gs)))
  where
    go : (ltb (position p gs) (length gs) ≡ true) ⊎ (ltb (position p gs) (length gs) ≡ false)
        → (cond (ltb (position p gs) (length gs)) (position p gs) no_group < length gs) ⊎ (cond (ltb (position p gs) (length gs)) (position p gs) no_group ≡ no_group)
    go (inl c) = rw c (inl (ltb-true (position p gs) (length gs) c))
    go (inr c) = rw c (inr refl)

module _ {b : List ℕ} (I : IsIndex b) where
  abbrev G : Graph
  G = graph_in b

  pub proper : Proper G
  proper = graph_proper (field_at b 1) (pairs_in b (field_at b 3)) I.accepted.good

  pub index-order : InOrder G
  index-order = graph_in_order (field_at b 1) (pairs_in b (field_at b 3)) I.accepted.good

  pub few_links : size G ≤ max_links
  few_links = omega (arith, graph_size (field_at b 1) (pairs_in b (field_at b 3)), I.accepted.links)

  pub few_accounts : G.n ≤ max_accounts
  unfolding graph_of
  few_accounts = I.accepted.accounts

  -- what it says of a link's strength is a strength
  pub strength-range : (i : ℕ) → i < size G → (min_strength ≤ strength_at G i) × (strength_at G i ≤ max_strength)
  strength-range i l =
      let m = in_member G.links (get_d_in (link 0 0) G.links i l) in
      let d = graph_distinct (field_at b 1) (pairs_in b (field_at b 3)) I.accepted.good in
      (strength_at_least_2 G (link_at G i) m, strength-max G proper d few_links (link_at G i) m)

  pub fits_groups : size G ≤ no_group
  fits_groups = omega (arith, few_links)

  pub few : group_count G ≤ size G
  few = few_groups G proper

  fits : IndexFits (index G)
  fits = index_fits G proper (omega (arith, few_accounts)) fits_groups (omega (arith, few_accounts))

  links_length : length (index G).links ≡ size G
  links_length = rows-length G proper fits_groups

  groups-length : length (index G).groups ≡ group_count G
  groups-length = group_rows_length G proper fits_groups

  byte_is : (p x : ℕ) → byte_at (encode (index G)) p ≡ x → byte_at b p ≡ x
  unfolding index_bytes
  byte_is p x q = ap (λ (s : List ℕ). byte_at s p) I.bytes ∙ q

  pub long : length b ≡ groups_place (index G) + 6 * group_count G + 1
  unfolding index_bytes
  long = ap length I.bytes ∙ encode-length (index G) ∙ omega (arith, groups-length)

  module _ (i : ℕ) (l : i < size G) where
    li : i < length (index G).links
    li = omega (arith, links_length)

    -- its accounts are small
    pub ends_small : ((link_at G i).lo < max_accounts) × ((link_at G i).hi < max_accounts)
    ends_small =
        let h = in_member G.links (get_d_in (link 0 0) G.links i l) in
        let o = proper.ordered (link_at G i) h in
        let b = proper.below (link_at G i) h in
        (omega (arith, o, b, few_accounts), omega (arith, b, few_accounts))

    pub link_room : 5 + 8 * i + 8 ≤ length b
    link_room = omega (arith, long, links_length, l)

    row_byte : (j x : ℕ) → j < 8 → byte_at b (5 + 8 * i + j) ≡ get_or (Rattle.truss.specs.Index.link_bytes (row_at (index G) i)) j 0
    row_byte j x k = byte_is (5 + 8 * i + j) _ (link_byte (index G) i j li k)

    row_fits : Rattle.laws.proofs.Decoding.LinkRowFits (row_at (index G) i)
    row_fits = fits.links_fit (row_at (index G) i) (get_d_in _ (index G).links i li)

    row_is : row_at (index G) i ≡ link_row G (groups G) i
    row_is = row_at_lem G proper fits_groups i l

    field_is : (p j x : ℕ) → p ≡ 5 + 8 * i + j → x < 65536 → byte_at b (5 + 8 * i + j) ≡ x / 256 % 256 → byte_at b (5 + 8 * i + (j + 1)) ≡ x % 256 → field_at b p ≡ x
    field_is p j x q h u v =
        let e : p + 1 ≡ 5 + 8 * i + (j + 1) = omega arith in
        field_of b p x h (ap (byte_at b) q ∙ u) (ap (byte_at b) e ∙ v)

    pub lower_is : field_at b (5 + 8 * i + 1) ≡ (link_at G i).lo
    unfolding link_row
    lower_is = field_is (5 + 8 * i + 1) 1 (row_at (index G) i).lo refl row_fits.lo_fits (row_byte 1 0 (omega arith)) (row_byte 2 0 (omega arith)) ∙ ap (λ (r : LinkRow). r.lo) row_is

    pub higher_is : field_at b (5 + 8 * i + 3) ≡ (link_at G i).hi
    unfolding link_row
    higher_is = field_is (5 + 8 * i + 3) 3 (row_at (index G) i).hi refl row_fits.hi_fits (row_byte 3 0 (omega arith)) (row_byte 4 0 (omega arith)) ∙ ap (λ (r : LinkRow). r.hi) row_is

    pub strength_is : byte_at b (5 + 8 * i + 5) ≡ strength_at G i
    unfolding link_row
    strength_is = row_byte 5 0 (omega arith) ∙ ap (λ (r : LinkRow). r.strength) row_is

    pub own_group_is : field_at b (5 + 8 * i + 6) ≡ own_group G i
    own_group_is = field_is (5 + 8 * i + 6) 6 (row_at (index G) i).group refl row_fits.group_fits (row_byte 6 0 (omega arith)) (row_byte 7 0 (omega arith))

    pub own_same : own_group G i ≡ own G proper fits_groups i
    unfolding link_row
    own_same = (number_is G proper fits_groups (link_at G i) i (record { in_range = li; is_lo = ap (λ (r : LinkRow). r.lo) row_is; is_hi = ap (λ (r : LinkRow). r.hi) row_is })).2

    -- every link names a stored group
    pub own_below : own_group G i < group_count G
    own_below = subst (λ (x : ℕ). x < group_count G) (sym own_same) (own_group_named G proper fits_groups i l)

  module _ (g : ℕ) (l : g < group_count G) where
    lg : g < length (index G).groups
    lg = omega (arith, groups-length)

    pub group_room : groups_place (index G) + 6 * g + 6 ≤ length b
    group_room = omega (arith, long, l)

    group_row_is : group_row_at (index G) g ≡ group_row (groups G) (stored G g)
    group_row_is = group_row_at_lem G proper fits_groups g l

    group_row_byte : (j : ℕ) → j < 6 → byte_at b (groups_place (index G) + 6 * g + j) ≡ get_or (Rattle.truss.specs.Index.group_bytes (group_row_at (index G) g)) j 0
    group_row_byte j k = byte_is (groups_place (index G) + 6 * g + j) _ (group_byte (index G) g j lg k)

    group_row_fits : Rattle.laws.proofs.Decoding.GroupRowFits (group_row_at (index G) g)
    group_row_fits = fits.groups_fit (group_row_at (index G) g) (get_d_in _ (index G).groups g lg)

    group_field : (p j x : ℕ) → p ≡ groups_place (index G) + 6 * g + j → x < 65536 → byte_at b (groups_place (index G) + 6 * g + j) ≡ x / 256 % 256
        → byte_at b (groups_place (index G) + 6 * g + (j + 1)) ≡ x % 256 → field_at b p ≡ x
    group_field p j x q h u v =
        let e : p + 1 ≡ groups_place (index G) + 6 * g + (j + 1) = omega arith in
        field_of b p x h (ap (byte_at b) q ∙ u) (ap (byte_at b) e ∙ v)

    pub parent_is : field_at b (groups_place (index G) + 6 * g + 1) ≡ parent_of G g
    parent_is = group_field (groups_place (index G) + 6 * g + 1) 1 (group_row_at (index G) g).parent refl group_row_fits.parent_fits (group_row_byte 1 (omega arith)) (group_row_byte 2 (omega arith))

    pub group_strength_is : byte_at b (groups_place (index G) + 6 * g + 3) ≡ (stored G g).strength
    unfolding group_row
    group_strength_is = group_row_byte 3 (omega arith) ∙ ap (λ (r : GroupRow). r.strength) group_row_is

    pub least_is : field_at b (groups_place (index G) + 6 * g + 4) ≡ least_link (stored G g)
    unfolding group_row
    least_is =
        group_field (groups_place (index G) + 6 * g + 4) 4 (group_row_at (index G) g).least refl group_row_fits.least_fits (group_row_byte 4 (omega arith)) (group_row_byte 5 (omega arith))
        ∙ ap (λ (r : GroupRow). r.least) group_row_is

    pub parent_cases : (parent_of G g < group_count G) ⊎ (parent_of G g ≡ no_group)
    unfolding group_row parent
    parent_cases = rw (ap (λ (r : GroupRow). r.parent) group_row_is) (number_cases _ (groups G))

-- an index that was opened
module _ {b : List ℕ} {n m at count : ℕ} (O : Opened b n m at count) where
  is_n : n ≡ field_at b 1
  is_n = (head_good kind_index_head b (record { n = n; m = m }) O.head).is_n

  is_m : m ≡ field_at b 3
  is_m = (head_good kind_index_head b (record { n = n; m = m }) O.head).is_m

  same : graph_of n (pairs_in b m) ≡ graph_in b
  same = ap₂ (λ (x y : ℕ). graph_of x (pairs_in b y)) is_n is_m

  pub opened_index : IsIndex b
  opened_index = record {
    accepted = subst (λ (x : ℕ). Accepted x (pairs_in b (field_at b 3))) is_n (subst (λ (y : ℕ). Accepted n (pairs_in b y)) is_m (pairs_accepted b n m O.head O.strong));
    bytes = O.bytes ∙ ap index_bytes same;
  }

  pub opened_graph : read_index b ≡ passed (graph_in b)
  opened_graph = takes b n m O.head O.strong O.bytes ∙ ap {B = Rattle.truss.specs.Refusal.Checked Graph} (λ x. passed x) same

  pub opened_shape : Shape b n m at count
  unfolding graph_of
  opened_shape =
      let I = opened_index in
      let j : length (index (graph_of n (pairs_in b m))).joins ≡ length (index (graph_in b)).joins = ap (λ (x : Graph). length (index x).joins) same in
      let k : count ≡ length (index (graph_in b)).groups = O.groups_are ∙ ap (λ (x : Graph). length (index x).groups) same in
      let s : size (graph_in b) ≡ m = graph_size (field_at b 1) (pairs_in b (field_at b 3)) ∙ length-map (range 0 (field_at b 3)) (strong_pair b) ∙ range_length 0 (field_at b 3) ∙ sym is_m in
      record {
        groups_at_lem = record { is_index = I; place = omega (arith, O.place, j, s, rows-length (graph_in b) (proper I) (fits_groups I)) };
        accounts = sym is_n;
        links = s;
        groups = sym (k ∙ group_rows_length (graph_in b) (proper I) (fits_groups I));
      }

pub sized_few : {b : List ℕ} {at m count : ℕ} → Sized b at m count → (count ≤ m) × (m ≤ max_links)
sized_few A = (omega (arith, few A.groups_at_lem.is_index, A.links, A.groups), omega (arith, few_links A.groups_at_lem.is_index, A.links))

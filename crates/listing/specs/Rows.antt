-- The rows, and what the functions that write them ask and give. Assumes nothing.
use Rattle.std.specs.Prelude.{Result, Ok, Err, ◌≡◌, ◌⊎◌, ℕ, ◌*◌, ◌≤◌, ◌<◌, length}
use Rattle.std.proofs.Math.Path.{refl, ap}
use Rattle.std.proofs.Common.{sym, ◌∙◌, subst, inl, inr, arith, ext_get_or, lt-ltb, le-ltb}
use mathlib.Core.List.{List, [], ◌∷◌, ◌++◌, map}
use mathlib.Core.List.{Memᴰ as In}
use Rattle.std.proofs.Math.ListN.{drop}
use Rattle.std.proofs.lemmas.List.{length-map}
use Rattle.truss.specs.Limits.{no_group}
use Rattle.truss.specs.Lists.{concat_map, range}
use Rattle.truss.specs.Lists.{count as howMany}
use Rattle.truss.specs.Graph.{Graph, link_at}
use Rattle.truss.specs.Group.{groups, least_link}
use Rattle.truss.specs.Refusal.{passed, refuse, and_then, map_passed}
use Rattle.truss.specs.Index.{GroupRow, group_row}
use Rattle.truss.specs.IndexFile.{read_index}
use Rattle.truss.specs.Listing.{Row, row, rows}
use Rattle.truss.specs.Call.{done, write, check_room}
use Rattle.laws.proofs.Members.{first_in, range_length}
use Rattle.laws.proofs.Sets.{map_at, map_range_at}
use Rattle.laws.proofs.Tree.{group_row_at_lem}
use Rattle.laws.proofs.Groups.{size}
use Rattle.laws.proofs.Stored.{group_count, no_such_group, stored, stored_at, stored_in}
use Rattle.columns.specs.Columns.{cell, COLUMNS}
use Rattle.wire.specs.Writing.{written, written_start, written-length, up_to, up_to_rows, up_to_length}
use Rattle.limits.specs.declared.refusal.Refusal.{Refusal}
use Rattle.limits.specs.declared.refusal.Refusal.TheVariants.{NoRoom}
use Rattle.limits.specs.Refusals.{number_of, checked}
use Rattle.index.specs.Build.{given_back, reply_of}
use Rattle.stored.specs.Rows.{graph_in, IsIndex, parent_of, proper, fits_groups, few, few_links, parent_cases, Sized}
use Rattle.counting.specs.Counting.{holds_of}
use Rattle.counting.specs.Gives.{Counted}

abbrev pub row_numbers : Row → List ℕ
row_numbers r = r.strength ∷ r.parent ∷ r.links ∷ r.accounts ∷ r.lo ∷ r.hi ∷ []

abbrev pub row_of : Graph → ℕ → List ℕ
row_of G g = row_numbers (row G (groups G) (stored G g))

-- the numbers of all rows of a graph
unfoldable pub row_list : Graph → List ℕ
unfolding concat_map rows
row_list G = concat_map row_numbers (rows G)

-- THE PROMISE: result and every number of the lent buffer are what the definition gives
abbrev pub RowsGives : List ℕ → List ℕ → Result ℕ Refusal → List ℕ → Type 0
RowsGives b out r out' = given_back (checked r) out' ≡ write (check_room (map_passed row_list (read_index b)) out) out

-- the same, of the graph that was read
abbrev pub Lists : Graph → List ℕ → Result ℕ Refusal → List ℕ → Type 0
Lists G out r out' = given_back (checked r) out' ≡ write (check_room (passed (row_list G)) out) out

pub record RowsAsks (G : Graph) (m count : ℕ) (w : List ℕ) : Type 0 where
  pub size_is : length w ≡ COLUMNS * m
  pub links : (h : ℕ) → h < count → cell w m 5 h ≡ length (stored G h).members
  pub accounts : (h : ℕ) → h < count → cell w m 4 h ≡ howMany (holds_of G h) G.n

pub record RowAsks (G : Graph) (m count g : ℕ) (w : List ℕ) : Type 0 where
  pub all : RowsAsks G m count w
  pub in_range : g < count

module _ {b : List ℕ} {at m count g : ℕ} {w : List ℕ} (X : Sized b at m count) (A : RowAsks (graph_in b) m count g w) where
  I : IsIndex b
  I = X.groups_at_lem.is_index

  pub row_in : g < group_count (graph_in b)
  row_in = omega (arith, A.in_range, X.groups)

  pub row_room : g < m
  row_room = omega (arith, row_in, few I, X.links)

  pub least_in : {e : ℕ} → e ≡ least_link (stored (graph_in b) g) → e < size (graph_in b)
  least_in q =
      let s = stored_at (graph_in b) g row_in in
      omega (arith, q, (stored_in (graph_in b) g row_in (first_in (stored (graph_in b) g).members (subst (In s.least) (sym s.members_eq) s.least_in))).0)

  pub parent_small : {p : ℕ} → p ≡ parent_of (graph_in b) g → p < 65536
  parent_small {p} q = go (parent_cases I g row_in)
    where
      go : (parent_of (graph_in b) g < group_count (graph_in b)) ⊎ (parent_of (graph_in b) g ≡ no_group) → p < 65536
      go (inl l) = omega (arith, q, l, few I, few_links I)
      go (inr e) = omega (arith, q, e)

  pub row_is : {s p l a lo hi e : ℕ} → s ≡ (stored (graph_in b) g).strength → p ≡ parent_of (graph_in b) g → l ≡ cell w m 5 g → a ≡ cell w m 4 g → e ≡ least_link (stored (graph_in b) g) → lo ≡ (link_at (graph_in b) e).lo → hi ≡ (link_at (graph_in b) e).hi
      → s ∷ p ∷ l ∷ a ∷ lo ∷ hi ∷ [] ≡ row_of (graph_in b) g
  unfolding row group_row
  row_is qs qp ql qa qe qlo qhi =
      let p = qp ∙ ap (λ (r : GroupRow). r.parent) (group_row_at_lem (graph_in b) (proper I) (fits_groups I) g row_in) in
      let l = ql ∙ A.all.links g A.in_range in
      let a = qa ∙ A.all.accounts g A.in_range in
      let lo = qlo ∙ ap (λ (x : ℕ). (link_at (graph_in b) x).lo) qe in
      let hi = qhi ∙ ap (λ (x : ℕ). (link_at (graph_in b) x).hi) qe in
      λ i. qs i ∷ p i ∷ l i ∷ a i ∷ lo i ∷ hi i ∷ []

-- as the definition puts them together
rows_are : (G : Graph) → up_to (row_of G) (group_count G) ≡ row_list G
unfolding row_list rows
rows_are G =
    up_to_rows row_numbers (λ (g : ℕ). row G (groups G) (stored G g)) (group_count G)
    ∙ ap (concat_map row_numbers) (sym by_number)
  where
    f : ℕ → Row
    f g = row G (groups G) (stored G g)

    none : Row
    none = record { strength = 0; parent = 0; links = 0; accounts = 0; lo = 0; hi = 0 }

    long : length (map (row G (groups G)) (groups G)) ≡ group_count G
    long = length-map (groups G) (row G (groups G))

    by_number : map (row G (groups G)) (groups G) ≡ map f (range 0 (group_count G))
    by_number = ext_get_or none (map (row G (groups G)) (groups G)) (map f (range 0 (group_count G)))
        (long ∙ sym (length-map (range 0 (group_count G)) f ∙ range_length 0 (group_count G)))
        (λ i l. map_at (row G (groups G)) no_such_group none (groups G) i (omega (arith, l, long)) ∙ sym (map_range_at f none 0 (group_count G) i (omega (arith, l, long)) ∙ ap f (omega arith)))

pub rows-length : (G : Graph) (count : ℕ) → length (up_to (row_of G) count) ≡ 6 * count
rows-length G count = up_to_length (row_of G) 6 (λ g. refl) count ∙ omega arith

-- rows leave the length
pub out_long : (G : Graph) (out₀ : List ℕ) {g count : ℕ} {out : List ℕ} → g ≤ count → 6 * count ≤ length out₀ → out ≡ written out₀ 0 (up_to (row_of G) g) → length out ≡ length out₀
out_long G out₀ {g} {count} l room q = ap length q ∙ written-length out₀ 0 (up_to (row_of G) g) (omega (arith, rows-length G g))

-- what counting leaves
pub counted_rows : {b : List ℕ} {m count : ℕ} {w w' : List ℕ} → length w ≡ COLUMNS * m → Counted b m count w w' → RowsAsks (graph_in b) m count w'
counted_rows q C = record { size_is = C.length_is ∙ q; links = C.links; accounts = C.accounts }

-- ---- the whole, with as many rows as there are groups

module _ (G : Graph) (out : List ℕ) {count : ℕ} (many : group_count G ≡ count) where
  bytes : up_to (row_of G) count ≡ row_list G
  bytes = ap (up_to (row_of G)) (sym many) ∙ rows_are G

  long : length (row_list G) ≡ 6 * count
  long = ap length (sym bytes) ∙ rows-length G count

  pub lists_12 : length out < 6 * count → Lists G out (Err NoRoom) out
  unfolding check_room and_then write reply_of checked number_of
  lists_12 l = rw (lt-ltb (length out) (length (row_list G)) (omega (arith, l, long))) refl

  pub lists-wrote : {out' : List ℕ} → 6 * count ≤ length out → out' ≡ written out 0 (up_to (row_of G) count) → Lists G out (Ok (6 * count)) out'
  unfolding check_room and_then write reply_of checked
  lists-wrote {out'} l u =
      let e : out' ≡ row_list G ++ drop (length (row_list G)) out = u ∙ ap (written out 0) bytes ∙ written_start out (row_list G) in
      let v : done (6 * count) ≡ done (length (row_list G)) = ap done (sym long) in
      rw (le-ltb (length out) (length (row_list G)) (omega (arith, l, long))) (λ i. record { reply = v i; buffer = e i })

-- 7, and the call by the graph that was read

module _ (b out : List ℕ) where
  pub rows_7 : (r : Result ℕ Refusal) → read_index b ≡ refuse 7 0 → checked r ≡ refuse 7 0 → RowsGives b out r out
  unfolding map_passed check_room and_then write reply_of
  rows_7 r q R = ap (λ x. given_back x out) R ∙ rw (q, map_passed, check_room, and_then, write) refl

  pub rows_read : {G : Graph} (r : Result ℕ Refusal) {out' : List ℕ} → read_index b ≡ passed G → Lists G out r out' → RowsGives b out r out'
  unfolding map_passed
  rows_read r q L = L ∙ rw (q, map_passed) refl

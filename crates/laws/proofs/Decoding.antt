-- The bytes of an index say what the index says: `decode` undoes `encode`.
use mathlib.Core.Path.{◌≡◌, refl, sym, ap, ap₂, ◌∙◌}
use mathlib.Core.Option.{some}
use mathlib.Core.Bool.{Bool, true, false, cond}
use mathlib.Core.List.{List, [], ◌∷◌, ◌++◌, map, append_assoc, append-nil}
use mathlib.Core.List.Memᴰ.{head as here}
use mathlib.Core.List.Memᴰ.{tail as there}
use mathlib.Core.List.{Memᴰ as In}
use Prim.Native.Nat.{ℕ, zero, suc, ◌+◌, ◌/◌, ◌%◌, ◌≤◌, ◌<◌}
use native.Mathlib.Nat.{le_refl, zero-add, suc-add, le_dest}
use native.Mathlib.Omega.{arith}
use lib.Dec.{eqb}
use lib.ListN.{length, get_or, length-append}
use lib.Seq.{take_at, drop_at}
use Rattle.truss.specs.Lists.{filter, concat_map}
use Rattle.truss.specs.Forest.{Join}
use Rattle.truss.specs.Record.{Record, kind_index_head, kind_strong_link, kind_join, kind_group, kind_end, body_length, field, from_bytes, end_bytes, cut, records, of_kind}
use Rattle.truss.specs.Index.{Index, LinkRow, GroupRow, link_bytes, join_bytes, group_bytes, encode, read_link_row, read_join, read_group_row, decode}

-- ---- a two-byte field

pub field_back : (x : ℕ) → x < 65536 → from_bytes (x / 256 % 256) (x % 256) ≡ x
field_back x h = omega arith

-- ---- records

cut_cons : (r k : ℕ) (body rest : List ℕ) → body_length k ≡ some (length body) → cut (suc r) (k ∷ (body ++ rest)) ≡ record { kind = k; body = body } ∷ cut r rest
unfolding cut
cut_cons r k body rest h =
    let a = take_at body rest (length body) refl in
    let b = drop_at body rest (length body) refl in
    rw (h, cut) (λ i. record { kind = k; body = a i } ∷ cut r (b i))

module _ {A : Type 0} (k : ℕ) (body : A → List ℕ) (fixed : (x : A) → body_length k ≡ some (length (body x))) where
  bytes : A → List ℕ
  bytes x = k ∷ body x

  rec : A → Record
  rec x = record { kind = k; body = body x }

  cut-concat_map : (xs : List A) (rest : List ℕ) (r : ℕ) → cut (length xs + r) (concat_map bytes xs ++ rest) ≡ map rec xs ++ cut r rest
  unfolding concat_map bytes rec
  cut-concat_map [] rest r = ap (λ (q : ℕ). cut q rest) (zero-add r)
  cut-concat_map (x ∷ xs) rest r =
      ap₂ cut (suc-add (length xs) r) (ap {B = List ℕ} (λ b. k ∷ b) (append_assoc (body x) (concat_map bytes xs) rest))
      ∙ cut_cons (length xs + r) k (body x) (concat_map bytes xs ++ rest) (fixed x)
      ∙ ap {B = List Record} (λ rs. rec x ∷ rs) (cut-concat_map xs rest r)

  concat_map_long : (xs : List A) → length xs ≤ length (concat_map bytes xs)
  unfolding concat_map bytes
  concat_map_long [] = le_refl 0
  concat_map_long (x ∷ xs) = omega (arith, concat_map_long xs, length-append (bytes x) (concat_map bytes xs))

-- ---- the records of a kind

pub filter-append : {A : Type 0} (p : A → Bool) (xs ys : List A) → filter p (xs ++ ys) ≡ filter p xs ++ filter p ys
unfolding filter
filter-append p [] ys = refl
filter-append {A} p (x ∷ xs) ys = go (p x) refl (filter-append p xs ys)
  where
    go : (b : Bool) → p x ≡ b → filter p (xs ++ ys) ≡ filter p xs ++ filter p ys → cond (p x) (x ∷ filter p (xs ++ ys)) (filter p (xs ++ ys)) ≡ cond (p x) (x ∷ filter p xs) (filter p xs) ++ filter p ys
    go true c ih = rw c (ap {B = List A} (λ r. x ∷ r) ih)
    go false c ih = rw c ih

filter_map_yes : {A B : Type 0} (p : B → Bool) (f : A → B) → ((x : A) → p (f x) ≡ true) → (xs : List A) → filter p (map f xs) ≡ map f xs
unfolding filter
filter_map_yes p f h [] = refl
filter_map_yes {B} p f h (x ∷ xs) = rw (h x) (ap {B = List B} (λ r. f x ∷ r) (filter_map_yes p f h xs))

filter_map_no : {A B : Type 0} (p : B → Bool) (f : A → B) → ((x : A) → p (f x) ≡ false) → (xs : List A) → filter p (map f xs) ≡ []
unfolding filter
filter_map_no p f h [] = refl
filter_map_no p f h (x ∷ xs) = rw (h x) (filter_map_no p f h xs)

map_back : {A B : Type 0} (g : B → A) (f : A → B) (xs : List A) → ((x : A) → In x xs → g (f x) ≡ x) → map g (map f xs) ≡ xs
map_back g f [] h = refl
map_back g f (x ∷ xs) h =
    let a = h x (here refl) in
    let b = map_back g f xs (λ y m. h y (there m)) in
    λ i. a i ∷ b i

-- ---- an index whose two-byte fields fit

pub record LinkRowFits (r : LinkRow) : Type 0 where
  pub lo_fits : r.lo < 65536
  pub hi_fits : r.hi < 65536
  pub group_fits : r.group < 65536

pub record JoinFits (x : Join) : Type 0 where
  pub lower_fits : x.lower < 65536
  pub higher_fits : x.higher < 65536

pub record GroupRowFits (r : GroupRow) : Type 0 where
  pub parent_fits : r.parent < 65536
  pub least_fits : r.least < 65536

pub record IndexFits (x : Index) : Type 0 where
  pub n_fits : x.n < 65536
  pub m_fits : x.m < 65536
  pub links_fit : (r : LinkRow) → In r x.links → LinkRowFits r
  pub joins_fit : (y : Join) → In y x.joins → JoinFits y
  pub groups_fit : (r : GroupRow) → In r x.groups → GroupRowFits r

module _ (x : Index) where
  link_body : LinkRow → List ℕ
  link_body r = field r.lo ++ field r.hi ++ (r.strength ∷ field r.group)

  join_body : Join → List ℕ
  join_body y = field y.lower ++ field y.higher ++ (y.weight ∷ [])

  group_body : GroupRow → List ℕ
  group_body r = field r.parent ++ (r.strength ∷ field r.least)

  link_rec : LinkRow → Record
  link_rec r = record { kind = kind_strong_link; body = link_body r }

  join_rec : Join → Record
  join_rec y = record { kind = kind_join; body = join_body y }

  group_rec : GroupRow → Record
  group_rec r = record { kind = kind_group; body = group_body r }

  head_rec : Record
  head_rec = record { kind = kind_index_head; body = field x.n ++ field x.m }

  end_rec : Record
  end_rec = record { kind = kind_end; body = [] }

  -- the records of the bytes
  all-records : List Record
  all-records = head_rec ∷ (map link_rec x.links ++ (map join_rec x.joins ++ (map group_rec x.groups ++ (end_rec ∷ []))))

  -- the bytes after the head
  rest_bytes : List ℕ
  rest_bytes = concat_map link_bytes x.links ++ (concat_map join_bytes x.joins ++ (concat_map group_bytes x.groups ++ end_bytes))

  rest-records : List Record
  rest-records = map link_rec x.links ++ (map join_rec x.joins ++ (map group_rec x.groups ++ (end_rec ∷ [])))

  cut-rest : (r : ℕ) → cut (length x.links + (length x.joins + (length x.groups + suc r))) rest_bytes ≡ rest-records
  unfolding rest_bytes rest-records end_rec link_rec join_rec group_rec link_body join_body group_body body_length bytes rec cut
  cut-rest r =
      cut-concat_map kind_strong_link link_body (λ y. refl) x.links _ (length x.joins + (length x.groups + suc r))
      ∙ ap {B = List Record} (λ rs. map link_rec x.links ++ rs)
      (cut-concat_map kind_join join_body (λ y. refl) x.joins _ (length x.groups + suc r)
      ∙ ap {B = List Record} (λ rs. map join_rec x.joins ++ rs)
      (cut-concat_map kind_group group_body (λ y. refl) x.groups end_bytes (suc r) ∙ ap {B = List Record} (λ rs. map group_rec x.groups ++ rs) (end r)))
    where
      end : (r : ℕ) → cut (suc r) end_bytes ≡ end_rec ∷ []
      end zero = refl
      end (suc q) = refl

  records_of : records (encode x) ≡ all-records
  unfolding records encode all-records head_rec rest_bytes rest-records body_length bytes link_body join_body group_body
  records_of = ap {B = List Record} (λ rs. head_rec ∷ rs) (ap (λ (q : ℕ). cut q rest_bytes) (sym enough.1 ∙ shape) ∙ cut-rest enough.0)
    where
      long : length x.links + (length x.joins + (length x.groups + 1)) ≤ suc (suc (suc (suc (length rest_bytes))))
      long =
          omega (
            arith,
            concat_map_long kind_strong_link link_body (λ y. refl) x.links,
            concat_map_long kind_join join_body (λ y. refl) x.joins,
            concat_map_long kind_group group_body (λ y. refl) x.groups,
            length-append (concat_map link_bytes x.links) (concat_map join_bytes x.joins ++ (concat_map group_bytes x.groups ++ end_bytes)),
            length-append (concat_map join_bytes x.joins) (concat_map group_bytes x.groups ++ end_bytes),
            length-append (concat_map group_bytes x.groups) end_bytes,
          )

      enough : (r : ℕ) × (length x.links + (length x.joins + (length x.groups + 1)) + r ≡ suc (suc (suc (suc (length rest_bytes)))))
      enough = le_dest long

      shape : length x.links + (length x.joins + (length x.groups + 1)) + enough.0 ≡ length x.links + (length x.joins + (length x.groups + suc enough.0))
      shape = omega arith

  -- ---- by kind

  is_kind : ℕ → Record → Bool
  is_kind k r = eqb r.kind k

  kept : (k : ℕ) → filter (is_kind k) all-records
      ≡ filter (is_kind k) (head_rec ∷ []) ++ (filter (is_kind k) (map link_rec x.links) ++ (filter (is_kind k) (map join_rec x.joins) ++ (filter (is_kind k) (map group_rec x.groups) ++ filter (is_kind k) (end_rec ∷ []))))
  unfolding all-records
  kept k =
      filter-append (is_kind k) (head_rec ∷ []) _
      ∙ ap {B = List Record} (λ rs. filter (is_kind k) (head_rec ∷ []) ++ rs)
      (filter-append (is_kind k) (map link_rec x.links) _
      ∙ ap {B = List Record} (λ rs. filter (is_kind k) (map link_rec x.links) ++ rs)
      (filter-append (is_kind k) (map join_rec x.joins) _
      ∙ ap {B = List Record} (λ rs. filter (is_kind k) (map join_rec x.joins) ++ rs) (filter-append (is_kind k) (map group_rec x.groups) (end_rec ∷ []))))

  kept_links : filter (is_kind kind_strong_link) all-records ≡ map link_rec x.links
  unfolding is_kind head_rec end_rec link_rec join_rec group_rec filter
  kept_links =
      kept kind_strong_link
      ∙ rw (filter_map_yes (is_kind kind_strong_link) link_rec (λ y. refl) x.links, filter_map_no (is_kind kind_strong_link) join_rec (λ y. refl) x.joins, filter_map_no (is_kind kind_strong_link) group_rec (λ y. refl) x.groups)
      (append-nil (map link_rec x.links))

  kept_joins : filter (is_kind kind_join) all-records ≡ map join_rec x.joins
  unfolding is_kind head_rec end_rec link_rec join_rec group_rec filter
  kept_joins =
      kept kind_join
      ∙ rw (filter_map_no (is_kind kind_join) link_rec (λ y. refl) x.links, filter_map_yes (is_kind kind_join) join_rec (λ y. refl) x.joins, filter_map_no (is_kind kind_join) group_rec (λ y. refl) x.groups)
      (append-nil (map join_rec x.joins))

  kept-groups : filter (is_kind kind_group) all-records ≡ map group_rec x.groups
  unfolding is_kind head_rec end_rec link_rec join_rec group_rec filter
  kept-groups =
      kept kind_group
      ∙ rw (filter_map_no (is_kind kind_group) link_rec (λ y. refl) x.links, filter_map_no (is_kind kind_group) join_rec (λ y. refl) x.joins, filter_map_yes (is_kind kind_group) group_rec (λ y. refl) x.groups)
      (append-nil (map group_rec x.groups))

  pub decode-encode : IndexFits x → decode (encode x) ≡ x
  unfolding decode of_kind records is_kind head_rec all-records link_rec join_rec group_rec link_body join_body group_body
  decode-encode fits = λ i. record {
    n = n_back i;
    m = m_back i;
    links = links_back i;
    joins = joins_back i;
    groups = groups-back i;
  }
    where
      n_back : (decode (encode x)).n ≡ x.n
      n_back = ap (λ (rs : List Record). from_bytes (get_or (get_or rs 0 (record { kind = 0; body = [] })).body 0 0) (get_or (get_or rs 0 (record { kind = 0; body = [] })).body 1 0)) records_of
          ∙ field_back x.n fits.n_fits

      m_back : (decode (encode x)).m ≡ x.m
      m_back = ap (λ (rs : List Record). from_bytes (get_or (get_or rs 0 (record { kind = 0; body = [] })).body 2 0) (get_or (get_or rs 0 (record { kind = 0; body = [] })).body 3 0)) records_of
          ∙ field_back x.m fits.m_fits

      link-back : (r : LinkRow) → In r x.links → read_link_row (link_rec r) ≡ r
      link-back r m =
          let f = fits.links_fit r m in
          λ i. record { lo = field_back r.lo f.lo_fits i; hi = field_back r.hi f.hi_fits i; strength = r.strength; group = field_back r.group f.group_fits i }

      join-back : (y : Join) → In y x.joins → read_join (join_rec y) ≡ y
      join-back y m =
          let f = fits.joins_fit y m in
          λ i. record { lower = field_back y.lower f.lower_fits i; higher = field_back y.higher f.higher_fits i; weight = y.weight }

      group_back : (r : GroupRow) → In r x.groups → read_group_row (group_rec r) ≡ r
      group_back r m =
          let f = fits.groups_fit r m in
          λ i. record { parent = field_back r.parent f.parent_fits i; strength = r.strength; least = field_back r.least f.least_fits i }

      links_back : (decode (encode x)).links ≡ x.links
      links_back = ap (map read_link_row) (ap (filter (is_kind kind_strong_link)) records_of ∙ kept_links) ∙ map_back read_link_row link_rec x.links link-back

      joins_back : (decode (encode x)).joins ≡ x.joins
      joins_back = ap (map read_join) (ap (filter (is_kind kind_join)) records_of ∙ kept_joins) ∙ map_back read_join join_rec x.joins join-back

      groups-back : (decode (encode x)).groups ≡ x.groups
      groups-back = ap (map read_group_row) (ap (filter (is_kind kind_group)) records_of ∙ kept-groups) ∙ map_back read_group_row group_rec x.groups group_back

-- The index of a graph: what its records say, its bytes, and what the bytes of an index say.
use Rattle.std.specs.Prelude.{List, [], ◌∷◌, ◌++◌, map, ℕ, length, get_or}
use Rattle.truss.specs.Lists.{concat_map, range}
use Rattle.truss.specs.Graph.{Graph, link_at}
use Rattle.truss.specs.Strength.{strength}
use Rattle.truss.specs.Forest.{Join, forest}
use Rattle.truss.specs.Group.{Group, least_link, groups, group_of, parent}
use Rattle.truss.specs.Record.{kind_index_head, kind_strong_link, kind_join, kind_group, field, byte_at, field_at, head_bytes, end_bytes, Record, records, of_kind}

-- ---- what an index says

-- "2 strong link: lower account (2), higher account (2), strength (1), group (2)", and "no strong link carries FFFF"
pub record LinkRow : Type 0 where
  pub lo : ℕ
  pub hi : ℕ
  pub strength : ℕ
  pub group : ℕ

-- "4 group: parent (2), FFFF for none, strength (1), least link (2)"
pub record GroupRow : Type 0 where
  pub parent : ℕ
  pub strength : ℕ
  pub least : ℕ

pub record Index : Type 0 where
  pub n : ℕ
  pub m : ℕ
  pub links : List LinkRow
  pub joins : List Join
  pub groups : List GroupRow

-- "A strong link names the group at its own strength"; "a link of strength 2 is a stored group of its own"
unfoldable pub link_row : Graph → List Group → ℕ → LinkRow
unfolding strength group_of
link_row G gs i =
    let s = strength G (link_at G i) in
    record { lo = (link_at G i).lo; hi = (link_at G i).hi; strength = s; group = group_of G gs s i }

unfoldable pub group_row : List Group → Group → GroupRow
unfolding parent
group_row gs g = record { parent = parent gs g; strength = g.strength; least = least_link g }

-- "An index is head, strong links by lower then higher account, joins in forest order, groups by falling strength then least link, end"
unfoldable pub index : Graph → Index
unfolding groups link_row group_row forest range
index G =
    let gs = groups G in
    record {
      n = G.n;
      m = length G.links;
      links = map (link_row G gs) (range 0 (length G.links));
      joins = forest G;
      groups = map (group_row gs) gs;
    }

-- ---- its bytes

abbrev pub link_bytes : LinkRow → List ℕ
link_bytes r = kind_strong_link ∷ (field r.lo ++ field r.hi ++ (r.strength ∷ field r.group))

-- "3 join: lower link (2), higher link (2), weight (1)"
abbrev pub join_bytes : Join → List ℕ
join_bytes x = kind_join ∷ (field x.lower ++ field x.higher ++ (x.weight ∷ []))

abbrev pub group_bytes : GroupRow → List ℕ
group_bytes r = kind_group ∷ (field r.parent ++ (r.strength ∷ field r.least))

-- "each part is written straight after the part before it"
unfoldable pub encode : Index → List ℕ
unfolding concat_map
encode x =
    head_bytes kind_index_head x.n x.m
    ++ (concat_map link_bytes x.links ++ (concat_map join_bytes x.joins ++ (concat_map group_bytes x.groups ++ end_bytes)))

unfoldable pub index_bytes : Graph → List ℕ
unfolding encode index
index_bytes G = encode (index G)

-- ---- what the bytes of an index say

abbrev pub read_link_row : Record → LinkRow
read_link_row r = record { lo = field_at r.body 0; hi = field_at r.body 2; strength = byte_at r.body 4; group = field_at r.body 5 }

abbrev pub read_join : Record → Join
read_join r = record { lower = field_at r.body 0; higher = field_at r.body 2; weight = byte_at r.body 4 }

abbrev pub read_group_row : Record → GroupRow
read_group_row r = record { parent = field_at r.body 0; strength = byte_at r.body 2; least = field_at r.body 3 }

-- the first record
abbrev pub head_of : List ℕ → Record
head_of b = get_or (records b) 0 (record { kind = 0; body = [] })

-- record by record (laws: decode-index, that the bytes of a graph's index say its index)
unfoldable pub decode : List ℕ → Index
unfolding records of_kind
decode b =
    let rs = records b in
    record {
      n = field_at (head_of b).body 0;
      m = field_at (head_of b).body 2;
      links = map read_link_row (of_kind kind_strong_link rs);
      joins = map read_join (of_kind kind_join rs);
      groups = map read_group_row (of_kind kind_group rs);
    }

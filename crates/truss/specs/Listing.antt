-- What the two programs print: the lister's rows, and the text of both as bytes (ASCII; every line ends with a newline).
use Rattle.std.specs.Prelude.{cond, List, [], ◌∷◌, ◌++◌, map, ℕ, zero, suc, ◌+◌, ◌/◌, ◌%◌, eqb, ltb, length, get_or}
use Rattle.truss.specs.Limits.{no_group}
use Rattle.truss.specs.Lists.{concat_map, count, range}
use Rattle.truss.specs.Graph.{Graph, link_at, graph_of}
use Rattle.truss.specs.Group.{Group, least_link, groups, parent}
use Rattle.truss.specs.Refusal.{Checked, passed, refused, map_passed}
use Rattle.truss.specs.LinksFile.{read_links}
use Rattle.truss.specs.Index.{index_bytes}
use Rattle.truss.specs.IndexFile.{read_index}
use Rattle.truss.specs.Question.{holds, accounts_held}
use Rattle.truss.specs.Call.{index_of}

-- ---- the lister's rows

-- "group number, strength, parent or `-`, links (nested ones too), accounts held, the two ends of the least link"
pub record Row : Type 0 where
  pub strength : ℕ
  pub parent : ℕ
  pub links : ℕ
  pub accounts : ℕ
  pub lo : ℕ
  pub hi : ℕ

unfoldable pub row : Graph → List Group → Group → Row
unfolding parent count holds
row G gs g =
    record {
      strength = g.strength;
      parent = parent gs g;
      links = length g.members;
      accounts = accounts_held G g;
      lo = (link_at G (least_link g)).lo;
      hi = (link_at G (least_link g)).hi;
    }

-- one for each stored group, by its number
unfoldable pub rows : Graph → List Row
unfolding groups row
rows G = let gs = groups G in map (row G gs) gs

-- ---- text

-- a number in base ten; the first number bounds its digits
unfoldable pub digits : ℕ → ℕ → List ℕ
digits zero x = []
digits (suc r) x = let front = digits r (x / 10) in cond (ltb x 10) ((0x30 + x) ∷ []) (front ++ ((0x30 + x % 10) ∷ []))

-- ten digits are enough for 32 bits
abbrev pub decimal : ℕ → List ℕ
decimal x = digits 10 x

abbrev pub space : List ℕ
space = 0x20 ∷ []

abbrev pub newline : List ℕ
newline = 0x0A ∷ []

-- `groups `
abbrev pub groups_word : List ℕ
groups_word = 0x67 ∷ 0x72 ∷ 0x6F ∷ 0x75 ∷ 0x70 ∷ 0x73 ∷ 0x20 ∷ []

-- `refused `
abbrev pub refused_word : List ℕ
refused_word = 0x72 ∷ 0x65 ∷ 0x66 ∷ 0x75 ∷ 0x73 ∷ 0x65 ∷ 0x64 ∷ 0x20 ∷ []

-- "parent or `-`"
unfoldable pub parent_text : ℕ → List ℕ
unfolding digits
parent_text p = cond (eqb p no_group) (0x2D ∷ []) (decimal p)

unfoldable pub row_text : ℕ → Row → List ℕ
unfolding digits parent_text
row_text g r =
    decimal g ++ (space ++ (decimal r.strength ++ (space ++ (parent_text r.parent ++ (space ++ (decimal r.links
    ++ (space ++ (decimal r.accounts ++ (space ++ (decimal r.lo ++ (space ++ (decimal r.hi ++ newline))))))))))))

abbrev pub no_row : Row
no_row = record { strength = 0; parent = 0; links = 0; accounts = 0; lo = 0; hi = 0 }

-- "The first line gives the number of stored groups; each later line is .."
unfoldable pub listing_text : List Row → List ℕ
unfolding concat_map range row_text digits
listing_text rs = groups_word ++ (decimal (length rs) ++ (newline ++ concat_map (λ g. row_text g (get_or rs g no_row)) (range 0 (length rs))))

-- "A refused index prints `refused 7`"
unfoldable pub lister_text : Checked (List Row) → List ℕ
unfolding listing_text digits
lister_text (passed rs) = listing_text rs
lister_text (refused r) = refused_word ++ (decimal r.number ++ newline)

-- what the lister prints for the bytes on its standard input
unfoldable pub lister : List ℕ → List ℕ
unfolding lister_text map_passed rows read_index
lister bytes = lister_text (map_passed rows (read_index bytes))

-- "the builder prints `refused`, number and place"
unfoldable pub builder_text : Checked (List ℕ) → List ℕ
unfolding digits
builder_text (passed b) = b
builder_text (refused r) = refused_word ++ (decimal r.number ++ (space ++ (decimal r.place ++ newline)))

-- what the builder writes for the bytes on its standard input: the index, or the refusal
unfoldable pub builder : List ℕ → List ℕ
unfolding builder_text map_passed index_bytes graph_of read_links
builder file = builder_text (map_passed index_of (read_links file))

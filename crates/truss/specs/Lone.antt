-- Two people are a party (document 02, request 7): what it says, as one statement about every index that 7 lets pass and every accepted links file. Proved in laws: lone_rule. That k may be 2 is `bad_level`; the
-- agreement from k = 2 is demand 3; what G answers for a lone link is in Ways.
use Rattle.std.specs.Prelude.{◌≡◌, ◌⊎◌, ◌↔◌, ◌≢◌, true, List, ℕ, ◌≤◌, ◌<◌, length, get_or, set}
use mathlib.Core.List.{Memᴰ as In}
use Rattle.truss.specs.Limits.{windows, min_strength, min_level, max_index_bytes, no_group}
use Rattle.truss.specs.Graph.{Link, Pair, Graph, Triangle, IsTriangle, Has, link, link_at, member}
use Rattle.truss.specs.Strength.{IsStrength}
use Rattle.truss.specs.Chain.{Joined, InGroup}
use Rattle.truss.specs.Refusal.{passed}
use Rattle.truss.specs.Record.{kind_head, kind_index_head, byte_at}
use Rattle.truss.specs.LinksFile.{accepted, read_links}
use Rattle.truss.specs.Index.{decode}
use Rattle.truss.specs.IndexFile.{read_index}
use Rattle.truss.specs.Question.{joined_up_to, groups_holding, all_holding, group_links, ask_joined}
use Rattle.truss.specs.Call.{done, next_tally, ask}
use Rattle.truss.specs.Order.{group_numbered}
use Rattle.truss.specs.Stored.{row_at, group_row_at, Leads}

-- a lone link: its strength is 2
abbrev pub Lone : Graph → Link → Type 0
Lone G e = IsStrength G e min_strength

-- of an index that 7 lets pass
pub record LonePairs (bytes : List ℕ) (G : Graph) : Type 0 where
  -- a link is lone just if it is in no triangle
  pub in_none : (e : Link) → member G.links e ≡ true → Lone G e ↔ ((t : Triangle) → IsTriangle (member G.links) t → ¬ Has t e)
  -- "A link counts as joined to itself at every k up to its strength"
  pub itself : (e : Link) (k s : ℕ) → IsStrength G e s → InGroup G k e e ↔ (k ≤ s)
  -- so B of two links is the largest k from 2 up at which they count as joined, 0 if there is none
  pub up_to : (e f : Link) → member G.links e ≡ true → member G.links f ≡ true
      → ((k : ℕ) → min_level ≤ k → InGroup G k e f → k ≤ joined_up_to G e f) × (0 < joined_up_to G e f → (min_level ≤ joined_up_to G e f) × InGroup G (joined_up_to G e f) e f)
  -- and of a link with itself, named either way round, its strength, 2 too
  pub joined_itself : (a b c d : ℕ) (buffer : List ℕ) (w : ℕ) (tallies : List ℕ) (s : ℕ) → w < windows → member G.links (link a b) ≡ true → link c d ≡ link a b → IsStrength G (link a b) s
      → ask bytes (ask_joined a b c d) buffer w tallies ≡ record { reply = done s; buffer = buffer; tallies = set tallies w (next_tally (get_or tallies w 0)) }
  -- "a link of strength 2 is a stored group of its own": the group that it names has no parent, strength 2 and this least link, and holds no other link
  pub own_group_lem : (i : ℕ) → i < length G.links → Lone G (link_at G i)
      → group_row_at (decode bytes) (row_at (decode bytes) i).group ≡ record { parent = no_group; strength = min_strength; least = i }
  pub holds_no_other : (i j : ℕ) → i < length G.links → j < length G.links → Lone G (link_at G i) → Leads (decode bytes) (row_at (decode bytes) j).group (row_at (decode bytes) i).group → j ≡ i
  -- no other stored group has strength 2
  pub no_more : (g : ℕ) → g < length (decode bytes).groups → (group_row_at (decode bytes) g).strength ≡ min_strength
      → (i : ℕ) × (i < length G.links) × Lone G (link_at G i) × ((row_at (decode bytes) i).group ≡ g)
  -- "so no strong link carries FFFF": each names a stored group
  pub named : (i : ℕ) → i < length G.links → ((row_at (decode bytes) i).group < length (decode bytes).groups) × ((row_at (decode bytes) i).group ≢ no_group)
  -- "At 2 the groups are those at 3 and the lone links."
  pub at_2 : (e f : Link) → InGroup G 2 e f ↔ (InGroup G 3 e f ⊎ ((f ≡ e) × Lone G e))
  -- so C at 2 means the groups that it means at 3, and of all that hold the accounts those of strength 2
  pub C_at_2 : (vs : List ℕ) (g : ℕ) → In g (groups_holding G 2 vs) ↔ (In g (groups_holding G 3 vs) ⊎ (In g (all_holding G vs) × ((group_numbered G g).strength ≡ min_strength)))
  -- F gives the group at k, at 2 too
  pub group_links_lem : (k : ℕ) (e : Link) (i : ℕ) → member G.links e ≡ true → i < length G.links → In i (group_links G k e) ↔ InGroup G k e (link_at G i)
  -- links are joined at 2 as at 3
  pub joined_at_2 : (e f : Link) → Joined G 2 e f ↔ Joined G 3 e f
  -- "An index now begins with kind 7 .. and one that begins with kind 1 meets 7.": whatever passes begins with 7
  pub begins : byte_at bytes 0 ≡ kind_index_head
  -- "An index is at most 40,960 bytes", its lone groups counted
  pub room : length bytes ≤ max_index_bytes

pub record LoneRule : Type 0 where
  pub pairs : (bytes : List ℕ) (G : Graph) → read_index bytes ≡ passed G → LonePairs bytes G
  -- "Links files keep kind 1."
  pub links_begin : (file : List ℕ) (n : ℕ) (ps : List Pair) → read_links file ≡ accepted n ps → byte_at file 0 ≡ kind_head

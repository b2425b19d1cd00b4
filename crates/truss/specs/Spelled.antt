-- Demand 3 in plain words of the definitions: what it says of any files, links and levels, whatever memory was lent; what question A answers (Firmness), and how an answer stands in reply and
-- buffer; what C, D and E list (Order); what question G answers (Ways); lone links (Lone); what the window and the record as bytes have to do with a question (Windows); tallies over a run (Run); links that come and go (Changes); and a limit tried on a day's bets (Trial).
-- A hypothesis more in one of them, or a conclusion less, fails here; no law fails at it, since the law that is left is weaker and true.
use Rattle.std.specs.Prelude.{◌≡◌, ◌⊎◌, ◌↔◌, ◌≢◌, Bool, true, false, cond, not, ◌&&◌, ◌||◌, List, [], ◌∷◌, ◌++◌, map, ℕ, suc, ◌+◌, ◌*◌, ◌-◌, ◌/◌, ◌≤◌, ◌<◌, min, eqb, ltb, length, get_or, take, drop, set, ℤ, pos, ◌-ℤ◌, ◌≤ℤ◌}
use mathlib.Core.List.{Memᴰ as In}
use Rattle.std.specs.Int.Signed.{mag}
use Rattle.truss.specs.Limits.{max_links, min_level, max_level, max_named, max_index_bytes, max_chain_bytes}
use Rattle.truss.specs.Lists.{filter, any, concat_map, count, range, same_list}
use Rattle.truss.specs.Graph.{Link, LinkSet, Pair, Graph, Triangle, IsTriangle, Has, link, link_at, same_link, link_of, graph_of, member}
use Rattle.truss.specs.Strength.{IsStrength}
use Rattle.truss.specs.Chain.{AtLeast, StrongTriangle, Joined, InGroup}
use Rattle.truss.specs.Shortest.{IsShortestFirst, triangle_before, shortest_chain}
use Rattle.truss.specs.Support.{EachOnce}
use Rattle.truss.specs.Group.{Group, least_link, group_at, groups, parent}
use Rattle.truss.specs.Refusal.{Refusal, passed, refused, refuse, refuse_if}
use Rattle.truss.specs.Record.{field}
use Rattle.truss.specs.LinksFile.{accepted, read_links, write_links, read_back}
use Rattle.truss.specs.Index.{Index, link_bytes, join_bytes, group_bytes, encode, decode, index_bytes}
use Rattle.truss.specs.IndexFile.{read_index}
use Rattle.truss.specs.Question.{Question, Answer, two_numbers, number, numbers, chain, ask_strength, ask_joined, ask_groups_at, ask_strongest, ask_all, ask_links, ask_chain, accounts_in, outside, answer, joined_up_to, group_links, empty_group, holds, groups_holding, strongest_holding, all_holding}
use Rattle.truss.specs.Call.{Written, answer_bytes, answer_reply, settle, checked_answer, build, done, ask, ask_bytes, tally_at}
use Rattle.truss.specs.Stored.{ForestConnects, TreeHolds, row_at, group_row_at, Leads}
use Rattle.truss.specs.Demand3.{Builds, Demand3, OnlyShortMemory}
use Rattle.truss.specs.Kept.{RefusalKeeps}
use Rattle.truss.specs.Firmness.{FirmnessRule}
use Rattle.truss.specs.Order.{ListedBefore, InOrder, OrderRule}
use Rattle.truss.specs.Listing.{Row, rows, newline, groups_word, no_row, decimal, row_text, listing_text}
use Rattle.truss.specs.Ways.{Ways}
use Rattle.truss.specs.Lone.{LoneRule}
use Rattle.truss.specs.Windows.{refused_by, record_of, WindowRule, RecordRule}
use Rattle.truss.specs.Run.{Seen, Run, own_answered, Asks, RunTallies, AsksBytes, RunRecord}
use Rattle.truss.specs.Change.{Change, put_in, withdraw, change}
use Rattle.truss.specs.Changes.{Tells, moved, Faulty, ChangeRule, Changes, Changed, ChangesTell}
use Rattle.truss.specs.Bets.{DayRecord, bet, new_limit, limit_after, stakes_taken, groups_of, Tried, try_limit, records_in, margin_at, try_limit_bytes}
use Rattle.truss.specs.Trial.{DayFault, TrialRule}

-- a question writes this list: its count and its numbers, two bytes each, if they fit; else 12
abbrev pub ListsAll : List ℕ → Question → List ℕ → Type 0
ListsAll bytes q js = (buffer : List ℕ) (w : ℕ) (tallies : List ℕ) → w < 32
    → (2 + 2 * length js ≤ length buffer
    → ask bytes q buffer w tallies
    ≡ record {
      reply = record { refusal = 0; value = 2 + 2 * length js; second = 0; third = 0 };
      buffer = (field (length js) ++ concat_map field js) ++ drop (2 + 2 * length js) buffer;
      tallies = set tallies w (min (suc (get_or tallies w 0)) 4_294_967_295);
    })
    × (length buffer < 2 + 2 * length js → ask bytes q buffer w tallies ≡ record { reply = refused_by 12; buffer = buffer; tallies = tallies })

-- a question is refused by a number, and what is lent stays
abbrev RefusesAll : List ℕ → Question → ℕ → Type 0
RefusesAll bytes q r = (buffer : List ℕ) (w : ℕ) (tallies : List ℕ) → w < 32 → ask bytes q buffer w tallies ≡ record { reply = refused_by r; buffer = buffer; tallies = tallies }

-- the accounts below n that are an end of one of its links
abbrev ends_of : Graph → Group → ℕ
ends_of G g = count (λ v. any (λ i. eqb (link_at G i).lo v || eqb (link_at G i).hi v) g.members) G.n

-- stronger; or as strong with more accounts; or as both with an earlier least link
abbrev pub BeforeCases : Graph → Group → Group → Type 0
BeforeCases G g h =
    (h.strength < g.strength)
    ⊎ (((g.strength ≡ h.strength) × (ends_of G h < ends_of G g)) ⊎ ((g.strength ≡ h.strength) × (ends_of G g ≡ ends_of G h) × (least_link g < least_link h)))

abbrev as_row : Graph → Group → Row
as_row G g =
    record {
      strength = g.strength;
      parent = parent (groups G) g;
      links = length g.members;
      accounts = ends_of G g;
      lo = (link_at G (least_link g)).lo;
      hi = (link_at G (least_link g)).hi;
    }

-- ---- a limit tried on a day's bets

-- a trial is refused by a number, and what is lent stays
abbrev pub TrialRefused : List ℕ → ℕ → ℕ → List DayRecord → ℕ → Type 0
TrialRefused bytes k opening rs r =
    (taken : List ℕ) (margins : List ℤ) → try_limit bytes k opening rs taken margins ≡ record { reply = refused_by r; taken = taken; margins = margins }

-- level, number of records and opening limit are in range
abbrev pub Opens : ℕ → ℕ → List DayRecord → Type 0
Opens k opening rs = (2 ≤ k) × (k ≤ max_level) × (length rs ≤ 4096) × (opening ≤ 1_000_000_000)

abbrev pub InRange : Graph → DayRecord → Type 0
InRange G (bet a s) = (a < G.n) × (1 ≤ s) × (s ≤ 1_000_000)
InRange G (new_limit x) = x ≤ 1_000_000_000

abbrev pub AllInRange : Graph → List DayRecord → ℕ → Type 0
AllInRange G rs i = (j : ℕ) → j < i → InRange G (get_or rs j (new_limit 0))

-- the limit less the stakes taken from accounts that pass
abbrev Left : (ℕ → Bool) → ℕ → List DayRecord → List ℕ → ℤ
Left p opening rs bytes = pos (limit_after opening rs) -ℤ pos (stakes_taken p rs bytes)

abbrev Room : Graph → ℕ → ℕ → List DayRecord → List ℕ → ℕ → ℕ → Type 0
Room G k opening before bytes a s =
    ((g : Group) → In g (groups_of G k) → holds G g a ≡ true → pos s ≤ℤ Left (holds G g) opening before bytes)
    × (((g : Group) → In g (groups_of G k) → holds G g a ≡ false) → pos s ≤ℤ Left (eqb a) opening before bytes)

-- what is said of record i's byte: a bet's is 1 if there is room after the records before it, else 0; a new limit's is 1
abbrev pub ByteSaid : Graph → ℕ → ℕ → List DayRecord → List ℕ → ℕ → DayRecord → Type 0
ByteSaid G k opening rs bytes i (bet a s) =
    (Room G k opening (take i rs) (take i bytes) a s × (get_or bytes i 0 ≡ 1)) ⊎ ((¬ Room G k opening (take i rs) (take i bytes) a s) × (get_or bytes i 0 ≡ 0))
ByteSaid G k opening rs bytes i (new_limit x) = get_or bytes i 0 ≡ 1

-- a day that is done (`past` is what is read past the end of the second buffer): how many margins are written, each byte, each margin, and that all else stays
abbrev pub Done : {A : Type 0} → Graph → ℕ → ℕ → List DayRecord → (List A → ℕ → ℤ) → ℕ → A → List ℕ → List A → Tried A → Type 0
Done G k opening rs margin width past taken margins t =
    (t.reply ≡ record { refusal = 0; value = length (groups_of G k); second = 0; third = 0 })
    × ((i : ℕ) → i < length rs → ByteSaid G k opening rs t.taken i (get_or rs i (new_limit 0)))
    × ((j : ℕ) → j < length (groups_of G k)
    → (margin t.margins j ≡ Left (holds G (get_or (groups_of G k) j empty_group)) opening rs t.taken) × (mag (margin t.margins j) ≤ 1_000_000_000))
    × ((i : ℕ) → length rs ≤ i → get_or t.taken i 0 ≡ get_or taken i 0) × ((i : ℕ) → length (groups_of G k) * width ≤ i → get_or t.margins i past ≡ get_or margins i past)
    × (length t.taken ≡ length taken) × (length t.margins ≡ length margins)

pub record Spelled : Type 0 where
  pub same_index : Demand3 → (file file' : List ℕ) (n n' : ℕ) (ps ps' : List Pair) (b b' lent lent' : List ℕ)
      → read_links file ≡ accepted n ps → (build file lent).reply ≡ done (length b) → take (length b) (build file lent).buffer ≡ b
      → read_links file' ≡ accepted n' ps' → (build file' lent').reply ≡ done (length b') → take (length b') (build file' lent').buffer ≡ b'
      → (b ≡ b') ↔ ((n ≡ n') × ((e : Link) → (member (map link_of ps) e ≡ true) ↔ (member (map link_of ps') e ≡ true)))
  pub all_agree : Demand3 → (file : List ℕ) (n : ℕ) (ps : List Pair) (b lent : List ℕ)
      → read_links file ≡ accepted n ps → (build file lent).reply ≡ done (length b) → take (length b) (build file lent).buffer ≡ b
      → (e f : Link) → member (map link_of ps) e ≡ true → member (map link_of ps) f ≡ true → e ≢ f → (k : ℕ) → 2 ≤ k → k ≤ max_level
      → (Joined (graph_of n ps) k e f ↔ ForestConnects (decode b) k e f) × (Joined (graph_of n ps) k e f ↔ TreeHolds (decode b) k e f)
  pub only_short_memory : OnlyShortMemory → (file : List ℕ) (n : ℕ) (ps : List Pair) (lent : List ℕ)
      → read_links file ≡ accepted n ps → length (index_bytes (graph_of n ps)) ≤ length lent → (build file lent).reply ≡ done (length (index_bytes (graph_of n ps)))
  -- for any row of triangles that has just those of the graph of weight at least s that hold the link, each once: s and how many there are
  pub strength_and_triangles : FirmnessRule → (bytes : List ℕ) (G : Graph) (a b : ℕ) (buffer : List ℕ) (w : ℕ) (tallies : List ℕ) → read_index bytes ≡ passed G → w < 32 → member G.links (link a b) ≡ true
      → (s : ℕ) → IsStrength G (link a b) s → (ts : List Triangle) → EachOnce ts → ((t : Triangle) → In t ts ↔ (StrongTriangle G s t × Has t (link a b)))
      → ask bytes (ask_strength a b) buffer w tallies
      ≡ record { reply = record { refusal = 0; value = s; second = length ts; third = 0 }; buffer = buffer; tallies = set tallies w (min (suc (get_or tallies w 0)) 4_294_967_295) }
  pub strength_9 : FirmnessRule → (bytes : List ℕ) (G : Graph) (a b : ℕ) (buffer : List ℕ) (w : ℕ) (tallies : List ℕ) → read_index bytes ≡ passed G → w < 32 → (G.n ≤ a) ⊎ (G.n ≤ b)
      → ask bytes (ask_strength a b) buffer w tallies ≡ record { reply = refused_by 9; buffer = buffer; tallies = tallies }
  pub strength_11 : FirmnessRule → (bytes : List ℕ) (G : Graph) (a b : ℕ) (buffer : List ℕ) (w : ℕ) (tallies : List ℕ) → read_index bytes ≡ passed G → w < 32 → a < G.n → b < G.n
      → member G.links (link a b) ≡ false → ask bytes (ask_strength a b) buffer w tallies ≡ record { reply = refused_by 11; buffer = buffer; tallies = tallies }
  pub once_nothing : EachOnce []
  pub once_one_more : (t : Triangle) (ts : List Triangle) → ¬ In t ts → EachOnce ts → EachOnce (t ∷ ts)
  pub at_strength_2 : FirmnessRule → (bytes : List ℕ) (G : Graph) (a b : ℕ) (buffer : List ℕ) (w : ℕ) (tallies : List ℕ) → read_index bytes ≡ passed G → w < 32 → member G.links (link a b) ≡ true
      → (ask bytes (ask_strength a b) buffer w tallies).reply.value ≡ 2 → (ask bytes (ask_strength a b) buffer w tallies).reply.second ≡ 0
  pub from_3_up : FirmnessRule → (bytes : List ℕ) (G : Graph) (a b : ℕ) (buffer : List ℕ) (w : ℕ) (tallies : List ℕ) → read_index bytes ≡ passed G → w < 32 → member G.links (link a b) ≡ true
      → 3 ≤ (ask bytes (ask_strength a b) buffer w tallies).reply.value
      → (ask bytes (ask_strength a b) buffer w tallies).reply.value - 2 ≤ (ask bytes (ask_strength a b) buffer w tallies).reply.second
  -- an answer in the reply and in the buffer: A has two numbers, B one, C to G have how many bytes they write
  pub reply_A : (x y : ℕ) → answer_reply (two_numbers x y) ≡ record { refusal = 0; value = x; second = y; third = 0 }
  pub reply_B : (x : ℕ) → answer_reply (number x) ≡ record { refusal = 0; value = x; second = 0; third = 0 }
  pub reply_list : (xs : List ℕ) → answer_reply (numbers xs) ≡ record { refusal = 0; value = length (answer_bytes (numbers xs)); second = 0; third = 0 }
  pub reply_chain : (ts : List Triangle) → answer_reply (chain ts) ≡ record { refusal = 0; value = length (answer_bytes (chain ts)); second = 0; third = 0 }
  -- a build, a reading and a change that are done
  pub reply_length : (x : ℕ) → done x ≡ record { refusal = 0; value = x; second = 0; third = 0 }
  pub nothing_A : (x y : ℕ) → answer_bytes (two_numbers x y) ≡ []
  pub nothing_B : (x : ℕ) → answer_bytes (number x) ≡ []
  pub answered : (a : Answer) (buffer : List ℕ) (w : ℕ) (tallies : List ℕ) → settle (passed a) buffer w tallies
      ≡ record { reply = answer_reply a; buffer = answer_bytes a ++ drop (length (answer_bytes a)) buffer; tallies = set tallies w (min (suc (get_or tallies w 0)) 4_294_967_295) }
  pub turned_back : (r : Refusal) (buffer : List ℕ) (w : ℕ) (tallies : List ℕ) → settle (refused r) buffer w tallies
      ≡ record { reply = record { refusal = r.number; value = r.place; second = 0; third = 0 }; buffer = buffer; tallies = tallies }
  -- 7 in front of 8 to 12, of every question
  pub no_index : (bytes : List ℕ) (q : Question) (buffer : List ℕ) (r : Refusal) → read_index bytes ≡ refused r → checked_answer bytes q buffer ≡ refused r
  -- the accounts that are named: two bytes each, high byte first, to the last
  pub named_none : accounts_in [] ≡ []
  pub named_next : (x y : ℕ) (b : List ℕ) → accounts_in (x ∷ y ∷ b) ≡ (x * 256 + y) ∷ accounts_in b
  -- any row of just the groups of before, each before all that come after it: that row is what is written, whatever is lent
  pub lists_C : OrderRule → (bytes : List ℕ) (G : Graph) (k : ℕ) (named : List ℕ) (c : ℕ) (js : List ℕ) → read_index bytes ≡ passed G → 1 ≤ c → c ≤ max_named → length named ≡ 2 * c
      → ((v : ℕ) → In v (accounts_in named) → v < G.n) → min_level ≤ k → k ≤ max_level → ((i : ℕ) → In i js ↔ In i (groups_holding G k (accounts_in named))) → InOrder G js
      → ListsAll bytes (ask_groups_at k named) js
  pub lists_D : OrderRule → (bytes : List ℕ) (G : Graph) (named : List ℕ) (c : ℕ) (js : List ℕ) → read_index bytes ≡ passed G → 1 ≤ c → c ≤ max_named → length named ≡ 2 * c
      → ((v : ℕ) → In v (accounts_in named) → v < G.n) → ((i : ℕ) → In i js ↔ In i (strongest_holding G (accounts_in named))) → InOrder G js → ListsAll bytes (ask_strongest named) js
  pub lists_E : OrderRule → (bytes : List ℕ) (G : Graph) (named : List ℕ) (c : ℕ) (js : List ℕ) → read_index bytes ≡ passed G → 1 ≤ c → c ≤ max_named → length named ≡ 2 * c
      → ((v : ℕ) → In v (accounts_in named) → v < G.n) → ((i : ℕ) → In i js ↔ In i (all_holding G (accounts_in named))) → InOrder G js → ListsAll bytes (ask_all named) js
  -- there is such a row, of as many groups as before
  pub listed_row : OrderRule → (bytes : List ℕ) (G : Graph) (named : List ℕ) (c : ℕ) → read_index bytes ≡ passed G → 1 ≤ c → c ≤ max_named → length named ≡ 2 * c
      → ((v : ℕ) → In v (accounts_in named) → v < G.n) → (js : List ℕ) × ((i : ℕ) → In i js ↔ In i (all_holding G (accounts_in named))) × (length js ≡ length (all_holding G (accounts_in named))) × InOrder G js
  pub row_empty : (G : Graph) → InOrder G []
  pub row_first : (G : Graph) (i : ℕ) (is : List ℕ) → InOrder G (i ∷ is) ↔ (((j : ℕ) → In j is → ListedBefore G (get_or (groups G) i empty_group) (get_or (groups G) j empty_group)) × InOrder G is)
  pub before_is : (G : Graph) (g h : Group) → ListedBefore G g h ↔ BeforeCases G g h
  pub one_is_first : OrderRule → (G : Graph) (i j : ℕ) → i < length (groups G) → j < length (groups G) → i ≢ j
      → (ListedBefore G (get_or (groups G) i empty_group) (get_or (groups G) j empty_group) × (¬ ListedBefore G (get_or (groups G) j empty_group) (get_or (groups G) i empty_group)))
      ⊎ (ListedBefore G (get_or (groups G) j empty_group) (get_or (groups G) i empty_group) × (¬ ListedBefore G (get_or (groups G) i empty_group) (get_or (groups G) j empty_group)))
  pub before_onward : OrderRule → (G : Graph) (g h o : Group) → ListedBefore G g h → ListedBefore G h o → ListedBefore G g o
  -- 8, 9, 10, each in front of the next
  pub list_8 : OrderRule → (bytes : List ℕ) (G : Graph) (k : ℕ) (named : List ℕ) → read_index bytes ≡ passed G → ((c : ℕ) → 1 ≤ c → c ≤ max_named → length named ≢ 2 * c)
      → RefusesAll bytes (ask_groups_at k named) 8 × RefusesAll bytes (ask_strongest named) 8 × RefusesAll bytes (ask_all named) 8
  pub list_9 : OrderRule → (bytes : List ℕ) (G : Graph) (k : ℕ) (named : List ℕ) (c v : ℕ) → read_index bytes ≡ passed G → 1 ≤ c → c ≤ max_named → length named ≡ 2 * c → In v (accounts_in named) → G.n ≤ v
      → RefusesAll bytes (ask_groups_at k named) 9 × RefusesAll bytes (ask_strongest named) 9 × RefusesAll bytes (ask_all named) 9
  pub list_10 : OrderRule → (bytes : List ℕ) (G : Graph) (k : ℕ) (named : List ℕ) (c : ℕ) → read_index bytes ≡ passed G → 1 ≤ c → c ≤ max_named → length named ≡ 2 * c
      → ((v : ℕ) → In v (accounts_in named) → v < G.n) → (k < min_level) ⊎ (max_level < k) → RefusesAll bytes (ask_groups_at k named) 10
  pub shortest_way : Ways → (file : List ℕ) (n : ℕ) (ps : List Pair) → read_links file ≡ accepted n ps → (k : ℕ) (e f : Link)
      → (Joined (graph_of n ps) k e f → IsShortestFirst (graph_of n ps) k e f (shortest_chain (graph_of n ps) k e f))
      × ((ts us : List Triangle) → IsShortestFirst (graph_of n ps) k e f ts → IsShortestFirst (graph_of n ps) k e f us → ts ≡ us)
      × ((shortest_chain (graph_of n ps) k e f ≡ []) ↔ (¬ Joined (graph_of n ps) k e f))
  pub with_itself : Ways → (file : List ℕ) (n : ℕ) (ps : List Pair) → read_links file ≡ accepted n ps → (k : ℕ) (e : Link)
      → (AtLeast (graph_of n ps) 3 e → AtLeast (graph_of n ps) k e
      → (t : Triangle) × (shortest_chain (graph_of n ps) k e e ≡ t ∷ []) × StrongTriangle (graph_of n ps) k t × Has t e
      × ((u : Triangle) → StrongTriangle (graph_of n ps) k u → Has u e → triangle_before u t ≡ false))
      × (¬ AtLeast (graph_of n ps) k e → shortest_chain (graph_of n ps) k e e ≡ [])
  -- of links that count as joined
  pub no_triangle : Ways → (file : List ℕ) (n : ℕ) (ps : List Pair) → read_links file ≡ accepted n ps → (k : ℕ) (e f : Link) → 2 ≤ k → AtLeast (graph_of n ps) k e → (f ≡ e) ⊎ Joined (graph_of n ps) k e f
      → (shortest_chain (graph_of n ps) k e f ≡ []) ↔ ((f ≡ e) × (k ≡ 2) × IsStrength (graph_of n ps) e 2)
  pub chain_written : Ways → (file : List ℕ) (n : ℕ) (ps : List Pair) → read_links file ≡ accepted n ps → (k : ℕ) (e f : Link)
      → ((t : Triangle) → In t (shortest_chain (graph_of n ps) k e f) → (t.a < t.b) × (t.b < t.c))
      × (length (answer_bytes (chain (shortest_chain (graph_of n ps) k e f))) ≤ max_chain_bytes)
  -- lone links
  pub in_group_is : (G : Graph) (k : ℕ) (e f : Link) → InGroup G k e f ↔ (AtLeast G k e × ((f ≡ e) ⊎ Joined G k e f))
  pub lone_is : LoneRule → (bytes : List ℕ) (G : Graph) → read_index bytes ≡ passed G → (e : Link) → member G.links e ≡ true
      → IsStrength G e 2 ↔ ((t : Triangle) → IsTriangle (member G.links) t → ¬ Has t e)
  pub joined_to_itself : LoneRule → (bytes : List ℕ) (G : Graph) → read_index bytes ≡ passed G → (e : Link) (k s : ℕ) → IsStrength G e s → InGroup G k e e ↔ (k ≤ s)
  pub B_with_itself : LoneRule → (bytes : List ℕ) (G : Graph) (a b c d : ℕ) (buffer : List ℕ) (w : ℕ) (tallies : List ℕ) (s : ℕ) → read_index bytes ≡ passed G → w < 32
      → member G.links (link a b) ≡ true → ((c ≡ a) × (d ≡ b)) ⊎ ((c ≡ b) × (d ≡ a)) → IsStrength G (link a b) s
      → ask bytes (ask_joined a b c d) buffer w tallies
      ≡ record { reply = record { refusal = 0; value = s; second = 0; third = 0 }; buffer = buffer; tallies = set tallies w (min (suc (get_or tallies w 0)) 4_294_967_295) }
  pub lone_group : LoneRule → (bytes : List ℕ) (G : Graph) → read_index bytes ≡ passed G → (i : ℕ) → i < length G.links → IsStrength G (link_at G i) 2
      → (group_row_at (decode bytes) (row_at (decode bytes) i).group ≡ record { parent = 65535; strength = 2; least = i })
      × ((j : ℕ) → j < length G.links → Leads (decode bytes) (row_at (decode bytes) j).group (row_at (decode bytes) i).group → j ≡ i)
  pub no_more_at_2 : LoneRule → (bytes : List ℕ) (G : Graph) → read_index bytes ≡ passed G → (g : ℕ) → g < length (decode bytes).groups → (group_row_at (decode bytes) g).strength ≡ 2
      → (i : ℕ) × (i < length G.links) × IsStrength G (link_at G i) 2 × ((row_at (decode bytes) i).group ≡ g)
  pub each_named : LoneRule → (bytes : List ℕ) (G : Graph) → read_index bytes ≡ passed G → (i : ℕ) → i < length G.links
      → ((row_at (decode bytes) i).group < length (decode bytes).groups) × ((row_at (decode bytes) i).group ≢ 65535)
  pub groups_at_2 : LoneRule → (bytes : List ℕ) (G : Graph) → read_index bytes ≡ passed G → (e f : Link) → InGroup G 2 e f ↔ (InGroup G 3 e f ⊎ ((f ≡ e) × IsStrength G e 2))
  pub C_at_2 : LoneRule → (bytes : List ℕ) (G : Graph) → read_index bytes ≡ passed G → (vs : List ℕ) (g : ℕ)
      → In g (groups_holding G 2 vs) ↔ (In g (groups_holding G 3 vs) ⊎ (In g (all_holding G vs) × ((get_or (groups G) g empty_group).strength ≡ 2)))
  pub joined_at_2 : LoneRule → (bytes : List ℕ) (G : Graph) → read_index bytes ≡ passed G → (e f : Link) → Joined G 2 e f ↔ Joined G 3 e f
  pub B_up_to : LoneRule → (bytes : List ℕ) (G : Graph) → read_index bytes ≡ passed G → (e f : Link) → member G.links e ≡ true → member G.links f ≡ true
      → ((k : ℕ) → 2 ≤ k → InGroup G k e f → k ≤ joined_up_to G e f) × (0 < joined_up_to G e f → (2 ≤ joined_up_to G e f) × InGroup G (joined_up_to G e f) e f)
  pub F_links : LoneRule → (bytes : List ℕ) (G : Graph) → read_index bytes ≡ passed G → (k : ℕ) (e : Link) (i : ℕ) → member G.links e ≡ true → i < length G.links
      → In i (group_links G k e) ↔ InGroup G k e (link_at G i)
  pub index_room : LoneRule → (bytes : List ℕ) (G : Graph) → read_index bytes ≡ passed G → length bytes ≤ max_index_bytes
  pub index_begins : LoneRule → (bytes : List ℕ) (G : Graph) → read_index bytes ≡ passed G → get_or bytes 0 0 ≡ 7
  pub kind_1_meets_7 : LoneRule → (bytes : List ℕ) → get_or bytes 0 0 ≡ 1 → read_index bytes ≡ refuse 7 0
  pub links_begin : LoneRule → (file : List ℕ) (n : ℕ) (ps : List Pair) → read_links file ≡ accepted n ps → get_or file 0 0 ≡ 1
  pub kind_7_links : (b : List ℕ) → read_links (7 ∷ b) ≡ refuse 1 0
  -- the bytes of an index and of a links file that is written, one that is read back, and the lister's rows, whatever their number
  pub index_written : (x : Index) → encode x
      ≡ (7 ∷ (field x.n ++ field x.m)) ++ (concat_map link_bytes x.links ++ (concat_map join_bytes x.joins ++ (concat_map group_bytes x.groups ++ (5 ∷ []))))
  pub file_written : (n : ℕ) (ps : List Pair) → write_links n ps ≡ (1 ∷ (field n ++ field (length ps))) ++ (concat_map (λ p. 6 ∷ (field p.first ++ field p.second)) ps ++ (5 ∷ []))
  pub file_read_back : (G : Graph) → read_back G ≡ write_links G.n (map (λ e. record { first = e.lo; second = e.hi }) G.links)
  pub lister_rows : (G : Graph) → rows G ≡ map (as_row G) (groups G)
  pub lister_lines : (rs : List Row) → listing_text rs ≡ groups_word ++ (decimal (length rs) ++ (newline ++ concat_map (λ g. row_text g (get_or rs g no_row)) (range 0 (length rs))))
  -- B, F and G: every order of checks, k from 2, and what is answered
  pub asked_B : (G : Graph) (a b c d : ℕ) → answer G (ask_joined a b c d)
      ≡ refuse_if (outside G (a ∷ b ∷ c ∷ d ∷ [])) 9 0
      (refuse_if (not (member G.links (link a b)) || not (member G.links (link c d))) 11 0 (passed (number (joined_up_to G (link a b) (link c d)))))
  pub asked_F : (G : Graph) (k a b : ℕ) → answer G (ask_links k a b)
      ≡ refuse_if (outside G (a ∷ b ∷ [])) 9 0
      (refuse_if (ltb k 2 || ltb max_level k) 10 0 (refuse_if (not (member G.links (link a b))) 11 0 (passed (numbers (group_links G k (link a b))))))
  pub asked_G : (G : Graph) (k a b c d : ℕ) → answer G (ask_chain k a b c d)
      ≡ refuse_if (outside G (a ∷ b ∷ c ∷ d ∷ [])) 9 0
      (refuse_if (ltb k 2 || ltb max_level k) 10 0
      (refuse_if (not (member G.links (link a b)) || not (member G.links (link c d))) 11 0 (passed (chain (shortest_chain G k (link a b) (link c d))))))
  pub tallies_of_a_run : RunTallies → (tallies tallies' : List ℕ) (xs : List Seen) → length tallies ≡ 32 → Run Asks tallies xs tallies' → (length tallies' ≡ 32)
      × ((w : ℕ) → w < 32 → get_or tallies w 0 ≤ 4_294_967_295 → get_or tallies' w 0 ≡ min (get_or tallies w 0 + own_answered w xs) 4_294_967_295)
  pub record_of_a_run : RunRecord → (desk desk' : List ℕ) (xs : List Seen) → Run AsksBytes desk xs desk' → (length desk' ≡ length desk)
      × ((w : ℕ) → w < 32 → tally_at w desk ≤ 4_294_967_295 → tally_at w desk' ≡ min (tally_at w desk + own_answered w xs) 4_294_967_295)
  pub no_window : WindowRule → (bytes : List ℕ) (q : Question) (buffer : List ℕ) (w : ℕ) (tallies : List ℕ) → 32 ≤ w
      → ask bytes q buffer w tallies ≡ record { reply = refused_by 13; buffer = buffer; tallies = tallies }
  pub any_window : WindowRule → (bytes : List ℕ) (q : Question) (buffer : List ℕ) (v w : ℕ) (ts us : List ℕ) → v < 32 → w < 32
      → ((ask bytes q buffer v ts).reply ≡ (ask bytes q buffer w us).reply) × ((ask bytes q buffer v ts).buffer ≡ (ask bytes q buffer w us).buffer)
  pub record_of_tallies : RecordRule → (bytes : List ℕ) (q : Question) (buffer : List ℕ) (w : ℕ) (tallies rest : List ℕ) → length tallies ≡ 32 → ((v : ℕ) → v < 32 → get_or tallies v 0 ≤ 4_294_967_295)
      → ask_bytes bytes q buffer w (record_of tallies ++ rest)
      ≡ record { reply = (ask bytes q buffer w tallies).reply; buffer = (ask bytes q buffer w tallies).buffer; desk = record_of (ask bytes q buffer w tallies).tallies ++ rest }
  pub short_record : RecordRule → (bytes : List ℕ) (q : Question) (buffer : List ℕ) (w : ℕ) (tallies desk : List ℕ) → length desk < 128
      → ask_bytes bytes q buffer w desk
      ≡ record { reply = cond (eqb (ask bytes q buffer w tallies).reply.refusal 0) (refused_by 12) (ask bytes q buffer w tallies).reply; buffer = buffer; desk = desk }
  pub change_7 : ChangeRule → (c : Change) (bytes buffer : List ℕ) → read_index bytes ≡ refuse 7 0 → change c bytes buffer ≡ record { reply = refused_by 7; buffer = buffer }
  pub change_9 : ChangeRule → (bytes buffer : List ℕ) (G : Graph) (a b : ℕ) → read_index bytes ≡ passed G → (G.n ≤ a) ⊎ (G.n ≤ b)
      → (change (put_in a b) bytes buffer ≡ record { reply = refused_by 9; buffer = buffer }) × (change (withdraw a b) bytes buffer ≡ record { reply = refused_by 9; buffer = buffer })
  pub change_5 : ChangeRule → (bytes buffer : List ℕ) (G : Graph) (a b : ℕ) → read_index bytes ≡ passed G → a < G.n → b < G.n → a ≡ b
      → change (put_in a b) bytes buffer ≡ record { reply = refused_by 5; buffer = buffer }
  pub change_14 : ChangeRule → (bytes buffer : List ℕ) (G : Graph) (a b : ℕ) → read_index bytes ≡ passed G → a < G.n → b < G.n → a ≢ b → member G.links (link a b) ≡ true
      → change (put_in a b) bytes buffer ≡ record { reply = refused_by 14; buffer = buffer }
  pub change_3 : ChangeRule → (bytes buffer : List ℕ) (G : Graph) (a b : ℕ) → read_index bytes ≡ passed G → a < G.n → b < G.n → a ≢ b → member G.links (link a b) ≡ false
      → max_links ≤ length G.links → change (put_in a b) bytes buffer ≡ record { reply = refused_by 3; buffer = buffer }
  pub change_11 : ChangeRule → (bytes buffer : List ℕ) (G : Graph) (a b : ℕ) → read_index bytes ≡ passed G → a < G.n → b < G.n → member G.links (link a b) ≡ false
      → change (withdraw a b) bytes buffer ≡ record { reply = refused_by 11; buffer = buffer }
  -- two files: the second names what the first names and one pair more, and one pair less
  pub put_in_built : ChangeRule → (file file' buffer : List ℕ) (n : ℕ) (ps ps' : List Pair) (a b : ℕ) → read_links file ≡ accepted n ps → read_links file' ≡ accepted n ps'
      → member (map link_of ps) (link a b) ≡ false
      → ((e : Link) → (member (map link_of ps') e ≡ true) ↔ ((member (map link_of ps) e || same_link e (link a b)) ≡ true))
      → change (put_in a b) (index_bytes (graph_of n ps)) buffer ≡ build file' buffer
  pub withdraw_built : ChangeRule → (file file' buffer : List ℕ) (n : ℕ) (ps ps' : List Pair) (a b : ℕ) → read_links file ≡ accepted n ps → read_links file' ≡ accepted n ps'
      → member (map link_of ps) (link a b) ≡ true
      → ((e : Link) → (member (map link_of ps') e ≡ true) ↔ ((member (map link_of ps) e && not (same_link e (link a b))) ≡ true))
      → change (withdraw a b) (index_bytes (graph_of n ps)) buffer ≡ build file' buffer
  pub change_only : ChangeRule → (c : Change) (bytes buffer : List ℕ) (G : Graph) → read_index bytes ≡ passed G
      → ((k : ℕ) × Faulty G c k)
      ⊎ ((file : List ℕ) × (ps : List Pair) × (read_links file ≡ accepted G.n ps) × ((e : Link) → (member (map link_of ps) e ≡ true) ↔ (moved c (member G.links) e ≡ true)) × (change c bytes buffer ≡ build file buffer))
  pub tells_links : ChangeRule → (b : List ℕ) (n : ℕ) (S : LinkSet) → Tells b n S → (G : Graph) × (read_index b ≡ passed G) × (G.n ≡ n) × ((e : Link) → member G.links e ≡ S e)
  pub tells_built : ChangeRule → (b file : List ℕ) (n : ℕ) (ps : List Pair) (S : LinkSet) → Tells b n S → read_links file ≡ accepted n ps → ((e : Link) → (member (map link_of ps) e ≡ true) ↔ (S e ≡ true))
      → Builds file b
  pub index_tells : ChangeRule → (b : List ℕ) (G : Graph) → read_index b ≡ passed G → Tells b G.n (member G.links)
  -- what a sequence is made of: nothing more is asked of a step than that the change was called, and a step leaves what its reply says
  pub no_step : (x : List ℕ) (S : LinkSet) → Changes Changed x S x S
  pub any_step : (c : Change) (x buffer y : List ℕ) (w : Written) (S T : LinkSet) → w ≡ change c x buffer
      → Changes Changed (cond (eqb w.reply.refusal 0) (take w.reply.value w.buffer) x) (cond (eqb w.reply.refusal 0) (moved c S) S) y T → Changes Changed x S y T
  pub put_in_set : (a b : ℕ) (S : LinkSet) (e : Link) → moved (put_in a b) S e ≡ (S e || same_link e (link a b))
  pub withdrawn_set : (a b : ℕ) (S : LinkSet) (e : Link) → moved (withdraw a b) S e ≡ (S e && not (same_link e (link a b)))
  pub refused_change : RefusalKeeps → (c : Change) (bytes buffer : List ℕ) → (change c bytes buffer).reply.refusal ≢ 0 → (change c bytes buffer).buffer ≡ buffer
  -- a limit tried on a day's bets: 7, 10, 16, 15, then by record 9 and 15, then 12, each in front of the next; the levels and limits of document 02
  pub trial_7 : TrialRule → (bytes : List ℕ) (k opening : ℕ) (rs : List DayRecord) → read_index bytes ≡ refuse 7 0 → TrialRefused bytes k opening rs 7
  pub trial_10 : TrialRule → (bytes : List ℕ) (G : Graph) (k opening : ℕ) (rs : List DayRecord) → read_index bytes ≡ passed G → (k < 2) ⊎ (max_level < k) → TrialRefused bytes k opening rs 10
  pub trial_16 : TrialRule → (bytes : List ℕ) (G : Graph) (k opening : ℕ) (rs : List DayRecord) → read_index bytes ≡ passed G → 2 ≤ k → k ≤ max_level → 4096 < length rs → TrialRefused bytes k opening rs 16
  pub trial_15 : TrialRule → (bytes : List ℕ) (G : Graph) (k opening : ℕ) (rs : List DayRecord) → read_index bytes ≡ passed G → 2 ≤ k → k ≤ max_level → length rs ≤ 4096 → 1_000_000_000 < opening
      → TrialRefused bytes k opening rs 15
  pub trial_record_9 : TrialRule → (bytes : List ℕ) (G : Graph) (k opening : ℕ) (rs : List DayRecord) (i a s : ℕ) → read_index bytes ≡ passed G → Opens k opening rs → i < length rs → AllInRange G rs i
      → get_or rs i (new_limit 0) ≡ bet a s → G.n ≤ a → TrialRefused bytes k opening rs 9
  pub trial_record_15 : TrialRule → (bytes : List ℕ) (G : Graph) (k opening : ℕ) (rs : List DayRecord) (i a s x : ℕ) → read_index bytes ≡ passed G → Opens k opening rs → i < length rs → AllInRange G rs i
      → ((get_or rs i (new_limit 0) ≡ bet a s) × (a < G.n) × ((s < 1) ⊎ (1_000_000 < s))) ⊎ ((get_or rs i (new_limit 0) ≡ new_limit x) × (1_000_000_000 < x)) → TrialRefused bytes k opening rs 15
  pub trial_12 : TrialRule → (bytes : List ℕ) (G : Graph) (k opening : ℕ) (rs : List DayRecord) (taken : List ℕ) (margins : List ℤ) → read_index bytes ≡ passed G → Opens k opening rs
      → AllInRange G rs (length rs) → (length taken < length rs) ⊎ (length margins < length (groups_of G k))
      → try_limit bytes k opening rs taken margins ≡ record { reply = refused_by 12; taken = taken; margins = margins }
  -- nothing else is refused
  pub trial_only : TrialRule → (G : Graph) (k opening : ℕ) (rs : List DayRecord) → ((r : ℕ) × DayFault G k opening rs r) ⊎ (Opens k opening rs × AllInRange G rs (length rs))
  pub trial_done : TrialRule → (bytes : List ℕ) (G : Graph) (k opening : ℕ) (rs : List DayRecord) (taken : List ℕ) (margins : List ℤ) → read_index bytes ≡ passed G → Opens k opening rs
      → AllInRange G rs (length rs) → length rs ≤ length taken → length (groups_of G k) ≤ length margins
      → Done G k opening rs (λ zs j. get_or zs j (pos 0)) 1 (pos 0) taken margins (try_limit bytes k opening rs taken margins)
  -- from C: eight bytes to a margin; refused or not, as with room for as many margins
  pub trial_done_bytes : TrialRule → (bytes : List ℕ) (G : Graph) (k opening : ℕ) (records taken margins : List ℕ) → read_index bytes ≡ passed G → Opens k opening (records_in records)
      → AllInRange G (records_in records) (length (records_in records)) → length (records_in records) ≤ length taken → length (groups_of G k) * 8 ≤ length margins
      → Done G k opening (records_in records) (λ b j. margin_at b (j * 8)) 8 0 taken margins (try_limit_bytes bytes k opening records taken margins)
  pub trial_bytes : TrialRule → (bytes : List ℕ) (k opening : ℕ) (records taken margins : List ℕ) (zs : List ℤ) → length zs ≡ length margins / 8
      → ((try_limit_bytes bytes k opening records taken margins).reply ≡ (try_limit bytes k opening (records_in records) taken zs).reply)
      × ((try_limit_bytes bytes k opening records taken margins).taken ≡ (try_limit bytes k opening (records_in records) taken zs).taken)
  pub refused_trial : RefusalKeeps → (bytes : List ℕ) (k opening : ℕ) (rs : List DayRecord) (taken : List ℕ) (margins : List ℤ) → (try_limit bytes k opening rs taken margins).reply.refusal ≢ 0
      → ((try_limit bytes k opening rs taken margins).taken ≡ taken) × ((try_limit bytes k opening rs taken margins).margins ≡ margins)
  pub refused_trial_bytes : RefusalKeeps → (bytes : List ℕ) (k opening : ℕ) (records taken margins : List ℕ) → (try_limit_bytes bytes k opening records taken margins).reply.refusal ≢ 0
      → ((try_limit_bytes bytes k opening records taken margins).taken ≡ taken) × ((try_limit_bytes bytes k opening records taken margins).margins ≡ margins)
  -- the groups at k: stored groups in the order of their numbers; the group at k of each link is one of them, and each of them is the group at k of its links
  pub groups_at_k : (G : Graph) (k : ℕ) → groups_of G k ≡ filter (λ g. same_list (group_at G k (least_link g)) g.members) (groups G)
  pub group_of_link : TrialRule → (bytes : List ℕ) (G : Graph) (k i j : ℕ) → read_index bytes ≡ passed G → 2 ≤ k → k ≤ max_level → In j (group_at G k i)
      → (g : Group) × In g (groups_of G k) × (g.members ≡ group_at G k i)
  pub links_of_group : TrialRule → (bytes : List ℕ) (G : Graph) (k : ℕ) (g : Group) → read_index bytes ≡ passed G → 2 ≤ k → k ≤ max_level → In g (groups_of G k)
      → In g (groups G) × ((i : ℕ) → In i g.members → group_at G k i ≡ g.members)
  pub sequence_tells : ChangesTell → (b x : List ℕ) (G : Graph) (T : LinkSet) → read_index b ≡ passed G → Changes Changed b (member G.links) x T → Tells x G.n T

-- The questions on the graph of an index: answers A to G, and the checks 8 to 11.
use Rattle.std.specs.Prelude.{Bool, not, ◌&&◌, ◌||◌, List, [], ◌∷◌, ℕ, ◌*◌, ◌%◌, eqb, ltb, leb, length, get_or}
use Rattle.truss.specs.Limits.{min_level, max_level, max_named}
use Rattle.truss.specs.Lists.{filter, any, all, sort, range, count, largest, same_list}
use Rattle.truss.specs.Graph.{Link, Graph, Triangle, link, link_at, ends, member, link_number}
use Rattle.truss.specs.Strength.{strength, strength_bound}
use Rattle.truss.specs.Group.{Group, least_link, groups, group_at}
use Rattle.truss.specs.Shortest.{shortest_chain}
use Rattle.truss.specs.Support.{support_at}
use Rattle.truss.specs.Refusal.{Checked, passed, refuse_if}
use Rattle.truss.specs.Record.{from_bytes}

-- ---- the answers. A, "the strength s, and how many triangles of weight at least s hold the link", is `strength` and `support_at`.

-- B. "The largest k at which two links are joined, 0 if none; a link with itself gives its strength", which may be 2: it "counts as joined to itself at every k up
-- to its strength". A link is in its own group at k just if its strength is at least k, and other links are in it just if they are joined (laws: joined_up_to_is,
-- joined_up_to_max, joined_itself).
unfoldable pub joined_up_to : Graph → Link → Link → ℕ
unfolding largest any group_at link_number
joined_up_to G e f = largest (λ k. leb min_level k && any (eqb (link_number G f)) (group_at G k (link_number G e))) (strength_bound G)

-- "A group holds an account when one of its links has that account as an end."
unfoldable pub holds : Graph → Group → ℕ → Bool
unfolding any
holds G g v = any (λ i. ends (link_at G i) v) g.members

-- "the intersection is meant": it holds all of them
abbrev pub holds_all : Graph → List ℕ → Group → Bool
holds_all G vs g = all (holds G g) vs

abbrev pub empty_group : Group
empty_group = record { strength = 0; members = [] }

-- the numbers, rising, of the stored groups that pass; C to E sort them after
unfoldable pub numbers_of : (Group → Bool) → List Group → List ℕ
unfolding filter range
numbers_of p gs = filter (λ i. p (get_or gs i empty_group)) (range 0 (length gs))

-- the stored group is a group at k, perhaps not its strength
unfoldable pub is_group_at : Graph → ℕ → Group → Bool
unfolding same_list group_at
is_group_at G k g = same_list (group_at G k (least_link g)) g.members

-- C. "The groups at k that hold all named accounts."
unfoldable pub groups_holding : Graph → ℕ → List ℕ → List ℕ
unfolding numbers_of is_group_at groups all holds
groups_holding G k vs = numbers_of (λ g. is_group_at G k g && holds_all G vs g) (groups G)

-- D. "Those stored groups holding all of them whose strength is greatest."
unfoldable pub strongest_holding : Graph → List ℕ → List ℕ
unfolding numbers_of groups all holds
strongest_holding G vs =
    let gs = groups G in
    numbers_of (λ g. holds_all G vs g && all (λ o. not (holds_all G vs o) || leb o.strength g.strength) gs) gs

-- E. "All stored groups holding all of them."
unfoldable pub all_holding : Graph → List ℕ → List ℕ
unfolding numbers_of groups all holds
all_holding G vs = numbers_of (holds_all G vs) (groups G)

-- "then by more accounts held": the accounts of nested groups count, as in the lister's rows
abbrev pub accounts_held : Graph → Group → ℕ
accounts_held G g = count (holds G g) G.n

-- "C, D and E now list by falling strength, then by more accounts held, then by least link." The strength is the stored group's, in C too.
abbrev pub listed_before : Graph → Group → Group → Bool
listed_before G g h =
    ltb h.strength g.strength
    || (eqb g.strength h.strength
    && (ltb (accounts_held G h) (accounts_held G g) || (eqb (accounts_held G g) (accounts_held G h) && ltb (least_link g) (least_link h))))

-- the numbers of stored groups, in that order (laws: listed_is, listed_only)
unfoldable pub listed : Graph → List ℕ → List ℕ
unfolding sort groups count holds
listed G is = let gs = groups G in sort (λ i j. listed_before G (get_or gs i empty_group) (get_or gs j empty_group)) is

-- F. "The links of the group at k with a given link; none if its strength is below k."
unfoldable pub group_links : Graph → ℕ → Link → List ℕ
unfolding group_at link_number
group_links G k e = group_at G k (link_number G e)

-- G. The shortest way between two links is `shortest_chain`.

-- ---- a question and its checks

-- "A question names a link by its two accounts, in either order." Accounts "are lent as two bytes each".
pub data Question : Type 0 where
  ask_strength : (a b : ℕ) → Question
  ask_joined : (a b c d : ℕ) → Question
  ask_groups_at : (k : ℕ) (accounts : List ℕ) → Question
  ask_strongest : (accounts : List ℕ) → Question
  ask_all : (accounts : List ℕ) → Question
  ask_links : (k a b : ℕ) → Question
  ask_chain : (k a b c d : ℕ) → Question

-- "Question A now gives two numbers"; B answers with one; C to F with group or link numbers, to be written; G with triangles, to be written.
pub data Answer : Type 0 where
  two_numbers : ℕ → ℕ → Answer
  number : ℕ → Answer
  numbers : List ℕ → Answer
  chain : List Triangle → Answer

-- the accounts that lent bytes name
unfoldable pub accounts_in : List ℕ → List ℕ
accounts_in [] = []
accounts_in (x ∷ []) = []
accounts_in (x ∷ y ∷ b) = from_bytes x y ∷ accounts_in b

-- 8: "no account named, over 16, or an odd byte length"
abbrev pub bad_count : List ℕ → Bool
bad_count b = eqb (length b) 0 || (ltb (max_named * 2) (length b) || eqb (length b % 2) 1)

-- 9: "an account not below n"
unfoldable pub outside : Graph → List ℕ → Bool
unfolding any
outside G vs = any (leb G.n) vs

-- 10: "below 2 or above 64"
abbrev pub bad_level : ℕ → Bool
bad_level k = ltb k min_level || ltb max_level k

-- 11: "the pair is no link"
abbrev pub no_link : Graph → ℕ → ℕ → Bool
no_link G a b = not (member G.links (link a b))

-- "A question is checked as 7, 8, 9, 10, 11, 12, those that apply": here 8 to 11; 7 and 12 stand in Call. Each has place 0.
unfoldable pub answer : Graph → Question → Checked Answer
unfolding strength support_at accounts_in outside member joined_up_to groups_holding strongest_holding all_holding listed group_links shortest_chain
answer G (ask_strength a b) =
    refuse_if (outside G (a ∷ b ∷ [])) 9 0
    (refuse_if (no_link G a b) 11 0
    (let s = strength G (link a b) in passed (two_numbers s (support_at G s (link a b)))))
answer G (ask_joined a b c d) =
    refuse_if (outside G (a ∷ b ∷ c ∷ d ∷ [])) 9 0
    (refuse_if (no_link G a b || no_link G c d) 11 0
    (passed (number (joined_up_to G (link a b) (link c d)))))
answer G (ask_groups_at k named) =
    refuse_if (bad_count named) 8 0
    (refuse_if (outside G (accounts_in named)) 9 0
    (refuse_if (bad_level k) 10 0
    (passed (numbers (listed G (groups_holding G k (accounts_in named)))))))
answer G (ask_strongest named) =
    refuse_if (bad_count named) 8 0
    (refuse_if (outside G (accounts_in named)) 9 0
    (passed (numbers (listed G (strongest_holding G (accounts_in named))))))
answer G (ask_all named) =
    refuse_if (bad_count named) 8 0
    (refuse_if (outside G (accounts_in named)) 9 0
    (passed (numbers (listed G (all_holding G (accounts_in named))))))
answer G (ask_links k a b) =
    refuse_if (outside G (a ∷ b ∷ [])) 9 0
    (refuse_if (bad_level k) 10 0
    (refuse_if (no_link G a b) 11 0
    (passed (numbers (group_links G k (link a b))))))
-- "F's checks apply in F's order, each to both links."
answer G (ask_chain k a b c d) =
    refuse_if (outside G (a ∷ b ∷ c ∷ d ∷ [])) 9 0
    (refuse_if (bad_level k) 10 0
    (refuse_if (no_link G a b || no_link G c d) 11 0
    (passed (chain (shortest_chain G k (link a b) (link c d))))))

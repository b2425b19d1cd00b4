-- What questions C, D and E list and are refused by, as one statement about every index that 7 lets pass, every window that there is and whatever is lent. Proved in laws: order_rule.
use Rattle.std.specs.Prelude.{◌≡◌, ◌⊎◌, ◌↔◌, ◌≢◌, List, [], ◌∷◌, ◌++◌, ℕ, ◌+◌, ◌*◌, ◌≤◌, ◌<◌, length, get_or, drop, set}
use mathlib.Core.List.{Memᴰ as In}
use Rattle.truss.specs.Limits.{min_level, max_level, max_named, windows}
use Rattle.truss.specs.Lists.{concat_map}
use Rattle.truss.specs.Graph.{Graph}
use Rattle.truss.specs.Group.{Group, least_link, groups}
use Rattle.truss.specs.Refusal.{passed}
use Rattle.truss.specs.Record.{field}
use Rattle.truss.specs.IndexFile.{read_index}
use Rattle.truss.specs.Question.{empty_group, accounts_held, groups_holding, strongest_holding, all_holding, Question, ask_groups_at, ask_strongest, ask_all, accounts_in}
use Rattle.truss.specs.Call.{done, next_tally, ask}
use Rattle.truss.specs.Windows.{refused_by}

-- ---- the order

-- "by falling strength, then by more accounts held, then by least link"
pub data ListedBefore (G : Graph) (g h : Group) : Type 0 where
  stronger : h.strength < g.strength → ListedBefore G g h
  larger : g.strength ≡ h.strength → accounts_held G h < accounts_held G g → ListedBefore G g h
  earlier : g.strength ≡ h.strength → accounts_held G g ≡ accounts_held G h → least_link g < least_link h → ListedBefore G g h

-- the stored group of that number
abbrev pub group_numbered : Graph → ℕ → Group
group_numbered G i = get_or (groups G) i empty_group

-- each group of the row is before all that come after it
pub data InOrder (G : Graph) : List ℕ → Type 0 where
  nothing : InOrder G []
  and_first : {i : ℕ} {is : List ℕ} → ((j : ℕ) → In j is → ListedBefore G (group_numbered G i) (group_numbered G j)) → InOrder G is → InOrder G (i ∷ is)

-- The row js has the groups of is, as many as those, in order. "The count and the set of groups are those of before."
pub record IsListed (G : Graph) (is js : List ℕ) : Type 0 where
  pub same : (i : ℕ) → In i js ↔ In i is
  pub count : length js ≡ length is
  pub in_order : InOrder G js

-- ---- the questions

-- 8 is met otherwise: "no account named, over 16, or an odd byte length"
abbrev pub WellCounted : List ℕ → Type 0
WellCounted named = (c : ℕ) × (1 ≤ c) × (c ≤ max_named) × (length named ≡ 2 * c)

-- 9 is met otherwise: "an account not below n"
abbrev pub Inside : Graph → List ℕ → Type 0
Inside G named = (v : ℕ) → In v (accounts_in named) → v < G.n

-- 10 is met otherwise: k "below 2 or above 64"
abbrev pub Level : ℕ → Type 0
Level k = (min_level ≤ k) × (k ≤ max_level)

-- the groups that a question means, by the definitions of before
pub data Means (G : Graph) : Question → List ℕ → Type 0 where
  means_C : {k : ℕ} {named : List ℕ} → WellCounted named → Inside G named → Level k → Means G (ask_groups_at k named) (groups_holding G k (accounts_in named))
  means_D : {named : List ℕ} → WellCounted named → Inside G named → Means G (ask_strongest named) (strongest_holding G (accounts_in named))
  means_E : {named : List ℕ} → WellCounted named → Inside G named → Means G (ask_all named) (all_holding G (accounts_in named))

-- the first fault of a question, 8 to 10
pub data FirstFault (G : Graph) : Question → ℕ → Type 0 where
  C_count : {k : ℕ} {named : List ℕ} → ¬ WellCounted named → FirstFault G (ask_groups_at k named) 8
  C_outside : {k : ℕ} {named : List ℕ} → WellCounted named → ¬ Inside G named → FirstFault G (ask_groups_at k named) 9
  C_level : {k : ℕ} {named : List ℕ} → WellCounted named → Inside G named → ¬ Level k → FirstFault G (ask_groups_at k named) 10
  D_count : {named : List ℕ} → ¬ WellCounted named → FirstFault G (ask_strongest named) 8
  D_outside : {named : List ℕ} → WellCounted named → ¬ Inside G named → FirstFault G (ask_strongest named) 9
  E_count : {named : List ℕ} → ¬ WellCounted named → FirstFault G (ask_all named) 8
  E_outside : {named : List ℕ} → WellCounted named → ¬ Inside G named → FirstFault G (ask_all named) 9

-- the whole call, if the question lists these numbers: "a two-byte count, then that many two-byte group numbers", and 12 if they do not fit
pub record Lists (bytes : List ℕ) (q : Question) (is : List ℕ) : Type 0 where
  pub fits : (buffer : List ℕ) (w : ℕ) (tallies : List ℕ) → w < windows → 2 + 2 * length is ≤ length buffer
      → ask bytes q buffer w tallies
      ≡ record {
        reply = done (2 + 2 * length is);
        buffer = (field (length is) ++ concat_map field is) ++ drop (2 + 2 * length is) buffer;
        tallies = set tallies w (next_tally (get_or tallies w 0));
      }
  pub short : (buffer : List ℕ) (w : ℕ) (tallies : List ℕ) → w < windows → length buffer < 2 + 2 * length is
      → ask bytes q buffer w tallies ≡ record { reply = refused_by 12; buffer = buffer; tallies = tallies }

pub record OrderRule : Type 0 where
  -- Of two stored groups one is before the other, and not the other before it; what is before a group is before all that it is before.
  pub total : (G : Graph) (i j : ℕ) → i < length (groups G) → j < length (groups G) → i ≢ j
      → ListedBefore G (group_numbered G i) (group_numbered G j) ⊎ ListedBefore G (group_numbered G j) (group_numbered G i)
  pub one_way : (G : Graph) (g h : Group) → ListedBefore G g h → ¬ ListedBefore G h g
  pub onward : (G : Graph) (g h o : Group) → ListedBefore G g h → ListedBefore G h o → ListedBefore G g o
  -- The groups of before are listed in that order,
  pub gives : (bytes : List ℕ) (G : Graph) (q : Question) (is : List ℕ) → read_index bytes ≡ passed G → Means G q is → (js : List ℕ) × IsListed G is js × Lists bytes q js
  -- and no other row of them is in order.
  pub only : (G : Graph) (is js js' : List ℕ) → IsListed G is js → ((i : ℕ) → In i js' ↔ In i is) → InOrder G js' → js ≡ js'
  -- Refused, all that is lent stays.
  pub refuses : (bytes : List ℕ) (G : Graph) (q : Question) (r : ℕ) → read_index bytes ≡ passed G → FirstFault G q r
      → (buffer : List ℕ) (w : ℕ) (tallies : List ℕ) → w < windows → ask bytes q buffer w tallies ≡ record { reply = refused_by r; buffer = buffer; tallies = tallies }

-- What the functions that count ask and give. Assumes nothing.
use Rattle.std.specs.Prelude.{◌≡◌, ◌⊎◌, ◌≢◌, Bool, List, ℕ, ◌+◌, ◌*◌, ◌≤◌, ◌<◌, length}
use Rattle.std.proofs.Common.{sym, ap, ◌∙◌, subst, inl, inr, arith}
use Rattle.truss.specs.Limits.{max_accounts}
use Rattle.truss.specs.Lists.{count as howMany}
use Rattle.truss.specs.Question.{accounts_held}
use Rattle.laws.proofs.Numbers.{same_or_not}
use Rattle.laws.proofs.Stored.{stored}
use Rattle.columns.specs.Columns.{cell, COLUMNS}
use Rattle.columns.specs.Wiping.{Wiping, Cleaned, zeros, zeros_at, zeros-length}
use Rattle.sorting.specs.Chains.{Higher}
use Rattle.sorting.specs.State.{at as headAt}
use Rattle.stored.specs.Rows.{graph_in, key_at, IsIndex, Shape, few_accounts, Sized, shape_sized, sized_few}
use Rattle.counting.specs.Touching.{Both, both_none, both_then, Closed, Small}
use Rattle.counting.specs.Counting.{member_of, holds_of, how_few, Rounds, rounds_none, rounds_closed, group_length, Round, round_then, round_few, round_closed, accounts_more}
use Rattle.counting.specs.Ends.{ChainAsks, Chained, AtHigher, ChainAt, LowerGives, First, first-none, first_more, at_end, all-ends}

-- ---- counting

pub record LinksGive (b : List ℕ) (m count : ℕ) (w w' : List ℕ) : Type 0 where
  pub both : Both m count 5 w w'
  pub rounds : Rounds m count 5 m (member_of (graph_in b)) w'

pub rounds_small : {m count c i : ℕ} {p : ℕ → ℕ → Bool} {w : List ℕ} → i < 65535 → Rounds m count c i p w → Small m count c w
rounds_small {m} {count} {c} {i} {p} l R h k = omega (arith, R.counts h k, how_few (p h) i)

-- ---- accounts

-- what the round of account v asks; it may be under way
pub record RoundAsks (b : List ℕ) (m count v : ℕ) (w : List ℕ) : Type 0 where
  pub few_v : v < max_accounts
  pub size_is : length w ≡ COLUMNS * m
  pub counts : (h : ℕ) → h < count → cell w m 4 h ≤ v + 1
  pub closed : Closed b m count (v + 1) w

module _ {b : List ℕ} {m count v : ℕ} {P : ℕ → Type 0} {w w' : List ℕ} (A : RoundAsks b m count v w) (R : Round b m count (v + 1) P w w') where
  pub asked_small : Small m count 4 w'
  asked_small h l = omega (arith, round_few R h l, A.counts h l, A.few_v)

  pub asked_closed : {at : ℕ} → Sized b at m count → Closed b m count (v + 1) w'
  asked_closed S = round_closed S.groups_at_lem.is_index S.groups A.closed R

pub record AccountsAsks (b : List ℕ) (m n count : ℕ) (w head : List ℕ) : Type 0 where
  pub wide : n ≤ length head
  pub chains : Higher (key_at (graph_in b)) n m (headAt head) (cell w m 1)
  pub rounds : Rounds m count 4 0 (holds_of (graph_in b)) w

pub record AccountsGive (b : List ℕ) (m n count : ℕ) (w w' : List ℕ) : Type 0 where
  pub both : Both m count 4 w w'
  pub rounds : Rounds m count 4 n (holds_of (graph_in b)) w'

-- the first v accounts are over, and the links before i
pub record AccountState (b : List ℕ) (m count v i : ℕ) (w₀ w : List ℕ) : Type 0 where
  pub both : Both m count 4 w₀ w
  pub first : First b m v i
  pub rounds : Rounds m count 4 v (holds_of (graph_in b)) w

pub account_none : {b : List ℕ} {m n count : ℕ} {w head : List ℕ} → AccountsAsks b m n count w head → AccountState b m count 0 0 w w
account_none A = record { both = both_none; first = first-none; rounds = A.rounds }

module _ {b : List ℕ} {n m at count v i : ℕ} {w₀ w head : List ℕ} (X : Shape b n m at count) (A : AccountsAsks b m n count w₀ head) (S : AccountState b m count v i w₀ w) (l : v < n) where
  I : IsIndex b
  I = X.groups_at_lem.is_index

  pub account_few : n ≤ max_accounts
  account_few = omega (arith, few_accounts I, X.accounts)

  pub lower_asks : RoundAsks b m count v w
  lower_asks = record {
    few_v = omega (arith, l, account_few);
    size_is = S.rounds.size_is;
    counts = λ h k. omega (arith, S.rounds.counts h k, how_few (holds_of (graph_in b) h) v);
    closed = rounds_closed b S.rounds;
  }

  module _ {i' : ℕ} {w₁ : List ℕ} (L : LowerGives b m count v i i' w w₁) where
    pub higher_asks : RoundAsks b m count v w₁
    higher_asks = record {
      few_v = omega (arith, l, account_few);
      size_is = L.passed.round.both.length_is ∙ S.rounds.size_is;
      counts = λ h k. omega (arith, round_few L.passed.round h k, S.rounds.counts h k, how_few (holds_of (graph_in b) h) v);
      closed = asked_closed lower_asks L.passed.round (shape_sized X);
    }

    pub chain_asks : {q : ℕ} → q ≡ headAt head v → ChainAt b m v q w₁
    chain_asks {q} e = record {
      head = rw e (A.chains.heads v l);
      nexts = λ r k. rw (L.passed.round.both.others 1 r (omega arith) (omega arith) k ∙ S.both.others 1 r (omega arith) (omega arith) k) (A.chains.nexts r k);
    }

    pub account_more : {w₂ : List ℕ} → Round b m count (v + 1) (AtHigher b m v 0) w₁ w₂ → AccountState b m count (v + 1) i' w₀ w₂
    account_more R = record {
      both = both_then S.both (both_then L.passed.round.both R.both);
      first = first_more I X.links S.first L;
      rounds = accounts_more X.groups (at_end I X.links S.first L) (all-ends I X.links S.first L) S.rounds (round_then L.passed.round R);
    }

-- ---- the whole

-- `count_held`: column 4 has the accounts that each group holds, and 0 after the groups; columns 0 to 3 are 0, and those from 5 on as they were
pub record Held (b : List ℕ) (m count : ℕ) (w w' : List ℕ) : Type 0 where
  pub length_is : length w' ≡ length w
  pub accounts : (h : ℕ) → h < count → cell w' m 4 h ≡ accounts_held (graph_in b) (stored (graph_in b) h)
  pub after : (h : ℕ) → count ≤ h → h < m → cell w' m 4 h ≡ 0
  pub zero : (d y : ℕ) → d < 4 → y < m → cell w' m d y ≡ 0
  pub above : (d y : ℕ) → 5 ≤ d → y < m → cell w' m d y ≡ cell w m d y

-- `count_all`: column 5 has the links of each group besides, nested ones among them, and 0 after the groups; those from 6 on are as they were
pub record Counted (b : List ℕ) (m count : ℕ) (w w' : List ℕ) : Type 0 where
  pub length_is : length w' ≡ length w
  pub accounts : (h : ℕ) → h < count → cell w' m 4 h ≡ accounts_held (graph_in b) (stored (graph_in b) h)
  pub links : (h : ℕ) → h < count → cell w' m 5 h ≡ length (stored (graph_in b) h).members
  pub after : (h : ℕ) → count ≤ h → h < m → (cell w' m 4 h ≡ 0) × (cell w' m 5 h ≡ 0)
  pub zero : (d y : ℕ) → d < 4 → y < m → cell w' m d y ≡ 0
  pub above : (d y : ℕ) → 6 ≤ d → y < m → cell w' m d y ≡ cell w m d y

inside : {b : List ℕ} {n m at count : ℕ} → Shape b n m at count → (h : ℕ) → h < count → h < m
inside X h l = omega (arith, l, (sized_few (shape_sized X)).0)

module _ {b : List ℕ} {n m at count : ℕ} {w : List ℕ} (X : Shape b n m at count) (sz : length w ≡ COLUMNS * m) where
  pub links_chain : {w₁ head : List ℕ} → Cleaned m 3 5 w w₁ → head ≡ zeros (max_accounts + 1) → ChainAsks b m w₁ head
  links_chain C q = record {
    size_is = C.length_is ∙ sz;
    wide = omega (arith, ap length q, zeros-length (max_accounts + 1), few_accounts X.groups_at_lem.is_index);
    zero = λ a l. ap (λ (z : List ℕ). headAt z a) q ∙ zeros_at (max_accounts + 1) a;
  }

  pub accounts_asks : {w₁ w₂ head : List ℕ} → Cleaned m 3 5 w w₁ → Chained b m m w₁ w₂ head → AccountsAsks b m n count w₂ head
  accounts_asks {w₁} {w₂} {head} C D = record {
    wide = omega (arith, D.wide, X.accounts);
    chains = subst (λ (x : ℕ). Higher (key_at (graph_in b)) x m (headAt head) (cell w₂ m 1)) X.accounts D.chains;
    rounds = rounds_none (D.length_is ∙ C.length_is ∙ sz) (λ h l. zero 3 h (omega arith) (omega arith) l) (λ h l. zero 4 h (omega arith) (omega arith) l);
  }
    where
      zero : (d h : ℕ) → 3 ≤ d → d < 5 → h < count → cell w₂ m d h ≡ 0
      zero d h k j l = D.others d h (omega arith) (inside X h l) ∙ C.zero d h k j (inside X h l)

  pub all_held : {w₁ w₂ w₃ w₄ head : List ℕ} → Cleaned m 3 5 w w₁ → Chained b m m w₁ w₂ head → AccountsGive b m n count w₂ w₃ → Cleaned m 0 4 w₃ w₄ → Held b m count w w₄
  all_held C D N Z = record {
    length_is = Z.length_is ∙ N.rounds.size_is ∙ sym sz;
    accounts = λ h l. Z.above 4 h (omega arith) (inside X h l) ∙ N.rounds.counts h l ∙ ap (howMany (holds_of (graph_in b) h)) (sym X.accounts);
    after = λ h l k. Z.above 4 h (omega arith) k ∙ N.both.after 4 h l k ∙ D.others 4 h (omega arith) k ∙ C.zero 4 h (omega arith) (omega arith) k;
    zero = λ d y l k. Z.zero d y (omega arith) l k;
    above = λ d y l k. Z.above d y (omega arith) k ∙ N.both.others d y (omega arith) (omega arith) k ∙ D.others d y (omega arith) k ∙ C.above d y l k;
  }

  pub links_asks : {w₁ w₂ : List ℕ} → Held b m count w w₁ → Wiping m 5 m w₁ w₂ → Rounds m count 5 0 (member_of (graph_in b)) w₂
  links_asks H W = rounds_none (W.length_is ∙ H.length_is ∙ sz) (λ h l. W.others 3 h (omega arith) (inside X h l) ∙ H.zero 3 h (omega arith) (inside X h l)) (λ h l. W.zero h (inside X h l))

  pub all-counted : {w₁ w₂ w₃ w₄ : List ℕ} → Held b m count w w₁ → Wiping m 5 m w₁ w₂ → LinksGive b m count w₂ w₃ → Wiping m 3 m w₃ w₄ → Counted b m count w w₄
  all-counted {w₁} {w₂} {w₃} {w₄} H W L Z = record {
    length_is = Z.length_is ∙ L.rounds.size_is ∙ sym sz;
    accounts = λ h l. kept 4 h (omega arith) (omega arith) (inside X h l) ∙ H.accounts h l;
    links = λ h l. Z.others 5 h (omega arith) (inside X h l) ∙ L.rounds.counts h l ∙ ap (howMany (member_of (graph_in b) h)) (sym X.links) ∙ group_length (graph_in b) h (omega (arith, l, X.groups));
    after = λ h l k. (kept 4 h (omega arith) (omega arith) k ∙ H.after h l k, Z.others 5 h (omega arith) k ∙ L.both.after 5 h l k ∙ W.zero h k);
    zero = λ d y l k. zero d y l k (same_or_not d 3);
    above = λ d y l k. kept d y (omega arith) (omega arith) k ∙ H.above d y (omega arith) k;
  }
    where
      kept : (d y : ℕ) → d ≢ 3 → d ≢ 5 → y < m → cell w₄ m d y ≡ cell w₁ m d y
      kept d y n3 n5 k = Z.others d y n3 k ∙ L.both.others d y n3 n5 k ∙ W.others d y n5 k

      zero : (d y : ℕ) → d < 4 → y < m → (d ≡ 3) ⊎ (d ≢ 3) → cell w₄ m d y ≡ 0
      zero d y l k (inl e) = rw e (Z.zero y k)
      zero d y l k (inr n) = kept d y n (omega arith) k ∙ H.zero d y l k

-- What the answers to questions B to F mean: which groups and links are listed, that repeats change nothing, that an account without links is in no
-- group. And when named accounts are refused by 8 and 9, a level by 10, and what a refused question leaves; how long a list is; and that a tally reads back as it was written.
use mathlib.Core.Path.{◌≡◌, refl, sym, ap, ◌∙◌, subst}
use mathlib.Core.Logic.{◌⊎◌, inl, inr, ◌↔◌}
use mathlib.Core.Bool.{Bool, true, false, cond, ◌&&◌, ◌||◌, not}
use mathlib.Core.List.{List, [], ◌∷◌, ◌++◌}
use mathlib.Core.List.{Memᴰ as In}
use Prim.Native.Nat.{ℕ, ◌+◌, ◌*◌, ◌/◌, ◌%◌, ◌≤◌, ◌<◌}
use native.Mathlib.Nat.{le_antisymm, le_refl, div-div-eq-div-mul, div-add-mod'}
use native.Mathlib.Omega.{arith}
use lib.Dec.{eqb, ltb, leb}
use lib.ListN.{length, get_or}
use borrow.Author.Tests.{ne_eqb, eqb-false, leb-true, le-leb, lt-leb, lt-ltb, le-ltb, ltb-true, ltb-false}
use Rattle.truss.specs.Limits.{min_level, max_level, max_named, max_tally, windows}
use Rattle.truss.specs.Lists.{any, all, range, concat_map}
use Rattle.truss.specs.Graph.{Link, Graph, link_at, ends, member}
use Rattle.truss.specs.Strength.{strength}
use Rattle.truss.specs.Group.{Group, groups, group_at, least_link}
use Rattle.truss.specs.Refusal.{passed, refuse, and_then}
use Rattle.truss.specs.Record.{field}
use Rattle.truss.specs.IndexFile.{read_index}
use Rattle.truss.specs.Question.{Question, answer, numbers, bad_count, outside, bad_level, joined_up_to, holds, holds_all, empty_group, numbers_of, is_group_at, groups_holding, strongest_holding, all_holding}
use Rattle.truss.specs.Call.{answer_bytes, checked_answer, settle, ask, tally_bytes, tally_in}
use Rattle.truss.specs.Windows.{refused_by}
use Rattle.truss.specs.Order.{WellCounted, Level}
use Rattle.laws.proofs.Proper.{Proper}
use Rattle.laws.proofs.Peeling.{strength_at_least_2}
use Rattle.laws.proofs.Lists.{test, bool_same, both, true_not_false, and_left, and_right, or_left_false, or_right_false}
use Rattle.laws.proofs.Numbers.{less_or_not}
use Rattle.laws.proofs.Members.{filter_in, in_filter, filter_none, range_in, in_range, first_in, any_in, in_any}
use Rattle.laws.proofs.Sets.{all_in, in_all, filter_same, eq_same_list, same_list_eq}
use Rattle.laws.proofs.Chains.{strength_at_least, at_least_strength}
use Rattle.laws.proofs.Groups.{size, strength_at, group_self, group_rebase}
use Rattle.laws.proofs.Stored.{group_count, stored, stored_number}
use Rattle.laws.proofs.Meaning.{joined_up_to_max, joined_up_to_is}
use Rattle.laws.proofs.Size.{concat_map-length}

-- ---- 9, of two accounts

module _ (G : Graph) (a b : ℕ) where
  pub is_outside : (G.n ≤ a) ⊎ (G.n ≤ b) → outside G (a ∷ b ∷ []) ≡ true
  unfolding outside any
  is_outside (inl l) = rw (le-leb G.n a l) refl
  is_outside (inr l) = go (leb G.n a)
    where
      go : (t : Bool) → cond t true (cond (leb G.n b) true false) ≡ true
      go true = refl
      go false = rw (le-leb G.n b l) refl

  pub not_outside : a < G.n → b < G.n → outside G (a ∷ b ∷ []) ≡ false
  unfolding outside any
  not_outside l h = rw (lt-leb G.n a l, lt-leb G.n b h) refl

-- ---- 8, 9 and 10, of named accounts and a level

module _ (named : List ℕ) where
  pub well_counted : WellCounted named → bad_count named ≡ false
  well_counted (c, some, few, q) =
      rw (
        ne_eqb (length named) 0 (λ z. omega (arith, some, q, z)),
        le-ltb (max_named * 2) (length named) (omega (arith, few, q)),
        ne_eqb (length named % 2) 1 (λ o. omega (arith, q, o)),
      ) refl

  pub counted_well : bad_count named ≡ false → WellCounted named
  counted_well f =
      let none = eqb-false (length named) 0 (or_left_false (eqb (length named) 0) _ f) in
      let rest = or_right_false (eqb (length named) 0) _ f in
      let few = ltb-false (max_named * 2) (length named) (or_left_false (ltb (max_named * 2) (length named)) _ rest) in
      let even = eqb-false (length named % 2) 1 (or_right_false (ltb (max_named * 2) (length named)) _ rest) in
      (length named / 2, omega (arith, none, even), omega (arith, few), omega (arith, even))

  pub ill_counted : ¬ WellCounted named → bad_count named ≡ true
  ill_counted n = go (test (bad_count named))
    where
      go : (bad_count named ≡ true) ⊎ (bad_count named ≡ false) → bad_count named ≡ true
      go (inl t) = t
      go (inr f) = absurd (n (counted_well f))

module _ (G : Graph) (vs : List ℕ) where
  pub all_inside : ((v : ℕ) → In v vs → v < G.n) → outside G vs ≡ false
  unfolding outside
  all_inside h = go (test (any (leb G.n) vs))
    where
      go : (any (leb G.n) vs ≡ true) ⊎ (any (leb G.n) vs ≡ false) → any (leb G.n) vs ≡ false
      go (inl t) = let r = any_in (leb G.n) vs t in absurd (omega (arith, leb-true G.n r.0 r.2, h r.0 r.1))
      go (inr f) = f

  pub inside_all : outside G vs ≡ false → (v : ℕ) → In v vs → v < G.n
  unfolding outside
  inside_all f v m = go (less_or_not v G.n)
    where
      go : (v < G.n) ⊎ (G.n ≤ v) → v < G.n
      go (inl l) = l
      go (inr l) = absurd (true_not_false (in_any (leb G.n) vs m (le-leb G.n v l)) f)

  pub not_inside : ¬ ((v : ℕ) → In v vs → v < G.n) → outside G vs ≡ true
  not_inside n = go (test (outside G vs))
    where
      go : (outside G vs ≡ true) ⊎ (outside G vs ≡ false) → outside G vs ≡ true
      go (inl t) = t
      go (inr f) = absurd (n (inside_all f))

module _ (k : ℕ) where
  pub is_level : Level k → bad_level k ≡ false
  is_level (l, h) = rw (le-ltb k min_level l, le-ltb max_level k h) refl

  pub no_level : ¬ Level k → bad_level k ≡ true
  no_level n = go (less_or_not k min_level) (less_or_not max_level k)
    where
      go : (k < min_level) ⊎ (min_level ≤ k) → (max_level < k) ⊎ (k ≤ max_level) → bad_level k ≡ true
      go (inl l) h = rw (lt-ltb k min_level l) refl
      go (inr l) (inl h) = rw (le-ltb k min_level l, lt-ltb max_level k h) refl
      go (inr l) (inr h) = absurd (n (l, h))

-- the whole call, refused
pub ask_refused : (bytes : List ℕ) (G : Graph) (q : Question) (r : ℕ) → read_index bytes ≡ passed G → answer G q ≡ refuse r 0
    → (buffer : List ℕ) (w : ℕ) (tallies : List ℕ) → w < windows → ask bytes q buffer w tallies ≡ record { reply = refused_by r; buffer = buffer; tallies = tallies }
unfolding ask settle checked_answer and_then
ask_refused bytes G q r h e buffer w tallies l = rw (lt-leb windows w l, h, and_then, e, and_then, settle) refl

-- ---- the bytes of a list: two for its count, two for each number

pub fields_length : (xs : List ℕ) → length (concat_map field xs) ≡ 2 * length xs
fields_length xs = omega (arith, concat_map-length field 2 (λ x. refl) xs)

pub answer-length : (xs : List ℕ) → length (answer_bytes (numbers xs)) ≡ 2 + 2 * length xs
unfolding answer_bytes
answer-length xs = omega (arith, fields_length xs)

-- ---- the groups that pass a test

module _ (p : Group → Bool) (gs : List Group) where
  pub numbers_in : {g : ℕ} → In g (numbers_of p gs) → (g < length gs) × (p (get_or gs g empty_group) ≡ true)
  unfolding numbers_of
  numbers_in m =
      let r = filter_in (λ (i : ℕ). p (get_or gs i empty_group)) (range 0 (length gs)) m in
      (omega (arith, (range_in 0 (length gs) r.0).1), r.1)

  pub in_numbers : {g : ℕ} → g < length gs → p (get_or gs g empty_group) ≡ true → In g (numbers_of p gs)
  unfolding numbers_of
  in_numbers {g} l h = in_filter (λ (i : ℕ). p (get_or gs i empty_group)) (range 0 (length gs)) (in_range 0 (length gs) (omega arith) (omega arith)) h

numbers_same : (p q : Group → Bool) (gs : List Group) → ((g : Group) → p g ≡ q g) → numbers_of p gs ≡ numbers_of q gs
unfolding numbers_of
numbers_same p q gs h = filter_same (λ (i : ℕ). p (get_or gs i empty_group)) (λ (i : ℕ). q (get_or gs i empty_group)) (range 0 (length gs)) (λ i m. h (get_or gs i empty_group))

numbers_none : (p : Group → Bool) (gs : List Group) → ((g : Group) → p g ≡ false) → numbers_of p gs ≡ []
unfolding numbers_of
numbers_none p gs h = filter_none (λ (i : ℕ). p (get_or gs i empty_group)) (range 0 (length gs)) (λ i m. h (get_or gs i empty_group))

-- g is no weaker than o, if o holds the accounts
abbrev no_weaker : Graph → List ℕ → Group → Group → Bool
no_weaker G vs g o = not (holds_all G vs o) || leb o.strength g.strength

-- ---- C, D and E: "a repeat changes no answer": two rows of the same accounts have one answer

module _ (G : Graph) (us vs : List ℕ) (same : (v : ℕ) → In v us ↔ In v vs) where
  holds_same : (g : Group) → holds_all G us g ≡ holds_all G vs g
  holds_same g =
      bool_same (holds_all G us g) (holds_all G vs g)
      (λ h. in_all (holds G g) vs (λ v m. all_in (holds G g) us h ((same v).1 m)))
      (λ h. in_all (holds G g) us (λ v m. all_in (holds G g) vs h ((same v).0 m)))

  pub repeat_C : (k : ℕ) → groups_holding G k us ≡ groups_holding G k vs
  unfolding groups_holding
  repeat_C k = numbers_same _ _ (groups G) (λ g. ap (λ (b : Bool). is_group_at G k g && b) (holds_same g))

  pub repeat_D : strongest_holding G us ≡ strongest_holding G vs
  unfolding strongest_holding
  repeat_D = ap (λ (f : Group → Bool). numbers_of (λ (g : Group). f g && all (λ (o : Group). not (f o) || leb o.strength g.strength) (groups G)) (groups G)) (λ i g. holds_same g i)

  pub repeat_E : all_holding G us ≡ all_holding G vs
  unfolding all_holding
  repeat_E = numbers_same _ _ (groups G) holds_same

-- ---- "An account without links is in no group, and the count is 0."

module _ (G : Graph) (v : ℕ) (alone : (i : ℕ) → ends (link_at G i) v ≡ false) where
  held_by_none : (g : Group) → holds G g v ≡ false
  unfolding holds
  held_by_none g = go (test (holds G g v))
    where
      go : (holds G g v ≡ true) ⊎ (holds G g v ≡ false) → holds G g v ≡ false
      go (inl c) = let r = any_in (λ (i : ℕ). ends (link_at G i) v) g.members c in absurd (true_not_false r.2 (alone r.0))
      go (inr c) = c

  module _ (vs : List ℕ) (named : In v vs) where
    none_hold : (g : Group) → holds_all G vs g ≡ false
    none_hold g = go (test (holds_all G vs g))
      where
        go : (holds_all G vs g ≡ true) ⊎ (holds_all G vs g ≡ false) → holds_all G vs g ≡ false
        go (inl c) = absurd (true_not_false (all_in (holds G g) vs c named) (held_by_none g))
        go (inr c) = c

    pub alone_C : (k : ℕ) → groups_holding G k vs ≡ []
    unfolding groups_holding
    alone_C k = numbers_none _ (groups G) (λ g. at (is_group_at G k g) (none_hold g))
      where
        at : (a : Bool) {b : Bool} → b ≡ false → (a && b) ≡ false
        at true q = q
        at false q = refl

    pub alone_D : strongest_holding G vs ≡ []
    unfolding strongest_holding
    alone_D = numbers_none _ (groups G) (λ g. at (holds_all G vs g) (all (no_weaker G vs g) (groups G)) (none_hold g))
      where
        at : (a b : Bool) → a ≡ false → (a && b) ≡ false
        at true b q = absurd (true_not_false refl q)
        at false b q = refl

    pub alone_E : all_holding G vs ≡ []
    unfolding all_holding
    alone_E = numbers_none _ (groups G) none_hold

-- ---- C lists the groups at k, and all of them that hold the accounts

module _ (G : Graph) (proper : Proper G) (k : ℕ) (level : min_level ≤ k) (vs : List ℕ) where
  pub C_only : {g : ℕ} → In g (groups_holding G k vs)
      → (g < group_count G) × ((stored G g).members ≡ group_at G k (least_link (stored G g))) × (holds_all G vs (stored G g) ≡ true)
  unfolding groups_holding is_group_at
  C_only {g} m =
      let r = numbers_in (λ (h : Group). is_group_at G k h && holds_all G vs h) (groups G) m in (
        r.0,
        sym (same_list_eq (group_at G k (least_link (stored G g))) (stored G g).members (and_left (is_group_at G k (stored G g)) (holds_all G vs (stored G g)) r.1)),
        and_right (is_group_at G k (stored G g)) (holds_all G vs (stored G g)) r.1,
      )

  -- the group at k with link i, if it holds the accounts
  pub C_all : (i : ℕ) → i < size G → k ≤ strength_at G i → (s : ℕ) → holds_all G vs (record { strength = s; members = group_at G k i }) ≡ true
      → (g : ℕ) × In g (groups_holding G k vs) × ((stored G g).members ≡ group_at G k i)
  unfolding groups_holding is_group_at holds
  C_all i li si s h = from (stored_number G k i level li si)
    where
      from : (g : ℕ) × (g < group_count G) × ((stored G g).members ≡ group_at G k i) × (k ≤ (stored G g).strength)
          → (g : ℕ) × In g (groups_holding G k vs) × ((stored G g).members ≡ group_at G k i)
      from (g, lg, q, kg) = (g, in_numbers (λ (x : Group). is_group_at G k x && holds_all G vs x) (groups G) lg (both at_k all_held), q)
        where
          least : In (least_link (stored G g)) (group_at G k i)
          least = subst (λ (xs : List ℕ). In (get_or (stored G g).members 0 0) xs) q (first_in (stored G g).members (subst (In i) (sym q) (group_self G k i li si)))

          at_k : is_group_at G k (stored G g) ≡ true
          at_k = eq_same_list (group_at G k (least_link (stored G g))) (stored G g).members (group_rebase G k i li least ∙ sym q)

          all_held : holds_all G vs (stored G g) ≡ true
          all_held = rw (sym q) at h

-- ---- D lists the groups that hold the accounts and than which none that does is stronger; E all that do

module _ (G : Graph) (vs : List ℕ) where
  pub D_only : {g : ℕ} → In g (strongest_holding G vs)
      → (g < group_count G) × (holds_all G vs (stored G g) ≡ true)
      × ((h : Group) → In h (groups G) → holds_all G vs h ≡ true → h.strength ≤ (stored G g).strength)
  unfolding strongest_holding
  D_only {g} m =
      let r = numbers_in (λ (x : Group). holds_all G vs x && all (no_weaker G vs x) (groups G)) (groups G) m in (
        r.0,
        and_left (holds_all G vs (stored G g)) (all (no_weaker G vs (stored G g)) (groups G)) r.1,
        λ h mh c. at h c (all_in (no_weaker G vs (stored G g)) (groups G) (and_right (holds_all G vs (stored G g)) (all (no_weaker G vs (stored G g)) (groups G)) r.1) mh),
      )
    where
      at : (h : Group) → holds_all G vs h ≡ true → no_weaker G vs (stored G g) h ≡ true → h.strength ≤ (stored G g).strength
      at h c q = leb-true h.strength (stored G g).strength (rw c at q)

  pub D_all : (g : ℕ) → g < group_count G → holds_all G vs (stored G g) ≡ true
      → ((h : Group) → In h (groups G) → holds_all G vs h ≡ true → h.strength ≤ (stored G g).strength) → In g (strongest_holding G vs)
  unfolding strongest_holding
  D_all g lg c top =
      in_numbers (λ (x : Group). holds_all G vs x && all (no_weaker G vs x) (groups G)) (groups G) lg
      (both c (in_all (no_weaker G vs (stored G g)) (groups G) (λ h mh. at h mh (test (holds_all G vs h)))))
    where
      at : (h : Group) → In h (groups G) → (holds_all G vs h ≡ true) ⊎ (holds_all G vs h ≡ false) → no_weaker G vs (stored G g) h ≡ true
      at h mh (inl d) = rw d (le-leb h.strength (stored G g).strength (top h mh d))
      at h mh (inr d) = rw d refl

  pub E_is : (g : ℕ) → In g (all_holding G vs) ↔ ((g < group_count G) × (holds_all G vs (stored G g) ≡ true))
  unfolding all_holding
  E_is g = ((λ m. numbers_in (holds_all G vs) (groups G) m), (λ r. in_numbers (holds_all G vs) (groups G) r.0 r.1))

-- ---- B: "a link with itself gives its strength"

pub joined_itself : (G : Graph) → Proper G → (e : Link) → member G.links e ≡ true → joined_up_to G e e ≡ strength G e
joined_itself G proper e me =
    le_antisymm top
    (joined_up_to_max G proper e e me me (strength G e) (strength_at_least_2 G e me) (record { strong = strength_at_least G (strength G e) e me (le_refl (strength G e)); joined = inl refl }))
  where
    -- no level above the strength
    top : joined_up_to G e e ≤ strength G e
    top = at (test (ltb 0 (joined_up_to G e e)))
      where
        at : (ltb 0 (joined_up_to G e e) ≡ true) ⊎ (ltb 0 (joined_up_to G e e) ≡ false) → joined_up_to G e e ≤ strength G e
        at (inl c) = at_least_strength G (joined_up_to G e e) e (joined_up_to_is G proper e e me me (ltb-true 0 (joined_up_to G e e) c)).1.strong
        at (inr c) = omega (arith, ltb-false 0 (joined_up_to G e e) c)

-- ---- a tally: four bytes, high byte first, read back

four_bytes : (t a b c r₀ r₁ r₂ : ℕ) → a * 256 + r₀ ≡ t → b * 256 + r₁ ≡ a → c * 256 + r₂ ≡ b → c * 16777216 + r₂ * 65536 + r₁ * 256 + r₀ ≡ t
four_bytes t a b c r₀ r₁ r₂ p q r = omega arith

small_byte : (t c : ℕ) → t ≤ max_tally → c ≡ t / 16777216 → c % 256 ≡ c
small_byte t c l q = omega arith

pub tally_back : (t : ℕ) (rest : List ℕ) → t ≤ max_tally → tally_in (tally_bytes t ++ rest) ≡ t
tally_back t rest l =
    let a : t / 65536 ≡ t / 256 / 256 = sym (div-div-eq-div-mul t 256 256) in
    let b : t / 16777216 ≡ t / 256 / 256 / 256 = sym (div-div-eq-div-mul t 65536 256) ∙ ap (λ (x : ℕ). x / 256) a in
    let top : t / 16777216 % 256 ≡ t / 256 / 256 / 256 = small_byte t (t / 16777216) l refl ∙ b in
    rw (top, a)
    (four_bytes t (t / 256) (t / 256 / 256) (t / 256 / 256 / 256) (t % 256) (t / 256 % 256) (t / 256 / 256 % 256) (div-add-mod' t 256)
    (div-add-mod' (t / 256) 256) (div-add-mod' (t / 256 / 256) 256))

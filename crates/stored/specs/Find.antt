-- The number of a link, found by looking at one link after the other. Assumes nothing.
use Rattle.std.specs.Prelude.{Option, None, Some, is_some, ◌≡◌, refl, ◌⊎◌, ◌≢◌, Bool, false, cond, List, [], ◌∷◌, ℕ, zero, suc, ◌+◌, ◌≤◌, ◌<◌, min, max, eqb, length, get_or}
use Rattle.std.proofs.Math.Path.{sym}
use Rattle.std.proofs.Common.{ap, ◌∙◌, inl, inr, le_of_suc-le-suc, not-suc-le-zero, arith, eq-eqb, ne_eqb}
use Rattle.std.proofs.Math.Bool.{true}
use Rattle.truss.specs.Lists.{any, position}
use Rattle.truss.specs.Graph.{Graph, Link, link, same_link, link_at, link_number, member}
use Rattle.laws.proofs.Lists.{test, true_not_false}
use Rattle.laws.proofs.Numbers.{same_or_not}
use Rattle.laws.proofs.Members.{number_lt}
use Rattle.laws.proofs.Groups.{size}

-- the number of a link, if it is there
abbrev pub number_there : Graph → Link → Option ℕ
number_there G e = cond (member G.links e) (Some (link_number G e)) None

-- the first that passes
position_is : {A : Type 0} (d : A) (p : A → Bool) (xs : List A) (i : ℕ) → i < length xs → p (get_or xs i d) ≡ true → ((j : ℕ) → j < i → p (get_or xs j d) ≡ false) → position p xs ≡ i
unfolding position
position_is d p [] i l t none = absurd (not-suc-le-zero l)
position_is d p (x ∷ xs) zero l t none = rw t refl
position_is d p (x ∷ xs) (suc i) l t none =
    rw (none 0 (omega arith)) (ap suc (position_is d p xs i (le_of_suc-le-suc l) t (λ j h. none (suc j) (omega arith))))

any_at : {A : Type 0} (d : A) (p : A → Bool) (xs : List A) (i : ℕ) → i < length xs → p (get_or xs i d) ≡ true → any p xs ≡ true
unfolding any
any_at d p [] i l t = absurd (not-suc-le-zero l)
any_at d p (x ∷ xs) zero l t = rw t refl
any_at d p (x ∷ xs) (suc i) l t = go (p x) refl (any_at d p xs i (le_of_suc-le-suc l) t)
  where
    go : (b : Bool) → p x ≡ b → any p xs ≡ true → cond (p x) true (any p xs) ≡ true
    go true e h = rw e refl
    go false e h = rw e h

any_none : {A : Type 0} (d : A) (p : A → Bool) (xs : List A) → ((j : ℕ) → j < length xs → p (get_or xs j d) ≡ false) → any p xs ≡ false
unfolding any
any_none d p [] none = refl
any_none d p (x ∷ xs) none = rw (none 0 (omega arith)) (any_none d p xs (λ j h. none (suc j) (omega arith)))

-- whether a link has these accounts
module _ (G : Graph) (lo hi i : ℕ) where
  pub other_lower : {x : ℕ} → x ≡ (link_at G i).lo → x ≢ lo → false ≡ same_link (record { lo = lo; hi = hi }) (link_at G i)
  other_lower q ne = rw (ne_eqb lo (link_at G i).lo (λ s. ne (q ∙ sym s))) refl

  pub by_higher : {x y : ℕ} → x ≡ (link_at G i).lo → x ≡ lo → y ≡ (link_at G i).hi → eqb y hi ≡ same_link (record { lo = lo; hi = hi }) (link_at G i)
  by_higher {x} {y} q e r = rw (eq-eqb lo (link_at G i).lo (sym e ∙ q), ← r) (go (same_or_not y hi))
    where
      go : (y ≡ hi) ⊎ (y ≢ hi) → eqb y hi ≡ eqb hi y
      go (inl s) = eq-eqb y hi s ∙ sym (eq-eqb hi y (sym s))
      go (inr s) = ne_eqb y hi s ∙ sym (ne_eqb hi y (λ t. s (sym t)))

-- none of the first i links has these accounts
abbrev pub NotBefore : Graph → ℕ → ℕ → ℕ → Type 0
NotBefore G lo hi i = (j : ℕ) → j < i → same_link (record { lo = lo; hi = hi }) (link_at G j) ≡ false

module _ (G : Graph) (lo hi : ℕ) where
  pub before_none : NotBefore G lo hi 0
  before_none j l = absurd (omega arith)

  pub before_more : {i : ℕ} → NotBefore G lo hi i → same_link (record { lo = lo; hi = hi }) (link_at G i) ≡ false → NotBefore G lo hi (i + 1)
  before_more {i} N q j l = go (same_or_not j i)
    where
      go : (j ≡ i) ⊎ (j ≢ i) → same_link (record { lo = lo; hi = hi }) (link_at G j) ≡ false
      go (inl s) = rw s q
      go (inr s) = N j (omega arith)

  pub found_is : {i : ℕ} → i < size G → NotBefore G lo hi i → same_link (record { lo = lo; hi = hi }) (link_at G i) ≡ true → Some i ≡ number_there G (record { lo = lo; hi = hi })
  unfolding link_number member
  found_is {i} l N q =
      let at : i ≡ link_number G (record { lo = lo; hi = hi }) = sym (position_is (link 0 0) (same_link (record { lo = lo; hi = hi })) G.links i l q N) in
      rw (any_at (link 0 0) (same_link (record { lo = lo; hi = hi })) G.links i l q) (ap {B = Option ℕ} (λ x. Some x) at)

  pub none_is : {i m : ℕ} → size G ≡ m → m ≤ i → NotBefore G lo hi i → None ≡ number_there G (record { lo = lo; hi = hi })
  unfolding member
  none_is s l N = rw (any_none (link 0 0) (same_link (record { lo = lo; hi = hi })) G.links (λ j h. N j (omega (arith, h, s, l)))) refl

-- the accounts of a link in their order
pub link_lower_first : (a b : ℕ) → a < b → ◌≡◌ {A = Link} (record { lo = a; hi = b }) (link a b)
link_lower_first a b l = let p : a ≡ min a b = omega arith in let q : b ≡ max a b = omega arith in λ i. record { lo = p i; hi = q i }

pub link_higher_first : (a b : ℕ) → b ≤ a → ◌≡◌ {A = Link} (record { lo = b; hi = a }) (link a b)
link_higher_first a b l = let p : b ≡ min a b = omega arith in let q : a ≡ max a b = omega arith in λ i. record { lo = p i; hi = q i }

-- ---- whether a link is there, by what the look-up gives

module _ (G : Graph) (e : Link) {r : Option ℕ} (q : r ≡ number_there G e) where
  pub found_link : {i : ℕ} → r ≡ Some i → (member G.links e ≡ true) × (i ≡ link_number G e)
  found_link {i} h = go (test (member G.links e))
    where
      go : (member G.links e ≡ true) ⊎ (member G.links e ≡ false) → (member G.links e ≡ true) × (i ≡ link_number G e)
      go (inl t) = let z : ◌≡◌ {A = Option ℕ} (Some i) (Some (link_number G e)) = sym h ∙ q ∙ rw t refl in (t, cc)
      go (inr f) = let z : ◌≡◌ {A = Option ℕ} (Some i) None = sym h ∙ q ∙ rw f refl in let y : ◌≡◌ {A = ℕ} 0 1 = cc in absurd (omega arith)

  pub no_such_link : r ≡ None → member G.links e ≡ false
  no_such_link h = go (test (member G.links e))
    where
      go : (member G.links e ≡ true) ⊎ (member G.links e ≡ false) → member G.links e ≡ false
      go (inl t) = let z : ◌≡◌ {A = Option ℕ} None (Some (link_number G e)) = sym h ∙ q ∙ rw t refl in let y : ◌≡◌ {A = ℕ} 0 1 = cc in absurd (omega arith)
      go (inr f) = f

  pub found_in : {i : ℕ} → r ≡ Some i → i < size G
  found_in h = let f = found_link h in omega (arith, f.1, number_lt G e f.0)

-- the look-up's test
pub there : (r : Option ℕ) → is_some r ≡ true → (i : ℕ) × (r ≡ Some i)
there (Some i) h = (i, refl)
there None h = absurd (true_not_false h refl)

pub not_there : (r : Option ℕ) → is_some r ≡ false → r ≡ None
not_there (Some i) h = absurd (true_not_false refl h)
not_there None h = refl

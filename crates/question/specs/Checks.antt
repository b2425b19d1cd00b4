-- Checks, one after another. Assumes nothing.
use Rattle.std.specs.Option.{ok_or}
use Rattle.std.specs.Prelude.{◌≡◌, Option, Some, None, Result, Ok, Err, Bool, true, false, ◌||◌, List, [], ◌∷◌, ℕ, ◌≤◌, ◌<◌, ltb, length, get_or}
use Rattle.std.proofs.Math.Path.{refl, ap}
use Rattle.std.proofs.Common.{sym, ◌∙◌, arith}
use Rattle.truss.specs.Limits.{min_level, max_level}
use Rattle.truss.specs.Graph.{Graph, link, link_number, member}
use Rattle.truss.specs.Refusal.{Checked, passed, refused, refuse_if}
use Rattle.truss.specs.Refusal.{Refusal as Refused}
use Rattle.truss.specs.Question.{bad_level, no_link, outside}
use Rattle.laws.proofs.Lists.{or_left_false}
use Rattle.laws.proofs.Groups.{size}
use Rattle.laws.proofs.Members.{number_lt, get_d_in, in_get_d}
use Rattle.laws.proofs.Answers.{all_inside, inside_all, not_inside}
use mathlib.Core.List.Memᴰ.{head as here}
use mathlib.Core.List.Memᴰ.{tail as there}
use borrow.Author.Tests.{ltb-false}
use Rattle.limits.specs.declared.refusal.Refusal.{Refusal}
use Rattle.limits.specs.declared.refusal.Refusal.TheVariants.{NoLink}
use Rattle.stored.specs.Find.{number_there, found_link, no_such_link}
use Rattle.limits.specs.Refusals.{number_of, checked, refusal_in, at_no_place}

pub not_passed : {A : Type 0} {r : Refused} {y : A} → refused r ≡ passed y → ⊥
not_passed q = let z : ◌≡◌ {A = ℕ} 0 1 = cc in omega arith

-- a refusal of one kind of checks as one of another
pub same_refusal : {A B : Type 0} {r s : Refused} → ◌≡◌ {A = Checked A} (refused r) (refused s) → ◌≡◌ {A = Checked B} (refused s) (refused r)
same_refusal {A} {B} {r} {s} q = let z : r ≡ s = cc in ap {B = Checked B} (λ (x : Refused). refused x) (sym z)

-- one check: refused by that number under its condition only, else passed with y
pub record OneCheck {A : Type 0} (t : Bool) (k : ℕ) (y : A) (r : Result A Refusal) : Type 0 where
  pub is : checked r ≡ refuse_if t k 0 (passed y)

module _ {A : Type 0} {t : Bool} {k : ℕ} {y : A} where
  pub refuses : {f : Refusal} → t ≡ true → number_of f ≡ k → OneCheck {A = A} t k y (Err f)
  unfolding checked
  refuses e n = record { is = rw (e, n) refl }

  pub lets_pass : t ≡ false → OneCheck t k y (Ok y)
  unfolding checked
  lets_pass e = record { is = rw e refl }

  -- a check that passed
  pub passes : {z : A} → OneCheck t k y (Ok z) → (t ≡ false) × (z ≡ y)
  unfolding checked
  passes {z} C = go t C.is
    where
      go : (t : Bool) → passed z ≡ refuse_if t k 0 (passed y) → (t ≡ false) × (z ≡ y)
      go true q = absurd (not_passed (sym q))
      go false q = (refl, cc)

  -- what comes after it
  pub goes_on : {z : A} {B : Type 0} (x : Checked B) → OneCheck t k y (Ok z) → refuse_if t k 0 x ≡ x
  goes_on x C = rw ((passes C).0) refl

  -- one that refused, before others
  pub stops : {f : Refusal} {B : Type 0} (x : Checked B) → OneCheck {A = A} t k y (Err f) → refuse_if t k 0 x ≡ refused (refusal_in (at_no_place f))
  unfolding checked
  stops {f} {B} x C = go t C.is
    where
      go : (t : Bool) → ◌≡◌ {A = Checked A} (refused (refusal_in (at_no_place f))) (refuse_if t k 0 (passed y)) → refuse_if t k 0 x ≡ refused (refusal_in (at_no_place f))
      go true q = same_refusal q
      go false q = absurd (not_passed q)

  -- the first of two with one refusal
  pub first_passes : {z : A} (u : Bool) {B : Type 0} (x : Checked B) → OneCheck t k y (Ok z) → refuse_if (t || u) k 0 x ≡ refuse_if u k 0 x
  first_passes u x C = rw ((passes C).0) refl

  pub first_stops : {f : Refusal} (u : Bool) {B : Type 0} (x : Checked B) → OneCheck {A = A} t k y (Err f) → refuse_if (t || u) k 0 x ≡ refused (refusal_in (at_no_place f))
  unfolding checked
  first_stops {f} u {B} x C = go t C.is
    where
      go : (t : Bool) → ◌≡◌ {A = Checked A} (refused (refusal_in (at_no_place f))) (refuse_if t k 0 (passed y)) → refuse_if (t || u) k 0 x ≡ refused (refusal_in (at_no_place f))
      go true q = same_refusal q
      go false q = absurd (not_passed q)

-- ---- accounts, a level, a link

module _ (G : Graph) {n : ℕ} (accounts : G.n ≡ n) where
  pub one_outside : (vs : List ℕ) {k : ℕ} → k < length vs → n ≤ get_or vs k 0 → outside G vs ≡ true
  one_outside vs {k} l h = not_inside G vs (λ a. omega (arith, a (get_or vs k 0) (get_d_in 0 vs k l), h, accounts))

  pub none_outside : (vs : List ℕ) → ((k : ℕ) → k < length vs → get_or vs k 0 < n) → outside G vs ≡ false
  none_outside vs h = all_inside G vs (λ v m. let (k, l, q) = in_get_d 0 vs m in omega (arith, h k l, q, accounts))

  pub four_inside : {a b c d : ℕ} → OneCheck (outside G (a ∷ b ∷ c ∷ d ∷ [])) 9 (tt {0}) (Ok tt) → (a < n) × (b < n) × (c < n) × (d < n)
  four_inside {a} {b} {c} {d} q =
      let h = inside_all G (a ∷ b ∷ c ∷ d ∷ []) (passes q).0 in
      (omega (arith, h a (here refl), accounts), omega (arith, h b (there (here refl)), accounts), omega (arith, h c (there (there (here refl))), accounts), omega (arith, h d (there (there (there (here refl)))), accounts))

-- a level that is not refused
pub level_least : (k : ℕ) → OneCheck (bad_level k) 10 (tt {0}) (Ok tt) → min_level ≤ k
level_least k q = ltb-false k min_level (or_left_false (ltb k min_level) (ltb max_level k) (passes q).0)

-- a link that is looked up
pub looked_up : (G : Graph) (a b : ℕ) {r : Option ℕ} {x : Result ℕ Refusal} → r ≡ number_there G (link a b) → x ≡ ok_or r NoLink → OneCheck (no_link G a b) 11 (link_number G (link a b)) x
unfolding number_of
looked_up G a b {r = Some i} {x = x} q h =
    let f = found_link G (link a b) q refl in
    let u : x ≡ Ok (link_number G (link a b)) = h ∙ ap (λ (k : ℕ). ok_or (Some k) NoLink) f.1 in
    rw u (lets_pass (rw (f.0) refl))
looked_up G a b {r = None} {x = x} q h = rw h (refuses (rw (no_such_link G (link a b) q refl) refl) refl)

module _ (G : Graph) (a b : ℕ) {e : ℕ} (q : OneCheck (no_link G a b) 11 (link_number G (link a b)) (Ok e)) where
  pub link_there : member G.links (link a b) ≡ true
  link_there = go (member G.links (link a b)) refl
    where
      go : (t : Bool) → member G.links (link a b) ≡ t → member G.links (link a b) ≡ true
      go true e = e
      go false e = let f = (passes q).0 in absurd (let z : true ≡ false = sym (rw e refl) ∙ f in let y : ◌≡◌ {A = ℕ} 0 1 = cc in omega arith)

  pub link_is : e ≡ link_number G (link a b)
  link_is = (passes q).1

  pub link_below : e < size G
  link_below = omega (arith, link_is, number_lt G (link a b) link_there)

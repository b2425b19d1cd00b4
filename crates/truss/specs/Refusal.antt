-- Checks and refusals: one form for every call.
use Rattle.std.specs.Prelude.{Bool, cond, ℕ}

-- "A refusal gives its number and a place: the record's byte offset for 1 to 6 (the first missing or surplus byte where no record begins), else 0."
pub record Refusal : Type 0 where
  pub number : ℕ
  pub place : ℕ

-- What checks give: what they let pass, or the first refusal met.
pub data Checked (A : Type 0) : Type 0 where
  passed : A → Checked A
  refused : Refusal → Checked A

abbrev pub refuse : {A : Type 0} → ℕ → ℕ → Checked A
refuse k place = refused (record { number = k; place = place })

-- one check: refused under its condition only, else the checks after it
abbrev pub refuse_if : {A : Type 0} → Bool → ℕ → ℕ → Checked A → Checked A
refuse_if t k place rest = cond t (refuse k place) rest

-- checks of what earlier checks let pass
unfoldable pub and_then : {A B : Type 0} → Checked A → (A → Checked B) → Checked B
and_then (passed x) f = f x
and_then (refused r) f = refused r

unfoldable pub map_passed : {A B : Type 0} → (A → B) → Checked A → Checked B
map_passed f (passed x) = passed (f x)
map_passed f (refused r) = refused r

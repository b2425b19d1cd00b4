-- The table of kinds beyond its known ones, and what a whole record takes up. Assumes nothing.
use Rattle.std.specs.Prelude.{◌≡◌, ◌≢◌, refl, zero, suc, true, ◌&&◌, List, ℕ, ◌+◌, ◌≤◌, eqb, leb, length}
use Rattle.std.proofs.Common.{subst, leb-true, arith}
use Rattle.std.proofs.Math.Option.{Option, none, some}
use Rattle.std.proofs.lemmas.List.{get_or_past}
use Rattle.truss.specs.Record.{body_lengths, body_length, byte_at, holds_body, whole}
use Rattle.laws.proofs.Lists.{and_right}

-- a kind that is not in the table has no body length
pub unknown : (k : ℕ) → k ≢ 1 → k ≢ 2 → k ≢ 3 → k ≢ 4 → k ≢ 5 → k ≢ 6 → k ≢ 7 → body_length k ≡ none
unfolding body_length
unknown zero a b c d e f g = refl
unknown (suc k) a b c d e f g = get_or_past body_lengths (suc k) none (omega arith)

-- above every place that is looked at in a file
abbrev pub place_bound : ℕ
place_bound = 1000000

-- a whole record lies within the bytes: its kind and its body
pub whole_within : (kind : ℕ) {l : ℕ} (b : List ℕ) (at : ℕ) → body_length kind ≡ some l → whole b at kind ≡ true → at + 1 + l ≤ length b
unfolding holds_body
whole_within kind {l} b at q h =
    leb-true (at + 1 + l) (length b)
    (and_right (eqb (byte_at b at) kind) (leb (at + 1 + l) (length b)) (subst (λ (o : Option ℕ). (eqb (byte_at b at) kind && holds_body o b at) ≡ true) q h))

-- Records of the two files: "Each record is one byte of kind, then a body whose length the kind fixes." Fields and their bytes.
use Rattle.std.proofs.Math.Option.{Option, none, some}
use Rattle.std.specs.Prelude.{Bool, false, ◌&&◌, List, [], ◌∷◌, ◌++◌, ℕ, zero, suc, ◌+◌, ◌*◌, ◌/◌, ◌%◌, eqb, leb, length, get_or, take, drop}
use Rattle.truss.specs.Lists.{filter}

-- the kinds, by document 01's table; 7 by document 02, request 7
abbrev pub kind_head : ℕ
kind_head = 1

abbrev pub kind_strong_link : ℕ
kind_strong_link = 2

abbrev pub kind_join : ℕ
kind_join = 3

abbrev pub kind_group : ℕ
kind_group = 4

abbrev pub kind_end : ℕ
kind_end = 5

abbrev pub kind_plain_link : ℕ
kind_plain_link = 6

-- "An index now begins with kind 7, with the body of kind 1 .. Links files keep kind 1."
abbrev pub kind_index_head : ℕ
kind_index_head = 7

-- the table of body lengths, by kind; 0 is no kind
abbrev pub body_lengths : List (Option ℕ)
body_lengths = none ∷ some 4 ∷ some 7 ∷ some 5 ∷ some 5 ∷ some 0 ∷ some 4 ∷ some 4 ∷ []

-- the body length that a kind fixes, none for an unknown kind
unfoldable pub body_length : ℕ → Option ℕ
body_length kind = get_or body_lengths kind none

-- "Two-byte fields stand high byte first": a number's field, and the number in two bytes
abbrev pub field : ℕ → List ℕ
field x = x / 256 % 256 ∷ x % 256 ∷ []

abbrev pub from_bytes : ℕ → ℕ → ℕ
from_bytes high low = high * 256 + low

-- the byte at a place of some bytes, and the two-byte field there
abbrev pub byte_at : List ℕ → ℕ → ℕ
byte_at b at = get_or b at 0

abbrev pub field_at : List ℕ → ℕ → ℕ
field_at b at = from_bytes (byte_at b at) (byte_at b (at + 1))

-- a head: "accounts n (2), links m (2)"
abbrev pub head_bytes : ℕ → ℕ → ℕ → List ℕ
head_bytes kind n m = kind ∷ (field n ++ field m)

abbrev pub end_bytes : List ℕ
end_bytes = kind_end ∷ []

-- the bytes hold a body of this length after the kind byte at a place
unfoldable pub holds_body : Option ℕ → List ℕ → ℕ → Bool
holds_body none b at = false
holds_body (some l) b at = leb (at + 1 + l) (length b)

-- a whole record of this kind stands at a place. (Past the last byte there is 0, which is no kind.)
abbrev pub whole : List ℕ → ℕ → ℕ → Bool
whole b at kind = eqb (byte_at b at) kind && holds_body (body_length kind) b at

-- ---- bytes as a row of records

pub record Record : Type 0 where
  pub kind : ℕ
  pub body : List ℕ

-- bytes cut into records, up to the first unknown kind; the first number is a bound on how many
unfoldable pub cut : ℕ → List ℕ → List Record
unfolding body_length
cut zero b = []
cut (suc r) [] = []
cut (suc r) (k ∷ b) = elim (body_length k) [ none ↦ [] | some l ↦ record { kind = k; body = take l b } ∷ cut r (drop l b) ]

unfoldable pub records : List ℕ → List Record
unfolding cut
records b = cut (length b) b

-- the records of a kind, in their order
unfoldable pub of_kind : ℕ → List Record → List Record
unfolding filter
of_kind k rs = filter (λ r. eqb r.kind k) rs

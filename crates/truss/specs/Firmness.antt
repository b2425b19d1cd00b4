-- What question A answers and is refused by, as one statement about every index that 7 lets pass, every window and whatever is lent. Proved in laws: firmness_rule.
use Rattle.std.specs.Prelude.{◌≡◌, ◌⊎◌, true, false, List, ℕ, ◌+◌, ◌≤◌, ◌<◌, get_or, set}
use Rattle.truss.specs.Limits.{windows, min_strength}
use Rattle.truss.specs.Graph.{Link, Graph, link, member}
use Rattle.truss.specs.Strength.{IsStrength}
use Rattle.truss.specs.Support.{IsSupportAt}
use Rattle.truss.specs.Refusal.{passed}
use Rattle.truss.specs.IndexFile.{read_index}
use Rattle.truss.specs.Question.{ask_strength}
use Rattle.truss.specs.Call.{done_with, next_tally, ask}
use Rattle.truss.specs.Windows.{refused_by}

-- a link's strength, and how many triangles of at least that weight hold it
pub record IsFirmness (G : Graph) (e : Link) (s x : ℕ) : Type 0 where
  pub strength_is : IsStrength G e s
  pub support_is : IsSupportAt G s e x

pub record FirmnessRule : Type 0 where
  -- "Question A now gives two numbers: the strength s, and how many triangles of weight at least s hold the link." Nothing is written, and the window's tally moves.
  pub gives : (bytes : List ℕ) (G : Graph) (a b : ℕ) (buffer : List ℕ) (w : ℕ) (tallies : List ℕ) → read_index bytes ≡ passed G → w < windows → member G.links (link a b) ≡ true
      → (s : ℕ) × (x : ℕ) × IsFirmness G (link a b) s x
      × (ask bytes (ask_strength a b) buffer w tallies ≡ record { reply = done_with s x; buffer = buffer; tallies = set tallies w (next_tally (get_or tallies w 0)) })
  -- No other two numbers are so.
  pub only : (G : Graph) (e : Link) (s s' x x' : ℕ) → IsFirmness G e s x → IsFirmness G e s' x' → (s ≡ s') × (x ≡ x')
  -- "At strength 2 the second number is 0; at s from 3 up it is at least s − 2."
  pub weak : (bytes : List ℕ) (G : Graph) (e : Link) (x : ℕ) → read_index bytes ≡ passed G → IsFirmness G e min_strength x → x ≡ 0
  pub firm : (bytes : List ℕ) (G : Graph) (e : Link) (s x : ℕ) → read_index bytes ≡ passed G → IsFirmness G e s x → s ≤ 2 + x
  -- 9, "an account not below n"; then 11, "the pair is no link". What is lent stays.
  pub outside : (bytes : List ℕ) (G : Graph) (a b : ℕ) (buffer : List ℕ) (w : ℕ) (tallies : List ℕ) → read_index bytes ≡ passed G → w < windows → (G.n ≤ a) ⊎ (G.n ≤ b)
      → ask bytes (ask_strength a b) buffer w tallies ≡ record { reply = refused_by 9; buffer = buffer; tallies = tallies }
  pub no_link_lem : (bytes : List ℕ) (G : Graph) (a b : ℕ) (buffer : List ℕ) (w : ℕ) (tallies : List ℕ) → read_index bytes ≡ passed G → w < windows → a < G.n → b < G.n
      → member G.links (link a b) ≡ false → ask bytes (ask_strength a b) buffer w tallies ≡ record { reply = refused_by 11; buffer = buffer; tallies = tallies }

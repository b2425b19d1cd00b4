-- Question G: its answer. Assumes nothing.
use Rattle.std.specs.Prelude.{◌≡◌, Ok, Err, List, ℕ, ◌*◌, ◌≤◌, ◌<◌, length}
use Rattle.std.proofs.Math.Path.{refl, ap}
use Rattle.std.proofs.Common.{◌∙◌, arith}
use Rattle.truss.specs.Limits.{max_chain_bytes}
use Rattle.truss.specs.Graph.{link}
use Rattle.truss.specs.Shortest.{shortest_chain}
use Rattle.truss.specs.Refusal.{passed}
use Rattle.truss.specs.Question.{chain, answer, ask_chain}
use Rattle.truss.specs.Call.{answer_value, answer_second}
use Rattle.laws.proofs.ShortestRoom.{chain_room}
use Rattle.columns.specs.Columns.{COLUMNS}
use Rattle.columns.specs.Wiping.{zeros}
use Rattle.limits.specs.declared.refusal.Refusal.TheVariants.{NoRoom}
use Rattle.index.specs.declared.answers.Answered.{Answered}
use Rattle.index.specs.Answered.{only}
use Rattle.stored.specs.Rows.{graph_in, Shape, index-order, few_links}
use Rattle.chain.specs.Between.{BetweenAsks}
use Rattle.chain.specs.Between.{Answered as ChainGiven}
use Rattle.question.specs.Replies.{Answers, answer_shown, shown_no_room, shown_wrote}

module _ {s : List ℕ} {n m at groups : ℕ} (S : Shape s n m at groups) where
  pub way_asks : {a b c d : ℕ} {w : List ℕ} → w ≡ zeros (COLUMNS * m) → a < n → b < n → c < n → d < n → BetweenAsks n m a b c d s w
  way_asks q la lb lc ld =
      record { is_index = S.groups_at_lem.is_index; accounts = S.accounts; links = S.links; room = q; a_in = la; b_in = lb; c_in = lc; d_in = ld }

  pub way_small : {k a b c d r : ℕ} {out out' : List ℕ} → ChainGiven k a b c d r s out out' → r ≤ max_chain_bytes
  way_small {k} {a} {b} {c} {d} A =
      omega (arith, A.long, chain_room (graph_in s) (index-order S.groups_at_lem.is_index) (few_links S.groups_at_lem.is_index) k (link a b) (link c d))

module _ {k a b c d r : ℕ} {s out out' : List ℕ} (A : ChainGiven k a b c d r s out out') (e : answer (graph_in s) (ask_chain k a b c d) ≡ passed (chain (shortest_chain (graph_in s) k (link a b) (link c d)))) where
  pub way_no_room : length out < r → Answers (graph_in s) (ask_chain k a b c d) out (Err NoRoom) out'
  way_no_room l =
      rw (A.short l)
      (answer_shown (graph_in s) (ask_chain k a b c d) out (Err NoRoom) e (shown_no_room (chain (shortest_chain (graph_in s) k (link a b) (link c d))) out (omega (arith, l, A.long))))

  pub way-wrote : {p : Answered} → r ≤ length out → p ≡ only r → Answers (graph_in s) (ask_chain k a b c d) out (Ok p) out'
  unfolding answer_value answer_second
  way-wrote {p} l v =
      answer_shown (graph_in s) (ask_chain k a b c d) out (Ok p) e
      (shown_wrote (chain (shortest_chain (graph_in s) k (link a b) (link c d))) out refl (omega (arith, l, A.long)) (A.fits l) (v ∙ ap only A.long))

-- The desk after a question. Assumes nothing.
use Rattle.std.specs.Prelude.{Result, Ok, Err, IsErrAnd, ◌≡◌, refl, List, ℕ, ◌<◌, leb, get_or, set}
use Rattle.std.proofs.Common.{ap, ◌∙◌, arith}
use Rattle.std.proofs.lemmas.Result.{err_from_is_err_and}
use Rattle.truss.specs.Limits.{windows}
use Rattle.truss.specs.Refusal.{Checked, passed, refused}
use Rattle.truss.specs.Question.{Question, Answer}
use Rattle.truss.specs.Call.{Written, Asked, checked_answer, check_window, next_tally, settle, ask}
use Rattle.laws.proofs.Run.{NotZero, Windowed, windowed, if_not_zero, checked_not_zero}
use Rattle.limits.specs.declared.refusal.Refusal.{Refusal}
use Rattle.index.specs.declared.answers.Answered.{Answered}
use Rattle.index.specs.Answered.{reply_of, number_not_0}
use Rattle.question.specs.Replies.{given, given_back}
use Rattle.question.specs.Answer.{FromGives}
use Rattle.desk.specs.declared.Desk.{Desk}

-- the desk with one more in the tally of window w
abbrev pub counted : Desk → ℕ → Desk
counted d w = record { tallies = set d.tallies w (next_tally (get_or d.tallies w 0)) }

-- the desk after a question of window w: one more in its tally when answered
unfoldable pub desk_after : Desk → ℕ → Result Answered Refusal → Desk
desk_after d w (Ok a) = counted d w
desk_after d w (Err r) = d

-- THE PROMISE of a question to the desk: reply, every byte of the lent buffer and every tally are what the definition gives
abbrev pub AskGives : Desk → List ℕ → Question → List ℕ → ℕ → Result Answered Refusal → List ℕ → Desk → Type 0
AskGives d b q out w r out' e = ◌≡◌ {A = Asked} (record { reply = reply_of r; buffer = out'; tallies = e.tallies }) (ask b q out w d.tallies)

-- what is given moves the tallies as the definition does
settled : (x : Checked Answer) (out : List ℕ) → NotZero x → (r : Result Answered Refusal) {out' : List ℕ} → given_back r out' ≡ given x out → (w : ℕ) (d : Desk)
    → ◌≡◌ {A = Asked} (record { reply = reply_of r; buffer = out'; tallies = (desk_after d w r).tallies }) (settle x out w d.tallies)
unfolding given settle NotZero reply_of desk_after
settled (passed a) out n (Ok y) q w d =
    let e = ap (λ (y : Written). y.reply) q in
    let f = ap (λ (y : Written). y.buffer) q in
    λ i. record { reply = e i; buffer = f i; tallies = (counted d w).tallies }
settled (passed a) out n (Err f) q w d = absurd (number_not_0 f (ap (λ (y : Written). y.reply.refusal) q))
settled (refused x) out n (Ok y) q w d =
    let z = ap (λ (y : Written). y.reply.refusal) q in
    absurd (omega (arith, z, n))
settled (refused x) out n (Err g) q w d =
    let e = ap (λ (y : Written). y.reply) q in
    let f = ap (λ (y : Written). y.buffer) q in
    λ i. record { reply = e i; buffer = f i; tallies = d.tallies }

-- 13 is a number above 0 too
pub from_not_zero : (b : List ℕ) (q : Question) (out : List ℕ) (w : ℕ) → NotZero (check_window w (checked_answer b q out))
from_not_zero b q out w = if_not_zero (leb windows w) 13 (checked_answer b q out) (omega arith) (checked_not_zero b q out)

-- what is answered was asked by a window
below : (x : Checked Answer) (out : List ℕ) (w : ℕ) → Windowed w x → (a : Answered) {out' : List ℕ} → given_back (Ok a) out' ≡ given x out → w < windows
unfolding given Windowed reply_of
below (passed x) out w n a q = n
below (refused r) out w n a q =
    let z = ap (λ (y : Written). y.reply.refusal) q in
    absurd (omega (arith, z, n))

module _ (b : List ℕ) (q : Question) (out : List ℕ) (w : ℕ) where
  pub window_below : (a : Answered) {out' : List ℕ} → FromGives b q out w (Ok a) out' → w < windows
  window_below a A = below (check_window w (checked_answer b q out)) out w (windowed w (checked_answer b q out) (checked_not_zero b q out)) a A

  ask_gives : (r : Result Answered Refusal) {out' : List ℕ} (d e : Desk) → FromGives b q out w r out' → e.tallies ≡ (desk_after d w r).tallies → AskGives d b q out w r out' e
  unfolding ask
  ask_gives r {out'} d e A t = (λ i. record { reply = reply_of r; buffer = out'; tallies = t i }) ∙ settled (check_window w (checked_answer b q out)) out (from_not_zero b q out w) r A w d

  pub ask_answered : (a : Answered) {out' : List ℕ} (d e : Desk) → FromGives b q out w (Ok a) out' → e ≡ counted d w → AskGives d b q out w (Ok a) out' e
  unfolding desk_after
  ask_answered a d e A m = ask_gives (Ok a) d e A (ap (λ (x : Desk). x.tallies) m)

  -- what `?` hands on
  pub ask_refused : (r : Result Answered Refusal) (f : Refusal) {out' : List ℕ} (d : Desk) → IsErrAnd r (λ x. x ≡ f) → FromGives b q out w (Err f) out' → AskGives d b q out w r out' d
  unfolding desk_after
  ask_refused r f d h A = let p = err_from_is_err_and r h in rw (p.1, p.2) (ask_gives (Err f) d d A refl)

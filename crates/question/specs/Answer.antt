-- What a question gives without a desk: of no window, and of a window. Assumes nothing.
use Rattle.std.specs.Prelude.{◌≡◌, Result, Ok, Err, IsErrAnd, take, ◌*◌, List, ℕ, ◌≤◌, ◌<◌}
use Rattle.std.proofs.Math.Path.{refl}
use Rattle.std.proofs.Common.{◌∙◌, le-leb}
use Rattle.std.proofs.lemmas.Bool.{lt-leb}
use Rattle.std.proofs.lemmas.Result.{err_from_is_err_and}
use Rattle.truss.specs.Limits.{windows}
use Rattle.truss.specs.Refusal.{refuse, and_then}
use Rattle.truss.specs.IndexFile.{read_index}
use Rattle.truss.specs.Question.{Question}
use Rattle.truss.specs.Call.{checked_answer, check_window}
use Rattle.limits.specs.declared.refusal.Refusal.{Refusal}
use Rattle.limits.specs.declared.refusal.Refusal.TheVariants.{NoIndex, NoWindow}
use Rattle.limits.specs.Refusals.{number_of}
use Rattle.index.specs.declared.answers.Answered.{Answered}
use Rattle.index.specs.Answered.{reply_of}
use Rattle.columns.specs.Columns.{COLUMNS}
use Rattle.columns.specs.Wiping.{zeros}
use Rattle.stored.specs.declared.opened.Index.{Index}
use Rattle.stored.specs.Opening.{Opens, graph}
use Rattle.question.specs.Replies.{given, given_back, roomed, Answers}

-- the result and every byte of the lent buffer are those of the checked answer
abbrev pub CheckedGives : List ℕ → Question → List ℕ → Result Answered Refusal → List ℕ → Type 0
CheckedGives b q out r out' = given_back r out' ≡ given (checked_answer b q out) out

-- the same with 13 ahead
abbrev pub FromGives : List ℕ → Question → List ℕ → ℕ → Result Answered Refusal → List ℕ → Type 0
FromGives b q out w r out' = given_back r out' ≡ given (check_window w (checked_answer b q out)) out

module _ (b : List ℕ) (q : Question) (out : List ℕ) where
  -- no index
  asked_7 : read_index b ≡ refuse 7 0 → CheckedGives b q out (Err NoIndex) out
  unfolding checked_answer and_then given reply_of number_of
  asked_7 e = rw (e, and_then, given) refl

  pub not_asked : (r : Result Answered Refusal) (f : Refusal) (work : List ℕ) → IsErrAnd r (λ e. e ≡ f) → Opens b (Err f) work → CheckedGives b q out r out
  unfolding Opens
  not_asked r f work h O = let p = err_from_is_err_and r h in rw (p.1, p.2, O.0) (asked_7 O.1)

  -- an index of the graph
  pub asked_of : (i : Index) (r : Result Answered Refusal) (work : List ℕ) {out' : List ℕ} → Opens b (Ok i) work → Answers (graph i) q out r out' → CheckedGives b q out r out'
  unfolding checked_answer and_then roomed Opens
  asked_of i r work O A = rw O.0 at A ∙ rw (O.1, and_then) refl

  pub opened_blank : (i : Index) (work : List ℕ) → Opens b (Ok i) work → take (COLUMNS * i.m) work ≡ zeros (COLUMNS * i.m)
  unfolding Opens
  opened_blank i work O = O.2

  pub no_window : {w : ℕ} → windows ≤ w → FromGives b q out w (Err NoWindow) out
  unfolding given reply_of number_of
  no_window {w} l = rw (le-leb windows w l, given) refl

  pub from_window : {w : ℕ} (r : Result Answered Refusal) {out' : List ℕ} → w < windows → CheckedGives b q out r out' → FromGives b q out w r out'
  from_window {w} r l A = A ∙ rw (lt-leb windows w l) refl

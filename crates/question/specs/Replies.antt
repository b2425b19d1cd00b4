-- What a checked answer gives a caller, and the ways to it. Assumes nothing.
use Rattle.std.specs.Prelude.{◌≡◌, Result, Ok, Err, IsErrAnd, List, ◌++◌, ℕ, ◌≤◌, ◌<◌, length}
use Rattle.std.proofs.Math.Path.{refl, ap}
use Rattle.std.proofs.Common.{sym, ◌∙◌, arith}
use Rattle.std.proofs.Math.ListN.{drop}
use Rattle.std.proofs.lemmas.Result.{err_from_is_err_and}
use borrow.Author.Tests.{lt-ltb, le-ltb}
use Rattle.truss.specs.Graph.{Graph}
use Rattle.truss.specs.Refusal.{Checked, passed, refused, and_then}
use Rattle.truss.specs.Question.{Question, Answer, two_numbers, number, numbers, answer}
use Rattle.truss.specs.Call.{Written, done_with, not_done, with_room, overwrite, answer_bytes, answer_value, answer_second, answer_reply}
use Rattle.limits.specs.declared.refusal.Refusal.{Refusal}
use Rattle.limits.specs.declared.refusal.Refusal.TheVariants.{NoRoom}
use Rattle.limits.specs.Refusals.{number_of, refusal_in, at_no_place}
use Rattle.wire.specs.Writing.{written, written_start}
use Rattle.index.specs.declared.answers.Answered.{Answered}
use Rattle.index.specs.Answered.{only, reply_of}

-- a call's result, and the buffer after it, in the definitions' words
abbrev pub given_back : Result Answered Refusal → List ℕ → Written
given_back r bytes = record { reply = reply_of r; buffer = bytes }

-- a checked answer in the reply and the buffer
unfoldable pub given : Checked Answer → List ℕ → Written
unfolding answer_bytes answer_value answer_second
given (passed a) buffer = record { reply = answer_reply a; buffer = overwrite (answer_bytes a) buffer }
given (refused r) buffer = record { reply = not_done r; buffer = buffer }

-- a question on a graph, with 12
unfoldable pub roomed : Graph → Question → List ℕ → Checked Answer
unfolding and_then answer answer_bytes
roomed G q out = and_then (answer G q) (λ a. with_room (answer_bytes a) out a)

abbrev pub Answers : Graph → Question → List ℕ → Result Answered Refusal → List ℕ → Type 0
Answers G q out r out' = given_back r out' ≡ given (roomed G q out) out

-- an answer that is written, with 12
abbrev pub Shown : Answer → List ℕ → Result Answered Refusal → List ℕ → Type 0
Shown x out r out' = given_back r out' ≡ given (with_room (answer_bytes x) out x) out

-- a list of numbers
abbrev pub Lists : List ℕ → List ℕ → Result Answered Refusal → List ℕ → Type 0
Lists xs out r out' = Shown (numbers xs) out r out'

module _ (x : Answer) (out : List ℕ) where
  pub shown_no_room : length out < length (answer_bytes x) → Shown x out (Err NoRoom) out
  unfolding given reply_of number_of
  shown_no_room l = rw (lt-ltb (length out) (length (answer_bytes x)) l, given) refl

  pub shown_wrote : {a : Answered} {out' : List ℕ} → answer_second x ≡ 0 → length (answer_bytes x) ≤ length out → out' ≡ written out 0 (answer_bytes x) → a ≡ only (answer_value x) → Shown x out (Ok a) out'
  unfolding given reply_of
  shown_wrote {a} {out'} plain l q v =
      let e : out' ≡ answer_bytes x ++ drop (length (answer_bytes x)) out = q ∙ written_start out (answer_bytes x) in
      let w : done_with a.value a.second ≡ answer_reply x = ap (λ (y : Answered). done_with y.value y.second) v ∙ ap (done_with (answer_value x)) (sym plain) in
      rw (le-ltb (length out) (length (answer_bytes x)) l, given) (λ i. record { reply = w i; buffer = e i })

module _ (G : Graph) (q : Question) (out : List ℕ) where
  pub answer_refused : (f : Refusal) → answer G q ≡ refused (refusal_in (at_no_place f)) → Answers G q out (Err f) out
  unfolding roomed given and_then reply_of
  answer_refused f e = rw (e, and_then, given) refl

  -- what `?` hands on
  pub handed_on : (r : Result Answered Refusal) (f : Refusal) → IsErrAnd r (λ e. e ≡ f) → answer G q ≡ refused (refusal_in (at_no_place f)) → Answers G q out r out
  handed_on r f h e = let p = err_from_is_err_and r h in rw (p.1, p.2) (answer_refused f e)

  pub answer_number : {x : ℕ} {a : Answered} → answer G q ≡ passed (number x) → a ≡ only x → Answers G q out (Ok a) out
  unfolding roomed given and_then answer_bytes answer_value answer_second reply_of
  answer_number e v = rw (v, e, and_then, answer_bytes, le-ltb (length out) 0 (omega arith), given, answer_value, answer_second) refl

  pub answer_two : {x y : ℕ} → answer G q ≡ passed (two_numbers x y) → Answers G q out (Ok (record { value = x; second = y })) out
  unfolding roomed given and_then answer_bytes answer_value answer_second reply_of
  answer_two {x} {y} e = rw (e, and_then, answer_bytes, le-ltb (length out) 0 (omega arith), given, answer_value, answer_second) refl

  pub answer_shown : {x : Answer} (r : Result Answered Refusal) {out' : List ℕ} → answer G q ≡ passed x → Shown x out r out' → Answers G q out r out'
  unfolding roomed and_then
  answer_shown r e L = L ∙ rw (e, and_then) refl

-- Over any run of questions each window's tally is its start plus its own answered questions, unless it rests at the top, however the windows are interleaved. Of calls by
-- their promises: of the desk that is lent, and of a desk record that is lent as bytes. Assumes nothing.
use Rattle.std.specs.Prelude.{Result, ◌≡◌, refl, List, ◌++◌, ℕ, ◌+◌, ◌≤◌, ◌<◌, min, length, get_or, take, drop}
use Rattle.std.proofs.Common.{ap, ◌∙◌}
use Rattle.truss.specs.Limits.{windows, max_tally}
use Rattle.truss.specs.Question.{Question}
use Rattle.truss.specs.Call.{Reply, Asked, AskedBytes, tally_at, ask_bytes}
use Rattle.truss.specs.Run.{Seen, Run, none, one, own_answered, Asks, AsksBytes}
use Rattle.laws.proofs.Run.{run_tallies, run_record}
use Rattle.limits.specs.declared.refusal.Refusal.{Refusal}
use Rattle.index.specs.declared.Reply.{Reply as CReply}
use Rattle.index.specs.Build.{reply_in}
use Rattle.index.specs.declared.answers.Answered.{Answered}
use Rattle.index.specs.Answered.{reply_of}
use Rattle.desk.specs.declared.Desk.{Desk}
use Rattle.desk.specs.Desk.{AskGives}
use Rattle.desk.specs.DeskBytes.{asked_bytes, AskBytesGives, AskBytesReplies}

-- a run of what does no more than others do is a run of those
run_map : {S T : Type 0} (P : S → ℕ → Reply → S → Type 0) (Q : T → ℕ → Reply → T → Type 0) (f : S → T) → ((s t : S) (w : ℕ) (r : Reply) → P s w r t → Q (f s) w r (f t))
    → {s t : S} {xs : List Seen} → Run P s xs t → Run Q (f s) xs (f t)
run_map P Q f h (none) = none
run_map P Q f h (one w r A R) = one w r (h _ _ w r A) (run_map P Q f h R)

-- ---- the desk

-- a call of `ask`: each has an index, a question and a buffer of its own
pub record Call (d : Desk) (w : ℕ) (reply : Reply) (e : Desk) : Type 0 where
  pub bytes : List ℕ
  pub question : Question
  pub buffer : List ℕ
  pub result : Result Answered Refusal
  pub buffer' : List ℕ
  pub gives : AskGives d bytes question buffer w result buffer' e
  pub replies : reply ≡ reply_of result

-- what meets the promise is such a call, and nothing more is asked of it
pub call : (b : List ℕ) (q : Question) (out : List ℕ) (w : ℕ) (r : Result Answered Refusal) (out' : List ℕ) (d e : Desk) → AskGives d b q out w r out' e → Call d w (reply_of r) e
call b q out w r out' d e A = record { bytes = b; question = q; buffer = out; result = r; buffer' = out'; gives = A; replies = refl }

call_asks : (d e : Desk) (w : ℕ) (r : Reply) → Call d w r e → Asks d.tallies w r e.tallies
call_asks d e w r c =
    record {
      bytes = c.bytes;
      question = c.question;
      buffer = c.buffer;
      replies = c.replies ∙ ap (λ (x : Asked). x.reply) c.gives;
      leaves = ap (λ (x : Asked). x.tallies) c.gives;
    }

-- THE THEOREM of the desk that is lent: a desk has 32 tallies, and none is above the top, by its type
pub library_run : (d e : Desk) (xs : List Seen) → length d.tallies ≡ windows → Run Call d xs e → (length e.tallies ≡ windows)
    × ((w : ℕ) → w < windows → get_or d.tallies w 0 ≤ max_tally → get_or e.tallies w 0 ≡ min (get_or d.tallies w 0 + own_answered w xs) max_tally)
library_run d e xs q R = run_tallies d.tallies e.tallies xs q (run_map Call Asks (λ x. x.tallies) call_asks R)

-- ---- the desk record as bytes

-- what a call of `ask_bytes` gives back, or one of the questions for a C host, that is lent the record or only a first part of it
pub data CallBytes (desk : List ℕ) (w : ℕ) (reply : Reply) (desk' : List ℕ) : Type 0 where
  of_library : (b : List ℕ) (q : Question) (out : List ℕ) (lent : ℕ) (result : Result Answered Refusal) (out' part' : List ℕ) → AskBytesGives b q out w (take lent desk) result out' part'
      → reply ≡ reply_of result → desk' ≡ part' ++ drop lent desk → CallBytes desk w reply desk'
  of_host : (b : List ℕ) (q : Question) (out : List ℕ) (lent : ℕ) (result : CReply) (out' part' : List ℕ) → AskBytesReplies b q out w (take lent desk) result out' part'
      → reply ≡ reply_in result → desk' ≡ part' ++ drop lent desk → CallBytes desk w reply desk'

pub call_bytes : (b : List ℕ) (q : Question) (out : List ℕ) (w : ℕ) (desk : List ℕ) (lent : ℕ) (r : Result Answered Refusal) (out' part' : List ℕ)
    → AskBytesGives b q out w (take lent desk) r out' part' → CallBytes desk w (reply_of r) (part' ++ drop lent desk)
call_bytes b q out w desk lent r out' part' A = of_library b q out lent r out' part' A refl refl

pub host_call_bytes : (b : List ℕ) (q : Question) (out : List ℕ) (w : ℕ) (desk : List ℕ) (lent : ℕ) (r : CReply) (out' part' : List ℕ)
    → AskBytesReplies b q out w (take lent desk) r out' part' → CallBytes desk w (reply_in r) (part' ++ drop lent desk)
host_call_bytes b q out w desk lent r out' part' A = of_host b q out lent r out' part' A refl refl

-- either way
asks_bytes : (b : List ℕ) (q : Question) (out : List ℕ) (w : ℕ) (d e : List ℕ) (lent : ℕ) {r x : Reply} {out' part' : List ℕ} → asked_bytes x out' part' ≡ ask_bytes b q out w (take lent d) → r ≡ x → e ≡ part' ++ drop lent d → AsksBytes d w r e
asks_bytes b q out w d e lent A p l =
    record { bytes = b; question = q; buffer = out; lent = lent; replies = p ∙ ap (λ (y : AskedBytes). y.reply) A; leaves = l ∙ ap (λ (y : AskedBytes). y.desk ++ drop lent d) A }

call_asks_bytes : (d e : List ℕ) (w : ℕ) (r : Reply) → CallBytes d w r e → AsksBytes d w r e
call_asks_bytes d e w r (of_library b q out lent x out' part' A p l) = asks_bytes b q out w d e lent A p l
call_asks_bytes d e w r (of_host b q out lent x out' part' A p l) = asks_bytes b q out w d e lent A p l

-- THE THEOREM of the record as bytes: four bytes hold no more than the top
pub library_run_bytes : (desk desk' : List ℕ) (xs : List Seen) → Run CallBytes desk xs desk' → (length desk' ≡ length desk)
    × ((w : ℕ) → w < windows → tally_at w desk ≤ max_tally → tally_at w desk' ≡ min (tally_at w desk + own_answered w xs) max_tally)
library_run_bytes desk desk' xs R = run_record desk desk' xs (run_map CallBytes AsksBytes (λ x. x) call_asks_bytes R)

-- Tallies over any run of questions (document 02, request 3), as two statements: of the desk's tallies, and of the desk record as bytes. Proved in laws:
-- run_tallies, run_record.
use Rattle.std.specs.Prelude.{◌≡◌, cond, ◌&&◌, List, [], ◌∷◌, ◌++◌, ℕ, ◌+◌, ◌≤◌, ◌<◌, min, eqb, length, get_or, take, drop}
use Rattle.truss.specs.Limits.{windows, max_tally}
use Rattle.truss.specs.Question.{Question}
use Rattle.truss.specs.Call.{Reply, ask, ask_bytes, tally_at}

-- what is seen of one question of a run: the window that it names, and its reply
pub record Seen : Type 0 where
  pub window : ℕ
  pub reply : Reply

-- "any run of questions with no other write to the record": each is lent the record as the one before it left it. `Asked s w r t` says that a question of window w,
-- lent the record s, gives the reply r and leaves the record t.
pub data Run {S : Type 0} (Asked : S → ℕ → Reply → S → Type 0) : S → List Seen → S → Type 0 where
  none : {s : S} → Run Asked s [] s
  one : {s t u : S} {xs : List Seen} (w : ℕ) (r : Reply) → Asked s w r t → Run Asked t xs u → Run Asked s (record { window = w; reply = r } ∷ xs) u

-- a window's "own answered questions", however those of "the other windows are interleaved"
unfoldable pub own_answered : ℕ → List Seen → ℕ
own_answered w [] = 0
own_answered w (x ∷ xs) = cond (eqb x.window w && eqb x.reply.refusal 0) 1 0 + own_answered w xs

-- ---- the desk's tallies

-- a question of window w, on any index and with any buffer
pub record Asks (tallies : List ℕ) (w : ℕ) (r : Reply) (tallies' : List ℕ) : Type 0 where
  pub bytes : List ℕ
  pub question : Question
  pub buffer : List ℕ
  pub replies : r ≡ (ask bytes question buffer w tallies).reply
  pub leaves : tallies' ≡ (ask bytes question buffer w tallies).tallies

-- "a window's tally equals its start plus its own answered questions, unless it rests at the top, however the other windows are interleaved"
abbrev pub RunTallies : Type 0
RunTallies =
    (tallies tallies' : List ℕ) (xs : List Seen) → length tallies ≡ windows → Run Asks tallies xs tallies' → (length tallies' ≡ windows)
    × ((w : ℕ) → w < windows → get_or tallies w 0 ≤ max_tally → get_or tallies' w 0 ≡ min (get_or tallies w 0 + own_answered w xs) max_tally)

-- ---- the desk record as bytes: the same of the four bytes of each window, which hold no more than the top

-- a question that is lent the record, or only a first part of it: one that is too short is refused, and the run goes on
pub record AsksBytes (desk : List ℕ) (w : ℕ) (r : Reply) (desk' : List ℕ) : Type 0 where
  pub bytes : List ℕ
  pub question : Question
  pub buffer : List ℕ
  pub lent : ℕ
  pub replies : r ≡ (ask_bytes bytes question buffer w (take lent desk)).reply
  pub leaves : desk' ≡ (ask_bytes bytes question buffer w (take lent desk)).desk ++ drop lent desk

abbrev pub RunRecord : Type 0
RunRecord =
    (desk desk' : List ℕ) (xs : List Seen) → Run AsksBytes desk xs desk' → (length desk' ≡ length desk)
    × ((w : ℕ) → w < windows → tally_at w desk ≤ max_tally → tally_at w desk' ≡ min (tally_at w desk + own_answered w xs) max_tally)

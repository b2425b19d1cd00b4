-- What the window and the record as bytes have to do with a question, as two statements about every question. Proved in laws: window_rule, record_rule.
use Rattle.std.specs.Prelude.{◌≡◌, cond, List, ◌++◌, ℕ, ◌≤◌, ◌<◌, eqb, length, get_or}
use Rattle.truss.specs.Limits.{windows, max_tally, desk_length}
use Rattle.truss.specs.Lists.{concat_map}
use Rattle.truss.specs.Question.{Question}
use Rattle.truss.specs.Call.{Reply, ask, ask_bytes, tally_bytes}

-- a refusal with place 0
abbrev pub refused_by : ℕ → Reply
refused_by n = record { refusal = n; value = 0; second = 0; third = 0 }

pub record WindowRule : Type 0 where
  -- "13, window above 31, ahead of all others", whatever else is lent
  pub above : (bytes : List ℕ) (q : Question) (buffer : List ℕ) (w : ℕ) (tallies : List ℕ) → windows ≤ w
      → ask bytes q buffer w tallies ≡ record { reply = refused_by 13; buffer = buffer; tallies = tallies }
  -- what is answered does not hang on which window asks, nor on the tallies
  pub within : (bytes : List ℕ) (q : Question) (buffer : List ℕ) (v w : ℕ) (ts us : List ℕ) → v < windows → w < windows
      → ((ask bytes q buffer v ts).reply ≡ (ask bytes q buffer w us).reply) × ((ask bytes q buffer v ts).buffer ≡ (ask bytes q buffer w us).buffer)

-- the tallies as bytes, "four to a tally, high byte first", in window order
abbrev pub record_of : List ℕ → List ℕ
record_of tallies = concat_map tally_bytes tallies

pub record RecordRule : Type 0 where
  -- with the record as bytes a question does what it does with the tallies; bytes beyond stay
  pub whole : (bytes : List ℕ) (q : Question) (buffer : List ℕ) (w : ℕ) (tallies rest : List ℕ) → length tallies ≡ windows → ((v : ℕ) → v < windows → get_or tallies v 0 ≤ max_tally)
      → ask_bytes bytes q buffer w (record_of tallies ++ rest)
      ≡ record {
        reply = (ask bytes q buffer w tallies).reply;
        buffer = (ask bytes q buffer w tallies).buffer;
        desk = record_of (ask bytes q buffer w tallies).tallies ++ rest;
      }
  -- "too few are 12", after every other check; nothing is written
  pub short : (bytes : List ℕ) (q : Question) (buffer : List ℕ) (w : ℕ) (tallies desk : List ℕ) → length desk < desk_length
      → ask_bytes bytes q buffer w desk
      ≡ record {
        reply = cond (eqb (ask bytes q buffer w tallies).reply.refusal 0) (refused_by 12) (ask bytes q buffer w tallies).reply;
        buffer = buffer;
        desk = desk;
      }

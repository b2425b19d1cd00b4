-- What a refused call leaves, as one statement about every call: "no refused call changes an answer buffer or the tally". Proved in laws: refusal_keeps.
use Rattle.std.specs.Prelude.{◌≡◌, ◌≢◌, List, ℕ, ℤ}
use Rattle.truss.specs.Question.{Question}
use Rattle.truss.specs.Call.{build, read, ask, ask_bytes}
use Rattle.truss.specs.Change.{Change, change}
use Rattle.truss.specs.Bets.{DayRecord, try_limit, try_limit_bytes}

-- "All lent memory keeps its bytes": where the reply is a refusal, the buffer and the desk record are as they were lent
pub record RefusalKeeps : Type 0 where
  pub build : (file buffer : List ℕ) → (build file buffer).reply.refusal ≢ 0 → (build file buffer).buffer ≡ buffer
  pub read : (bytes buffer : List ℕ) → (read bytes buffer).reply.refusal ≢ 0 → (read bytes buffer).buffer ≡ buffer
  pub ask : (bytes : List ℕ) (q : Question) (buffer : List ℕ) (w : ℕ) (tallies : List ℕ) → (ask bytes q buffer w tallies).reply.refusal ≢ 0
      → ((ask bytes q buffer w tallies).buffer ≡ buffer) × ((ask bytes q buffer w tallies).tallies ≡ tallies)
  pub ask_bytes_lem : (bytes : List ℕ) (q : Question) (buffer : List ℕ) (w : ℕ) (desk : List ℕ) → (ask_bytes bytes q buffer w desk).reply.refusal ≢ 0
      → ((ask_bytes bytes q buffer w desk).buffer ≡ buffer) × ((ask_bytes bytes q buffer w desk).desk ≡ desk)
  -- "a refused change leaves both buffers"; the first is lent to read
  pub change : (c : Change) (bytes buffer : List ℕ) → (change c bytes buffer).reply.refusal ≢ 0 → (change c bytes buffer).buffer ≡ buffer
  -- a refused trial of a limit leaves both buffers
  pub try_limit_lem : (bytes : List ℕ) (k opening : ℕ) (rs : List DayRecord) (taken : List ℕ) (margins : List ℤ) → (try_limit bytes k opening rs taken margins).reply.refusal ≢ 0
      → ((try_limit bytes k opening rs taken margins).taken ≡ taken) × ((try_limit bytes k opening rs taken margins).margins ≡ margins)
  pub try_limit_bytes_lem : (bytes : List ℕ) (k opening : ℕ) (records taken margins : List ℕ) → (try_limit_bytes bytes k opening records taken margins).reply.refusal ≢ 0
      → ((try_limit_bytes bytes k opening records taken margins).taken ≡ taken) × ((try_limit_bytes bytes k opening records taken margins).margins ≡ margins)

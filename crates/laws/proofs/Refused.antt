-- A refused call leaves all lent memory as it was.
use mathlib.Core.Path.{◌≡◌, refl}
use mathlib.Core.Logic.{◌≢◌}
use mathlib.Core.List.{List}
use Prim.Native.Nat.{ℕ, ◌/◌}
use lib.ListN.{length}
use lib.IntN.{ℤ}
use Rattle.truss.specs.Limits.{margin_length}
use Rattle.truss.specs.Lists.{concat_map}
use Rattle.truss.specs.Refusal.{Checked, passed, refused, and_then, map_passed}
use Rattle.truss.specs.LinksFile.{read_links, read_back}
use Rattle.truss.specs.Index.{index_bytes}
use Rattle.truss.specs.IndexFile.{read_index}
use Rattle.truss.specs.Question.{Answer}
use Rattle.truss.specs.Call.{write, check_room, index_of, build, read, settle, settle_bytes, checked_answer, check_window, check_desk, ask, ask_bytes}
use Rattle.truss.specs.Change.{altered, change}
use Rattle.truss.specs.Bets.{Day, settle_day, checked_day, try_limit, records_in, margin_bytes, try_limit_bytes}
use Rattle.truss.specs.Kept.{RefusalKeeps}

written-kept : (x : Checked (List ℕ)) (buffer : List ℕ) → (write x buffer).reply.refusal ≢ 0 → (write x buffer).buffer ≡ buffer
unfolding write
written-kept (passed b) buffer ne = absurd (ne refl)
written-kept (refused r) buffer ne = refl

settled_kept : (x : Checked Answer) (buffer : List ℕ) (w : ℕ) (tallies : List ℕ) → (settle x buffer w tallies).reply.refusal ≢ 0
    → ((settle x buffer w tallies).buffer ≡ buffer) × ((settle x buffer w tallies).tallies ≡ tallies)
unfolding settle
settled_kept (passed a) buffer w tallies ne = absurd (ne refl)
settled_kept (refused r) buffer w tallies ne = (refl, refl)

settled_bytes_kept : (x : Checked Answer) (buffer : List ℕ) (w : ℕ) (desk : List ℕ) → (settle_bytes x buffer w desk).reply.refusal ≢ 0
    → ((settle_bytes x buffer w desk).buffer ≡ buffer) × ((settle_bytes x buffer w desk).desk ≡ desk)
unfolding settle_bytes
settled_bytes_kept (passed a) buffer w desk ne = absurd (ne refl)
settled_bytes_kept (refused r) buffer w desk ne = (refl, refl)

tried_kept : {A : Type 0} (written : List ℤ → List A) (x : Checked Day) (taken : List ℕ) (margins : List A) → (settle_day written x taken margins).reply.refusal ≢ 0
    → ((settle_day written x taken margins).taken ≡ taken) × ((settle_day written x taken margins).margins ≡ margins)
unfolding settle_day
tried_kept written (passed d) taken margins ne = absurd (ne refl)
tried_kept written (refused r) taken margins ne = (refl, refl)

-- "no refused call changes an answer buffer or the tally"
pub refusal_keeps : RefusalKeeps
unfolding build read ask ask_bytes change try_limit try_limit_bytes
refusal_keeps = record {
  build = λ file buffer. written-kept (check_room (map_passed index_of (read_links file)) buffer) buffer;
  read = λ bytes buffer. written-kept (check_room (map_passed read_back (read_index bytes)) buffer) buffer;
  ask = λ bytes q buffer w. settled_kept (check_window w (checked_answer bytes q buffer)) buffer w;
  ask_bytes_lem = λ bytes q buffer w desk. settled_bytes_kept (check_window w (check_desk (checked_answer bytes q buffer) desk)) buffer w desk;
  change = λ c bytes buffer. written-kept (check_room (map_passed index_bytes (and_then (read_index bytes) (altered c))) buffer) buffer;
  try_limit_lem = λ bytes k opening rs taken margins. tried_kept (λ zs. zs) (checked_day bytes k opening rs (length taken) (length margins)) taken margins;
  try_limit_bytes_lem = λ bytes k opening records taken margins.
      tried_kept (concat_map margin_bytes) (checked_day bytes k opening (records_in records) (length taken) (length margins / margin_length)) taken margins;
}

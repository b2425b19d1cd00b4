-- That what specs/DeskCases.antt states holds.
use Rattle.std.specs.Prelude.{◌≡◌, refl, List, [], ◌∷◌, ◌++◌, ℕ, take, drop}
use Rattle.truss.specs.Question.{ask_strength, ask_all}
use Rattle.truss.specs.Call.{Reply, ask, ask_bytes}
use Rattle.truss.specs.Run.{none, one, own_answered, Asks, AsksBytes}
use Rattle.truss.specs.Cards.{index_only, accounts, sevens, index_t}
use Rattle.truss.specs.DeskCases.{DeskCases}

-- a question of a run on the triangle, A on 0-b
asks : (b : ℕ) {s t : List ℕ} {w : ℕ} {r : Reply} → r ≡ (ask index_t (ask_strength 0 b) [] w s).reply → t ≡ (ask index_t (ask_strength 0 b) [] w s).tallies → Asks s w r t
asks b p q = record { bytes = index_t; question = ask_strength 0 b; buffer = []; replies = p; leaves = q }

asks_bytes : (b lent : ℕ) {s t : List ℕ} {w : ℕ} {r : Reply} → r ≡ (ask_bytes index_t (ask_strength 0 b) [] w (take lent s)).reply → t ≡ (ask_bytes index_t (ask_strength 0 b) [] w (take lent s)).desk ++ drop lent s → AsksBytes s w r t
asks_bytes b lent p q = record { bytes = index_t; question = ask_strength 0 b; buffer = []; lent = lent; replies = p; leaves = q }

-- E on no index, with a buffer
asks_nothing : {s t : List ℕ} {w : ℕ} {r : Reply} → r ≡ (ask_bytes [] (ask_all []) (9 ∷ []) w (take 128 s)).reply → t ≡ (ask_bytes [] (ask_all []) (9 ∷ []) w (take 128 s)).desk ++ drop 128 s → AsksBytes s w r t
asks_nothing p q = record { bytes = []; question = ask_all []; buffer = 9 ∷ []; lent = 128; replies = p; leaves = q }

pub desk_cases : DeskCases
unfolding sevens index_t index_only accounts ask ask_bytes own_answered
desk_cases = record {
  window_0 = refl;
  window_1 = refl;
  window_30 = refl;
  window_31 = refl;
  at_rest = refl;
  beside_rest = refl;
  refused_stays = refl;
  window_32 = refl;
  window_33 = refl;
  window_256 = refl;
  window_last = refl;
  before_7 = refl;
  before_8 = refl;
  before_9 = refl;
  before_10 = refl;
  before_11 = refl;
  before_12 = refl;
  first_bytes = refl;
  second_bytes = refl;
  last_bytes = refl;
  bytes_carry = refl;
  bytes_at_rest = refl;
  bytes_beyond = refl;
  bytes_refused = refl;
  bytes_no_room = refl;
  bytes_127 = refl;
  bytes_none = refl;
  short_after_7 = refl;
  short_after_8 = refl;
  short_after_9 = refl;
  short_after_10 = refl;
  short_after_11 = refl;
  bytes_13 = refl;
  bytes_13_short = refl;
  bytes_13_no_room = refl;
  bytes_32 = refl;
  interleaved = one 1 _ (asks 1 refl refl) (one 0 _ (asks 1 refl refl) (one 1 _ (asks 0 refl refl) (one 33 _ (asks 1 refl refl) (one 1 _ (asks 3 refl refl) (one 1 _ (asks 2 refl refl) none)))));
  interleaved_bytes = one 1 _ (asks_bytes 1 128 refl refl) (one 0 _ (asks_bytes 1 200 refl refl) (one 1 _ (asks_bytes 1 127 refl refl) (one 33 _ (asks_bytes 1 130 refl refl) (one 1 _ (asks_nothing refl refl) (one 1 _ (asks_bytes 2 129 refl refl) none)))));
  own = refl;
  none_own = refl;
}

-- That what specs/ChainCases.antt states holds.
use Rattle.std.specs.Prelude.{refl}
use Rattle.truss.specs.Question.{answer}
use Rattle.truss.specs.Call.{answer_bytes, ask, ask_bytes}
use Rattle.truss.specs.Cards.{corners, sevens, graph_a, graph_b, bow_tie, five, nested, kite, wheel, strip, triangle, index_t}
use Rattle.truss.specs.ChainCases.{ChainCases}

pub chain_cases : ChainCases
unfolding corners sevens graph_a graph_b bow_tie five nested kite wheel strip triangle index_t answer answer_bytes ask ask_bytes
chain_cases = record {
  chain_A = refl;
  chain_at_3 = refl;
  chain_at_4 = refl;
  chain_far_at_3 = refl;
  chain_far_at_4 = refl;
  chain_by_account = refl;
  chain_itself = refl;
  chain_itself_strong = refl;
  chain_itself_weak = refl;
  chain_itself_above = refl;
  chain_weak_first = refl;
  chain_weak_second = refl;
  chain_fewest = refl;
  chain_nowhere = refl;
  chain_long = refl;
  chain_by_outer = refl;
  chain_ties = refl;
  chain_there = refl;
  chain_back = refl;
  chain_by_accounts = refl;
  first_outside = refl;
  second_outside = refl;
  third_outside = refl;
  fourth_outside = refl;
  level_low = refl;
  level_high = refl;
  level_before_first_link = refl;
  level_before_second_link = refl;
  no_first_link = refl;
  no_second_link = refl;
  written = refl;
  short = refl;
  none_written = refl;
  none_short = refl;
  level_before_room = refl;
  account_before_room = refl;
  first_link_before_room = refl;
  link_before_room = refl;
  no_index_first = refl;
  window_first = refl;
  desk_moves = refl;
  desk_short = refl;
  large_accounts = refl;
  large_count = refl;
}

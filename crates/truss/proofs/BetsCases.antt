-- That what specs/BetsCases.antt states holds.
use Rattle.std.specs.Prelude.{refl}
use Rattle.truss.specs.Lists.{range}
use Rattle.truss.specs.Bets.{day_of, check_day, try_limit, records_in, margin_bytes, margin_at, try_limit_bytes}
use Rattle.truss.specs.Cards.{graph_a, graph_b, index_a, five}
use Rattle.truss.specs.BetsCases.{BetsCases}

pub bets_cases : BetsCases
unfolding range graph_a graph_b index_a five day_of check_day try_limit records_in margin_bytes margin_at try_limit_bytes
bets_cases = record {
  B_both = refl;
  B_one_short = refl;
  B_raised = refl;
  B_at_3 = refl;
  A_alone = refl;
  A_no_groups = refl;
  no_records = refl;
  level_first = refl;
  too_many_records = refl;
  most_records = refl;
  opening_before_records = refl;
  largest_limit = refl;
  account_before_stake = refl;
  no_stake = refl;
  large_stake = refl;
  largest_stake = refl;
  large_limit = refl;
  account_before_later_stake = refl;
  over_the_front = refl;
  no_room_for_bytes = refl;
  no_room_for_margins = refl;
  no_index = refl;
  records_in_bytes = refl;
  below_zero = refl;
  above_zero = refl;
  A_bytes = refl;
  A_bytes_short = refl;
  five_at_3 = refl;
  limits_at_the_ends = refl;
  level_below = refl;
  level_lowest = refl;
  just_room = refl;
  records_before_room = refl;
  account_before_room = refl;
  limit_before_room = refl;
  just_room_in_bytes = refl;
  four_bytes = refl;
  A_at_2 = refl;
  A_below_zero = refl;
  reads_back = refl;
  reads_back_above = refl;
  B_raised_for_all = refl;
  B_lowered_for_all = refl;
  limit_has_no_account = refl;
  lowest_margin = refl;
}

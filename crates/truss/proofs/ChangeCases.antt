-- That what specs/ChangeCases.antt states holds.
use Rattle.std.specs.Prelude.{refl, replicate}
use Rattle.truss.specs.Graph.{graph_of, member}
use Rattle.truss.specs.LinksFile.{write_links}
use Rattle.truss.specs.Index.{index_bytes}
use Rattle.truss.specs.Change.{put_in, withdraw, with_link, without_link, altered, change}
use Rattle.truss.specs.Changes.{moved, none, one}
use Rattle.truss.specs.Cards.{pair, index_only, pairs_a, graph_a, index_a, index_b, index_t}
use Rattle.truss.specs.ChangeCases.{full, one_fewer, ChangeCases}

pub change_cases : ChangeCases
unfolding full one_fewer index_t index_b index_a graph_a pairs_a graph_of index_bytes pair index_only write_links member with_link without_link altered change moved
change_cases = record {
  put_first = refl;
  put_exact = refl;
  put_between = refl;
  put_before = refl;
  put_after = refl;
  put_lower_tied = refl;
  withdraw_A = refl;
  withdraw_first = refl;
  withdraw_end = refl;
  withdraw_last = refl;
  put_and_withdraw = refl;
  put_no_index = refl;
  put_links_file = refl;
  put_longer = refl;
  put_outside = refl;
  put_outside_first = refl;
  put_outside_second = refl;
  put_far_outside = refl;
  put_equal = refl;
  put_equal_with_room = refl;
  put_again = refl;
  put_again_with_room = refl;
  put_short = refl;
  equal_and_there = refl;
  full_outside = refl;
  full_equal = refl;
  full_again = refl;
  full_other = refl;
  room_for_one = refl;
  withdraw_no_index = refl;
  withdraw_outside = refl;
  withdraw_outside_first = refl;
  withdraw_outside_second = refl;
  withdraw_equal = refl;
  withdraw_none = refl;
  withdraw_none_short = refl;
  withdraw_short = refl;
  withdraw_full = refl;
  set_put = refl;
  set_put_others = refl;
  set_put_no_more = refl;
  set_withdrawn = refl;
  set_withdrawn_others = refl;
  sequence =
      one (put_in 1 0) (replicate 20 9) _ refl
      (one (put_in 0 1) (replicate 20 9) _ refl
      (one (put_in 0 2) (replicate 33 9) _ refl
      (one (withdraw 1 2) (replicate 20 9) _ refl
      (one (withdraw 0 1) (replicate 6 9) _ refl
      (one (withdraw 0 1) (replicate 20 9) _ refl
      (one (put_in 2 0) (replicate 20 9) _ refl none))))));
}

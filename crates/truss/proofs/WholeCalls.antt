-- That what specs/WholeCalls.antt states holds.
use Rattle.std.specs.Prelude.{refl}
use Rattle.truss.specs.LinksFile.{write_links}
use Rattle.truss.specs.Call.{build, read, ask}
use Rattle.truss.specs.Listing.{row_text, lister, builder}
use Rattle.truss.specs.Cards.{pair, file, head_only, index_only, accounts, sevens, pairs_a, index_a, index_b, index_t}
use Rattle.truss.specs.WholeCalls.{WholeCalls}

pub whole_calls : WholeCalls
unfolding sevens index_t index_b index_a pairs_a pair file head_only index_only accounts write_links build read ask row_text lister builder
whole_calls = record {
  build_tail = refl;
  build_exact = refl;
  build_short = refl;
  build_refused = refl;
  build_A = refl;
  read_tail = refl;
  read_A = refl;
  read_triangle = refl;
  read_short = refl;
  read_refused = refl;
  read_links_file = refl;
  counted = refl;
  at_rest = refl;
  last_counted = refl;
  refused_not_counted = refl;
  no_index_first = refl;
  list_written = refl;
  list_exact = refl;
  list_short = refl;
  empty_list = refl;
  level_before_room = refl;
  C_level_before_room = refl;
  count_before_room = refl;
  account_before_room = refl;
  link_before_room = refl;
  B_3_at_4 = refl;
  B_2_3_and_3_4 = refl;
  lister_refused = refl;
  lister_no_groups = refl;
  builder_A = refl;
  builder_refused = refl;
  builder_number_place = refl;
  number_0 = refl;
  number_10 = refl;
  number_100 = refl;
  number_9876 = refl;
  number_longest = refl;
  row_text_lem = refl;
}

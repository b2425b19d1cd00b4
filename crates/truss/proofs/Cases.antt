-- That what specs/Cases.antt states holds.
use Rattle.std.specs.Prelude.{refl}
use Rattle.truss.specs.Graph.{graph_of, member, support}
use Rattle.truss.specs.Strength.{strength, weight}
use Rattle.truss.specs.Forest.{forest}
use Rattle.truss.specs.Group.{groups}
use Rattle.truss.specs.Record.{body_length}
use Rattle.truss.specs.LinksFile.{read_links, write_links, read_back}
use Rattle.truss.specs.Index.{index, encode, index_bytes, decode}
use Rattle.truss.specs.IndexFile.{read_index}
use Rattle.truss.specs.Question.{answer}
use Rattle.truss.specs.Call.{answer_bytes, answer_value}
use Rattle.truss.specs.Listing.{rows, lister}
use Rattle.truss.specs.Cards.{pair, file, head_only, accounts, pairs_a', graph_a, index_a, graph_b, index_b, bow_tie, five, nested, slow, weak_first, weak_last, kite, two_apart, triangle, large_rows, large_bytes}
use Rattle.truss.specs.Cases.{Cases, RuleCases, WindowCases, FieldCases}

pub cases : Cases
unfolding accounts graph_a index_a graph_b index_b bow_tie five pairs_a' head_only index_bytes graph_of read_links write_links read_index support member answer groups rows lister
cases = record {
  one_account = refl;
  no_accounts = refl;
  too_many_accounts = refl;
  A_two_triangles = refl;
  A_1_2 = refl;
  A_3_4 = refl;
  A_3_4_itself = refl;
  B_3_at_4 = refl;
  B_2_4_at_4 = refl;
  B_2_4_at_3 = refl;
  B_2_3_and_3_4 = refl;
  two_groups = refl;
  five_one_group = refl;
  five_at_3 = refl;
  A_file = refl;
  A_file_length = refl;
  A_index = refl;
  A_index_length = refl;
  A_any_order = refl;
  A_read_back = refl;
  B_rows = refl;
  B_lister = refl;
}

-- ---- ties, and every order of the checks of a links file

pub rule_cases : RuleCases
unfolding slow weak_first weak_last kite two_apart nested graph_b triangle pair file head_only accounts graph_of strength weight forest groups index rows body_length read_links read_back read_index answer
rule_cases = record {
  three_rounds = refl;
  weak_first_side = refl;
  weak_last_side = refl;
  equal_weights = refl;
  B_joins_written = refl;
  equal_strengths = refl;
  smallest_parent = refl;
  parents_written = refl;
  links_written = refl;
  unknown_kind_0 = refl;
  head_body = refl;
  strong_link_body = refl;
  join_body_lem = refl;
  group_body_lem = refl;
  end_body = refl;
  plain_link_body = refl;
  index_head_body = refl;
  unknown_kind_8 = refl;
  empty_file = refl;
  cut_head = refl;
  wrong_first_kind = refl;
  index_kind_first = refl;
  head_alone = refl;
  kind_before_n = refl;
  kind_before_m = refl;
  cut_before_m = refl;
  n_before_m = refl;
  high_n_before_m = refl;
  no_end = refl;
  early_end = refl;
  late_end = refl;
  after_end = refl;
  cut_link = refl;
  cut_before_high = refl;
  cut_before_equal = refl;
  cut_before_again = refl;
  kind_before_high = refl;
  index_kind_inside = refl;
  first_account_too_high = refl;
  second_account_too_high = refl;
  high_before_equal = refl;
  equal_accounts = refl;
  pair_again = refl;
  pair_again_turned = refl;
  again_before_later_fault = refl;
  high_before_later_fault = refl;
  equal_before_later_fault = refl;
  fault_before_after_end = refl;
  read_order = refl;
  cut_index = refl;
  altered_index = refl;
  no_index_place = refl;
  all_holding_lem = refl;
  strongest_holding_lem = refl;
  two_strongest = refl;
  all_of_3 = refl;
  B_3_at_3 = refl;
  links_of_group = refl;
  links_at_lower_k = refl;
  nested_links_too = refl;
  weak_link = refl;
  repeat_account = refl;
  no_links = refl;
  strong_itself = refl;
  joined_at_5 = refl;
  joined_around = refl;
}

-- ---- the window's checks, 8 to 11: every account, link and level that each question looks at, and every order

pub window_cases : WindowCases
unfolding nested triangle accounts answer
window_cases = record {
  C_none_named = refl;
  D_none_named = refl;
  E_none_named = refl;
  C_odd_length = refl;
  D_odd_length = refl;
  E_odd_length = refl;
  C_sixteen = refl;
  D_sixteen = refl;
  E_sixteen = refl;
  C_seventeen = refl;
  D_seventeen = refl;
  E_seventeen = refl;
  A_first_outside = refl;
  A_second_outside = refl;
  B_first_outside = refl;
  B_second_outside = refl;
  B_third_outside = refl;
  B_fourth_outside = refl;
  C_first_outside = refl;
  C_last_outside = refl;
  D_first_outside = refl;
  D_last_outside = refl;
  E_first_outside = refl;
  E_last_outside = refl;
  C_sixteenth_outside = refl;
  D_sixteenth_outside = refl;
  E_sixteenth_outside = refl;
  F_first_outside = refl;
  F_second_outside = refl;
  C_level_0 = refl;
  C_level_65535 = refl;
  F_level_0 = refl;
  F_level_65535 = refl;
  A_no_link = refl;
  A_equal_ends = refl;
  B_first_no_link = refl;
  B_second_no_link = refl;
  F_no_link = refl;
  C_count_before_account = refl;
  C_count_before_level = refl;
  C_account_before_level = refl;
  C_account_before_high_level = refl;
  D_count_before_account = refl;
  E_count_before_account = refl;
  B_account_before_link = refl;
  F_account_before_level = refl;
  F_account_before_high_level = refl;
  F_level_before_link = refl;
  F_high_level_before_link = refl;
}

-- ---- numbers above 255: both bytes of every field, read and written

pub field_cases : FieldCases
unfolding pair triangle large_rows large_bytes graph_of read_links write_links index_bytes read_index encode decode answer answer_bytes answer_value
field_cases = record {
  large_file = refl;
  links_256 = refl;
  first_account_256 = refl;
  second_account_256 = refl;
  pair_written = refl;
  head_written = refl;
  large_index = refl;
  large_index_read = refl;
  index_written = refl;
  index_says = refl;
  accounts_lent = refl;
  account_256 = refl;
  account_299 = refl;
  account_300 = refl;
  list_written = refl;
  list_count = refl;
  list_value = refl;
  tally_written = refl;
  tally_read = refl;
}

-- Worked cases of the definitions, held by computation. `Cases` is document 01's list marked P as document 02 leaves it, with card A's bytes and card B's listing. What that
-- list leaves open: `RuleCases` has the ties and the checks of a links file, `WindowCases` the checks of a question, `FieldCases` numbers above 255.
-- The limits stand in Figures.
use Rattle.std.specs.Prelude.{◌≡◌, [], ◌∷◌, ◌++◌, length, take, replicate}
use Rattle.std.proofs.Math.Option.{none, some}
use Rattle.truss.specs.Limits.{no_group}
use Rattle.truss.specs.Graph.{link, graph_of, member, support}
use Rattle.truss.specs.Strength.{strength, weight}
use Rattle.truss.specs.Forest.{join, forest}
use Rattle.truss.specs.Group.{groups}
use Rattle.truss.specs.Refusal.{passed, refuse}
use Rattle.truss.specs.Record.{body_length}
use Rattle.truss.specs.LinksFile.{accepted, read_links, pair_bytes, write_links, read_back}
use Rattle.truss.specs.Index.{index, encode, index_bytes, decode}
use Rattle.truss.specs.IndexFile.{read_index}
use Rattle.truss.specs.Question.{accounts_in, answer, ask_strength, ask_joined, ask_groups_at, ask_strongest, ask_all, ask_links, two_numbers, number, numbers}
use Rattle.truss.specs.Call.{answer_bytes, answer_value, tally_bytes, tally_in}
use Rattle.truss.specs.Listing.{rows, lister}
use Rattle.truss.specs.Cards.{pair, file, head_only, accounts, pairs_a, pairs_a', graph_a, index_a, graph_b, index_b, bow_tie, five, nested, slow, weak_first, weak_last, kite, two_apart, triangle, large_rows, large_bytes}

-- ---- document 01, "Meetings on paper (P: proved)"

pub record Cases : Type 0 where
  pub one_account : index_bytes (graph_of 1 []) ≡ 7 ∷ 0 ∷ 1 ∷ 0 ∷ 0 ∷ 5 ∷ []
  pub no_accounts : read_links (head_only 0) ≡ refuse 2 0
  pub too_many_accounts : read_links (head_only 1025) ≡ refuse 2 0
  pub A_two_triangles : support 5 (member graph_a.links) (link 1 2) ≡ 2
  pub A_1_2 : answer graph_a (ask_strength 1 2) ≡ passed (two_numbers 3 2)
  pub A_3_4 : answer graph_a (ask_strength 4 3) ≡ passed (two_numbers 2 0)
  pub A_3_4_itself : answer graph_a (ask_joined 3 4 3 4) ≡ passed (number 2)
  pub B_3_at_4 : answer graph_b (ask_groups_at 4 (accounts (3 ∷ []))) ≡ passed (numbers (0 ∷ 1 ∷ []))
  pub B_2_4_at_4 : answer graph_b (ask_groups_at 4 (accounts (2 ∷ 4 ∷ []))) ≡ passed (numbers [])
  pub B_2_4_at_3 : answer graph_b (ask_groups_at 3 (accounts (2 ∷ 4 ∷ []))) ≡ passed (numbers (2 ∷ []))
  pub B_2_3_and_3_4 : answer graph_b (ask_joined 2 3 3 4) ≡ passed (number 3)
  pub two_groups : groups bow_tie ≡ record { strength = 3; members = 0 ∷ 1 ∷ 2 ∷ [] } ∷ record { strength = 3; members = 3 ∷ 4 ∷ 5 ∷ [] } ∷ []
  pub five_one_group : groups five ≡ record { strength = 5; members = 0 ∷ 1 ∷ 2 ∷ 3 ∷ 4 ∷ 5 ∷ 6 ∷ 7 ∷ 8 ∷ 9 ∷ [] } ∷ []
  pub five_at_3 : answer five (ask_groups_at 3 (accounts (0 ∷ 1 ∷ 2 ∷ 3 ∷ 4 ∷ []))) ≡ passed (numbers (0 ∷ []))
  -- card A: "links file 36 bytes", "index becomes 90 bytes"
  pub A_file : read_links (write_links 5 pairs_a) ≡ accepted 5 pairs_a
  pub A_file_length : length (write_links 5 pairs_a) ≡ 36
  pub A_index : index_bytes graph_a ≡ index_a
  pub A_index_length : length index_a ≡ 90
  pub A_any_order : index_bytes (graph_of 5 pairs_a') ≡ index_a
  pub A_read_back : read_index index_a ≡ passed graph_a
  -- card B: "The lister, given its index, prints all of" these four lines
  pub B_rows : rows graph_b
      ≡ record { strength = 4; parent = 2; links = 6; accounts = 4; lo = 0; hi = 1 }
      ∷ record { strength = 4; parent = 2; links = 6; accounts = 4; lo = 3; hi = 4 }
      ∷ record { strength = 3; parent = no_group; links = 13; accounts = 7; lo = 0; hi = 1 } ∷ []
  pub B_lister : lister index_b
      ≡ 0x67 ∷ 0x72 ∷ 0x6F ∷ 0x75 ∷ 0x70 ∷ 0x73 ∷ 0x20 ∷ 0x33 ∷ 0x0A
      ∷ 0x30 ∷ 0x20 ∷ 0x34 ∷ 0x20 ∷ 0x32 ∷ 0x20 ∷ 0x36 ∷ 0x20 ∷ 0x34 ∷ 0x20 ∷ 0x30 ∷ 0x20 ∷ 0x31 ∷ 0x0A
      ∷ 0x31 ∷ 0x20 ∷ 0x34 ∷ 0x20 ∷ 0x32 ∷ 0x20 ∷ 0x36 ∷ 0x20 ∷ 0x34 ∷ 0x20 ∷ 0x33 ∷ 0x20 ∷ 0x34 ∷ 0x0A
      ∷ 0x32 ∷ 0x20 ∷ 0x33 ∷ 0x20 ∷ 0x2D ∷ 0x20 ∷ 0x31 ∷ 0x33 ∷ 0x20 ∷ 0x37 ∷ 0x20 ∷ 0x30 ∷ 0x20 ∷ 0x31 ∷ 0x0A ∷ []

-- ---- ties, and every order of the checks of a links file

pub record RuleCases : Type 0 where
  -- peeling goes on for as long as it takes away; a triangle weighs what its weakest side does, whichever that is
  pub three_rounds : strength slow (link 0 2) ≡ 3
  pub weak_first_side : weight weak_first (record { a = 2; b = 3; c = 6 }) ≡ 3
  pub weak_last_side : weight weak_last (record { a = 0; b = 1; c = 4 }) ≡ 3
  -- ties: joins of equal weight, groups of equal strength, the smallest of several containing groups
  pub equal_weights : forest kite ≡ join 0 1 3 ∷ join 0 3 3 ∷ join 1 2 3 ∷ join 1 4 3 ∷ []
  pub B_joins_written : (index graph_b).joins
      ≡ join 0 1 4 ∷ join 0 2 4 ∷ join 0 3 4 ∷ join 0 4 4 ∷ join 1 5 4 ∷ join 7 8 4 ∷ join 7 9 4 ∷ join 7 10 4 ∷ join 7 11 4 ∷ join 8 12 4
      ∷ join 5 6 3 ∷ join 5 7 3 ∷ []
  pub equal_strengths : groups two_apart ≡ record { strength = 3; members = 0 ∷ 1 ∷ 5 ∷ [] } ∷ record { strength = 3; members = 2 ∷ 3 ∷ 4 ∷ [] } ∷ []
  pub smallest_parent : rows nested
      ≡ record { strength = 5; parent = 1; links = 10; accounts = 5; lo = 0; hi = 1 }
      ∷ record { strength = 4; parent = 2; links = 13; accounts = 6; lo = 0; hi = 1 }
      ∷ record { strength = 3; parent = no_group; links = 15; accounts = 7; lo = 0; hi = 1 } ∷ []
  pub parents_written : (index nested).groups
      ≡ record { parent = 1; strength = 5; least = 0 } ∷ record { parent = 2; strength = 4; least = 0 } ∷ record { parent = no_group; strength = 3; least = 0 } ∷ []
  pub links_written : take 6 (index nested).links
      ≡ record { lo = 0; hi = 1; strength = 5; group = 0 } ∷ record { lo = 0; hi = 2; strength = 5; group = 0 }
      ∷ record { lo = 0; hi = 3; strength = 5; group = 0 } ∷ record { lo = 0; hi = 4; strength = 5; group = 0 }
      ∷ record { lo = 0; hi = 5; strength = 4; group = 1 } ∷ record { lo = 0; hi = 6; strength = 3; group = 2 } ∷ []
  -- the table of kinds
  pub unknown_kind_0 : body_length 0 ≡ none
  pub head_body : body_length 1 ≡ some 4
  pub strong_link_body : body_length 2 ≡ some 7
  pub join_body_lem : body_length 3 ≡ some 5
  pub group_body_lem : body_length 4 ≡ some 5
  pub end_body : body_length 5 ≡ some 0
  pub plain_link_body : body_length 6 ≡ some 4
  pub index_head_body : body_length 7 ≡ some 4
  pub unknown_kind_8 : body_length 8 ≡ none
  -- a links file: the head as 1, 2, 3
  pub empty_file : read_links [] ≡ refuse 1 0
  pub cut_head : read_links (1 ∷ 0 ∷ 5 ∷ []) ≡ refuse 1 0
  pub wrong_first_kind : read_links (6 ∷ 0 ∷ 5 ∷ 0 ∷ 6 ∷ []) ≡ refuse 1 0
  pub index_kind_first : read_links (7 ∷ 0 ∷ 5 ∷ 0 ∷ 0 ∷ 5 ∷ []) ≡ refuse 1 0
  pub head_alone : read_links (1 ∷ 0 ∷ 0 ∷ 0 ∷ 0 ∷ []) ≡ refuse 2 0
  pub kind_before_n : read_links (6 ∷ 0 ∷ 0 ∷ 0 ∷ 0 ∷ []) ≡ refuse 1 0
  pub kind_before_m : read_links (6 ∷ 0 ∷ 5 ∷ 255 ∷ 255 ∷ []) ≡ refuse 1 0
  pub cut_before_m : read_links (1 ∷ 0 ∷ 5 ∷ 255 ∷ []) ≡ refuse 1 0
  pub n_before_m : read_links (file 0 65535 [] []) ≡ refuse 2 0
  pub high_n_before_m : read_links (file 65535 65535 [] []) ≡ refuse 2 0
  -- the records as 1, 4, 5, 6, the first fault met
  pub no_end : read_links (file 5 0 [] []) ≡ refuse 1 5
  pub early_end : read_links (file 5 2 (pair 0 1 ∷ []) (5 ∷ [])) ≡ refuse 1 10
  pub late_end : read_links (file 5 1 (pair 0 1 ∷ pair 0 2 ∷ []) (5 ∷ [])) ≡ refuse 1 10
  pub after_end : read_links (file 5 1 (pair 0 1 ∷ []) (5 ∷ 5 ∷ [])) ≡ refuse 1 11
  pub cut_link : read_links (file 5 1 [] (6 ∷ 0 ∷ 1 ∷ 0 ∷ [])) ≡ refuse 1 5
  pub cut_before_high : read_links (file 5 1 [] (6 ∷ 0 ∷ 9 ∷ 0 ∷ [])) ≡ refuse 1 5
  pub cut_before_equal : read_links (file 5 1 [] (6 ∷ 0 ∷ 0 ∷ 0 ∷ [])) ≡ refuse 1 5
  pub cut_before_again : read_links (file 5 2 (pair 0 1 ∷ []) (6 ∷ 0 ∷ 1 ∷ 0 ∷ [])) ≡ refuse 1 10
  pub kind_before_high : read_links (file 5 1 [] (2 ∷ 0 ∷ 9 ∷ 0 ∷ 9 ∷ 5 ∷ [])) ≡ refuse 1 5
  pub index_kind_inside : read_links (file 5 1 [] (7 ∷ 0 ∷ 0 ∷ 0 ∷ 1 ∷ 5 ∷ [])) ≡ refuse 1 5
  pub first_account_too_high : read_links (file 5 1 (pair 5 4 ∷ []) (5 ∷ [])) ≡ refuse 4 5
  pub second_account_too_high : read_links (file 5 2 (pair 0 1 ∷ pair 4 5 ∷ []) (5 ∷ [])) ≡ refuse 4 10
  pub high_before_equal : read_links (file 5 1 (pair 5 5 ∷ []) (5 ∷ [])) ≡ refuse 4 5
  pub equal_accounts : read_links (file 5 1 (pair 3 3 ∷ []) (5 ∷ [])) ≡ refuse 5 5
  pub pair_again : read_links (file 5 2 (pair 0 1 ∷ pair 0 1 ∷ []) (5 ∷ [])) ≡ refuse 6 10
  pub pair_again_turned : read_links (file 5 2 (pair 0 1 ∷ pair 1 0 ∷ []) (5 ∷ [])) ≡ refuse 6 10
  pub again_before_later_fault : read_links (file 5 3 (pair 0 1 ∷ pair 1 0 ∷ pair 3 3 ∷ []) (5 ∷ [])) ≡ refuse 6 10
  pub high_before_later_fault : read_links (file 5 2 (pair 0 5 ∷ []) (5 ∷ [])) ≡ refuse 4 5
  pub equal_before_later_fault : read_links (file 5 3 (pair 0 1 ∷ pair 3 3 ∷ pair 0 9 ∷ []) (5 ∷ [])) ≡ refuse 5 10
  pub fault_before_after_end : read_links (file 5 1 (pair 0 5 ∷ []) (5 ∷ 5 ∷ [])) ≡ refuse 4 5
  -- read back in index order, the lower account first
  pub read_order : read_back triangle ≡ file 3 3 (pair 0 1 ∷ pair 0 2 ∷ pair 1 2 ∷ []) (5 ∷ [])
  -- 7: an index that is cut, or altered in one byte (the strength of the triangle's group); at 0, whatever is wrong with the links that the bytes name
  pub cut_index : read_index (7 ∷ 0 ∷ 1 ∷ 0 ∷ 0 ∷ []) ≡ refuse 7 0
  pub altered_index : read_index
      (7 ∷ 0 ∷ 3 ∷ 0 ∷ 3 ∷ 2 ∷ 0 ∷ 0 ∷ 0 ∷ 1 ∷ 3 ∷ 0 ∷ 0 ∷ 2 ∷ 0 ∷ 0 ∷ 0 ∷ 2 ∷ 3 ∷ 0 ∷ 0 ∷ 2 ∷ 0 ∷ 1 ∷ 0 ∷ 2 ∷ 3 ∷ 0 ∷ 0
      ∷ 3 ∷ 0 ∷ 0 ∷ 0 ∷ 1 ∷ 3 ∷ 3 ∷ 0 ∷ 0 ∷ 0 ∷ 2 ∷ 3 ∷ 4 ∷ 255 ∷ 255 ∷ 4 ∷ 0 ∷ 0 ∷ 5 ∷ [])
      ≡ refuse 7 0
  pub no_index_place : read_index (7 ∷ 0 ∷ 5 ∷ 0 ∷ 1 ∷ 2 ∷ 0 ∷ 3 ∷ 0 ∷ 3 ∷ 2 ∷ 0 ∷ 0 ∷ 4 ∷ 255 ∷ 255 ∷ 2 ∷ 0 ∷ 0 ∷ 5 ∷ []) ≡ refuse 7 0
  -- answers: an account in two groups, the strongest, k below the strength, nested links, a repeat, an account without links
  pub all_holding_lem : answer nested (ask_all (accounts (0 ∷ 5 ∷ []))) ≡ passed (numbers (1 ∷ 2 ∷ []))
  pub strongest_holding_lem : answer nested (ask_strongest (accounts (0 ∷ 5 ∷ []))) ≡ passed (numbers (1 ∷ []))
  pub two_strongest : answer graph_b (ask_strongest (accounts (3 ∷ []))) ≡ passed (numbers (0 ∷ 1 ∷ []))
  pub all_of_3 : answer graph_b (ask_all (accounts (3 ∷ []))) ≡ passed (numbers (0 ∷ 1 ∷ 2 ∷ []))
  pub B_3_at_3 : answer graph_b (ask_groups_at 3 (accounts (3 ∷ []))) ≡ passed (numbers (2 ∷ []))
  pub links_of_group : answer graph_b (ask_links 4 4 3) ≡ passed (numbers (7 ∷ 8 ∷ 9 ∷ 10 ∷ 11 ∷ 12 ∷ []))
  pub links_at_lower_k : answer graph_b (ask_links 3 4 3) ≡ passed (numbers (0 ∷ 1 ∷ 2 ∷ 3 ∷ 4 ∷ 5 ∷ 6 ∷ 7 ∷ 8 ∷ 9 ∷ 10 ∷ 11 ∷ 12 ∷ []))
  pub nested_links_too : answer nested (ask_links 4 0 5) ≡ passed (numbers (0 ∷ 1 ∷ 2 ∷ 3 ∷ 4 ∷ 6 ∷ 7 ∷ 8 ∷ 9 ∷ 11 ∷ 12 ∷ 13 ∷ 14 ∷ []))
  pub weak_link : answer nested (ask_links 5 0 5) ≡ passed (numbers [])
  pub repeat_account : answer nested (ask_all (accounts (5 ∷ 0 ∷ 5 ∷ []))) ≡ passed (numbers (1 ∷ 2 ∷ []))
  pub no_links : answer nested (ask_all (accounts (7 ∷ []))) ≡ passed (numbers [])
  pub strong_itself : answer graph_b (ask_joined 1 0 0 1) ≡ passed (number 4)
  pub joined_at_5 : answer nested (ask_joined 0 1 3 4) ≡ passed (number 5)
  pub joined_around : answer nested (ask_joined 3 4 5 2) ≡ passed (number 4)

-- ---- the window's checks, 8 to 11: every account, link and level that each question looks at, and every order

pub record WindowCases : Type 0 where
  -- 8 of C, D and E: none named, an odd length, sixteen and seventeen
  pub C_none_named : answer triangle (ask_groups_at 3 []) ≡ refuse 8 0
  pub D_none_named : answer triangle (ask_strongest []) ≡ refuse 8 0
  pub E_none_named : answer triangle (ask_all []) ≡ refuse 8 0
  pub C_odd_length : answer triangle (ask_groups_at 3 (0 ∷ 0 ∷ 0 ∷ [])) ≡ refuse 8 0
  pub D_odd_length : answer triangle (ask_strongest (0 ∷ [])) ≡ refuse 8 0
  pub E_odd_length : answer triangle (ask_all (0 ∷ 0 ∷ 0 ∷ [])) ≡ refuse 8 0
  pub C_sixteen : answer triangle (ask_groups_at 3 (replicate 32 0)) ≡ passed (numbers (0 ∷ []))
  pub D_sixteen : answer triangle (ask_strongest (replicate 32 0)) ≡ passed (numbers (0 ∷ []))
  pub E_sixteen : answer triangle (ask_all (replicate 32 0)) ≡ passed (numbers (0 ∷ []))
  pub C_seventeen : answer triangle (ask_groups_at 3 (replicate 34 0)) ≡ refuse 8 0
  pub D_seventeen : answer triangle (ask_strongest (replicate 34 0)) ≡ refuse 8 0
  pub E_seventeen : answer triangle (ask_all (replicate 34 0)) ≡ refuse 8 0
  -- 9: n itself is the first account outside; the first and the last that is named
  pub A_first_outside : answer triangle (ask_strength 3 1) ≡ refuse 9 0
  pub A_second_outside : answer triangle (ask_strength 1 3) ≡ refuse 9 0
  pub B_first_outside : answer triangle (ask_joined 3 1 0 1) ≡ refuse 9 0
  pub B_second_outside : answer triangle (ask_joined 1 3 0 1) ≡ refuse 9 0
  pub B_third_outside : answer triangle (ask_joined 0 1 3 1) ≡ refuse 9 0
  pub B_fourth_outside : answer triangle (ask_joined 0 1 1 3) ≡ refuse 9 0
  pub C_first_outside : answer triangle (ask_groups_at 3 (accounts (3 ∷ 0 ∷ []))) ≡ refuse 9 0
  pub C_last_outside : answer triangle (ask_groups_at 3 (accounts (0 ∷ 3 ∷ []))) ≡ refuse 9 0
  pub D_first_outside : answer triangle (ask_strongest (accounts (3 ∷ 0 ∷ []))) ≡ refuse 9 0
  pub D_last_outside : answer triangle (ask_strongest (accounts (0 ∷ 3 ∷ []))) ≡ refuse 9 0
  pub E_first_outside : answer triangle (ask_all (accounts (3 ∷ 0 ∷ []))) ≡ refuse 9 0
  pub E_last_outside : answer triangle (ask_all (accounts (0 ∷ 3 ∷ []))) ≡ refuse 9 0
  pub C_sixteenth_outside : answer triangle (ask_groups_at 3 (replicate 31 0 ++ (3 ∷ []))) ≡ refuse 9 0
  pub D_sixteenth_outside : answer triangle (ask_strongest (replicate 31 0 ++ (3 ∷ []))) ≡ refuse 9 0
  pub E_sixteenth_outside : answer triangle (ask_all (replicate 31 0 ++ (3 ∷ []))) ≡ refuse 9 0
  pub F_first_outside : answer triangle (ask_links 3 3 1) ≡ refuse 9 0
  pub F_second_outside : answer triangle (ask_links 3 1 3) ≡ refuse 9 0
  -- 10: far below and far above (beside the limits: Figures)
  pub C_level_0 : answer triangle (ask_groups_at 0 (accounts (0 ∷ []))) ≡ refuse 10 0
  pub C_level_65535 : answer triangle (ask_groups_at 65535 (accounts (0 ∷ []))) ≡ refuse 10 0
  pub F_level_0 : answer triangle (ask_links 0 0 1) ≡ refuse 10 0
  pub F_level_65535 : answer triangle (ask_links 65535 0 1) ≡ refuse 10 0
  -- 11: every pair, and equal accounts are no link
  pub A_no_link : answer nested (ask_strength 5 6) ≡ refuse 11 0
  pub A_equal_ends : answer nested (ask_strength 3 3) ≡ refuse 11 0
  pub B_first_no_link : answer nested (ask_joined 5 6 0 1) ≡ refuse 11 0
  pub B_second_no_link : answer nested (ask_joined 0 1 5 6) ≡ refuse 11 0
  pub F_no_link : answer nested (ask_links 3 5 6) ≡ refuse 11 0
  -- the order
  pub C_count_before_account : answer triangle (ask_groups_at 3 (0 ∷ 3 ∷ 0 ∷ [])) ≡ refuse 8 0
  pub C_count_before_level : answer triangle (ask_groups_at 1 []) ≡ refuse 8 0
  pub C_account_before_level : answer triangle (ask_groups_at 1 (accounts (3 ∷ []))) ≡ refuse 9 0
  pub C_account_before_high_level : answer triangle (ask_groups_at 65535 (accounts (3 ∷ []))) ≡ refuse 9 0
  pub D_count_before_account : answer triangle (ask_strongest (0 ∷ 3 ∷ 0 ∷ [])) ≡ refuse 8 0
  pub E_count_before_account : answer triangle (ask_all (0 ∷ 3 ∷ 0 ∷ [])) ≡ refuse 8 0
  pub B_account_before_link : answer nested (ask_joined 5 6 0 8) ≡ refuse 9 0
  pub F_account_before_level : answer triangle (ask_links 1 0 3) ≡ refuse 9 0
  pub F_account_before_high_level : answer triangle (ask_links 65535 3 0) ≡ refuse 9 0
  pub F_level_before_link : answer nested (ask_links 1 5 6) ≡ refuse 10 0
  pub F_high_level_before_link : answer nested (ask_links 65535 5 6) ≡ refuse 10 0

-- ---- numbers above 255: both bytes of every field, read and written

pub record FieldCases : Type 0 where
  -- a links file: n, m and accounts
  pub large_file : read_links (1 ∷ 2 ∷ 88 ∷ 0 ∷ 1 ∷ 6 ∷ 2 ∷ 87 ∷ 1 ∷ 44 ∷ 5 ∷ []) ≡ accepted 600 (pair 599 300 ∷ [])
  pub links_256 : read_links (1 ∷ 0 ∷ 5 ∷ 1 ∷ 0 ∷ 5 ∷ []) ≡ refuse 1 5
  pub first_account_256 : read_links (1 ∷ 0 ∷ 5 ∷ 0 ∷ 1 ∷ 6 ∷ 1 ∷ 0 ∷ 0 ∷ 1 ∷ 5 ∷ []) ≡ refuse 4 5
  pub second_account_256 : read_links (1 ∷ 0 ∷ 5 ∷ 0 ∷ 1 ∷ 6 ∷ 0 ∷ 1 ∷ 1 ∷ 0 ∷ 5 ∷ []) ≡ refuse 4 5
  pub pair_written : pair_bytes (pair 258 772) ≡ 6 ∷ 1 ∷ 2 ∷ 3 ∷ 4 ∷ []
  pub head_written : take 10 (write_links 600 (replicate 300 (pair 258 772))) ≡ 1 ∷ 2 ∷ 88 ∷ 1 ∷ 44 ∷ 6 ∷ 1 ∷ 2 ∷ 3 ∷ 4 ∷ []
  -- an index: n, m, accounts, links, groups
  pub large_index : index_bytes (graph_of 600 []) ≡ 7 ∷ 2 ∷ 88 ∷ 0 ∷ 0 ∷ 5 ∷ []
  pub large_index_read : read_index (7 ∷ 2 ∷ 88 ∷ 0 ∷ 0 ∷ 5 ∷ []) ≡ passed (graph_of 600 [])
  pub index_written : encode large_rows ≡ large_bytes
  pub index_says : decode large_bytes ≡ large_rows
  -- accounts that are lent; counts and numbers that are answered
  pub accounts_lent : accounts_in (1 ∷ 2 ∷ 3 ∷ 4 ∷ []) ≡ 258 ∷ 772 ∷ []
  pub account_256 : answer triangle (ask_all (1 ∷ 0 ∷ [])) ≡ refuse 9 0
  pub account_299 : answer (graph_of 300 []) (ask_strongest (1 ∷ 43 ∷ [])) ≡ passed (numbers [])
  pub account_300 : answer (graph_of 300 []) (ask_strongest (1 ∷ 44 ∷ [])) ≡ refuse 9 0
  pub list_written : answer_bytes (numbers (258 ∷ 772 ∷ [])) ≡ 0 ∷ 2 ∷ 1 ∷ 2 ∷ 3 ∷ 4 ∷ []
  pub list_count : take 2 (answer_bytes (numbers (replicate 258 7))) ≡ 1 ∷ 2 ∷ []
  pub list_value : answer_value (numbers (replicate 258 7)) ≡ 518
  -- the tally's four bytes
  pub tally_written : tally_bytes 16909060 ≡ 1 ∷ 2 ∷ 3 ∷ 4 ∷ []
  pub tally_read : tally_in (1 ∷ 2 ∷ 3 ∷ 4 ∷ 5 ∷ []) ≡ 16909060

-- A limit tried on a day's bets: worked cases, held by computation. At 4 card B has the groups 0, of accounts 0 to 3, and 1, of accounts 3 to 6.
use Rattle.std.specs.Prelude.{◌≡◌, [], ◌∷◌, map, pos, negsuc}
use Rattle.truss.specs.Lists.{range}
use Rattle.truss.specs.Refusal.{passed, refuse}
use Rattle.truss.specs.Call.{done}
use Rattle.truss.specs.Bets.{bet, new_limit, day_of, check_day, try_limit, records_in, margin_bytes, margin_at, try_limit_bytes}
use Rattle.truss.specs.Cards.{graph_a, graph_b, index_a, five}

pub record BetsCases : Type 0 where
  -- account 3 is measured by both groups, a stake equal to the margin is taken, a lowered limit leaves margins below zero
  pub B_both : day_of graph_b 4 100 (bet 3 60 ∷ bet 0 50 ∷ bet 4 40 ∷ new_limit 50 ∷ bet 5 1 ∷ [])
      ≡ record { taken = 1 ∷ 0 ∷ 1 ∷ 1 ∷ 0 ∷ []; margins = negsuc 9 ∷ negsuc 49 ∷ [] }
  -- one group of the two is short
  pub B_one_short : day_of graph_b 4 100 (bet 6 80 ∷ bet 3 30 ∷ bet 0 100 ∷ []) ≡ record { taken = 1 ∷ 0 ∷ 1 ∷ []; margins = pos 0 ∷ pos 20 ∷ [] }
  -- a raised limit
  pub B_raised : day_of graph_b 4 10 (bet 0 11 ∷ new_limit 11 ∷ bet 0 11 ∷ []) ≡ record { taken = 0 ∷ 1 ∷ 1 ∷ []; margins = pos 0 ∷ pos 11 ∷ [] }
  -- at 3 there is one group, number 2
  pub B_at_3 : day_of graph_b 3 100 (bet 0 60 ∷ bet 6 60 ∷ bet 6 40 ∷ []) ≡ record { taken = 1 ∷ 0 ∷ 1 ∷ []; margins = pos 0 ∷ [] }
  -- "an account in no group at k is measured as a group by itself", and has no margin among those written
  pub A_alone : day_of graph_a 3 100 (bet 4 70 ∷ bet 4 40 ∷ bet 4 30 ∷ bet 3 100 ∷ []) ≡ record { taken = 1 ∷ 0 ∷ 1 ∷ 1 ∷ []; margins = pos 0 ∷ [] }
  pub A_no_groups : day_of graph_a 64 5 (bet 1 5 ∷ bet 2 5 ∷ bet 1 1 ∷ []) ≡ record { taken = 1 ∷ 1 ∷ 0 ∷ []; margins = [] }
  pub no_records : day_of graph_a 3 7 [] ≡ record { taken = []; margins = pos 7 ∷ [] }
  -- "order 7, 10, 16, 15 for the opening limit, then by record 9, 15"
  pub level_first : check_day graph_a 1 1000000001 (map (λ i. bet 5 0) (range 0 4097)) ≡ refuse 10 0
  pub too_many_records : check_day graph_a 3 1000000001 (map (λ i. bet 5 0) (range 0 4097)) ≡ refuse 16 0
  pub most_records : check_day graph_a 3 0 (map (λ i. bet 5 0) (range 0 4096)) ≡ refuse 9 0
  pub opening_before_records : check_day graph_a 3 1000000001 (bet 5 0 ∷ []) ≡ refuse 15 0
  pub largest_limit : check_day graph_a 3 1000000000 [] ≡ passed (record { taken = []; margins = pos 1000000000 ∷ [] })
  pub account_before_stake : check_day graph_a 3 0 (bet 5 0 ∷ []) ≡ refuse 9 0
  pub no_stake : check_day graph_a 3 0 (bet 4 0 ∷ bet 5 1 ∷ []) ≡ refuse 15 0
  pub large_stake : check_day graph_a 3 0 (bet 4 1000001 ∷ []) ≡ refuse 15 0
  pub largest_stake : check_day graph_a 3 1000000 (bet 4 1000000 ∷ []) ≡ passed (record { taken = 1 ∷ []; margins = pos 1000000 ∷ [] })
  pub large_limit : check_day graph_a 3 0 (new_limit 1000000001 ∷ []) ≡ refuse 15 0
  pub account_before_later_stake : check_day graph_a 3 0 (bet 0 1 ∷ bet 5 1 ∷ bet 0 0 ∷ []) ≡ refuse 9 0
  -- "then 12 for either buffer"; bytes and margins beyond the results stay
  pub over_the_front : try_limit index_a 3 9 (bet 0 9 ∷ []) (7 ∷ 7 ∷ []) (pos 7 ∷ pos 7 ∷ []) ≡ record { reply = done 1; taken = 1 ∷ 7 ∷ []; margins = pos 0 ∷ pos 7 ∷ [] }
  pub no_room_for_bytes : try_limit index_a 3 9 (bet 0 9 ∷ []) [] (pos 7 ∷ []) ≡ record { reply = record { refusal = 12; value = 0; second = 0; third = 0 }; taken = []; margins = pos 7 ∷ [] }
  pub no_room_for_margins : try_limit index_a 3 9 (bet 0 9 ∷ []) (7 ∷ []) [] ≡ record { reply = record { refusal = 12; value = 0; second = 0; third = 0 }; taken = 7 ∷ []; margins = [] }
  pub no_index : try_limit [] 1 9 [] (7 ∷ []) [] ≡ record { reply = record { refusal = 7; value = 0; second = 0; third = 0 }; taken = 7 ∷ []; margins = [] }
  -- from C
  pub records_in_bytes : records_in (0 ∷ 0 ∷ 0 ∷ 1 ∷ 3 ∷ 0 ∷ 0 ∷ 0 ∷ 60 ∷ 1 ∷ 9 ∷ 9 ∷ 9 ∷ 9 ∷ 0 ∷ 0 ∷ 1 ∷ 0 ∷ 0 ∷ 0 ∷ []) ≡ bet 259 60 ∷ new_limit 256 ∷ []
  pub below_zero : margin_bytes (negsuc 9) ≡ 255 ∷ 255 ∷ 255 ∷ 255 ∷ 255 ∷ 255 ∷ 255 ∷ 246 ∷ []
  pub above_zero : margin_bytes (pos 1000000000) ≡ 0 ∷ 0 ∷ 0 ∷ 0 ∷ 59 ∷ 154 ∷ 202 ∷ 0 ∷ []
  pub A_bytes : try_limit_bytes index_a 3 9 (0 ∷ 0 ∷ 0 ∷ 0 ∷ 0 ∷ 0 ∷ 0 ∷ 0 ∷ 9 ∷ 1 ∷ 0 ∷ 0 ∷ 0 ∷ 0 ∷ 0 ∷ 0 ∷ 0 ∷ 8 ∷ []) (7 ∷ 7 ∷ 7 ∷ []) (7 ∷ 7 ∷ 7 ∷ 7 ∷ 7 ∷ 7 ∷ 7 ∷ 7 ∷ 7 ∷ [])
      ≡ record { reply = done 1; taken = 1 ∷ 1 ∷ 7 ∷ []; margins = 255 ∷ 255 ∷ 255 ∷ 255 ∷ 255 ∷ 255 ∷ 255 ∷ 255 ∷ 7 ∷ [] }
  pub A_bytes_short : try_limit_bytes index_a 3 9 [] [] (7 ∷ 7 ∷ 7 ∷ 7 ∷ 7 ∷ 7 ∷ 7 ∷ [])
      ≡ record { reply = record { refusal = 12; value = 0; second = 0; third = 0 }; taken = []; margins = 7 ∷ 7 ∷ 7 ∷ 7 ∷ 7 ∷ 7 ∷ 7 ∷ [] }
  -- a group at 3 whose own strength is 5
  pub five_at_3 : day_of five 3 100 (bet 0 60 ∷ bet 1 50 ∷ []) ≡ record { taken = 1 ∷ 0 ∷ []; margins = pos 40 ∷ [] }
  pub limits_at_the_ends : check_day graph_a 3 5 (new_limit 0 ∷ new_limit 1000000000 ∷ []) ≡ passed (record { taken = 1 ∷ 1 ∷ []; margins = pos 1000000000 ∷ [] })
  pub level_below : check_day graph_a 1 0 [] ≡ refuse 10 0
  pub level_lowest : check_day graph_a 2 7 [] ≡ passed (record { taken = []; margins = pos 7 ∷ pos 7 ∷ [] })
  pub just_room : try_limit index_a 3 9 (bet 0 9 ∷ []) (7 ∷ []) (pos 7 ∷ []) ≡ record { reply = done 1; taken = 1 ∷ []; margins = pos 0 ∷ [] }
  pub records_before_room : try_limit index_a 3 9 (bet 0 1 ∷ bet 0 0 ∷ []) [] [] ≡ record { reply = record { refusal = 15; value = 0; second = 0; third = 0 }; taken = []; margins = [] }
  pub account_before_room : try_limit index_a 3 9 (bet 0 1 ∷ bet 5 1 ∷ []) [] [] ≡ record { reply = record { refusal = 9; value = 0; second = 0; third = 0 }; taken = []; margins = [] }
  pub limit_before_room : try_limit index_a 3 9 (new_limit 1000000001 ∷ []) [] [] ≡ record { reply = record { refusal = 15; value = 0; second = 0; third = 0 }; taken = []; margins = [] }
  pub just_room_in_bytes : try_limit_bytes index_a 3 9 (0 ∷ 0 ∷ 0 ∷ 0 ∷ 0 ∷ 0 ∷ 0 ∷ 0 ∷ 9 ∷ []) (7 ∷ []) (7 ∷ 7 ∷ 7 ∷ 7 ∷ 7 ∷ 7 ∷ 7 ∷ 7 ∷ [])
      ≡ record { reply = done 1; taken = 1 ∷ []; margins = 0 ∷ 0 ∷ 0 ∷ 0 ∷ 0 ∷ 0 ∷ 0 ∷ 0 ∷ [] }
  pub four_bytes : records_in (0 ∷ 1 ∷ 2 ∷ 3 ∷ 4 ∷ 59 ∷ 154 ∷ 202 ∷ 0 ∷ 2 ∷ 0 ∷ 0 ∷ 0 ∷ 0 ∷ 59 ∷ 154 ∷ 202 ∷ 0 ∷ []) ≡ bet 16909060 1000000000 ∷ new_limit 1000000000 ∷ []
  -- at 2: account 3 is in group 0 and in the lone pair 3-4, account 4 in the pair alone
  pub A_at_2 : try_limit index_a 2 100 (bet 4 60 ∷ bet 3 50 ∷ bet 0 50 ∷ []) (7 ∷ 7 ∷ 7 ∷ []) (pos 7 ∷ pos 7 ∷ pos 7 ∷ [])
      ≡ record { reply = done 2; taken = 1 ∷ 0 ∷ 1 ∷ []; margins = pos 50 ∷ pos 40 ∷ pos 7 ∷ [] }
  -- "after a lowered limit, the margin may fall below zero and is reported so": as a number, and as eight bytes that read back as it
  pub A_below_zero : try_limit index_a 3 9 (bet 0 9 ∷ new_limit 8 ∷ []) (7 ∷ 7 ∷ []) (pos 7 ∷ []) ≡ record { reply = done 1; taken = 1 ∷ 1 ∷ []; margins = negsuc 0 ∷ [] }
  pub reads_back : margin_at (7 ∷ 255 ∷ 255 ∷ 255 ∷ 255 ∷ 255 ∷ 255 ∷ 255 ∷ 246 ∷ []) 1 ≡ negsuc 9
  pub reads_back_above : margin_at (0 ∷ 0 ∷ 0 ∷ 0 ∷ 59 ∷ 154 ∷ 202 ∷ 0 ∷ []) 0 ≡ pos 1000000000
  -- a raised limit holds for every group, met before or not
  pub B_raised_for_all : day_of graph_b 4 100 (bet 0 100 ∷ new_limit 150 ∷ bet 1 50 ∷ bet 5 150 ∷ []) ≡ record { taken = 1 ∷ 1 ∷ 1 ∷ 1 ∷ []; margins = pos 0 ∷ pos 0 ∷ [] }
  -- and a lowered one for groups met before and later
  pub B_lowered_for_all : day_of graph_b 4 100 (bet 0 60 ∷ new_limit 50 ∷ bet 1 1 ∷ bet 5 51 ∷ bet 5 50 ∷ []) ≡ record { taken = 1 ∷ 1 ∷ 0 ∷ 0 ∷ 1 ∷ []; margins = negsuc 9 ∷ pos 0 ∷ [] }
  -- a new limit has no account: none is looked at
  pub limit_has_no_account : try_limit_bytes index_a 3 9 (1 ∷ 255 ∷ 255 ∷ 255 ∷ 255 ∷ 0 ∷ 0 ∷ 0 ∷ 8 ∷ []) (7 ∷ []) (7 ∷ 7 ∷ 7 ∷ 7 ∷ 7 ∷ 7 ∷ 7 ∷ 7 ∷ [])
      ≡ record { reply = done 1; taken = 1 ∷ []; margins = 0 ∷ 0 ∷ 0 ∷ 0 ∷ 0 ∷ 0 ∷ 0 ∷ 8 ∷ [] }
  -- 1,000,000,000 taken, then a limit of 0: no margin is lower
  pub lowest_margin : margin_bytes (negsuc 999999999) ≡ 255 ∷ 255 ∷ 255 ∷ 255 ∷ 196 ∷ 101 ∷ 54 ∷ 0 ∷ []

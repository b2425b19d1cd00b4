-- Worked cases of question G, held by computation: answers, every order of its checks, the bytes written. The limits of k stand in Figures.
use Rattle.std.specs.Prelude.{◌≡◌, [], ◌∷◌, ◌++◌, take, drop, replicate}
use Rattle.truss.specs.Refusal.{passed, refuse}
use Rattle.truss.specs.Question.{answer, ask_chain, chain}
use Rattle.truss.specs.Call.{answer_bytes, ask, ask_bytes, done}
use Rattle.truss.specs.Windows.{refused_by}
use Rattle.truss.specs.Cards.{corners, sevens, graph_a, graph_b, bow_tie, five, nested, kite, wheel, strip, triangle, index_t}

pub record ChainCases : Type 0 where
  -- two triangles with a common link; one that has both links, on card B at 3, and at 4, where it is too weak by the side that is neither link
  pub chain_A : answer graph_a (ask_chain 3 0 1 3 2) ≡ passed (chain (corners 0 1 2 ∷ corners 1 2 3 ∷ []))
  pub chain_at_3 : answer graph_b (ask_chain 3 2 3 3 4) ≡ passed (chain (corners 2 3 4 ∷ []))
  pub chain_at_4 : answer graph_b (ask_chain 4 2 3 3 4) ≡ passed (chain [])
  pub chain_far_at_3 : answer graph_b (ask_chain 3 0 1 5 6) ≡ passed (chain (corners 0 1 2 ∷ corners 0 2 3 ∷ corners 2 3 4 ∷ corners 3 4 5 ∷ corners 3 5 6 ∷ []))
  pub chain_far_at_4 : answer graph_b (ask_chain 4 0 1 5 6) ≡ passed (chain [])
  -- triangles that share an account only are no neighbours
  pub chain_by_account : answer bow_tie (ask_chain 3 0 1 3 4) ≡ passed (chain [])
  -- a link with itself: the first triangle by accounts that holds it; none at strength 2, or where k is above its strength
  pub chain_itself : answer graph_a (ask_chain 3 2 1 1 2) ≡ passed (chain (corners 0 1 2 ∷ []))
  pub chain_itself_strong : answer graph_b (ask_chain 4 3 4 4 3) ≡ passed (chain (corners 3 4 5 ∷ []))
  pub chain_itself_weak : answer graph_a (ask_chain 3 3 4 3 4) ≡ passed (chain [])
  pub chain_itself_above : answer graph_b (ask_chain 4 2 4 2 4) ≡ passed (chain [])
  pub chain_weak_first : answer graph_a (ask_chain 3 3 4 2 3) ≡ passed (chain [])
  pub chain_weak_second : answer graph_a (ask_chain 3 2 3 3 4) ≡ passed (chain [])
  -- fewest first: 0-1-4 comes before 1-2-4 and leads to a longer chain; 0-1-2 comes before 1-2-3 and leads nowhere
  pub chain_fewest : answer five (ask_chain 5 1 4 2 3) ≡ passed (chain (corners 1 2 4 ∷ corners 1 2 3 ∷ []))
  pub chain_nowhere : answer strip (ask_chain 3 1 2 3 4) ≡ passed (chain (corners 1 2 3 ∷ corners 2 3 4 ∷ []))
  pub chain_long : answer strip (ask_chain 3 1 0 6 7) ≡ passed (chain (corners 0 1 2 ∷ corners 1 2 3 ∷ corners 2 3 4 ∷ corners 3 4 5 ∷ corners 4 5 6 ∷ corners 5 6 7 ∷ []))
  -- neighbours that share the outer link of a triangle, lowest-highest
  pub chain_by_outer : answer kite (ask_chain 3 0 1 3 2) ≡ passed (chain (corners 0 1 2 ∷ corners 0 2 3 ∷ []))
  -- then by accounts: chains that differ in the last triangle only (0-1-2, 0-1-3) and in the first only (0-2-3, 1-2-3); from the first link, so that the way
  -- back may be another
  pub chain_ties : answer graph_b (ask_chain 4 2 3 0 1) ≡ passed (chain (corners 0 2 3 ∷ corners 0 1 2 ∷ []))
  pub chain_there : answer wheel (ask_chain 3 0 5 1 3) ≡ passed (chain (corners 0 3 5 ∷ corners 0 3 4 ∷ corners 1 3 4 ∷ []))
  pub chain_back : answer wheel (ask_chain 3 1 3 0 5) ≡ passed (chain (corners 1 2 3 ∷ corners 2 3 5 ∷ corners 0 3 5 ∷ []))
  -- by accounts, not by the link that is shared: 0-3-5 comes before 1-2-3, though 2-3 has a lower number than 3-5
  pub chain_by_accounts : answer wheel (ask_chain 3 2 5 3 4) ≡ passed (chain (corners 2 3 5 ∷ corners 0 3 5 ∷ corners 0 3 4 ∷ []))
  -- 9 looks at all four accounts, before 10 and 11
  pub first_outside : answer triangle (ask_chain 65535 3 0 0 0) ≡ refuse 9 0
  pub second_outside : answer triangle (ask_chain 65535 0 3 0 0) ≡ refuse 9 0
  pub third_outside : answer triangle (ask_chain 65535 0 0 3 0) ≡ refuse 9 0
  pub fourth_outside : answer triangle (ask_chain 65535 0 0 0 3) ≡ refuse 9 0
  -- 10 before 11 of either link
  pub level_low : answer nested (ask_chain 0 0 1 1 2) ≡ refuse 10 0
  pub level_high : answer nested (ask_chain 65535 0 1 1 2) ≡ refuse 10 0
  pub level_before_first_link : answer nested (ask_chain 65535 5 6 0 1) ≡ refuse 10 0
  pub level_before_second_link : answer nested (ask_chain 0 0 1 5 6) ≡ refuse 10 0
  -- 11 of either link
  pub no_first_link : answer nested (ask_chain 3 5 6 0 1) ≡ refuse 11 0
  pub no_second_link : answer nested (ask_chain 3 0 1 3 3) ≡ refuse 11 0
  -- the bytes: a count of both its bytes, then the accounts of each triangle, rising; the bytes after the answer stay. 12 for a buffer that is too short, after
  -- 9, 10 and 11, and the tallies stay; 13 ahead of 7
  pub written : ask index_t (ask_chain 3 0 1 2 1) (replicate 9 9) 0 sevens ≡ record { reply = done 8; buffer = 0 ∷ 1 ∷ 0 ∷ 0 ∷ 0 ∷ 1 ∷ 0 ∷ 2 ∷ 9 ∷ []; tallies = 8 ∷ replicate 31 7 }
  pub short : ask index_t (ask_chain 3 0 1 2 1) (replicate 7 9) 0 sevens ≡ record { reply = refused_by 12; buffer = replicate 7 9; tallies = sevens }
  pub none_written : ask index_t (ask_chain 4 0 1 2 1) (replicate 3 9) 0 sevens ≡ record { reply = done 2; buffer = 0 ∷ 0 ∷ 9 ∷ []; tallies = 8 ∷ replicate 31 7 }
  pub none_short : ask index_t (ask_chain 4 0 1 2 1) (replicate 1 9) 0 sevens ≡ record { reply = refused_by 12; buffer = replicate 1 9; tallies = sevens }
  pub level_before_room : ask index_t (ask_chain 0 0 1 2 1) [] 0 sevens ≡ record { reply = refused_by 10; buffer = []; tallies = sevens }
  pub account_before_room : ask index_t (ask_chain 3 0 3 0 1) [] 0 sevens ≡ record { reply = refused_by 9; buffer = []; tallies = sevens }
  pub first_link_before_room : ask index_t (ask_chain 3 2 2 0 1) [] 0 sevens ≡ record { reply = refused_by 11; buffer = []; tallies = sevens }
  pub link_before_room : ask index_t (ask_chain 3 0 1 2 2) [] 0 sevens ≡ record { reply = refused_by 11; buffer = []; tallies = sevens }
  pub no_index_first : ask (drop 1 index_t) (ask_chain 0 3 0 0 0) [] 0 sevens ≡ record { reply = refused_by 7; buffer = []; tallies = sevens }
  pub desk_moves : ask_bytes index_t (ask_chain 3 0 1 2 1) (replicate 8 9) 31 (replicate 124 9 ++ (0 ∷ 0 ∷ 0 ∷ 255 ∷ 9 ∷ [])) ≡ record { reply = done 8; buffer = 0 ∷ 1 ∷ 0 ∷ 0 ∷ 0 ∷ 1 ∷ 0 ∷ 2 ∷ []; desk = replicate 124 9 ++ (0 ∷ 0 ∷ 1 ∷ 0 ∷ 9 ∷ []) }
  pub desk_short : ask_bytes index_t (ask_chain 3 0 1 2 1) (replicate 8 9) 0 (replicate 127 0) ≡ record { reply = refused_by 12; buffer = replicate 8 9; desk = replicate 127 0 }
  pub window_first : ask (drop 1 index_t) (ask_chain 0 3 0 0 0) [] 32 sevens ≡ record { reply = refused_by 13; buffer = []; tallies = sevens }
  pub large_accounts : answer_bytes (chain (corners 1 258 1023 ∷ corners 2 258 1023 ∷ [])) ≡ 0 ∷ 2 ∷ 0 ∷ 1 ∷ 1 ∷ 2 ∷ 3 ∷ 255 ∷ 0 ∷ 2 ∷ 1 ∷ 2 ∷ 3 ∷ 255 ∷ []
  pub large_count : take 2 (answer_bytes (chain (replicate 258 (corners 0 1 2)))) ≡ 1 ∷ 2 ∷ []

-- Worked cases of question A, held by computation: the strength of a link, and how many triangles of at least that weight hold it.
use Rattle.std.specs.Prelude.{◌≡◌, [], ◌∷◌, replicate}
use Rattle.truss.specs.Graph.{link}
use Rattle.truss.specs.Support.{support_at}
use Rattle.truss.specs.Refusal.{passed}
use Rattle.truss.specs.Question.{answer, ask_strength, ask_joined, two_numbers}
use Rattle.truss.specs.Call.{ask}
use Rattle.truss.specs.Cards.{sevens, graph_b, index_a, index_b, bow_tie, five, nested, slow, weak_first, weak_last}

pub record StrengthCases : Type 0 where
  -- card B: 2-3 and 3-4 are in three triangles each, of which 2-3-4 has weight 3, by its middle side 2-4
  pub B_2_3 : answer graph_b (ask_strength 2 3) ≡ passed (two_numbers 4 2)
  pub B_3_4 : answer graph_b (ask_strength 4 3) ≡ passed (two_numbers 4 2)
  -- the same with the weak side the first, 2-3 of 2-3-6, and the last, 1-4 of 0-1-4: a weight is judged by both other links
  pub weak_first_2_6 : answer weak_first (ask_strength 2 6) ≡ passed (two_numbers 4 2)
  pub weak_first_3_6 : answer weak_first (ask_strength 6 3) ≡ passed (two_numbers 4 2)
  pub weak_last_0_1 : answer weak_last (ask_strength 0 1) ≡ passed (two_numbers 4 2)
  pub weak_last_0_4 : answer weak_last (ask_strength 4 0) ≡ passed (two_numbers 4 2)
  -- the two other links are stronger
  pub B_2_4 : answer graph_b (ask_strength 2 4) ≡ passed (two_numbers 3 1)
  -- by weight, whatever the link's own strength
  pub at_3 : support_at graph_b 3 (link 2 3) ≡ 3
  pub at_4 : support_at graph_b 4 (link 3 2) ≡ 2
  pub at_5 : support_at graph_b 5 (link 2 3) ≡ 0
  pub no_link_lem : support_at graph_b 3 (link 0 4) ≡ 0
  pub above_its_strength : support_at graph_b 4 (link 2 4) ≡ 0
  -- all pairs of five: no more than s − 2; the third account is below, between and above
  pub five_1_3 : answer five (ask_strength 3 1) ≡ passed (two_numbers 5 3)
  pub five_0_1 : answer five (ask_strength 0 1) ≡ passed (two_numbers 5 3)
  pub five_3_4 : answer five (ask_strength 4 3) ≡ passed (two_numbers 5 3)
  -- one group in the other: 0-1 is in three triangles of weight 5, one of 4 and one of 3
  pub nested_0_1 : answer nested (ask_strength 0 1) ≡ passed (two_numbers 5 3)
  pub nested_0_5 : answer nested (ask_strength 5 0) ≡ passed (two_numbers 4 2)
  pub nested_1_6 : answer nested (ask_strength 1 6) ≡ passed (two_numbers 3 1)
  -- more than s − 2; two triangles that share an account only
  pub more_than_least : answer slow (ask_strength 0 4) ≡ passed (two_numbers 3 2)
  pub one_account_shared : answer bow_tie (ask_strength 2 4) ≡ passed (two_numbers 3 1)
  -- the reply: strength, triangles, 0; nothing is written; B's has its one number still
  pub whole_B : ask index_b (ask_strength 3 2) (9 ∷ 9 ∷ []) 1 sevens
      ≡ record { reply = record { refusal = 0; value = 4; second = 2; third = 0 }; buffer = 9 ∷ 9 ∷ []; tallies = 7 ∷ 8 ∷ replicate 30 7 }
  pub whole_weak : ask index_a (ask_strength 3 4) [] 0 sevens ≡ record { reply = record { refusal = 0; value = 2; second = 0; third = 0 }; buffer = []; tallies = 8 ∷ replicate 31 7 }
  pub joined_one : ask index_b (ask_joined 2 3 2 3) [] 0 sevens ≡ record { reply = record { refusal = 0; value = 4; second = 0; third = 0 }; buffer = []; tallies = 8 ∷ replicate 31 7 }

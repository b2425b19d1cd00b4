-- Worked cases of the desk, held by computation: which tally moves and when, every byte of its record, 13 ahead of each other check, a short record after each.
use Rattle.std.specs.Prelude.{◌≡◌, [], ◌∷◌, ◌++◌, ℕ, replicate}
use Rattle.truss.specs.Question.{ask_strength, ask_groups_at, ask_all, ask_links}
use Rattle.truss.specs.Call.{Reply, ask, ask_bytes, done, done_with}
use Rattle.truss.specs.Run.{Seen, Run, own_answered, Asks, AsksBytes}
use Rattle.truss.specs.Windows.{refused_by}
use Rattle.truss.specs.Cards.{index_only, accounts, sevens, index_t}

abbrev seen : ℕ → Reply → Seen
seen w r = record { window = w; reply = r }

pub record DeskCases : Type 0 where
  -- the window's own tally and no other: the first, the last, one between; at the top it rests, and the others go on
  pub window_0 : ask index_t (ask_strength 0 1) [] 0 sevens ≡ record { reply = done_with 3 1; buffer = []; tallies = 8 ∷ replicate 31 7 }
  pub window_1 : ask index_t (ask_strength 0 1) [] 1 sevens ≡ record { reply = done_with 3 1; buffer = []; tallies = 7 ∷ 8 ∷ replicate 30 7 }
  pub window_30 : ask index_t (ask_strength 0 1) [] 30 sevens ≡ record { reply = done_with 3 1; buffer = []; tallies = replicate 30 7 ++ (8 ∷ 7 ∷ []) }
  pub window_31 : ask index_t (ask_strength 0 1) [] 31 sevens ≡ record { reply = done_with 3 1; buffer = []; tallies = replicate 31 7 ++ (8 ∷ []) }
  pub at_rest : ask index_t (ask_strength 0 1) [] 31 (replicate 31 7 ++ (4_294_967_295 ∷ []))
      ≡ record { reply = done_with 3 1; buffer = []; tallies = replicate 31 7 ++ (4_294_967_295 ∷ []) }
  pub beside_rest : ask index_t (ask_strength 0 1) [] 1 (4_294_967_295 ∷ 4_294_967_294 ∷ replicate 30 7)
      ≡ record { reply = done_with 3 1; buffer = []; tallies = 4_294_967_295 ∷ 4_294_967_295 ∷ replicate 30 7 }
  pub refused_stays : ask index_t (ask_strength 0 0) [] 5 sevens ≡ record { reply = refused_by 11; buffer = []; tallies = sevens }
  -- 13: "window above 31", whatever a multiple of 32 takes away from it
  pub window_32 : ask index_t (ask_strength 0 1) (9 ∷ []) 32 sevens ≡ record { reply = refused_by 13; buffer = 9 ∷ []; tallies = sevens }
  pub window_33 : ask index_t (ask_strength 0 1) [] 33 sevens ≡ record { reply = refused_by 13; buffer = []; tallies = sevens }
  pub window_256 : ask index_t (ask_strength 0 1) [] 256 sevens ≡ record { reply = refused_by 13; buffer = []; tallies = sevens }
  pub window_last : ask index_t (ask_strength 0 1) [] 4_294_967_295 sevens ≡ record { reply = refused_by 13; buffer = []; tallies = sevens }
  -- "ahead of all others": 7, 8, 9, 10, 11, 12
  pub before_7 : ask [] (ask_strength 0 1) [] 32 sevens ≡ record { reply = refused_by 13; buffer = []; tallies = sevens }
  pub before_8 : ask index_t (ask_all []) (9 ∷ 9 ∷ []) 32 sevens ≡ record { reply = refused_by 13; buffer = 9 ∷ 9 ∷ []; tallies = sevens }
  pub before_9 : ask index_t (ask_strength 0 3) [] 32 sevens ≡ record { reply = refused_by 13; buffer = []; tallies = sevens }
  pub before_10 : ask index_t (ask_groups_at 1 (accounts (0 ∷ []))) (9 ∷ 9 ∷ []) 32 sevens ≡ record { reply = refused_by 13; buffer = 9 ∷ 9 ∷ []; tallies = sevens }
  pub before_11 : ask index_t (ask_links 3 0 0) (9 ∷ 9 ∷ []) 32 sevens ≡ record { reply = refused_by 13; buffer = 9 ∷ 9 ∷ []; tallies = sevens }
  pub before_12 : ask index_t (ask_all (accounts (2 ∷ []))) [] 32 sevens ≡ record { reply = refused_by 13; buffer = []; tallies = sevens }
  -- as bytes: "four to a tally, high byte first", in window order; the bytes of the others and those beyond stay, also where a tally carries through all its bytes
  pub first_bytes : ask_bytes index_t (ask_strength 0 1) [] 0 (0 ∷ 0 ∷ 0 ∷ 255 ∷ replicate 124 9)
      ≡ record { reply = done_with 3 1; buffer = []; desk = 0 ∷ 0 ∷ 1 ∷ 0 ∷ replicate 124 9 }
  pub second_bytes : ask_bytes index_t (ask_strength 0 1) [] 1 (replicate 4 9 ++ (0 ∷ 255 ∷ 255 ∷ 255 ∷ replicate 121 9))
      ≡ record { reply = done_with 3 1; buffer = []; desk = replicate 4 9 ++ (1 ∷ 0 ∷ 0 ∷ 0 ∷ replicate 121 9) }
  pub last_bytes : ask_bytes index_t (ask_strength 0 1) [] 31 (replicate 124 9 ++ (1 ∷ 255 ∷ 255 ∷ 254 ∷ []))
      ≡ record { reply = done_with 3 1; buffer = []; desk = replicate 124 9 ++ (1 ∷ 255 ∷ 255 ∷ 255 ∷ []) }
  pub bytes_carry : ask_bytes index_t (ask_strength 0 1) [] 5 (replicate 20 255 ++ (254 ∷ 255 ∷ 255 ∷ 255 ∷ replicate 104 255))
      ≡ record { reply = done_with 3 1; buffer = []; desk = replicate 20 255 ++ (255 ∷ 0 ∷ 0 ∷ 0 ∷ replicate 104 255) }
  pub bytes_at_rest : ask_bytes index_t (ask_strength 0 1) [] 5 (replicate 20 0 ++ (replicate 4 255 ++ replicate 108 0))
      ≡ record { reply = done_with 3 1; buffer = []; desk = replicate 20 0 ++ (replicate 4 255 ++ replicate 108 0) }
  pub bytes_beyond : ask_bytes index_t (ask_all (accounts (2 ∷ []))) (replicate 5 9) 31 (replicate 124 9 ++ (0 ∷ 0 ∷ 0 ∷ 7 ∷ 8 ∷ 255 ∷ []))
      ≡ record { reply = done 4; buffer = 0 ∷ 1 ∷ 0 ∷ 0 ∷ 9 ∷ []; desk = replicate 124 9 ++ (0 ∷ 0 ∷ 0 ∷ 8 ∷ 8 ∷ 255 ∷ []) }
  pub bytes_refused : ask_bytes index_t (ask_strength 0 0) [] 0 (replicate 128 7) ≡ record { reply = refused_by 11; buffer = []; desk = replicate 128 7 }
  pub bytes_no_room : ask_bytes index_t (ask_all (accounts (2 ∷ []))) (replicate 3 9) 0 (replicate 128 7)
      ≡ record { reply = refused_by 12; buffer = replicate 3 9; desk = replicate 128 7 }
  -- "too few are 12", though the window's own four are there; after 7, 9 and 11
  pub bytes_127 : ask_bytes index_t (ask_all (accounts (2 ∷ []))) (replicate 4 9) 0 (replicate 127 0)
      ≡ record { reply = refused_by 12; buffer = replicate 4 9; desk = replicate 127 0 }
  pub bytes_none : ask_bytes index_t (ask_strength 0 1) [] 0 [] ≡ record { reply = refused_by 12; buffer = []; desk = [] }
  pub short_after_7 : ask_bytes (index_only 1 ++ (5 ∷ [])) (ask_all []) [] 0 [] ≡ record { reply = refused_by 7; buffer = []; desk = [] }
  pub short_after_8 : ask_bytes index_t (ask_all []) [] 0 [] ≡ record { reply = refused_by 8; buffer = []; desk = [] }
  pub short_after_9 : ask_bytes index_t (ask_strength 0 3) [] 0 [] ≡ record { reply = refused_by 9; buffer = []; desk = [] }
  pub short_after_10 : ask_bytes index_t (ask_groups_at 1 (accounts (0 ∷ []))) [] 0 (replicate 4 7) ≡ record { reply = refused_by 10; buffer = []; desk = replicate 4 7 }
  pub short_after_11 : ask_bytes index_t (ask_strength 0 0) [] 0 (replicate 127 7) ≡ record { reply = refused_by 11; buffer = []; desk = replicate 127 7 }
  -- 13 ahead of 7 and of a short record; a record may be long enough for a window 32, which it has not
  pub bytes_13 : ask_bytes [] (ask_all []) [] 32 [] ≡ record { reply = refused_by 13; buffer = []; desk = [] }
  pub bytes_13_short : ask_bytes index_t (ask_strength 0 1) [] 32 (replicate 127 7) ≡ record { reply = refused_by 13; buffer = []; desk = replicate 127 7 }
  pub bytes_13_no_room : ask_bytes index_t (ask_all (accounts (2 ∷ []))) [] 32 (replicate 128 7) ≡ record { reply = refused_by 13; buffer = []; desk = replicate 128 7 }
  pub bytes_32 : ask_bytes index_t (ask_strength 0 1) [] 32 (replicate 132 7) ≡ record { reply = refused_by 13; buffer = []; desk = replicate 132 7 }
  -- a run: window 1 asks four times and is answered twice, window 0 once between, window 33 is none
  pub interleaved : Run Asks sevens (seen 1 (done_with 3 1) ∷ seen 0 (done_with 3 1) ∷ seen 1 (refused_by 11) ∷ seen 33 (refused_by 13) ∷ seen 1 (refused_by 9) ∷ seen 1 (done_with 3 1) ∷ []) (8 ∷ 9 ∷ replicate 30 7)
  -- the same as bytes: once 127 of them are lent, once all and more than there are; E on no index, with a buffer
  pub interleaved_bytes : Run AsksBytes (replicate 130 0) (seen 1 (done_with 3 1) ∷ seen 0 (done_with 3 1) ∷ seen 1 (refused_by 12) ∷ seen 33 (refused_by 13) ∷ seen 1 (refused_by 7) ∷ seen 1 (done_with 3 1) ∷ []) (0 ∷ 0 ∷ 0 ∷ 1 ∷ 0 ∷ 0 ∷ 0 ∷ 2 ∷ replicate 122 0)
  pub own : own_answered 1 (seen 1 (done_with 3 1) ∷ seen 0 (done_with 3 1) ∷ seen 1 (refused_by 11) ∷ seen 33 (refused_by 13) ∷ seen 1 (refused_by 9) ∷ seen 1 (done_with 3 1) ∷ []) ≡ 2
  pub none_own : own_answered 2 (seen 1 (done_with 3 1) ∷ seen 0 (done_with 3 1) ∷ seen 2 (refused_by 11) ∷ []) ≡ 0

-- Whole calls, held by computation: replies, places, every lent byte, the tallies, and the text of both programs.
use Rattle.std.specs.Prelude.{◌≡◌, [], ◌∷◌, ◌++◌, replicate}
use Rattle.truss.specs.LinksFile.{write_links}
use Rattle.truss.specs.Question.{ask_strength, ask_joined, ask_groups_at, ask_strongest, ask_all, ask_links}
use Rattle.truss.specs.Call.{build, read, ask, done, done_with}
use Rattle.truss.specs.Listing.{decimal, row_text, lister, builder}
use Rattle.truss.specs.Cards.{pair, file, head_only, index_only, accounts, sevens, pairs_a, index_a, index_b, index_t}

pub record WholeCalls : Type 0 where
  -- build: the index over the front of the buffer, the bytes after it stay; 12 only for a buffer that is too short, after 1 to 6
  pub build_tail : build (head_only 1) (9 ∷ 9 ∷ 9 ∷ 9 ∷ 9 ∷ 9 ∷ 9 ∷ []) ≡ record { reply = done 6; buffer = 7 ∷ 0 ∷ 1 ∷ 0 ∷ 0 ∷ 5 ∷ 9 ∷ [] }
  pub build_exact : build (head_only 1) (9 ∷ 9 ∷ 9 ∷ 9 ∷ 9 ∷ 9 ∷ []) ≡ record { reply = done 6; buffer = 7 ∷ 0 ∷ 1 ∷ 0 ∷ 0 ∷ 5 ∷ [] }
  pub build_short : build (head_only 1) (9 ∷ 9 ∷ 9 ∷ 9 ∷ 9 ∷ []) ≡ record { reply = record { refusal = 12; value = 0; second = 0; third = 0 }; buffer = 9 ∷ 9 ∷ 9 ∷ 9 ∷ 9 ∷ [] }
  pub build_refused : build (file 5 1 (pair 3 3 ∷ []) (5 ∷ [])) (9 ∷ []) ≡ record { reply = record { refusal = 5; value = 5; second = 0; third = 0 }; buffer = 9 ∷ [] }
  pub build_A : (build (write_links 5 pairs_a) (index_a ++ (9 ∷ []))).reply ≡ done 90
  -- read: 7 only for bytes that are no index, 12 after it
  pub read_tail : read (index_only 1) (9 ∷ 9 ∷ 9 ∷ 9 ∷ 9 ∷ 9 ∷ 9 ∷ []) ≡ record { reply = done 6; buffer = 1 ∷ 0 ∷ 1 ∷ 0 ∷ 0 ∷ 5 ∷ 9 ∷ [] }
  pub read_A : (read index_a index_a).reply ≡ done 36
  pub read_triangle : read index_t (replicate 22 9)
      ≡ record {
        reply = done 21;
        buffer = 1 ∷ 0 ∷ 3 ∷ 0 ∷ 3 ∷ 6 ∷ 0 ∷ 0 ∷ 0 ∷ 1 ∷ 6 ∷ 0 ∷ 0 ∷ 0 ∷ 2 ∷ 6 ∷ 0 ∷ 1 ∷ 0 ∷ 2 ∷ 5 ∷ 9 ∷ [];
      }
  pub read_short : read (index_only 1) (9 ∷ []) ≡ record { reply = record { refusal = 12; value = 0; second = 0; third = 0 }; buffer = 9 ∷ [] }
  pub read_refused : read (index_only 1 ++ (5 ∷ [])) (9 ∷ []) ≡ record { reply = record { refusal = 7; value = 0; second = 0; third = 0 }; buffer = 9 ∷ [] }
  pub read_links_file : read (write_links 5 pairs_a) [] ≡ record { reply = record { refusal = 7; value = 0; second = 0; third = 0 }; buffer = [] }
  -- a question: the reply, the answer buffer, the tallies (more of them: DeskCases)
  pub counted : ask index_t (ask_strength 1 0) (9 ∷ []) 0 sevens ≡ record { reply = done_with 3 1; buffer = 9 ∷ []; tallies = 8 ∷ replicate 31 7 }
  pub at_rest : ask index_t (ask_strength 1 0) [] 0 (4_294_967_295 ∷ replicate 31 7) ≡ record { reply = done_with 3 1; buffer = []; tallies = 4_294_967_295 ∷ replicate 31 7 }
  pub last_counted : ask index_t (ask_strength 1 0) [] 0 (4_294_967_294 ∷ replicate 31 7) ≡ record { reply = done_with 3 1; buffer = []; tallies = 4_294_967_295 ∷ replicate 31 7 }
  pub refused_not_counted : ask index_t (ask_strength 0 3) (9 ∷ []) 0 sevens
      ≡ record { reply = record { refusal = 9; value = 0; second = 0; third = 0 }; buffer = 9 ∷ []; tallies = sevens }
  pub no_index_first : ask (index_only 1 ++ (5 ∷ [])) (ask_all []) [] 0 sevens ≡ record { reply = record { refusal = 7; value = 0; second = 0; third = 0 }; buffer = []; tallies = sevens }
  pub list_written : ask index_t (ask_all (accounts (2 ∷ []))) (9 ∷ 9 ∷ 9 ∷ 9 ∷ 9 ∷ []) 0 sevens ≡ record { reply = done 4; buffer = 0 ∷ 1 ∷ 0 ∷ 0 ∷ 9 ∷ []; tallies = 8 ∷ replicate 31 7 }
  pub list_exact : ask index_t (ask_strongest (accounts (2 ∷ []))) (9 ∷ 9 ∷ 9 ∷ 9 ∷ []) 0 sevens ≡ record { reply = done 4; buffer = 0 ∷ 1 ∷ 0 ∷ 0 ∷ []; tallies = 8 ∷ replicate 31 7 }
  pub list_short : ask index_t (ask_all (accounts (2 ∷ []))) (9 ∷ 9 ∷ 9 ∷ []) 0 sevens
      ≡ record { reply = record { refusal = 12; value = 0; second = 0; third = 0 }; buffer = 9 ∷ 9 ∷ 9 ∷ []; tallies = sevens }
  pub empty_list : ask index_t (ask_links 4 0 1) (9 ∷ 9 ∷ 9 ∷ []) 0 sevens ≡ record { reply = done 2; buffer = 0 ∷ 0 ∷ 9 ∷ []; tallies = 8 ∷ replicate 31 7 }
  pub level_before_room : ask index_t (ask_links 1 0 1) [] 0 sevens ≡ record { reply = record { refusal = 10; value = 0; second = 0; third = 0 }; buffer = []; tallies = sevens }
  pub C_level_before_room : ask index_t (ask_groups_at 1 (accounts (0 ∷ []))) [] 0 sevens ≡ record { reply = record { refusal = 10; value = 0; second = 0; third = 0 }; buffer = []; tallies = sevens }
  pub count_before_room : ask index_t (ask_strongest []) (9 ∷ []) 0 sevens ≡ record { reply = record { refusal = 8; value = 0; second = 0; third = 0 }; buffer = 9 ∷ []; tallies = sevens }
  pub account_before_room : ask index_t (ask_all (accounts (3 ∷ []))) [] 0 sevens ≡ record { reply = record { refusal = 9; value = 0; second = 0; third = 0 }; buffer = []; tallies = sevens }
  pub link_before_room : ask index_t (ask_links 3 0 0) [] 0 sevens ≡ record { reply = record { refusal = 11; value = 0; second = 0; third = 0 }; buffer = []; tallies = sevens }
  pub B_3_at_4 : ask index_b (ask_groups_at 4 (accounts (3 ∷ []))) (9 ∷ 9 ∷ 9 ∷ 9 ∷ 9 ∷ 9 ∷ 9 ∷ []) 0 sevens
      ≡ record { reply = done 6; buffer = 0 ∷ 2 ∷ 0 ∷ 0 ∷ 0 ∷ 1 ∷ 9 ∷ []; tallies = 8 ∷ replicate 31 7 }
  pub B_2_3_and_3_4 : ask index_b (ask_joined 3 2 4 3) [] 0 sevens ≡ record { reply = done 3; buffer = []; tallies = 8 ∷ replicate 31 7 }
  -- the programs' text: `refused 7`, `groups 0`, `refused 5 5`, `refused 4 10`; numbers of one to ten digits
  pub lister_refused : lister [] ≡ 0x72 ∷ 0x65 ∷ 0x66 ∷ 0x75 ∷ 0x73 ∷ 0x65 ∷ 0x64 ∷ 0x20 ∷ 0x37 ∷ 0x0A ∷ []
  pub lister_no_groups : lister (index_only 1) ≡ 0x67 ∷ 0x72 ∷ 0x6F ∷ 0x75 ∷ 0x70 ∷ 0x73 ∷ 0x20 ∷ 0x30 ∷ 0x0A ∷ []
  pub builder_A : builder (write_links 5 pairs_a) ≡ index_a
  pub builder_refused : builder (file 5 1 (pair 3 3 ∷ []) (5 ∷ [])) ≡ 0x72 ∷ 0x65 ∷ 0x66 ∷ 0x75 ∷ 0x73 ∷ 0x65 ∷ 0x64 ∷ 0x20 ∷ 0x35 ∷ 0x20 ∷ 0x35 ∷ 0x0A ∷ []
  pub builder_number_place : builder (file 5 2 (pair 0 1 ∷ pair 4 5 ∷ []) (5 ∷ [])) ≡ 0x72 ∷ 0x65 ∷ 0x66 ∷ 0x75 ∷ 0x73 ∷ 0x65 ∷ 0x64 ∷ 0x20 ∷ 0x34 ∷ 0x20 ∷ 0x31 ∷ 0x30 ∷ 0x0A ∷ []
  pub number_0 : decimal 0 ≡ 0x30 ∷ []
  pub number_10 : decimal 10 ≡ 0x31 ∷ 0x30 ∷ []
  pub number_100 : decimal 100 ≡ 0x31 ∷ 0x30 ∷ 0x30 ∷ []
  pub number_9876 : decimal 9876 ≡ 0x39 ∷ 0x38 ∷ 0x37 ∷ 0x36 ∷ []
  pub number_longest : decimal 4_294_967_295 ≡ 0x34 ∷ 0x32 ∷ 0x39 ∷ 0x34 ∷ 0x39 ∷ 0x36 ∷ 0x37 ∷ 0x32 ∷ 0x39 ∷ 0x35 ∷ []
  pub row_text_lem : row_text 205 (record { strength = 64; parent = 206; links = 2016; accounts = 63; lo = 1022; hi = 1023 })
      ≡ 0x32 ∷ 0x30 ∷ 0x35 ∷ 0x20 ∷ 0x36 ∷ 0x34 ∷ 0x20 ∷ 0x32 ∷ 0x30 ∷ 0x36 ∷ 0x20 ∷ 0x32 ∷ 0x30 ∷ 0x31 ∷ 0x36 ∷ 0x20 ∷ 0x36 ∷ 0x33 ∷ 0x20 ∷ 0x31 ∷ 0x30 ∷ 0x32 ∷ 0x32 ∷ 0x20 ∷ 0x31 ∷ 0x30 ∷ 0x32 ∷ 0x33 ∷ 0x0A ∷ []

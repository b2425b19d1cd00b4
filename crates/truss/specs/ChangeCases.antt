-- Links that come and go, held by computation: replies, every byte of the second buffer, each order of checks, and a sequence of changes.
use Rattle.std.specs.Prelude.{◌≡◌, true, false, [], ◌∷◌, ◌++◌, ◌-◌, replicate}
use Rattle.truss.specs.Limits.{max_links}
use Rattle.truss.specs.Graph.{Graph, link, graph_of, member}
use Rattle.truss.specs.Refusal.{passed, refuse}
use Rattle.truss.specs.LinksFile.{write_links}
use Rattle.truss.specs.Index.{index_bytes}
use Rattle.truss.specs.Call.{done}
use Rattle.truss.specs.Change.{put_in, withdraw, with_link, without_link, altered, change}
use Rattle.truss.specs.Windows.{refused_by}
use Rattle.truss.specs.Changes.{moved, Changes, Changed}
use Rattle.truss.specs.Cards.{pair, index_only, pairs_a, graph_a, index_a, index_t}

-- as many links as there may be, and one fewer; of no file, since they are all the same link
unfoldable pub full : Graph
full = record { n = 3; links = replicate max_links (link 0 1) }

unfoldable pub one_fewer : Graph
one_fewer = record { n = 3; links = replicate (max_links - 1) (link 0 1) }

pub record ChangeCases : Type 0 where
  -- put in: the index of the altered links over the front of the buffer, the bytes after it stay; the accounts in either order; in its place, first, between and last
  pub put_first : change (put_in 1 0) (index_only 3) (replicate 21 9)
      ≡ record { reply = done 20; buffer = 7 ∷ 0 ∷ 3 ∷ 0 ∷ 1 ∷ 2 ∷ 0 ∷ 0 ∷ 0 ∷ 1 ∷ 2 ∷ 0 ∷ 0 ∷ 4 ∷ 255 ∷ 255 ∷ 2 ∷ 0 ∷ 0 ∷ 5 ∷ 9 ∷ [] }
  pub put_exact : change (put_in 0 1) (index_only 3) (replicate 20 9)
      ≡ record { reply = done 20; buffer = 7 ∷ 0 ∷ 3 ∷ 0 ∷ 1 ∷ 2 ∷ 0 ∷ 0 ∷ 0 ∷ 1 ∷ 2 ∷ 0 ∷ 0 ∷ 4 ∷ 255 ∷ 255 ∷ 2 ∷ 0 ∷ 0 ∷ 5 ∷ [] }
  pub put_between : change (put_in 3 0) index_a (replicate 104 9) ≡ record { reply = done 104; buffer = index_bytes (graph_of 5 (pair 3 0 ∷ pairs_a)) }
  pub put_before : with_link (without_link graph_a (link 0 1)) (link 0 1) ≡ graph_a
  pub put_after : with_link (without_link graph_a (link 3 4)) (link 4 3) ≡ graph_a
  pub put_lower_tied : (with_link graph_a (link 4 1)).links ≡ link 0 1 ∷ link 0 2 ∷ link 1 2 ∷ link 1 3 ∷ link 1 4 ∷ link 2 3 ∷ link 3 4 ∷ []
  -- withdrawn: the others stay in their order
  pub withdraw_A : change (withdraw 2 1) index_a (replicate 77 9)
      ≡ record { reply = done 76; buffer = index_bytes (graph_of 5 (pair 0 1 ∷ pair 0 2 ∷ pair 1 3 ∷ pair 2 3 ∷ pair 3 4 ∷ [])) ++ (9 ∷ []) }
  pub withdraw_first : (without_link graph_a (link 1 0)).links ≡ link 0 2 ∷ link 1 2 ∷ link 1 3 ∷ link 2 3 ∷ link 3 4 ∷ []
  pub withdraw_end : (without_link graph_a (link 4 3)).links ≡ link 0 1 ∷ link 0 2 ∷ link 1 2 ∷ link 1 3 ∷ link 2 3 ∷ []
  pub withdraw_last : change (withdraw 0 1) (index_bytes (graph_of 3 (pair 0 1 ∷ []))) (replicate 7 9) ≡ record { reply = done 6; buffer = index_only 3 ++ (9 ∷ []) }
  pub put_and_withdraw : change (withdraw 0 3) (index_bytes (graph_of 5 (pair 3 0 ∷ pairs_a))) (replicate 90 9) ≡ record { reply = done 90; buffer = index_a }
  -- put in: 7, 9, 5, 14, 3, 12; both buffers stay
  pub put_no_index : change (put_in 9 9) [] (9 ∷ []) ≡ record { reply = refused_by 7; buffer = 9 ∷ [] }
  pub put_links_file : change (put_in 0 3) (write_links 5 pairs_a) (replicate 104 9) ≡ record { reply = refused_by 7; buffer = replicate 104 9 }
  pub put_longer : change (put_in 0 3) (index_a ++ (5 ∷ [])) (replicate 104 9) ≡ record { reply = refused_by 7; buffer = replicate 104 9 }
  pub put_outside : change (put_in 3 3) index_t (9 ∷ []) ≡ record { reply = refused_by 9; buffer = 9 ∷ [] }
  pub put_outside_first : change (put_in 3 0) index_t [] ≡ record { reply = refused_by 9; buffer = [] }
  pub put_outside_second : change (put_in 0 3) index_t (replicate 104 9) ≡ record { reply = refused_by 9; buffer = replicate 104 9 }
  pub put_far_outside : change (put_in 4_294_967_295 0) index_t [] ≡ record { reply = refused_by 9; buffer = [] }
  pub put_equal : change (put_in 2 2) index_t (9 ∷ []) ≡ record { reply = refused_by 5; buffer = 9 ∷ [] }
  pub put_equal_with_room : change (put_in 0 0) index_t (replicate 104 9) ≡ record { reply = refused_by 5; buffer = replicate 104 9 }
  pub put_again : change (put_in 2 0) index_t (9 ∷ []) ≡ record { reply = refused_by 14; buffer = 9 ∷ [] }
  pub put_again_with_room : change (put_in 0 2) index_t (replicate 104 9) ≡ record { reply = refused_by 14; buffer = replicate 104 9 }
  pub put_short : change (put_in 3 0) index_a (replicate 103 9) ≡ record { reply = refused_by 12; buffer = replicate 103 9 }
  pub equal_and_there : altered (put_in 1 1) (record { n = 3; links = link 1 1 ∷ [] }) ≡ refuse 5 0
  pub full_outside : altered (put_in 3 0) full ≡ refuse 9 0
  pub full_equal : altered (put_in 2 2) full ≡ refuse 5 0
  pub full_again : altered (put_in 1 0) full ≡ refuse 14 0
  pub full_other : altered (put_in 0 2) full ≡ refuse 3 0
  pub room_for_one : altered (put_in 0 2) one_fewer ≡ passed (record { n = 3; links = replicate (max_links - 1) (link 0 1) ++ (link 0 2 ∷ []) })
  -- withdraw: 7, 9, 11, 12; "a withdrawn link must exist", which none with equal ends does
  pub withdraw_no_index : change (withdraw 9 0) (index_only 0) [] ≡ record { reply = refused_by 7; buffer = [] }
  pub withdraw_outside : change (withdraw 3 3) index_t [] ≡ record { reply = refused_by 9; buffer = [] }
  pub withdraw_outside_first : change (withdraw 3 0) index_t (9 ∷ []) ≡ record { reply = refused_by 9; buffer = 9 ∷ [] }
  pub withdraw_outside_second : change (withdraw 0 3) index_t (replicate 104 9) ≡ record { reply = refused_by 9; buffer = replicate 104 9 }
  pub withdraw_equal : change (withdraw 2 2) index_t [] ≡ record { reply = refused_by 11; buffer = [] }
  pub withdraw_none : change (withdraw 4 0) index_a (replicate 104 9) ≡ record { reply = refused_by 11; buffer = replicate 104 9 }
  pub withdraw_none_short : change (withdraw 0 4) index_a (9 ∷ []) ≡ record { reply = refused_by 11; buffer = 9 ∷ [] }
  pub withdraw_short : change (withdraw 2 1) index_a (replicate 75 9) ≡ record { reply = refused_by 12; buffer = replicate 75 9 }
  pub withdraw_full : altered (withdraw 2 1) full ≡ refuse 11 0
  -- what a plain set holds after a change
  pub set_put : moved (put_in 3 0) (member graph_a.links) (link 0 3) ≡ true
  pub set_put_others : moved (put_in 3 0) (member graph_a.links) (link 3 4) ≡ true
  pub set_put_no_more : moved (put_in 3 0) (member graph_a.links) (link 0 4) ≡ false
  pub set_withdrawn : moved (withdraw 2 0) (member graph_a.links) (link 0 2) ≡ false
  pub set_withdrawn_others : moved (withdraw 2 0) (member graph_a.links) (link 1 2) ≡ true
  -- a sequence: changes refused by 14, 12 and 11 move nothing; down to no links and up again
  pub sequence : Changes Changed (index_only 3) (member []) (index_bytes (graph_of 3 (pair 0 2 ∷ []))) (moved (put_in 2 0) (moved (withdraw 0 1) (moved (put_in 1 0) (member []))))

-- Worked cases of lone links, held by computation: their groups, what the questions answer with them, and the two heads. B of 3-4 of card A with itself and the card's 90 bytes stand in Cases, links put in
-- and withdrawn in ChangeCases, the limits of k in Figures.
use Rattle.std.specs.Prelude.{◌≡◌, [], ◌∷◌, ◌++◌, take, drop, replicate}
use Rattle.truss.specs.Limits.{no_group}
use Rattle.truss.specs.Group.{groups}
use Rattle.truss.specs.Refusal.{passed, refuse}
use Rattle.truss.specs.LinksFile.{write_links}
use Rattle.truss.specs.Index.{index, index_bytes}
use Rattle.truss.specs.IndexFile.{read_index}
use Rattle.truss.specs.Question.{answer, ask_strength, ask_joined, ask_groups_at, ask_strongest, ask_all, ask_links, ask_chain, number, numbers, chain}
use Rattle.truss.specs.Call.{done, build, read, ask, ask_bytes}
use Rattle.truss.specs.Change.{put_in, withdraw, change}
use Rattle.truss.specs.Windows.{refused_by}
use Rattle.truss.specs.Listing.{rows, lister, builder}
use Rattle.truss.specs.Cards.{corners, head_only, accounts, sevens, pairs_a, graph_a, index_a, five, nested, three_lone, lone_first}

pub record LoneCases : Type 0 where
  -- a group each, though they share an account, by link; after all others, though the link is the first
  pub lone_A : groups graph_a ≡ record { strength = 3; members = 0 ∷ 1 ∷ 2 ∷ 3 ∷ 4 ∷ [] } ∷ record { strength = 2; members = 5 ∷ [] } ∷ []
  pub lone_apart : groups three_lone ≡ record { strength = 2; members = 0 ∷ [] } ∷ record { strength = 2; members = 1 ∷ [] } ∷ record { strength = 2; members = 2 ∷ [] } ∷ []
  pub lone_last : groups lone_first ≡ record { strength = 3; members = 1 ∷ 2 ∷ 3 ∷ [] } ∷ record { strength = 2; members = 0 ∷ [] } ∷ []
  pub lone_named : (index lone_first).links
      ≡ record { lo = 0; hi = 1; strength = 2; group = 1 } ∷ record { lo = 1; hi = 2; strength = 3; group = 0 } ∷ record { lo = 1; hi = 3; strength = 3; group = 0 }
      ∷ record { lo = 2; hi = 3; strength = 3; group = 0 } ∷ []
  pub lone_written : index_bytes three_lone
      ≡ 7 ∷ 0 ∷ 5 ∷ 0 ∷ 3
      ∷ 2 ∷ 0 ∷ 0 ∷ 0 ∷ 1 ∷ 2 ∷ 0 ∷ 0
      ∷ 2 ∷ 0 ∷ 1 ∷ 0 ∷ 2 ∷ 2 ∷ 0 ∷ 1
      ∷ 2 ∷ 0 ∷ 3 ∷ 0 ∷ 4 ∷ 2 ∷ 0 ∷ 2
      ∷ 4 ∷ 255 ∷ 255 ∷ 2 ∷ 0 ∷ 0
      ∷ 4 ∷ 255 ∷ 255 ∷ 2 ∷ 0 ∷ 1
      ∷ 4 ∷ 255 ∷ 255 ∷ 2 ∷ 0 ∷ 2
      ∷ 5 ∷ []
  -- the lister: `groups 2`, `0 3 - 5 4 0 1`, `1 2 - 1 2 3 4`
  pub lone_rows : rows graph_a
      ≡ record { strength = 3; parent = no_group; links = 5; accounts = 4; lo = 0; hi = 1 } ∷ record { strength = 2; parent = no_group; links = 1; accounts = 2; lo = 3; hi = 4 } ∷ []
  pub lone_lister : lister index_a
      ≡ 0x67 ∷ 0x72 ∷ 0x6F ∷ 0x75 ∷ 0x70 ∷ 0x73 ∷ 0x20 ∷ 0x32 ∷ 0x0A
      ∷ 0x30 ∷ 0x20 ∷ 0x33 ∷ 0x20 ∷ 0x2D ∷ 0x20 ∷ 0x35 ∷ 0x20 ∷ 0x34 ∷ 0x20 ∷ 0x30 ∷ 0x20 ∷ 0x31 ∷ 0x0A
      ∷ 0x31 ∷ 0x20 ∷ 0x32 ∷ 0x20 ∷ 0x2D ∷ 0x20 ∷ 0x31 ∷ 0x20 ∷ 0x32 ∷ 0x20 ∷ 0x33 ∷ 0x20 ∷ 0x34 ∷ 0x0A ∷ []
  -- B: a lone link and another, lone links that share an account, one with itself
  pub lone_B_other : answer graph_a (ask_joined 3 4 2 3) ≡ passed (number 0)
  pub lone_B_apart : answer three_lone (ask_joined 0 1 1 2) ≡ passed (number 0)
  pub lone_B_itself : answer three_lone (ask_joined 2 1 1 2) ≡ passed (number 2)
  -- C: at 2 the groups at 3 too, of nested ones the outermost; at 3 no lone link; D: the strongest, or all lone links of the account; E: both
  pub lone_C : answer graph_a (ask_groups_at 2 (accounts (3 ∷ []))) ≡ passed (numbers (0 ∷ 1 ∷ []))
  pub lone_C_alone : answer graph_a (ask_groups_at 2 (accounts (4 ∷ 3 ∷ []))) ≡ passed (numbers (1 ∷ []))
  pub lone_C_at_3 : answer graph_a (ask_groups_at 3 (accounts (4 ∷ []))) ≡ passed (numbers [])
  pub lone_C_apart : answer three_lone (ask_groups_at 2 (accounts (1 ∷ []))) ≡ passed (numbers (0 ∷ 1 ∷ []))
  pub lone_C_none : answer three_lone (ask_groups_at 2 (accounts (0 ∷ 2 ∷ []))) ≡ passed (numbers [])
  pub five_at_2 : answer five (ask_groups_at 2 (accounts (0 ∷ 1 ∷ 2 ∷ 3 ∷ 4 ∷ []))) ≡ passed (numbers (0 ∷ []))
  pub nested_at_2 : answer nested (ask_groups_at 2 (accounts (0 ∷ []))) ≡ passed (numbers (2 ∷ []))
  pub lone_D : answer graph_a (ask_strongest (accounts (4 ∷ []))) ≡ passed (numbers (1 ∷ []))
  pub lone_D_not : answer graph_a (ask_strongest (accounts (3 ∷ []))) ≡ passed (numbers (0 ∷ []))
  pub lone_D_both : answer three_lone (ask_strongest (accounts (1 ∷ []))) ≡ passed (numbers (0 ∷ 1 ∷ []))
  pub lone_E : answer graph_a (ask_all (accounts (3 ∷ []))) ≡ passed (numbers (0 ∷ 1 ∷ []))
  pub lone_E_alone : answer graph_a (ask_all (accounts (4 ∷ 3 ∷ []))) ≡ passed (numbers (1 ∷ []))
  pub lone_E_last : answer lone_first (ask_all (accounts (1 ∷ []))) ≡ passed (numbers (0 ∷ 1 ∷ []))
  -- F: the lone link at 2, nothing at 3; of another link its group at 3
  pub lone_F : answer graph_a (ask_links 2 3 4) ≡ passed (numbers (5 ∷ []))
  pub lone_F_at_3 : answer graph_a (ask_links 3 3 4) ≡ passed (numbers [])
  pub F_at_2 : answer graph_a (ask_links 2 0 1) ≡ passed (numbers (0 ∷ 1 ∷ 2 ∷ 3 ∷ 4 ∷ []))
  -- G: no chain for a lone link, with itself neither; between others at 2 as at 3, and one triangle for a link with itself
  pub lone_G : answer graph_a (ask_chain 2 3 4 3 4) ≡ passed (chain [])
  pub lone_G_other : answer graph_a (ask_chain 2 3 4 3 2) ≡ passed (chain [])
  pub lone_G_apart : answer three_lone (ask_chain 2 0 1 1 2) ≡ passed (chain [])
  pub G_at_2 : answer graph_a (ask_chain 2 0 1 3 2) ≡ passed (chain (corners 0 1 2 ∷ corners 1 2 3 ∷ []))
  pub G_itself_at_2 : answer graph_a (ask_chain 2 1 2 1 2) ≡ passed (chain (corners 0 1 2 ∷ []))
  -- an index that begins with kind 1 meets 7 in every call, with links and without; so does one whose lone link names no group, whose lone group has a parent, or whose lone link is in the group of another
  pub kind_1_head : read_index (1 ∷ drop 1 index_a) ≡ refuse 7 0
  pub kind_1_read : read (head_only 1) (replicate 6 9) ≡ record { reply = refused_by 7; buffer = replicate 6 9 }
  pub kind_1_asked : ask (1 ∷ drop 1 index_a) (ask_strength 0 1) [] 0 sevens ≡ record { reply = refused_by 7; buffer = []; tallies = sevens }
  pub kind_1_put : change (put_in 0 3) (1 ∷ drop 1 index_a) (replicate 104 9) ≡ record { reply = refused_by 7; buffer = replicate 104 9 }
  pub kind_1_withdrawn : change (withdraw 0 1) (1 ∷ drop 1 index_a) (replicate 104 9) ≡ record { reply = refused_by 7; buffer = replicate 104 9 }
  pub kind_1_listed : lister (head_only 1) ≡ 0x72 ∷ 0x65 ∷ 0x66 ∷ 0x75 ∷ 0x73 ∷ 0x65 ∷ 0x64 ∷ 0x20 ∷ 0x37 ∷ 0x0A ∷ []
  pub lone_no_group : read_index (take 51 index_a ++ (255 ∷ 255 ∷ drop 53 index_a)) ≡ refuse 7 0
  pub lone_parent : read_index (take 84 index_a ++ (0 ∷ 0 ∷ drop 86 index_a)) ≡ refuse 7 0
  pub lone_in_other : read_index (take 51 index_a ++ (0 ∷ 0 ∷ drop 53 index_a)) ≡ refuse 7 0
  -- a links file that begins with kind 7: 1 at 0, in a build and in the builder; one read back begins with kind 1
  pub kind_7_built : build (7 ∷ drop 1 (write_links 5 pairs_a)) (replicate 90 9) ≡ record { reply = refused_by 1; buffer = replicate 90 9 }
  pub kind_7_builder : builder (7 ∷ drop 1 (write_links 5 pairs_a)) ≡ 0x72 ∷ 0x65 ∷ 0x66 ∷ 0x75 ∷ 0x73 ∷ 0x65 ∷ 0x64 ∷ 0x20 ∷ 0x31 ∷ 0x20 ∷ 0x30 ∷ 0x0A ∷ []
  pub read_A : read index_a (replicate 36 9) ≡ record { reply = done 36; buffer = write_links 5 pairs_a }
  -- the two groups of account 3 at 2: 12 in five bytes, six are enough
  pub lone_short : ask index_a (ask_groups_at 2 (accounts (3 ∷ []))) (replicate 5 9) 0 sevens ≡ record { reply = refused_by 12; buffer = replicate 5 9; tallies = sevens }
  pub lone_exact : ask_bytes index_a (ask_groups_at 2 (accounts (3 ∷ []))) (replicate 6 9) 0 (replicate 128 7)
      ≡ record { reply = done 6; buffer = 0 ∷ 2 ∷ 0 ∷ 0 ∷ 0 ∷ 1 ∷ []; desk = 7 ∷ 7 ∷ 7 ∷ 8 ∷ replicate 124 7 }

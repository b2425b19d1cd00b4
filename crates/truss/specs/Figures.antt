-- The figures of documents 01 and 02, each as they print it, and the cases at either side of a limit. No case of another file depends on the limit
-- of links, the greatest strength or the limit of index bytes.
use Rattle.std.specs.Prelude.{◌≡◌, [], ◌∷◌}
use Rattle.truss.specs.Limits.{max_accounts, max_links, min_strength, max_strength, min_level, max_level, max_named, no_group, max_index_bytes, max_chain_bytes, max_tally, tally_length, windows, desk_length, max_records, min_stake, max_stake, max_limit, record_length, margin_length}
use Rattle.truss.specs.Refusal.{passed, refuse}
use Rattle.truss.specs.LinksFile.{accepted, read_links}
use Rattle.truss.specs.Question.{answer, ask_groups_at, ask_links, ask_chain, numbers, chain}
use Rattle.truss.specs.Bets.{check_day}
use Rattle.truss.specs.Cards.{corners, file, head_only, accounts, triangle}

pub record Figures : Type 0 where
  -- "n is 1 to 1,024, m is 0 to 2,048"
  pub accounts_are : max_accounts ≡ 1024
  pub links_are : max_links ≡ 2048
  -- "A strength runs from 2 to 64"; "k may be 2"; "refusal 10 means below 2 or above 64"
  pub least_strength : min_strength ≡ 2
  pub greatest_strength : max_strength ≡ 64
  pub least_level : min_level ≡ 2
  pub greatest_level : max_level ≡ 64
  -- "One to 16 accounts are named"; "FFFF for none"; "at most 40,960 bytes"; "resting at 4,294,967,295"; "four to a tally"
  pub named_are : max_named ≡ 16
  pub no_group_lem : no_group ≡ 65535
  pub index_bytes_lem : max_index_bytes ≡ 40960
  pub chain_bytes : max_chain_bytes ≡ 6140
  pub tally_rests : max_tally ≡ 4_294_967_295
  pub tally_bytes_lem : tally_length ≡ 4
  -- "The record now holds 32 tallies"; as bytes, "four to a tally"
  pub windows_are : windows ≡ 32
  pub desk_bytes : desk_length ≡ 128
  -- "at most 4,096"; "stake from 1 to 1,000,000 pence"; "0 to 1,000,000,000 pence"; from C nine bytes to a record, eight to a margin (cases at either side: BetsCases)
  pub records_are : max_records ≡ 4096
  pub least_stake : min_stake ≡ 1
  pub greatest_stake : max_stake ≡ 1_000_000
  pub greatest_limit : max_limit ≡ 1_000_000_000
  pub record_bytes : record_length ≡ 9
  pub margin_bytes_lem : margin_length ≡ 8
  -- n = 1,024 is taken (1,025: Cases)
  pub most_accounts : read_links (head_only 1024) ≡ accepted 1024 []
  -- "m = 2,048 is taken, 2,049 is 3": a head alone, so the first link is missed
  pub most_links : read_links (file 5 2048 [] []) ≡ refuse 1 5
  pub too_many_links : read_links (file 5 2049 [] []) ≡ refuse 3 0
  -- "k = 2 and 65 are 10, 3 and 64 pass", where now 1 is 10 and 2 passes
  pub C_level_1 : answer triangle (ask_groups_at 1 (accounts (0 ∷ []))) ≡ refuse 10 0
  pub C_level_2 : answer triangle (ask_groups_at 2 (accounts (0 ∷ []))) ≡ passed (numbers (0 ∷ []))
  pub C_level_64 : answer triangle (ask_groups_at 64 (accounts (0 ∷ []))) ≡ passed (numbers [])
  pub C_level_65 : answer triangle (ask_groups_at 65 (accounts (0 ∷ []))) ≡ refuse 10 0
  pub F_level_1 : answer triangle (ask_links 1 0 1) ≡ refuse 10 0
  pub F_level_2 : answer triangle (ask_links 2 1 0) ≡ passed (numbers (0 ∷ 1 ∷ 2 ∷ []))
  pub F_level_64 : answer triangle (ask_links 64 0 1) ≡ passed (numbers [])
  pub F_level_65 : answer triangle (ask_links 65 0 1) ≡ refuse 10 0
  pub G_level_1 : answer triangle (ask_chain 1 0 1 1 2) ≡ refuse 10 0
  pub G_level_2 : answer triangle (ask_chain 2 0 1 1 2) ≡ passed (chain (corners 0 1 2 ∷ []))
  pub G_level_64 : answer triangle (ask_chain 64 0 1 1 2) ≡ passed (chain [])
  pub G_level_65 : answer triangle (ask_chain 65 0 1 1 2) ≡ refuse 10 0
  -- and of a limit tried on bets (1 and 2: BetsCases)
  pub bets_level_64 : check_day triangle 64 7 [] ≡ passed (record { taken = []; margins = [] })
  pub bets_level_65 : check_day triangle 65 7 [] ≡ refuse 10 0

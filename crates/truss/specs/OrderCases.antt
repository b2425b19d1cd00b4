-- Worked cases of the order in which C, D and E list groups, held by computation. "Card B answers E on {3} with 0, 1, 2 still" is `all_of_3` of Cases. The orders of the checks
-- stand in Cases, WholeCalls and DeskCases.
use Rattle.std.specs.Prelude.{◌≡◌, [], ◌∷◌}
use Rattle.truss.specs.Limits.{no_group}
use Rattle.truss.specs.Group.{groups}
use Rattle.truss.specs.Refusal.{passed}
use Rattle.truss.specs.Question.{answer, ask_groups_at, ask_strongest, ask_all, ask_links, numbers, all_holding}
use Rattle.truss.specs.Call.{answer_bytes}
use Rattle.truss.specs.Listing.{rows}
use Rattle.truss.specs.Cards.{accounts, two_sizes, strong_and_large, larger_by_nested, more_links, fan}

pub record OrderCases : Type 0 where
  -- of equally strong groups the larger first, in each question; D gives the smaller too
  pub larger_C : answer two_sizes (ask_groups_at 3 (accounts (2 ∷ []))) ≡ passed (numbers (1 ∷ 0 ∷ []))
  pub larger_D : answer two_sizes (ask_strongest (accounts (2 ∷ []))) ≡ passed (numbers (1 ∷ 0 ∷ []))
  pub larger_E : answer two_sizes (ask_all (accounts (2 ∷ []))) ≡ passed (numbers (1 ∷ 0 ∷ []))
  pub larger_written : answer_bytes (numbers (1 ∷ 0 ∷ [])) ≡ 0 ∷ 2 ∷ 0 ∷ 1 ∷ 0 ∷ 0 ∷ []
  -- the stronger first, though it is the smaller: in C by the stored strength, and not by k, which is 3 for both
  pub stronger_C : answer strong_and_large (ask_groups_at 3 (accounts (3 ∷ []))) ≡ passed (numbers (0 ∷ 1 ∷ []))
  pub stronger_E : answer strong_and_large (ask_all (accounts (3 ∷ []))) ≡ passed (numbers (0 ∷ 1 ∷ []))
  -- accounts of nested groups count
  pub nested_C : answer larger_by_nested (ask_groups_at 3 (accounts (3 ∷ []))) ≡ passed (numbers (2 ∷ 1 ∷ []))
  pub nested_D : answer larger_by_nested (ask_strongest (accounts (3 ∷ []))) ≡ passed (numbers (2 ∷ 1 ∷ []))
  pub nested_E : answer larger_by_nested (ask_all (accounts (3 ∷ []))) ≡ passed (numbers (2 ∷ 1 ∷ []))
  -- accounts, not links: as many accounts, so by least link
  pub accounts_C : answer more_links (ask_groups_at 3 (accounts (4 ∷ []))) ≡ passed (numbers (0 ∷ 1 ∷ []))
  pub accounts_D : answer more_links (ask_strongest (accounts (4 ∷ []))) ≡ passed (numbers (0 ∷ 1 ∷ []))
  pub accounts_E : answer more_links (ask_all (accounts (4 ∷ []))) ≡ passed (numbers (0 ∷ 1 ∷ []))
  -- all three at once
  pub fan_C : answer fan (ask_groups_at 3 (accounts (0 ∷ []))) ≡ passed (numbers (0 ∷ 2 ∷ 1 ∷ 3 ∷ []))
  pub fan_D : answer fan (ask_strongest (accounts (0 ∷ []))) ≡ passed (numbers (0 ∷ []))
  pub fan_E : answer fan (ask_all (accounts (0 ∷ []))) ≡ passed (numbers (0 ∷ 2 ∷ 1 ∷ 3 ∷ []))
  -- "the group numbers in the index do not move": by falling strength, then least link, and so are the lister's rows; F stays rising
  pub numbers_stay : groups two_sizes ≡ record { strength = 3; members = 0 ∷ 1 ∷ 2 ∷ [] } ∷ record { strength = 3; members = 3 ∷ 4 ∷ 5 ∷ 6 ∷ 7 ∷ [] } ∷ []
  pub rows_stay : rows two_sizes
      ≡ record { strength = 3; parent = no_group; links = 3; accounts = 3; lo = 0; hi = 1 }
      ∷ record { strength = 3; parent = no_group; links = 5; accounts = 4; lo = 2; hi = 3 }
      ∷ []
  pub links_stay : answer larger_by_nested (ask_links 3 4 6) ≡ passed (numbers (5 ∷ 6 ∷ 7 ∷ 8 ∷ 9 ∷ 10 ∷ 11 ∷ 12 ∷ []))
  -- "The count and the set of groups are those of before": the numbers, rising, which are sorted after
  pub set_stays : all_holding fan (0 ∷ []) ≡ 0 ∷ 1 ∷ 2 ∷ 3 ∷ []

-- That what specs/Figures.antt states holds.
use Rattle.std.specs.Prelude.{refl}
use Rattle.truss.specs.LinksFile.{read_links}
use Rattle.truss.specs.Question.{answer}
use Rattle.truss.specs.Bets.{check_day}
use Rattle.truss.specs.Cards.{corners, file, head_only, accounts, triangle}
use Rattle.truss.specs.Figures.{Figures}

pub figures : Figures
unfolding triangle corners file head_only accounts read_links answer check_day
figures = record {
  accounts_are = refl;
  links_are = refl;
  least_strength = refl;
  greatest_strength = refl;
  least_level = refl;
  greatest_level = refl;
  named_are = refl;
  no_group_lem = refl;
  index_bytes_lem = refl;
  chain_bytes = refl;
  tally_rests = refl;
  tally_bytes_lem = refl;
  windows_are = refl;
  desk_bytes = refl;
  records_are = refl;
  least_stake = refl;
  greatest_stake = refl;
  greatest_limit = refl;
  record_bytes = refl;
  margin_bytes_lem = refl;
  most_accounts = refl;
  most_links = refl;
  too_many_links = refl;
  C_level_1 = refl;
  C_level_2 = refl;
  C_level_64 = refl;
  C_level_65 = refl;
  F_level_1 = refl;
  F_level_2 = refl;
  F_level_64 = refl;
  F_level_65 = refl;
  G_level_1 = refl;
  G_level_2 = refl;
  G_level_64 = refl;
  G_level_65 = refl;
  bets_level_64 = refl;
  bets_level_65 = refl;
}

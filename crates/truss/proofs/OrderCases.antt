-- That what specs/OrderCases.antt states holds.
use Rattle.std.specs.Prelude.{refl}
use Rattle.truss.specs.Graph.{graph_of}
use Rattle.truss.specs.Group.{groups}
use Rattle.truss.specs.Question.{answer, all_holding}
use Rattle.truss.specs.Call.{answer_bytes}
use Rattle.truss.specs.Listing.{rows}
use Rattle.truss.specs.Cards.{pair, accounts, two_sizes, strong_and_large, larger_by_nested, more_links, fan}
use Rattle.truss.specs.OrderCases.{OrderCases}

pub order_cases : OrderCases
unfolding two_sizes strong_and_large larger_by_nested more_links fan pair accounts graph_of groups rows answer answer_bytes all_holding
order_cases = record {
  larger_C = refl;
  larger_D = refl;
  larger_E = refl;
  larger_written = refl;
  stronger_C = refl;
  stronger_E = refl;
  nested_C = refl;
  nested_D = refl;
  nested_E = refl;
  accounts_C = refl;
  accounts_D = refl;
  accounts_E = refl;
  fan_C = refl;
  fan_D = refl;
  fan_E = refl;
  numbers_stay = refl;
  rows_stay = refl;
  links_stay = refl;
  set_stays = refl;
}

-- That what specs/StrengthCases.antt states holds.
use Rattle.std.specs.Prelude.{refl}
use Rattle.truss.specs.Support.{support_at}
use Rattle.truss.specs.Question.{answer}
use Rattle.truss.specs.Call.{ask}
use Rattle.truss.specs.Cards.{pair, sevens, graph_b, index_a, index_b, bow_tie, five, nested, slow, weak_first, weak_last}
use Rattle.truss.specs.StrengthCases.{StrengthCases}

pub strength_cases : StrengthCases
unfolding graph_b index_a index_b bow_tie five nested slow weak_first weak_last sevens pair answer ask support_at
strength_cases = record {
  B_2_3 = refl;
  B_3_4 = refl;
  weak_first_2_6 = refl;
  weak_first_3_6 = refl;
  weak_last_0_1 = refl;
  weak_last_0_4 = refl;
  B_2_4 = refl;
  at_3 = refl;
  at_4 = refl;
  at_5 = refl;
  no_link_lem = refl;
  above_its_strength = refl;
  five_1_3 = refl;
  five_0_1 = refl;
  five_3_4 = refl;
  nested_0_1 = refl;
  nested_0_5 = refl;
  nested_1_6 = refl;
  more_than_least = refl;
  one_account_shared = refl;
  whole_B = refl;
  whole_weak = refl;
  joined_one = refl;
}

-- That what specs/LoneCases.antt states holds.
use Rattle.std.specs.Prelude.{refl}
use Rattle.truss.specs.Group.{groups}
use Rattle.truss.specs.LinksFile.{write_links}
use Rattle.truss.specs.Index.{index, index_bytes}
use Rattle.truss.specs.IndexFile.{read_index}
use Rattle.truss.specs.Question.{answer}
use Rattle.truss.specs.Call.{build, read, ask, ask_bytes}
use Rattle.truss.specs.Change.{change}
use Rattle.truss.specs.Listing.{rows, lister, builder}
use Rattle.truss.specs.Cards.{corners, head_only, accounts, sevens, pairs_a, graph_a, index_a, five, nested, three_lone, lone_first}
use Rattle.truss.specs.LoneCases.{LoneCases}

pub lone_cases : LoneCases
unfolding corners head_only accounts sevens pairs_a graph_a index_a five nested three_lone lone_first groups index index_bytes rows answer write_links read_index build read ask ask_bytes change lister builder
lone_cases = record {
  lone_A = refl;
  lone_apart = refl;
  lone_last = refl;
  lone_named = refl;
  lone_written = refl;
  lone_rows = refl;
  lone_lister = refl;
  lone_B_other = refl;
  lone_B_apart = refl;
  lone_B_itself = refl;
  lone_C = refl;
  lone_C_alone = refl;
  lone_C_at_3 = refl;
  lone_C_apart = refl;
  lone_C_none = refl;
  five_at_2 = refl;
  nested_at_2 = refl;
  lone_D = refl;
  lone_D_not = refl;
  lone_D_both = refl;
  lone_E = refl;
  lone_E_alone = refl;
  lone_E_last = refl;
  lone_F = refl;
  lone_F_at_3 = refl;
  F_at_2 = refl;
  lone_G = refl;
  lone_G_other = refl;
  lone_G_apart = refl;
  G_at_2 = refl;
  G_itself_at_2 = refl;
  kind_1_head = refl;
  kind_1_read = refl;
  kind_1_asked = refl;
  kind_1_put = refl;
  kind_1_withdrawn = refl;
  kind_1_listed = refl;
  lone_no_group = refl;
  lone_parent = refl;
  lone_in_other = refl;
  kind_7_built = refl;
  kind_7_builder = refl;
  read_A = refl;
  lone_short = refl;
  lone_exact = refl;
}

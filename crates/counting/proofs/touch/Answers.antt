-- `counting::touch` meets its contract. Assumes nothing.
use mathlib.Core.Path.{ap, ◌∙◌}
use lib.ListN.{length}
use Rattle.columns.specs.Laws.{length-store}
use Rattle.counting.specs.Touching.{touch_one, touch_small}
use Rattle.counting.proofs.touch.Goals as goal

pub put-requires-2 : goal.put-requires-2
put-requires-2 c = record { c_bound = c.requires.c_bound; i_lt_m = c.requires.x_lt_m; x_lt_entry_bound = touch_small c.args.w.now c.args.m c.args.c c.args.x c.args.r c.requires.x_lt_m c.requires.lt_c c.put.ensures c.get-y.ensures.0 c.requires.x_bound; w_len = ap length c.put.ensures ∙ length-store _ _ _ _ _ ∙ c.requires.w_len }

pub returns : goal.returns
returns c = touch_one c.requires.w_len c.requires.x_lt_m c.requires.lt_c c.requires.c_bound c.put.ensures c.get-y.ensures.0 c.put-2.ensures

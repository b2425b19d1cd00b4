-- `peeling::peel::peel_levels` meets its contract. The loop begins after the first list is made. Assumes nothing.
use Rattle.peeling.specs.Peel.{LevelsTurn, LevelsEnd}
use Rattle.std.specs.Prelude.{MatchOption}
use Rattle.std.specs.Option.{option_map_or}
use Prim.Native.Nat.{◌-◌, ◌<◌}
use Rattle.columns.specs.Columns.{no_support}
use Rattle.peeling.proofs.peel.peel_levels.Given as goal

abbrev pub invariant-loop-left : goal.invariant-loop-left
invariant-loop-left l = MatchOption l.left (LevelsEnd l.m l.n l.initial.w l.w l.start l.initial.stop l.stop l.initial.mark l.mark) (λ r. (r.least < no_support) × LevelsTurn l.m l.n r.least r.place l.initial.w l.w l.start l.initial.stop l.stop l.initial.mark l.mark)

abbrev pub decreases-loop-left : goal.decreases-loop-left
decreases-loop-left l = option_map_or (λ r. no_support - r.least) l.left 0

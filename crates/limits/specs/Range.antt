-- Which numbers are strengths: those from min_strength to max_strength.
use Rattle.std.specs.Prelude.{Option, None, Some, cond, ◌&&◌, ℕ, leb}
use Rattle.truss.specs.Limits.{min_strength, max_strength}
use Rattle.limits.specs.declared.Strength.{Strength}

unfoldable pub strength_of : ℕ → Option Strength
strength_of x = cond (leb min_strength x && leb x max_strength) (Some (record { 0 = x })) None

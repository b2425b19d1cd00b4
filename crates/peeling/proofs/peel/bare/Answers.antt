-- `peeling::peel::bare` meets its contract. Assumes nothing.
use Rattle.peeling.specs.Bare.{bare_next}
use Rattle.peeling.proofs.peel.bare.Goals as goal

pub loop-e-preserved : goal.loop-e-preserved
loop-e-preserved c = bare_next c.loop-e.invariant c.requires.w_len c.loop-e-test.true (rw (← c.get-x.ensures.0) c.first_strength.ensures) c.put.ensures

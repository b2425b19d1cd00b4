-- `chain::search::is_settled` meets its contract. Assumes nothing.
use native.Mathlib.Omega.{arith}
use Rattle.chain.specs.Search.{settled_by}
use Rattle.chain.proofs.search.is_settled.Goals as goal

pub returns-then-x-ne0 : goal.returns-then-x-ne0
returns-then-x-ne0 c = settled_by _ (omega (arith, c.get-x.ensures.0)) c.if-x-ne0.true

-- `peeling::rest::keep` meets its contract. Assumes nothing.
use Rattle.peeling.specs.Rest.{left}
use native.Mathlib.Omega.{arith}
use Rattle.peeling.proofs.rest.keep.Goals as goal

pub returns : goal.returns
returns c = (left c.if-x-eq0.false (omega arith), c.put.ensures)

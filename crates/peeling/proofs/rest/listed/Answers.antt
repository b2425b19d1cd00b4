-- `peeling::rest::listed` meets its contract. Assumes nothing.
use Rattle.peeling.specs.Rest.{listed-all, listed-cell}
use mathlib.Core.Path.{sym, ◌∙◌}
use Rattle.peeling.proofs.rest.listed.Goals as goal

pub returns-in-Some : goal.returns-in-Some
returns-in-Some c = c.get.ensures.0 ∙ sym (listed-cell _ _ _ _ c.in-Some.is)

pub returns-in-None : goal.returns-in-None
returns-in-None c = sym (listed-all _ _ _ _ c.in-None.is)

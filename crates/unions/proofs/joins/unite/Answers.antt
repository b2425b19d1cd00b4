-- `unions::joins::unite` meets its contract. Assumes nothing.
use mathlib.Core.Path.{refl, ◌∙◌}
use Rattle.unions.proofs.joins.unite.Goals as goal

pub returns : goal.returns
returns c = c.put-3.ensures ∙ (rw (c.put-2.ensures, c.put.ensures, c.min-x.ensures, c.max-y.ensures) refl)

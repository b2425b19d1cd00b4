-- `margins::margin_of` meets its contract. Assumes nothing.
use mathlib.Core.Path.{refl, ◌∙◌}
use Rattle.margins.specs.Margins.{margin_told}
use Rattle.margins.proofs.margin_of.Goals as goal

pub returns : goal.returns
returns c = let t = margin_told c.margin.ensures c.requires.limited c.get-sum.ensures.1 in (t.0 ∙ rw (c.get-sum.ensures.0, c.get-g.ensures.0) refl, t.1)

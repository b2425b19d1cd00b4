-- `margins::take_group` meets its contract. Assumes nothing.
use mathlib.Core.Path.{refl, sym, ◌∙◌}
use Rattle.margins.specs.Margins.{skipped, taken}
use Rattle.margins.proofs.take_group.Goals as goal

pub returns-then-get-g : goal.returns-then-get-g
returns-then-get-g c = skipped (λ e. c.if-get-g.true (c.get.ensures.0 ∙ e)) refl refl

pub returns : goal.returns
returns c = taken (sym c.get.ensures.0 ∙ c.if-get-g.false) refl c.put.ensures

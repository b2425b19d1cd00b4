-- `holding::marks::meet` meets its contract. Assumes nothing.
use mathlib.Core.Path.{refl, sym, ◌∙◌}
use Rattle.holding.proofs.marks.meet.Goals as goal

pub returns-then-get-ne0 : goal.returns-then-get-ne0
returns-then-get-ne0 c = record { gone = λ z. absurd (c.if-get-ne0.true (c.get.ensures.0 ∙ z)); kept = λ _. refl }

pub returns : goal.returns
returns c = record { gone = λ _. c.put.ensures; kept = λ n. absurd (n (sym c.get.ensures.0 ∙ c.if-get-ne0.false)) }

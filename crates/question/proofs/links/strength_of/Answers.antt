-- `question::links::strength_of` meets its contract. Assumes nothing.
use Rattle.truss.specs.Question.{answer, ask_strength}
use Rattle.stored.specs.Rows.{proper}
use Rattle.stored.specs.Opening.{graph}
use Rattle.question.specs.Checks.{stops, goes_on, link_there, link_is, link_below}
use Rattle.question.specs.Replies.{handed_on}
use Rattle.question.specs.Links.{A_found}
use mathlib.Core.Path.{◌∙◌}
use Rattle.question.proofs.links.strength_of.Goals as goal

pub returns-in_err-known : goal.returns-in_err-known
unfolding answer
returns-in_err-known c = λ out. handed_on (graph c.args.index) (ask_strength c.args.a c.args.b) out c.from_residual.result _ c.from_residual.ensures.1 (stops _ c.in_err-known.ensures)

pub returns-in_err-e : goal.returns-in_err-e
unfolding answer
returns-in_err-e c = λ out. handed_on (graph c.args.index) (ask_strength c.args.a c.args.b) out c.from_residual-in_err-e.result _ c.from_residual-in_err-e.ensures.1 (goes_on _ c.in_ok-known.ensures ∙ stops _ c.in_err-e.ensures)

pub strength_and_support-requires : goal.strength_and_support-requires
strength_and_support-requires c = link_below (graph c.args.index) c.args.a c.args.b c.in_ok-e.ensures

pub returns : goal.returns
returns c = A_found c.args.a c.args.b (proper c.args.index.shape.groups_at_lem.is_index) (link_there (graph c.args.index) c.args.a c.args.b c.in_ok-e.ensures) (link_is (graph c.args.index) c.args.a c.args.b c.in_ok-e.ensures) c.strength_and_support.ensures

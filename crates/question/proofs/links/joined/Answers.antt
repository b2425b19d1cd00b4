-- `question::links::joined` meets its contract. Assumes nothing.
use native.Mathlib.Omega.{arith}
use mathlib.Core.Path.{◌∙◌, ap, sym}
use Rattle.truss.specs.Graph.{link}
use Rattle.truss.specs.Refusal.{passed}
use Rattle.truss.specs.Question.{number, answer, ask_joined}
use Rattle.stored.specs.Opening.{graph}
use Rattle.question.specs.Checks.{stops, goes_on, first_stops, first_passes, link_there, link_is, link_below}
use Rattle.question.specs.Replies.{handed_on, answer_number}
use Rattle.question.proofs.links.joined.Goals as goal

pub returns-in_err-known : goal.returns-in_err-known
unfolding answer
returns-in_err-known c = λ out. handed_on (graph c.args.index) (ask_joined c.args.a c.args.b c.args.c c.args.d) out c.from_residual.result _ c.from_residual.ensures.1 (stops _ c.in_err-known.ensures)

pub returns-in_err-e : goal.returns-in_err-e
unfolding answer
returns-in_err-e c = λ out. handed_on (graph c.args.index) (ask_joined c.args.a c.args.b c.args.c c.args.d) out c.from_residual-in_err-e.result _ c.from_residual-in_err-e.ensures.1
    (goes_on _ c.in_ok-known.ensures ∙ first_stops _ _ c.in_err-e.ensures)

pub returns-in_err-f : goal.returns-in_err-f
unfolding answer
returns-in_err-f c = λ out. handed_on (graph c.args.index) (ask_joined c.args.a c.args.b c.args.c c.args.d) out c.from_residual-in_err-f.result _ c.from_residual-in_err-f.ensures.1
    (goes_on _ c.in_ok-known.ensures ∙ first_passes _ _ c.in_ok-e.ensures ∙ stops _ c.in_err-f.ensures)

pub joined_up_to-requires : goal.joined_up_to-requires
joined_up_to-requires c = record { e_bound = link_below (graph c.args.index) c.args.a c.args.b c.in_ok-e.ensures; f_bound = link_below (graph c.args.index) c.args.c c.args.d c.in_ok-f.ensures }

pub overflow_cast-joined_up_to : goal.overflow_cast-joined_up_to
overflow_cast-joined_up_to c = omega (arith, c.joined_up_to.ensures.small)

pub returns : goal.returns
unfolding answer
returns c = λ out. answer_number (graph c.args.index) (ask_joined c.args.a c.args.b c.args.c c.args.d) out
    (goes_on _ c.in_ok-known.ensures ∙ first_passes _ _ c.in_ok-e.ensures ∙ goes_on _ c.in_ok-f.ensures
    ∙ ap (λ x. passed (number x)) (sym (c.joined_up_to.ensures.is (link c.args.a c.args.b) (link c.args.c c.args.d) (link_there (graph c.args.index) c.args.a c.args.b c.in_ok-e.ensures) (link_is (graph c.args.index) c.args.a c.args.b c.in_ok-e.ensures) (link_is (graph c.args.index) c.args.c c.args.d c.in_ok-f.ensures))))
    c.from.ensures

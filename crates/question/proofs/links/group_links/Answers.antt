-- `question::links::group_links` meets its contract. Assumes nothing.
use native.Mathlib.Omega.{arith}
use mathlib.Core.Path.{◌∙◌, ap, sym}
use Rattle.truss.specs.Group.{group_at}
use Rattle.truss.specs.Refusal.{passed}
use Rattle.truss.specs.Question.{numbers, answer, ask_links, group_links}
use Rattle.stored.specs.Opening.{graph}
use Rattle.question.specs.Checks.{stops, goes_on, level_least, link_is, link_below}
use Rattle.question.specs.Replies.{handed_on, answer_shown}
use Rattle.question.specs.Links.{shape_few, members_are}
use Rattle.question.proofs.links.group_links.Goals as goal

pub returns-in_err-known : goal.returns-in_err-known
unfolding answer
returns-in_err-known c = handed_on (graph c.args.index) (ask_links c.args.k c.args.a c.args.b) c.args.out.now c.from_residual.result _ c.from_residual.ensures.1 (stops _ c.in_err-known.ensures)

pub returns-in_err-level : goal.returns-in_err-level
unfolding answer
returns-in_err-level c = handed_on (graph c.args.index) (ask_links c.args.k c.args.a c.args.b) c.args.out.now c.from_residual-in_err-level.result _ c.from_residual-in_err-level.ensures.1
    (goes_on _ c.in_ok-known.ensures ∙ stops _ c.in_err-level.ensures)

pub returns-in_err-e : goal.returns-in_err-e
unfolding answer
returns-in_err-e c = handed_on (graph c.args.index) (ask_links c.args.k c.args.a c.args.b) c.args.out.now c.from_residual-in_err-e.result _ c.from_residual-in_err-e.ensures.1
    (goes_on _ c.in_ok-known.ensures ∙ goes_on _ c.in_ok-level.ensures ∙ stops _ c.in_err-e.ensures)

pub mark_members-requires : goal.mark_members-requires
mark_members-requires c = record { w_len = c.requires; level = level_least c.args.k c.in_ok-level.ensures; e_bound = link_below (graph c.args.index) c.args.a c.args.b c.in_ok-e.ensures }

pub give-requires : goal.give-requires
give-requires c = record { size_is = c.mark_members.ensures.size_is; part = omega arith; few = (shape_few c.args.index.shape).1 }

pub returns : goal.returns
unfolding answer group_links
returns c = answer_shown (graph c.args.index) (ask_links c.args.k c.args.a c.args.b) c.args.out.now _
    (goes_on _ c.in_ok-known.ensures ∙ goes_on _ c.in_ok-level.ensures ∙ goes_on _ c.in_ok-e.ensures
    ∙ ap (λ xs. passed (numbers xs)) (sym (members_are c.args.index.shape.links c.mark_members.ensures ∙ ap (group_at (graph c.args.index) c.args.k) (link_is (graph c.args.index) c.args.a c.args.b c.in_ok-e.ensures))))
    c.give.ensures

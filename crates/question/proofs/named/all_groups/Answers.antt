-- `question::named::all_groups` meets its contract. Assumes nothing.
use mathlib.Core.Path.{◌∙◌, ap, refl, sym}
use Rattle.truss.specs.Refusal.{passed}
use Rattle.truss.specs.Question.{answer, numbers, listed, ask_all}
use Rattle.stored.specs.Opening.{graph}
use Rattle.question.specs.Replies.{handed_on, answer_shown}
use Rattle.question.specs.Named.{E_marked, names_pass, names_stop}
use Rattle.question.proofs.named.all_groups.Goals as goal

pub returns-in_err-hold_named : goal.returns-in_err-hold_named
unfolding answer
returns-in_err-hold_named c = handed_on (graph c.args.index) (ask_all c.args.named.now) c.args.out.now c.from_residual.result _ c.from_residual.ensures.1 (names_stop (graph c.args.index) c.args.named.now _ _ c.in_err-hold_named.ensures.checks)

pub give_groups-requires : goal.give_groups-requires
give_groups-requires c = c.in_ok-hold_named.ensures.size_is

pub returns : goal.returns
unfolding answer
returns c =
    answer_shown (graph c.args.index) (ask_all c.args.named.now) c.args.out.now _
    (names_pass (graph c.args.index) c.args.named.now _ c.in_ok-hold_named.ensures.checks
    ∙ ap (λ xs. passed (numbers (listed (graph c.args.index) xs))) (sym (E_marked c.args.index.shape.groups (c.in_ok-hold_named.ensures.held refl))))
    c.give_groups.ensures

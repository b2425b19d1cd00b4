-- `question::named::groups_at` meets its contract. Assumes nothing.
use mathlib.Core.Path.{◌∙◌, ap, sym}
use Rattle.truss.specs.Refusal.{passed}
use Rattle.truss.specs.Question.{answer, numbers, listed, ask_groups_at}
use Rattle.stored.specs.Opening.{graph}
use Rattle.question.specs.Checks.{stops, goes_on, level_least}
use Rattle.question.specs.Replies.{handed_on, answer_shown}
use Rattle.question.specs.Named.{C_marked, good_names, names_pass, names_stop}
use Rattle.question.proofs.named.groups_at.Goals as goal

pub returns-in_err-names : goal.returns-in_err-names
unfolding answer
returns-in_err-names c = handed_on (graph c.args.index) (ask_groups_at c.args.k c.args.named.now) c.args.out.now c.from_residual.result _ c.from_residual.ensures.1 (names_stop (graph c.args.index) c.args.named.now _ _ c.in_err-names.ensures)

pub returns-in_err-level : goal.returns-in_err-level
unfolding answer
returns-in_err-level c = handed_on (graph c.args.index) (ask_groups_at c.args.k c.args.named.now) c.args.out.now c.from_residual-in_err-level.result _ c.from_residual-in_err-level.ensures.1
    (names_pass (graph c.args.index) c.args.named.now _ c.in_ok-names.ensures ∙ stops _ c.in_err-level.ensures)

pub hold-requires : goal.hold-requires
hold-requires c = let S = c.args.index.shape in let N = good_names (graph c.args.index) c.args.named.now S.accounts c.in_ok-names.ensures in record { names = N.0; some = N.1; blank = c.requires }

pub keep_level-requires : goal.keep_level-requires
keep_level-requires c = let H = c.hold.ensures in record { w_len = H.size_is; min_level_le_k = level_least c.args.k c.in_ok-level.ensures }

pub give_groups-requires : goal.give_groups-requires
give_groups-requires c = c.keep_level.ensures.size_is

pub returns : goal.returns
unfolding answer
returns c = let H = c.hold.ensures in
    answer_shown (graph c.args.index) (ask_groups_at c.args.k c.args.named.now) c.args.out.now _
    (names_pass (graph c.args.index) c.args.named.now _ c.in_ok-names.ensures ∙ goes_on _ c.in_ok-level.ensures
    ∙ ap (λ xs. passed (numbers (listed (graph c.args.index) xs))) (sym (C_marked c.args.index.bytes.now c.args.k c.args.named.now _ c.args.index.m c.args.index.shape.groups (c.keep_level.ensures.marks c.args.named.now H))))
    c.give_groups.ensures

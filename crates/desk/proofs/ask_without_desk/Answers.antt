-- `desk::ask_without_desk` meets its contract. Assumes nothing.
use Rattle.question.specs.Asked.{question_of}
use Rattle.desk.specs.DeskBytes.{short_refused, short_12}
use Rattle.desk.proofs.ask_without_desk.Goals as goal

pub returns-in_err-answer_from : goal.returns-in_err-answer_from
returns-in_err-answer_from c = short_refused c.args.index.now (question_of c.args.q c.args.named.now) c.args.window c.from_residual.result _ c.from_residual.ensures.1 c.in_err-answer_from.ensures

pub returns : goal.returns
returns c = short_12 c.args.index.now (question_of c.args.q c.args.named.now) c.args.window _ c.in_ok-answer_from.ensures
